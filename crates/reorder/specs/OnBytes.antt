-- A run on bytes is the run on its rows: each reply is what was noted, and the book that is left holds the rows that
-- are left. A result of a wrong length is one that names no trade: nothing is read and nothing is written. Assumes
-- nothing.
use Rattle.std.specs.Prelude.{◌≡◌, Bool, cond, ◌&&◌, ◌⊎◌, leb}
use Rattle.std.proofs.Math.Path.{refl, sym, ap, subst}
use Rattle.std.proofs.Common.{◌∙◌, inl, inr}
use Rattle.std.proofs.Math.Bool.{true, false}
use mathlib.Core.List.Memᴰ
use mathlib.Core.List.{List, [], ◌∷◌}
use Prim.Native.Nat.{ℕ, suc, ◌+◌, ◌*◌, ◌/◌, ◌%◌, ◌≤◌}
use native.Mathlib.Omega.{arith}
use Rattle.std.proofs.Math.Dec.{eqb}
use Rattle.std.proofs.Math.ListN.{length, get_or}
use Rattle.std.proofs.lemmas.List.{length-map}
use borrow.Author.Tests.{eqb-true, leb-true}
use Rattle.laws.specs.Chunk.{length_chunk}
use Rattle.laws.specs.Place.{seek_suc}
use Rattle.laws.specs.Search.{count, place, seek, the, total}
use Rattle.laws.specs.Tests.{and_left, and_right}
use Rattle.record.specs.Codes.{kind_trade}
use Rattle.record.specs.Grid.{decode}
use Rattle.keys.specs.declared.Key.{Key}
use Rattle.record.specs.declared.row.Row.{Row}
use Rattle.rules.specs.Meaning.{means_trade}
use Rattle.rules.proofs.Fits.{means_fits}
use Rattle.rules.specs.Ranges.{limited}
use Rattle.rules.specs.Rules.{as_kind, obeys, result_input, result_input_shape}
use Rattle.model.specs.declared.Status.TheVariants.{BadInput, BadLength, NoRoom, OverLimit}
use Rattle.model.specs.Status.{is_done}
use Rattle.model.specs.Call.{Reply, a_result, either, refusal_area, replied, result_call, run, shell}
use Rattle.model.specs.Names.{a_trade}
use Rattle.model.specs.Plan.{Outcome}
use Rattle.model.specs.Rows.{bytes, found, is, most_records, nothing, record_size, rows, there, whole_records}
use Rattle.model.specs.Sound.{sound}
use Rattle.model.specs.SoundMeans.{means_sound}
use Rattle.facts.specs.Found.{found_has, found_kind, found_member, found_none, sound_s1}
use Rattle.facts.specs.Names.{by_id_holds}
use Rattle.preserved.specs.Bytes.{length_bytes, rows_bytes}
use Rattle.preserved.specs.Cases.{by_cases, cond_no, cond_yes}
use Rattle.preserved.specs.Calls.{SoundBytes}
use Rattle.preserved.proofs.Calls.{uncalled}
use Rattle.reorder.specs.Local.{Fine}
use Rattle.reorder.specs.Run.{note_to, on}
use Rattle.reorder.specs.Sim.{Fines, final, trace}
use Rattle.reorder.specs.Statement.{Unhindered, call, ending, replies, right_lengths}
use Rattle.reorder.specs.Step.{Done, Note, Refused, done_sound, done_status, outcome, step, step_cases}
use Rattle.reorder.specs.Step.{step_length}

-- ---- lengths
rows_length : (b : List ℕ) → length (rows b) ≡ length b / 64
unfolding rows
rows_length b = simp length-map (length_chunk 64 (length b / 64) b)

-- what a whole number of records is
module _ (b : List ℕ) (whole : whole_records most_records (length b) ≡ true) where
  even : length b % 64 ≡ 0
  unfolding whole_records
  even =
      let n = length b in
      let two = and_left (leb 64 n && eqb (n % 64) 0) (leb n (most_records * 64)) whole in
      eqb-true (n % 64) 0 (and_right (leb 64 n) (eqb (n % 64) 0) two)

  pub few_rows : length (rows b) ≤ most_records
  unfolding whole_records
  few_rows =
      let n = length b in
      let most =
      leb-true n (most_records * 64) (and_right (leb 64 n && eqb (n % 64) 0) (leb n (most_records * 64)) whole)
      in
      let e = rows_length b in
      omega arith

  same_length : (rs : List Row) → length rs ≡ length (rows b) → length (bytes rs) ≡ length b
  same_length rs q =
      let a = length_bytes rs in
      let e = rows_length b in
      let v = even in
      omega arith

-- the bytes that a note stands for
abbrev pub said : Note → List ℕ
said n = either (is_done n.status) (bytes n.answer) (refusal_area record_size n.status)

module _ (b input area : List ℕ) (s : SoundBytes b) (l : length input ≡ record_size)
    (k : length area ≡ record_size) where
  abbrev i : Row
  i = decode input

  abbrev o : Outcome
  o = outcome (rows b) i

  call_is : result_call b input area ≡ replied o b area
  unfolding run shell
  call_is = rw (l, k, s.whole, s.right)

  reply_status : (result_call b input area).status ≡ (step (rows b) i).0.status
  unfolding replied step
  reply_status = ap (λ (r : Reply). r.status) call_is

  reply_answer : (result_call b input area).answer ≡ said (step (rows b) i).0
  unfolding replied step
  reply_answer =
      ap (λ (r : Reply). r.answer) call_is
      ∙ ap (λ (n : ℕ). either (is_done o.status) (bytes o.answer) (refusal_area n o.status)) k

  book_is : (t : Bool) → is_done o.status ≡ t → (result_call b input area).book ≡ either t (bytes o.rows) b
  unfolding replied
  book_is t e = ap (λ (r : Reply). r.book) call_is ∙ ap (λ (d : Bool). either d (bytes o.rows) b) e

  reply_book : SoundBytes (result_call b input area).book
      × (rows (result_call b input area).book ≡ (step (rows b) i).1)
  unfolding step
  reply_book = go (step_cases (rows b) i)
    where
      go : Refused (rows b) i ⊎ Done (rows b) i
          → SoundBytes (result_call b input area).book × (rows (result_call b input area).book ≡ o.rows)
      go (inl r) =
          let e = book_is false r.not_done in
          (subst SoundBytes (sym e) s, ap rows e ∙ sym r.as_found)
      go (inr d) =
          let e = book_is true (done_status (rows b) i d) in
          let good = done_sound (rows b) i d (few_rows b s.whole) s.right in
          let same = rows_bytes o.rows (sound_s1 o.rows good) in
          let long = same_length b s.whole o.rows (step_length (rows b) i) in (
            subst SoundBytes (sym e)
                (record {
                  whole = ap (whole_records most_records) long ∙ s.whole;
                  right = ap sound same ∙ good;
                }),
            ap rows e ∙ same,
          )

-- ---- a result of wrong lengths
-- the row of no input
no_input : result_input nothing ≡ false
unfolding obeys result_input_shape limited
no_input = refl

no_step : (rs : List Row) → ((step rs nothing).0.status ≡ BadInput) × ((step rs nothing).1 ≡ rs)
unfolding step
no_step rs = rw no_input (refl, refl)

-- and of no trade
pub no_trade : (rs : List Row) → sound rs ≡ true → (found (a_trade 0) rs).party ≡ 0
no_trade rs good =
    by_cases (there k rs)
    (λ e.
    let r = found k rs in
    let fit = (means_fits r).holds (((means_sound rs).shows good).s1 r (found_member rs k e)) in
    let many = ((means_trade r).shows (as_kind kind_trade r (found_kind rs k e) ∙ fit)).0.0.0.2.2.2.2.2.0 in
    let none = eqb-true r.id 0 (and_right (is kind_trade r) _ (sym (by_id_holds kind_trade refl 0 r) ∙ found_has k rs e)) in
    absurd (omega arith))
    (λ e. ap (λ (r : Row). r.party) (found_none k rs e))
  where
    k : Key
    k = a_trade 0

-- ---- a run
module _ (list : List (List ℕ)) (area : ℕ → List ℕ) (right : ℕ → Bool)
    (lengths : (i : ℕ) → right_lengths list area i ≡ right i) where
  -- the input at a place, and none where the lengths are wrong
  abbrev pub input : ℕ → Row
  input i = cond (right i) (decode (get_or list i [])) nothing

  module _ (b : List ℕ) (i : ℕ) where
    abbrev reply : Reply
    reply = call list area b i

    module _ (e : right i ≡ true) where
      asked : input i ≡ decode (get_or list i [])
      asked = cond_yes _ _ e

      both : right_lengths list area i ≡ true
      both = lengths i ∙ e

      input_long : length (get_or list i []) ≡ record_size
      input_long = eqb-true _ _ (and_left (eqb (length (get_or list i [])) record_size) _ both)

      area_long : length (area i) ≡ record_size
      area_long = eqb-true _ _ (and_right (eqb (length (get_or list i [])) record_size) _ both)

      next_status : SoundBytes b → reply.status ≡ (on input (rows b) i).0.status
      next_status s =
          reply_status b (get_or list i []) (area i) s input_long area_long
          ∙ ap (λ (r : Row). (step (rows b) r).0.status) (sym asked)

      next_answer : SoundBytes b → reply.answer ≡ said (on input (rows b) i).0
      next_answer s =
          reply_answer b (get_or list i []) (area i) s input_long area_long
          ∙ ap (λ (r : Row). said (step (rows b) r).0) (sym asked)

      next_right : SoundBytes b → SoundBytes reply.book × (rows reply.book ≡ (on input (rows b) i).1)
      next_right s =
          let left = reply_book b (get_or list i []) (area i) s input_long area_long in
          (left.0, left.1 ∙ ap (λ (r : Row). (step (rows b) r).1) (sym asked))

    module _ (e : right i ≡ false) where
      none : input i ≡ nothing
      none = cond_no _ _ e

      unread : reply ≡ record { status = BadLength; answer = area i; book = b }
      unread = uncalled a_result b (get_or list i []) (area i) (lengths i ∙ e)

      next_wrong : SoundBytes b → SoundBytes reply.book × (rows reply.book ≡ (on input (rows b) i).1)
      next_wrong s =
          let same = ap (λ (r : Reply). r.book) unread in (
            subst SoundBytes (sym same) s,
            ap rows same ∙ sym (no_step (rows b)).1 ∙ ap (λ (r : Row). (step (rows b) r).1) (sym none),
          )

    next : SoundBytes b → SoundBytes reply.book × (rows reply.book ≡ (on input (rows b) i).1)
    next s = by_cases (right i) (λ e. next_right e s) (λ e. next_wrong e s)

    fine : SoundBytes b → (reply.status ≡ OverLimit → ⊥) → (reply.status ≡ NoRoom → ⊥)
        → Fine (on input (rows b) i).0
    fine s limit room =
        by_cases (right i)
        (λ e. record {
          no_limit = λ q. limit (next_status e s ∙ q);
          no_room = λ q. room (next_status e s ∙ q);
        })
        (λ e.
        let bad : (on input (rows b) i).0.status ≡ BadInput =
        ap (λ (r : Row). (step (rows b) r).0.status) (none e) ∙ (no_step (rows b)).0
        in
        record {
          no_limit = λ q. let z : ◌≡◌ {A = ℕ} 0 1 = cc in omega arith;
          no_room = λ q. let z : ◌≡◌ {A = ℕ} 0 1 = cc in omega arith;
        })

  pub ending_rows : (b : List ℕ) (o : List ℕ) → SoundBytes b
      → rows (ending list area b o) ≡ final (on input) (rows b) o
  unfolding ending final
  ending_rows b [] s = refl
  ending_rows b (i ∷ o) s =
      ending_rows (call list area b i).book o (next b i s).0
      ∙ ap (λ (rs : List Row). final (on input) rs o) (next b i s).1

  pub fines : (b : List ℕ) (o : List ℕ) → SoundBytes b → Unhindered (replies list area b o)
      → Fines (on input) Fine (rows b) o
  unfolding replies Fines
  fines b [] s u = tt
  fines b (i ∷ o) s u =
      let rest =
      fines (call list area b i).book o (next b i s).0
      (record {
        no_limit = λ r m. u.no_limit r (Memᴰ.tail m);
        no_room = λ r m. u.no_room r (Memᴰ.tail m);
      })
      in (
        fine b i s (u.no_limit (call list area b i) (Memᴰ.head refl))
            (u.no_room (call list area b i) (Memᴰ.head refl)),
        subst (λ (rs : List Row). Fines (on input) Fine rs o) (next b i s).1 rest,
      )

  -- the reply to a place is what was noted of it, and -100 where the lengths are wrong
  pub record At (b order : List ℕ) (j : ℕ) (r : Reply) : Type 0 where
    pub status : right j ≡ true → r.status ≡ (note_to input (rows b) order j).status
    pub answer : right j ≡ true → r.answer ≡ said (note_to input (rows b) order j)
    pub refused : right j ≡ false → r.status ≡ BadLength
    pub unwritten : right j ≡ false → r.answer ≡ area j

  abbrev turn_of : Reply → ℕ → List ℕ → List ℕ → Reply
  turn_of d j b order = get_or (replies list area b order) (place (eqb j) order) d

  module _ (d : Reply) (j : ℕ) (b : List ℕ) (x : ℕ) (order : List ℕ) (s : SoundBytes b) where
    here : eqb j x ≡ true → At b (x ∷ order) j (turn_of d j b (x ∷ order))
    unfolding replies trace seek the
    here e =
        let turn : place (eqb j) (x ∷ order) ≡ 0 = cond_yes _ _ e in
        let noted : note_to input (rows b) (x ∷ order) j ≡ (on input (rows b) x).0 =
        ap (λ (n : ℕ × Note). n.1) (cond_yes _ _ e)
        in
        let first : turn_of d j b (x ∷ order) ≡ call list area b x =
        ap (λ (n : ℕ). get_or (replies list area b (x ∷ order)) n d) turn
        in
        let same = eqb-true j x e in
        let at : (t : Bool) → right j ≡ t → right x ≡ t = λ t q. ap right (sym same) ∙ q in
        record {
          status = λ q.
              ap (λ (r : Reply). r.status) first ∙ next_status b x (at true q) s
              ∙ sym (ap (λ (n : Note). n.status) noted);
          answer = λ q.
              ap (λ (r : Reply). r.answer) first ∙ next_answer b x (at true q) s ∙ sym (ap said noted);
          refused = λ q. ap (λ (r : Reply). r.status) (first ∙ unread b x (at false q));
          unwritten = λ q. ap (λ (r : Reply). r.answer) (first ∙ unread b x (at false q)) ∙ ap area (sym same);
        }

    later : eqb j x ≡ false → At (call list area b x).book order j (turn_of d j (call list area b x).book order)
        → At b (x ∷ order) j (turn_of d j b (x ∷ order))
    unfolding replies trace seek the
    later e ih =
        let turn : place (eqb j) (x ∷ order) ≡ suc (place (eqb j) order) =
        cond_no _ _ e ∙ seek_suc (eqb j) 0 order
        in
        let noted : note_to input (rows b) (x ∷ order) j ≡ note_to input (rows (call list area b x).book) order j =
        ap (λ (n : ℕ × Note). n.1) (cond_no _ _ e)
        ∙ ap (λ (rs : List Row). note_to input rs order j) (sym (next b x s).1)
        in
        let then : turn_of d j b (x ∷ order) ≡ turn_of d j (call list area b x).book order =
        ap (λ (n : ℕ). get_or (replies list area b (x ∷ order)) n d) turn
        in
        record {
          status = λ q.
              ap (λ (r : Reply). r.status) then ∙ ih.status q ∙ sym (ap (λ (n : Note). n.status) noted);
          answer = λ q. ap (λ (r : Reply). r.answer) then ∙ ih.answer q ∙ sym (ap said noted);
          refused = λ q. ap (λ (r : Reply). r.status) then ∙ ih.refused q;
          unwritten = λ q. ap (λ (r : Reply). r.answer) then ∙ ih.unwritten q;
        }

  pub reply_noted : (d : Reply) (j : ℕ) (b : List ℕ) (order : List ℕ) → SoundBytes b → 1 ≤ count (eqb j) order
      → At b order j (turn_of d j b order)
  unfolding count total
  reply_noted d j b [] s h = absurd (omega arith)
  reply_noted d j b (x ∷ order) s h =
      by_cases (eqb j x)
      (λ e. here d j b x order s e)
      (λ e.
      let k : 1 ≤ 0 + count (eqb j) order = rw e at h in
      later d j b x order s e (reply_noted d j (call list area b x).book order (next b x s).0 (omega arith)))
