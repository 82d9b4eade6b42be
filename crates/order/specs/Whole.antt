-- The whole order, as the code comes to it: what it reads, works out and adds is what the rules have. Assumes nothing.
use Rattle.std.specs.Prelude.{◌≡◌, Bool, true, false, cond, not, ℕ, suc, ◌≤◌, eqb, leb, length}
use Rattle.std.proofs.Math.Path.{refl, sym, ap, ap₂}
use Rattle.std.proofs.Common.{◌∙◌}
use Rattle.std.proofs.lemmas.Bool.{false≢true}
use mathlib.Core.List.{List, [], ◌∷◌}
use native.Mathlib.Omega.{arith}
use borrow.Author.Tests.{leb-true}
use Rattle.laws.specs.Change.{fill, puts, written}
use Rattle.laws.specs.Search.{run}
use Rattle.record.specs.Bytes.{Bytes}
use Rattle.record.specs.Codes.{kind_charge, kind_free}
use Rattle.record.specs.declared.row.Row.{Row}
use Rattle.kinds.specs.Inputs.{order_input_of}
use Rattle.kinds.specs.Kinds.{account_of, security_of}
use Rattle.kinds.specs.Typed.{low_nat}
use Rattle.kinds.specs.Written.{request_row, trade_history_row, trade_row}
use Rattle.kinds.specs.declared.inputs.OrderInput.{OrderInput}
use Rattle.rules.specs.Meaning.{means_charge, means_order_input}
use Rattle.rules.specs.Ranges.{charged}
use Rattle.rules.specs.Rules.{as_kind, order_input}
use Rattle.keys.specs.declared.Key.{Key}
use Rattle.model.specs.Names.{a_charge, a_customer, a_security, an_account}
use Rattle.model.specs.Status.{is_done}
use Rattle.model.specs.Order.{checks, order, posting, view}
use Rattle.model.specs.Plan.{Check, Outcome, accepted, also, decided, posted, refused, room, verdict}
use Rattle.model.specs.Flags.{roll_back}
use Rattle.model.specs.Rows.{found, has_key, is, most_records, nothing, record_size, rows, same_row, there, whole_records}
use Rattle.model.specs.Sound.{s1, sound}
use Rattle.model.specs.declared.Status.{Status}
use Rattle.model.specs.declared.Status.TheVariants.{NoRoom}
use Rattle.facts.specs.Checks.{decided_done, decided_refused}
use Rattle.facts.specs.Found.{found_kind, found_none, sound_s1, the_most}
use Rattle.facts.specs.Keys.{key_kind}
use Rattle.facts.specs.Status.{is_done_holds}
use Rattle.places.specs.Rows.{put_at}
use Rattle.upkeep.specs.Added.{Room, room_start}
use Rattle.directory.specs.Directory.{Directory}
use Rattle.directory.specs.declared.totals.Totals.{Totals}
use Rattle.reply.specs.Left.{answer_left, book_left, left_accepted, left_refused}
use Rattle.estimate.specs.declared.figures.Estimate.{Estimate}
use Rattle.estimate.specs.declared.terms.Terms.{Terms}
use Rattle.estimate.specs.Estimate.{estimate_of, walk_of}
use Rattle.estimate.specs.Judge.{judged, rows_added}
use Rattle.order.specs.Post.{added_length, added_of, answer_of, history_of, request_of, rows_after, trade_of}
use Rattle.estimate.specs.Terms.{terms_of}

-- ---- a row that is found is there unless it is free
there_live : (k : Key) (rs : List Row) → eqb k.kind kind_free ≡ false → there k rs ≡ not (is kind_free (found k rs))
there_live k rs e = go (there k rs) refl
  where
    go : (t : Bool) → there k rs ≡ t → there k rs ≡ not (is kind_free (found k rs))
    go true h = h ∙ rw (found_kind rs k h, e)
    go false h = h ∙ rw (found_none k rs h)

-- a check that is passed by an order that is done
done_passes : (s : Status) (p : Bool) (o : Status) → is_done o ≡ false → is_done (also s p o) ≡ true → p ≡ true
unfolding also
done_passes s true o n e = refl
done_passes s false o n e = go (is_done s) refl
  where
    go : (t : Bool) → is_done s ≡ t → false ≡ true
    go true h = absurd (false≢true (sym n ∙ (rw h at e)))
    go false h = absurd (false≢true (sym h ∙ (rw h at e)))

-- ---- what is written in four bytes is in its range
charge_most : (rs : List Row) (form tier : ℕ) → s1 rs ≡ true → (found (a_charge form tier) rs).n1 ≤ charged.high
unfolding found
charge_most rs form tier e =
    the_most (has_key (a_charge form tier)) (λ (r : Row). r.n1) charged.high rs e
    (λ r f h.
    let k = key_kind (a_charge form tier) r h in
    ((means_charge r).shows (as_kind kind_charge r k ∙ f)).2.2.2.2.2.2.2.1)
    (omega arith)

how_many : (t : Bool) (r : Row) → suc (suc (length (cond t [] (r ∷ [])))) ≡ cond t 2 3
how_many true r = refl
how_many false r = refl

module _ (rs : List Row) (r : Row) where
  abbrev given : OrderInput
  given = order_input_of r

  abbrev read : Terms
  read = terms_of rs given

  abbrev reckoned : Estimate
  reckoned = estimate_of rs given read

  -- the checks are those of the rules
  checks_are : judged (room rs) given read reckoned ≡ verdict (checks rs r (view rs r))
  unfolding judged verdict run checks posting view terms_of estimate_of walk_of order_input_of account_of security_of
  checks_are =
      let a = there_live (an_account r.party) rs refl in
      let s = there_live (a_security r.symbol) rs refl in
      rw (a, s, how_many)

  module _ (good : sound rs ≡ true) (right : order_input r ≡ true) where
    shares_small : r.n1 ≤ 4294967295
    shares_small =
        let l = ((means_order_input r).shows right).0.0.2.2.2.2.2.2.2.1 in
        omega arith

    charge_small : (view rs r).charge ≤ 4294967295
    unfolding view
    charge_small =
        let tier = (found (a_customer (found (an_account r.party) rs).n2) rs).form in
        let l = charge_most rs r.form tier (sound_s1 rs good) in
        omega arith

    -- the rows and the answer are those of the rules
    added_are : (posting r (view rs r)).added ≡ added_of given read reckoned
    unfolding posting view terms_of estimate_of walk_of order_input_of account_of security_of trade_of history_of request_of
        trade_row trade_history_row request_row
    added_are = rw (low_nat r.n1 shares_small, low_nat (view rs r).charge charge_small)

    answer_is : (posting r (view rs r)).answer ≡ answer_of read reckoned
    unfolding posting view terms_of estimate_of walk_of order_input_of account_of security_of answer_of
    answer_is = rw (low_nat (view rs r).charge charge_small)

    outcome : order rs r
        ≡ decided (checks rs r (view rs r)) rs
        (accepted (answer_of read reckoned ∷ []) (rows_after rs given read reckoned))
    unfolding order posting posted written puts rows_after order_input_of
    outcome =
        ap₂ (λ (a : Row) (h : List Row). decided (checks rs r (view rs r)) rs (accepted (a ∷ [])
        (cond (roll_back r.flags) rs (fill same_row nothing h rs))))
        answer_is added_are

-- ---- the call
module _ (b a : List ℕ) (r : Row) (good : sound (rows b) ≡ true) (right : order_input r ≡ true) {d : List ℕ} {n : Totals}
    (dir : Directory b d n) {i : OrderInput} {t : Terms} {e : Estimate} {s : Status} {x : Bool}
    (g : i ≡ order_input_of r) (f : t ≡ terms_of (rows b) i) (h : e ≡ estimate_of (rows b) i t)
    (j : s ≡ judged n.free i t e) (done : x ≡ is_done s) where
  abbrev Leaves : List ℕ → List ℕ → Type 0
  Leaves b' a' =
      (s ≡ (order (rows b) r).status) × (b' ≡ book_left (order (rows b) r) b) × (a' ≡ answer_left (order (rows b) r) a)

  abbrev tests : List Check
  tests = checks (rows b) r (view (rows b) r)

  terms_is : t ≡ read (rows b) r
  terms_is = rw (f, g)

  estimate_is : e ≡ reckoned (rows b) r
  estimate_is = rw (h, f, g)

  status_is : s ≡ verdict tests
  status_is = j ∙ rw (dir.free, estimate_is, terms_is, g) (checks_are (rows b) r)

  pub order_refused : x ≡ false → Leaves b a
  order_refused y =
      left_refused b a
      (outcome (rows b) r good right ∙ decided_refused tests (rows b) _ (ap is_done (sym status_is) ∙ sym done ∙ y)
      ∙ ap (λ (u : Status). refused u (rows b)) (sym status_is)) done y

  -- the last of the checks is for room
  pub has_room : x ≡ true → Room (added_of i t e) b d n
  unfolding judged
  has_room y =
      let fits = ap is_done (sym j) ∙ sym done ∙ y in
      let l = leb-true (rows_added i) n.free (done_passes _ (leb (rows_added i) n.free) NoRoom refl fits) in
      let k = added_length i t e in
      room_start (added_of i t e) dir (sound_s1 (rows b) good) (omega arith)

  pub order_done : (b' : List ℕ) {a' : List ℕ} {v : Row} → x ≡ true → rows b' ≡ rows_after (rows b) i t e
      → whole_records most_records (length b) ≡ true → length b' ≡ length b → Bytes b' → length a ≡ record_size
      → v ≡ answer_of t e → a' ≡ put_at a 0 v → Leaves b' a'
  order_done b' y p w l z k q m =
      let passed = ap is_done (sym status_is) ∙ sym done ∙ y in
      let o = outcome (rows b) r good right ∙ decided_done tests (rows b) _ passed in
      let end = is_done_holds s (sym done ∙ y) in
      left_accepted b a b' o (end ∙ sym (ap (λ (u : Outcome). u.status) o))
      (p ∙ rw (estimate_is, terms_is, g)) w l z k (q ∙ rw (estimate_is, terms_is)) m
