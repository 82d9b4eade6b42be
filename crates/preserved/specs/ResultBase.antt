-- What a result that is done writes: the trade is there and submitted, and there is room; each row that gives way is
-- there as often as it gives way. Assumes nothing.
use Rattle.std.specs.Prelude.{◌≡◌, Bool, true, false, ◌+◌, ◌≤◌, leb, length}
use Rattle.std.proofs.Math.Path.{refl, ap}
use Rattle.std.proofs.Common.{sym, ◌∙◌}
use Rattle.std.proofs.lemmas.Bool.{false≢true}
use mathlib.Core.List.{List, [], ◌∷◌, ◌++◌, Memᴰ}
use native.Mathlib.Omega.{arith}
use borrow.Author.Tests.{eq-eqb, eqb-true, leb-false, leb-true, not-true}
use Rattle.laws.specs.All.{all_map, all_one}
use Rattle.laws.specs.Change.{puts}
use Rattle.laws.specs.Keep.{count_append, count_map, count_none, count_on}
use Rattle.laws.specs.Search.{count}
use Rattle.laws.specs.Tests.{one_truth}
use Rattle.laws.specs.Puts.{Inside, count_length, count_less, count_no, is_counted, member, olds}
use Rattle.record.specs.Codes.{kind_free, submitted}
use Rattle.keys.specs.Key.{key_of}
use Rattle.keys.specs.KeyLaws.{key_itself}
use Rattle.record.specs.declared.row.Row.{Row}
use Rattle.rules.proofs.Fits.{Fits}
use Rattle.model.specs.Status.{is_done}
use Rattle.model.specs.Lots.{Closing}
use Rattle.model.specs.Names.{a_broker}
use Rattle.model.specs.Plan.{Check, Outcome, Posting, accepted, posted, refused, room, verdict}
use Rattle.model.specs.Result.{Sums, added, checks, figures, posting, result, sums_of, view, with_broker, within}
use Rattle.model.specs.Rows.{found, has_key, is, nothing, same_row}
use Rattle.model.specs.Sound.{sound}
use Rattle.model.specs.SoundMeans.{means_s1, means_sound}
use Rattle.model.specs.declared.Status.{Status}
use Rattle.facts.specs.Rows.{clean_fit, row_itself, same_rows}
use Rattle.facts.specs.Sound.{once}
use Rattle.facts.specs.Result.{Read}
use Rattle.facts.proofs.Result.{all_own, reads, writes_once}
use Rattle.facts.specs.Result
use Rattle.facts.specs.Posted.{adds, posted_puts, writes}
use Rattle.facts.specs.Checks.{decided_done, decided_refused, decided_status, passed}

-- what a result posts on these rows
abbrev pub posting_of : List Row → Row → Posting
posting_of rs input =
    let v = view rs input in
    let f = figures input v in
    with_broker (found (a_broker v.account.n1) rs) f.commission (posting input v f)

-- and what it has passed
pub record Accepted (rs : List Row) (input : Row) : Type 0 where
  pub live : is kind_free (view rs input).trade ≡ false
  pub sent : (view rs input).trade.status ≡ submitted
  pub within : within (found (a_broker (view rs input).account.n1) rs) (figures input (view rs input)) ≡ true
  pub space : length (posting_of rs input).added ≤ room rs
  pub answer : (result rs input).answer ≡ (posting_of rs input).answer ∷ []
  pub rows : (result rs input).rows ≡ posted (posting_of rs input) rs

module _ (rs : List Row) (input : Row) where
  abbrev tests : List Check
  tests = let v = view rs input in checks rs input v (figures input v)

  status_is : (result rs input).status ≡ verdict tests
  unfolding result
  status_is = decided_status tests rs _ refl

  pub accepted_all : is_done (result rs input).status ≡ true → Accepted rs input
  unfolding result checks
  accepted_all k =
      let d = ap is_done (sym status_is) ∙ k in
      let done = decided_done tests rs (accepted ((posting_of rs input).answer ∷ []) (posted (posting_of rs input) rs)) d in
      let p = passed tests refl d in
      record {
        live = not-true (is kind_free (view rs input).trade) p.0;
        sent = eqb-true (view rs input).trade.status submitted p.1.0;
        within = p.1.1.1.1.1.0;
        space = leb-true (length (posting_of rs input).added) (room rs) p.1.1.1.1.1.1.0;
        answer = ap (λ (o : Outcome). o.answer) done;
        rows = ap (λ (o : Outcome). o.rows) done;
      }

  -- one that is not done changes and answers nothing
  pub refused_all : is_done (result rs input).status ≡ false → result rs input ≡ refused (result rs input).status rs
  unfolding result
  refused_all k =
      decided_refused tests rs _ (ap is_done (sym status_is) ∙ k)
      ∙ ap (λ (s : Status). refused s rs) (sym status_is)

-- a free place of a sound book holds nothing
pub free_nothing : (rs : List Row) → sound rs ≡ true → (x : Row) → Memᴰ x rs → x.kind ≡ kind_free → x ≡ nothing
free_nothing rs good x m e =
    clean_fit (x ∷ []) ((means_s1 (x ∷ [])).holds (all_one Fits x (((means_sound rs).shows good).s1 x m))) 0 e

pub room_is : (rs : List Row) → sound rs ≡ true → room rs ≡ count (same_row nothing) rs
unfolding room
room_is rs good =
    count_on (is kind_free) (same_row nothing) rs
    (λ x m.
    one_truth (is kind_free x) (same_row nothing x)
    (λ h. ap (same_row nothing) (free_nothing rs good x m (eqb-true x.kind kind_free h)) ∙ row_itself nothing)
    (λ h. eq-eqb x.kind kind_free (ap (λ (r : Row). r.kind) (sym (same_rows nothing x h)))))

-- ---- each that gives way is there
module _ {rs : List Row} {t summary account broker : Row} {cs : List Closing}
    (r : Read rs t summary account broker cs) (n : Sums) where
  abbrev hs : List Row
  hs = added t summary cs n

  abbrev turned : List (Row × Row)
  turned = Result.writes t summary account broker cs n

  abbrev pub all : List (Row × Row)
  all = adds hs ++ turned

  -- the rows that are added take the places of nothing
  adds_places : (x : Row) → count (same_row x) (olds all)
      ≡ count (λ (h : Row). same_row x nothing) hs + count (λ (w : Row × Row). same_row x w.0) turned
  adds_places x =
      let p : Row × Row → Bool = λ w. same_row x w.0 in
      let a = count_map (same_row x) (λ (w : Row × Row). w.0) all in
      let b = count_append p (adds hs) turned in
      let c = count_map p (λ (h : Row). (nothing, h)) hs in
      omega arith

  no_nothing : count (λ (w : Row × Row). same_row nothing w.0) turned ≡ 0
  no_nothing =
      count_no (λ (w : Row × Row). same_row nothing w.0) turned
      (λ w m. go w.0 (all_own r n w m).live (same_row nothing w.0) refl)
    where
      go : (o : Row) → is kind_free o ≡ false → (b : Bool) → same_row nothing o ≡ b → same_row nothing o ≡ false
      go o live true e = absurd (false≢true (sym live ∙ ap (is kind_free) (sym (same_rows nothing o e))))
      go o live false e = e

  -- a row that is changed or freed is so once
  turned_once : (x : Row) → Memᴰ x (olds turned)
      → count (λ (w : Row × Row). same_row x w.0) turned ≤ count (same_row x) rs
  unfolding has_key
  turned_once x m =
      let held =
      all_map (λ (w : Row × Row). w.0) (λ (o : Row). Memᴰ o rs) turned (λ w k. (all_own r n w k).held)
      in
      let lives =
      all_map (λ (w : Row × Row). w.0) (λ (o : Row). is kind_free o ≡ false) turned (λ w k. (all_own r n w k).live)
      in
      let one = once rs r.good x (held x m) (lives x m) in
      let most = writes_once r n (key_of x) (omega arith) in
      let less =
      count_less (λ (w : Row × Row). same_row x w.0) (λ (w : Row × Row). has_key (key_of x) w.0) turned
      (λ w k e. ap (has_key (key_of x)) (sym (same_rows x w.0 e)) ∙ key_itself (key_of x))
      in
      let was = is_counted same_row same_rows row_itself x rs (held x m) in
      omega arith

  pub all_inside : length hs ≤ count (same_row nothing) rs → Inside same_row all rs
  all_inside h x = go (same_row x nothing) (leb 1 (count (same_row x) (olds turned))) refl refl
    where
      same_places : count (same_row x) (olds turned) ≡ count (λ (w : Row × Row). same_row x w.0) turned
      same_places = count_map (same_row x) (λ (w : Row × Row). w.0) turned

      go : (b c : Bool) → same_row x nothing ≡ b → leb 1 (count (same_row x) (olds turned)) ≡ c
          → count (same_row x) (olds all) ≤ count (same_row x) rs
      go true c e k =
          let q : x ≡ nothing = same_rows x nothing e in
          let none = no_nothing in
          let p = adds_places nothing in
          let s = count_length (λ (h : Row). same_row nothing nothing) hs in
          rw q (omega arith)
      go false true e k =
          let none = count_none (λ (h : Row). same_row x nothing) hs (λ y. e) in
          let p = adds_places x in
          let some = leb-true 1 (count (same_row x) (olds turned)) k in
          let m = member same_row same_rows row_itself x (olds turned) some in
          let one = turned_once x m in
          omega arith
      go false false e k =
          let none = count_none (λ (h : Row). same_row x nothing) hs (λ y. e) in
          let p = adds_places x in
          let few = leb-false 1 (count (same_row x) (olds turned)) k in
          let s = same_places in
          omega arith

module _ (rs : List Row) (input : Row) (good : sound rs ≡ true) (ok : Accepted rs input) where
  pub result_inside : Inside same_row (writes (posting_of rs input)) rs
  unfolding posting
  result_inside =
      let e = room_is rs good in
      let s = ok.space in
      all_inside (reads rs input good ok.live ok.sent) (sums_of input (figures input (view rs input)))
      (omega arith)

  pub result_writes : (result rs input).rows ≡ puts same_row (writes (posting_of rs input)) rs
  result_writes = ok.rows ∙ posted_puts (posting_of rs input) rs
