-- The theorem on rows: two runs over one list of results, each account's own in one order, none refused for a limit or
-- for room. Each result is answered alike, and the rows at the end are the same, each as often. For each account both
-- runs are walked at once; a broker's row is what it was and the sum of what the results added; free places are the
-- rest. Assumes nothing.
use Rattle.std.specs.Prelude.{◌≡◌, refl, true, false, ℕ, ◌≤◌, ◌<◌, eqb, leb, ltb, length}
use Rattle.std.proofs.Common.{sym, subst, ◌∙◌, eq-eqb, eqb-true, le-leb, lt-ltb}
use Rattle.std.proofs.Math.Path.{ap}
use Rattle.std.proofs.Math.Bool.{Bool, not}
use Rattle.std.proofs.lemmas.Bool.{false≢true, eqb-false, not-true}
use mathlib.Core.List.{List, Memᴰ}
use native.Mathlib.Omega.{arith}
use Rattle.laws.specs.Keep.{count_has, count_one, keep_from, keep_has, the_has}
use Rattle.laws.specs.Place.{the_passes}
use Rattle.laws.specs.Search.{bit, count, keep, the, total}
use Rattle.laws.specs.Total.{total_on}
use Rattle.record.specs.Codes.{kind_broker, kind_free}
use Rattle.keys.specs.Key.{among}
use Rattle.record.specs.Symbol.{numbered, symbol_number}
use Rattle.record.specs.declared.row.Row.{Row}
use Rattle.model.specs.Names.{a_broker, a_trade}
use Rattle.model.specs.Rows.{found, is, most_records, nothing, same_row}
use Rattle.model.specs.Sound.{sound}
use Rattle.facts.specs.Rows.{row_itself, same_rows}
use Rattle.preserved.specs.Cases.{by_cases, one_bit}
use Rattle.reorder.specs.Agree.{Agree, total_agree}
use Rattle.reorder.specs.Broker.{Field, gain, run_value}
use Rattle.reorder.specs.Inv.{Inv, apart, inv_step, nameless_note}
use Rattle.reorder.specs.Local.{Fine, local}
use Rattle.reorder.specs.Sim.{Fines, final, trace, two_runs}
use Rattle.reorder.specs.Step.{Note}
use Rattle.reorder.specs.Whose.{aside, mine, mine_none, mine_own, whose}
use Rattle.reorder.specs.Run.{broker_less, free_none, free_rest, note_to, on, run_inv, run_length, trace_count}
use Rattle.reorder.specs.Run.{trace_nameless, trace_total}

-- ---- the theorem
module _ (book : List Row) (good : sound book ≡ true) (few : length book ≤ most_records)
    (input : ℕ → Row) (n : ℕ) (o₁ o₂ : List ℕ) (order₁ : (i : ℕ) → count (eqb i) o₁ ≡ bit (ltb i n))
    (order₂ : (i : ℕ) → count (eqb i) o₂ ≡ bit (ltb i n))
    (own_order : (a : ℕ) → (a ≡ 0 → ⊥)
    → keep (λ (i : ℕ). eqb (found (a_trade (input i).id) book).party a) o₁
    ≡ keep (λ (i : ℕ). eqb (found (a_trade (input i).id) book).party a) o₂)
    (fines₁ : Fines (on input) Fine book o₁) (fines₂ : Fines (on input) Fine book o₂) where
  abbrev own : ℕ → ℕ
  own i = (found (a_trade i) book).party

  abbrev account : ℕ → ℕ
  account i = own (input i).id

  start : Inv own book
  start = record { good = good; few = few; owns = λ i. refl }

  abbrev T₁ : List (ℕ × Note)
  T₁ = trace (on input) book o₁

  abbrev T₂ : List (ℕ × Note)
  T₂ = trace (on input) book o₂

  abbrev E₁ : List Row
  E₁ = final (on input) book o₁

  abbrev E₂ : List Row
  E₂ = final (on input) book o₂

  v₁ : Inv own E₁
  v₁ = run_inv input own book o₁ start

  v₂ : Inv own E₂
  v₂ = run_inv input own book o₂ start

  per_account : (a : ℕ) → (a ≡ 0 → ⊥)
      → (keep (λ (e : ℕ × Note). eqb (account e.0) a) T₁ ≡ keep (λ (e : ℕ × Note). eqb (account e.0) a) T₂)
      × Agree same_row (mine own a) E₁ E₂
  per_account a z =
      two_runs (on input) (λ (i : ℕ). eqb (account i) a) Fine (Inv own) (λ s t. Agree same_row (mine own a) s t)
      (λ s i v. inv_step own s (input i) v)
      (λ s t i v h q x m. apart own s (input i) v a (eqb-false (account i) a h) x m ∙ q x m)
      (λ s t i v h q x m. q x m ∙ sym (apart own t (input i) v a (eqb-false (account i) a h) x m))
      (λ s t i v w h f g q. local own a s t v w q (input i) (eqb-true (account i) a h) f g)
      book book o₁ o₂ start start fines₁ fines₂ (own_order a z) (λ x m. refl)

  -- ---- the answers
  once : (i : ℕ) → count (λ (e : ℕ × Note). eqb i e.0) T₂ ≤ 1
  once i =
      let a = trace_count input i book o₂ in
      let b = order₂ i in
      let c = one_bit (ltb i n) in
      omega arith

  alike : (i : ℕ) (x y : Note) → Memᴰ (i, x) T₁ → Memᴰ (i, y) T₂ → x ≡ y
  alike i x y m k =
      by_cases (eqb (account i) 0)
      (λ h.
      let z = eqb-true (account i) 0 h in
      trace_nameless input own book o₁ (i, x) start m z
      ∙ sym (trace_nameless input own book o₂ (i, y) start k z))
      (λ h.
      let p : ℕ × Note → Bool = λ e. eqb (account e.0) (account i) in
      let u =
      subst (λ (l : List (ℕ × Note)). Memᴰ (i, x) l) (per_account (account i) (eqb-false (account i) 0 h)).0
      (keep_has p (i, x) T₁ m (eq-eqb (account i) (account i) refl))
      in
      let w = (keep_from p (i, x) T₂ u).0 in
      ap (λ (e : ℕ × Note). e.1)
      (count_one (λ (e : ℕ × Note). eqb i e.0) (i, x) (i, y) T₂ (once i) w k (eq-eqb i i refl) (eq-eqb i i refl)))

  -- the entry of a place in a trace
  module _ (i : ℕ) (o : List ℕ) (some : 1 ≤ count (eqb i) o) where
    abbrev p : ℕ × Note → Bool
    p e = eqb i e.0

    abbrev entry : ℕ × Note
    entry = the p (i, nameless_note nothing) (trace (on input) book o)

    some_entry : leb 1 (count p (trace (on input) book o)) ≡ true
    some_entry =
        let c = trace_count input i book o in
        le-leb 1 (count p (trace (on input) book o)) (omega arith)

    entry_there : Memᴰ (i, note_to input book o i) (trace (on input) book o)
    entry_there =
        let m = the_has p (i, nameless_note nothing) (trace (on input) book o) some_entry in
        let q = eqb-true i entry.0 (the_passes p (i, nameless_note nothing) (trace (on input) book o) some_entry) in
        subst (λ (j : ℕ). Memᴰ (j, entry.1) (trace (on input) book o)) (sym q) m

  pub same_notes : (i : ℕ) → i < n → note_to input book o₁ i ≡ note_to input book o₂ i
  same_notes i h =
      let b : bit (ltb i n) ≡ 1 = ap bit (lt-ltb i n h) in
      let a1 = order₁ i in
      let a2 = order₂ i in
      alike i (note_to input book o₁ i) (note_to input book o₂ i) (entry_there i o₁ (omega arith))
      (entry_there i o₂ (omega arith))

  -- ---- what the brokers gain
  in_first : (e : ℕ × Note) → Memᴰ e T₁ → e.1 ≡ note_to input book o₂ e.0
  in_first e m =
      let i = e.0 in
      let c = count_has (λ (u : ℕ × Note). eqb i u.0) e T₁ m (eq-eqb i i refl) in
      let a = trace_count input i book o₁ in
      let b1 = order₁ i in
      let b2 = order₂ i in
      alike i e.1 (note_to input book o₂ i) m (entry_there i o₂ (omega arith))

  in_second : (e : ℕ × Note) → Memᴰ e T₂ → e.1 ≡ note_to input book o₂ e.0
  in_second e m =
      let i = e.0 in
      let c = count_has (λ (u : ℕ × Note). eqb i u.0) e T₂ m (eq-eqb i i refl) in
      let a = trace_count input i book o₂ in
      ap (λ (u : ℕ × Note). u.1)
      (count_one (λ (u : ℕ × Note). eqb i u.0) e (i, note_to input book o₂ i) T₂ (once i) m
      (entry_there i o₂ (omega arith)) (eq-eqb i i refl) (eq-eqb i i refl))

  same_total : (w : Note → ℕ)
      → total (λ (e : ℕ × Note). w e.1) T₁ ≡ total (λ (e : ℕ × Note). w e.1) T₂
  same_total w =
      let f : ℕ → ℕ = λ i. w (note_to input book o₂ i) in
      total_on (λ (e : ℕ × Note). w e.1) (λ (e : ℕ × Note). f e.0) T₁ (λ e m. ap w (in_first e m))
      ∙ trace_total input f book o₁
      ∙ total_agree eqb eqb-true (λ i. eq-eqb i i refl) (λ (i : ℕ). true) f (λ i e. absurd (false≢true (sym e))) o₁ o₂
      (λ i e. order₁ i ∙ sym (order₂ i))
      ∙ sym (trace_total input f book o₂)
      ∙ sym
      (total_on (λ (e : ℕ × Note). w e.1) (λ (e : ℕ × Note). f e.0) T₂ (λ e m. ap w (in_second e m)))

  field_same : (i : ℕ) (f : Row → ℕ) (g : ℕ → ℕ) → Field f g → f (found (a_broker i) E₁) ≡ f (found (a_broker i) E₂)
  field_same i f g field =
      let a = run_value own f g field i input book o₁ start in
      let b = run_value own f g field i input book o₂ start in
      let c = same_total (λ (x : Note). gain g i x) in
      omega arith

  abbrev Kept : (Row → ℕ) → Type 0
  Kept f = Field f (λ c. 0)

  same_broker : (i : ℕ) → found (a_broker i) E₁ ≡ found (a_broker i) E₂
  same_broker i =
      let same : (f : Row → ℕ) → Kept f → f (found (a_broker i) E₁) ≡ f (found (a_broker i) E₂) =
      λ f k. field_same i f (λ c. 0) k
      in
      let k0 = same (λ r. r.kind) (record { blank = refl; raised = λ b c. omega arith }) in
      let k1 = same (λ r. r.form) (record { blank = refl; raised = λ b c. omega arith }) in
      let k2 = same (λ r. r.status) (record { blank = refl; raised = λ b c. omega arith }) in
      let k3 = same (λ r. r.flags) (record { blank = refl; raised = λ b c. omega arith }) in
      let k4 = same (λ r. r.party) (record { blank = refl; raised = λ b c. omega arith }) in
      let k5 = same (λ r. r.id) (record { blank = refl; raised = λ b c. omega arith }) in
      let k6 = same (λ r. symbol_number r.symbol) (record { blank = refl; raised = λ b c. omega arith }) in
      let k7 = field_same i (λ r. r.n1) (λ c. 1) (record { blank = refl; raised = λ b c. refl }) in
      let k8 = same (λ r. r.n2) (record { blank = refl; raised = λ b c. omega arith }) in
      let k9 = same (λ r. r.n3) (record { blank = refl; raised = λ b c. omega arith }) in
      let k10 = same (λ r. r.n4) (record { blank = refl; raised = λ b c. omega arith }) in
      let k11 = field_same i (λ r. r.m1) (λ c. c) (record { blank = refl; raised = λ b c. refl }) in
      let k12 = same (λ r. r.m2) (record { blank = refl; raised = λ b c. omega arith }) in
      let k13 = same (λ r. r.time) (record { blank = refl; raised = λ b c. omega arith }) in
      let k14 = same (λ r. r.n5) (record { blank = refl; raised = λ b c. omega arith }) in
      λ j. record {
        kind = k0 j;
        form = k1 j;
        status = k2 j;
        flags = k3 j;
        party = k4 j;
        id = k5 j;
        symbol = numbered (k6 j);
        n1 = k7 j;
        n2 = k8 j;
        n3 = k9 j;
        n4 = k10 j;
        m1 = k11 j;
        m2 = k12 j;
        time = k13 j;
        n5 = k14 j;
      }

  -- ---- the rows
  live_kind : (x : Row) → is kind_free x ≡ false → is kind_broker x ≡ false
      → not (among x.kind aside) ≡ true
  live_kind x e f = rw (e, f)

  taken : (x : Row) → same_row nothing x ≡ false → count (same_row x) E₁ ≡ count (same_row x) E₂
  taken x f =
      by_cases (is kind_free x)
      (λ h.
      let e = eqb-true x.kind kind_free h in
      free_none E₁ x v₁.good e f ∙ sym (free_none E₂ x v₂.good e f))
      (λ h. by_cases (is kind_broker x)
      (λ k.
      let e = eqb-true x.kind kind_broker k in
      let same = same_broker x.party in
      let a = broker_less E₁ E₂ x v₁.good v₂.good e same in
      let b = broker_less E₂ E₁ x v₂.good v₁.good e (sym same) in
      omega arith)
      (λ k. by_cases (eqb (whose own x) 0)
      (λ w.
      (per_account 1 (λ z. absurd (omega arith))).1 x
      (mine_none own 1 x x.kind refl (live_kind x h k) (eqb-true (whose own x) 0 w)))
      (λ w.
      (per_account (whose own x) (eqb-false (whose own x) 0 w)).1 x
      (mine_own own (whose own x) x x.kind refl (live_kind x h k) refl))))

  free_same : count (same_row nothing) E₁ ≡ count (same_row nothing) E₂
  unfolding count
  free_same =
      let used : Row → Bool = λ y. not (same_row nothing y) in
      let a = free_rest E₁ in
      let b = free_rest E₂ in
      let c = run_length input book o₁ in
      let d = run_length input book o₂ in
      let e =
      total_agree same_row same_rows row_itself used (λ (y : Row). bit (used y)) (λ y q. ap bit q) E₁ E₂
      (λ y q. taken y (not-true (same_row nothing y) q))
      in
      omega arith

  pub same_rows_end : (x : Row) → count (same_row x) E₁ ≡ count (same_row x) E₂
  same_rows_end x =
      by_cases (same_row nothing x)
      (λ f. subst (λ (y : Row). count (same_row y) E₁ ≡ count (same_row y) E₂) (same_rows nothing x f) free_same)
      (λ f. taken x f)
