-- Each rule as the code decides it: by what is found, where the definition counts. Assumes nothing.
use Rattle.std.specs.Prelude.{◌≡◌, refl, Bool, true, false, ◌&&◌, ◌||◌, List, [], ◌∷◌, ℕ, ◌+◌, ◌%◌, zero, suc, ◌/◌, ◌<◌, ◌*◌, eqb, leb, ltb, ℤ, pos, negsuc, ◌-ℤ◌, length, get_or, drop}
use Rattle.std.proofs.Math.Path.{sym}
use Rattle.std.proofs.Common.{ap, ◌∙◌, arith, get_or-take, get_or-drop, to_z, of_z, Fits, SFits, to_z-of_z, eq-eqb, eqb-true, leb-true, leb-false, ne_eqb, ltb-true, ltb-false}
use Rattle.std.specs.Int.{w64}
use Rattle.std.proofs.Math.Facts.{of_z-to_z}
use Rattle.std.proofs.lemmas.Bool.{eqb-false}
use Rattle.laws.specs.Search.{bit, count, every, place, sum_z, total}
use Rattle.laws.specs.Tests.{and_assoc, and_true}
use Rattle.laws.specs.Chunk.{part}
use Rattle.record.specs.Codes.{completed, pending}
use Rattle.record.specs.Signed.{dn, eq_parts, le_z_is, parts_add, up}
use Rattle.record.specs.Symbol.{same_symbol}
use Rattle.record.specs.declared.row.Row.{Row}
use Rattle.record.specs.declared.symbol.Symbol.{Symbol}
use Rattle.record.specs.Bytes.{Bytes}
use Rattle.record.specs.Grid.{decode}
use Rattle.kinds.specs.Kinds.{cash_of, request_of, settlement_of, trade_of}
use Rattle.units.specs.Units.{shares}
use Rattle.kinds.specs.declared.rows.Trade.{Trade}
use Rattle.kinds.specs.declared.rows.Request.{Request}
use Rattle.kinds.specs.declared.rows.Settlement.{Settlement}
use Rattle.kinds.specs.declared.rows.Cash.{Cash}
use Rattle.units.specs.declared.Shares.{Shares}
use Rattle.keys.specs.declared.Key.{Key}
use Rattle.model.specs.Flags.{cash}
use Rattle.model.specs.Names.{a_settlement, an_account, named}
use Rattle.model.specs.Rows.{found, has_key, rows, there}
use Rattle.model.specs.Sound.{cash_right, equal_z, lot_of, names_known, shares_of}
use Rattle.places.specs.Rows.{row_at, rows_at, rows_past}
use Rattle.directory.specs.Found.{key_row}
use Rattle.groups.specs.Sums.{HoldsSide, shares_part}
use Rattle.by_group.specs.Kept.{comes_to}

-- ---- S3
module _ (rs : List Row) (r : Row) where
  pub names_none : named r ≡ [] → true ≡ names_known rs r
  unfolding every
  names_none e = rw e

  pub names_one : (a : Key) {x : Bool} → named r ≡ a ∷ [] → x ≡ there a rs → x ≡ names_known rs r
  unfolding every
  names_one a e h = rw e (h ∙ sym (and_true (there a rs)))

  pub names_two : (a b : Key) {x y : Bool} → named r ≡ a ∷ b ∷ [] → x ≡ there a rs → y ≡ there b rs
      → (x && y) ≡ names_known rs r
  unfolding every
  names_two a b e h k = rw e (rw (h, k, and_true (there b rs)))

  pub names_three : (a b c : Key) {x y z : Bool} → named r ≡ a ∷ b ∷ c ∷ [] → x ≡ there a rs → y ≡ there b rs
      → z ≡ there c rs → (x && y && z) ≡ names_known rs r
  unfolding every
  names_three a b c e h k l =
      rw e (rw (h, k, l, and_true (there c rs)) (sym (and_assoc (there a rs) (there b rs) (there c rs))))

-- ---- S6
-- what a request must agree in, beside its number
abbrev pub agrees_with : ℕ → Row → Row → Bool
agrees_with broker t r =
    eqb r.form t.form && same_symbol r.symbol t.symbol && eqb r.n1 t.n1 && eqb r.n2 t.n2
    && eqb r.party broker

abbrev pub as_asked : List Row → Row → Row → Bool
as_asked rs t r = agrees_with (found (an_account t.party) rs).n1 t r

-- the same of the values that the rows are
abbrev pub same_terms : ℕ → Trade → Request → Bool
same_terms broker t q =
    eqb q.trade_type t.trade_type && same_symbol q.symbol t.symbol
    && eqb (up q.shares.0) (up t.shares.0) && eqb q.bid.0 t.bid.0 && eqb q.broker.0 broker

pub asked_is : (rs : List Row) (t r : Row) {x : Trade} {y : Request} {broker : ℕ} {b : Bool} → x ≡ trade_of t
    → y ≡ request_of r → broker ≡ (found (an_account x.account.0) rs).n1 → b ≡ same_terms broker x y
    → (eqb x.status pending && b) ≡ (eqb t.status pending && as_asked rs t r)
unfolding trade_of request_of
asked_is rs t r e f g h = rw (h, g, e, f)

-- ---- S8: the shares held and those owed, apart
sides : (account : ℕ) (symbol : Symbol) (l : List Row)
    → up (sum_z (shares_of account symbol) l) + total (shares_part true account symbol) l
    ≡ dn (sum_z (shares_of account symbol) l) + total (shares_part false account symbol) l
unfolding sum_z total
sides account symbol [] = refl
sides account symbol (r ∷ l) =
    let s = sum_z (shares_of account symbol) l in
    let z = parts_add (shares_of account symbol r) s in
    let ih = sides account symbol l in
    let u = side_up account symbol r in
    let d = side_dn account symbol r in
    omega arith
  where
    side_up : (account : ℕ) (symbol : Symbol) (r : Row) → shares_part false account symbol r ≡ up (shares_of account symbol r)
    side_up account symbol r = go (lot_of account symbol r) refl
      where
        go : (t : Bool) → lot_of account symbol r ≡ t
            → shares_part false account symbol r ≡ up (shares_of account symbol r)
        go true e = rw e
        go false e = rw e

    side_dn : (account : ℕ) (symbol : Symbol) (r : Row) → shares_part true account symbol r ≡ dn (shares_of account symbol r)
    side_dn account symbol r = go (lot_of account symbol r) refl
      where
        go : (t : Bool) → lot_of account symbol r ≡ t → shares_part true account symbol r ≡ dn (shares_of account symbol r)
        go true e = rw e
        go false e = rw e

both_ways : (m n : ℕ) → (leb m n && leb n m) ≡ eqb m n
both_ways m n = go (leb m n) (leb n m) refl refl
  where
    go : (t u : Bool) → leb m n ≡ t → leb n m ≡ u → (leb m n && leb n m) ≡ eqb m n
    go true true e f =
        let h = leb-true m n e in
        let k = leb-true n m f in
        rw (e, f) (sym (eq-eqb m n (omega arith)))
    go true false e f = let h = leb-false n m f in rw (e, f) (sym (ne_eqb m n (λ q. omega arith)))
    go false u e f = let h = leb-false m n e in rw e (sym (ne_eqb m n (λ q. omega arith)))

equal_parts : (a b : ℤ) → equal_z a b ≡ eqb (up a + dn b) (up b + dn a)
equal_parts a b = rw (le_z_is a b, le_z_is b a) (both_ways (up a + dn b) (up b + dn a))

same_equal : (a b c d : ℕ) → (a ≡ b → c ≡ d) → (c ≡ d → a ≡ b) → eqb a b ≡ eqb c d
same_equal a b c d f g = go (eqb a b) refl
  where
    go : (t : Bool) → eqb a b ≡ t → eqb a b ≡ eqb c d
    go true e = rw e (sym (eq-eqb c d (f (eqb-true a b e))))
    go false e = rw e (sym (ne_eqb c d (λ q. eqb-false a b e (g q))))

-- a number and its bits
pub same_bits : (a b : ℤ) → SFits w64 a → SFits w64 b → eqb (of_z w64 a) (of_z w64 b) ≡ equal_z a b
same_bits a b f g =
    same_equal (of_z w64 a) (of_z w64 b) (up a + dn b) (up b + dn a)
    (λ e. let q : a ≡ b = sym (to_z-of_z f) ∙ ap (to_z w64) e ∙ to_z-of_z g in rw q (omega arith))
    (λ e. ap (of_z w64) (eq_parts a b e))
    ∙ sym (equal_parts a b)

less_parts : (m n : ℕ) → up (pos m -ℤ pos n) + n ≡ dn (pos m -ℤ pos n) + m
less_parts m zero = let z = parts_add (pos m) (pos 0) in omega arith
less_parts m (suc n) = let z = parts_add (pos m) (negsuc n) in omega arith

pub comes_to_holds : (rs : List Row) (account : ℕ) (symbol : Symbol) (z : ℤ) {many u v : ℕ} {long owed d : Shares} {t : Bool}
    → many ≡ count (lot_of account symbol) rs → HoldsSide false account symbol rs long
    → HoldsSide true account symbol rs owed → d ≡ shares (long.0 -ℤ owed.0) → t ≡ equal_z d.0 z
    → u ≡ up long.0 → v ≡ up owed.0
    → (leb 1 many && t && (eqb u 0 || eqb v 0)) ≡ comes_to rs account symbol z
comes_to_holds rs account symbol z {many} {u} {v} {long} {owed} {d} h l o ed et eu ev =
    let m = total (shares_part false account symbol) rs in
    let n = total (shares_part true account symbol) rs in
    let e = sides account symbol rs in
    let p = less_parts m n in
    let s : pos m -ℤ pos n ≡ sum_z (shares_of account symbol) rs =
    eq_parts (pos m -ℤ pos n) (sum_z (shares_of account symbol) rs) (omega arith)
    in
    let q : d.0 ≡ sum_z (shares_of account symbol) rs =
    ap (λ (x : Shares). x.0) ed ∙ (λ i. l.0 i -ℤ o.0 i) ∙ s
    in
    rw (et, q, eu, ev, l.0, o.0, h)

-- ---- S9
low_bit : (f : ℕ) → f % 2 ≡ bit (eqb (f % 2) 1)
low_bit f = go (eqb (f % 2) 1) refl
  where
    go : (t : Bool) → eqb (f % 2) 1 ≡ t → f % 2 ≡ bit (eqb (f % 2) 1)
    go true e = rw e (eqb-true (f % 2) 1 e)
    go false e = let n = eqb-false (f % 2) 1 e in rw e (let m : (f % 2 ≡ 1 → ⊥) = n in omega arith)

-- a settlement has its trade's cash flag
pub settles_is : (t r : Row) {x : Trade} {s : Settlement} → x ≡ trade_of t → s ≡ settlement_of r
    → (eqb x.status completed && eqb s.cash (x.flags % 2))
    ≡ (eqb t.status completed && eqb r.flags (bit (cash t.flags)))
unfolding trade_of settlement_of
settles_is t r e f =
    rw (e, f) (ap (λ (x : ℕ). eqb t.status completed && eqb r.flags x) (low_bit t.flags))

-- an amount is eight bytes
byte_at : (b : List ℕ) (i j : ℕ) → Bytes b → j < 64 → get_or (part 64 i b) j 0 < 256
byte_at b i j h l = rw (get_or-take 64 (drop (i * 64) b) j 0 l, get_or-drop) (h (i * 64 + j))

amount_fits : (b : List ℕ) (i : ℕ) → Bytes b → Fits w64 (row_at b i).m1
unfolding decode
amount_fits b i h = go (ltb i (length b / 64)) refl
  where
    go : (t : Bool) → ltb i (length b / 64) ≡ t → Fits w64 (row_at b i).m1
    go true e =
        let p = part 64 i b in
        let c0 = byte_at b i 40 h (omega arith) in
        let c1 = byte_at b i 41 h (omega arith) in
        let c2 = byte_at b i 42 h (omega arith) in
        let c3 = byte_at b i 43 h (omega arith) in
        let c4 = byte_at b i 44 h (omega arith) in
        let c5 = byte_at b i 45 h (omega arith) in
        let c6 = byte_at b i 46 h (omega arith) in
        let c7 = byte_at b i 47 h (omega arith) in
        rw (rows_at b i (ltb-true i (length b / 64) e)) (record { fits = omega arith })
    go false e = rw (rows_past b i (ltb-false i (length b / 64) e)) (record { fits = omega arith })

pub due_is : (b : List ℕ) (i : ℕ) → Bytes b → {c : Cash} {p x y : ℕ} {s : Settlement} → c ≡ cash_of (row_at b i)
    → p ≡ place (has_key (a_settlement c.no.0)) (rows b) → s ≡ settlement_of (row_at b p)
    → x ≡ of_z w64 s.amount.0 → y ≡ of_z w64 c.amount.0
    → (eqb s.cash 1 && eqb x y) ≡ cash_right (rows b) (row_at b i)
unfolding cash_of settlement_of
due_is b i h {c} {p} {x} {y} {s} ec ep es ex ey =
    let no : c.no.0 ≡ (row_at b i).id = rw ec in
    let own : y ≡ (row_at b i).m1 = ey ∙ rw ec (of_z-to_z (amount_fits b i h)) in
    let amount : x ≡ (row_at b p).m1 = ex ∙ rw es (of_z-to_z (amount_fits b p h)) in
    let row = key_row (a_settlement c.no.0) b ep refl in
    rw (own, amount, es, row, no)
