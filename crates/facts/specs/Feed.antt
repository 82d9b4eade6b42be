-- The steps of a feed: what each leaves as it is, the trades that are pending after it, and the volumes. Assumes nothing.
use Rattle.std.specs.Prelude.{◌≡◌, Bool, ◌&&◌, true, false, not, cond, ℕ, ◌+◌, eqb, leb}
use Rattle.std.proofs.Math.Path.{refl}
use Rattle.std.proofs.Common.{sym, ap, ◌∙◌, ⊎_elim, add_assoc, add-zero, arith, eqb-true}
use mathlib.Core.List.{List, [], ◌∷◌}
use Rattle.laws.specs.Change.{put}
use Rattle.laws.specs.Keep.{every_on}
use Rattle.laws.specs.Search.{every, keep, run, total}
use Rattle.laws.specs.Tests.{and_assoc, and_false, and_right, and_true}
use Rattle.record.specs.Codes.{kind_free, kind_security, kind_trade, kind_trade_history, pending, submitted}
use Rattle.record.specs.Symbol.{same_symbol_holds, same_symbol}
use Rattle.keys.specs.declared.Key.{Key}
use Rattle.record.specs.declared.row.Row.{Row}
use Rattle.record.specs.declared.symbol.Symbol.{Symbol}
use Rattle.rules.specs.Ranges.{volume}
use Rattle.model.specs.Feed.{Fed, applied, sent, submit, submits, traded, volumes_fit}
use Rattle.model.specs.History.{history_row}
use Rattle.model.specs.Names.{a_security, a_trade}
use Rattle.model.specs.Rows.{found, has_key, is, nothing, same_row, there}
use Rattle.facts.specs.Found.{found_either, found_has, found_kept, found_none, there_kept}
use Rattle.facts.specs.Keys.{OfKind, key_kind, key_of_holds}
use Rattle.facts.specs.Names.{by_id_holds, by_symbol_holds}
use Rattle.facts.specs.Rows.{found_other, found_same, keep_put, there_alike, there_other}

found_other_kind : (k : Key) (rs : List Row) (j : ℕ) → (j ≡ k.kind → ⊥) → (j ≡ kind_free → ⊥)
    → (found k rs).kind ≡ j → ⊥
found_other_kind k rs j n f e =
    ⊎_elim
    (λ h. n (sym e ∙ key_kind k (found k rs) h))
    (λ h. f (sym e ∙ ap (λ (r : Row). r.kind) h))
    (found_either k rs)

-- ---- rows of other kinds
module _ (j : ℕ) (p : Row → Bool) (of : OfKind j p) (full : j ≡ kind_free → ⊥) where
  beside : (k : Key) (rs l : List Row) (n : Row) → (j ≡ k.kind → ⊥) → n.kind ≡ (found k rs).kind
      → keep p (put same_row (found k rs) n l) ≡ keep p l
  beside k rs l n other e =
      keep_put (found k rs) n l p (of (found k rs) (found_other_kind k rs j other full))
      (of n (λ q. found_other_kind k rs j other full (sym e ∙ q)))

  pub traded_keeps : (e : Row) (y : Symbol) (rs : List Row) → (j ≡ kind_security → ⊥)
      → keep p (put same_row (found (a_security y) rs) (traded e (found (a_security y) rs)) rs) ≡ keep p rs
  traded_keeps e y rs other = beside (a_security y) rs rs (traded e (found (a_security y) rs)) other refl

  module _ (e : Row) (trade : j ≡ kind_trade → ⊥) (history : j ≡ kind_trade_history → ⊥) where
    submit_keeps : (rs : List Row) (r : Row) → keep p (submit e rs r) ≡ keep p rs
    submit_keeps rs r =
        beside (a_trade r.id) rs _ _ trade refl
        ∙ keep_put nothing _ rs p (of nothing (λ q. full (sym q))) (of _ (λ q. history (sym q)))

    pub submits_keep : (rs ts : List Row) → keep p (run (submit e) rs ts) ≡ keep p rs
    unfolding run
    submits_keep rs [] = refl
    submits_keep rs (t ∷ ts) = submits_keep (submit e rs t) ts ∙ submit_keeps rs t

pub trade_key : (i : ℕ) (r : Row) → has_key (a_trade i) r ≡ (is kind_trade r && eqb r.id i)
trade_key i r = by_id_holds kind_trade refl i r

-- ---- a history row is added, which no trade is
module _ (rs : List Row) (time number : ℕ) where
  abbrev pub between : List Row
  between = put same_row nothing (history_row submitted number time) rs

  pub found_between : (i : ℕ) → found (a_trade i) between ≡ found (a_trade i) rs
  found_between i =
      found_other nothing (history_row submitted number time) rs (a_trade i) (trade_key i nothing)
      (trade_key i (history_row submitted number time))

  pub there_between : (i : ℕ) → there (a_trade i) between ≡ there (a_trade i) rs
  there_between i =
      there_other nothing (history_row submitted number time) rs (a_trade i) (trade_key i nothing)
      (trade_key i (history_row submitted number time))

abbrev pub pends : List Row → ℕ → Bool
pends rs i = eqb (found (a_trade i) rs).status pending

traded_found : (e : Row) (y : Symbol) (rs : List Row) (i : ℕ)
    → keep (has_key (a_trade i)) (put same_row (found (a_security y) rs) (traded e (found (a_security y) rs)) rs)
    ≡ keep (has_key (a_trade i)) rs
traded_found e y rs i =
    traded_keeps kind_trade (has_key (a_trade i)) (key_of_holds (a_trade i)) (λ q. omega arith) e y rs (λ q. omega arith)

pub pends_traded : (e : Row) (y : Symbol) (rs : List Row) (i : ℕ)
    → pends (put same_row (found (a_security y) rs) (traded e (found (a_security y) rs)) rs) i ≡ pends rs i
pends_traded e y rs i =
    let s = found (a_security y) rs in
    ap (λ (r : Row). eqb r.status pending)
    (found_kept (a_trade i) (put same_row s (traded e s) rs) rs (traded_found e y rs i))

-- ---- one trade is submitted
-- what is found by one key has no other where nothing has it
other_found : (k j : Key) (rs : List Row) → has_key j nothing ≡ false
    → (has_key k (found k rs) ≡ true → has_key j (found k rs) ≡ false) → has_key j (found k rs) ≡ false
other_found k j rs z f = ⊎_elim f (λ h. ap (has_key j) h ∙ z) (found_either k rs)

module _ (e : Row) (rs : List Row) (r : Row) where
  abbrev trade_was : Row
  trade_was = found (a_trade r.id) rs

  abbrev becomes : Row
  becomes = sent e.time trade_was

  same_trade : (i : ℕ) → has_key (a_trade i) becomes ≡ has_key (a_trade i) trade_was
  same_trade i = trade_key i becomes ∙ sym (trade_key i trade_was)

  other_trade : (i : ℕ) → eqb r.id i ≡ false → has_key (a_trade i) trade_was ≡ false
  other_trade i n =
      other_found (a_trade r.id) (a_trade i) rs (trade_key i nothing)
      (λ h.
      let q : trade_was.id ≡ r.id =
      eqb-true trade_was.id r.id
      (and_right (is kind_trade trade_was) (eqb trade_was.id r.id) (sym (trade_key r.id trade_was) ∙ h))
      in
      trade_key i trade_was ∙ rw (q, n) (and_false (is kind_trade trade_was)))

  -- which leaves it pending no longer, and every other as it is
  gone : pends (submit e rs r) r.id ≡ false
  gone = go (there (a_trade r.id) (between rs e.time r.id)) refl
    where
      go : (t : Bool) → there (a_trade r.id) (between rs e.time r.id) ≡ t
          → pends (submit e rs r) r.id ≡ false
      go true h =
          ap (λ (x : Row). eqb x.status pending)
          (found_same trade_was becomes (between rs e.time r.id) (a_trade r.id) h
          (sym (found_between rs e.time r.id r.id))
          (same_trade r.id ∙ ap (has_key (a_trade r.id)) (sym (found_between rs e.time r.id r.id))
          ∙ found_has (a_trade r.id) (between rs e.time r.id) h))
      go false h =
          ap (λ (x : Row). eqb x.status pending)
          (found_none (a_trade r.id) (submit e rs r)
          (there_alike trade_was becomes (between rs e.time r.id) (a_trade r.id) (same_trade r.id) ∙ h))

  pends_submit : (i : ℕ) → pends (submit e rs r) i ≡ (pends rs i && not (eqb r.id i))
  pends_submit i = go (eqb r.id i) refl
    where
      go : (t : Bool) → eqb r.id i ≡ t → pends (submit e rs r) i ≡ (pends rs i && not (eqb r.id i))
      go true h =
          ap (pends (submit e rs r)) (sym (eqb-true r.id i h)) ∙ gone ∙ rw h (sym (and_false (pends rs i)))
      go false h =
          ap (λ (x : Row). eqb x.status pending)
          (found_other trade_was becomes (between rs e.time r.id) (a_trade i) (other_trade i h)
          (same_trade i ∙ other_trade i h)
          ∙ found_between rs e.time r.id i)
          ∙ rw h (sym (and_true (pends rs i)))

-- ---- all that an entry submits
pub pends_submits : (e : Row) (rs ts : List Row) (i : ℕ)
    → pends (run (submit e) rs ts) i ≡ (pends rs i && every (λ (t : Row). not (eqb t.id i)) ts)
unfolding run every
pends_submits e rs [] i = sym (and_true (pends rs i))
pends_submits e rs (t ∷ ts) i =
    pends_submits e (submit e rs t) ts i
    ∙ rw (pends_submit e rs t i)
    (sym (and_assoc (pends rs i) (not (eqb t.id i)) (every (λ (t : Row). not (eqb t.id i)) ts)))

-- ---- volumes
-- the shares of the entries on a symbol
unfoldable pub shares_for : Symbol → List Row → ℕ
shares_for s es = total (λ (e : Row). cond (same_symbol e.symbol s) e.n2 0) es

-- ---- one entry
module _ (f : Fed) (e : Row) where
  abbrev security_was : Row
  security_was = found (a_security e.symbol) f.rows

  abbrev after_traded : List Row
  after_traded = put same_row security_was (traded e security_was) f.rows

  securities_kept : (s : Symbol)
      → keep (has_key (a_security s)) (applied f e).rows ≡ keep (has_key (a_security s)) after_traded
  unfolding applied
  securities_kept s =
      submits_keep kind_security (has_key (a_security s)) (key_of_holds (a_security s)) (λ q. omega arith) e (λ q. omega arith)
      (λ q. omega arith) after_traded (submits after_traded e)

  same_security : (s : Symbol) → has_key (a_security s) (traded e security_was) ≡ has_key (a_security s) security_was
  same_security s = by_symbol_holds s (traded e security_was) ∙ sym (by_symbol_holds s security_was)

  pub there_next : (s : Symbol) → there (a_security s) (applied f e).rows ≡ there (a_security s) f.rows
  there_next s =
      there_kept (a_security s) (applied f e).rows after_traded (securities_kept s)
      ∙ there_alike security_was (traded e security_was) f.rows (a_security s) (same_security s)

  other_security : (s : Symbol) → same_symbol e.symbol s ≡ false → has_key (a_security s) security_was ≡ false
  other_security s n =
      other_found (a_security e.symbol) (a_security s) f.rows (by_symbol_holds s nothing)
      (λ h.
      let q : security_was.symbol ≡ e.symbol =
      same_symbol_holds security_was.symbol e.symbol
      (and_right (is kind_security security_was) (same_symbol security_was.symbol e.symbol)
      (sym (by_symbol_holds e.symbol security_was) ∙ h))
      in
      by_symbol_holds s security_was ∙ rw (q, n) (and_false (is kind_security security_was)))

  pub volume_next : (s : Symbol) → there (a_security s) f.rows ≡ true
      → (found (a_security s) (applied f e).rows).m1
      ≡ (found (a_security s) f.rows).m1 + cond (same_symbol e.symbol s) e.n2 0
  volume_next s h =
      ap (λ (r : Row). r.m1) (found_kept (a_security s) (applied f e).rows after_traded (securities_kept s))
      ∙ go (same_symbol e.symbol s) refl
    where
      here : e.symbol ≡ s → found (a_security s) after_traded ≡ traded e security_was
      here q =
          let o : security_was ≡ found (a_security s) f.rows = ap (λ (y : Symbol). found (a_security y) f.rows) q in
          found_same security_was (traded e security_was) f.rows (a_security s) h o
          (same_security s ∙ ap (has_key (a_security s)) o ∙ found_has (a_security s) f.rows h)

      go : (t : Bool) → same_symbol e.symbol s ≡ t
          → (found (a_security s) after_traded).m1
          ≡ (found (a_security s) f.rows).m1 + cond (same_symbol e.symbol s) e.n2 0
      go true q =
          let y = same_symbol_holds e.symbol s q in
          ap (λ (r : Row). r.m1) (here y)
          ∙ ap (λ (x : Symbol). (found (a_security x) f.rows).m1 + e.n2) y
          ∙ rw q
      go false q =
          ap (λ (r : Row). r.m1)
          (found_other security_was (traded e security_was) f.rows (a_security s) (other_security s q)
          (same_security s ∙ other_security s q))
          ∙ rw q (sym (add-zero (found (a_security s) f.rows).m1))

-- ---- all of them
pub volume_after : (s : Symbol) (f : Fed) (es : List Row) → there (a_security s) f.rows ≡ true
    → (found (a_security s) (run applied f es).rows).m1 ≡ (found (a_security s) f.rows).m1 + shares_for s es
unfolding run shares_for total
volume_after s f [] h = sym (add-zero (found (a_security s) f.rows).m1)
volume_after s f (e ∷ es) h =
    let more = volume_after s (applied f e) es (there_next f e s ∙ h) in
    let one = volume_next f e s h in
    more
    ∙ rw one
    (add_assoc (found (a_security s) f.rows).m1 (cond (same_symbol e.symbol s) e.n2 0) (shares_for s es))

pub volumes_fit_holds : (f : Fed) (es : List Row) → every (λ (e : Row). there (a_security e.symbol) f.rows) es ≡ true
    → volumes_fit (run applied f es).rows es
    ≡ every
    (λ (e : Row).
    leb ((found (a_security e.symbol) f.rows).m1 + shares_for e.symbol es) volume.high)
    es
volumes_fit_holds f es h =
    every_on (λ (e : Row). there (a_security e.symbol) f.rows)
    (λ (e : Row). leb (found (a_security e.symbol) (run applied f es).rows).m1 volume.high)
    (λ (e : Row). leb ((found (a_security e.symbol) f.rows).m1 + shares_for e.symbol es) volume.high)
    es h (λ e k. ap (λ (x : ℕ). leb x volume.high) (volume_after e.symbol f es k))
