-- The own rule of a row by what is found of the rows that it names, and S1 and S2 with it. Assumes nothing.
use Rattle.std.specs.Prelude.{◌≡◌, Bool, true, false, ◌&&◌, List, ℕ, ◌+◌, ◌/◌, ◌≤◌, ◌<◌, eqb, ltb, length, get_or}
use Rattle.std.proofs.Math.Path.{refl, sym}
use Rattle.std.proofs.Common.{◌∙◌, eqb-true, le-leb, le-ltb, lt-ltb}
use Rattle.std.proofs.lemmas.Bool.{eqb-false}
use Rattle.laws.specs.Place.{every_at}
use Rattle.laws.specs.Search.{place}
use Rattle.laws.specs.Tests.{and_true}
use Rattle.record.specs.Codes.{kind_free, kind_summary, kind_trade}
use Rattle.kinds.specs.Kinds.{trade_of}
use Rattle.kinds.specs.declared.rows.Trade.{Trade}
use Rattle.keys.specs.Key.{key_of}
use Rattle.rules.specs.Rules.{fits}
use Rattle.model.specs.Names.{a_security, an_account, named}
use Rattle.model.specs.Rows.{has_key, nothing, rows, there}
use Rattle.model.specs.Sound.{s1}
use Rattle.facts.specs.Rows.{length_rows}
use Rattle.places.specs.Rows.{row_at}
use Rattle.chains.specs.Chains.{half}
use Rattle.directory.specs.Found.{key_there}
use Rattle.directory.specs.Listed.{Listed, key_grouped, own_group, own_key, probe_next, probe_none}
use Rattle.by_kind.specs.Distinct.{last_free, last_kept, last_at}
use Rattle.clauses.specs.Hung.{hangs}
use Rattle.clauses.specs.Own.{own_rule, own_well}
use Rattle.by_kind.specs.Kinds.{by_itself}
use Rattle.by_group.specs.Kept.{summary_kept}
use Rattle.by_group.specs.Rules.{names_two}

pub summary_told : (b : List ℕ) (i : ℕ) {x : Bool} → i < length b / 64 → (row_at b i).kind ≡ kind_summary
    → s1 (rows b) ≡ true
    → x ≡ (there (an_account (row_at b i).party) (rows b) && there (a_security (row_at b i).symbol) (rows b)
    && summary_kept (rows b) (row_at b i))
    → x ≡ (fits (row_at b i) && own_well (rows b) (row_at b i))
unfolding named s1
summary_told b i inside e all h =
    let r = row_at b i in
    let fit : fits r ≡ true = every_at fits nothing (rows b) i all (rw length_rows inside) in
    let names = names_two (rows b) r (an_account r.party) (a_security r.symbol) (rw e) refl refl in
    h ∙ rw (names, fit, own_rule kind_summary (rows b) r e)

and_none : (f a : Bool) → false ≡ (f && (a && false))
and_none true true = refl
and_none true false = refl
and_none false a = refl

module _ (b : List ℕ) (i : ℕ) (e : (row_at b i).kind ≡ kind_trade) {t : Trade} (row : t ≡ trade_of (row_at b i)) {p : ℕ}
    (at : p ≡ place (has_key (a_security t.symbol)) (rows b)) where
  own_trade : own_well (rows b) (row_at b i)
      ≡ (there (an_account t.account.0) (rows b) && there (a_security t.symbol) (rows b))
  unfolding named trade_of
  own_trade =
      let r = row_at b i in
      own_rule kind_trade (rows b) r e
      ∙ sym (names_two (rows b) r (an_account r.party) (a_security r.symbol) (rw e) refl refl) ∙ rw row

  pub trade_lost : length b / 64 ≤ p → false ≡ (fits (row_at b i) && own_well (rows b) (row_at b i))
  trade_lost h =
      let gone = sym (key_there (a_security t.symbol) b at) ∙ le-ltb p (length b / 64) h in
      rw (own_trade, gone) (and_none (fits (row_at b i)) (there (an_account t.account.0) (rows b)))

  pub trade_told : {x : Bool} {q : ℕ} → p < length b / 64 → x ≡ fits (row_at b i)
      → q ≡ place (has_key (an_account t.account.0)) (rows b)
      → (x && ltb q (length b / 64)) ≡ (fits (row_at b i) && own_well (rows b) (row_at b i))
  trade_told h k a =
      let here = sym (key_there (a_security t.symbol) b at) ∙ lt-ltb p (length b / 64) h in
      let known = key_there (an_account t.account.0) b a in
      rw (own_trade, here, k, known, and_true)

-- ---- S2
-- where the chain of a directory ends at the row, its key stands nowhere after it
pub ends_last : {b d : List ℕ} → Listed b d → {i c : ℕ} → i < length b / 64 → hangs (row_at b i) ≡ false
    → c ≡ get_or d (half d + i) 0 → length b / 64 ≤ c → true ≡ last_at b i
ends_last {b} {d} s {i} {c} h alone q e = go (eqb (row_at b i).kind kind_free) refl
  where
    go : (t : Bool) → eqb (row_at b i).kind kind_free ≡ t → true ≡ last_at b i
    go true f = last_free b i refl (eqb-true (row_at b i).kind kind_free f)
    go false f =
        let r = row_at b i in
        let n = by_itself r alone in
        let keyed = key_grouped (key_of r) (own_key r n refl) in
        let at = probe_none (probe_next s keyed (own_group r n refl b i refl) h q) e
        in
        sym (le-leb (length b / 64) c e) ∙ last_kept b i h refl (eqb-false r.kind kind_free f) at

swap : (f l o : Bool) → (l && (f && o)) ≡ (f && l && o)
swap true true o = refl
swap true false o = refl
swap false true o = refl
swap false false o = refl

-- and S1 and the own rule beside it
pub told_last : (b : List ℕ) (i : ℕ) {x y : Bool} → x ≡ last_at b i
    → y ≡ (fits (row_at b i) && own_well (rows b) (row_at b i))
    → (x && y) ≡ (fits (row_at b i) && last_at b i && own_well (rows b) (row_at b i))
told_last b i h k = rw (h, k) (swap (fits (row_at b i)) (last_at b i) (own_well (rows b) (row_at b i)))
