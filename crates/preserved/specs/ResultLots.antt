-- S8 after a result that is accepted: a lot names a completed trade of its account and symbol, lots of one account and
-- symbol have one sign, and a summary exists exactly where lots do and equals their sum. The sum of the lots of the
-- trade's account and symbol is what the summary comes to. Assumes nothing.
use Rattle.std.specs.Prelude.{◌≡◌, refl, Bool, true, false, ◌&&◌, cond, not, ◌⊎◌, ℕ, ◌+◌, ◌≤◌, leb, ltb, eqb, ℤ, pos, negsuc, nat_abs, ◌+ℤ◌, length}
use Rattle.std.proofs.Common.{sym, ap, ap₂, subst, ◌∙◌, ⊎_elim, arith, leb-false, leb-true, ltb-false, ltb-true, eq-eqb, eqb-true, to_z-of_z, to_z}
use mathlib.Core.List.{List, Memᴰ, ◌++◌}
use Rattle.std.proofs.lemmas.Bool.{eqb-false}
use Rattle.std.proofs.Math.Facts.{to_z_pos}
use Rattle.std.specs.Int.{w64}
use Rattle.laws.specs.Search.{bit, count, sum_z}
use Rattle.laws.specs.Puts.{count_no}
use Rattle.laws.specs.Keep.{count_has}
use Rattle.laws.specs.Tests.{and_both, and_left, and_right}
use Rattle.record.specs.Codes.{kind_free, kind_lot, kind_summary}
use Rattle.record.specs.Signed.{to_z_high}
use Rattle.record.specs.Symbol.{same_symbol_holds, same_symbol, symbol_same}
use Rattle.record.specs.declared.row.Row.{Row}
use Rattle.record.specs.declared.symbol.Symbol.{Symbol}
use Rattle.rules.specs.Meaning.{means_lot}
use Rattle.rules.proofs.Fits.{means_fits}
use Rattle.rules.specs.Rules.{as_kind}
use Rattle.model.specs.Edit.{bits64}
use Rattle.model.specs.Lots.{Closing, size}
use Rattle.model.specs.Money.{buys}
use Rattle.model.specs.Names.{a_summary}
use Rattle.model.specs.Result.{signed, Sums, added, closing_rows, final_rows, gone, lot_changes, opening_rows}
use Rattle.model.specs.Result.{summary_changes, summary_rows, summed_shares}
use Rattle.model.specs.Rows.{has_key, is, nothing, same_row}
use Rattle.model.specs.Sound.{lot_of, other_sign, shares_of}
use Rattle.model.specs.SoundMeans.{LotRight, S1, S8, SummaryRight, There}
use Rattle.facts.specs.Signed.{sum_fits}
use Rattle.facts.specs.Names.{by_holder}
use Rattle.facts.specs.Result.{Read}
use Rattle.preserved.specs.ResultLotsSides.{signed_size}
use Rattle.preserved.specs.ResultLotsSigns.{count_untouched, lot_kind, lot_party, lot_symbol, not_mine, not_yours}
use Rattle.preserved.specs.ResultLotsSigns.{one_after, signs_right, sum_untouched, third}
use Rattle.preserved.specs.ResultLotsSum.{Walked, sum_after}
use Rattle.preserved.specs.ResultLotsSummary.{has_holder, key_party, key_symbol, no_lots, no_sum, not_not}
use Rattle.preserved.specs.ResultLotsSummary.{nothing_there, summary_own, zero_add}
use Rattle.preserved.specs.ResultEach.{summary_after, summary_opened}
use Rattle.preserved.specs.ResultLotsTrade.{lot_origin, summary_origin}
use Rattle.preserved.specs.ResultLotsLaw.{summaries_law}
use Rattle.preserved.specs.Cases.{by_cases, no, not_so}
use Rattle.preserved.specs.ResultAfter.{added_comes, after, turned_comes}
use Rattle.preserved.specs.ResultFresh.{book, found_one, no_summary, one_key}
use Rattle.preserved.specs.ResultTrades.{unique}

-- ---- numbers
zero_size : (z : ℤ) → nat_abs z ≡ 0 → z ≡ pos 0
zero_size (pos n) e = ap pos e
zero_size (negsuc n) e = absurd (omega arith)

pub some_size : (x : ℕ) → (x ≡ 0 → ⊥) → 1 ≤ nat_abs (to_z w64 x)
some_size x h =
    by_cases (ltb x 9223372036854775808)
    (λ e. rw (to_z_pos w64 {n = x} (ltb-true x 9223372036854775808 e)) (omega (arith, h)))
    (λ e. rw (to_z_high w64 x (ltb-false x 9223372036854775808 e)) (omega arith))

pub not_gone : (z : ℤ) → gone z ≡ false → 1 ≤ nat_abs z
not_gone z e = let h = eqb-false (nat_abs z) 0 e in omega arith

module _ {rs : List Row} {t summary account broker : Row} {cs : List Closing}
    (r : Read rs t summary account broker cs) (n : Sums)
    (space : length (added t summary cs n) ≤ count (same_row nothing) rs) (v : Walked rs t summary cs n) where
  abbrev now : List Row
  now = after r n space

  abbrev share_of : Row → ℤ
  share_of x = shares_of t.party t.symbol x

  abbrev of_lots : Row → Bool
  of_lots x = lot_of t.party t.symbol x

  abbrev own : Row → Bool
  own x = has_key (a_summary t.party t.symbol) x

  abbrev summed : ℤ
  summed = summed_shares t summary

  -- ---- the sum of the lots is the summary's, before and after
  lots_none : is kind_free summary ≡ true → count of_lots rs ≡ 0
  lots_none free =
      count_no of_lots rs
      (λ l m. not_so (of_lots l) (λ p.
      let w = (((book r n).s8 l m).0 (lot_kind t.party t.symbol l p)).1 in
      let q : 1 ≤ count own rs =
      rw (lot_party t.party t.symbol l p, lot_symbol t.party t.symbol l p) at w
      in
      let none = no_summary r n (sym v.own) free in
      omega arith))

  sum_before : sum_z share_of rs ≡ to_z w64 summary.m1
  sum_before =
      by_cases (is kind_free summary)
      (λ e. no_lots t.party t.symbol rs (lots_none e) ∙ sym (nothing_there r n space v e))
      (λ e.
      let h = r.s_held e in
      let k = summary_own r n space v e in
      ap₂ (λ (a : ℕ) (y : Symbol). sum_z (shares_of a y) rs) (sym (key_party t.party t.symbol summary k))
      (sym (key_symbol t.party t.symbol summary k))
      ∙ (((book r n).s8 summary h.0).1 h.1).1)

  sum_now : sum_z share_of now ≡ summed
  sum_now = sum_after r n space v ∙ ap (λ (z : ℤ). z +ℤ signed t.form t.n1) sum_before

  summed_bits : to_z w64 (bits64 summed) ≡ summed
  summed_bits =
      let k = signed_size (buys t.form) t.n1 in
      let m = v.most in
      to_z-of_z (sum_fits (to_z w64 summary.m1) (signed t.form t.n1) v.near (omega arith))

  pub fresh_some : is kind_free summary ≡ true → 1 ≤ nat_abs summed
  fresh_some free =
      let e : nat_abs summed ≡ t.n1 =
      ap nat_abs (ap (λ (z : ℤ). z +ℤ signed t.form t.n1) (nothing_there r n space v free)
      ∙ zero_add (signed t.form t.n1))
      ∙ signed_size (buys t.form) t.n1
      in
      let s = v.some in
      omega arith

  module _ (fit : S1 now) where
    -- ---- no lot is left where the summary comes to zero
    sized : (x : Row) → Memᴰ x now → of_lots x ≡ true → 1 ≤ size x
    sized x m e =
        let k = lot_kind t.party t.symbol x e in
        let h = (means_lot x).shows (as_kind kind_lot x k ∙ (means_fits x).holds (fit x m)) in
        some_size x.m1 h.0.0.1

    none_left : gone summed ≡ true → count of_lots now ≡ 0
    none_left g =
        let d = buys t.form in
        let z = sum_now ∙ zero_size summed (eqb-true (nat_abs summed) 0 g) in
        ⊎_elim
        (λ u. no_sum t.party t.symbol now d (λ x m e. (not_yours r n space v x m e u, sized x m e)) z)
        (λ u. no_sum t.party t.symbol now (not d)
        (λ x m e. (not_mine r n space v x m e u ∙ sym (not_not d), sized x m e)) z)
        (one_after r n space v)

    -- ---- summaries that are there
    key_off : (a : ℕ) (y : Symbol) (x : Row) → is kind_summary x ≡ false → bit (has_key (a_summary a y) x) ≡ 0
    key_off a y x e = rw (by_holder a y x, e)

    there_law : (a : ℕ) (y : Symbol)
        → count (has_key (a_summary a y)) now + cond (is kind_free summary) 0 (bit (has_key (a_summary a y) summary))
        ≡ count (has_key (a_summary a y)) rs
        + (cond (is kind_free summary) (bit (has_key (a_summary a y) (summary_opened t summary))) 0
        + cond (is kind_free summary) 0
        (cond (gone summed) 0 (bit (has_key (a_summary a y) (summary_after t summary)))))
    unfolding count
    there_law a y = summaries_law r n space (λ x. bit (has_key (a_summary a y) x)) (key_off a y)

    -- that of another account or symbol stays
    there_apart : (a : ℕ) (y : Symbol) → (eqb t.party a && same_symbol t.symbol y) ≡ false → There (a_summary a y) rs
        → There (a_summary a y) now
    there_apart a y apart h =
        let law = there_law a y in
        let off : cond (is kind_free summary) 0 (bit (has_key (a_summary a y) summary)) ≡ 0 =
        by_cases (is kind_free summary) (λ e. rw e)
        (λ e.
        let k = summary_own r n space v e in
        let q : has_key (a_summary a y) summary ≡ false =
        by_holder a y summary
        ∙ rw (key_party t.party t.symbol summary k, key_symbol t.party t.symbol summary k)
        (third (is kind_summary summary) (eqb t.party a) (same_symbol t.symbol y) apart)
        in
        rw (e, q))
        in
        omega arith

    -- ---- the summary that comes, where the shares do not come to zero
    abbrev writes : Bool → Row
    writes b = cond b (summary_opened t summary) (summary_after t summary)

    abbrev written : Row
    written = writes (is kind_free summary)

    abbrev Comes : Row → Type 0
    Comes x = (Memᴰ x now × (own x ≡ true)) × (to_z w64 x.m1 ≡ summed)

    written_comes : gone summed ≡ false → Comes written
    written_comes g =
        by_cases (is kind_free summary)
        (λ e.
        let h12 = closing_rows t cs ++ opening_rows t n.price n.left n.time in
        let w = summary_opened t summary in
        let first : Memᴰ w (summary_rows t summary) = rw e (mathlib.Core.List.Memᴰ.head refl) in
        let here : Memᴰ w now =
        added_comes r n space w
        (mathlib.Core.List.Memᴰ.append_left (final_rows t n.amount n.time) (mathlib.Core.List.Memᴰ.append_right h12 first))
        in
        subst (λ (b : Bool). Comes (writes b)) (sym e)
        ((here, has_holder t.party t.symbol w refl refl refl), summed_bits))
        (λ e.
        let w = summary_after t summary in
        let k = summary_own r n space v e in
        let first : Memᴰ (summary, w) (summary_changes t summary) = rw (e, g) (mathlib.Core.List.Memᴰ.head refl) in
        let here : Memᴰ w now =
        turned_comes r n space (summary, w)
        (mathlib.Core.List.Memᴰ.append_left _ (mathlib.Core.List.Memᴰ.append_left _ (mathlib.Core.List.Memᴰ.append_left _ (mathlib.Core.List.Memᴰ.append_left _
        (mathlib.Core.List.Memᴰ.append_right (lot_changes t cs) first)))))
        in
        let own = has_holder t.party t.symbol w (r.s_held e).1 (key_party t.party t.symbol summary k)
        (key_symbol t.party t.symbol summary k)
        in
        subst (λ (b : Bool). Comes (writes b)) (sym e) ((here, own), summed_bits))

    -- and no other summary is of its account and symbol
    own_is : (s : Row) → Memᴰ s now → own s ≡ true → (gone summed ≡ false) × (s ≡ written)
    own_is s m o =
        by_cases (gone summed)
        (λ g. absurd (none g))
        (λ g.
        let w = (written_comes g).0 in
        let k = a_summary t.party t.symbol in
        let u = unique r n (sym v.own) space in
        let is = found_one now u k s (λ z. omega arith) m o in
        (g, sym is ∙ found_one now u k written (λ z. omega arith) w.0 w.1))
      where
        none : gone summed ≡ true → ⊥
        none g =
            by_cases (is kind_free summary)
            (λ f. let b = fresh_some f in let z = eqb-true (nat_abs summed) 0 g in omega arith)
            (λ f.
            let law = there_law t.party t.symbol in
            let z1 : cond (is kind_free summary) 0 (bit (own summary)) ≡ 1 = rw (f, summary_own r n space v f) in
            let z2 : cond (is kind_free summary) (bit (own (summary_opened t summary))) 0 ≡ 0 = rw f in
            let z3 : cond (is kind_free summary) 0 (cond (gone summed) 0 (bit (own (summary_after t summary)))) ≡ 0 =
            rw (f, g)
            in
            let most = one_key rs (book r n).s2 (a_summary t.party t.symbol) (λ z. omega arith) in
            let here = count_has own s now m o in
            omega arith)

    -- it is there where a lot is
    there_own : (l : Row) → Memᴰ l now → of_lots l ≡ true → There (a_summary t.party t.symbol) now
    there_own l m e =
        by_cases (gone summed)
        (λ g. let c = none_left g in let k = count_has of_lots l now m e in absurd (omega arith))
        (λ g. let w = (written_comes g).0 in count_has own written now w.0 w.1)

    -- ---- a row of another account or symbol was there
    was_there : (x : Row) → (eqb t.party x.party && same_symbol t.symbol x.symbol) ≡ false
        → Memᴰ x rs ⊎ ((x.party ≡ t.party) × (x.symbol ≡ t.symbol)) → Memᴰ x rs
    was_there x e =
        ⊎_elim (λ h. h)
        (λ h.
        no e
        (and_both (eqb t.party x.party) (same_symbol t.symbol x.symbol) (eq-eqb t.party x.party (sym h.0))
        (symbol_same t.symbol x.symbol (sym h.1))))

    -- ---- a lot
    lot_right_holds : (l : Row) → Memᴰ l now → l.kind ≡ kind_lot → LotRight now l
    lot_right_holds l m k =
        let o = lot_origin r n space v l m k in
        by_cases (eqb t.party l.party && same_symbol t.symbol l.symbol)
        (λ e.
        let p : t.party ≡ l.party =
        eqb-true t.party l.party (and_left (eqb t.party l.party) (same_symbol t.symbol l.symbol) e)
        in
        let s : t.symbol ≡ l.symbol =
        same_symbol_holds t.symbol l.symbol (and_right (eqb t.party l.party) (same_symbol t.symbol l.symbol) e)
        in
        let held : of_lots l ≡ true =
        rw (eq-eqb l.kind kind_lot k, eq-eqb l.party t.party (sym p), symbol_same l.symbol t.symbol (sym s))
        in
        let there : There (a_summary l.party l.symbol) now = rw (← p, ← s) (there_own l m held) in
        ((o.1, signs_right r n space v l m held), there))
        (λ e.
        let w = ((book r n).s8 l (was_there l e o.0)).0 k in
        let c = count_untouched r n space v l.party l.symbol e (other_sign l) (λ x q. rw q) ∙ w.0.1 in
        ((o.1, c), there_apart l.party l.symbol e w.1))

    -- ---- a summary
    -- the trade's own holds the sum, of some lots
    own_right : (s : Row) → Memᴰ s now → own s ≡ true → SummaryRight now s
    own_right s m o =
        let (g, same) = own_is s m o in
        let q : to_z w64 s.m1 ≡ summed = ap (λ (x : Row). to_z w64 x.m1) same ∙ (written_comes g).1 in
        let some : 1 ≤ count of_lots now =
        by_cases (leb 1 (count of_lots now)) (leb-true 1 (count of_lots now))
        (λ e.
        let c = leb-false 1 (count of_lots now) e in
        let z = ap nat_abs (sym sum_now ∙ no_lots t.party t.symbol now (omega arith)) in
        let big = not_gone summed g in
        absurd (omega arith))
        in
        rw (key_party t.party t.symbol s o, key_symbol t.party t.symbol s o) (some, sum_now ∙ sym q)

    summary_right_holds : (s : Row) → Memᴰ s now → s.kind ≡ kind_summary → SummaryRight now s
    summary_right_holds s m k =
        by_cases (eqb t.party s.party && same_symbol t.symbol s.symbol)
        (λ e.
        let p = and_left (eqb t.party s.party) (same_symbol t.symbol s.symbol) e in
        let q = and_right (eqb t.party s.party) (same_symbol t.symbol s.symbol) e in
        own_right s m
        (has_holder t.party t.symbol s k (sym (eqb-true t.party s.party p))
        (sym (same_symbol_holds t.symbol s.symbol q))))
        (λ e.
        let h = ((book r n).s8 s (was_there s e (summary_origin r n space v s m k))).1 k in
        let c = count_untouched r n space v s.party s.symbol e (lot_of s.party s.symbol) (λ x q. q) in
        let z = h.0 in
        (omega arith, sum_untouched r n space v s.party s.symbol e ∙ h.1))

    pub s8_after : S8 now
    s8_after x m = (lot_right_holds x m, summary_right_holds x m)
