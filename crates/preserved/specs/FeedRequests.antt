-- A feed that is done leaves S6: a trade that is pending then was pending before, and its request still waits; a
-- request whose trade is not pending leaves the book. Assumes nothing.
use Rattle.std.specs.Prelude.{◌≡◌, Bool, not, ◌&&◌, ℕ, eqb}
use Rattle.std.proofs.Math.Path.{refl, sym, ap, subst}
use Rattle.std.proofs.Common.{◌∙◌, arith, eq-eqb, ne_eqb}
use Rattle.std.proofs.Math.Bool.{true, false}
use mathlib.Core.List.{List, Memᴰ}
use Rattle.std.proofs.Math.Logic.{⊎_elim}
use Rattle.laws.specs.All.{All, all_map}
use Rattle.laws.specs.Change.{count_alike, put}
use Rattle.laws.specs.Keep.{count_map, count_on}
use Rattle.laws.specs.Search.{count}
use Rattle.laws.specs.Puts.{count_no, the_one}
use Rattle.record.specs.Codes.{kind_request, kind_trade, pending, submitted}
use Rattle.record.specs.declared.row.Row.{Row}
use Rattle.model.specs.Feed.{swept, traded, waits, sent}
use Rattle.model.specs.Names.{a_request, a_trade, an_account}
use Rattle.model.specs.Rows.{found, has_key, is, nothing, same_row}
use Rattle.model.specs.SoundMeans.{S6, SoundBook}
use Rattle.model.specs.History.{history_row}
use Rattle.facts.specs.Rows.{same_rows}
use Rattle.facts.specs.Found.{own_number}
use Rattle.facts.specs.Keys.{OfKind, key_of_holds, key_kind}
use Rattle.preserved.specs.Looks.{agrees_not, agrees_of, agrees_by}
use Rattle.preserved.specs.FeedCalm.{passes_steps, sweep, sweep_either}
use Rattle.preserved.specs.FeedKeys.{fed_keys}
use Rattle.preserved.specs.FeedRest.{same_found}
use Rattle.preserved.specs.FeedSteps.{Leads}
use Rattle.preserved.specs.ResultTrades.{number_is}

module _ {rs m : List Row} (book : SoundBook rs) (lead : Leads rs m) where
  -- ---- trades
  trade_before : All (λ (x : Row). x.kind ≡ kind_trade → Memᴰ x m) (swept m)
  unfolding swept
  trade_before =
      let P : Row → Type 0 = λ x. x.kind ≡ kind_trade → Memᴰ x m in
      all_map (sweep m) P m
      (λ r i.
      ⊎_elim (λ e. subst P (sym e) (λ k. i)) (λ h. subst P (sym h.0) (λ k. absurd (omega arith))) (sweep_either m r))

  pending_before : All (λ (x : Row). x.kind ≡ kind_trade → x.status ≡ pending → Memᴰ x rs) m
  pending_before =
      passes_steps lead (λ (x : Row). x.kind ≡ kind_trade → x.status ≡ pending → Memᴰ x rs)
      (record {
        security = λ e s g h v p z w. let y = sym h ∙ z in absurd (omega arith);
        trade = λ e t g h w p z y. absurd (omega arith);
        history = λ e t g h p z y. absurd (omega arith);
        free = λ z y. absurd (omega arith);
      })
      (λ x i k w. i)

  -- ---- tests that only requests pass are counted alike until the sweep
  requests_same : (p : Row → Bool) → OfKind kind_request p → count p m ≡ count p rs
  requests_same p of =
      lead (λ (l : List Row). count p l ≡ count p rs)
      (record {
        trades = λ l e s q ih.
            let off : s.kind ≡ kind_request → ⊥ = λ y. let z = sym q.kind ∙ y in omega arith in
            count_alike same_row same_rows p s (traded e s) (of (traded e s) off ∙ sym (of s off)) l ∙ ih;
        sends = λ l e t q ih.
            let off : t.kind ≡ kind_request → ⊥ = λ y. let z = sym q.kind ∙ y in omega arith in
            let h = history_row submitted t.id e.time in
            count_alike same_row same_rows p t (sent e.time t) (of (sent e.time t) off ∙ sym (of t off)) (put same_row nothing h l)
            ∙ count_alike same_row same_rows p nothing h
            (of h (λ y. omega arith) ∙ sym (of nothing (λ y. omega arith))) l
            ∙ ih;
      })
      refl

  -- ---- the requests of a trade
  module _ (x : Row) (i : Memᴰ x m) (k : x.kind ≡ kind_trade) where
    trade_found : found (a_trade x.id) m ≡ x
    unfolding found
    trade_found =
        the_one (has_key (a_trade x.id)) nothing x m (fed_keys book lead (a_trade x.id) (λ z. omega arith)) i
        (own_number kind_trade refl x.id x (eq-eqb x.kind kind_trade k) refl)

    abbrev asked : Row → Bool
    asked r = has_key (a_request x.id) r

    asked_not : asked nothing ≡ false
    asked_not = key_of_holds (a_request x.id) nothing (λ z. omega arith)

    -- it waits where the trade is pending
    asked_waits : (r : Row) → asked r ≡ true
        → (is kind_request r && not (waits m r)) ≡ not (eqb x.status pending)
    asked_waits r y =
        let a : is kind_request r ≡ true = eq-eqb r.kind kind_request (key_kind (a_request x.id) r y) in
        let b : found (a_trade r.id) m ≡ x =
        ap (λ (j : ℕ). found (a_trade j) m) (number_is kind_request refl x.id r y) ∙ trade_found
        in
        let c : eqb (found (a_trade r.id) m).status pending ≡ eqb x.status pending =
        ap (λ (t : Row). eqb t.status pending) b
        in
        rw (a, c)

    asked_stays : x.status ≡ pending → (r : Row) → asked r ≡ true → sweep m r ≡ r
    asked_stays w r y =
        let t : (is kind_request r && not (waits m r)) ≡ false =
        asked_waits r y ∙ ap not (eq-eqb x.status pending w)
        in
        rw t

    asked_goes : (x.status ≡ pending → ⊥) → (r : Row) → asked r ≡ true → sweep m r ≡ nothing
    asked_goes n r y =
        let t : (is kind_request r && not (waits m r)) ≡ true =
        asked_waits r y ∙ ap not (ne_eqb x.status pending n)
        in
        rw t

    others_not : (r : Row) → asked r ≡ false → asked (sweep m r) ≡ false
    others_not r y = ⊎_elim (λ e. ap asked e ∙ y) (λ h. ap asked h.0 ∙ asked_not) (sweep_either m r)

    none_left : (x.status ≡ pending → ⊥) → count asked (swept m) ≡ 0
    unfolding swept
    none_left n =
        count_map asked (sweep m) m
        ∙ count_no (λ r. asked (sweep m r)) m (λ r j. go r (asked r) refl)
      where
        go : (r : Row) (b : Bool) → asked r ≡ b → asked (sweep m r) ≡ false
        go r true y = ap asked (asked_goes n r y) ∙ asked_not
        go r false y = others_not r y

    one_left : (broker : ℕ) → x.status ≡ pending → count (agrees_by broker x) (swept m) ≡ count (agrees_by broker x) rs
    unfolding swept
    one_left broker w =
        let p = agrees_by broker x in
        count_map p (sweep m) m
        ∙ count_on (λ r. p (sweep m r)) p m (λ r j. go r (asked r) refl)
        ∙ requests_same p (agrees_of broker x)
      where
        go : (r : Row) (b : Bool) → asked r ≡ b → agrees_by broker x (sweep m r) ≡ agrees_by broker x r
        go r true y = ap (agrees_by broker x) (asked_stays w r y)
        go r false y =
            agrees_not broker x (sweep m r) (others_not r y) ∙ sym (agrees_not broker x r y)

  pub s6_feed : S6 (swept m)
  s6_feed x j k =
      let i = trade_before x j k in (
        λ w.
            let was = (book.s6 x (pending_before x i k w) k).0 w in
            let same = same_found book lead (an_account x.party) refl in (
              was.0,
              ap (λ (a : Row). count (agrees_by a.n1 x) (swept m)) same
                  ∙ one_left x i k (found (an_account x.party) rs).n1 w
                  ∙ was.1,
            ),
        λ n. none_left x i k n,
      )
