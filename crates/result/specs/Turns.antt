-- The rows that a result changes or frees are ready for it: each stays in its group, or goes and is no trade, and no
-- two stand at the same place. Assumes nothing.
use Rattle.std.specs.Prelude.{◌≡◌, refl, Bool, true, false, ℕ, ◌≤◌, eqb, leb, get_or}
use Rattle.std.proofs.Common.{sym, ap, ◌∙◌, arith, eqb-true, leb-false}
use Rattle.std.proofs.lemmas.Bool.{false≢true}
use mathlib.Core.List.{List, map, Memᴰ}
use Rattle.laws.specs.All.{All, all_map}
use Rattle.laws.specs.Keep.{count_map, the_has}
use Rattle.laws.specs.Place.{the_passes}
use Rattle.laws.specs.Puts.{count_less}
use Rattle.laws.specs.Search.{count, the}
use Rattle.record.specs.Codes.{kind_account, kind_broker, kind_free, kind_lot, kind_summary, kind_trade}
use Rattle.record.specs.declared.row.Row.{Row}
use Rattle.keys.specs.Key.{key_of}
use Rattle.model.specs.Lots.{Closing}
use Rattle.model.specs.Result.{Sums, broker_write, holding, left_of}
use Rattle.model.specs.Result.{summed_shares, trade_write}
use Rattle.model.specs.Rows.{has_key, is, nothing, rows}
use Rattle.facts.specs.Keys.{own_key}
use Rattle.facts.specs.Result.{Read, writes}
use Rattle.facts.proofs.Result.{all_own, all_writes, writes_once}
use Rattle.facts.specs.Sound.{once}
use Rattle.chains.specs.Group.{account_stays, broker_stays, group_of, lot_stays, summary_stays, trade_stays}
use Rattle.directory.specs.Directory.{Directory}
use Rattle.directory.specs.declared.totals.Totals.{Totals}
use Rattle.result.specs.Place.{at_spot, placed, spot}
use Rattle.written.specs.Turned.{Ready, Turn}

-- what a row becomes
record Moves (w : Row × Row) : Type 0 where
  stays : is kind_free w.1 ≡ false → group_of w.1 ≡ group_of w.0
  goes : is kind_free w.1 ≡ true → is kind_trade w.0 ≡ false

kept : {o n : Row} → group_of n ≡ group_of o → (is kind_free n ≡ true → is kind_trade o ≡ false) → Moves (o, n)
kept e f = record { stays = λ h. e; goes = f }

gone_row : {o : Row} {k : ℕ} → o.kind ≡ k → eqb k kind_trade ≡ false → Moves (o, nothing)
gone_row {o} {k} e f = record {
  stays = λ h. absurd (false≢true (sym h));
  goes = λ h. ap (λ (x : ℕ). eqb x kind_trade) e ∙ f;
}

no_trade : (o : Row) (k : ℕ) → o.kind ≡ k → eqb k kind_trade ≡ false → is kind_trade o ≡ false
no_trade o k e f = ap (λ (x : ℕ). eqb x kind_trade) e ∙ f

module _ {rs : List Row} {t summary account broker : Row} {cs : List Closing}
    (r : Read rs t summary account broker cs) (n : Sums) where
  trade_moves : Moves (trade_write t n)
  trade_moves =
      kept (trade_stays (trade_write t n).1 t r.t_kind r.t_kind refl)
      (λ q. absurd (false≢true (sym (ap (λ (x : ℕ). eqb x kind_free) r.t_kind) ∙ q)))

  broker_moves : Moves (broker_write broker n)
  broker_moves =
      kept (broker_stays (broker_write broker n).1 broker r.b_kind r.b_kind refl)
      (λ q. no_trade broker kind_broker r.b_kind refl)

  all_move : All Moves (writes t summary account broker cs n)
  all_move =
      all_writes Moves t summary account broker cs n
      (λ c m.
      let h = (r.c_held c m).1 in
      kept (lot_stays (holding c.lot (left_of t.form c)) c.lot h h refl refl)
      (λ z. no_trade c.lot kind_lot h refl))
      (λ c m. gone_row (r.c_held c m).1 refl)
      (λ live.
      let h = (r.s_held live).1 in
      kept (summary_stays (holding summary (summed_shares t summary)) summary h h refl refl)
      (λ q. no_trade summary kind_summary h refl))
      (λ live. gone_row (r.s_held live).1 refl)
      (kept (account_stays (holding account n.balance) account r.a_kind r.a_kind refl)
      (λ q. no_trade account kind_account r.a_kind refl))
      trade_moves broker_moves

  abbrev ws : List (Row × Row)
  ws = writes t summary account broker cs n

  -- each is found at its place
  there_is : (w : Row × Row) → Memᴰ w ws → get_or rs (spot rs w.0) nothing ≡ w.0
  there_is w m =
      let o = all_own r n w m in
      at_spot rs r.good w.0 o.held o.live

  all_turn : All (Turn rs) (map (placed rs) ws)
  all_turn =
      all_map (placed rs) (Turn rs) ws
      (λ w m.
      let e = there_is w m in
      let h = all_move w m in
      record {
        live = ap (is kind_free) e ∙ (all_own r n w m).live;
        stays = λ q. h.stays q ∙ sym (ap group_of e);
        goes = λ q. ap (is kind_trade) e ∙ h.goes q;
      })

  -- two at one place would be one
  apart : (p : ℕ) → count (λ (w : ℕ × Row). eqb p w.0) (map (placed rs) ws) ≤ 1
  apart p =
      let c = count_map (λ (w : ℕ × Row). eqb p w.0) (placed rs) ws in
      let k = go (leb 1 (count at ws)) refl in
      omega arith
    where
      at : Row × Row → Bool
      at w = eqb p (spot rs w.0)

      go : (u : Bool) → leb 1 (count at ws) ≡ u → count at ws ≤ 1
      go false e = let h = leb-false 1 (count at ws) e in omega arith
      go true e =
          let d : Row × Row = (nothing, nothing) in
          let v = the at d ws in
          let m = the_has at d ws e in
          let at-v = eqb-true p (spot rs v.0) (the_passes at d ws e) in
          let o = all_own r n v m in
          let c = once rs r.good v.0 o.held o.live in
          let less =
          count_less at (λ (w : Row × Row). has_key (key_of v.0) w.0) ws
          (λ w k f.
          let same : v.0 ≡ w.0 =
          sym (there_is v m)
          ∙ ap (λ (i : ℕ). get_or rs i nothing) (sym at-v ∙ eqb-true p (spot rs w.0) f)
          ∙ there_is w k
          in
          ap (has_key (key_of v.0)) (sym same) ∙ own_key v.0)
          in
          let one = writes_once r n (key_of v.0) (omega arith) in
          omega arith

pub ready_all : {b d : List ℕ} {tt : Totals} {t summary account broker : Row} {cs : List Closing} → Directory b d tt
    → Read (rows b) t summary account broker cs → (n : Sums)
    → Ready (map (placed (rows b)) (writes t summary account broker cs n)) b d tt
ready_all s r n = record { directory = s; turns = all_turn r n; apart = apart r n }
