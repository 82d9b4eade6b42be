-- A result that is done leaves S6, S7 and S10: requests, histories and lot histories agree with the trades' statuses.
-- Assumes nothing.
use Rattle.std.specs.Prelude.{◌≡◌, Bool, true, ℕ, ◌≤◌, eqb, ltb, length}
use Rattle.std.proofs.Math.Path.{refl, ap}
use Rattle.std.proofs.Common.{sym, subst, ◌∙◌}
use Rattle.std.proofs.Math.Bool.{false, false≢true}
use mathlib.Core.List.{List, Memᴰ}
use native.Mathlib.Omega.{arith}
use borrow.Author.Tests.{eq-eqb, eqb-false, eqb-true, ne_eqb, le-leb, lt-ltb, ltb-true}
use Rattle.laws.specs.Keep.{count_has}
use Rattle.laws.specs.Search.{count}
use Rattle.laws.specs.Tests.{and_both, and_left, and_right}
use Rattle.laws.specs.Puts.{Fewer, Quiet, count_less}
use Rattle.record.specs.Codes.{completed, kind_account, kind_broker, kind_cash, kind_free, kind_lot, kind_lot_history}
use Rattle.record.specs.Codes.{kind_request, kind_settlement, kind_summary, kind_trade, kind_trade_history, pending}
use Rattle.record.specs.Codes.{submitted, tlb}
use Rattle.keys.specs.Key.{key_of}
use Rattle.keys.specs.declared.Key.{Key}
use Rattle.record.specs.declared.row.Row.{Row}
use Rattle.model.specs.Lots.{Closing}
use Rattle.model.specs.Names.{a_history, a_request, a_summary, a_trade, an_account}
use Rattle.model.specs.Rows.{found, has_key, is, nothing, same_row, there}
use Rattle.model.specs.Sound.{agrees, higher}
use Rattle.model.specs.SoundMeans.{S10, S6, S7}
use Rattle.model.specs.Result.{Sums, added, broker_write, trade_write, holding}
use Rattle.facts.specs.Found.{found_has, found_member}
use Rattle.facts.specs.Names.{by_party_holds, of_id}
use Rattle.facts.specs.Keys.{own_key, key_of_holds}
use Rattle.facts.specs.Result.{Read}
use Rattle.preserved.specs.Looks.{agrees_of, agrees_by}
use Rattle.preserved.specs.Cases.{no, not_so}
use Rattle.preserved.specs.ResultAfter.{Still, after_each, after_fewer, key_stays, quiet_count, quiet_found, still}
use Rattle.preserved.specs.ResultEach.{Each, by_kind, cash_of, each_write, history_of, lot_after, lot_opened}
use Rattle.preserved.specs.ResultEach.{settlement_of, summary_after, summary_opened}
use Rattle.preserved.specs.ResultFresh.{book, found_one}
use Rattle.preserved.specs.ResultTrades.{done, done_now, done_stays, each_trade, history_comes, left}

module _ {rs : List Row} {t summary account broker : Row} {cs : List Closing}
    (r : Read rs t summary account broker cs) (n : Sums)
    (s_own : summary ≡ found (a_summary t.party t.symbol) rs)
    (space : length (added t summary cs n) ≤ count (same_row nothing) rs) where
  abbrev now : List Row
  now = left r n s_own space

  -- ---- S6: no request is written, and an account keeps its broker
  requests : Still kind_request
  requests = (refl, refl)

  same_requests : (i : ℕ) → count (has_key (a_request i)) now ≡ count (has_key (a_request i)) rs
  same_requests i =
      quiet_count r n space (has_key (a_request i))
      (still r n space kind_request requests (has_key (a_request i)) (key_of_holds (a_request i)))

  -- the account that may have changed
  account_own : has_key (an_account account.party) account ≡ true
  account_own =
      by_party_holds kind_account refl account.party account
      ∙ and_both (is kind_account account) (eqb account.party account.party)
      (eq-eqb account.kind kind_account r.a_kind)
      (eq-eqb account.party account.party refl)

  own_broker : (x : Row) → Memᴰ x now → has_key (an_account account.party) x ≡ true → x.n1 ≡ account.n1
  own_broker =
      after_each r n space (λ (x : Row). p x ≡ true → x.n1 ≡ account.n1)
      (λ x m e.
      ap (λ (y : Row). y.n1)
      (sym (found_one rs (book r n).s2 k x (λ z. omega arith) m e)
      ∙ found_one rs (book r n).s2 k account (λ z. omega arith) r.a_held account_own))
      (by_kind r n (λ (w : Row × Row). p w.1 ≡ true → w.1.n1 ≡ account.n1) kind_account p (key_of_holds k)
      refl (λ w a b h. no b h) (no refl) (no refl) (no refl) (λ e h. refl) (no refl) (no refl))
    where
      k : Key
      k = an_account account.party

      p : Row → Bool
      p = has_key k

  same_broker : (i : ℕ) → (found (an_account i) now).n1 ≡ (found (an_account i) rs).n1
  unfolding there
  same_broker i = go (eqb account.party i) refl
    where
      mine : (found (an_account account.party) now).n1 ≡ (found (an_account account.party) rs).n1
      mine =
          let k = an_account account.party in
          let was = count_has (has_key k) account rs r.a_held account_own in
          let more = key_stays r n space k refl in
          let some = le-leb 1 (count (has_key k) now) (omega arith) in
          own_broker (found k now) (found_member now k some) (found_has k now some)
          ∙ ap (λ (y : Row). y.n1)
          (sym (found_one rs (book r n).s2 k account (λ z. omega arith) r.a_held account_own))

      off : (x : Row) → x.party ≡ account.party → (account.party ≡ i → ⊥) → has_key (an_account i) x ≡ false
      off x q ne =
          not_so (has_key (an_account i) x) (λ e.
          let h = and_right (is kind_account x) (eqb x.party i) (sym (by_party_holds kind_account refl i x) ∙ e) in
          ne (sym q ∙ eqb-true x.party i h))

      go : (b : Bool) → eqb account.party i ≡ b → (found (an_account i) now).n1 ≡ (found (an_account i) rs).n1
      go true e =
          subst (λ (j : ℕ). (found (an_account j) now).n1 ≡ (found (an_account j) rs).n1)
          (eqb-true account.party i e)
          mine
      go false e =
          let ne = eqb-false account.party i e in
          ap (λ (y : Row). y.n1)
          (quiet_found r n space (an_account i)
          (by_kind r n (Quiet (has_key (an_account i))) kind_account (has_key (an_account i)) (key_of_holds (an_account i))
          refl (λ w a b. (a, b)) (no refl) (no refl) (no refl)
          (λ q. (off account refl ne, off _ refl ne)) (no refl) (no refl)))

  same_agree : (x : Row) → count (agrees now x) now ≡ count (agrees rs x) rs
  same_agree x =
      ap (λ (m : ℕ). count (agrees_by m x) now) (same_broker x.party)
      ∙ quiet_count r n space (agrees_by b x) (still r n space kind_request requests (agrees_by b x) (agrees_of b x))
    where
      b : ℕ
      b = (found (an_account x.party) rs).n1

  pub requests_left : S6 now
  requests_left =
      each_trade r n s_own space
      (λ (x : Row).
      (x.status ≡ pending → (tlb ≤ x.form) × (count (agrees now x) now ≡ 1))
      × ((x.status ≡ pending → ⊥) → count (has_key (a_request x.id)) now ≡ 0)) (
        λ e. absurd (let z : ◌≡◌ {A = ℕ} completed pending = e in omega arith),
        λ e.
            same_requests t.id
            ∙ ((book r n).s6 t r.t_held r.t_kind).1
            (λ q. let z : ◌≡◌ {A = ℕ} submitted pending = sym r.t_status ∙ q in omega arith),
      )
      (λ x m k ne.
      let was = (book r n).s6 x m k in (
        λ e. ((was.0 e).0, same_agree x ∙ (was.0 e).1),
        λ e. same_requests x.id ∙ was.1 e,
      ))

  -- ---- S7
  no_higher : (x : Row) → (higher x (history_of t n) ≡ true → ⊥) → count (higher x) now ≤ count (higher x) rs
  no_higher x none =
      after_fewer r n space (higher x)
      (by_kind r n (Fewer (higher x)) kind_trade_history (higher x) (λ y d. rw (ne_eqb y.kind kind_trade_history d))
      refl (λ w a b h. no b h)
      (λ e h. absurd (none h)) (no refl) (no refl) (no refl) (no refl) (no refl))

  higher_still : (y : Row) → higher (done r n s_own space) y ≡ true → higher t y ≡ true
  higher_still y h =
      let i = of_id kind_trade_history t.id y in
      let s = ltb-true completed y.status (and_right i (ltb completed y.status) h) in
      and_both i (ltb t.status y.status) (and_left i (ltb completed y.status) h)
      (ap (λ (a : ℕ). ltb a y.status) r.t_status ∙ lt-ltb submitted y.status (omega arith))

  pub histories_left : S7 now
  unfolding key_of
  histories_left =
      each_trade r n s_own space
      (λ (x : Row). (1 ≤ count (has_key (a_history x.id x.status)) now) × (count (higher x) now ≡ 0)) (
        count_has (has_key (a_history t.id completed)) (history_of t n) now (history_comes r n s_own space)
            (own_key (history_of t n)),
        let few = no_higher (done r n s_own space) (λ h. false≢true (and_right (eqb t.id t.id) false h)) in
            let less = count_less (higher (done r n s_own space)) (higher t) rs (λ y m h. higher_still y h) in
            let none = ((book r n).s7 t r.t_held r.t_kind).1 in
            omega arith,
      )
      (λ x m k ne.
      let was = (book r n).s7 x m k in
      let some = was.0 in
      let none = was.1 in
      let stays = key_stays r n space (a_history x.id x.status) refl in
      let few =
      no_higher x
      (λ h.
      ne (eqb-true t.id x.id (and_left (eqb t.id x.id) (ltb x.status completed) h)))
      in
      (omega arith, omega arith))

  -- ---- S10
  abbrev Done : Row → Type 0
  Done x =
      x.kind ≡ kind_lot_history
      → ((found (a_trade x.id) now).status ≡ completed) × ((found (a_trade x.m2) now).status ≡ completed)

  other : (j : ℕ) → eqb j kind_lot_history ≡ false → (x : Row) → x.kind ≡ j → Done x
  other j e x q h = absurd (eqb-false j kind_lot_history e (sym q ∙ h))

  come_done : Each t summary account cs n (λ (w : Row × Row). Done w.1)
  come_done =
      let mine = done_now r n s_own space in
      record {
        closed = λ c m k.
            let h = r.c_held c m in
            (done_stays r n s_own space c.lot.id (((book r n).s8 c.lot h.0).0 h.1).0.0.0.0, mine);
        opened = λ z k. (mine, mine);
        lot = λ z. other kind_lot refl (lot_opened t n) refl;
        begun = λ z. other kind_summary refl (summary_opened t summary) refl;
        history = other kind_trade_history refl (history_of t n) refl;
        settled = other kind_settlement refl (settlement_of t n) refl;
        paid = λ z. other kind_cash refl (cash_of t n) refl;
        less = λ c m z. other kind_lot refl (lot_after t c) (r.c_held c m).1;
        summed = λ z g. other kind_summary refl (summary_after t summary) (r.s_held z).1;
        balanced = other kind_account refl (holding account n.balance) r.a_kind;
        trade = other kind_trade refl (trade_write t n).1 r.t_kind;
        freed = λ c m. other kind_free refl nothing refl;
        emptied = λ z. other kind_free refl nothing refl;
      }

  pub lot_histories_left : S10 now
  lot_histories_left =
      after_each r n space Done
      (λ x m k.
      let was = (book r n).s10 x m k in
      (done_stays r n s_own space x.id was.0, done_stays r n s_own space x.m2 was.1))
      (each_write r n (λ (w : Row × Row). Done w.1) come_done
      (other kind_broker refl (broker_write broker n).1 r.b_kind))
