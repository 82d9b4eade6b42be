-- A book is sound where S1 and S2 hold and every row is well: under S1 and S2, what the rows that hang on a trade ask
-- of it and what it asks of them is what S3, S6, S7 and S9 ask of them. Each way is a few lines a kind. Assumes
-- nothing.
use Rattle.std.specs.Prelude.{◌≡◌, Bool, not, ◌&&◌, ◌||◌, ℕ, ◌+◌, ◌≤◌, leb, ltb, get_or}
use Rattle.std.proofs.Math.Path.{refl, sym, ap}
use Rattle.std.proofs.Common.{subst, ◌∙◌, arith}
use Rattle.std.proofs.Math.Bool.{true, false}
use Rattle.std.proofs.lemmas.Bool.{false≢true}
use mathlib.Core.List.{List, [], ◌∷◌, Memᴰ}
use Rattle.std.proofs.Math.Dec.{eqb}
use borrow.Author.Tests.{eq-eqb, eqb-false, eqb-true, le-leb, leb-false, leb-true, lt-leb, lt-ltb, ltb-true}
use Rattle.laws.specs.Keep.{count_has, the_has}
use Rattle.laws.specs.Place.{the_passes}
use Rattle.laws.specs.Search.{bit, count, every, means_every, the}
use Rattle.laws.specs.Tests.{and_both, and_left, and_right, and_true, one_truth}
use Rattle.record.specs.Codes.{completed, kind_account, kind_band, kind_cash, kind_customer, kind_customer_rate, kind_lot}
use Rattle.record.specs.Codes.{kind_lot_history, kind_request, kind_settlement, kind_summary, kind_trade, kind_trade_history}
use Rattle.record.specs.Codes.{kind_permission, last_kind, pending, tlb}
use Rattle.keys.specs.Key.{among}
use Rattle.keys.specs.declared.Key.{Key}
use Rattle.record.specs.Symbol.{same_symbol_holds, same_symbol}
use Rattle.record.specs.declared.row.Row.{Row}
use Rattle.rules.specs.Rules.{fits, no_kind}
use Rattle.model.specs.Flags.{cash}
use Rattle.model.specs.Names.{a_broker, a_cash, a_customer, a_history, a_request, a_security, a_settlement, a_summary, a_trade}
use Rattle.model.specs.Names.{an_account, by_id, named}
use Rattle.model.specs.Rows.{found, has_key, is, nothing, there}
use Rattle.model.specs.Sound.{agrees, each, higher, history_right, names_known, request_right, s1, s2, settled, sound}
use Rattle.model.specs.SoundMeans.{SoundBook, means_sound}
use Rattle.facts.specs.Found.{found_again, own_number}
use Rattle.facts.specs.Names.{by_id_holds, by_party_holds, id_kinds, of_five}
use Rattle.by_kind.specs.ByRow.{kind_right, of_band, of_cash, of_customer, of_lot_holds, of_settlement, of_summary}
use Rattle.by_kind.specs.ByRow.{of_trade, row_right, sound_by_row}
use Rattle.by_kind.specs.Hung.{first_well, hung, hung_well, row_well}
use Rattle.clauses.specs.Hung.{fits_trade, hangs, hung_rule, hung_kinds, hung_rules, nothing_asked}
use Rattle.clauses.specs.Own.{no_rule, own_rule, own_rules, own_well}
use Rattle.by_kind.specs.Once.{found_none, once, agrees_is}
use Rattle.by_kind.specs.RowRules.{lot_history_row_holds, row_both, row_kind, row_names}
use Rattle.by_group.specs.Rules.{as_asked, names_none, names_one, names_three, names_two}

and_five : (a b c d e : Bool) → a ≡ true → b ≡ true → c ≡ true → d ≡ true → e ≡ true
    → (a && b && c && d && e) ≡ true
and_five a b c d e p q r s t = rw (p, q, r, s, t)

five : (a b c d e : Bool) → (a && b && c && d && e) ≡ true
    → ((((a ≡ true) × (b ≡ true)) × (c ≡ true)) × (d ≡ true)) × (e ≡ true)
five a b c d e h =
    let i = and_left (a && b && c && d) e h in
    let j = and_left (a && b && c) d i in
    let k = and_left (a && b) c j in
    let two : (a ≡ true) × (b ≡ true) = (and_left a b k, and_right a b k) in
    (((two, and_right (a && b) c j), and_right (a && b && c) d i), and_right (a && b && c && d) e h)

-- ---- a row that is looked for
module _ (rs : List Row) where
  member : (k : Key) → there k rs ≡ true → Memᴰ (found k rs) rs
  unfolding there found
  member k e = the_has (has_key k) nothing rs e

  passes : (k : Key) → there k rs ≡ true → has_key k (found k rs) ≡ true
  unfolding there found
  passes k e = the_passes (has_key k) nothing rs e

  module _ (k : ℕ) (known : among k id_kinds ≡ true) (i : ℕ) (e : there (by_id k i) rs ≡ true) where
    id_kind : (found (by_id k i) rs).kind ≡ k
    id_kind =
        let t = found (by_id k i) rs in
        eqb-true t.kind k (and_left (is k t) (eqb t.id i) (sym (by_id_holds k known i t) ∙ passes (by_id k i) e))

    id_is : (found (by_id k i) rs).id ≡ i
    id_is =
        let t = found (by_id k i) rs in
        eqb-true t.id i (and_right (is k t) (eqb t.id i) (sym (by_id_holds k known i t) ∙ passes (by_id k i) e))

  account_kind : (p : ℕ) → there (an_account p) rs ≡ true → (found (an_account p) rs).kind ≡ kind_account
  account_kind p e =
      let a = found (an_account p) rs in
      eqb-true a.kind kind_account
      (and_left (is kind_account a) (eqb a.party p) (sym (by_party_holds kind_account refl p a) ∙ passes (an_account p) e))

-- ---- each rule of a row in its parts
module _ (rs : List Row) (r : Row) where
  right_names : row_right rs r ≡ true → names_known rs r ≡ true
  unfolding row_right
  right_names e = and_left (names_known rs r) (kind_right rs r) e

  right_kind : row_right rs r ≡ true → kind_right rs r ≡ true
  unfolding row_right
  right_kind e = and_right (names_known rs r) (kind_right rs r) e

  right_of : names_known rs r ≡ true → kind_right rs r ≡ true → row_right rs r ≡ true
  unfolding row_right
  right_of = and_both (names_known rs r) (kind_right rs r)

  trade_names : r.kind ≡ kind_trade
      → (there (an_account r.party) rs && there (a_security r.symbol) rs) ≡ names_known rs r
  unfolding named
  trade_names e = names_two rs r (an_account r.party) (a_security r.symbol) (rw e) refl refl

  account_names : r.kind ≡ kind_account
      → (there (a_broker r.n1) rs && there (a_customer r.n2) rs) ≡ names_known rs r
  unfolding named
  account_names e = names_two rs r (a_broker r.n1) (a_customer r.n2) (rw e) refl refl

  request_names : r.kind ≡ kind_request
      → (there (a_trade r.id) rs && there (a_broker r.party) rs && there (a_security r.symbol) rs)
      ≡ names_known rs r
  unfolding named
  request_names e =
      names_three rs r (a_trade r.id) (a_broker r.party) (a_security r.symbol) (rw e) refl refl refl

  lot_names : r.kind ≡ kind_lot
      → (there (a_trade r.id) rs && there (an_account r.party) rs && there (a_security r.symbol) rs)
      ≡ names_known rs r
  unfolding named
  lot_names e =
      names_three rs r (a_trade r.id) (an_account r.party) (a_security r.symbol) (rw e) refl refl refl

  one_name : (k : ℕ) → (r.kind ≡ k → named r ≡ a_trade r.id ∷ []) → r.kind ≡ k
      → there (a_trade r.id) rs ≡ names_known rs r
  one_name k f e = names_one rs r (a_trade r.id) (f e) refl

  history_names : r.kind ≡ kind_trade_history → there (a_trade r.id) rs ≡ names_known rs r
  unfolding named
  history_names = one_name kind_trade_history (λ e. rw e)

  settlement_names : r.kind ≡ kind_settlement → there (a_trade r.id) rs ≡ names_known rs r
  unfolding named
  settlement_names = one_name kind_settlement (λ e. rw e)

  cash_names : r.kind ≡ kind_cash → there (a_trade r.id) rs ≡ names_known rs r
  unfolding named
  cash_names = one_name kind_cash (λ e. rw e)

  -- whether it hangs on a trade, or is one, is told by its kind
  module _ (k : ℕ) (e : r.kind ≡ k) where
    hangs_as : hangs r ≡ among k hung_kinds
    hangs_as = ap (λ (x : ℕ). among x hung_kinds) e

    trade_as : is kind_trade r ≡ eqb k kind_trade
    trade_as = ap (λ (x : ℕ). eqb x kind_trade) e

    -- a row that hangs on a trade is well where its trade is there and it fits that
    hung_row : among k hung_kinds ≡ true → eqb k kind_trade ≡ false → own_well rs r ≡ true → row_well rs r ≡ hung_well rs r
    unfolding row_well first_well
    hung_row a b o = rw (o, hangs_as, trade_as, a, b) (and_true (hung_well rs r))

    -- one that does not, and is no trade, where its own rule is kept
    plain_row : among k hung_kinds ≡ false → eqb k kind_trade ≡ false → own_well rs r ≡ row_right rs r
        → row_well rs r ≡ row_right rs r
    unfolding row_well first_well
    plain_row a b o = rw (hangs_as, trade_as, a, b) (and_true (own_well rs r && true) ∙ and_true (own_well rs r) ∙ o)

  well_own : row_well rs r ≡ true → own_well rs r ≡ true
  unfolding row_well first_well
  well_own e =
      and_left (own_well rs r) (not (hangs r) || hung_well rs r)
      (and_left (own_well rs r && (not (hangs r) || hung_well rs r)) (each kind_trade (hung rs) r) e)

  trade_row_holds : r.kind ≡ kind_trade → row_well rs r ≡ (names_known rs r && hung rs r)
  unfolding row_well first_well
  trade_row_holds e =
      rw (own_rule kind_trade rs r e, hangs_as kind_trade e, trade_as kind_trade e)
      (ap (λ (x : Bool). x && hung rs r) (and_true (names_known rs r)))

-- ---- a sound book's rows are well
module _ (rs : List Row) (b : SoundBook rs) (unique : s2 rs ≡ true) (r : Row) (m : Memᴰ r rs)
    (right : row_right rs r ≡ true) where
  -- the trade that a row hangs on
  module _ (e : there (a_trade r.id) rs ≡ true) where
    of : Row
    of = found (a_trade r.id) rs

    of_member : Memᴰ of rs
    unfolding of
    of_member = member rs (a_trade r.id) e

    of_kind : of.kind ≡ kind_trade
    unfolding of
    of_kind = id_kind rs kind_trade refl r.id e

    of_id_holds : of.id ≡ r.id
    unfolding of
    of_id_holds = id_is rs kind_trade refl r.id e

  request_fits_holds : (e : r.kind ≡ kind_request) (h : there (a_trade r.id) rs ≡ true)
      → (eqb (of h).status pending && as_asked rs (of h) r) ≡ true
  request_fits_holds e h = go (eqb (of h).status pending) refl
    where
      six : ((of h).status ≡ pending → (tlb ≤ (of h).form) × (count (agrees rs (of h)) rs ≡ 1))
          × (((of h).status ≡ pending → ⊥) → count (has_key (a_request (of h).id)) rs ≡ 0)
      six = b.s6 (of h) (of_member h) (of_kind h)

      mine : is kind_request r ≡ true
      mine = eq-eqb r.kind kind_request e

      go : (t : Bool) → eqb (of h).status pending ≡ t → (eqb (of h).status pending && as_asked rs (of h) r) ≡ true
      go true p =
          let k = a_request (of h).id in
          let one = (six.0 (eqb-true (of h).status pending p)).1 in
          let both = sym (agrees_is rs unique (of h)) ∙ eq-eqb (count (agrees rs (of h)) rs) 1 one in
          let asked = and_right (there k rs) (as_asked rs (of h) (found k rs)) both in
          let again : found k rs ≡ r = rw (of_id_holds h) (found_again kind_request refl rs unique r m mine) in
          rw p (rw again at asked)
      go false p =
          let none : count (has_key (a_request r.id)) rs ≡ 0 =
          rw (of_id_holds h) at (six.1 (eqb-false (of h).status pending p))
          in
          let some = count_has (has_key (a_request r.id)) r rs m (own_number kind_request refl r.id r mine refl) in
          absurd (omega arith)

  history_fits_holds : (e : r.kind ≡ kind_trade_history) (h : there (a_trade r.id) rs ≡ true)
      → leb r.status (of h).status ≡ true
  history_fits_holds e h = go (leb r.status (of h).status) refl
    where
      go : (t : Bool) → leb r.status (of h).status ≡ t → leb r.status (of h).status ≡ true
      go true p = p
      go false p =
          let none = (b.s7 (of h) (of_member h) (of_kind h)).1 in
          let over = lt-ltb (of h).status r.status (leb-false r.status (of h).status p) in
          let mine = and_both (is kind_trade_history r) (eqb r.id (of h).id) (eq-eqb r.kind kind_trade_history e)
          (eq-eqb r.id (of h).id (sym (of_id_holds h)))
          in
          let some = count_has (higher (of h)) r rs m
          (and_both (is kind_trade_history r && eqb r.id (of h).id) (ltb (of h).status r.status) mine over)
          in
          absurd (omega arith)

  settlement_fits_holds : (e : r.kind ≡ kind_settlement) (h : there (a_trade r.id) rs ≡ true)
      → (eqb (of h).status completed && eqb r.flags (bit (cash (of h).flags))) ≡ true
  unfolding of
  settlement_fits_holds e h =
      and_both (eqb (of h).status completed) (eqb r.flags (bit (cash (of h).flags)))
      (go (eqb (of h).status completed) refl)
      (eq-eqb r.flags (bit (cash (of h).flags)) ((b.s9 r m).0.1 e).0)
    where
      go : (t : Bool) → eqb (of h).status completed ≡ t → eqb (of h).status completed ≡ true
      go true p = p
      go false p =
          let nine = (b.s9 (of h) (of_member h)).0.0 (of_kind h) in
          let none : count (has_key (a_settlement r.id)) rs ≡ 0 = rw (of_id_holds h, p) at nine in
          let mine = own_number kind_settlement refl r.id r (eq-eqb r.kind kind_settlement e) refl in
          let some = count_has (has_key (a_settlement r.id)) r rs m mine in
          absurd (omega arith)

  -- ---- what hangs on a trade
  module _ (e : r.kind ≡ kind_trade) where
    mine : is kind_trade r ≡ true
    mine = eq-eqb r.kind kind_trade e

    requests : eqb (count (has_key (a_request r.id)) rs) (bit (eqb r.status pending)) ≡ true
    requests =
        eq-eqb (count (has_key (a_request r.id)) rs) (bit (eqb r.status pending))
        (go (eqb r.status pending) refl)
      where
        go : (t : Bool) → eqb r.status pending ≡ t
            → count (has_key (a_request r.id)) rs ≡ bit (eqb r.status pending)
        go true p =
            let k = a_request r.id in
            let one = ((b.s6 r m e).0 (eqb-true r.status pending p)).1 in
            let both = sym (agrees_is rs unique r) ∙ eq-eqb (count (agrees rs r) rs) 1 one in
            let some = and_left (there k rs) (as_asked rs r (found k rs)) both in
            once rs unique k (λ q. omega arith) ∙ rw (some, p)
        go false p = rw p ((b.s6 r m e).1 (eqb-false r.status pending p))

    forms : (not (eqb r.status pending) || leb tlb r.form) ≡ true
    forms = go (eqb r.status pending) refl
      where
        go : (t : Bool) → eqb r.status pending ≡ t → (not (eqb r.status pending) || leb tlb r.form) ≡ true
        go true p = rw p (le-leb tlb r.form ((b.s6 r m e).0 (eqb-true r.status pending p)).0)
        go false p = rw p

    settlements : settled rs r ≡ true
    settlements =
        eq-eqb (count (has_key (a_settlement r.id)) rs) (bit (eqb r.status completed)) ((b.s9 r m).0.0 e)

    history : there (a_history r.id r.status) rs ≡ true
    unfolding there
    history = le-leb 1 (count (has_key (a_history r.id r.status)) rs) (b.s7 r m e).0

    -- the settlement of a completed trade counts its cash
    paid : eqb r.status completed ≡ true → count (has_key (a_cash r.id)) rs ≡ bit (cash r.flags)
    unfolding there
    paid p =
        let k = a_settlement r.id in
        let one : count (has_key k) rs ≡ 1 = (b.s9 r m).0.0 e ∙ ap bit p in
        let some : there k rs ≡ true = le-leb 1 (count (has_key k) rs) (omega arith) in
        let s = found k rs in
        let same = id_is rs kind_settlement refl r.id some in
        let nine = (b.s9 s (member rs k some)).0.1 (id_kind rs kind_settlement refl r.id some) in
        let again = found_again kind_trade refl rs unique r m mine in
        let flag : s.flags ≡ bit (cash r.flags) = rw (same, again) at nine.0 in
        rw same at nine.1 ∙ flag

    -- and there is none of a trade that is not, since a cash row has a settlement
    unpaid : eqb r.status completed ≡ false → count (has_key (a_cash r.id)) rs ≡ 0
    unfolding there
    unpaid p = go (leb 1 (count (has_key (a_cash r.id)) rs)) refl
      where
        none : count (has_key (a_settlement r.id)) rs ≡ 0
        none = (b.s9 r m).0.0 e ∙ ap bit p

        go : (t : Bool) → leb 1 (count (has_key (a_cash r.id)) rs) ≡ t → count (has_key (a_cash r.id)) rs ≡ 0
        go false q = let z = leb-false 1 (count (has_key (a_cash r.id)) rs) q in omega arith
        go true q =
            let k = a_cash r.id in
            let c = found k rs in
            let same = id_is rs kind_cash refl r.id q in
            let nine = (b.s9 c (member rs k q)).1 (id_kind rs kind_cash refl r.id q) in
            let flag : (found (a_settlement r.id) rs).flags ≡ 1 = rw same at nine.0 in
            let zero = none in
            let gone = found_none (a_settlement r.id) rs
            (lt-leb 1 (count (has_key (a_settlement r.id)) rs) (omega arith))
            in
            absurd (let z : ◌≡◌ {A = ℕ} 0 1 = rw gone at flag in omega arith)

    cashes : eqb (count (has_key (a_cash r.id)) rs) (bit (eqb r.status completed && cash r.flags)) ≡ true
    cashes = go (eqb r.status completed) refl
      where
        go : (t : Bool) → eqb r.status completed ≡ t
            → eqb (count (has_key (a_cash r.id)) rs) (bit (eqb r.status completed && cash r.flags)) ≡ true
        go true p = rw p (eq-eqb (count (has_key (a_cash r.id)) rs) (bit (cash r.flags)) (paid p))
        go false p = rw p (eq-eqb (count (has_key (a_cash r.id)) rs) 0 (unpaid p))

    trade_hung : hung rs r ≡ true
    trade_hung = and_five _ _ _ _ _ requests forms history settlements cashes

-- ---- and a book whose rows are well keeps the rules
module _ (rs : List Row) (unique : s2 rs ≡ true)
    (well : (r : Row) → Memᴰ r rs → row_well rs r ≡ true) where
  -- a trade's account and security are there
  module _ (t : Row) (n : Memᴰ t rs) (e : t.kind ≡ kind_trade) where
    trade_well : (names_known rs t && hung rs t) ≡ true
    trade_well = sym (trade_row_holds rs t e) ∙ well t n

    trade_known : (there (an_account t.party) rs && there (a_security t.symbol) rs) ≡ true
    trade_known = trade_names rs t e ∙ and_left (names_known rs t) (hung rs t) trade_well

    account_there : there (an_account t.party) rs ≡ true
    account_there = and_left (there (an_account t.party) rs) (there (a_security t.symbol) rs) trade_known

    security_there : there (a_security t.symbol) rs ≡ true
    security_there = and_right (there (an_account t.party) rs) (there (a_security t.symbol) rs) trade_known

    -- and so is the account's broker
    broker_there : there (a_broker (found (an_account t.party) rs).n1) rs ≡ true
    broker_there =
        let k = an_account t.party in
        let a = found k rs in
        let f = account_kind rs t.party account_there in
        let known : names_known rs a ≡ true =
        sym (own_rule kind_account rs a f) ∙ well_own rs a (well a (member rs k account_there))
        in
        and_left (there (a_broker a.n1) rs) (there (a_customer a.n2) rs) (account_names rs a f ∙ known)

    asked : ((((eqb (count (has_key (a_request t.id)) rs) (bit (eqb t.status pending)) ≡ true)
        × ((not (eqb t.status pending) || leb tlb t.form) ≡ true))
        × (there (a_history t.id t.status) rs ≡ true)) × (settled rs t ≡ true))
        × (eqb (count (has_key (a_cash t.id)) rs) (bit (eqb t.status completed && cash t.flags)) ≡ true)
    asked =
        five (eqb (count (has_key (a_request t.id)) rs) (bit (eqb t.status pending)))
        (not (eqb t.status pending) || leb tlb t.form) (there (a_history t.id t.status) rs) (settled rs t)
        (eqb (count (has_key (a_cash t.id)) rs) (bit (eqb t.status completed && cash t.flags)))
        (and_right (names_known rs t) (hung rs t) trade_well)

    again : found (a_trade t.id) rs ≡ t
    again = found_again kind_trade refl rs unique t n (eq-eqb t.kind kind_trade e)

  -- a row that hangs on a trade: its trade is there, and it fits that
  module _ (r : Row) (m : Memᴰ r rs) (k : ℕ) (e : r.kind ≡ k) (a : among k hung_kinds ≡ true)
      (o : eqb k kind_trade ≡ false) (own : get_or own_rules k no_rule rs r ≡ true) where
    hung_well_holds : hung_well rs r ≡ true
    hung_well_holds = sym (hung_row rs r k e a o (own_rule k rs r e ∙ own)) ∙ well r m

    hung_there : there (a_trade r.id) rs ≡ true
    unfolding hung_well
    hung_there =
        and_left (there (a_trade r.id) rs) (fits_trade rs (found (a_trade r.id) rs) r) hung_well_holds

    hung_fits : get_or hung_rules k nothing_asked rs (found (a_trade r.id) rs) r ≡ true
    unfolding hung_well
    hung_fits =
        sym (hung_rule k rs (found (a_trade r.id) rs) r e)
        ∙ and_right (there (a_trade r.id) rs) (fits_trade rs (found (a_trade r.id) rs) r) hung_well_holds

  module _ (r : Row) (m : Memᴰ r rs) where
    request_right_holds : r.kind ≡ kind_request → row_right rs r ≡ true
    unfolding kind_right
    request_right_holds e =
        let h = hung_there r m kind_request e refl refl refl in
        let t = found (a_trade r.id) rs in
        let n = member rs (a_trade r.id) h in
        let tk = id_kind rs kind_trade refl r.id h in
        let fit = five_of r t (and_right (eqb t.status pending) (as_asked rs t r)
        (hung_fits r m kind_request e refl refl refl))
        in
        let broker : there (a_broker r.party) rs ≡ true = rw fit.1 (broker_there t n tk) in
        let symbol : there (a_security r.symbol) rs ≡ true = rw fit.0 (security_there t n tk) in
        right_of rs r
        (sym (request_names rs r e) ∙ rw (h, broker, symbol))
        (rw e)
      where
        five_of : (r t : Row) → as_asked rs t r ≡ true
            → (r.symbol ≡ t.symbol) × (r.party ≡ (found (an_account t.party) rs).n1)
        five_of r t h =
            let f = five (eqb r.form t.form) (same_symbol r.symbol t.symbol) (eqb r.n1 t.n1)
            (eqb r.n2 t.n2) (eqb r.party (found (an_account t.party) rs).n1) h
            in (
              same_symbol_holds r.symbol t.symbol f.0.0.0.1,
              eqb-true r.party (found (an_account t.party) rs).n1 f.1,
            )

    history_right_holds : r.kind ≡ kind_trade_history → row_right rs r ≡ true
    unfolding kind_right
    history_right_holds e =
        right_of rs r (sym (history_names rs r e) ∙ hung_there r m kind_trade_history e refl refl refl) (rw e)

    lot_right_holds : r.kind ≡ kind_lot → row_right rs r ≡ true
    lot_right_holds e =
        let h = hung_there r m kind_lot e refl refl refl in
        let t = found (a_trade r.id) rs in
        let n = member rs (a_trade r.id) h in
        let tk = id_kind rs kind_trade refl r.id h in
        let kept = hung_fits r m kind_lot e refl refl refl in
        let c = eqb t.status completed in
        let p = eqb t.party r.party in
        let y = same_symbol t.symbol r.symbol in
        let three = and_left (c && p && y) (there (a_summary r.party r.symbol) rs) kept in
        let party = eqb-true t.party r.party (and_right c p (and_left (c && p) y three)) in
        let symbol = same_symbol_holds t.symbol r.symbol (and_right (c && p) y three) in
        let account : there (an_account r.party) rs ≡ true = rw party at (account_there t n tk) in
        let security : there (a_security r.symbol) rs ≡ true = rw symbol at (security_there t n tk) in
        right_of rs r
        (sym (lot_names rs r e) ∙ rw (h, account, security))
        (sym (of_lot_holds rs r e refl) ∙ kept)

    settlement_right_holds : r.kind ≡ kind_settlement → row_right rs r ≡ true
    settlement_right_holds e =
        let h = hung_there r m kind_settlement e refl refl refl in
        let t = found (a_trade r.id) rs in
        let n = member rs (a_trade r.id) h in
        let tk = id_kind rs kind_trade refl r.id h in
        let ti = id_is rs kind_trade refl r.id h in
        let fit = hung_fits r m kind_settlement e refl refl refl in
        let c = eqb t.status completed in
        let f = eqb r.flags (bit (cash t.flags)) in
        let done = and_left c f fit in
        let flag = and_right c f fit in
        let k = has_key (a_cash r.id) in
        let cash-count : count k rs ≡ bit (c && cash t.flags) =
        rw ti at (eqb-true (count (has_key (a_cash t.id)) rs) (bit (c && cash t.flags)) (asked t n tk).1)
        in
        let paid : count k rs ≡ r.flags =
        cash-count ∙ rw done (sym (eqb-true r.flags (bit (cash t.flags)) flag))
        in
        right_of rs r
        (sym (settlement_names rs r e) ∙ h)
        (sym (of_settlement rs r e refl)
        ∙ and_both f (eqb (count k rs) r.flags) flag (eq-eqb (count k rs) r.flags paid))

    cash_right_holds : r.kind ≡ kind_cash → row_right rs r ≡ true
    cash_right_holds e =
        right_of rs r
        (sym (cash_names rs r e) ∙ hung_there r m kind_cash e refl refl refl)
        (sym (of_cash rs r e refl) ∙ hung_fits r m kind_cash e refl refl refl)

  module _ (t : Row) (n : Memᴰ t rs) (e : t.kind ≡ kind_trade) where
    -- the one request agrees, since it is well itself
    request_agrees : t.status ≡ pending → eqb (count (agrees rs t) rs) 1 ≡ true
    unfolding there
    request_agrees p =
        let k = a_request t.id in
        let c = count (has_key k) rs in
        let pends = eq-eqb t.status pending p in
        let one : c ≡ 1 = eqb-true c (bit (eqb t.status pending)) (asked t n e).0.0.0.0 ∙ ap bit pends in
        let some : there k rs ≡ true = le-leb 1 c (omega arith) in
        let q = found k rs in
        let qk = id_kind rs kind_request refl t.id some in
        let fit = hung_fits q (member rs k some) kind_request qk refl refl refl in
        let mine : found (a_trade q.id) rs ≡ t = rw (id_is rs kind_request refl t.id some) (again t n e) in
        let agreed = and_right (eqb (found (a_trade q.id) rs).status pending)
        (as_asked rs (found (a_trade q.id) rs) q) fit
        in
        agrees_is rs unique t ∙ and_both (there k rs) (as_asked rs t q) some (rw mine at agreed)

    request_kept : request_right rs t ≡ true
    request_kept = go (eqb t.status pending) refl
      where
        go : (x : Bool) → eqb t.status pending ≡ x → request_right rs t ≡ true
        go true p =
            let form : leb tlb t.form ≡ true = rw p at (asked t n e).0.0.0.1 in
            rw p (and_both (leb tlb t.form) (eqb (count (agrees rs t) rs) 1) form
            (request_agrees (eqb-true t.status pending p)))
        go false p = rw p (rw p at (asked t n e).0.0.0.0)

    -- a history above the trade's status would not be well
    none_higher : count (higher t) rs ≡ 0
    none_higher = go (leb 1 (count (higher t) rs)) refl
      where
        go : (x : Bool) → leb 1 (count (higher t) rs) ≡ x → count (higher t) rs ≡ 0
        go false p = let z = leb-false 1 (count (higher t) rs) p in omega arith
        go true p =
            let x = the (higher t) nothing rs in
            let m = the_has (higher t) nothing rs p in
            let h = the_passes (higher t) nothing rs p in
            let k = is kind_trade_history x in
            let i = eqb x.id t.id in
            let s = ltb t.status x.status in
            let xk = eqb-true x.kind kind_trade_history (and_left k i (and_left (k && i) s h)) in
            let xi = eqb-true x.id t.id (and_right k i (and_left (k && i) s h)) in
            let over = ltb-true t.status x.status (and_right (k && i) s h) in
            let fit = hung_fits x m kind_trade_history xk refl refl refl in
            let mine : found (a_trade x.id) rs ≡ t = rw xi (again t n e) in
            let under = leb-true x.status t.status (rw mine at fit) in
            absurd (omega arith)

    trade_right : row_right rs t ≡ true
    trade_right =
        let h = there (a_history t.id t.status) rs in
        let z = eqb (count (higher t) rs) 0 in
        let history : history_right rs t ≡ true =
        and_both h z (asked t n e).0.0.1 (eq-eqb (count (higher t) rs) 0 none_higher)
        in
        right_of rs t
        (and_left (names_known rs t) (hung rs t) (trade_well t n e))
        (sym (of_trade rs t e refl refl refl) ∙ rw (request_kept, history, (asked t n e).0.1))

-- ---- the rows of the other kinds
module _ (rs : List Row) (r : Row) where
  -- of a kind without a rule of its own
  no_rule_holds : (k : ℕ) → r.kind ≡ k → named r ≡ [] → true ≡ kind_right rs r → get_or own_rules k no_rule rs r ≡ true
      → own_well rs r ≡ row_right rs r
  no_rule_holds k e n h o = own_rule k rs r e ∙ o ∙ row_names rs r (names_none rs r n) h

  own_broker : (k : ℕ) → r.kind ≡ k → among k (0 ∷ 1 ∷ 3 ∷ 6 ∷ 8 ∷ []) ≡ true → own_well rs r ≡ row_right rs r
  unfolding named kind_right
  own_broker k e a =
      of_five (λ (x : ℕ). r.kind ≡ x → own_well rs r ≡ row_right rs r) k 0 1 3 6 8
      (λ h. no_rule_holds 0 h (rw h) (rw h) refl)
      (λ h. no_rule_holds 1 h (rw h) (rw h) refl)
      (λ h. no_rule_holds 3 h (rw h) (rw h) refl)
      (λ h. no_rule_holds 6 h (rw h) (rw h) refl)
      (λ h. no_rule_holds 8 h (rw h) (rw h) refl)
      a e

  own_customer : r.kind ≡ kind_customer → own_well rs r ≡ row_right rs r
  unfolding named
  own_customer e = own_rule kind_customer rs r e ∙ row_kind rs r (names_none rs r (rw e)) (of_customer rs r e refl)

  own_customer_rate : r.kind ≡ kind_customer_rate → own_well rs r ≡ row_right rs r
  unfolding kind_right
  own_customer_rate e = own_rule kind_customer_rate rs r e ∙ row_names rs r refl (rw e)

  own_account : r.kind ≡ kind_account → own_well rs r ≡ row_right rs r
  unfolding kind_right
  own_account e = own_rule kind_account rs r e ∙ row_names rs r refl (rw e)

  own_permission : r.kind ≡ kind_permission → own_well rs r ≡ row_right rs r
  unfolding kind_right
  own_permission e = own_rule kind_permission rs r e ∙ row_names rs r refl (rw e)

  own_band : r.kind ≡ kind_band → own_well rs r ≡ row_right rs r
  unfolding named
  own_band e = own_rule kind_band rs r e ∙ row_kind rs r (names_none rs r (rw e)) (of_band rs r e refl)

  own_summary : r.kind ≡ kind_summary → own_well rs r ≡ row_right rs r
  own_summary e = own_rule kind_summary rs r e ∙ row_both rs r refl (of_summary rs r e refl)

  own_lot_history : r.kind ≡ kind_lot_history → own_well rs r ≡ row_right rs r
  own_lot_history e = own_rule kind_lot_history rs r e ∙ lot_history_row_holds rs r e refl

-- ---- what holds at each kind holds at every kind
kind_step : (P : ℕ → Type 0) (i : ℕ) → P i → ((k : ℕ) → i + 1 ≤ k → k ≤ last_kind → P k)
    → (k : ℕ) → i ≤ k → k ≤ last_kind → P k
kind_step P i p f k a b = go (eqb k i) refl
  where
    go : (t : Bool) → eqb k i ≡ t → P k
    go true e = subst P (sym (eqb-true k i e)) p
    go false e = let n = eqb-false k i e in f k (let m : (k ≡ i → ⊥) = n in omega arith) b

by_kind : (P : ℕ → Type 0) → P 0 → P 1 → P 2 → P 3 → P 4 → P 5 → P 6 → P 7 → P 8
    → P 9 → P 10 → P 11 → P 12 → P 13 → P 14 → P 15 → P 16 → P 17 → (k : ℕ) → k ≤ last_kind → P k
by_kind P a b c d e f g h i j l m n o p q r t k u =
    let s16 = kind_step P 16 r (kind_step P 17 t (λ x v w. absurd (omega arith))) in
    let s12 = kind_step P 12 n (kind_step P 13 o (kind_step P 14 p (kind_step P 15 q s16))) in
    let s8 = kind_step P 8 i (kind_step P 9 j (kind_step P 10 l (kind_step P 11 m s12))) in
    let s4 = kind_step P 4 e (kind_step P 5 f (kind_step P 6 g (kind_step P 7 h s8))) in
    kind_step P 0 a (kind_step P 1 b (kind_step P 2 c (kind_step P 3 d s4))) k (omega arith) u

-- a row that fits is of a kind
pub few_kinds : (r : Row) → fits r ≡ true → r.kind ≤ last_kind
few_kinds r e = go (leb r.kind last_kind) refl
  where
    go : (t : Bool) → leb r.kind last_kind ≡ t → r.kind ≤ last_kind
    go true h = leb-true r.kind last_kind h
    go false h =
        let over = leb-false r.kind last_kind h in
        absurd (false≢true (no_kind r (omega arith) ∙ e))

-- ---- both ways
module _ (rs : List Row) where
  plain : (k : ℕ) → among k hung_kinds ≡ false → eqb k kind_trade ≡ false
      → ((r : Row) → r.kind ≡ k → own_well rs r ≡ row_right rs r) → (r : Row) → r.kind ≡ k
      → row_well rs r ≡ row_right rs r
  plain k a o f r e = plain_row rs r k e a o (f r e)

  abbrev Same : ℕ → Type 0
  Same k = (r : Row) → r.kind ≡ k → row_well rs r ≡ row_right rs r

  bare : (k : ℕ) → among k hung_kinds ≡ false → eqb k kind_trade ≡ false → among k (0 ∷ 1 ∷ 3 ∷ 6 ∷ 8 ∷ []) ≡ true
      → Same k
  bare k a o h = plain k a o (λ r e. own_broker rs r k e h)

  module _ (unique : s2 rs ≡ true) (well : (r : Row) → Memᴰ r rs → row_well rs r ≡ true) where
    abbrev Right : ℕ → Type 0
    Right k = (r : Row) → Memᴰ r rs → r.kind ≡ k → row_right rs r ≡ true

    same : (k : ℕ) → Same k → Right k
    same k f r m e = sym (f r e) ∙ well r m

    all_right : (k : ℕ) → k ≤ last_kind → Right k
    all_right =
        by_kind Right
        (same 0 (bare 0 refl refl refl))
        (same 1 (bare 1 refl refl refl))
        (same 2 (plain 2 refl refl (own_customer rs)))
        (same 3 (bare 3 refl refl refl))
        (same 4 (plain 4 refl refl (own_customer_rate rs)))
        (same 5 (plain 5 refl refl (own_account rs)))
        (same 6 (bare 6 refl refl refl))
        (same 7 (plain 7 refl refl (own_band rs)))
        (same 8 (bare 8 refl refl refl))
        (trade_right rs unique well)
        (request_right_holds rs unique well)
        (history_right_holds rs unique well)
        (lot_right_holds rs unique well)
        (same 13 (plain 13 refl refl (own_summary rs)))
        (same 14 (plain 14 refl refl (own_lot_history rs)))
        (settlement_right_holds rs unique well)
        (cash_right_holds rs unique well)
        (same 17 (plain 17 refl refl (own_permission rs)))

  module _ (b : SoundBook rs) (unique : s2 rs ≡ true)
      (right : (r : Row) → Memᴰ r rs → row_right rs r ≡ true) where
    abbrev Well : ℕ → Type 0
    Well k = (r : Row) → Memᴰ r rs → r.kind ≡ k → row_well rs r ≡ true

    equal : (k : ℕ) → Same k → Well k
    equal k f r m e = f r e ∙ right r m

    -- a row that hangs on a trade
    hanging : (k : ℕ) → among k hung_kinds ≡ true → eqb k kind_trade ≡ false
        → ((r : Row) → get_or own_rules k no_rule rs r ≡ true)
        → ((r : Row) → r.kind ≡ k → names_known rs r ≡ true → there (a_trade r.id) rs ≡ true)
        → ((r : Row) → (m : Memᴰ r rs) → r.kind ≡ k → (there (a_trade r.id) rs ≡ true)
        → get_or hung_rules k nothing_asked rs (found (a_trade r.id) rs) r ≡ true)
        → Well k
    unfolding hung_well
    hanging k a o own known fit r m e =
        let h = known r e (right_names rs r (right r m)) in
        let t = found (a_trade r.id) rs in
        hung_row rs r k e a o (own_rule k rs r e ∙ own r)
        ∙ and_both (there (a_trade r.id) rs) (fits_trade rs t r) h (hung_rule k rs t r e ∙ fit r m e h)

    all_well : (k : ℕ) → k ≤ last_kind → Well k
    unfolding of
    all_well =
        by_kind Well
        (equal 0 (bare 0 refl refl refl))
        (equal 1 (bare 1 refl refl refl))
        (equal 2 (plain 2 refl refl (own_customer rs)))
        (equal 3 (bare 3 refl refl refl))
        (equal 4 (plain 4 refl refl (own_customer_rate rs)))
        (equal 5 (plain 5 refl refl (own_account rs)))
        (equal 6 (bare 6 refl refl refl))
        (equal 7 (plain 7 refl refl (own_band rs)))
        (equal 8 (bare 8 refl refl refl))
        (λ r m e. trade_row_holds rs r e ∙ and_both (names_known rs r) (hung rs r) (right_names rs r (right r m))
        (trade_hung rs b unique r m (right r m) e))
        (hanging kind_request refl refl (λ r. refl)
        (λ r e h.
        first_three (there (a_trade r.id) rs) (there (a_broker r.party) rs) (there (a_security r.symbol) rs)
        (request_names rs r e ∙ h))
        (λ r m e h. request_fits_holds rs b unique r m (right r m) e h))
        (hanging kind_trade_history refl refl (λ r. refl) (λ r e h. history_names rs r e ∙ h)
        (λ r m e h. history_fits_holds rs b unique r m (right r m) e h))
        (hanging kind_lot refl refl (λ r. refl)
        (λ r e h.
        first_three (there (a_trade r.id) rs) (there (an_account r.party) rs) (there (a_security r.symbol) rs)
        (lot_names rs r e ∙ h))
        (λ r m e h. of_lot_holds rs r e refl ∙ right_kind rs r (right r m)))
        (equal 13 (plain 13 refl refl (own_summary rs)))
        (equal 14 (plain 14 refl refl (own_lot_history rs)))
        (hanging kind_settlement refl refl (λ r. refl) (λ r e h. settlement_names rs r e ∙ h)
        (λ r m e h. settlement_fits_holds rs b unique r m (right r m) e h))
        (hanging kind_cash refl refl (λ r. refl) (λ r e h. cash_names rs r e ∙ h)
        (λ r m e h. of_cash rs r e refl ∙ right_kind rs r (right r m)))
        (equal 17 (plain 17 refl refl (own_permission rs)))
      where
        first_three : (x y z : Bool) → (x && y && z) ≡ true → x ≡ true
        first_three x y z h = and_left x y (and_left (x && y) z h)

  shown : (p : Row → Bool) → every p rs ≡ true → (r : Row) → Memᴰ r rs → p r ≡ true
  shown p = (means_every {P = λ r. p r ≡ true} rs (λ r. record { shows = λ e. e; holds = λ e. e })).shows

  gather : (p : Row → Bool) → ((r : Row) → Memᴰ r rs → p r ≡ true) → every p rs ≡ true
  gather p = (means_every {P = λ r. p r ≡ true} rs (λ r. record { shows = λ e. e; holds = λ e. e })).holds

  kind_of_holds : s1 rs ≡ true → (r : Row) → Memᴰ r rs → r.kind ≤ last_kind
  unfolding s1
  kind_of_holds fit r m = few_kinds r (shown fits fit r m)

  pub sound_by_well : (s1 rs && s2 rs && every (row_well rs) rs) ≡ sound rs
  sound_by_well =
      one_truth (s1 rs && s2 rs && every (row_well rs) rs) (sound rs)
      (λ e.
      let fit = and_left (s1 rs) (s2 rs) (and_left (s1 rs && s2 rs) (every (row_well rs) rs) e) in
      let unique = and_right (s1 rs) (s2 rs) (and_left (s1 rs && s2 rs) (every (row_well rs) rs) e) in
      let well = shown (row_well rs) (and_right (s1 rs && s2 rs) (every (row_well rs) rs) e) in
      let right = gather (row_right rs) (λ r m. all_right unique well r.kind (kind_of_holds fit r m) r m refl) in
      sym (sound_by_row rs) ∙ rw (fit, unique, right))
      (λ e.
      let all = sound_by_row rs ∙ e in
      let fit = and_left (s1 rs) (s2 rs) (and_left (s1 rs && s2 rs) (every (row_right rs) rs) all) in
      let unique = and_right (s1 rs) (s2 rs) (and_left (s1 rs && s2 rs) (every (row_right rs) rs) all) in
      let right = shown (row_right rs) (and_right (s1 rs && s2 rs) (every (row_right rs) rs) all) in
      let b = (means_sound rs).shows e in
      let well = gather (row_well rs) (λ r m. all_well b unique right r.kind (kind_of_holds fit r m) r m refl) in
      rw (fit, unique, well))
