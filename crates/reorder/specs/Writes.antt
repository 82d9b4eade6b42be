-- The rows that a result writes, but for the broker's: each is its account's own or a free place, and its trade keeps
-- its account. Assumes nothing.
use Rattle.std.specs.Prelude.{◌≡◌, true, false, cond, List, ◌++◌, ◌⊎◌, ℕ, eqb, ℤ, pos}
use Rattle.std.proofs.Math.Path.{refl}
use Rattle.std.proofs.Common.{sym, ap, ◌∙◌, inl, inr, to_z}
use Rattle.std.specs.Int.{w64}
use Rattle.laws.specs.All.{All, all_append, all_map}
use Rattle.record.specs.Codes.{kind_account, kind_broker, kind_cash, kind_free, kind_lot, kind_lot_history, kind_settlement}
use Rattle.record.specs.Codes.{kind_summary, kind_trade, kind_trade_history}
use Rattle.keys.specs.Key.{among, key_of, same_key}
use Rattle.record.specs.Symbol.{same_symbol}
use Rattle.record.specs.declared.row.Row.{Row}
use Rattle.model.specs.Lots.{Closing, closings}
use Rattle.model.specs.Names.{a_trade}
use Rattle.model.specs.Result.{Figures, View, holding, left_of, lot_history, posting, signed, summed_shares, sums_of}
use Rattle.model.specs.Result.{trade_after}
use Rattle.model.specs.Rows.{has_key, is, nothing}
use Rattle.facts.specs.Lots.{all_closings}
use Rattle.facts.specs.Posted.{adds, frees, writes}
use Rattle.preserved.specs.ResultEach.{Each, cash_of, each_added, each_changed, each_freed, history_of, lot_opened}
use Rattle.preserved.specs.ResultEach.{settlement_of, summary_opened}
use Rattle.reorder.specs.Whose.{by_party, by_trade, whose, whose_history, whose_party, whose_trade}

-- the account of the trade i, where this is its row
abbrev pub party_if : ℕ → Row → ℕ
party_if i r = cond (has_key (a_trade i) r) r.party 0

-- what a result has seen, where `own` tells the account of each trade
pub record Seen (own : ℕ → ℕ) (v : View) : Type 0 where
  pub t_kind : v.trade.kind ≡ kind_trade
  pub t_own : own v.trade.id ≡ v.trade.party
  pub a_kind : v.account.kind ≡ kind_account
  pub a_party : v.account.party ≡ v.trade.party
  pub s_own : is kind_free v.summary ≡ false
      → (v.summary.kind ≡ kind_summary) × (v.summary.party ≡ v.trade.party)
  pub l_own : All (λ (l : Row). (l.kind ≡ kind_lot) × (l.party ≡ v.trade.party)) v.lots

-- a row of the account a, or a free place, and no broker
pub record Its (own : ℕ → ℕ) (a : ℕ) (r : Row) : Type 0 where
  pub no_broker : is kind_broker r ≡ false
  pub owned : (r.kind ≡ kind_free) ⊎ (whose own r ≡ a)

-- one such row in the place of another, and no trade comes or goes or changes hands
pub record Turn (own : ℕ → ℕ) (a : ℕ) (w : Row × Row) : Type 0 where
  pub old : Its own a w.0
  pub new : Its own a w.1
  pub party : (i : ℕ) → party_if i w.0 ≡ party_if i w.1

no_trade : (i : ℕ) (r : Row) → is kind_trade r ≡ false → party_if i r ≡ 0
unfolding has_key same_key key_of same_symbol
no_trade i r e = rw e

module _ (own : ℕ → ℕ) (a : ℕ) where
  its_free : Its own a nothing
  its_free = record { no_broker = refl; owned = inl refl }

  its_party : (r : Row) (k : ℕ) → r.kind ≡ k → among k by_party ≡ true → eqb k kind_broker ≡ false → r.party ≡ a
      → Its own a r
  its_party r k e h n p = record {
    no_broker = ap (λ (x : ℕ). eqb x kind_broker) e ∙ n;
    owned = inr (whose_party own r k e h ∙ p);
  }

  its_trade : (r : Row) (k : ℕ) → r.kind ≡ k → among k by_party ≡ false → among k by_trade ≡ true
      → eqb k kind_broker ≡ false → own r.id ≡ a → Its own a r
  its_trade r k e g h n p = record {
    no_broker = ap (λ (x : ℕ). eqb x kind_broker) e ∙ n;
    owned = inr (whose_trade own r k e g h ∙ p);
  }

  its_history : (r : Row) → r.kind ≡ kind_lot_history → own r.m2 ≡ a → Its own a r
  its_history r e p = record {
    no_broker = ap (λ (x : ℕ). eqb x kind_broker) e;
    owned = inr (whose_history own r e ∙ p);
  }

  -- neither is a trade
  turn : (o n : Row) → Its own a o → Its own a n → is kind_trade o ≡ false → is kind_trade n ≡ false
      → Turn own a (o, n)
  turn o n p q e f = record { old = p; new = q; party = λ i. no_trade i o e ∙ sym (no_trade i n f) }

  -- it is added
  added : (n : Row) → Its own a n → is kind_trade n ≡ false → Turn own a (nothing, n)
  added n q f = turn nothing n its_free q refl f

  freed : (o : Row) → Its own a o → is kind_trade o ≡ false → Turn own a (o, nothing)
  freed o p e = turn o nothing p its_free e refl

  -- a row of the account's with another number
  held : (r : Row) (k : ℕ) (z : ℤ) → r.kind ≡ k → among k by_party ≡ true → eqb k kind_broker ≡ false
      → eqb k kind_trade ≡ false → r.party ≡ a → Turn own a (r, holding r z)
  held r k z e h n t p =
      let f : is kind_trade r ≡ false = ap (λ (x : ℕ). eqb x kind_trade) e ∙ t in
      turn r (holding r z) (its_party r k e h n p) (its_party (holding r z) k e h n p) f f

module _ (own : ℕ → ℕ) (input : Row) (v : View) (f : Figures) (s : Seen own v) where
  abbrev t : Row
  t = v.trade

  abbrev a : ℕ
  a = t.party

  abbrev T : Row × Row → Type 0
  T w = Turn own a w

  abbrev N : Row → Type 0
  N h = T (nothing, h)

  abbrev cs : List Closing
  cs = closings t.n1 v.lots

  lots_its : All (λ (c : Closing). (c.lot.kind ≡ kind_lot) × (c.lot.party ≡ a)) cs
  lots_its = all_closings (λ (l : Row). (l.kind ≡ kind_lot) × (l.party ≡ a)) t.n1 v.lots s.l_own

  histories : (lot : ℕ) (x y : ℤ) → N (lot_history lot t.id x y)
  histories lot x y =
      added own a (lot_history lot t.id x y) (its_history own a (lot_history lot t.id x y) refl s.t_own) refl

  by_id_holds : (h : Row) (k : ℕ) → h.kind ≡ k → among k by_party ≡ false → among k by_trade ≡ true
      → eqb k kind_broker ≡ false → eqb k kind_trade ≡ false → h.id ≡ t.id → N h
  by_id_holds h k e p q n m i =
      added own a h (its_trade own a h k e p q n (ap own i ∙ s.t_own)) (ap (λ (x : ℕ). eqb x kind_trade) e ∙ m)

  trade_turns : T (t, trade_after t input.n1 f.commission f.tax input.time)
  unfolding has_key same_key key_of same_symbol
  trade_turns = record {
    old = its_trade own a t kind_trade s.t_kind refl refl refl s.t_own;
    new = its_trade own a _ kind_trade s.t_kind refl refl refl s.t_own;
    party = λ i. rw s.t_kind;
  }

  gone_turns : (o : Row) (k : ℕ) → o.kind ≡ k → among k by_party ≡ true → eqb k kind_broker ≡ false
      → eqb k kind_trade ≡ false → o.party ≡ a → T (o, nothing)
  gone_turns o k e h n m p =
      freed own a o (its_party own a o k e h n p) (ap (λ (x : ℕ). eqb x kind_trade) e ∙ m)

  turns : Each t v.summary v.account cs (sums_of input f) T
  turns = record {
    closed = λ c m. histories c.lot.id (to_z w64 c.lot.m1) (left_of t.form c);
    opened = λ z. histories t.id (pos 0) (signed t.form f.walked.need);
    lot = λ z.
        let l = lot_opened t (sums_of input f) in
        added own a l (its_party own a l kind_lot refl refl refl refl) refl;
    begun = λ z.
        let x = summary_opened t v.summary in
        added own a x (its_party own a x kind_summary refl refl refl refl) refl;
    history = by_id_holds (history_of t (sums_of input f)) kind_trade_history refl refl refl refl refl refl;
    settled = by_id_holds (settlement_of t (sums_of input f)) kind_settlement refl refl refl refl refl refl;
    paid = λ z. by_id_holds (cash_of t (sums_of input f)) kind_cash refl refl refl refl refl refl;
    less = λ c m z.
        let l = lots_its c m in held own a c.lot kind_lot (left_of t.form c) l.0 refl refl refl l.1;
    summed = λ z g.
        let k = s.s_own z in
        held own a v.summary kind_summary (summed_shares t v.summary) k.0 refl refl refl k.1;
    balanced = held own a v.account kind_account f.balance s.a_kind refl refl refl s.a_party;
    trade = trade_turns;
    freed = λ c m. let l = lots_its c m in gone_turns c.lot kind_lot l.0 refl refl refl l.1;
    emptied = λ z. let k = s.s_own z in gone_turns v.summary kind_summary k.0 refl refl refl k.1;
  }

  pub all_turns : All T (writes (posting input v f))
  unfolding posting
  all_turns =
      let p = posting input v f in
      all_append T (adds p.added) (p.changes ++ frees p.freed)
      (all_map (λ (h : Row). (nothing, h)) T p.added (each_added turns))
      (all_append T p.changes (frees p.freed) (each_changed turns) (each_freed turns))
