-- A feed that is done leaves S2 and S7. Both hold after each step: a trade that is pending has no history row of a
-- higher status, so the one that is added with its submission is the first with its key. Assumes nothing.
use Rattle.std.specs.Prelude.{◌≡◌, Bool, ℕ, ◌+◌, ◌≤◌, eqb}
use Rattle.std.proofs.Math.Path.{refl, ap, subst}
use Rattle.std.proofs.Common.{sym, ◌∙◌}
use Rattle.std.proofs.Math.Bool.{true, false}
use mathlib.Core.List.{List, Memᴰ}
use Rattle.std.proofs.Math.Logic.{inl, inr, ⊎_elim}
use native.Mathlib.Omega.{arith}
use Rattle.std.proofs.Math.Dec.{ltb}
use borrow.Author.Tests.{eq-eqb, eqb-false, eqb-true, lt-ltb, ltb-true}
use Rattle.laws.specs.All.{All, all_map}
use Rattle.laws.specs.Change.{count_alike, put}
use Rattle.laws.specs.Keep.{count_has, count_one}
use Rattle.laws.specs.Search.{bit, count}
use Rattle.laws.specs.Tests.{and_both, and_false, and_left, and_right}
use Rattle.laws.specs.Puts.{count_less, is_counted, put_total}
use Rattle.record.specs.Codes.{kind_free, kind_request, kind_trade, kind_trade_history, submitted}
use Rattle.keys.specs.Key.{key_of}
use Rattle.keys.specs.KeyLaws.{same_keys}
use Rattle.keys.specs.declared.Key.{Key}
use Rattle.record.specs.declared.row.Row.{Row}
use Rattle.model.specs.Feed.{swept, traded, sent}
use Rattle.model.specs.Names.{a_history, a_trade}
use Rattle.model.specs.Rows.{has_key, is, nothing, same_row}
use Rattle.model.specs.Sound.{higher}
use Rattle.model.specs.SoundMeans.{S2, S7, SoundBook, There}
use Rattle.model.specs.History.{history_row}
use Rattle.facts.specs.Rows.{row_itself, same_rows}
use Rattle.facts.specs.Found.{own_number}
use Rattle.facts.specs.Names.{of_id}
use Rattle.facts.specs.Keys.{key_of_holds, own_key}
use Rattle.preserved.specs.Cases.{by_cases}
use Rattle.preserved.specs.FeedCalm.{sent_key, sweep, sweep_either, swept_fewer, swept_same, traded_key}
use Rattle.preserved.specs.FeedLaws.{all_put, put_has}
use Rattle.preserved.specs.FeedSteps.{Keeps, Leads, Sends, Trades, after_send, after_trade}
use Rattle.preserved.specs.ResultFresh.{not_yet, one_key}

-- no key is there twice
abbrev Keys : List Row → Type 0
Keys l = (k : Key) → (k.kind ≡ kind_free → ⊥) → count (has_key k) l ≤ 1

abbrev HistoryRight : List Row → Row → Type 0
HistoryRight l t = There (a_history t.id t.status) l × (count (higher t) l ≡ 0)

no_key : (k : Key) → (k.kind ≡ kind_free → ⊥) → has_key k nothing ≡ false
no_key k live = key_of_holds k nothing (λ q. live (sym q))

-- rows of other kinds are no history
not_higher : (t r : Row) (j : ℕ) → r.kind ≡ j → eqb j kind_trade_history ≡ false → higher t r ≡ false
not_higher t r j e n = rw (e, n)

-- ---- a security is changed
module _ (l : List Row) (e s : Row) (q : Trades l e s) where
  trade_count : (p : Row → Bool) → p (traded e s) ≡ p s → count p (after_trade l e s) ≡ count p l
  trade_count p a = count_alike same_row same_rows p s (traded e s) a l

  trade_keys : Keys l → Keys (after_trade l e s)
  trade_keys u k live =
      let same = trade_count (has_key k) (traded_key e s q.kind k) in
      let was = u k live in
      omega arith

  trade_histories : S7 l → S7 (after_trade l e s)
  trade_histories h =
      all_put same_row same_rows s (traded e s) (λ (x : Row). x.kind ≡ kind_trade → HistoryRight (after_trade l e s) x)
      (λ z. let y = sym q.kind ∙ z in absurd (omega arith)) l
      (λ x i k.
      let was = h x i k in
      let one = was.0 in
      let a = trade_count (has_key (a_history x.id x.status)) (traded_key e s q.kind _) in
      let b =
      trade_count (higher x)
      (not_higher x (traded e s) _ q.kind refl ∙ sym (not_higher x s _ q.kind refl))
      in
      (omega arith, b ∙ was.1))

-- ---- a trade is submitted
module _ (l : List Row) (e t : Row) (q : Sends l e t) (u : Keys l) (s7 : S7 l) where
  abbrev added : Row
  added = history_row submitted t.id e.time

  abbrev between : List Row
  between = put same_row nothing added l

  send_count : (p : Row → Bool) → p (sent e.time t) ≡ p t → p nothing ≡ false
      → count p (after_send l e t) ≡ count p l + bit (p added)
  unfolding count
  send_count p a n =
      let one = count_alike same_row same_rows p t (sent e.time t) a between in
      let two = put_total same_row same_rows row_itself (λ (x : Row). bit (p x)) nothing added l q.space in
      let z = ap bit n in
      omega arith

  -- neither the trade nor what it becomes is a history row
  both_not : (x : Row) → higher x (sent e.time t) ≡ higher x t
  both_not x = not_higher x (sent e.time t) kind_trade q.kind refl ∙ sym (not_higher x t kind_trade q.kind refl)

  fresh : count (has_key (a_history t.id submitted)) l ≡ 0
  fresh = not_yet l t submitted (ap (λ (n : ℕ). ltb n submitted) q.waits) (s7 t q.here q.kind).1

  send_keys : Keys (after_send l e t)
  unfolding has_key key_of
  send_keys k live = go (has_key k added) refl
    where
      all : count (has_key k) (after_send l e t) ≡ count (has_key k) l + bit (has_key k added)
      all = send_count (has_key k) (sent_key e t q.kind k) (no_key k live)

      go : (b : Bool) → has_key k added ≡ b → count (has_key k) (after_send l e t) ≤ 1
      go true y =
          let own : key_of added ≡ k = same_keys (key_of added) k y in
          let none : count (has_key k) l ≡ 0 = ap (λ (x : Key). count (has_key x) l) (sym own) ∙ fresh in
          let z = ap bit y in
          let law = all in
          omega arith
      go false y =
          let was = u k live in
          let z = ap bit y in
          let law = all in
          omega arith

  sent_here : Memᴰ (sent e.time t) (after_send l e t)
  unfolding same_row count
  sent_here =
      let was = is_counted same_row same_rows row_itself t l q.here in
      let off : same_row t nothing ≡ false = rw q.kind in
      let two = put_total same_row same_rows row_itself (λ (x : Row). bit (same_row t x)) nothing added l q.space in
      let z = ap bit off in
      put_has same_row same_rows t (sent e.time t) between (omega arith)

  -- the trade itself
  sent_right : HistoryRight (after_send l e t) (sent e.time t)
  unfolding key_of
  sent_right =
      let k = a_history t.id submitted in
      let own : has_key k added ≡ true = own_key added in
      let a = send_count (has_key k) (sent_key e t q.kind k) (no_key k (λ z. omega arith)) in
      let z = ap bit own in
      let p = higher (sent e.time t) in
      let b = send_count p (both_not (sent e.time t)) refl in
      let y = ap bit (and_false (eqb t.id t.id)) in
      let none = (s7 t q.here q.kind).1 in
      let less =
      count_less p (higher t) l
      (λ x i h.
      let of = of_id kind_trade_history t.id x in
      let c = ltb-true submitted x.status (and_right of (ltb submitted x.status) h) in
      and_both of (ltb t.status x.status) (and_left of (ltb submitted x.status) h)
      (ap (λ (n : ℕ). ltb n x.status) q.waits ∙ lt-ltb 1 x.status (omega arith)))
      in
      (omega arith, omega arith)

  -- any other
  other_right : (x : Row) → Memᴰ x l → x.kind ≡ kind_trade → eqb t.id x.id ≡ false
      → HistoryRight (after_send l e t) x
  other_right x i k n =
      let was = s7 x i k in
      let one = was.0 in
      let none = was.1 in
      let key = a_history x.id x.status in
      let a = send_count (has_key key) (sent_key e t q.kind key) (no_key key (λ z. omega arith)) in
      let b = send_count (higher x) (both_not x) refl in
      let off : higher x added ≡ false = rw n in
      let z = ap bit off in
      (omega arith, omega arith)

  was_there : All (λ (x : Row). x.kind ≡ kind_trade → eqb t.id x.id ≡ false → Memᴰ x l) (after_send l e t)
  was_there =
      let P : Row → Type 0 = λ x. x.kind ≡ kind_trade → eqb t.id x.id ≡ false → Memᴰ x l in
      all_put same_row same_rows t (sent e.time t) P
      (λ k n. absurd (eqb-false t.id t.id n refl)) between
      (all_put same_row same_rows nothing added P (λ k n. absurd (omega arith)) l (λ x i k n. i))

  send_histories : S7 (after_send l e t)
  send_histories x i k =
      by_cases (eqb t.id x.id)
      (λ y.
      let key = a_trade t.id in
      let mine = own_number kind_trade refl t.id (sent e.time t) (eq-eqb t.kind kind_trade q.kind) refl in
      let its =
      own_number kind_trade refl t.id x (eq-eqb x.kind kind_trade k) (sym (eqb-true t.id x.id y))
      in
      subst (HistoryRight (after_send l e t))
      (count_one (has_key key) (sent e.time t) x (after_send l e t) (send_keys key (λ z. omega arith)) sent_here i mine
      its)
      sent_right)
      (λ y. other_right x (was_there x i k y) k y)

keeps_both : Keeps (λ (l : List Row). Keys l × S7 l)
keeps_both = record {
  trades = λ l e s q h. (trade_keys l e s q h.0, trade_histories l e s q h.1);
  sends = λ l e t q h. (send_keys l e t q h.0 h.1, send_histories l e t q h.0 h.1);
}

-- ---- the whole feed
module _ {rs m : List Row} (book : SoundBook rs) (lead : Leads rs m) where
  both : Keys m × S7 m
  both = lead (λ (l : List Row). Keys l × S7 l) keeps_both ((λ k live. one_key rs book.s2 k live), book.s7)

  pub fed_keys : Keys m
  fed_keys = both.0

  pub s2_feed : S2 (swept m)
  unfolding key_of
  s2_feed x i =
      by_cases (is kind_free x)
      (λ y. inl (eqb-true x.kind kind_free y))
      (λ y.
      let k = key_of x in
      let live : k.kind ≡ kind_free → ⊥ = eqb-false x.kind kind_free y in
      let few = swept_fewer m (has_key k) (no_key k live) in
      let most = fed_keys k live in
      let some = count_has (has_key k) x (swept m) i (own_key x) in
      inr (omega arith))

  pub s7_feed : S7 (swept m)
  unfolding swept
  s7_feed =
      all_map (sweep m) P m
      (λ r i.
      ⊎_elim
      (λ e. subst P (sym e) (stays r i))
      (λ h. subst P (sym h.0) (λ k. absurd (omega arith)))
      (sweep_either m r))
    where
      P : Row → Type 0
      P x = x.kind ≡ kind_trade → HistoryRight (swept m) x

      stays : (r : Row) → Memᴰ r m → r.kind ≡ kind_trade → HistoryRight (swept m) r
      stays r i k =
          let was = both.1 r i k in
          let one = was.0 in
          let key = a_history r.id r.status in
          let a =
          swept_same m (has_key key)
          (λ x z. no_key key (λ y. omega arith) ∙ sym (key_of_holds key x (λ y. let w = sym z ∙ y in omega arith)))
          in
          let b = swept_same m (higher r) (λ x z. sym (not_higher r x kind_request z refl)) in
          (omega arith, b ∙ was.1)
