-- A feed that is done leaves S3, S4, S5, S8, S9 and S10: what these rules look at is not touched, but for the status of
-- trades that are pending and the history rows that name them. Assumes nothing.
use Rattle.std.specs.Prelude.{◌≡◌, refl, Bool, true, false, ℕ, eqb, pos}
use Rattle.std.proofs.Common.{sym, ap, subst, ◌∙◌, arith, eq-eqb, eqb-true, ne_eqb}
use Rattle.std.proofs.lemmas.Bool.{false≢true}
use mathlib.Core.List.Memᴰ
use mathlib.Core.List.{List, [], Memᴰ}
use Rattle.laws.specs.All.{All, all_one}
use Rattle.laws.specs.Keep.{count_has}
use Rattle.laws.specs.Search.{bit, count, every}
use Rattle.record.specs.Codes.{completed, kind_band, kind_cash, kind_customer, kind_customer_rate, kind_free, kind_lot}
use Rattle.record.specs.Codes.{kind_lot_history, kind_security, kind_settlement, kind_summary, kind_trade, pending}
use Rattle.keys.specs.Key.{among}
use Rattle.keys.specs.declared.Key.{Key}
use Rattle.record.specs.declared.row.Row.{Row}
use Rattle.record.specs.declared.symbol.Symbol.{Symbol}
use Rattle.model.specs.Feed.{swept, traded, sent}
use Rattle.model.specs.Flags.{cash}
use Rattle.model.specs.Names.{a_cash, a_settlement, a_summary, a_tax_rate, a_trade, named}
use Rattle.model.specs.Rows.{found, has_key, nothing}
use Rattle.model.specs.Sound.{lot_of, other_sign, overlaps, shares_of}
use Rattle.model.specs.SoundMeans.{Each, LotRight, S10, S3, S4, S5, S8, S9, SoundBook, SummaryRight, There}
use Rattle.facts.specs.Found.{own_number}
use Rattle.facts.specs.Keys.{key_of_holds}
use Rattle.facts.specs.Sound.{names_account}
use Rattle.preserved.specs.FeedCalm.{calm_count, calm_key, calm_kind, calm_sum, calm_total, each_stays, finds_same}
use Rattle.preserved.specs.FeedCalm.{moving, passes_all, touched}
use Rattle.preserved.specs.FeedSteps.{Leads}
use Rattle.preserved.specs.ResultNames.{named_off}
use Rattle.preserved.specs.Cases.{not_among}
use Rattle.preserved.specs.Looks.{rates_alike}

-- ---- what a row names is no history and no request
named_stays : (x : Row) (k : Key) → Memᴰ k (named x) → among k.kind moving ≡ false
unfolding every
named_stays x = named_off moving x refl

names_none : (s : Row) → s.kind ≡ kind_security → named s ≡ []
unfolding named
names_none s e = rw e

module _ {rs m : List Row} (book : SoundBook rs) (lead : Leads rs m) where
  -- ---- what is found
  pub same_found : (k : Key) → among k.kind touched ≡ false → found k (swept m) ≡ found k rs
  same_found k off =
      let clash : (x : Row) (j : ℕ) → x.kind ≡ j → among j touched ≡ true → has_key k x ≡ false =
      λ x j e y. key_of_holds k x (λ q. not_among touched k.kind j off y (sym e ∙ q))
      in
      finds_same lead k (λ (x : Row). x)
      (record {
        calm = calm_kind k.kind off (has_key k) false (key_of_holds k);
        none = clash nothing kind_free refl refl;
        security = λ e s h y. absurd (false≢true (sym (clash s kind_security h refl) ∙ y));
        trade = λ e t h w y. absurd (false≢true (sym (clash t kind_trade h refl) ∙ y));
      })

  same_trade : {X : Type 0} (i : ℕ) (f : Row → X) → ((e s : Row) → f (traded e s) ≡ f s)
      → ((e t : Row) → t.status ≡ pending → f (sent e.time t) ≡ f t)
      → f (found (a_trade i) (swept m)) ≡ f (found (a_trade i) rs)
  same_trade i f a b =
      finds_same lead (a_trade i) f
      (record {
        calm = calm_key (a_trade i) refl;
        none = key_of_holds (a_trade i) nothing (λ q. omega arith);
        security = λ e s h y. a e s;
        trade = λ e t h w y. b e t w;
      })

  -- a completed trade stays so
  same_done : (i : ℕ) → (found (a_trade i) rs).status ≡ completed → (found (a_trade i) (swept m)).status ≡ completed
  same_done i h =
      let f : Row → Bool = λ x. eqb x.status completed in
      eqb-true (found (a_trade i) (swept m)).status completed
      (same_trade i f (λ e s. refl) (λ e t w. sym (ap (λ (n : ℕ). eqb n completed) w))
      ∙ eq-eqb (found (a_trade i) rs).status completed h)

  same_there : (k : Key) → among k.kind moving ≡ false → There k rs → There k (swept m)
  same_there k off h = let e = calm_count lead (has_key k) (calm_key k off) in omega arith

  -- ---- S3
  abbrev Known : Row → Type 0
  Known x =
      All (λ (k : Key). There k (swept m)) (named x) × (x.kind ≡ kind_trade → There (a_trade x.id) (swept m))

  was_known : All Known rs
  was_known x i = (
    λ k j. same_there k (named_stays x k j) (book.s3 x i k j),
    λ h.
        same_there (a_trade x.id) refl
        (count_has (has_key (a_trade x.id)) x rs i
        (own_number kind_trade refl x.id x (eq-eqb x.kind kind_trade h) refl)),
  )

  pub s3_feed : S3 (swept m)
  unfolding named
  s3_feed x i = (all x i).0
    where
      N : Key → Type 0
      N k = There k (swept m)

      all : All Known (swept m)
      all =
          passes_all lead Known
          (record {
            security = λ e s g h v p. (
              subst (All N) (sym (names_none (traded e s) h)) (λ k j. absurd (Memᴰ.not-nil j)),
              λ z. let y = sym h ∙ z in absurd (omega arith),
            );
            trade = λ e t g h w p. (
              subst (All N) (names_account t h ∙ sym (names_account (sent e.time t) h)) p.0,
              λ z. p.1 h,
            );
            history = λ e t g h p. (all_one N (a_trade t.id) (p.1 h), λ z. absurd (omega arith));
            free = (λ k j. absurd (Memᴰ.not-nil j), λ z. absurd (omega arith));
          })
          was_known

  -- ---- S4
  pub s4_feed : S4 (swept m)
  s4_feed x i k =
      calm_count lead (overlaps x)
      (calm_kind kind_band refl (overlaps x) false (λ y n. rw (ne_eqb y.kind kind_band n)))
      ∙ each_stays kind_band refl lead (λ (y : Row). count (overlaps y) rs ≡ 1) book.s4 x i k

  -- ---- S5
  pub s5_feed : S5 (swept m)
  s5_feed x i k =
      let was = each_stays kind_customer refl lead _ book.s5 x i k in
      let same =
      rates_alike (swept m) rs (λ i. same_found (a_tax_rate i) refl)
      (λ μ none. calm_total lead μ (calm_kind kind_customer_rate refl μ 0 none)) x.party
      in
      omega arith

  -- ---- S8
  lots_same : (a : ℕ) (y : Symbol) → count (lot_of a y) (swept m) ≡ count (lot_of a y) rs
  lots_same a y =
      calm_count lead (lot_of a y)
      (calm_kind kind_lot refl (lot_of a y) false (λ x n. rw (ne_eqb x.kind kind_lot n)))

  lot_right_holds : (l : Row) → LotRight rs l → LotRight (swept m) l
  lot_right_holds l was =
      let party = same_trade l.id (λ (x : Row). x.party) (λ e s. refl) (λ e t w. refl) in
      let symbol = same_trade l.id (λ (x : Row). x.symbol) (λ e s. refl) (λ e t w. refl) in
      let signs =
      calm_count lead (other_sign l)
      (calm_kind kind_lot refl (other_sign l) false (λ x n. rw (ne_eqb x.kind kind_lot n)))
      in (
        (
          ((same_done l.id was.0.0.0.0, party ∙ was.0.0.0.1), symbol ∙ was.0.0.1),
          signs ∙ was.0.1,
        ),
        same_there (a_summary l.party l.symbol) refl was.1,
      )

  summary_right_holds : (s : Row) → SummaryRight rs s → SummaryRight (swept m) s
  summary_right_holds s was =
      let f = shares_of s.party s.symbol in
      let lots = lots_same s.party s.symbol in
      let some = was.0 in (
        omega arith,
        calm_sum lead f (calm_kind kind_lot refl f (pos 0) (λ x n. rw (ne_eqb x.kind kind_lot n))) ∙ was.1,
      )

  pub s8_feed : S8 (swept m)
  s8_feed x i = (
    λ k. lot_right_holds x (each_stays kind_lot refl lead (LotRight rs) (λ r j h. (book.s8 r j).0 h) x i k),
    λ k. summary_right_holds x (each_stays kind_summary refl lead (SummaryRight rs) (λ r j h. (book.s8 r j).1 h) x i k),
  )

  -- ---- S9
  key_same : (k : Key) → among k.kind moving ≡ false → count (has_key k) (swept m) ≡ count (has_key k) rs
  key_same k off = calm_count lead (has_key k) (calm_key k off)

  settled_right : Each kind_trade
      (λ (t : Row). count (has_key (a_settlement t.id)) (swept m) ≡ bit (eqb t.status completed)) (swept m)
  settled_right =
      passes_all lead
      (λ (x : Row).
      x.kind ≡ kind_trade → count (has_key (a_settlement x.id)) (swept m) ≡ bit (eqb x.status completed))
      (record {
        security = λ e s g h v p z. let y = sym h ∙ z in absurd (omega arith);
        trade = λ e t g h w p z. p h ∙ ap (λ (n : ℕ). bit (eqb n completed)) w;
        history = λ e t g h p z. absurd (omega arith);
        free = λ z. absurd (omega arith);
      })
      (λ x i k. key_same (a_settlement x.id) refl ∙ (book.s9 x i).0.0 k)

  pub s9_feed : S9 (swept m)
  s9_feed x i = (
    (
      settled_right x i,
      λ k.
          let was = each_stays kind_settlement refl lead _ (λ r j h. (book.s9 r j).0.1 h) x i k in
          let flags = same_trade x.id (λ (y : Row). bit (cash y.flags)) (λ e s. refl) (λ e t w. refl) in
          (was.0 ∙ sym flags, key_same (a_cash x.id) refl ∙ was.1),
    ),
    λ k.
        let was = each_stays kind_cash refl lead _ (λ r j h. (book.s9 r j).1 h) x i k in
        let same = same_found (a_settlement x.id) refl in
        (ap (λ (y : Row). y.flags) same ∙ was.0, ap (λ (y : Row). y.m1) same ∙ was.1),
  )

  -- ---- S10
  pub s10_feed : S10 (swept m)
  s10_feed x i k =
      let was = each_stays kind_lot_history refl lead _ book.s10 x i k in
      (same_done x.id was.0, same_done x.m2 was.1)
