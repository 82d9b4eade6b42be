-- What a feed does not touch: what is made of each row, counted, summed and found is as it was wherever no step changes
-- what is looked at; and what each step passes on holds of every row. Assumes nothing.
use Rattle.std.specs.Prelude.{◌≡◌, refl, Bool, true, false, cond, not, ◌&&◌, List, [], ◌∷◌, map, ◌⊎◌, ℕ, ◌+◌, ◌≤◌, ℤ}
use Rattle.std.proofs.Common.{sym, ◌∙◌, inl, inr, arith, eqb-true}
use Rattle.std.proofs.Math.Path.{ap, subst}
use Rattle.std.proofs.lemmas.Bool.{false≢true}
use Rattle.std.proofs.Math.Logic.{⊎_elim}
use Rattle.laws.specs.All.{All, all_map}
use Rattle.laws.specs.Change.{put}
use Rattle.laws.specs.Keep.{count_map, count_on}
use Rattle.laws.specs.Search.{count, sum_z, the, total}
use Rattle.laws.specs.Tests.{and_left}
use Rattle.laws.specs.Total.{total_map}
use Rattle.laws.specs.Puts.{count_less}
use Rattle.record.specs.Codes.{kind_free, kind_request, kind_security, kind_trade, kind_trade_history, pending, submitted}
use Rattle.keys.specs.Key.{among, key_of, same_key}
use Rattle.keys.specs.declared.Key.{Key}
use Rattle.record.specs.declared.row.Row.{Row}
use Rattle.rules.specs.Ranges.{volume}
use Rattle.rules.specs.Rules.{feed_input}
use Rattle.model.specs.Feed.{swept, traded, waits, sent}
use Rattle.model.specs.Rows.{found, has_key, is, nothing, same_row}
use Rattle.model.specs.SoundMeans.{Each}
use Rattle.model.specs.History.{history_row}
use Rattle.facts.specs.Rows.{same_rows}
use Rattle.facts.specs.Keys.{key_of_holds}
use Rattle.preserved.specs.Cases.{by_cases, not_among}
use Rattle.preserved.specs.FeedLaws.{all_put, map_map_same, map_put, sum_map, the_map, the_put}
use Rattle.preserved.specs.FeedSteps.{Leads}

-- what the end of a feed makes of a row
abbrev pub sweep : List Row → Row → Row
sweep m r = cond (is kind_request r && not (waits m r)) nothing r

pub sweep_either : (m : List Row) (r : Row) → (sweep m r ≡ r) ⊎ ((sweep m r ≡ nothing) × (r.kind ≡ kind_request))
sweep_either m r =
    by_cases (is kind_request r && not (waits m r))
    (λ e. inr (rw e, eqb-true r.kind kind_request (and_left (is kind_request r) (not (waits m r)) e)))
    (λ e. inl (rw e))

-- what is counted at the end of a feed
pub swept_same : (m : List Row) (p : Row → Bool) → ((r : Row) → r.kind ≡ kind_request → p nothing ≡ p r)
    → count p (swept m) ≡ count p m
unfolding swept
swept_same m p h =
    count_map p (sweep m) m
    ∙ count_on (λ r. p (sweep m r)) p m
    (λ r i. ⊎_elim (ap p) (λ q. ap p q.0 ∙ h r q.1) (sweep_either m r))

pub swept_fewer : (m : List Row) (p : Row → Bool) → p nothing ≡ false → count p (swept m) ≤ count p m
unfolding swept
swept_fewer m p n =
    let all = count_map p (sweep m) m in
    let less =
    count_less (λ r. p (sweep m r)) p m
    (λ r i y.
    ⊎_elim (λ e. sym (ap p e) ∙ y) (λ q. absurd (false≢true (sym n ∙ sym (ap p q.0) ∙ y))) (sweep_either m r))
    in
    omega arith

-- ---- what no step changes
pub record Calm {X : Type 0} (f : Row → X) : Type 0 where
  pub security : (e s : Row) → s.kind ≡ kind_security → f (traded e s) ≡ f s
  pub trade : (e t : Row) → t.kind ≡ kind_trade → t.status ≡ pending → f (sent e.time t) ≡ f t
  pub history : (e : Row) (i : ℕ) → f (history_row submitted i e.time) ≡ f nothing
  pub request : (r : Row) → r.kind ≡ kind_request → f nothing ≡ f r

-- what is found does not change either
pub record Finds {X : Type 0} (p : Row → Bool) (f : Row → X) : Type 0 where
  pub calm : Calm p
  pub none : p nothing ≡ false
  pub security : (e s : Row) → s.kind ≡ kind_security → p s ≡ true → f (traded e s) ≡ f s
  pub trade : (e t : Row) → t.kind ≡ kind_trade → t.status ≡ pending → p t ≡ true → f (sent e.time t) ≡ f t

-- what each step passes on
pub record Passes (P : Row → Type 0) : Type 0 where
  pub security : (e s : Row) → feed_input e ≡ true → s.kind ≡ kind_security → s.m1 + e.n2 ≤ volume.high → P s
      → P (traded e s)
  pub trade : (e t : Row) → feed_input e ≡ true → t.kind ≡ kind_trade → t.status ≡ pending → P t → P (sent e.time t)
  pub history : (e t : Row) → feed_input e ≡ true → t.kind ≡ kind_trade → P t → P (history_row submitted t.id e.time)
  pub free : P nothing

module _ {rs m : List Row} (lead : Leads rs m) where
  calm_steps : {X : Type 0} (f : Row → X) → Calm f → map f m ≡ map f rs
  calm_steps f c =
      lead (λ (l : List Row). map f l ≡ map f rs)
      (record {
        trades = λ l e s t ih. map_put same_row same_rows s (traded e s) f (c.security e s t.kind) l ∙ ih;
        sends = λ l e t q ih.
            let h = history_row submitted t.id e.time in
            map_put same_row same_rows t (sent e.time t) f (c.trade e t q.kind q.waits) (put same_row nothing h l)
            ∙ map_put same_row same_rows nothing h f (c.history e t.id) l
            ∙ ih;
      })
      refl

  calm_map : {X : Type 0} (f : Row → X) → Calm f → map f (swept m) ≡ map f rs
  unfolding swept
  calm_map f c =
      map_map_same f (sweep m)
      (λ r. ⊎_elim (ap f) (λ h. ap f h.0 ∙ c.request r h.1) (sweep_either m r)) m
      ∙ calm_steps f c

  pub calm_count : (p : Row → Bool) → Calm p → count p (swept m) ≡ count p rs
  calm_count p c =
      sym (count_map (λ (b : Bool). b) p (swept m)) ∙ ap (count (λ (b : Bool). b)) (calm_map p c)
      ∙ count_map (λ (b : Bool). b) p rs

  pub calm_total : (f : Row → ℕ) → Calm f → total f (swept m) ≡ total f rs
  calm_total f c =
      sym (total_map (λ (x : ℕ). x) f (swept m))
      ∙ ap (total (λ (x : ℕ). x)) (calm_map f c)
      ∙ total_map (λ (x : ℕ). x) f rs

  pub calm_sum : (f : Row → ℤ) → Calm f → sum_z f (swept m) ≡ sum_z f rs
  calm_sum f c = sym (sum_map f (swept m)) ∙ ap (sum_z (λ (x : ℤ). x)) (calm_map f c) ∙ sum_map f rs

  finds_steps : {X : Type 0} (p : Row → Bool) (f : Row → X) → Finds p f → f (the p nothing m) ≡ f (the p nothing rs)
  finds_steps p f c =
      lead (λ (l : List Row). f (the p nothing l) ≡ f (the p nothing rs))
      (record {
        trades = λ l e s t ih.
            the_put same_row same_rows s (traded e s) f p nothing (c.calm.security e s t.kind)
            (c.security e s t.kind) l
            ∙ ih;
        sends = λ l e t q ih.
            let h = history_row submitted t.id e.time in
            the_put same_row same_rows t (sent e.time t) f p nothing (c.calm.trade e t q.kind q.waits)
            (c.trade e t q.kind q.waits) (put same_row nothing h l)
            ∙ the_put same_row same_rows nothing h f p nothing (c.calm.history e t.id)
            (λ y. absurd (false≢true (sym c.none ∙ y))) l
            ∙ ih;
      })
      refl

  pub finds_same : {X : Type 0} (k : Key) (f : Row → X) → Finds (has_key k) f → f (found k (swept m)) ≡ f (found k rs)
  unfolding swept found
  finds_same k f c =
      let p = has_key k in
      the_map f p nothing (sweep m)
      (λ r. ⊎_elim (ap p) (λ h. ap p h.0 ∙ c.calm.request r h.1) (sweep_either m r))
      (λ r y.
      ⊎_elim (ap f)
      (λ h. absurd (false≢true (sym c.none ∙ c.calm.request r h.1 ∙ y)))
      (sweep_either m r))
      m
      ∙ finds_steps p f c

  pub passes_steps : (P : Row → Type 0) → Passes P → All P rs → All P m
  passes_steps P c a =
      lead (All P)
      (record {
        trades = λ l e s t ih.
            all_put same_row same_rows s (traded e s) P
            (c.security e s t.good t.kind t.volume (ih s t.here)) l ih;
        sends = λ l e t q ih.
            let h = history_row submitted t.id e.time in
            let own = ih t q.here in
            all_put same_row same_rows t (sent e.time t) P (c.trade e t q.good q.kind q.waits own)
            (put same_row nothing h l)
            (all_put same_row same_rows nothing h P (c.history e t q.good q.kind own) l ih);
      })
      a

  pub passes_all : (P : Row → Type 0) → Passes P → All P rs → All P (swept m)
  unfolding swept
  passes_all P c a =
      all_map (sweep m) P m
      (λ r i.
      ⊎_elim (λ e. subst P (sym e) (passes_steps P c a r i)) (λ h. subst P (sym h.0) c.free)
      (sweep_either m r))

-- ---- kinds that a feed does not touch
abbrev pub touched : List ℕ
touched = kind_security ∷ kind_trade ∷ kind_trade_history ∷ kind_request ∷ kind_free ∷ []

-- what is the same for all rows of other kinds
module _ (k : ℕ) (off : among k touched ≡ false) where
  pub calm_kind : {X : Type 0} (f : Row → X) (z : X) → ((r : Row) → (r.kind ≡ k → ⊥) → f r ≡ z) → Calm f
  calm_kind f z of =
      let at : (r : Row) (j : ℕ) → r.kind ≡ j → among j touched ≡ true → f r ≡ z =
      λ r j e y. of r (λ q. not_among touched k j off y (sym e ∙ q))
      in
      record {
        security = λ e s h. at (traded e s) kind_security h refl ∙ sym (at s kind_security h refl);
        trade = λ e t h w. at (sent e.time t) kind_trade h refl ∙ sym (at t kind_trade h refl);
        history = λ e i. at (history_row submitted i e.time) kind_trade_history refl refl ∙ sym (at nothing kind_free refl refl);
        request = λ r h. at nothing kind_free refl refl ∙ sym (at r kind_request h refl);
      }

  pub each_stays : {rs m : List Row} → Leads rs m → (P : Row → Type 0) → Each k P rs → Each k P (swept m)
  each_stays lead P a =
      let clash : (j : ℕ) → among j touched ≡ true → j ≡ k → ⊥ = λ j. not_among touched k j off in
      passes_all lead (λ (x : Row). x.kind ≡ k → P x)
      (record {
        security = λ e s g h v p q. absurd (clash kind_security refl (sym h ∙ q));
        trade = λ e t g h w p q. absurd (clash kind_trade refl (sym h ∙ q));
        history = λ e t g h p q. absurd (clash kind_trade_history refl q);
        free = λ q. absurd (clash kind_free refl q);
      })
      a

-- ---- keys
pub traded_key : (e s : Row) → s.kind ≡ kind_security → (k : Key) → has_key k (traded e s) ≡ has_key k s
unfolding has_key key_of
traded_key e s h k =
    let q : key_of (traded e s) ≡ key_of s = rw h in
    ap (λ (x : Key). same_key x k) q

pub sent_key : (e t : Row) → t.kind ≡ kind_trade → (k : Key) → has_key k (sent e.time t) ≡ has_key k t
unfolding has_key key_of
sent_key e t h k =
    let q : key_of (sent e.time t) ≡ key_of t = rw h in
    ap (λ (x : Key). same_key x k) q

-- of rows that neither come nor go
abbrev pub moving : List ℕ
moving = kind_trade_history ∷ kind_request ∷ kind_free ∷ []

pub calm_key : (k : Key) → among k.kind moving ≡ false → Calm (has_key k)
calm_key k off =
    let at : (r : Row) (j : ℕ) → r.kind ≡ j → among j moving ≡ true → has_key k r ≡ false =
    λ r j e y. key_of_holds k r (λ q. not_among moving k.kind j off y (sym e ∙ q))
    in
    record {
      security = λ e s h. traded_key e s h k;
      trade = λ e t h w. sent_key e t h k;
      history = λ e i. at (history_row submitted i e.time) kind_trade_history refl refl ∙ sym (at nothing kind_free refl refl);
      request = λ r h. at nothing kind_free refl refl ∙ sym (at r kind_request h refl);
    }
