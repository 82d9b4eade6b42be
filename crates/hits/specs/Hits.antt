-- Which requests the entries of a feed submit.
use Rattle.std.specs.Prelude.{◌≡◌, refl, Bool, true, false, not, ◌&&◌, ◌||◌, List, [], ◌∷◌, ◌++◌, ℕ, ◌+◌, ◌<◌, eqb, leb, length, take, get_or}
use Rattle.std.proofs.Common.{sym, ap, ◌∙◌, add-one, take-suc}
use Rattle.std.proofs.lemmas.Bool.{false≢true}
use Rattle.laws.specs.Search.{bit, count}
use Rattle.laws.specs.Keep.{count_split}
use Rattle.laws.specs.Tests.{or_assoc, or_false}
use Rattle.record.specs.Codes.{kind_request, tlb, tls, tsl}
use Rattle.record.specs.Symbol.{same_symbol}
use Rattle.record.specs.declared.row.Row.{Row}
use Rattle.kinds.specs.Inputs.{feed_input_of}
use Rattle.kinds.specs.Kinds.{request_of}
use Rattle.kinds.specs.declared.inputs.FeedInput.{FeedInput}
use Rattle.kinds.specs.declared.rows.Request.{Request}
use Rattle.model.specs.Feed.{reached}
use Rattle.model.specs.Rows.{is, nothing}
use Rattle.groups.specs.Sums.{request_on}

-- an entry is on the request's symbol and reaches its bid
unfoldable pub reaches : FeedInput → Request → Bool
reaches e r =
    same_symbol r.symbol e.symbol
    && (((eqb r.trade_type tlb || eqb r.trade_type tsl) && leb e.price.0 r.bid.0)
    || (eqb r.trade_type tls && leb r.bid.0 e.price.0))

abbrev pub hits : Row → Row → Bool
hits e r = reaches (feed_input_of e) (request_of r)

-- which is what the rules say
pub hits_is : (e r : Row) → hits e r ≡ (same_symbol r.symbol e.symbol && reached e r)
unfolding reaches feed_input_of request_of
hits_is e r = refl

unfoldable pub any_reaches : List Row → Request → Bool
any_reaches [] r = false
any_reaches (e ∷ es) r = reaches (feed_input_of e) r || any_reaches es r

abbrev pub hit_by : List Row → Row → Bool
hit_by es r = any_reaches es (request_of r)

abbrev pub due : List Row → Row → Bool
due es r = is kind_request r && hit_by es r

-- the entry numbered i is the first that hits it
abbrev pub first_hit : List Row → ℕ → Row → Bool
first_hit es i r = hits (get_or es i nothing) r && not (hit_by (take i es) r)

module _ (es : List Row) (i : ℕ) (r : Row) {q : Request} {e : FeedInput} {x : Bool} (a : q ≡ request_of r)
    (b : e ≡ feed_input_of (get_or es i nothing)) (c : x ≡ reaches e q)
  where
    hit : hits (get_or es i nothing) r ≡ x
    hit = ap (λ (u : FeedInput). reaches u (request_of r)) (sym b) ∙ ap (reaches e) (sym a) ∙ sym c

    pub first_hit_holds : {y : Bool} → x ≡ true → y ≡ any_reaches (take i es) q → not y ≡ first_hit es i r
    first_hit_holds t d = rw (hit ∙ t) (ap not (d ∙ ap (any_reaches (take i es)) a))

    pub no_hit : x ≡ false → false ≡ first_hit es i r
    no_hit t = rw (hit ∙ t)

-- a request that the entry numbered i submits
abbrev pub fresh : List Row → ℕ → Row → Bool
fresh es i r = is kind_request r && first_hit es i r

-- such a request is on the entry's symbol
pub fresh_on : (es : List Row) (i : ℕ) (r : Row) → request_on (get_or es i nothing).symbol r ≡ false
    → fresh es i r ≡ false
fresh_on es i r e =
    go (is kind_request r) (same_symbol r.symbol (get_or es i nothing).symbol) (reached (get_or es i nothing) r)
    (not (hit_by (take i es) r)) (hits_is (get_or es i nothing) r) e
  where
    go : (k s b n : Bool) {h : Bool} → h ≡ (s && b) → (k && s) ≡ false → (k && (h && n)) ≡ false
    go true true b n e h = absurd (false≢true (sym h))
    go true false b n e h = rw e
    go false s b n e h = refl

-- ---- one entry more
one_more : (es : List Row) (e : Row) (r : Request)
    → any_reaches (es ++ e ∷ []) r ≡ (any_reaches es r || reaches (feed_input_of e) r)
unfolding any_reaches
one_more [] e r = or_false (reaches (feed_input_of e) r)
one_more (x ∷ es) e r =
    ap (λ (t : Bool). reaches (feed_input_of x) r || t) (one_more es e r)
    ∙ sym (or_assoc (reaches (feed_input_of x) r) (any_reaches es r) (reaches (feed_input_of e) r))

module _ (es : List Row) (i : ℕ) (h : i < length es) where
  pub hit_one_more : (r : Row) → hit_by (take (i + 1) es) r ≡ (hit_by (take i es) r || hits (get_or es i nothing) r)
  hit_one_more r =
      ap (λ (l : List Row). hit_by l r) (ap (λ (n : ℕ). take n es) (add-one i) ∙ take-suc es i nothing h)
      ∙ one_more (take i es) (get_or es i nothing) (request_of r)

  -- with it as many more are due as it submits
  pub due_more : (rs : List Row) → count (due (take (i + 1) es)) rs ≡ count (due (take i es)) rs + count (fresh es i) rs
  due_more rs =
      sym (count_split (due (take i es)) (fresh es i) (due (take (i + 1) es)) rs
      (λ r. parts (is kind_request r) (hit_by (take i es) r) (hits (get_or es i nothing) r) (hit_one_more r)))
    where
      parts : (k a b : Bool) {c : Bool} → c ≡ (a || b) → bit (k && a) + bit (k && (b && not a)) ≡ bit (k && c)
      parts true true true e = rw e
      parts true true false e = rw e
      parts true false true e = rw e
      parts true false false e = rw e
      parts false a b e = refl
