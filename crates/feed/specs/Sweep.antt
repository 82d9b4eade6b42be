-- The requests that were submitted leave, entry by entry: along the requests on an entry's symbol those that it hits
-- are freed.
use Rattle.std.specs.Prelude.{◌≡◌, refl, Bool, true, false, cond, ◌&&◌, ◌||◌, List, [], ◌∷◌, ◌++◌, map, ℕ, zero, suc, ◌+◌, ◌-◌, ◌/◌, ◌≤◌, ◌<◌, length, drop, get_or, set, take}
use Rattle.std.proofs.Common.{sym, ap, ◌∙◌, append_assoc, append-nil, add-zero, add-one, arith, drop-set-lt, take_all, take-suc-set}
use Rattle.std.proofs.lemmas.Bool.{false≢true}
use Rattle.std.proofs.lemmas.List.{set-get_or}
use Rattle.laws.specs.Search.{place, seek}
use Rattle.laws.specs.Tests.{and_false}
use Rattle.laws.specs.Walk.{from_clear, from_high, from_holds, from_low, left_next, left_none}
use Rattle.record.specs.Codes.{kind_request}
use Rattle.record.specs.Symbol.{same_symbol}
use Rattle.record.specs.declared.row.Row.{Row}
use Rattle.kinds.specs.Inputs.{feed_input_of}
use Rattle.kinds.specs.Kinds.{request_of}
use Rattle.kinds.specs.declared.inputs.FeedInput.{FeedInput}
use Rattle.kinds.specs.declared.rows.Request.{Request}
use Rattle.model.specs.Rows.{is, nothing, rows}
use Rattle.facts.specs.Rows.{length_rows}
use Rattle.places.specs.Rows.{row_at}
use Rattle.directory.specs.Listed.{places}
use Rattle.groups.specs.Sums.{request_on}
use Rattle.hits.specs.Hits.{any_reaches, due, hit_one_more, hit_by, hits, reaches}

-- what an entry leaves of a row
abbrev pub leaves : FeedInput → Row → Row
leaves e r = cond (is kind_request r && reaches e (request_of r)) nothing r

-- and all of them
abbrev pub left : List Row → Row → Row
left es r = cond (due es r) nothing r

-- of a request
module _ (b : List ℕ) (e : FeedInput) (at : ℕ) {q : Request} {x : Bool} (k : is kind_request (row_at b at) ≡ true)
    (a : q ≡ request_of (row_at b at)) (h : x ≡ reaches e q)
  where
    told : reaches e (request_of (row_at b at)) ≡ x
    told = ap (reaches e) (sym a) ∙ sym h

    pub goes : (b' : List ℕ) → x ≡ true → rows b' ≡ set (rows b) at nothing
        → rows b' ≡ set (rows b) at (leaves e (row_at b at))
    goes b' t q = q ∙ rw (k, told ∙ t)

    pub stays : x ≡ false → rows b ≡ set (rows b) at (leaves e (row_at b at))
    stays t = rw (k, told ∙ t) (sym (set-get_or (rows b) at nothing))

-- a row that is no request on its symbol is left as it is
others : (e : FeedInput) (r : Row) → request_on e.symbol r ≡ false → leaves e r ≡ r
unfolding reaches request_of
others e r h = go (is kind_request r) (same_symbol r.symbol e.symbol) _ h
  where
    go : (k s x : Bool) → (k && s) ≡ false → cond (k && (s && x)) nothing r ≡ r
    go true true x h = absurd (false≢true (sym h))
    go true false x h = refl
    go false s x h = refl

-- the first i rows are done, and what f makes of the rest leads to w
pub record Mapping (f : Row → Row) (b : List ℕ) (w : List Row) (i : ℕ) : Type 0 where
  pub within : i ≤ length b / 64
  pub same : take i (rows b) ++ map f (drop i (rows b)) ≡ w

pub map_start : (f : Row → Row) (b : List ℕ) → Mapping f b (map f (rows b)) 0
map_start f b = record { within = omega arith; same = refl }

module _ {f : Row → Row} {b : List ℕ} {w : List Row} {i : ℕ} (s : Mapping f b w i) where
  pub map_more : (b' : List ℕ) → i < length b / 64 → length b' ≡ length b
      → rows b' ≡ set (rows b) i (f (row_at b i)) → Mapping f b' w (i + 1)
  map_more b' h l q =
      let v = f (row_at b i) in
      let k : i < length (rows b) = rw length_rows h in
      let one = take-suc-set (rows b) i v k in
      let rest = drop-set-lt (suc i) (rows b) i v (omega arith) in
      let next : drop i (rows b) ≡ row_at b i ∷ drop (suc i) (rows b) = rw (← add-one) (left_next (rows b) i nothing k)
      in
      let was : take i (rows b) ++ (v ∷ map f (drop (suc i) (rows b))) ≡ w = rw next at s.same in
      record {
        within = rw l (omega arith);
        same =
            rw (q, add-one, one, rest)
            (append_assoc (take i (rows b)) (v ∷ []) (map f (drop (suc i) (rows b))) ∙ was);
      }

  pub map_all : length b / 64 ≤ i → rows b ≡ w
  map_all h =
      let k : length (rows b) ≤ i = rw length_rows h in
      let e : take i (rows b) ++ map f (drop i (rows b)) ≡ rows b =
      rw (left_none (rows b) i k, take_all i (rows b) k) (append-nil (rows b))
      in
      sym e ∙ s.same

-- ---- along the requests on a symbol
module _ {f : Row → Row} {b : List ℕ} {w : List Row} where
  advance : (n : ℕ) {i : ℕ} → Mapping f b w i → ((j : ℕ) → i ≤ j → j < i + n → f (row_at b j) ≡ row_at b j)
      → i + n ≤ places b → Mapping f b w (i + n)
  advance zero {i} s g h = rw (add-zero i) s
  advance (suc n) {i} s g h =
      let one = advance n s (λ j p q. g j p (omega arith)) (omega arith) in
      let same : rows b ≡ set (rows b) (i + n) (f (row_at b (i + n))) =
      rw (g (i + n) (omega arith) (omega arith)) (sym (set-get_or (rows b) (i + n) nothing))
      in
      let up : i + suc n ≡ i + n + 1 = omega arith in
      rw up (map_more one b (omega arith) refl same)

-- what an entry leaves of the rows before c is there, and at c stands the next request on its symbol
pub record Sweeping (e : FeedInput) (b : List ℕ) (w : List Row) (c : ℕ) : Type 0 where
  pub mapping : Mapping (leaves e) b w c
  pub here : c < places b → request_on e.symbol (row_at b c) ≡ true

sweep_on : (e : FeedInput) {b : List ℕ} {w : List Row} {i c : ℕ} → Mapping (leaves e) b w i → i ≤ places b
    → c ≡ seek (request_on e.symbol) i (drop i (rows b)) → Sweeping e b w c
sweep_on e {b} {w} {i} {c} s l q =
    let p = request_on e.symbol in
    let n = length_rows b in
    let low = from_low p (rows b) i in
    let high = from_high p (rows b) i (omega arith) in
    let clear : (j : ℕ) → i ≤ j → j < i + (c - i) → leaves e (row_at b j) ≡ row_at b j =
    λ j x y. others e (row_at b j) (from_clear p nothing (rows b) i j x (omega arith) (omega arith))
    in
    let gone = advance (c - i) s clear (omega arith) in
    let there : i + (c - i) ≡ c = omega arith in
    record {
      mapping = rw there at gone;
      here = λ h. rw q (from_holds p (rows b) i nothing (rw (length_rows, ← q) h));
    }

pub sweep_start : (e : FeedInput) (b : List ℕ) {c : ℕ} → c ≡ place (request_on e.symbol) (rows b)
    → Sweeping e b (map (leaves e) (rows b)) c
sweep_start e b q = sweep_on e (map_start (leaves e) b) (omega arith) q

module _ {e : FeedInput} {b : List ℕ} {w : List Row} {c : ℕ} (s : Sweeping e b w c) where
  pub sweep_less : {c' : ℕ} → c < places b → c' ≡ seek (request_on e.symbol) (c + 1) (drop (c + 1) (rows b))
      → places b - c' < places b - c
  sweep_less h q = let l = from_low (request_on e.symbol) (rows b) (c + 1) in omega arith

  pub sweep_more : {b' : List ℕ} {c' : ℕ} → c < places b → length b' ≡ length b
      → c' ≡ seek (request_on e.symbol) (c + 1) (drop (c + 1) (rows b))
      → rows b' ≡ set (rows b) c (leaves e (row_at b c)) → Sweeping e b' w c'
  sweep_more {b'} {c'} h l q r =
      let one = map_more s.mapping b' h l r in
      let rest : drop (c + 1) (rows b') ≡ drop (c + 1) (rows b) =
      rw r (drop-set-lt (c + 1) (rows b) c (leaves e (row_at b c)) (omega arith))
      in
      sweep_on e one (rw l (omega arith)) (rw rest q)

  pub sweep_end : places b ≤ c → rows b ≡ w
  sweep_end h = map_all s.mapping h

-- a book that stays as long has its places
pub in_book : (b b₀ : List ℕ) {end c : ℕ} → end ≡ places b₀ → length b ≡ length b₀ → c < end → c < places b
in_book b b₀ e l h = rw l (omega arith)

pub past_book : (b b₀ : List ℕ) {end c : ℕ} → end ≡ places b₀ → length b ≡ length b₀ → end ≤ c → places b ≤ c
past_book b b₀ e l h = rw l (omega arith)

-- a request on a symbol is a request
pub asks : (e : FeedInput) (r : Row) → request_on e.symbol r ≡ true → is kind_request r ≡ true
asks e r h = go (is kind_request r) (same_symbol r.symbol e.symbol) h
  where
    go : (k s : Bool) → (k && s) ≡ true → k ≡ true
    go true s h = refl
    go false s h = absurd (false≢true h)

-- ---- entry by entry
map_then : (f g h : Row → Row) → ((r : Row) → f (g r) ≡ h r) → (l : List Row) → map f (map g l) ≡ map h l
map_then f g h e [] = refl
map_then f g h e (x ∷ l) = rw (e x, map_then f g h e l)

pub left_start : (l : List Row) → l ≡ map (left []) l
unfolding any_reaches
left_start [] = refl
left_start (x ∷ l) = rw (and_false (is kind_request x), ← left_start l)

left_more : (es : List Row) (i : ℕ) (h : i < length es) (l : List Row)
    → map (leaves (feed_input_of (get_or es i nothing))) (map (left (take i es)) l) ≡ map (left (take (i + 1) es)) l
left_more es i h l =
    map_then (leaves (feed_input_of (get_or es i nothing))) (left (take i es)) (left (take (i + 1) es))
    (λ r.
    one r (is kind_request r) (hit_by (take i es) r) (hits (get_or es i nothing) r) refl refl refl (hit_one_more es i h r))
    l
  where
    e : FeedInput
    e = feed_input_of (get_or es i nothing)

    one : (r : Row) (k a b : Bool) → is kind_request r ≡ k → hit_by (take i es) r ≡ a → hits (get_or es i nothing) r ≡ b
        → hit_by (take (i + 1) es) r ≡ (hit_by (take i es) r || hits (get_or es i nothing) r)
        → leaves e (left (take i es) r) ≡ left (take (i + 1) es) r
    one r true true b p q s m = rw (m, p, q)
    one r true false true p q s m = rw (m, p, q, p, s)
    one r true false false p q s m = rw (m, p, q, p, s)
    one r false a b p q s m = rw (p, p)

left_all : (es : List Row) (i : ℕ) (l : List Row) → length es ≤ i → map (left (take i es)) l ≡ map (left es) l
left_all es i l h = rw (take_all i es h)

-- what the entries before the place i leave is there
module _ (input b₀ : List ℕ) (i : ℕ) (b : List ℕ) (s : rows b ≡ map (left (take i (rows input))) (rows b₀)) where
  pub sweep_next : (b' : List ℕ) {e : FeedInput} → i < places input → e ≡ feed_input_of (row_at input i)
      → rows b' ≡ map (leaves e) (rows b) → rows b' ≡ map (left (take (i + 1) (rows input))) (rows b₀)
  sweep_next b' h a q = q ∙ rw (a, s) (left_more (rows input) i (rw length_rows h) (rows b₀))

  pub sweep_all : places input ≤ i → rows b ≡ map (left (rows input)) (rows b₀)
  sweep_all h = s ∙ left_all (rows input) i (rows b₀) (rw length_rows h)
