-- Feed: clause 3.3.3. "Entries apply in turn, as one transaction. Each sets last price and time and adds its shares
-- to the volume; then every request on that symbol with (TLB or TSL and bid ≥ price) or (TLS and bid ≤ price), by
-- rising trade number, leaves the book, its trade takes status 2 and the entry's time, and a history row is added." A
-- request waits while its trade is pending; those that no longer wait leave at the end, so that no place that the
-- call frees serves the call. Assumes nothing.
use Rattle.std.specs.Prelude.{Bool, cond, not, ◌&&◌, ◌||◌, List, [], ◌∷◌, map, ℕ, ◌+◌, eqb, leb, length}
use Rattle.laws.specs.Search.{every, keep, run}
use Rattle.laws.specs.Change.{put}
use Rattle.laws.specs.Sort.{sort}
use Rattle.record.specs.Codes.{kind_feed, kind_request, pending, submitted, tlb, tls, tsl}
use Rattle.record.specs.Symbol.{same_symbol}
use Rattle.record.specs.declared.row.Row.{Row}
use Rattle.rules.specs.Ranges.{kind, m1, n1, n2, status, volume, when}
use Rattle.model.specs.declared.Status.TheVariants.{FeedNoSecurity}
use Rattle.model.specs.Edit.{◌≔◌, changed, new}
use Rattle.model.specs.History.{history_row}
use Rattle.model.specs.Names.{a_security, a_trade}
use Rattle.model.specs.Plan.{Check, Outcome, accepted, check, decided, last_checks}
use Rattle.model.specs.Rows.{found, is, nothing, same_row, there}

-- the entry's price reaches the request's bid
abbrev pub reached : Row → Row → Bool
reached e r =
    ((eqb r.form tlb || eqb r.form tsl) && leb e.n1 r.n2) || (eqb r.form tls && leb r.n2 e.n1)

abbrev pub waits : List Row → Row → Bool
waits rs r = is kind_request r && eqb (found (a_trade r.id) rs).status pending

abbrev pub triggered : List Row → Row → Row → Bool
triggered rs e r = waits rs r && same_symbol r.symbol e.symbol && reached e r

abbrev pub lower : Row → Row → Bool
lower a b = leb a.id b.id

-- the requests that an entry submits, by rising trade number
unfoldable pub submits : List Row → Row → List Row
submits rs e = sort lower (keep (triggered rs e) rs)

-- a trade is submitted: its history row takes the lowest free place
abbrev pub sent : ℕ → Row → Row
sent time t = changed t (status ≔ submitted ∷ when ≔ time ∷ [])

abbrev pub submit : Row → List Row → Row → List Row
submit e rs r =
    let t = found (a_trade r.id) rs in
    put same_row t (sent e.time t) (put same_row nothing (history_row submitted r.id e.time) rs)

abbrev pub traded : Row → Row → Row
traded e s = changed s (n1 ≔ e.n1 ∷ m1 ≔ (s.m1 + e.n2) ∷ when ≔ e.time ∷ [])

-- the rows, and how many trades were submitted
pub record Fed : Type 0 where
  pub rows : List Row
  pub trades : ℕ

unfoldable pub applied : Fed → Row → Fed
applied f e =
    let s = found (a_security e.symbol) f.rows in
    let rs = put same_row s (traded e s) f.rows in
    let ts = submits rs e in
    record { rows = run (submit e) rs ts; trades = f.trades + length ts }

-- the requests that no longer wait leave the book
unfoldable pub swept : List Row → List Row
swept rs = map (λ (r : Row). cond (is kind_request r && not (waits rs r)) nothing r) rs

-- every volume stays in its range
abbrev pub volumes_fit : List Row → List Row → Bool
volumes_fit rs es = every (λ (e : Row). leb (found (a_security e.symbol) rs).m1 volume.high) es

-- the rows when all entries are applied, and how many trades they submitted
abbrev pub fed : List Row → List Row → Fed
fed rs es = run applied (record { rows = rs; trades = 0 }) es

-- what a feed is refused for
unfoldable pub checks : List Row → List Row → List Check
checks rs es =
    check (every (λ (e : Row). there (a_security e.symbol) rs) es) FeedNoSecurity
    ∷ last_checks (volumes_fit (fed rs es).rows es) (fed rs es).trades rs

abbrev pub answer_row : ℕ → ℕ → Row
answer_row entries trades = new (kind ≔ kind_feed ∷ n1 ≔ entries ∷ n2 ≔ trades ∷ [])

-- a feed on a sound book's rows
unfoldable pub feed : List Row → List Row → Outcome
feed rs es =
    decided (checks rs es) rs
    (accepted (answer_row (length es) (fed rs es).trades ∷ []) (swept (fed rs es).rows))
