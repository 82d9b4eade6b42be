-- What a result reads, as the code has it: the view of the rules as typed values, and the places of its rows. Assumes
-- nothing.
use Rattle.std.specs.Prelude.{◌≡◌, refl, Bool, true, false, not, List, ℕ, eqb, ltb}
use Rattle.std.proofs.Common.{ap, ◌∙◌}
use Rattle.laws.specs.Search.{place}
use Rattle.record.specs.Codes.{kind_free, kind_result}
use Rattle.record.specs.Signed.{up}
use Rattle.record.specs.Symbol.{no_symbol}
use Rattle.record.specs.declared.row.Row.{Row}
use Rattle.kinds.specs.Inputs.{result_input_of}
use Rattle.kinds.specs.Kinds.{account_of, broker_of, summary_of, trade_of}
use Rattle.kinds.specs.Written.{grid_row}
use Rattle.kinds.specs.declared.inputs.ResultInput.{ResultInput}
use Rattle.kinds.specs.declared.rows.Account.{Account}
use Rattle.kinds.specs.declared.rows.Broker.{Broker}
use Rattle.kinds.specs.declared.rows.Summary.{Summary}
use Rattle.kinds.specs.declared.rows.Trade.{Trade}
use Rattle.units.specs.declared.PerHundredThousand.{PerHundredThousand}
use Rattle.rules.specs.Meaning.{means_result_input}
use Rattle.rules.specs.Rules.{result_input}
use Rattle.rules.specs.Typed.{written}
use Rattle.keys.specs.declared.Key.{Key}
use Rattle.model.specs.declared.BandAnswer.{BandAnswer}
use Rattle.model.specs.Band.{band_answer}
use Rattle.model.specs.Names.{a_broker, a_customer, a_security, a_summary, a_trade, an_account}
use Rattle.model.specs.Result.{view}
use Rattle.model.specs.Rows.{found, has_key, is, rows, there}
use Rattle.model.specs.Sound.{rates_of}
use Rattle.facts.specs.Found.{found_kind, found_none}
use Rattle.places.specs.Rows.{row_at}
use Rattle.directory.specs.Found.{key_row, key_there}
use Rattle.directory.specs.Listed.{places}
use Rattle.reading.specs.declared.terms.Places.{Places}
use Rattle.reading.specs.declared.terms.Terms.{Terms}

-- ---- the row of an input
abbrev pub input_row : ResultInput → Row
input_row x = grid_row kind_result 0 0 0 0 x.trade.0 no_symbol x.price.0 0 0 0 0 0 x.time.0

pub input_written : (r : Row) → result_input r ≡ true → input_row (result_input_of r) ≡ r
unfolding result_input_of
input_written r e = let l = (means_result_input r).shows e in search written

-- ---- the places of the rows that a trade leads to
unfoldable pub places_of : List Row → ℕ → Places
places_of rs number =
    let trade = found (a_trade number) rs in
    record {
      trade = place (has_key (a_trade number)) rs;
      account = place (has_key (an_account trade.party)) rs;
      summary = place (has_key (a_summary trade.party trade.symbol)) rs;
      broker = place (has_key (a_broker (found (an_account trade.party) rs).n1)) rs;
    }

-- ---- all that is read
abbrev pub per_hundred_thousand : ℕ → PerHundredThousand
per_hundred_thousand x = record { 0 = x }

-- the broker of the account that is read
abbrev pub broker_read : List Row → Row → Row
broker_read rs input = found (a_broker (view rs input).account.n1) rs

unfoldable pub terms_of : List Row → Row → Terms
terms_of rs input =
    let v = view rs input in
    record {
      at = places_of rs input.id;
      known = not (is kind_free v.trade);
      held = not (is kind_free v.summary);
      trade = trade_of v.trade;
      account = account_of v.account;
      summary = summary_of v.summary;
      broker = broker_of (broker_read rs input);
      rates = per_hundred_thousand v.rates;
      band = v.band;
    }

-- what is found is nothing exactly where it is not there
there_live : (k : Key) (rs : List Row) → eqb k.kind kind_free ≡ false
    → there k rs ≡ not (is kind_free (found k rs))
there_live k rs n = go (there k rs) refl
  where
    go : (t : Bool) → there k rs ≡ t → there k rs ≡ not (is kind_free (found k rs))
    go true e = e ∙ rw (found_kind rs k e, n)
    go false e = e ∙ rw (found_none k rs e)

-- ---- as the code comes to them
pub places_are : (b : List ℕ) (n : ℕ) {x a s k : ℕ} {t : Trade} {c : Account} → x ≡ place (has_key (a_trade n)) (rows b)
    → t ≡ trade_of (row_at b x) → a ≡ place (has_key (an_account t.account.0)) (rows b) → c ≡ account_of (row_at b a)
    → s ≡ place (has_key (a_summary t.account.0 t.symbol)) (rows b)
    → k ≡ place (has_key (a_broker c.broker.0)) (rows b)
    → ◌≡◌ {A = Places} (record { trade = x; account = a; summary = s; broker = k }) (places_of (rows b) n)
unfolding places_of account_of trade_of
places_are b n {x} {a} {s} {k} {t} {c} x-is t-is a-is c-is s-is k-is =
    let own : t ≡ trade_of (found (a_trade n) (rows b)) = t-is ∙ ap trade_of (key_row (a_trade n) b x-is refl) in
    let at : a ≡ place (has_key (an_account (found (a_trade n) (rows b)).party)) (rows b) = a-is ∙ rw own in
    let held : c ≡ account_of (found (an_account (found (a_trade n) (rows b)).party) (rows b)) =
    c-is ∙ ap account_of (key_row (an_account (found (a_trade n) (rows b)).party) b at refl)
    in
    rw (k-is, held, s-is, own, at, x-is)

pub terms_are : (b : List ℕ) (i : ResultInput) {p : Places} {e : ℕ} {t : Trade} {a : Account} {s : Summary} {k : Broker}
    {y : PerHundredThousand} {z : BandAnswer} → p ≡ places_of (rows b) i.trade.0
    → e ≡ places b → t ≡ trade_of (row_at b p.trade) → a ≡ account_of (row_at b p.account)
    → s ≡ summary_of (row_at b p.summary) → k ≡ broker_of (row_at b p.broker)
    → y.0 ≡ rates_of (rows b) a.customer.0
    → z ≡ band_answer (rows b) t.trade_type (found (a_customer a.customer.0) (rows b)).form
    (found (a_security t.symbol) (rows b)).form (up t.shares.0)
    → ◌≡◌ {A = Terms}
    (record {
      at = p;
      known = ltb p.trade e;
      held = ltb p.summary e;
      trade = t;
      account = a;
      summary = s;
      broker = k;
      rates = y;
      band = z;
    })
    (terms_of (rows b) (input_row i))
unfolding terms_of places_of view account_of trade_of
terms_are b i {p} {e} {t} {a} {s} {k} {y} {z} p-is e-is t-is a-is s-is k-is y-is z-is =
    let rs = rows b in
    let x = input_row i in
    let tk = a_trade i.trade.0 in
    let tr = found tk rs in
    let ak = an_account tr.party in
    let ar = found ak rs in
    let sk = a_summary tr.party tr.symbol in
    let bk = a_broker ar.n1 in
    let own : t ≡ trade_of tr = t-is ∙ ap trade_of (key_row tk b (ap (λ (q : Places). q.trade) p-is) refl) in
    let held : a ≡ account_of ar = a-is ∙ ap account_of (key_row ak b (ap (λ (q : Places). q.account) p-is) refl) in
    let sums : s ≡ summary_of (found sk rs) =
    s-is ∙ ap summary_of (key_row sk b (ap (λ (q : Places). q.summary) p-is) refl)
    in
    let deals : k ≡ broker_of (found bk rs) =
    k-is ∙ ap broker_of (key_row bk b (ap (λ (q : Places). q.broker) p-is) refl)
    in
    let known : ltb p.trade e ≡ not (is kind_free tr) =
    rw e-is (key_there tk b (ap (λ (q : Places). q.trade) p-is)) ∙ there_live tk rs refl
    in
    let some : ltb p.summary e ≡ not (is kind_free (found sk rs)) =
    rw e-is (key_there sk b (ap (λ (q : Places). q.summary) p-is)) ∙ there_live sk rs refl
    in
    let ys : y ≡ per_hundred_thousand (rates_of rs ar.n2) = ap per_hundred_thousand (y-is ∙ rw held) in
    let zs : z ≡ band_answer rs tr.form (found (a_customer ar.n2) rs).form
    (found (a_security tr.symbol) rs).form tr.n1 =
    z-is ∙ rw (own, held)
    in
    rw (known, some, own, held, sums, deals, ys, zs, p-is)
