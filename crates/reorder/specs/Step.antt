-- A result on rows, as a step of a run: what it answers, what the broker gains by it, and the rows that it leaves. It
-- is refused and leaves the rows, or it is done. Assumes nothing.
use Rattle.std.specs.Prelude.{◌≡◌, refl, false, cond, ◌&&◌, List, [], ◌∷◌, ◌⊎◌, ℕ, ◌+◌, ◌≤◌, length}
use Rattle.std.proofs.Math.Path.{sym, ap}
use Rattle.std.proofs.Common.{◌∙◌, inl, inr}
use Rattle.std.proofs.Math.Bool.{Bool, true}
use Rattle.std.proofs.Math.Dec.{eqb}
use borrow.Author.Tests.{eqb-true}
use Rattle.laws.specs.All.{All}
use Rattle.laws.specs.Change.{puts}
use Rattle.laws.specs.Keep.{keep_from}
use Rattle.laws.specs.Search.{keep, total}
use Rattle.laws.specs.Sort.{of_sort}
use Rattle.laws.specs.Tests.{◌⇔◌, and_left, and_right}
use Rattle.laws.specs.Puts.{news, olds, puts_total}
use Rattle.record.specs.Codes.{kind_account, kind_free, kind_lot, kind_summary, kind_trade}
use Rattle.record.specs.Symbol.{same_symbol}
use Rattle.record.specs.declared.row.Row.{Row}
use Rattle.rules.specs.Rules.{result_input}
use Rattle.model.specs.declared.Status.{Status}
use Rattle.model.specs.declared.Status.TheVariants.{BadInput}
use Rattle.model.specs.Status.{is_done}
use Rattle.model.specs.Flags.{lifo}
use Rattle.model.specs.Lots.{before, closes, lots_for}
use Rattle.model.specs.Money.{buys}
use Rattle.model.specs.Names.{a_broker, a_summary, a_trade, an_account}
use Rattle.model.specs.Plan.{Outcome, pick, refused}
use Rattle.model.specs.Result.{Figures, View, figures, posting, result, view}
use Rattle.model.specs.Rows.{found, has_key, is, most_records, same_row, there}
use Rattle.model.specs.Sound.{lot_of, short, sound}
use Rattle.facts.specs.Found.{found_has, found_live, found_member}
use Rattle.facts.specs.Rows.{row_itself, same_rows}
use Rattle.facts.specs.Names.{by_holder, by_id_holds, by_party_holds}
use Rattle.facts.specs.Sound.{named_there, names_account, names_broker}
use Rattle.facts.specs.Posted.{posted_puts, writes}
use Rattle.preserved.specs.Bytes.{puts_length}
use Rattle.preserved.specs.ResultBase.{Accepted, accepted_all, posting_of, refused_all, result_inside}
use Rattle.preserved.specs.ResultSound.{result_sound}
use Rattle.preserved.specs.Cases.{by_cases}
use Rattle.reorder.specs.Writes.{Seen}

-- what is noted of a step: the answer, and the broker and its commission where it is done
pub record Note : Type 0 where
  pub status : Status
  pub answer : List Row
  pub broker : ℕ
  pub commission : ℕ

abbrev pub outcome : List Row → Row → Outcome
outcome rs input = pick (result_input input) (result rs input) (refused BadInput rs)

abbrev pub note_of : View → Figures → Status → List Row → Note
note_of v f s answer = record {
  status = s;
  answer = answer;
  broker = cond (is_done s) v.account.n1 0;
  commission = cond (is_done s) f.commission 0;
}

unfoldable pub step : List Row → Row → Note × List Row
step rs input =
    let v = view rs input in
    let o = outcome rs input in
    (note_of v (figures input v) o.status o.answer, o.rows)

-- it is refused, and nothing is changed
pub record Refused (rs : List Row) (input : Row) : Type 0 where
  pub not_done : is_done (outcome rs input).status ≡ false
  pub unanswered : (outcome rs input).answer ≡ []
  pub as_found : (outcome rs input).rows ≡ rs

-- it is done
pub record Done (rs : List Row) (input : Row) : Type 0 where
  pub right : result_input input ≡ true
  pub done : is_done (result rs input).status ≡ true

module _ (rs : List Row) (input : Row) where
  pub step_cases : Refused rs input ⊎ Done rs input
  step_cases =
      by_cases (result_input input)
      (λ r. by_cases (is_done (result rs input).status)
      (λ d. inr (record { right = r; done = d }))
      (λ d.
      let q : outcome rs input ≡ refused (result rs input).status rs =
      ap (λ (b : Bool). pick b (result rs input) (refused BadInput rs)) r ∙ refused_all rs input d
      in
      inl (record {
        not_done = ap (λ (o : Outcome). is_done o.status) q ∙ d;
        unanswered = ap (λ (o : Outcome). o.answer) q;
        as_found = ap (λ (o : Outcome). o.rows) q;
      })))
      (λ r.
      let q : outcome rs input ≡ refused BadInput rs =
      ap (λ (b : Bool). pick b (result rs input) (refused BadInput rs)) r
      in
      inl (record {
        not_done = ap (λ (o : Outcome). is_done o.status) q;
        unanswered = ap (λ (o : Outcome). o.answer) q;
        as_found = ap (λ (o : Outcome). o.rows) q;
      }))

  module _ (d : Done rs input) where
    abbrev v : View
    v = view rs input

    outcome_is : outcome rs input ≡ result rs input
    outcome_is = ap (λ (b : Bool). pick b (result rs input) (refused BadInput rs)) d.right

    pub done_status : is_done (outcome rs input).status ≡ true
    done_status = ap (λ (o : Outcome). is_done o.status) outcome_is ∙ d.done

    accepted : Accepted rs input
    accepted = accepted_all rs input d.done

    pub done_answer : (outcome rs input).answer ≡ (posting input v (figures input v)).answer ∷ []
    done_answer = ap (λ (o : Outcome). o.answer) outcome_is ∙ accepted.answer

    done_rows : (outcome rs input).rows ≡ puts same_row (writes (posting_of rs input)) rs
    done_rows =
        ap (λ (o : Outcome). o.rows) outcome_is ∙ accepted.rows ∙ posted_puts (posting_of rs input) rs

    pub done_live : is kind_free v.trade ≡ false
    done_live = accepted.live

    -- the law of totals
    module _ (few : length rs ≤ most_records) (good : sound rs ≡ true) where
      pub done_total : (μ : Row → ℕ)
          → total μ (outcome rs input).rows + total μ (olds (writes (posting_of rs input)))
          ≡ total μ rs + total μ (news (writes (posting_of rs input)))
      done_total μ =
          rw done_rows
          (puts_total same_row same_rows row_itself μ (writes (posting_of rs input)) rs
          (result_inside rs input good accepted))

      pub done_sound : sound (outcome rs input).rows ≡ true
      done_sound =
          ap (λ (o : Outcome). sound o.rows) outcome_is ∙ result_sound rs input few good d.right d.done

-- ---- as many rows as there were
pub step_length : (rs : List Row) (input : Row) → length (step rs input).1 ≡ length rs
unfolding step
step_length rs input = go (step_cases rs input)
  where
    go : Refused rs input ⊎ Done rs input → length (outcome rs input).rows ≡ length rs
    go (inl r) = ap length r.as_found
    go (inr d) = ap length (done_rows rs input d) ∙ puts_length (writes (posting_of rs input)) rs

-- ---- what a result that is not refused for want of a trade has seen
module _ (rs : List Row) (input : Row) (good : sound rs ≡ true) (live : is kind_free (view rs input).trade ≡ false)
  where
    abbrev w : View
    w = view rs input

    there_trade : there (a_trade input.id) rs ≡ true
    unfolding view
    there_trade = found_live rs (a_trade input.id) live

    abbrev trade_row : Row
    trade_row = found (a_trade input.id) rs

    trade_fields : (is kind_trade trade_row && eqb trade_row.id input.id) ≡ true
    trade_fields = sym (by_id_holds kind_trade refl input.id trade_row) ∙ found_has (a_trade input.id) rs there_trade

    trade_kind : trade_row.kind ≡ kind_trade
    trade_kind = eqb-true trade_row.kind kind_trade (and_left (is kind_trade trade_row) _ trade_fields)

    trade_id_holds : trade_row.id ≡ input.id
    trade_id_holds = eqb-true trade_row.id input.id (and_right (is kind_trade trade_row) _ trade_fields)

    there_account : there (an_account trade_row.party) rs ≡ true
    there_account =
        named_there rs good trade_row (an_account trade_row.party) _ (found_member rs (a_trade input.id) there_trade)
        (names_account trade_row trade_kind)

    abbrev account_row : Row
    account_row = found (an_account trade_row.party) rs

    account_fields : (is kind_account account_row && eqb account_row.party trade_row.party) ≡ true
    account_fields =
        sym (by_party_holds kind_account refl trade_row.party account_row)
        ∙ found_has (an_account trade_row.party) rs there_account

    account_kind : account_row.kind ≡ kind_account
    account_kind = eqb-true account_row.kind kind_account (and_left (is kind_account account_row) _ account_fields)

    there_broker : there (a_broker account_row.n1) rs ≡ true
    there_broker =
        named_there rs good account_row (a_broker account_row.n1) _
        (found_member rs (an_account trade_row.party) there_account)
        (names_broker account_row account_kind)

    -- the broker is there
    pub broker_has : has_key (a_broker w.account.n1) (found (a_broker w.account.n1) rs) ≡ true
    unfolding view
    broker_has = found_has (a_broker account_row.n1) rs there_broker

    summary_own : is kind_free w.summary ≡ false
        → (w.summary.kind ≡ kind_summary) × (w.summary.party ≡ w.trade.party)
    unfolding view
    summary_own s =
        let p = trade_row.party in
        let y = trade_row.symbol in
        let k = a_summary p y in
        let r = found k rs in
        let h : (is kind_summary r && eqb r.party p && same_symbol r.symbol y) ≡ true =
        sym (by_holder p y r) ∙ found_has k rs (found_live rs k s)
        in
        let g = and_left (is kind_summary r && eqb r.party p) (same_symbol r.symbol y) h in (
          eqb-true r.kind kind_summary (and_left (is kind_summary r) (eqb r.party p) g),
          eqb-true r.party p (and_right (is kind_summary r) (eqb r.party p) g),
        )

    lots_own : All (λ (l : Row). (l.kind ≡ kind_lot) × (l.party ≡ w.trade.party)) w.lots
    unfolding view lots_for
    lots_own l m =
        let t = trade_row in
        let p = t.party in
        let y = t.symbol in
        let q : Row → Bool = λ r. closes t.form p y r in
        let k = keep_from q l rs (of_sort (before (lifo t.flags)) (keep q rs) l m) in
        let h = and_left (lot_of p y l) (buys t.form ⇔ short l) k.1 in
        let g = and_left (is kind_lot l && eqb l.party p) (same_symbol l.symbol y) h in (
          eqb-true l.kind kind_lot (and_left (is kind_lot l) (eqb l.party p) g),
          eqb-true l.party p (and_right (is kind_lot l) (eqb l.party p) g),
        )

    pub seen : (own : ℕ → ℕ) → own input.id ≡ trade_row.party → Seen own w
    unfolding view
    seen own e = record {
      t_kind = trade_kind;
      t_own = ap own trade_id_holds ∙ e;
      a_kind = account_kind;
      a_party =
          eqb-true account_row.party trade_row.party (and_right (is kind_account account_row) _ account_fields);
      s_own = summary_own;
      l_own = lots_own;
    }
