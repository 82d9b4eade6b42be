-- A feed that is done leaves S1: a security takes the entry's price and time and a volume that fits, a trade and its
-- history row the entry's time. Assumes nothing.
use Rattle.std.specs.Prelude.{◌≡◌, refl, true, false, List, [], ◌∷◌, ℕ, ◌+◌, ◌≤◌, get_or}
use Rattle.std.proofs.Common.{sym, ◌∙◌, inl, ⊎_elim, arith}
use Rattle.record.specs.Codes.{completed, kind_free, kind_security, kind_trade, kind_trade_history, pending, submitted}
use Rattle.record.specs.declared.row.Row.{Row}
use Rattle.rules.specs.Meaning.{FeedInput, Security, Trade, TradeHistory, means_feed_input}
use Rattle.rules.proofs.Fits.{Fits, means_fits}
use Rattle.rules.specs.Meaning.{means_free, means_security, means_trade, means_trade_history}
use Rattle.rules.specs.Ranges.{◌⋯◌, id, kind, m1, n1, price, status, time, trade_number, trade_status, values, volume}
use Rattle.rules.specs.Ranges.{when}
use Rattle.rules.specs.Rules.{as_kind, feed_input, rules, security_limits, trade_limits}
use Rattle.model.specs.Feed.{swept, traded, sent}
use Rattle.model.specs.Rows.{nothing}
use Rattle.model.specs.SoundMeans.{S1, SoundBook}
use Rattle.model.specs.History.{history_row}
use Rattle.preserved.specs.FeedCalm.{passes_all}
use Rattle.preserved.specs.FeedSteps.{Leads}
use Rattle.preserved.specs.ResultFits.{fits_as}
use Rattle.preserved.specs.ResultFitsRanges.{Field, all_put, field, new_put}

-- the rule of a row's kind
rule_of : (k : ℕ) (x : Row) → x.kind ≡ k → Fits x → get_or rules k (λ (s : Row). false) x ≡ true
rule_of k x e f = as_kind k x e ∙ (means_fits x).holds f

-- a trade that is pending is not completed
not_done : (t : Row) → t.status ≡ pending → t.status ≡ completed → ⊥
not_done t w d = let z : ◌≡◌ {A = ℕ} 1 3 = sym w ∙ d in omega arith

module _ (e : Row) (input : feed_input e ≡ true) where
  entry : FeedInput e
  entry = (means_feed_input e).shows input

  abbrev at : Field
  at =
      field when e.time time entry.0.2.2.2.2.2.2.2.2.2.2.2.2.2.0
      entry.0.2.2.2.2.2.2.2.2.2.2.2.2.2.1

  security_fits : (s : Row) → s.m1 + e.n2 ≤ volume.high → Security s → Security (traded e s)
  security_fits s v fit = (
    all_put (values s) security_limits fit.0 (
        field n1 e.n1 price entry.0.2.2.2.2.2.2.2.0 entry.0.2.2.2.2.2.2.2.1
        ∷ field m1 (s.m1 + e.n2) volume (omega arith) v
        ∷ at ∷ []),
    fit.1,
  )

  sent_fits : (t : Row) → t.status ≡ pending → Trade t → Trade (sent e.time t)
  sent_fits t w fit = (
    (
      (
        all_put (values t) trade_limits fit.0.0.0 (
            field status submitted trade_status (omega arith) (omega arith) ∷ at ∷ []),
        (λ n. absurd (not_done t w (fit.0.0.1.0 n)), λ z. absurd (omega arith)),
      ),
      ⊎_elim (λ z. inl z) (λ d. absurd (not_done t w d)) fit.0.1,
    ),
    fit.1,
  )

  history_fits_holds : (t : Row) → Trade t → TradeHistory (history_row submitted t.id e.time)
  history_fits_holds t fit =
      new_put (
      field kind kind_trade_history (kind_trade_history ⋯ kind_trade_history) (omega arith) (omega arith)
      ∷ field status submitted trade_status (omega arith) (omega arith)
      ∷ field id t.id trade_number fit.0.0.0.2.2.2.2.2.0 fit.0.0.0.2.2.2.2.2.1
      ∷ at ∷ [])

pub s1_feed : {rs m : List Row} → SoundBook rs → Leads rs m → S1 (swept m)
s1_feed book lead =
    passes_all lead Fits
    (record {
      security = λ e s g h v p.
          let fit = (means_security s).shows (rule_of kind_security s h p) in
          fits_as kind_security (traded e s) h ((means_security (traded e s)).holds (security_fits e g s v fit));
      trade = λ e t g h w p.
          let fit = (means_trade t).shows (rule_of kind_trade t h p) in
          fits_as kind_trade (sent e.time t) h ((means_trade (sent e.time t)).holds (sent_fits e g t w fit));
      history = λ e t g h p.
          let x = history_row submitted t.id e.time in
          let fit = (means_trade t).shows (rule_of kind_trade t h p) in
          fits_as kind_trade_history x refl ((means_trade_history x).holds (history_fits_holds e g t fit));
      free = fits_as kind_free nothing refl ((means_free nothing).holds (new_put []));
    })
    book.s1
