-- The whole result, as the code comes to it: what each step asks, and what they leave together. Assumes nothing.
use Rattle.std.specs.Prelude.{◌≡◌, true, ◌&&◌, List, ◌++◌, map, ℕ, ◌+◌, ◌*◌, ◌≤◌, ◌<◌, nat_abs, length, take}
use Rattle.std.proofs.Math.Path.{refl}
use Rattle.std.proofs.Common.{sym, ap, ◌∙◌, arith}
use Rattle.std.proofs.Math.Dec.{leb}
use Rattle.std.proofs.Math.ListN.{get_or}
use borrow.Author.Tests.{leb-true}
use Rattle.laws.specs.Change.{fill}
use Rattle.laws.specs.Place.{every_at}
use Rattle.laws.specs.Tests.{and_left, and_right}
use Rattle.record.specs.Codes.{kind_lot}
use Rattle.record.specs.Signed.{up}
use Rattle.record.specs.declared.row.Row.{Row}
use Rattle.kinds.specs.Inputs.{result_input_of}
use Rattle.kinds.specs.Kinds.{broker_of, trade_of}
use Rattle.kinds.specs.Written.{trade_row}
use Rattle.kinds.specs.declared.inputs.ResultInput.{ResultInput}
use Rattle.rules.specs.Meaning.{means_lot, means_result_input}
use Rattle.rules.specs.Ranges.{broker_trades, commission_total, money_most, price_most, shares_most}
use Rattle.rules.specs.Rules.{as_kind, fits, result_input}
use Rattle.model.specs.Lots.{closings}
use Rattle.model.specs.Result.{closed_lots, closing_rows, figures, lot_changes, posting, sums_of, view}
use Rattle.model.specs.Rows.{most_records, nothing, rows, same_row}
use Rattle.model.specs.Sound.{s1, sound}
use Rattle.facts.specs.Found.{sound_s1}
use Rattle.facts.specs.Keys.{of_live}
use Rattle.facts.specs.Most.{price_fits, shares_near}
use Rattle.facts.specs.Posted.{frees}
use Rattle.facts.specs.Rows.{length_rows}
use Rattle.money.specs.Amounts.{UpTo, up_to, value_most}
use Rattle.walk.specs.Walk.{Within, begun, within_most}
use Rattle.walk.specs.declared.Walk.{Walk}
use Rattle.upkeep.specs.Added.{Added, Room, added_keeps, added_then, room_first, room_next, room_start}
use Rattle.directory.specs.Directory.{Directory}
use Rattle.directory.specs.declared.totals.Totals.{Totals}
use Rattle.reading.specs.declared.terms.Terms.{Terms}
use Rattle.reading.specs.Lots.{Held}
use Rattle.reading.specs.Terms.{broker_read, input_row, terms_of}
use Rattle.figures.specs.declared.Figures.{Figures}
use Rattle.figures.specs.Figures.{figures_of}
use Rattle.figures.specs.Reckoned.{Reckoned}
use Rattle.verdict.specs.Judge.{Passed, how_many, result_rows, total_read}
use Rattle.closed.specs.declared.Closed.{Closed}
use Rattle.closed.specs.Close.{Closables, Told, closed, freed, part_put}
use Rattle.added.specs.Add.{own_added}
use Rattle.changed.specs.Change.{change_puts, summary_free}
use Rattle.result.specs.Place.{placed}
use Rattle.result.specs.Post.{all_added, by_place, cs, lot_put, lots_freed, read, trade_is}
use Rattle.result.specs.Post
use Rattle.result.specs.Posted.{posted_by_place}
use Rattle.written.specs.Rows.{time_most}
use Rattle.written.specs.Turned.{Ready, Turned, ready_added, ready_first, ready_next, turned_then}
use Rattle.result.specs.Turns.{ready_all}

-- ---- all that is known of a result that is posted
pub record Posts (b d at : List ℕ) (n : ℕ) (tt : Totals) (i : ResultInput) (t : Terms) (f : Figures) : Type 0 where
  pub directory : Directory b d tt
  pub good : sound (rows b) ≡ true
  pub right : result_input (input_row i) ≡ true
  pub read : t ≡ terms_of (rows b) (input_row i)
  pub reckoned : Reckoned (rows b) (input_row i) f
  pub passed : Passed (rows b) (input_row i)
  pub held : Held t b at n

pub start_fits : {b d at : List ℕ} {n : ℕ} {tt : Totals} {i : ResultInput} {t : Terms} {f : Figures}
    → Posts b d at n tt i t f → UpTo shares_most t.trade.shares.0 × (i.price.0 ≤ price_most)
unfolding terms_of trade_of
start_fits {b} {i = i} h =
    let rs = rows b in
    let x = input_row i in (
      rw h.read (up_to shares_most (view rs x).trade.n1 (shares_near rs x h.good)),
      price_fits x h.right,
    )

module _ {b d at : List ℕ} {n : ℕ} {tt : Totals} {i : ResultInput} {t : Terms} {f : Figures}
    (h : Posts b d at n tt i t f) (wide : most_records ≤ length at) where
  abbrev rs : List Row
  rs = rows b

  abbrev x : Row
  x = input_row i

  pub long : n ≤ length at
  long = let m = h.held.few in let few = h.directory.listed.few in omega arith

  -- ---- ranges
  pub time_fits : i.time.0 ≤ time_most
  time_fits = ((means_result_input x).shows h.right).2.2.2.2.2.2.2.2.2.2.2.2.2.1

  pub broker_fits : UpTo commission_total.high t.broker.commission.0
      × (t.broker.trades + 1 ≤ broker_trades.high)
  unfolding terms_of broker_of
  broker_fits =
      let k = broker_read rs x in
      let g = figures x (view rs x) in
      let near = leb (nat_abs g.balance) money_most in
      let trades = leb (k.n1 + 1) broker_trades.high in
      let total = leb (k.m1 + g.commission) commission_total.high in
      let w = h.passed.within in
      let both = and_left (near && trades) total w in
      let most = leb-true (k.m1 + g.commission) commission_total.high (and_right (near && trades) total w) in
      rw h.read (
        rw (total_read rs x h.good) (up_to commission_total.high k.m1 (omega arith)),
        leb-true (k.n1 + 1) broker_trades.high (and_right near trades both),
      )

  each : (j : ℕ) → j < n → (get_or at j 0 < length rs) × ((get_or rs (get_or at j 0) nothing).kind ≡ kind_lot)
  each j m = let a = h.held.each j m in (rw length_rows a.0, a.1)

  pub closables : Closables b at n
  unfolding s1
  closables = record {
    each = λ j m.
        let a = each j m in
        let l = get_or rs (get_or at j 0) nothing in
        let fit = every_at fits nothing rs (get_or at j 0) (sound_s1 rs h.good) a.0 in
        let k = (means_lot l).shows (as_kind kind_lot l a.1 ∙ fit) in
        record {
          live = of_live kind_lot l refl a.1;
          near = k.0.1;
          price = k.0.0.0.2.2.2.2.2.2.2.1;
        };
  }

  -- ---- from the start of the walk
  module _ {w : Walk} (s : w ≡ begun t.trade.trade_type i.price t.trade.shares) where
    pub walk_fits : Within (up t.trade.shares.0 * price_most) w
        → Within value_most w × (w.closed + n ≤ most_records)
    walk_fits k =
        let m = h.held.few in
        let few = h.directory.listed.few in
        (within_most (up t.trade.shares.0) (start_fits h).0.most k, rw s (omega arith))

    closed_is : closed b at n w ≡ cs rs x h.good h.passed
    unfolding terms_of trade_of view
    closed_is = rw (s, h.read) (ap (closings _) (h.held.rows ∙ rw h.read))

    abbrev cells : List Row
    cells = closing_rows (trade_row t.trade) (closed b at n w)

    abbrev own : List Row
    own = own_added i t f

    -- the rows that are added are those of the rules
    rows_added_holds : cells ++ own ≡ (posting x (view rs x) (figures x (view rs x))).added
    unfolding result_input_of
    rows_added_holds = rw (closed_is, h.read, h.reckoned.same) (all_added rs x h.good h.passed)

    all_fit : Room (cells ++ own) b d tt
    all_fit =
        let e = h.directory.free in
        let r = h.passed.room in
        let m = how_many rs x in
        let l = ap length rows_added_holds in
        room_start (cells ++ own) h.directory (sound_s1 rs h.good) (omega arith)

    pub closings_fit : Room cells b d tt
    closings_fit = room_first cells own all_fit

    module _ {b₁ d₁ : List ℕ} {c : Closed} (a : Told t.trade b at n w tt b₁ d₁ c) where
      pub own_fit : Room own b₁ d₁ c.totals
      own_fit = room_next cells own all_fit a.added

      pub part_inside : (up c.left.0 ≡ 0 → ⊥) → c.gone < length at
      part_inside e = let k = a.inside e in let l = long in omega arith

      pub gone_inside : c.gone ≤ length at
      gone_inside = let k = a.within in let l = long in omega arith

      module _ {b₂ d₂ : List ℕ} {t₂ : Totals} (o : Added own b₁ c.totals b₂ d₂ t₂) where
        both : Added (cells ++ own) b tt b₂ d₂ t₂
        both = added_then cells own a.added o

        abbrev part : List (ℕ × Row)
        part = part_put t.trade b₂ at c

        abbrev changed : List (ℕ × Row)
        changed = change_puts i t f

        abbrev goes : List (ℕ × Row)
        goes = freed (take c.gone at)

        abbrev last : List (ℕ × Row)
        last = summary_free t f.shares

        abbrev all : List (Row × Row)
        all = Post.all rs x h.good h.passed

        part_is : part ≡ map (placed rs) (lot_changes (view rs x).trade (cs rs x h.good h.passed))
        unfolding terms_of trade_of
        part_is =
            rw h.read
            (lot_put rs x h.good h.passed at n long each c b₂
            (rw (closed_is, h.read, trade_is rs x h.good h.passed) at a.part)
            a.inside
            (λ q live. added_keeps both q live))

        goes_is : goes ≡ map (placed rs) (frees (closed_lots (cs rs x h.good h.passed)))
        goes_is =
            lots_freed rs x h.good h.passed at n long each c.gone a.within
            (rw closed_is at a.gone)

        writes_are : part ++ changed ++ goes ++ last ≡ map (placed rs) all
        unfolding result_input_of
        writes_are =
            let T = terms_of rs x in
            let G = figures_of rs x in
            let e : changed ≡ change_puts (result_input_of x) T G = rw (h.read, h.reckoned.same) in
            let g : last ≡ summary_free T G.shares = rw (h.read, h.reckoned.same) in
            rw (e, g) (by_place rs x h.good h.passed (take c.gone at) part_is goes_is)

        ready : Ready (part ++ changed ++ goes ++ last) b₂ d₂ t₂
        ready =
            rw writes_are
            (ready_added
            (ready_all h.directory (Post.read rs x h.good h.passed) (sums_of x (figures x (view rs x)))) both)

        pub part_ready : Ready part b₂ d₂ t₂
        part_ready =
            ready_first part changed
            (ready_first (part ++ changed) goes (ready_first (part ++ changed ++ goes) last ready))

        module _ {b₃ d₃ : List ℕ} {t₃ : Totals} (u : Turned part b₂ b₃ d₃ t₃) where
          pub changed_ready : Ready changed b₃ d₃ t₃
          changed_ready =
              ready_next part changed
              (ready_first (part ++ changed) goes (ready_first (part ++ changed ++ goes) last ready)) u

          module _ {b₄ d₄ : List ℕ} {t₄ : Totals} (v : Turned changed b₃ b₄ d₄ t₄) where
            pub goes_ready : Ready goes b₄ d₄ t₄
            goes_ready =
                ready_next (part ++ changed) goes (ready_first (part ++ changed ++ goes) last ready)
                (turned_then part changed u v)

            module _ {b₅ d₅ : List ℕ} {t₅ : Totals} (y : Turned goes b₄ b₅ d₅ t₅) where
              three : Turned (part ++ changed ++ goes) b₂ b₅ d₅ t₅
              three = turned_then (part ++ changed) goes (turned_then part changed u v) y

              pub last_ready : Ready last b₅ d₅ t₅
              last_ready = ready_next (part ++ changed ++ goes) last ready three

              pub all_posted : {b₆ d₆ : List ℕ} {t₆ : Totals} → Turned last b₅ b₆ d₆ t₆
                  → (rows b₆ ≡ result_rows rs x) × Directory b₆ d₆ t₆
              unfolding result_rows posting
              all_posted z =
                  let w = turned_then (part ++ changed ++ goes) last three z in
                  let f = figures x (view rs x) in
                  let filled : rows b₂ ≡ fill same_row nothing (posting x (view rs x) f).added rs =
                  both.filled ∙ rw rows_added_holds
                  in (
                    w.written ∙ rw (writes_are, filled)
                        (sym (posted_by_place rs x h.good h.passed.there h.passed.sent)),
                    w.directory,
                  )
