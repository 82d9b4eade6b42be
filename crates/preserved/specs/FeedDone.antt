-- A feed that is done: what it leaves, and that its steps lead there. A feed leaves as many places as there were.
-- Assumes nothing.
use Rattle.std.specs.Prelude.{◌≡◌, refl, Bool, true, false, List, [], ◌∷◌, leb, length}
use Rattle.std.proofs.Common.{◌∙◌, ap, sym, arith, leb-true}
use Rattle.std.proofs.lemmas.List.{length-map}
use Rattle.laws.specs.Change.{put}
use Rattle.laws.specs.Search.{every, run}
use Rattle.record.specs.declared.row.Row.{Row}
use Rattle.rules.specs.Rules.{feed_input}
use Rattle.model.specs.Status.{is_done}
use Rattle.model.specs.Feed.{Fed, answer_row, applied, checks, fed, feed, submit, submits, swept, traded, volumes_fit}
use Rattle.model.specs.Names.{a_request, a_security}
use Rattle.model.specs.Plan.{Outcome, accepted, decided, pick, refused, room, verdict}
use Rattle.model.specs.Rows.{found, nothing, same_row, there}
use Rattle.model.specs.Sound.{sound}
use Rattle.model.specs.SoundMeans.{means_sound}
use Rattle.facts.specs.Checks.{decided_done, decided_status, passed}
use Rattle.preserved.specs.Bytes.{put_length}
use Rattle.preserved.specs.FeedSteps.{Leads, entries_lead}
use Rattle.preserved.specs.ResultBase.{room_is}
use Rattle.preserved.specs.ResultFresh.{one_key}

pub record Done (rs es : List Row) : Type 0 where
  pub known : every (λ (e : Row). there (a_security e.symbol) rs) es ≡ true
  pub volumes : volumes_fit (fed rs es).rows es ≡ true
  pub space : leb (fed rs es).trades (room rs) ≡ true
  pub rows : (feed rs es).rows ≡ swept (fed rs es).rows

pub feed_done : (rs es : List Row) → is_done (feed rs es).status ≡ true → Done rs es
unfolding feed checks
feed_done rs es k =
    let cs = checks rs es in
    let o = accepted (answer_row (length es) (fed rs es).trades ∷ []) (swept (fed rs es).rows) in
    let d = ap is_done (sym (decided_status cs rs o refl)) ∙ k in
    let p = passed cs refl d in
    record {
      known = p.0;
      volumes = p.1.0;
      space = p.1.1.0;
      rows = ap (λ (x : Outcome). x.rows) (decided_done cs rs o d);
    }

pub feed_leads : (rs es : List Row) → sound rs ≡ true → every feed_input es ≡ true → Done rs es
    → Leads rs (fed rs es).rows
feed_leads rs es good inputs d I k i =
    let s = leb-true (fed rs es).trades (room rs) d.space in
    let r = room_is rs good in
    entries_lead I k (record { rows = rs; trades = 0 }) es inputs d.known d.volumes (omega arith)
    (λ j. one_key rs ((means_sound rs).shows good).s2 (a_request j) (λ q. omega arith)) i

-- ---- places
length_submits : (e : Row) (rs ts : List Row) → length (run (submit e) rs ts) ≡ length rs
unfolding run
length_submits e rs [] = refl
length_submits e rs (t ∷ ts) =
    length_submits e (submit e rs t) ts ∙ put_length _ _ _ ∙ put_length nothing _ rs

length_entries : (f : Fed) (es : List Row) → length (run applied f es).rows ≡ length f.rows
unfolding run applied
length_entries f [] = refl
length_entries f (e ∷ es) =
    let s = found (a_security e.symbol) f.rows in
    let rs = put same_row s (traded e s) f.rows in
    length_entries (applied f e) es ∙ length_submits e rs (submits rs e) ∙ put_length s (traded e s) f.rows

pub feed_length : (rs es : List Row) → length (feed rs es).rows ≡ length rs
unfolding feed decided swept
feed_length rs es = go (is_done (verdict (checks rs es))) _
  where
    go : (t : Bool) (answer : List Row)
        → length (pick t (accepted answer (swept (fed rs es).rows)) (refused (verdict (checks rs es)) rs)).rows
        ≡ length rs
    go true answer = length-map (fed rs es).rows _ ∙ length_entries (record { rows = rs; trades = 0 }) es
    go false answer = refl
