-- A row of another kind does not have the key, so that its link may be followed; a walk from the first row of the kind
-- passes over no row of the key.
use Rattle.std.proofs.Common.{refl, ne_eqb, rules}
use Rattle.directory.specs.Listed.{key_grouped, other_kind, own_group, own_key, probe_more, probe_next}
use Rattle.directory.specs.Listed.{probed_bucket, walks}
use Rattle.directory.specs.Marked.{own_marked}
use Rattle.directory.proofs.find.again.Goals as goal

pub loop-c-init : goal.loop-c-init
loop-c-init c =
    let row = c.requires.i_bound in
    let r = c.args.row in
    probe_next c.requires.listed (key_grouped _ (own_key r row.2 refl)) (own_group r row.2 refl _ _ row.1) row.0
    c.next-c.ensures

pub walk-requires-clause-m_value : goal.walk-requires-clause-m_value
walk-requires-clause-m_value c = own_marked c.args.row c.of.ensures c.marks.ensures

pub walk-requires-clause-kind_value : goal.walk-requires-clause-kind_value
walk-requires-clause-kind_value c =
    let row = c.requires.i_bound in
    let r = c.args.row in
    (own_key r row.2 c.of.ensures, probed_bucket r row.2 c.of.ensures c.loop-c.invariant)

pub loop-c-smaller : goal.loop-c-smaller
loop-c-smaller c = search (rules, walks)

pub loop-c-preserved : goal.loop-c-preserved
loop-c-preserved c =
    probe_more c.loop-c.invariant c.requires.listed (search rules) c.row_at.ensures refl
    (other_kind _ _ (ne_eqb _ _ c.if-row_at-row.false)) c.next-c-in-loop-c.ensures

pub returns : goal.returns
returns c = search (rules, walks)
