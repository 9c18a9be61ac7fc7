use Rattle.std.proofs.Common.{sym, ◌∙◌}
use Rattle.store_read.proofs.Steps.{record-there}
use Rattle.sweep_ray.proofs.Meeting.{meet-empty, meet-above, meet-some}
use Rattle.sweep_ray.proofs.spans_meet.Goals as goal

pub returns-then-head-eq0 : goal.returns-then-head-eq0
returns-then-head-eq0 c = sym (meet-empty _ _ _ _ _ c.if-head-eq0.true)

pub record_at-first-requires : goal.record_at-first-requires
record_at-first-requires c = record-there c.requires.0 c.if-head-eq0.false

pub returns-then-first-s : goal.returns-then-first-s
returns-then-first-s c =
    let asked = c.requires in
    c.some_above.ensures
    ∙ sym (meet-some _ asked.0 c.if-head-eq0.false asked.1 (rw c.record_at-first.ensures at c.if-first-s.true))

pub returns-else-first-s : goal.returns-else-first-s
returns-else-first-s c =
    c.if-first-s.false ∙ sym (meet-above c.args.s c.requires.0 c.if-head-eq0.false (rw c.record_at-first.ensures at c.if-first-s.false))
