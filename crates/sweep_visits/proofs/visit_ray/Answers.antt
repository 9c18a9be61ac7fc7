use Rattle.sweep_visits.proofs.Walks.{halt-8, halt-full, went_on, went-off, entry-off, entry-on, entry_length}
use Rattle.std.proofs.Common.{length, sym, ap, ◌∙◌, arith}
use Rattle.sweep_visits.proofs.visit_ray.Goals as goal

pub returns-then-budget-c : goal.returns-then-budget-c
returns-then-budget-c c = halt-8 c.requires.1 c.if-budget-c.true

pub returns-in-None : goal.returns-in-None
returns-in-None c = went-off c.requires.1 (entry-off _ _ _ _ _ _ _ _ _
    (sym (rw c.possible_head-head.ensures at c.ray_hit.ensures) ∙ c.in-None.is))
    c.if-budget-c.false

pub returns-then-log-c-lt6 : goal.returns-then-log-c-lt6
returns-then-log-c-lt6 c = halt-full c.requires.1 _
    (entry-on _ _ _ _ _ _ _ _ _ _ (sym
    (rw c.possible_head-head.ensures at
    c.ray_hit.ensures)
    ∙ c.in-Some.is)) (entry_length _ _ _)
    c.if-budget-c.false c.if-log-c-lt6.true

pub returns-else-log-c-lt6 : goal.returns-else-log-c-lt6
returns-else-log-c-lt6 c =
    let pre = c.requires in
    let e = entry-on _ _ _ _ _ _ _ _ _ _
    (sym (rw c.possible_head-head.ensures at c.ray_hit.ensures)
    ∙ c.in-Some.is) in
    went_on pre.1 6 (ap length e ∙ entry_length _ _ _) _
    c.if-budget-c.false (omega (arith, pre.1, c.if-log-c-lt6.false))
    (rw e c.put.ensures)
