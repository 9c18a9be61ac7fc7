use mathlib.Core.Logic.{inl}
use native.Mathlib.Omega.{arith}
use borrow.Author.Rules.{rules}
use Rattle.log_count.proofs.Bounds.{total-fits, rays-allowed, pairs-le}
use Rattle.log_budget.proofs.Answers.{both-kept}
use Rattle.log_budget.proofs.budget.Goals as goal

pub overflow_mul-entries : goal.overflow_mul-entries
overflow_mul-entries c = let e = c.entry_count-entries.ensures in search rules

pub overflow_add-intervals : goal.overflow_add-intervals
overflow_add-intervals c =
    omega (arith, c.entry_count-entries.ensures, total-fits c.requires, c.requires.room.in_spans, c.well_formed, c.ranges)

pub returns-then-intervals-entries : goal.returns-then-intervals-entries
returns-then-intervals-entries c =
    let e = c.entry_count-entries.ensures in
    let pre = c.requires in
    both-kept _ _ _ _ (rays-allowed pre (rw e at (c.allows_all.ensures c.if-allows_all.true)))
    (omega (arith, e, pairs-le pre, c.if-intervals-entries.true))

pub returns-then-entries-eq0 : goal.returns-then-entries-eq0
returns-then-entries-eq0 c =
    let e = c.entry_count-entries.ensures in
    let pre = c.requires in
    both-kept _ _ _ _ (rays-allowed pre (inl (omega (arith, e, c.if-entries-eq0.true))))
    (omega (arith, e, pairs-le pre, total-fits pre, c.if-entries-eq0.true))

pub count_all-requires : goal.count_all-requires
count_all-requires c = let e = c.entry_count-entries.ensures in search rules
