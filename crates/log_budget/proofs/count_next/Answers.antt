use native.Mathlib.Omega.{arith}
use Rattle.log_count.proofs.Bounds.{few_rays}
use Rattle.log_budget.proofs.count_next.Goals as goal

pub overflow_add-result : goal.overflow_add-result
overflow_add-result c =
    let pre = c.requires in
    omega (arith, pre.0.inside, few_rays pre.0.counting.countable)

pub count_batch-totals-requires : goal.count_batch-totals-requires
count_batch-totals-requires c =
    let pre = c.requires in
    (pre.0, c.in-Some.ensures.batch.1)

pub overflow_add-result-2 : goal.overflow_add-result-2
overflow_add-result-2 c =
    let pre = c.requires in
    omega (arith, c.in-Some.ensures.batch.1.inside, few_rays pre.0.counting.countable)

pub guess-requires : goal.guess-requires
guess-requires c =
    let pre = c.requires in
    let batch = c.in-Some.ensures in
    (batch.batch.1.room, omega (arith, batch.size, pre.1.keys_few))
