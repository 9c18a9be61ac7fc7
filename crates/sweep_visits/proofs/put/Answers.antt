use Rattle.std.proofs.Common.{arith, length-set}
use Rattle.sweep_model.specs.Entries.{entry_of}
use Rattle.sweep_visits.proofs.Cells.{six-stores}
use Rattle.sweep_visits.proofs.put.Goals as goal

pub bounds-log-at-2 : goal.bounds-log-at-2
bounds-log-at-2 c = simp length-set (omega arith)

pub bounds-log-at-3 : goal.bounds-log-at-3
bounds-log-at-3 c = simp length-set (omega arith)

pub bounds-log-at-4 : goal.bounds-log-at-4
bounds-log-at-4 c = simp length-set (omega arith)

pub bounds-log-at-5 : goal.bounds-log-at-5
bounds-log-at-5 c = simp length-set (omega arith)

pub bounds-log-at-6 : goal.bounds-log-at-6
bounds-log-at-6 c = simp length-set (omega arith)

pub shape_of-log : goal.shape_of-log
shape_of-log c = simp length-set

pub returns : goal.returns
unfolding entry_of
returns c =
    rw (c.nearest_u64_to_f64.ensures, c.nearest_u64_to_f64-2.ensures) (six-stores _ _ _ _ _ _ _ _ c.requires)
