-- `span_insert::count_ends` meets its contract.
use Rattle.std.proofs.Common.{arith, ◌≡◌, ◌∙◌, sym, ◌+◌, ◌-◌}
use Rattle.span_insert.proofs.Loops.{searched-start, searched-turn, searched-found}
use Rattle.span_insert.proofs.count_ends.Goals as goal

pub loop-i-init : goal.loop-i-init
loop-i-init g c test p = searched-start _ _ _

pub loop-i-preserved : goal.loop-i-preserved
loop-i-preserved g c test p =
    searched-turn _ _ _ _ (c.loop-i.invariant test p) (sym (p _ _ c.passes.ensures) ∙ c.if-passes.false)

pub returns-then-passes : goal.returns-then-passes
returns-then-passes g c test p =
    let same : c.loop-i.i - 1 + 1 ≡ c.loop-i.i = omega arith in
    rw same (searched-found _ _ _ _ (c.loop-i.invariant test p) (λ h. sym (p _ _ c.passes.ensures) ∙ c.if-passes.true))

pub returns : goal.returns
returns g c test p =
    let none : c.loop-i.i ≡ 0 = omega arith in
    searched-found _ _ _ 0 (rw none at (c.loop-i.invariant test p)) (λ h. absurd (omega arith))
