use Rattle.std.proofs.Common.{inl, inr, arith}
use Rattle.sweep_walk.proofs.AxisRays.{second-0, second-1, second_more}
use Rattle.sweep_walk.proofs.second_axis.Goals as goal

pub returns-then-tool-eq1 : goal.returns-then-tool-eq1
returns-then-tool-eq1 c = elim c.if-tool-eq1.either [
  | inl h ↦ second-0 _ c.world_axis-tool.result c.world_axis-tool.ensures h
  | inr h ↦ second-1 _ c.world_axis-tool.result c.world_axis-tool.ensures h.1
]

pub returns-else-tool-eq1 : goal.returns-else-tool-eq1
returns-else-tool-eq1 c =
    let f = c.if-tool-eq1.false in
    second_more _ c.world_axis-tool.result c.world_axis-tool.ensures (λ h. omega arith) (λ h. omega arith)
