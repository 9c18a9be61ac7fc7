use Rattle.sweep_walk.proofs.AxisRays.{first-0, first_more}
use Rattle.sweep_walk.proofs.first_axis.Goals as goal

pub returns-then-tool-eq0 : goal.returns-then-tool-eq0
returns-then-tool-eq0 c = first-0 _ c.world_axis-tool.result c.world_axis-tool.ensures c.if-tool-eq0.true

pub returns-else-tool-eq0 : goal.returns-else-tool-eq0
returns-else-tool-eq0 c = first_more _ c.world_axis-tool.result c.world_axis-tool.ensures c.if-tool-eq0.false
