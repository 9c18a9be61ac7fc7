use Rattle.std.proofs.Common.{arith}
use Rattle.std.proofs.lemmas.Grind.{common_steps}
use Rattle.store.proofs.InUse.{used-owner, used-next, used-lo, used-hi}
use Rattle.store.proofs.used.Goals as goal

pub returns-then-not-plus_zero : goal.returns-then-not-plus_zero
returns-then-not-plus_zero c = grind (arith, common_steps, used-owner, used-next, used-lo)

pub returns-else-not-plus_zero : goal.returns-else-not-plus_zero
returns-else-not-plus_zero c = grind (arith, common_steps, used-hi)
