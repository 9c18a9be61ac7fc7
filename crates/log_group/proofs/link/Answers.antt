-- `log_group::link` meets its contract.
use native.Mathlib.Omega.{arith}
use lib.ListN.{length-set}
use Rattle.log_group.proofs.link.Goals as goal

pub put_number-requires : goal.put_number-requires
put_number-requires c = simp length-set (omega (arith, c.requires.0, c.requires.1))
