-- `ray_merge::place` meets its contract.
use Rattle.ray_subtract.proofs.Places.{placed}
use native.Mathlib.Omega.{arith}
use Rattle.ray_merge.proofs.place.Goals as goal

pub returns : goal.returns
returns c =
    placed c.args.at c.args.w.now c.copy_to.new.w (omega (arith, c.requires)) c.copy_to.ensures.size
    c.args.s.now c.requires c.copy_to.ensures
