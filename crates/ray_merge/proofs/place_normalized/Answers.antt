-- `ray_merge::place_normalized` meets its contract.
use Rattle.ray_subtract.proofs.Places.{normal}
use native.Mathlib.Omega.{arith}
use Rattle.ray_merge.proofs.place_normalized.Goals as goal

pub returns : goal.returns
returns c =
    normal c.args.at c.args.w.now c.normalize_into.new.out (omega (arith, c.requires.1))
    c.normalize_into.ensures.size c.args.s.now c.normalize_into.result c.normalize_into.ensures
