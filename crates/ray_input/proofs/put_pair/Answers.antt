-- `ray_input::put_pair` meets its contract.
use lib.ListN.{length-set}
use Rattle.ray_input.proofs.Writing.{put_two}
use native.Mathlib.Omega.{arith}
use Rattle.ray_input.proofs.put_pair.Goals as goal

pub bounds-out-m-2 : goal.bounds-out-m-2
bounds-out-m-2 c = simp length-set (omega arith)

pub shape_of-out : goal.shape_of-out
shape_of-out c = simp length-set

pub returns : goal.returns
returns c = put_two c.args.out.now c.args.m c.args.lo c.args.hi c.requires
