-- `ray_output::put_lines` meets its contract.
use mathlib.Core.Path.{◌≡◌}
use Prim.Native.Nat.{◌+◌}
use lib.ListN.{length}
use lib.Seq.{take_all}
use Rattle.ray_output.proofs.Printing.{lining-start, lining-next, lining-size, lining_step}
use native.Mathlib.Omega.{arith}
use Rattle.ray_output.proofs.put_lines.Goals as goal
use Rattle.ray_output.proofs.put_lines.Goals.{At-loop-k}

size : (l : At-loop-k) → length l.loop-k.out ≡ length l.args.out.now
size l = lining-size l.loop-k.invariant

pub loop-k-init : goal.loop-k-init
loop-k-init c = lining-start c.args.out.now c.args.at c.args.c c.args.list.now (omega (arith, c.requires.1))

pub bounds-list-k-in-loop-k : goal.bounds-list-k-in-loop-k
bounds-list-k-in-loop-k c = omega (arith, c.loop-k.invariant.even, c.requires.0, c.loop-k-test.true)

pub put_line-n-requires : goal.put_line-n-requires
put_line-n-requires c = omega (
  arith,
  size (goal.at.put_line-n-requires c).At-loop-k,
  lining-next c.loop-k.invariant,
  c.loop-k.invariant.even,
  c.requires.0,
  c.requires.1,
  c.loop-k-test.true,
)

pub loop-k-preserved : goal.loop-k-preserved
loop-k-preserved c =
    lining_step c.args.out.now c.args.at c.args.c c.args.list.now c.loop-k.k c.loop-k.out c.loop-k.n
    c.put_line-n.new.out c.put_line-n.result c.requires.0 c.loop-k-test.true
    c.loop-k.invariant
    c.put_line-n.ensures

pub shape_of-out : goal.shape_of-out
shape_of-out c = size (goal.at.shape_of-out c).At-loop-k

pub returns : goal.returns
returns c =
    rw (take_all c.loop-k.k c.args.list.now c.loop-k-test.false) at c.loop-k.invariant.put

-- where the next place is past the largest number, the list ends here too
pub returns-2 : goal.returns-2
returns-2 c =
    let last =
    lining_step c.args.out.now c.args.at c.args.c c.args.list.now c.loop-k.k c.loop-k.out c.loop-k.n
    c.put_line-n.new.out c.put_line-n.result c.requires.0 c.loop-k-test.true
    c.loop-k.invariant
    c.put_line-n.ensures in
    rw (take_all (c.loop-k.k + 2) c.args.list.now (omega arith)) at last.put
