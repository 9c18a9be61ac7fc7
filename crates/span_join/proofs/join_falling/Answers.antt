-- `span_join::join_falling` meets its contract.
use native.Mathlib.Omega.{arith}
use Prim.Native.Nat.{◌+◌, ◌-◌, ◌*◌, ◌/◌}
use mathlib.Core.Path.{◌≡◌}
use lib.ListN.{length}
use Rattle.span_join.proofs.Passes.{back_start, back_step, part-read, part_room}
use Rattle.span_join.proofs.join_falling.Goals as goal

pub loop-i-init : goal.loop-i-init
loop-i-init c =
    let all : 2 * (length c.args.spans.now / 2) ≡ length c.args.spans.now = omega (arith, c.requires.0) in
    rw all (back_start _ _ c.requires.0)

pub falls-requires : goal.falls-requires
falls-requires c = part-read c.loop-i.invariant (omega (arith, c.loop-i.invariant.passed_most, c.requires.1))

pub insert-n-requires : goal.insert-n-requires
insert-n-requires c = part_room c.loop-i.invariant (omega (arith, c.requires.1))

pub loop-i-preserved : goal.loop-i-preserved
loop-i-preserved c =
    let next : 2 * (c.loop-i.i - 1) ≡ 2 * c.loop-i.i - 2 = omega arith in
    let past : 2 * (c.loop-i.i - 1) + 2 ≡ 2 * c.loop-i.i = omega arith in
    rw next (back_step _ _ _ _ _ _ _ c.requires.0 (omega arith) c.loop-i.invariant (rw past at c.insert-n.ensures))
