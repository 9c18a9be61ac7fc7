-- `span_overlay::subtract_into` meets its contract.
use native.Mathlib.Omega.{arith}
use mathlib.Core.Path.{◌≡◌}
use Prim.Native.Nat.{◌+◌, ◌-◌, ◌*◌}
use lib.ListN.{length, take, drop, length-drop}
use lib.Seq.{take_all}
use Rattle.spans.proofs.Sets.{sound-mod}
use Rattle.span_overlay.proofs.Cutting.{less-start, less-ready, less-step, less_done}
use Rattle.span_overlay.proofs.subtract_into.Goals as goal
use Rattle.span_overlay.proofs.subtract_into.Goals.{At-loop-i}

-- the part of b that is lent is what is left of it
part : (l : At-loop-i) → let b = l.args.b.now in take (length b - l.loop-i.j) (drop l.loop-i.j b) ≡ drop l.loop-i.j b
part l =
    let b = l.args.b.now in
    take_all (length b - l.loop-i.j) (drop l.loop-i.j b) (omega (arith, length-drop l.loop-i.j b))

pub loop-i-init : goal.loop-i-init
loop-i-init c = less-start _ _ _

pub cut_pair-place-requires : goal.cut_pair-place-requires
cut_pair-place-requires c =
    rw (part (goal.at.cut_pair-place-requires c).At-loop-i) (less-ready _ _ _ _ _ _ _ c.requires.0 c.requires.1 c.requires.2 c.loop-i.invariant
    (omega arith))

pub loop-i-preserved : goal.loop-i-preserved
loop-i-preserved c =
    let next : 2 * (c.loop-i.i + 1) ≡ 2 * c.loop-i.i + 2 = omega arith in
    rw next (less-step _ _ _ _ _ _ _ c.requires.0 c.requires.1 c.requires.2 c.loop-i.invariant (omega arith) _ _
    (rw (part (goal.at.loop-i-preserved c).At-loop-i) at c.cut_pair-place.ensures))

pub returns : goal.returns
returns c = less_done _ _ _ _ _ _ _ (omega (arith, sound-mod c.args.a.now c.requires.0)) c.loop-i.invariant
