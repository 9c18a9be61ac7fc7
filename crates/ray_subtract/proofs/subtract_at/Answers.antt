-- `ray_subtract::subtract_at` meets its contract.
use mathlib.Core.Path.{◌≡◌}
use Prim.Native.Nat.{◌+◌, ◌*◌}
use Rattle.spans.proofs.Sets.{sound-mod}
use Rattle.ray_subtract.proofs.Places.{part_length}
use Rattle.ray_subtract.proofs.Sweeping.{subtracting-done, subtracting-ready, subtracting-step}
use native.Mathlib.Omega.{arith}
use Rattle.ray_subtract.proofs.subtract_at.Goals as goal

pub cut_at-place-requires : goal.cut_at-place-requires
cut_at-place-requires c =
    subtracting-ready c.requires.0 c.requires.1 c.requires.2 c.requires.3 c.loop-k.invariant (omega arith)

pub loop-k-preserved : goal.loop-k-preserved
loop-k-preserved c =
    let next : 2 * (c.loop-k.k + 1) ≡ 2 * c.loop-k.k + 2 = omega arith in
    rw next (subtracting-step c.requires.0 c.requires.1 c.requires.2 c.requires.3 c.loop-k.invariant (omega arith)
    _ _ c.cut_at-place.ensures)

pub returns : goal.returns
returns c =
    subtracting-done c.requires.0 c.requires.1 c.requires.2 c.requires.3 c.loop-k.invariant
    (omega (arith, sound-mod _ c.requires.0.is_sound, part_length c.args.a c.args.n c.args.w.now c.requires.0.room))
