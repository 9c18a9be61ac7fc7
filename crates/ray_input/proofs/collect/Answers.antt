-- `ray_input::collect` meets its contract.
use mathlib.Core.Path.{◌≡◌, subst}
use mathlib.Core.List.{List}
use Prim.Native.Nat.{◌+◌, ◌*◌}
use lib.Ieee.{Float}
use Rattle.ray_input.specs.Format.{pair_at, text_pairs}
use Rattle.ray_input.specs.Steps.{Appended}
use Rattle.ray_input.proofs.Reading.{count-hit, count-mono, pairs-none, pairs-more, pairs-length}
use Rattle.ray_input.proofs.Writing.{put-none, put_then, same_size}
use native.Mathlib.Omega.{arith}
use Rattle.ray_input.proofs.collect.Goals as goal

pub loop-k-init : goal.loop-k-init
loop-k-init c =
    subst (λ (l : List Float). Appended c.args.out.now 0 l c.args.out.now 0)
    (pairs-none c.args.c c.args.s.now) (put-none c.args.out.now 0 (omega arith))

pub put_line_of-m-requires : goal.put_line_of-m-requires
put_line_of-m-requires c =
    let size = same_size c.args.out.now 0 (text_pairs c.args.c c.args.s.now c.loop-k.k) c.loop-k.out c.loop-k.m c.loop-k.invariant in
    let put = pairs-length c.args.c c.args.s.now c.loop-k.k in
    let more = c.loop-k.invariant.next in (
      omega (arith, c.requires.0),
      omega (arith, size, c.loop-k.invariant.room),
      λ h. omega (
        arith,
        size,
        put,
        more,
        c.requires.1,
        count-hit c.args.c c.args.s.now c.loop-k.k h,
        count-mono c.args.c c.args.s.now (c.loop-k.k + 1) c.args.n (omega arith),
      ),
    )

pub loop-k-preserved : goal.loop-k-preserved
loop-k-preserved c =
    subst (λ (x : List Float). Appended c.args.out.now 0 x c.put_line_of-m.new.out
    c.put_line_of-m.result) (pairs-more c.args.c c.args.s.now c.loop-k.k)
    (put_then c.args.out.now 0 (text_pairs c.args.c c.args.s.now c.loop-k.k) c.loop-k.out c.loop-k.m c.loop-k.invariant
    (pair_at c.args.c c.args.s.now (36 * c.loop-k.k)) c.put_line_of-m.new.out c.put_line_of-m.result
    c.put_line_of-m.ensures)

pub shape_of-out : goal.shape_of-out
shape_of-out c =
    same_size c.args.out.now 0 (text_pairs c.args.c c.args.s.now c.loop-k.k) c.loop-k.out c.loop-k.m c.loop-k.invariant

pub returns : goal.returns
returns c =
    let end : c.loop-k.k ≡ c.args.n = omega arith in
    rw end at c.loop-k.invariant
