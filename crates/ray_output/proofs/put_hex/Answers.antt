-- `ray_output::put_hex` meets its contract.
use mathlib.Core.Path.{◌≡◌, sym, subst}
use Prim.Native.Nat.{ℕ, ◌+◌, ◌-◌, ◌/◌}
use lib.ListN.{length, set}
use Rattle.ray_output.proofs.Printing.{Hexing, hex-start, hex-step, hex-size, hex-done}
use native.Mathlib.Omega.{arith}
use Rattle.ray_output.proofs.put_hex.Goals as goal
use Rattle.ray_output.proofs.put_hex.Goals.{At-loop-k}

size : (l : At-loop-k) → length l.loop-k.out ≡ length l.args.out.now
size l =
    hex-size l.args.out.now l.args.at l.args.v l.requires l.loop-k.k l.loop-k.rest l.loop-k.out l.loop-k.invariant

pub loop-k-init : goal.loop-k-init
loop-k-init c = hex-start c.args.out.now c.args.at c.args.v c.requires

pub bounds-out-at : goal.bounds-out-at
bounds-out-at c = omega (arith, size (goal.at.bounds-out-at c).At-loop-k, c.requires, c.loop-k.invariant.most)

pub loop-k-preserved : goal.loop-k-preserved
loop-k-preserved c =
    let back : c.loop-k.k ≡ c.loop-k.k - 1 + 1 = omega (arith, c.loop-k-test.true) in
    subst (λ (g : ℕ). Hexing c.args.out.now c.args.at c.args.v (c.loop-k.k - 1) (c.loop-k.rest / 16)
    (set c.loop-k.out (c.args.at + (c.loop-k.k - 1)) g)) (sym c.glyph_of.ensures)
    (hex-step c.args.out.now c.args.at c.args.v c.requires (c.loop-k.k - 1) c.loop-k.rest c.loop-k.out
    (subst (λ (n : ℕ). Hexing c.args.out.now c.args.at c.args.v n c.loop-k.rest c.loop-k.out) back c.loop-k.invariant))

pub shape_of-out : goal.shape_of-out
shape_of-out c = size (goal.at.shape_of-out c).At-loop-k

pub returns : goal.returns
returns c =
    let end : c.loop-k.k ≡ 0 = omega (arith, c.loop-k-test.false) in
    hex-done c.args.out.now c.args.at c.args.v c.requires c.loop-k.rest c.loop-k.out
    (subst (λ (n : ℕ). Hexing c.args.out.now c.args.at c.args.v n c.loop-k.rest c.loop-k.out) end c.loop-k.invariant)
