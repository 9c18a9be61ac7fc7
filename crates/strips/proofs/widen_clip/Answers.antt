-- The invariant: what is left to go in, after what went in, gives the whole extent.
use Prim.Native.Nat.{◌+◌, ◌≤◌, ◌<◌}
use lib.Ieee.{nan}
use mathlib.Core.Path.{◌≡◌, refl, sym, ◌∙◌}
use native.Mathlib.Omega.{arith}
use borrow.Author.Rules.{rules}
use lib.ListN.{length, get_or, take, drop, drop_of_length-le}
use lib.Seq.{length-take-le}
use Rattle.strips.specs.Polygon.{widen_all, edges, head_or}
use Rattle.strips.proofs.PolygonLaws.{length-field, step, next-in, next-out, clip-edges}
use Rattle.strips.proofs.widen_clip.Goals as goal
use Rattle.strips.proofs.widen_clip.Goals.{then-j-n, else-j-n}

pub loop-i-init : goal.loop-i-init
loop-i-init c = refl

pub loop-i-preserved : goal.loop-i-preserved
loop-i-preserved c =
    let l : length c.args.ps.at ≡ 8 = search (length-field, rules) in
    let k : c.args.ps.n ≤ length c.args.ps.at = omega arith in
    let i = c.loop-i.i in
    let h : i < c.args.ps.n = omega arith in
    let q : c.if-j-n.q ≡ head_or (get_or c.args.ps.at 0 (record { x = nan; y = nan })) (drop (i + 1) (take c.args.ps.n c.args.ps.at)) =
    elim c.if-j-n.branch [
      | then-j-n w ↦ w.q-is ∙ sym (next-in _ _ _ _ _ w.if-j-n.true k)
      | else-j-n w ↦ w.q-is ∙ sym (next-out _ _ _ _ w.if-j-n.false k)
    ] in
    rw c.widen_edge-e.ensures (step _ _ _ _ _ _ _ i _ h k q ∙ c.loop-i.invariant)

pub returns : goal.returns
unfolding widen_all edges
returns c =
    let l : length c.args.ps.at ≡ 8 = search (length-field, rules) in
    let k : c.args.ps.n ≤ length c.args.ps.at = omega arith in
    let m : length (take c.args.ps.n c.args.ps.at) ≤ c.loop-i.i = omega (arith, length-take-le c.args.ps.n c.args.ps.at k) in
    rw (clip-edges _ _ (record { x = nan; y = nan }) _ _ k) (rw (drop_of_length-le _ m) at c.loop-i.invariant)
