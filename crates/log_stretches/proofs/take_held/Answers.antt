-- What reaches into the stretch is taken first, then the loop takes a pair a turn until one begins at or past the end.
use Prim.Native.Nat.{◌+◌, ◌*◌}
use mathlib.Core.Path.{◌≡◌}
use native.Mathlib.Omega.{arith}
use lib.ListN.{take}
use Rattle.logic.proofs.Bools.{not-true, not-false}
use Rattle.log_stretches.proofs.Taking.{TakesFront, none-reaches, some-reaches, pair-more, no_more}
use Rattle.log_stretches.proofs.take_held.Goals as goal
use Rattle.log_stretches.proofs.take_held.Goals.{Joined-b-front, then-b-front, else-b-front}

-- what reaches into the stretch, where the branches meet
front-taken : (c : Joined-b-front)
    → TakesFront c.args.n c.args.spans.now c.args.links.now c.args.b c.args.end c.args.front
    (take c.args.m c.args.cells.now) c.args.r c.if-b-front.t
front-taken c = elim c.if-b-front.branch [
  | then-b-front w ↦ rw w.t-is (some-reaches _ _ _ _ _ _ w.if-b-front.true w.take-t.ensures)
  | else-b-front w ↦ rw w.t-is (none-reaches _ _ _ _ _ w.if-b-front.false c.requires.0)
]

pub loop-i-preserved : goal.loop-i-preserved
loop-i-preserved c =
    let next : 2 * (c.loop-i.i + 1) ≡ 2 * c.loop-i.i + 2 = omega arith in
    rw next (pair-more _ _ _ _ _ c.requires.1 _ (2 * c.loop-i.i) _ _ (omega arith)
    (not-false _ c.if-not-cells-at.false-raw) c.take-t-in-loop-i.ensures c.loop-i.invariant)

pub returns-after-loop-i : goal.returns-after-loop-i
returns-after-loop-i c =
    no_more _ _ _ _ _ c.requires.1 _ (2 * c.loop-i.i) _ _
    (λ h. absurd (omega (arith, h, c.requires.1.whole)))
    (front-taken (goal.at.returns-after-loop-i c).Joined-b-front) c.loop-i.invariant

pub returns-then-not-cells-at : goal.returns-then-not-cells-at
returns-then-not-cells-at c =
    no_more _ _ _ _ _ c.requires.1 _ (2 * c.loop-i.i) _ _ (λ h. not-true _ c.if-not-cells-at.true-raw)
    (front-taken (goal.at.returns-then-not-cells-at c).Joined-b-front) c.loop-i.invariant
