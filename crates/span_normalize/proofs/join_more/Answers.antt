-- `span_normalize::join_more` meets its contract.
use native.Mathlib.Omega.{arith}
use mathlib.Core.Path.{◌≡◌}
use Prim.Native.Nat.{◌+◌, ◌≤◌}
use lib.ListN.{length}
use Rattle.spans.specs.Spans.{retained}
use Rattle.spans.proofs.Normal.{retained-even, retained-most}
use Rattle.span_normalize.proofs.Join.{gathered-count, joined-more}
use Rattle.span_normalize.proofs.join_more.Goals as goal
use Rattle.span_normalize.proofs.join_more.Goals.{After-gather-m}

front_fits : (g : After-gather-m) → g.args.n ≤ length g.args.out.now
front_fits g = omega (arith, g.requires.2)

count : (g : After-gather-m) → g.gather-m.result ≡ g.args.n + length (retained g.args.spans.now)
count g = gathered-count g.args.spans.now g.args.out.now g.gather-m.new.out
    g.args.n g.gather-m.result (front_fits g) g.gather-m.ensures

pub normalize_front-requires : goal.normalize_front-requires
normalize_front-requires c = (
  omega (arith, retained-even c.args.spans.now, count (goal.at.normalize_front-requires c).After-gather-m, c.requires.1),
  omega (arith, retained-most c.args.spans.now, count (goal.at.normalize_front-requires c).After-gather-m, c.gather-m.ensures.size, c.requires.2),
)

pub returns : goal.returns
returns c =
    joined-more c.args.spans.now c.args.out.now c.gather-m.new.out
    c.normalize_front.new.b c.args.n c.gather-m.result c.normalize_front.result
    c.requires.1 (front_fits (goal.at.returns c).After-gather-m) c.gather-m.ensures c.normalize_front.ensures
