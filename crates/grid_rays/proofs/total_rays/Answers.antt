-- `grid_rays::total_rays` meets its contract: the three sums are the count of all rays. Assumes nothing.
use Rattle.grid.proofs.Numbering.{total-is}
use native.Mathlib.Omega.{arith}
use Rattle.grid_rays.proofs.total_rays.Goals as goal

pub overflow_add-result : goal.overflow_add-result
overflow_add-result c = record {
  fits =
      omega (
        arith,
        total-is c.args.g,
        c.requires,
        c.rays.ensures,
        c.rays-2.ensures,
      );
}

pub overflow_add-result-2 : goal.overflow_add-result-2
overflow_add-result-2 c = record {
  fits =
      omega (
        arith,
        total-is c.args.g,
        c.requires,
        c.rays.ensures,
        c.rays-2.ensures,
        c.rays-3.ensures,
      );
}

pub returns : goal.returns
returns c = omega (
  arith,
  total-is c.args.g,
  c.rays.ensures,
  c.rays-2.ensures,
  c.rays-3.ensures,
)
