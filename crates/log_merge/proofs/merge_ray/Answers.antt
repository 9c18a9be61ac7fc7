-- `log_merge::merge_ray` meets its contract.
use native.Mathlib.Omega.{arith}
use mathlib.Core.Path.{sym, ◌∙◌}
use Rattle.log_merge.proofs.Rays.{ray-same, cut-ready, ray-merged}
use Rattle.log_merge.proofs.merge_ray.Goals as goal

pub returns-then-number_at-eq0 : goal.returns-then-number_at-eq0
returns-then-number_at-eq0 c =
    ray-same c.requires.0 c.args.q c.requires.1 (sym c.number_at.ensures ∙ c.if-number_at-eq0.true)

pub offset_bounds-work-q : goal.offset_bounds-work-q
offset_bounds-work-q c =
    omega (arith, c.requires.1, c.requires.0.room, c.well_formed.1.1.1.1.1.1.0.1)

pub cut_ray-requires : goal.cut_ray-requires
cut_ray-requires c =
    cut-ready c.requires.0 c.args.q c.requires.1 c.load_ray-b.ensures

pub returns : goal.returns
returns c =
    ray-merged c.requires.0 c.args.q c.requires.1 c.load_ray-b.ensures c.cut_ray.auto.w c.cut_ray.ensures
