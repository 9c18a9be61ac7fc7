use Rattle.std.proofs.Common.{◌≡◌, ◌+◌, ap, ◌∙◌, ap₂, arith}
use Rattle.grid.specs.Axes.{world_axis}
use Rattle.grid.specs.Rays.{rays_along}
use Rattle.log_model.specs.Logs.{entry_at, entry_ray}
use Rattle.log_model.proofs.Naming.{named, named-below}
use Rattle.log_entries.specs.Named.{before_axis}
use Rattle.log_entries.proofs.Axes.{ray-of, both-le}
use Rattle.log_entries.proofs.ray_at.Goals as goal

pub whole_number-index-requires : goal.whole_number-index-requires
whole_number-index-requires c =
    rw c.entry_at-e.ensures (named c.args.g _ c.requires.2).index_whole

pub rays_before-requires : goal.rays_before-requires
rays_before-requires c =
    omega (arith, both-le c.args.g, c.rays-first.ensures, c.rays-second.ensures, c.requires.0)

pub returns : goal.returns
returns c =
    let e = c.entry_at-e.result in
    let rays : c.rays_before.result
    ≡ before_axis e.axis (rays_along c.args.g (world_axis 0)) (rays_along c.args.g (world_axis 1)) =
    c.rays_before.ensures ∙ ap₂ (before_axis e.axis) c.rays-first.ensures c.rays-second.ensures in
    ap₂ ◌+◌ rays c.whole_number-index.ensures ∙ ray-of c.args.g e (rw c.entry_at-e.ensures c.requires.2)
    ∙ ap (entry_ray c.args.g) c.entry_at-e.ensures

pub overflow_add-result : goal.overflow_add-result
overflow_add-result c =
    omega (arith, named-below c.args.g (entry_at c.args.log.now c.args.i) c.requires.2, c.requires.0, returns c)
