-- `log_group::group` meets its contract.
use borrow.Author.Rules.{rules}
use native.Mathlib.Omega.{arith}
use mathlib.Core.Path.{◌≡◌, refl, sym, subst}
use mathlib.Core.Bool.{true}
use mathlib.Core.List.{List, ◌++◌}
use Prim.Native.Nat.{ℕ, suc, ◌-◌, ◌≤◌, ◌<◌}
use lib.ListN.{length, drop}
use lib.Seq.{length-take-le}
use lib.Ieee.{Float}
use Rattle.grid.specs.declared.DexelGrid.{DexelGrid}
use Rattle.log_model.specs.Logs.{entry_at, entry_count, names_some_ray}
use Rattle.log_entries.specs.Named.{EachNamed}
use Rattle.log_entries.proofs.Places.{each_below}
use Rattle.log_group.proofs.Chains.{Grouping, grouping-start, grouping-step, grouping-done, cleared-size, cleared-none, cleared-past}
use Rattle.log_group.proofs.group.Goals as goal
use Rattle.log_group.proofs.group.Goals.{After-fill, After-total_rays-rays}

named : (g : DexelGrid) (log : List Float) (i : ℕ) → EachNamed g log → i < entry_count log → names_some_ray g (entry_at log i) ≡ true
unfolding EachNamed
named g log i all h = all i h

again : (i : ℕ) → 0 < i → i ≡ suc (i - 1)
again i h = omega arith

fits : (t : After-total_rays-rays) → t.total_rays-rays.result ≤ length t.args.work.now
fits t = omega (arith, t.total_rays-rays.ensures, t.requires.1)

-- the buffer where the loop begins
abbrev begun : After-fill → List Float
begun y = y.fill.new.self ++ drop y.total_rays-rays.result y.args.work.now

begun-size : (y : After-fill) → length (begun y) ≡ length y.args.work.now
begun-size y = cleared-size y.total_rays-rays.result y.args.work.now y.fill.new.self
    (omega (arith, y.total_rays-rays.ensures, y.requires.1)) (y.fill.ensures.after (search rules))

pub slice_bounds-fill-end-2 : goal.slice_bounds-fill-end-2
slice_bounds-fill-end-2 c =
    sym (length-take-le c.total_rays-rays.result c.args.work.now
    (fits (goal.at.slice_bounds-fill-end-2 c).After-total_rays-rays))

pub loop-i-init : goal.loop-i-init
loop-i-init c =
    let e = c.total_rays-rays.ensures in
    rw c.entry_count-entries.ensures
    (grouping-start c.args.g c.args.log.now (begun (goal.at.loop-i-init c).After-fill) (begun (goal.at.loop-i-init c).After-fill)
    (omega (arith, c.requires.1, begun-size (goal.at.loop-i-init c).After-fill)) refl
    (λ q h. cleared-none c.total_rays-rays.result c.args.work.now c.fill.new.self (fits (goal.at.loop-i-init c).After-total_rays-rays)
    (c.fill.ensures.after (search rules)) q (omega arith)) (λ q h. refl))

pub ray_at-ray-requires : goal.ray_at-ray-requires
ray_at-ray-requires c = (
  omega (arith, c.requires.1),
  omega (arith, c.loop-i-test.true, c.loop-i.invariant.most),
  named c.args.g c.args.log.now (c.loop-i.i - 1) c.requires.0
      (omega (arith, c.loop-i-test.true, c.loop-i.invariant.most)),
)

pub link-requires : goal.link-requires
link-requires c =
    let below : c.loop-i.i - 1 < entry_count c.args.log.now =
    omega (arith, c.loop-i-test.true, c.loop-i.invariant.most) in (
      omega (
        arith,
        c.total_rays-rays.ensures,
        c.ray_at-ray.ensures,
        each_below c.args.g c.args.log.now c.requires.0 (c.loop-i.i - 1) below,
      ),
      omega (arith, c.total_rays-rays.ensures, c.requires.1, c.loop-i.invariant.size, begun-size (goal.at.link-requires c).After-fill),
    )

pub loop-i-preserved : goal.loop-i-preserved
loop-i-preserved c =
    let below : c.loop-i.i - 1 < entry_count c.args.log.now = omega (arith, c.loop-i-test.true, c.loop-i.invariant.most) in
    grouping-step c.args.g c.args.log.now (begun (goal.at.loop-i-preserved c).After-fill) c.loop-i.work
    (omega (arith, c.requires.1, begun-size (goal.at.loop-i-preserved c).After-fill))
    (c.loop-i.i - 1) below c.ray_at-ray.result c.ray_at-ray.ensures
    (omega (arith, c.ray_at-ray.ensures, each_below c.args.g c.args.log.now c.requires.0 (c.loop-i.i - 1) below))
    (subst (λ (n : ℕ). Grouping c.args.g c.args.log.now (begun (goal.at.loop-i-preserved c).After-fill) c.loop-i.work n)
    (again c.loop-i.i c.loop-i-test.true) c.loop-i.invariant)
    c.total_rays-rays.result c.total_rays-rays.ensures (omega arith) c.link.new.work c.link.ensures

pub returns : goal.returns
returns c =
    grouping-done c.args.g c.args.log.now (begun (goal.at.returns c).After-fill) c.loop-i.work
    (omega (arith, c.requires.1, begun-size (goal.at.returns c).After-fill))
    c.requires.0 c.loop-i.i (omega (arith, c.loop-i-test.false)) c.args.work.now (begun-size (goal.at.returns c).After-fill)
    (λ q h. cleared-past c.total_rays-rays.result c.args.work.now c.fill.new.self (fits (goal.at.returns c).After-total_rays-rays)
    (c.fill.ensures.after (search rules)) q (omega (arith, c.total_rays-rays.ensures))) c.loop-i.invariant
