-- `log_long::add_entry` meets its contract.
use Rattle.std.proofs.Common.{sym, refl, ◌∙◌, arith}
use Rattle.log_entries.specs.Named.{EachNamed}
use Rattle.log_long.proofs.Gathering.{gathers-passed, gathers-added}
use Rattle.log_long.proofs.add_entry.Goals as goal

pub ray_at-requires : goal.ray_at-requires
unfolding EachNamed
ray_at-requires c =
    (omega arith, c.requires.3, c.requires.1 c.args.i c.requires.3)

pub returns-then-ray_at-ray : goal.returns-then-ray_at-ray
returns-then-ray_at-ray c =
    let named = sym c.ray_at.ensures ∙ c.if-ray_at-ray.true in
    let key = c.add_key-t.ensures in
    let fronts = rw c.entry_at-e.ensures at c.add_fronts.ensures in
    (key.size, gathers-added _ _ _ _ _ _ c.args.w c.requires.4 _ _ _ named key fronts)

pub returns : goal.returns
returns c =
    (refl, gathers-passed _ _ _ _ _ _ c.args.w c.requires.4 (λ on. c.if-ray_at-ray.false (c.ray_at.ensures ∙ on)))
