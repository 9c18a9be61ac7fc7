-- `log_lay::lay_all` meets its contract: before each turn the new lists of the first rays are laid.
use Rattle.log_lay.proofs.Loops.{laid-start, turn-layable, laid_next, laid_end}
use Rattle.log_lay.proofs.lay_all.Goals as goal

pub loop-ray-init : goal.loop-ray-init
loop-ray-init c = laid-start _ _ _ _ _ _ c.requires

pub lay_if_changed-place-requires : goal.lay_if_changed-place-requires
lay_if_changed-place-requires c = turn-layable _ _ _ _ _ _
    c.requires _ _ _
    c.loop-ray.invariant c.loop-ray-test.true

pub loop-ray-preserved : goal.loop-ray-preserved
loop-ray-preserved c = laid_next _ _ _ _ _ _
    c.requires _ _ _ c.loop-ray.invariant c.loop-ray-test.true _ _ c.lay_if_changed-place.ensures

pub returns : goal.returns
returns c = laid_end _ _ _ _ _ _ c.requires _ _ _ c.loop-ray.invariant c.loop-ray-test.false
