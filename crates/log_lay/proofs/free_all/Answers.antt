-- `log_lay::free_all` meets its contract: before each turn the lists of the first rays are freed.
use Rattle.log_lay.proofs.Loops.{freed-start, turn-freeable, freed-next, freed-end}
use Rattle.log_lay.proofs.free_all.Goals as goal

pub loop-ray-init : goal.loop-ray-init
loop-ray-init c = freed-start _ _ _ _ _ c.requires

pub free_if_changed-requires : goal.free_if_changed-requires
free_if_changed-requires c = turn-freeable _ _ _ _ _ _ c.loop-ray.invariant.still
    c.loop-ray-test.true

pub loop-ray-preserved : goal.loop-ray-preserved
loop-ray-preserved c = freed-next _ _ _ _ _ _ _
    c.loop-ray.invariant
    c.loop-ray-test.true _
    c.free_if_changed.ensures

pub returns : goal.returns
returns c = freed-end _ _ _ _ _ _ _ c.loop-ray.invariant c.loop-ray-test.false
