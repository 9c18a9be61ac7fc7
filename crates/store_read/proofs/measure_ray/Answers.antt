use Rattle.store_read.proofs.Bounds.{certain-bad, both-good}
use Rattle.store_read.proofs.measure_ray.Goals as goal

pub returns-in_err-c : goal.returns-in_err-c
returns-in_err-c c = rw c.from_residual-in_err-c.ensures (certain-bad _ _ _ _ c.in_err-c.ensures)

pub returns : goal.returns
returns c = (both-good _ _ _ _ c.in_ok-p.ensures.0 c.in_ok-c.ensures.0, c.in_ok-p.ensures.1, c.in_ok-c.ensures.1)
