-- `doubles::abs` meets its contract: std's size is `abs_of`. Assumes nothing.
use Rattle.std.proofs.Common.{◌≡◌, false, refl, ◌∙◌}
use Rattle.std.specs.Float.{float_with_sign}
use lib.Ieee.{Float, nan, inf, fin}
use Rattle.doubles.specs.Doubles.{abs_of}
use Rattle.doubles.proofs.abs.Goals as goal

same : (x : Float) → float_with_sign false x ≡ abs_of x
unfolding float_with_sign abs_of
same nan = refl
same (inf s) = refl
same (fin s m e) = refl

pub returns : goal.returns
returns c = c.abs.ensures.value ∙ same c.args.x
