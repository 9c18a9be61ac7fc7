-- std's test for a finite double is the definition of specs/.
use Rattle.std.specs.Prelude.{◌≡◌, Float}
use Rattle.std.proofs.Common.{refl}
use Rattle.std.specs.Float.{nan, inf, fin, float_is_finite}
use Rattle.cutter.specs.Cutter.{is_finite}

pub finite : (x : Float) → float_is_finite x ≡ is_finite x
unfolding is_finite float_is_finite
finite nan = refl
finite (inf s) = refl
finite (fin s m e) = refl
