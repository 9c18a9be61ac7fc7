-- The answers of the strips and of the cutter as numbers.
use Rattle.std.specs.Prelude.{◌≡◌, ℕ, Float, Option, None, Some, Result, Ok, Err}
use Rattle.doubles.specs.Constants.{plus_zero}
use Rattle.strips.specs.declared.Strip.{Strip}
use Rattle.strips.specs.declared.Strip.TheVariants.{Hit, Miss}
use Rattle.cutter.specs.declared.ProfileSlice.{ProfileSlice}
use Rattle.cutter.specs.declared.ProfileSlice.TheVariants.{Cutting, NonCutting, Outside}
use Rattle.refusal.specs.Refusal.{number_of}
use Rattle.refusal.specs.declared.Refusal.{Refusal}
use Rattle.inner.specs.declared.StripNumbers.{StripNumbers}
use Rattle.inner.specs.declared.RadiusNumbers.{RadiusNumbers}

unfoldable pub strip_as : Strip → StripNumbers
strip_as (Hit lo hi) = record { hit = 1; lo = lo; hi = hi }
strip_as Miss = record { hit = 0; lo = plus_zero; hi = plus_zero }

unfoldable pub slice_as : ProfileSlice → RadiusNumbers
slice_as (Cutting x) = record { kind = 1; radius = x }
slice_as (NonCutting x) = record { kind = 2; radius = x }
slice_as Outside = record { kind = 0; radius = plus_zero }

unfoldable pub radius_as : Option Float → RadiusNumbers
radius_as (Some x) = record { kind = 1; radius = x }
radius_as None = record { kind = 0; radius = plus_zero }

-- 0 where the tool is accepted, else the refusal's number
abbrev pub check_code : Result (Unit {0}) Refusal → ℕ
check_code (Ok u) = 0
check_code (Err e) = number_of e

-- the code of an answer
abbrev pub CheckedAs : (Result (Unit {0}) Refusal → Type 0) → ℕ → Type 0
CheckedAs answer k = (r : Result (Unit {0}) Refusal) × (answer r × (k ≡ check_code r))
