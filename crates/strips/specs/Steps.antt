-- The corners that a buffer holds.
use Rattle.std.specs.Prelude.{List, take}
use Rattle.strips.specs.declared.PlanePoint.{PlanePoint}
use Rattle.strips.specs.declared.Points.{Points}

-- the corners that a buffer holds
abbrev pub corners : Points → List PlanePoint
corners ps = take ps.n ps.at
