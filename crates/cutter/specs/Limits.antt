-- Refusals 5 and 6: document 01's limits for a tool, a constructor for each number that it names.
use Rattle.std.specs.Prelude.{◌≡◌, true, List, [], ◌∷◌, Float}
use Rattle.std.specs.Float.Ieee.{lt, is_nan}
use Rattle.doubles.specs.Constants.{million, millionth, plus_zero}
use Rattle.doubles.specs.Ranges.{OutOf, OutOfPositive}
use Rattle.refusal.specs.Refusal.{Cause, cause}
use Rattle.cutter.specs.declared.CutterShape.{CutterShape}
use Rattle.cutter.specs.declared.CutterShape.TheVariants.{Bull, Drill, Chamfer, Beam, Dovetail}
use Rattle.cutter.specs.declared.PreparedCutter.{PreparedCutter}

-- 6 tool: a NaN is outside every range, so `NaN anywhere` is left to say of the neck and the shank alone
pub data BadTool (shape : CutterShape) (c : PreparedCutter) : Type 0 where
  diameter_out : OutOfPositive million c.diameter_mm → BadTool shape c
  cutting_length_out : OutOfPositive million c.cutting_length_mm → BadTool shape c
  radius_out : OutOfPositive million c.radius → BadTool shape c
  tip_height_out : OutOf plus_zero million c.tip_height → BadTool shape c
  slope_out : OutOf plus_zero million c.slope → BadTool shape c
  shoulder_out : OutOf plus_zero million c.shoulder → BadTool shape c
  corner_out : (corner : Float) → shape ≡ Bull corner → OutOf plus_zero million corner → BadTool shape c
  drill_angle_out : (angle : Float) → shape ≡ Drill angle → OutOf plus_zero million angle → BadTool shape c
  chamfer_angle_out : (angle tip : Float) → shape ≡ Chamfer angle tip → OutOf plus_zero million angle → BadTool shape c
  chamfer_tip_out : (angle tip : Float) → shape ≡ Chamfer angle tip → OutOf plus_zero million tip → BadTool shape c
  dovetail_angle_out : (angle : Float) → shape ≡ Dovetail angle → OutOf plus_zero million angle → BadTool shape c
  overall_length_out : OutOf c.cutting_length_mm million c.overall_length_mm → BadTool shape c
  dovetail_slope_low : (angle : Float) → shape ≡ Dovetail angle → lt c.slope millionth ≡ true → BadTool shape c
  neck_nan : is_nan c.neck_diameter_mm ≡ true → BadTool shape c
  shank_nan : is_nan c.shank_diameter_mm ≡ true → BadTool shape c

-- 5 beam, then 6 tool: document 01's order
abbrev pub tool_causes : CutterShape → PreparedCutter → List Cause
tool_causes shape c = cause 5 (shape ≡ Beam) ∷ cause 6 (BadTool shape c) ∷ []
