-- What the test of a tool answers.
use Rattle.std.specs.Prelude.{Result, Ok, Err}
use Rattle.refusal.specs.Refusal.{Due, NoneDue, number_of}
use Rattle.refusal.specs.declared.Refusal.{Refusal}
use Rattle.cutter.specs.declared.CutterShape.{CutterShape}
use Rattle.cutter.specs.declared.PreparedCutter.{PreparedCutter}
use Rattle.cutter.specs.Limits.{tool_causes}

-- what each answer says of the tool
abbrev pub ToolCheckPost : CutterShape → PreparedCutter → Result (Unit {0}) Refusal → Type 0
ToolCheckPost shape c (Ok u) = NoneDue (tool_causes shape c)
ToolCheckPost shape c (Err e) = Due (tool_causes shape c) (number_of e)
