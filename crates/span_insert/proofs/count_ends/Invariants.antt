-- `span_insert::count_ends` meets its contract: of the first n ends those from i on fail each test that the closure makes.
use Rattle.std.specs.Prelude.{◌≡◌, Bool, Float}
use Rattle.span_insert.proofs.Loops.{Searched}
use Rattle.span_insert.proofs.count_ends.Given as goal

abbrev pub invariant-loop-i : goal.invariant-loop-i
invariant-loop-i g l =
    (test : Float → Bool) → ((e : Float) (r : Bool) → goal.F-post g l.passes e r → r ≡ test e) → Searched test l.s l.n l.i
