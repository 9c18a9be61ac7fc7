use Rattle.std.proofs.Common.{◌≡◌, true}
use Rattle.sweep_model.specs.Steps.{chord_fits, every}
use Rattle.chords.proofs.check_chords.Given as goal

abbrev pub invariant-loop-i : goal.invariant-loop-i
invariant-loop-i l = every (chord_fits l.f l.chords) l.i ≡ true
