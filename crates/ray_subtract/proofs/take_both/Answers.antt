-- `ray_subtract::take_both` meets its contract.
use mathlib.Core.Path.{◌≡◌}
use mathlib.Core.Bool.{true}
use Rattle.spans.specs.Spans.{sound}
use Rattle.ray_subtract.specs.Steps.{less_hits}
use Rattle.ray_subtract.proofs.Places.{part_length}
use Rattle.ray_subtract.proofs.Sparing.{reduced-still, reduced-moved, both-still, less-both-list}
use native.Mathlib.Omega.{arith}
use Rattle.ray_subtract.proofs.take_both.Goals as goal
use Rattle.ray_subtract.proofs.take_both.Goals.{Start}

hits-sound : (s : Start) → sound (less_hits s.args.c s.args.nc s.args.no s.args.ni s.args.w.now) ≡ true
hits-sound s = (less-both-list _ _ _ s.requires.0.is_sound s.requires.1.is_sound s.requires.2.is_sound).is_sound

pub returns-then-not-is_hit : goal.returns-then-not-is_hit
returns-then-not-is_hit c =
    reduced-still c.requires.0.is_sound (hits-sound (goal.at.returns-then-not-is_hit c).Start) c.if-not-is_hit.ensures
    (part_length c.args.c c.args.nc c.args.w.now c.requires.0.room)
    (both-still _ _ _ c.requires.0.is_sound c.requires.1.is_sound c.requires.2.is_sound)

pub returns : goal.returns
returns c =
    reduced-moved c.requires.0.is_sound (hits-sound (goal.at.returns c).Start) c.if-not-is_hit.ensures
    (omega (arith, c.requires.0.room, c.requires.3, c.requires.4)) c.subtract_both-r.ensures
