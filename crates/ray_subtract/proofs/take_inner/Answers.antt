-- `ray_subtract::take_inner` meets its contract.
use mathlib.Core.Path.{◌≡◌}
use mathlib.Core.Bool.{true}
use Rattle.spans.specs.Spans.{sound}
use Rattle.ray_subtract.specs.Steps.{cells_from}
use Rattle.ray_subtract.proofs.Places.{part_length}
use Rattle.ray_subtract.proofs.Sparing.{reduced-still, reduced-moved, less-still}
use Rattle.spans.specs.Overlay.{less_of}
use Rattle.span_overlay.proofs.Less.{less-list}
use native.Mathlib.Omega.{arith}
use Rattle.ray_subtract.proofs.take_inner.Goals as goal
use Rattle.ray_subtract.proofs.take_inner.Goals.{Start}

inner-sound : (s : Start) → sound (less_of (cells_from s.args.a s.args.n s.args.w.now) (cells_from s.args.b s.args.m s.args.w.now)) ≡ true
inner-sound s = (less-list _ _ s.requires.0.is_sound s.requires.1.is_sound).is_sound

pub returns-then-not-share_point : goal.returns-then-not-share_point
returns-then-not-share_point c =
    reduced-still c.requires.0.is_sound (inner-sound (goal.at.returns-then-not-share_point c).Start) c.if-not-share_point.ensures
    (part_length c.args.a c.args.n c.args.w.now c.requires.0.room) (less-still _ _ c.requires.0.is_sound c.requires.1.is_sound)

pub returns : goal.returns
returns c =
    reduced-moved c.requires.0.is_sound (inner-sound (goal.at.returns c).Start) c.if-not-share_point.ensures
    (omega (arith, c.requires.0.room, c.requires.2)) c.subtract_at-r.ensures
