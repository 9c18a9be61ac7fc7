-- Two distances with the same bits are the same double, so the half chord at one is that at the other.
use mathlib.Core.Path.{◌≡◌, sym, ◌∙◌}
use Rattle.strips.proofs.Laws.{same_bits}
use Rattle.strips.specs.Strip.{disk_strip, chord_strip, hull}
use Rattle.strips.proofs.ends_strip.Goals as goal

pub returns-then-bits_of : goal.returns-then-bits_of
unfolding disk_strip chord_strip hull
returns-then-bits_of c =
    let same : c.band_distance-db.result ≡ c.band_distance-da.result =
    same_bits _ _ c.band_distance-db.type_inv c.band_distance-da.type_inv
    (sym c.bits_of-then-da-rho.ensures ∙ sym c.if-bits_of.true
    ∙ c.bits_of.ensures) in
    simp (
      c.hull_of.ensures,
      ← c.band_distance-db.ensures,
      ← c.band_distance-da.ensures,
      same,
      c.if-da-rho.true,
      ← c.half_chord-half.ensures,
    )
