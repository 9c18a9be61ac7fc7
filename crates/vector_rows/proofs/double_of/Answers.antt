-- `vector_rows::double_of` meets its contract.
use Rattle.vector_rows.specs.Words.{double_of}
use lib.Ieee.{of_bits, binary64}
use mathlib.Core.Path.{ap, ◌∙◌}
use Rattle.vector_rows.proofs.double_of.Goals as goal

pub returns : goal.returns
unfolding double_of
returns c = c.of_bits.ensures ∙ ap (of_bits binary64) c.word_of.ensures
