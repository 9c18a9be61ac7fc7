-- Every example of the table is right: each is computed.
use mathlib.Core.Path.{refl}
use lib.Ieee.{of_int, le, lt}
use Rattle.spans.specs.Spans.{holds}
use Rattle.log_model.specs.Logs.{entries, hit_lo, hit_hi}
use Rattle.ray_trace.specs.Reasons.{hit_pairs, first_entry, later_entry, not_held, cut_away, made_uncertain, never_certain, untouched}
use Rattle.ray_trace.specs.Examples.{TracedRight, trace_examples}

pub examples-right : TracedRight trace_examples
unfolding trace_examples entries hit_pairs hit_lo hit_hi holds of_int le lt
examples-right = (
  cut_away refl (first_entry refl),
  (
    made_uncertain refl refl (first_entry refl),
    (
      untouched refl refl refl,
      (
        made_uncertain refl refl (first_entry refl),
        (
          not_held refl,
          (
            not_held refl,
            (
              never_certain refl refl refl,
              (
                cut_away refl (first_entry refl),
                (
                  cut_away refl (later_entry refl (first_entry refl)),
                  (
                    made_uncertain refl refl (later_entry refl (first_entry refl)),
                    (cut_away refl (first_entry refl), tt),
                  ),
                ),
              ),
            ),
          ),
        ),
      ),
    ),
  ),
)
