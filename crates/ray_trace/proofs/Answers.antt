-- Which refusal is due, and where none is.
use mathlib.Core.Path.{◌≡◌}
use mathlib.Core.Bool.{true, false}
use mathlib.Core.List.{List}
use Prim.Native.Nat.{◌%◌}
use borrow.Author.Tests.{eqb-true, eqb-false}
use lib.ListN.{length}
use lib.Ieee.{Float, is_nan}
use Rattle.logic.proofs.Bools.{clash}
use Rattle.refusal.specs.Refusal.{Due, NoneDue}
use Rattle.refusal.proofs.Laws.{first, later}
use Rattle.spans.specs.Rays.{ValidRay}
use Rattle.log_model.specs.Steps.{is_whole_log}
use Rattle.ray_trace.specs.Trace.{TracePre, trace_causes}

module _ (lo hi : Float) (possible certain log : List Float) (place : Float) where
  -- 11
  pub part-over : is_whole_log log ≡ false → Due (trace_causes lo hi possible certain log place) 11
  part-over e = first _ _ (λ t. eqb-false (length log % 6) 0 e t.whole_log)

  pub bad-ray : ¬ ValidRay lo hi possible certain → Due (trace_causes lo hi possible certain log place) 11
  bad-ray n = first _ _ (λ t. n t.ray)

  pub good : is_whole_log log ≡ true → ValidRay lo hi possible certain → TracePre lo hi possible certain log
  good e v = record { whole_log = eqb-true (length log % 6) 0 e; ray = v }

  -- 19
  pub nan-place : TracePre lo hi possible certain log → is_nan place ≡ true → Due (trace_causes lo hi possible certain log place) 19
  nan-place t h = later _ _ 19 (λ n. n t) (first _ _ h)

  pub no-cause-due : TracePre lo hi possible certain log → is_nan place ≡ false → NoneDue (trace_causes lo hi possible certain log place)
  unfolding NoneDue
  no-cause-due t h = (λ n. n t, (λ n. clash (is_nan place) n h, tt))
