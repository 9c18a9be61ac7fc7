-- What a merge answers and leaves in the work buffer.
use Rattle.std.specs.Prelude.{◌≡◌, List, [], ◌∷◌, ℕ, ◌+◌, ◌*◌, ◌-◌, ◌/◌, ◌%◌, ◌≤◌, ◌<◌, length, drop, replicate, Float, Result, Ok, Err}
use Rattle.doubles.specs.Constants.{plus_zero}
use Rattle.refusal.specs.Refusal.{Cause, cause, Due, NoneDue, number_of}
use Rattle.refusal.specs.declared.Refusal.{Refusal}
use Rattle.spans.specs.Spans.{holds}
use Rattle.spans.specs.Rays.{ValidRay, MergedExactly}
use Rattle.ray_subtract.specs.Subtract.{either_hit, new_cells, handed_back, ListAfterHits}
use Rattle.ray_subtract.specs.declared.MergedList.{MergedList}
use Rattle.ray_subtract.specs.declared.MergedLists.{MergedLists}

-- Both lists after the merge. New lists stand at the start of the work buffer, possible's before certain's, and the
-- rest of it is plus zero.
pub record MergeEffect (lo hi : Float) (possible certain outer inner : List Float) (p c : MergedList) (work : List Float) : Type 0 where
  pub room : new_cells p + new_cells c ≤ length work
  pub possible_left : ListAfterHits possible (holds inner) p (handed_back p possible work 0)
  pub certain_left : ListAfterHits certain (either_hit outer inner) c (handed_back c certain work (new_cells p))
  pub exact : MergedExactly possible certain outer inner (handed_back p possible work 0) (handed_back c certain work (new_cells p))
  pub valid : ValidRay lo hi (handed_back p possible work 0) (handed_back c certain work (new_cells p))
  pub rest : drop (new_cells p + new_cells c) work ≡ replicate (length work - (new_cells p + new_cells c)) plus_zero

-- the pairs that the work buffer needs: 4 per pair of the ray and 8 per hit pair
abbrev pub work_pairs : List Float → List Float → List Float → List Float → ℕ
work_pairs possible certain outer inner = 4 * (length possible / 2 + length certain / 2) + 8 * (length outer / 2 + length inner / 2)

-- hit lists of whole pairs, and a ray that is valid within its bounds
pub record MergePre (lo hi : Float) (possible certain outer inner : List Float) : Type 0 where
  pub outer_whole : length outer % 2 ≡ 0
  pub inner_whole : length inner % 2 ≡ 0
  pub ray : ValidRay lo hi possible certain

-- the causes in document 01's order, for a work buffer of `room` cells
abbrev pub merge_causes : Float → Float → List Float → List Float → List Float → List Float → ℕ → List Cause
merge_causes lo hi possible certain outer inner room =
    cause 12 (room / 2 < work_pairs possible certain outer inner) ∷ cause 11 (¬ MergePre lo hi possible certain outer inner) ∷ []

-- a refused call gives the number that is due and leaves the work buffer as it was
abbrev pub MergePost : (lo hi : Float) → (possible certain outer inner before after : List Float) → Result MergedLists Refusal → Type 0
MergePost lo hi possible certain outer inner before after (Ok l) =
    NoneDue (merge_causes lo hi possible certain outer inner (length before))
    × MergeEffect lo hi possible certain outer inner l.possible l.certain after
MergePost lo hi possible certain outer inner before after (Err e) =
    Due (merge_causes lo hi possible certain outer inner (length before)) (number_of e) × (after ≡ before)
