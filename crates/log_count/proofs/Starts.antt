-- No list has more pairs left than pairs and hits together.
use mathlib.Core.Bool.{Bool, true, false, cond, not, ◌&&◌}
use mathlib.Core.List.{List, [], ◌∷◌, ◌++◌}
use Prim.Native.Nat.{suc, ◌+◌, ◌*◌, ◌≤◌}
use native.Mathlib.Omega.{arith}
use lib.ListN.{length, length-append}
use lib.Ieee.{Float, lt}
use Rattle.spans.specs.Spans.{holds}
use Rattle.log_model.specs.Counts.{los_of, his_of, member_eq, count_distinct, starts_left}

his-length : (l : List Float) → 2 * length (his_of l) ≤ length l
unfolding his_of
his-length [] = omega arith
his-length (lo ∷ []) = omega arith
his-length (lo ∷ hi ∷ l) = go (lt lo hi) (his-length l)
  where
    go : (b : Bool) → 2 * length (his_of l) ≤ length l → 2 * length (cond b (hi ∷ his_of l) (his_of l)) ≤ length (lo ∷ hi ∷ l)
    go true q = omega arith
    go false q = omega arith

los-length : (l : List Float) → 2 * length (los_of l) ≤ length l
unfolding los_of
los-length [] = omega arith
los-length (lo ∷ []) = omega arith
los-length (lo ∷ hi ∷ l) = omega (arith, los-length l)

distinct-le : (t : Float → Bool) (l : List Float) → count_distinct t l ≤ length l
unfolding count_distinct
distinct-le t [] = omega arith
distinct-le t (x ∷ l) = go (t x && not (member_eq x l)) (distinct-le t l)
  where
    go : (b : Bool) → count_distinct t l ≤ length l → cond b (suc (count_distinct t l)) (count_distinct t l) ≤ length (x ∷ l)
    go true q = omega arith
    go false q = omega arith

pub starts-le : (l hits : List Float) → 2 * starts_left l hits ≤ length l + length hits
unfolding starts_left
starts-le l hits =
    let d = distinct-le (λ x. holds l x && not (holds hits x)) (los_of l ++ his_of hits) in
    let a = length-append (los_of l) (his_of hits) in
    let b = los-length l in
    let c = his-length hits in
    omega arith
