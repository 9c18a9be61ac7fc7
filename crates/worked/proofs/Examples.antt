-- Every example of the table is right. Lists are tested at their ends, which settles every point (spans/proofs/Pieces); all other rows are
-- computed.
use mathlib.Core.Path.{◌≡◌, refl, sym, ◌∙◌, ap, subst}
use mathlib.Core.Logic.{inl, inr}
use mathlib.Core.Bool.{Bool, true, false, not, ◌&&◌, ◌||◌, false≢true}
use mathlib.Core.List.{List, [], ◌∷◌, ◌++◌, Memᴰ}
use lib.Dec.{T, eqb, eqb→eq}
use lib.Ieee.{Float, binary64, of_bits, to_bits, of_int, to_unsigned, sub, mul, div, le, fits, is_nan}
use lib.Ieee.Bits.{of_bits-to_bits}
use Rattle.doubles.specs.Doubles.{ceil_of}
use Rattle.logic.proofs.Bools.{and_left, and_right, not-true, not-false, or_cases}
use Rattle.spans.specs.Spans.{All, Point, holds, sound, retained, Within, Outside, NormalOf}
use Rattle.spans.proofs.Pieces.{agree, by-ends, Piecewise, of-list, of_none, in_left, in_right, one_of}
use Rattle.spans.specs.Overlay.{less_of, common_of}
use Rattle.grid.specs.Grid.{is_between, all_between}
use Rattle.grid.specs.Rays.{ray_count}
use Rattle.grid.specs.FromSpec.{any_below, any_above, is_mm, misdescribed, cell_count, grid_over, grid_of}
use Rattle.doubles_sqrt.specs.Root.{square_root}
use Rattle.strips.specs.Strip.{band_distance, half_chord, chord_strip, disk_strip}
use Rattle.cutter.specs.Cutter.{is_finite, off_tool, arc_at, cutting_radius, radius_at}
use Rattle.frame.specs.Frame.{world_of}
use Rattle.worked.specs.Examples.{WorkedExample, normalizes, subtracts, intersects, contains, grids, disk, radius_there, turns}
use Rattle.worked.specs.Examples.{RowRight, WorkedRight, worked_examples}

true→T : (b : Bool) → b ≡ true → T b
true→T b h = subst T (sym h) tt

-- ---- an end is one of the ends of a list: both are doubles, of the same bits
unfoldable same : Float → Float → Bool
same x y = fits binary64 x && (fits binary64 y && eqb (to_bits binary64 x) (to_bits binary64 y))

same-is : (x y : Float) → same x y ≡ true → x ≡ y
unfolding same
same-is x y h =
    let here = fits binary64 x in
    let there = fits binary64 y in
    let bits = eqb (to_bits binary64 x) (to_bits binary64 y) in
    let k = and_right here (there && bits) h in
    sym (of_bits-to_bits binary64 x (true→T here (and_left here (there && bits) h)))
    ∙ ap (of_bits binary64) (eqb→eq (to_bits binary64 x) (to_bits binary64 y) (true→T bits (and_right there bits k)))
    ∙ of_bits-to_bits binary64 y (true→T there (and_left there bits k))

unfoldable among : List Float → Float → Bool
unfolding same
among [] e = false
among (x ∷ l) e = same e x || among l e

among-is : (l : List Float) (e : Float) → among l e ≡ true → Memᴰ e l
unfolding among
among-is [] e h = absurd (false≢true h)
among-is (x ∷ l) e h = elim (or_cases (same e x) (among l e) h) [
  | inl k ↦ Memᴰ.head (same-is e x k)
  | inr k ↦ Memᴰ.tail (among-is l e k)
]

unfoldable all_among : List Float → List Float → Bool
unfolding among
all_among l [] = true
all_among l (e ∷ r) = among l e && all_among l r

drawn : (l r : List Float) → all_among l r ≡ true → All (λ e. Memᴰ e l) r
unfolding all_among
drawn l [] h = tt
drawn l (e ∷ r) h = (among-is l e (and_left (among l e) (all_among l r) h), drawn l r (and_right (among l e) (all_among l r) h))

-- ---- what normalising makes
pieces : (a b : List Float) → Piecewise (a ++ b) (holds a) × Piecewise (a ++ b) (holds b)
pieces a b = (in_left a b (holds a) (of-list a), in_right a b (holds b) (of-list b))

unfoldable is_normal : List Float → List Float → Bool
unfolding all_among
is_normal s r = sound r && (agree (r ++ s) (holds r) (holds s) && all_among (retained s) r)

normal : (s r : List Float) → is_normal s r ≡ true → NormalOf s r
unfolding is_normal
normal s r h =
    let points = agree (r ++ s) (holds r) (holds s) in
    let k = and_right (sound r) (points && all_among (retained s) r) h in record {
      list = record {
        is_sound = and_left (sound r) (points && all_among (retained s) r) h;
        points = by-ends (r ++ s) (holds r) (holds s) (pieces r s).0 (pieces r s).1 (and_left points (all_among (retained s) r) k);
      };
      drawn = drawn (retained s) r (and_right points (all_among (retained s) r) k);
    }

-- ---- whether one list has the points of another
unfoldable outside : List Float → List Float → Float → Bool
outside outer inner p = holds inner p && not (holds outer p)

unfoldable is-point : Float → Bool
is-point p = fits binary64 p && not (is_nan p)

point : (p : Float) → is-point p ≡ true → Point p
unfolding is-point
point p h =
    let double = fits binary64 p in
    let number = not (is_nan p) in
    (true→T double (and_left double number h), not-true (is_nan p) (and_right double number h))

-- some end passes the test
abbrev some : List Float → (Float → Bool) → Bool
some [] f = false
some (x ∷ l) f = f x || some l f

some_end : (l : List Float) (f : Float → Bool) → some l f ≡ true → (p : Float) × (f p ≡ true)
some_end [] f h = absurd (false≢true h)
some_end (x ∷ l) f h = elim (or_cases (f x) (some l f) h) [ inl k ↦ (x, k) | inr k ↦ some_end l f k ]

unfoldable says : List Float → List Float → Bool → Bool
unfolding outside is-point
says outer inner true = agree (inner ++ outer) (outside outer inner) (λ p. false)
says outer inner false = some (inner ++ outer) (λ p. is-point p && outside outer inner p)

covered : (outer inner : List Float) → says outer inner true ≡ true → Within outer inner
unfolding says outside
covered outer inner h p k =
    not-false (holds outer p)
    (rw k at (by-ends (inner ++ outer) (outside outer inner) (λ q. false)
    (one_of (inner ++ outer) (holds inner) (holds outer) (pieces inner outer).0 (pieces inner outer).1) (of_none (inner ++ outer)) h p))

sticks-out : (outer inner : List Float) → says outer inner false ≡ true → Outside outer inner
unfolding says outside
sticks-out outer inner h =
    let e = some_end (inner ++ outer) (λ p. is-point p && outside outer inner p) h in
    let x = holds inner e.0 in
    let y = holds outer e.0 in
    let apart = and_right (is-point e.0) (x && not y) e.1 in
    (e.0, point e.0 (and_left (is-point e.0) (x && not y) e.1), and_left x (not y) apart, not-true y (and_right x (not y) apart))

-- ---- the table

-- what is to be computed of an example: a test of its lists, else what it says
abbrev Computed : WorkedExample → Type 0
Computed (normalizes s r) = is_normal s r ≡ true
Computed (subtracts a b r) = RowRight (subtracts a b r)
Computed (intersects a b r) = RowRight (intersects a b r)
Computed (contains outer inner want) = says outer inner want ≡ true
Computed (grids to size cells step rays) = RowRight (grids to size cells step rays)
Computed (disk x y radius y0 y1 lo hi) = RowRight (disk x y radius y0 y1 lo hi)
Computed (radius_there shape cutter height want) = RowRight (radius_there shape cutter height want)
Computed (turns sign pair want) = RowRight (turns sign pair want)

right : (e : WorkedExample) → Computed e → RowRight e
right (normalizes s r) h = normal s r h
right (subtracts a b r) h = h
right (intersects a b r) h = h
right (contains outer inner true) h = covered outer inner h
right (contains outer inner false) h = sticks-out outer inner h
right (grids to size cells step rays) h = h
right (disk x y radius y0 y1 lo hi) h = h
right (radius_there shape cutter height want) h = h
right (turns sign pair want) h = h

abbrev AllComputed : List WorkedExample → Type 0
AllComputed [] = Unit {0}
AllComputed (e ∷ es) = Computed e × AllComputed es

all : (es : List WorkedExample) → AllComputed es → WorkedRight es
all [] h = tt
all (e ∷ es) h = (right e h.0, all es h.1)

pub examples-right : WorkedRight worked_examples
unfolding worked_examples is_normal says holds sound retained less_of common_of
    grid_of grid_over misdescribed is_mm is_between all_between any_below any_above cell_count ray_count
    disk_strip chord_strip half_chord band_distance square_root radius_at off_tool is_finite cutting_radius arc_at world_of
    ceil_of of_bits to_bits of_int to_unsigned sub mul div le fits is_nan
examples-right = all worked_examples
    (refl, (refl, (refl, (refl, (refl, (refl, (refl, (refl, (refl, ((refl, refl), (refl, (refl, (refl, tt)))))))))))))
