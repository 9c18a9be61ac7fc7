-- A polygon clipped to a band by the rule of Sutherland and Hodgman, and its extent along x (sweep.rs: polygon_strip).
-- Each operation is rounded. Corners may come in any order, and a corner that is NaN is inside no half plane.
use Rattle.std.specs.Prelude.{Bool, true, false, cond, List, [], ◌∷◌, ◌++◌, Float, Option, None, Some, unwrap_or}
use Rattle.std.specs.Float.{inf, binary64}
use Rattle.std.specs.Float.Ieee.{add, sub, mul, div, le}
use Rattle.doubles.specs.Doubles.{larger_of, smaller_of}
use Rattle.strips.specs.declared.PlanePoint.{PlanePoint}
use Rattle.strips.specs.declared.Extent.{Extent}
use Rattle.strips.specs.declared.Strip.{Strip}
use Rattle.strips.specs.declared.Strip.TheVariants.{Hit, Miss}

-- on the kept side of the line y = bound
unfoldable pub inside : (above : Bool) → Float → PlanePoint → Bool
inside above bound p = cond above (le bound p.y) (le p.y bound)

-- where the edge from p to q meets the line y = bound
unfoldable pub crossing : Float → PlanePoint → PlanePoint → PlanePoint
crossing bound p q =
    let t = div binary64 (sub binary64 bound p.y) (sub binary64 q.y p.y) in
    record { x = add binary64 p.x (mul binary64 t (sub binary64 q.x p.x)); y = bound }

-- what the edge from p to q adds: p where it is inside, and the crossing where one of the two is inside and the other is not
unfoldable pub edge : (above : Bool) → Float → PlanePoint → PlanePoint → List PlanePoint
edge above bound p q =
    cond (inside above bound p)
    (cond (inside above bound q) (p ∷ []) (p ∷ crossing bound p q ∷ []))
    (cond (inside above bound q) (crossing bound p q ∷ []) [])

-- the next corner: the head of the rest, or the first corner after the last
abbrev pub head_or : PlanePoint → List PlanePoint → PlanePoint
head_or first [] = first
head_or first (q ∷ r) = q

-- the edges from each corner to the next, where the last goes back to the first
unfoldable pub edges : (above : Bool) → Float → (first : PlanePoint) → List PlanePoint → List PlanePoint
edges above bound first [] = []
edges above bound first (p ∷ r) = edge above bound p (head_or first r) ++ edges above bound first r

unfoldable pub clip : (above : Bool) → Float → List PlanePoint → List PlanePoint
clip above bound [] = []
clip above bound (p ∷ r) = edges above bound p (p ∷ r)

-- the smallest and the largest x so far: those of no points are the infinities
abbrev pub reached : Option Extent → Extent
reached e = unwrap_or e (record { lo = inf false; hi = inf true })

-- with one point more
unfoldable pub widen : Option Extent → PlanePoint → Option Extent
widen e p = Some (record { lo = smaller_of (reached e).lo p.x; hi = larger_of (reached e).hi p.x })

unfoldable pub widen_all : Option Extent → List PlanePoint → Option Extent
widen_all e [] = e
widen_all e (p ∷ r) = widen_all (widen e p) r

-- of no points
abbrev pub empty : Option Extent
empty = None

unfoldable pub extent_strip : Option Extent → Strip
extent_strip None = Miss
extent_strip (Some e) = Hit e.lo e.hi

-- clipped from below at y0, then from above at y1
unfoldable pub polygon_strip : PlanePoint → PlanePoint → PlanePoint → PlanePoint → Float → Float → Strip
polygon_strip p q r s y0 y1 = extent_strip (widen_all empty (clip false y1 (clip true y0 (p ∷ q ∷ r ∷ s ∷ []))))
