-- The ends of a strip are doubles, whatever its corners, centres and lengths are: every x that a clip leaves is a corner's or a
-- sum, and the extent starts at infinities. Assumes nothing.
use mathlib.Core.Path.{◌≡◌, sym, subst}
use mathlib.Core.Bool.{Bool, true, false, cond}
use mathlib.Core.List.{List, [], ◌∷◌, ◌++◌}
use mathlib.Core.Logic.{◌⊎◌, inl, inr}
use lib.Dec.{T}
use lib.Ieee.{Float, binary64, add, sub, mul, div, neg, lt, le, fits}
use lib.Ieee.Fits.{add-fits, sub-fits}
use Rattle.doubles.specs.Constants.{plus_zero}
use Rattle.doubles.specs.Doubles.{larger_of, smaller_of}
use Rattle.doubles.proofs.Pick.{larger-either, smaller-either}
use Rattle.std.specs.Prelude.{Option, None, Some}
use Rattle.strips.specs.declared.PlanePoint.{PlanePoint}
use Rattle.strips.specs.declared.Extent.{Extent}
use Rattle.strips.specs.declared.Strip.{Strip}
use Rattle.strips.specs.declared.Strip.TheVariants.{Hit, Miss}
use Rattle.strips.specs.Polygon.{inside, crossing, edge, head_or, edges, clip, widen, widen_all, empty, reached, extent_strip}
use Rattle.strips.specs.Polygon.{polygon_strip}
use Rattle.strips.specs.Strip.{band_distance, half_chord, chord_strip, disk_strip, hull, side_strip}

-- the ends of a strip are doubles
abbrev pub DoubleEnds : Strip → Type 0
DoubleEnds Miss = Unit {0}
DoubleEnds (Hit lo hi) = T (fits binary64 lo) × T (fits binary64 hi)

-- the x of every corner is a double
abbrev DoubleCorners : List PlanePoint → Type 0
DoubleCorners [] = Unit {0}
DoubleCorners (p ∷ r) = T (fits binary64 p.x) × DoubleCorners r

-- one of two doubles is a double
either-fits : (a b r : Float) → (r ≡ a) ⊎ (r ≡ b) → T (fits binary64 a) → T (fits binary64 b) → T (fits binary64 r)
either-fits a b r (inl e) h k = subst (λ (x : Float). T (fits binary64 x)) (sym e) h
either-fits a b r (inr e) h k = subst (λ (x : Float). T (fits binary64 x)) (sym e) k

smaller-fits : (a b : Float) → T (fits binary64 a) → T (fits binary64 b) → T (fits binary64 (smaller_of a b))
smaller-fits a b h k = either-fits a b (smaller_of a b) (smaller-either a b) h k

larger-fits : (a b : Float) → T (fits binary64 a) → T (fits binary64 b) → T (fits binary64 (larger_of a b))
larger-fits a b h k = either-fits a b (larger_of a b) (larger-either a b) h k

-- ---- a clipped polygon
corners-append : (l m : List PlanePoint) → DoubleCorners l → DoubleCorners m → DoubleCorners (l ++ m)
corners-append [] m a b = b
corners-append (p ∷ r) m a b = (a.0, corners-append r m a.1 b)

crossing-fits : (bound : Float) (p q : PlanePoint) → T (fits binary64 (crossing bound p q).x)
unfolding crossing
crossing-fits bound p q =
    let t = div binary64 (sub binary64 bound p.y) (sub binary64 q.y p.y) in
    add-fits binary64 p.x (mul binary64 t (sub binary64 q.x p.x))

edge-fits : (above : Bool) (bound : Float) (p q : PlanePoint) → T (fits binary64 p.x) → DoubleCorners (edge above bound p q)
unfolding edge
edge-fits above bound p q h = go (inside above bound p) (inside above bound q)
  where
    go : (s t : Bool)
        → DoubleCorners (cond s (cond t (p ∷ []) (p ∷ crossing bound p q ∷ [])) (cond t (crossing bound p q ∷ []) []))
    go true true = (h, tt)
    go true false = (h, (crossing-fits bound p q, tt))
    go false true = (crossing-fits bound p q, tt)
    go false false = tt

edges_fit : (above : Bool) (bound : Float) (first : PlanePoint) (l : List PlanePoint) → DoubleCorners l
    → DoubleCorners (edges above bound first l)
unfolding edges
edges_fit above bound first [] a = tt
edges_fit above bound first (p ∷ r) a =
    corners-append (edge above bound p (head_or first r)) (edges above bound first r)
    (edge-fits above bound p (head_or first r) a.0) (edges_fit above bound first r a.1)

clip-fits : (above : Bool) (bound : Float) (l : List PlanePoint) → DoubleCorners l → DoubleCorners (clip above bound l)
unfolding clip
clip-fits above bound [] a = tt
clip-fits above bound (p ∷ r) a = edges_fit above bound p (p ∷ r) a

-- ---- its extent
abbrev DoubleExtent : Option Extent → Type 0
DoubleExtent e = T (fits binary64 (reached e).lo) × T (fits binary64 (reached e).hi)

widen-fits : (e : Option Extent) (l : List PlanePoint) → DoubleExtent e → DoubleCorners l → DoubleExtent (widen_all e l)
unfolding widen_all widen
widen-fits e [] h a = h
widen-fits e (p ∷ r) h a =
    widen-fits (widen e p) r (smaller-fits (reached e).lo p.x h.0 a.0, larger-fits (reached e).hi p.x h.1 a.0) a.1

extent-doubles : (e : Option Extent) → DoubleExtent e → DoubleEnds (extent_strip e)
unfolding extent_strip
extent-doubles None h = tt
extent-doubles (Some e) h = h

polygon-doubles : (p q r s : PlanePoint) (y0 y1 : Float) → DoubleCorners (p ∷ q ∷ r ∷ s ∷ []) → DoubleEnds (polygon_strip p q r s y0 y1)
unfolding polygon_strip fits
polygon-doubles p q r s y0 y1 a =
    let l = clip true y0 (p ∷ q ∷ r ∷ s ∷ []) in
    extent-doubles (widen_all empty (clip false y1 l))
    (widen-fits empty (clip false y1 l) (tt, tt) (clip-fits false y1 l (clip-fits true y0 (p ∷ q ∷ r ∷ s ∷ []) a)))

-- ---- the strips of the sweep
pub side-doubles : (a b : PlanePoint) (length rho y0 y1 : Float) → DoubleEnds (side_strip a b length rho y0 y1)
unfolding side_strip
side-doubles a b length rho y0 y1 = go (lt plus_zero length)
  where
    nx : Float
    nx = mul binary64 (div binary64 (neg (sub binary64 b.y a.y)) length) rho

    ny : Float
    ny = mul binary64 (div binary64 (sub binary64 b.x a.x) length) rho

    p : PlanePoint
    p = record { x = add binary64 a.x nx; y = add binary64 a.y ny }

    q : PlanePoint
    q = record { x = add binary64 b.x nx; y = add binary64 b.y ny }

    r : PlanePoint
    r = record { x = sub binary64 b.x nx; y = sub binary64 b.y ny }

    s : PlanePoint
    s = record { x = sub binary64 a.x nx; y = sub binary64 a.y ny }

    go : (t : Bool) → DoubleEnds (cond t (polygon_strip p q r s y0 y1) Miss)
    go true =
        polygon-doubles p q r s y0 y1
        (add-fits binary64 a.x nx, (add-fits binary64 b.x nx, (sub-fits binary64 b.x nx, (sub-fits binary64 a.x nx, tt))))
    go false = tt

pub disk-doubles : (c : PlanePoint) (rho y0 y1 : Float) → DoubleEnds (disk_strip c rho y0 y1)
unfolding disk_strip chord_strip
disk-doubles c rho y0 y1 = go (le (band_distance c.y y0 y1) rho)
  where
    half : Float
    half = half_chord rho (band_distance c.y y0 y1)

    go : (t : Bool) → DoubleEnds (cond t (Hit (sub binary64 c.x half) (add binary64 c.x half)) Miss)
    go true = (sub-fits binary64 c.x half, add-fits binary64 c.x half)
    go false = tt

pub hull-doubles : (s t : Strip) → DoubleEnds s → DoubleEnds t → DoubleEnds (hull s t)
unfolding hull
hull-doubles Miss t a b = b
hull-doubles (Hit lo hi) Miss a b = a
hull-doubles (Hit lo hi) (Hit lo' hi') a b = (smaller-fits lo lo' a.0 b.0, larger-fits hi hi' a.1 b.1)
