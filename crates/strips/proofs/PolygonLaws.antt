-- Lists of corners: the length of a struct's array field, and laws of `widen_all`, `edge` and `edges`.
use mathlib.Core.Path.{◌≡◌, refl, sym, ◌∙◌}
use mathlib.Core.List.{List, [], ◌∷◌, ◌++◌, map}
use mathlib.Core.Bool.{Bool, cond}
use Prim.Native.Nat.{ℕ, zero, suc, ◌+◌, ◌<◌, ◌≤◌}
use native.Mathlib.Omega.{arith}
use native.Mathlib.Numerals.{add-one}
use lib.ListN.{length, length-map, get_or, take, drop, drop_of_length-le}
use lib.Seq.{length-take-le, drop-cons, get_or-take}
use lib.Ieee.{Float}
use Rattle.std.specs.Prelude.{Option}
use Rattle.strips.specs.declared.PlanePoint.{PlanePoint}
use Rattle.strips.specs.declared.Extent.{Extent}
use Rattle.strips.specs.Polygon.{inside, crossing, widen_all, widen, edges, clip, edge, head_or}

pub length-field : (X Y : Type 0) (f : X → Y) (l : List X) (n : ℕ) → length (map f l) ≡ n → length l ≡ n
length-field X Y f l n e = sym (length-map l f) ∙ e

pub widen-append : (e : Option Extent) (l r : List PlanePoint) → widen_all e (l ++ r) ≡ widen_all (widen_all e l) r
unfolding widen_all
widen-append e [] r = refl
widen-append e (p ∷ l) r = widen-append (widen e p) l r

-- what an edge adds, by what tests r and s of its ends found
pub edge_by : (above : Bool) (b : Float) (p q : PlanePoint) {r s x y : Bool} → r ≡ inside above b p → r ≡ x → s ≡ inside above b q → s ≡ y
    → edge above b p q ≡ cond x (cond y (p ∷ []) (p ∷ crossing b p q ∷ [])) (cond y (crossing b p q ∷ []) [])
unfolding edge
edge_by above b p q e h f k = rw (← e, h, ← f, k)

-- the corner after the one at j - 1, of the first n of a buffer
pub next-in : (f d : PlanePoint) (at : List PlanePoint) (n j : ℕ) → j < n → n ≤ length at → head_or f (drop j (take n at)) ≡ get_or at j d
next-in f d at n j h k =
    let l : length (take n at) ≡ n = length-take-le n at k in
    let m : j < length (take n at) = omega arith in
    rw (drop-cons (take n at) j d, get_or-take)

pub next-out : (f : PlanePoint) (at : List PlanePoint) (n j : ℕ) → n ≤ j → n ≤ length at → head_or f (drop j (take n at)) ≡ f
next-out f at n j h k =
    let l : length (take n at) ≡ n = length-take-le n at k in
    let m : length (take n at) ≤ j = omega arith in
    rw (drop_of_length-le (take n at) m)

pub step : (above : Bool) (b : Float) (f d q : PlanePoint) (at : List PlanePoint) (n i : ℕ) (e : Option Extent) → i < n → n ≤ length at
    → q ≡ head_or f (drop (i + 1) (take n at))
    → widen_all (widen_all e (edge above b (get_or at i d) q)) (edges above b f (drop (i + 1) (take n at)))
    ≡ widen_all e (edges above b f (drop i (take n at)))
unfolding edges
step above b f d q at n i e h k g =
    let l : length (take n at) ≡ n = length-take-le n at k in
    let m : i < length (take n at) = omega arith in
    rw (g, ← widen-append, add-one, drop-cons (take n at) i d, get_or-take)

pub clip-edges : (above : Bool) (b : Float) (d : PlanePoint) (at : List PlanePoint) (n : ℕ) → n ≤ length at
    → clip above b (take n at) ≡ edges above b (get_or at 0 d) (take n at)
unfolding clip edges
clip-edges above b d [] zero k = refl
clip-edges above b d [] (suc n) k = refl
clip-edges above b d (p ∷ l) zero k = refl
clip-edges above b d (p ∷ l) (suc n) k = refl
