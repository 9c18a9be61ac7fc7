-- Which ray an entry names: its axis and its index, as numbers, are those of the ray.
use mathlib.Core.Path.{◌≡◌, refl, sym, ap, ◌∙◌, subst}
use mathlib.Core.Bool.{true, false, ◌&&◌, false≢true}
use mathlib.Core.Logic.{inl, inr, ◌↔◌}
use Prim.Native.Nat.{ℕ, ◌-◌, ◌*◌, ◌/◌, ◌^◌, ◌≤◌, ◌<◌, min}
use native.Mathlib.Nat.{mul-div-mul_right, mul_comm, zero-div, eq-zero-or-pos, mul-pos}
use native.Mathlib.Omega.{arith}
use borrow.Author.Tests.{ltb-true, lt-ltb, eqb-true, eq-eqb}
use lib.Dec.{ltb, eqb, le→leb}
use lib.IntN.{pos}
use lib.Ieee.{Float, nan, inf, fin, up, down, binary64, eq, of_int, to_unsigned, in_float}
use lib.Ieee.Fits.{down_pos}
use lib.Ieee.Back.{unsigned_back}
use Rattle.logic.proofs.Bools.{and_left, and_right, both}
use Rattle.grid.specs.Axes.{world_axis}
use Rattle.grid.specs.Rays.{ray_count, rays_along, ray_number, Ray}
use Rattle.grid.specs.declared.DexelGrid.{DexelGrid}
use Rattle.grid.proofs.Numbering.{offset-le}
use Rattle.log_model.specs.declared.Entry.{Entry}
use Rattle.log_model.specs.Logs.{is_whole, whole_of, names_some_ray, entry_ray, names_ray}

-- ---- doubles that are equal as numbers have one whole part

same-quotient : (a d b e : ℕ) → 0 < d → 0 < e → a * e ≡ b * d → a / d ≡ b / e
same-quotient a d b e p q h =
    sym (mul-div-mul_right a d q) ∙ ap (λ (n : ℕ). n / (d * e)) h ∙ ap (λ (n : ℕ). b * d / n) (mul_comm d e) ∙ mul-div-mul_right b e p

none : (a d : ℕ) → 0 < d → a * d ≡ 0 → a ≡ 0
none a d p h = elim (eq-zero-or-pos a) [ inl z ↦ z | inr q ↦ absurd (no (a * d) (mul-pos q p) h) ]
  where
    no : (n : ℕ) → 0 < n → n ≡ 0 → ⊥
    no n p h = omega arith

no_part : (w a d : ℕ) → a ≡ 0 → min (a / d) (2 ^ w - 1) ≡ 0
no_part w a d h = subst (λ (n : ℕ). min (n / d) (2 ^ w - 1) ≡ 0) (sym h)
    (ap (λ (n : ℕ). min n (2 ^ w - 1)) (zero-div d) ∙ least (2 ^ w - 1))
  where
    least : (n : ℕ) → min 0 n ≡ 0
    least n = omega arith

unsigned-eq : (w : ℕ) (x y : Float) → eq x y ≡ true → to_unsigned w x ≡ to_unsigned w y
unfolding eq to_unsigned
unsigned-eq w nan y h = absurd (false≢true h)
unsigned-eq w (inf s) nan h = absurd (false≢true h)
unsigned-eq w (inf true) (inf true) h = refl
unsigned-eq w (inf true) (inf false) h = absurd (false≢true h)
unsigned-eq w (inf false) (inf true) h = absurd (false≢true h)
unsigned-eq w (inf false) (inf false) h = refl
unsigned-eq w (inf s) (fin t n d) h = absurd (false≢true h)
unsigned-eq w (fin s m e) nan h = absurd (false≢true h)
unsigned-eq w (fin s m e) (inf t) h = absurd (false≢true h)
unsigned-eq w (fin false m e) (fin false n d) h =
    ap (λ (k : ℕ). min k (2 ^ w - 1))
    (same-quotient (m * up e) (down e) (n * up d) (down d) (down_pos e) (down_pos d)
    (eqb-true (m * up e * down d) (n * up d * down e) (and_left (eqb (m * up e * down d) (n * up d * down e)) true h)))
unsigned-eq w (fin false m e) (fin true n d) h =
    no_part w (m * up e) (down e)
    (none (m * up e) (down d) (down_pos d)
    (eqb-true (m * up e * down d) 0
    (and_right (eqb (m * up e * down d) (n * up d * down e)) (eqb (m * up e * down d) 0) h)))
unsigned-eq w (fin true m e) (fin false n d) h =
    let z = eqb-true (m * up e * down d) 0 (and_right (eqb (m * up e * down d) (n * up d * down e)) (eqb (m * up e * down d) 0) h) in
    let s = eqb-true (m * up e * down d) (n * up d * down e)
    (and_left (eqb (m * up e * down d) (n * up d * down e)) (eqb (m * up e * down d) 0) h) in
    sym (no_part w (n * up d) (down d) (none (n * up d) (down e) (down_pos e) (sym s ∙ z)))
unsigned-eq w (fin true m e) (fin true n d) h = refl

-- a double is the whole number n, up to 2 ^ 53, exactly when it is equal to it as a number
pub whole_is : (x : Float) (n : ℕ) → n ≤ 2 ^ 53 → (eq x (of_int binary64 (pos n)) ≡ true) ↔ ((is_whole x ≡ true) × (whole_of x ≡ n))
unfolding is_whole
whole_is x n h = (to, from)
  where
    back : to_unsigned 64 (of_int binary64 (pos n)) ≡ n
    back = (unsigned_back binary64 64 n (unfold in_float in le→leb n (2 ^ 53) h) (omega arith)).1

    to : eq x (of_int binary64 (pos n)) ≡ true → (eq x (of_int binary64 (pos (to_unsigned 64 x))) ≡ true) × (to_unsigned 64 x ≡ n)
    to e = let q : to_unsigned 64 x ≡ n = unsigned-eq 64 x (of_int binary64 (pos n)) e ∙ back in (rw q e, q)

    from : (eq x (of_int binary64 (pos (to_unsigned 64 x))) ≡ true) × (to_unsigned 64 x ≡ n) → eq x (of_int binary64 (pos n)) ≡ true
    from (e, q) = rw q at e

-- ---- entries

module _ (g : DexelGrid) (e : Entry) where
  -- the facts of an entry that names a ray
  pub record Named : Type 0 where
    pub axis_whole : is_whole e.axis ≡ true
    pub axis_digit : whole_of e.axis < 3
    pub index_whole : is_whole e.index ≡ true
    pub index_below : whole_of e.index < rays_along g (world_axis (whole_of e.axis))

  pub named : names_some_ray g e ≡ true → Named
  unfolding names_some_ray
  named h =
      let a = is_whole e.axis in
      let b = ltb (whole_of e.axis) 3 in
      let c = is_whole e.index in
      let d = ltb (whole_of e.index) (rays_along g (world_axis (whole_of e.axis))) in
      let bcd = and_right a (b && (c && d)) h in
      let cd = and_right b (c && d) bcd in
      record {
        axis_whole = and_left a (b && (c && d)) h;
        axis_digit = ltb-true (whole_of e.axis) 3 (and_left b (c && d) bcd);
        index_whole = and_left c d cd;
        index_below = ltb-true (whole_of e.index) (rays_along g (world_axis (whole_of e.axis))) (and_right c d cd);
      }

  pub of-named : Named → names_some_ray g e ≡ true
  unfolding names_some_ray
  of-named n =
      let a = is_whole e.axis in
      let b = ltb (whole_of e.axis) 3 in
      let c = is_whole e.index in
      let d = ltb (whole_of e.index) (rays_along g (world_axis (whole_of e.axis))) in
      both a (b && (c && d)) n.axis_whole
      (both b (c && d) (lt-ltb (whole_of e.axis) 3 n.axis_digit)
      (both c d n.index_whole (lt-ltb (whole_of e.index) (rays_along g (world_axis (whole_of e.axis))) n.index_below)))

  -- the ray that an entry names is one
  pub named-below : names_some_ray g e ≡ true → entry_ray g e < ray_count g
  unfolding entry_ray ray_number
  named-below h = omega (arith, offset-le g (world_axis (whole_of e.axis)), (named h).index_below)

  pub names-it : (h : names_some_ray g e ≡ true) → names_ray g e (entry_ray g e) ≡ true
  unfolding names_ray
  names-it h = both (names_some_ray g e) (eqb (entry_ray g e) (entry_ray g e)) h (eq-eqb (entry_ray g e) (entry_ray g e) refl)

  -- and there is no other
  pub names-only : (r : Ray g) → names_ray g e r.0 ≡ true → (names_some_ray g e ≡ true) × (entry_ray g e ≡ r.0)
  unfolding names_ray
  names-only r h = (
    and_left (names_some_ray g e) (eqb (entry_ray g e) r.0) h,
    eqb-true (entry_ray g e) r.0 (and_right (names_some_ray g e) (eqb (entry_ray g e) r.0) h),
  )

  -- THE LAW: an entry names the ray r exactly when its axis and index, as numbers, are those of r
  pub names-is : ray_count g ≤ 2 ^ 53 → (r : Ray g)
      → (names_ray g e r.0 ≡ true)
      ↔ ((a i : ℕ) × (a < 3) × (i < rays_along g (world_axis a)) × (eq e.axis (of_int binary64 (pos a)) ≡ true)
      × (eq e.index (of_int binary64 (pos i)) ≡ true) × (ray_number g (world_axis a) i ≡ r.0))
  unfolding names_ray entry_ray
  names-is few r = (to, from)
    where
      below : (n : ℕ) → n < 3 → n ≤ 2 ^ 53
      below n h = omega arith

      small : (a i : ℕ) → i < rays_along g (world_axis a) → i ≤ 2 ^ 53
      small a i h = omega (arith, offset-le g (world_axis a))

      to : names_ray g e r.0 ≡ true
          → (a i : ℕ) × (a < 3) × (i < rays_along g (world_axis a)) × (eq e.axis (of_int binary64 (pos a)) ≡ true)
          × (eq e.index (of_int binary64 (pos i)) ≡ true) × (ray_number g (world_axis a) i ≡ r.0)
      to h =
          let (o, q) = names-only r h in
          let n = named o in
          let a = whole_of e.axis in
          let i = whole_of e.index in (
            a,
            i,
            n.axis_digit,
            n.index_below,
            (whole_is e.axis a (below a n.axis_digit)).1 (n.axis_whole, refl),
            (whole_is e.index i (small a i n.index_below)).1 (n.index_whole, refl),
            q,
          )

      from : (a i : ℕ) × (a < 3) × (i < rays_along g (world_axis a)) × (eq e.axis (of_int binary64 (pos a)) ≡ true)
          × (eq e.index (of_int binary64 (pos i)) ≡ true) × (ray_number g (world_axis a) i ≡ r.0)
          → names_ray g e r.0 ≡ true
      from (a, i, h, k, x, y, q) =
          let (u, v) = (whole_is e.axis a (below a h)).0 x in
          let (s, t) = (whole_is e.index i (small a i k)).0 y in
          both (names_some_ray g e) (eqb (entry_ray g e) r.0)
          (of-named (record { axis_whole = u; axis_digit = rw v h; index_whole = s; index_below = rw (v, t) k }))
          (eq-eqb (entry_ray g e) r.0 (rw (v, t) q))
