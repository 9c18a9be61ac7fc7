-- Every entry of a sweep's log is of a ray that the sweep visits, with that ray's outer pair in world direction (`entry-turned`),
-- and every such ray has its entry, if it has one, among the sweep's (`visited-logged`): the entries are those of the rays one
-- after the other, each with six cells or none. Assumes nothing.
use Rattle.std.specs.Prelude.{Option, None, Some}
use mathlib.Core.Path.{◌≡◌, refl, ap, ◌∙◌, subst}
use mathlib.Core.List.Memᴰ
use mathlib.Core.List.{List, [], ◌∷◌, ◌++◌, append_assoc, Memᴰ}
use mathlib.Core.Logic.{◌⊎◌, inl, inr}
use Prim.Native.Nat.{ℕ, zero, suc, ◌+◌, ◌*◌, ◌/◌, ◌≤◌, ◌<◌}
use native.Mathlib.Omega.{arith}
use lib.Ieee.{Float, nan}
use lib.ListN.{length, get_or, get_or-append}
use lib.Seq.{get_or-append-add}
use Rattle.grid.specs.declared.WorldAxis.{WorldAxis}
use Rattle.strips.specs.declared.Strip.TheVariants.{Hit}
use Rattle.log_model.specs.Logs.{entry_at}
use Rattle.sweep_model.specs.Across.{ray_hit_of}
use Rattle.sweep_model.specs.Entries.{entry_of, entry_for, index_of, possible_at, ray_entry, joined, logged_entries}
use Rattle.sweep_model.specs.Steps.{RayIn}
use Rattle.sweep_model.specs.SweepEntries.{Setting, axis_rays_of, chord_on_axis_in, chord_in, rectangle_in, axis_entries, first_axis}
use Rattle.sweep_model.specs.SweepEntries.{second_axis, chord_entries, sweep_entries, log_of}
use Rattle.sweep_model.specs.declared.Chord.{Chord}
use Rattle.sweep_model.specs.declared.HitPairs.{HitPairs}
use Rattle.sweep_visits.proofs.Walks.{OfEach, of-append, of-each, of-rectangle, has-each, rectangle-has}
use Rattle.discs.specs.Outer.{outer_local, world_strip}
use Rattle.discs.specs.Standing.{VisitedRay, ray_chord, ray_section, EntryTurned}
use Rattle.discs.proofs.Outer.{hit-turned}

-- ---- entry k of some rays' entries, one after the other, is that of one of them
module _ (P : List Float → Type 0) (six : (e : List Float) → P e → length e ≡ 6) where
  -- P holds of an entry that is there
  abbrev NoneOr : List Float → Type 0
  NoneOr e = (e ≡ []) ⊎ P e

  -- the six cells of entry k are those of e
  abbrev CellsOf : (log : List Float) → (k : ℕ) → (e : List Float) → Type 0
  CellsOf log k e = (j : ℕ) → j < 6 → get_or log (6 * k + j) nan ≡ get_or e j nan

  present : (x : Float) (e : List Float) → NoneOr (x ∷ e) → P (x ∷ e)
  present x e (inl q) = absurd (subst (λ (l : List Float). Empty l) q tt)
    where
      Empty : List Float → Type 0
      Empty [] = ⊥
      Empty (y ∷ l) = Unit {0}
  present x e (inr p) = p

  pub entry-of : (es : List (List Float)) (past : List Float) (k : ℕ) → OfEach NoneOr es → k < logged_entries es
      → (e : List Float) × (P e) × (CellsOf (joined es ++ past) k e)
  unfolding OfEach joined logged_entries
  entry-of [] past k h l = absurd (none l)
    where
      none : k < 0 → ⊥
      none g = omega arith
  entry-of ([] ∷ es) past k h l = entry-of es past k h.1 l
  entry-of ((x ∷ e) ∷ es) past zero h l = (x ∷ e, present x e h.0, here)
    where
      long : length (x ∷ e) ≡ 6
      long = six (x ∷ e) (present x e h.0)

      here : CellsOf (((x ∷ e) ++ joined es) ++ past) zero (x ∷ e)
      here j b =
          let place : 6 * 0 + j ≡ j = omega arith in
          ap (λ (n : ℕ). get_or (((x ∷ e) ++ joined es) ++ past) n nan) place
          ∙ ap (λ (l : List Float). get_or l j nan) (append_assoc (x ∷ e) (joined es) past)
          ∙ get_or-append (x ∷ e) (joined es ++ past) nan j (omega (arith, long))
  entry-of ((x ∷ e) ∷ es) past (suc k) h l =
      let r = entry-of es past k h.1 (less l) in
      (r.0, r.1, λ (j : ℕ) (b : j < 6). beyond j ∙ r.2 j b)
    where
      less : suc k < suc (logged_entries es) → k < logged_entries es
      less g = omega arith

      long : length (x ∷ e) ≡ 6
      long = six (x ∷ e) (present x e h.0)

      beyond : (j : ℕ) → get_or (((x ∷ e) ++ joined es) ++ past) (6 * suc k + j) nan ≡ get_or (joined es ++ past) (6 * k + j) nan
      beyond j =
          let place : 6 * suc k + j ≡ length (x ∷ e) + (6 * k + j) = omega (arith, long) in
          ap (λ (l : List Float). get_or l (6 * suc k + j) nan) (append_assoc (x ∷ e) (joined es) past)
          ∙ ap (λ (n : ℕ). get_or ((x ∷ e) ++ (joined es ++ past)) n nan) place
          ∙ get_or-append-add (x ∷ e) (joined es ++ past) (6 * k + j) nan

-- ---- what a ray logs
module _ (s : Setting) (chords : List Float) where
  -- e is the entry of a ray that the sweep visits
  record RayLogged (e : List Float) : Type 0 where
    ray : VisitedRay s chords
    pairs : HitPairs
    is : e ≡ entry_of ray.axis (index_of (axis_rays_of s.grid ray.axis) ray.iu ray.iv) pairs
    outer : Hit pairs.outer.lo pairs.outer.hi
        ≡ world_strip (ray_chord s chords ray).frame (ray_chord s chords ray).la
        (outer_local s.profile (ray_chord s chords ray) (ray_section s chords ray))

  logged-six : (e : List Float) → RayLogged e → length e ≡ 6
  unfolding entry_of
  logged-six e r = ap length r.is

  abbrev NoneOrLogged : List Float → Type 0
  NoneOrLogged e = (e ≡ []) ⊎ RayLogged e

  ray-logged : (v : VisitedRay s chords)
      → NoneOrLogged (ray_entry s.spec.max_intervals (axis_rays_of s.grid v.axis) s.profile (ray_chord s chords v)
      s.cells.spans s.cells.links s.cells.heads v.iu v.iv)
  unfolding ray_entry axis_rays_of entry_for
  ray-logged v = go (ray_hit_of s.profile (ray_chord s chords v) (ray_section s chords v) possible) refl
    where
      possible : List Float
      possible =
          possible_at s.spec.max_intervals (axis_rays_of s.grid v.axis) s.cells.spans s.cells.links
          s.cells.heads v.iu v.iv

      go : (x : Option HitPairs) → ray_hit_of s.profile (ray_chord s chords v) (ray_section s chords v) possible ≡ x
          → NoneOrLogged (entry_for v.axis (index_of (axis_rays_of s.grid v.axis) v.iu v.iv) x)
      go None e = inl refl
      go (Some h) e = inr (record {
        ray = v;
        pairs = h;
        is = refl;
        outer = hit-turned s.profile (ray_chord s chords v) (ray_section s chords v) possible h e;
      })

  axis_logged : (i : ℕ) (axis : WorldAxis) → i < length chords / 8
      → (axis ≡ first_axis s.kernel.frame) ⊎ (axis ≡ second_axis s.kernel.frame)
      → OfEach NoneOrLogged (axis_entries s (chord_in s chords i) axis)
  unfolding axis_entries
  axis_logged i axis given across =
      of-rectangle NoneOrLogged _ (rectangle_in s (chord_in s chords i) axis)
      (λ (iu iv : ℕ) (r : RayIn (rectangle_in s (chord_in s chords i) axis) iu iv).
      ray-logged (record {
        i = i;
        axis = axis;
        iu = iu;
        iv = iv;
        chord_given = given;
        axis_across = across;
        visited = r;
      }))

  sweep-logged : OfEach NoneOrLogged (sweep_entries s chords)
  unfolding sweep_entries chord_entries
  sweep-logged =
      of-each NoneOrLogged (length chords / 8) (λ i. chord_entries s (chord_in s chords i)) 0
      (λ (i : ℕ) (a : 0 ≤ i) (b : i < 0 + length chords / 8).
      of-append NoneOrLogged (axis_entries s (chord_in s chords i) (first_axis s.kernel.frame))
      (axis_entries s (chord_in s chords i) (second_axis s.kernel.frame))
      (axis_logged i (first_axis s.kernel.frame) (omega arith) (inl refl))
      (axis_logged i (second_axis s.kernel.frame) (omega arith) (inr refl)))

  -- and each ray that the sweep visits has its entry, if it has one, among the sweep's
  pub visited-logged : (v : VisitedRay s chords)
      → Memᴰ (ray_entry s.spec.max_intervals (axis_rays_of s.grid v.axis) s.profile (ray_chord s chords v)
      s.cells.spans s.cells.links s.cells.heads v.iu v.iv) (sweep_entries s chords)
  unfolding sweep_entries chord_entries axis_entries
  visited-logged v =
      has-each (length chords / 8) (λ i. chord_entries s (chord_in s chords i)) 0 v.i (entry v.axis) (omega arith)
      (omega (arith, v.chord_given)) (go v.axis_across)
    where
      c : Chord
      c = chord_in s chords v.i

      entry : WorldAxis → List Float
      entry a = ray_entry s.spec.max_intervals (axis_rays_of s.grid a) s.profile (chord_on_axis_in s c a)
          s.cells.spans s.cells.links s.cells.heads v.iu v.iv

      on-axis : Memᴰ (entry v.axis) (axis_entries s c v.axis)
      on-axis = rectangle-has _ (rectangle_in s c v.axis) v.iu v.iv v.visited

      go : (v.axis ≡ first_axis s.kernel.frame) ⊎ (v.axis ≡ second_axis s.kernel.frame)
          → Memᴰ (entry v.axis) (axis_entries s c (first_axis s.kernel.frame) ++ axis_entries s c (second_axis s.kernel.frame))
      go (inl e) = Memᴰ.append_left (axis_entries s c (second_axis s.kernel.frame))
          (subst (λ (a : WorldAxis). Memᴰ (entry v.axis) (axis_entries s c a)) e on-axis)
      go (inr e) = Memᴰ.append_right (axis_entries s c (first_axis s.kernel.frame))
          (subst (λ (a : WorldAxis). Memᴰ (entry v.axis) (axis_entries s c a)) e on-axis)

  pub entry-turned : (past : List Float) (k : ℕ) → k < logged_entries (sweep_entries s chords)
      → EntryTurned s chords (log_of s chords ++ past) k
  unfolding log_of entry_at entry_of
  entry-turned past k h =
      let (e, r, cells) = entry-of RayLogged logged-six (sweep_entries s chords) past k sweep-logged h in
      let at : (j : ℕ) → j < 6 → get_or (log_of s chords ++ past) (6 * k + j) nan
      ≡ get_or (entry_of r.ray.axis (index_of (axis_rays_of s.grid r.ray.axis) r.ray.iu r.ray.iv) r.pairs) j nan =
      λ j b. cells j b ∙ ap (λ (l : List Float). get_or l j nan) r.is in
      let first : 6 * k ≡ 6 * k + 0 = omega arith in
      record {
        ray = r.ray;
        axis_logged = ap (λ (n : ℕ). get_or (log_of s chords ++ past) n nan) first ∙ at 0 (omega arith);
        index_logged = at 1 (omega arith);
        outer_logged =
            ap (λ (x : Float). Hit x (get_or (log_of s chords ++ past) (6 * k + 3) nan)) (at 2 (omega arith))
            ∙ ap (λ (x : Float). Hit r.pairs.outer.lo x) (at 3 (omega arith)) ∙ r.outer;
      }
