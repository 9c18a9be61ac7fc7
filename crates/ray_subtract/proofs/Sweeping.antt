-- The loops of `cut_at` and `subtract_at`: those of crate `span_overlay`, with all lists in one buffer.
use mathlib.Core.Path.{◌≡◌, sym, ◌∙◌, ap, subst}
use mathlib.Core.Bool.{true, false}
use mathlib.Core.List.{List}
use Prim.Native.Nat.{ℕ, ◌+◌, ◌-◌, ◌≤◌, ◌<◌}
use native.Mathlib.Omega.{arith}
use lib.ListN.{length, get_or, drop, length-drop}
use lib.Seq.{ext_get_or, get_or-drop}
use lib.Ieee.{Float, nan, le}
use Rattle.spans.specs.Steps.{PutPairPost}
use Rattle.spans.specs.declared.Place.{Place}
use Rattle.spans.proofs.Sets.{sound-mod}
use Rattle.spans.specs.Overlay.{higher_of, less_of}
use Rattle.span_overlay.specs.Steps.{OverlayCutPre as CutReady}
use Rattle.span_overlay.proofs.Cutting.{Cutting, cut-last, cut-end, cut_step, Lessening, less-ready}
use Rattle.span_overlay.proofs.Cutting.{less-step, less_done}
use Rattle.ray_subtract.specs.Steps.{cells_from, SoundListAt, CutAt, WrittenAt}
use Rattle.ray_subtract.proofs.Places.{part_length, part-cell}

-- ---- the loop of `cut_at`
pub record CuttingAt (at m : ℕ) (from hi : Float) (w₀ : List Float) (n : ℕ) (lo : Float) (j end : ℕ) (w : List Float) : Type 0 where
  pub cutting : Cutting (cells_from at m w₀) from hi w₀ n lo j end w
  pub past : (q : ℕ) → n + j ≤ q → get_or w q nan ≡ get_or w₀ q nan

module _ {at m : ℕ} {from hi : Float} {w₀ : List Float} {n : ℕ} (fit : at + m ≤ length w₀) (front : n ≤ at)
    (ready : CutReady (cells_from at m w₀) from hi w₀ n) where
  size : length (cells_from at m w₀) ≡ m
  size = part_length at m w₀ fit

  module _ {lo : Float} {j end : ℕ} {w : List Float} (s : CuttingAt at m from hi w₀ n lo j end w) where
    pub cutting-size : length w ≡ length w₀
    cutting-size = s.cutting.size

    -- the cells of the list from place j on are still there
    cell : (k : ℕ) → j ≤ k → k < m → get_or w (at + k) nan ≡ get_or (cells_from at m w₀) k nan
    cell k h g = s.past (at + k) (omega arith) ∙ sym (part-cell at m w₀ k g)

    pub pair-in : j < m → j + 2 ≤ m
    pair-in h = omega (arith, sound-mod (cells_from at m w₀) ready.rest_sound, size, s.cutting.whole)

    module _ (w' : List Float) (r : ℕ) where
      later : (x : Float) → PutPairPost w end lo x w' r → (q : ℕ) → n + j + 2 ≤ q → get_or w' q nan ≡ get_or w₀ q nan
      later x p q h = p.rest q (omega (arith, s.cutting.most)) ∙ s.past q (omega arith)

      pub cutting-last : PutPairPost w end lo hi w' r → (j < m → le hi (get_or w (at + j) nan) ≡ true)
          → CutAt at m from hi w₀ n w' (record { passed = j; end = r })
      cutting-last p next = record {
        cut = cut-last (cells_from at m w₀) from hi w₀ n lo j end w w' r ready s.cutting p (λ h.
            let g : j < m = omega (arith, size) in
            subst (λ (x : Float). le hi x ≡ true) (cell j (omega arith) g) (next g));
        past = λ q h. later hi p q (omega arith);
      }

      module _ (h : j < m) (below : le hi (get_or w (at + j) nan) ≡ false) (p : PutPairPost w end lo (get_or w (at + j) nan) w' r) where
        x-is : get_or w (at + j) nan ≡ get_or (cells_from at m w₀) j nan
        x-is = cell j (omega arith) h

        y-is : get_or w (at + j + 1) nan ≡ get_or (cells_from at m w₀) (j + 1) nan
        y-is = ap (λ (k : ℕ). get_or w k nan) (next at j) ∙ cell (j + 1) (omega arith) (omega (arith, pair-in h))
          where
            next : (a j : ℕ) → a + j + 1 ≡ a + (j + 1)
            next a j = omega arith

        inside : j < length (cells_from at m w₀)
        inside = omega (arith, size)

        pub cutting-end : le hi (get_or w (at + j + 1) nan) ≡ true → CutAt at m from hi w₀ n w' (record { passed = j; end = r })
        cutting-end e = record {
          cut = cut-end (cells_from at m w₀) from hi w₀ n lo j end w w' r ready s.cutting inside
              (rw x-is at below) (rw x-is at p) (rw y-is at e);
          past = λ q k. later (get_or w (at + j) nan) p q (omega arith);
        }

        pub cutting-step : le hi (get_or w (at + j + 1) nan) ≡ false
            → CuttingAt at m from hi w₀ n (higher_of lo (get_or w (at + j + 1) nan)) (j + 2) r w'
        cutting-step e = record {
          cutting = rw y-is (cut_step (cells_from at m w₀) from hi w₀ n lo j end w w' r ready s.cutting inside
              (rw x-is at below) (rw x-is at p) (rw y-is at e));
          past = λ q k. later (get_or w (at + j) nan) p q (omega arith);
        }

-- ---- the loop of `subtract_at`
pub record Subtracting (w₀ : List Float) (a n b m i j r : ℕ) (w : List Float) : Type 0 where
  pub less : Lessening (cells_from a n w₀) (cells_from b m w₀) w₀ i j r w
  pub past : (q : ℕ) → i + j ≤ q → get_or w q nan ≡ get_or w₀ q nan

module _ {w₀ : List Float} {a n b m : ℕ} (la : SoundListAt a n w₀) (lb : SoundListAt b m w₀) (ma : m ≤ a) (nb : n ≤ b) where
  first-size : length (cells_from a n w₀) ≡ n
  first-size = part_length a n w₀ la.room

  second-size : length (cells_from b m w₀) ≡ m
  second-size = part_length b m w₀ lb.room

  both-fit : length (cells_from a n w₀) + length (cells_from b m w₀) ≤ length w₀
  both-fit = omega (arith, first-size, second-size, la.room)

  module _ {i j r : ℕ} {w : List Float} (s : Subtracting w₀ a n b m i j r w) where
    pub subtracting-size : length w ≡ length w₀
    subtracting-size = s.less.places.size

    pub subtracting-most : j ≤ m
    subtracting-most = omega (arith, s.less.places.j_most, second-size)

    pub subtracting-done : n ≤ i → WrittenAt (less_of (cells_from a n w₀) (cells_from b m w₀)) 0 (n + m) (n + m) w₀ w r
    subtracting-done h =
        let d = less_done (cells_from a n w₀) (cells_from b m w₀) w₀ i j r w (omega (arith, first-size)) s.less in
        record {
          between = record {
            size = s.less.places.size;
            front = λ q k. absurd (omega arith);
            past = λ q k. s.past q (omega (arith, s.less.places.i_most, s.less.places.j_most, first-size, second-size));
          };
          most = omega (arith, d.most, first-size, second-size);
          ends = d.list;
        }

    module _ (more : i < n) where
      pub two-more : i + 2 ≤ n
      two-more = omega (arith, sound-mod (cells_from a n w₀) la.is_sound, first-size, s.less.places.i_whole)

      in-first : i < length (cells_from a n w₀)
      in-first = omega (arith, first-size)

      lo-is : get_or w (a + i) nan ≡ get_or (cells_from a n w₀) i nan
      lo-is = s.past (a + i) (omega (arith, subtracting-most)) ∙ sym (part-cell a n w₀ i more)

      hi-is : get_or w (a + i + 1) nan ≡ get_or (cells_from a n w₀) (i + 1) nan
      hi-is =
          ap (λ (k : ℕ). get_or w k nan) (next a i) ∙ s.past (a + (i + 1)) (omega (arith, subtracting-most))
          ∙ sym (part-cell a n w₀ (i + 1) (omega (arith, two-more)))
        where
          next : (a i : ℕ) → a + i + 1 ≡ a + (i + 1)
          next a i = omega arith

      -- what is left of the second list still stands in the buffer
      rest-is : cells_from (b + j) (m - j) w ≡ drop j (cells_from b m w₀)
      rest-is =
          let fits : b + j + (m - j) ≤ length w = omega (arith, subtracting-size, subtracting-most, lb.room) in
          let long : length (cells_from (b + j) (m - j) w) ≡ m - j = part_length (b + j) (m - j) w fits in
          ext_get_or nan (cells_from (b + j) (m - j) w) (drop j (cells_from b m w₀))
          (omega (arith, long, length-drop j (cells_from b m w₀), second-size))
          (λ q h.
          let small : q < m - j = omega (arith, long) in
          part-cell (b + j) (m - j) w q small ∙ s.past (b + j + q) (omega (arith, s.less.places.i_most, first-size))
          ∙ ap (λ (k : ℕ). get_or w₀ k nan) (assoc b j q) ∙ sym (part-cell b m w₀ (j + q) (omega arith))
          ∙ sym (get_or-drop j (cells_from b m w₀) q nan))
        where
          assoc : (b j q : ℕ) → b + j + q ≡ b + (j + q)
          assoc b j q = omega arith

      pub subtracting-ready : (b + j + (m - j) ≤ length w) × (r ≤ b + j)
          × CutReady (cells_from (b + j) (m - j) w) (get_or w (a + i) nan) (get_or w (a + i + 1) nan) w r
      subtracting-ready = (
        omega (arith, subtracting-size, subtracting-most, lb.room),
        omega (arith, s.less.places.most, s.less.places.i_most, first-size),
        rw (rest-is, lo-is, hi-is)
            (less-ready (cells_from a n w₀) (cells_from b m w₀) w₀ i j r w la.is_sound lb.is_sound both-fit s.less in-first),
      )

      pub subtracting-step : (w' : List Float) (p : Place)
          → CutAt (b + j) (m - j) (get_or w (a + i) nan) (get_or w (a + i + 1) nan) w r w' p
          → Subtracting w₀ a n b m (i + 2) (j + p.passed) p.end w'
      subtracting-step w' p c = record {
        less = less-step (cells_from a n w₀) (cells_from b m w₀) w₀ i j r w la.is_sound lb.is_sound both-fit s.less in-first w' p
            (rw (rest-is, lo-is, hi-is) at c.cut);
        past = λ q h. c.past q (omega (arith, s.less.places.most)) ∙ s.past q (omega arith);
      }
