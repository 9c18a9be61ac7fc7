-- One ray: its lists and hits are loaded, then cut in the part of the buffer that the new lists go to.
use mathlib.Core.Path.{◌≡◌, refl, sym, ap, ◌∙◌, subst₂}
use mathlib.Core.Bool.{true, false, not}
use mathlib.Core.List.{List, []}
use Rattle.std.specs.Prelude.{Option, None, Some, MatchOption}
use Prim.Native.Nat.{ℕ, ◌+◌, ◌-◌, ◌*◌, ◌≤◌}
use native.Mathlib.Omega.{arith}
use borrow.Rule.Slice.PartMut.{put_mid}
use lib.ListN.{length, take, drop, length-drop}
use lib.Seq.{take_all, drop-drop}
use lib.Ieee.{Float}
use Rattle.logic.proofs.Bools.{both}
use Rattle.spans.specs.Spans.{holds, sound, equal, NormalOf, Apart}
use Rattle.spans.proofs.Sets.{same_set}
use Rattle.spans.specs.Overlay.{less_of}
use Rattle.span_overlay.proofs.Less.{less-apart}
use Rattle.grid.specs.declared.DexelStockSpec.{DexelStockSpec}
use Rattle.grid.specs.declared.DexelGrid.{DexelGrid}
use Rattle.log_model.specs.Logs.{entries, entry_count, HitKind, outer, inner, hits_on_ray}
use Rattle.stock.specs.Stock.{ValidAt, ray_list, Possible, Certain}
use Rattle.log_numbers.specs.Numbers.{number_at}
use Rattle.log_group.proofs.Gathering.{none_named}
use Rattle.ray_subtract.specs.Steps.{cells_from, SoundListAt, MergeWithinPre}
use Rattle.ray_subtract.proofs.Places.{part-drop, tail-size, tail-front, tail-drop}
use Rattle.log_merge.specs.Rays.{ray_moves, NewLists, RayCutPost, LoadPre, LoadPost, limit_of, MergeRayPost}
use Rattle.log_merge.specs.declared.RayUpdate.{RayUpdate}
use Rattle.log_merge.specs.declared.Sizes.{Sizes}
use Rattle.log_merge.proofs.Cutting.{untouched, wider}
use Rattle.log_merge.proofs.Loading.{list-most, hits-most}
use Rattle.store.specs.Store.{Cells}

-- ---- no hits
none-sound : sound [] ≡ true
unfolding sound
none-sound = refl

none_apart : (l : List Float) → Apart l []
unfolding holds
none_apart l p h = refl

less_none : (l : List Float) → sound l ≡ true → less_of l [] ≡ l
less_none l h = less-apart l [] h none-sound (none_apart l)

-- what is cut may be said by equal lists
pub cut-same : {a b c d o u i v : List Float} {from limit : ℕ} {before after : List Float} {r : Option RayUpdate} → a ≡ b
    → c ≡ d → o ≡ u → i ≡ v
    → RayCutPost a c o i from limit before after r → RayCutPost b d u v from limit before after r
cut-same {a} {b} {c} {d} {o} {u} {i} {v} {from} {limit} {before} {after} {r} p q s t x =
    subst₂ (λ (k l : List Float). RayCutPost b d k l from limit before after r) s t
    (subst₂ (λ (k l : List Float). RayCutPost k l o i from limit before after r) p q x)

-- ---- what is lent from cell q on
module _ (q : ℕ) (w : List Float) where
  there : take (length w - q) (drop q w) ≡ drop q w
  there = take_all (length w - q) (drop q w) (omega (arith, length-drop q w))

  -- a part of it that stands at cell p of the whole buffer
  seen : (p n at : ℕ) → q ≤ p → at ≡ p - q → cells_from at n (take (length w - q) (drop q w)) ≡ cells_from p n w
  seen p n at h e = ap (cells_from at n) there ∙ ap (λ (x : ℕ). cells_from x n (drop q w)) e ∙ part-drop q p n w h

  lies_at : (p n at : ℕ) → q ≤ p → at ≡ p - q → p + n ≤ length w → sound (cells_from p n w) ≡ true
      → SoundListAt at n (take (length w - q) (drop q w))
  lies_at p n at h e room ok = record
      { room = omega (arith, ap length there, length-drop q w); is_sound = ap sound (seen p n at h e) ∙ ok }

-- ---- the ray cut there, seen from the whole buffer
module _ (q : ℕ) (w ys : List Float) (fit : q ≤ length w) (size : length ys ≡ length (take (length w - q) (drop q w))) where
  back-part : (k n : ℕ) → cells_from (0 + k) n ys ≡ cells_from (q + k) n (put_mid q (length w - q) w ys)
  back-part k n =
      ap (λ (x : ℕ). cells_from x n ys) (none k)
      ∙ ap (λ (l : List Float). take n (drop k l)) (sym (tail-drop q w ys fit size))
      ∙ ap (take n) (drop-drop k q (put_mid q (length w - q) w ys))
    where
      none : (k : ℕ) → 0 + k ≡ k
      none k = omega arith

  pub cut-back : {a c o i : List Float} {limit : ℕ} {r : Option RayUpdate}
      → RayCutPost a c o i 0 limit (take (length w - q) (drop q w)) ys r
      → RayCutPost a c o i q limit w (put_mid q (length w - q) w ys) r
  cut-back {a} {c} {o} {i} {limit} {r} x = record {
    size = tail-size q w ys fit size;
    front = tail-front q w ys fit size;
    update = back r x.update;
  }
    where
      zero_left : (k : ℕ) → k ≡ 0 + k
      zero_left k = omega arith

      zero_right : (k : ℕ) → k + 0 ≡ k
      zero_right k = omega arith

      back : (r : Option RayUpdate) → MatchOption r (ray_moves a c o i ≡ false) (NewLists a c o i 0 limit ys)
          → MatchOption r (ray_moves a c o i ≡ false) (NewLists a c o i q limit (put_mid q (length w - q) w ys))
      back None n = n
      back (Some u) n = record {
        moved = n.moved;
        most = n.most;
        possible_is = sym (ap (λ (k : ℕ). cells_from k (2 * u.possible) ys) (zero_left 0) ∙ back-part 0 (2 * u.possible)
            ∙ ap (λ (k : ℕ). cells_from k (2 * u.possible) (put_mid q (length w - q) w ys)) (zero_right q)) ∙ n.possible_is;
        certain_is = sym (back-part (2 * u.possible) (2 * u.certain)) ∙ n.certain_is;
      }

-- ---- from what `merge_ray` is given
module _ {spec : DexelStockSpec} {g : DexelGrid} {c : Cells} {log w : List Float} {ray s : ℕ}
    (b : LoadPre spec g c log w ray s) (q : ℕ) (front : q + limit_of spec log ≤ s) where
  abbrev hits : HitKind → List Float
  hits k = hits_on_ray g (entries log) ray k

  valid : ValidAt spec g c ray
  valid = b.valid ray b.below

  -- no entry names the ray
  pub ray-same : number_at w ray ≡ 0 → MergeRayPost spec g c log ray q w w None
  ray-same e = record {
    outer_normal = [];
    inner_normal = [];
    outer_is = nothing outer;
    inner_is = nothing inner;
    cut = untouched (ray_list spec c ray Possible) (ray_list spec c ray Certain) [] [] q (limit_of spec log) w
        (ap not (both (equal (ray_list spec c ray Possible) (less_of (ray_list spec c ray Possible) []))
        (equal (ray_list spec c ray Certain) (less_of (less_of (ray_list spec c ray Certain) []) []))
        (stays (ray_list spec c ray Possible) valid.possible_sound)
        (ap (λ (l : List Float). equal (ray_list spec c ray Certain) (less_of l []))
        (less_none (ray_list spec c ray Certain) valid.certain_sound)
        ∙ stays (ray_list spec c ray Certain) valid.certain_sound)));
  }
    where
      nothing : (k : HitKind) → NormalOf (hits k) []
      nothing k = record {
        list = record {
          is_sound = none-sound;
          points = λ p. ap (λ (l : List Float). holds l p) (sym (none_named g log w b.grouped ray b.below e k));
        };
        drawn = tt;
      }

      stays : (l : List Float) → sound l ≡ true → equal l (less_of l []) ≡ true
      stays l h = ap (equal l) (less_none l h) ∙ same_set l l h h (λ p n. refl)

  module _ {w₁ : List Float} {z : Sizes}
      (x : LoadPost (ray_list spec c ray Possible) (ray_list spec c ray Certain) (hits outer) (hits inner) s w w₁ z) where
    -- what was loaded has at most as many cells as the store and the log allow
    lists-few : z.possible + z.certain ≤ 4 * spec.max_intervals
    lists-few = omega (arith, x.possible_cells, x.certain_cells, list-most b (2 * ray), list-most b (2 * ray + 1))

    hits_few : (z.outer ≤ 2 * entry_count log) × (z.inner ≤ 2 * entry_count log)
    hits_few = (omega (arith, x.outer_most, hits-most b outer), omega (arith, x.inner_most, hits-most b inner))

    few : z.possible + z.certain + z.outer + 2 * z.inner ≤ limit_of spec log
    few = omega (arith, lists-few, hits_few.0, hits_few.1)

    fits : s + z.possible + z.certain + z.outer + z.inner ≤ length w₁
    fits = omega (arith, lists-few, hits_few.0, hits_few.1, x.size, b.room)

    pub cut-ready : MergeWithinPre (s - q) z.possible z.certain z.outer z.inner (take (length w₁ - q) (drop q w₁))
    cut-ready = record {
      room = omega (arith, few);
      possible = lies_at q w₁ s z.possible (s - q) (omega arith) refl (omega (arith, fits))
          (ap sound x.possible_is ∙ valid.possible_sound);
      certain = lies_at q w₁ (s + z.possible) z.certain (s - q + z.possible) (omega arith) (omega arith)
          (omega (arith, fits)) (ap sound x.certain_is ∙ valid.certain_sound);
      outer = lies_at q w₁ (s + z.possible + z.certain) z.outer (s - q + z.possible + z.certain) (omega arith) (omega arith)
          (omega (arith, fits)) x.outer_hits.list.is_sound;
      inner = lies_at q w₁ (s + z.possible + z.certain + z.outer) z.inner (s - q + z.possible + z.certain + z.outer)
          (omega arith) (omega arith) (omega (arith, fits)) x.inner_hits.list.is_sound;
    }

    abbrev lent : List Float
    lent = take (length w₁ - q) (drop q w₁)

    pub ray-merged : {ys : List Float} {r : Option RayUpdate} → length ys ≡ length lent
        → RayCutPost (cells_from (s - q) z.possible lent) (cells_from (s - q + z.possible) z.certain lent)
        (cells_from (s - q + z.possible + z.certain) z.outer lent)
        (cells_from (s - q + z.possible + z.certain + z.outer) z.inner lent) 0
        (z.possible + z.certain + z.outer + 2 * z.inner) lent ys r
        → MergeRayPost spec g c log ray q w (put_mid q (length w₁ - q) w₁ ys) r
    ray-merged {ys} {r} size y =
        let k = cut-back q w₁ ys (omega (arith, fits)) size (cut-same
        (seen q w₁ s z.possible (s - q) (omega arith) refl ∙ x.possible_is)
        (seen q w₁ (s + z.possible) z.certain (s - q + z.possible) (omega arith) (omega arith) ∙ x.certain_is)
        (seen q w₁ (s + z.possible + z.certain) z.outer (s - q + z.possible + z.certain) (omega arith) (omega arith))
        (seen q w₁ (s + z.possible + z.certain + z.outer) z.inner (s - q + z.possible + z.certain + z.outer) (omega arith)
        (omega arith)) y) in
        record {
          outer_normal = cells_from (s + z.possible + z.certain) z.outer w₁;
          inner_normal = cells_from (s + z.possible + z.certain + z.outer) z.inner w₁;
          outer_is = x.outer_hits;
          inner_is = x.inner_hits;
          cut = record {
            size = k.size ∙ x.size;
            front = λ p h. k.front p h ∙ x.front p (omega arith);
            update = wider _ _ _ _ _ _ few r k.update;
          };
        }
