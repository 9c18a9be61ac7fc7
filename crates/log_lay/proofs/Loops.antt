-- The loops over all rays: what holds before each turn.
use mathlib.Core.Path.{◌≡◌, sym, ap, ap₂, ◌∙◌, subst}
use mathlib.Core.List.{List, [], ◌∷◌, ◌++◌}
use Prim.Native.Nat.{ℕ, ◌+◌, ◌-◌, ◌*◌, ◌≤◌, ◌<◌}
use native.Mathlib.Nat.{zero-add}
use native.Mathlib.Decide.{ℕ_discrete}
use native.Mathlib.Omega.{arith}
use lib.ListN.{length}
use lib.Ieee.{Float}
use Rattle.store.specs.Store.{places_of, Cells, ChainsSound}
use Rattle.store.specs.Updates.{Update, freed_list, freed_all, laid_list, laid_all}
use Rattle.store.proofs.Replacing.{Replaced}
use Rattle.store.proofs.Freeing.{freed-list, freed-kept}
use Rattle.store.proofs.Updating.{kept-room, freed-append, laid-append}
use Rattle.log_lay.specs.Updates.{first_size, updates_from, lists_end}
use Rattle.log_lay.specs.Steps.{FreeIfChangedPre, FreeRaysPre, EachLayable, LayRaysPre, LayRaysPost}
use Rattle.log_lay.specs.declared.LayPlace.{LayPlace}
use Rattle.log_lay.proofs.Lists.{updates-none, end_none, end-past, end_more, updates-more}
use Rattle.log_lay.proofs.Turns.{freed-none, laid_none, no-update, freed-ray-new}
use Rattle.store.specs.Steps.{Room, FreeListPre}

-- ---- freeing
-- the lists of the first rays are freed
pub record FreedTo (n : ℕ) (c : Cells) (w : List Float) (sizes rays ray : ℕ) (d : Cells) : Type 0 where
  pub most : ray ≤ rays
  pub still : FreeRaysPre n d w sizes rays
  pub done : (q : ℕ) → d ≡ freed_all n c (updates_from w sizes q 0 ray)

module _ (n : ℕ) (c : Cells) (w : List Float) (sizes rays : ℕ) where
  pub freed-start : FreeRaysPre n c w sizes rays → FreedTo n c w sizes rays 0 c
  freed-start a = record {
    most = omega arith;
    still = a;
    done = λ q. sym (ap (freed_all n c) (updates-none w sizes q 0) ∙ freed-none n c);
  }

-- a store with one list freed
module _ (n m total : ℕ) (c : Cells) (s : ChainsSound n m total c) (room : Room n m c) (j : ℕ) (j<m : j < m) where
  one-freeable : FreeListPre n c j
  one-freeable = record {
    in_spans = room.in_spans;
    in_links = room.in_links;
    in_heads = omega (arith, room.in_heads);
    chain = s.chains j j<m;
  }

  one-room : Room n m (freed_list n c j)
  one-room = kept-room (freed-kept n m total c s room j j<m) room

  one-total : ℕ
  one-total = total - length (places_of n c.links c.heads j)

  one-sound : ChainsSound n m one-total (freed_list n c j)
  unfolding one-total
  one-sound = let r : Replaced n m total c (freed_list n c j) j [] = freed-list n m total c s room j j<m in
      r.is_sound (total - length (places_of n c.links c.heads j)) (omega (arith, r.less))

module _ (n : ℕ) (c : Cells) (w : List Float) (sizes rays ray : ℕ) (a : FreeRaysPre n c w sizes rays) (h : ray < rays) where
  in-first : 2 * ray < 2 * rays
  in-first = omega arith

  in-second : 2 * ray + 1 < 2 * rays
  in-second = omega arith

  pub turn-freeable : FreeIfChangedPre n c w sizes ray
  turn-freeable = record {
    in_sizes = omega (arith, a.in_sizes);
    lists = record {
      possible = one-freeable n (2 * rays) a.total c a.store a.room (2 * ray) in-first;
      certain = one-freeable n (2 * rays)
          (one-total n (2 * rays) a.total c a.store a.room (2 * ray) in-first) (freed_list n c (2 * ray))
          (one-sound n (2 * rays) a.total c a.store a.room (2 * ray) in-first)
          (one-room n (2 * rays) a.total c a.store a.room (2 * ray) in-first) (2 * ray + 1) in-second;
    };
  }

  -- the store after the turn
  turn-freed : (d : Cells) → ((q : ℕ) → d ≡ freed_all n c (updates_from w sizes q ray 1))
      → FreeRaysPre n d w sizes rays
  turn-freed d f = at (ℕ_discrete (first_size w sizes ray) 0)
    where
      r₁ : Room n (2 * rays) (freed_list n c (2 * ray))
      r₁ = one-room n (2 * rays) a.total c a.store a.room (2 * ray) in-first

      s₁ : ChainsSound n (2 * rays) (one-total n (2 * rays) a.total c a.store a.room (2 * ray) in-first) (freed_list n c (2 * ray))
      s₁ = one-sound n (2 * rays) a.total c a.store a.room (2 * ray) in-first

      at : Dec (first_size w sizes ray ≡ 0) → FreeRaysPre n d w sizes rays
      at (yes z) = subst (λ (d : Cells). FreeRaysPre n d w sizes rays)
          (sym (f 0 ∙ ap (freed_all n c) (no-update w sizes ray z 0) ∙ freed-none n c)) a
      at (no nz) = subst (λ (d : Cells). FreeRaysPre n d w sizes rays) (sym (f 0 ∙ freed-ray-new n c w sizes ray nz 0)) (record {
        in_sizes = a.in_sizes;
        room = one-room n (2 * rays) _ (freed_list n c (2 * ray)) s₁ r₁ (2 * ray + 1) in-second;
        total = one-total n (2 * rays) _ (freed_list n c (2 * ray)) s₁ r₁ (2 * ray + 1) in-second;
        store = one-sound n (2 * rays) _ (freed_list n c (2 * ray)) s₁ r₁ (2 * ray + 1) in-second;
      })

pub freed-next : (n : ℕ) (c : Cells) (w : List Float) (sizes rays ray : ℕ) (d : Cells)
    → FreedTo n c w sizes rays ray d → ray < rays → (e : Cells)
    → ((q : ℕ) → e ≡ freed_all n d (updates_from w sizes q ray 1)) → FreedTo n c w sizes rays (ray + 1) e
freed-next n c w sizes rays ray d t h e f =
    record {
      most = omega arith;
      still = turn-freed n d w sizes rays ray t.still h e f;
      done = λ q.
          f (lists_end w sizes q 0 ray)
          ∙ ap (λ (x : Cells). freed_all n x (updates_from w sizes (lists_end w sizes q 0 ray) ray 1)) (t.done q)
          ∙ sym (ap (freed_all n c) (updates-more w sizes ray 1 q 0
          ∙ ap (λ (x : ℕ). updates_from w sizes q 0 ray ++ updates_from w sizes (lists_end w sizes q 0 ray) x 1)
          (zero-add ray)) ∙ freed-append n (updates_from w sizes q 0 ray)
          (updates_from w sizes (lists_end w sizes q 0 ray) ray 1) c);
    }

pub freed-end : (n : ℕ) (c : Cells) (w : List Float) (sizes rays ray : ℕ) (d : Cells) → FreedTo n c w sizes rays ray d
    → rays ≤ ray → (q : ℕ) → d ≡ freed_all n c (updates_from w sizes q 0 rays)
freed-end n c w sizes rays ray d t h q = let e : ray ≡ rays = omega (arith, t.most) in
    t.done q ∙ ap (λ (k : ℕ). freed_all n c (updates_from w sizes q 0 k)) e

-- ---- laying
each_left : (n : ℕ) (us vs : List Update) (c : Cells) → EachLayable n c (us ++ vs) → EachLayable n c us
unfolding EachLayable
each_left n [] vs c e = tt
each_left n (u ∷ us) vs c e = (e.0, each_left n us vs (laid_list n c u) e.1)

each_right : (n : ℕ) (us vs : List Update) (c : Cells) → EachLayable n c (us ++ vs) → EachLayable n (laid_all n c us) vs
unfolding EachLayable laid_all
each_right n [] vs c e = e
each_right n (u ∷ us) vs c e = each_right n us vs (laid_list n c u) e.1

-- of a + b rays, the first a are laid
module _ (n : ℕ) (c : Cells) (w : List Float) (sizes ray a b : ℕ) (p : LayPlace) (ready : LayRaysPre n c w sizes ray (a + b) p) where
  each_more : EachLayable n c (updates_from w sizes p.at ray a ++ updates_from w sizes (lists_end w sizes p.at ray a) (ray + a) b)
  each_more = subst (EachLayable n c) (updates-more w sizes a b p.at ray) ready.each

  pub layable-first : LayRaysPre n c w sizes ray a p
  layable-first = record {
    in_sizes = omega (arith, ready.in_sizes);
    in_lists = omega (
      arith,
      ready.in_lists,
      end_more w sizes a b p.at ray,
      end-past w sizes b (lists_end w sizes p.at ray a) (ray + a),
    );
    each = each_left n (updates_from w sizes p.at ray a) (updates_from w sizes (lists_end w sizes p.at ray a) (ray + a) b) c each_more;
    cursor = ready.cursor;
  }

  pub layable-rest : (d : Cells) (q : LayPlace) → LayRaysPost n c w sizes ray a p d q → LayRaysPre n d w sizes (ray + a) b q
  layable-rest d q l = record {
    in_sizes = omega (arith, ready.in_sizes);
    in_lists = omega (arith, ready.in_lists, end_more w sizes a b p.at ray, ap (λ (x : ℕ). lists_end w sizes x (ray + a) b) l.at);
    each = subst (λ (x : ℕ). EachLayable n d (updates_from w sizes x (ray + a) b)) (sym l.at)
        (subst (λ (x : Cells). EachLayable n x (updates_from w sizes (lists_end w sizes p.at ray a) (ray + a) b)) (sym l.left)
        (each_right n (updates_from w sizes p.at ray a) (updates_from w sizes (lists_end w sizes p.at ray a) (ray + a) b) c each_more));
    cursor = l.cursor;
  }

pub laid_more : (n : ℕ) (c : Cells) (w : List Float) (sizes ray a b : ℕ) (p : LayPlace) (d : Cells) (q : LayPlace)
    (e : Cells) (r : LayPlace) → LayRaysPost n c w sizes ray a p d q → LayRaysPost n d w sizes (ray + a) b q e r
    → LayRaysPost n c w sizes ray (a + b) p e r
laid_more n c w sizes ray a b p d q e r l m = record {
  left =
      m.left ∙ ap₂ (λ (x : Cells) (y : ℕ). laid_all n x (updates_from w sizes y (ray + a) b)) l.left l.at
      ∙ sym (ap (laid_all n c) (updates-more w sizes a b p.at ray)
      ∙ laid-append n (updates_from w sizes p.at ray a)
      (updates_from w sizes (lists_end w sizes p.at ray a) (ray + a) b) c);
  at = m.at ∙ ap (λ (x : ℕ). lists_end w sizes x (ray + a) b) l.at ∙ sym (end_more w sizes a b p.at ray);
  cursor = m.cursor;
}

-- the lists of the first rays are laid
pub record LaidTo (n : ℕ) (c : Cells) (w : List Float) (sizes at rays ray : ℕ) (d : Cells) (p : LayPlace) : Type 0 where
  pub most : ray ≤ rays
  pub done : LayRaysPost n c w sizes 0 ray (record { from = 0; at = at }) d p

module _ (n : ℕ) (c : Cells) (w : List Float) (sizes at rays : ℕ)
    (ready : LayRaysPre n c w sizes 0 rays (record { from = 0; at = at })) where
  pub laid-start : LaidTo n c w sizes at rays 0 c (record { from = 0; at = at })
  laid-start = record {
    most = omega arith;
    done = record {
      left = sym (ap (laid_all n c) (updates-none w sizes at 0) ∙ laid_none n c);
      at = sym (end_none w sizes at 0);
      cursor = ready.cursor;
    };
  }

  module _ (ray : ℕ) (d : Cells) (p : LayPlace) (t : LaidTo n c w sizes at rays ray d p) where
    pub turn-layable : ray < rays → LayRaysPre n d w sizes ray 1 p
    turn-layable h =
        let all : ray + (rays - ray) ≡ rays = omega arith in
        let one : 1 + (rays - ray - 1) ≡ rays - ray = omega arith in
        let left : LayRaysPre n d w sizes (0 + ray) (rays - ray) p =
        layable-rest n c w sizes 0 ray (rays - ray) (record { from = 0; at = at })
        (subst (λ (k : ℕ). LayRaysPre n c w sizes 0 k (record { from = 0; at = at })) (sym all) ready) d p t.done in
        layable-first n d w sizes ray 1 (rays - ray - 1) p
        (subst (λ (k : ℕ). LayRaysPre n d w sizes ray k p) (sym one)
        (subst (λ (k : ℕ). LayRaysPre n d w sizes k (rays - ray) p) (zero-add ray) left))

    pub laid_next : ray < rays → (e : Cells) (q : LayPlace) → LayRaysPost n d w sizes ray 1 p e q
        → LaidTo n c w sizes at rays (ray + 1) e q
    laid_next h e q l = record {
      most = omega arith;
      done = laid_more n c w sizes 0 ray 1 (record { from = 0; at = at }) d p e q t.done
          (subst (λ (k : ℕ). LayRaysPost n d w sizes k 1 p e q) (sym (zero-add ray)) l);
    }

    pub laid_end : rays ≤ ray → d ≡ laid_all n c (updates_from w sizes at 0 rays)
    laid_end h = let e : ray ≡ rays = omega (arith, t.most) in t.done.left ∙ ap (λ (k : ℕ). laid_all n c (updates_from w sizes at 0 k)) e
