-- The turns of the two passes: what is freed and laid past the first k changes, and that the next ray can be.
use mathlib.Core.Path.{◌≡◌, refl, sym, ap, ◌∙◌, subst}
use mathlib.Core.List.{List, [], ◌∷◌, ◌++◌, append_assoc}
use Prim.Native.Nat.{ℕ, suc, ◌+◌, ◌-◌, ◌*◌, ◌/◌, ◌^◌, ◌≤◌, ◌<◌}
use native.Mathlib.Omega.{arith}
use lib.Ieee.{Float}
use lib.ListN.{length}
use Rattle.grid.specs.Rays.{ray_count}
use Rattle.grid.specs.declared.DexelStockSpec.{DexelStockSpec}
use Rattle.grid.specs.declared.DexelGrid.{DexelGrid}
use Rattle.store.specs.Fills.{FreeCursor}
use Rattle.store.specs.Updates.{Update, update, pairs_from, freed_list, freed_all, laid_list, laid_all, applied, pairs_freed, pairs_laid}
use Rattle.store.proofs.Updating.{FreedAll, freed-all, freed-append, LaidAll, laid-all, laid-append, all-empty, half-freed}
use Rattle.store.proofs.Updating.{half-laid, kept-room}
use Rattle.change_list.specs.Changes.{head_at, end2, end3, end4, Change, change_by, changes_from, changes_of, change_ray, Names, Good}
use Rattle.change_list.specs.Changes.{AllGood, updates_of, updates_in}
use Rattle.change_list.specs.declared.ChangeHead.{ChangeHead}
use Rattle.change_list.proofs.Sums.{rest-is}
use Rattle.change_list.proofs.Applying.{good-ascend}
use Rattle.store_write.specs.FreeRays.{FreeRayPre}
use Rattle.store_write.specs.LayRays.{LayRayPre, LayRayPost}
use Rattle.change_apply.specs.Passes.{ChangesFit}
use Rattle.store.specs.Steps.{Room, Ascending, FreeListPre, LayListPre}
use Rattle.store.specs.Store.{Cells, ChainsSound}

-- ---- one update of a list of updates that is split before it
module _ {n m total : ℕ} {c : Cells} (s : ChainsSound n m total c) (room : Room n m c) (us vs : List Update)
    (u : Update) (ws : List Update) (split : us ≡ vs ++ u ∷ ws) (asc : Ascending m 0 us) where
  freeable-at : FreeListPre n (freed_all n c vs) u.list
  freeable-at = half-freed s room vs u ws (subst (Ascending m 0) split asc)

  layable-at : total - pairs_freed n c us + pairs_laid us ≤ n → LayListPre n (laid_all n (freed_all n c us) vs) u
  layable-at fits =
      subst (λ (x : List Update). LayListPre n (laid_all n (freed_all n c x) vs) u) (sym split)
      (half-laid s room vs u ws (subst (Ascending m 0) split asc)
      (subst (λ (x : List Update). total - pairs_freed n c x + pairs_laid x ≤ n) split fits))

freed-one : (n : ℕ) (c : Cells) (vs : List Update) (u : Update) → freed_all n c (vs ++ u ∷ []) ≡ freed_list n (freed_all n c vs) u.list
unfolding freed_all
freed-one n c vs u = freed-append n vs (u ∷ []) c

laid_one : (n : ℕ) (c : Cells) (vs : List Update) (u : Update) → laid_all n c (vs ++ u ∷ []) ≡ laid_list n (laid_all n c vs) u
unfolding laid_all
laid_one n c vs u = laid-append n vs (u ∷ []) c

freed-two : (n : ℕ) (c : Cells) (vs : List Update) (u v : Update)
    → freed_all n c (vs ++ u ∷ v ∷ []) ≡ freed_list n (freed_list n (freed_all n c vs) u.list) v.list
unfolding freed_all
freed-two n c vs u v = freed-append n vs (u ∷ v ∷ []) c

laid-two : (n : ℕ) (c : Cells) (vs : List Update) (u v : Update)
    → laid_all n c (vs ++ u ∷ v ∷ []) ≡ laid_list n (laid_list n (laid_all n c vs) u) v
unfolding laid_all
laid-two n c vs u v = laid-append n vs (u ∷ v ∷ []) c

module _ (spec : DexelStockSpec) (g : DexelGrid) (c : Cells) (changes : List ℕ) (pairs : List Float) where
  abbrev rest : ℕ → ℕ → List Change
  rest k at = changes_from changes pairs (length changes / 6 - k) k at

  -- the two updates of change k, whose lists begin at cell `at`
  abbrev possible_of : ℕ → ℕ → Update
  possible_of k at = update (2 * change_ray g (head_at changes k).axis (head_at changes k).index)
      (pairs_from pairs (end2 (head_at changes k) at) (head_at changes k).after_possible)

  abbrev certain_of : ℕ → ℕ → Update
  certain_of k at = update (2 * change_ray g (head_at changes k).axis (head_at changes k).index + 1)
      (pairs_from pairs (end3 (head_at changes k) at) (head_at changes k).after_certain)

  -- past the first k changes, whose updates are `done`; the lists of the others begin at cell `at`
  pub record Through (k at : ℕ) (done : List Update) : Type 0 where
    pub most : k ≤ length changes / 6
    pub from : ℕ
    pub good : AllGood spec g c pairs from (rest k at)
    pub split : updates_in g changes pairs ≡ done ++ updates_of g (rest k at)

  through-none : AllGood spec g c pairs 0 (changes_of changes pairs) → Through 0 0 []
  through-none all =
      let z : length changes / 6 ≡ length changes / 6 - 0 = omega arith in
      let is : changes_of changes pairs ≡ rest 0 0 = ap (λ (r : ℕ). changes_from changes pairs r 0 0) z in
      record { most = omega arith; from = 0; good = subst (AllGood spec g c pairs 0) is all; split = ap (updates_of g) is }

  module _ (k at : ℕ) (done : List Update) (t : Through k at done) (l : k < length changes / 6) where
    pub through-good : Good spec g c pairs t.from (change_by (head_at changes k) pairs at)
    unfolding AllGood
    through-good = (subst (AllGood spec g c pairs t.from) (rest-is spec g c changes pairs k at l) t.good).0

    through-split : updates_in g changes pairs ≡ done
        ++ possible_of k at ∷ certain_of k at ∷ updates_of g (rest (k + 1) (end4 (head_at changes k) at))
    unfolding updates_of
    through-split = t.split ∙ ap (λ (ds : List Change). done ++ updates_of g ds) (rest-is spec g c changes pairs k at l)

    through-second : updates_in g changes pairs ≡ (done ++ possible_of k at ∷ [])
        ++ certain_of k at ∷ updates_of g (rest (k + 1) (end4 (head_at changes k) at))
    through-second = through-split
        ∙ sym (append_assoc done (possible_of k at ∷ [])
        (certain_of k at ∷ updates_of g (rest (k + 1) (end4 (head_at changes k) at))))

    through-next : Through (k + 1) (end4 (head_at changes k) at) (done ++ possible_of k at ∷ certain_of k at ∷ [])
    unfolding AllGood
    through-next = record {
      most = omega arith;
      from = suc (change_ray g (head_at changes k).axis (head_at changes k).index);
      good = (subst (AllGood spec g c pairs t.from) (rest-is spec g c changes pairs k at l) t.good).1;
      split = through-split ∙ sym (append_assoc done (possible_of k at ∷ certain_of k at ∷ [])
          (updates_of g (rest (k + 1) (end4 (head_at changes k) at))));
    }

  through-all : (k at : ℕ) (done : List Update) → Through k at done → length changes / 6 ≤ k → updates_in g changes pairs ≡ done
  unfolding changes_from updates_of
  through-all k at done t l =
      let none : length changes / 6 - k ≡ 0 = omega arith in
      t.split ∙ ap (λ (r : ℕ). done ++ updates_of g (changes_from changes pairs r k at)) none ∙ no_more done
    where
      no_more : (us : List Update) → us ++ [] ≡ us
      no_more [] = refl
      no_more (u ∷ us) = ap (λ (vs : List Update). u ∷ vs) (no_more us)

  -- ---- the pass that frees
  pub record FreedTo (k : ℕ) (d : Cells) : Type 0 where
    pub at : ℕ
    pub done : List Update
    pub through : Through k at done
    pub is : d ≡ freed_all spec.max_intervals c done

  module _ (total : ℕ) (f : ChangesFit spec g c total changes pairs) where
    ascends : Ascending (2 * ray_count g) 0 (updates_in g changes pairs)
    ascends = good-ascend spec g c pairs (changes_of changes pairs) 0 0 (omega arith) f.good

    pub freed-none : FreedTo 0 c
    unfolding freed_all
    freed-none = record { at = 0; done = []; through = through-none f.good; is = refl }

    pub freed-names : (k : ℕ) (d : Cells) (p : FreedTo k d) → k < length changes / 6 → (h : ChangeHead)
        → h ≡ head_at changes k → Names g h.axis h.index p.through.from
    freed-names k d p l h eh = subst (λ (x : ChangeHead). Names g x.axis x.index p.through.from) (sym eh)
        (through-good k p.at p.done p.through l).names

    module _ (k : ℕ) (d : Cells) (p : FreedTo k d) (l : k < length changes / 6) (h : ChangeHead)
        (eh : h ≡ head_at changes k) (ray : ℕ) (er : ray ≡ change_ray g h.axis h.index) where
      e : ray ≡ change_ray g (head_at changes k).axis (head_at changes k).index
      e = er ∙ ap (λ (x : ChangeHead). change_ray g x.axis x.index) eh

      pub ray-freeable : FreeRayPre spec.max_intervals d ray
      ray-freeable =
          let n : ℕ = spec.max_intervals in
          let t = p.through in
          let a : FreeListPre n (freed_all n c p.done) (possible_of k p.at).list
          = freeable-at f.is_sound.store f.room (updates_in g changes pairs) p.done (possible_of k p.at)
          (certain_of k p.at ∷ updates_of g (rest (k + 1) (end4 (head_at changes k) p.at)))
          (through-split k p.at p.done t l) ascends in
          let b : FreeListPre n (freed_all n c (p.done ++ possible_of k p.at ∷ [])) (certain_of k p.at).list
          = freeable-at f.is_sound.store f.room (updates_in g changes pairs)
          (p.done ++ possible_of k p.at ∷ []) (certain_of k p.at)
          (updates_of g (rest (k + 1) (end4 (head_at changes k) p.at))) (through-second k p.at p.done t l)
          ascends in
          subst (λ (r : ℕ). FreeRayPre n d r) (sym e)
          (subst (λ (x : Cells). FreeRayPre n x (change_ray g (head_at changes k).axis (head_at changes k).index)) (sym p.is)
          (record {
            possible = a;
            certain =
                subst (λ (x : Cells). FreeListPre n x (certain_of k p.at).list)
                (freed-one n c p.done (possible_of k p.at)) b;
          }))

      pub freed-next : (d' : Cells) → d'
          ≡ freed_list spec.max_intervals (freed_list spec.max_intervals d (2 * ray)) (2 * ray + 1)
          → FreedTo (k + 1) d'
      freed-next d' w = record {
        at = end4 (head_at changes k) p.at;
        done = p.done ++ possible_of k p.at ∷ certain_of k p.at ∷ [];
        through = through-next k p.at p.done p.through l;
        is = w ∙ ap (λ (r : ℕ). freed_list spec.max_intervals (freed_list spec.max_intervals d (2 * r)) (2 * r + 1)) e
            ∙ ap (λ (x : Cells). freed_list spec.max_intervals
            (freed_list spec.max_intervals x (possible_of k p.at).list) (certain_of k p.at).list) p.is
            ∙ sym (freed-two spec.max_intervals c p.done (possible_of k p.at) (certain_of k p.at));
      }

    pub freed-end : (k : ℕ) (d : Cells) → FreedTo k d → length changes / 6 ≤ k
        → d ≡ freed_all spec.max_intervals c (updates_in g changes pairs)
    freed-end k d p l = p.is ∙ ap (freed_all spec.max_intervals c) (sym (through-all k p.at p.done p.through l))

    pub all-freed : FreedAll spec.max_intervals (2 * ray_count g) total c (updates_in g changes pairs)
        (freed_all spec.max_intervals c (updates_in g changes pairs))
    all-freed = freed-all f.is_sound.store f.room ascends

    -- ---- the pass that lays
    abbrev freed : Cells
    freed = freed_all spec.max_intervals c (updates_in g changes pairs)

    pub record LaidTo (k at r : ℕ) (d : Cells) : Type 0 where
      pub done : List Update
      pub through : Through k at done
      pub is : d ≡ laid_all spec.max_intervals freed done
      pub cursor : FreeCursor spec.max_intervals d.spans d.links r

    pub laid_none : (d : Cells) → d ≡ freed → LaidTo 0 0 0 d
    unfolding laid_all
    laid_none d e = record {
      done = [];
      through = through-none f.good;
      is = e;
      cursor = record { most = omega arith; past = λ x h. absurd (omega arith) };
    }

    module _ (k at r : ℕ) (d : Cells) (p : LaidTo k at r d) (l : k < length changes / 6) (h : ChangeHead) (eh : h ≡ head_at changes k) where
      pub laid-good : Good spec g c pairs p.through.from (change_by h pairs at)
      laid-good = subst (λ (x : ChangeHead). Good spec g c pairs p.through.from (change_by x pairs at)) (sym eh)
          (through-good k at p.done p.through l)

    module _ (k at r : ℕ) (d : Cells) (p : LaidTo k at r d) (l : k < length changes / 6) (h : ChangeHead)
        (eh : h ≡ head_at changes k) (ray : ℕ) (e : ray ≡ change_ray g h.axis h.index) (after : ℕ)
        (ea : after ≡ end2 h at) where
      pub ray-layable : LayRayPre spec.max_intervals d ray (pairs_from pairs after h.after_possible)
          (pairs_from pairs (after + 2 * h.after_possible) h.after_certain)
      ray-layable =
          let n : ℕ = spec.max_intervals in
          let t = p.through in
          let a : LayListPre n (laid_all n freed p.done) (possible_of k at)
          = layable-at f.is_sound.store f.room (updates_in g changes pairs) p.done (possible_of k at)
          (certain_of k at ∷ updates_of g (rest (k + 1) (end4 (head_at changes k) at)))
          (through-split k at p.done t l) ascends f.budget in
          let b : LayListPre n (laid_all n freed (p.done ++ possible_of k at ∷ [])) (certain_of k at)
          = layable-at f.is_sound.store f.room (updates_in g changes pairs) (p.done ++ possible_of k at ∷ [])
          (certain_of k at) (updates_of g (rest (k + 1) (end4 (head_at changes k) at)))
          (through-second k at p.done t l) ascends f.budget in
          subst (λ (y : ℕ). LayRayPre n d ray (pairs_from pairs y h.after_possible)
          (pairs_from pairs (y + 2 * h.after_possible) h.after_certain)) (sym ea)
          (subst (λ (y : ℕ). LayRayPre n d y (pairs_from pairs (end2 h at) h.after_possible)
          (pairs_from pairs (end3 h at) h.after_certain)) (sym e)
          (subst (λ (x : ChangeHead). LayRayPre n d (change_ray g x.axis x.index)
          (pairs_from pairs (end2 x at) x.after_possible) (pairs_from pairs (end3 x at) x.after_certain)) (sym eh)
          (subst (λ (x : Cells). LayRayPre n x (change_ray g (head_at changes k).axis (head_at changes k).index)
          (pairs_from pairs (end2 (head_at changes k) at) (head_at changes k).after_possible)
          (pairs_from pairs (end3 (head_at changes k) at) (head_at changes k).after_certain)) (sym p.is)
          (record {
            possible = a;
            certain =
                subst (λ (x : Cells). LayListPre n x (certain_of k at)) (laid_one n freed p.done (possible_of k at)) b;
          }))))

      pub laid_next : (r' : ℕ) (d' : Cells)
          → LayRayPost spec.max_intervals d ray (pairs_from pairs after h.after_possible)
          (pairs_from pairs (after + 2 * h.after_possible) h.after_certain) r' d'
          → (at' : ℕ) → at' ≡ after + 2 * h.after_possible + 2 * h.after_certain → LaidTo (k + 1) at' r' d'
      laid_next r' d' w at' ew =
          let n : ℕ = spec.max_intervals in
          subst (λ (y : ℕ). LaidTo (k + 1) y r' d')
          (sym (ew ∙ ap (λ (y : ℕ). y + 2 * h.after_possible + 2 * h.after_certain) ea
          ∙ ap (λ (x : ChangeHead). end4 x at) eh))
          (record {
            done = p.done ++ possible_of k at ∷ certain_of k at ∷ [];
            through = through-next k at p.done p.through l;
            is = w.left
                ∙ ap (λ (y : ℕ). laid_list n (laid_list n d
                (update (2 * ray) (pairs_from pairs y h.after_possible)))
                (update (2 * ray + 1) (pairs_from pairs (y + 2 * h.after_possible) h.after_certain))) ea
                ∙ ap (λ (y : ℕ). laid_list n (laid_list n d
                (update (2 * y) (pairs_from pairs (end2 h at) h.after_possible)))
                (update (2 * y + 1) (pairs_from pairs (end3 h at) h.after_certain))) e
                ∙ ap (λ (x : ChangeHead). laid_list n
                (laid_list n d (update (2 * change_ray g x.axis x.index)
                (pairs_from pairs (end2 x at) x.after_possible)))
                (update (2 * change_ray g x.axis x.index + 1) (pairs_from pairs (end3 x at) x.after_certain))) eh
                ∙ ap (λ (x : Cells). laid_list n (laid_list n x (possible_of k at)) (certain_of k at)) p.is
                ∙ sym (laid-two n freed p.done (possible_of k at) (certain_of k at));
            cursor = w.onward;
          })

    pub laid_end : (k at r : ℕ) (d : Cells) → LaidTo k at r d → length changes / 6 ≤ k
        → d ≡ laid_all spec.max_intervals freed (updates_in g changes pairs)
    laid_end k at r d p l = p.is ∙ ap (laid_all spec.max_intervals freed) (sym (through-all k at p.done p.through l))

    pub all_laid : LaidAll spec.max_intervals (2 * ray_count g)
        (total - pairs_freed spec.max_intervals c (updates_in g changes pairs)) freed (updates_in g changes pairs)
        (laid_all spec.max_intervals freed (updates_in g changes pairs))
    all_laid =
        let less : pairs_freed spec.max_intervals c (updates_in g changes pairs) ≤ total = all-freed.fewer in
        laid-all (all-freed.is_sound (total - pairs_freed spec.max_intervals c (updates_in g changes pairs))
        (omega arith)) (kept-room all-freed.kept f.room) ascends
        (all-empty f.is_sound.store f.room ascends) f.budget

-- ---- cells of the pairs that a change's lists reach
module _ (h : ChangeHead) (at size : ℕ) (within : end4 h at ≤ size) where
  pub front_fits : size < 2 ^ 64 → at + 2 * h.before_possible + 2 * h.before_certain < 2 ^ 64
  front_fits f = omega arith

  pub back-within : (after : ℕ) → after ≡ end2 h at → after + 2 * h.after_possible + 2 * h.after_certain ≤ size
  back-within after e = omega arith

  pub back_fits : (after : ℕ) → after ≡ end2 h at → size < 2 ^ 64 → after + 2 * h.after_possible + 2 * h.after_certain < 2 ^ 64
  back_fits after e f = omega arith

pub applied-is : (n : ℕ) (c : Cells) (us : List Update) → laid_all n (freed_all n c us) us ≡ applied n c us
unfolding applied
applied-is n c us = refl
