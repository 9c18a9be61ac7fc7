-- The points that the entries of a ray take from its lists, by the places of these entries and by keys.
use mathlib.Core.Path.{◌≡◌, sym, ◌∙◌}
use mathlib.Core.Bool.{Bool, true, false, cond, ◌&&◌, ◌||◌, false≢true}
use mathlib.Core.List.{List, [], ◌∷◌, ◌++◌}
use mathlib.Core.Logic.{◌⊎◌, inl, inr}
use Prim.Native.Nat.{ℕ, zero, suc, ◌+◌, ◌%◌, ◌≤◌, ◌<◌}
use native.Mathlib.Omega.{arith}
use native.Mathlib.Decide.{dec_lt}
use borrow.Author.Tests.{eqb-true, eq-eqb}
use lib.Dec.{eqb}
use lib.ListN.{length, get_or}
use lib.Ieee.{Float, lt}
use Rattle.logic.proofs.Bools.{and_right, both, or_cases, or_left, or_right, by_cases}
use Rattle.grid.specs.declared.DexelGrid.{DexelGrid}
use Rattle.spans.specs.Spans.{within, holds}
use Rattle.spans.proofs.Sets.{odd_n-mod}
use Rattle.spans.proofs.Points.{holds-append}
use Rattle.log_model.specs.declared.Entry.{Entry}
use Rattle.log_model.specs.Logs.{entry_at, entries_from, entry_count, entries, names_some_ray, entry_ray, HitKind, outer, inner, hit_lo}
use Rattle.log_model.specs.Logs.{hit_hi, hits_on_ray}
use Rattle.log_entries.specs.Named.{EachNamed}
use Rattle.log_entries.proofs.Places.{AllFrom, all_first, all_rest}
use Rattle.log_entries.proofs.Sizes.{named-even}
use Rattle.log_keys.specs.Keys.{entry_of_key, with_entry, hits_to, loses_of, pairs_past}
use Rattle.log_keys.proofs.Past.{past_first, past_more}

-- the point lies in the entry's hit of this kind
abbrev pub in_hit : HitKind → Entry → Float → Bool
in_hit w e x = within (hit_lo w e) (hit_hi w e) x

-- a possible list loses the inner hits, a certain list the outer ones too
pub data LosesKind : (certain : Bool) → HitKind → Type 0 where
  inner_hit : {certain : Bool} → LosesKind certain inner
  outer_hit : LosesKind true outer

-- the point lies in a hit of the entry that the list loses
pub record Struck (e : Entry) (certain : Bool) (x : Float) : Type 0 where
  pub kind : HitKind
  pub loses : LosesKind certain kind
  pub holds_it : in_hit kind e x ≡ true

-- ---- by keys

module _ (e : Entry) (hits : List Float) (x : Float) where
  with-struck : (certain : Bool) → Struck e certain x → holds (with_entry e certain hits) x ≡ true
  unfolding with_entry holds
  with-struck true s = go s.kind s.loses s.holds_it
    where
      go : (w : HitKind) → LosesKind true w → in_hit w e x ≡ true → holds (with_entry e true hits) x ≡ true
      go inner l h = or_left (in_hit inner e x) (in_hit outer e x || holds hits x) h
      go outer l h = or_right (in_hit inner e x) (in_hit outer e x || holds hits x) (or_left (in_hit outer e x) (holds hits x) h)
  with-struck false s = go s.kind s.loses s.holds_it
    where
      go : (w : HitKind) → LosesKind false w → in_hit w e x ≡ true → holds (with_entry e false hits) x ≡ true
      go w inner_hit h = or_left (in_hit inner e x) (holds hits x) h

  with-more : (certain : Bool) → holds hits x ≡ true → holds (with_entry e certain hits) x ≡ true
  unfolding with_entry holds
  with-more true h = or_right (in_hit inner e x) (in_hit outer e x || holds hits x) (or_right (in_hit outer e x) (holds hits x) h)
  with-more false h = or_right (in_hit inner e x) (holds hits x) h

  with_cases : (certain : Bool) → holds (with_entry e certain hits) x ≡ true → Struck e certain x ⊎ (holds hits x ≡ true)
  unfolding with_entry holds
  with_cases true h = elim (or_cases (in_hit inner e x) (in_hit outer e x || holds hits x) h) [
    | inl a ↦ inl (record { kind = inner; loses = inner_hit; holds_it = a })
    | inr a ↦ elim (or_cases (in_hit outer e x) (holds hits x) a) [
      | inl b ↦ inl (record { kind = outer; loses = outer_hit; holds_it = b })
      | inr b ↦ inr b
    ]
  ]
  with_cases false h = elim (or_cases (in_hit inner e x) (holds hits x) h) [
    | inl a ↦ inl (record { kind = inner; loses = inner_hit; holds_it = a })
    | inr a ↦ inr a
  ]

module _ (log : List Float) (keys : List ℕ) (certain : Bool) (x : Float) where
  -- the point lies in a hit of the entry of one of the first m keys
  abbrev pub StruckTo : ℕ → Type 0
  StruckTo m = (t : ℕ) × (t < m) × Struck (entry_of_key log (get_or keys t 0)) certain x

  pub hits-struck : (m : ℕ) → holds (hits_to log keys certain m) x ≡ true → StruckTo m
  unfolding hits_to holds
  hits-struck zero h = absurd (false≢true h)
  hits-struck (suc m) h = elim (with_cases (entry_of_key log (get_or keys m 0)) (hits_to log keys certain m) x certain h) [
    | inl s ↦ (m, omega arith, s)
    | inr k ↦ let (t, a, s) = hits-struck m k in (t, omega (arith, a), s)
  ]

  pub struck-hits : (m t : ℕ) → t < m → Struck (entry_of_key log (get_or keys t 0)) certain x → holds (hits_to log keys certain m) x ≡ true
  unfolding hits_to
  struck-hits zero t a s = absurd (omega arith)
  struck-hits (suc m) t a s = elim (dec_lt t m) [
    | yes h ↦ with-more (entry_of_key log (get_or keys m 0)) (hits_to log keys certain m) x certain (struck-hits m t h s)
    | no h ↦
        let e : t ≡ m = omega arith in
        with-struck (entry_of_key log (get_or keys m 0)) (hits_to log keys certain m) x certain (rw e at s)
  ]

-- ---- a pair of a list

pub data HasPair (lo hi : Float) : List Float → Type 0 where
  here : {l : List Float} → HasPair lo hi (lo ∷ hi ∷ l)
  later : {a b : Float} {l : List Float} → HasPair lo hi l → HasPair lo hi (a ∷ b ∷ l)

module _ {lo hi : Float} where
  pair_left : {l : List Float} (m : List Float) → HasPair lo hi l → HasPair lo hi (l ++ m)
  pair_left m here = here
  pair_left m (later p) = later (pair_left m p)

  pair-right : {m : List Float} (l : List Float) → length l % 2 ≡ 0 → HasPair lo hi m → HasPair lo hi (l ++ m)
  pair-right [] e p = p
  pair-right (a ∷ []) e p = absurd (omega arith)
  pair-right (a ∷ b ∷ l) e p = later (pair-right l (omega arith) p)

  pair-holds : {l : List Float} (x : Float) → HasPair lo hi l → within lo hi x ≡ true → holds l x ≡ true
  unfolding holds
  pair-holds x (here {l}) h = or_left (within lo hi x) (holds l x) h
  pair-holds x (later {a} {b} {l} p) h = or_right (within a b x) (holds l x) (pair-holds x p h)

  pub pair-past : {l : List Float} (from x : Float) → HasPair lo hi l → lt from lo ≡ true → within lo hi x ≡ true
      → holds (pairs_past from l) x ≡ true
  pair-past from x (here {l}) k h = past_first from lo hi l x k h
  pair-past from x (later {a} {b} {l} p) k h = past_more from a b l x (pair-past from x p k h)

-- ---- by places

-- the point lies in a hit of an entry on the ray that the list loses
pub record Lost (g : DexelGrid) (log : List Float) (ray : ℕ) (certain : Bool) (x : Float) : Type 0 where
  pub place : ℕ
  pub below : place < entry_count log
  pub on_ray : entry_ray g (entry_at log place) ≡ ray
  pub struck : Struck (entry_at log place) certain x

module _ (g : DexelGrid) (log : List Float) (ray : ℕ) where
  module _ (w : HitKind) where
    named-pair : (i k j : ℕ) → AllFrom (λ n. names_some_ray g (entry_at log n) ≡ true) i k → i ≤ j → j < i + k
        → entry_ray g (entry_at log j) ≡ ray
        → HasPair (hit_lo w (entry_at log j)) (hit_hi w (entry_at log j)) (hits_on_ray g (entries_from log i k) ray w)
    unfolding hits_on_ray entries_from
    named-pair i zero j f a b q = absurd (omega arith)
    named-pair i (suc k) j f a b q = elim (dec_lt i j) [
      | yes h ↦ more (hit_lo w (entry_at log i)) (hit_hi w (entry_at log i))
          (names_some_ray g (entry_at log i) && eqb (entry_ray g (entry_at log i)) ray)
          (named-pair (suc i) k j (all_rest i k f) h (omega arith) q)
      | no h ↦ let e : j ≡ i = omega arith in
          rw (
            e,
            both (names_some_ray g (entry_at log i)) (eqb (entry_ray g (entry_at log i)) ray) (all_first i k f)
                (eq-eqb (entry_ray g (entry_at log i)) ray (rw e at q)),
          ) here
    ]
      where
        more : {lo hi : Float} {l : List Float} (a c : Float) (b : Bool) → HasPair lo hi l → HasPair lo hi (cond b (a ∷ c ∷ l) l)
        more a c true p = later p
        more a c false p = p

    named-hit : (i k : ℕ) (x : Float) → holds (hits_on_ray g (entries_from log i k) ray w) x ≡ true
        → (j : ℕ) × (j < i + k) × (entry_ray g (entry_at log j) ≡ ray) × (in_hit w (entry_at log j) x ≡ true)
    unfolding hits_on_ray entries_from holds
    named-hit i zero x h = absurd (false≢true h)
    named-hit i (suc k) x h = elim (by_cases (names_some_ray g (entry_at log i) && eqb (entry_ray g (entry_at log i)) ray)) [
      | inl t ↦ elim (or_cases (in_hit w (entry_at log i) x) (holds (hits_on_ray g (entries_from log (suc i) k) ray w) x) (rw t at h)) [
        | inl q ↦ (
          i,
          omega arith,
          eqb-true (entry_ray g (entry_at log i)) ray
              (and_right (names_some_ray g (entry_at log i)) (eqb (entry_ray g (entry_at log i)) ray) t),
          q,
        )
        | inr q ↦ on (named-hit (suc i) k x q)
      ]
      | inr t ↦ on (named-hit (suc i) k x (rw t at h))
    ]
      where
        on : (j : ℕ) × (j < suc i + k) × (entry_ray g (entry_at log j) ≡ ray) × (in_hit w (entry_at log j) x ≡ true)
            → (j : ℕ) × (j < i + suc k) × (entry_ray g (entry_at log j) ≡ ray) × (in_hit w (entry_at log j) x ≡ true)
        on (j, a, b, d) = (j, omega (arith, a), b, d)

  loses-named : {lo hi : Float} (certain : Bool) (w : HitKind) → LosesKind certain w → HasPair lo hi (hits_on_ray g (entries log) ray w)
      → HasPair lo hi (loses_of g log ray certain)
  loses-named {lo = lo} {hi = hi} false outer x4 p = elim x4 [ ]
  loses-named true inner inner_hit p = pair-right (hits_on_ray g (entries log) ray outer) (named-even g ray outer (entries log)) p
  loses-named true outer outer_hit p = pair_left (hits_on_ray g (entries log) ray inner) p
  loses-named false inner inner_hit p = p

  -- THE LAWS: the points that the list loses are those in a hit that it loses of an entry on the ray
  module _ (all : EachNamed g log) (certain : Bool) where
    loses-pair : (w : HitKind) → LosesKind certain w → (i : ℕ) → i < entry_count log → entry_ray g (entry_at log i) ≡ ray
        → HasPair (hit_lo w (entry_at log i)) (hit_hi w (entry_at log i)) (loses_of g log ray certain)
    unfolding EachNamed entries
    loses-pair w l i h q = loses-named certain w l (named-pair w 0 (entry_count log) i (λ j _ k. all j (omega (arith, k))) (omega arith)
        (omega arith) q)

    pub lost-holds : (x : Float) → Lost g log ray certain x → holds (loses_of g log ray certain) x ≡ true
    lost-holds x l = pair-holds x (loses-pair l.struck.kind l.struck.loses l.place l.below l.on_ray) l.struck.holds_it

    -- a hit that begins past b
    pub lost-past : (b x : Float) (l : Lost g log ray certain x) → lt b (hit_lo l.struck.kind (entry_at log l.place)) ≡ true
        → holds (pairs_past b (loses_of g log ray certain)) x ≡ true
    lost-past b x l k = pair-past b x (loses-pair l.struck.kind l.struck.loses l.place l.below l.on_ray) k
        l.struck.holds_it

  pub holds-lost : (certain : Bool) (x : Float) → holds (loses_of g log ray certain) x ≡ true → Lost g log ray certain x
  holds-lost certain x h = cases certain h
    where
      outers : List Float
      outers = hits_on_ray g (entries log) ray outer

      inners : List Float
      inners = hits_on_ray g (entries log) ray inner

      even : length outers % 2 ≡ 0
      even = named-even g ray outer (entries log)

      lost : (certain : Bool) (w : HitKind) → LosesKind certain w → holds (hits_on_ray g (entries log) ray w) x ≡ true
          → Lost g log ray certain x
      lost certain w l k = let (i, a, b, d) = named-hit w 0 (entry_count log) x (unfold entries in k) in
          record { place = i; below = omega (arith, a); on_ray = b; struck = record { kind = w; loses = l; holds_it = d } }

      cases : (certain : Bool) → holds (loses_of g log ray certain) x ≡ true → Lost g log ray certain x
      cases true k = elim (or_cases (holds outers x) (holds inners x)
          (sym (holds-append outers inners x (odd_n-mod (length outers) even)) ∙ k)) [
            | inl q ↦ lost true outer outer_hit q
            | inr q ↦ lost true inner inner_hit q
          ]
      cases false k = lost false inner inner_hit k
