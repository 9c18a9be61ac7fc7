-- The keys that are gathered for a stretch of a long ray, with how far the hits before it reach, tell which points its lists lose in it.
use mathlib.Core.Path.{◌≡◌, ap}
use mathlib.Core.Bool.{Bool, true}
use mathlib.Core.List.{List}
use mathlib.Core.Logic.{◌⊎◌, inl, inr}
use Prim.Native.Nat.{ℕ, ◌<◌}
use native.Mathlib.Nat.{mod-eq_of_lt}
use native.Mathlib.Omega.{arith}
use lib.ListN.{length, get_or, take}
use lib.Seq.{length-take-le, get_or-take}
use lib.Ieee.{Float, lt, le}
use Rattle.logic.proofs.Bools.{and_left, and_right, both, by_cases}
use Rattle.doubles.proofs.Order.{lt-number, le_refl, lt→le, le_lt_trans, le_trans}
use Rattle.grid.specs.declared.DexelGrid.{DexelGrid}
use Rattle.spans.specs.Spans.{within, holds}
use Rattle.log_model.specs.Logs.{entry_at, entry_count, entry_ray, HitKind, outer, inner, hit_lo, hit_hi}
use Rattle.log_model.proofs.Hits.{within-proper}
use Rattle.log_entries.specs.Named.{EachNamed}
use Rattle.log_keys.specs.Keys.{entry_of_key, hits_to, loses_of, top, pairs_past, Stretch}
use Rattle.log_keys.proofs.Past.{past-above}
use Rattle.log_keys.proofs.Hits.{LosesKind, inner_hit, outer_hit, hits-struck, struck-hits, Lost, lost-holds, lost-past, holds-lost}
use Rattle.log_long.specs.Long.{least_past, GathersTo}
use Rattle.log_long.specs.declared.LongPart.{LongPart}
use Rattle.log_count.proofs.Fronts.{Begun, least-before, least-is, front_of, below-front, front_is}

-- the hits of the entries of a stretch that the list loses
abbrev pub part_hits : List Float → List ℕ → LongPart → (certain : Bool) → List Float
part_hits log keys w certain = hits_to log (take w.keys.count keys) certain (length (take w.keys.count keys))

-- the certain list loses hits of either kind
certain-loses : (k : HitKind) → LosesKind true k
certain-loses outer = outer_hit
certain-loses inner = inner_hit

module _ {g : DexelGrid} {log : List Float} {ray : ℕ} {b : Float} {keys : List ℕ} {w : LongPart} (named : EachNamed g log)
    (r : GathersTo g log ray b (entry_count log) keys w) where
  -- the keys in use are places of entries on the ray
  used-entry : (t : ℕ) → t < w.keys.count → entry_of_key log (get_or (take w.keys.count keys) t 0) ≡ entry_at log (get_or keys t 0)
  unfolding entry_of_key
  used-entry t h = rw (get_or-take w.keys.count keys t 0 h) (ap (entry_at log) (mod-eq_of_lt (r.in_log.places t h)))

  used-length : length (take w.keys.count keys) ≡ w.keys.count
  used-length = length-take-le w.keys.count keys r.in_log.room

  -- ---- the stretch

  pub stretched : (certain : Bool)
      → Stretch b w.keys.end (front_of certain w) (part_hits log keys w certain) (holds (loses_of g log ray certain))
  stretched certain = record {
    only_front = λ x h.
        let (k, l, q) = front_is w x certain in
        let (i, a, d, e) = (r.fronts k).only x (rw q at h) in
        lost-holds g log ray named certain x
        (record { place = i; below = a; on_ray = d; struck = record { kind = k; loses = l; holds_it = e } });
    only_pairs = λ x h.
        let (t, a, s) = hits-struck log (take w.keys.count keys) certain x (length (take w.keys.count keys)) h in
        let fit : t < w.keys.count = omega (arith, a, used-length) in
        let (i, below, (on, l), e) = r.long_keys.held.each t fit in
        lost-holds g log ray named certain x
        (record { place = i; below = below; on_ray = on; struck = rw e at (rw (used-entry t fit) at s) });
    all = λ x h f. inside x h (holds-lost g log ray certain x f);
  }
    where
      inside : (x : Float) → within b w.keys.end x ≡ true → Lost g log ray certain x
          → (lt x (front_of certain w) ≡ true) ⊎ (holds (part_hits log keys w certain) x ≡ true)
      inside x h l =
          let e = entry_at log l.place in
          let k = l.struck.kind in
          let lies = l.struck.holds_it in
          let rises = within-proper (hit_lo k e) (hit_hi k e) x lies in
          elim (by_cases (lt b (hit_lo k e))) [
            | inl p ↦
                let under = le_lt_trans (least_past b e) x w.keys.end
                (le_trans (least_past b e) (hit_lo k e) x (least-before b e k rises p)
                (and_left (le (hit_lo k e) x) (lt x (hit_hi k e)) lies))
                (and_right (le b x) (lt x w.keys.end) h) in
                let (t, a, q) = r.long_keys.held.all l.place l.below (l.on_ray, under) in
                inr (struck-hits log (take w.keys.count keys) certain x (length (take w.keys.count keys)) t
                (omega (arith, a, used-length)) (rw (used-entry t a, q) l.struck))
            | inr p ↦ inl (below-front w x (r.fronts outer).number (r.fronts inner).number certain k l.struck.loses
                ((r.fronts k).all l.place l.below l.on_ray rises p x (and_right (le (hit_lo k e) x) (lt x (hit_hi k e)) lies)))
          ]

  -- ---- its end

  -- the certain list loses each hit, and a hit holds where it begins
  begun-past : (k : HitKind) (i : ℕ) → i < entry_count log → entry_ray g (entry_at log i) ≡ ray → Begun b k (entry_at log i) w.keys.end
      → holds (pairs_past b (loses_of g log ray true)) w.keys.end ≡ true
  begun-past k i a d s = rw s.is (lost-past g log ray named true b lo (record {
    place = i;
    below = a;
    on_ray = d;
    struck = record {
      kind = k;
      loses = certain-loses k;
      holds_it = both (le lo lo) (lt lo hi) (le_refl lo (lt-number lo hi s.proper).0) s.proper;
    };
  }) s.past)
    where
      lo : Float
      lo = hit_lo k (entry_at log i)

      hi : Float
      hi = hit_hi k (entry_at log i)

  pub stretch-ends : (w.keys.end ≡ top)
      ⊎ ((lt w.keys.end top ≡ true) × (holds (pairs_past b (loses_of g log ray true)) w.keys.end ≡ true))
  stretch-ends = elim r.long_keys.ends [
    | inl h ↦ inl h
    | inr (h, (i, a, d, q)) ↦ let (k, s) = least-is b (entry_at log i) (rw q at h) in inr (h, begun-past k i a d (rw q s))
  ]

  pub stretch-onward : le b top ≡ true → le b w.keys.end ≡ true
  stretch-onward h = elim stretch-ends [
    | inl q ↦ rw q h
    | inr (l, q) ↦ lt→le b w.keys.end (past-above b (loses_of g log ray true) w.keys.end q)
  ]
