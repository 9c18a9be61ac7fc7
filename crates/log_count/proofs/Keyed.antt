-- Where the keys are those of a ray's entries, their hits have the points that the ray's list loses.
use mathlib.Core.Path.{◌≡◌}
use mathlib.Core.Bool.{Bool, true}
use mathlib.Core.List.{List}
use Prim.Native.Nat.{ℕ, ◌%◌, ◌<◌}
use native.Mathlib.Nat.{mod-lt}
use lib.ListN.{length, get_or}
use lib.Ieee.{Float}
use Rattle.logic.proofs.Bools.{same_if}
use Rattle.grid.specs.declared.DexelGrid.{DexelGrid}
use Rattle.spans.specs.Spans.{holds}
use Rattle.log_model.specs.Logs.{entry_count}
use Rattle.log_entries.specs.Named.{EachNamed}
use Rattle.log_keys.specs.Keys.{entry_of_key, hits_to, loses_of}
use Rattle.log_keys.proofs.Hits.{hits-struck, struck-hits, lost-holds, holds-lost}
use Rattle.log_count.specs.Steps.{KeysOf}

pub keyed-points : (g : DexelGrid) (log : List Float) (ray : ℕ) (keys : List ℕ) (certain : Bool) → 0 < entry_count log → EachNamed g log
    → KeysOf g log ray keys
    → (x : Float) → holds (hits_to log keys certain (length keys)) x ≡ holds (loses_of g log ray certain) x
unfolding entry_of_key
keyed-points g log ray keys certain some named k x = same_if (holds (hits_to log keys certain (length keys)) x)
    (holds (loses_of g log ray certain) x) to from
  where
    to : holds (hits_to log keys certain (length keys)) x ≡ true → holds (loses_of g log ray certain) x ≡ true
    to h = let (t, a, s) = hits-struck log keys certain x (length keys) h in
        lost-holds g log ray named certain x
        (record { place = get_or keys t 0 % entry_count log; below = mod-lt (get_or keys t 0) some; on_ray = k.each t a; struck = s })

    from : holds (loses_of g log ray certain) x ≡ true → holds (hits_to log keys certain (length keys)) x ≡ true
    from h =
        let l = holds-lost g log ray certain x h in
        let (t, a, q) = k.all l.place l.below l.on_ray in
        struck-hits log keys certain x (length keys) t a (rw q l.struck)
