-- The numbers of a row, 16 hexadecimal digits each, with one byte behind each.
use Rattle.std.specs.Prelude.{◌≡◌, Bool, true, false, List, ℕ, ◌+◌, ◌*◌, ◌<◌, length, get_or, None, Some}
use Rattle.hex_text.specs.Hex.{hex_at}

-- all numbers from place `at` on are in `out`, or one of them is missing
pub data Reads (text : List ℕ) (at : ℕ) (out : List ℕ) : Bool → Type 0 where
  all_read : ((i : ℕ) → i < length out → hex_at text (at + 17 * i) 16 ≡ Some (get_or out i 0)) → Reads text at out true
  one_missing : (i : ℕ) → i < length out → hex_at text (at + 17 * i) 16 ≡ None → Reads text at out false
