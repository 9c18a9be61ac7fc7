-- Document 01's example of the program: its input and its output, byte for byte.
use Rattle.std.specs.Prelude.{List, [], ◌∷◌, ◌++◌, ℕ}
use Prim.Native.Char.{code}
use Prim.Native.String.{String, [] as none, ◌∷◌ as ◌then◌}
use Rattle.ray_input.specs.Steps.{Appended}
use Rattle.ray_text.specs.Run.{ProgramRan}

-- the codes of the characters, which are the bytes of an ASCII text
unfoldable pub bytes : String → List ℕ
bytes none = []
bytes (c then s) = code c ∷ bytes s

unfoldable pub example_input : List ℕ
unfolding bytes
example_input =
    bytes "B 0000000000000000 4024000000000000\n"
    ++ bytes "P 0000000000000000 4024000000000000\n"
    ++ bytes "C 0000000000000000 4024000000000000\n"
    ++ bytes "O 3ff0000000000000 4010000000000000\n"
    ++ bytes "I 4000000000000000 4008000000000000\n"

unfoldable pub example_output : List ℕ
unfolding bytes
example_output =
    bytes "P 0000000000000000 4000000000000000\n"
    ++ bytes "P 4008000000000000 4024000000000000\n"
    ++ bytes "C 0000000000000000 3ff0000000000000\n"
    ++ bytes "C 4010000000000000 4024000000000000\n"
    ++ bytes "changed\n"

-- whatever the contract of `run` allows for that input stands at the front of the buffer as that output
abbrev pub ExamplePrinted : Type 0
ExamplePrinted = (before after : List ℕ) (r : ℕ) → ProgramRan example_input before after r → Appended before 0 example_output after r
