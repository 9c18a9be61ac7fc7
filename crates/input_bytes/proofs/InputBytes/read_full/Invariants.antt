-- What is filled so far is what was consumed.
use Rattle.std.proofs.Common.{◌≡◌, ◌-◌, ◌≤◌, length, take}
use Rattle.std.specs.Io.KnownBytes.{Consumes}
use Rattle.input_bytes.proofs.InputBytes.read_full.Given as goal

abbrev pub invariant-loop-done : goal.invariant-loop-done
invariant-loop-done g l =
    record {
      same : length l.buf ≡ length l.initial.buf;
      within : l.done ≤ length l.buf;
      taken : Consumes (g.R.Read.remaining l.initial.self.reader) (g.R.Read.remaining l.self.reader) (take l.done l.buf);
    }

abbrev pub decreases-loop-done : goal.decreases-loop-done
decreases-loop-done g l = length l.initial.buf - l.done
