-- The corners of a buffer are its first n places, so that one more is appended at place n.
use mathlib.Core.Path.{refl, ◌≡◌}
use Prim.Native.Nat.{◌<◌}
use native.Mathlib.Numerals.{add-one}
use native.Mathlib.Omega.{arith}
use lib.ListN.{length}
use lib.Seq.{take-suc-set}
use borrow.Author.Rules.{rules}
use Rattle.strips.proofs.PolygonLaws.{length-field}
use Rattle.strips.proofs.push.Goals as goal

pub returns : goal.returns
returns c =
    let l : length c.args.ps.at ≡ 8 = search (length-field, rules) in
    let h : c.args.ps.n < length c.args.ps.at = omega arith in
    (rw (add-one, take-suc-set), refl)
