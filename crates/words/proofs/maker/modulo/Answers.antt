use native.Mathlib.Nat.{mod-lt}
use native.Mathlib.Omega.{arith}
use mathlib.Core.Path.{◌≡◌}
use mathlib.Core.Bool.{true}
use Rattle.std.proofs.lemmas.Int.{ints}
use Rattle.words.specs.Words.{ranged, used}
use Rattle.words.proofs.Halves.{made_is}
use Rattle.words.proofs.Signed.{ranged_small}
use Rattle.words.proofs.maker.modulo.Goals as goal

pub returns : goal.returns
returns g c =
    let r : ranged g.row.HALF (used c.args.imm) ≡ true = grind (arith, ints) in
    (r, made_is g.row.HALF c.args.imm (ranged_small g.row.HALF c.args.imm c.requires.0 r) c.requires.1, mod-lt _ (omega arith))
