-- What the tests of an answer say.
use Prim.Native.Nat.{ℕ, ◌*◌, ◌/◌, ◌%◌, ◌^◌}
use mathlib.Core.Path.{◌≡◌, sym, ap}
use mathlib.Core.Bool.{Bool, false}
use borrow.Author.Tests.{eq-eqb, ne_eqb, eqb-true, eqb-false, not-false}
use lib.Dec.{eqb}
use Rattle.machine.specs.Effects.{unaligned}
use Rattle.std.specs.Prelude.{Ok, Err, bit_and}
use Rattle.std.proofs.lemmas.Nat.Bits.{and_pow}
use Rattle.vamp.specs.Events.{OVERFLOW}
use Rattle.vamp.specs.Steps.{took}
use Rattle.vamp.specs.Inner.{judged, passes}
use Rattle.vamp.specs.declared.Answer.{Answer}

-- An access that is a multiple of its size
pub even : (size a : ℕ) → unaligned size a ≡ false → a % size ≡ 0
even size a h = eqb-true (a % size) 0 (not-false (eqb (a % size) 0) h)

-- What an answer decides
module _ {A : Type 0} (n : ℕ) (x y : A) where
  pub took_yes : n ≡ 0 → took n x y ≡ x
  took_yes h = rw (took, eq-eqb n 0 h)

  pub took_not : (n ≡ 0 → ⊥) → took n x y ≡ y
  took_not h = rw (took, ne_eqb n 0 h)

-- The answer of a step that is taken, and of one that is not
module _ (a : Answer) (e : ℕ × ℕ) where
  pub passing : judged (Ok a) ≡ passes e → e.0 ≡ 0
  passing j = eqb-true e.0 0 (ap (λ (z : Bool × (ℕ × ℕ)). z.0) (sym j))

  pub stopping : judged (Err a) ≡ passes e → e.0 ≡ 0 → ⊥
  stopping j = eqb-false e.0 0 (ap (λ (z : Bool × (ℕ × ℕ)). z.0) (sym j))

-- Bit 6
pub overflow_bit : (x : ℕ) → bit_and x OVERFLOW ≡ x / 2 ^ 6 % 2 * OVERFLOW
overflow_bit x = and_pow x 6
