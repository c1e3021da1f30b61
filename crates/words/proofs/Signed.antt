-- Whole numbers below a range as the numbers that they mean, and the ranges of the numbers that fields hold.
use Prim.Native.Nat.{ℕ, suc, ◌+◌, ◌*◌, ◌≤◌, ◌<◌}
use mathlib.Core.Path.{◌≡◌, subst}
use mathlib.Core.Bool.{Bool, true, false, not}
use native.Mathlib.Omega.{arith}
use borrow.Author.Tests.{lt-ltb, le-ltb}
use lib.Dec.{T}
use lib.IntN.{ℤ, pos, negsuc}
use lib.Signed.{mag}
use Rattle.std.proofs.lemmas.Int.{ints}
use Rattle.words.specs.Fields.{signed}
use Rattle.words.specs.Words.{used, modulus, ranged}

-- A test that is both
pub false_true : false ≡ true → ⊥
false_true e = subst (λ (b : Bool). T (not b)) e tt

-- A field of the lower half is itself; one of the upper half is short of nothing
pub signed_low : (h x : ℕ) → x < h → signed h x ≡ pos x
signed_low h x l = rw (lt-ltb x h l)

pub signed_high : (h x d : ℕ) → h ≤ x → 2 * h ≡ suc (d + x) → signed h x ≡ negsuc d
signed_high h x d l e = rw (le-ltb x h l) (omega (arith, ints))

-- A number of the range modulo the range
pub modulus_below : (h : ℕ) (z : ℤ) → mag z < h → modulus (2 * h) (used z) < 2 * h
modulus_below h z l = grind arith

-- A range by the distance from nothing
pub ranged_yes : (k : ℕ) (z : ℤ) → mag z ≤ k → ranged (suc k) (used z) ≡ true
ranged_yes k z l = grind arith

pub ranged_mag : (k : ℕ) (z : ℤ) → ranged (suc k) (used z) ≡ true → mag z ≤ k
ranged_mag k z e = grind arith

pub ranged_small : (h : ℕ) (z : ℤ) → 0 < h → ranged h (used z) ≡ true → mag z < h
ranged_small h z l e = grind arith
