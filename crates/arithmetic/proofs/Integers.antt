-- Words as integers: what the library computes of numbers with a sign is what the definitions say of the numbers meant.
use Rattle.std.proofs.Common.{◌≡◌, ℕ, suc, ◌-◌, ◌^◌, ◌<◌, ◌≤◌, Bool, true, false, ltb, ℤ, pos, negsuc, refl, arith, to_z, of_z, w32, ltb-false, ltb-true}
use Rattle.std.specs.Bool.{FalseIff}
use Rattle.std.specs.Prelude.{FitsSigned}
use Rattle.words.proofs.Signed.{signed_low, signed_high}
use Rattle.arithmetic.specs.Rulings.{integer, sext, beyond}

-- A word below 2 ^ 31 means itself, any other a number below nothing
pub integer_low : (x : ℕ) → x < 2 ^ 31 → integer x ≡ pos x
integer_low x l = signed_low (2 ^ 31) x l

pub integer_high : (x : ℕ) → 2 ^ 31 ≤ x → x < 2 ^ 32 → integer x ≡ negsuc (2 ^ 32 - suc x)
integer_high x l h = signed_high (2 ^ 31) x (2 ^ 32 - suc x) l (omega arith)

-- A word cast to a number with a sign is the number that it means
pub cast_is : (x : ℕ) → x < 2 ^ 32 → to_z w32 x ≡ integer x
cast_is x h = by (ltb x (2 ^ 31)) refl
  where
    by : (t : Bool) → ltb x (2 ^ 31) ≡ t → to_z w32 x ≡ integer x
    by true e = rw (integer_low x (ltb-true x (2 ^ 31) e), e)
    by false e = rw (integer_high x (ltb-false x (2 ^ 31) e) h, e)

-- The bits of a number are its word
pub sext_is : (z : ℤ) → of_z w32 z ≡ sext z
unfolding sext
sext_is (pos n) = refl
sext_is (negsuc n) = omega arith

-- A number with a sign fits 32 bits where it does not lie beyond the words
pub beyond_is : (r : Bool) (z : ℤ) → FalseIff r (FitsSigned w32 z) → r ≡ beyond z
beyond_is true (pos n) f = grind arith
beyond_is true (negsuc n) f = grind arith
beyond_is false (pos n) f = grind arith
beyond_is false (negsuc n) f = grind arith
