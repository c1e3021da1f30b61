-- A range of 2 h numbers with its two halves exchanged: half the range added to each number, and then a number has no sign.
use Prim.Native.Nat.{ℕ, suc, ◌+◌, ◌-◌, ◌*◌, ◌%◌, ◌^◌, ◌≤◌, ◌<◌}
use mathlib.Core.Path.{◌≡◌, refl, ◌∙◌}
use mathlib.Core.Bool.{Bool, true, false}
use native.Mathlib.Nat.{mod-lt, mod-eq_of_lt, mod-eq-sub-mod}
use native.Mathlib.Omega.{arith}
use borrow.Author.Tests.{ltb-true, ltb-false}
use lib.Dec.{ltb}
use lib.IntN.{ℤ, pos, negsuc, ◌+ℤ◌, ◌-ℤ◌, nat_abs}
use lib.Signed.{mag}
use mir.Syntax.{w32}
use mir.Val.{to_z, of_z}
use mir.Facts.{to_z-of_z}
use Rattle.std.proofs.lemmas.Int.{ints}
use Rattle.words.specs.Fields.{signed}
use Rattle.words.specs.Words.{used, modulus}
use Rattle.words.proofs.Signed.{signed_low, signed_high}

-- A field means a number that lies at most half the range from nothing
pub signed_small : (h x : ℕ) → x < 2 * h → mag (signed h x) < h
signed_small h x b = by (ltb x h) refl
  where
    by : (s : Bool) → ltb x h ≡ s → mag (signed h x) < h
    by true e = rw (signed_low h x (ltb-true x h e)) (ltb-true x h e)
    by false e =
        let p : h ≤ x = ltb-false x h e in
        rw (signed_high h x (2 * h - suc x) p (omega arith)) (omega arith)

-- Half the range added to a number of the range, by the number's sign
abbrev pub biased : ℕ → ℤ → ℕ
biased h (pos n) = n + h
biased h (negsuc n) = h - suc n

-- With the two halves of its range exchanged a field is what it means, and half the range
pub lift_is : (h x : ℕ) → x < 2 * h → (x + h) % (2 * h) ≡ biased h (signed h x)
lift_is h x b = by (ltb x h) refl
  where
    by : (s : Bool) → ltb x h ≡ s → (x + h) % (2 * h) ≡ biased h (signed h x)
    by true e =
        let p : x < h = ltb-true x h e in
        rw (signed_low h x p) (mod-eq_of_lt (omega arith))
    by false e =
        let p : h ≤ x = ltb-false x h e in
        rw (signed_high h x (2 * h - suc x) p (omega arith)) (mod-eq-sub-mod (omega arith) ∙ mod-eq_of_lt (omega arith) ∙ omega arith)

-- So half the range taken off again is what the field means
pub turned_reads : (h w : ℕ) → 0 < h → h ≤ 2 ^ 30 → to_z w32 (of_z w32 (to_z w32 ((w % (2 * h) + h) % (2 * h)) -ℤ to_z w32 h)) ≡ signed h (w % (2 * h))
turned_reads h w l s =
    let b : w % (2 * h) < 2 * h = mod-lt w (omega arith) in
    rw (lift_is h (w % (2 * h)) b) (by (signed h (w % (2 * h))) (signed_small h (w % (2 * h)) b))
  where
    by : (z : ℤ) → mag z < h → to_z w32 (of_z w32 (to_z w32 (biased h z) -ℤ to_z w32 h)) ≡ z
    by (pos n) m = omega (arith, ints)
    by (negsuc n) m = omega (arith, ints)

-- A number in the range of an i32 is kept by its bits
pub kept : (z : ℤ) → mag z < 2 ^ 31 → to_z w32 (of_z w32 z) ≡ z
kept z h = to_z-of_z {w = w32} {z = z} (record { sfits = h })

-- What is made of a number
module _ (h : ℕ) (z : ℤ) (small : mag z < h) (s : h ≤ 2 ^ 25) where
  -- Half the range added to it is no less than nothing, so that its cast keeps it
  pub biased_is : to_z w32 (of_z w32 (to_z w32 (of_z w32 z) +ℤ to_z w32 h)) ≡ pos (biased h z)
  biased_is = by z small
    where
      by : (z : ℤ) → mag z < h → to_z w32 (of_z w32 (to_z w32 (of_z w32 z) +ℤ to_z w32 h)) ≡ pos (biased h z)
      by (pos n) l = rw (kept (pos n) (omega arith)) (omega (arith, ints))
      by (negsuc n) l = rw (kept (negsuc n) (omega arith)) (omega (arith, ints))

  -- With the two halves exchanged once more it is the number modulo the range
  pub modulus_is : (biased h z + h) % (2 * h) ≡ modulus (2 * h) (used z)
  modulus_is = by z small
    where
      by : (z : ℤ) → mag z < h → (biased h z + h) % (2 * h) ≡ modulus (2 * h) (used z)
      by (pos n) l = mod-eq-sub-mod (omega arith) ∙ mod-eq_of_lt (omega arith) ∙ omega arith
      by (negsuc n) l = mod-eq_of_lt (omega arith) ∙ omega arith

  -- So half the range added twice, modulo the range, is the field that is made
  pub made_is : (nat_abs (to_z w32 (of_z w32 (to_z w32 (of_z w32 z) +ℤ to_z w32 h))) + h) % (2 * h) ≡ modulus (2 * h) (used z)
  made_is = rw biased_is modulus_is
