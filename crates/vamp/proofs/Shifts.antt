-- What the code shifts: nothing is lost where a part lies inside a double word.
use Prim.Native.Nat.{ℕ, ◌+◌, ◌-◌, ◌*◌, ◌/◌, ◌%◌, ◌^◌, ◌≤◌, ◌<◌}
use mathlib.Core.Path.{◌≡◌, sym, ap, ◌∙◌}
use native.Mathlib.Nat.{mod-lt, add-mul}
use native.Mathlib.Omega.{arith}
use lib.Pow.{pow_pos, shl_exact, shr-shr, split}
use Rattle.vamp.specs.Memory.{patch}
use Rattle.vamp.proofs.Memory.{patch_below}

-- The range of a part of b bits
pub range_is : (b : ℕ) → b ≤ 32 → 1 * 2 ^ b % 2 ^ 64 ≡ 2 ^ b
range_is b l = let p : 1 * 2 ^ b % 2 ^ 64 ≡ 1 * 2 ^ b = shl_exact 1 b 64 (omega arith) (omega arith) in omega arith

-- A double word as what stands above a part, the part and what stands below it
module _ (b k x v : ℕ) (lb : b ≤ 32) (lk : 8 * k + b ≤ 64) (lx : x < 2 ^ 64) where
  abbrev old : ℕ
  old = x / 2 ^ (8 * k) % (1 * 2 ^ b % 2 ^ 64)

  abbrev new : ℕ
  new = v % (1 * 2 ^ b % 2 ^ 64)

  shifted_old : old * 2 ^ (8 * k) % 2 ^ 64 ≡ x / 2 ^ (8 * k) % 2 ^ b * 2 ^ (8 * k)
  shifted_old = rw (range_is b lb) (shl_exact b (8 * k) 64 (mod-lt (x / 2 ^ (8 * k)) (pow_pos b)) (omega arith))

  shifted_new : new * 2 ^ (8 * k) % 2 ^ 64 ≡ v % 2 ^ b * 2 ^ (8 * k)
  shifted_new = rw (range_is b lb) (shl_exact b (8 * k) 64 (mod-lt v (pow_pos b)) (omega arith))

  laid : x ≡ x / 2 ^ (8 * k + b) * 2 ^ b * 2 ^ (8 * k) + x / 2 ^ (8 * k) % 2 ^ b * 2 ^ (8 * k) + x % 2 ^ (8 * k)
  laid =
      sym (split x (8 * k))
      ∙ ap (λ (y : ℕ). y * 2 ^ (8 * k) + x % 2 ^ (8 * k)) (sym (split (x / 2 ^ (8 * k)) b) ∙ ap (λ (y : ℕ). y * 2 ^ b + x / 2 ^ (8 * k) % 2 ^ b) (shr-shr x (8 * k) b))
      ∙ ap (λ (y : ℕ). y + x % 2 ^ (8 * k)) (add-mul (x / 2 ^ (8 * k + b) * 2 ^ b) (x / 2 ^ (8 * k) % 2 ^ b) (2 ^ (8 * k)))

  patch_is : patch b k x v ≡ x / 2 ^ (8 * k + b) * 2 ^ b * 2 ^ (8 * k) + v % 2 ^ b * 2 ^ (8 * k) + x % 2 ^ (8 * k)
  unfolding patch
  patch_is = ap (λ (y : ℕ). y + x % 2 ^ (8 * k)) (add-mul (x / 2 ^ (8 * k + b) * 2 ^ b) (v % 2 ^ b) (2 ^ (8 * k)))

  -- With the new part for the old one the double word is the one that is meant
  pub patched_is : x - old * 2 ^ (8 * k) % 2 ^ 64 + new * 2 ^ (8 * k) % 2 ^ 64 ≡ patch b k x v
  patched_is = let p = shifted_old in let q = shifted_new in let r = laid in let s = patch_is in omega arith

  pub patched_fits : x - old * 2 ^ (8 * k) % 2 ^ 64 + new * 2 ^ (8 * k) % 2 ^ 64 < 2 ^ 64
  patched_fits = rw patched_is (patch_below b k 64 x v lx lk)
