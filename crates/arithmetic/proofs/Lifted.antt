-- Words lifted by 2 ^ 31: their order is that of the numbers meant, and their quotients are those numbers', rounded down.
use Rattle.std.proofs.Common.{◌≡◌, ℕ, suc, ◌+◌, ◌-◌, ◌*◌, ◌/◌, ◌%◌, ◌^◌, ◌<◌, ◌≤◌, Bool, true, false, not, ltb, leb, ℤ, pos, negsuc, sym, refl, ap, ◌∙◌, subst, ap₂, mod-lt, div-lt_iff_lt-mul, add-mul, arith, pow_pos, pow_mono, pow-add, ltb-false, ltb-true, le-ltb, lt-ltb, le-leb}
use native.Mathlib.Nat.{add-mul-div_right}
use borrow.Author.Tests.{lt-leb}
use lib.Pow.{shl-shr, high, split}
use lib.Signed.{mag, lt_z, le_z, shr_z}
use Rattle.words.specs.Fields.{signed}
use Rattle.words.proofs.Halves.{signed_small, biased, lift_is}
use Rattle.arithmetic.specs.Rulings.{minus, integer, sext}

-- Two orders are one where each side follows
ordered : (a b c d : ℕ) → (a < b → c < d) → (b ≤ a → d ≤ c) → ltb c d ≡ ltb a b
ordered a b c d up down = by (ltb a b) refl
  where
    by : (t : Bool) → ltb a b ≡ t → ltb c d ≡ t
    by true e = lt-ltb c d (up (ltb-true a b e))
    by false e = le-ltb c d (down (ltb-false a b e))

-- Numbers lifted alike keep their order
lifted_order : (h : ℕ) (y z : ℤ) → mag y < h → mag z < h → ltb (biased h y) (biased h z) ≡ lt_z y z
lifted_order h (pos a) (pos b) p q = ordered a b (a + h) (b + h) (λ l. omega arith) (λ l. omega arith)
lifted_order h (pos a) (negsuc b) p q = le-ltb (a + h) (h - suc b) (omega arith)
lifted_order h (negsuc a) (pos b) p q = lt-ltb (h - suc a) (b + h) (omega arith)
lifted_order h (negsuc a) (negsuc b) p q = ordered b a (h - suc a) (h - suc b) (λ l. omega arith) (λ l. omega arith)

pub lifted_less : (a b : ℕ) → a < 2 ^ 32 → b < 2 ^ 32 → ltb ((a + 2 ^ 31) % 2 ^ 32) ((b + 2 ^ 31) % 2 ^ 32) ≡ lt_z (integer a) (integer b)
lifted_less a b la lb = ap₂ ltb (lift_is (2 ^ 31) a la) (lift_is (2 ^ 31) b lb) ∙ lifted_order (2 ^ 31) (integer a) (integer b) (signed_small (2 ^ 31) a la) (signed_small (2 ^ 31) b lb)

-- At most is not greater
leb_not : (a b : ℕ) → leb a b ≡ not (ltb b a)
leb_not a b = by (ltb b a) refl
  where
    by : (t : Bool) → ltb b a ≡ t → leb a b ≡ not t
    by true e = lt-leb a b (ltb-true b a e)
    by false e = le-leb a b (ltb-false b a e)

pub at_most : (y z : ℤ) → le_z y z ≡ not (lt_z z y)
at_most (pos a) (pos b) = leb_not a b
at_most (pos a) (negsuc b) = refl
at_most (negsuc a) (pos b) = refl
at_most (negsuc a) (negsuc b) = leb_not b a

-- A lifted number shifted to the right is the number divided and rounded down, lifted by what the lift has become
module _ (p q : ℕ) where
  shift_small : (z : ℤ) → mag z < q * 2 ^ p → mag (shr_z z (2 ^ p)) < q
  shift_small (pos n) l = (div-lt_iff_lt-mul (pow_pos p)).1 l
  shift_small (negsuc n) l = (div-lt_iff_lt-mul (pow_pos p)).1 l

  lifted_shift : (z : ℤ) → mag z < q * 2 ^ p → biased (q * 2 ^ p) z / 2 ^ p ≡ biased q (shr_z z (2 ^ p))
  lifted_shift (pos n) l = add-mul-div_right n q (pow_pos p)
  lifted_shift (negsuc n) l =
      let s : n / 2 ^ p < q = shift_small (negsuc n) l in
      ap (λ (x : ℕ). x / 2 ^ p) (told (q - suc (n / 2 ^ p)) (omega arith)) ∙ high (q - suc (n / 2 ^ p)) p (let m : n % 2 ^ p < 2 ^ p = mod-lt n (pow_pos p) in omega arith)
    where
      told : (k : ℕ) → q ≡ k + suc (n / 2 ^ p) → q * 2 ^ p - suc n ≡ k * 2 ^ p + (2 ^ p - suc (n % 2 ^ p))
      told k e =
          let m : n % 2 ^ p < 2 ^ p = mod-lt n (pow_pos p) in
          let d : n / 2 ^ p * 2 ^ p + n % 2 ^ p ≡ n = split n p in
          let t : q * 2 ^ p ≡ k * 2 ^ p + suc (n / 2 ^ p) * 2 ^ p = ap (λ (x : ℕ). x * 2 ^ p) e ∙ add-mul k (suc (n / 2 ^ p)) (2 ^ p) in
          omega arith

-- The lift taken off again, modulo 2 ^ 32, leaves the word of the number
pub lowered : (q : ℕ) (z : ℤ) → mag z < q → q ≤ 2 ^ 31 → minus (biased q z) q ≡ sext z
unfolding minus sext
lowered q (pos n) l s = omega arith
lowered q (negsuc n) l s = omega arith

-- A number below 2 h, its sign extended
pub extended_is : (h x : ℕ) → x < 2 * h → h ≤ 2 ^ 15 → minus ((x + h) % (2 * h)) h ≡ sext (signed h x)
extended_is h x b s = ap (λ (y : ℕ). minus y h) (lift_is h x b) ∙ lowered h (signed h x) (signed_small h x b) (omega arith)

-- The sign is copied: 2 ^ 31 is a whole number of each of the powers
pub copied : (x p : ℕ) → x < 2 ^ 32 → p < 32 → minus ((x + 2 ^ 31) % 2 ^ 32 / 2 ^ p) (2 ^ 31 / 2 ^ p) ≡ sext (shr_z (integer x) (2 ^ p))
copied x p h l = by (2 ^ (31 - p)) whole (pow_mono {j = 31} (omega arith))
  where
    whole : 2 ^ 31 ≡ 2 ^ (31 - p) * 2 ^ p
    whole = let e : 31 - p + p ≡ 31 = omega arith in ap (λ (k : ℕ). 2 ^ k) (sym e) ∙ pow-add 2 (31 - p) p

    by : (q : ℕ) → 2 ^ 31 ≡ q * 2 ^ p → q ≤ 2 ^ 31 → minus ((x + 2 ^ 31) % 2 ^ 32 / 2 ^ p) (2 ^ 31 / 2 ^ p) ≡ sext (shr_z (integer x) (2 ^ p))
    by q e s =
        let b : mag (integer x) < q * 2 ^ p = subst (λ (n : ℕ). mag (integer x) < n) e (signed_small (2 ^ 31) x h) in
        ap₂ minus
        (ap (λ (n : ℕ). n / 2 ^ p) (lift_is (2 ^ 31) x h ∙ ap (λ (n : ℕ). biased n (integer x)) e) ∙ lifted_shift p q (integer x) b)
        (ap (λ (n : ℕ). n / 2 ^ p) e ∙ shl-shr q p)
        ∙ lowered q (shr_z (integer x) (2 ^ p)) (shift_small p q (integer x) b) s
