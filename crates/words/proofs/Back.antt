-- A made word reads back as the instruction that it was made from.
use Prim.Native.Nat.{ℕ, suc, ◌+◌, ◌-◌, ◌*◌, ◌%◌, ◌^◌, ◌<◌}
use mathlib.Core.Path.{◌≡◌, ap, ◌∙◌}
use mathlib.Core.Bool.{true, ◌&&◌}
use mathlib.Core.Option.{some}
use native.Mathlib.Omega.{arith}
use lib.IntN.{ℤ, pos, negsuc}
use lib.Signed.{mag}
use Rattle.words.specs.Fields.{opcode, function, field, rs1, second, third, amount, signed, immediate16, immediate26}
use Rattle.words.specs.Words.{Field, used, unused, Form, form_r, form_i, form_j, form, reading, making, laid, fits, word, small, ranged, number, modulus}
use Rattle.words.specs.declared.Instruction.{Instruction}
use Rattle.words.proofs.Signed.{signed_low, signed_high, ranged_mag, modulus_below}
use Rattle.words.proofs.Numbering.{filled, leads, both, op, fn}

-- A number of the range, modulo the range, means itself again
signed_back : (h : ℕ) (z : ℤ) → mag z < h → signed h (modulus (2 * h) (used z)) ≡ z
signed_back h (pos n) l = signed_low h n l
signed_back h (negsuc n) l = signed_high h (2 * h - (n + 1)) n (omega arith) (omega arith)

-- A word holds the fields of a form
abbrev Means : Field ℤ → ℤ → Type 0
Means (used z) x = x ≡ z
Means unused x = Unit {0}

abbrev Holds : Form → ℕ → Type 0
Holds (form_r a b d s n) w = (opcode w ≡ 0) × (rs1 w ≡ number a) × (second w ≡ number b) × (third w ≡ number d) × (amount w ≡ number s) × (function w ≡ n)
Holds (form_i n a d m) w = (opcode w ≡ n) × (rs1 w ≡ number a) × (second w ≡ number d) × Means m (immediate16 w)
Holds (form_j n m) w = (opcode w ≡ n) × Means m (immediate26 w)

small_below : (a : Field ℕ) → small a ≡ true → number a < 32
small_below a e = grind arith

modulus_range : (k : ℕ) (m : Field ℤ) → ranged (suc k) m ≡ true → modulus (2 * suc k) m < 2 * suc k
modulus_range k (used z) e = modulus_below (suc k) z (let l = ranged_mag k z e in omega arith)
modulus_range k unused e = omega arith

means : (k : ℕ) (m : Field ℤ) (z : ℤ) → ranged (suc k) m ≡ true → z ≡ signed (suc k) (modulus (2 * suc k) m) → Means m z
means k (used v) z e q = q ∙ signed_back (suc k) v (let l = ranged_mag k v e in omega arith)
means k unused z e q = tt

-- The word of a form that fits holds its fields
holds : (f : Form) → fn f 0 < 64 → fits f ≡ true → Holds f (word f)
unfolding opcode function field immediate16 immediate26
holds (form_r a b d s n) l e =
    let p = both (small a && small b && small d) (small s) e in
    let q = both (small a && small b) (small d) p.0 in
    let r = both (small a) (small b) q.0 in
    let A = small_below a r.0 in
    let B = small_below b r.1 in
    let D = small_below d q.1 in
    let S = small_below s p.1 in
    (omega arith, omega arith, omega arith, omega arith, omega arith, omega arith)
holds (form_i n a d m) l e =
    let p = both (small a && small d) (ranged (2 ^ 15) m) e in
    let q = both (small a) (small d) p.0 in
    let A = small_below a q.0 in
    let D = small_below d q.1 in
    let X = modulus_range 32767 m p.1 in
    let R : word (form_i n a d m) % 2 ^ 16 ≡ modulus (2 ^ 16) m = omega arith in
    (omega arith, omega arith, omega arith, means 32767 m _ p.1 (ap (signed (2 ^ 15)) R))
holds (form_j n m) l e =
    let X = modulus_range 33554431 m e in
    let R : word (form_j n m) % 2 ^ 26 ≡ modulus (2 ^ 26) m = omega arith in
    (omega arith, means 33554431 m _ e (ap (signed (2 ^ 25)) R))

holds_opcode : (f : Form) (w : ℕ) → Holds f w → opcode w ≡ op f
holds_opcode f w p = grind arith

holds_function : (f : Form) (w : ℕ) → Holds f w → function w ≡ fn f (function w)
holds_function f w p = grind arith

-- A function number has six bits
six_bits : (i : Instruction) → fn (form i) 0 < 64
six_bits i = grind arith

-- An instruction filled from a word that holds its fields is itself
same : (i : Instruction) (w : ℕ) → Holds (form i) w → filled i w ≡ i
same i w p = grind arith

-- Its own word reads back
word_reads : (i : Instruction) → fits (form i) ≡ true → reading (word (form i)) ≡ (0, some i)
word_reads i e =
    let w = word (form i) in
    let p : Holds (form i) w = holds (form i) (six_bits i) e in
    leads i w (holds_opcode (form i) w p) (holds_function (form i) w p) ∙ ap (λ (j : Instruction). (0, some j)) (same i w p)

pub back : (i : Instruction) (w : ℕ) → making i ≡ (0, some w) → reading w ≡ (0, some i)
unfolding laid
back i w e = grind (arith, word_reads i)
