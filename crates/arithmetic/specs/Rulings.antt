-- Document 01, "What an instruction does": the rulings on words of 32 bits.
use Rattle.std.specs.Prelude.{ℕ, ◌+◌, ◌-◌, ◌*◌, ◌/◌, ◌%◌, ◌^◌, Bool, not, ◌&&◌, ℤ, pos, negsuc, neg_ℤ, ◌==◌, int_le, int_lt}
use Rattle.std.specs.Int.Signed.{shr_z}
use Rattle.words.specs.Fields.{pick, signed}
use Rattle.words.specs.declared.Shift.{Shift}
use Rattle.words.specs.declared.Shift.TheVariants.{Sll, Sla, Srl, Sra}
use Rattle.words.specs.declared.Comparison.{Comparison}
use Rattle.words.specs.declared.Comparison.TheVariants.{Sgr, Seq, Sge, Sls, Sne, Sle}

-- Sums and differences are taken modulo 2 ^ 32
unfoldable pub plus : ℕ → ℕ → ℕ
plus a b = (a + b) % 2 ^ 32

unfoldable pub minus : ℕ → ℕ → ℕ
minus a b = (a + (2 ^ 32 - b)) % 2 ^ 32

-- The number that a word means in two's complement
abbrev pub integer : ℕ → ℤ
integer x = signed (2 ^ 31) x

-- An immediate, sign-extended: the whole number modulo 2 ^ 32
unfoldable pub sext : ℤ → ℕ
sext (pos n) = n
sext (negsuc n) = 2 ^ 32 - (n + 1)

-- lhg takes the low 16 bits of RS1 times 65,536
unfoldable pub high : ℕ → ℕ
high x = x % 2 ^ 16 * 65536

-- Shifts use the low five bits of the amount. slai and sla shift as slli and sll; srai and sra copy the sign: the number is divided and rounded down
unfoldable pub shifted : Shift → ℕ → ℕ → ℕ
shifted Sll x n = x * 2 ^ (n % 32) % 2 ^ 32
shifted Sla x n = x * 2 ^ (n % 32) % 2 ^ 32
shifted Srl x n = x / 2 ^ (n % 32)
shifted Sra x n = sext (shr_z (integer x) (2 ^ (n % 32)))

-- Comparisons read both sides as two's complement: whether a and b satisfy one
unfoldable pub satisfies : Comparison → ℕ → ℕ → Bool
satisfies Sgr a b = int_lt (integer b) (integer a)
satisfies Seq a b = a == b
satisfies Sge a b = int_le (integer b) (integer a)
satisfies Sls a b = int_lt (integer a) (integer b)
satisfies Sne a b = not (a == b)
satisfies Sle a b = int_le (integer a) (integer b)

-- A comparison gives 1 where it holds, else 0
abbrev pub bit : Bool → ℕ
bit b = pick b 1 0

abbrev pub compared : Comparison → ℕ → ℕ → ℕ
compared k a b = bit (satisfies k a b)

-- A signed result below -2 ^ 31 or above 2 ^ 31 - 1
abbrev pub beyond : ℤ → Bool
beyond z = not (int_le (neg_ℤ (pos (2 ^ 31))) z && int_le z (pos (2 ^ 31 - 1)))
