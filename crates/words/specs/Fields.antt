-- Document 01, "Words": where the fields of a word stand. All words have 32 bits.
use Rattle.std.specs.Prelude.{ℕ, ◌*◌, ◌/◌, ◌%◌, ◌^◌, Bool, true, false, ltb, ℤ, pos, ◌-ℤ◌}

-- One of two by a test
abbrev pub pick {ℓ} : {A : Type ℓ} → Bool → A → A → A
pick true a b = a
pick false a b = b

-- Bits 31..26
unfoldable pub opcode : ℕ → ℕ
opcode w = w / 2 ^ 26

-- Bits 5..0 of an R word
unfoldable pub function : ℕ → ℕ
function w = w % 2 ^ 6

-- The five bits of a word from bit k on
unfoldable pub field : ℕ → ℕ → ℕ
field k w = w / 2 ^ k % 2 ^ 5

-- Bits 25..21
abbrev pub rs1 : ℕ → ℕ
rs1 w = field 21 w

-- Bits 20..16: RD of an I word, RS2 of an R word
abbrev pub second : ℕ → ℕ
second w = field 16 w

-- Bits 15..11: RD of an R word
abbrev pub third : ℕ → ℕ
third w = field 11 w

-- Bits 10..6: SA of an R word
abbrev pub amount : ℕ → ℕ
amount w = field 6 w

-- The whole number that x means in two's complement of twice h numbers: x, and x - 2 h from h on
abbrev pub signed : ℕ → ℕ → ℤ
signed h x = pick (ltb x h) (pos x) (pos x -ℤ pos (2 * h))

-- Bits 15..0 of an I word
unfoldable pub immediate16 : ℕ → ℤ
immediate16 w = signed (2 ^ 15) (w % 2 ^ 16)

-- Bits 25..0 of a J word
unfoldable pub immediate26 : ℕ → ℤ
immediate26 w = signed (2 ^ 25) (w % 2 ^ 26)
