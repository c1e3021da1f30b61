-- Exactly 58 combinations of opcode and function are legal, and a word of any other answers 23.
use Prim.Native.Nat.{ℕ, zero, suc, ◌+◌}
use native.Mathlib.Omega.{arith}
use mathlib.Core.Path.{◌≡◌, refl, ◌∙◌}
use mathlib.Core.Bool.{Bool, true, false}
use mathlib.Core.List.{List, [], ◌∷◌}
use mathlib.Core.Option.{Option, none, some}
use Rattle.words.specs.Fields.{pick, opcode, function}
use Rattle.words.proofs.Signed.{false_true}
use Rattle.words.specs.Words.{form, instructions, reading, among, numbered}
use Rattle.words.specs.declared.Instruction.{Instruction}

-- Whether some instruction of a list has the number o, f
abbrev any : ℕ → ℕ → List Instruction → Bool
any o f [] = false
any o f (i ∷ is) = pick (numbered o f (form i)) true (any o f is)

abbrev pub legal : ℕ → ℕ → Bool
legal o f = any o f (instructions 0)

-- How many of the n numbers from lo on pass a test
abbrev pub count : (ℕ → Bool) → ℕ → ℕ → ℕ
count p lo zero = 0
count p lo (suc n) = pick (p lo) 1 0 + count p (suc lo) n

-- Opcode 00 has 26 functions; of the other 63 opcodes 32 are legal, whatever stands in the function's bits
pub functions : count (legal 0x00) 0 64 ≡ 26
functions = refl

pub opcodes : (f : ℕ) → count (λ o. legal o f) 1 63 ≡ 32
opcodes f = refl

pub exactly_58 : (f : ℕ) → count (legal 0x00) 0 64 + count (λ o. legal o f) 1 63 ≡ 58
exactly_58 f = refl

legal_among : (o f : ℕ) (is : List Instruction) → any o f is ≡ true → (i : Instruction) × (among o f is ≡ (0, some i))
legal_among o f [] e = absurd (false_true e)
legal_among o f (j ∷ is) e = by (numbered o f (form j)) (legal_among o f is) e
  where
    by : (t : Bool) → (any o f is ≡ true → (i : Instruction) × (among o f is ≡ (0, some i)))
        → pick t true (any o f is) ≡ true → (i : Instruction) × (pick {A = ℕ × Option Instruction} t (0, some j) (among o f is) ≡ (0, some i))
    by true next e = (j, refl)
    by false next e = next e

illegal_among : (o f : ℕ) (is : List Instruction) → any o f is ≡ false → among o f is ≡ (23, none)
illegal_among o f [] e = grind arith
illegal_among o f (j ∷ is) e = grind (arith, illegal_among o f is)

-- The fields do not matter to it
same_any : (o f w : ℕ) → any o f (instructions w) ≡ any o f (instructions 0)
same_any o f w = refl

-- A word of a legal number reads as an instruction, and any other word answers 23
pub legal_reads : (w : ℕ) → legal (opcode w) (function w) ≡ true → (i : Instruction) × (reading w ≡ (0, some i))
unfolding reading
legal_reads w e = legal_among (opcode w) (function w) (instructions w) (same_any (opcode w) (function w) w ∙ e)

pub illegal_answers_23 : (w : ℕ) → legal (opcode w) (function w) ≡ false → reading w ≡ (23, none)
unfolding reading
illegal_answers_23 w e = illegal_among (opcode w) (function w) (instructions w) (same_any (opcode w) (function w) w ∙ e)
