-- Document 01, "Checked by hand": the starred cases, as one table. What a word does is said of a step of both machines.
use Rattle.std.specs.Prelude.{ℕ, ◌-◌, ◌≡◌, List, [], ◌∷◌, ◌++◌, pos, negsuc, length, replicate}
use Rattle.std.proofs.Math.Option.{some}
use Rattle.words.specs.Words.{reading}
use Rattle.words.specs.declared.Instruction.{Instruction}
use Rattle.words.specs.declared.Instruction.TheVariants.{Movi2s, ArithmeticRegister, CompareRegister, Trap, ArithmeticImmediate, Jr, Load}
use Rattle.words.specs.declared.Arithmetic.TheVariants.{Addo, Add}
use Rattle.words.specs.declared.Comparison.TheVariants.{Sge}
use Rattle.words.specs.declared.LoadKind.TheVariants.{Lw}
use Rattle.machine.specs.declared.Region.{Region}
use Rattle.machine.specs.Effects.{State, register, LINK}
use Rattle.machine.specs.Record.{DOUBLE_WORDS}
use Rattle.checker.specs.Checks.{violation, next}
use Rattle.vamp.specs.Events.{stepped}
use Rattle.vamp.specs.Steps.{vstep}

pub data Row : Type 0 where
  -- the word is the instruction
  reads : ℕ → Instruction → Row
  -- with these in R0, R1, R2, .. and 0 in the others, a step of the word leaves this in this register
  puts : ℕ → List ℕ → ℕ → ℕ → Row
  -- from DPC and PC' a step of the word leads to DPC, PC' and R31
  goes : ℕ → ℕ → ℕ → ℕ → ℕ → ℕ → Row

-- The state with these counters, and with these general registers before others that are 0
abbrev pub state : ℕ → ℕ → List ℕ → State
state dpc pc g = record { dpc = dpc; pc = pc; gpr = g ++ replicate (32 - length g) 0; spr = replicate 32 0 }

-- The word is all of the code, at address 0; there is no data
abbrev pub one_word : Region
one_word = record { start = 0; words = 1 }

abbrev pub no_words : Region
no_words = record { start = 4; words = 0 }

-- A step of the word from a state: the checker breaks no test and the VAMP answers 0 with an empty cause word, and what both leave has a property
pub record BothStep (w : ℕ) (s : State) (leaves : State → Type 0) : Type 0 where
  pub no_test : violation one_word no_words (w ∷ []) s ≡ 0
  pub drawn : leaves (next one_word no_words (w ∷ []) (s, [])).0
  pub no_event : (vstep (s, w ∷ replicate (DOUBLE_WORDS - 1) 0)).0 ≡ stepped 0
  pub shipped : leaves (vstep (s, w ∷ replicate (DOUBLE_WORDS - 1) 0)).1.0

abbrev pub Holds : Row → Type 0
Holds (reads w i) = reading w ≡ (0, some i)
Holds (puts w g n v) = BothStep w (state 0 4 g) (λ s. register s.gpr n ≡ v)
Holds (goes w d p d' p' r) = BothStep w (state d p []) (λ s. (s.dpc ≡ d') × (s.pc ≡ p') × (register s.gpr LINK ≡ r))

abbrev pub starred : List Row
starred =
    -- addi r1,r0,-4
    reads 0x2401FFFC (ArithmeticImmediate Add 1 0 (negsuc 3))
    -- lw r2,r1(8)
    ∷ reads 0x8C220008 (Load Lw 2 1 (pos 8))
    -- sge r3,r1,r2
    ∷ reads 0x0022182B (CompareRegister Sge 3 1 2)
    -- movi2s SPR[16],r1
    ∷ reads 0x00200411 (Movi2s 16 1)
    -- jr r31
    ∷ reads 0x5BE00000 (Jr 31)
    -- trap 5
    ∷ reads 0xF8000005 (Trap (pos 5))
    -- addo r1,r2,r3
    ∷ reads 0x00430820 (ArithmeticRegister Addo 1 2 3)
    -- sge of 80000000 and 1 gives 0, of 2 and 1 gives 1
    ∷ puts 0x0022182B (0 ∷ 0x80000000 ∷ 1 ∷ 7 ∷ []) 3 0
    ∷ puts 0x0022182B (0 ∷ 2 ∷ 1 ∷ []) 3 1
    -- andi of FFFFFFFF with imm field 8000 (-32,768) gives FFFF8000: andi r2,r1,-32768
    ∷ puts 0x30228000 (0 ∷ 0xFFFFFFFF ∷ []) 2 0xFFFF8000
    -- DPC 0, PC' 4, word 0C000008 (jal 8): then DPC 4, PC' 12, R31 = 8
    ∷ goes 0x0C000008 0 4 4 12 8
    ∷ []

abbrev pub Each : List Row → Type 0
Each [] = Unit {0}
Each (r ∷ rs) = Holds r × Each rs
