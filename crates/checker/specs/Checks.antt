-- Document 01, "Words" (its last paragraph) and "Tests of a checked step": what the assembler machine runs, the seven tests, and the step.
use Rattle.std.specs.Prelude.{ℕ, ◌-◌, ◌/◌, Bool, false, not, List, [], ◌∷◌, slice_set}
use Rattle.std.proofs.Math.Option.{none, some}
use Rattle.words.specs.Words.{Form, form_r, form_i, form_j, form, reading}
use Rattle.words.specs.declared.Instruction.{Instruction}
use Rattle.machine.specs.declared.Effect.{Effect}
use Rattle.machine.specs.declared.Effect.TheVariants as does
use Rattle.machine.specs.declared.Region.{Region}
use Rattle.machine.specs.Effects.{one_of, State, act, moved, illegal, access, unaligned, askew, mode_set}
use Rattle.machine.specs.Record.{holds, word_at, first}
use Rattle.checker.specs.declared.Test.{Test}
use Rattle.checker.specs.declared.Test.TheVariants.{Misaligned, Outside, Illegal, Foreign, Askew, Beyond, Mode}

-- ---- The assembler machine runs only: lw, sw, movs2i, movi2s, add, sub, slli, srli, addi, lhgi, andi, ori, xori, sne, sgr, sge, beqz, bnez, jal, jr

-- The opcodes of the I and J words among them: lw, sw, addi, lhgi, andi, ori, xori, beqz, bnez, jal, jr
abbrev pub admits_opcode : ℕ → Bool
admits_opcode n = one_of n (0x23 ∷ 0x2B ∷ 0x09 ∷ 0x0F ∷ 0x0C ∷ 0x0D ∷ 0x0E ∷ 0x04 ∷ 0x05 ∷ 0x03 ∷ 0x16 ∷ [])

-- The functions of the R words among them: movs2i, movi2s, add, sub, slli, srli, sne, sgr, sge
abbrev pub admits_function : ℕ → Bool
admits_function n = one_of n (0x10 ∷ 0x11 ∷ 0x21 ∷ 0x23 ∷ 0x00 ∷ 0x02 ∷ 0x2D ∷ 0x29 ∷ 0x2B ∷ [])

abbrev pub admits_form : Form → Bool
admits_form (form_r a b d s n) = admits_function n
admits_form (form_i n a d m) = admits_opcode n
admits_form (form_j n m) = admits_opcode n

unfoldable pub admits : Instruction → Bool
admits i = admits_form (form i)

-- ---- The tests, of a word w and its effect e

-- 23: the word is illegal is `illegal` of the word
-- 24: the word is legal but not one the assembler machine runs
unfoldable pub foreign : ℕ → Bool
foreign w = elim (reading w).1 [ some i ↦ not (admits i) | none ↦ false ]

-- 25: lw or sw, ea not a multiple of 4 (the size of both) is `askew` of the effect
-- 26: lw or sw, ea outside the data region
unfoldable pub outside : Region → Effect → Bool
outside d e = elim (access e) [ some p ↦ not (holds d p.1) | none ↦ false ]

-- 27: movi2s to MODE of a value other than 0 is `mode_set` of the effect

-- The word at DPC, of the code region c
abbrev pub fetched : Region → List ℕ → State → ℕ
fetched c code s = word_at c code s.dpc

-- The tests with their numbers, in the document's order
abbrev pub table : Region → Region → List ℕ → State → List (Bool × ℕ)
table c d code s =
    let w = fetched c code s in
    let e = (act w s).0 in
    (unaligned 4 s.dpc, 21)
    ∷ (not (holds c s.dpc), 22)
    ∷ (illegal w, 23)
    ∷ (foreign w, 24)
    ∷ (askew e, 25)
    ∷ (outside d e, 26)
    ∷ (mode_set e, 27)
    ∷ []

-- The number of each test
abbrev pub test_no : Test → ℕ
test_no Misaligned = 21
test_no Outside = 22
test_no Illegal = 23
test_no Foreign = 24
test_no Askew = 25
test_no Beyond = 26
test_no Mode = 27

-- The number of the first test that the step would break, 0 where it breaks none
unfoldable pub violation : Region → Region → List ℕ → State → ℕ
violation c d code s = first (table c d code s) 0

-- ---- The step

-- What a load finds in the data, and the data after a store
unfoldable pub found : Region → List ℕ → Effect → ℕ
found d ws (does.Put n x) = 0
found d ws (does.PutSpecial n x) = 0
found d ws (does.Sum n x o) = 0
found d ws (does.Load k n a) = word_at d ws a
found d ws (does.Store k a x) = 0
found d ws (does.Trap z) = 0
found d ws does.Return = 0
found d ws does.Nothing = 0

unfoldable pub left : Region → List ℕ → Effect → List ℕ
left d ws (does.Put n x) = ws
left d ws (does.PutSpecial n x) = ws
left d ws (does.Sum n x o) = ws
left d ws (does.Load k n a) = ws
left d ws (does.Store k a x) = slice_set ws ((a - d.start) / 4) x
left d ws (does.Trap z) = ws
left d ws does.Return = ws
left d ws does.Nothing = ws

-- State and data after a step that breaks no test
unfoldable pub next : Region → Region → List ℕ → State × List ℕ → State × List ℕ
next c d code p =
    let w = fetched c code p.0 in
    let e = (act w p.0).0 in
    (moved w (found d p.1 e) p.0, left d p.1 e)
