-- The twenty instructions of the assembler machine.
use Rattle.std.proofs.Common.{◌≡◌, ℕ, ◌+◌, false, List, [], ◌∷◌, refl}
use Rattle.words.specs.Fields.{pick}
use Rattle.words.specs.Words.{instructions, shift_register_no, compare_immediate_no}
use Rattle.words.specs.declared.Instruction.{Instruction}
use Rattle.words.specs.declared.Shift.{Shift}
use Rattle.words.specs.declared.Shift.TheVariants.{Sll, Sla, Srl, Sra}
use Rattle.words.specs.declared.Comparison.{Comparison}
use Rattle.words.specs.declared.Comparison.TheVariants.{Sgr, Seq, Sge, Sls, Sne, Sle}
use Rattle.checker.specs.Checks.{admits, admits_function, admits_opcode}

-- How many of some instructions it runs
abbrev pub admitted_count : List Instruction → ℕ
admitted_count [] = 0
admitted_count (i ∷ is) = pick (admits i) 1 0 + admitted_count is

-- Of the 58, whatever their fields hold, it runs twenty
pub exactly_twenty : (w : ℕ) → admitted_count (instructions w) ≡ 20
unfolding admits
exactly_twenty w = refl

-- The shifts by a register and the comparisons with an immediate are none of them
pub no_shift : (s : Shift) → admits_function (shift_register_no s) ≡ false
no_shift Sll = refl
no_shift Sla = refl
no_shift Srl = refl
no_shift Sra = refl

pub no_comparison : (k : Comparison) → admits_opcode (compare_immediate_no k) ≡ false
no_comparison Sgr = refl
no_comparison Seq = refl
no_comparison Sge = refl
no_comparison Sls = refl
no_comparison Sne = refl
no_comparison Sle = refl
