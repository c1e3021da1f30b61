-- What a word does, by its reading.
use Rattle.std.proofs.Common.{◌≡◌, ℕ, Bool, true, false, ◌⊎◌, refl, inl, inr}
use mathlib.Core.Option.{none, some}
use Rattle.words.specs.Fields.{opcode, function}
use Rattle.words.specs.Words.{reading}
use Rattle.words.specs.declared.Instruction.{Instruction}
use Rattle.words.proofs.Legal.{legal, legal_reads, illegal_answers_23}
use Rattle.arithmetic.specs.Rulings.{plus}
use Rattle.machine.specs.declared.Effect.TheVariants as does
use Rattle.machine.specs.Effects.{State, act, meaning, illegal}

-- A word is legal, and means an instruction, or it is not
pub word_reads : (w : ℕ) → ((i : Instruction) × (reading w ≡ (0, some i))) ⊎ (reading w ≡ (23, none))
word_reads w = by (legal (opcode w) (function w)) refl
  where
    by : (t : Bool) → legal (opcode w) (function w) ≡ t → ((i : Instruction) × (reading w ≡ (0, some i))) ⊎ (reading w ≡ (23, none))
    by true e = inl (legal_reads w e)
    by false e = inr (illegal_answers_23 w e)

module _ (w : ℕ) (s : State) where
  pub act_reads : (i : Instruction) → reading w ≡ (0, some i) → act w s ≡ meaning i s.pc s.gpr s.spr
  unfolding act
  act_reads i e = rw (e, act)

  pub act_illegal : reading w ≡ (23, none) → act w s ≡ (does.Nothing, plus s.pc 4)
  unfolding act
  act_illegal e = rw (e, act)

pub legal_not : (w : ℕ) (i : Instruction) → reading w ≡ (0, some i) → illegal w ≡ false
unfolding illegal
legal_not w i e = rw e

pub illegal_yes : (w : ℕ) → reading w ≡ (23, none) → illegal w ≡ true
unfolding illegal
illegal_yes w e = rw e
