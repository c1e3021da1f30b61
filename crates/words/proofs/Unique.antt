-- Two results that meet one promise are equal: the paper's number and values determine the answer.
use Prim.Native.Nat.{ℕ}
use native.Mathlib.Omega.{arith}
use mathlib.Core.Path.{◌≡◌, sym, ap, ◌∙◌}
use Rattle.std.specs.Prelude as rust
use Rattle.words.specs.Words.{reading, reading_answer, making, made_answer}
use Rattle.words.specs.Touches.{Touch, reads_of, writes_of, touches_of_lem}
use Rattle.words.specs.declared.Instruction.{Instruction}
use Rattle.words.specs.declared.Reads.{Reads}
use Rattle.words.specs.declared.Special.{Special}
use Rattle.words.specs.declared.Touches.{Touches}

pub reading_decides : (r s : rust.Option Instruction) → reading_answer r ≡ reading_answer s → r ≡ s
reading_decides r s e = grind arith

pub made_decides : (r s : rust.Option ℕ) → made_answer r ≡ made_answer s → r ≡ s
made_decides r s e = grind arith

pub read_unique : (w : ℕ) (r s : rust.Option Instruction) → reading_answer r ≡ reading w → reading_answer s ≡ reading w → r ≡ s
read_unique w r s p q = reading_decides r s (p ∙ sym q)

pub make_unique : (i : Instruction) (r s : rust.Option ℕ) → made_answer r ≡ making i → made_answer s ≡ making i → r ≡ s
make_unique i r s p q = made_decides r s (p ∙ sym q)

-- ---- What a word touches

reads_decide : (r s : Reads) → reads_of r ≡ reads_of s → r ≡ s
reads_decide r s e = grind arith

writes_decide : (r s : rust.Option ℕ) → writes_of r ≡ writes_of s → r ≡ s
writes_decide r s e = grind arith

pub touches_decide : (r s : Touches) → touches_of_lem r ≡ touches_of_lem s → r ≡ s
touches_decide r s e =
    ap (λ (x : Reads). made x r.writes r.special) (reads_decide r.reads s.reads (ap (λ (t : Touch). t.0) e))
    ∙ ap (λ (x : rust.Option ℕ). made s.reads x r.special) (writes_decide r.writes s.writes (ap (λ (t : Touch). t.1) e))
    ∙ ap (made s.reads s.writes) (ap (λ (t : Touch). t.2) e)
  where
    made : Reads → rust.Option ℕ → Special → Touches
    made x y z = record { reads = x; writes = y; special = z }
