-- What the judge says, over the definitions of the run: a loaded card is never refused by the run, and every ruling of the judge is one that its line determines.
use Prim.Native.Nat.{ℕ, ◌^◌, ◌<◌}
use mathlib.Core.Path.{◌≡◌, refl, sym, ap, ◌∙◌}
use mathlib.Core.Bool.{Bool, true, false}
use mathlib.Core.List.{List}
use mathlib.Core.Logic.{◌⊎◌, inl, inr}
use native.Mathlib.Omega.{arith}
use borrow.Author.Tests.{eqb-true, eqb-false, ne_eqb, lt-ltb}
use lib.Dec.{eqb}
use lib.ListN.{length, get_or}
use Rattle.machine.specs.declared.Machine.{Machine}
use Rattle.machine.specs.declared.Region.{Region}
use Rattle.machine.specs.Effects.{State}
use Rattle.machine.specs.Record.{DOUBLE_WORDS, LONGEST, state_of, with_state}
use Rattle.checker.specs.declared.At.{At}
use Rattle.checker.specs.Checks.{violation}
use Rattle.checker.specs.Runs.{running, runs, taking, run_refusal, after}
use Rattle.checker.proofs.Theorems.{Fine, First, ends, accepts, stops_at}
use Rattle.card.specs.Card.{record_of_lem, code_buffer, data_buffer}
use Rattle.card.proofs.Accepted.{Passes, accepted}
use Rattle.card.proofs.Memory.{code_length, data_length}
use Rattle.judge.specs.declared.Ruling.{Ruling}
use Rattle.judge.specs.declared.Ruling.TheVariants.{Refused, Accepted, Violation}
use Rattle.judge.specs.Judging.{answer_of, ruled, refused_by, judging}
use Rattle.judge.specs.declared.lines.Line.{Line}
use Rattle.judge.specs.Line.{line_of, text_of}
use Rattle.judge.proofs.Ruled.{judging_refused, judging_accepted}
use Rattle.judge.proofs.Decides.{Words, Proper, line_decides}

-- The run of a record's own steps
abbrev pub steps_of : List ℕ → (ℕ × List ℕ) × (State × List ℕ)
steps_of card = let m = record_of_lem card in running m.code m.«data» (code_buffer card) 0 m.limit (state_of m, data_buffer card)

-- No test of the run refuses a loaded record
run_open : (m : Machine) (c d : ℕ) → c ≡ LONGEST → d ≡ LONGEST → Passes m → run_refusal m c d ≡ 0
unfolding run_refusal
run_open m c d e f p = rw (e, f, p.counts, p.starts, p.within, p.apart, p.zero, p.limit)

open_run : (m : Machine) (code ws : List ℕ) → run_refusal m (length code) (length ws) ≡ 0
    → runs m code ws ≡ (let o = running m.code m.«data» code 0 m.limit (state_of m, ws) in (o.0, with_state m o.1.0, o.1.1))
unfolding taking
open_run m code ws e = rw e

-- So a card that is not refused is answered by its steps, accepted with the DPC that they leave
pub judged : (card : List ℕ) → refused_by card ≡ 0 → judging card ≡ ruled (steps_of card).0 (steps_of card).1.0.dpc
judged card e =
    let p = (accepted card LONGEST LONGEST DOUBLE_WORDS e).passes in
    let r = run_open (record_of_lem card) (length (code_buffer card)) (length (data_buffer card)) (code_length card) (data_length card) p in
    let s = open_run (record_of_lem card) (code_buffer card) (data_buffer card) r in
    sym (judging_accepted card e) ∙ ap (λ (t : (ℕ × List ℕ) × Machine × List ℕ). ruled t.0 t.1.dpc) s

-- A violation of 21 or 22 tells no word, which is written 0: value 2 of the answer
abbrev Untold : ℕ × List ℕ → Type 0
Untold o = o.0 < 23 → get_or o.1 2 0 ≡ 0

untold_running : (c d : Region) (code : List ℕ) (n dpc : ℕ) (p : State × List ℕ) → Untold (ruled (running c d code 0 n p).0 dpc)
untold_running c d code n dpc p = by (ends c d code n p)
  where
    by : Fine c d code n p ⊎ First c d code n p → Untold (ruled (running c d code 0 n p).0 dpc)
    by (inl f) = rw (accepts c d code 0 n p f) (λ l. refl)
    by (inr f) =
        let v = violation c d code (after c d code f.0 p).0 in
        let z = f.3 in
        rw (stops_at c d code 0 n f.0 v p f.1 f.2 refl f.3, ne_eqb v 0 (omega arith)) (λ l. rw (lt-ltb v 23 l))

untold : (card : List ℕ) → Untold (judging card)
untold card = by (eqb (refused_by card) 0) refl
  where
    by : (t : Bool) → eqb (refused_by card) 0 ≡ t → Untold (judging card)
    by true e =
        let m = record_of_lem card in
        rw (judged card (eqb-true (refused_by card) 0 e)) (untold_running m.code m.«data» (code_buffer card) m.limit (steps_of card).1.0.dpc (state_of m, data_buffer card))
    by false e = rw (sym (judging_refused card (refused_by card) refl (eqb-false (refused_by card) 0 e))) (λ l. refl)

-- What the judge gives as a violation of 21 or 22 has word 0, so that its line determines it (Decides, Proper)
pub told_judged : (card : List ℕ) (v : ℕ) (a : At) → answer_of (Violation v a) ≡ judging card → v < 23 → a.word ≡ 0
told_judged card v a e l = ap (λ (o : ℕ × List ℕ). get_or o.1 2 0) e ∙ untold card (rw (sym e) l)

-- Every value is a number of 32 bits, as the type has it
abbrev pub Sized : Ruling → Type 0
Sized (Refused n) = n < 2 ^ 32
Sized (Accepted n d) = (n < 2 ^ 32) × (d < 2 ^ 32)
Sized (Violation v a) = (v < 2 ^ 32) × Words a

proper : (card : List ℕ) (r : Ruling) → Sized r → answer_of r ≡ judging card → Proper r
proper card (Refused n) s e = s
proper card (Accepted n d) s e = s
proper card (Violation v a) s e = (s.0, s.1, λ x. told_judged card v a e (omega arith), λ x. told_judged card v a e (omega arith))

-- The line determines the ruling: two rulings of the judge with the same line are equal
pub judged_decides : (card card' : List ℕ) (r s : Ruling) (l m : Line) → Sized r → Sized s → answer_of r ≡ judging card → answer_of s ≡ judging card'
    → l ≡ line_of (text_of r) → m ≡ line_of (text_of s) → l ≡ m → r ≡ s
judged_decides card card' r s l m a b e f p q g = line_decides r s l m (proper card r a e) (proper card' s b f) p q g
