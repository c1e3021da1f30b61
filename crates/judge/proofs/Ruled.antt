-- From the promises of the loader and of the run to that of the judge.
use Prim.Native.Nat.{ℕ, zero, suc}
use mathlib.Core.Path.{◌≡◌, refl, sym, ap, subst, ◌∙◌}
use mathlib.Core.Bool.{Bool, true, false}
use mathlib.Core.List.{List, []}
use mathlib.Core.Logic.{◌⊎◌, inl, inr}
use native.Mathlib.Omega.{arith}
use borrow.Author.Tests.{eqb-true, eqb-false, ne_eqb}
use lib.Dec.{eqb}
use lib.ListN.{length}
use Rattle.std.specs.Prelude.{Option, None, Ok, Err}
use Rattle.words.proofs.Signed.{false_true}
use Rattle.machine.specs.declared.Machine.{Machine}
use Rattle.machine.specs.declared.Region.{Region}
use Rattle.machine.specs.declared.Refusal.{Refusal}
use Rattle.machine.specs.Effects.{State}
use Rattle.machine.specs.Record.{DOUBLE_WORDS, LONGEST, state_of, refusal_no}
use Rattle.machine.proofs.Refused.{refusal_some}
use Rattle.checker.specs.declared.Verdict.{Verdict}
use Rattle.checker.specs.declared.Verdict.TheVariants.{Refused, Accepted, Violation}
use Rattle.checker.specs.Checks.{test_no, violation}
use Rattle.checker.specs.declared.Outcome.{Outcome}
use Rattle.checker.specs.declared.Explanation.{Explanation}
use Rattle.checker.specs.Runs.{verdict_answer, running, after, taking, runs}
use Rattle.checker.specs.Seven.{explaining}
use Rattle.checker.proofs.Theorems.{Fine, First, ends, accepts, stops_at}
use Rattle.card.specs.declared.Loaded.{Loaded}
use Rattle.card.specs.Card.{record_of_lem, code_buffer, data_buffer, answer_of as answer_of_loaded, loading}
use Rattle.card.proofs.Results.{Meets, refused_by_lem, loading_accepted, loading_refused, loaded_accepted}
use Rattle.judge.specs.Judging.{ruled, refused_by, ran_of, judging, explained_by}
use Rattle.judge.specs.Work.{program_of, ruling_of_lem}

abbrev Given : Type 0
Given = (ℕ × Bool) × Machine × List ℕ × List ℕ × List ℕ

abbrev Program : Type 0
Program = Machine × List ℕ × List ℕ

abbrev Ran : Type 0
Ran = (ℕ × List ℕ) × Machine × List ℕ

-- The two rulings, by the number that the table gives
pub judging_refused : (card : List ℕ) (n : ℕ) → n ≡ refused_by card → (n ≡ 0 → ⊥) → (n, []) ≡ judging card
unfolding judging
judging_refused card n e d = rw (← e, ne_eqb n 0 d)

pub refused_ruling : (card : List ℕ) (n : ℕ) (r : Refusal) → n ≡ refusal_no r → refusal_no r ≡ refused_by card → (n, []) ≡ judging card
refused_ruling card n r t e = judging_refused card n (t ∙ e) (λ z. let some = refusal_some r in omega arith)

pub judging_accepted : (card : List ℕ) → refused_by card ≡ 0 → ruled (ran_of card).0 (ran_of card).1.dpc ≡ judging card
unfolding judging
judging_accepted card e = rw e

-- The two explanations, in the same way
pub explained_refused : (card : List ℕ) → (refused_by card ≡ 0 → ⊥) → None ≡ explained_by card
unfolding explained_by
explained_refused card d = rw (ne_eqb (refused_by card) 0 d)

pub refusal_explained : (card : List ℕ) (r : Refusal) → refusal_no r ≡ refused_by card → None ≡ explained_by card
refusal_explained card r e = explained_refused card (λ z. let none = e ∙ z in let some = refusal_some r in omega arith)

pub explained_accepted : (card : List ℕ) → refused_by card ≡ 0 → explaining (record_of_lem card) (code_buffer card) (data_buffer card) (ran_of card).0 ≡ explained_by card
unfolding explained_by
explained_accepted card e = rw e

-- A run is accepted exactly where its answer has one value, the steps
record Shaped (o : ℕ × List ℕ) : Type 0 where
  steps_alone : o.0 ≡ 0 → length o.1 ≡ 1
  alone_steps : length o.1 ≡ 1 → o.0 ≡ 0

shaped_running : (c d : Region) (code : List ℕ) (n : ℕ) (p : State × List ℕ) → Shaped (running c d code 0 n p).0
shaped_running c d code n p = by (ends c d code n p)
  where
    by : Fine c d code n p ⊎ First c d code n p → Shaped (running c d code 0 n p).0
    by (inl f) = rw (accepts c d code 0 n p f) (record { steps_alone = λ e. refl; alone_steps = λ e. refl })
    by (inr f) =
        let v = violation c d code (after c d code f.0 p).0 in
        let z = f.3 in
        rw (stops_at c d code 0 n f.0 v p f.1 f.2 refl f.3) (record { steps_alone = λ e. absurd (omega arith); alone_steps = λ e. absurd (omega arith) })

shaped_taking : (r n : ℕ) (m : Machine) (code ws : List ℕ) → Shaped (taking r n m code ws).0
unfolding taking
shaped_taking zero n m code ws = shaped_running m.code m.«data» code n (state_of m, ws)
shaped_taking (suc r) n m code ws = record { steps_alone = λ e. absurd (omega arith); alone_steps = λ e. absurd (omega arith) }

ruled_verdict : (v : Verdict) (dpc : ℕ) → Shaped (verdict_answer v) → ruling_of_lem v dpc ≡ ruled (verdict_answer v) dpc
ruled_verdict (Refused r) dpc s = rw (ne_eqb (refusal_no r) 0 (λ e. let l = s.steps_alone e in omega arith))
ruled_verdict (Accepted k) dpc s = refl
ruled_verdict (Violation v) dpc s = rw (ne_eqb (test_no v.test) 0 (λ e. let l = s.steps_alone e in omega arith))

-- What loading gives, over buffers of the right lengths
module _ (card code ws memory : List ℕ) (c : length code ≡ LONGEST) (w : length ws ≡ LONGEST) (m : length memory ≡ DOUBLE_WORDS) (r : Loaded) (code' ws' memory' : List ℕ)
    (p : Meets card code ws memory r code' ws' memory') where
  right : refused_by_lem card code ws memory ≡ refused_by card
  right = rw (c, w, m)

  pub loaded_refused : (n : Refusal) → r.answer ≡ Err n → refusal_no n ≡ refused_by card
  loaded_refused n a = by (eqb (refused_by_lem card code ws memory) 0) refl
    where
      answered : (g : Given) → loading card code ws memory ≡ g → (refusal_no n, false) ≡ g.0
      answered g e = ap answer_of_loaded (sym a) ∙ ap (λ (t : Given). t.0) (p ∙ e)

      by : (t : Bool) → eqb (refused_by_lem card code ws memory) 0 ≡ t → refusal_no n ≡ refused_by card
      by true e = absurd (false_true (ap (λ (t : ℕ × Bool). t.1) (answered _ (loading_accepted card code ws memory (eqb-true (refused_by_lem card code ws memory) 0 e)))))
      by false e = ap (λ (t : ℕ × Bool). t.0) (answered _ (loading_refused card code ws memory (eqb-false (refused_by_lem card code ws memory) 0 e))) ∙ right

  pub loaded_ok : r.answer ≡ Ok tt → 0 ≡ refused_by card
  loaded_ok a = sym (loaded_accepted card code ws memory r code' ws' memory' p a) ∙ right

  pub loaded_program : r.answer ≡ Ok tt → (r.machine, code', ws') ≡ program_of card
  loaded_program a =
      let e = p ∙ loading_accepted card code ws memory (loaded_accepted card code ws memory r code' ws' memory' p a) in
      ap (λ (t : Given). (t.1, t.2, t.3)) e

-- A card that is not refused is answered by its run
module _ (card : List ℕ) (n : 0 ≡ refused_by card) (m : Machine) (code ws : List ℕ) (s : ◌≡◌ {A = Program} (m, code, ws) (program_of card)) where
  pub run_ruling : (o : Outcome) (ws' : List ℕ) → ◌≡◌ (verdict_answer o.verdict, o.machine, ws') (runs m code ws) → ruling_of_lem o.verdict o.machine.dpc ≡ judging card
  run_ruling o ws' e =
      let shaped = subst Shaped (ap (λ (t : Ran). t.0) (sym e)) (shaped_taking _ m.limit m code ws) in
      ruled_verdict o.verdict o.machine.dpc shaped
      ∙ ap (λ (t : Ran). ruled t.0 t.1.dpc) (e ∙ ap (λ (x : Program). runs x.0 x.1 x.2) s)
      ∙ judging_accepted card (sym n)

  pub run_explained : (x : Option Explanation) → x ≡ explaining m code ws (runs m code ws).0 → x ≡ explained_by card
  run_explained x e =
      e
      ∙ ap (λ (y : Program). explaining y.0 y.1 y.2 (runs y.0 y.1 y.2).0) s
      ∙ explained_accepted card (sym n)
