-- What a caller of the loader may rely on, from its promise alone.
use Prim.Native.Nat.{ℕ, ◌%◌, ◌<◌}
use mathlib.Core.Path.{◌≡◌, refl, sym, ap, subst, ◌∙◌}
use mathlib.Core.Bool.{Bool, true, false}
use mathlib.Core.List.{List}
use borrow.Author.Tests.{ne_eqb, eqb-true, eqb-false}
use lib.Dec.{eqb}
use Rattle.std.specs.Prelude.{Result, Ok, Err}
use lib.ListN.{length}
use Rattle.words.proofs.Signed.{false_true}
use Rattle.machine.specs.declared.Machine.{Machine}
use Rattle.machine.specs.Record.{DOUBLE_WORDS, LONGEST, MEMORY, zeros, image}
use Rattle.machine.specs.declared.Refusal.{Refusal}
use Rattle.machine.proofs.Refused.{refusal_decides}
use Rattle.card.specs.declared.Loaded.{Loaded}
use Rattle.card.specs.Card.{Bytes, refusal, answer_of, loaded, loading}
use Rattle.card.proofs.Accepted.{Passes, accepted}
use Rattle.card.proofs.Memory.{code_length, data_length, memory_length, memory_at, memory_word}

-- The promise of `load`, of a result and the buffers that it leaves
abbrev pub Meets : List ℕ → List ℕ → List ℕ → List ℕ → Loaded → List ℕ → List ℕ → List ℕ → Type 0
Meets card code ws memory r code' ws' memory' = (answer_of r.answer, r.machine, code', ws', memory') ≡ loading card code ws memory

-- The paper's number, and whether the card is loaded, determine the answer
pub answer_decides : (a b : Result (Unit {0}) Refusal) → answer_of a ≡ answer_of b → a ≡ b
answer_decides (Err m) (Err n) e = ap (λ (r : Refusal). Err r) (refusal_decides m n (ap (λ (p : ℕ × Bool). p.0) e))
answer_decides (Err m) (Ok u) e = absurd (false_true (ap (λ (p : ℕ × Bool). p.1) e))
answer_decides (Ok u) (Err n) e = absurd (false_true (sym (ap (λ (p : ℕ × Bool). p.1) e)))
answer_decides (Ok u) (Ok v) e = refl

-- A result is its answer and its record
abbrev result : Result (Unit {0}) Refusal → Machine → Loaded
result a m = record { answer = a; machine = m }

same : (r s : Loaded) → r.answer ≡ s.answer → r.machine ≡ s.machine → r ≡ s
same r s a k = ap (λ (x : Result (Unit {0}) Refusal). result x r.machine) a ∙ ap (result s.answer) k

-- The number that the table gives, the buffers being lent
abbrev pub refused_by_lem : List ℕ → List ℕ → List ℕ → List ℕ → ℕ
refused_by_lem card code ws memory = refusal card (length code) (length ws) (length memory)

-- What `loading` gives
abbrev Given : Type 0
Given = (ℕ × Bool) × Machine × List ℕ × List ℕ × List ℕ

module _ (card code ws memory : List ℕ) where
  -- Two results that meet the promise are equal
  pub load_unique : (r s : Loaded) (c c' w w' m m' : List ℕ) → Meets card code ws memory r c w m → Meets card code ws memory s c' w' m' → (r ≡ s) × (c ≡ c') × (w ≡ w') × (m ≡ m')
  load_unique r s c c' w w' m m' p q =
      let e = p ∙ sym q in (
        same r s (answer_decides r.answer s.answer (ap (λ (t : Given). t.0) e)) (ap (λ (t : Given). t.1) e),
        ap (λ (t : Given). t.2) e,
        ap (λ (t : Given). t.3) e,
        ap (λ (t : Given). t.4) e,
      )

  -- A card that no test refuses is loaded, and any other refused, with no buffer changed and a record of zeros
  pub loading_accepted : refused_by_lem card code ws memory ≡ 0
      → loading card code ws memory ≡ ((0, true), (loaded card).0, (loaded card).1, (loaded card).2, (loaded card).3)
  unfolding loading
  loading_accepted e = rw e

  pub loading_refused : (refused_by_lem card code ws memory ≡ 0 → ⊥)
      → loading card code ws memory ≡ ((refused_by_lem card code ws memory, false), zeros, code, ws, memory)
  unfolding loading
  loading_refused d = rw (ne_eqb (refused_by_lem card code ws memory) 0 d)

  module _ (r : Loaded) (code' ws' memory' : List ℕ) (p : Meets card code ws memory r code' ws' memory') where
    pub loaded_accepted : r.answer ≡ Ok tt → refused_by_lem card code ws memory ≡ 0
    loaded_accepted a = by (eqb (refused_by_lem card code ws memory) 0) refl
      where
        by : (t : Bool) → eqb (refused_by_lem card code ws memory) 0 ≡ t → refused_by_lem card code ws memory ≡ 0
        by true e = eqb-true (refused_by_lem card code ws memory) 0 e
        by false e =
            let d : refused_by_lem card code ws memory ≡ 0 → ⊥ = eqb-false (refused_by_lem card code ws memory) 0 e in
            absurd (false_true (ap (λ (t : Given). t.0.1) (sym (loading_refused d) ∙ sym p) ∙ ap (λ (x : Result (Unit {0}) Refusal). (answer_of x).1) a))

    -- No later call refuses a loaded record, or a buffer for its length
    pub loaded_passes : r.answer ≡ Ok tt → Passes r.machine × (length code' ≡ LONGEST) × (length ws' ≡ LONGEST) × (length memory' ≡ DOUBLE_WORDS)
    loaded_passes a =
        let n : refused_by_lem card code ws memory ≡ 0 = loaded_accepted a in
        let e = p ∙ loading_accepted n in (
          subst Passes (sym (ap (λ (t : Given). t.1) e)) (accepted card (length code) (length ws) (length memory) n).passes,
          ap (λ (t : Given). length t.2) e ∙ code_length card,
          ap (λ (t : Given). length t.3) e ∙ data_length card,
          ap (λ (t : Given). length t.4) e ∙ memory_length card,
        )

    -- VAMP memory holds what the regions say, word by word
    pub loaded_memory : Bytes card → r.answer ≡ Ok tt → (a : ℕ) → a % 4 ≡ 0 → a < MEMORY → memory_at memory' a ≡ image r.machine.code r.machine.«data» code' ws' a
    loaded_memory b a i al lt =
        let e = p ∙ loading_accepted (loaded_accepted a) in
        ap (λ (t : Given). memory_at t.4 i) e ∙ memory_word card b i al lt ∙ sym (ap (λ (t : Given). image t.1.code t.1.«data» t.2 t.3 i) e)
