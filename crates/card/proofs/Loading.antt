-- What the loader's calls leave, put together.
use Prim.Native.Nat.{ℕ, ◌+◌, ◌*◌, ◌<◌}
use mathlib.Core.Path.{◌≡◌, ap}
use mathlib.Core.Bool.{true, false}
use mathlib.Core.List.{List}
use native.Mathlib.Omega.{arith}
use borrow.Author.Tests.{ne_eqb}
use lib.ListN.{length}
use Rattle.machine.specs.declared.Machine.{Machine}
use Rattle.machine.specs.declared.Refusal.{Refusal}
use Rattle.machine.proofs.Refused.{refusal_some}
use Rattle.machine.specs.Record.{DOUBLE_WORDS, LONGEST, zeros, refusal_no}
use Rattle.card.specs.Card.{BODY, tab, padded, double, record_of_lem, code_buffer, data_buffer, memory_buffer, loaded, wrong_length_lem, refusal, loading}
use Rattle.card.specs.Work.{from_two}
use Rattle.card.proofs.Accepted.{from_one}

-- Filled buffers, of a card whose record is m
module _ (card : List ℕ) {m : Machine} (e : m ≡ record_of_lem card) where
  pub worked : {code ws memory : List ℕ}
      → code ≡ tab (padded card BODY m.code.words) LONGEST
      → ws ≡ tab (padded card (BODY + 4 * m.code.words) m.«data».words) LONGEST
      → memory ≡ tab (double m.code m.«data» code ws) DOUBLE_WORDS
      → (m, code, ws, memory) ≡ loaded card
  unfolding code_buffer data_buffer memory_buffer
  worked p q t = simp (t, p, q, e)

-- A refused load
module _ (card code ws memory : List ℕ) where
  pub wrong_lengths : wrong_length_lem (length code) (length ws) (length memory) ≡ true → loading card code ws memory ≡ ((1, false), zeros, code, ws, memory)
  unfolding loading refusal
  wrong_lengths e = rw e

  pub wrong_code : (length code ≡ LONGEST → ⊥) → loading card code ws memory ≡ ((1, false), zeros, code, ws, memory)
  unfolding wrong_length_lem
  wrong_code d = wrong_lengths (rw (ne_eqb (length code) LONGEST d))

  pub wrong_words : length code ≡ LONGEST → (length ws ≡ LONGEST → ⊥) → loading card code ws memory ≡ ((1, false), zeros, code, ws, memory)
  unfolding wrong_length_lem
  wrong_words c d = wrong_lengths (rw (c, ne_eqb (length ws) LONGEST d))

  pub wrong_memory : length code ≡ LONGEST → length ws ≡ LONGEST → (length memory ≡ DOUBLE_WORDS → ⊥) → loading card code ws memory ≡ ((1, false), zeros, code, ws, memory)
  unfolding wrong_length_lem
  wrong_memory c w d = wrong_lengths (rw (c, w, ne_eqb (length memory) DOUBLE_WORDS d))

  -- Where the lengths are right, the tests from 2 on decide
  module _ (c : length code ≡ LONGEST) (w : length ws ≡ LONGEST) (d : length memory ≡ DOUBLE_WORDS) where
    pub refused_card : (r : Refusal) → refusal_no r ≡ from_two card (record_of_lem card) → loading card code ws memory ≡ ((refusal_no r, false), zeros, code, ws, memory)
    unfolding loading
    refused_card r e = rw (c, w, d, from_one card, ← e, ne_eqb (refusal_no r) 0 (λ z. let l : 0 < refusal_no r = refusal_some r in omega arith))

    pub loaded_card : {m : Machine} {code' ws' memory' : List ℕ} → from_two card (record_of_lem card) ≡ 0 → (m, code', ws', memory') ≡ loaded card
        → ((0, true), m, code', ws', memory') ≡ loading card code ws memory
    unfolding loading
    loaded_card e p = rw (c, w, d, from_one card, e) (ap (λ (l : Machine × List ℕ × List ℕ × List ℕ). ((0, true), l.0, l.1, l.2, l.3)) p)
