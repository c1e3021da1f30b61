-- The order of the events: which answer a step has by the tests, and what a step that is taken has passed.
use Prim.Native.Nat.{ℕ}
use mathlib.Core.Path.{◌≡◌, refl}
use mathlib.Core.Bool.{Bool, true, false, ◌&&◌}
use mathlib.Core.List.{List, [], ◌∷◌}
use native.Mathlib.Omega.{arith}
use lib.Dec.{eqb}
use Rattle.words.specs.Fields.{pick}
use Rattle.words.proofs.Signed.{false_true}
use Rattle.machine.specs.declared.Effect.{Effect}
use Rattle.machine.specs.declared.Effect.TheVariants as does
use Rattle.machine.specs.Effects.{illegal, State, act, one_of, unaligned, askew, mode_set}
use Rattle.machine.specs.Record.{first}
use Rattle.vamp.specs.Events.{unmodelled, access_past, trapped, overflowed, overflow_masked, fetched, events, event, stepped, interrupt, past, mode, ILLEGAL, MISALIGNED, TRAP, OVERFLOW}

module _ (mem : List ℕ) (s : State) where
  abbrev word : ℕ
  word = fetched mem s

  abbrev effect : Effect
  effect = (act word s).0

  -- ---- The answer, by the tests

  -- 1
  pub event_fetch_unaligned : unaligned 4 s.dpc ≡ true → event mem s ≡ interrupt MISALIGNED
  unfolding event
  event_fetch_unaligned a = rw (event, a)

  -- 2
  pub event_fetch_past : unaligned 4 s.dpc ≡ false → unmodelled s.dpc ≡ true → event mem s ≡ past
  unfolding event
  event_fetch_past a b = rw (event, a, b)

  module _ (a : unaligned 4 s.dpc ≡ false) (b : unmodelled s.dpc ≡ false) where
    -- 3
    pub event_illegal : illegal word ≡ true → event mem s ≡ interrupt ILLEGAL
    unfolding event
    event_illegal c = rw (event, a, b, c)

    module _ (c : illegal word ≡ false) where
      -- 4
      pub event_askew : askew effect ≡ true → event mem s ≡ interrupt MISALIGNED
      unfolding event
      event_askew d = rw (event, a, b, c, d)

      -- None
      pub event_none : askew effect ≡ false → access_past effect ≡ false → trapped effect ≡ false → overflowed effect ≡ false → mode_set effect ≡ false → event mem s ≡ stepped 0
      unfolding event
      event_none d e f g h = rw (event, a, b, c, d, e, f, g, h)

  -- ---- A step that is taken has passed every test but a masked overflow

  pub record Passed : Type 0 where
    pub fetch_even : unaligned 4 s.dpc ≡ false
    pub fetch_within : unmodelled s.dpc ≡ false
    pub legal : illegal word ≡ false
    pub even : askew effect ≡ false
    pub within : access_past effect ≡ false
    pub untrapped : trapped effect ≡ false
    pub calm : mode_set effect ≡ false

  -- An answer that is not 0 was not given
  peel : (t : Bool) (a r : ℕ × ℕ) → (a.0 ≡ 0 → ⊥) → (pick t a r).0 ≡ 0 → (t ≡ false) × (r.0 ≡ 0)
  peel true a r n h = absurd (n h)
  peel false a r n h = (refl, h)

  overflow_calm : (e : Effect) → overflowed e ≡ true → mode_set e ≡ false
  unfolding overflowed mode_set
  overflow_calm (does.PutSpecial n x) h = absurd (false_true h)
  overflow_calm _ h = refl

  still : (e : Effect) (o m : Bool) → overflowed e ≡ o → (pick (o && m) (stepped OVERFLOW) (pick o (interrupt OVERFLOW) (pick (mode_set e) mode (stepped 0)))).0 ≡ 0 → mode_set e ≡ false
  still e true m h z = overflow_calm e h
  still e false m h z = (peel (mode_set e) mode (stepped 0) (λ q. omega arith) z).0

  pub passed : (event mem s).0 ≡ 0 → Passed
  unfolding event
  passed h =
      let p = peel (unaligned 4 s.dpc) (interrupt MISALIGNED) _ (λ q. omega arith) h in
      let q = peel (unmodelled s.dpc) past _ (λ q. omega arith) p.1 in
      let r = peel (illegal word) (interrupt ILLEGAL) _ (λ q. omega arith) q.1 in
      let t = peel (askew effect) (interrupt MISALIGNED) _ (λ q. omega arith) r.1 in
      let u = peel (access_past effect) past _ (λ q. omega arith) t.1 in
      let v = peel (trapped effect) (interrupt TRAP) _ (λ q. omega arith) u.1 in
      record {
        fetch_even = p.0;
        fetch_within = q.0;
        legal = r.0;
        even = t.0;
        within = u.0;
        untrapped = v.0;
        calm = still effect (overflowed effect) (overflow_masked s.spr) refl v.1;
      }

-- ---- The answers that there are

abbrev pub answers : List (ℕ × ℕ)
answers =
    stepped 0 ∷ stepped OVERFLOW ∷ interrupt ILLEGAL ∷ interrupt MISALIGNED ∷ interrupt TRAP ∷ interrupt OVERFLOW ∷ past ∷ mode ∷ []

abbrev pub causes : List ℕ
causes = 0 ∷ ILLEGAL ∷ MISALIGNED ∷ TRAP ∷ OVERFLOW ∷ []

-- Whether a pair is one of a list
abbrev pub among : ℕ × ℕ → List (ℕ × ℕ) → Bool
among a [] = false
among a (b ∷ bs) = pick (eqb a.0 b.0 && eqb a.1 b.1) true (among a bs)

-- A test that every answer of a table passes
abbrev all_pass : (ℕ × ℕ → Bool) → List (Bool × (ℕ × ℕ)) → Bool
all_pass p [] = true
all_pass p (r ∷ rs) = p r.1 && all_pass p rs

first_passes : (p : ℕ × ℕ → Bool) (rs : List (Bool × (ℕ × ℕ))) (d : ℕ × ℕ) → p d ≡ true → all_pass p rs ≡ true → p (first rs d) ≡ true
first_passes p [] d e f = e
first_passes p (r ∷ rs) d e f = by r.0 (p r.1) refl f (first_passes p rs d e)
  where
    by : (t u : Bool) → p r.1 ≡ u → u && all_pass p rs ≡ true → (all_pass p rs ≡ true → p (first rs d) ≡ true) → p (pick t r.1 (first rs d)) ≡ true
    by t false g f rest = absurd (false_true f)
    by true true g f rest = g
    by false true g f rest = rest f

-- The answer of a step with its cause word is one of eight, and so the cause word has at most one bit: it is empty or bit 1, 2, 5 or 6
pub event_among : (mem : List ℕ) (s : State) → among (event mem s) answers ≡ true
unfolding event
event_among mem s = first_passes (λ a. among a answers) (events mem s) (stepped 0) refl refl

pub cause_one_of : (mem : List ℕ) (s : State) → one_of (event mem s).1 causes ≡ true
unfolding event
cause_one_of mem s = first_passes (λ a. one_of a.1 causes) (events mem s) (stepped 0) refl refl
