-- The steps of a run taken once more: the state they lead to, and the last writer of each register.
use Rattle.std.proofs.Common.{◌≡◌, ℕ, zero, suc, ◌+◌, ◌%◌, ◌<◌, Bool, true, false, eqb, List, [], ◌∷◌, length, get_or, set, replicate, sym, refl, ap, ◌∙◌, add-one, Option, Some, None, arith, get_or-set_other, get_or-set_same, eq-eqb, eqb-true}
use mathlib.Core.Option.{none, some}
use borrow.Author.Tests.{eqb-false}
use lib.ListN.{get_or-replicate}
use Rattle.machine.specs.declared.Effect.{Effect}
use Rattle.machine.specs.declared.Effect.TheVariants as does
use Rattle.machine.specs.declared.Region.{Region}
use Rattle.words.specs.Words.{reading}
use Rattle.words.specs.declared.Instruction.{Instruction}
use Rattle.machine.specs.Effects.{State, act, meaning}
use Rattle.machine.proofs.Acts.{act_reads, act_illegal}
use Rattle.checker.specs.declared.At.{At}
use Rattle.checker.specs.Checks.{fetched, violation, next}
use Rattle.checker.specs.Runs.{running, after}
use Rattle.checker.specs.Seven.{target, place_of, writes, last_writer}
use Rattle.checker.specs.Inner.{noted_of}
use Rattle.checker.proofs.Fold.{run_on, run_end}

pub target_below : (e : Effect) → target e < 32
unfolding target
target_below (does.Put n x) = omega arith
target_below (does.PutSpecial n x) = omega arith
target_below (does.Sum n x o) = omega arith
target_below (does.Load k n a) = omega arith
target_below (does.Store k a x) = omega arith
target_below (does.Trap z) = omega arith
target_below does.Return = omega arith
target_below does.Nothing = omega arith

pub target_small : (r : ℕ) (e : Effect) → r ≡ target e → r % 32 ≡ target e
target_small r e q = let l = target_below e in omega arith

-- The register that a word writes, by its reading
module _ (w : ℕ) (s : State) where
  pub writes_none : reading w ≡ (23, none) → 0 ≡ target (act w s).0
  unfolding target
  writes_none e = rw (act_illegal w s e)

  pub writes_by : (i : Instruction) → reading w ≡ (0, some i) → (e : Effect) (n : ℕ) → ◌≡◌ {A = Effect × ℕ} (e, n) (meaning i s.pc s.gpr s.spr)
      → target e ≡ target (act w s).0
  writes_by i r e n m = ap (λ (a : Effect × ℕ). target a.0) (m ∙ sym (act_reads w s i r))

-- The last of k + 1 steps comes after k steps
module _ (c d : Region) (code : List ℕ) where
  pub after_last : (k : ℕ) (p : State × List ℕ) → after c d code (suc k) p ≡ next c d code (after c d code k p)
  unfolding after
  after_last zero p = refl
  after_last (suc k) p = after_last k (next c d code p)

module _ (c d : Region) (code : List ℕ) (p : State × List ℕ) where
  pub after_none : p ≡ after c d code 0 p
  unfolding after
  after_none = refl

  -- What the first step writes
  pub wrote_first : writes c d code p 0 ≡ target (act (fetched c code p.0) p.0).0
  unfolding after
  wrote_first = refl

  -- Step n, from the state x to the state q
  pub after_on : (n : ℕ) (x q : State × List ℕ) → x ≡ after c d code n p → q ≡ next c d code x → q ≡ after c d code (n + 1) p
  after_on n x q e f = f ∙ ap (next c d code) e ∙ sym (after_last c d code n p) ∙ ap (λ (k : ℕ). after c d code k p) (sym (add-one n))

  pub wrote_on : (n r : ℕ) (x : State × List ℕ) → x ≡ after c d code n p → r ≡ target (act (fetched c code x.0) x.0).0
      → (k : ℕ) → n + 1 ≡ suc k → r ≡ writes c d code p k
  wrote_on n r x e w k l =
      let q : n ≡ k = omega arith in
      w ∙ ap (λ (y : State × List ℕ). target (act (fetched c code y.0) y.0).0) e ∙ ap (λ (j : ℕ). writes c d code p j) q

  -- A run of one step that breaks no test, after n steps
  module _ (n : ℕ) (x q : State × List ℕ) (a : ℕ × List ℕ) (e : x ≡ after c d code n p) (v : violation c d code (after c d code n p).0 ≡ 0)
      (r : ◌≡◌ {A = (ℕ × List ℕ) × (State × List ℕ)} (a, q) (running c d code 0 1 x)) where
    one_step : ◌≡◌ {A = (ℕ × List ℕ) × (State × List ℕ)} (a, q) ((0, 1 ∷ []), next c d code x)
    one_step = let w : violation c d code x.0 ≡ 0 = rw e v in r ∙ run_on c d code x 0 0 w ∙ run_end c d code (next c d code x) 1

    pub one_more : q ≡ after c d code (n + 1) p
    one_more = after_on n x q e (ap (λ (o : (ℕ × List ℕ) × (State × List ℕ)). o.1) one_step)

    pub one_taken : get_or a.1 0 0 ≡ 1
    one_taken = ap (λ (o : (ℕ × List ℕ) × (State × List ℕ)). get_or o.0.1 0 0) one_step

  -- What is noted after n steps
  abbrev pub Notes : List (Option At) → ℕ → Type 0
  Notes ws n = (k : ℕ) → 0 < k → k < 32 → noted_of ws k ≡ last_writer c d code p k n

  pub notes_none : Notes (replicate 32 None) 0
  unfolding last_writer
  notes_none k z l = rw (get_or-replicate {A = Option At} 32 k None None l)

  notes_more : (n t : ℕ) (ws : List (Option At)) → length ws ≡ 32 → t < 32 → t ≡ writes c d code p n
      → Notes ws n → Notes (set ws t (Some (place_of c d code p n))) (suc n)
  unfolding last_writer
  notes_more n t ws l b w h k z g = by (eqb t k) refl
    where
      by : (u : Bool) → eqb t k ≡ u → noted_of (set ws t (Some (place_of c d code p n))) k ≡ last_writer c d code p k (suc n)
      by true e =
          let f : t ≡ k = eqb-true t k e in
          rw (sym f, get_or-set_same ws t (Some (place_of c d code p n)) None (omega arith), sym w, eq-eqb t t refl)
      by false e =
          let f : t ≡ k → ⊥ = eqb-false t k e in
          rw (get_or-set_other ws t k (Some (place_of c d code p n)) None (λ (q : k ≡ t). f (sym q)), sym w, e) (h k z g)

  -- Step n taken, from the state x
  pub notes_on : (n t : ℕ) (ws : List (Option At)) (x : State × List ℕ) → x ≡ after c d code n p → length ws ≡ 32 → t < 32
      → t ≡ target (act (fetched c code x.0) x.0).0 → Notes ws n → Notes (set ws t (Some (record { step = n; dpc = x.0.dpc; word = fetched c code x.0 }))) (n + 1)
  notes_on n t ws x e l b w h =
      rw (e, add-one n) (notes_more n t ws l b (w ∙ ap (λ (y : State × List ℕ). target (act (fetched c code y.0) y.0).0) e) h)
