-- One step of both machines: where the checker finds nothing against it, the VAMP takes it with an empty cause word and the two stay the same.
use Prim.Native.Nat.{ℕ, ◌%◌, ◌/◌, ◌^◌, ◌≤◌, ◌<◌}
use mathlib.Core.Path.{◌≡◌, refl, sym, ap, subst, ◌∙◌}
use mathlib.Core.Bool.{Bool, true, false}
use mathlib.Core.List.{List}
use mathlib.Core.Option.{some}
use native.Mathlib.Omega.{arith}
use borrow.Author.Tests.{eq-eqb, eqb-true, lt-leb, not-false}
use lib.Dec.{eqb}
use lib.ListN.{get_or, length}
use Rattle.words.specs.Words.{reading}
use Rattle.words.specs.declared.Instruction.{Instruction}
use Rattle.words.specs.declared.LoadKind.{LoadKind}
use Rattle.words.specs.declared.LoadKind.TheVariants.{Lw}
use Rattle.words.specs.declared.StoreKind.{StoreKind}
use Rattle.words.specs.declared.StoreKind.TheVariants.{Sw}
use Rattle.machine.specs.declared.Effect.{Effect}
use Rattle.machine.specs.declared.Effect.TheVariants as does
use Rattle.machine.specs.declared.Region.{Region}
use Rattle.machine.specs.Effects.{State, act, moved, meaning, illegal, access, askew, mode_set}
use Rattle.machine.specs.Record.{DOUBLE_WORDS, MEMORY, holds}
use Rattle.machine.proofs.Acts.{act_reads, legal_not}
use Rattle.machine.proofs.Bounds.{Words, Small, act_small, moved_words}
use Rattle.machine.proofs.Regions.{holds_yes}
use Rattle.checker.specs.Checks as drawing
use Rattle.checker.specs.Checks.{outside, next}
use Rattle.checker.proofs.Tests.{load_inside, store_inside}
use Rattle.checker.proofs.Beyond.{left_length}
use Rattle.vamp.specs.Memory.{at, loaded}
use Rattle.vamp.specs.Memory as memory
use Rattle.vamp.specs.Events.{stepped, access_past, event}
use Rattle.vamp.specs.Events as ship
use Rattle.vamp.specs.Steps as ship-steps
use Rattle.vamp.specs.Steps.{vstep}
use Rattle.vamp.proofs.Kept.{kept_length}
use Rattle.vamp.proofs.Memory.{part_below}
use Rattle.agreement.proofs.Relation.{Laid, Image, Same, fetch_same, load_same, store_same}
use Rattle.agreement.proofs.Plain.{Calm, ByWords, excluded, plain_calm}

-- ---- Memory, by the kinds of effect

module _ (c d : Region) (l : Laid c d) (code ws mem : List ℕ) (i : Image c d code ws mem) (room : d.words ≤ length ws) (size : length mem ≡ DOUBLE_WORDS) where
  -- The address of an access that passes the checker's tests
  even_load : (k : LoadKind) (n a : ℕ) → k ≡ Lw → askew (does.Load k n a) ≡ false → a % 4 ≡ 0
  unfolding askew access
  even_load k n a q e = eqb-true (a % 4) 0 (not-false (eqb (a % 4) 0) (rw q at e))

  even_store : (k : StoreKind) (a x : ℕ) → k ≡ Sw → askew (does.Store k a x) ≡ false → a % 4 ≡ 0
  unfolding askew access
  even_store k a x q e = eqb-true (a % 4) 0 (not-false (eqb (a % 4) 0) (rw q at e))

  pub found_same : (e : Effect) → ByWords e → askew e ≡ false → outside d e ≡ false → ship-steps.found e mem ≡ drawing.found d ws e
  unfolding ship-steps.found drawing.found loaded
  found_same (does.Load k n a) b s o = rw b (load_same c d l code ws mem i a (even_load k n a b s) (load_inside d (does.Load k n a) k n a refl o))
  found_same _ b s o = refl

  pub kept_same : (e : Effect) → ByWords e → Small e → askew e ≡ false → outside d e ≡ false → Image c d code (drawing.left d ws e) (ship-steps.memory_after e mem)
  unfolding ship-steps.memory_after drawing.left memory.stored
  kept_same (does.Store k a x) b z s o = rw b (store_same c d l code ws mem i a x (even_store k a x b s) (store_inside d (does.Store k a x) k a x refl o) z room size)
  kept_same _ b z s o = i

  -- An access in the data region is not past memory
  pub not_past : (e : Effect) → outside d e ≡ false → access_past e ≡ false
  unfolding access_past access
  not_past (does.Load k n a) o = lt-leb MEMORY a (let h = holds_yes d a (load_inside d (does.Load k n a) k n a refl o) in let q = l.data_in in omega arith)
  not_past (does.Store k a x) o = lt-leb MEMORY a (let h = holds_yes d a (store_inside d (does.Store k a x) k a x refl o) in let q = l.data_in in omega arith)
  not_past _ o = refl

-- A word that is loaded is a word
found_small : (e : Effect) (mem : List ℕ) → ByWords e → ship-steps.found e mem < 2 ^ 32
unfolding ship-steps.found loaded
found_small (does.Load k n a) mem b = rw b (part_below 32 (a % 8) (get_or mem (a / 8) 0))
found_small _ mem b = omega arith

-- ---- Events

-- No event: every test of the list is false
no_event : (mem : List ℕ) (s : State) (w : ℕ) (e : Effect) → ship.fetched mem s ≡ w → (act w s).0 ≡ e
    → s.dpc % 4 ≡ 0 → s.dpc < MEMORY → illegal w ≡ false → askew e ≡ false → access_past e ≡ false → Calm e → mode_set e ≡ false
    → event mem s ≡ stepped 0
unfolding event
no_event mem s w e f a p q r t u v x = rw (eq-eqb (s.dpc % 4) 0 p, lt-leb MEMORY s.dpc q, f, a, r, t, u, v.0, v.1, x)

-- A step without an event is taken
steps_on : (mem : List ℕ) (s : State) (w : ℕ) → ship.fetched mem s ≡ w → event mem s ≡ stepped 0 → vstep (s, mem) ≡ (stepped 0, ship-steps.carried w (s, mem))
unfolding vstep
steps_on mem s w f e = rw (e, f)

-- ---- The step, over any set of instructions without addo, addio, subo, subio, trap and rfe that reaches memory by words

module _ (S : Instruction → Bool) (plain : (i : Instruction) → S i ≡ true → excluded i ≡ false)
    (by-words : (i : Instruction) (pc : ℕ) (g p : List ℕ) → S i ≡ true → ByWords (meaning i pc g p).0)
    (c d : Region) (l : Laid c d) (code : List ℕ) (s : State) (ws mem : List ℕ) (r : Same c d code (s, ws) (s, mem))
    (even : s.dpc % 4 ≡ 0) (within : holds c s.dpc ≡ true) where
  abbrev w : ℕ
  w = drawing.fetched c code s

  fetched_same : ship.fetched mem s ≡ w
  fetched_same = fetch_same c d l code ws mem r.memory s.dpc even within

  in_memory : s.dpc < MEMORY
  in_memory = let h = holds_yes c s.dpc within in let q = l.code_in in omega arith

  module _ (i : Instruction) (legal : reading w ≡ (0, some i)) (member : S i ≡ true) where
    abbrev e : Effect
    e = (act w s).0

    calm : Calm e
    calm = subst (λ (x : Effect × ℕ). Calm x.0) (sym (act_reads w s i legal)) (plain_calm i s.pc s.gpr s.spr (plain i member))

    words : ByWords e
    words = subst (λ (x : Effect × ℕ). ByWords x.0) (sym (act_reads w s i legal)) (by-words i s.pc s.gpr s.spr member)

    module _ (straight : askew e ≡ false) (inside : outside d e ≡ false) (mode : mode_set e ≡ false) where
      pub taken : vstep (s, mem) ≡ (stepped 0, ship-steps.carried w (s, mem))
      taken =
          steps_on mem s w fetched_same
          (no_event mem s w e fetched_same refl even in_memory (legal_not w i legal) straight
          (not_past c d l code ws mem r.memory r.room r.size e inside) calm mode)

      load_agrees : ship-steps.found e mem ≡ drawing.found d ws e
      load_agrees = found_same c d l code ws mem r.memory r.room r.size e words straight inside

      hold_words : Words (moved w (drawing.found d ws e) s).gpr × Words (moved w (drawing.found d ws e) s).spr
      hold_words = moved_words w (drawing.found d ws e) s (rw load_agrees at (found_small e mem words)) r.general r.special

      pub stays_same : Same c d code (next c d code (s, ws)) (ship-steps.carried w (s, mem))
      unfolding next
      stays_same =
          record {
            state = ap (λ (v : ℕ). moved w v s) load_agrees;
            size = kept_length e mem ∙ r.size;
            room = rw (left_length d ws e) r.room;
            memory = kept_same c d l code ws mem r.memory r.room r.size e words (act_small w s r.general r.special) straight inside;
            general = hold_words.0;
            special = hold_words.1;
          }
