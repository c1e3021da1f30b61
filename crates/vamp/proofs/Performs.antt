-- A step by what its parts give: the events of the fetch, the reading of the word, the events of its effect, and what the effect leaves.
use Prim.Native.Nat.{ℕ, ◌<◌}
use mathlib.Core.Path.{◌≡◌, refl, sym, ap, ap₂, ◌∙◌}
use mathlib.Core.Bool.{Bool, true, false}
use mathlib.Core.List.{List}
use mathlib.Core.Option.{Option, none, some}
use borrow.Author.Tests.{leb-false}
use native.Mathlib.Omega.{arith}
use lib.Dec.{eqb}
use Rattle.std.specs.Prelude.{Result, Ok, Err, IsErrAnd}
use Rattle.std.specs.Prelude.{Some, None}
use Rattle.std.specs.Option.{ok_or}
use Rattle.std.specs.declared.option.Option as Std
use Rattle.words.specs.Fields.{pick}
use Rattle.words.specs.Words.{reading, reading_answer}
use Rattle.words.specs.declared.Instruction.{Instruction}
use Rattle.machine.specs.declared.Effect.{Effect}
use Rattle.machine.specs.Effects.{State, act, meaning, performed, moved, illegal, unaligned, askew}
use Rattle.machine.specs.Record.{MEMORY}
use Rattle.vamp.specs.Events.{fetched, event, unmodelled, access_past, stepped, interrupt, past, ILLEGAL, MISALIGNED}
use Rattle.vamp.specs.Steps.{Vamp, found, memory_after, carried, vstep}
use Rattle.vamp.specs.Inner.{judged, passes, word_event, effect_event, access_event}
use Rattle.vamp.specs.declared.Answer.{Answer}
use Rattle.vamp.specs.declared.Answer.TheVariants as says
use Rattle.vamp.proofs.Tests.{passing, stopping}
use Rattle.vamp.proofs.Onward.{step_kept, step_carried}

-- What a `?` hands on
pub handed : (r : Result Answer Answer) (a : Answer) → IsErrAnd r (λ b. b ≡ a) → judged r ≡ judged (Err a)
handed (Ok b) a h = absurd h
handed (Err b) a h = ap (λ (c : Answer). judged (Err c)) h

-- What a reading says, by the answer that stands for none
module _ (w : ℕ) (o : Std.Option Instruction) (read : reading_answer o ≡ reading w) where
  pub readable : (i : Instruction) → ok_or o says.Illegal ≡ Ok i → reading w ≡ (0, some i)
  readable i e = by o read e
    where
      by : (o : Std.Option Instruction) → reading_answer o ≡ reading w → ok_or {E = Answer} o says.Illegal ≡ Ok i → reading w ≡ (0, some i)
      by (Some j) r e = let f : j ≡ i = cc in sym r ∙ ap (λ (j : Instruction). (0, some j)) f
      by None r e = cc

  pub unread : (a : Answer) → ok_or o says.Illegal ≡ Err a → (reading w ≡ (23, none)) × (a ≡ says.Illegal)
  unread a e = by o read e
    where
      by : (o : Std.Option Instruction) → reading_answer o ≡ reading w → ok_or {E = Answer} o says.Illegal ≡ Err a → (reading w ≡ (23, none)) × (a ≡ says.Illegal)
      by (Some j) r e = cc
      by None r e = (sym r, let f : a ≡ says.Illegal = cc in f)

-- An access with no event goes on with what comes after it, one with an event does not
module _ (t : Bool) (a : ℕ) (r : ℕ × ℕ) where
  abbrev before : Bool → ℕ × ℕ
  before u = pick t (interrupt MISALIGNED) (pick u past r)

  accessed : (access_event t a).0 ≡ 0 → before (unmodelled a) ≡ r
  unfolding access_event
  accessed = by t (unmodelled a)
    where
      by : (t u : Bool) → (pick t (interrupt MISALIGNED) (pick u past (stepped 0))).0 ≡ 0 → pick t (interrupt MISALIGNED) (pick u past r) ≡ r
      by true u h = absurd (omega arith)
      by false true h = absurd (omega arith)
      by false false h = refl

  denied : ((access_event t a).0 ≡ 0 → ⊥) → before (unmodelled a) ≡ access_event t a
  unfolding access_event
  denied = by t (unmodelled a)
    where
      by : (t u : Bool) → ((pick t (interrupt MISALIGNED) (pick u past (stepped 0))).0 ≡ 0 → ⊥) → pick t (interrupt MISALIGNED) (pick u past r) ≡ pick t (interrupt MISALIGNED) (pick u past (stepped 0))
      by true u h = refl
      by false true h = refl
      by false false h = absurd (h refl)

module _ (s : State) (mem : List ℕ) where
  abbrev x : Vamp
  x = (s, mem)

  abbrev word : ℕ
  word = fetched mem s

  -- A step whose event stops it
  stops : (a : Answer) (e : ℕ × ℕ) → judged (Err a) ≡ passes e → event mem s ≡ e → (judged (Err a) ≡ passes (vstep x).0) × (x ≡ (vstep x).1)
  unfolding vstep
  stops a e j h = (j ∙ ap passes (sym h), sym (step_kept x (λ z. stopping a e j (ap (λ (b : ℕ × ℕ). b.0) (sym h) ∙ z))))

  -- Its fetch does
  pub stops_fetch : (a : Answer) → judged (Err a) ≡ passes (access_event (unaligned 4 s.dpc) s.dpc) → (judged (Err a) ≡ passes (vstep x).0) × (x ≡ (vstep x).1)
  unfolding event
  stops_fetch a j = stops a _ j (denied (unaligned 4 s.dpc) s.dpc _ (stopping a _ j))

  module _ (f : Answer) (fetches : judged (Ok f) ≡ passes (access_event (unaligned 4 s.dpc) s.dpc)) where
    after_fetch : event mem s ≡ word_event word s
    unfolding event word_event
    after_fetch = accessed (unaligned 4 s.dpc) s.dpc _ (passing f _ fetches)

    is_illegal : reading word ≡ (23, none) → word_event word s ≡ interrupt ILLEGAL
    unfolding word_event illegal effect_event
    is_illegal r = ap (λ (r : ℕ × Option Instruction). pick (eqb r.0 23) (interrupt ILLEGAL) (effect_event (act word s).0 s.spr)) r

    legal_is : {i : Instruction} {b : Effect × ℕ} → reading word ≡ (0, some i) → act word s ≡ b → word_event word s ≡ effect_event b.0 s.spr
    unfolding word_event effect_event illegal
    legal_is r a = ap₂ (λ (r : ℕ × Option Instruction) (b : Effect × ℕ). pick (eqb r.0 23) (interrupt ILLEGAL) (effect_event b.0 s.spr)) r a

    -- An illegal word does
    pub stops_illegal : reading word ≡ (23, none) → (judged (Err says.Illegal) ≡ passes (vstep x).0) × (x ≡ (vstep x).1)
    stops_illegal r = stops says.Illegal (interrupt ILLEGAL) refl (after_fetch ∙ is_illegal r)

    -- A legal one
    module _ (i : Instruction) (legal : reading word ≡ (0, some i)) (e : Effect) (n : ℕ) (means : (e, n) ≡ meaning i s.pc s.gpr s.spr) where
      acts : act word s ≡ (e, n)
      unfolding act
      acts = rw (act, legal) (sym means)

      after_word : event mem s ≡ effect_event e s.spr
      after_word = after_fetch ∙ word_is
        where
          word_is : word_event word s ≡ effect_event e s.spr
          word_is = legal_is legal acts

      -- Its effect does
      pub stops_effect : (a : Answer) → judged (Err a) ≡ passes (effect_event e s.spr) → (judged (Err a) ≡ passes (vstep x).0) × (x ≡ (vstep x).1)
      stops_effect a j = stops a (effect_event e s.spr) j after_word

      -- None does
      carried_is : carried word x ≡ (performed e (found e mem) n s, memory_after e mem)
      unfolding moved
      carried_is = ap (λ (a : Effect × ℕ). let y : Vamp = (performed a.0 (found a.0 mem) a.1 s, memory_after a.0 mem) in y) acts

      pub goes : (a : Answer) → judged (Ok a) ≡ passes (effect_event e s.spr) → (l : ℕ) → l ≡ found e mem → (mem' : List ℕ) → mem' ≡ memory_after e mem → (t : State) → t ≡ performed e l n s
          → (judged (Ok a) ≡ passes (vstep x).0) × ((t, mem') ≡ (vstep x).1)
      unfolding vstep
      goes a j l finds mem' keeps t applies = (
        j ∙ ap passes (sym after_word),
        ap₂ (λ (t : State) (m : List ℕ). let y : Vamp = (t, m) in y) (applies ∙ ap (λ (v : ℕ). performed e v n s) finds) keeps
            ∙ sym carried_is
            ∙ sym (step_carried x (ap (λ (b : ℕ × ℕ). b.0) after_word ∙ passing a _ j)),
      )

-- The access of an effect with no event
module _ (a : Answer) (e : Effect) (p : List ℕ) (passed : judged (Ok a) ≡ passes (effect_event e p)) where
  pub effect_within : (askew e ≡ false) × (access_past e ≡ false)
  unfolding effect_event
  effect_within = by (askew e) (access_past e) _ (passing a _ passed)
    where
      by : (t u : Bool) (r : ℕ × ℕ) → (pick t (interrupt MISALIGNED) (pick u past r)).0 ≡ 0 → (t ≡ false) × (u ≡ false)
      by true u r h = absurd (omega arith)
      by false true r h = absurd (omega arith)
      by false false r h = (refl, refl)

-- A fetch with no event
pub fetch_within : (a : Answer) (t : Bool) (d : ℕ) → judged (Ok a) ≡ passes (access_event t d) → d < MEMORY
unfolding access_event
fetch_within a t d j = by t (unmodelled d) refl (passing a _ j)
  where
    by : (t u : Bool) → unmodelled d ≡ u → (pick t (interrupt MISALIGNED) (pick u past (stepped 0))).0 ≡ 0 → d < MEMORY
    by true u e h = absurd (omega arith)
    by false true e h = absurd (omega arith)
    by false false e h = leb-false MEMORY d e
