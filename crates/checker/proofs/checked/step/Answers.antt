use Rattle.std.proofs.Common.{◌≡◌, ℕ, ◌<◌, Ok, sym, refl, ap, ◌∙◌, arith, le-ltb}
use mathlib.Core.Option.{some}
use Rattle.std.proofs.lemmas.Result.{err_from_is_err_and}
use Rattle.checker.proofs.Retrace.{writes_by}
use Rattle.checker.proofs.Tests.{effect_number, none_broken, stop_early, stop_23, stop_24, tests_left, taken}
use Rattle.checker.specs.Checks.{test_no, outside, violation}
use Rattle.checker.specs.Inner.{Fetches, broken_no}
use Rattle.machine.specs.Effects.{askew, mode_set}
use Rattle.machine.specs.Record.{word_at}
use Rattle.machine.specs.declared.Effect.{Effect}
use Rattle.words.specs.Words.{reading, reading_answer}
use Rattle.checker.proofs.checked.step.Goals as goal
use Rattle.checker.proofs.checked.step.Goals.{After-read, In-Some, After-first_broken}

-- The word is the one at DPC, where tests 21 and 22 hold nothing against it
fetches : (c : After-read) → Fetches c.args.machine.now.code c.args.state.now.dpc c.args.code.now (Ok c.in_ok-word.word)
fetches c = rw c.in_ok-word.was at c.fetch.ensures

reads : (c : After-read) → reading (word_at c.args.machine.now.code c.args.code.now c.args.state.now.dpc) ≡ reading_answer c.read.result
reads c = ap reading (sym (fetches c).2) ∙ sym c.read.ensures

instruction : (c : In-Some) → reading (word_at c.args.machine.now.code c.args.code.now c.args.state.now.dpc) ≡ (0, some c.in-Some.instruction)
instruction c = reads (goal.at.In-Some c).After-read ∙ ap reading_answer c.in-Some.is

-- The step breaks the test that its effect breaks
tests : (c : After-first_broken) → violation c.args.machine.now.code c.args.machine.now.«data» c.args.code.now c.args.state.now ≡ broken_no c.first_broken.result
tests c =
    let f = fetches (goal.at.After-first_broken c).After-read in
    tests_left _ _ _ _ f.0 f.1 _ (instruction (goal.at.After-first_broken c).In-Some) (sym c.admits.ensures ∙ c.if-not-admits.false) c.meaning-effect.result.effect (ap (λ (p : Effect × ℕ). p.0) c.meaning-effect.ensures)
    ∙ sym c.first_broken.ensures

pub returns-in_err-word : goal.returns-in_err-word
returns-in_err-word c =
    let x = c.in_err-word.field-0.0 in
    let e = (rw c.in_err-word.was at c.fetch.ensures) in
    let s = stop_early c.args.machine.now.code c.args.machine.now.«data» c.args.code.now c.args.state.now x.test e.0 in
    let h = err_from_is_err_and c.from_residual.result c.from_residual.ensures.1 in
    rw (h.1, h.2) (s.0, e.1 ∙ s.1, refl, refl)

pub returns-in_default : goal.returns-in_default
returns-in_default c =
    let a = (goal.at.returns-in_default c).After-read in
    let f = fetches a in
    (stop_23 _ _ _ _ f.0 f.1 (reads a ∙ ap reading_answer c.in_default.is), f.2, refl, refl)

pub returns-then-not-admits : goal.returns-then-not-admits
returns-then-not-admits c =
    let f = fetches (goal.at.returns-then-not-admits c).After-read in
    let i = instruction (goal.at.returns-then-not-admits c).In-Some in
    (stop_24 _ _ _ _ f.0 f.1 _ i (sym c.admits.ensures ∙ c.if-not-admits.true), f.2, refl, refl)

pub returns-in-Err : goal.returns-in-Err
returns-in-Err c =
    let f = fetches (goal.at.returns-in-Err c).After-read in
    let e = tests (goal.at.returns-in-Err c).After-first_broken ∙ ap broken_no c.in-Err.is in
    let k : 24 < test_no c.in-Err.test = effect_number (askew c.meaning-effect.result.effect) (outside c.args.machine.now.«data» c.meaning-effect.result.effect) (mode_set c.meaning-effect.result.effect) c.in-Err.test (sym (ap broken_no c.in-Err.is) ∙ c.first_broken.ensures) in
    (e, rw (le-ltb (test_no c.in-Err.test) 23 (omega arith)) f.2, refl, refl)

pub returns : goal.returns
returns c =
    let f = fetches (goal.at.returns c).After-read in
    let i = instruction (goal.at.returns c).In-Some in
    let e = tests (goal.at.returns c).After-first_broken ∙ ap broken_no c.in_default-first_broken.is in
    (e, taken _ _ _ _ f.0 f.1 _ i _ _ _ _ _ _ c.meaning-effect.ensures c.access-loaded.ensures.0 c.access-loaded.ensures.1 c.apply.ensures, c.written.ensures ∙ writes_by _ _ _ i _ _ c.meaning-effect.ensures)

pub access-loaded-requires : goal.access-loaded-requires
access-loaded-requires c = (c.requires.1, (none_broken (askew c.meaning-effect.result.effect) (outside c.args.machine.now.«data» c.meaning-effect.result.effect) (mode_set c.meaning-effect.result.effect) (sym c.first_broken.ensures ∙ ap broken_no c.in_default-first_broken.is)).1)
