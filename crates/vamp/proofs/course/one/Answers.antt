use mathlib.Core.Path.{sym, ap, ◌∙◌}
use Rattle.std.specs.Prelude.{Err}
use Rattle.words.specs.Words.{reading}
use Rattle.vamp.specs.Memory.{at}
use Rattle.vamp.specs.Inner.{judged}
use Rattle.vamp.specs.declared.Answer.{Answer}
use Rattle.vamp.proofs.Performs.{handed, readable, unread, stops_fetch, stops_illegal, stops_effect, goes, effect_within, fetch_within}
use Rattle.vamp.proofs.course.one.Goals as goal

pub returns-in_err-access : goal.returns-in_err-access
returns-in_err-access c =
    let p = stops_fetch _ _ _ c.in_err-access.ensures in
    record { answer = handed _ _ c.from_residual.ensures.1 ∙ p.0; left = p.1 }

pub of-requires : goal.of-requires
of-requires c = fetch_within _ _ _ c.in_ok-access.ensures

pub returns-in_err-instruction : goal.returns-in_err-instruction
returns-in_err-instruction c =
    let u = unread _ _ (c.read.ensures ∙ ap reading (c.read-word.ensures ∙ ap (at 32 c.args.memory.now) c.of.ensures)) _ (sym c.ok_or.ensures.value ∙ c.in_err-instruction.was) in
    let p = stops_illegal _ _ _ c.in_ok-access.ensures u.0 in
    record { answer = handed _ _ c.from_residual-in_err-instruction.ensures.1 ∙ ap (λ (a : Answer). judged (Err a)) u.1 ∙ p.0; left = p.1 }

pub returns-in_err-answer : goal.returns-in_err-answer
returns-in_err-answer c =
    let r = readable _ _ (c.read.ensures ∙ ap reading (c.read-word.ensures ∙ ap (at 32 c.args.memory.now) c.of.ensures)) _ (sym c.ok_or.ensures.value ∙ c.in_ok-instruction.was) in
    let p = stops_effect _ _ _ c.in_ok-access.ensures _ r _ _ c.meaning-act.ensures _ c.in_err-answer.ensures in
    record { answer = handed _ _ c.from_residual-in_err-answer.ensures.1 ∙ p.0; left = p.1 }

pub carry-loaded-requires : goal.carry-loaded-requires
carry-loaded-requires c = effect_within _ _ _ c.in_ok-answer.ensures

pub returns : goal.returns
returns c =
    let r = readable _ _ (c.read.ensures ∙ ap reading (c.read-word.ensures ∙ ap (at 32 c.args.memory.now) c.of.ensures)) _ (sym c.ok_or.ensures.value ∙ c.in_ok-instruction.was) in
    let p = goes _ _ _ c.in_ok-access.ensures _ r _ _ c.meaning-act.ensures _ c.in_ok-answer.ensures _ c.carry-loaded.ensures.0 _ c.carry-loaded.ensures.1 _ c.apply.ensures in
    record { answer = p.0; left = rw c.apply.ensures (rw c.apply.ensures at p.1) }
