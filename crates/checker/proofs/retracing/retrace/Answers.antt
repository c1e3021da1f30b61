use Rattle.std.proofs.Common.{ℕ, ◌%◌, List, length, refl, ap, ◌∙◌, arith, length-set}
use Rattle.checker.proofs.Retrace.{after_none, notes_none, one_more, one_taken, notes_on, target_small, wrote_first}
use Rattle.machine.specs.Effects.{State}
use Rattle.machine.specs.Record.{state_of}
use Rattle.checker.proofs.retracing.retrace.Goals as goal

pub loop-taken-init : goal.loop-taken-init
loop-taken-init c = record { kept = refl; reached = rw c.state-state.ensures (after_none _ _ _ _); notes = notes_none _ _ _ _; all = refl }

pub loop-taken-preserved : goal.loop-taken-preserved
loop-taken-preserved c =
    let l = c.loop-taken in
    let m = c.args.machine in
    let here : State × List ℕ = (l.state, l.words) in
    let fine = c.requires.1 l.taken c.loop-taken-test.true in
    let wrote = c.go-ran.ensures.1 0 (one_taken m.code m.«data» c.args.code.now (state_of m, c.args.words.now) l.taken here _ _ l.invariant.reached fine c.go-ran.ensures.0) ∙ wrote_first _ _ _ _ in
    record {
      kept = c.go-ran.auto.words ∙ l.invariant.kept;
      reached = one_more m.code m.«data» c.args.code.now (state_of m, c.args.words.now) l.taken here _ _ l.invariant.reached fine c.go-ran.ensures.0;
      notes = rw (c.note.ensures, c.place_of-at.ensures) (notes_on m.code m.«data» c.args.code.now (state_of m, c.args.words.now) l.taken (c.go-ran.result.wrote % 32) l.writers here l.invariant.reached l.invariant.all (omega arith) (target_small _ _ wrote) l.invariant.notes);
      all = ap length c.note.ensures ∙ length-set l.writers _ _ ∙ l.invariant.all;
    }
