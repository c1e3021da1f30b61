use Rattle.std.proofs.Common.{rules}
use mathlib.Core.Path.{◌≡◌, refl, sym, ap, ◌∙◌}
use Rattle.std.specs.Prelude.{Err}
use Rattle.std.proofs.lemmas.Result.{err_from_is_err_and}
use Rattle.machine.specs.declared.Refusal.{Refusal}
use Rattle.machine.specs.Record.{refused_no}
use Rattle.judge.proofs.Ruled.{loaded_refused, loaded_ok, loaded_program}
use Rattle.judge.proofs.loaded.Goals as goal

pub returns-in_err-loaded-clause-refused : goal.returns-in_err-loaded-clause-refused
returns-in_err-loaded-clause-refused c =
    let told = err_from_is_err_and c.from_residual.result c.from_residual.ensures.1 in
    let same : told.0 ≡ c.in_err-loaded.field-0.0 = told.2 in
    ap refused_no told.1 ∙ loaded_refused c.args.card.now _ _ _ (search rules) (search rules) refl c.load-loaded.result _ _ _ c.load-loaded.ensures told.0 (c.in_err-loaded.was ∙ ap (λ (r : Refusal). Err r) (sym same))

pub returns-clause-refused : goal.returns-clause-refused
returns-clause-refused c = loaded_ok c.args.card.now _ _ _ (search rules) (search rules) refl c.load-loaded.result _ _ _ c.load-loaded.ensures c.in_ok-loaded.was

pub returns-clause-ok : goal.returns-clause-ok
returns-clause-ok c = loaded_program c.args.card.now _ _ _ (search rules) (search rules) refl c.load-loaded.result _ _ _ c.load-loaded.ensures c.in_ok-loaded.was
