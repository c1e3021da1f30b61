use Prim.Native.Nat.{ℕ}
use mathlib.Core.Path.{◌≡◌, ◌∙◌}
use mathlib.Core.List.{List, []}
use Rattle.std.proofs.Common.{rules}
use Rattle.machine.specs.Record.{refusal_no}
use Rattle.judge.specs.Judging.{judging}
use Rattle.judge.proofs.Ruled.{run_ruling, refused_ruling}
use Rattle.judge.proofs.judge.Goals as goal

pub returns-in-Ok : goal.returns-in-Ok
returns-in-Ok c = c.into.ensures ∙ run_ruling c.args.card.now c.in-Ok.ensures.refused c.in-Ok.machine _ _ c.in-Ok.ensures.ok c.check.result _ c.check.ensures

pub returns-in-Err : goal.returns-in-Err
returns-in-Err c =
    let told : (n : ℕ) → n ≡ refusal_no c.in-Err.refusal → ◌≡◌ {A = ℕ × List ℕ} (n, []) (judging c.args.card.now) =
    λ n t. refused_ruling c.args.card.now n c.in-Err.refusal t c.in-Err.ensures.refused in
    search (rules, told)
