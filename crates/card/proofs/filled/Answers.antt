use Rattle.std.proofs.Common.{◌≡◌, refl}
use Rattle.std.proofs.lemmas.Option.{MatchOption-at_none, MatchOption-at_some}
use Rattle.std.proofs.lemmas.Result.{err_from_is_err_and}
use Rattle.std.specs.Prelude.{Option, None, Result, Err}
use Rattle.std.specs.Option.{ok_or}
use Rattle.card.proofs.Accepted.{room}
use Rattle.card.proofs.Loading.{wrong_code, wrong_words, wrong_memory, refused_card, loaded_card}
use Rattle.card.proofs.filled.Goals as goal

-- The refusal that stands in the place of an array
in_place : {A E : Type 0} {o : Option A} {r e : E} (x : Result A E) → x ≡ Err r → o ≡ None → x ≡ ok_or o e → r ≡ e
in_place x i n v = let h = rw n at v in cc

pub returns-in_err-code : goal.returns-in_err-code
returns-in_err-code c =
    let e = c.in_err-code.ensures in
    let p = err_from_is_err_and c.from_residual.result c.from_residual.ensures.1 in
    rw (p.1, p.2, in_place _ refl e.ok_part e.value, wrong_code _ _ _ _ (MatchOption-at_none _ _ e.ok_part c.as_mut_array.ensures.cases))

pub returns-in_err-words : goal.returns-in_err-words
returns-in_err-words c =
    let k = MatchOption-at_some _ _ _ c.in_ok-code.ensures.ok_part c.as_mut_array.ensures.cases in
    let e = c.in_err-words.ensures in
    let p = err_from_is_err_and c.from_residual-in_err-words.result c.from_residual-in_err-words.ensures.1 in
    rw (p.1, p.2, in_place _ refl e.ok_part e.value, wrong_words _ _ _ _ k.long (MatchOption-at_none _ _ e.ok_part c.as_mut_array-2.ensures.cases), k.same)

pub returns-in_err-memory : goal.returns-in_err-memory
returns-in_err-memory c =
    let k = MatchOption-at_some _ _ _ c.in_ok-code.ensures.ok_part c.as_mut_array.ensures.cases in
    let l = MatchOption-at_some _ _ _ c.in_ok-words.ensures.ok_part c.as_mut_array-2.ensures.cases in
    let e = c.in_err-memory.ensures in
    let p = err_from_is_err_and c.from_residual-in_err-memory.result c.from_residual-in_err-memory.ensures.1 in
    rw (p.1, p.2, in_place _ refl e.ok_part e.value, wrong_memory _ _ _ _ k.long l.long (MatchOption-at_none _ _ e.ok_part c.as_mut_array-3.ensures.cases), k.same, l.same)

pub returns-in_err-machine : goal.returns-in_err-machine
returns-in_err-machine c =
    let k = MatchOption-at_some _ _ _ c.in_ok-code.ensures.ok_part c.as_mut_array.ensures.cases in
    let l = MatchOption-at_some _ _ _ c.in_ok-words.ensures.ok_part c.as_mut_array-2.ensures.cases in
    let n = MatchOption-at_some _ _ _ c.in_ok-memory.ensures.ok_part c.as_mut_array-3.ensures.cases in
    let p = err_from_is_err_and c.from_residual-in_err-machine.result c.from_residual-in_err-machine.ensures.1 in
    rw (p.1, p.2, refused_card _ _ _ _ k.long l.long n.long _ c.in_err-machine.ensures, k.same, l.same, n.same)

pub fill_buffers-requires-clause-room : goal.fill_buffers-requires-clause-room
fill_buffers-requires-clause-room c = let h = c.in_ok-machine.ensures in room _ (rw h.0 at h.1)

pub returns : goal.returns
returns c =
    let k = MatchOption-at_some _ _ _ c.in_ok-code.ensures.ok_part c.as_mut_array.ensures.cases in
    let l = MatchOption-at_some _ _ _ c.in_ok-words.ensures.ok_part c.as_mut_array-2.ensures.cases in
    let n = MatchOption-at_some _ _ _ c.in_ok-memory.ensures.ok_part c.as_mut_array-3.ensures.cases in
    let h = c.in_ok-machine.ensures in
    loaded_card _ _ _ _ k.long l.long n.long (rw h.0 at h.1) c.fill_buffers.ensures
