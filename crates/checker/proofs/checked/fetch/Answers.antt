use Rattle.std.proofs.Common.{rules}
use Rattle.checker.proofs.Tests.{offset_word}
use Rattle.checker.proofs.checked.fetch.Goals as goal

pub returns-then-fetched-ne0 : goal.returns-then-fetched-ne0
returns-then-fetched-ne0 c = search rules

pub returns-then-from-offset : goal.returns-then-from-offset
returns-then-from-offset c = search rules

pub returns : goal.returns
returns c =
    let h = (rw c.from.ensures at c.if-from-offset.false) in
    (c.if-fetched-ne0.false, (c.offset_of-offset.ensures.0 h).0, offset_word c.args.region c.args.code.now _ _ c.offset_of-offset.ensures h)
