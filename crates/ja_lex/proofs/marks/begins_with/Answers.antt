use Rattle.std.proofs.Common.{◌≡◌, get_or, sym, ◌∙◌, arith}
use Rattle.std.proofs.lemmas.List.{get_or_read}
use Rattle.ja_lex.proofs.Steps.{begins_short, begins_differs, begins_same, begins_all}
use Rattle.ja_lex.proofs.marks.begins_with.Goals as goal

pub returns-in-empty : goal.returns-in-empty
returns-in-empty c =
    sym (begins_short c.args.mark.now c.loop-byte.rest.now c.loop-byte.byte-index
    c.loop-byte-test.true c.in-empty.len_below) ∙ c.loop-byte.invariant

pub returns-then-from : goal.returns-then-from
returns-then-from c =
    sym (begins_differs c.args.mark.now c.loop-byte.rest.now c.loop-byte.byte-index
    c.loop-byte-test.true c.in-len1-up.len_at_least
    (λ e. c.if-from.true (c.from.ensures ∙ get_or_read c.loop-byte.rest.now _ _ (omega arith)
    c.first-item.is 0 ∙ e ∙ sym c.from-in-len1-up.ensures))) ∙ c.loop-byte.invariant

pub loop-byte-preserved : goal.loop-byte-preserved
loop-byte-preserved c =
    let e : get_or c.loop-byte.rest.now 0 0
    ≡ get_or c.args.mark.now c.loop-byte.byte-index 0 = sym
    (c.from.ensures ∙ get_or_read c.loop-byte.rest.now _ _ (omega arith) c.first-item.is 0)
    ∙ c.if-from.false ∙ c.from-in-len1-up.ensures in
    begins_same c.args.mark.now c.loop-byte.rest.now c.loop-byte.byte-index c.loop-byte-test.true
    c.in-len1-up.len_at_least e ∙ c.loop-byte.invariant

pub returns : goal.returns
returns c =
    sym (begins_all c.args.mark.now c.loop-byte.rest.now c.loop-byte.byte-index
    c.loop-byte-test.false) ∙ c.loop-byte.invariant
