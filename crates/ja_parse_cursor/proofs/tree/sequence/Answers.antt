use Rattle.std.proofs.Common.{◌∙◌, ap}
use Rattle.std.proofs.lemmas.Result.{IfOk-weaker}
use Rattle.ja_syntax.specs.declared.tree.Expression.TheVariants as e
use Rattle.ja_parse_cursor.proofs.Sequences.{sequence_none, sequence_one, sequence_more}
use Rattle.ja_parse_cursor.proofs.tree.sequence.Goals as goal

pub returns-then-is_empty : goal.returns-then-is_empty
returns-then-is_empty c =
    IfOk-weaker c.new.result _ _ (λ x made. made
    ∙ sequence_none c.args.place c.args.found (c.is_empty.ensures.0 c.if-is_empty.true))
    c.new.ensures

pub returns-then-is_empty-2 : goal.returns-then-is_empty-2
returns-then-is_empty-2 c =
    c.in_ok-first.ensures ∙ sequence_one _ _ _ _ c.remove.ensures.item c.remove.ensures.rest
    (c.is_empty-2.ensures.0 c.if-is_empty-2.true)

pub returns : goal.returns
returns c =
    IfOk-weaker c.new-3.result _ _
    (λ x made. made
    ∙ ap (λ first. e.Sequence first c.remove.new.self c.args.place)
    (c.into_boxed.ensures ∙ c.in_ok-first.ensures)
    ∙ sequence_more _ _ _ _ c.remove.ensures.item c.remove.ensures.rest
    (λ none. cc (c.is_empty-2.ensures.1 none, c.if-is_empty-2.false)))
    c.new-3.ensures
