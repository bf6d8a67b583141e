use Rattle.ja_parse_cursor.proofs.Turns.{not_false, not_true, passed, until_start, until_stop, until_none, until_more, until_error}
use Rattle.ja_grammar.specs.Input.{strict}
use Rattle.ja_grammar.specs.ReadExpression as spec
use Rattle.ja_grammar.specs.ReadStatement.{below}
use Rattle.ja_grammar.specs.Forms as forms
use Rattle.std.proofs.Common.{not}
use Rattle.ja_parse_expressions.proofs.grammar.Grammar.property_suffixes.Goals as goal

pub loop-turn-init : goal.loop-turn-init
loop-turn-init g c =
    rw c.new-found.ensures (until_start (λ found. not (forms.begins_property found))
    (spec.property_suffix (strict c.args.self.now.depth) (below strict c.args.self.now.depth)) _
    c.args.cursor.now c.left-turn-end.ensures)

pub returns-then-not-begins_property : goal.returns-then-not-begins_property
returns-then-not-begins_property g c =
    until_stop (λ found. not (forms.begins_property found))
    (spec.property_suffix (strict c.args.self.now.depth) (below strict c.args.self.now.depth)) _ _ _
    _ c.loop-turn.invariant (not_false (cc (
      c.symbol.ensures,
      c.begins_property.ensures,
      c.if-not-begins_property.true,
    )))

pub returns-in_err-item : goal.returns-in_err-item
returns-in_err-item g c =
    passed _ _ _ _ c.from_residual.ensures (until_error (λ found. not (forms.begins_property found))
    (spec.property_suffix (strict c.args.self.now.depth) (below strict c.args.self.now.depth)) _
    _ _ _ _ _ _ c.loop-turn.invariant c.loop-turn-test.true
    (not_true (cc (
      c.symbol.ensures,
      c.begins_property.ensures,
      c.if-not-begins_property.false,
    ))) c.in_err-item.ensures)

pub loop-turn-preserved : goal.loop-turn-preserved
loop-turn-preserved g c =
    rw c.in_ok-push.ensures.ok (until_more (λ found. not (forms.begins_property found))
    (spec.property_suffix (strict c.args.self.now.depth) (below strict c.args.self.now.depth)) _
    _ _ _ _ _ _ c.loop-turn.invariant c.loop-turn-test.true
    (not_true (cc (
      c.symbol.ensures,
      c.begins_property.ensures,
      c.if-not-begins_property.false,
    ))) c.in_ok-item.ensures)

pub returns : goal.returns
returns g c =
    until_none (λ found. not (forms.begins_property found))
    (spec.property_suffix (strict c.args.self.now.depth) (below strict c.args.self.now.depth)) _ _ _
    _ _ c.loop-turn.invariant c.loop-turn-test.false
