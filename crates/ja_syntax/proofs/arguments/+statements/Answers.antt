use Rattle.std.proofs.Math.Bool.{or-false}
use Rattle.std.proofs.Common.{◌≡◌, ◌||◌, Bool, true, false, sym, ◌∙◌, ap, refl}
use Rattle.std.specs.List.{list_any}
use Rattle.ja_syntax.specs.Arguments.{in_statement}
use Rattle.ja_syntax.proofs.ArgumentsInStatements.{in_for, in_try}
use Rattle.ja_syntax.proofs.arguments.+statements.Goals as goal

pub in_statement-returns-then-in_first : goal.in_statement-returns-then-in_first
in_statement-returns-then-in_first t c =
    let e = in_for c.in-For.first c.in-For.condition c.in-For.update c.in-For.body c.in-For.place in
    rw (c.in-For.is, e, sym c.if-in_first.ensures) refl

pub in_statement-returns-then-in_optional_boxed
    : goal.in_statement-returns-then-in_optional_boxed
in_statement-returns-then-in_optional_boxed t c =
    let e = in_for c.in-For.first c.in-For.condition c.in-For.update c.in-For.body c.in-For.place in
    rw (c.in-For.is, e, sym c.if-in_first.ensures, sym c.if-in_optional_boxed.ensures) refl

pub in_statement-returns-then-in_optional_boxed-2
    : goal.in_statement-returns-then-in_optional_boxed-2
in_statement-returns-then-in_optional_boxed-2 t c =
    let e = in_for c.in-For.first c.in-For.condition c.in-For.update c.in-For.body c.in-For.place in
    rw (
      c.in-For.is,
      e,
      sym c.if-in_first.ensures,
      sym c.if-in_optional_boxed.ensures,
      sym c.if-in_optional_boxed-2.ensures,
    ) refl

pub in_statement-returns-in-None-Some : goal.in_statement-returns-in-None-Some
in_statement-returns-in-None-Some t c =
    let e = in_try c.in-Try.block c.in-Try.catch c.in-Try.finally c.in-Try.place in
    let no : list_any in_statement c.in-Try.block
    ≡ false = ap (list_any in_statement) (sym c.as_slice-in-Try.ensures)
    ∙ sym c.if-in_statements.ensures in
    rw (c.in-Try.is, e, no, c.in-None-Some.is-0, c.in-None-Some.is-1)
    (c.in_statements-in-None-Some.ensures
    ∙ ap (list_any in_statement) c.as_slice-in-None-Some.ensures)

pub in_statement-returns-in-Some-None : goal.in_statement-returns-in-Some-None
in_statement-returns-in-Some-None t c =
    let e = in_try c.in-Try.block c.in-Try.catch c.in-Try.finally c.in-Try.place in
    let no : list_any in_statement c.in-Try.block
    ≡ false = ap (list_any in_statement) (sym c.as_slice-in-Try.ensures)
    ∙ sym c.if-in_statements.ensures in
    let last : c.in_statements-in-Some-None.result
    ≡ list_any in_statement c.in-Some-None.catch.body = c.in_statements-in-Some-None.ensures
    ∙ ap (list_any in_statement) c.as_slice-in-Some-None.ensures in
    rw (c.in-Try.is, e, no, c.in-Some-None.is-0, c.in-Some-None.is-1)
    (last ∙ sym (or-false (list_any in_statement c.in-Some-None.catch.body)))

pub in_statement-returns-else-in_statements-2 : goal.in_statement-returns-else-in_statements-2
in_statement-returns-else-in_statements-2 t c =
    let e = in_try c.in-Try.block c.in-Try.catch c.in-Try.finally c.in-Try.place in
    let no : list_any in_statement c.in-Try.block
    ≡ false = ap (list_any in_statement) (sym c.as_slice-in-Try.ensures)
    ∙ sym c.if-in_statements.ensures in
    let none : list_any in_statement c.in-Some-Some.catch.body
    ≡ false = ap (list_any in_statement) (sym c.as_slice-in-Some-Some.ensures)
    ∙ sym c.if-in_statements-2.ensures in
    rw (c.in-Try.is, e, no, c.in-Some-Some.is-0, c.in-Some-Some.is-1, none)
    (c.in_statements-else-in_statements-2.ensures
    ∙ ap (list_any in_statement) c.as_slice-else-in_statements-2.ensures)
