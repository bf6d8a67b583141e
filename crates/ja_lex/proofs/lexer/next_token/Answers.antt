use Rattle.std.proofs.Common.{◌≡◌, ◌≤◌, ◌<◌, ◌||◌, false, length, take, length-drop, sym, ◌∙◌, refl, arith}
use Rattle.std.specs.List.{list_any}
use Rattle.std.proofs.lemmas.Bool.Decides.{nat_tests}
use Rattle.ja_prim.specs.Characters.{is_terminator}
use Rattle.ja_lex.specs.declared.element.Element.TheVariants as element
use Rattle.ja_lex.specs.Tokens.{first_element, tokens_after}
use Rattle.ja_lex.proofs.Steps.{blank_next, token_next, tokens_end}
use Rattle.ja_lex.proofs.lexer.next_token.Goals as goal
use Rattle.ja_lex.proofs.lexer.next_token.Goals.{then-line_before, else-line_before}

pub blanks-preserved : goal.blanks-preserved
blanks-preserved c =
    let some : 1 ≤ length c.blanks.cursor.rest.now = grind (arith, nat_tests) in
    let e : first_element c.blanks.cursor.rest.now
    ≡ element.Blank c.in-Blank.length = sym c.in_ok-element.ensures ∙ c.in-Blank.is in
    let line : c.if-line_before.line_before ≡ c.blanks.line_before
    || list_any is_terminator (take c.in-Blank.length c.blanks.cursor.rest.now) =
    elim c.if-line_before.branch [
      | then-line_before w ↦ w.line_before-is
          ∙ rw w.if-line_before.true refl
      | else-line_before w ↦ w.line_before-is
          ∙ w.has_terminator-line_before.ensures ∙ rw w.if-line_before.false refl
    ] in
    record {
      same =
          rw (line, c.advance.ensures.spot, c.advance.ensures.rest, c.max.ensures)
          (blank_next c.blanks.line_before c.blanks.cursor.spot c.blanks.cursor.rest.now
          c.in-Blank.length some e ∙ c.blanks.invariant.same);
      shorter =
          rw c.advance.ensures.rest (omega (
            arith,
            length-drop c.max.result c.blanks.cursor.rest.now,
          ));
    }

pub returns-in-Token-clause-next : goal.returns-in-Token-clause-next
returns-in-Token-clause-next c =
    let some : 1 ≤ length c.blanks.cursor.rest.now = grind (arith, nat_tests) in
    let e : first_element c.blanks.cursor.rest.now
    ≡ element.Token c.in-Token.kind c.in-Token.length = sym c.in_ok-element.ensures
    ∙ c.in-Token.is in
    sym c.blanks.invariant.same ∙ rw (
      c.token.ensures,
      c.advance-in-Token.ensures.spot,
      c.advance-in-Token.ensures.rest,
      c.max-in-Token.ensures,
    )
    (token_next c.blanks.line_before c.blanks.cursor.spot c.blanks.cursor.rest.now c.in-Token.kind
    c.in-Token.length some e)

pub returns-clause-next : goal.returns-clause-next
returns-clause-next c =
    let none : length c.blanks.cursor.rest.now < 1 = grind (arith, nat_tests) in
    sym c.blanks.invariant.same ∙ rw c.token-2.ensures
    (tokens_end c.blanks.line_before c.blanks.cursor.spot c.blanks.cursor.rest.now
    (tokens_after 0 false c.blanks.cursor.spot c.blanks.cursor.rest.now) none)
