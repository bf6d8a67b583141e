use Rattle.std.proofs.Common.{sym, ◌∙◌}
use Rattle.ja_lex.proofs.Steps.{past_next, drop_next, past_end, past_none}
use Rattle.ja_lex.proofs.cursor.Cursor.advance.Goals as goal

pub returns-in_default-clause-spot : goal.returns-in_default-clause-spot
returns-in_default-clause-spot c =
    sym (past_end c.left.left c.left.self.spot c.left.self.rest.now c.in_default.len_below)
    ∙ c.left.invariant.spot

pub left-preserved : goal.left-preserved
left-preserved c = record {
  rest =
      drop_next c.left.left c.left.self.rest.now c.left-test.true c.in-len1-up.len_at_least
      ∙ c.left.invariant.rest;
  spot =
      rw c.after-spot.ensures.value (past_next c.left.left c.left.self.spot c.left.self.rest.now
      c.left-test.true c.in-len1-up.len_at_least ∙ c.left.invariant.spot);
}

pub returns-clause-spot : goal.returns-clause-spot
returns-clause-spot c =
    sym (past_none c.left.left c.left.self.spot c.left.self.rest.now c.left-test.false)
    ∙ c.left.invariant.spot
