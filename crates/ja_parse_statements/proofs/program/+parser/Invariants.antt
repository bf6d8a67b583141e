use Rattle.ja_parse_statements.proofs.program.+parser.Given as goal

abbrev pub decreases-statement_at : goal.decreases-statement_at
decreases-statement_at l = l.depth
