-- Computed.
use Rattle.std.proofs.Common.{refl}
use Rattle.ja_lex.specs.Spots.{ends_line}
use Rattle.ja_prim.specs.Characters.{is_terminator}
use Rattle.ja_files.specs.Files.{joined_text, lines_from}
use Rattle.ja_files.proofs.laws.examples_of_files.Goals as goal

pub returns-clause-none : goal.returns-clause-none
unfolding joined_text
returns-clause-none c = refl

pub returns-clause-alone : goal.returns-clause-alone
unfolding joined_text
returns-clause-alone c = refl

pub returns-clause-two : goal.returns-clause-two
unfolding joined_text
returns-clause-two c = refl

pub returns-clause-two_begin : goal.returns-clause-two_begin
unfolding lines_from ends_line is_terminator
returns-clause-two_begin c = refl

pub returns-clause-line_feed : goal.returns-clause-line_feed
unfolding lines_from ends_line is_terminator
returns-clause-line_feed c = refl

pub returns-clause-carriage_return : goal.returns-clause-carriage_return
unfolding lines_from ends_line is_terminator
returns-clause-carriage_return c = refl

pub returns-clause-empty : goal.returns-clause-empty
unfolding lines_from ends_line is_terminator
returns-clause-empty c = refl
