-- Computed.
use Rattle.std.proofs.Common.{refl}
use Rattle.std.specs.Fmt.{digits}
use Rattle.unicode_width.proofs.Computing.{unicode_width}
use Rattle.ja_files.specs.Lines.{lines_of}
use Rattle.ja_lex.specs.Spots.{ends_line}
use Rattle.ja_prim.specs.Characters.{is_terminator}
use Rattle.ja_texts.specs.Texts.{place_text}
use Rattle.ja_show.specs.Lines.{blanks, caret_line, excerpt, shown, shown_line}
use Rattle.ja_show.specs.Messages.{calls_text, heading, message_text, messages_text, spot_text}
use Rattle.ja_show.proofs.laws.examples_of_messages.Goals as goal

-- with it unfolded, `refl` computes the text of messages
unfoldable messages : Unit {0}
unfolding messages_text message_text heading spot_text place_text calls_text digits excerpt
    shown_line caret_line shown blanks lines_of ends_line is_terminator unicode_width
messages = tt

pub returns-clause-at_a_place : goal.returns-clause-at_a_place
unfolding messages
returns-clause-at_a_place c = refl

pub returns-clause-called : goal.returns-clause-called
unfolding messages
returns-clause-called c = refl

pub returns-clause-of_the_tool : goal.returns-clause-of_the_tool
unfolding messages
returns-clause-of_the_tool c = refl

pub returns-clause-past_the_files : goal.returns-clause-past_the_files
unfolding messages
returns-clause-past_the_files c = refl

pub returns-clause-no_controls : goal.returns-clause-no_controls
unfolding messages
returns-clause-no_controls c = refl
