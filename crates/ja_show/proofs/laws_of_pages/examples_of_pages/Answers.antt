-- Computed.
use Rattle.std.proofs.Common.{refl}
use Rattle.std.specs.Fmt.{digits}
use lib.Utf8.{encode}
use Rattle.unicode_width.specs.Width.{char_width}
use Rattle.ja_lex.specs.Spots.{ends_line}
use Rattle.ja_prim.specs.Characters.{is_part, is_terminator}
use Rattle.ja_texts.specs.Texts.{place_text}
use Rattle.ja_show.specs.Lines.{shown}
use Rattle.ja_show.specs.Page.{call_link, calls_links, escaped, heading, line_start, link_start, links_text, mark_start, message_item, names_text, source_text, spot_link}
use Rattle.ja_show.proofs.laws_of_pages.examples_of_pages.Goals as goal

pub returns-clause-call : goal.returns-clause-call
unfolding call_link char_width digits ends_line escaped is_part is_terminator line_start
    link_start links_text mark_start place_text shown source_text encode
returns-clause-call c = refl

pub returns-clause-property : goal.returns-clause-property
unfolding call_link char_width digits ends_line escaped is_part is_terminator line_start
    link_start links_text mark_start place_text shown source_text encode
returns-clause-property c = refl

pub returns-clause-elsewhere : goal.returns-clause-elsewhere
unfolding call_link char_width digits ends_line escaped is_part is_terminator line_start
    link_start links_text mark_start place_text shown source_text encode
returns-clause-elsewhere c = refl

pub returns-clause-item : goal.returns-clause-item
unfolding calls_links digits escaped link_start message_item place_text spot_link
returns-clause-item c = refl

pub returns-clause-heading : goal.returns-clause-heading
unfolding escaped heading names_text
returns-clause-heading c = refl
