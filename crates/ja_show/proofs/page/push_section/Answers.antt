use Rattle.std.proofs.Common.{◌++◌, ◌∙◌, ℕ, List, ap, append_assoc, codes, false}
use Rattle.ja_files.specs.Files.{spot_at}
use Rattle.ja_lex.specs.Spots.{place_at}
use Rattle.ja_show.specs.Messages.{name_at}
use Rattle.ja_show.specs.Page.{escaped, file_section, line_start, lines_text, source_text}
use Rattle.ja_show.specs.code.Kept.{lists_in}
use Rattle.ja_show.proofs.Parts.{adds, adds_as, none_yet}
use Rattle.ja_show.proofs.page.push_section.Goals as goal

pub returns : goal.returns
unfolding file_section
returns c =
    let names = lists_in c.args.names.now in
    let messages = c.args.messages.now in
    let links = c.args.links.now in
    let file = c.args.file in
    let text = c.args.text.now in
    let source : List ℕ =
    source_text names messages links (spot_at file (place_at 1 1)) false text in
    let start =
    adds (codes "<h2>") (none_yet c.args.out.now.items) c.in_ok-extend_from_slice.ensures.items in
    let name =
    adds_as (escaped (name_at names file)) start c.in_ok-push_escaped.ensures
    (ap escaped c.name_at.ensures) in
    let heading = adds (codes "</h2>\n<ol>\n") name c.in_ok-extend_from_slice-2.ensures.items in
    let lines =
    adds (lines_text names messages links file text) heading
    (c.in_ok-push_source.ensures
    ∙ ap (λ (out : List ℕ). out ++ source) c.in_ok-push_line_start.ensures
    ∙ append_assoc c.extend_from_slice-2.new.self.items (line_start file 1) source) in
    let section = adds (codes "</ol>\n") lines c.in_ok-extend_from_slice-3.ensures.items in
    section.is
