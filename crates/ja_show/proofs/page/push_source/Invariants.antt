use Rattle.std.proofs.Common.{◌≡◌, ◌+◌, ◌≤◌, ◌++◌, false, drop}
use Rattle.ja_files.specs.Files.{spot_at}
use Rattle.ja_lex.specs.Spots.{place_at}
use Rattle.ja_show.specs.Page.{AreLinksOrdered, AreMessagesOrdered, source_text}
use Rattle.ja_show.specs.code.Kept.{lists_in}
use Rattle.ja_show.proofs.page.push_source.Given as goal

-- what is written and what is left make the whole
abbrev pub invariant-loop-index : goal.invariant-loop-index
invariant-loop-index l = record {
  text : l.out.items
      ++ source_text (lists_in l.names) l.walk.messages.now l.walk.links.now l.walk.spot
      l.walk.marked (drop l.index l.text)
      ≡ l.initial.out.items
      ++ source_text (lists_in l.names) l.fn.messages l.fn.links
      (spot_at l.fn.file (place_at 1 1)) false l.text;
  line : l.walk.spot.place.line ≤ l.index + 1;
  column : l.walk.spot.place.column ≤ l.index + 1;
  messages : AreMessagesOrdered l.walk.messages.now;
  links : AreLinksOrdered l.walk.links.now;
}
