use Rattle.std.proofs.Common.{◌≡◌, ◌++◌, drop}
use Rattle.ja_show.specs.Page.{sections}
use Rattle.ja_show.specs.code.Kept.{lists_in}
use Rattle.ja_show.proofs.page.push_sections.Given as goal

-- what is written and what is left make the whole
abbrev pub invariant-loop-text : goal.invariant-loop-text
invariant-loop-text l = record {
  text : l.out.items
      ++ sections (lists_in l.names) l.messages l.links l.file
      (lists_in (drop l.text-index l.texts))
      ≡ l.initial.out.items
      ++ sections (lists_in l.names) l.messages l.links 0 (lists_in l.texts);
  count : l.file ≡ l.text-index;
}
