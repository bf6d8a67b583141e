use Rattle.std.proofs.Common.{◌≡◌, ◌++◌, take}
use Rattle.std.specs.List.{flat_map}
use Rattle.ja_show.specs.Page.{next_link}
use Rattle.ja_show.specs.code.Kept.{lists_in}
use Rattle.ja_show.proofs.page.push_next_links.Given as goal

abbrev pub invariant-loop-link : goal.invariant-loop-link
invariant-loop-link l =
    l.out.items
    ≡ l.initial.out.items ++ flat_map (next_link (lists_in l.names)) (take l.link-index l.links)
