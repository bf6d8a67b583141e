use Rattle.std.proofs.Common.{◌≡◌, ◌++◌, take}
use Rattle.std.specs.List.{flat_map}
use Rattle.ja_show.specs.Page.{next_name}
use Rattle.ja_show.proofs.page.push_next_names.Given as goal

abbrev pub invariant-loop-name : goal.invariant-loop-name
invariant-loop-name l =
    l.out.items
    ≡ l.initial.out.items ++ flat_map (λ name. next_name name.items) (take l.name-index l.names)
