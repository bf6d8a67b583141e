use Rattle.std.proofs.Common.{◌≡◌, ◌++◌}
use Rattle.ja_lower_draft.proofs.draft.joined.Given as goal

abbrev pub invariant-loop-part : goal.invariant-loop-part
invariant-loop-part l =
    l.parts.items ++ l.part-iterator.rest.items ≡ l.fn.parts.items ++ l.fn.behind.items
