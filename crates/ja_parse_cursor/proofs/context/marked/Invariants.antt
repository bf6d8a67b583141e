use Rattle.std.proofs.Common.{◌≡◌, ◌++◌, drop, map}
use Rattle.ja_grammar.specs.Contexts.{marked}
use Rattle.ja_grammar.specs.code.Contexts.{label_of}
use Rattle.ja_parse_cursor.proofs.context.marked.Given as goal

abbrev pub invariant-loop-label : goal.invariant-loop-label
invariant-loop-label l =
    map label_of l.copy.items ++ marked l.left (drop l.label-index (map label_of l.labels))
    ≡ marked l.count (map label_of l.labels)
