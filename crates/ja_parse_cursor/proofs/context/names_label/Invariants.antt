use Rattle.std.proofs.Common.{◌≡◌, drop, map}
use Rattle.std.specs.List.{list_any}
use Rattle.std.specs.Str.{bytes_eq}
use Rattle.ja_grammar.specs.code.Contexts.{label_of}
use Rattle.ja_parse_cursor.proofs.context.names_label.Given as goal

abbrev pub invariant-loop-label : goal.invariant-loop-label
invariant-loop-label l =
    list_any (λ x. bytes_eq x.name l.name) (map label_of (drop l.label-index l.labels))
    ≡ list_any (λ x. bytes_eq x.name l.name) (map label_of l.labels)
