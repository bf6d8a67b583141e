use Rattle.std.proofs.Common.{◌≡◌, map, filter, drop}
use Rattle.std.specs.List.{fold}
use Rattle.ja_lower_expressions.specs.Specials.{is_name}
use Rattle.ja_lower_names.specs.Names.{with_name}
use Rattle.ja_lower_names.specs.code.TextParts.{named_of}
use Rattle.ja_lower.proofs.add_names.Given as goal

abbrev pub invariant-loop-named : goal.invariant-loop-named
invariant-loop-named l =
    fold with_name l.names (map (λ n. n.text)
    (filter (is_name l.specials) (map named_of (drop l.named-index l.texts))))
    ≡ fold with_name l.initial.names (map (λ n. n.text)
    (filter (is_name l.specials) (map named_of l.texts)))
