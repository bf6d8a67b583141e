use Rattle.std.proofs.Common.{◌≡◌, ◌≤◌, ◌+◌, ◌*◌, length}
use Rattle.std.specs.Option.{option_map}
use Rattle.ja_lex.specs.Strings.{body_after}
use Rattle.ja_lex.proofs.Bodies.{prefixed}
use Rattle.ja_lex.proofs.strings.read_body.Given as goal

abbrev pub invariant-items : goal.invariant-items
invariant-items l = record {
  same : option_map (prefixed l.units.items l.octal l.count) (body_after l.quote 0 l.rest)
      ≡ body_after l.quote 0 l.text;
  within : l.count + 6 * length l.rest ≤ 100663296;
}

abbrev pub decreases-items : goal.decreases-items
decreases-items l = length l.rest
