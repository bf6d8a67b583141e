use Rattle.std.proofs.Common.{◌≡◌, ◌+◌, length}
use Rattle.std.specs.Option.{option_map}
use Rattle.ja_lex.specs.Blanks.{closing}
use Rattle.ja_lex.proofs.blanks.closing.Given as goal

abbrev pub invariant-rest : goal.invariant-rest
invariant-rest l = record {
  same : option_map (λ n. l.count + n) (closing l.rest) ≡ closing l.text;
  within : l.count + length l.rest ≡ length l.text;
}

abbrev pub decreases-rest : goal.decreases-rest
decreases-rest l = length l.rest
