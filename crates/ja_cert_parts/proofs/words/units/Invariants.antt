use Rattle.std.proofs.Common.{length}
use Rattle.ja_cert_parts.proofs.UnitLemmas.{AreRead}
use Rattle.ja_cert_parts.proofs.words.units.Given as goal

abbrev pub invariant-rest : goal.invariant-rest
invariant-rest l = AreRead l.digits l.units.items l.rest

abbrev pub decreases-rest : goal.decreases-rest
decreases-rest l = length l.rest
