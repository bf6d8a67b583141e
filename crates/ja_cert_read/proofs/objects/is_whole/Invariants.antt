use Rattle.ja_cert_read.proofs.Wholes.{SetUpTo}
use Rattle.ja_cert_read.proofs.objects.is_whole.Given as goal

abbrev pub invariant-loop-place : goal.invariant-loop-place
invariant-loop-place l = SetUpTo l.names l.writes l.place
