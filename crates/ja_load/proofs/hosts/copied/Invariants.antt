use Rattle.std.proofs.Common.{◌≡◌, take}
use Rattle.ja_load.proofs.hosts.copied.Given as goal

abbrev pub invariant-loop-signature : goal.invariant-loop-signature
invariant-loop-signature l = l.copies.items ≡ take l.signature-index l.signatures
