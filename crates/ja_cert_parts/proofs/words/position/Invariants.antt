use Rattle.std.proofs.Common.{◌≡◌, map}
use Rattle.ja_cert.specs.Wrong.{position}
use Rattle.ja_cert_parts.proofs.WordLemmas.{position_from}
use Rattle.ja_cert_parts.proofs.words.position.Given as goal

abbrev pub invariant-loop-place : goal.invariant-loop-place
invariant-loop-place l =
    position_from l.place (map (λ w. w.now) l.words) l.word
    ≡ position (map (λ w. w.now) l.words) l.word
