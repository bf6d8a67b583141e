-- A certificate is checked as what it says; of two calls, the bytes that pass between them are one.
use Rattle.ja_cert_laws.proofs.Piped.{answered_so, checked_exactly}
use Rattle.ja_cert_laws.proofs.certificates_are_accepted.Goals as goal

pub returns-clause-accepted : goal.returns-clause-accepted
returns-clause-accepted g bytes signatures p budget certificate ws a status text short fits
    devices of =
    checked_exactly bytes signatures p budget certificate ws a short fits devices of status text

pub returns-clause-answered : goal.returns-clause-answered
returns-clause-answered g c d w v words budget s r devices certifies checks plain first has passed
    second =
    answered_so c d w v words budget devices certifies checks plain passed s r first has second
