-- No refusal has a cause.
use Rattle.ja_cert_laws.proofs.Checked.{check_complete}
use Rattle.ja_cert_laws.proofs.checks_are_complete.Goals as goal

pub returns : goal.returns
returns c = λ call w status all is. check_complete call w all status is
