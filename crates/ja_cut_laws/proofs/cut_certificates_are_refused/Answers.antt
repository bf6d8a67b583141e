-- As texts that are cut off.
use Rattle.ja_cut_laws.proofs.Certificates.{brace_is_enough, cut_line_is_refused}
use Rattle.ja_cut_laws.proofs.cut_certificates_are_refused.Goals as goal

pub returns-clause-cut : goal.returns-clause-cut
returns-clause-cut c = cut_line_is_refused

pub returns-clause-brace : goal.returns-clause-brace
returns-clause-brace c = brace_is_enough
