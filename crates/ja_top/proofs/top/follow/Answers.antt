use Rattle.std.proofs.Common.{refl}
use Rattle.ja_top.proofs.Reporting.{analysed}
use Rattle.ja_top.proofs.top.follow.Goals as goal

pub returns-in-Analyse-clause-answer : goal.returns-in-Analyse-clause-answer
returns-in-Analyse-clause-answer g c =
    analysed _ _ _ _ _ _ _ c.analyse.result c.in-Analyse.is c.request_of.ensures refl
    c.analyse.ensures
