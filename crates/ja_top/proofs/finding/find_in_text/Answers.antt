use Rattle.ja_top.proofs.FoundLemmas.{finds, finds_none}
use Rattle.ja_top.proofs.finding.find_in_text.Goals as goal

pub returns-clause-found : goal.returns-clause-found
returns-clause-found c =
    finds c.args.text.now c.args.signatures.now c.in_ok-program.program
    c.in_ok-program.ensures.program c.find_in.result c.find_in.ensures.found

pub returns-clause-fault : goal.returns-clause-fault
returns-clause-fault c =
    finds_none c.args.text.now c.args.signatures.now c.in_ok-program.program
    c.in_ok-program.ensures.program c.find_in.result c.find_in.ensures.fault
