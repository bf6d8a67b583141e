use Rattle.std.proofs.Common.{Some, ap, sym, ◌∙◌}
use Rattle.ja_step.proofs.Stepped.{stepped, step_counted, node_of_program}
use Rattle.ja_step.proofs.stepping.step.Goals as goal

pub step_node-requires-clause-info : goal.step_node-requires-clause-info
step_node-requires-clause-info c =
    node_of_program c.args.program.now c.requires.program c.args.conf.now.frame.function
    c.args.conf.now.frame.node c.in-Some.info.now (sym c.in-Some.ensures)

pub returns : goal.returns
returns c =
    stepped c.args.program.now c.args.conf.now c.args.answer.now c.requires.fits c.in-Some.info.now
    (sym c.in-Some.ensures)
    ∙ c.in_ok-end.ensures
    ∙ ap (λ e. Some e) (step_counted c.in_ok-end.end c.args.conf.now c.step_node.new.self)
