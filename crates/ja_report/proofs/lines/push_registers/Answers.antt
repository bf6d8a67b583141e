use Rattle.std.proofs.Common.{arith}
use Rattle.ja_report.proofs.ObjectLemmas.{registers_none, registers_more, registers_all}
use Rattle.ja_report.proofs.lines.push_registers.Goals as goal

pub loop-number-init : goal.loop-number-init
loop-number-init c = registers_none _ _ _ _

pub loop-number-preserved : goal.loop-number-preserved
loop-number-preserved c =
    registers_more _ _ _ _ _ _ _ _ c.loop-number.invariant c.register-value.ensures
    c.in_ok-push_register_line.ensures

pub returns : goal.returns
returns c =
    registers_all _ _ c.args.state.now _ _ _ _ c.loop-number.invariant
    c.parameter_count-parameters.ensures (omega arith)
