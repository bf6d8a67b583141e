use Rattle.std.proofs.Common.{◌∙◌, sym}
use Rattle.ja_machine.specs.Frames.{parameters_of}
use Rattle.ja_cert.proofs.StateLemmas.{line_float, register_is, register_written}
use Rattle.ja_cert.proofs.write_states.push_register.Goals as goal

pub push_member-requires : goal.push_member-requires
push_member-requires c =
    line_float _ _ _ (c.in_ok-line.ensures ∙ register_is c.args.program.now 0 _ _)

pub returns : goal.returns
returns c =
    let n = parameters_of c.args.program.now c.args.function in
    register_written _ n _ _ _ _ _ _ (sym c.is_undefined.ensures ∙ c.if-is_undefined.false)
    (c.in_ok-line.ensures ∙ register_is c.args.program.now n _ _) c.push_member.ensures
