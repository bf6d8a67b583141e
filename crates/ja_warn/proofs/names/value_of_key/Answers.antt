use Rattle.std.proofs.Common.{◌<◌, subst, vec_len}
use Rattle.std.specs.Prelude.{Option, IfSome}
use Rattle.ja_base.specs.declared.ids.Reg.{Reg}
use Rattle.ja_warn.proofs.names.value_of_key.Goals as goal

pub register-requires : goal.register-requires
register-requires c =
    subst (λ (o : Option Reg). IfSome o (λ (r : Reg). r.0
    < vec_len c.args.reader.now.state.now.registers)) c.in-Some.is
    (c.key_of.ensures.within (vec_len c.args.reader.now.state.now.registers) c.requires)
