use Rattle.std.proofs.Common.{arith, length, ap}
use Rattle.std.proofs.lemmas.List.{length_push}
use Rattle.std.specs.Prelude.{vec_len}
use Rattle.ja_abstract.specs.AbstractValue.{of_label}
use Rattle.ja_rows.specs.Calls.{entry_of}
use Rattle.ja_value.specs.Value.{value_of}
use Rattle.ja_flow.proofs.Loops.{listed_more}
use Rattle.ja_flow.proofs.entering.entry_registers.Goals as goal

pub loop-register-preserved : goal.loop-register-preserved
loop-register-preserved c =
    let before = c.loop-register.values in
    let after = c.push.new.self in
    let value = c.in_ok-entry_register.field-0 in
    record {
      count =
          omega (
            arith,
            c.loop-register.invariant.count,
            before.ok.0,
            after.ok.0,
            ap length c.in_ok-push.ensures.items,
            length_push before.items value,
          );
      values = λ g are. listed_more value_of (entry_of (vec_len c.args.given.now.parameters)
          (of_label c.args.receiver) (value_of c.args.called.now.chain)
          (value_of c.args.called.now.callee) g).register before.items after.items value
          c.loop-register.register (c.loop-register.invariant.values g are)
          (c.in_ok-entry_register.ensures g are) c.in_ok-push.ensures.items;
    }
