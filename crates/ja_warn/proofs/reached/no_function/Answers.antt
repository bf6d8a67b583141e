use Rattle.std.proofs.Common.{not, is_some, ap, ◌∙◌}
use Rattle.std.specs.Prelude.{◌||◌}
use Rattle.std.specs.List.{list_any}
use Rattle.ja_base.specs.declared.ids.Label.{Label}
use Rattle.ja_astate.specs.Looks.{view_of}
use Rattle.ja_value.specs.Value.{value_of}
use Rattle.ja_transfer.specs.code.Callees.{entry_by}
use Rattle.ja_warn.proofs.NodeLemmas.{says_function}
use Rattle.ja_warn.proofs.reached.no_function.Goals as goal

pub returns : goal.returns
returns c =
    let r = c.args.reader.now in
    let runs = λ (l : Label). is_some (entry_by c.args.entry r.program.now l) in
    says_function (view_of r) (entry_by c.args.entry) c.args.callee
    (value_of c.register-value.result.now) c.in_ok-labels.labels.items _ c.register-value.ensures
    c.in_ok-labels.ensures
    (λ i. c.has_atoms.ensures i || (c.some_without.ensures
    ∙ ap (list_any (λ (l : Label). not (runs l))) c.deref.ensures.value) i)
    (c.some_with.ensures ∙ ap (list_any runs) c.deref-2.ensures.value)
