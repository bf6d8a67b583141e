use Rattle.std.proofs.Common.{◌&&◌, not, Bool, if◌then◌else◌, sym, ap, ◌∙◌}
use Rattle.ja_abstract.specs.AbstractValue.{Labels, same_label}
use Rattle.ja_value.specs.Value.{labels_in}
use Rattle.ja_transfer.proofs.names.remove_if.Goals as goal

pub returns-then-is_removed : goal.returns-then-is_removed
returns-then-is_removed c =
    let set : Labels = labels_in c.args.set.now in
    let rest : Labels = λ l. set l && not (same_label c.args.label l) in
    c.remove.ensures
    ∙ ap {B = Labels} (λ (b : Bool). if◌then◌else◌ {A = Labels} b rest set)
    (sym c.if-is_removed.true)
