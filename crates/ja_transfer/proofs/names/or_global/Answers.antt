use Rattle.std.proofs.Common.{◌&&◌, ◌||◌, Bool, sym, ap, ◌∙◌}
use Rattle.std.proofs.Math.Bool.{or-false}
use Rattle.ja_graph.specs.Program.{global}
use Rattle.ja_abstract.specs.AbstractValue.{Labels, same_label}
use Rattle.ja_abstract.specs.AbstractState.{new}
use Rattle.ja_base.specs.declared.ids.Label.{Label}
use Rattle.ja_value.specs.Value.{labels_in}
use Rattle.ja_transfer.proofs.names.or_global.Goals.{then-base+in_ok-insert, else-base}
use Rattle.ja_transfer.proofs.names.or_global.Goals as goal

pub returns : goal.returns
returns c =
    let set : Labels = labels_in c.args.base.now.labels in
    let with_global : Bool → Labels = λ b l. set l || (b && same_label (new global) l) in
    let null = c.args.base.now.flags.null in
    elim c.if-base.branch [
      | then-base+in_ok-insert b ↦
          ap labels_in b.target-is ∙ b.in_ok-insert.ensures.inserted
          ∙ ap {B = Labels} (λ (s : Labels) (l : Label). s l || same_label (new global) l)
          c.in_ok-target.ensures
          ∙ ap with_global (sym b.if-base.true)
      | else-base b ↦
          ap labels_in b.target-is ∙ c.in_ok-target.ensures
          ∙ (λ n l. sym (or-false (set l)) n)
          ∙ ap with_global (sym b.if-base.false)
    ]
