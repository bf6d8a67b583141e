use Rattle.std.proofs.Common.{[], ◌∷◌, ◌++◌, true, false, ap, ◌∙◌}
use Rattle.std.proofs.lemmas.Result.{IfOk-weaker}
use Rattle.ja_abstract.specs.AbstractState.{with_register}
use Rattle.ja_abstract.specs.AbstractValue.{absent_property}
use Rattle.ja_abstract.specs.Primitives.{of_bools}
use Rattle.ja_abstract.specs.Writes.{sets_at, strong_update}
use Rattle.ja_rows.specs.Out.{Given, goes}
use Rattle.ja_transfer.specs.Outcomes.{at_view}
use Rattle.ja_transfer.specs.declared.deletes.OwnAt.{OwnAt}
use Rattle.ja_transfer.proofs.DeleteLemmas.{strong_given}
use Rattle.ja_transfer.proofs.GivenLemmas.{added_as, added_both}
use Rattle.ja_transfer.proofs.stepper.Stepper.strong_delete.Goals as goal

pub returns : goal.returns
returns c =
    let s = c.args.self.now in
    let w = at_view s in
    let next = s.info.now.next in
    let l = c.args.label in
    let k = c.args.key in
    let dst = c.args.dst in
    let given : OwnAt → Given =
    λ o. goes o.is_missing next (with_register w.state dst (of_bools true false))
    ++ (goes o.may_keep next (with_register w.state dst (of_bools false true))
    ++ goes o.may_delete next
    (with_register (strong_update w.state l (sets_at k absent_property ∷ [])) dst
    (of_bools true false))) in
    let same = ap given c.in_ok-own.ensures ∙ strong_given w dst next l k in
    IfOk-weaker c.gives_deleted.result _ _ (λ _ added. added_as s _ _ c.args.states.now
    c.gives_deleted.new.states same (added_both s _ _ c.args.states.now c.gives_bool.new.states
    c.gives_deleted.new.states c.in_ok-gives_bool.ensures (added_both s _ _
    c.gives_bool.new.states c.gives_bool-2.new.states c.gives_deleted.new.states
    c.in_ok-gives_bool-2.ensures added))) c.gives_deleted.ensures
