use Rattle.std.proofs.Common.{[], ◌∷◌, ap, subst, sym, ◌∙◌}
use Rattle.std.proofs.lemmas.Result.{IfOk-weaker}
use Rattle.ja_abstract.specs.AbstractValue.{AbstractProperty}
use Rattle.ja_abstract.specs.InProgram.{AreAtKeys}
use Rattle.ja_abstract.specs.Writes.{sets_at, strong_update}
use Rattle.ja_transfer.specs.Outcomes.{at_view}
use Rattle.ja_transfer.specs.code.Declares.{declared_property}
use Rattle.ja_transfer.specs.code.Members.{weakly_over}
use Rattle.ja_transfer.proofs.DeclareLemmas.{set_alone, set_each}
use Rattle.ja_transfer.proofs.MemberLemmas.{IsLabel, of_one}
use Rattle.ja_transfer.proofs.SpotLemmas.{new_alone_is}
use Rattle.ja_transfer.proofs.stepper.Stepper.declared.Goals as goal

pub strongly-requires : goal.strongly-requires
strongly-requires c =
    let p = c.args.self.now.reader.program.now in
    let ls = c.args.members.now in
    let l = c.in-Some.label in
    record {
      label = of_one (IsLabel p) ls l
          (new_alone_is ls l (sym c.new_alone.ensures ∙ c.in-Some.is)) c.requires.members;
      keys = subst (AreAtKeys p) (sym c.in_ok-writes.ensures) (c.requires.key, tt);
    }

pub returns-clause-state : goal.returns-clause-state
returns-clause-state c =
    let w = at_view c.args.self.now in
    let l = c.in-Some.label in
    let writes = c.in_ok-writes.ensures
    ∙ ap (λ (q : AbstractProperty). sets_at c.args.key q ∷ []) c.declared_property-property.ensures in
    let same = ap (strong_update w.state l) writes
    ∙ set_alone w c.args.members.now c.args.missing.now c.args.key declared_property l
    (sym c.new_alone.ensures ∙ c.in-Some.is) in
    IfOk-weaker c.strongly.result _ _ (λ a is. is ∙ same) c.strongly.ensures.state

pub returns-in_default-clause-state : goal.returns-in_default-clause-state
returns-in_default-clause-state c =
    let w = at_view c.args.self.now in
    let defined = λ (q : AbstractProperty). weakly_over w.program w.state c.args.missing.now
    (λ l. sets_at c.args.key q ∷ []) in
    let same = ap defined c.declared_property-property.ensures
    ∙ set_each w c.args.members.now c.args.missing.now c.args.key declared_property
    (sym c.new_alone.ensures ∙ c.in_default.is) in
    IfOk-weaker c.defines_weakly.result _ _ (λ a is. is ∙ same) c.defines_weakly.ensures.state
