use Rattle.std.proofs.Common.{ap, subst, sym, ◌∙◌}
use Rattle.std.proofs.lemmas.Result.{IfOk-weaker}
use Rattle.ja_abstract.specs.InProgram.{AreAtKeys}
use Rattle.ja_abstract.specs.Writes.{strong_update}
use Rattle.ja_value.specs.Value.{property_of}
use Rattle.ja_transfer.specs.Outcomes.{at_view}
use Rattle.ja_transfer.proofs.DeclareLemmas.{set_alone, set_each}
use Rattle.ja_transfer.proofs.MemberLemmas.{IsLabel, of_one}
use Rattle.ja_transfer.proofs.SpotLemmas.{new_alone_is}
use Rattle.ja_transfer.proofs.stepper.Stepper.defined.Goals as goal

pub strongly-requires : goal.strongly-requires
strongly-requires c =
    let p = c.args.self.now.reader.program.now in
    let ls = c.args.members.now in
    let l = c.in-Some.label in
    record {
      label = of_one (IsLabel p) ls l
          (new_alone_is ls l (sym c.new_alone.ensures ∙ c.in-Some.is)) c.requires.members;
      keys = subst (AreAtKeys p) (sym c.in_ok-writes.ensures) (c.requires.key, tt);
    }

pub returns-clause-state : goal.returns-clause-state
returns-clause-state c =
    let w = at_view c.args.self.now in
    let ls = c.args.members.now in
    let l = c.in-Some.label in
    let same = ap (strong_update w.state l) c.in_ok-writes.ensures
    ∙ set_alone w ls ls c.args.key (property_of c.args.property) l
    (sym c.new_alone.ensures ∙ c.in-Some.is) in
    IfOk-weaker c.strongly.result _ _ (λ a is. is ∙ same) c.strongly.ensures.state

pub returns-in_default-clause-state : goal.returns-in_default-clause-state
returns-in_default-clause-state c =
    let ls = c.args.members.now in
    let same = set_each (at_view c.args.self.now) ls ls c.args.key (property_of c.args.property)
    (sym c.new_alone.ensures ∙ c.in_default.is) in
    IfOk-weaker c.defines_weakly.result _ _ (λ a is. is ∙ same) c.defines_weakly.ensures.state
