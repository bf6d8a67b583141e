use Rattle.std.proofs.Common.{◌≡◌, [], Option, Some, None, refl, sym, subst, ap, ◌∙◌}
use Rattle.std.specs.Prelude.{slice_get}
use Rattle.std.specs.Option.{option_map, option_map_or}
use Rattle.ja_base.specs.declared.ids.NodeId.{NodeId}
use Rattle.ja_base.specs.declared.ids.Reg.{Reg}
use Rattle.ja_prim.specs.declared.signature.Kinds.{Kinds}
use Rattle.ja_prim.specs.declared.signature.Signature.{Signature}
use Rattle.ja_abstract.specs.AbstractValue.{AbstractValue}
use Rattle.ja_abstract.specs.Reading.{View, no_demands}
use Rattle.ja_rows.specs.BuiltIns.{device_value}
use Rattle.ja_rows.specs.Out.{Given, out, sets}
use Rattle.ja_transfer.specs.Outcomes.{at_view, IsOutcome}
use Rattle.ja_transfer.proofs.GivenLemmas.{added_as, given_first, none_given, outcome_of}
use Rattle.ja_functions.proofs.devices.device.Goals as goal

-- what is given, by the kinds of the signature
abbrev given : View → Reg → NodeId → Option Kinds → Given
given w dst next kinds =
    option_map_or (λ (k : Kinds). sets w dst (device_value k) next) kinds []

given_is : (w : View) (dst : Reg) (next : NodeId) (o : Option Signature)
    → given w dst next (option_map (λ (s : Signature). s.kinds) o)
    ≡ option_map_or (λ (s : Signature). sets w dst (device_value s.kinds) next) o []
given_is w dst next None = refl
given_is w dst next (Some s) = refl

pub returns-in-None : goal.returns-in-None
returns-in-None c =
    let s = c.args.stepper.now in
    let w = at_view s in
    let next = s.info.now.next in
    subst (λ (g : Given). IsOutcome s (out g no_demands) c.outcome.result)
    (ap (given w c.args.dst next) (sym c.in-None.is ∙ c.kinds_of-asked.ensures)
    ∙ given_is w c.args.dst next (slice_get w.program.signatures c.args.which))
    (outcome_of s _ c.new-demands.result _ c.new-states.result c.outcome.result
    (none_given s c.new-states.result c.new-states.ensures) c.new-demands.ensures
    c.outcome.ensures)

pub returns-in_ok-sets-in-Some : goal.returns-in_ok-sets-in-Some
returns-in_ok-sets-in-Some c =
    let s = c.args.stepper.now in
    let w = at_view s in
    let next = s.info.now.next in
    subst (λ (g : Given). IsOutcome s (out g no_demands) c.outcome-in-Some.result)
    (ap (given w c.args.dst next) (sym c.in-Some.is ∙ c.kinds_of-asked.ensures)
    ∙ given_is w c.args.dst next (slice_get w.program.signatures c.args.which))
    (outcome_of s _ c.new-demands.result _ c.sets.new.states c.outcome-in-Some.result
    (given_first s _ c.new-states.result c.sets.new.states c.new-states.ensures
    (added_as s _ _ c.new-states.result c.sets.new.states
    (ap (λ (v : AbstractValue). sets w c.args.dst v next) c.device_value-value.ensures)
    c.in_ok-sets-in-Some.ensures)) c.new-demands.ensures c.outcome-in-Some.ensures)
