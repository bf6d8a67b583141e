-- The name of the value that is told, and that no value lacks a kind.
use Rattle.std.proofs.Common.{ap, ◌∙◌, subst}
use Rattle.ja_lint_devices.specs.Devices.{AreNoDevices, units}
use Rattle.ja_lint_devices.proofs.Refusing.{named_there, not_kindless}
use Rattle.ja_lint_devices.proofs.Words.{texts_of}
use Rattle.ja_lint_devices.proofs.reading.refusal.Goals as goal

pub unreachable-requires : goal.unreachable-requires
unreachable-requires c =
    let none = subst (AreNoDevices (texts_of c.args.values.now)) c.in-NoKinds.is c.requires in
    not_kindless (texts_of c.args.values.now) none.0 c.in-NoKinds.index none.1

pub returns-in-Ok : goal.returns-in-Ok
returns-in-Ok c =
    let none = subst (AreNoDevices (texts_of c.args.values.now)) c.in-BadName.is c.requires in (
      none,
      named_there c.args.values.now c.in-BadName.index _ none.1.0 none.1.1.at _
          (c.in-Ok.ensures ∙ ap units c.name_in.ensures),
    )

pub returns-in-Ok-units : goal.returns-in-Ok-units
returns-in-Ok-units c =
    let none = subst (AreNoDevices (texts_of c.args.values.now)) c.in-Twice.is c.requires in (
      none,
      named_there c.args.values.now c.in-Twice.second _ none.1.0 none.1.2.at _
          (c.in-Ok-units.ensures ∙ ap units c.name_in-in-Twice.ensures),
    )
