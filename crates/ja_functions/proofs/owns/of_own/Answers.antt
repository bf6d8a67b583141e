use Rattle.std.proofs.Common.{false, ap, ◌∙◌}
use Rattle.std.proofs.lemmas.List.{take_all}
use Rattle.ja_base.specs.declared.ids.Label.{Label}
use Rattle.ja_abstract.specs.Reading.{own}
use Rattle.ja_astate.specs.Looks.{view_of}
use Rattle.ja_functions.specs.code.Told.{may_hold, may_fail, some_own}
use Rattle.ja_functions.proofs.Labels.{any_more}
use Rattle.ja_functions.proofs.owns.of_own.Goals as goal

abbrev none : Label
none = record { site = record { 0 = 0 }; old = false }

pub loop-label-preserved : goal.loop-label-preserved
loop-label-preserved c =
    let w = view_of c.args.reader.now in
    let keys = c.args.keys.now in
    let holds = may_hold w c.args.asked in
    let fails = may_fail w c.args.asked in
    let members = c.args.members.now in
    let i = c.loop-label.label-index in
    let within = c.loop-label-test.true in
    let read = c.in_ok-property.ensures in (
      any_more (λ (l : Label). holds (own w l keys)) members i none within _ _
          c.loop-label.invariant.0 (c.may_hold-holds.ensures ∙ ap holds read),
      any_more (λ (l : Label). fails (own w l keys)) members i none within _ _
          c.loop-label.invariant.1 (c.may_fail-fails.ensures ∙ ap fails read),
    )

pub returns-clause-holds : goal.returns-clause-holds
returns-clause-holds c =
    let w = view_of c.args.reader.now in
    c.loop-label.invariant.0
    ∙ ap (some_own w (may_hold w c.args.asked) c.args.keys.now)
    (take_all c.loop-label.label-index c.args.members.now c.loop-label-test.false)

pub returns-clause-fails : goal.returns-clause-fails
returns-clause-fails c =
    let w = view_of c.args.reader.now in
    c.loop-label.invariant.1
    ∙ ap (some_own w (may_fail w c.args.asked) c.args.keys.now)
    (take_all c.loop-label.label-index c.args.members.now c.loop-label-test.false)
