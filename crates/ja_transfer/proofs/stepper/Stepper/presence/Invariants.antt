use Rattle.std.proofs.Common.{◌≡◌, take}
use Rattle.std.specs.List.{filter, list_any}
use Rattle.ja_abstract.specs.Writes.{is_missing}
use Rattle.ja_transfer.specs.Outcomes.{at_view}
use Rattle.ja_transfer.specs.code.Deletes.{is_there}
use Rattle.ja_transfer.proofs.stepper.Stepper.presence.Given as goal

abbrev pub invariant-loop-label : goal.invariant-loop-label
invariant-loop-label l = record {
  there : l.is_there
      ≡ list_any (λ x. is_there (at_view l.self) x l.key) (take l.label-index l.members);
  lacking : l.missing.items
      ≡ filter (λ x. is_missing (at_view l.self) x l.key) (take l.label-index l.members);
}
