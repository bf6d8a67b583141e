use Rattle.std.proofs.Common.{◌≡◌, take}
use Rattle.std.specs.List.{list_any}
use Rattle.ja_base.specs.declared.ids.Label.{Label}
use Rattle.ja_abstract.specs.Made.{scope_key}
use Rattle.ja_abstract.specs.Reading.{slot}
use Rattle.ja_astate.specs.Looks.{view_of}
use Rattle.ja_value.specs.Value.{labels_in}
use Rattle.ja_flow.proofs.entering.chains.Given as goal

abbrev pub invariant-loop-label : goal.invariant-loop-label
invariant-loop-label l =
    labels_in l.labels ≡ (λ m. list_any
    (λ (n : Label). (slot (view_of l.reader) n scope_key).label m) (take l.label-index l.members))
