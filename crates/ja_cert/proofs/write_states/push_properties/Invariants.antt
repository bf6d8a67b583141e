use Rattle.std.proofs.Common.{◌≡◌, ◌++◌, ◌-◌, ◌≤◌}
use Rattle.ja_abstract.specs.AbstractState.{labels_below}
use Rattle.ja_astate.specs.State.{state_of}
use Rattle.ja_cert.specs.code.Writing.{lines_text}
use Rattle.ja_cert.proofs.StateLemmas.{label_lines}
use Rattle.ja_cert.proofs.write_states.push_properties.Given as goal

abbrev pub decreases-sites : goal.decreases-sites
decreases-sites l = l.sites - l.site

abbrev pub invariant-sites : goal.invariant-sites
invariant-sites l =
    (l.site ≤ l.sites)
    × (l.text.items ≡ l.initial.text.items ++ lines_text l.program
    (label_lines l.program (state_of l.state).property (labels_below l.site)))
