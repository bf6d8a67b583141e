use Rattle.ja_abstract.specs.declared.abstraction.Key.{Key}
use Rattle.ja_astate.specs.State.{state_of}
use Rattle.ja_report.specs.Lines.{property_line}
use Rattle.ja_cert.proofs.Commas.{lines_listed}
use Rattle.ja_cert.proofs.StateLemmas.{object_written}
use Rattle.ja_cert.proofs.write_states.push_object.Goals as goal

pub returns : goal.returns
returns c =
    let p = c.args.program.now in
    let l = c.args.label in
    let properties = (state_of c.args.state.now).property l in
    object_written p l properties _ _ _
    (lines_listed p (λ (k : Key). property_line p l k (properties k)) _ _ _ _ c.loop-key.invariant
    c.loop-key-test.false) c.requires.keys
