use Rattle.ja_astate.specs.State.{state_of}
use Rattle.ja_cert.proofs.StateLemmas.{both_labels}
use Rattle.ja_cert.proofs.write_states.push_both_labels.Goals as goal

pub returns : goal.returns
returns c =
    both_labels _ (state_of c.args.state.now).property _ _ _ _ _
    c.in_ok-push_label_lines.ensures c.in_ok-push_label_lines-2.ensures
