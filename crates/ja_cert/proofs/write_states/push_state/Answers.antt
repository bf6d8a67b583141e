use Rattle.ja_astate.specs.State.{state_of}
use Rattle.ja_report.specs.Lines.{mask_lines, property_lines, register_lines}
use Rattle.ja_cert.specs.Certificate.{lines_data, state_data}
use Rattle.ja_cert.proofs.Wholes.{state_written}
use Rattle.ja_cert.proofs.write_states.push_state.Goals as goal

pub returns : goal.returns
unfolding state_data
returns c =
    let p = c.args.program.now in
    let a = state_of c.args.state.now in
    state_written _ _ _ _ _ _ _ _ _ _ (lines_data p (mask_lines p a))
    (lines_data p (property_lines p a)) c.args.node
    (lines_data p (register_lines p c.args.function a)) c.in_ok-extend_from_slice.ensures.items
    c.in_ok-push_mask_list.ensures c.in_ok-extend_from_slice-2.ensures.items
    c.in_ok-push_property_list.ensures c.in_ok-extend_from_slice-3.ensures.items
    c.in_ok-push_number.ensures c.in_ok-extend_from_slice-4.ensures.items
    c.in_ok-push_register_list.ensures c.in_ok-push.ensures.items
