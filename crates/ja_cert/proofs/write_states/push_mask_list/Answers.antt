use Rattle.std.proofs.Common.{◌≡◌, ◌∙◌, rules, length, vec_len}
use Rattle.ja_cert.proofs.Commas.{lines_closed}
use Rattle.ja_cert.proofs.write_states.push_mask_list.Goals as goal

pub returns : goal.returns
returns c =
    let opened = c.push.new.self in
    let size : vec_len opened ≡ length opened.items = search rules in
    lines_closed _ _ _ _ _ _ _ c.in_ok-push.ensures.items (c.len-start.ensures ∙ size)
    c.in_ok-push_masks.ensures c.in_ok-close_list.ensures
