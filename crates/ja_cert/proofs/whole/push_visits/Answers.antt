use Rattle.std.proofs.Common.{◌≡◌, ◌∙◌, rules, length, vec_len}
use Rattle.ja_cert.proofs.Commas.{list_closed}
use Rattle.ja_cert.proofs.whole.push_visits.Goals as goal

pub returns : goal.returns
returns c =
    let opened = c.push.new.self in
    let size : vec_len opened ≡ length opened.items = search rules in
    list_closed _ _ _ _ _ _ c.in_ok-push.ensures.items (c.len-start.ensures ∙ size)
    c.in_ok-push_each_visit.ensures c.in_ok-close_list.ensures
