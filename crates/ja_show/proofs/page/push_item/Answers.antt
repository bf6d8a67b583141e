use Rattle.std.proofs.Common.{ap, codes}
use Rattle.ja_show.specs.Messages.{others, standing}
use Rattle.ja_show.specs.Page.{calls_links, escaped, item_spot, level_class, message_item}
use Rattle.ja_show.specs.code.Kept.{lists_in}
use Rattle.ja_show.proofs.Parts.{adds, adds_as, none_yet}
use Rattle.ja_show.proofs.page.push_item.Goals as goal

pub returns : goal.returns
unfolding message_item
returns c =
    let m = c.args.message.now in
    let names = lists_in c.args.names.now in
    let start =
    adds (codes "<li class=\"") (none_yet c.args.out.now.items)
    c.in_ok-extend_from_slice.ensures.items in
    let level =
    adds_as (level_class m.level) start c.in_ok-extend_from_slice-2.ensures.items
    c.level_class.ensures in
    let closed = adds (codes "\">") level c.in_ok-extend_from_slice-3.ensures.items in
    let spot =
    adds_as (item_spot names (standing m.spot m.calls)) closed c.in_ok-push_item_spot.ensures
    (ap (item_spot names) c.standing.ensures) in
    let text =
    adds_as (escaped m.text) spot c.in_ok-push_escaped.ensures (ap escaped c.as_slice.ensures) in
    let calls =
    adds_as (calls_links names (others m.spot m.calls)) text c.in_ok-push_calls.ensures
    (ap (calls_links names) c.others.ensures) in
    let item = adds (codes "</li>\n") calls c.in_ok-extend_from_slice-4.ensures.items in
    item.is
