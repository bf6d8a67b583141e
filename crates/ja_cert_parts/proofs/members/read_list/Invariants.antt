use Rattle.std.proofs.Common.{◌≡◌, [], None, map, take}
use Rattle.std.specs.List.{AllByRecursion}
use Rattle.ja_cert_json.specs.View.{view}
use Rattle.ja_cert.specs.Wrong.{members_wrong}
use Rattle.ja_cert_parts.proofs.members.read_list.Given as goal

abbrev pub invariant-loop-item : goal.invariant-loop-item
invariant-loop-item g l =
    ((map (g.M.Member.«data» l.rule) l.members.items ≡ take l.item-index (map view l.item-items))
    × (members_wrong (g.M.Member.wrong l.rule) []
    (map (g.M.Member.«data» l.rule) l.members.items) ≡ None))
    × AllByRecursion (g.M.Member.holds l.rule) l.members.items
