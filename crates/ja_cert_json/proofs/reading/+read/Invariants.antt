use Rattle.std.proofs.Common.{◌≡◌, ℕ, ◌+◌, ◌*◌, ◌-◌, ◌≤◌, length, take}
use Rattle.json.specs.Json.{members, value, parse_map}
use Rattle.serde_json.specs.Data.{array, no_members}
use Rattle.serde_json.specs.Read.{of_members, converted}
use Rattle.ja_cert_json.specs.View.{items_before, members_view}
use Rattle.ja_cert_json.proofs.Turns.{list_from}
use Rattle.ja_cert_json.proofs.reading.+read.Given as goal

abbrev pub decreases-read_value : goal.decreases-read_value
decreases-read_value l = 3 * l.depth

abbrev pub decreases-read_rest : goal.decreases-read_rest
decreases-read_rest l = 3 * l.depth + 1

abbrev pub decreases-read_items : goal.decreases-read_items
decreases-read_items l = 3 * l.depth + 2

abbrev pub decreases-read_members : goal.decreases-read_members
decreases-read_members l = 3 * l.depth + 2

-- the values so far are the first of the other list
abbrev pub invariant-read_items-same : goal.invariant-read_items-same
invariant-read_items-same l =
    (list_from l.depth l.initial.reader
    ≡ parse_map (items_before (take l.count l.kept)) (list_from l.depth l.reader))
    × (length l.reader ≤ length l.initial.reader) × (l.count ≤ length l.kept)

abbrev pub decreases-read_items-same : goal.decreases-read_items-same
decreases-read_items-same l = length l.kept - l.count

abbrev pub invariant-read_rest-rest : goal.invariant-read_rest-rest
invariant-read_rest-rest l =
    (parse_map (λ ds. array (items_before l.initial.all.items ds))
    (list_from l.depth l.initial.reader)
    ≡ parse_map (λ ds. array (items_before l.all.items ds)) (list_from l.depth l.reader))
    × (length l.reader ≤ length l.initial.reader)

abbrev pub decreases-read_rest-rest : goal.decreases-read_rest-rest
decreases-read_rest-rest l = length l.reader

abbrev pub invariant-read_members-members : goal.invariant-read_members-members
invariant-read_members-members l =
    (n : ℕ) × (length l.reader ≤ n)
    × (converted (λ ms. of_members ms no_members)
    (members (value l.depth) (length l.initial.reader) l.initial.reader)
    ≡ converted (λ ms. of_members ms (members_view l.members.entries))
    (members (value l.depth) n l.reader))
    × (length l.reader ≤ length l.initial.reader)

abbrev pub decreases-read_members-members : goal.decreases-read_members-members
decreases-read_members-members l = length l.reader
