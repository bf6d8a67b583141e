-- How messages and links are walked along with the text: what stands before a spot is left behind.
use Rattle.std.specs.Prelude.{Bool, false, ◌&&◌, ◌||◌, ◌==◌, nat_lt, List, drop, Option, Some}
use Rattle.std.specs.List.{prefix_len}
use Rattle.std.specs.Option.{option_map_or}
use Rattle.ja_base.specs.declared.ids.Place.{Place}
use Rattle.ja_files.specs.declared.file.Spot.{Spot}
use Rattle.ja_show.specs.declared.message.Link.{Link}
use Rattle.ja_show.specs.declared.message.Message.{Message}

abbrev pub is_before : Place → Place → Bool
is_before at a = nat_lt a.line at.line || ((a.line == at.line) && nat_lt a.column at.column)

abbrev pub is_spot_before : Spot → Spot → Bool
is_spot_before at a =
    nat_lt a.file at.file || ((a.file == at.file) && is_before at.place a.place)

-- what has no spot is never left behind
abbrev pub is_passed : Spot → Option Spot → Bool
is_passed at o = option_map_or (is_spot_before at) o false

-- those from a spot on
abbrev pub messages_from : Spot → List Message → List Message
messages_from at ms = drop (prefix_len (λ (m : Message). is_passed at m.spot) ms) ms

abbrev pub links_from : Spot → List Link → List Link
links_from at links = drop (prefix_len (λ (link : Link). is_passed at (Some link.from)) links) links
