-- A page with files in which what messages are about is marked, in HTML: a list of the messages,
-- and the text of each file, line by line, with what is found at a place on hover, and with links
-- along calls.
use Rattle.std.specs.Prelude.{ℕ, ◌+◌, Bool, false, not, ◌&&◌, ◌||◌, ◌==◌, if◌then◌else◌, List, [], ◌∷◌, ◌++◌, length, filter, map, Option, Some, None}
use Rattle.std.specs.Fmt.{decimal}
use Rattle.std.specs.List.{flat_map, AllByRecursion}
use Rattle.std.specs.Option.{option_map_or}
use lib.Chars.{codes}
use Rattle.ja_base.specs.declared.ids.Place.{Place}
use Rattle.ja_files.specs.declared.file.Spot.{Spot}
use Rattle.ja_files.specs.Files.{spot_at}
use Rattle.ja_files.specs.Order.{IsSpotUpTo}
use Rattle.ja_lex.specs.Spots.{ends_line, place_at}
use Rattle.ja_prim.specs.Characters.{is_part}
use Rattle.ja_texts.specs.Texts.{place_text}
use Rattle.ja_show.specs.Lines.{shown}
use Rattle.ja_show.specs.Messages.{name_at, others, shown_name, standing}
use Rattle.ja_show.specs.declared.message.Level.{Level}
use Rattle.ja_show.specs.declared.message.Level.TheVariants.{Error, Certain, Possible, Note}
use Rattle.ja_show.specs.declared.message.Link.{Link}
use Rattle.ja_show.specs.declared.message.Message.{Message}
use Rattle.ja_show.specs.declared.style.TheConstants.{HEAD, STYLE}

-- ---- texts in HTML

abbrev pub escaped_byte : ℕ → List ℕ
escaped_byte b =
    if b == 38 then codes "&amp;" else if b == 60 then codes "&lt;"
    else if b == 62 then codes "&gt;" else if b == 34 then codes "&quot;" else b ∷ []

unfoldable pub escaped : List ℕ → List ℕ
escaped bytes = flat_map escaped_byte bytes

-- ---- links

-- each line of a file has a name in the page
abbrev pub line_name : ℕ → ℕ → List ℕ
line_name file line = codes "F" ++ decimal file ++ codes "L" ++ decimal line

unfoldable pub link_start : Spot → List ℕ
link_start at = codes "<a href=\"#" ++ line_name at.file at.place.line ++ codes "\">"

abbrev pub link_end : List ℕ
link_end = codes "</a>"

abbrev pub file_text : List (List ℕ) → ℕ → List ℕ
file_text names file = escaped (name_at names file) ++ codes ":"

-- a spot is a link to its line
unfoldable pub spot_link : List (List ℕ) → Spot → List ℕ
spot_link names at =
    link_start at ++ file_text names at.file ++ place_text at.place ++ link_end

-- what is called in the same file goes without its name
unfoldable pub call_link : List (List ℕ) → Link → List ℕ
call_link names link =
    link_start link.to
    ++ (if link.to.file == link.from.file then [] else file_text names link.to.file)
    ++ place_text link.to.place ++ link_end

abbrev pub next_link : List (List ℕ) → Link → List ℕ
next_link names link = codes " " ++ call_link names link

-- what is called at a place, in front of which it stands
unfoldable pub links_text : List (List ℕ) → List Link → List ℕ
links_text names [] = []
links_text names (link ∷ links) =
    codes "<sup>" ++ call_link names link ++ flat_map (next_link names) links ++ codes "</sup>"

-- ---- messages

abbrev pub level_class : Level → List ℕ
level_class Error = codes "error"
level_class Certain = codes "certain"
level_class Possible = codes "possible"
level_class Note = codes "note"

-- where a message stands
abbrev pub item_spot : List (List ℕ) → Option Spot → List ℕ
item_spot names None = []
item_spot names (Some at) = spot_link names at ++ codes " "

abbrev pub next_call : List (List ℕ) → Spot → List ℕ
next_call names at = codes ", " ++ spot_link names at

unfoldable pub calls_links : List (List ℕ) → List Spot → List ℕ
calls_links names [] = []
calls_links names (at ∷ calls) =
    codes ", also called at " ++ spot_link names at ++ flat_map (next_call names) calls

unfoldable pub message_item : List (List ℕ) → Message → List ℕ
message_item names m =
    codes "<li class=\"" ++ level_class m.level ++ codes "\">"
    ++ item_spot names (standing m.spot m.calls) ++ escaped m.text
    ++ calls_links names (others m.spot m.calls) ++ codes "</li>\n"

-- ---- marks

abbrev pub same_place : Place → Place → Bool
same_place a b = (a.line == b.line) && (a.column == b.column)

abbrev pub same_spot : Spot → Spot → Bool
same_spot a b = (a.file == b.file) && same_place a.place b.place

abbrev pub is_about : Spot → Message → Bool
is_about at m = option_map_or (same_spot at) m.spot false

abbrev pub is_from : Spot → Link → Bool
is_from at link = same_spot at link.from

abbrev pub next_hint : Message → List ℕ
next_hint m = codes "&#10;" ++ escaped m.text

-- a mark begins at a spot that messages are about, and tells on hover what they tell
unfoldable pub mark_start : List Message → List ℕ
mark_start [] = []
mark_start (m ∷ ms) =
    codes "<mark class=\"" ++ level_class m.level ++ codes "\" title=\"" ++ escaped m.text
    ++ flat_map next_hint ms ++ codes "\">"

abbrev pub mark_end : Bool → List ℕ
mark_end marked = if marked then codes "</mark>" else []

-- .. and goes on over letters, digits, `_` and `$`, also behind a `.` at which it begins
abbrev pub goes_on : ℕ → Bool
goes_on c = is_part c || (c == 46)

-- ---- the text

unfoldable pub line_start : ℕ → ℕ → List ℕ
line_start file number = codes "<li id=\"" ++ line_name file number ++ codes "\"><code>"

abbrev pub line_end : List ℕ
line_end = codes "</code></li>\n"

-- the spots behind a character that ends its line, and behind another one
abbrev pub below : Spot → Spot
below at = spot_at at.file (place_at (at.place.line + 1) 1)

abbrev pub behind : Spot → Spot
behind at = spot_at at.file (place_at at.place.line (at.place.column + 1))

-- What is left of a text from a spot on, where `marked` says that a mark may go on with the next
-- character: the links and the mark that begin there, the character, and the rest.
unfoldable pub source_text : List (List ℕ) → List Message → List Link → Spot → Bool → List ℕ
    → List ℕ
source_text names ms links at marked [] = mark_end marked ++ line_end
source_text names ms links at marked (c ∷ cs) =
    let here = filter (is_about at) ms in
    let begins = not (length here == 0) in
    let stays = marked && is_part c && not begins in
    let within = begins || stays in
    mark_end (marked && not stays) ++ links_text names (filter (is_from at) links)
    ++ mark_start here
    ++ (if ends_line (c ∷ cs) then
    mark_end within ++ line_end ++ line_start at.file (at.place.line + 1)
    ++ source_text names ms links (below at) false cs
    else
    escaped (shown c) ++ mark_end (within && not (goes_on c))
    ++ source_text names ms links (behind at) (within && goes_on c) cs)

-- the lines of a file
abbrev pub lines_text : List (List ℕ) → List Message → List Link → ℕ → List ℕ → List ℕ
lines_text names ms links file text =
    line_start file 1 ++ source_text names ms links (spot_at file (place_at 1 1)) false text

-- a file under its name
unfoldable pub file_section : List (List ℕ) → List Message → List Link → ℕ → List ℕ → List ℕ
file_section names ms links file text =
    codes "<h2>" ++ escaped (name_at names file) ++ codes "</h2>\n<ol>\n"
    ++ lines_text names ms links file text ++ codes "</ol>\n"

-- the files of these texts, of which the first has this number
unfoldable pub sections : List (List ℕ) → List Message → List Link → ℕ → List (List ℕ) → List ℕ
sections names ms links file [] = []
sections names ms links file (text ∷ texts) =
    file_section names ms links file text ++ sections names ms links (file + 1) texts

-- ---- the page

abbrev pub next_name : List ℕ → List ℕ
next_name name = codes ", " ++ escaped name

-- names of files, one behind another
unfoldable pub names_text : List (List ℕ) → List ℕ
names_text [] = []
names_text (name ∷ names) = escaped name ++ flat_map next_name names

-- what a page is of, and what made it: `cart.js, util.js - tajs-lint`
unfoldable pub heading : List ℕ → List (List ℕ) → List ℕ
heading title names = names_text names ++ codes " - " ++ escaped title

-- the page of files with these names and texts, by the tool of the title, and with a summary
unfoldable pub page_text : List ℕ → List ℕ → List (List ℕ) → List (List ℕ) → List Message
    → List Link → List ℕ
page_text title summary names texts messages links =
    let shown_names = map shown_name names in
    HEAD.now ++ heading title shown_names ++ STYLE.now ++ heading title shown_names
    ++ codes "</h1>\n<p>" ++ escaped summary ++ codes "</p>\n<ul>\n"
    ++ flat_map (message_item shown_names) messages
    ++ codes "</ul>\n" ++ sections shown_names messages links 0 texts
    ++ codes "</body>\n</html>\n"

-- ---- order

-- a spot isn't behind another one; what has no spot is behind all that has one
abbrev pub Precedes : Option Spot → Option Spot → Type 0
Precedes (Some a) (Some b) = IsSpotUpTo a b
Precedes None (Some b) = ⊥
Precedes o None = Unit {0}

-- things stand in order of their spots
abbrev pub AreOrdered : {X : Type 0} → (X → Option Spot) → List X → Type 0
AreOrdered spot [] = Unit {0}
AreOrdered spot (x ∷ xs) =
    AllByRecursion (λ (y : _). Precedes (spot x) (spot y)) xs × AreOrdered spot xs

abbrev pub AreMessagesOrdered : List Message → Type 0
AreMessagesOrdered ms = AreOrdered (λ (m : Message). m.spot) ms

abbrev pub AreLinksOrdered : List Link → Type 0
AreLinksOrdered links = AreOrdered (λ (link : Link). Some link.from) links
