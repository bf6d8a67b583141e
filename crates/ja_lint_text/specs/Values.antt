-- What a value is, in words: each of its parts, and its objects by where they are made.
use Rattle.std.specs.Prelude.{ℕ, ◌-◌, Bool, false, ◌||◌, if◌then◌else◌, ◌==◌, nat_lt, List, [], ◌∷◌, ◌++◌, filter, length, map, take, Option, Some, None, is_some, slice_get}
use Rattle.std.specs.Option.{option_map_or}
use Rattle.std.specs.Fmt.{decimal, signed_decimal}
use lib.Chars.{codes}
use Rattle.ja_base.specs.declared.ids.FnId.{FnId}
use Rattle.ja_base.specs.declared.ids.Site.{Site}
use Rattle.ja_prim.specs.declared.signature.Signature.{Signature}
use Rattle.ja_graph.specs.declared.program.Class.{Class}
use Rattle.ja_graph.specs.declared.program.Class.TheVariants as class
use Rattle.ja_graph.specs.declared.program.Function.{Function}
use Rattle.ja_graph.specs.declared.program.Program.{Program}
use Rattle.ja_graph.specs.declared.program.SiteInfo.{SiteInfo}
use Rattle.ja_abstract.specs.declared.abstraction.NumberPart.{NumberPart}
use Rattle.ja_abstract.specs.declared.abstraction.NumberPart.TheVariants as number_part
use Rattle.ja_abstract.specs.declared.abstraction.TextPart.{TextPart}
use Rattle.ja_abstract.specs.declared.abstraction.TextPart.TheVariants as text_part
use Rattle.ja_abstract.specs.AbstractValue.{AbstractValue, Labels}
use Rattle.ja_abstract.specs.AbstractState.{new, old, sites_below}
use Rattle.ja_files.specs.declared.file.File.{File}
use Rattle.ja_files.specs.declared.file.Spot.{Spot}
use Rattle.ja_files.specs.Files.{name_of, spot_of}
use Rattle.ja_report.specs.Report.{builtin_owner}
use Rattle.ja_report.specs.Texts.{builtin_of, device_of, part, primitive_parts}
use Rattle.ja_show.specs.Messages.{shown_name}
use Rattle.ja_texts.specs.Texts.{place_text, plain, quoted}

-- ---- alternatives

-- what stands behind one of several words, by how many words are behind it
abbrev pub between : ℕ → List ℕ
between n = if n == 0 then [] else if n == 1 then codes " or " else codes ", "

-- words as people list them: `a`, `a or b`, `a, b or c`
unfoldable pub listed : List (List ℕ) → List ℕ
listed [] = []
listed (x ∷ xs) = x ++ between (length xs) ++ listed xs

-- the words that aren't told
abbrev pub others_text : ℕ → List ℕ
others_text n =
    if n == 1 then codes "one other" else codes "one of " ++ decimal n ++ codes " others"

abbrev pub others : ℕ → List (List ℕ)
others n = part (nat_lt 0 n) (others_text n)

-- at most four are told
abbrev pub most_told : ℕ
most_told = 4

unfoldable pub alternatives : List (List ℕ) → List ℕ
alternatives [] = codes "nothing"
alternatives (x ∷ xs) =
    listed (take most_told (x ∷ xs) ++ others (length (x ∷ xs) - most_told))

-- ---- numbers and texts

abbrev pub number_words : NumberPart → List (List ℕ)
number_words number_part.Nothing = []
number_words (number_part.One n) = (codes "the number " ++ signed_decimal n) ∷ []
number_words part = codes "a whole number" ∷ []

-- a text in quotes, of a long one its front
abbrev pub most_units : ℕ
most_units = 20

unfoldable pub shown : List ℕ → List ℕ
shown t = quoted (take most_units t) ++ (if nat_lt most_units (length t) then codes ".." else [])

abbrev pub text_words : TextPart → List (List ℕ)
text_words text_part.Nothing = []
text_words (text_part.One t) = (codes "the string " ++ shown t) ∷ []
text_words part = codes "a string" ∷ []

-- ---- objects

-- the name of a file as it is shown, if it has one, and a place in it
abbrev pub file_text : List ℕ → List ℕ
file_text [] = []
file_text (c ∷ name) = (c ∷ name) ++ codes ":"

abbrev pub front_text : List File → ℕ → List ℕ
front_text files n = option_map_or (λ (f : File). file_text (shown_name (name_of f))) (slice_get files n) []

unfoldable pub spot_text : List File → Spot → List ℕ
spot_text files spot = front_text files spot.file ++ place_text spot.place

-- the built-in functions that convert objects have names of their own, which begin with `%`
abbrev pub is_conversion : List ℕ → Bool
is_conversion name = option_map_or (λ (c : ℕ). c == 37) (slice_get name 0) false

-- any other function goes by its name
unfoldable pub name_words : List ℕ → List ℕ
name_words name =
    if is_conversion name then codes "a conversion of an object to a primitive value"
    else plain name

abbrev pub function_text : Program → FnId → List ℕ
function_text p f =
    option_map_or (λ (fn : Function). name_words fn.name) (slice_get p.functions f.0) []

-- the objects of a site of the text: what is called is a function
abbrev pub class_words : Class → List ℕ
class_words class.Array = codes "the array made at "
class_words class.Error = codes "the error made at "
class_words c = codes "the object made at "

abbrev pub made_words : SiteInfo → List ℕ
made_words info = if is_some info.calls then codes "the function at " else class_words info.class

-- .. and of one of a built-in function, if one makes them
abbrev pub owned_words : Program → FnId → List ℕ
owned_words p f = codes "an object made in " ++ function_text p f

abbrev pub maker_words : Program → List File → List ℕ → SiteInfo → Option FnId → List ℕ
maker_words p files firsts info None =
    made_words info ++ spot_text files (spot_of firsts info.place)
maker_words p files firsts info (Some f) = owned_words p f

abbrev pub info_words : Program → List File → List ℕ → SiteInfo → List ℕ
info_words p files firsts info = maker_words p files firsts info (builtin_owner p info)

abbrev pub device_words : Signature → List ℕ
device_words device = codes "the device " ++ plain device.name

-- a device, or what is made at a node; a built-in object goes by its name
abbrev pub other_words : Program → List File → List ℕ → Site → List ℕ
other_words p files firsts s =
    option_map_or device_words (device_of p s)
    (option_map_or (info_words p files firsts) (slice_get p.sites s.0) [])

unfoldable pub site_words : Program → List File → List ℕ → Site → List ℕ
site_words p files firsts s =
    option_map_or plain (builtin_of p s) (other_words p files firsts s)

-- the sites of a value's objects in order, whether these are new or old
abbrev pub sites_in : Program → Labels → List Site
sites_in p set = filter (λ (s : Site). set (new s) || set (old s)) (sites_below (length p.sites))

-- ---- values

-- its primitive values
abbrev pub primitive_words : AbstractValue → List (List ℕ)
primitive_words v = primitive_parts v.flags ++ number_words v.number ++ text_words v.text

abbrev pub object_words : Program → List File → List ℕ → AbstractValue → List (List ℕ)
object_words p files firsts v = map (site_words p files firsts) (sites_in p v.label)

-- a property that is out of the profile
abbrev pub row_words : Bool → List (List ℕ)
row_words row = part row (codes "what isn't known to this tool")

unfoldable pub value_words : Program → List File → List ℕ → AbstractValue → List ℕ
value_words p files firsts v =
    alternatives (primitive_words v ++ object_words p files firsts v ++ row_words v.flags.row)
