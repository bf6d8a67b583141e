-- The report of a table: the devices of its program, its warnings, its call edges, the sites that
-- it names, its contexts with their states, and the visits that built it.
use Rattle.std.specs.Prelude.{ℕ, Bool, not, ◌&&◌, if◌then◌else◌, ◌==◌, List, [], ◌++◌, filter, length, slice_get, Option, Some, None, is_some}
use Rattle.std.specs.List.{flat_map, list_any, range_with_len}
use Rattle.std.specs.Option.{option_and_then, option_map_or}
use Rattle.std.specs.Fmt.{decimal}
use lib.Chars.{codes}
use Rattle.ja_base.specs.declared.ids.FnId.{FnId}
use Rattle.ja_base.specs.declared.ids.Place.{Place}
use Rattle.ja_prim.specs.declared.signature.Kinds.{Kinds}
use Rattle.ja_prim.specs.declared.signature.Signature.{Signature}
use Rattle.ja_graph.specs.declared.program.Program.{Program}
use Rattle.ja_graph.specs.declared.program.SiteInfo.{SiteInfo}
use Rattle.ja_rows.specs.declared.table.Edge.{Edge}
use Rattle.ja_rows.specs.declared.table.Item.{Item}
use Rattle.ja_rows.specs.declared.table.Item.TheVariants.{Open, Step, Fill, Back}
use Rattle.ja_rows.specs.declared.table.WarningKind.{WarningKind}
use Rattle.ja_rows.specs.declared.table.WarningKind.TheVariants.{NotAFunction, NoObject, UnboundName, ScopeRow}
use Rattle.ja_rows.specs.declared.table.Warning.{Warning}
use Rattle.ja_abstract.specs.AbstractState.{site_of}
use Rattle.ja_rows.specs.Listed.{contexts_of, edges_of}
use Rattle.ja_rows.specs.Table.{Table}
use Rattle.ja_rows.specs.Warning.{builtin_of as builtin_function}
use Rattle.ja_report.specs.Texts.{builtin_of, device_of, numbered_site, part, joined}
use Rattle.ja_texts.specs.Texts.{place_text, plain, class_text}
use Rattle.ja_report.specs.Lines.{context_sites, context_text, line_text, line_sites, table_lines}

-- ---- devices

-- the kinds of its answers
unfoldable pub kind_parts : Kinds → List (List ℕ)
kind_parts k =
    part k.undefined (codes "undefined") ++ part k.null (codes "null")
    ++ part k.boolean (codes "boolean") ++ part k.number (codes "number")
    ++ part k.text (codes "string")

unfoldable pub kinds_text : Kinds → List ℕ
kinds_text k = joined (kind_parts k)

-- a device is its name and the kinds of its answers
unfoldable pub device_line : Signature → List ℕ
device_line device =
    codes "device " ++ plain device.name ++ codes " " ++ kinds_text device.kinds ++ codes "\n"

unfoldable pub devices_text : List Signature → List ℕ
devices_text devices = flat_map device_line devices

-- ---- warnings

-- its place, what may go wrong there, and whether it surely does
abbrev pub kind_text : WarningKind → List ℕ
kind_text NotAFunction = codes "call of a non-function"
kind_text NoObject = codes "property of null or undefined"
kind_text UnboundName = codes "unbound name"
kind_text ScopeRow = codes "scope row"

abbrev pub certainty_text : Bool → List ℕ
certainty_text certain = if certain then codes "certain" else codes "possible"

-- where it stands: its place, or the built-in function with the number of a token of its text
unfoldable pub spot_text : Option FnId → Place → List ℕ
spot_text None place = place_text place
spot_text (Some f) place = codes "@" ++ decimal f.0 ++ codes ":" ++ decimal place.column

unfoldable pub warning_text : Warning → List ℕ
warning_text w =
    spot_text w.builtin w.place ++ codes " " ++ kind_text w.kind ++ codes " "
    ++ certainty_text w.certain ++ codes "\n"

-- how many, and then each on its line
unfoldable pub warnings_text : List Warning → List ℕ
warnings_text ws =
    codes "warnings " ++ decimal (length ws) ++ codes "\n" ++ flat_map warning_text ws

-- ---- visits

-- a call edge: its caller and node, and its callee
unfoldable pub edge_text : Program → Edge → List ℕ
edge_text p e =
    context_text p e.caller ++ codes " " ++ decimal e.node.0 ++ codes " -> "
    ++ context_text p e.callee

-- a visit fills the values at the program's entry, takes the step of a node, fills the values at
-- the entry of a callee, or gives its exits back
unfoldable pub item_text : Program → Item → List ℕ
item_text p Open = codes "open\n"
item_text p (Step x n) = codes "step " ++ context_text p x ++ codes " " ++ decimal n.0 ++ codes "\n"
item_text p (Fill e) = codes "fill " ++ edge_text p e ++ codes "\n"
item_text p (Back e) = codes "back " ++ edge_text p e ++ codes "\n"

unfoldable pub visits_text : Program → List Item → List ℕ
visits_text p visits =
    codes "visits " ++ decimal (length visits) ++ codes "\n" ++ flat_map (item_text p) visits

-- ---- edges

-- how many, and then each on its line
unfoldable pub edges_text : Program → List Edge → List ℕ
edges_text p edges =
    codes "edges " ++ decimal (length edges) ++ codes "\n"
    ++ flat_map (λ (e : Edge). edge_text p e ++ codes "\n") edges

-- ---- contexts

unfoldable pub contexts_line : ℕ → List ℕ
contexts_line n = codes "contexts " ++ decimal n ++ codes "\n"

abbrev pub contexts_text : Program → Table → List ℕ
contexts_text p t =
    contexts_line (length (contexts_of p t)) ++ flat_map (line_text p) (table_lines p t)

-- ---- sites

-- the sites that a call edge names, and those that a visit names
abbrev pub edge_sites : Edge → List ℕ
edge_sites e = context_sites e.caller ++ context_sites e.callee

unfoldable pub item_sites : Item → List ℕ
item_sites Open = []
item_sites (Step x n) = context_sites x
item_sites (Fill e) = edge_sites e
item_sites (Back e) = edge_sites e

-- the sites that a report names: those of its call edges, of its contexts' lines and of its visits
abbrev pub report_sites : Program → Table → List Item → List ℕ
report_sites p t visits =
    flat_map edge_sites (edges_of p t) ++ flat_map (line_sites p) (table_lines p t)
    ++ flat_map item_sites visits

-- the built-in function that makes the objects of a site, if one does
abbrev pub builtin_owner : Program → SiteInfo → Option FnId
builtin_owner p info = option_and_then (builtin_function p) info.owner

-- a site of a node has a place and a class
unfoldable pub info_text : Program → ℕ → List ℕ
info_text p s =
    option_map_or (λ (info : SiteInfo). spot_text (builtin_owner p info) info.place ++ codes " "
    ++ class_text info.class) (slice_get p.sites s) []

unfoldable pub site_line : Program → ℕ → List ℕ
site_line p s = numbered_site (site_of s) ++ codes " " ++ info_text p s ++ codes "\n"

-- neither the site of a built-in object nor that of a device
unfoldable pub is_text_site : Program → ℕ → Bool
is_text_site p s =
    not (is_some (builtin_of p (site_of s))) && not (is_some (device_of p (site_of s)))

-- those of nodes among these sites, each once, by number
unfoldable pub named_sites : Program → List ℕ → List ℕ
named_sites p named =
    filter (λ (s : ℕ). is_text_site p s && list_any (λ (n : ℕ). n == s) named)
    (range_with_len 0 (length p.sites))

unfoldable pub sites_text : Program → List ℕ → List ℕ
sites_text p named =
    codes "sites " ++ decimal (length (named_sites p named)) ++ codes "\n"
    ++ flat_map (site_line p) (named_sites p named)

-- ---- whole texts

-- whether the visits build the table
abbrev pub built_text : Bool → List ℕ
built_text built = if built then codes "built yes\n" else codes "built no\n"

-- the report begins with the devices, with whether the visits build the table, the warnings, the
-- call edges and the sites that it names, and goes on with the contexts and the visits
unfoldable pub report_head : Program → Table → Bool → List Warning → List ℕ → List ℕ
report_head p t built warnings named =
    codes "tajs report 1\n" ++ devices_text p.signatures ++ built_text built
    ++ warnings_text warnings ++ edges_text p (edges_of p t) ++ sites_text p named

unfoldable pub report_text : Program → Table → List Item → Bool → List Warning → List ℕ
report_text p t visits built warnings =
    report_head p t built warnings (report_sites p t visits) ++ contexts_text p t
    ++ visits_text p visits ++ codes "end\n"

-- the counts of the program that is generated by a number, and of its table
unfoldable pub summary_text : ℕ → Program → Table → List Warning → List ℕ
summary_text number p t warnings =
    codes "generated " ++ decimal number ++ codes " functions " ++ decimal p.text_functions
    ++ codes " contexts " ++ decimal (length (contexts_of p t))
    ++ codes " edges " ++ decimal (length (edges_of p t))
    ++ codes " warnings " ++ decimal (length warnings) ++ codes "\nend\n"

-- what is written where the budget of visits is spent
unfoldable pub spent_text : Program → List Item → List ℕ
spent_text p visits =
    codes "tajs spent " ++ decimal (length visits) ++ codes "\n" ++ flat_map (item_text p) visits
    ++ codes "end\n"
