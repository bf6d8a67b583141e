-- The table computed: what it says by its names, and that its objects are well formed.
use Rattle.std.proofs.Common.{◌≡◌, ℕ, zero, suc, Bool, true, not, ◌&&◌, ◌||◌, ◌==◌, nat_eq, nat_lt, List, [], ◌∷◌, ◌++◌, length, map, Option, Some, None, refl}
use Rattle.std.specs.List.{find, flat_map, fold, list_all, list_any, range_with_len, slice_get}
use Rattle.std.specs.Option.{is_some, is_none, option_and_then, option_map, option_to_list}
use Rattle.std.specs.Str.{bytes_eq}
use lib.Chars.{codes}
use Rattle.ja_base.specs.declared.ids.Site.{Site}
use Rattle.ja_lower_names.specs.Names.{with_name}
use Rattle.ja_graph.specs.declared.builtins.TheConstants.{BUILTIN_CLASSES}
use Rattle.ja_graph.specs.declared.program.ObjectSpec.{ObjectSpec}
use Rattle.ja_graph.specs.declared.program.PropertySpec.{PropertySpec}
use Rattle.ja_graph.specs.declared.program.SiteInfo.{SiteInfo}
use Rattle.ja_graph.specs.declared.program.SpecContent.{SpecContent}
use Rattle.ja_graph.specs.declared.program.SpecContent.TheVariants as content
use Rattle.ja_graph.specs.WellFormed.{builtin_names}
use Rattle.ja_prelude.specs.Table.{NamedSite, TableEntry, TableRow, attrs_told, builtin_number, builtin_sites, call_of, construct_of, function_of, functions_of, is_at_its_path, is_function, is_function_class, is_of_its_kind, named_sites, names_at, opening_objects, path_of, prototype_told, rows_of, scope_rows, table_rows}
use Rattle.ja_prelude.specs.declared.texts.TheConstants.{VALUE_FIRST, FUNCTION_COUNT}

-- ---- by names

pub properties_are_named : map (λ o. map (λ q. slice_get builtin_names q.name.0) o.properties)
    opening_objects ≡ map (λ (row : TableRow). map (λ (e : TableEntry). Some e.name) row.entries)
    table_rows
unfolding opening_objects builtin_number
properties_are_named = refl

pub classes_are_named : (first : ℕ) → map
    (λ (o : NamedSite). option_map (λ (info : SiteInfo). info.class)
    (slice_get (builtin_sites first) o.site.0)) named_sites
    ≡ map (λ (o : NamedSite). Some o.class) named_sites
unfolding builtin_sites
classes_are_named first = refl

pub paths_are_named : (first : ℕ) → map (λ (o : NamedSite).
    option_and_then (λ (info : SiteInfo). info.builtin) (slice_get (builtin_sites first) o.site.0))
    named_sites ≡ map (λ (o : NamedSite). Some o.path) named_sites
unfolding builtin_sites
paths_are_named first = refl

pub all_sites_are_named : (first : ℕ) → length named_sites ≡ length (builtin_sites first)
unfolding builtin_sites
all_sites_are_named first = refl

pub functions_are_numbered : (first : ℕ)
    → flat_map functions_of (builtin_sites first)
    ≡ map (function_of first) (range_with_len 0 VALUE_FIRST)
unfolding builtin_sites
functions_are_numbered first = refl

pub functions_are_called : (first : ℕ) → map (λ (info : SiteInfo). is_some info.calls)
    (builtin_sites first) ≡ map is_function_class BUILTIN_CLASSES
unfolding builtin_sites
functions_are_called first = refl

pub constructors_have_prototypes : map (λ (row : TableRow). is_some (construct_of row.object.role))
    table_rows ≡ map (λ (row : TableRow). list_any
    (λ (e : TableEntry). bytes_eq e.name (codes "prototype")) row.entries) table_rows
constructors_have_prototypes = refl

pub objects_are_at_their_paths : list_all
    (λ (row : TableRow). list_all (λ (e : TableEntry). is_at_its_path row.path e.name e.content)
    row.entries) table_rows ≡ true
objects_are_at_their_paths = refl

pub errors_are_named : list_all (λ (row : TableRow).
    list_all (λ (e : TableEntry). is_of_its_kind row.path e.name e.content) row.entries) table_rows
    ≡ true
errors_are_named = refl

pub prototypes_are_told : map (λ (row : TableRow).
    map path_of (option_to_list row.object.prototype)) table_rows ≡ map prototype_told table_rows
prototypes_are_told = refl

pub attributes_are_told : map (λ (row : TableRow). map (λ (e : TableEntry). e.attrs) row.entries)
    table_rows ≡ map (λ (row : TableRow). map (λ (e : TableEntry). attrs_told row.path e.name)
    row.entries) table_rows
attributes_are_told = refl

pub rows_are_told : map rows_of table_rows
    ≡ map (λ (row : TableRow). names_at scope_rows row.path) table_rows
rows_are_told = refl

-- ---- tests of the table, of n objects with m names

abbrev pub is_content : ℕ → SpecContent → Bool
is_content n (content.Object s) = nat_lt s.0 n
is_content n other = true

-- properties have names and objects that are there, and each name once
abbrev pub are_properties : ℕ → ℕ → List PropertySpec → Bool
are_properties n m [] = true
are_properties n m (q ∷ qs) =
    nat_lt q.name.0 m && (is_content n q.content
    && (not (list_any (λ (r : PropertySpec). nat_eq q.name.0 r.name.0) qs)
    && are_properties n m qs))

-- a prototype or a scope is one of these objects
abbrev pub is_among : List ObjectSpec → Option Site → Bool
is_among objects None = true
is_among objects (Some s) = list_any (λ (q : ObjectSpec). nat_eq q.site.0 s.0) objects

abbrev pub is_object : ℕ → ℕ → List ObjectSpec → ObjectSpec → Bool
is_object n m before o =
    nat_lt o.site.0 n && (is_among before o.prototype
    && (is_among before o.scope && are_properties n m o.properties))

-- objects are well formed behind those before them
abbrev pub are_objects : ℕ → ℕ → List ObjectSpec → List ObjectSpec → Bool
are_objects n m before [] = true
are_objects n m before (o ∷ os) = is_object n m before o && are_objects n m (before ++ o ∷ []) os

-- the numbers below n pass
abbrev pub all_below : (ℕ → Bool) → ℕ → Bool
all_below test zero = true
all_below test (suc n) = test n && all_below test n

-- the functions of an object are below a number
abbrev pub is_below : ℕ → Option ℕ → Bool
is_below n None = true
is_below n (Some k) = nat_lt k n

-- no object of the table with this site is a function
unfoldable pub is_plain : ℕ → Bool
is_plain s =
    not (list_any (λ (row : TableRow). nat_eq row.object.site.0 s && is_function row.object.role)
    table_rows)

-- ---- what they give of the table

pub table-objects : are_objects 74 104 [] opening_objects ≡ true
unfolding opening_objects builtin_number
table-objects = refl

pub table-sites : all_below (λ s. is_some
    (find (λ (o : ObjectSpec). o.site.0 == s) opening_objects)) 74 ≡ true
unfolding opening_objects
table-sites = refl

pub table-count : length opening_objects ≡ 74
unfolding opening_objects
table-count = refl

pub classes_count : length BUILTIN_CLASSES ≡ 74
classes_count = refl

pub sites_count : (first : ℕ) → length (builtin_sites first) ≡ 74
unfolding builtin_sites
sites_count first = refl

pub sites-classes : (first : ℕ) → map (λ (s : SiteInfo). s.class) (builtin_sites first)
    ≡ BUILTIN_CLASSES
unfolding builtin_sites
sites-classes first = refl

pub functions-below : list_all (λ (row : TableRow).
    is_below FUNCTION_COUNT (call_of row.object.role)
    && is_below FUNCTION_COUNT (construct_of row.object.role)) table_rows ≡ true
functions-below = refl

pub sites-plain : (first : ℕ) → map (λ (s : SiteInfo). is_none s.calls && is_none s.constructs)
    (builtin_sites first) ≡ map is_plain (range_with_len 0 74)
unfolding builtin_sites is_plain
sites-plain first = refl

pub table-inside : list_all (λ (o : ObjectSpec). nat_lt o.site.0 74) opening_objects ≡ true
unfolding opening_objects
table-inside = refl

pub functions-scoped : list_all (λ (o : ObjectSpec). is_plain o.site.0 || is_some o.scope)
    opening_objects ≡ true
unfolding opening_objects is_plain
functions-scoped = refl

pub names_count : length builtin_names ≡ 104
names_count = refl

pub names-once : fold with_name [] builtin_names ≡ builtin_names
names-once = refl
