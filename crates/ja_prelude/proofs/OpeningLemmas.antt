-- What the table gives of a program that begins with its objects, with their sites and their names.
use Rattle.std.proofs.Common.{◌≡◌, ℕ, zero, suc, ◌+◌, ◌<◌, ◌≤◌, ◌==◌, Bool, true, false, ◌&&◌, ◌||◌, nat_lt, List, [], ◌∷◌, ◌++◌, length, map, Option, Some, None, refl, sym, ap, ◌∙◌, subst, arith}
use Rattle.std.specs.Prelude.{IsSome, IsTrue}
use Rattle.std.specs.List.{AllByRecursion, enumerate_from, find, flat_map, list_all, range_with_len, slice_get}
use Rattle.std.specs.Option.{is_none, is_some, option_map, option_to_list}
use Rattle.std.proofs.lemmas.Option.{slice_get_within, slice_get-map, same_Some}
use Rattle.ja_base.proofs.Tests.{and_left_true, and_right_true}
use Rattle.ja_base.proofs.Options.{none_by_test}
use Rattle.ja_base.proofs.Lists.{all_append, all_at}
use Rattle.ja_graph.specs.declared.builtins.TheConstants.{BUILTIN_CLASSES}
use Rattle.ja_graph.specs.declared.program.Class.{Class}
use Rattle.ja_graph.specs.declared.program.ObjectSpec.{ObjectSpec}
use Rattle.ja_graph.specs.declared.program.Program.{Program}
use Rattle.ja_graph.specs.declared.program.SiteInfo.{SiteInfo}
use Rattle.ja_graph.specs.Program.{object_spec, runs_function}
use Rattle.ja_graph.specs.WellFormed.{IsBuiltin, IsFunction, IsObjectWellFormed, NamesFunctions, builtin_names}
use Rattle.ja_graph.specs.code.Parts.{HasScope}
use Rattle.ja_prelude.specs.Table.{TableRow, builtin_sites, call_of, construct_of, function_of, opening_objects, row_with, site_of, sites_with, table_rows}
use Rattle.ja_prelude.proofs.ListLemmas.{all-found, all-get, get-first, get-front, get-range, lt_of}
use Rattle.ja_prelude.proofs.ObjectLemmas.{below-at, object-well_formed}
use Rattle.ja_prelude.proofs.TableLemmas.{are_objects, functions-below, functions-scoped, is_below, is_plain, names_count, sites-classes, sites-plain, sites_count, table-count, table-inside, table-objects, table-sites}
use Rattle.ja_prelude.specs.declared.texts.TheConstants.{FUNCTION_COUNT}

-- ---- objects

-- each site of theirs has its object
pub sites_have_objects : (p : Program) (s : ℕ) → p.opening ≡ opening_objects → s < length p.opening
    → IsSome (object_spec p s)
sites_have_objects p s opening before =
    subst (λ os. IsSome (find (λ (o : ObjectSpec). o.site.0 == s) os)) (sym opening)
    (below-at (λ n. is_some (find (λ (o : ObjectSpec). o.site.0 == n) opening_objects)) 74 s
    table-sites (omega (arith, before, ap length opening, table-count)))

-- ---- sites

class-at : (xs : List SiteInfo) (s : ℕ) (c : Class)
    → slice_get (map (λ (x : SiteInfo). x.class) xs) s ≡ Some c
    → (info : SiteInfo) × (slice_get xs s ≡ Some info) × (info.class ≡ c)
class-at [] s c is = absurd (cc)
class-at (x ∷ xs) zero c is = let same : x.class ≡ c = cc in (x, refl, same)
class-at (x ∷ xs) (suc s) c is = class-at xs s c is

-- the program tells their classes
pub classes_are_told : (first : ℕ) (p : Program) (others : List SiteInfo)
    → p.sites ≡ builtin_sites first ++ others → p.opening ≡ opening_objects → (s : ℕ) (c : Class)
    → slice_get BUILTIN_CLASSES s ≡ Some c → IsBuiltin p s c
classes_are_told first p others sites opening s c is =
    let found = class-at (builtin_sites first) s c
    (ap (λ cs. slice_get cs s) (sites-classes first) ∙ is) in (
      found.0,
      ap (λ xs. slice_get xs s) sites
          ∙ get-front (builtin_sites first) others s found.0 found.1,
      found.2,
      omega (
        arith,
        slice_get_within (builtin_sites first) s found.0 found.1,
        sites_count first,
        ap length opening,
        table-count,
      ),
    )

-- what holds of the site of each object that passes a test holds of each site of a table whose
-- objects do
sites-all : (P : SiteInfo → Type 0) (test : TableRow → Bool) (first : ℕ) (table : List TableRow)
    → ((c : Class) (row : TableRow) → test row ≡ true
    → P (site_of first c row.path row.object.role)) → list_all test table ≡ true
    → (rows : List (ℕ × Class)) → AllByRecursion P (flat_map (sites_with first table) rows)
sites-all P test first table each all [] = tt
sites-all P test first table each all (site ∷ rows) =
    all_append P (sites_with first table site) (flat_map (sites_with first table) rows)
    (at (row_with table site.0) refl) (sites-all P test first table each all rows)
  where
    at : (found : Option TableRow) → row_with table site.0 ≡ found
        → AllByRecursion P (option_to_list (option_map
        (λ (row : TableRow). site_of first site.1 row.path row.object.role) found))
    at None e = tt
    at (Some row) e = (
      each site.1 row (all-found test (λ (row : TableRow). row.object.site.0 == site.0) table row
          all e),
      tt,
    )

functions-named : (first : ℕ) (p : Program) (k : Option ℕ)
    → first + FUNCTION_COUNT ≤ length p.functions
    → is_below FUNCTION_COUNT k ≡ true → AllByRecursion (IsFunction p)
    (option_to_list (option_map (function_of first) k))
functions-named first p None many below = tt
functions-named first p (Some k) many below =
    (omega (arith, many, lt_of k FUNCTION_COUNT below), tt)

-- the functions that they run are there
pub sites_name_functions : (first : ℕ) (p : Program) → first + FUNCTION_COUNT ≤ length p.functions
    → AllByRecursion (NamesFunctions p) (builtin_sites first)
unfolding builtin_sites
sites_name_functions first p many =
    sites-all (NamesFunctions p) (λ (row : TableRow).
    is_below FUNCTION_COUNT (call_of row.object.role)
    && is_below FUNCTION_COUNT (construct_of row.object.role)) first table_rows each functions-below
    (enumerate_from 0 BUILTIN_CLASSES)
  where
    each : (c : Class) (row : TableRow) → (is_below FUNCTION_COUNT (call_of row.object.role)
        && is_below FUNCTION_COUNT (construct_of row.object.role)) ≡ true
        → NamesFunctions p (site_of first c row.path row.object.role)
    each c row below = record {
      owner = tt;
      calls =
          functions-named first p (call_of row.object.role) many
          (and_left_true (is_below FUNCTION_COUNT (call_of row.object.role))
          (is_below FUNCTION_COUNT (construct_of row.object.role)) below);
      constructs =
          functions-named first p (construct_of row.object.role) many
          (and_right_true (is_below FUNCTION_COUNT (call_of row.object.role))
          (is_below FUNCTION_COUNT (construct_of row.object.role)) below);
    }

pub sites_have_no_owner : (first : ℕ) → AllByRecursion (λ (info : SiteInfo). info.owner ≡ None)
    (builtin_sites first)
unfolding builtin_sites
sites_have_no_owner first =
    sites-all (λ (info : SiteInfo). info.owner ≡ None)
    (λ (row : TableRow). is_below FUNCTION_COUNT (call_of row.object.role)
    && is_below FUNCTION_COUNT (construct_of row.object.role)) first table_rows
    (λ c row below. refl)
    functions-below (enumerate_from 0 BUILTIN_CLASSES)

-- the site of this number is one of theirs
here : (first : ℕ) (p : Program) (others : List SiteInfo) → p.sites ≡ builtin_sites first ++ others
    → (s : ℕ) (info : SiteInfo) → s < 74 → slice_get p.sites s ≡ Some info
    → slice_get (builtin_sites first) s ≡ Some info
here first p others sites s info before is =
    get-first (builtin_sites first) others s info (omega (arith, before, sites_count first))
    (sym (ap (λ xs. slice_get xs s) sites) ∙ is)

-- they have no owner
pub sites_are_unowned : (first : ℕ) (p : Program) (others : List SiteInfo)
    → p.sites ≡ builtin_sites first ++ others → p.opening ≡ opening_objects → (s : ℕ)
    → s < length p.opening → (info : SiteInfo) → slice_get p.sites s ≡ Some info → info.owner ≡ None
sites_are_unowned first p others sites opening s before info is =
    all_at (λ (info : SiteInfo). info.owner ≡ None) (builtin_sites first) s info
    (sites_have_no_owner first) (here first p others sites s info
    (omega (arith, before, ap length opening, table-count)) is)

-- ---- objects that are no functions

abbrev has_none : SiteInfo → Bool
has_none info = is_none info.calls && is_none info.constructs

-- whether a site has functions is what the table says
same-plain : (first : ℕ) (s : ℕ) (info : SiteInfo) → s < 74
    → slice_get (builtin_sites first) s ≡ Some info → has_none info ≡ is_plain s
same-plain first s info before is =
    let told : slice_get (map has_none (builtin_sites first)) s
    ≡ Some (has_none info) = slice_get-map has_none (builtin_sites first) s
    ∙ ap (option_map has_none) is in
    let row : slice_get (map is_plain (range_with_len 0 74)) s
    ≡ Some (is_plain s) = slice_get-map is_plain (range_with_len 0 74) s
    ∙ ap (option_map is_plain) (get-range 0 74 s before ∙ ap Some (omega arith)) in
    same_Some (has_none info) (is_plain s) (sym told ∙ ap (λ bs. slice_get bs s) (sites-plain first)
    ∙ row)

-- what is no function runs none
runs_none : (info : SiteInfo) → has_none info ≡ true → IsTrue (runs_function info) → ⊥
runs_none info none runs =
    let calls : info.calls ≡ None = none_by_test info.calls
    (and_left_true (is_none info.calls) (is_none info.constructs) none) in
    let constructs : info.constructs ≡ None = none_by_test info.constructs
    (and_right_true (is_none info.calls) (is_none info.constructs) none) in
    absurd (cc)

inside : (p : Program) (i : ℕ) (o : ObjectSpec) → p.opening ≡ opening_objects
    → slice_get p.opening i ≡ Some o → o.site.0 < 74
inside p i o opening is =
    lt_of o.site.0 74 (all-get (λ (o : ObjectSpec). nat_lt o.site.0 74) opening_objects i o
    table-inside (sym (ap (λ os. slice_get os i) opening) ∙ is))

-- an object that runs a function has a scope
functions_are_scoped : (first : ℕ) (p : Program) (others : List SiteInfo)
    → p.sites ≡ builtin_sites first ++ others → p.opening ≡ opening_objects
    → (i : ℕ) (o : ObjectSpec) → slice_get p.opening i ≡ Some o → HasScope p o
functions_are_scoped first p others sites opening i o is info told runs =
    at (is_plain o.site.0) refl (all-get (λ (o : ObjectSpec). is_plain o.site.0 || is_some o.scope)
    opening_objects i o functions-scoped (sym (ap (λ os. slice_get os i) opening) ∙ is))
  where
    at : (b : Bool) → is_plain o.site.0 ≡ b → (b || is_some o.scope) ≡ true → IsSome o.scope
    at true plain passes =
        let before = inside p i o opening is in
        absurd (runs_none info (same-plain first o.site.0 info before
        (here first p others sites o.site.0 info before told) ∙ plain) runs)
    at false e passes = passes

-- the objects of the table are well formed
pub objects_are_well_formed : (first : ℕ) (p : Program) (others : List SiteInfo)
    → p.sites ≡ builtin_sites first ++ others → p.opening ≡ opening_objects
    → length builtin_names ≤ length p.names → (i : ℕ) (o : ObjectSpec)
    → slice_get p.opening i ≡ Some o → IsObjectWellFormed p i o
objects_are_well_formed first p others sites opening names i o is =
    object-well_formed 74 104 p i o (ap length opening ∙ table-count)
    (omega (arith, names, names_count)) (ap (are_objects 74 104 []) opening ∙ table-objects) is
    (functions_are_scoped first p others sites opening i o is)
