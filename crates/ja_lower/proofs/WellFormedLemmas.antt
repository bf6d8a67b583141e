-- What is lowered is well formed, a text with the functions of devices and the built-in ones behind
-- its own.
use Rattle.std.proofs.Common.{◌≡◌, ℕ, ◌+◌, ◌*◌, ◌<◌, ◌≤◌, true, false, List, [], ◌∷◌, ◌++◌, length, map, Some, refl, sym, ap, ◌∙◌, subst, arith, length-append}
use Rattle.std.specs.List.{AllByRecursion, flat_map, slice_get, range_with_len}
use Rattle.std.proofs.lemmas.List.{length-map}
use Rattle.ja_base.proofs.Lists.{all_append, all_left, all_right}
use Rattle.ja_graph.specs.declared.program.Function.{Function}
use Rattle.ja_graph.specs.declared.program.Program.{Program}
use Rattle.ja_graph.specs.declared.program.SiteInfo.{SiteInfo}
use Rattle.ja_graph.specs.WellFormed.{IsFunctionWellFormed, OwnedMaking, makings_from, IsSiteTold, NamesFunctions, node_count, max_registers}
use Rattle.ja_lower_statements.specs.Functions.{program_listing, function_listing}
use Rattle.ja_lower_draft.specs.Lines.{Scene}
use Rattle.ja_lower_names.specs.Names.{number}
use Rattle.ja_lower_names.specs.TextOrder.{if_any, in_name, in_statement, functions_in}
use Rattle.ja_lower_ranges.specs.Found.{HasPart, HasText, HasFunction}
use Rattle.ja_lower_ranges.specs.InRange.{AllInRange, limits_of}
use Rattle.ja_lower_ranges.proofs.FunctionRanges.{program_copies, function_copies, program_in_range, function_in_range, program_ends, function_ends}
use Rattle.ja_lower_ranges.proofs.FunctionParts.{functions_found}
use Rattle.ja_syntax.specs.declared.tree.FunctionOf.{FunctionOf}
use Rattle.ja_syntax.specs.declared.tree.Name.{Name}
use Rattle.ja_syntax.specs.declared.tree.Statement.{Statement}
use Rattle.ja_lower.specs.declared.body.Body.{Body}
use Rattle.ja_lower.specs.declared.lowered.Lowered.{Lowered}
use Rattle.ja_lower.specs.Limits.{function_count, prelude_count, size_of, prelude_size_of}
use Rattle.ja_lower.specs.Lowering.{AreAllowed, names_of, scene_of, scene_with, function_body, bodies_of, functions_of, sites_of, prelude_names, prelude_bodies, at_paths, device_names, device_bodies, followed_by, lowered, lowered_prelude, lowered_with_prelude}
use Rattle.ja_lower.specs.Setting.{Setting, names_before, text_of, with_others, whole}
use Rattle.ja_lower.proofs.DeviceBodies.{devices_listed, devices_fit, length-devices, size-devices, devices_siteless, devices_alike}
use Rattle.ja_lower.proofs.Joined.{functions_append, sites_append, size-append, length-at_paths, size-at_paths, first_names_stay}
use Rattle.ja_lower.proofs.NumberingLemmas.{IsSited, AreSited, numbers_of_bodies}
use Rattle.ja_lower.proofs.Scenes.{scene_has_its_text, parameters_named}
use Rattle.ja_lower.proofs.SiteLemmas.{MakesFunctions, told_bodies, named_bodies, few_sites, few_nodes}
use Rattle.ja_lower.proofs.FunctionLemmas.{FitsIn, all-from, IsListed, functions_well_formed, length-functions, listed_named, listed_sited, paths_listed, preludes_fit, text_fits}

-- ---- bodies

abbrev IsListedIn : Scene → Body → Type 0
IsListedIn scene body = IsListed scene.specials (length scene.names) (length scene.functions) body

function_listed : (scene : Scene) (f : FunctionOf Statement) → HasFunction scene f
    → IsListedIn scene (function_body scene f)
function_listed scene f has =
    let count : length f.parameters ≡ length
    (map (λ (p : Name). number scene.names p.text) f.parameters) = sym
    (length-map f.parameters (λ (p : Name). number scene.names p.text)) in
    let inside = all_right (HasPart scene) (if_any in_name f.name)
    (flat_map in_name f.parameters ++ flat_map in_statement f.body) has.1 in
    record {
      listing = function_listing scene f;
      nodes = refl;
      in_range =
          subst (λ n. AllInRange (limits_of n scene) (function_listing scene f)) count
          (function_in_range scene f has);
      copies = function_copies scene f has;
      ends = function_ends scene f;
      parameters =
          parameters_named scene f.parameters (all_left (HasPart scene)
          (flat_map in_name f.parameters) (flat_map in_statement f.body) inside);
    }

functions_listed : (scene : Scene) (fs : List (FunctionOf Statement))
    → AllByRecursion (HasFunction scene) fs
    → AllByRecursion (IsListedIn scene) (map (function_body scene) fs)
functions_listed scene [] has = tt
functions_listed scene (f ∷ fs) has =
    (function_listed scene f has.0, functions_listed scene fs has.1)

bodies_listed : (scene : Scene) (statements : List Statement) → HasText scene statements
    → AllByRecursion (IsListedIn scene) (bodies_of scene statements)
unfolding bodies_of
bodies_listed scene statements has = (
  record {
    listing = program_listing scene statements;
    nodes = refl;
    in_range = program_in_range scene statements has;
    copies = program_copies scene statements has;
    ends = program_ends scene statements;
    parameters = tt;
  },
  functions_listed scene (functions_in statements) (functions_found scene statements has),
)

-- ---- the scenes of a text, and of built-in functions

module _ (names : List (List ℕ)) (statements : List Statement) where
  abbrev text_scene : Scene
  text_scene = scene_of (names_of false names statements) statements

  abbrev text_bodies : List Body
  text_bodies = bodies_of text_scene statements

  text_listed : AllByRecursion (IsListedIn text_scene) text_bodies
  text_listed = bodies_listed text_scene statements (scene_has_its_text false names statements)

  text_count : length text_bodies ≡ function_count statements
  unfolding bodies_of
  text_count = omega (arith, length-map (functions_in statements) (function_body text_scene))

  -- the program is one more than the functions of its text
  text_functions : length text_scene.functions < length text_bodies
  text_functions =
      omega (
        arith,
        text_count,
        length-map (functions_in statements)
            (λ (g : FunctionOf Statement). g.place),
      )

  abbrev prelude_scene : Scene
  prelude_scene = scene_with true (prelude_names names statements) statements

  abbrev own_bodies : List Body
  own_bodies = prelude_bodies (prelude_names names statements) statements

  own_listed : AllByRecursion (IsListedIn prelude_scene) own_bodies
  unfolding prelude_bodies
  own_listed =
      functions_listed prelude_scene (functions_in statements)
      (functions_found prelude_scene statements (scene_has_its_text true names statements))

  own_count : length own_bodies ≡ prelude_count statements
  unfolding prelude_bodies
  own_count = length-map (functions_in statements) (function_body prelude_scene)

  own_functions : length prelude_scene.functions ≡ prelude_count statements
  own_functions = length-map (functions_in statements) (λ (g : FunctionOf Statement). g.place)

-- ---- a text with the functions of devices and the built-in ones behind its own

module _ (s : Setting) where
  abbrev before : List (List ℕ)
  before = names_before s

  abbrev text : List Body
  text = text_bodies before s.statements

  abbrev built_in : List Body
  built_in = at_paths s.paths (own_bodies s.names s.prelude)

  abbrev others : List Body
  others = device_bodies s.signatures ++ built_in

  abbrev bodies : List Body
  bodies = text ++ others

  -- it has the functions and the sites of these bodies
  whole_functions : (whole s).functions ≡ functions_of s.first_site bodies
  unfolding lowered_with_prelude lowered
  whole_functions = sym (functions_append s.first_site 0 text others)

  whole_sites : (whole s).sites ≡ sites_of 0 bodies
  unfolding lowered_with_prelude lowered
  whole_sites =
      let count : length (functions_of s.first_site text) ≡ 0
      + length text = omega (arith, length-functions s.first_site text) in
      ap (λ n. sites_of 0 text ++ sites_of n others) count ∙ sym (sites_append 0 text others)

  whole_names : (whole s).names ≡ names_of false before s.statements
  unfolding lowered_with_prelude lowered
  whole_names = refl

  all_sited : AreSited bodies
  all_sited =
      let AreOwn : Body → Type 0 = λ body. AllByRecursion IsSited body.nodes in
      let texts = text_scene before s.statements in
      let own = prelude_scene s.names s.prelude in
      let of_text = all-from (IsListedIn texts) AreOwn text
      (listed_sited texts.specials (length texts.names) (length texts.functions))
      (text_listed before s.statements) in
      let of_devices = all-from (IsListed true 0 0) AreOwn (device_bodies s.signatures)
      (listed_sited true 0 0) (devices_listed s.signatures) in
      let of_prelude = all-from (IsListedIn own) AreOwn built_in
      (listed_sited own.specials (length own.names) (length own.functions))
      (paths_listed own.specials (length own.names) (length own.functions) s.paths
      (own_bodies s.names s.prelude) (own_listed s.names s.prelude)) in
      all_append AreOwn text others of_text (all_append AreOwn (device_bodies s.signatures) built_in
      of_devices of_prelude)

  count : length s.paths ≡ prelude_count s.prelude
      → length bodies ≡ function_count s.statements + length s.signatures + prelude_count s.prelude
  count path_each =
      omega (
        arith,
        length-append text others,
        length-append (device_bodies s.signatures) built_in,
        text_count before s.statements,
        length-devices s.signatures,
        length-at_paths s.paths (own_bodies s.names s.prelude)
            (path_each ∙ sym (own_count s.names s.prelude)),
        path_each,
      )

  module _ (p : Program) (path_each : length s.paths ≡ prelude_count s.prelude)
      (functions : p.functions ≡ (whole s).functions) where
    count_in : length p.functions ≡ function_count s.statements + length s.signatures
        + prelude_count s.prelude
    count_in =
        ap length functions ∙ ap length whole_functions ∙ length-functions s.first_site bodies
        ∙ count path_each

    many_for_text : length (text_scene before s.statements).functions < length p.functions
    many_for_text =
        omega (arith, count_in, text_count before s.statements, text_functions before s.statements)

    many_for_prelude : length (prelude_scene s.names s.prelude).functions < length p.functions
    many_for_prelude = omega (arith, count_in, own_functions s.names s.prelude)

    are_well_formed : AreAllowed (own_bodies s.names s.prelude) → p.names ≡ (whole s).names
        → p.signatures ≡ s.signatures → (f : ℕ) (fn : Function) → slice_get p.functions f ≡ Some fn
        → fn.registers ≤ max_registers → IsFunctionWellFormed p fn
    are_well_formed allowed same asked f fn is few =
        let in_names : p.names ≡ names_of false before s.statements = same ∙ whole_names in
        let there : length (names_of false before s.statements)
        ≤ length p.names = omega (arith, ap length in_names) in
        let begins = first_names_stay s.names (device_names s.signatures) s.prelude s.statements in
        let enough : length (prelude_names s.names s.prelude)
        ≤ length p.names = omega (
          arith,
          ap length in_names,
          ap length begins.1,
          length-append (prelude_names s.names s.prelude) begins.0,
        ) in
        let texts = text_scene before s.statements in
        let of_text = all-from (IsListedIn texts) (FitsIn p) text
        (λ body listed. text_fits p (length texts.names) (length texts.functions) body there
        many_for_text listed) (text_listed before s.statements) in
        let of_devices = devices_fit p s.signatures (omega (arith, many_for_prelude)) asked in
        let own = prelude_scene s.names s.prelude in
        let of_prelude = preludes_fit p (length own.names) (length own.functions) s.paths
        (own_bodies s.names s.prelude) enough many_for_prelude (own_listed s.names s.prelude)
        allowed in
        let of_others = all_append (FitsIn p) (device_bodies s.signatures) built_in of_devices
        of_prelude in
        functions_well_formed p s.first_site bodies
        (all_append (FitsIn p) text others of_text of_others)
        (functions ∙ whole_functions) f fn is few

    name_functions : AllByRecursion (NamesFunctions p) (whole s).sites
    name_functions =
        let Makes : Body → Type 0 = λ body. AllByRecursion (MakesFunctions p) body.nodes in
        let texts = text_scene before s.statements in
        let own = prelude_scene s.names s.prelude in
        let of_text = all-from (IsListedIn texts) Makes text
        (λ body listed. listed_named p texts.specials (length texts.names)
        (length texts.functions) body many_for_text listed) (text_listed before s.statements) in
        let of_devices = all-from (IsListed true 0 0) Makes (device_bodies s.signatures)
        (λ body listed. listed_named p true 0 0 body (omega (arith, many_for_prelude)) listed)
        (devices_listed s.signatures) in
        let of_prelude = all-from (IsListedIn own) Makes built_in
        (λ body listed. listed_named p own.specials (length own.names) (length own.functions)
        body many_for_prelude listed) (paths_listed own.specials (length own.names)
        (length own.functions) s.paths (own_bodies s.names s.prelude)
        (own_listed s.names s.prelude)) in
        let of_others = all_append Makes (device_bodies s.signatures) built_in of_devices
        of_prelude in
        subst (AllByRecursion (NamesFunctions p)) (sym whole_sites)
        (named_bodies p 0 bodies (omega (arith, count_in, count path_each))
        (all_append Makes text others of_text of_others))

  -- the parts: devices have no sites, so they stand before the built-in functions wherever sites
  -- are numbered from
  parts : (l : Lowered) → l ≡ text_of s
      → whole s ≡ with_others s l
  unfolding lowered_with_prelude lowered_prelude
  parts l is =
      let devices = device_bodies s.signatures in
      let built : ℕ → ℕ → Lowered = λ site function.
      record {
        functions = functions_of site built_in;
        sites = sites_of function built_in;
        names = prelude_names s.names s.prelude;
      } in
      let site = s.first_site + length l.sites in
      let function = length l.functions in
      let none = devices_siteless function s.signatures in
      let functions : functions_of site others ≡ functions_of 0 devices
      ++ functions_of site built_in =
      functions_append site function devices built_in
      ∙ ap (λ fns. fns ++ functions_of (site + length (sites_of function devices)) built_in)
      (sym (devices_alike site s.signatures))
      ∙ ap (λ n. functions_of 0 devices ++ functions_of n built_in)
      (omega (arith, ap length none)) in
      let sites : sites_of function others ≡ sites_of (function + length s.signatures) built_in =
      sites_append function devices built_in
      ∙ ap (λ ss. ss ++ sites_of (function + length devices) built_in) none
      ∙ ap (λ n. sites_of (function + n) built_in) (length-devices s.signatures) in
      ap (λ (t : Lowered). followed_by t (record {
        functions = functions_of (s.first_site + length t.sites) others;
        sites = sites_of (length t.functions) others;
        names = prelude_names s.names s.prelude;
      }))
      (sym is)
      ∙ ap (λ fns. followed_by l (record {
        functions = fns;
        sites = sites_of function others;
        names = prelude_names s.names s.prelude;
      })) functions
      ∙ ap (λ ss. followed_by l (record {
        functions = functions_of 0 devices
            ++ functions_of site built_in;
        sites = ss;
        names = prelude_names s.names s.prelude;
      })) sites

pub functions_are_well_formed : (s : Setting) (p : Program) (f : ℕ) (fn : Function)
    → length s.paths ≡ prelude_count s.prelude
    → AreAllowed (prelude_bodies (prelude_names s.names s.prelude) s.prelude)
    → p.functions ≡ (whole s).functions → p.names ≡ (whole s).names
    → p.signatures ≡ s.signatures → slice_get p.functions f ≡ Some fn → fn.registers ≤ max_registers
    → IsFunctionWellFormed p fn
functions_are_well_formed s p f fn path_each allowed functions same asked is few =
    are_well_formed s p path_each functions allowed
    same asked f fn is few

pub sites_are_numbered : (s : Setting) → map (λ (m : OwnedMaking). m.making.site.0)
    (makings_from 0 (whole s).functions)
    ≡ range_with_len s.first_site (length (whole s).sites)
sites_are_numbered s =
    let all = bodies s in
    ap (λ fns. map (λ (m : OwnedMaking). m.making.site.0) (makings_from 0 fns))
    (whole_functions s)
    ∙ numbers_of_bodies 0 s.first_site all (all_sited s)
    ∙ ap (λ (ss : List SiteInfo). range_with_len s.first_site (length ss))
    (sym (whole_sites s))

pub sites_are_told : (s : Setting) (front : List SiteInfo) (p : Program)
    → length front ≡ s.first_site → p.sites ≡ front ++ (whole s).sites
    → AllByRecursion (IsSiteTold p) (makings_from 0 (whole s).functions)
sites_are_told s front p behind sites =
    let here = sites ∙ ap (λ ss. front ++ ss) (whole_sites s) in
    subst (λ fns. AllByRecursion (IsSiteTold p) (makings_from 0 fns)) (sym (whole_functions s))
    (told_bodies p 0 s.first_site (bodies s) front here behind (all_sited s))

pub sites_name_functions : (s : Setting) (p : Program) → length s.paths ≡ prelude_count s.prelude
    → p.functions ≡ (whole s).functions
    → AllByRecursion (NamesFunctions p) (whole s).sites
sites_name_functions s p path_each functions =
    name_functions s p path_each functions

pub sites_are_few : (s : Setting) → length (whole s).sites
    ≤ 4 * node_count (whole s).functions
sites_are_few s =
    omega (
      arith,
      ap length (whole_sites s),
      ap node_count (whole_functions s),
      few_sites 0 s.first_site (bodies s),
    )

pub nodes_are_within_the_size : (s : Setting) → node_count (whole s).functions
    ≤ size_of (names_before s) s.statements + 3 * length s.signatures
    + prelude_size_of s.names s.prelude
unfolding size_of prelude_size_of
nodes_are_within_the_size s =
    let all = bodies s in
    let behind = others s in
    let built = built_in s in
    omega (
      arith,
      ap node_count (whole_functions s),
      few_nodes s.first_site all,
      size-append (text s)
          behind,
      size-append (device_bodies s.signatures) built,
      size-devices s.signatures,
      size-at_paths s.paths (own_bodies s.names s.prelude),
    )

pub prelude_names_come_first : (names more : List (List ℕ)) (prelude : List Statement) (first : ℕ)
    (statements : List Statement) → (own : List (List ℕ))
    × ((lowered (prelude_names names prelude ++ more) first statements).names
    ≡ prelude_names names prelude ++ own)
unfolding lowered
prelude_names_come_first names more prelude first statements =
    first_names_stay names more prelude statements

pub parts_follow : (s : Setting) (text : Lowered) → text ≡ text_of s
    → whole s ≡ with_others s text
parts_follow s text is = parts s text is

-- ---- how many functions

pub text_counted : (names : List (List ℕ)) (first : ℕ) (statements : List Statement)
    → length (lowered names first statements).functions ≡ function_count statements
unfolding lowered
text_counted names first statements =
    length-functions first (text_bodies names statements) ∙ text_count names statements

pub whole_counted : (s : Setting) → length s.paths ≡ prelude_count s.prelude
    → length (whole s).functions
    ≡ function_count s.statements + length s.signatures + length s.paths
whole_counted s path_each =
    let all = bodies s in
    omega (
      arith,
      ap length (whole_functions s),
      length-functions s.first_site all,
      count s path_each,
      path_each,
    )
