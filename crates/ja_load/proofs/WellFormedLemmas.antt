-- The program of a text is well formed, by what is proved of lowering, of the built-in objects and
-- functions, and of those of devices.
use Rattle.std.proofs.Common.{◌≡◌, ℕ, ◌+◌, ◌-◌, ◌*◌, ◌≤◌, false, List, ◌++◌, length, map, filter, take, Some, refl, sym, ap, ◌∙◌, subst, arith, length-append, length-take}
use Rattle.std.specs.Prelude.{String}
use Rattle.std.specs.List.{AllByRecursion, slice_get, range_with_len}
use Rattle.std.specs.declared.alloc.Global.{Global}
use Rattle.ja_base.proofs.Lists.{all_append, all_at, first_element}
use Rattle.ja_device.specs.Signatures.{AreSignatures}
use Rattle.ja_lower_names.specs.TextOrder.{Named, names_in}
use Rattle.ja_lower_expressions.specs.Specials.{is_name}
use Rattle.ja_graph.specs.declared.program.Function.{Function}
use Rattle.ja_graph.specs.declared.program.Program.{Program}
use Rattle.ja_graph.specs.declared.program.SiteInfo.{SiteInfo}
use Rattle.ja_graph.specs.WellFormed.{IsFunctionWellFormed, OwnedMaking, makings_from, IsSiteTold, NamesFunctions, IsWellFormed, builtin_names, node_count, max_registers, max_names}
use Rattle.ja_lower.specs.declared.lowered.Lowered.{Lowered}
use Rattle.ja_lower.specs.Limits.{function_count, prelude_count, size_of, prelude_size_of, IsWithin}
use Rattle.ja_lower.specs.Lowering as lowering
use Rattle.ja_lower.specs.Lowering.{AreAllowed, behind_devices, names_of, followed_by, lowered, lowered_prelude, lowered_with_prelude}
use Rattle.ja_lower.specs.Setting as settings
use Rattle.ja_prelude.specs.Prelude.{prelude_names, prelude_paths, prelude_statements}
use Rattle.ja_prelude.specs.Table.{builtin_sites}
use Rattle.ja_prelude.proofs.DistinctLemmas.{names_distinct}
use Rattle.ja_prelude.proofs.TableLemmas.{classes_count, sites_count}
use Rattle.ja_load.specs.Hosts.{device_sites, opening_with}
use Rattle.ja_load.specs.Loading.{names_before, program_of, program_with, sites_before, whole}
use Rattle.ja_load.proofs.BuiltHosts.{builtin-names-first, device-named}
use Rattle.ja_load.proofs.HostLemmas.{HasDevices, classes_with_devices, device_sites_count, functions_with_devices, objects_with_devices, opening_count, sites_have_objects_with_devices, unowned_with_devices}
use Rattle.ja_load.proofs.Places.{map-at}
use Rattle.ja_prim.specs.declared.signature.Signature.{Signature}
use Rattle.ja_syntax.specs.declared.tree.Statement.{Statement}

-- ---- the laws of lowering

pub record LoweringLaws : Type 0 where
  pub parts : (s : settings.Setting) (text : Lowered) → text ≡ settings.text_of s
      → settings.whole s ≡ settings.with_others s text
  pub well_formed : (s : settings.Setting) (p : Program) (f : ℕ) (fn : Function)
      → length s.paths ≡ prelude_count s.prelude
      → AreAllowed (lowering.prelude_bodies (lowering.prelude_names s.names s.prelude) s.prelude)
      → p.functions ≡ (settings.whole s).functions → p.names ≡ (settings.whole s).names
      → p.signatures ≡ s.signatures → slice_get p.functions f ≡ Some fn → fn.registers ≤ max_registers
      → IsFunctionWellFormed p fn
  pub numbered : (s : settings.Setting) → map (λ (m : OwnedMaking). m.making.site.0)
      (makings_from 0 (settings.whole s).functions)
      ≡ range_with_len s.first_site (length (settings.whole s).sites)
  pub told : (s : settings.Setting) (front : List SiteInfo) (p : Program)
      → length front ≡ s.first_site
      → p.sites ≡ front ++ (settings.whole s).sites
      → AllByRecursion (IsSiteTold p) (makings_from 0 (settings.whole s).functions)
  pub name_functions : (s : settings.Setting) (p : Program)
      → length s.paths ≡ prelude_count s.prelude
      → p.functions ≡ (settings.whole s).functions
      → AllByRecursion (NamesFunctions p) (settings.whole s).sites
  pub few_sites : (s : settings.Setting) → length (settings.whole s).sites
      ≤ 4 * node_count (settings.whole s).functions
  pub in_size : (s : settings.Setting) → node_count (settings.whole s).functions
      ≤ size_of (settings.names_before s) s.statements + 3 * length s.signatures
      + prelude_size_of s.names s.prelude
  pub counted : (s : settings.Setting) → length s.paths ≡ prelude_count s.prelude
      → length (settings.whole s).functions
      ≡ function_count s.statements + length s.signatures + length s.paths

-- a text, and what it is lowered with here
abbrev pub setting : List Signature → List Statement → settings.Setting
setting signatures statements =
    record {
      names = builtin_names;
      paths = prelude_paths;
      prelude = prelude_statements;
      signatures = signatures;
      first_site = sites_before signatures;
      statements = statements;
    }

-- ---- what is known of the built-in functions

pub record PreludeFacts : Type 0 where
  pub counted : prelude_count prelude_statements ≡ 75
  pub paths : length prelude_paths ≡ 75
  pub few : prelude_size_of builtin_names prelude_statements ≤ 4096
  pub allowed : AreAllowed (lowering.prelude_bodies prelude_names prelude_statements)

-- ---- lists

-- ---- the names

names_of_whole : (signatures : List Signature) (statements : List Statement)
    → (whole signatures statements).names ≡ names_of false (names_before signatures) statements
unfolding lowered_with_prelude lowered
names_of_whole signatures statements = refl

-- no two are alike
names_apart : (signatures : List Signature) (statements : List Statement) (i j : ℕ) (t : List ℕ)
    → slice_get (names_of false (names_before signatures) statements) i ≡ Some t
    → slice_get (names_of false (names_before signatures) statements) j ≡ Some t → i ≡ j
unfolding names_of
names_apart signatures statements i j t is also =
    names_distinct (names_before signatures)
    (map (λ (n : Named). n.text) (filter (is_name false) (names_in statements))) i j t is also

-- ---- the program

-- what is known of a program that was made of the parts of a text
pub record IsMade (p : Program) (signatures : List Signature) (statements : List Statement) : Type
    0 where
  pub functions : p.functions ≡ (whole signatures statements).functions
  pub text_functions : p.text_functions ≡ function_count statements
  pub sites : p.sites ≡ builtin_sites (function_count statements + length signatures)
      ++ device_sites (function_count statements) signatures ++ (whole signatures statements).sites
  pub names : p.names ≡ (whole signatures statements).names
  pub devices : p.signatures ≡ signatures
  pub opening : p.opening ≡ opening_with p.names signatures
  pub value_first : p.value_first.0 ≡ function_count statements + length signatures + 73
  pub text_first : p.text_first.0 ≡ function_count statements + length signatures + 74

-- it has devices
has_devices : LoweringLaws → PreludeFacts
    → (p : Program) (signatures : List Signature) (statements : List Statement)
    → AreSignatures signatures → IsMade p signatures statements
    → HasDevices p (function_count statements) signatures (whole signatures statements).sites
has_devices laws facts p signatures statements fit made =
    let named = made.names ∙ names_of_whole signatures statements in
    let begins : take (length builtin_names) p.names
    ≡ builtin_names = ap (take (length builtin_names)) named
    ∙ builtin-names-first signatures statements in
    let paths_each : length prelude_paths ≡ prelude_count prelude_statements = omega
    (arith, facts.paths, facts.counted) in
    record {
      opening = made.opening;
      sites = made.sites;
      functions =
          omega (
            arith,
            ap length made.functions,
            laws.counted (setting signatures statements) paths_each,
            facts.paths,
          );
      many = omega (arith, ap length begins, length-take (length builtin_names) p.names);
      named =
          λ i s is. let found = device-named signatures statements i s.name
          (map-at (λ (s : Signature). s.name) signatures i s is) in
          (found.0, ap (λ ns. slice_get ns found.0) named ∙ found.1);
      distinct = fit.distinct;
    }

pub made_is_well_formed : LoweringLaws → PreludeFacts
    → (p : Program) (signatures : List Signature) (statements : List Statement)
    → AreSignatures signatures → IsWithin (names_before signatures) statements
    → AllByRecursion (λ (fn : Function). fn.registers ≤ max_registers)
    (whole signatures statements).functions → length (whole signatures statements).names ≤ max_names
    → IsMade p signatures statements → IsWellFormed p
made_is_well_formed laws facts p signatures statements fit within registers few_names made =
    let l = whole signatures statements in
    let own = function_count statements in
    let first = sites_before signatures in
    let front_sites = builtin_sites (own + length signatures) ++ device_sites own signatures in
    let has = has_devices laws facts p signatures statements fit made in
    let named = made.names ∙ names_of_whole signatures statements in
    let paths_each : length prelude_paths ≡ prelude_count prelude_statements = omega
    (arith, facts.paths, facts.counted) in
    let count : length p.functions ≡ own + length signatures
    + 75 = omega (
      arith,
      ap length made.functions,
      laws.counted (setting signatures statements) paths_each,
      facts.paths,
    ) in
    let text = first_element p.functions (omega (arith, count)) in
    let objects : length p.opening ≡ 74 + length signatures = ap length made.opening
    ∙ opening_count p.names signatures in
    let front_count : length front_sites ≡ 74
    + length signatures = omega (
      arith,
      length-append (builtin_sites (own + length signatures))
          (device_sites own signatures),
      sites_count (own + length signatures),
      device_sites_count own signatures,
    ) in
    let all_sites : length p.sites ≡ 74 + length signatures
    + length l.sites = omega (
      arith,
      ap length made.sites,
      length-append front_sites l.sites,
      front_count,
    ) in
    let nodes : node_count l.functions ≤ 69824 = omega (
      arith,
      laws.in_size (setting signatures statements),
      within.nodes,
      fit.few,
      facts.few,
    ) in
    let from : first ≡ length p.opening = omega (arith, classes_count, objects) in
    let behind : length l.sites ≡ length p.sites - length p.opening = omega
    (arith, all_sites, objects) in
    let front : length front_sites ≡ first = omega (arith, front_count, classes_count) in
    record {
      text = text.0;
      text_is = text.1;
      text_among = omega (arith, made.text_functions);
      text_functions = omega (arith, made.text_functions, count);
      value_first = omega (arith, made.value_first, count);
      text_first = omega (arith, made.text_first, count);
      each =
          λ f fn is. laws.well_formed (setting signatures statements) p f fn paths_each
          facts.allowed made.functions made.names made.devices is
          (all_at (λ (fn : Function). fn.registers ≤ max_registers) l.functions f fn registers
          (sym (ap (λ fns. slice_get fns f) made.functions) ∙ is));
      few_nodes = omega (arith, nodes, ap node_count made.functions);
      objects = λ i o is. objects_with_devices p own signatures l.sites has i o is;
      all_objects =
          λ s before. sites_have_objects_with_devices p own signatures l.sites has s before;
      builtins = λ s c is. classes_with_devices p own signatures l.sites has s c is;
      unowned =
          λ s before info is. unowned_with_devices p own signatures l.sites has s before info is;
      name_functions =
          subst (AllByRecursion (NamesFunctions p)) (sym made.sites)
          (all_append (NamesFunctions p) front_sites l.sites
          (functions_with_devices p own signatures l.sites has)
          (laws.name_functions (setting signatures statements) p paths_each made.functions));
      sites = omega (arith, all_sites, objects);
      numbered =
          ap (λ fns. map (λ (m : OwnedMaking). m.making.site.0) (makings_from 0 fns)) made.functions
          ∙ laws.numbered (setting signatures statements)
          ∙ ap (λ a. range_with_len a (length l.sites)) from
          ∙ ap (range_with_len (length p.opening)) behind;
      told =
          subst (λ fns. AllByRecursion (IsSiteTold p) (makings_from 0 fns)) (sym made.functions)
          (laws.told (setting signatures statements) front_sites p front made.sites);
      few_sites =
          omega (
            arith,
            all_sites,
            nodes,
            fit.few,
            laws.few_sites (setting signatures statements),
          );
      names = ap (take (length builtin_names)) named ∙ builtin-names-first signatures statements;
      distinct =
          λ i j t is also. names_apart signatures statements i j t
          (sym (ap (λ ns. slice_get ns i) named) ∙ is)
          (sym (ap (λ ns. slice_get ns j) named) ∙ also);
      few_names = omega (arith, ap length made.names, few_names);
    }

pub program_is_well_formed : LoweringLaws → PreludeFacts
    → (text : String Global) (signatures : List Signature) (statements : List Statement)
    → AreSignatures signatures → IsWithin (names_before signatures) statements
    → AllByRecursion (λ (fn : Function). fn.registers ≤ max_registers)
    (whole signatures statements).functions → length (whole signatures statements).names ≤ max_names
    → IsWellFormed (program_of text signatures statements)
unfolding program_of
program_is_well_formed laws facts text signatures statements fit within registers few_names =
    made_is_well_formed laws facts (program_of text signatures statements) signatures statements fit
    within registers few_names
    (record {
      functions = refl;
      text_functions = refl;
      sites = refl;
      names = refl;
      devices = refl;
      opening = refl;
      value_first = refl;
      text_first = refl;
    })

-- ---- the parts put together

-- what a text comes to, followed by the functions of devices and the built-in ones
pub whole_of_parts : LoweringLaws → (signatures : List Signature) (statements : List Statement)
    (l : Lowered) → l ≡ lowered (names_before signatures) (sites_before signatures) statements
    → followed_by l (behind_devices signatures
    (lowered_prelude builtin_names prelude_paths (sites_before signatures + length l.sites)
    (length l.functions + length signatures) prelude_statements)) ≡ whole signatures statements
whole_of_parts laws signatures statements l is =
    sym (laws.parts (setting signatures statements) l is)

pub program_of_parts : (p : Program) (signatures : List Signature) (statements : List Statement)
    (own : ℕ) (l : Lowered) → p ≡ program_with p.text signatures own l
    → own ≡ function_count statements → l ≡ whole signatures statements
    → p ≡ program_of p.text signatures statements
unfolding program_of
program_of_parts p signatures statements own l is count same =
    is ∙ ap (λ n. program_with p.text signatures n l) count
    ∙ ap (program_with p.text signatures (function_count statements)) same
