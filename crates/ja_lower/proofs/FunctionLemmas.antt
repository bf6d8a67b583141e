-- Functions of which what is listed is in range are well formed.
use Rattle.std.proofs.Common.{◌≡◌, ℕ, zero, suc, ◌+◌, ◌-◌, ◌<◌, ◌≤◌, Bool, true, false, List, [], ◌∷◌, ◌++◌, length, map, Some, refl, sym, ap, ◌∙◌, subst, arith}
use Rattle.std.specs.List.{AllByRecursion, slice_get, flat_map}
use Rattle.std.specs.Option.{option_to_list}
use Rattle.std.proofs.lemmas.List.{length-map}
use Rattle.ja_base.specs.declared.ids.FnId.{FnId}
use Rattle.ja_base.specs.declared.ids.NameId.{NameId}
use Rattle.ja_base.specs.declared.ids.Reg.{Reg}
use Rattle.ja_base.proofs.Lists.{all_at, all_left, all_right}
use Rattle.ja_graph.specs.declared.node.Args.TheVariants as args
use Rattle.ja_graph.specs.declared.node.Node.{Node}
use Rattle.ja_graph.specs.declared.node.Node.TheVariants as node
use Rattle.ja_graph.specs.declared.node.NodeInfo.{NodeInfo}
use Rattle.ja_graph.specs.declared.program.Function.{Function}
use Rattle.ja_graph.specs.declared.program.Program.{Program}
use Rattle.ja_graph.specs.Node.{register_set, registers_named, registers_in, name_in, function_in}
use Rattle.ja_graph.specs.Renaming.{renamed}
use Rattle.ja_graph.specs.WellFormed.{IsRegister, IsDestination, IsName, IsFunction, IsAllowed, IsNodeWellFormed, IsFunctionWellFormed, LastIsEscape, max_registers}
use Rattle.ja_graph.proofs.RegisterLemmas.{first_stay, each_among}
use Rattle.ja_lower_listing.specs.declared.item.Item.{Item}
use Rattle.ja_lower_listing.specs.Listing.{assembled}
use Rattle.ja_lower_listing.specs.Laws.{EndsWithEscape, CopiesAreWhole, EdgesLeadInside}
use Rattle.ja_lower_listing.proofs.Kept.{assembled_ends}
use Rattle.ja_lower_listing.proofs.Inside.{assembled_inside}
use Rattle.ja_lower_ranges.specs.InRange.{Limits, IsInRange, IsOfTexts, AllInRange}
use Rattle.ja_lower_ranges.proofs.CopyRanges.{assembled_keeps}
use Rattle.ja_lower_ranges.specs.InRange.{IsDestination as IsDestinationWithin}
use Rattle.ja_lower.specs.declared.body.Body.{Body}
use Rattle.ja_lower.specs.Lowering.{AreAllowed, shifting, site_count, numbered, sites_in, registers_of, function_of, functions_of, at_path, at_paths}
use Rattle.ja_lower.proofs.NumberingLemmas.{sets_kept, named_kept, name_kept, function_kept, IsSited}
use Rattle.ja_lower.proofs.SiteLemmas.{MakesFunctions, length-numbered}

pub all-map : {X Y : Type 0} (P : X → Type 0) (Q : Y → Type 0) (f : X → Y) (xs : List X)
    → ((x : X) → P x → Q (f x)) → AllByRecursion P xs → AllByRecursion Q (map f xs)
all-map P Q f [] from each = tt
all-map P Q f (x ∷ xs) from each = (from x each.0, all-map P Q f xs from each.1)

pub all-from : {X : Type 0} (P Q : X → Type 0) (xs : List X) → ((x : X) → P x → Q x)
    → AllByRecursion P xs → AllByRecursion Q xs
all-from P Q [] from each = tt
all-from P Q (x ∷ xs) from each = (from x each.0, all-from P Q xs from each.1)

all-both : {X : Type 0} (P Q R : X → Type 0) (xs : List X) → ((x : X) → P x → Q x → R x)
    → AllByRecursion P xs → AllByRecursion Q xs → AllByRecursion R xs
all-both P Q R [] from first second = tt
all-both P Q R (x ∷ xs) from first second =
    (from x first.0 second.0, all-both P Q R xs from first.1 second.1)

-- what holds of the registers of all nodes holds of those of each
flat-at : (P : Reg → Type 0) (infos : List NodeInfo) (n : ℕ) (info : NodeInfo)
    → AllByRecursion P (flat_map (λ (i : NodeInfo). registers_in i.node) infos)
    → slice_get infos n ≡ Some info → AllByRecursion P (registers_in info.node)
flat-at P [] n info each is = absurd (cc)
flat-at P (i ∷ infos) zero info each is =
    let same : i ≡ info = cc in
    subst (λ (x : NodeInfo). AllByRecursion P (registers_in x.node)) same
    (all_left P (registers_in i.node) (flat_map (λ (x : NodeInfo). registers_in x.node) infos)
    each)
flat-at P (i ∷ infos) (suc n) info each is =
    flat-at P infos n info (all_right P (registers_in i.node)
    (flat_map (λ (x : NodeInfo). registers_in x.node) infos) each) is

-- ---- registers

registers_first : (parameters : ℕ) (infos : List NodeInfo)
    → 6 + parameters ≤ registers_of parameters infos
unfolding registers_of
registers_first parameters infos =
    first_stay (6 + parameters) (flat_map (λ (info : NodeInfo). registers_in info.node) infos)

registers_each : (parameters : ℕ) (infos : List NodeInfo) (n : ℕ) (info : NodeInfo)
    → slice_get infos n ≡ Some info → AllByRecursion
    (λ (r : Reg). r.0 < registers_of parameters infos) (registers_in info.node)
unfolding registers_of
registers_each parameters infos n info is =
    flat-at (λ (r : Reg). r.0 < registers_of parameters infos) infos n info
    (each_among (6 + parameters) (registers_of parameters infos)
    (flat_map (λ (i : NodeInfo). registers_in i.node) infos) (omega arith)) is

-- ---- nodes

-- a node of texts is allowed in any function
pub texts_allowed : (p : Program) (fn : Function) (n : Node) → IsOfTexts n → IsAllowed p fn n
texts_allowed p fn (node.Call dst callee receiver (args.Registers list) error) of_texts = tt
texts_allowed p fn (node.Call dst callee receiver (args.Elements array) error) of_texts = tt
texts_allowed p fn (node.Call dst callee receiver args.Tail error) of_texts = absurd of_texts
texts_allowed p fn (node.Intrinsic dst which list) of_texts = absurd of_texts
texts_allowed p fn (node.Device dst which) of_texts = absurd of_texts
texts_allowed p fn n of_texts = tt

-- a node that is allowed still is with its sites numbered
allowed_kept : (p : Program) (body : Body) (first from : ℕ) (n : Node)
    → IsAllowed p (function_of 0 body) n → IsAllowed p (function_of first body)
    (renamed (shifting from) n)
unfolding renamed
allowed_kept p body first from (node.Call dst callee receiver (args.Registers list) error) allowed =
    tt
allowed_kept p body first from (node.Call dst callee receiver (args.Elements array) error) allowed =
    tt
allowed_kept p body first from (node.Call dst callee receiver args.Tail error) allowed = allowed
allowed_kept p body first from (node.Intrinsic dst which list) allowed =
    allowed ∙ ap Some (sym (length-map list (λ (r : Reg). r)))
allowed_kept p body first from (node.Device dst which) allowed = allowed
allowed_kept p body first from n allowed = tt

-- Escape stays
escape_kept : (first : ℕ) (n : Node) → n ≡ node.Escape → renamed (shifting first) n ≡ node.Escape
unfolding renamed
escape_kept first n is = ap (renamed (shifting first)) is

-- a node whose sites are numbered
abbrev pub renumbered : ℕ → NodeInfo → NodeInfo
renumbered first info = record info { node = renamed (shifting first) info.node }

-- it comes from the node with its number
pub get-numbered : (first : ℕ) (infos : List NodeInfo) (n : ℕ) (info : NodeInfo)
    → slice_get (numbered first infos) n ≡ Some info
    → (from : ℕ) × (old : NodeInfo) × (slice_get infos n ≡ Some old) × (renumbered from old ≡ info)
unfolding numbered
get-numbered first [] n info is = absurd (cc)
get-numbered first (i ∷ infos) zero info is = let same : renumbered first i ≡ info = cc in
    (first, i, refl, same)
get-numbered first (i ∷ infos) (suc n) info is =
    get-numbered (first + site_count i.node) infos n info is

-- and that node comes to one
to-numbered : (first : ℕ) (infos : List NodeInfo) (n : ℕ) (old : NodeInfo)
    → slice_get infos n ≡ Some old → (from : ℕ)
    × (slice_get (numbered first infos) n ≡ Some (renumbered from old))
unfolding numbered
to-numbered first [] n old is = absurd (cc)
to-numbered first (i ∷ infos) zero old is = let same : i ≡ old = cc in
    (first, ap (λ x. Some (renumbered first x)) same)
to-numbered first (i ∷ infos) (suc n) old is =
    to-numbered (first + site_count i.node) infos n old is

-- ---- bodies

abbrev pub limits_within : Bool → ℕ → ℕ → Body → Limits
limits_within specials names functions body =
    record {
      parameters = length body.parameters;
      names = names;
      functions = functions;
      specials = specials;
    }

-- What is listed of the body is in range, and so are its parameters, in a program with so many
-- names and functions; names may be special forms or not.
pub record IsListed (specials : Bool) (names functions : ℕ) (body : Body) : Type 0 where
  pub listing : List Item
  pub nodes : body.nodes ≡ assembled listing
  pub in_range : AllInRange (limits_within specials names functions body) listing
  pub copies : CopiesAreWhole listing
  pub ends : EndsWithEscape listing
  pub parameters : AllByRecursion (λ (n : NameId). n.0 < names) body.parameters

-- the nodes of a body are in range
listed_in_range : (specials : Bool) (names functions : ℕ) (body : Body)
    → IsListed specials names functions body
    → AllByRecursion (λ (info : NodeInfo). IsInRange (limits_within specials names functions body)
    info.node) body.nodes
listed_in_range specials names functions body listed =
    let limits = limits_within specials names functions body in
    subst (AllByRecursion (λ (info : NodeInfo). IsInRange limits info.node)) (sym listed.nodes)
    (assembled_keeps (IsInRange limits) listed.listing listed.in_range)

-- A body that may stand in a program: its names and functions are among those of the program, and
-- each of its nodes is allowed.
pub record FitsIn (p : Program) (body : Body) : Type 0 where
  pub specials : Bool
  pub names : ℕ
  pub functions : ℕ
  pub listed : IsListed specials names functions body
  pub few_names : names ≤ length p.names
  pub few_functions : functions < length p.functions
  pub allowed : AllByRecursion (λ (info : NodeInfo). IsAllowed p (function_of 0 body) info.node)
      body.nodes

-- the body of a text does
pub text_fits : (p : Program) (names functions : ℕ) (body : Body) → names ≤ length p.names
    → functions < length p.functions → IsListed false names functions body → FitsIn p body
text_fits p names functions body few_names few_functions listed =
    let limits = limits_within false names functions body in
    record {
      specials = false;
      names = names;
      functions = functions;
      listed = listed;
      few_names = few_names;
      few_functions = few_functions;
      allowed =
          all-from (λ (info : NodeInfo). IsInRange limits info.node)
          (λ (info : NodeInfo). IsAllowed p (function_of 0 body) info.node) body.nodes
          (λ info range. texts_allowed p (function_of 0 body) info.node (range.of_texts refl))
          (listed_in_range false names functions body listed);
    }

module _ (p : Program) (first : ℕ) (body : Body) (fits : FitsIn p body) where
  abbrev limits : Limits
  limits = limits_within fits.specials fits.names fits.functions body

  abbrev listed : IsListed fits.specials fits.names fits.functions body
  listed = fits.listed

  nodes_in_range : AllByRecursion (λ (info : NodeInfo). IsInRange limits info.node) body.nodes
  nodes_in_range = listed_in_range fits.specials fits.names fits.functions body listed

  edges : EdgesLeadInside body.nodes
  edges =
      subst EdgesLeadInside (sym listed.nodes)
      (assembled_inside listed.listing listed.ends listed.copies)

  last_is_escape : LastIsEscape body.nodes
  last_is_escape = subst LastIsEscape (sym listed.nodes) (assembled_ends listed.listing listed.ends)

  node_well_formed : (n from : ℕ) (old : NodeInfo) → slice_get body.nodes n ≡ Some old
      → IsNodeWellFormed p (function_of first body) (renumbered from old)
  node_well_formed n from old is =
      let fn = function_of first body in
      let range = all_at (λ (info : NodeInfo). IsInRange limits info.node) body.nodes n old
      nodes_in_range is in
      let registers = registers_each (length body.parameters) body.nodes n old is in
      let set = all_left (IsRegister fn) (option_to_list (register_set old.node))
      (registers_named old.node) registers in
      let named = all_right (IsRegister fn) (option_to_list (register_set old.node))
      (registers_named old.node) registers in
      let inside = edges n old is in
      let count = length-numbered first body.nodes in
      record {
        sets =
            subst (λ o. AllByRecursion (IsDestination fn) (option_to_list o))
            (sym (sets_kept from old.node)) (all-both (IsRegister fn) (IsDestinationWithin limits)
            (IsDestination fn) (option_to_list (register_set old.node))
            (λ r low destination. (low, destination)) set range.sets);
        names_registers =
            subst (AllByRecursion (IsRegister fn)) (sym (named_kept from old.node)) named;
        name =
            subst (λ o. AllByRecursion (IsName p) (option_to_list o))
            (sym (name_kept from old.node)) (all-from (λ (n : NameId). n.0 < fits.names) (IsName p)
            (option_to_list (name_in old.node)) (λ n low. omega (arith, fits.few_names))
            range.name);
        function =
            subst (λ o. AllByRecursion (IsFunction p) (option_to_list o))
            (sym (function_kept from old.node)) (all-from (λ (f : FnId). f.0 ≤ fits.functions)
            (IsFunction p) (option_to_list (function_in old.node))
            (λ f low. omega (arith, fits.few_functions)) range.function);
        allowed =
            allowed_kept p body first from old.node
            (all_at (λ (info : NodeInfo). IsAllowed p (function_of 0 body) info.node) body.nodes n
            old fits.allowed is);
        next = omega (arith, inside.next, count);
        other = omega (arith, inside.other, count);
        handler = omega (arith, inside.handler, count);
      }

  pub function_well_formed : registers_of (length body.parameters) body.nodes ≤ max_registers
      → IsFunctionWellFormed p (function_of first body)
  function_well_formed few =
      let fn = function_of first body in
      let end = last_is_escape in
      let at_end = to-numbered first body.nodes (length body.nodes - 1) end.last end.last_is in
      let place : length (numbered first body.nodes) - 1
      ≡ length body.nodes - 1 = ap (λ n. n - 1) (length-numbered first body.nodes) in
      record {
        last = renumbered at_end.0 end.last;
        last_is = ap (slice_get (numbered first body.nodes)) place ∙ at_end.1;
        escape = escape_kept at_end.0 end.last.node end.escape;
        registers = registers_first (length body.parameters) body.nodes;
        few_registers = few;
        parameters =
            all-from (λ (n : NameId). n.0 < fits.names) (IsName p) body.parameters
            (λ n low. omega (arith, fits.few_names)) listed.parameters;
        each = λ n info is.
            let from = get-numbered first body.nodes n info is in
            subst (IsNodeWellFormed p fn) from.3 (node_well_formed n from.0 from.1 from.2);
      }

-- ---- functions

pub length-functions : (first : ℕ) (bodies : List Body)
    → length (functions_of first bodies) ≡ length bodies
unfolding functions_of
length-functions first [] = refl
length-functions first (body ∷ bodies) =
    ap suc (length-functions (first + sites_in body.nodes) bodies)

-- a function comes from the body with its number
get-functions : (first : ℕ) (bodies : List Body) (f : ℕ) (fn : Function)
    → slice_get (functions_of first bodies) f ≡ Some fn
    → (from : ℕ) × (body : Body) × (slice_get bodies f ≡ Some body) × (function_of from body ≡ fn)
unfolding functions_of
get-functions first [] f fn is = absurd (cc)
get-functions first (body ∷ bodies) zero fn is = let same : function_of first body ≡ fn = cc in
    (first, body, refl, same)
get-functions first (body ∷ bodies) (suc f) fn is =
    get-functions (first + sites_in body.nodes) bodies f fn is

pub functions_well_formed : (p : Program) (first : ℕ) (bodies : List Body)
    → AllByRecursion (FitsIn p) bodies → p.functions ≡ functions_of first bodies
    → (f : ℕ) (fn : Function) → slice_get p.functions f ≡ Some fn → fn.registers ≤ max_registers
    → IsFunctionWellFormed p fn
functions_well_formed p first bodies fit are f fn is few =
    let from = get-functions first bodies f fn (ap (λ fs. slice_get fs f) (sym are) ∙ is) in
    let fits = all_at (FitsIn p) bodies f from.1 fit from.2 in
    let low : registers_of (length from.1.parameters) from.1.nodes
    ≤ max_registers = subst (λ (g : Function). g.registers ≤ max_registers) (sym from.3) few in
    subst (IsFunctionWellFormed p) from.3 (function_well_formed p from.0 from.1 fits low)

-- the functions that the nodes of a body make objects of are those of a program with more functions
pub listed_named : (p : Program) (specials : Bool) (names functions : ℕ) (body : Body)
    → functions < length p.functions → IsListed specials names functions body
    → AllByRecursion (MakesFunctions p) body.nodes
listed_named p specials names functions body some listed =
    all-from (λ (info : NodeInfo). IsInRange (limits_within specials names functions body)
    info.node) (MakesFunctions p) body.nodes
    (λ info range. all-from (λ (f : FnId). f.0 ≤ functions) (IsFunction p)
    (option_to_list (function_in info.node)) (λ f low. omega arith) range.function)
    (listed_in_range specials names functions body listed)

-- the sites of the nodes of a body are its own
pub listed_sited : (specials : Bool) (names functions : ℕ) (body : Body)
    → IsListed specials names functions body → AllByRecursion IsSited body.nodes
listed_sited specials names functions body listed =
    all-from (λ (info : NodeInfo). IsInRange (limits_within specials names functions body)
    info.node) IsSited body.nodes (λ info range. range.sites)
    (listed_in_range specials names functions body listed)

-- ---- bodies by their paths

-- a path changes the name alone
pub path_listed : (specials : Bool) (names functions : ℕ) (path : List ℕ) (body : Body)
    → IsListed specials names functions body → IsListed specials names functions (at_path path body)
path_listed specials names functions path body listed =
    record {
      listing = listed.listing;
      nodes = listed.nodes;
      in_range = listed.in_range;
      copies = listed.copies;
      ends = listed.ends;
      parameters = listed.parameters;
    }

pub paths_listed : (specials : Bool) (names functions : ℕ) (paths : List (List ℕ))
    (bodies : List Body) → AllByRecursion (IsListed specials names functions) bodies
    → AllByRecursion (IsListed specials names functions) (at_paths paths bodies)
paths_listed specials names functions [] bodies each = tt
paths_listed specials names functions (path ∷ paths) [] each = tt
paths_listed specials names functions (path ∷ paths) (body ∷ bodies) each = (
  path_listed specials names functions path body each.0,
  paths_listed specials names functions paths bodies each.1,
)

-- built-in functions fit in a program that allows their nodes
prelude_fits : (p : Program) (names functions : ℕ) (path : List ℕ) (body : Body)
    → names ≤ length p.names → functions < length p.functions → IsListed true names functions body
    → AllByRecursion (λ (info : NodeInfo). (q : Program)
    → IsAllowed q (function_of 0 body) info.node) body.nodes → FitsIn p (at_path path body)
prelude_fits p names functions path body few_names few_functions listed allowed = record {
  specials = true;
  names = names;
  functions = functions;
  listed = path_listed true names functions path body listed;
  few_names = few_names;
  few_functions = few_functions;
  allowed =
      all-from (λ (info : NodeInfo). (q : Program) → IsAllowed q (function_of 0 body) info.node)
      (λ (info : NodeInfo). IsAllowed p (function_of 0 (at_path path body)) info.node) body.nodes
      (λ info any. same_parameters p path body info.node (any p)) allowed;
}
  where
    -- what is allowed is so by the parameters alone
    same_parameters : (p : Program) (path : List ℕ) (body : Body) (n : Node)
        → IsAllowed p (function_of 0 body) n → IsAllowed p (function_of 0 (at_path path body)) n
    same_parameters p path body (node.Call dst callee receiver (args.Registers list) error) h = tt
    same_parameters p path body (node.Call dst callee receiver (args.Elements array) error) h = tt
    same_parameters p path body (node.Call dst callee receiver args.Tail error) h = h
    same_parameters p path body (node.Intrinsic dst which list) h = h
    same_parameters p path body (node.Device dst which) h = h
    same_parameters p path body n h = tt

pub preludes_fit : (p : Program) (names functions : ℕ) (paths : List (List ℕ)) (bodies : List Body)
    → names ≤ length p.names → functions < length p.functions
    → AllByRecursion (IsListed true names functions) bodies → AreAllowed bodies
    → AllByRecursion (FitsIn p) (at_paths paths bodies)
preludes_fit p names functions [] bodies few_names few_functions each allowed = tt
preludes_fit p names functions (path ∷ paths) [] few_names few_functions each allowed = tt
preludes_fit p names functions (path ∷ paths) (body ∷ bodies) few_names few_functions each allowed = (
  prelude_fits p names functions path body few_names few_functions each.0 allowed.0,
  preludes_fit p names functions paths bodies few_names few_functions each.1 allowed.1,
)
