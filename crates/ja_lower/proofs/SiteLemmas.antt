-- What a program tells of the sites of nodes, and how many sites and nodes there are.
use Rattle.std.proofs.Common.{◌≡◌, ℕ, suc, ◌+◌, ◌*◌, ◌<◌, ◌≤◌, List, [], ◌∷◌, ◌++◌, length, map, Some, refl, sym, ap, ◌∙◌, subst, append_assoc, arith, length-append}
use Rattle.std.specs.Prelude.{◌||◌, IsTrue, is_some}
use Rattle.std.specs.List.{AllByRecursion, slice_get, range_with_len, sum_by}
use Rattle.std.specs.Option.{option_to_list}
use Rattle.std.proofs.lemmas.List.{length-map}
use Rattle.std.proofs.lemmas.List.Sums.{sum_by-cons}
use Rattle.ja_base.proofs.Lists.{all_append}
use Rattle.ja_graph.specs.declared.node.Node.{Node}
use Rattle.ja_graph.specs.declared.node.NodeInfo.{NodeInfo}
use Rattle.ja_graph.specs.declared.program.Class.{Class}
use Rattle.ja_graph.specs.declared.program.Class.TheVariants as class
use Rattle.ja_graph.specs.declared.program.Program.{Program}
use Rattle.ja_graph.specs.declared.program.SiteInfo.{SiteInfo}
use Rattle.ja_graph.specs.Node.{Making, function_in, makings}
use Rattle.ja_graph.specs.Renaming.{renamed}
use Rattle.ja_graph.specs.WellFormed.{IsFunction, owned, makings_of, makings_from, IsSiteTold, NamesFunctions, node_count}
use Rattle.ja_lower.specs.declared.body.Body.{Body}
use Rattle.ja_lower.specs.Limits.{size_of_body}
use Rattle.ja_lower.specs.Lowering.{shifting, site_count, numbered, sites_in, functions_of, run_by, site_of, sites_of_nodes, sites_of}
use Rattle.ja_lower.proofs.NumberingLemmas.{shifted, makings_shifted, few_makings, IsSited, AreSited, sites_in-nil, sites_in-cons, count_of_nodes}

-- ---- each site is told

get-middle : (xs ys : List SiteInfo) (y : SiteInfo) (n : ℕ) → length xs ≡ n
    → slice_get (xs ++ y ∷ ys) n ≡ Some y
get-middle [] ys y n count = let here : n ≡ 0 = omega arith in rw here refl
get-middle (x ∷ xs) ys y n count =
    let here : n ≡ suc (length xs) = omega arith in
    rw here (get-middle xs ys y (length xs) refl)

-- a site has functions only where a function object is made
run_by_functions : (n : Node) (c : Class) → IsTrue (is_some (run_by n c) || is_some (run_by n c))
    → c ≡ class.Function
run_by_functions n class.Function runs = refl
run_by_functions n other runs = absurd (cc)

-- makings of a node, whose sites are numbered from k on and stand behind as many others as first
-- and k say
told_makings : (p : Program) (f first k : ℕ) (info : NodeInfo) (front back : List SiteInfo)
    (ms : List Making) → p.sites ≡ front ++ (map (site_of f info) ms ++ back)
    → length front ≡ first + k → map (λ (m : Making). m.site.0) ms ≡ range_with_len k (length ms)
    → AllByRecursion (IsSiteTold p) (map (owned f) (map (shifted first) ms))
told_makings p f first k info front back [] sites count sited = tt
told_makings p f first k info front back (m ∷ ms) sites count sited =
    let number : m.site.0 ≡ k = cc in
    let others : map (λ (m : Making). m.site.0) ms ≡ range_with_len (k + 1) (length ms) = cc in
    let one = site_of f info m in
    let rest = map (site_of f info) ms ++ back in
    let place : length front ≡ first + m.site.0 = omega arith in
    let here : slice_get p.sites (first + m.site.0)
    ≡ Some one = ap (λ xs. slice_get xs (first + m.site.0)) sites
    ∙ get-middle front rest one (first + m.site.0) place in
    let more : p.sites ≡ (front ++ one ∷ []) ++ rest = sites
    ∙ sym (append_assoc front (one ∷ []) rest) in (
      record {
        info = one;
        info_is = here;
        class = refl;
        owner = refl;
        runs = run_by_functions info.node m.class;
      },
      told_makings p f first (k + 1) info (front ++ one ∷ []) back ms more
          (omega (arith, length-append front (one ∷ []))) others,
    )

told_node : (p : Program) (f first : ℕ) (info : NodeInfo) (front back : List SiteInfo)
    → p.sites ≡ front ++ (map (site_of f info) (makings info.node) ++ back) → length front ≡ first
    → IsSited info → AllByRecursion (IsSiteTold p)
    (map (owned f) (makings (renamed (shifting first) info.node)))
told_node p f first info front back sites count sited =
    subst (λ ms. AllByRecursion (IsSiteTold p) (map (owned f) ms))
    (sym (makings_shifted first info.node))
    (told_makings p f first 0 info front back (makings info.node) sites (omega arith) sited)

told_nodes : (p : Program) (f first : ℕ) (infos : List NodeInfo) (front back : List SiteInfo)
    → p.sites ≡ front ++ (sites_of_nodes f infos ++ back) → length front ≡ first
    → AllByRecursion IsSited infos → AllByRecursion (IsSiteTold p)
    (makings_of f (numbered first infos))
unfolding numbered sites_of_nodes
told_nodes p f first [] front back sites count sited = tt
told_nodes p f first (info ∷ infos) front back sites count sited =
    let here = map (site_of f info) (makings info.node) in
    let rest = sites_of_nodes f infos in
    let split : p.sites ≡ front ++ (here ++ (rest ++ back)) = sites
    ∙ ap (λ xs. front ++ xs) (append_assoc here rest back) in
    let behind : p.sites ≡ (front ++ here) ++ (rest ++ back) = split
    ∙ sym (append_assoc front here (rest ++ back)) in
    let now : length (front ++ here) ≡ first
    + site_count info.node = omega (
      arith,
      length-append front here,
      length-map (makings info.node) (site_of f info),
    ) in
    all_append (IsSiteTold p) (map (owned f) (makings (renamed (shifting first) info.node)))
    (makings_of f (numbered (first + site_count info.node) infos))
    (told_node p f first info front (rest ++ back) split count sited.0)
    (told_nodes p f (first + site_count info.node) infos (front ++ here) back behind now
    sited.1)

pub told_bodies : (p : Program) (f first : ℕ) (bodies : List Body) (front : List SiteInfo)
    → p.sites ≡ front ++ sites_of f bodies → length front ≡ first → AreSited bodies
    → AllByRecursion (IsSiteTold p) (makings_from f (functions_of first bodies))
unfolding functions_of sites_of
told_bodies p f first [] front sites count sited = tt
told_bodies p f first (body ∷ bodies) front sites count sited =
    let here = sites_of_nodes f body.nodes in
    let rest = sites_of (suc f) bodies in
    let behind : p.sites ≡ (front ++ here) ++ rest = sites ∙ sym (append_assoc front here rest) in
    let now : length (front ++ here) ≡ first
    + sites_in body.nodes = omega (
      arith,
      length-append front here,
      count_of_nodes f body.nodes,
    ) in
    all_append (IsSiteTold p) (makings_of f (numbered first body.nodes))
    (makings_from (suc f) (functions_of (first + sites_in body.nodes) bodies))
    (told_nodes p f first body.nodes front rest sites count sited.0)
    (told_bodies p (suc f) (first + sites_in body.nodes) bodies (front ++ here) behind now
    sited.1)

-- ---- each function that is told of a site is one of the program

-- the function that a node makes an object of, if there is one, is one of the program
abbrev pub MakesFunctions : Program → NodeInfo → Type 0
MakesFunctions p info = AllByRecursion (IsFunction p) (option_to_list (function_in info.node))

run_named : (p : Program) (info : NodeInfo) (c : Class) → MakesFunctions p info
    → AllByRecursion (IsFunction p) (option_to_list (run_by info.node c))
run_named p info class.Function named = named
run_named p info other named = tt

named_makings : (p : Program) (f : ℕ) (info : NodeInfo) (ms : List Making) → f < length p.functions
    → MakesFunctions p info → AllByRecursion (NamesFunctions p) (map (site_of f info) ms)
named_makings p f info [] low named = tt
named_makings p f info (m ∷ ms) low named = (
  record {
    owner = (low, tt);
    calls = run_named p info m.class named;
    constructs = run_named p info m.class named;
  },
  named_makings p f info ms low named,
)

named_nodes : (p : Program) (f : ℕ) (infos : List NodeInfo) → f < length p.functions
    → AllByRecursion (MakesFunctions p) infos
    → AllByRecursion (NamesFunctions p) (sites_of_nodes f infos)
unfolding sites_of_nodes
named_nodes p f [] low named = tt
named_nodes p f (info ∷ infos) low named =
    all_append (NamesFunctions p) (map (site_of f info) (makings info.node))
    (sites_of_nodes f infos) (named_makings p f info (makings info.node) low named.0)
    (named_nodes p f infos low named.1)

pub named_bodies : (p : Program) (f : ℕ) (bodies : List Body)
    → f + length bodies ≤ length p.functions
    → AllByRecursion (λ (body : Body). AllByRecursion (MakesFunctions p) body.nodes) bodies
    → AllByRecursion (NamesFunctions p) (sites_of f bodies)
unfolding sites_of
named_bodies p f [] low named = tt
named_bodies p f (body ∷ bodies) low named =
    all_append (NamesFunctions p) (sites_of_nodes f body.nodes) (sites_of (suc f) bodies)
    (named_nodes p f body.nodes (omega (arith, low)) named.0)
    (named_bodies p (suc f) bodies (omega (arith, low)) named.1)

-- ---- how many

pub length-numbered : (first : ℕ) (infos : List NodeInfo)
    → length (numbered first infos) ≡ length infos
unfolding numbered
length-numbered first [] = refl
length-numbered first (info ∷ infos) = ap suc (length-numbered (first + site_count info.node) infos)

few_sites_in : (infos : List NodeInfo) → sites_in infos ≤ 4 * length infos
few_sites_in [] = omega (arith, sites_in-nil)
few_sites_in (info ∷ infos) =
    omega (arith, sites_in-cons info infos, few_makings info.node, few_sites_in infos)

pub few_sites : (f first : ℕ) (bodies : List Body)
    → length (sites_of f bodies) ≤ 4 * node_count (functions_of first bodies)
unfolding functions_of sites_of
few_sites f first [] = omega arith
few_sites f first (body ∷ bodies) =
    omega (
      arith,
      length-append (sites_of_nodes f body.nodes) (sites_of (suc f) bodies),
      count_of_nodes f body.nodes,
      few_sites_in body.nodes,
      length-numbered first body.nodes,
      few_sites (suc f) (first + sites_in body.nodes) bodies,
    )

pub few_nodes : (first : ℕ) (bodies : List Body)
    → node_count (functions_of first bodies) ≤ sum_by size_of_body bodies
unfolding functions_of
few_nodes first [] = omega arith
few_nodes first (body ∷ bodies) =
    omega (
      arith,
      sum_by-cons size_of_body body bodies,
      length-numbered first body.nodes,
      few_nodes (first + sites_in body.nodes) bodies,
    )
