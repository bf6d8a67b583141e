-- The functions of host devices: they are listed as others are, and make nothing.
use Rattle.std.proofs.Common.{◌≡◌, ℕ, suc, ◌+◌, ◌*◌, ◌<◌, ◌≤◌, inr, true, List, [], ◌∷◌, length, map, None, refl, ap, ◌∙◌, arith}
use Rattle.std.specs.List.{AllByRecursion, enumerate_from}
use Rattle.std.proofs.lemmas.List.Sums.{sum_by-cons}
use Rattle.ja_prim.specs.declared.signature.Signature.{Signature}
use Rattle.ja_graph.specs.declared.node.Node.{Node}
use Rattle.ja_graph.specs.declared.node.Node.TheVariants.{Device, Return, Escape}
use Rattle.ja_graph.specs.declared.program.Program.{Program}
use Rattle.ja_graph.specs.Node.{register_set, name_in, function_in, makings, may_throw}
use Rattle.ja_graph.specs.Renaming.{renamed}
use Rattle.ja_lower_listing.specs.declared.item.Item.{Item}
use Rattle.ja_lower_listing.specs.declared.item.Item.TheVariants as item
use Rattle.ja_lower_listing.specs.Listing.{node_count, behind, goes, leads, nodes_from, goes_on}
use Rattle.ja_lower.specs.declared.body.Body.{Body}
use Rattle.ja_lower.specs.Limits.{size_of_body, size_of_bodies}
use Rattle.ja_lower.specs.Lowering.{numbered, sites_in, sites_of_nodes, sites_of, function_of, functions_of, device_register, device_body, device_bodies}
use Rattle.ja_lower.proofs.FunctionLemmas.{IsListed, FitsIn}

-- ---- one function

abbrev line : Node → Item
line node = item.Node node None None (record { line = 0; column = 1 })

abbrev device_listing : ℕ → List Item
device_listing which =
    line (Device device_register which) ∷ line (Return device_register) ∷ line Escape ∷ []

-- it needs no names and no functions
pub device_listed : (which : ℕ) (s : Signature) → IsListed true 0 0 (device_body which s)
unfolding node_count behind goes leads nodes_from goes_on may_throw register_set name_in function_in
    makings
device_listed which s = record {
  listing = device_listing which;
  nodes = refl;
  in_range = (
    record {
      sets = (inr (inr (omega arith)), tt);
      name = tt;
      function = tt;
      of_texts = λ texts. absurd (cc);
      without_functions = λ none. tt;
      sites = refl;
    },
    (
      record {
        sets = tt;
        name = tt;
        function = tt;
        of_texts = λ texts. tt;
        without_functions = λ none. tt;
        sites = refl;
      },
      (
        record {
          sets = tt;
          name = tt;
          function = tt;
          of_texts = λ texts. tt;
          without_functions = λ none. tt;
          sites = refl;
        },
        tt,
      ),
    ),
  );
  copies = (tt, (tt, (tt, tt)));
  ends =
      record {
        front = line (Device device_register which) ∷ line (Return device_register) ∷ [];
        other = None;
        handler = None;
        place = record { line = 0; column = 1 };
        split = refl;
      };
  parameters = tt;
}

-- ---- all of them

abbrev bodies_from : ℕ → List Signature → List Body
bodies_from which signatures =
    map (λ row. device_body row.0 row.1) (enumerate_from which signatures)

listed_from : (which : ℕ) (signatures : List Signature)
    → AllByRecursion (IsListed true 0 0) (bodies_from which signatures)
listed_from which [] = tt
listed_from which (s ∷ signatures) = (device_listed which s, listed_from (which + 1) signatures)

pub devices_listed : (signatures : List Signature)
    → AllByRecursion (IsListed true 0 0) (device_bodies signatures)
unfolding device_bodies
devices_listed signatures = listed_from 0 signatures

-- they fit in a program that has the devices, and a function
fit_from : (p : Program) (which : ℕ) (signatures : List Signature) → 0 < length p.functions
    → which + length signatures ≤ length p.signatures
    → AllByRecursion (FitsIn p) (bodies_from which signatures)
fit_from p which [] some few = tt
fit_from p which (s ∷ signatures) some few = (
  record {
    specials = true;
    names = 0;
    functions = 0;
    listed = device_listed which s;
    few_names = omega arith;
    few_functions = some;
    allowed = (omega (arith, few), (tt, (tt, tt)));
  },
  fit_from p (which + 1) signatures some (omega (arith, few)),
)

pub devices_fit : (p : Program) (signatures : List Signature) → 0 < length p.functions
    → p.signatures ≡ signatures → AllByRecursion (FitsIn p) (device_bodies signatures)
unfolding device_bodies
devices_fit p signatures some same = fit_from p 0 signatures some (omega (arith, ap length same))

counted_from : (which : ℕ) (signatures : List Signature)
    → length (bodies_from which signatures) ≡ length signatures
counted_from which [] = refl
counted_from which (s ∷ signatures) = ap suc (counted_from (which + 1) signatures)

pub length-devices : (signatures : List Signature)
    → length (device_bodies signatures) ≡ length signatures
unfolding device_bodies
length-devices signatures = counted_from 0 signatures

sized_from : (which : ℕ) (signatures : List Signature)
    → size_of_bodies (bodies_from which signatures) ≡ 3 * length signatures
sized_from which [] = refl
sized_from which (s ∷ signatures) =
    omega (
      arith,
      sum_by-cons size_of_body (device_body which s)
          (bodies_from (which + 1) signatures),
      sized_from (which + 1) signatures,
    )

pub size-devices : (signatures : List Signature)
    → size_of_bodies (device_bodies signatures) ≡ 3 * length signatures
unfolding device_bodies
size-devices signatures = sized_from 0 signatures

-- ---- they make nothing

siteless_from : (f which : ℕ) (signatures : List Signature)
    → sites_of f (bodies_from which signatures) ≡ []
unfolding sites_of sites_of_nodes makings
siteless_from f which [] = refl
siteless_from f which (s ∷ signatures) = siteless_from (suc f) (which + 1) signatures

pub devices_siteless : (f : ℕ) (signatures : List Signature)
    → sites_of f (device_bodies signatures) ≡ []
unfolding device_bodies
devices_siteless f signatures = siteless_from f 0 signatures

-- wherever sites are numbered from
alike_from : (first which : ℕ) (signatures : List Signature)
    → functions_of 0 (bodies_from which signatures)
    ≡ functions_of first (bodies_from which signatures)
unfolding functions_of numbered renamed sites_in makings
alike_from first which [] = refl
alike_from first which (s ∷ signatures) =
    let body = device_body which s in
    let rest = bodies_from (which + 1) signatures in
    let here : first ≡ first + sites_in body.nodes = omega arith in
    ap (λ fns. function_of 0 body ∷ fns) (alike_from first (which + 1) signatures)
    ∙ ap (λ n. function_of 0 body ∷ functions_of n rest) here

pub devices_alike : (first : ℕ) (signatures : List Signature)
    → functions_of 0 (device_bodies signatures) ≡ functions_of first (device_bodies signatures)
unfolding device_bodies
devices_alike first signatures = alike_from first 0 signatures
