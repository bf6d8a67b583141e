-- The names of devices by their numbers.
use Rattle.std.proofs.Common.{◌≡◌, ℕ, ◌+◌, ◌==◌, not, ◌||◌, if◌then◌else◌, List, [], ◌∷◌, ◌++◌, map, filter, refl, ap, ◌∙◌}
use Rattle.std.specs.List.{enumerate_from, list_any}
use Rattle.ja_base.specs.declared.ids.NameId.{NameId}
use Rattle.ja_graph.specs.declared.builtins.TheConstants.{GLOBAL}
use Rattle.ja_graph.specs.declared.program.ObjectSpec.{ObjectSpec}
use Rattle.ja_graph.specs.declared.program.PropertySpec.{PropertySpec}
use Rattle.ja_load.specs.Hosts.{is_of_device, object_with_devices, properties_with, property_named}
use Rattle.ja_lower_names.specs.Names.{number}
use Rattle.ja_prim.specs.declared.signature.Signature.{Signature}

any_of : {X : Type 0} (f : X → NameId) (t : ℕ) (xs : List X)
    → list_any (λ (n : NameId). n.0 == t) (map f xs) ≡ list_any (λ x. (f x).0 == t) xs
any_of f t [] = refl
any_of f t (x ∷ xs) = ap (λ b. ((f x).0 == t) || b) (any_of f t xs)

rows_of : {X Y : Type 0} (f : X → NameId) (g : NameId → ℕ → Y) (first : ℕ) (xs : List X)
    → map (λ row. g row.1 row.0) (enumerate_from first (map f xs))
    ≡ map (λ row. g (f row.1) row.0) (enumerate_from first xs)
rows_of f g first [] = refl
rows_of f g first (x ∷ xs) = ap (λ ys. g (f x) first ∷ ys) (rows_of f g (first + 1) xs)

-- the properties with devices, by the numbers of their names
abbrev by_numbers : List NameId → List PropertySpec → List PropertySpec
by_numbers numbers qs =
    filter (λ (q : PropertySpec). not (list_any (λ (n : NameId). n.0 == q.name.0) numbers)) qs
    ++ map (λ row. property_named row.1 row.0) (enumerate_from 0 numbers)

properties_by_numbers : (names : List (List ℕ)) (signatures : List Signature)
    (qs : List PropertySpec) → by_numbers (map (λ (s : Signature). number names s.name) signatures)
    qs ≡ properties_with names signatures qs
properties_by_numbers names signatures qs =
    let same : (q : PropertySpec) → not (list_any (λ (n : NameId). n.0 == q.name.0)
    (map (λ (s : Signature). number names s.name) signatures))
    ≡ not (is_of_device names signatures q.name) = λ q.
    ap not (any_of (λ (s : Signature). number names s.name) q.name.0 signatures) in
    let left : filter (λ (q : PropertySpec).
    not (list_any (λ (n : NameId). n.0 == q.name.0)
    (map (λ (s : Signature). number names s.name) signatures))) qs
    ≡ filter (λ (q : PropertySpec). not (is_of_device names signatures q.name)) qs = λ i.
    filter (λ q. same q i) qs in
    ap (λ ps. ps ++ map (λ row. property_named row.1 row.0)
    (enumerate_from 0 (map (λ (s : Signature). number names s.name) signatures))) left
    ∙ ap (λ ps. filter (λ (q : PropertySpec). not (is_of_device names signatures q.name)) qs ++ ps)
    (rows_of (λ (s : Signature). number names s.name) property_named 0 signatures)

-- a built-in object with devices, by the numbers of their names
pub object_by_numbers : (names : List (List ℕ)) (signatures : List Signature)
    (numbers : List NameId) (o : ObjectSpec)
    → numbers ≡ map (λ (s : Signature). number names s.name) signatures
    → (if o.site.0 == GLOBAL.0 then record o { properties = by_numbers numbers o.properties }
    else o) ≡ object_with_devices names signatures o
object_by_numbers names signatures numbers o is =
    let same : by_numbers numbers o.properties
    ≡ properties_with names signatures o.properties = ap (λ ns. by_numbers ns o.properties) is
    ∙ properties_by_numbers names signatures o.properties in
    ap (λ qs. if o.site.0 == GLOBAL.0 then record o { properties = qs } else o) same
