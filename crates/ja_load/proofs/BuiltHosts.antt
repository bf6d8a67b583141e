-- What a program with devices begins with: its objects, and the names of the devices.
use Rattle.std.proofs.Common.{◌≡◌, ◌+◌, ◌⊎◌, inl, inr, ℕ, zero, suc, Bool, true, false, if◌then◌else◌, List, [], ◌∷◌, ◌++◌, length, map, filter, take, Some, slice_get, refl, sym, ap, ◌∙◌, arith}
use Rattle.std.specs.List.{enumerate_from, fold, list_any}
use Rattle.std.specs.Str.{bytes_eq}
use Rattle.std.proofs.lemmas.List.{length-map}
use Rattle.std.proofs.lemmas.List.Sums.{fold-append}
use Rattle.std.specs.Cmp.Lexicographic.{bytes_decides}
use Rattle.ja_prim.specs.declared.signature.Signature.{Signature}
use Rattle.ja_graph.specs.WellFormed.{builtin_names}
use Rattle.ja_graph.specs.declared.program.ObjectSpec.{ObjectSpec}
use Rattle.ja_lower_names.specs.Names.{with_name}
use Rattle.ja_lower_names.specs.TextOrder.{Named, names_in}
use Rattle.ja_lower_expressions.specs.Specials.{is_name}
use Rattle.ja_lower.specs.Lowering.{device_names, names_of}
use Rattle.ja_prelude.specs.Prelude.{prelude_names, prelude_statements}
use Rattle.ja_prelude.specs.Table.{opening_objects}
use Rattle.ja_prelude.proofs.DistinctLemmas.{names_first, names_follow}
use Rattle.ja_prelude.proofs.ListLemmas.{get-front}
use Rattle.ja_prelude.proofs.TableLemmas.{table-count}
use Rattle.ja_load.specs.Hosts.{device_object, object_with_devices, opening_with}
use Rattle.ja_load.specs.Loading.{names_before}
use Rattle.ja_load.proofs.Places.{append-cases, get-behind, mapped-at, numbered-at, place-of}
use Rattle.ja_syntax.specs.declared.tree.Statement.{Statement}

-- ---- names

-- names keep their places where others are added
kept-name : (names us : List (List ℕ)) (n : ℕ) (t : List ℕ) → slice_get names n ≡ Some t
    → slice_get (fold with_name names us) n ≡ Some t
kept-name names us n t is =
    let follow = names_follow names us in
    ap (λ ns. slice_get ns n) follow.1 ∙ get-front names follow.0 n t is

-- a name that is added has a place
added-name : (names : List (List ℕ)) (t : List ℕ)
    → (n : ℕ) × (slice_get (with_name names t) n ≡ Some t)
added-name names t = at (list_any (bytes_eq t) names) refl
  where
    at : (b : Bool) → list_any (bytes_eq t) names ≡ b
        → (n : ℕ) × (slice_get (if b then names else names ++ t ∷ []) n ≡ Some t)
    at true some =
        let place = place-of (bytes_eq t) names some in
        (place.0, place.2 ∙ ap Some (sym ((bytes_decides t place.1).0 place.3)))
    at false none =
        (length names, get-behind names (t ∷ []) zero (length names) t (omega arith) refl)

-- .. and so has each of several
pub added-names : (names us : List (List ℕ)) (i : ℕ) (t : List ℕ) → slice_get us i ≡ Some t
    → (n : ℕ) × (slice_get (fold with_name names us) n ≡ Some t)
added-names names [] i t is = absurd (cc)
added-names names (u ∷ us) zero t is =
    let place = added-name names u in
    (place.0, kept-name (with_name names u) us place.0 u place.1 ∙ is)
added-names names (u ∷ us) (suc i) t is = added-names (with_name names u) us i t is

-- the name of a device is one of the program's
pub device-named : (signatures : List Signature) (xs : List Statement) (i : ℕ) (t : List ℕ)
    → slice_get (device_names signatures) i ≡ Some t
    → (n : ℕ) × (slice_get (names_of false (names_before signatures) xs) n ≡ Some t)
unfolding names_of
device-named signatures xs i t is =
    let texts = map (λ (n : Named). n.text) (filter (is_name false) (names_in xs)) in
    let before = get-behind prelude_names (device_names signatures) i (length prelude_names + i) t
    refl is in
    let place = added-names [] (names_before signatures) (length prelude_names + i) t before in
    (place.0, kept-name (fold with_name [] (names_before signatures)) texts place.0 t place.1)

-- the names of the built-in objects come first
pub builtin-names-first : (signatures : List Signature) (xs : List Statement)
    → take (length builtin_names) (names_of false (names_before signatures) xs) ≡ builtin_names
unfolding names_of
builtin-names-first signatures xs =
    let built_in = map (λ (n : Named). n.text)
    (filter (is_name true) (names_in prelude_statements)) in
    let texts = map (λ (n : Named). n.text) (filter (is_name false) (names_in xs)) in
    let hosts = device_names signatures in
    let behind : fold with_name (fold with_name [] (names_before signatures)) texts
    ≡ fold with_name (fold with_name [] prelude_names) (hosts ++ texts) =
    ap (λ ns. fold with_name ns texts) (fold-append with_name [] prelude_names hosts)
    ∙ sym (fold-append with_name (fold with_name [] prelude_names) hosts texts) in
    ap (take (length builtin_names)) behind ∙ names_first built_in (hosts ++ texts)

-- ---- objects

module _ (names : List (List ℕ)) (signatures : List Signature) where
  -- a built-in object, with the properties that it has beside devices
  pub record IsBuiltIn (i : ℕ) (o : ObjectSpec) : Type 0 where
    pub object : ObjectSpec
    pub object_is : slice_get opening_objects i ≡ Some object
    pub same : object_with_devices names signatures object ≡ o

  -- the object of a device
  pub record IsDevice (i : ℕ) (o : ObjectSpec) : Type 0 where
    pub which : ℕ
    pub signature : Signature
    pub place : i ≡ 74 + which
    pub signature_is : slice_get signatures which ≡ Some signature
    pub same : device_object which ≡ o

  -- each object is one of these
  pub object-cases : (i : ℕ) (o : ObjectSpec) → slice_get (opening_with names signatures) i ≡ Some o
      → IsBuiltIn i o ⊎ IsDevice i o
  unfolding opening_with
  object-cases i o is =
      at (append-cases (map (object_with_devices names signatures) opening_objects)
      (map (λ row. device_object row.0) (enumerate_from 0 signatures)) i o is)
    where
      at : (slice_get (map (object_with_devices names signatures) opening_objects) i ≡ Some o)
          ⊎ ((k : ℕ) × (i ≡ length (map (object_with_devices names signatures) opening_objects) + k)
          × (slice_get (map (λ (row : ℕ × Signature). device_object row.0)
          (enumerate_from 0 signatures)) k ≡ Some o)) → IsBuiltIn i o ⊎ IsDevice i o
      at (inl first) =
          let found = mapped-at (object_with_devices names signatures) opening_objects i o first in
          inl (record { object = found.0; object_is = found.1; same = found.2 })
      at (inr behind) =
          let found = mapped-at (λ (row : ℕ × Signature). device_object row.0)
          (enumerate_from 0 signatures) behind.0 o behind.2 in
          let row = numbered-at signatures 0 behind.0 found.0 found.1 in
          let number : found.0.0 ≡ behind.0 = omega (arith, row.0) in
          inr (record {
            which = behind.0;
            signature = found.0.1;
            place =
                omega (
                  arith,
                  behind.1,
                  length-map opening_objects
                      (object_with_devices names signatures),
                  table-count,
                );
            signature_is = row.1;
            same = ap device_object (sym number) ∙ found.2;
          })
