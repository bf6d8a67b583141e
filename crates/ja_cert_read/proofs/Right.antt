-- Where no member of a list is wrong, each of them is as it should be, and they are in order.
use Rattle.std.proofs.Common.{◌≡◌, ◌-◌, ℕ, true, List, [], ◌∷◌, ◌++◌, map, length, Option, Some, None, refl, ap, sym, ◌∙◌, arith}
use Rattle.std.specs.Prelude.{slice_get}
use Rattle.std.specs.List.{AllByRecursion}
use Rattle.std.specs.Option.{option_map}
use Rattle.std.proofs.lemmas.List.{length-append}
use Rattle.serde_json.specs.Data.{Data}
use Rattle.ja_base.proofs.Lists.{all_weaker}
use Rattle.ja_table.proofs.Ascending.{Ascends}
use Rattle.ja_cert.specs.Wrong.{MemberWrong, is_above, is_behind, is_less, members_wrong}
use Rattle.ja_cert_read.proofs.Below.{IsBelow, below_from_test, below_through}
use Rattle.ja_cert_read.proofs.Orders.{members_parts}

-- ---- the last of a list

place_behind : {X : Type 0} (xs : List X) (x : X) → slice_get (xs ++ x ∷ []) (length xs) ≡ Some x
place_behind [] x = refl
place_behind (y ∷ ys) x = place_behind ys x

pub last_is : {X : Type 0} (xs : List X) (x : X)
    → slice_get (xs ++ x ∷ []) (length (xs ++ x ∷ []) - 1) ≡ Some x
last_is xs x =
    let long : length (xs ++ x ∷ []) - 1 ≡ length xs = omega (arith, length-append xs (x ∷ [])) in
    ap (slice_get (xs ++ x ∷ [])) long ∙ place_behind xs x

-- ---- members

module _ {X : Type 0} (wrong : MemberWrong) (number : Data → List ℕ) (data_of : X → Data)
    (Holds : X → Type 0) (rank : X → List ℕ)
    (each : (before : List Data) (x : X) → wrong before (data_of x) ≡ None
    → Holds x × (is_above number before (data_of x) ≡ true))
    (numbered : (x : X) → Holds x → number (data_of x) ≡ rank x) where
  abbrev pub Precedes : X → X → Type 0
  Precedes x y = IsBelow (rank x) (rank y)

  precedes : (bs : List Data) (x y : X) → Holds x → Holds y
      → is_above number (bs ++ data_of x ∷ []) (data_of y) ≡ true → Precedes x y
  precedes bs x y h k above =
      below_from_test (rank x) (rank y)
      (sym (λ i. is_less (numbered x h i) (numbered y k i))
      ∙ sym (ap (λ (o : Option Data). is_behind (option_map number o) (number (data_of y)))
      (last_is bs (data_of x))) ∙ above)

  behind : (bs : List Data) (x : X) → Holds x → (xs : List X)
      → members_wrong wrong (bs ++ data_of x ∷ []) (map data_of xs) ≡ None
      → AllByRecursion Holds xs × AllByRecursion (Precedes x) xs × Ascends Precedes xs
  behind bs x h [] none = (tt, tt, tt)
  behind bs x h (y ∷ ys) none =
      let seen : List Data = bs ++ data_of x ∷ [] in
      let parts = members_parts wrong seen (data_of y) (map data_of ys) none in
      let right = each seen y parts.0 in
      let later = behind seen y right.0 ys parts.1 in
      let first : Precedes x y = precedes bs x y h right.0 right.1 in (
        (right.0, later.0),
        (
          first,
          all_weaker (Precedes y) (Precedes x) (λ z k.
              below_through (rank x) (rank y) (rank z) first k) ys later.1,
        ),
        (later.1, later.2),
      )

  pub right_members : (xs : List X) → members_wrong wrong [] (map data_of xs) ≡ None
      → AllByRecursion Holds xs × Ascends Precedes xs
  right_members [] none = (tt, tt)
  right_members (x ∷ xs) none =
      let parts = members_parts wrong [] (data_of x) (map data_of xs) none in
      let right = each [] x parts.0 in
      let later = behind [] x right.0 xs parts.1 in
      ((right.0, later.0), (later.1, later.2))
