-- What a set holds that is collected from a list.
use Rattle.std.specs.Prelude.{◌≡◌, Contains, List, [], ◌∷◌, map, Option, Some, None}
use Rattle.std.specs.declared.cmp.Ordering.{Ordering}
use Rattle.std.specs.BTreeSet.{BTreeSet, IsFromIterResult}
use Rattle.std.specs.Cmp.{IsTotalOrder}
use Rattle.std.specs.List.{cons_option, filter_map}
use Rattle.std.specs.List.Sorted.{IsStrictlySortedBy}
use Rattle.std.proofs.Common.{zero, suc, refl, ◌∙◌, ap, arith}
use Rattle.std.proofs.lemmas.Map.Lookups.{CmpEqualImpliesEq}
use Rattle.std.proofs.lemmas.Map.Views.{btree_set_contains_from_list, btree_set_contains_iff}
use Rattle.std.proofs.lemmas.Option.{same_Some}
use Rattle.ja_base.proofs.Options.{none_not_some}

-- ---- elements of lists

pub contains_head : {X : Type 0} (x : X) (xs : List X) → Contains (x ∷ xs) x
contains_head x xs = (0, omega arith, refl)

pub contains_behind : {X : Type 0} (y x : X) (xs : List X) → Contains xs x → Contains (y ∷ xs) x
contains_behind y x xs (k, within, is) = (suc k, omega (arith, within), is)

pub contains_map : {X Y : Type 0} (f : X → Y) (x : X) (xs : List X) → Contains xs x
    → Contains (map f xs) (f x)
contains_map f x [] (k, within, is) = absurd (omega (arith, within))
contains_map f x (y ∷ xs) (zero, within, is) = (0, omega arith, ap f is)
contains_map f x (y ∷ xs) (suc k, within, is) =
    contains_behind (f y) (f x) (map f xs) (contains_map f x xs (k, omega (arith, within), is))

-- ---- what is given of some elements

module _ {D K : Type 0} (give : D → Option K) where
  abbrev IsGiven : List D → K → Type 0
  IsGiven ds k = (d : D) × Contains ds d × (give d ≡ Some k)

  -- what is listed is given of one
  listed_from : (ds : List D) (k : K) → Contains (filter_map give ds) k → IsGiven ds k
  listed_from [] k (n, within, is) = absurd (omega (arith, within))
  listed_from (d ∷ ds) k here = by (give d) refl (λ rest. listed_from ds k rest) here
    where
      behind : IsGiven ds k → IsGiven (d ∷ ds) k
      behind (e, among, gives) = (e, contains_behind d e ds among, gives)

      by : (o : Option K) → give d ≡ o → (Contains (filter_map give ds) k → IsGiven ds k)
          → Contains (cons_option o (filter_map give ds)) k → IsGiven (d ∷ ds) k
      by None is later rest = behind (later rest)
      by (Some j) is later (zero, within, same) = (d, contains_head d ds, is ∙ ap Some same)
      by (Some j) is later (suc n, within, same) = behind (later (n, omega (arith, within), same))

  -- .. and what is given of one is listed
  listed : (ds : List D) (d : D) (k : K) → Contains ds d → give d ≡ Some k
      → Contains (filter_map give ds) k
  listed [] d k (n, within, is) gives = absurd (omega (arith, within))
  listed (e ∷ ds) d k (zero, within, is) gives = first (give e) (ap give is ∙ gives)
    where
      first : (o : Option K) → o ≡ Some k → Contains (cons_option o (filter_map give ds)) k
      first None e = absurd (none_not_some e)
      first (Some j) e = (0, omega arith, same_Some j k e)
  listed (e ∷ ds) d k (suc n, within, is) gives =
      later (give e) (listed ds d k (n, omega (arith, within), is) gives)
    where
      later : (o : Option K) → Contains (filter_map give ds) k
          → Contains (cons_option o (filter_map give ds)) k
      later None rest = rest
      later (Some j) rest = contains_behind j k (filter_map give ds) rest

  module _ {cmp : K → K → Ordering} (total : IsTotalOrder cmp) (exact : CmpEqualImpliesEq cmp)
      (ds : List D) (set : BTreeSet K) (is : IsFromIterResult cmp (filter_map give ds) set) where
    -- each key of the set is given of one
    pub given : (k : K) → Contains set.keys k → (d : D) × Contains ds d × (give d ≡ Some k)
    given k here =
        listed_from ds k ((btree_set_contains_from_list total exact (filter_map give ds) set is k).0
        ((btree_set_contains_iff total exact set k).1 here))

    -- .. and what is given of one is a key
    pub held : (d : D) (k : K) → Contains ds d → give d ≡ Some k → Contains set.keys k
    held d k here gives =
        (btree_set_contains_iff total exact set k).0
        ((btree_set_contains_from_list total exact (filter_map give ds) set is k).1
        (listed ds d k here gives))

    -- the keys are in order
    pub in_order : IsStrictlySortedBy cmp set.keys
    in_order = is.1
