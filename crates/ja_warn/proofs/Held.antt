-- What is held of operations at their numbers.
use Rattle.std.specs.Prelude.{◌≡◌, ◌⊎◌, ℕ, zero, suc, ◌+◌, Bool, true, false, not, ◌&&◌, ◌||◌, ◌==◌, if◌then◌else◌, List, [], ◌∷◌, ◌++◌, ◌<◌, length, take, get_or, Option, Some, None}
use Rattle.std.specs.declared.cmp.Ordering.{Ordering}
use Rattle.std.specs.declared.cmp.Ordering.TheVariants.{Less, Equal, Greater}
use Rattle.std.specs.BTreeMap.{BTreeMap, get, Updates}
use Rattle.std.specs.Option.{option_map}
use Rattle.std.specs.Cmp.{IsTotalOrder, then_total, on_total}
use Rattle.std.specs.List.{AllByRecursion, flat_map, list_any, range_with_len}
use Rattle.std.specs.Ordering.{is_eq, nat_cmp, ordering_then}
use Rattle.std.proofs.Common.{refl, sym, ◌∙◌, ap, subst, inl, inr, add-one}
use Rattle.std.proofs.Math.Bool.{or-false, or_assoc}
use Rattle.std.proofs.lemmas.Cmp.{nat_cmp_total}
use Rattle.std.proofs.lemmas.List.{append-nil, take_more}
use Rattle.std.proofs.lemmas.List.Concat.{flat_map-append}
use Rattle.std.proofs.lemmas.List.Sums.{fold-append}
use Rattle.std.proofs.lemmas.Map.Lookups.{CmpEqualImpliesEq, exact_unsigned}
use Rattle.std.proofs.lemmas.Map.Views.{tells_apart}
use Rattle.std.proofs.lemmas.Option.{same_Some}
use Rattle.ja_base.specs.declared.ids.FnId.{FnId}
use Rattle.ja_base.proofs.Options.{none_not_some}
use Rattle.ja_graph.specs.declared.program.Program.{Program}
use Rattle.ja_machine.proofs.Lists.{all_of}
use Rattle.ja_abstract.specs.AbstractValue.{AbstractValue, join}
use Rattle.ja_abstract.specs.Order.{LeqValue}
use Rattle.ja_abstract.proofs.Least.{value-join_right, value_least}
use Rattle.ja_abstract.proofs.Order.{value-join, value_both, value_same}
use Rattle.ja_rows.specs.declared.table.WarningKind.{WarningKind}
use Rattle.ja_rows.specs.declared.table.WarningKind.TheVariants.{NotAFunction, NoObject, UnboundName, ScopeRow}
use Rattle.ja_rows.specs.Warning.{Operation, operation_of, builtin_number, kind_number, IsBelow}
use Rattle.ja_aheap.proofs.MapLemmas.{less_than}
use Rattle.ja_warn.specs.declared.reached.Reached.{Reached}
use Rattle.ja_table.specs.declared.table.ContextTable.{ContextTable}
use Rattle.ja_rules.proofs.NodeFacts.{one_more}
use Rattle.ja_warn.specs.code.Faults.{Finding, Spot, spot_of, spot_cmp, is_at, reached_at, reached_of_context, merged, with_reached, held, finding, found_at}

-- ---- the order of numbers

then_equal : (a b : Ordering) → ordering_then a b ≡ Equal → (a ≡ Equal) × (b ≡ Equal)
then_equal Less b e = absurd (cc)
then_equal Equal b e = (refl, e)
then_equal Greater b e = absurd (cc)

pub then_less : (a b : Ordering) → ordering_then a b ≡ Less
    → (a ≡ Less) ⊎ ((a ≡ Equal) × (b ≡ Less))
then_less Less b e = inl refl
then_less Equal b e = inr (refl, e)
then_less Greater b e = absurd (cc)

-- numbers that the order ties are the same
pub spot_exact : CmpEqualImpliesEq spot_cmp
spot_exact x y e =
    let (first, kind) = then_equal _ (nat_cmp x.3 y.3) e in
    let (front, column) = then_equal _ (nat_cmp x.2 y.2) first in
    let (builtin, line) = then_equal (nat_cmp x.0 y.0) (nat_cmp x.1 y.1) front in
    let builtin_is : x.0 ≡ y.0 = exact_unsigned x.0 y.0 builtin in
    let line_is : x.1 ≡ y.1 = exact_unsigned x.1 y.1 line in
    let column_is : x.2 ≡ y.2 = exact_unsigned x.2 y.2 column in
    let kind_is : x.3 ≡ y.3 = exact_unsigned x.3 y.3 kind in
    λ i. (builtin_is i, line_is i, column_is i, kind_is i)

pub spot_total : IsTotalOrder spot_cmp
spot_total =
    then_total (then_total (then_total (on_total (λ (s : Spot). s.0) nat_cmp_total)
    (on_total (λ (s : Spot). s.1) nat_cmp_total)) (on_total (λ (s : Spot). s.2) nat_cmp_total))
    (on_total (λ (s : Spot). s.3) nat_cmp_total)

-- what comes earlier by the order is below
pub spot_below : (x y : Spot) → spot_cmp x y ≡ Less
    → IsBelow (x.0 ∷ x.1 ∷ x.2 ∷ x.3 ∷ []) (y.0 ∷ y.1 ∷ y.2 ∷ y.3 ∷ [])
spot_below x y e =
    elim (then_less _ (nat_cmp x.3 y.3) e) [
      | inl first ↦ elim (then_less _ (nat_cmp x.2 y.2) first) [
        | inl front ↦ elim (then_less (nat_cmp x.0 y.0) (nat_cmp x.1 y.1) front) [
          | inl builtin ↦ inl (less_than x.0 y.0 builtin)
          | inr line ↦ inr (
            exact_unsigned x.0 y.0 line.0,
            inl (less_than x.1 y.1 line.1),
          )
        ]
        | inr column ↦
            let front = then_equal (nat_cmp x.0 y.0) (nat_cmp x.1 y.1) column.0 in
            inr (
              exact_unsigned x.0 y.0 front.0,
              inr (
                exact_unsigned x.1 y.1 front.1,
                inl (less_than x.2 y.2 column.1),
              ),
            )
      ]
      | inr kind ↦
          let first = then_equal _ (nat_cmp x.2 y.2) kind.0 in
          let front = then_equal (nat_cmp x.0 y.0) (nat_cmp x.1 y.1) first.0 in
          inr (
            exact_unsigned x.0 y.0 front.0,
            inr (
              exact_unsigned x.1 y.1 front.1,
              inr (
                exact_unsigned x.2 y.2 first.1,
                inl (less_than x.3 y.3 kind.1),
              ),
            ),
          )
    ]

-- ---- the operation of its numbers

abbrev kind_at : ℕ → WarningKind
kind_at n =
    if n == 1 then NotAFunction else (if n == 2 then NoObject else (if n == 3 then UnboundName
    else ScopeRow))

kind_back : (k : WarningKind) → kind_at (kind_number k) ≡ k
kind_back NotAFunction = refl
kind_back NoObject = refl
kind_back UnboundName = refl
kind_back ScopeRow = refl

abbrev builtin_at : ℕ → Option FnId
builtin_at zero = None
builtin_at (suc n) = Some (record { 0 = n })

builtin_back : (f : Option FnId) → builtin_at (builtin_number f) ≡ f
builtin_back None = refl
builtin_back (Some f) = ap builtin_at (add-one f.0)

abbrev operation_at : Spot → Operation
operation_at s =
    record {
      kind = kind_at s.3;
      place = record { line = s.1; column = s.2 };
      builtin = builtin_at s.0;
    }

operation_back : (o : Operation) → operation_at (spot_of o) ≡ o
operation_back o =
    λ i. record {
      kind = kind_back o.kind i;
      place = o.place;
      builtin = builtin_back o.builtin i;
    }

-- operations of the same numbers are the same
pub same_operation : (a b : Operation) → spot_of a ≡ spot_of b → a ≡ b
same_operation a b e = sym (operation_back a) ∙ ap operation_at e ∙ operation_back b

-- ---- what is held

-- merging joins this value of findings
abbrev pub IsJoined : (Finding → AbstractValue) → Type 0
IsJoined get = (q o : Finding) → get (merged (Some q) o) ≡ join (get q) (get o)

-- what is found at the numbers has a property
abbrev pub AllAt : Spot → (Finding → Type 0) → List Finding → Type 0
AllAt k P = AllByRecursion (λ o. is_at k o ≡ true → P o)

module _ (k : Spot) where
  -- what is at the numbers has them
  pub at_spot : (o : Finding) → is_at k o ≡ true → spot_of (operation_of o.warning) ≡ k
  at_spot o here = tells_apart spot_exact (spot_of (operation_of o.warning)) k here

  -- what merging takes from both is taken from all that is at the numbers
  one_tells : (f : Option Finding → Bool) (g : Finding → Bool)
      → ((q : Option Finding) (o : Finding) → f (Some (merged q o)) ≡ (f q || g o))
      → (q : Option Finding) (o : Finding) (b : Bool)
      → f (if b then Some (merged q o) else q) ≡ (f q || (b && g o))
  one_tells f g h q o true = h q o
  one_tells f g h q o false = sym (or-false (f q))

  held_tells : (f : Option Finding → Bool) (g : Finding → Bool)
      → ((q : Option Finding) (o : Finding) → f (Some (merged q o)) ≡ (f q || g o))
      → (q : Option Finding) (os : List Finding)
      → f (held k q os) ≡ (f q || list_any (λ o. is_at k o && g o) os)
  held_tells f g h q [] = sym (or-false (f q))
  held_tells f g h q (o ∷ os) =
      let rest : Bool = list_any (λ x. is_at k x && g x) os in
      held_tells f g h (with_reached k q o) os
      ∙ ap (λ b. b || rest) (one_tells f g h q o (is_at k o))
      ∙ or_assoc (f q) (is_at k o && g o) rest

  -- what holds of all at the numbers, and of two merged, holds of what is held
  held_all : (P : Finding → Type 0)
      → ((e o : Finding) → P e → P o → P (merged (Some e) o))
      → (q : Option Finding) (os : List Finding) → ((s : Finding) → q ≡ Some s → P s)
      → AllAt k P os → (r : Finding) → held k q os ≡ Some r → P r
  held_all P both q [] earlier each r is = earlier r is
  held_all P both q (o ∷ os) earlier each r is =
      held_all P both (with_reached k q o) os (by (is_at k o) refl) each.1 r is
    where
      met : (e : Option Finding) → ((s : Finding) → e ≡ Some s → P s) → P o → P (merged e o)
      met None h more = more
      met (Some e) h more = both e o (h e refl) more

      by : (b : Bool) → is_at k o ≡ b → (s : Finding)
          → (if b then Some (merged q o) else q) ≡ Some s → P s
      by true here s e = subst P (same_Some (merged q o) s e) (met q earlier (each.0 here))
      by false apart s e = earlier s e

  -- a value that is held, and that merging joins, has what was held, and what is at the numbers
  module _ (get : Finding → AbstractValue) (joined : IsJoined get) where
    held_before : (q : Finding) (os : List Finding) (r : Finding) → held k (Some q) os ≡ Some r
        → LeqValue (get q) (get r)
    held_before q [] r is =
        subst (λ (s : Finding). LeqValue (get q) (get s)) (same_Some q r is) (value_same (get q))
    held_before q (o ∷ os) r is = by (is_at k o) is (λ s. held_before s os r)
      where
        by : (b : Bool) → held k (if b then Some (merged (Some q) o) else Some q) os ≡ Some r
            → ((s : Finding) → held k (Some s) os ≡ Some r → LeqValue (get s) (get r))
            → LeqValue (get q) (get r)
        by true e behind =
            value_both (get q) (get (merged (Some q) o)) (get r)
            (subst (LeqValue (get q)) (sym (joined q o)) (value-join (get q) (get o)))
            (behind (merged (Some q) o) e)
        by false e behind = behind q e

    merged_above : (q : Option Finding) (o : Finding) → LeqValue (get o) (get (merged q o))
    merged_above None o = value_same (get o)
    merged_above (Some q) o =
        subst (LeqValue (get o)) (sym (joined q o)) (value-join_right (get q) (get o))

    held_above : (q : Option Finding) (os : List Finding) (r : Finding) → held k q os ≡ Some r
        → AllAt k (λ o. LeqValue (get o) (get r)) os
    held_above q [] r is = tt
    held_above q (o ∷ os) r is = (
      λ here. value_both (get o) (get (merged q o)) (get r) (merged_above q o)
          (held_before (merged q o) os r
          (sym (ap (λ b. held k (if b then Some (merged q o) else q) os) here) ∙ is)),
      held_above (with_reached k q o) os r is,
    )

-- one finding more is held
pub held_added : (m n : BTreeMap Spot Reached) (s : Spot) (o : Finding) (now : Reached)
    → s ≡ spot_of (operation_of o.warning) → Updates spot_cmp m n s (Some now)
    → finding now ≡ merged (found_at m s) o
    → (k : Spot) → found_at n k ≡ with_reached k (found_at m k) o
held_added m n s o now s_is updates now_is k =
    ap (option_map finding) (updates.0 k) ∙ by (is_eq (spot_cmp s k)) refl
    ∙ ap (λ x. if is_eq (spot_cmp x k) then Some (merged (found_at m k) o) else found_at m k) s_is
  where
    by : (b : Bool) → is_eq (spot_cmp s k) ≡ b
        → option_map finding (if b then Some now else get spot_cmp m k)
        ≡ (if b then Some (merged (found_at m k) o) else found_at m k)
    by true here =
        ap Some (now_is ∙ ap (λ j. merged (found_at m j) o) (tells_apart spot_exact s k here))
    by false apart = refl

-- .. those of a node more
pub held_next : (p : Program) (c : ContextTable) (k : Spot) (n : ℕ)
    (first before after : Option Finding)
    → before ≡ held k first (flat_map (reached_at p c) (range_with_len 0 n))
    → after ≡ held k before (reached_at p c n)
    → after ≡ held k first (flat_map (reached_at p c) (range_with_len 0 (n + 1)))
held_next p c k n first before after before_is after_is =
    let now : List Finding = flat_map (reached_at p c) (range_with_len 0 n) in
    after_is ∙ ap (λ q. held k q (reached_at p c n)) before_is
    ∙ sym (fold-append (with_reached k) first now (reached_at p c n))
    ∙ ap (held k first) (sym (one_more (reached_at p c) n))

-- .. and those of a context more
pub held_context : (p : Program) (k : Spot) (cs : List ContextTable) (n : ℕ) (c : ContextTable)
    (before after : Option Finding) → n < length cs → c ≡ get_or cs n c
    → before ≡ held k None (flat_map (reached_of_context p) (take n cs))
    → after ≡ held k before (reached_of_context p c)
    → after ≡ held k None (flat_map (reached_of_context p) (take (n + 1) cs))
held_context p k cs n c before after within is before_is after_is =
    let now : List Finding = flat_map (reached_of_context p) (take n cs) in
    after_is ∙ ap (λ q. held k q (reached_of_context p c)) before_is
    ∙ ap (held k (held k None now)) (sym (append-nil (reached_of_context p c)))
    ∙ sym (fold-append (with_reached k) None now (flat_map (reached_of_context p) (c ∷ [])))
    ∙ ap (held k None) (sym (flat_map-append (reached_of_context p) (take n cs) (c ∷ []))
    ∙ ap (flat_map (reached_of_context p)) (ap (λ d. take n cs ++ d ∷ []) is
    ∙ sym (take_more cs n c within)))

-- whether it may go wrong, and whether anything else may happen
abbrev has_fault : Option Finding → Bool
has_fault None = false
has_fault (Some o) = o.fault

abbrev has_more : Option Finding → Bool
has_more None = false
has_more (Some o) = not o.warning.certain

fault_merged : (q : Option Finding) (o : Finding)
    → has_fault (Some (merged q o)) ≡ (has_fault q || o.fault)
fault_merged None o = refl
fault_merged (Some q) o = refl

not_both : (a b : Bool) → not (a && b) ≡ (not a || not b)
not_both true b = refl
not_both false b = refl

more_merged : (q : Option Finding) (o : Finding)
    → has_more (Some (merged q o)) ≡ (has_more q || not o.warning.certain)
more_merged None o = refl
more_merged (Some q) o = not_both q.warning.certain o.warning.certain

-- the operations at the numbers that may go wrong, and those that allow anything else
abbrev pub any_fault : Spot → List Finding → Bool
any_fault k os = list_any (λ o. is_at k o && o.fault) os

abbrev pub any_more : Spot → List Finding → Bool
any_more k os = list_any (λ o. is_at k o && not o.warning.certain) os

-- a value of what is held at numbers is the least that is above those of what is found there
pub record IsLeastHeld (get : Finding → AbstractValue) (k : Spot) (os : List Finding)
    (q : Finding) : Type 0 where
  pub above : AllAt k (λ o. LeqValue (get o) (get q)) os
  pub least : (u : AbstractValue) → AllAt k (λ o. LeqValue (get o) u) os → LeqValue (get q) u

none_held : (P : Finding → Type 0) (s : Finding) → None ≡ Some s → P s
none_held P s e = absurd (none_not_some e)

pub is_least_held : (get : Finding → AbstractValue) → IsJoined get → (k : Spot)
    (os : List Finding) (q : Finding) → held k None os ≡ Some q → IsLeastHeld get k os q
is_least_held get joined k os q is = record {
  above = held_above k get joined None os q is;
  least = λ u each.
      held_all k (λ (o : Finding). LeqValue (get o) u)
      (λ e o earlier more. subst (λ x. LeqValue x u) (sym (joined e o))
      (value_least (get e) (get o) u earlier more)) None os
      (none_held _) each q is;
}

-- what is held at numbers has them, may go wrong where one of them may, and does so certainly where
-- none allows anything else
pub record IsHeld (k : Spot) (os : List Finding) (q : Finding) : Type 0 where
  pub at_spot : is_at k q ≡ true
  pub fault_is : q.fault ≡ any_fault k os
  pub more_is : not q.warning.certain ≡ any_more k os

pub is_held : (k : Spot) (os : List Finding) (q : Finding) → held k None os ≡ Some q
    → IsHeld k os q
is_held k os q is = record {
  at_spot =
      held_all k (λ o. is_at k o ≡ true) (λ e o earlier here. here) None os (none_held _)
      (all_of (λ o. is_at k o ≡ true → is_at k o ≡ true) (λ o here. here) os) q is;
  fault_is =
      ap has_fault (sym is)
      ∙ held_tells k has_fault (λ (o : Finding). o.fault) fault_merged None os;
  more_is =
      ap has_more (sym is)
      ∙ held_tells k has_more (λ (o : Finding). not o.warning.certain) more_merged None os;
}

-- something is held where an operation at the numbers may go wrong
pub held_from_fault : (k : Spot) (os : List Finding) → any_fault k os ≡ true
    → (q : Finding) × (held k None os ≡ Some q) × (q.fault ≡ true)
held_from_fault k os some =
    found (held k None os) refl (held_tells k has_fault (λ (o : Finding). o.fault) fault_merged
    None os ∙ some)
  where
    found : (q : Option Finding) → held k None os ≡ q → has_fault q ≡ true
        → (r : Finding) × (held k None os ≡ Some r) × (r.fault ≡ true)
    found None is fault = absurd (cc)
    found (Some q) is fault = (q, is, fault)
