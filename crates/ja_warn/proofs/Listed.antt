-- The warnings of what is held of a table's operations are those of the table, and their values and
-- names are there.
use Rattle.std.specs.Prelude.{◌≡◌, suc, Bool, true, false, not, ◌&&◌, ◌||◌, cond, IsTrue, List, [], ◌∷◌, map, filter, Some, None, Any, Contains}
use Rattle.std.specs.declared.cmp.Ordering.TheVariants.{Less}
use Rattle.std.specs.BTreeMap.{BTreeMap, is_at as finds, IsOrdered}
use Rattle.std.specs.Cmp.{eq_by_cmp_equiv}
use Rattle.std.specs.List.{AllByRecursion, list_any}
use Rattle.std.specs.List.Sorted.{IsStrictlySortedBy}
use Rattle.std.specs.Map.{keys_of, lookup}
use Rattle.std.specs.Option.{option_map}
use Rattle.std.specs.Ordering.{is_eq}
use Rattle.std.proofs.Common.{refl, sym, ◌∙◌, ap, subst, inl, inr, arith}
use Rattle.std.proofs.lemmas.Bool.{cases_Bool, true≢false, and_parts, and_from, or_left, or_right}
use Rattle.std.proofs.lemmas.List.Elements.{All-contains_itself, recursion_from_All}
use Rattle.std.proofs.lemmas.Map.Keys.{sorted_tail}
use Rattle.std.proofs.lemmas.Map.Views.{btree_map_get_iff}
use Rattle.std.proofs.lemmas.Option.{same_Some}
use Rattle.ja_base.proofs.Lists.{all_weaker, map_after}
use Rattle.ja_base.proofs.Options.{none_not_some}
use Rattle.ja_graph.specs.declared.program.Program.{Program}
use Rattle.ja_machine.proofs.Lists.{all_map}
use Rattle.ja_abstract.specs.AbstractValue.{AbstractValue}
use Rattle.ja_abstract.specs.Order.{LeqValue}
use Rattle.ja_abstract.specs.Reading.{View}
use Rattle.ja_abstract.proofs.Lists.{Member}
use Rattle.ja_rows.specs.declared.table.Warning.{Warning}
use Rattle.ja_rows.specs.Table.{Table}
use Rattle.ja_rows.specs.Warning.{Test, Operation, operation_of, numbers_of, IsBelow, AreOrdered, IsReached, IsWarned, AreWarnings}
use Rattle.ja_value.specs.Value.{value_of}
use Rattle.ja_warn.specs.declared.reached.Told.{Told}
use Rattle.ja_warn.specs.declared.reached.Reached.{Reached}
use Rattle.ja_table.specs.declared.table.ATable.{ATable}
use Rattle.ja_table.specs.Tables.{table_of, Fits}
use Rattle.ja_table.proofs.Ascending.{of_member}
use Rattle.ja_warn.specs.Told.{About, name_at, value_at, warnings_in, IsAbove, IsLeast, IsNamed, IsTold}
use Rattle.ja_warn.specs.code.Faults.{Finding, Spot, spot_of, spot_cmp, is_at, held, finding, found_at, told_by, told_in}
use Rattle.ja_warn.proofs.Held.{spot_exact, spot_total, spot_below, same_operation, at_spot, any_fault, any_more, IsHeld, IsJoined, IsLeastHeld, is_held, is_least_held, held_from_fault}
use Rattle.ja_warn.proofs.ReachedLemmas.{IsFrom, IsKept, IsSaid, all_are_from, all_reached, reached_kept}

-- ---- tests of lists

-- what passes a test, of a list of which something holds
pick : {X : Type 0} (test : X → Bool) (P : X → Type 0) (xs : List X) → AllByRecursion P xs
    → list_any test xs ≡ true → (x : X) × (test x ≡ true) × P x
pick test P [] all some = absurd (cc)
pick test P (x ∷ xs) all some =
    elim (cases_Bool (test x)) [
      | inl e ↦ (x, e, all.0)
      | inr e ↦ pick test P xs all.1 (sym (ap (λ b. b || list_any test xs) e) ∙ some)
    ]

member_passes : {X : Type 0} (test : X → Bool) (x : X) (xs : List X) → Member x xs
    → test x ≡ true → list_any test xs ≡ true
member_passes test x [] m passes = elim m [ ]
member_passes test x (y ∷ ys) (inl e) passes =
    or_left (test y) (list_any test ys) (ap test e ∙ passes)
member_passes test x (y ∷ ys) (inr m) passes =
    or_right (test y) (list_any test ys) (member_passes test x ys m passes)

-- ---- the warnings of entries

abbrev Entry : Type 0
Entry = Spot × Reached

abbrev may_fail : Entry → Bool
may_fail e = e.1.fault

abbrev warning_of : Entry → Warning
warning_of e = e.1.warning

-- those that may go wrong, and their warnings
abbrev failing : List Entry → List Entry
failing es = filter may_fail es

abbrev listed : List Entry → List Warning
listed es = map warning_of (failing es)

abbrev first_and : Bool → Entry → List Entry → List Entry
first_and b e es = cond b (e ∷ failing es) (failing es)

all_failing : (P : Entry → Type 0) (es : List Entry)
    → AllByRecursion (λ (e : Entry). e.1.fault ≡ true → P e) es → AllByRecursion P (failing es)
all_failing P [] h = tt
all_failing P (e ∷ es) h = by e.1.fault refl (all_failing P es h.1)
  where
    by : (b : Bool) → e.1.fault ≡ b → AllByRecursion P (failing es)
        → AllByRecursion P (first_and b e es)
    by true fault behind = (h.0 fault, behind)
    by false none behind = behind

all_listed : (P : Warning → Type 0) (es : List Entry)
    → AllByRecursion (λ (e : Entry). e.1.fault ≡ true → P e.1.warning) es
    → AllByRecursion P (listed es)
all_listed P es h =
    all_map (λ (e : Entry). P e.1.warning) P warning_of (λ e holds. holds) (failing es)
    (all_failing (λ (e : Entry). P e.1.warning) es h)

any_listed : (P : Warning → Type 0) (test : Spot → Bool) (es : List Entry) (q : Finding)
    → option_map finding (lookup test es) ≡ Some q → q.fault ≡ true → P q.warning
    → Any P (listed es)
any_listed P test [] q is fault holds = absurd (none_not_some is)
any_listed P test (e ∷ es) q is fault holds =
    by (test e.0) is (λ at. any_listed P test es q at fault holds)
  where
    behind : (b : Bool) → Any P (listed es) → Any P (map warning_of (first_and b e es))
    behind true h = (suc h.0, h.1, omega (arith, h.2), h.3, h.4)
    behind false h = h

    by : (b : Bool) → option_map finding (cond b (Some e.1) (lookup test es)) ≡ Some q
        → (option_map finding (lookup test es) ≡ Some q → Any P (listed es))
        → Any P (map warning_of (first_and e.1.fault e es))
    by true at rest =
        let same : finding e.1 ≡ q = same_Some (finding e.1) q at in
        subst (λ b. Any P (map warning_of (first_and b e es)))
        (sym (ap (λ (o : Finding). o.fault) same ∙ fault))
        (0, e.1.warning, omega arith, refl, subst (λ (o : Finding). P o.warning) (sym same) holds)
    by false at rest = behind e.1.fault (rest at)

-- ---- their order

-- what is held stands at its numbers
abbrev HasSpot : Entry → Type 0
HasSpot e = spot_of (operation_of e.1.warning) ≡ e.0

sorted_head : (k : Spot) (ks : List Spot) → IsStrictlySortedBy spot_cmp (k ∷ ks)
    → AllByRecursion (λ (j : Spot). spot_cmp k j ≡ Less) ks
unfolding IsStrictlySortedBy
sorted_head k ks h = h.0

all_below : (e : Entry) (es : List Entry) → HasSpot e → AllByRecursion HasSpot es
    → AllByRecursion (λ (j : Spot). spot_cmp e.0 j ≡ Less) (keys_of es)
    → AllByRecursion (λ (d : Entry). d.1.fault ≡ true
    → IsBelow (numbers_of e.1.warning) (numbers_of d.1.warning)) es
all_below e [] here each less = tt
all_below e (d ∷ es) here each less = (
  λ fault. spot_below (spot_of (operation_of e.1.warning)) (spot_of (operation_of d.1.warning))
      (ap (λ s. spot_cmp s (spot_of (operation_of d.1.warning))) here
      ∙ ap (spot_cmp e.0) each.0 ∙ less.0),
  all_below e es here each.1 less.1,
)

ordered_listed : (es : List Entry) → IsStrictlySortedBy spot_cmp (keys_of es)
    → AllByRecursion HasSpot es → AreOrdered (listed es)
ordered_listed [] sorted each = tt
ordered_listed (e ∷ es) sorted each =
    by e.1.fault
    (ordered_listed es (sorted_tail spot_cmp e.0 (keys_of es) sorted) each.1)
  where
    by : (b : Bool) → AreOrdered (listed es) → AreOrdered (map warning_of (first_and b e es))
    by true behind = (
      all_listed (λ (w : Warning). IsBelow (numbers_of e.1.warning) (numbers_of w)) es
          (all_below e es each.0 each.1 (sorted_head e.0 (keys_of es) sorted)),
      behind,
    )
    by false behind = behind

-- ---- what is held is warned

module _ (p : Program) (u : ATable) (fits : Fits p u) where
  abbrev t : Table
  t = table_of u

  abbrev os : List Finding
  os = all_reached p u fits

  module _ (k : Spot) (q : Finding) (h : IsHeld k os q) where
    -- what is at the numbers is of the operation
    same_spot : (o : Finding) → is_at k o ≡ true
        → operation_of o.warning ≡ operation_of q.warning
    same_spot o here =
        same_operation (operation_of o.warning) (operation_of q.warning)
        (at_spot k o here ∙ sym (at_spot k q h.at_spot))

    abbrev fails : Finding → Bool
    fails o = o.fault

    -- an operation at the numbers that passes a test, and which is this one
    record Picked (g : Finding → Bool) : Type 0 where
      operation : Finding
      passes : g operation ≡ true
      from : IsFrom p t operation
      same : operation_of operation.warning ≡ operation_of q.warning

    picked : (g : Finding → Bool) → list_any (λ o. is_at k o && g o) os ≡ true → Picked g
    picked g some =
        let (o, found, from) = pick (λ o. is_at k o && g o) (IsFrom p t) os
        (all_are_from p u fits) some in
        let (here, passes) = and_parts (is_at k o) (g o) found in
        record {
          operation = o;
          passes = passes;
          from = from;
          same = same_spot o here;
        }

    picked_reached : (g : Finding → Bool) (x : Picked g)
        → IsReached p t (operation_of q.warning) x.from.test x.from.view
    picked_reached g x =
        subst (λ (o : Operation). IsReached p t o x.from.test x.from.view) x.same x.from.reached

    -- what is reached of the operation, as it is kept at the numbers
    kept_of : (s : Test) (v : View) (r : IsReached p t (operation_of q.warning) s v)
        → IsKept p u fits (operation_of q.warning) r.context.function r.number r.info s v
    kept_of s v r = reached_kept p u fits (operation_of q.warning) s v r

    kept_here : (s : Test) (v : View) (r : IsReached p t (operation_of q.warning) s v)
        → is_at k (kept_of s v r).kept ≡ true
    kept_here s v r =
        ap (λ (o : Operation). is_eq (spot_cmp (spot_of o) k)) (kept_of s v r).operation_is
        ∙ h.at_spot

    certain_then : IsTrue q.warning.certain → (s : Test) (v : View)
        → IsReached p t (operation_of q.warning) s v → s.more v ≡ false
    certain_then certain s v r =
        let m = kept_of s v r in
        elim (cases_Bool (s.more v)) [
          | inl e ↦
              let some : any_more k os ≡ true =
              member_passes (λ o. is_at k o && not o.warning.certain) m.kept os m.member
              (and_from _ _ (kept_here s v r) (ap not m.certain_is ∙ ap (λ b. not (not b)) e)) in
              absurd (true≢false (sym (h.more_is ∙ some) ∙ ap not certain))
          | inr e ↦ e
        ]

    certain_from : ((s : Test) (v : View) → IsReached p t (operation_of q.warning) s v
        → s.more v ≡ false) → IsTrue q.warning.certain
    certain_from none =
        elim (cases_Bool q.warning.certain) [
          | inl e ↦ e
          | inr e ↦
              let more : Finding → Bool = λ o. not o.warning.certain in
              let x : Picked more = picked more (sym h.more_is ∙ ap not e) in
              let certain : x.operation.warning.certain ≡ true = sym x.from.certain_is
              ∙ ap not (none x.from.test x.from.view (picked_reached more x)) in
              absurd (true≢false (sym x.passes ∙ ap not certain))
        ]

    warned : q.fault ≡ true → IsWarned p t q.warning
    warned fault =
        let x : Picked fails = picked fails (sym h.fault_is ∙ fault) in
        record {
          test = x.from.test;
          view = x.from.view;
          reached = picked_reached fails x;
          fault = x.from.fault_is ∙ x.passes;
          certain = (certain_then, certain_from);
        }

    -- ---- .. and a value that is least is there

    module _ (about : About) (get : Finding → AbstractValue) (said : IsSaid about get)
        (least : IsLeastHeld get k os q) where
      is_above : IsAbove about p t (operation_of q.warning) (get q)
      is_above s v r =
          let m = kept_of s v r in
          subst (λ x. LeqValue x (get q))
          (ap get m.kept_is ∙ said v r.context.function r.number r.info s)
          (of_member (λ o. is_at k o ≡ true → LeqValue (get o) (get q)) os m.kept least.above
          m.member (kept_here s v r))

      -- what is above what is said of an operation is above what is found of it
      finding_below : (o : Finding) (x : AbstractValue) → IsFrom p t o
          → IsAbove about p t (operation_of o.warning) x → LeqValue (get o) x
      finding_below o x from above =
          let r = from.reached in
          subst (λ y. LeqValue y x)
          (sym (ap get from.finding_is
          ∙ said from.view r.context.function r.number r.info from.test))
          (above from.test from.view r)

      is_least : IsLeast about p t (operation_of q.warning) (get q)
      is_least = record {
        above = is_above;
        least = λ x above. least.least x (all_weaker (IsFrom p t)
            (λ o. is_at k o ≡ true → LeqValue (get o) x)
            (λ o from here. finding_below o x from
            (subst (λ y. IsAbove about p t y x) (sym (same_spot o here)) above)) os
            (all_are_from p u fits));
      }

  -- an operation that may go wrong is held
  record IsFound (o : Operation) : Type 0 where
    entry : Finding
    held_is : held (spot_of o) None os ≡ Some entry
    fault : entry.fault ≡ true
    same : operation_of entry.warning ≡ o

  found : (o : Operation) (test : Test) (v : View) → IsReached p t o test v
      → IsTrue (test.fault v) → IsFound o
  found o test v r fault =
      let k : Spot = spot_of o in
      let m : IsKept p u fits o r.context.function r.number r.info test v = reached_kept p u fits o test v r in
      let here : is_at k m.kept ≡ true =
      ap (λ (x : Operation). is_eq (spot_cmp (spot_of x) k)) m.operation_is
      ∙ (eq_by_cmp_equiv spot_total).refl k in
      let some : any_fault k os ≡ true =
      member_passes (λ x. is_at k x && x.fault) m.kept os m.member
      (and_from _ _ here (m.fault_is ∙ fault)) in
      let (q, held_is, wrong) = held_from_fault k os some in
      record {
        entry = q;
        held_is = held_is;
        fault = wrong;
        same = same_operation (operation_of q.warning) o
            (at_spot k q (is_held k os q held_is).at_spot);
      }

  -- what is held of all nodes
  module _ (m : BTreeMap Spot Reached) (sorted : IsOrdered spot_cmp m)
      (are : (k : Spot) → found_at m k ≡ held k None os) where
    abbrev es : List Entry
    es = m.entries

    entry_held : (e : Entry) → Contains es e → held e.0 None os ≡ Some (finding e.1)
    entry_held e here =
        sym (are e.0) ∙ ap (option_map finding)
        ((btree_map_get_iff spot_total spot_exact m sorted e.0 e.1).1 here)

    -- what each entry that is held has, the entries have
    every_held : (P : Entry → Type 0)
        → ((e : Entry) → held e.0 None os ≡ Some (finding e.1) → P e) → AllByRecursion P es
    every_held P has =
        all_weaker (Contains es) P (λ e here. has e (entry_held e here)) es
        (recursion_from_All (Contains es) es (All-contains_itself es))

    each_held : (P : Entry → Type 0) → ((e : Entry) → IsHeld e.0 os (finding e.1) → P e)
        → AllByRecursion P es
    each_held P has = every_held P (λ e is. has e (is_held e.0 os (finding e.1) is))

    -- its warnings are the table's
    are_warnings : AreWarnings p t (listed es)
    are_warnings = record {
      ordered =
          ordered_listed es sorted (each_held HasSpot (λ e h. at_spot e.0 (finding e.1) h.at_spot));
      warned =
          all_listed (IsWarned p t) es
          (each_held (λ (e : Entry). e.1.fault ≡ true → IsWarned p t e.1.warning)
          (λ e h. warned e.0 (finding e.1) h));
      complete = λ o test v r fault.
          let x : IsFound o = found o test v r fault in
          any_listed (λ (w : Warning). operation_of w ≡ o) (finds (spot_cmp (spot_of o))) es
          x.entry (are (spot_of o) ∙ x.held_is) x.fault x.same;
    }

    -- .. and what is told of them has these, and the values there
    pub warnings_told : AreWarnings p t (warnings_in (told_in m))
    warnings_told =
        subst (AreWarnings p t)
        (sym (map_after told_by (λ (x : Told). x.warning) warning_of (λ e. refl) (failing es)))
        are_warnings

    -- what is least of each that is held is there
    module _ (about : About) (get : Finding → AbstractValue) (said : IsSaid about get)
        (joined : IsJoined get) (value : Told → AbstractValue)
        (value_is : (e : Entry) → get (finding e.1) ≡ value (told_by e)) where
      abbrev IsThere : Warning → AbstractValue → Type 0
      IsThere w v = IsLeast about p t (operation_of w) v

      pub least_told : AllByRecursion (λ (x : Told). IsThere x.warning (value x)) (told_in m)
      least_told =
          all_map (λ (e : Entry). IsThere e.1.warning (get (finding e.1)))
          (λ (x : Told). IsThere x.warning (value x)) told_by
          (λ e there. subst (IsThere e.1.warning) (value_is e) there) (failing es)
          (all_failing (λ (e : Entry). IsThere e.1.warning (get (finding e.1))) es
          (every_held
          (λ (e : Entry). e.1.fault ≡ true → IsThere e.1.warning (get (finding e.1)))
          (λ e is fault. is_least e.0 (finding e.1) (is_held e.0 os (finding e.1) is) about get
          said (is_least_held get joined e.0 os (finding e.1) is))))

    pub values_told : AllByRecursion (IsTold p t) (told_in m)
    values_told =
        least_told value_at (λ (o : Finding). o.value) (λ w f n i test. refl) (λ q o. refl)
        (λ (x : Told). value_of x.value) (λ e. refl)

    pub names_told : AllByRecursion (IsNamed p t) (told_in m)
    names_told =
        least_told name_at (λ (o : Finding). o.name) (λ w f n i test. refl) (λ q o. refl)
        (λ (x : Told). value_of x.name) (λ e. refl)
