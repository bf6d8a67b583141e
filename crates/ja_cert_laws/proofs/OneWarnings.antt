-- A table has one list of warnings, and programs that differ in their text alone have the same one.
use Rattle.std.proofs.Common.{◌≡◌, ℕ, Bool, true, false, List, [], ◌∷◌, refl, sym, ap, subst, ◌∙◌, inl, inr, arith}
use Rattle.std.specs.Prelude.{zero, suc, Contains, IsTrue, String}
use Rattle.std.specs.declared.alloc.Global.{Global}
use Rattle.std.specs.List.{AllByRecursion}
use Rattle.ja_base.proofs.Lists.{all_weaker}
use Rattle.ja_graph.specs.declared.node.Node.{Node}
use Rattle.ja_graph.specs.declared.node.Node.TheVariants as node
use Rattle.ja_graph.specs.declared.program.Program.{Program}
use Rattle.ja_abstract.specs.Lists.{Member}
use Rattle.ja_abstract.specs.Reading.{View}
use Rattle.ja_rows.specs.declared.table.Warning.{Warning}
use Rattle.ja_rows.specs.Table.{Table, view_at}
use Rattle.ja_rows.specs.Warning.{Operation, Test, numbers_of, operation_of, tests, AreOrdered, AreWarnings, IsBelow, IsReached, IsWarned}
use Rattle.ja_table.proofs.Ascending.{of_member, same_elements, Ascends}

-- ---- one list

below_one_way : (a b : List ℕ) → IsBelow a b → IsBelow b a → ⊥
below_one_way [] b l k = l
below_one_way (i ∷ a) [] l k = k
below_one_way (i ∷ a) (j ∷ b) (inl l) (inl k) = omega (arith, l, k)
below_one_way (i ∷ a) (j ∷ b) (inl l) (inr k) = omega (arith, l, k.0)
below_one_way (i ∷ a) (j ∷ b) (inr l) (inl k) = omega (arith, l.0, k)
below_one_way (i ∷ a) (j ∷ b) (inr l) (inr k) = below_one_way a b l.1 k.1

abbrev Precedes : Warning → Warning → Type 0
Precedes w v = IsBelow (numbers_of w) (numbers_of v)

rises : (ws : List Warning) → AreOrdered ws → Ascends Precedes ws
rises [] ordered = tt
rises (w ∷ ws) ordered = (ordered.0, rises ws ordered.1)

member_of : (w : Warning) (ws : List Warning) → Contains ws w → Member w ws
member_of w [] (k, within, is) = absurd (omega (arith, within))
member_of w (v ∷ ws) (zero, within, is) = inl is
member_of w (v ∷ ws) (suc k, within, is) = inr (member_of w ws (k, omega (arith, within), is))

-- tests that hold by the same
same_test : (a b : Bool) → (IsTrue a → IsTrue b) → (IsTrue b → IsTrue a) → a ≡ b
same_test true true f g = refl
same_test true false f g = sym (f refl)
same_test false true f g = g refl
same_test false false f g = refl

module _ (p : Program) (t : Table) where
  -- warnings of one operation are one
  one_warning : (w v : Warning) → IsWarned p t w → IsWarned p t v
      → operation_of v ≡ operation_of w → v ≡ w
  one_warning w v a b same =
      let certain : v.certain ≡ w.certain =
      same_test v.certain w.certain
      (λ is. a.certain.1 (λ s x reached. b.certain.0 is s x
      (subst (λ o. IsReached p t o s x) (sym same) reached)))
      (λ is. b.certain.1 (λ s x reached. a.certain.0 is s x
      (subst (λ o. IsReached p t o s x) same reached))) in
      λ i. record {
        kind = (same i).kind;
        place = (same i).place;
        builtin = (same i).builtin;
        certain = certain i;
      }

  warned_in : (vs : List Warning) → AreWarnings p t vs → (w : Warning) → IsWarned p t w
      → Member w vs
  warned_in vs b w a =
      let (k, v, within, is, same) = b.complete (operation_of w) a.test a.view a.reached a.fault in
      let there : Member v vs = member_of v vs (k, within, is) in
      subst (λ u. Member u vs) (one_warning w v a (of_member (IsWarned p t) vs v b.warned there)
      same) there

  pub one_list_of_warnings : (ws vs : List Warning) → AreWarnings p t ws → AreWarnings p t vs
      → ws ≡ vs
  one_list_of_warnings ws vs a b =
      same_elements Precedes (λ w v. below_one_way (numbers_of w) (numbers_of v)) ws vs
      (rises ws a.ordered) (rises vs b.ordered)
      (λ w m. warned_in vs b w (of_member (IsWarned p t) ws w a.warned m))
      (λ v m. warned_in ws a v (of_member (IsWarned p t) vs v b.warned m))

-- ---- of programs with other texts

contained : {X : Type 0} (P : X → Type 0) (xs : List X) (x : X) → AllByRecursion P xs
    → Contains xs x → P x
contained P [] x all (k, l, e) = absurd (omega (arith, l))
contained P (y ∷ ys) x all (zero, l, e) = subst P e all.0
contained P (y ∷ ys) x all (suc k, l, e) = contained P ys x all.1 (k, omega (arith, l), e)

module _ (p : Program) (s : String Global) where
  abbrev other : Program
  other = record p { text = s }

  record IsSameTest (test : Test) : Type 0 where
    fault : (w : View) → test.fault (record w { program = other })
        ≡ test.fault (record w { program = p })
    more : (w : View) → test.more (record w { program = other })
        ≡ test.more (record w { program = p })

  tests_same : (n : Node) → AllByRecursion IsSameTest (tests n)
  tests_same (node.Call dst callee receiver args error) =
      (record { fault = λ w. refl; more = λ w. refl }, tt)
  tests_same (node.New dst callee args site error) =
      (record { fault = λ w. refl; more = λ w. refl }, tt)
  tests_same (node.ToObject dst src sites error) =
      (record { fault = λ w. refl; more = λ w. refl }, tt)
  tests_same (node.ReadRef dst base name error) = (
    record { fault = λ w. refl; more = λ w. refl },
    (record { fault = λ w. refl; more = λ w. refl }, tt),
  )
  tests_same (node.ReadSoft dst base name) = (record { fault = λ w. refl; more = λ w. refl }, tt)
  tests_same (node.ReadProp dst object key) = (record { fault = λ w. refl; more = λ w. refl }, tt)
  tests_same n = tt

  -- what reaches an operation with the one text reaches it with the other, and allows the same
  record IsReachedSo (t : Table) (o : Operation) (test : Test) (v : View) : Type 0 where
    view : View
    reached : IsReached other t o test view
    fault : test.fault view ≡ test.fault v
    more : test.more view ≡ test.more v

  reached_so : (t : Table) (o : Operation) (test : Test) (v : View) → IsReached p t o test v
      → IsReachedSo t o test v
  reached_so t o test v h =
      let same = contained IsSameTest (tests h.info.node) test (tests_same h.info.node)
      h.test_is in
      let there : View = view_at p t h.context h.state in
      record {
        view = view_at other t h.context h.state;
        reached = record {
          context = h.context;
          number = h.number;
          info = h.info;
          info_is = h.info_is;
          test_is = h.test_is;
          operation_is = h.operation_is;
          state = h.state;
          state_is = h.state_is;
          view_is = refl;
        };
        fault = same.fault there ∙ ap test.fault (sym h.view_is);
        more = same.more there ∙ ap test.more (sym h.view_is);
      }

module _ (p : Program) (s : String Global) (t : Table) where
  abbrev moved : Program
  moved = other p s

  back : (o : Operation) (test : Test) (v : View) → IsReached moved t o test v
      → IsReachedSo moved p.text t o test v
  back o test v h = reached_so moved p.text t o test v h

  warned_same : (w : Warning) → IsWarned p t w → IsWarned moved t w
  warned_same w h =
      let r = reached_so p s t (operation_of w) h.test h.view h.reached in
      record {
        test = h.test;
        view = r.view;
        reached = r.reached;
        fault = r.fault ∙ h.fault;
        certain = (
          λ is test v reached.
              let b = back (operation_of w) test v reached in
              sym b.more ∙ h.certain.0 is test b.view b.reached,
          λ none. h.certain.1 (λ test v reached.
              let f = reached_so p s t (operation_of w) test v reached in
              sym f.more ∙ none test f.view f.reached),
        );
      }

  pub warnings_same : (ws : List Warning) → AreWarnings p t ws → AreWarnings moved t ws
  warnings_same ws h = record {
    ordered = h.ordered;
    warned = all_weaker (IsWarned p t) (IsWarned moved t) warned_same ws h.warned;
    complete = λ o test v reached fault.
        let b = back o test v reached in
        h.complete o test b.view b.reached (b.fault ∙ fault);
  }
