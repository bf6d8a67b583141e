-- What the tests of the table say of the objects that stand there when a run begins.
use Rattle.std.proofs.Common.{◌≡◌, ℕ, zero, suc, ◌<◌, ◌≤◌, Bool, true, false, not, ◌&&◌, ◌||◌, nat_eq, nat_lt, List, [], ◌∷◌, ◌++◌, length, take, Some, refl, sym, ap, ◌∙◌, subst, append-nil, append_assoc, ◌⊎◌, inl, inr, arith}
use Rattle.std.specs.List.{slice_get, list_any}
use Rattle.std.proofs.lemmas.Bool.{cases_lt}
use Rattle.ja_base.specs.declared.ids.Site.{Site}
use Rattle.ja_base.proofs.Tests.{and_left_true, and_right_true}
use Rattle.ja_graph.specs.declared.program.ObjectSpec.{ObjectSpec}
use Rattle.ja_graph.specs.declared.program.Program.{Program}
use Rattle.ja_graph.specs.declared.program.PropertySpec.{PropertySpec}
use Rattle.ja_graph.specs.declared.program.SpecContent.{SpecContent}
use Rattle.ja_graph.specs.declared.program.SpecContent.TheVariants as content
use Rattle.ja_graph.specs.WellFormed.{IsContent, IsObjectWellFormed}
use Rattle.ja_graph.specs.code.Parts.{HasScope}
use Rattle.ja_prelude.proofs.ListLemmas.{eq_of, lt_of, same_passes}
use Rattle.ja_prelude.proofs.TableLemmas.{is_content, are_properties, is_among, is_object, are_objects, all_below}

-- a number below n passes where all do
pub below-at : (test : ℕ → Bool) (n s : ℕ) → all_below test n ≡ true → s < n → test s ≡ true
below-at test zero s all within = absurd (omega arith)
below-at test (suc n) s all within =
    at (cases_lt s n) (below-at test n s (and_right_true (test n) (all_below test n) all))
  where
    at : (s < n) ⊎ (n ≤ s) → (s < n → test s ≡ true) → test s ≡ true
    at (inl before) earlier = earlier before
    at (inr behind) earlier =
        let same : n ≡ s = omega arith in
        subst (λ k. test k ≡ true) same (and_left_true (test n) (all_below test n) all)

-- ---- properties

property-at : (n m : ℕ) (qs : List PropertySpec) (j : ℕ) (q : PropertySpec)
    → are_properties n m qs ≡ true → slice_get qs j ≡ Some q
    → (nat_lt q.name.0 m && is_content n q.content) ≡ true
property-at n m [] j q all is = absurd (cc)
property-at n m (x ∷ qs) zero q all is =
    let same : x ≡ q = cc in
    let name = and_left_true (nat_lt x.name.0 m) _ all in
    let content = and_left_true (is_content n x.content) _
    (and_right_true (nat_lt x.name.0 m) _ all) in
    subst (λ (y : PropertySpec). (nat_lt y.name.0 m && is_content n y.content) ≡ true) same
    (rw name content)
property-at n m (x ∷ qs) (suc j) q all is =
    let here = and_right_true (is_content n x.content) _
    (and_right_true (nat_lt x.name.0 m) _ all) in
    property-at n m qs j q (and_right_true (not
    (list_any (λ (r : PropertySpec). nat_eq x.name.0 r.name.0) qs)) _ here) is

-- a name of a property is found
any-name : (t : ℕ) (qs : List PropertySpec) (k : ℕ) (r : PropertySpec) → slice_get qs k ≡ Some r
    → t ≡ r.name.0 → list_any (λ (q : PropertySpec). nat_eq t q.name.0) qs ≡ true
any-name t [] k r is e = absurd (cc)
any-name t (x ∷ qs) zero r is e =
    let same : r ≡ x = cc in
    let here : nat_eq t x.name.0 ≡ true = same_passes t x.name.0
    (e ∙ ap (λ (q : PropertySpec). q.name.0) same) in
    rw here refl
any-name t (x ∷ qs) (suc k) r is e = rw (any-name t qs k r is e) (or_true (nat_eq t x.name.0))
  where
    or_true : (b : Bool) → (b || true) ≡ true
    or_true true = refl
    or_true false = refl

-- it stands at one place
apart-at : (n m : ℕ) (x : PropertySpec) (qs : List PropertySpec) (k : ℕ) (q r : PropertySpec)
    → are_properties n m (x ∷ qs) ≡ true → x ≡ q → slice_get qs k ≡ Some r → q.name.0 ≡ r.name.0 → ⊥
apart-at n m x qs k q r all same is e =
    let here = and_right_true (is_content n x.content) _
    (and_right_true (nat_lt x.name.0 m) _ all) in
    let none = and_left_true (not (list_any (λ (y : PropertySpec). nat_eq x.name.0 y.name.0) qs))
    (are_properties n m qs) here in
    let found = any-name x.name.0 qs k r is (ap (λ (y : PropertySpec). y.name.0) same ∙ e) in
    let both : not true ≡ true = ap not (sym found) ∙ none in
    absurd (cc)

tail_properties : (n m : ℕ) (x : PropertySpec) (qs : List PropertySpec)
    → are_properties n m (x ∷ qs) ≡ true → are_properties n m qs ≡ true
tail_properties n m x qs all =
    let here = and_right_true (is_content n x.content) _
    (and_right_true (nat_lt x.name.0 m) _ all) in
    and_right_true (not (list_any (λ (y : PropertySpec). nat_eq x.name.0 y.name.0) qs))
    (are_properties n m qs) here

once-at : (n m : ℕ) (qs : List PropertySpec) (j k : ℕ) (q r : PropertySpec)
    → are_properties n m qs ≡ true → slice_get qs j ≡ Some q → slice_get qs k ≡ Some r
    → q.name.0 ≡ r.name.0 → j ≡ k
once-at n m [] j k q r all is also e = absurd (cc)
once-at n m (x ∷ qs) zero zero q r all is also e = refl
once-at n m (x ∷ qs) zero (suc k) q r all is also e =
    absurd (apart-at n m x qs k q r all (cc) also e)
once-at n m (x ∷ qs) (suc j) zero q r all is also e =
    absurd (apart-at n m x qs j r q all (cc) is (sym e))
once-at n m (x ∷ qs) (suc j) (suc k) q r all is also e =
    ap suc (once-at n m qs j k q r (tail_properties n m x qs all) is also e)

content-at : (n : ℕ) (p : Program) (c : SpecContent) → length p.opening ≡ n → is_content n c ≡ true
    → IsContent p c
content-at n p (content.Object s) count h = omega (arith, lt_of s.0 n h, count)
content-at n p (content.Prim value) count h = tt
content-at n p content.Row count h = tt

-- ---- objects

object-at : (n m : ℕ) (before os : List ObjectSpec) (i : ℕ) (o : ObjectSpec)
    → are_objects n m before os ≡ true → slice_get os i ≡ Some o
    → is_object n m (before ++ take i os) o ≡ true
object-at n m before [] i o all is = absurd (cc)
object-at n m before (x ∷ os) zero o all is =
    let same : x ≡ o = cc in
    let here = and_left_true (is_object n m before x) (are_objects n m (before ++ x ∷ []) os) all in
    subst (λ y. is_object n m (before ++ []) y ≡ true) same
    (subst (λ bs. is_object n m bs x ≡ true) (sym (append-nil before)) here)
object-at n m before (x ∷ os) (suc i) o all is =
    let rest = and_right_true (is_object n m before x) (are_objects n m (before ++ x ∷ []) os)
    all in
    subst (λ bs. is_object n m bs o ≡ true) (append_assoc before (x ∷ []) (take i os))
    (object-at n m (before ++ x ∷ []) os i o rest is)

-- an object of this site stands before
stands : (os : List ObjectSpec) (i : ℕ) (s : Site)
    → list_any (λ (q : ObjectSpec). nat_eq q.site.0 s.0) (take i os) ≡ true
    → (j : ℕ) × (q : ObjectSpec) × (j < i) × (slice_get os j ≡ Some q) × (q.site.0 ≡ s.0)
stands os zero s h = absurd (cc)
stands [] (suc i) s h = absurd (cc)
stands (x ∷ os) (suc i) s h = at (stands os i s) (nat_eq x.site.0 s.0) refl h
  where
    at : (list_any (λ (q : ObjectSpec). nat_eq q.site.0 s.0) (take i os) ≡ true
        → (j : ℕ) × (q : ObjectSpec) × (j < i) × (slice_get os j ≡ Some q) × (q.site.0 ≡ s.0))
        → (b : Bool) → nat_eq x.site.0 s.0 ≡ b
        → (b || list_any (λ (q : ObjectSpec). nat_eq q.site.0 s.0) (take i os)) ≡ true
        → (j : ℕ) × (q : ObjectSpec) × (j < suc i) × (slice_get (x ∷ os) j ≡ Some q)
        × (q.site.0 ≡ s.0)
    at rest true e h = (zero, x, omega arith, refl, eq_of x.site.0 s.0 e)
    at rest false e h =
        let later = rest h in
        (suc later.0, later.1, omega (arith, later.2), later.3, later.4)

pub object-well_formed : (n m : ℕ) (p : Program) (i : ℕ) (o : ObjectSpec) → length p.opening ≡ n
    → m ≤ length p.names → are_objects n m [] p.opening ≡ true → slice_get p.opening i ≡ Some o
    → HasScope p o → IsObjectWellFormed p i o
object-well_formed n m p i o count names all is scoped =
    let fits = object-at n m [] p.opening i o all is in
    let site = and_left_true (nat_lt o.site.0 n) _ fits in
    let behind = and_right_true (nat_lt o.site.0 n) _ fits in
    let prototype = and_left_true (is_among (take i p.opening) o.prototype) _ behind in
    let inside = and_right_true (is_among (take i p.opening) o.prototype) _ behind in
    let scope = and_left_true (is_among (take i p.opening) o.scope) _ inside in
    let properties = and_right_true (is_among (take i p.opening) o.scope) _ inside in
    record {
      site = omega (arith, lt_of o.site.0 n site, count);
      prototype =
          λ s e. stands p.opening i s (ap (is_among (take i p.opening)) (sym e) ∙ prototype);
      scope = λ s e. stands p.opening i s (ap (is_among (take i p.opening)) (sym e) ∙ scope);
      scoped = scoped;
      names =
          λ j q at. omega (
            arith,
            names,
            lt_of q.name.0 m
                (and_left_true (nat_lt q.name.0 m) _ (property-at n m o.properties j q properties at)),
          );
      contents =
          λ j q at. content-at n p q.content count
          (and_right_true (nat_lt q.name.0 m) _ (property-at n m o.properties j q properties at));
      once = λ j k q r at also e. once-at n m o.properties j k q r properties at also e;
    }
