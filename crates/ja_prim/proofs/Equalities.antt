-- Strict equality is an equivalence, but for NaN.
use Rattle.std.proofs.Common.{◌≡◌, ℕ, ℤ, Bool, true, false, not, List, refl, ap, sym, subst}
use Rattle.std.specs.Ordering.{int_eq}
use Rattle.std.proofs.lemmas.Cmp.{int_eq_equiv, nat_list_eq_equiv}
use Rattle.std.proofs.lemmas.Slice.Eq.{bytes_eq-Decides}
use Rattle.std.proofs.lemmas.Bool.Decides.{Decides-int_eq}
use Rattle.ja_prim.specs.declared.primitive.Num.TheVariants.{NaN, Whole}
use Rattle.ja_prim.specs.declared.primitive.Primitive.{Primitive}
use Rattle.ja_prim.specs.declared.primitive.Primitive.TheVariants.{Undefined, Null, Number, Text}
use Rattle.ja_prim.specs.declared.primitive.Primitive.TheVariants as kind
use Rattle.ja_prim.specs.Comparison.{strict_equal, same_truth}
use Rattle.ja_prim.specs.LawsOfTexts.{is_nan}

truth_symmetric : (a b : Bool) → same_truth a b ≡ same_truth b a
truth_symmetric true true = refl
truth_symmetric true false = refl
truth_symmetric false true = refl
truth_symmetric false false = refl

truth_same : (a b : Bool) → same_truth a b ≡ true → a ≡ b
truth_same true true h = refl
truth_same true false h = cc
truth_same false true h = cc
truth_same false false h = refl

whole_same : (a b : ℤ) → int_eq a b ≡ true → a ≡ b
whole_same a b h = (Decides-int_eq a b).0 h

pub symmetric : (a b : Primitive) → strict_equal a b ≡ strict_equal b a
symmetric Undefined Undefined = refl
symmetric Undefined Null = refl
symmetric Undefined (kind.Bool b) = refl
symmetric Undefined (Number NaN) = refl
symmetric Undefined (Number (Whole b)) = refl
symmetric Undefined (Text b) = refl
symmetric Null Undefined = refl
symmetric Null Null = refl
symmetric Null (kind.Bool b) = refl
symmetric Null (Number NaN) = refl
symmetric Null (Number (Whole b)) = refl
symmetric Null (Text b) = refl
symmetric (kind.Bool a) Undefined = refl
symmetric (kind.Bool a) Null = refl
symmetric (kind.Bool a) (kind.Bool b) = truth_symmetric a b
symmetric (kind.Bool a) (Number NaN) = refl
symmetric (kind.Bool a) (Number (Whole b)) = refl
symmetric (kind.Bool a) (Text b) = refl
symmetric (Number NaN) Undefined = refl
symmetric (Number NaN) Null = refl
symmetric (Number NaN) (kind.Bool b) = refl
symmetric (Number NaN) (Number NaN) = refl
symmetric (Number NaN) (Number (Whole b)) = refl
symmetric (Number NaN) (Text b) = refl
symmetric (Number (Whole a)) Undefined = refl
symmetric (Number (Whole a)) Null = refl
symmetric (Number (Whole a)) (kind.Bool b) = refl
symmetric (Number (Whole a)) (Number NaN) = refl
symmetric (Number (Whole a)) (Number (Whole b)) = int_eq_equiv.symm a b
symmetric (Number (Whole a)) (Text b) = refl
symmetric (Text a) Undefined = refl
symmetric (Text a) Null = refl
symmetric (Text a) (kind.Bool b) = refl
symmetric (Text a) (Number NaN) = refl
symmetric (Text a) (Number (Whole b)) = refl
symmetric (Text a) (Text b) = nat_list_eq_equiv.symm a b

-- equal values are the same
pub same : (a b : Primitive) → strict_equal a b ≡ true → a ≡ b
same Undefined Undefined h = refl
same Undefined Null h = cc
same Undefined (kind.Bool b) h = cc
same Undefined (Number NaN) h = cc
same Undefined (Number (Whole b)) h = cc
same Undefined (Text b) h = cc
same Null Undefined h = cc
same Null Null h = refl
same Null (kind.Bool b) h = cc
same Null (Number NaN) h = cc
same Null (Number (Whole b)) h = cc
same Null (Text b) h = cc
same (kind.Bool a) Undefined h = cc
same (kind.Bool a) Null h = cc
same (kind.Bool a) (kind.Bool b) h = ap (λ (x : Bool). kind.Bool x) (truth_same a b h)
same (kind.Bool a) (Number NaN) h = cc
same (kind.Bool a) (Number (Whole b)) h = cc
same (kind.Bool a) (Text b) h = cc
same (Number NaN) Undefined h = cc
same (Number NaN) Null h = cc
same (Number NaN) (kind.Bool b) h = cc
same (Number NaN) (Number NaN) h = cc
same (Number NaN) (Number (Whole b)) h = cc
same (Number NaN) (Text b) h = cc
same (Number (Whole a)) Undefined h = cc
same (Number (Whole a)) Null h = cc
same (Number (Whole a)) (kind.Bool b) h = cc
same (Number (Whole a)) (Number NaN) h = cc
same (Number (Whole a)) (Number (Whole b)) h = ap (λ (x : ℤ). Number (Whole x)) (whole_same a b h)
same (Number (Whole a)) (Text b) h = cc
same (Text a) Undefined h = cc
same (Text a) Null h = cc
same (Text a) (kind.Bool b) h = cc
same (Text a) (Number NaN) h = cc
same (Text a) (Number (Whole b)) h = cc
same (Text a) (Text b) h = ap (λ (x : List ℕ). Text x) ((bytes_eq-Decides a b).0 h)

pub transitive : (a b c : Primitive) → strict_equal a b ≡ true → strict_equal b c ≡ true
    → strict_equal a c ≡ true
transitive a b c h k = let e : b ≡ a = sym (same a b h) in
    subst (λ (x : Primitive). strict_equal x c ≡ true) e k

pub reflexive : (a : Primitive) → strict_equal a a ≡ not (is_nan a)
reflexive Undefined = refl
reflexive Null = refl
reflexive (kind.Bool true) = refl
reflexive (kind.Bool false) = refl
reflexive (Number NaN) = refl
reflexive (Number (Whole n)) = int_eq_equiv.refl n
reflexive (Text t) = nat_list_eq_equiv.refl t
