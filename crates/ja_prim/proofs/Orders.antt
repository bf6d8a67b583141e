-- The order of texts and of numbers.
use Rattle.std.proofs.Common.{◌≡◌, ℕ, ℤ, pos, int_lt, Bool, true, false, cond, List, Ordering, Less, Equal, Greater, Ok, refl, ap, ◌∙◌, sym}
use Rattle.std.specs.Cmp.Lexicographic.{slice_cmp}
use Rattle.std.specs.Ordering.{nat_cmp, int_cmp, is_lt, is_eq, ordering_reverse}
use Rattle.std.proofs.lemmas.Cmp.{nat_list_cmp_total, int_cmp_total, tied_itself}
use Rattle.std.proofs.lemmas.Map.Text.{is_eq-slice_cmp}
use Rattle.ja_prim.specs.declared.primitive.Num.{Num}
use Rattle.ja_prim.specs.declared.primitive.Num.TheVariants.{NaN, Whole}
use Rattle.ja_prim.specs.declared.primitive.Primitive.{Primitive}
use Rattle.ja_prim.specs.declared.primitive.Primitive.TheVariants.{Undefined, Null, Number, Text}
use Rattle.ja_prim.specs.declared.primitive.Primitive.TheVariants as kind
use Rattle.ja_prim.specs.Comparison.{less_number, less_text}
use Rattle.ja_prim.specs.LawsOfTexts.{is_less, is_yes, IsTransitive, IsRanked, just_one}

-- ---- by one ordering

less_is : (o : Ordering) → is_lt o ≡ true → o ≡ Less
less_is Less h = refl
less_is Equal h = cc
less_is Greater h = cc

ranked_by : (o : Ordering) → just_one (is_lt o) (is_eq o) (is_lt (ordering_reverse o)) ≡ true
ranked_by Less = refl
ranked_by Equal = refl
ranked_by Greater = refl

int_less : (m n : ℤ) → int_lt m n ≡ is_lt (int_cmp m n)
int_less m n = go (int_lt m n) (int_lt n m)
  where
    go : (a b : Bool) → a ≡ is_lt (cond a Less (cond b Greater Equal))
    go true b = refl
    go false true = refl
    go false false = refl

-- ---- texts

pub texts_transitive : (a b c : List ℕ) → IsTransitive (Text a) (Text b) (Text c)
texts_transitive a b c h k =
    ap is_lt (nat_list_cmp_total.trans a b c (less_is (slice_cmp nat_cmp a b) h)
    (less_is (slice_cmp nat_cmp b c) k))

pub texts_ranked : (a b : List ℕ) → IsRanked (Text a) (Text b)
texts_ranked a b =
    let o : Ordering = slice_cmp nat_cmp a b in
    ap (λ (x : Bool). just_one (is_lt o) x (less_text b a)) (sym (is_eq-slice_cmp a b))
    ∙ ap (λ (x : Ordering). just_one (is_lt o) (is_eq o) (is_lt x))
    (nat_list_cmp_total.antisymm b a) ∙ ranked_by o

-- ---- numbers

whole_transitive : (l m n : ℤ) → int_lt l m ≡ true → int_lt m n ≡ true → int_lt l n ≡ true
whole_transitive l m n h k =
    int_less l n ∙ ap is_lt (int_cmp_total.trans l m n
    (less_is (int_cmp l m) (sym (int_less l m) ∙ h))
    (less_is (int_cmp m n) (sym (int_less m n) ∙ k)))

pub numbers_transitive : (l m n : Num) → IsTransitive (Number l) (Number m) (Number n)
numbers_transitive NaN NaN NaN h k = h
numbers_transitive NaN NaN (Whole n) h k = h
numbers_transitive NaN (Whole m) NaN h k = h
numbers_transitive NaN (Whole m) (Whole n) h k = h
numbers_transitive (Whole l) NaN NaN h k = h
numbers_transitive (Whole l) NaN (Whole n) h k = cc
numbers_transitive (Whole l) (Whole m) NaN h k = k
numbers_transitive (Whole l) (Whole m) (Whole n) h k = whole_transitive l m n h k

pub numbers_ranked : (m n : ℤ) → IsRanked (Number (Whole m)) (Number (Whole n))
numbers_ranked m n =
    let o : Ordering = int_cmp m n in
    ap (λ (x : Bool). just_one x (is_eq o) (int_lt n m)) (int_less m n)
    ∙ ap (λ (x : Bool). just_one (is_lt o) (is_eq o) x)
    (int_less n m ∙ ap is_lt (int_cmp_total.antisymm n m)) ∙ ranked_by o

-- ---- nothing is less than itself

number_itself : (n : Num) → is_yes (Ok (less_number n n)) ≡ false
number_itself NaN = refl
number_itself (Whole n) = int_less n n ∙ ap is_lt (tied_itself int_cmp_total n)

pub irreflexive : (a : Primitive) → is_less a a ≡ false
irreflexive Undefined = refl
irreflexive Null = number_itself (Whole (pos 0))
irreflexive (kind.Bool true) = number_itself (Whole (pos 1))
irreflexive (kind.Bool false) = number_itself (Whole (pos 0))
irreflexive (Number n) = number_itself n
irreflexive (Text t) = ap is_lt (tied_itself nat_list_cmp_total t)
