-- What the operations on texts and numbers take at their places, one place after another.
use Rattle.std.specs.Prelude.{◌-◌, Option, Some, None, Result}
use Rattle.std.proofs.Common.{◌≡◌, ◌≢◌, ◌<◌, ◌≤◌, ◌+◌, ◌++◌, ◌∷◌, [], ℕ, suc, List, length, map, take, drop, slice_index_or, refl, sym, subst, ap, ◌∙◌, add-one, append_assoc, arith, drop-cons}
use Rattle.std.proofs.lemmas.List.{take_rest}
use Rattle.std.specs.Option.{option_map}
use Rattle.std.specs.Result.{IfOk}
use Rattle.ja_base.specs.declared.ids.Reg.{Reg}
use Rattle.ja_abstract.specs.declared.abstraction.Sort.{Sort}
use Rattle.ja_abstract.specs.AbstractValue.{AbstractValue}
use Rattle.ja_abstract.specs.PrimitiveOperations.{Taken, taken, operands, over_operands}
use Rattle.ja_abstract.specs.Primitives.{Abstracted, either, no_result, over}
use Rattle.ja_absprim.proofs.Onto.{onto}

-- ---- gathered in a list, before those that are left

-- one more is gathered
pub one_more : {X : Type 0} (xs : List X) (x : X) (o : Option (List X))
    → option_map (λ (ys : List X). xs ++ ys) (option_map (λ (ys : List X). x ∷ ys) o)
    ≡ option_map (λ (ys : List X). (xs ++ x ∷ []) ++ ys) o
one_more xs x None = refl
one_more xs x (Some ys) =
    ap (λ (zs : List _). Some zs) (sym (append_assoc xs (x ∷ []) ys))

-- ---- what is taken of the values of registers

-- nothing where there are not as many of them as places
pub operands_are_as_many : (ss : List Sort) (vs : List AbstractValue) → length ss ≢ length vs
    → operands ss vs ≡ None
operands_are_as_many [] [] other = absurd (other refl)
operands_are_as_many [] (v ∷ vs) other = refl
operands_are_as_many (s ∷ ss) [] other = refl
operands_are_as_many (s ∷ ss) (v ∷ vs) other =
    ap (option_map (λ (xss : List (List Taken)). taken s v ∷ xss))
    (operands_are_as_many ss vs (λ e. other (ap suc e)))

-- the first of those that are left
from_one_on : {X : Type 0} (xs : List X) (k : ℕ) (d : X) → k < length xs
    → drop k xs ≡ slice_index_or xs k d ∷ drop (k + 1) xs
from_one_on xs k d inside = rw (add-one, drop-cons xs k d) refl

pub operands_more : (value : Reg → AbstractValue) (ss : List Sort) (args : List Reg) (k : ℕ)
    (s : Sort) (r : Reg) (xss more : List (List Taken)) (whole : Option (List (List Taken)))
    → k < length ss → k < length args
    → more ≡ xss ++ taken (slice_index_or ss k s) (value (slice_index_or args k r)) ∷ []
    → option_map (λ (yss : List (List Taken)). xss ++ yss)
    (operands (drop k ss) (map value (drop k args))) ≡ whole
    → option_map (λ (yss : List (List Taken)). more ++ yss)
    (operands (drop (k + 1) ss) (map value (drop (k + 1) args))) ≡ whole
operands_more value ss args k s r xss more whole sorted valued gathered h =
    ap (λ (l : List (List Taken)). option_map (λ (yss : List (List Taken)). l ++ yss) left) gathered
    ∙ (sym (one_more xss (taken sort_there (value there)) left) ∙ (sym second ∙ (sym first ∙ h)))
  where
    sort_there : Sort
    sort_there = slice_index_or ss k s

    there : Reg
    there = slice_index_or args k r

    left : Option (List (List Taken))
    left = operands (drop (k + 1) ss) (map value (drop (k + 1) args))

    before : Option (List (List Taken)) → Option (List (List Taken))
    before = option_map (λ (yss : List (List Taken)). xss ++ yss)

    first : before (operands (drop k ss) (map value (drop k args)))
        ≡ before (operands (sort_there ∷ drop (k + 1) ss) (map value (drop k args)))
    first =
        ap (λ (l : List Sort). before (operands l (map value (drop k args))))
        (from_one_on ss k s sorted)

    second : before (operands (sort_there ∷ drop (k + 1) ss) (map value (drop k args)))
        ≡ before (operands (sort_there ∷ drop (k + 1) ss) (map value (there ∷ drop (k + 1) args)))
    second =
        ap (λ (l : List Reg). before (operands (sort_there ∷ drop (k + 1) ss) (map value l)))
        (from_one_on args k r valued)

-- ---- what is given over each choice

-- each choice at a place stands behind those that were made before
pub choices_stand_behind : (f : List Taken → Abstracted) (chosen xs : List Taken)
    (xss : List (List Taken))
    → over (λ x. over_operands (λ rest. f ((chosen ++ x ∷ []) ++ rest)) xss) xs
    ≡ over_operands (λ rest. f (chosen ++ rest)) (xs ∷ xss)
choices_stand_behind f chosen xs xss =
    λ n. over (λ x. over_operands (λ rest. f (append_assoc chosen (x ∷ []) rest n)) xss) xs

-- a list is its first one and the others
first_and_rest : {X : Type 0} (xs : List X) (x d : X) → 1 ≤ length xs → x ≡ slice_index_or xs 0 d
    → xs ≡ x ∷ drop 1 xs
first_and_rest [] x d some is = absurd (omega (arith, some))
first_and_rest (y ∷ ys) x d some is = ap (λ (z : _). z ∷ ys) (sym is)

pub first_and_others : {X : Type 0} (xs : List X) (x d : X) → 1 ≤ length xs
    → x ≡ slice_index_or xs 0 d → xs ≡ x ∷ take (length xs - 1) (drop 1 xs)
first_and_others xs x d some is =
    first_and_rest xs x d some is ∙ ap (λ (ys : List _). x ∷ ys) (sym (take_rest xs 1))

-- what is given behind one choice more
pub behind_one_more : {T E : Type 0} (call : Result T E) (view : T → Abstracted)
    (f : List Taken → Abstracted) (longer chosen : List Taken) (x : Taken)
    (xss : List (List Taken)) → longer ≡ chosen ++ x ∷ []
    → IfOk call (λ r. view r ≡ over_operands (λ rest. f (longer ++ rest)) xss)
    → IfOk call (λ r. view r ≡ over_operands (λ rest. f ((chosen ++ x ∷ []) ++ rest)) xss)
behind_one_more call view f longer chosen x xss is given =
    subst (λ (l : List Taken). IfOk call (λ r. view r ≡ over_operands (λ rest. f (l ++ rest)) xss))
    is given

-- nothing is given at the end
onto_nothing : {X : Type 0} (f : X → Abstracted) (xs : List X) → onto f no_result xs ≡ over f xs
onto_nothing f [] = refl
onto_nothing f (x ∷ xs) = ap (either (f x)) (onto_nothing f xs)

-- before the first of a place's choices is given, nothing is
pub no_choice_yet : (f : List Taken → Abstracted) (chosen xs items : List Taken)
    (xss whole : List (List Taken)) (all : Abstracted) → all ≡ no_result → xs ≡ items
    → whole ≡ items ∷ xss
    → onto (λ x. over_operands (λ rest. f ((chosen ++ x ∷ []) ++ rest)) xss) all xs
    ≡ over_operands (λ rest. f (chosen ++ rest)) whole
no_choice_yet f chosen xs items xss whole all nothing are split =
    ap (λ (r : Abstracted). onto (λ x. over_operands (λ rest. f ((chosen ++ x ∷ []) ++ rest)) xss) r
    xs) nothing
    ∙ (onto_nothing (λ x. over_operands (λ rest. f ((chosen ++ x ∷ []) ++ rest)) xss) xs
    ∙ (ap (over (λ x. over_operands (λ rest. f ((chosen ++ x ∷ []) ++ rest)) xss)) are
    ∙ (choices_stand_behind f chosen items xss
    ∙ sym (ap (over_operands (λ rest. f (chosen ++ rest))) split))))
