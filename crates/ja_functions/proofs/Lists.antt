-- What is listed of activations and arguments objects.
use Rattle.std.proofs.Common.{◌≡◌, ◌+◌, ◌<◌, ◌++◌, ℕ, suc, List, [], ◌∷◌, length, map, take, drop, get_or, Option, Some, None, refl, sym, ap, ◌∙◌, append_assoc, append-nil}
use Rattle.std.specs.Prelude.{slice_get}
use Rattle.std.specs.List.{flat_map}
use Rattle.std.specs.Option.{option_map_or}
use Rattle.std.proofs.lemmas.List.{at_drop_more, take_more}
use Rattle.std.proofs.lemmas.Option.{slice_get-get_or}
use Rattle.ja_base.specs.declared.ids.FnId.{FnId}
use Rattle.ja_base.specs.declared.ids.NameId.{NameId}
use Rattle.ja_graph.specs.declared.attrs.TheConstants.{DONT_DELETE}
use Rattle.ja_graph.specs.declared.program.Function.{Function}
use Rattle.ja_graph.specs.declared.program.Program.{Program}
use Rattle.ja_machine.specs.Frames.{parameters_of}
use Rattle.ja_abstract.specs.declared.abstraction.Key.{Key}
use Rattle.ja_abstract.specs.declared.abstraction.Key.TheVariants as key
use Rattle.ja_abstract.specs.AbstractValue.{AbstractProperty, join_properties}
use Rattle.ja_abstract.specs.AbstractState.{AbstractState}
use Rattle.ja_abstract.specs.Made.{argument_property, index_property, parameter_ids, parameter_properties, parameter_register, property_of}
use Rattle.ja_aheap.specs.Objects.{listed_of}
use Rattle.ja_value.specs.declared.property.AProp.{AProp}
use Rattle.ja_functions.specs.code.Aged.{parameter_at, listed_at, index_properties, arguments_from}

abbrev pub Properties : Type 0
Properties = List (Key × AbstractProperty)

-- ---- what is pushed

map_last : (items : List (Key × AProp)) (q : Key × AProp)
    → map listed_of (items ++ q ∷ []) ≡ map listed_of items ++ listed_of q ∷ []
map_last [] q = refl
map_last (y ∷ ys) q = ap (λ (xs : Properties). listed_of y ∷ xs) (map_last ys q)

-- one property more is listed
pub listed_more : (items after : List (Key × AProp)) (q : Key × AProp) (xs : Properties)
    (x : Key × AbstractProperty) → map listed_of items ≡ xs → after ≡ items ++ q ∷ []
    → listed_of q ≡ x → map listed_of after ≡ xs ++ x ∷ []
listed_more items after q xs x before pushed is =
    ap (map listed_of) pushed ∙ map_last items q ∙ (λ n. before n ++ is n ∷ [])

-- three are
pub listed_three : (items one two three : List (Key × AProp)) (q r s : Key × AProp)
    (xs : Properties) (x y z : Key × AbstractProperty) → map listed_of items ≡ xs
    → one ≡ items ++ q ∷ [] → two ≡ one ++ r ∷ [] → three ≡ two ++ s ∷ [] → listed_of q ≡ x
    → listed_of r ≡ y → listed_of s ≡ z → map listed_of three ≡ xs ++ (x ∷ y ∷ z ∷ [])
listed_three items one two three q r s xs x y z before first second third q_is r_is s_is =
    listed_more two three s ((xs ++ x ∷ []) ++ y ∷ []) z
    (listed_more one two r (xs ++ x ∷ []) y (listed_more items one q xs x before first q_is) second
    r_is) third s_is
    ∙ ap (λ (ys : Properties). ys ++ z ∷ []) (append_assoc xs (x ∷ []) (y ∷ []))
    ∙ append_assoc xs (x ∷ y ∷ []) (z ∷ [])

-- ---- parameters

-- how many parameters a function has
pub count_is : (p : Program) (f : FnId) → parameters_of p f ≡ length (parameter_ids p f)
count_is p f = by (slice_get p.functions f.0)
  where
    by : (o : Option Function)
        → option_map_or (λ (fn : Function). length fn.parameters) o 0
        ≡ length (option_map_or (λ (fn : Function). fn.parameters) o [])
    by None = refl
    by (Some fn) = refl

-- the parameter of a number, before those behind it
pub one_parameter : (a : AbstractState) (names : List NameId) (i : ℕ) (d : NameId)
    → i < length names
    → parameter_at a names i ≡ property_of (key.Name (get_or names i d))
    (a.register (parameter_register i)) DONT_DELETE ∷ []
one_parameter a names i d within =
    ap (λ (o : Option NameId). option_map_or (λ (n : NameId). property_of (key.Name n)
    (a.register (parameter_register i)) DONT_DELETE ∷ []) o []) (slice_get-get_or names i d within)

pub parameters_more : (a : AbstractState) (names : List NameId) (i : ℕ) (d : NameId)
    (first now after : Properties) → i < length names
    → now ≡ first ++ parameter_properties a (i + 1) (drop (i + 1) names)
    → after ≡ now ++ parameter_at a names i
    → after ≡ first ++ parameter_properties a i (drop i names)
parameters_more a names i d first now after within now_is after_is =
    let rest = parameter_properties a (i + 1) (drop (i + 1) names) in
    after_is ∙ ap (λ (xs : Properties). xs ++ parameter_at a names i) now_is
    ∙ append_assoc first rest (parameter_at a names i)
    ∙ ap (λ (xs : Properties). first ++ (rest ++ xs)) (one_parameter a names i d within)
    ∙ ap (λ (xs : Properties). first ++ xs)
    (sym (at_drop_more (parameter_properties a i) names i d within))

-- ---- arguments

pub arguments_more : (p : Program) (f : FnId) (a : AbstractState) (i n : ℕ)
    (sum one after : AbstractProperty) → sum ≡ arguments_from p f a (i + 1) n
    → one ≡ argument_property p f a i → after ≡ join_properties one sum
    → after ≡ arguments_from p f a i (suc n)
arguments_more p f a i n sum one after sum_is one_is after_is =
    after_is ∙ (λ m. join_properties (one_is m) (sum_is m))

-- ---- the properties of indices

flat_more : {A B : Type 0} (f : A → List B) (xs : List A) (x : A)
    → flat_map f (xs ++ x ∷ []) ≡ flat_map f xs ++ f x
flat_more f [] x = append-nil (f x)
flat_more f (y ∷ ys) x =
    ap (λ zs. f y ++ zs) (flat_more f ys x) ∙ sym (append_assoc (f y) (flat_map f ys) (f x))

pub indices_more : (p : Program) (f : FnId) (a : AbstractState) (keys : List Key) (i : ℕ) (d : Key)
    (first now after : Properties) → i < length keys
    → now ≡ first ++ index_properties p f a (take i keys)
    → after ≡ now ++ listed_at (get_or keys i d) (index_property p f a (get_or keys i d))
    → after ≡ first ++ index_properties p f a (take (i + 1) keys)
indices_more p f a keys i d first now after within now_is after_is =
    let k = get_or keys i d in
    let one : Properties = listed_at k (index_property p f a k) in
    after_is ∙ ap (λ (xs : Properties). xs ++ one) now_is
    ∙ append_assoc first (index_properties p f a (take i keys)) one
    ∙ ap (λ (xs : Properties). first ++ xs)
    (sym (flat_more (λ (j : Key). listed_at j (index_property p f a j)) (take i keys) k)
    ∙ sym (ap (index_properties p f a) (take_more keys i d within)))
