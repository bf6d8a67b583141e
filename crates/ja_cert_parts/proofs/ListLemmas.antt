-- Lists and objects as data.
use Rattle.std.proofs.Common.{◌≡◌, ◌≢◌, ◌==◌, ℕ, zero, suc, cond, ◌+◌, ◌<◌, Bool, true, false, List, [], ◌∷◌, ◌++◌, map, take, drop, length, get_or, Option, Some, None, refl, ap, sym, ◌∙◌, subst, append-nil, append_assoc, arith}
use Rattle.std.specs.Prelude.{is_some, not}
use Rattle.std.specs.Option.{option_map, option_map_or}
use Rattle.std.proofs.lemmas.Bool.{eqb-false}
use Rattle.std.proofs.lemmas.List.{take_more, drop_more, length-map, map-append, get_or-map}
use Rattle.serde_json.specs.Data.{Data, null, boolean, number, string, array, object, Items}
use Rattle.serde_json.specs.Find.{as_array}
use Rattle.std.specs.Prelude.{String, string_bytes}
use Rattle.std.specs.declared.alloc.Global.{Global}
use Rattle.ja_cert_json.specs.declared.value.Json.{Json}
use Rattle.serde_json.specs.View.{items_of}
use Rattle.ja_cert_json.specs.View.{members_view, view}
use Rattle.ja_prim.specs.Texts.{same_text}
use Rattle.ja_cert.specs.Certificate.{listed}
use Rattle.ja_cert.specs.Wrong.{Path, MemberWrong, at, here, here_unless, or_else, list_in, list_of, list_wrong, members_in, members_wrong}
use Rattle.ja_cert_parts.specs.code.Objects.{is_list_of}
use Rattle.ja_cert_parts.specs.code.Reading.{Tells}
use Rattle.ja_cert_parts.specs.declared.fault.Fault.{Fault}
use Rattle.ja_cert_parts.proofs.FaultLemmas.{or_else_left, or_else_right, or_else_none, none_later, tells_any, tells_first, tells_of, tells_same}

-- ---- lists

pub list_in_items : (ds : List Data) → list_in (items_of ds) ≡ ds
list_in_items [] = refl
list_in_items (d ∷ ds) = ap (λ (es : List Data). d ∷ es) (list_in_items ds)

pub list_of_listed : (ds : List Data) → list_of (listed ds) ≡ Some ds
list_of_listed ds = ap (λ (es : List Data). Some es) (list_in_items ds)

array_is : (d : Data) (items : Items) → Some items ≡ as_array d → array items ≡ d
array_is null items is = absurd (cc)
array_is (boolean b) items is = absurd (cc)
array_is (number n) items is = absurd (cc)
array_is (string s) items is = absurd (cc)
array_is (array more) items is = cc
array_is (object ms) items is = absurd (cc)

-- what `as_array` finds
pub list_is : (d : Data) (ds : List Data) → Some (items_of ds) ≡ as_array d
    → (list_of d ≡ Some ds) × (listed ds ≡ d)
list_is d ds is =
    let same : listed ds ≡ d = array_is d (items_of ds) is in
    (ap list_of (sym same) ∙ list_of_listed ds, same)

-- ---- lists of so many

two_items : {X : Type 0} (xs : List X) (a b : X) → length xs ≡ 2 → a ≡ get_or xs 0 a
    → b ≡ get_or xs 1 b → xs ≡ a ∷ b ∷ []
two_items [] a b count p q = absurd (omega arith)
two_items (x ∷ []) a b count p q = absurd (omega arith)
two_items (x ∷ y ∷ []) a b count p q = λ i. (sym p) i ∷ (sym q) i ∷ []
two_items (x ∷ y ∷ z ∷ xs) a b count p q = absurd (omega arith)

four_items : {X : Type 0} (xs : List X) (a b c d : X) → length xs ≡ 4 → a ≡ get_or xs 0 a
    → b ≡ get_or xs 1 b → c ≡ get_or xs 2 c → d ≡ get_or xs 3 d → xs ≡ a ∷ b ∷ c ∷ d ∷ []
four_items [] a b c d count p q r s = absurd (omega arith)
four_items (x ∷ []) a b c d count p q r s = absurd (omega arith)
four_items (x ∷ y ∷ xs) a b c d count p q r s =
    λ i. (sym p) i ∷ (sym q) i ∷ two_items xs c d (omega arith) r s i

pub six_items : {X : Type 0} (xs : List X) (a b c d e f : X) → length xs ≡ 6
    → a ≡ get_or xs 0 a → b ≡ get_or xs 1 b → c ≡ get_or xs 2 c → d ≡ get_or xs 3 d
    → e ≡ get_or xs 4 e → f ≡ get_or xs 5 f → xs ≡ a ∷ b ∷ c ∷ d ∷ e ∷ f ∷ []
six_items [] a b c d e f count p q r s t u = absurd (omega arith)
six_items (x ∷ []) a b c d e f count p q r s t u = absurd (omega arith)
six_items (x ∷ y ∷ xs) a b c d e f count p q r s t u =
    λ i. (sym p) i ∷ (sym q) i ∷ four_items xs c d e f (omega arith) r s t u i

pub told_list : (n : ℕ) (d : Data) (f : Fault) → Tells (here_unless (is_some (list_of d))) f
    → Tells (here_unless (is_list_of n d)) f
told_list n d f told = by_list (list_of d) told
  where
    by_list : (o : Option (List Data)) → Tells (here_unless (is_some o)) f
        → Tells (here_unless (option_map_or (λ (ds : List Data). length ds == n) o false)) f
    by_list None told = told
    by_list (Some ds) told = tells_any (here_unless (length ds == n)) f told

-- what is wrong of a list that has another length
pub told_fields : (n : ℕ) (rest : List Data → Option Path) (d : Data) (f : Fault)
    → ((ds : List Data) → length ds ≢ n → rest ds ≡ here)
    → Tells (here_unless (is_list_of n d)) f → Tells (option_map_or rest (list_of d) here) f
told_fields n rest d f other told = by_list (list_of d) told
  where
    by_length : (ds : List Data) (b : Bool) → (length ds == n) ≡ b → Tells (here_unless b) f
        → Tells (rest ds) f
    by_length ds true is told = tells_any (rest ds) f told
    by_length ds false is told =
        tells_same here (rest ds) f (sym (other ds (eqb-false _ _ is))) told

    by_list : (o : Option (List Data))
        → Tells (here_unless (option_map_or (λ (ds : List Data). length ds == n) o false)) f
        → Tells (option_map_or rest o here) f
    by_list None told = told
    by_list (Some ds) told = by_length ds (length ds == n) refl told

-- ---- members that were read one after another

right_append : (f : MemberWrong) (before xs ys : List Data) → members_wrong f before xs ≡ None
    → members_wrong f before (xs ++ ys) ≡ members_wrong f (before ++ xs) ys
unfolding members_wrong
right_append f before [] ys right =
    ap (λ (ds : List Data). members_wrong f ds ys) (sym (append-nil before))
right_append f before (x ∷ xs) ys right =
    or_else_none (at (length before) (f before x)) (members_wrong f (before ++ x ∷ []) (xs ++ ys))
    (or_else_left (at (length before) (f before x)) (members_wrong f (before ++ x ∷ []) xs) right)
    ∙ right_append f (before ++ x ∷ []) xs ys
    (or_else_right (at (length before) (f before x)) (members_wrong f (before ++ x ∷ []) xs) right)
    ∙ ap (λ (ds : List Data). members_wrong f ds ys) (append_assoc before (x ∷ []) xs)

right_none : (f : MemberWrong) (before : List Data) → members_wrong f before [] ≡ None
unfolding members_wrong
right_none f before = refl

right_more : (f : MemberWrong) (xs : List Data) (d : Data) → members_wrong f [] xs ≡ None
    → f xs d ≡ None → members_wrong f [] (xs ++ d ∷ []) ≡ None
unfolding members_wrong
right_more f xs d right next =
    right_append f [] xs (d ∷ []) right
    ∙ none_later (at (length xs) (f xs d)) None (ap (at (length xs)) next) refl

wrong_at : (f : MemberWrong) (xs ys : List Data) (d : Data) (e : Fault)
    → members_wrong f [] xs ≡ None → Tells (at (length xs) (f xs d)) e
    → Tells (members_wrong f [] (xs ++ d ∷ ys)) e
unfolding members_wrong
wrong_at f xs ys d e right told =
    tells_same
    (or_else (at (length xs) (f xs d)) (members_wrong f (xs ++ d ∷ []) ys))
    (members_wrong f [] (xs ++ d ∷ ys)) e (sym (right_append f [] xs (d ∷ ys) right))
    (tells_first (at (length xs) (f xs d)) (members_wrong f (xs ++ d ∷ []) ys) e told)

-- ---- a list that is read

split_at : {X Y : Type 0} (h : X → Y) (xs : List X) (i : ℕ) (x : X) → i < length xs
    → x ≡ get_or xs i x
    → map h xs ≡ take i (map h xs) ++ h x ∷ drop (suc i) (map h xs)
split_at h [] i x within is = absurd (omega arith)
split_at h (y ∷ xs) zero x within is = ap (λ z. h z ∷ map h xs) (sym is)
split_at h (y ∷ xs) (suc i) x within is =
    ap (λ ys. h y ∷ ys) (split_at h xs i x (omega arith) is)

take_next : {X Y : Type 0} (h : X → Y) (xs : List X) (i : ℕ) (x : X) → i < length xs
    → x ≡ get_or xs i x → take (i + 1) (map h xs) ≡ take i (map h xs) ++ h x ∷ []
take_next h xs i x within is =
    take_more (map h xs) i (h x) (omega (arith, length-map xs h))
    ∙ ap (λ y. take i (map h xs) ++ y ∷ []) (get_or-map h xs i x (h x) within ∙ ap h (sym is))

pub wrong_in_list : {X : Type 0} (f : MemberWrong) (h : X → Data) (d : Data) (xs : List X)
    (front : List Data) (i n : ℕ) (x : X) (e : Fault) → list_of d ≡ Some (map h xs)
    → i < length xs → x ≡ get_or xs i x → front ≡ take i (map h xs)
    → members_wrong f [] front ≡ None → n ≡ length front → Tells (at n (f front (h x))) e
    → Tells (list_wrong f d) e
wrong_in_list f h d xs front i n x e list within is so_far right counted told =
    let P : ℕ → Type 0 = λ m. Tells (at m (f front (h x))) e in
    let split : map h xs ≡ front ++ h x ∷ drop (suc i) (map h xs) = split_at h xs i x within is
    ∙ ap (λ ds. ds ++ h x ∷ drop (suc i) (map h xs)) (sym so_far) in
    tells_of (list_of d) (map h xs) (members_wrong f []) e list
    (tells_same (members_wrong f [] (front ++ h x ∷ drop (suc i) (map h xs)))
    (members_wrong f [] (map h xs)) e (ap (members_wrong f []) (sym split))
    (wrong_at f front (drop (suc i) (map h xs)) (h x) e right (subst P counted told)))

-- one member more
pub read_more : {X M : Type 0} (f : MemberWrong) (h : X → Data) (g : M → Data) (xs : List X)
    (ms all : List M) (m : M) (i : ℕ) (x : X) → i < length xs → x ≡ get_or xs i x
    → (map g ms ≡ take i (map h xs)) × (members_wrong f [] (map g ms) ≡ None)
    → all ≡ ms ++ m ∷ [] → f (map g ms) (h x) ≡ None → g m ≡ h x
    → (map g all ≡ take (i + 1) (map h xs)) × (members_wrong f [] (map g all) ≡ None)
read_more f h g xs ms all m i x within is so_far more right same =
    let listed_so : map g all ≡ map g ms ++ h x ∷ [] = ap (map g) more ∙ map-append g ms (m ∷ [])
    ∙ ap (λ d. map g ms ++ d ∷ []) same in (
      listed_so ∙ ap (λ ds. ds ++ h x ∷ []) so_far.0 ∙ sym (take_next h xs i x within is),
      ap (members_wrong f []) listed_so ∙ right_more f (map g ms) (h x) so_far.1 right,
    )

pub read_none : {M : Type 0} (f : MemberWrong) (g : M → Data) (ms : List M) → ms ≡ []
    → (map g ms ≡ []) × (members_wrong f [] (map g ms) ≡ None)
read_none f g ms none =
    (ap (map g) none, ap (λ ns. members_wrong f [] (map g ns)) none ∙ right_none f [])

-- ---- the members of an object

pub lacks_member : (names : List (List ℕ)) (i : ℕ) (es : List (String Global × Json))
    (whole : Option (List Data)) (front : List Data) → i < length names → es ≡ []
    → whole ≡ option_map (λ (ds : List Data). front ++ ds)
    (members_in (drop i names) (members_view es)) → is_some whole ≡ false
lacks_member names i es whole front within none so_far =
    let e : members_in (drop i names) (members_view es) ≡ None =
    ap (λ (ns : List (List ℕ)). members_in ns (members_view es)) (drop_more names i [] within)
    ∙ ap (λ (fs : List (String Global × Json)).
    members_in (get_or names i [] ∷ drop (i + 1) names) (members_view fs)) none in
    ap is_some (so_far ∙ ap (option_map (λ (ds : List Data). front ++ ds)) e)

named_next : (names : List (List ℕ)) (i : ℕ) (es rest : List (String Global × Json))
    (k : String Global) (v : Json) (b : Bool) → i < length names → es ≡ (k, v) ∷ rest
    → same_text (string_bytes k) (get_or names i []) ≡ b
    → members_in (drop i names) (members_view es)
    ≡ cond b (option_map (λ (ds : List Data). view v ∷ ds)
    (members_in (drop (i + 1) names) (members_view rest))) None
named_next names i es rest k v b within next is =
    ap (λ (ns : List (List ℕ)). members_in ns (members_view es)) (drop_more names i [] within)
    ∙ ap (λ (fs : List (String Global × Json)).
    members_in (get_or names i [] ∷ drop (i + 1) names) (members_view fs)) next
    ∙ ap (λ (t : Bool). cond t (option_map (λ (ds : List Data). view v ∷ ds)
    (members_in (drop (i + 1) names) (members_view rest))) None) is

pub other_member : (names : List (List ℕ)) (i : ℕ) (es rest : List (String Global × Json))
    (k : String Global) (v : Json) (whole : Option (List Data)) (front : List Data)
    → i < length names → es ≡ (k, v) ∷ rest
    → same_text (string_bytes k) (get_or names i []) ≡ false
    → whole ≡ option_map (λ (ds : List Data). front ++ ds)
    (members_in (drop i names) (members_view es)) → is_some whole ≡ false
other_member names i es rest k v whole front within next is so_far =
    ap is_some (so_far ∙ ap (option_map (λ (ds : List Data). front ++ ds))
    (named_next names i es rest k v false within next is))

behind_more : (front : List Data) (d : Data) (o : Option (List Data))
    → option_map (λ (ds : List Data). front ++ ds) (option_map (λ (ds : List Data). d ∷ ds) o)
    ≡ option_map (λ (ds : List Data). (front ++ d ∷ []) ++ ds) o
behind_more front d None = refl
behind_more front d (Some ds) =
    ap (λ (es : List Data). Some es) (sym (append_assoc front (d ∷ []) ds))

pub next_member : {B : Type 0} (g : B → Data) (names : List (List ℕ)) (i : ℕ)
    (es rest : List (String Global × Json)) (k : String Global) (v : Json)
    (whole : Option (List Data)) (bs all : List B) (b : B) → i < length names
    → es ≡ (k, v) ∷ rest → same_text (string_bytes k) (get_or names i []) ≡ true
    → all ≡ bs ++ b ∷ [] → g b ≡ view v
    → whole ≡ option_map (λ (ds : List Data). map g bs ++ ds)
    (members_in (drop i names) (members_view es))
    → whole ≡ option_map (λ (ds : List Data). map g all ++ ds)
    (members_in (drop (i + 1) names) (members_view rest))
next_member g names i es rest k v whole bs all b within next is more same so_far =
    so_far ∙ ap (option_map (λ (ds : List Data). map g bs ++ ds))
    (named_next names i es rest k v true within next is)
    ∙ behind_more (map g bs) (view v) (members_in (drop (i + 1) names) (members_view rest))
    ∙ ap (λ (front : List Data). option_map (λ (ds : List Data). front ++ ds)
    (members_in (drop (i + 1) names) (members_view rest)))
    (sym (ap (map g) more ∙ map-append g bs (b ∷ []) ∙ ap (λ (d : Data). map g bs ++ d ∷ []) same))

-- the test of a name, which is the i-th of some
pub key_test : {K : Type 0} (f : K → List ℕ) (keys : List K) (i : ℕ) (k : K) (v w : List ℕ)
    (b : Bool) → i < length keys → v ≡ w → same_text v (f (get_or keys i k)) ≡ b
    → same_text w (get_or (map f keys) i []) ≡ b
key_test f keys i k v w b within same is =
    ap (λ (u : List ℕ). same_text w u) (get_or-map f keys i k [] within)
    ∙ ap (λ (u : List ℕ). same_text u (f (get_or keys i k))) (sym same) ∙ is

pub not_true : (b : Bool) → not b ≡ true → b ≡ false
not_true true is = absurd (cc)
not_true false is = refl

pub not_false : (b : Bool) → not b ≡ false → b ≡ true
not_false true is = refl
not_false false is = absurd (cc)
