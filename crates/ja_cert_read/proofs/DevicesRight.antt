-- Devices that are listed: their kinds, and that they are those of a program.
use Rattle.std.specs.Prelude.{◌≡◌, ◌<◌, ◌≤◌, ◌+◌, ◌==◌, ◌&&◌, ◌||◌, ℕ, zero, suc, Bool, true, false, not, cond, if◌then◌else◌, List, [], ◌∷◌, ◌++◌, map, filter, length, get_or, nat_lt, slice_get, is_some, Option, Some, None}
use Rattle.std.specs.List.{AllByRecursion, list_any}
use Rattle.std.specs.Option.{option_map, option_map_or}
use Rattle.std.proofs.Common.{refl, sym, subst, ap, ◌∙◌, inl, inr, arith, append_assoc, append-nil, lit<}
use Rattle.std.proofs.lemmas.Bool.{and_from, and_parts, cases_Bool, cases_order, eq-eqb, eqb-true, false≢true, ltb-true, cond-false, cond-true, not-true, or_cases, or_left, or_parts, or_right}
use Rattle.serde_json.specs.Data.{Data, string}
use Rattle.serde_json.specs.Find.{as_array, as_str}
use Rattle.ja_cert_json.specs.declared.value.Json.{Json}
use Rattle.serde_json.specs.View.{items_of}
use Rattle.ja_cert_json.specs.View.{view}
use Rattle.std.proofs.lemmas.List.{length-map, length_push}
use Rattle.ja_base.proofs.Lists.{all_at, map_after}
use Rattle.ja_prim.specs.declared.signature.Kinds.{Kinds}
use Rattle.ja_prim.specs.declared.signature.Signature.{Signature}
use Rattle.ja_prim.specs.Texts.{same_text}
use Rattle.ja_abstract.proofs.Texts.{same_text_refl}
use Rattle.ja_abstract.specs.Lists.{Member}
use Rattle.ja_device.specs.Signatures as device
use Rattle.ja_device.specs.Signatures.{AreSignatures, is_fit, is_identifier}
use Rattle.ja_graph.specs.declared.program.TheConstants.{MAX_DEVICES}
use Rattle.ja_report.specs.Report.{kind_parts}
use Rattle.ja_report.specs.Texts.{part}
use Rattle.ja_table.proofs.Ascending.{ascends-filter, from_filter, member-filter, same_elements, Ascends}
use Rattle.ja_cert_parts.specs.declared.fault.Fault.{Fault}
use Rattle.ja_cert_read.specs.declared.devices.Kind.{Kind}
use Rattle.ja_cert_read.specs.declared.devices.Kind.TheVariants.{Undefined, Null, Boolean, Number, Text}
use Rattle.ja_cert.specs.Certificate.{device_data, listed}
use Rattle.ja_cert.specs.Wrong as wrong
use Rattle.ja_cert.specs.Wrong.{device_wrong, is_above, kind_number, kind_wrong, kind_words, members_wrong, position, position_of}
use Rattle.ja_cert_read.specs.code.Building.{AreRight}
use Rattle.ja_cert_read.specs.code.Orders.{comes_behind}
use Rattle.ja_cert_parts.specs.code.Reading.{Tells}
use Rattle.ja_cert_read.specs.code.Devices.{has_kind, kind_at, kind_data, kind_place, kind_rank, kind_word, kinds_in}
use Rattle.ja_cert_read.proofs.ContextsRight.{list_right}
use Rattle.ja_cert_read.proofs.Orders.{above_behind, ascends_mapped, each_right, less_one, members_parts, pairs_right, rises}
use Rattle.ja_cert_read.proofs.Told.{or_else_none, tells_found, tells_later, tells_missing, tells_same, under_none}
use Rattle.ja_cert_parts.proofs.WordLemmas.{word_is}
use Rattle.ja_cert_parts.proofs.FaultLemmas.{unless_none, tells_first, none_later, tells_any}
use Rattle.ja_cert_parts.proofs.ListLemmas.{list_in_items}

-- ---- kinds, in order

at_its_place : (k : Kind) → kind_at (kind_place k) ≡ k
at_its_place Undefined = refl
at_its_place Null = refl
at_its_place Boolean = refl
at_its_place Number = refl
at_its_place Text = refl

kind_same : (j k : Kind) → (kind_place j == kind_place k) ≡ true → j ≡ k
kind_same j k h =
    sym (at_its_place j) ∙ ap kind_at (eqb-true (kind_place j) (kind_place k) h) ∙ at_its_place k

abbrev all_kinds : List Kind
all_kinds = Undefined ∷ Null ∷ Boolean ∷ Number ∷ Text ∷ []

abbrev KindBefore : Kind → Kind → Type 0
KindBefore j k = kind_place j < kind_place k

all_ascend : Ascends KindBefore all_kinds
all_ascend = (
  (lit< tt, (lit< tt, (lit< tt, (lit< tt, tt)))),
  (
    (lit< tt, (lit< tt, (lit< tt, tt))),
    ((lit< tt, (lit< tt, tt)), ((lit< tt, tt), (tt, tt))),
  ),
)

all_listed : (k : Kind) → Member k all_kinds
all_listed Undefined = inl refl
all_listed Null = inr (inl refl)
all_listed Boolean = inr (inr (inl refl))
all_listed Number = inr (inr (inr (inl refl)))
all_listed Text = inr (inr (inr (inr (inl refl))))

member_from_has : (ks : List Kind) (k : Kind) → has_kind ks k ≡ true → Member k ks
member_from_has [] k h = absurd (cc)
member_from_has (j ∷ ks) k h = elim (or_cases (kind_place j == kind_place k) _ h) [
  | inl here ↦ inl (kind_same j k here)
  | inr later ↦ inr (member_from_has ks k later)
]

has_from_member : (ks : List Kind) (k : Kind) → Member k ks → has_kind ks k ≡ true
has_from_member [] k m = elim m [ ]
has_from_member (j ∷ ks) k (inl e) =
    or_left _ _ (eq-eqb (kind_place j) (kind_place k) (ap kind_place e))
has_from_member (j ∷ ks) k (inr m) =
    or_right (kind_place j == kind_place k) _ (has_from_member ks k m)

kinds_listed : (ks : List Kind) → Ascends KindBefore ks → filter (has_kind ks) all_kinds ≡ ks
kinds_listed ks a =
    same_elements KindBefore (λ j k h i. omega (arith, h, i)) (filter (has_kind ks) all_kinds) ks
    (ascends-filter KindBefore (has_kind ks) all_kinds all_ascend) a
    (λ k m. member_from_has ks k (from_filter (has_kind ks) k all_kinds m).1)
    (λ k m. member-filter (has_kind ks) k all_kinds (all_listed k) (has_from_member ks k m))

one_part : (b : Bool) (k : Kind) (xs : List Kind)
    → part b (kind_word k) ++ map kind_word xs ≡ map kind_word (cond b (k ∷ xs) xs)
one_part true k xs = refl
one_part false k xs = refl

regroup : (a b c d e : List (List ℕ))
    → (((a ++ b) ++ c) ++ d) ++ e ≡ a ++ (b ++ (c ++ (d ++ (e ++ []))))
regroup a b c d e = simp (append_assoc, append-nil)

parts_of_kinds : (ks : List Kind)
    → kind_parts (kinds_in ks) ≡ map kind_word (filter (has_kind ks) all_kinds)
unfolding kind_parts
parts_of_kinds ks =
    let test = has_kind ks in
    let number : List Kind = filter test (Text ∷ []) in
    let boolean : List Kind = filter test (Number ∷ Text ∷ []) in
    let null : List Kind = filter test (Boolean ∷ Number ∷ Text ∷ []) in
    let undefined : List Kind = filter test (Null ∷ Boolean ∷ Number ∷ Text ∷ []) in
    regroup (part (test Undefined) (kind_word Undefined)) (part (test Null) (kind_word Null))
    (part (test Boolean) (kind_word Boolean)) (part (test Number) (kind_word Number))
    (part (test Text) (kind_word Text))
    ∙ ap (λ l. part (test Undefined) (kind_word Undefined)
    ++ (part (test Null) (kind_word Null)
    ++ (part (test Boolean) (kind_word Boolean)
    ++ (part (test Number) (kind_word Number) ++ l)))) (one_part (test Text) Text [])
    ∙ ap (λ l. part (test Undefined) (kind_word Undefined)
    ++ (part (test Null) (kind_word Null)
    ++ (part (test Boolean) (kind_word Boolean) ++ l))) (one_part (test Number) Number number)
    ∙ ap (λ l. part (test Undefined) (kind_word Undefined)
    ++ (part (test Null) (kind_word Null) ++ l)) (one_part (test Boolean) Boolean boolean)
    ∙ ap (λ l. part (test Undefined) (kind_word Undefined) ++ l) (one_part (test Null) Null null)
    ∙ one_part (test Undefined) Undefined undefined

kind_number_is : (k : Kind) → kind_number (kind_data k) ≡ kind_rank k
unfolding position
kind_number_is Undefined = refl
kind_number_is Null = refl
kind_number_is Boolean = refl
kind_number_is Number = refl
kind_number_is Text = refl

kind_ascends : (before : List Data) (d : Data) → kind_wrong before d ≡ None
    → is_above kind_number before d ≡ true
unfolding kind_wrong
kind_ascends before d h =
    let found = is_some (position_of kind_words d) in
    (and_parts found (is_above kind_number before d) (unless_none _ h)).1

kinds_ascend : (ks : List Kind) → AreRight kind_wrong kind_data ks → Ascends KindBefore ks
kinds_ascend ks h =
    ascends_mapped kind_data _ KindBefore (λ j k less. less_one (kind_place j) (kind_place k)
    (rw (kind_number_is j, kind_number_is k) at less)) ks
    (rises kind_wrong kind_number kind_ascends (map kind_data ks) h)

-- the kinds are written as they were read
kinds_written : (ks : List Kind) → AreRight kind_wrong kind_data ks
    → listed (map string (kind_parts (kinds_in ks))) ≡ listed (map kind_data ks)
kinds_written ks h =
    let words : kind_parts (kinds_in ks) ≡ map kind_word ks =
    parts_of_kinds ks ∙ ap (map kind_word) (kinds_listed ks (kinds_ascend ks h)) in
    ap (λ ws. listed (map string ws)) words
    ∙ ap listed (map_after kind_word string kind_data (λ k. refl) ks)

-- ---- devices

no_parts : (k : Kinds) → device.has_kind k ≡ false → kind_parts k ≡ []
unfolding kind_parts
no_parts k h =
    let text = or_parts _ k.text h in
    let number = or_parts _ k.number text.0 in
    let boolean = or_parts _ k.boolean number.0 in
    let null = or_parts k.undefined k.null boolean.0 in
    rw (null.0, null.1, boolean.1, number.1, text.1) refl

some_kind : (k : Kinds) → wrong.is_empty_list (listed (map string (kind_parts k))) ≡ false
    → device.has_kind k ≡ true
some_kind k h = elim (cases_Bool (device.has_kind k)) [
  | inl some ↦ some
  | inr none ↦
      let empty : wrong.is_empty_list (listed (map string (kind_parts k))) ≡ true =
      ap (λ ws. wrong.is_empty_list (listed (map string ws))) (no_parts k none) in
      absurd (cc)
]

-- what isn't wrong of a device behind others
record IsDevice (before : List Data) (s : Signature) : Type 0 where
  pub few : length before < MAX_DEVICES
  pub fit : is_fit s ≡ true
  pub new : list_any (wrong.has_name s.name) before ≡ false

device_is : (before : List Data) (s : Signature) → device_wrong before (device_data s) ≡ None
    → IsDevice before s
unfolding device_data device_wrong
device_is before s h = elim (cases_Bool (nat_lt (length before) MAX_DEVICES)) [
  | inl few ↦
      let fields = sym (cond-true (nat_lt (length before) MAX_DEVICES) _ wrong.here few) ∙ h in
      let a = or_else_none _ _ fields in
      let b = or_else_none _ _ a.1 in
      let name = and_parts (is_identifier s.name) _ (unless_none _ (under_none _ _ a.0)) in
      record {
        few = ltb-true (length before) MAX_DEVICES few;
        fit = and_from (is_identifier s.name) _ name.0 (some_kind s.kinds
            (not-true _ (unless_none _ (under_none _ _ b.0))));
        new = not-true _ name.1;
      }
  | inr many ↦
      let no = sym (cond-false (nat_lt (length before) MAX_DEVICES) _ wrong.here many) ∙ h in
      absurd (cc)
]

few_devices : (before : List Data) (ss : List Signature)
    → members_wrong device_wrong before (map device_data ss) ≡ None → length before ≤ MAX_DEVICES
    → length before + length ss ≤ MAX_DEVICES
few_devices before [] h within = omega (arith, within)
few_devices before (s ∷ ss) h within =
    let parts = members_parts device_wrong before (device_data s) (map device_data ss) h in
    let here = (device_is before s parts.0).few in
    let more = few_devices (before ++ device_data s ∷ []) ss parts.1
    (omega (arith, here, length_push before (device_data s))) in
    omega (arith, more, length_push before (device_data s))

-- the names differ
abbrev Differ : Signature → Signature → Type 0
Differ s t = same_text t.name s.name ≡ false

all_differ : (before : List Signature) (t : Signature)
    → list_any (wrong.has_name t.name) (map device_data before) ≡ false
    → AllByRecursion (λ s. Differ s t) before
unfolding device_data
all_differ [] t h = tt
all_differ (s ∷ before) t h =
    let parts = or_parts (same_text t.name s.name) _ h in (parts.0, all_differ before t parts.1)

ascends_at : {X : Type 0} (R : X → X → Type 0) (xs : List X) (i j : ℕ) (x y : X) → Ascends R xs
    → i < j → slice_get xs i ≡ Some x → slice_get xs j ≡ Some y → R x y
ascends_at R [] i j x y a below x_is y_is = absurd (cc)
ascends_at R (z ∷ zs) zero zero x y a below x_is y_is = absurd (omega (arith, below))
ascends_at R (z ∷ zs) zero (suc j) x y a below x_is y_is =
    let same : z ≡ x = cc in subst (λ w. R w y) same (all_at (R z) zs j y a.0 y_is)
ascends_at R (z ∷ zs) (suc i) zero x y a below x_is y_is = absurd (omega (arith, below))
ascends_at R (z ∷ zs) (suc i) (suc j) x y a below x_is y_is =
    ascends_at R zs i j x y a.1 (omega (arith, below)) x_is y_is

not_both : (s t : Signature) → Differ s t → s.name ≡ t.name → ⊥
not_both s t other same =
    let self : same_text t.name s.name ≡ true =
    subst (λ n. same_text n s.name ≡ true) same (same_text_refl s.name) in
    false≢true (sym other ∙ self)

pub devices_right : (ss : List Signature) → AreRight device_wrong device_data ss → AreSignatures ss
devices_right ss h =
    let apart = (pairs_right device_wrong device_data Differ (λ before t k.
    all_differ before t (device_is (map device_data before) t k).new) [] ss h).0 in
    record {
      few = omega (arith, few_devices [] ss h (omega arith));
      fit = each_right device_wrong device_data (λ s. is_fit s ≡ true)
          (λ before s k. (device_is before s k).fit) [] ss h;
      distinct = λ i j s t s_is t_is same. elim (cases_order i j) [
        | inl e ↦ e
        | inr (inl below) ↦
            absurd (not_both s t (ascends_at Differ ss i j s t apart below s_is t_is) same)
        | inr (inr above) ↦
            absurd (not_both t s (ascends_at Differ ss j i t s apart above t_is s_is) (sym same))
      ];
    }

-- ---- one kind

-- the word at a place is that of the kind there
word_of_kind : (n : ℕ) → n < 5 → kind_word (kind_at n) ≡ get_or kind_words n []
word_of_kind zero low = refl
word_of_kind (suc zero) low = refl
word_of_kind (suc (suc zero)) low = refl
word_of_kind (suc (suc (suc zero))) low = refl
word_of_kind (suc (suc (suc (suc zero)))) low = refl
word_of_kind (suc (suc (suc (suc (suc n))))) low = absurd (omega arith)

pub kind_is : (d : Data) (n : ℕ) → position_of kind_words d ≡ Some n → kind_data (kind_at n) ≡ d
kind_is d n h =
    let word = word_is kind_words d n h in ap string (word_of_kind n word.0) ∙ word.1

pub above_kinds : (before : List Kind) (d : Data) (k : Kind) → kind_data k ≡ d
    → is_above kind_number (map kind_data before) d ≡ comes_behind kind_rank before (kind_rank k)
above_kinds before d k is =
    above_behind kind_data kind_number kind_rank kind_number_is before d (kind_rank k)
    (ap kind_number (sym is) ∙ kind_number_is k)

pub tells_left : (a b : Bool) (f : Fault) → Tells (wrong.here_unless a) f
    → Tells (wrong.here_unless (a && b)) f
tells_left true b f h = tells_any (wrong.here_unless b) f h
tells_left false b f h = h

pub tells_right : (a b : Bool) (f : Fault) → a ≡ true → Tells (wrong.here_unless b) f
    → Tells (wrong.here_unless (a && b)) f
tells_right true b f is h = h
tells_right false b f is h = absurd (cc)

pub both_here : (a b : Bool) → a ≡ true → wrong.here_unless b ≡ None
    → wrong.here_unless (a && b) ≡ None
both_here true b is h = h
both_here false b is h = absurd (cc)

-- ---- the name of a device

names_are : (before : List Signature) (w : List ℕ)
    → list_any (wrong.has_name w) (map device_data before)
    ≡ list_any (λ (s : Signature). same_text w s.name) before
unfolding device_data
names_are [] w = refl
names_are (s ∷ before) w = ap (λ b. same_text w s.name || b) (names_are before w)

pub name_read : (before : List Signature) (d : Data) (w name : List ℕ) (taken : Bool)
    → Some w ≡ as_str d → is_identifier w ≡ true → name ≡ w
    → taken ≡ list_any (λ (s : Signature). same_text name s.name) before
    → not taken ≡ wrong.is_word (wrong.device_name_is (map device_data before)) d
name_read before d w name taken found fit same is =
    let others = map device_data before in
    ap not is ∙ ap (λ n. not (list_any (λ (s : Signature). same_text n s.name) before)) same
    ∙ ap not (sym (names_are before w))
    ∙ ap (λ b. b && not (list_any (wrong.has_name w) others)) (sym fit)
    ∙ ap (λ o. option_map_or (wrong.device_name_is others) o false) found

-- ---- a device behind others

-- with as many before it as there may be at most
pub device_told_many : (before : List Signature) (d : Data) (f : Fault)
    → Tells (wrong.here_unless (nat_lt (length before) MAX_DEVICES)) f
    → Tells (device_wrong (map device_data before) d) f
unfolding device_wrong
device_told_many before d f told =
    many (nat_lt (length (map device_data before)) MAX_DEVICES) _
    (ap (λ n. wrong.here_unless (nat_lt n MAX_DEVICES)) (length-map before device_data)) told
  where
    many : (low : Bool) (a : Option wrong.Path) → wrong.here_unless low ≡ a → Tells a f
        → Tells (if low then option_map_or (wrong.device_fields_wrong (map device_data before))
        (wrong.list_of d) wrong.here else wrong.here) f
    many true a is t = tells_any _ f (tells_same None a f is t)
    many false a is t = tells_same wrong.here a f is t

module _ (before : List Signature) (d : Data)
    (low : wrong.here_unless (nat_lt (length before) MAX_DEVICES) ≡ None) where
  abbrev others : List Data
  others = map device_data before

  by_list : device_wrong others d
      ≡ option_map_or (wrong.device_fields_wrong others) (wrong.list_of d) wrong.here
  unfolding device_wrong
  by_list =
      cond-true (nat_lt (length others) MAX_DEVICES) _ wrong.here
      (ap (λ n. nat_lt n MAX_DEVICES) (length-map before device_data)
      ∙ unless_none (nat_lt (length before) MAX_DEVICES) low)

  pub device_told_list : (f : Fault) → Tells (wrong.here_unless (is_some (wrong.list_of d))) f
      → Tells (device_wrong others d) f
  device_told_list f told =
      tells_same _ _ f by_list
      (tells_missing (wrong.list_of d) (wrong.device_fields_wrong others) f told)

  pub device_told_count : (ds : List Data) (f : Fault) → wrong.list_of d ≡ Some ds
      → (length ds ≡ 2 → ⊥) → Tells wrong.here f → Tells (device_wrong others d) f
  device_told_count ds f found other told =
      tells_same _ _ f by_list
      (tells_found (wrong.list_of d) ds (wrong.device_fields_wrong others) f found
      (tells_same _ wrong.here f (other_count ds other) told))
    where
      other_count : (es : List Data) → (length es ≡ 2 → ⊥)
          → wrong.device_fields_wrong others es ≡ wrong.here
      other_count [] other = refl
      other_count (a ∷ []) other = refl
      other_count (a ∷ b ∷ []) other = absurd (other (omega arith))
      other_count (a ∷ b ∷ c ∷ es) other = refl

  module _ {name kinds : Data} (found : wrong.list_of d ≡ Some (name ∷ kinds ∷ [])) where
    abbrev name_wrong : Option wrong.Path
    name_wrong = wrong.at 0 (wrong.here_unless (wrong.is_word (wrong.device_name_is others) name))

    abbrev kinds_wrong : Option wrong.Path
    kinds_wrong = wrong.or_else (wrong.here_unless (not (wrong.is_empty_list kinds)))
        (wrong.list_wrong kind_wrong kinds)

    device_fields : device_wrong others d ≡ wrong.or_else name_wrong (wrong.at 1 kinds_wrong)
    device_fields =
        by_list ∙ ap (λ o. option_map_or (wrong.device_fields_wrong others) o wrong.here) found
        ∙ ap (wrong.or_else name_wrong) (under_last (wrong.here_unless
        (not (wrong.is_empty_list kinds))) (wrong.list_wrong kind_wrong kinds))
      where
        under_last : (a b : Option wrong.Path) → wrong.or_else (wrong.at 1 a)
            (wrong.or_else (wrong.at 1 b) None) ≡ wrong.at 1 (wrong.or_else a b)
        under_last None None = refl
        under_last None (Some path) = refl
        under_last (Some path) b = refl

    pub device_told_name : (f : Fault) → Tells name_wrong f → Tells (device_wrong others d) f
    device_told_name f told =
        tells_same _ _ f device_fields (tells_first name_wrong (wrong.at 1 kinds_wrong) f told)

    pub device_told_kinds : (f : Fault) → name_wrong ≡ None → Tells (wrong.at 1 kinds_wrong) f
        → Tells (device_wrong others d) f
    device_told_kinds f a told =
        tells_same _ _ f device_fields (tells_later name_wrong (wrong.at 1 kinds_wrong) f a told)

    pub device_right : name_wrong ≡ None → wrong.at 1 kinds_wrong ≡ None
        → device_wrong others d ≡ None
    device_right a b = device_fields ∙ none_later name_wrong (wrong.at 1 kinds_wrong) a b

pub device_written : (s : Signature) (d name kinds : Data) → listed (name ∷ kinds ∷ []) ≡ d
    → string s.name ≡ name → listed (map string (kind_parts s.kinds)) ≡ kinds → device_data s ≡ d
unfolding device_data
device_written s d name kinds is a b = rw (a, b) is

-- whether a list that is found has no element
pub empty_list : (d : Data) (vs : List Json) → Some (items_of (map view vs)) ≡ as_array d
    → wrong.is_empty_list d ≡ (length vs == 0)
empty_list d vs found =
    ap (λ o. option_map_or (λ (ds : List Data). length ds == 0) (option_map wrong.list_in o) false)
    (sym found) ∙ ap (λ (ds : List Data). length ds == 0) (list_in_items (map view vs))
    ∙ ap (λ n. n == 0) (length-map vs view)

-- the kinds of a list that was read
pub kinds_of_list : (d : Data) (ks seen : List Kind) (k : Kinds) → seen ≡ ks → k ≡ kinds_in seen
    → wrong.list_wrong kind_wrong d ≡ None → listed (map kind_data ks) ≡ d
    → listed (map string (kind_parts k)) ≡ d
kinds_of_list d ks seen k same is right written =
    let each = list_right kind_wrong (map kind_data ks) (ap (wrong.list_wrong kind_wrong) written
    ∙ right) in
    ap (λ (j : Kinds). listed (map string (kind_parts j))) (is ∙ ap kinds_in same)
    ∙ kinds_written ks each ∙ written
