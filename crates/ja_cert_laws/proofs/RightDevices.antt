-- The devices of a program are written as a certificate has them.
use Rattle.std.proofs.Common.{◌≡◌, ◌<◌, ◌≤◌, ◌==◌, ℕ, zero, suc, Bool, true, false, not, ◌||◌, cond, List, [], ◌∷◌, ◌++◌, map, length, Option, Some, None, refl, sym, ap, subst, ◌∙◌, inl, inr, append_assoc, append-nil, arith}
use Rattle.std.specs.Prelude.{is_some, nat_lt, slice_get}
use Rattle.std.specs.List.{list_any, AllByRecursion}
use Rattle.std.specs.Option.{option_map_or}
use Rattle.std.proofs.lemmas.Bool.{and_from, and_parts, cases_Bool, false≢true, lt-ltb, ne_eqb}
use Rattle.std.proofs.lemmas.List.{length-append, length-map, map-append}
use Rattle.std.proofs.lemmas.Option.{slice_get_within}
use lib.Chars.{codes}
use Rattle.serde_json.specs.Data.{Data, string}
use Rattle.ja_prim.specs.Texts.{same_text}
use Rattle.ja_prim.specs.declared.signature.Kinds.{Kinds}
use Rattle.ja_prim.specs.declared.signature.Signature.{Signature}
use Rattle.ja_graph.specs.declared.program.TheConstants.{MAX_DEVICES}
use Rattle.ja_abstract.proofs.Texts.{text_same}
use Rattle.ja_device.specs.Signatures.{has_kind, is_fit, is_identifier, AreDistinct, AreSignatures}
use Rattle.ja_report.specs.Report.{kind_parts}
use Rattle.ja_report.specs.Texts.{part}
use Rattle.ja_cert.specs.Certificate.{device_data, listed}
use Rattle.ja_cert.specs.Wrong as wrong
use Rattle.ja_cert.specs.Wrong.{at, device_name_is, device_wrong, has_name, here_unless, is_empty_list, kind_number, kind_words, kind_wrong, list_wrong, members_wrong, or_else, position}
use Rattle.ja_cert_laws.proofs.Climbing.{from_first, later_from, list_right, one_from, AreFrom, Climbs, IsRight}
use Rattle.ja_cert_laws.proofs.Members.{list_is}
use Rattle.ja_cert_read.proofs.Told as told

-- ---- kinds of answers

abbrev From : ℕ → List Data → Type 0
From = AreFrom kind_wrong kind_number

kind_right : (k : ℕ) (w : List ℕ) → position kind_words w ≡ Some k
    → (kind_number (string w) ≡ k ∷ []) × IsRight kind_wrong kind_number (string w)
unfolding kind_wrong
kind_right k w place = (
  ap (λ (o : Option ℕ). option_map_or (λ (n : ℕ). n ∷ []) o []) place,
  (λ before above. ap here_unless (and_from _ _ (ap (λ (o : Option ℕ). is_some o) place) above)),
)

kind_from : (k : ℕ) (b : Bool) (w : List ℕ) (ds : List Data) → position kind_words w ≡ Some k
    → From (suc k) ds → From k (map string (part b w) ++ ds)
kind_from k true w ds place rest =
    let right = kind_right k w place in
    one_from kind_wrong kind_number k (string w) ds right.0 right.1 rest
kind_from k false w ds place rest =
    later_from kind_wrong kind_number k (suc k) ds (omega arith) rest

kinds_apart : (u n b m t : List (List ℕ)) → map string ((((u ++ n) ++ b) ++ m) ++ t)
    ≡ map string u ++ (map string n ++ (map string b ++ (map string m ++ (map string t ++ []))))
kinds_apart u n b m t = simp (map-append, append_assoc, append-nil)

kinds_right : (k : Kinds) → list_wrong kind_wrong (listed (map string (kind_parts k))) ≡ None
unfolding kind_parts position
kinds_right k =
    let from : From 0 (map string (part k.undefined (codes "undefined"))
    ++ (map string (part k.null (codes "null")) ++ (map string (part k.boolean (codes "boolean"))
    ++ (map string (part k.number (codes "number"))
    ++ (map string (part k.text (codes "string")) ++ []))))) =
    kind_from 0 k.undefined (codes "undefined") _ refl
    (kind_from 1 k.null (codes "null") _ refl (kind_from 2 k.boolean (codes "boolean") _ refl
    (kind_from 3 k.number (codes "number") _ refl (kind_from 4 k.text (codes "string") [] refl
    (λ last bound. tt))))) in
    list_right kind_wrong kind_number _
    (subst (Climbs kind_wrong kind_number None)
    (sym (kinds_apart (part k.undefined (codes "undefined")) (part k.null (codes "null"))
    (part k.boolean (codes "boolean")) (part k.number (codes "number"))
    (part k.text (codes "string"))))
    (from_first kind_wrong kind_number _ from))

some_of : (u n b m t : Bool) (v w x y z : List ℕ) → (u || n || b || m || t) ≡ true
    → 0 < length (part u v ++ part n w ++ part b x ++ part m y ++ part t z)
some_of true n b m t v w x y z h = omega arith
some_of false true b m t v w x y z h = omega arith
some_of false false true m t v w x y z h = omega arith
some_of false false false true t v w x y z h = omega arith
some_of false false false false true v w x y z h = omega arith
some_of false false false false false v w x y z h = absurd (false≢true h)

kinds_some : (k : Kinds) → has_kind k ≡ true
    → is_empty_list (listed (map string (kind_parts k))) ≡ false
unfolding kind_parts
kinds_some k h =
    let some : 0 < length (kind_parts k) =
    some_of k.undefined k.null k.boolean k.number k.text (codes "undefined") (codes "null")
    (codes "boolean") (codes "number") (codes "string") h in
    ap (λ (ds : List Data). length ds == 0) (list_is (map string (kind_parts k)))
    ∙ ne_eqb (length (map string (kind_parts k))) 0
    (λ none. omega (arith, none, some, length-map (kind_parts k) string))

-- ---- names

none_named : (name : List ℕ) (before : List Signature)
    → ((i : ℕ) (t : Signature) → slice_get before i ≡ Some t → t.name ≡ name → ⊥)
    → list_any (has_name name) (map device_data before) ≡ false
unfolding device_data
none_named name [] other = refl
none_named name (s ∷ before) other =
    let here : same_text name s.name ≡ false = elim (cases_Bool (same_text name s.name)) [
      | inl same ↦ absurd (other 0 s refl (sym (text_same name s.name same)))
      | inr not ↦ not
    ] in
    let rest = none_named name before (λ i t is. other (suc i) t is) in
    λ i. here i || rest i

-- ---- devices

device_right : (before : List Signature) (s : Signature) → length before < MAX_DEVICES
    → is_fit s ≡ true
    → ((i : ℕ) (t : Signature) → slice_get before i ≡ Some t → t.name ≡ s.name → ⊥)
    → device_wrong (map device_data before) (device_data s) ≡ None
unfolding device_wrong device_data
device_right before s few fit other =
    let both = and_parts (is_identifier s.name) (has_kind s.kinds) fit in
    let count : nat_lt (length (map device_data before)) MAX_DEVICES ≡ true =
    lt-ltb (length (map device_data before)) MAX_DEVICES
    (omega (arith, few, length-map before device_data)) in
    let named : device_name_is (map device_data before) s.name ≡ true =
    and_from _ _ both.0 (ap not (none_named s.name before other)) in
    ap (λ b. cond b (or_else (at 0 (here_unless (device_name_is (map device_data before) s.name)))
    (or_else (at 1 (here_unless (not (is_empty_list (listed (map string (kind_parts s.kinds)))))))
    (or_else (at 1 (list_wrong kind_wrong (listed (map string (kind_parts s.kinds))))) None)))
    wrong.here) count
    ∙ told.all_right (at 0 (here_unless (device_name_is (map device_data before) s.name))
    ∷ at 1 (here_unless (not (is_empty_list (listed (map string (kind_parts s.kinds))))))
    ∷ at 1 (list_wrong kind_wrong (listed (map string (kind_parts s.kinds)))) ∷ []) (
      ap (λ b. at 0 (here_unless b)) named,
      (
        ap (λ b. at 1 (here_unless (not b))) (kinds_some s.kinds both.1),
        (ap (at 1) (kinds_right s.kinds), tt),
      ),
    )

stands : (before : List Signature) (s : Signature) (more : List Signature)
    → slice_get (before ++ s ∷ more) (length before) ≡ Some s
stands [] s more = refl
stands (t ∷ before) s more = stands before s more

among : (before more : List Signature) (i : ℕ) (t : Signature) → slice_get before i ≡ Some t
    → slice_get (before ++ more) i ≡ Some t
among [] more i t is = absurd (cc)
among (s ∷ before) more zero t is = is
among (s ∷ before) more (suc i) t is = among before more i t is

devices_behind : (before ss : List Signature) → length (before ++ ss) ≤ MAX_DEVICES
    → AllByRecursion (λ (s : Signature). is_fit s ≡ true) ss → AreDistinct (before ++ ss)
    → members_wrong device_wrong (map device_data before) (map device_data ss) ≡ None
unfolding members_wrong
devices_behind before [] few fit distinct = refl
devices_behind before (s ∷ ss) few fit distinct =
    let right = device_right before s (omega (arith, few, length-append before (s ∷ ss))) fit.0
    (λ i t is same.
    let low = slice_get_within before i t is in
    let place = distinct i (length before) t s (among before (s ∷ ss) i t is)
    (stands before s ss) same in
    omega (arith, low, place)) in
    let next : (before ++ s ∷ []) ++ ss ≡ before ++ s ∷ ss = append_assoc before (s ∷ []) ss in
    ap (λ w. or_else (at (length (map device_data before)) w)
    (members_wrong device_wrong (map device_data before ++ device_data s ∷ [])
    (map device_data ss))) right
    ∙ ap (λ ds. members_wrong device_wrong ds (map device_data ss))
    (sym (map-append device_data before (s ∷ [])))
    ∙ devices_behind (before ++ s ∷ []) ss (omega (arith, few, ap length next)) fit.1
    (subst AreDistinct (sym next) distinct)

pub devices_right : (ss : List Signature) → AreSignatures ss
    → list_wrong device_wrong (listed (map device_data ss)) ≡ None
devices_right ss h =
    ap (members_wrong device_wrong []) (list_is (map device_data ss))
    ∙ devices_behind [] ss h.few h.fit h.distinct
