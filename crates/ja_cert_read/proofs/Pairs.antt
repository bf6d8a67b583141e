-- The labels and keys of a program, in the order of their numbers.
use Rattle.std.proofs.Common.{◌≡◌, ◌<◌, ◌≤◌, ◌+◌, ◌*◌, ◌&&◌, ℕ, true, List, [], ◌∷◌, map, length, refl, ap, sym, subst, inl, inr, arith}
use Rattle.std.specs.Prelude.{IsTrue}
use Rattle.std.specs.List.{range_with_len}
use Rattle.std.proofs.lemmas.Bool.{and_parts, ltb-true}
use Rattle.ja_base.specs.declared.ids.Label.{Label}
use Rattle.ja_graph.specs.declared.program.Program.{Program}
use Rattle.ja_abstract.specs.declared.abstraction.Key.{Key}
use Rattle.ja_abstract.specs.declared.abstraction.Key.TheVariants as key
use Rattle.ja_abstract.specs.declared.abstraction.Slot.TheVariants as slot
use Rattle.ja_abstract.specs.AbstractValue.{same_label}
use Rattle.ja_abstract.specs.AbstractState.{label_number, labels_of, labels_below, keys_of, keys_below, name_key, is_key, is_label, same_key}
use Rattle.ja_abstract.specs.Lists.{Member}
use Rattle.ja_abstract.proofs.Keys.{same_key-true}
use Rattle.ja_abstract.proofs.Labels.{label_parts, same_label-true, site_labels}
use Rattle.ja_abstract.proofs.WritesInProgram.{labels_are_labels}
use Rattle.ja_abstract.proofs.Lists.{member-append_left, member-append_right, member-flat_map, member-map}
use Rattle.ja_value.specs.Labels.{label_at}
use Rattle.ja_value.proofs.LabelLemmas.{labels_range, number_label}
use Rattle.ja_table.proofs.Ascending.{of_member, from_map, from_range, number_listed, Ascends, ascends-append, ascends-flat_map, ascends-map, ascends-range}
use Rattle.ja_cert_read.proofs.Below.{IsBelow, below_first, below_second}
use Rattle.ja_cert_read.proofs.Listing.{pairs}
use Rattle.ja_table.proofs.ListedContexts.{label_before, labels_ascend}

-- ---- numbers and sites

abbrev pub number_rank : ℕ → List ℕ
number_rank n = n ∷ []

pub numbers_ascend : (n : ℕ) → Ascends (λ (i j : ℕ). IsBelow (number_rank i) (number_rank j))
    (range_with_len 0 n)
numbers_ascend n =
    subst (Ascends (λ (i j : ℕ). IsBelow (number_rank i) (number_rank j)))
    (same (range_with_len 0 n))
    (ascends-map (λ i j. i < j) (λ (i j : ℕ). IsBelow (number_rank i) (number_rank j))
    (λ (i : ℕ). i) (λ i j h. below_first i j [] [] h) (range_with_len 0 n) (ascends-range 0 n))
  where
    same : (xs : List ℕ) → map (λ (i : ℕ). i) xs ≡ xs
    same [] = refl
    same (x ∷ xs) = ap (λ (ys : List ℕ). x ∷ ys) (same xs)

-- ---- labels

pub label_listed : (p : Program) (l : Label) → IsTrue (is_label p l) → Member l (labels_of p)
label_listed p l h =
    member-flat_map site_labels l.site.0 l (range_with_len 0 (length p.sites))
    (number_listed (length p.sites) l.site.0 (ltb-true l.site.0 (length p.sites) h))
    (elim (label_parts l l.site refl) [
      | inl e ↦ inr (inl (sym e))
      | inr e ↦ inl (sym e)
    ])

pub labels_are : (p : Program) (l : Label) → Member l (labels_of p) → IsTrue (is_label p l)
labels_are p l m =
    of_member (λ (m : Label). IsTrue (is_label p m)) (labels_of p) l (labels_are_labels p) m

-- ---- keys: names by their numbers, and then the others

abbrev pub key_place : ℕ → Key → ℕ
key_place names (key.Name n) = n.0
key_place names key.OtherIndex = names
key_place names key.OtherName = names + 1
key_place names (key.Slot slot.Prototype) = names + 2
key_place names (key.Slot slot.Outer) = names + 3
key_place names (key.Slot slot.Scope) = names + 4
key_place names (key.Slot slot.Value) = names + 5

abbrev other_keys : List Key
other_keys =
    key.OtherIndex ∷ key.OtherName ∷ key.Slot slot.Prototype ∷ key.Slot slot.Outer
    ∷ key.Slot slot.Scope ∷ key.Slot slot.Value ∷ []

abbrev key_before : ℕ → Key → Key → Type 0
key_before names j k = key_place names j < key_place names k

others_ascend : (n : ℕ) → Ascends (key_before n) other_keys
others_ascend n = (
  (omega arith, (omega arith, (omega arith, (omega arith, (omega arith, tt))))),
  (
    (omega arith, (omega arith, (omega arith, (omega arith, tt)))),
    (
      (omega arith, (omega arith, (omega arith, tt))),
      ((omega arith, (omega arith, tt)), ((omega arith, tt), (tt, tt))),
    ),
  ),
)

others_behind : (n : ℕ) (k : Key) → Member k other_keys → n ≤ key_place n k
others_behind n k (inl e) = subst (λ (j : Key). n ≤ key_place n j) e (omega arith)
others_behind n k (inr (inl e)) = subst (λ (j : Key). n ≤ key_place n j) e (omega arith)
others_behind n k (inr (inr (inl e))) = subst (λ (j : Key). n ≤ key_place n j) e (omega arith)
others_behind n k (inr (inr (inr (inl e)))) =
    subst (λ (j : Key). n ≤ key_place n j) e (omega arith)
others_behind n k (inr (inr (inr (inr (inl e))))) =
    subst (λ (j : Key). n ≤ key_place n j) e (omega arith)
others_behind n k (inr (inr (inr (inr (inr (inl e)))))) =
    subst (λ (j : Key). n ≤ key_place n j) e (omega arith)
others_behind n k (inr (inr (inr (inr (inr (inr m)))))) = elim m [ ]

names_before : (n : ℕ) (k : Key) → Member k (map name_key (range_with_len 0 n)) → key_place n k < n
names_before n k m =
    let from = from_map name_key k (range_with_len 0 n) m in
    let range = from_range 0 n from.0 from.1 in
    subst (λ (j : Key). key_place n j < n) from.2 (omega (arith, range.1))

keys_ascend : (n : ℕ) → Ascends (key_before n) (keys_below n)
keys_ascend n =
    ascends-append (key_before n) (map name_key (range_with_len 0 n)) other_keys
    (ascends-map (λ i j. i < j) (key_before n) name_key (λ i j h. h) (range_with_len 0 n)
    (ascends-range 0 n)) (others_ascend n)
    (λ j k l m. omega (arith, names_before n j l, others_behind n k m))

pub key_listed : (p : Program) (k : Key) → IsTrue (is_key p k) → Member k (keys_of p)
key_listed p (key.Name n) h =
    member-append_left (key.Name n) (map name_key (range_with_len 0 (length p.names))) other_keys
    (member-map name_key n.0 (range_with_len 0 (length p.names))
    (number_listed (length p.names) n.0 (ltb-true n.0 (length p.names) h)))
key_listed p key.OtherIndex h =
    member-append_right key.OtherIndex (map name_key (range_with_len 0 (length p.names))) other_keys
    (inl refl)
key_listed p key.OtherName h =
    member-append_right key.OtherName (map name_key (range_with_len 0 (length p.names))) other_keys
    (inr (inl refl))
key_listed p (key.Slot slot.Prototype) h =
    member-append_right (key.Slot slot.Prototype)
    (map name_key (range_with_len 0 (length p.names))) other_keys (inr (inr (inl refl)))
key_listed p (key.Slot slot.Outer) h =
    member-append_right (key.Slot slot.Outer) (map name_key (range_with_len 0 (length p.names)))
    other_keys (inr (inr (inr (inl refl))))
key_listed p (key.Slot slot.Scope) h =
    member-append_right (key.Slot slot.Scope) (map name_key (range_with_len 0 (length p.names)))
    other_keys (inr (inr (inr (inr (inl refl)))))
key_listed p (key.Slot slot.Value) h =
    member-append_right (key.Slot slot.Value) (map name_key (range_with_len 0 (length p.names)))
    other_keys (inr (inr (inr (inr (inr (inl refl))))))

-- ---- both

pub pair_true : (l : Label) (k : Key) (pair : Label × Key)
    → (same_label l pair.0 && same_key k pair.1) ≡ true → (l, k) ≡ pair
pair_true l k pair h =
    let parts = and_parts (same_label l pair.0) (same_key k pair.1) h in
    λ i. (same_label-true l pair.0 parts.0 i, same_key-true k pair.1 parts.1 i)

abbrev pub pair_rank : ℕ → Label × Key → List ℕ
pair_rank names pair = label_number pair.0 ∷ key_place names pair.1 ∷ []

abbrev pub pair_before : ℕ → Label × Key → Label × Key → Type 0
pair_before names x y = IsBelow (pair_rank names x) (pair_rank names y)

of_label_ascend : (n : ℕ) (l : Label) → Ascends (pair_before n)
    (map (λ (k : Key). (l, k)) (keys_below n))
of_label_ascend n l =
    ascends-map (key_before n) (pair_before n) (λ (k : Key). (l, k))
    (λ j k h. below_second (label_number l) (label_number l) (key_place n j ∷ [])
    (key_place n k ∷ []) refl (below_first (key_place n j) (key_place n k) [] [] h)) (keys_below n)
    (keys_ascend n)

label_of : (n : ℕ) (l : Label) (pair : Label × Key)
    → Member pair (map (λ (k : Key). (l, k)) (keys_below n)) → l ≡ pair.0
label_of n l pair m =
    let from = from_map (λ (k : Key). (l, k)) pair (keys_below n) m in
    ap (λ (x : Label × Key). x.0) from.2

pub pairs_ascend : (p : Program)
    → Ascends (pair_before (length p.names)) (pairs (labels_of p) (keys_of p))
pairs_ascend p =
    ascends-flat_map label_before (pair_before (length p.names))
    (λ (l : Label). map (λ (k : Key). (l, k)) (keys_of p)) (of_label_ascend (length p.names))
    (λ l m h x y from to. below_first (label_number x.0) (label_number y.0)
    (key_place (length p.names) x.1 ∷ []) (key_place (length p.names) y.1 ∷ [])
    (omega (
      arith,
      h,
      ap label_number (label_of (length p.names) l x from),
      ap label_number (label_of (length p.names) m y to),
    ))) (labels_of p)
    (labels_ascend (length p.sites))

pub pair_listed : (p : Program) (l : Label) (k : Key) → IsTrue (is_label p l) → IsTrue (is_key p k)
    → Member (l, k) (pairs (labels_of p) (keys_of p))
pair_listed p l k label key =
    member-flat_map (λ (m : Label). map (λ (j : Key). (m, j)) (keys_of p)) l (l, k) (labels_of p)
    (label_listed p l label) (member-map (λ (j : Key). (l, j)) k (keys_of p) (key_listed p k key))
