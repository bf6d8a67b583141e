-- The parts of a value, taken one after another.
use Rattle.std.proofs.Common.{◌≡◌, ◌≢◌, ℕ, suc, ◌+◌, ◌*◌, ◌<◌, ◌≤◌, ◌==◌, Bool, true, false, ◌||◌, cond, nat_lt, List, [], ◌∷◌, ◌++◌, map, filter, take, length, get_or, Option, Some, None, refl, ap, sym, ◌∙◌, subst, append-nil, append_assoc, arith}
use Rattle.std.specs.Option.{option_map_or}
use Rattle.std.specs.List.{list_any, AllByRecursion}
use Rattle.std.specs.List.Sorted.{IsStrictlySortedBy}
use Rattle.std.specs.Ordering.{nat_cmp}
use Rattle.std.specs.declared.cmp.Ordering.TheVariants.{Less}
use Rattle.std.proofs.lemmas.Bool.{false≢true, lt-ltb, ltb-true}
use Rattle.std.proofs.lemmas.Bool.Decides.{nat_tests}
use Rattle.std.proofs.lemmas.List.{map-append, take_all, take_more}
use Rattle.std.proofs.lemmas.List.Folds.{list_any-append}
use Rattle.ja_base.proofs.Lists.{all_weaker}
use lib.Chars.{codes}
use Rattle.serde_json.specs.Data.{Data, string}
use Rattle.ja_base.specs.declared.ids.Label.{Label}
use Rattle.ja_graph.specs.declared.program.Program.{Program}
use Rattle.ja_abstract.specs.declared.abstraction.Flags.{Flags}
use Rattle.ja_abstract.specs.declared.abstraction.NumberPart.{NumberPart}
use Rattle.ja_abstract.specs.declared.abstraction.NumberPart.TheVariants as number_part
use Rattle.ja_abstract.specs.declared.abstraction.TextPart.{TextPart}
use Rattle.ja_abstract.specs.declared.abstraction.TextPart.TheVariants as text_part
use Rattle.ja_abstract.specs.AbstractValue.{AbstractValue, Labels, same_label}
use Rattle.ja_abstract.specs.AbstractState.{label_number, labels_of, is_label as is_own}
use Rattle.ja_abstract.proofs.Labels.{same_label-true}
use Rattle.ja_value.specs.Labels.{label_at}
use Rattle.ja_value.proofs.LabelLemmas.{below, in_numbers, labels_list}
use Rattle.ja_aheap.proofs.LabelLemmas.{label_number_at, same_label_is}
use Rattle.ja_report.specs.Texts.{part as there, property_parts}
use Rattle.ja_cert.specs.Certificate.{flag_words, label_data, listed, number_words, text_words, value_data}
use Rattle.ja_cert.specs.Wrong.{MemberWrong, here, is_label, list_wrong, members_wrong, part_wrong, position}
use Rattle.ja_cert_parts.specs.code.Own.{HasOwnLabels}
use Rattle.ja_cert_parts.specs.code.Parts.{AreFrom, flag_rank, flag_word, IsPart, labels_among, part_data, rank_of, Takes}
use Rattle.ja_cert_parts.specs.declared.parts.Flag.{Flag}
use Rattle.ja_cert_parts.specs.declared.parts.Flag.TheVariants as flag
use Rattle.ja_cert_parts.specs.declared.parts.Part.{Part}
use Rattle.ja_cert_parts.specs.declared.parts.Part.TheVariants as part
use Rattle.ja_cert_parts.proofs.ListLemmas.{list_of_listed}
use Rattle.ja_cert_parts.proofs.PartLemmas.{right_parts}

-- ---- flags by their ranks

flag_of : ℕ → Flag
flag_of n =
    cond (n == 0) flag.Absent (cond (n == 1) flag.Entry (cond (n == 2) flag.Row
    (cond (n == 3) flag.Undefined (cond (n == 4) flag.Null (cond (n == 5) flag.True
    (cond (n == 6) flag.False flag.NaN))))))

flag_back : (f : Flag) → flag_of (flag_rank f) ≡ f
unfolding flag_of
flag_back flag.Absent = refl
flag_back flag.Entry = refl
flag_back flag.Row = refl
flag_back flag.Undefined = refl
flag_back flag.Null = refl
flag_back flag.True = refl
flag_back flag.False = refl
flag_back flag.NaN = refl

same_flag : (f g : Flag) → flag_rank f ≡ flag_rank g → f ≡ g
same_flag f g same = sym (flag_back f) ∙ ap flag_of same ∙ flag_back g

flag_low : (f : Flag) → flag_rank f < 8
flag_low flag.Absent = omega arith
flag_low flag.Entry = omega arith
flag_low flag.Row = omega arith
flag_low flag.Undefined = omega arith
flag_low flag.Null = omega arith
flag_low flag.True = omega arith
flag_low flag.False = omega arith
flag_low flag.NaN = omega arith

flag_alone : (x : Part) (f : Flag) → rank_of x ≡ flag_rank f → part_data x ≡ string (flag_word f)
flag_alone (part.Flag g) f same = ap (λ (h : Flag). string (flag_word h)) (same_flag g f same)
flag_alone (part.Number n) f same = absurd (omega (arith, flag_low f))
flag_alone (part.Text t) f same = absurd (omega (arith, flag_low f))
flag_alone (part.Label l) f same = absurd (omega (arith, flag_low f))

-- ---- words that are taken

takes_then : (i j k : ℕ) (ws vs : List (List ℕ)) (xs ys zs : List Part) → Takes i j ws xs ys
    → Takes j k vs ys zs → Takes i k (ws ++ vs) xs zs
unfolding Takes
takes_then i j k ws vs xs ys zs first next p from =
    let front = first p from in
    let back = next p front.1 in (
      front.0 ∙ ap (λ (ds : List Data). map string ws ++ ds) back.0
          ∙ sym (append_assoc (map string ws) (map string vs) (map part_data zs))
          ∙ ap (λ (ds : List Data). ds ++ map part_data zs) (sym (map-append string ws vs)),
      back.1,
    )

-- none, of no parts, and of some of which the first has another rank
pub takes_none : (k j : ℕ) (xs : List Part) → length xs ≡ 0 → Takes k j [] xs xs
unfolding Takes AreFrom
takes_none k j [] none p from = (refl, tt)
takes_none k j (x ∷ xs) none p from = absurd (omega arith)

past : (p : Program) (k : ℕ) (x : Part) (xs : List Part) → rank_of x ≢ k → AreFrom p k (x ∷ xs)
    → AreFrom p (suc k) (x ∷ xs)
unfolding AreFrom
past p k x xs other from =
    let low : k ≤ rank_of x = from.0 in (omega arith, from.1, from.2)

pub takes_other : (k : ℕ) (all xs : List Part) (x : Part) → all ≡ x ∷ xs → rank_of x ≢ k
    → Takes k (suc k) [] all all
unfolding Takes
takes_other k all xs x is other =
    let P : List Part → Type 0 = λ ys. Takes k (suc k) [] ys ys in
    subst P (sym is) (λ p from. (refl, past p k x xs other from))

-- the first, where its rank is the first
takes_one : (k : ℕ) (words : List (List ℕ)) (all xs : List Part) (x : Part) → all ≡ x ∷ xs
    → rank_of x ≡ k → ((p : Program) → IsPart p x → part_data x ∷ [] ≡ map string words)
    → Takes k (suc k) words all xs
unfolding Takes AreFrom
takes_one k words all xs x is same written =
    let P : List Part → ℕ → Type 0 = λ ys n. Takes n (suc n) words ys xs in
    let Q : List Part → Type 0 = λ ys. P ys k in
    subst Q (sym is) (subst (P (x ∷ xs)) same
    (λ p from. (ap (λ (ds : List Data). ds ++ map part_data xs) (written p from.1), from.2)))

pub takes_flag : (f : Flag) (all xs : List Part) (x : Part) → all ≡ x ∷ xs
    → rank_of x ≡ flag_rank f → Takes (flag_rank f) (suc (flag_rank f)) (flag_word f ∷ []) all xs
takes_flag f all xs x is same =
    takes_one (flag_rank f) (flag_word f ∷ []) all xs x is same
    (λ p part_is. ap (λ (d : Data). d ∷ []) (flag_alone x f same))

module _ (f : Flags) (a e r u n t g w end : List Part) where
  pub takes_flags : Takes 0 1 (there f.absent (codes "absent")) a e
      → Takes 1 2 (there f.entry (codes "entry")) e r
      → Takes 2 3 (there f.row (codes "row")) r u
      → Takes 3 4 (there f.undefined (codes "undefined")) u n
      → Takes 4 5 (there f.null (codes "null")) n t
      → Takes 5 6 (there f.is_true (codes "true")) t g
      → Takes 6 7 (there f.is_false (codes "false")) g w
      → Takes 7 8 (there f.nan (codes "nan")) w end → Takes 0 8 (flag_words f) a end
  unfolding property_parts
  takes_flags p0 p1 p2 p3 p4 p5 p6 p7 =
      takes_then 0 7 8 _ _ a w end (takes_then 0 6 7 _ _ a g w (takes_then 0 5 6 _ _ a t g
      (takes_then 0 4 5 _ _ a n t (takes_then 0 3 4 _ _ a u n (takes_then 0 2 3 _ _ a r u
      (takes_then 0 1 2 _ _ a e r p0 p1) p2) p3) p4) p5) p6) p7

-- ---- the number part and the text part

number_one : (p : Program) (n : NumberPart) → IsPart p (part.Number n)
    → part_data (part.Number n) ∷ [] ≡ map string (number_words n)
unfolding position
number_one p number_part.Nothing is = absurd (cc)
number_one p (number_part.One z) is = refl
number_one p number_part.Index is = refl
number_one p number_part.OtherWhole is = refl
number_one p number_part.Whole is = refl

text_one : (p : Program) (t : TextPart) → IsPart p (part.Text t)
    → part_data (part.Text t) ∷ [] ≡ map string (text_words t)
unfolding position
text_one p text_part.Nothing is = absurd (cc)
text_one p (text_part.One u) is = refl
text_one p text_part.IndexText is = refl
text_one p text_part.OtherText is = refl
text_one p text_part.Text is = refl

pub takes_number : (n : NumberPart) (all xs : List Part) (x : Part) → all ≡ x ∷ xs
    → x ≡ part.Number n → Takes 8 9 (number_words n) all xs
takes_number n all xs x is same =
    takes_one 8 (number_words n) all xs (part.Number n) (is ∙ ap (λ (y : Part). y ∷ xs) same) refl
    (λ p. number_one p n)

pub takes_text : (t : TextPart) (all xs : List Part) (x : Part) → all ≡ x ∷ xs
    → x ≡ part.Text t → Takes 9 10 (text_words t) all xs
takes_text t all xs x is same =
    takes_one 9 (text_words t) all xs (part.Text t) (is ∙ ap (λ (y : Part). y ∷ xs) same) refl
    (λ p. text_one p t)

pub not_number : (x : Part) → ((n : NumberPart) → x ≡ part.Number n → ⊥) → rank_of x ≢ 8
not_number (part.Flag f) other same = omega (arith, flag_low f)
not_number (part.Number n) other same = other n refl
not_number (part.Text t) other same = omega arith
not_number (part.Label l) other same = omega arith

pub not_text : (x : Part) → ((t : TextPart) → x ≡ part.Text t → ⊥) → rank_of x ≢ 9
not_text (part.Flag f) other same = omega (arith, flag_low f)
not_text (part.Number n) other same = omega arith
not_text (part.Text t) other same = other t refl
not_text (part.Label l) other same = omega arith

-- ---- labels

among_append : (xs ys : List Part) → labels_among (xs ++ ys) ≡ labels_among xs ++ labels_among ys
unfolding labels_among
among_append [] ys = refl
among_append (part.Flag f ∷ xs) ys = among_append xs ys
among_append (part.Number n ∷ xs) ys = among_append xs ys
among_append (part.Text t ∷ xs) ys = among_append xs ys
among_append (part.Label l ∷ xs) ys =
    ap (λ (ls : List Label). l ∷ ls) (among_append xs ys)

among_label : (l : Label) → labels_among (part.Label l ∷ []) ≡ l ∷ []
unfolding labels_among
among_label l = refl

among_other : (x : Part) → ((l : Label) → x ≡ part.Label l → ⊥) → labels_among (x ∷ []) ≡ []
unfolding labels_among
among_other (part.Flag f) other = refl
among_other (part.Number n) other = refl
among_other (part.Text t) other = refl
among_other (part.Label l) other = absurd (other l refl)

-- the labels of some parts as a test
abbrev pub among : List Part → Labels
among xs l = list_any (λ m. same_label m l) (labels_among xs)

pub among_none : (set : Labels) → set ≡ (λ (l : Label). false) → set ≡ among []
unfolding labels_among
among_none set none = none

among_step : (xs : List Part) (i : ℕ) (x : Part) → i < length xs → x ≡ get_or xs i x
    → labels_among (take (i + 1) xs) ≡ labels_among (take i xs) ++ labels_among (x ∷ [])
among_step xs i x within is =
    ap labels_among (take_more xs i x within
    ∙ ap (λ (y : Part). take i xs ++ y ∷ []) (sym is))
    ∙ among_append (take i xs) (x ∷ [])

pub or_none : (b : Bool) → (b || false) ≡ b
or_none true = refl
or_none false = refl

pub among_more : (xs : List Part) (i : ℕ) (x : Part) (l : Label) (set more : Labels)
    → i < length xs → x ≡ get_or xs i x → x ≡ part.Label l → set ≡ among (take i xs)
    → more ≡ (λ m. set m || same_label l m) → more ≡ among (take (i + 1) xs)
among_more xs i x l set more within is label so_far next =
    next ∙ λ j m. (one m) j
  where
    one : (m : Label) → (set m || same_label l m) ≡ among (take (i + 1) xs) m
    one m =
        ap (λ (s : Labels). s m || same_label l m) so_far
        ∙ ap (λ (b : Bool). among (take i xs) m || b) (sym (or_none (same_label l m)))
        ∙ sym (list_any-append (λ k. same_label k m) (labels_among (take i xs)) (l ∷ []))
        ∙ ap (list_any (λ k. same_label k m)) (sym (among_step xs i x within is
        ∙ ap (λ (ls : List Label). labels_among (take i xs) ++ ls)
        (ap (λ (y : Part). labels_among (y ∷ [])) label ∙ among_label l)))

pub among_same : (xs : List Part) (i : ℕ) (x : Part) (set : Labels) → i < length xs
    → x ≡ get_or xs i x → ((l : Label) → x ≡ part.Label l → ⊥) → set ≡ among (take i xs)
    → set ≡ among (take (i + 1) xs)
among_same xs i x set within is other so_far =
    let test : List Label → Labels = λ ls m. list_any (λ k. same_label k m) ls in
    so_far ∙ ap test
    (sym (among_step xs i x within is
    ∙ ap (λ (ls : List Label). labels_among (take i xs) ++ ls) (among_other x other)
    ∙ append-nil (labels_among (take i xs))))

pub among_all : (xs : List Part) (i : ℕ) (set : Labels) → length xs ≤ i → set ≡ among (take i xs)
    → set ≡ among xs
among_all xs i set past so_far = so_far ∙ ap among (take_all i xs past)

label_within : (p : Program) (l : Label) → IsPart p (part.Label l)
    → label_number l < 2 * length p.sites
label_within p l is = within_by p l (is_label p (label_data l)) refl is
  where
    within_by : (p : Program) (l : Label) (b : Bool)
        → nat_lt (label_number l) (2 * length p.sites) ≡ b
        → cond b (Some (10 + label_number l)) None ≡ Some (10 + label_number l)
        → label_number l < 2 * length p.sites
    within_by p l true lower is = ltb-true (label_number l) (2 * length p.sites) lower
    within_by p l false lower is = absurd (cc)

record AreLabels (p : Program) (k : ℕ) (xs : List Part) : Type 0 where
  pub written : map part_data xs ≡ map label_data (labels_among xs)
  pub above : AllByRecursion (λ n. k ≤ 10 + n) (map label_number (labels_among xs))
  pub sorted : IsStrictlySortedBy nat_cmp (map label_number (labels_among xs))
  pub within : AllByRecursion (λ n. n < 2 * length p.sites)
      (map label_number (labels_among xs))

less_is : (a b : ℕ) → a < b → nat_cmp a b ≡ Less
less_is a b less = rw (lt-ltb a b less) refl

labels_are : (p : Program) (k : ℕ) (xs : List Part) → 10 ≤ k → AreFrom p k xs
    → AreLabels p k xs
unfolding AreFrom labels_among IsStrictlySortedBy
labels_are p k [] low from =
    record { written = refl; above = tt; sorted = tt; within = tt }
labels_are p k (part.Flag f ∷ xs) low from = absurd (omega (arith, flag_low f, from.0))
labels_are p k (part.Number n ∷ xs) low from = absurd (omega (arith, from.0))
labels_are p k (part.Text t ∷ xs) low from = absurd (omega (arith, from.0))
labels_are p k (part.Label l ∷ xs) low from =
    let rest : AreLabels p (suc (10 + label_number l)) xs =
    labels_are p (suc (10 + label_number l)) xs (omega arith) from.2 in
    record {
      written = ap (λ (ds : List Data). label_data l ∷ ds) rest.written;
      above = (
        from.0,
        all_weaker (λ n. suc (10 + label_number l) ≤ 10 + n) (λ n. k ≤ 10 + n)
            (λ n h. at_least k (label_number l) n from.0 h) _ rest.above,
      );
      sorted = (
        all_weaker (λ n. suc (10 + label_number l) ≤ 10 + n)
            (λ n. nat_cmp (label_number l) n ≡ Less)
            (λ n h. less_is (label_number l) n (behind (label_number l) n h)) _ rest.above,
        rest.sorted,
      );
      within = (label_within p l from.1, rest.within);
    }
  where
    at_least : (k m n : ℕ) → k ≤ 10 + m → suc (10 + m) ≤ 10 + n → k ≤ 10 + n
    at_least k m n low more = omega arith

    behind : (m n : ℕ) → suc (10 + m) ≤ 10 + n → m < n
    behind m n more = omega arith

all_below : (end : ℕ) (ks : List ℕ) → AllByRecursion (λ n. n < end) ks → filter (below end) ks ≡ ks
all_below end [] within = refl
all_below end (k ∷ ks) within =
    rw (lt-ltb k end within.0) (ap (λ (ns : List ℕ). k ∷ ns) (all_below end ks within.1))

labels_back : (ls : List Label) → map label_at (map label_number ls) ≡ ls
labels_back [] = refl
labels_back (l ∷ ls) =
    ap (λ (m : Label). m ∷ map label_at (map label_number ls)) (label_number_at l)
    ∙ ap (λ (ms : List Label). l ∷ ms) (labels_back ls)

flipped : (a b : ℕ) → (a == b) ≡ (b == a)
flipped a b = grind (arith, nat_tests)

among_numbers : (ls : List Label) (m : Label)
    → in_numbers (map label_number ls) m ≡ list_any (λ k. same_label k m) ls
among_numbers [] m = refl
among_numbers (l ∷ ls) m =
    ap (λ (b : Bool). b || in_numbers (map label_number ls) m)
    (flipped (label_number m) (label_number l) ∙ sym (same_label_is l m))
    ∙ ap (λ (b : Bool). same_label l m || b) (among_numbers ls m)

labels_written : (p : Program) (xs : List Part) (set : Labels) → set ≡ among xs
    → AreFrom p 10 xs → map part_data xs ≡ map label_data (filter set (labels_of p))
labels_written p xs set is from =
    let labels : AreLabels p 10 xs = labels_are p 10 xs (omega arith) from in
    let ls : List Label = labels_among xs in
    let ks : List ℕ = map label_number ls in
    let same : in_numbers ks ≡ among xs = λ j m. (among_numbers ls m) j in
    let in_order : ls ≡ filter set (labels_of p) =
    sym (labels_back ls)
    ∙ ap (map label_at) (sym (all_below (2 * length p.sites) ks labels.within))
    ∙ labels_list ks labels.sorted (length p.sites) (2 * length p.sites) refl
    ∙ ap (λ (s : Labels). filter s (labels_of p)) (same ∙ sym is) in
    labels.written ∙ ap (map label_data) in_order

-- labels with numbers below those of a program are the program's
own_among : (p : Program) (ls : List Label) (l : Label)
    → AllByRecursion (λ n. n < 2 * length p.sites) (map label_number ls)
    → list_any (λ m. same_label m l) ls ≡ true → is_own p l ≡ true
own_among p [] l within there = absurd (false≢true there)
own_among p (m ∷ ls) l within there =
    pick (same_label m l) refl (λ more. own_among p ls l within.1 more) there
  where
    below_site : (k n : ℕ) (old : Bool) → 2 * k + cond old 1 0 < 2 * n → k < n
    below_site k n old less = omega (arith, less)

    pick : (b : Bool) → same_label m l ≡ b
        → (list_any (λ k. same_label k l) ls ≡ true → is_own p l ≡ true)
        → (b || list_any (λ k. same_label k l) ls) ≡ true → is_own p l ≡ true
    pick true same later found =
        subst (λ (k : Label). is_own p k ≡ true) (same_label-true m l same)
        (lt-ltb m.site.0 (length p.sites)
        (below_site m.site.0 (length p.sites) m.old within.0))
    pick false other later found = later found

-- ---- the whole

pub parts_written : (p : Program) (v : AbstractValue) (xs ys zs rest : List Part)
    → Takes 0 8 (flag_words v.flags) xs ys → Takes 8 9 (number_words v.number) ys zs
    → Takes 9 10 (text_words v.text) zs rest → v.label ≡ among rest → AreFrom p 0 xs
    → (value_data p v ≡ listed (map part_data xs)) × HasOwnLabels p v
unfolding value_data Takes
parts_written p v xs ys zs rest flags number text labels from =
    let words : List (List ℕ) = flag_words v.flags ++ number_words v.number ++ text_words v.text in
    let front : Takes 0 9 (flag_words v.flags ++ number_words v.number) xs zs =
    takes_then 0 8 9 (flag_words v.flags) (number_words v.number) xs ys zs flags number in
    let whole : Takes 0 10 words xs rest =
    takes_then 0 9 10 (flag_words v.flags ++ number_words v.number) (text_words v.text) xs zs
    rest front text in
    let taken = whole p from in
    let own : AreLabels p 10 rest = labels_are p 10 rest (omega arith) taken.1 in (
      ap listed
          (ap (λ (ds : List Data). map string words ++ ds)
          (sym (labels_written p rest v.label labels taken.1)) ∙ sym taken.0),
      (λ l has. own_among p (labels_among rest) l own.within
          (ap (λ (set : Labels). set l) (sym labels) ∙ has)),
    )

-- parts that were read, of which nothing is wrong
pub read_written : (p : Program) (allowed : ℕ → Bool) (v : AbstractValue) (d : Data)
    (xs seen : List Part) → list_wrong (part_wrong p allowed) d ≡ None
    → listed (map part_data xs) ≡ d → seen ≡ xs
    → (AreFrom p 0 seen
    → (value_data p v ≡ listed (map part_data seen)) × HasOwnLabels p v)
    → (value_data p v ≡ d) × HasOwnLabels p v
read_written p allowed v d xs seen right is same written =
    let f : MemberWrong = part_wrong p allowed in
    let all : members_wrong f [] (map part_data xs) ≡ None =
    sym (ap (list_wrong f) (sym is) ∙ ap (λ (o : Option (List Data)). option_map_or
    (members_wrong f []) o here) (list_of_listed (map part_data xs))) ∙ right in
    let P : List Part → Type 0 = AreFrom p 0 in
    let seen_so = written (subst P (sym same) (right_parts p allowed xs all)) in
    (seen_so.0 ∙ ap (λ (ys : List Part). listed (map part_data ys)) same ∙ is, seen_so.1)
