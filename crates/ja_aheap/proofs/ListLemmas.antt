-- What a loop over the entries of a map lists, against a range of numbers.
use Rattle.std.proofs.Common.{Less, ◌≡◌, ◌≢◌, ◌&&◌, ◌+◌, ◌<◌, ◌≤◌, nat_lt, nat_le, ℕ, zero, suc, List, [], ◌∷◌, ◌++◌, Bool, true, false, Option, Some, None, is_some, if◌then◌else◌, length, take, get_or, map, filter, append_assoc, refl, ap, sym, ◌∙◌, arith, ◌⊎◌, inl, inr, ⊎_elim, subst}
use Rattle.std.proofs.lemmas.Grind.{common_steps}
use Rattle.std.proofs.lemmas.Bool.{cases_eq, cases_lt}
use Rattle.std.proofs.lemmas.Bool.Decides.{nat_tests}
use Rattle.std.proofs.lemmas.List.{append-nil}
use Rattle.std.proofs.lemmas.List.Elements.{filter_more}
use Rattle.std.proofs.lemmas.Map.Keys.{sorted_head, sorted_tail}
use Rattle.std.proofs.lemmas.Map.Entries.{lookup_tail, lookup_head}
use Rattle.std.proofs.lemmas.Map.Iter.{rest_more}
use Rattle.std.specs.List.{flat_map, range_with_len, AllByRecursion}
use Rattle.std.specs.List.Sorted.{IsStrictlySortedBy}
use Rattle.std.specs.Map.{keys_of}
use Rattle.std.specs.Map.Iter.{deref_pair, TakesFirst}
use Rattle.std.specs.Option.{option_map_or}
use Rattle.std.specs.Ordering.{nat_cmp}
use Rattle.std.specs.BTreeMap.{is_at}
use denote.Ref.{Bor}
use Rattle.ja_aheap.proofs.MapLemmas.{found, less_than}

pub filter_step : {X : Type 0} (p : X → Bool) (xs : List X) (i : ℕ) (d : X) (olds now next : List X)
    → next ≡ now ++ (if p (get_or xs i d) then get_or xs i d ∷ [] else [])
    → now ≡ olds ++ filter p (take i xs) → i < length xs → next ≡ olds ++ filter p (take (i + 1) xs)
filter_step p xs i d olds now next is so_far below =
    is ∙ ap (λ (l : List _). l ++ (if p (get_or xs i d) then get_or xs i d ∷ [] else [])) so_far
    ∙ append_assoc olds (filter p (take i xs)) _
    ∙ ap (λ (l : List _). olds ++ l) (sym (filter_more p xs i d below))

-- what is listed at a number
abbrev pub listed_at : {X Z : Type 0} → (ℕ → X → List Z) → List (ℕ × X) → ℕ → List Z
listed_at h es q = option_map_or (h q) (found es q) []

-- what is listed of a range
abbrev pub listing : {X Z : Type 0} → (ℕ → X → List Z) → List (ℕ × X) → ℕ → ℕ → List Z
listing h es a n = flat_map (listed_at h es) (range_with_len a n)

pub none_up_to : {X : Type 0} (k : ℕ) (rest : List (ℕ × X)) (q : ℕ)
    → AllByRecursion (λ (y : ℕ). nat_cmp k y ≡ Less) (keys_of rest) → q ≤ k → found rest q ≡ None
none_up_to k [] q above low = refl
none_up_to k (x ∷ xs) q above low =
    let less : k < x.0 = less_than k x.0 above.0 in
    let apart : x.0 ≢ q = omega arith in
    lookup_tail (is_at (nat_cmp q)) x xs (grind (arith, common_steps))
    ∙ none_up_to k xs q above.1 low

pub nothing_listed : {X Z : Type 0} (h : ℕ → X → List Z) (es : List (ℕ × X)) (q : ℕ)
    → found es q ≡ None → listed_at h es q ≡ []
nothing_listed h es q none = ap (λ (o : Option _). option_map_or (h q) o []) none

pub one_listed : {X Z : Type 0} (h : ℕ → X → List Z) (e : ℕ × X) (rest : List (ℕ × X))
    → listed_at h (e ∷ rest) e.0 ≡ h e.0 e.1
one_listed h e rest =
    ap (λ (o : Option _). option_map_or (h e.0) o [])
    (lookup_head (is_at (nat_cmp e.0)) e rest (grind (arith, common_steps)))

pub later_listed : {X Z : Type 0} (h : ℕ → X → List Z) (e : ℕ × X) (rest : List (ℕ × X)) (q : ℕ)
    → e.0 ≢ q → listed_at h (e ∷ rest) q ≡ listed_at h rest q
later_listed h e rest q apart =
    ap (λ (o : Option _). option_map_or (h q) o [])
    (lookup_tail (is_at (nat_cmp q)) e rest (grind (arith, common_steps)))

abbrev pub within : ℕ → ℕ → ℕ → Bool
within a n k = nat_le a k && nat_lt k (a + n)

pub outside : (a n k : ℕ) → (k < a) ⊎ (a + n ≤ k) → within a n k ≡ false
outside a n k (inl low) = grind (arith, common_steps, nat_tests)
outside a n k (inr high) = grind (arith, common_steps, nat_tests)

pub inside : (a n k : ℕ) → a ≤ k → k < a + n → within a n k ≡ true
inside a n k low high = grind (arith, common_steps, nat_tests)

-- the same where the first number is passed over
pub within_more : (a n k : ℕ) → a < k → within a (suc n) k ≡ within (a + 1) n k
within_more a n k low = grind (arith, common_steps, nat_tests)

-- one number of the range: before the first entry, at it, and past it
pub step_low : {Z : Type 0} (b d : Bool) (c x y xs ys : List Z) → x ≡ [] → y ≡ [] → b ≡ d
    → xs ≡ (if d then c else []) ++ ys → x ++ xs ≡ (if b then c else []) ++ (y ++ ys)
step_low b d c x y xs ys no_x no_y same more =
    ap (λ (l : List _). l ++ xs) no_x ∙ more
    ∙ ap (λ (t : Bool). (if t then c else []) ++ ys) (sym same)
    ∙ ap (λ (l : List _). (if b then c else []) ++ (l ++ ys)) (sym no_y)

pub step_here : {Z : Type 0} (b d : Bool) (c x y xs ys : List Z) → x ≡ c → y ≡ [] → b ≡ true
    → d ≡ false → xs ≡ (if d then c else []) ++ ys → x ++ xs ≡ (if b then c else []) ++ (y ++ ys)
step_here b d c x y xs ys is_c no_y said no_more more =
    ap (λ (l : List _). l ++ xs) is_c ∙ ap (λ (l : List _). c ++ l)
    (more ∙ ap (λ (t : Bool). (if t then c else []) ++ ys) no_more)
    ∙ ap (λ (t : Bool). (if t then c else []) ++ ys) (sym said)
    ∙ ap (λ (l : List _). (if b then c else []) ++ (l ++ ys)) (sym no_y)

pub step_high : {Z : Type 0} (b d : Bool) (c x y xs ys : List Z) → x ≡ y → b ≡ false → d ≡ false
    → xs ≡ (if d then c else []) ++ ys → x ++ xs ≡ (if b then c else []) ++ (y ++ ys)
step_high b d c x y xs ys same not_b not_d more =
    ap (λ (l : List _). l ++ xs) same ∙ ap (λ (l : List _). y ++ l)
    (more ∙ ap (λ (t : Bool). (if t then c else []) ++ ys) not_d)
    ∙ ap (λ (t : Bool). (if t then c else []) ++ (y ++ ys)) (sym not_b)

-- the first entry is listed first
pub listing_step : {X Z : Type 0} (h : ℕ → X → List Z) (e : ℕ × X) (rest : List (ℕ × X))
    → AllByRecursion (λ (y : ℕ). nat_cmp e.0 y ≡ Less) (keys_of rest) → (a n : ℕ)
    → listing h (e ∷ rest) a n ≡ (if within a n e.0 then h e.0 e.1 else []) ++ listing h rest a n
listing_step h e rest above a zero =
    ap (λ (t : Bool). (if t then h e.0 e.1 else []) ++ [])
    (sym (outside a 0 e.0 (⊎_elim (λ (low : e.0 < a). inl low)
    (λ (high : a ≤ e.0). inr (omega arith)) (cases_lt e.0 a))))
listing_step h e rest above a (suc n) =
    let more = listing_step h e rest above (a + 1) n in
    ⊎_elim
    (λ (low : a < e.0). let apart : e.0 ≢ a = omega arith in
    step_low (within a (suc n) e.0) (within (a + 1) n e.0) (h e.0 e.1) (listed_at h (e ∷ rest) a)
    (listed_at h rest a) (listing h (e ∷ rest) (a + 1) n) (listing h rest (a + 1) n)
    (later_listed h e rest a apart ∙ nothing_listed h rest a
    (none_up_to e.0 rest a above (omega arith)))
    (nothing_listed h rest a (none_up_to e.0 rest a above (omega arith)))
    (within_more a n e.0 low) more)
    (λ (high : e.0 ≤ a). ⊎_elim
    (λ (same : e.0 ≡ a).
    step_here (within a (suc n) e.0) (within (a + 1) n e.0) (h e.0 e.1) (listed_at h (e ∷ rest) a)
    (listed_at h rest a) (listing h (e ∷ rest) (a + 1) n) (listing h rest (a + 1) n)
    (ap (listed_at h (e ∷ rest)) (sym same) ∙ one_listed h e rest)
    (nothing_listed h rest a (none_up_to e.0 rest a above (omega arith)))
    (inside a (suc n) e.0 (omega arith) (omega arith)) (outside (a + 1) n e.0 (inl (omega arith)))
    more)
    (λ (apart : e.0 ≢ a).
    step_high (within a (suc n) e.0) (within (a + 1) n e.0) (h e.0 e.1) (listed_at h (e ∷ rest) a)
    (listed_at h rest a) (listing h (e ∷ rest) (a + 1) n) (listing h rest (a + 1) n)
    (later_listed h e rest a apart) (outside a (suc n) e.0 (inl (omega arith)))
    (outside (a + 1) n e.0 (inl (omega arith))) more)
    (cases_eq e.0 a))
    (cases_lt a e.0)

-- What a loop has listed, and what is left to list.
pub record Listing {X Z : Type 0} (h : ℕ → X → List Z) (a n : ℕ) (all rest : List (ℕ × X))
    (items : List Z) : Type 0 where
  pub so_far : items ++ listing h rest a n ≡ listing h all a n
  pub sorted : IsStrictlySortedBy nat_cmp (keys_of rest)

pub listing_more : {X Z : Type 0} (h : ℕ → X → List Z) (a n : ℕ) (all rest : List (ℕ × X))
    (e : ℕ × X) (items next piece : List Z)
    → Listing h a n all (e ∷ rest) items → next ≡ items ++ piece
    → piece ≡ (if within a n e.0 then h e.0 e.1 else []) → Listing h a n all rest next
listing_more h a n all rest e items next piece so is_next is_piece = record {
  so_far =
      ap (λ (l : List _). l ++ listing h rest a n) is_next
      ∙ append_assoc items piece (listing h rest a n)
      ∙ ap (λ (l : List _). items ++ (l ++ listing h rest a n)) is_piece
      ∙ ap (λ (l : List _). items ++ l) (sym
      (listing_step h e rest (sorted_head nat_cmp _ _ so.sorted) a n)) ∙ so.so_far;
  sorted = sorted_tail nat_cmp _ _ so.sorted;
}

-- one turn of a loop that passes a reference to each entry
pub listing_turn : {X Z : Type 0} (h : ℕ → X → List Z) (a n : ℕ) (all s t : List (ℕ × X))
    (r : Option (Bor ℕ × Bor X)) (x : Bor ℕ × Bor X) (items next piece : List Z)
    → r ≡ Some x → TakesFirst (deref_pair {K = ℕ} {X = X}) s r t → Listing h a n all s items
    → next ≡ items ++ piece → piece ≡ (if within a n x.0.now then h x.0.now x.1.now else [])
    → Listing h a n all t next
listing_turn h a n all s t r x items next piece is step so =
    listing_more h a n all t (deref_pair x) items next piece
    (subst (λ (es : List (ℕ × _)). Listing h a n all es items)
    (rest_more deref_pair s t r x is step) so)

pub nothing_left : {X Z : Type 0} (h : ℕ → X → List Z) (xs : List ℕ)
    → flat_map (listed_at h []) xs ≡ []
nothing_left h [] = refl
nothing_left h (x ∷ xs) = nothing_left h xs

pub listing_end : {X Z : Type 0} (h : ℕ → X → List Z) (a n : ℕ) (all rest : List (ℕ × X))
    (items : List Z) → rest ≡ [] → Listing h a n all rest items → items ≡ listing h all a n
listing_end h a n all rest items none so =
    sym (append-nil items) ∙ ap (λ (l : List _). items ++ l)
    (sym (nothing_left h (range_with_len a n)))
    ∙ ap (λ (es : List (ℕ × _)). items ++ listing h es a n) (sym none) ∙ so.so_far

-- from 0 on
pub within_first : (n k : ℕ) → within 0 n k ≡ nat_lt k n
within_first n k = grind (arith, common_steps, nat_tests)

pub piece_first : {Z : Type 0} (n k : ℕ) (c : List Z)
    → (if nat_lt k n then c else []) ≡ (if within 0 n k then c else [])
piece_first n k c = ap (λ (t : Bool). if t then c else []) (sym (within_first n k))

-- ---- the same as a filter

pub one_filter : {X Z : Type 0} (o : Option X) (b : Bool) (z : Z) (r : List Z) → b ≡ is_some o
    → option_map_or (λ (x : X). z ∷ []) o [] ++ r ≡ (if b then z ∷ r else r)
one_filter None b z r is = ap (λ (t : Bool). if t then z ∷ r else r) (sym is)
one_filter (Some x) b z r is = ap (λ (t : Bool). if t then z ∷ r else r) (sym is)

pub listing_filter : {X Z : Type 0} (g : ℕ → Z) (p : Z → Bool) (es : List (ℕ × X)) (a n : ℕ)
    → ((q : ℕ) → a ≤ q → p (g q) ≡ is_some (found es q))
    → listing (λ q (x : X). g q ∷ []) es a n ≡ filter p (map g (range_with_len a n))
listing_filter g p es a zero same = refl
listing_filter g p es a (suc n) same =
    one_filter (found es a) (p (g a)) (g a) (listing (λ q x. g q ∷ []) es (a + 1) n)
    (same a (omega arith))
    ∙ ap (λ (l : List _). if p (g a) then g a ∷ l else l)
    (listing_filter g p es (a + 1) n (λ q low. same q (omega arith)))
