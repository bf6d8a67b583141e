-- How many of a mark's first units stand at the end of what was read, with each unit that is read
-- (Knuth, Morris and Pratt, 1977).
use Rattle.std.specs.Prelude.{ℕ, zero, suc, ◌≡◌, ◌≤◌, ◌<◌, ◌+◌, ◌-◌, ◌⊎◌, List, [], ◌∷◌, ◌++◌, length, take, drop, Some, slice_get, get_or}
use Rattle.std.proofs.Common.{refl, sym, subst, ap, ◌∙◌, arith, inl, inr}
use Rattle.std.proofs.Math.Numerals.{suc-eq-add-one}
use Rattle.std.proofs.Math.Seq.{take-suc}
use Rattle.std.proofs.lemmas.Bool.{cases_lt}
use Rattle.std.proofs.lemmas.List.{append-nil, append_assoc, length-append, length-take, length-take-le}
use Rattle.std.proofs.lemmas.Option.{none-some, same_Some, slice_get_within, slice_get-get_or}
use Rattle.ja_search.specs.code.Search.{StandsLast, IsMet, AreBorders}

-- ---- texts that stand last

-- the shorter of two stands last in the longer
pub shorter : (text x y : List ℕ) → StandsLast text x → StandsLast text y → length x ≤ length y
    → StandsLast y x
shorter text x y p q le = by p.0 q.0 (sym p.1 ∙ q.1)
  where
    by : (a b : List ℕ) → a ++ x ≡ b ++ y → StandsLast y x
    by a [] same = (a, sym same)
    by [] (v ∷ b) same = absurd (omega (arith, le, ap length same, length-append b y))
    by (u ∷ a) (v ∷ b) same = by a b (ap (drop 1) same)

pub further : (text y x : List ℕ) → StandsLast text y → StandsLast y x → StandsLast text x
further text y x p q =
    (p.0 ++ q.0, p.1 ∙ ap (λ l. p.0 ++ l) q.1 ∙ sym (append_assoc p.0 q.0 x))

-- with one unit more
with_unit : (text x : List ℕ) (u : ℕ) → StandsLast text x
    → StandsLast (text ++ u ∷ []) (x ++ u ∷ [])
with_unit text x u p = (p.0, ap (λ l. l ++ u ∷ []) p.1 ∙ append_assoc p.0 x (u ∷ []))

same_ends : (a b : List ℕ) (u v : ℕ) → a ++ u ∷ [] ≡ b ++ v ∷ [] → (a ≡ b) × (u ≡ v)
same_ends [] [] u v e = (refl, ap (λ l. get_or l 0 0) e)
same_ends [] (y ∷ b) u v e = absurd (omega (arith, ap length e, length-append b (v ∷ [])))
same_ends (x ∷ a) [] u v e = absurd (omega (arith, ap length e, length-append a (u ∷ [])))
same_ends (x ∷ a) (y ∷ b) u v e =
    let r = same_ends a b u v (ap (drop 1) e) in
    (ap (λ z. z ∷ a) (ap (λ l. get_or l 0 0) e) ∙ ap (λ l. y ∷ l) r.0, r.1)

without_unit : (text x : List ℕ) (u v : ℕ) → StandsLast (text ++ u ∷ []) (x ++ v ∷ [])
    → StandsLast text x × (u ≡ v)
without_unit text x u v p =
    let r = same_ends text (p.0 ++ x) u v (p.1 ∙ sym (append_assoc p.0 x (v ∷ []))) in
    ((p.0, r.0), r.1)

-- ---- the beginnings of a mark

next : (mark : List ℕ) (k u : ℕ) → slice_get mark k ≡ Some u
    → take (suc k) mark ≡ take k mark ++ u ∷ []
next [] k u is = absurd (none-some u is)
next (m ∷ ms) zero u is = ap (λ z. z ∷ []) (same_Some m u is)
next (m ∷ ms) (suc k) u is = ap (λ l. m ∷ l) (next ms k u is)

some_unit : (mark : List ℕ) (k : ℕ) → k < length mark → (u : ℕ) × (slice_get mark k ≡ Some u)
some_unit [] k lt = absurd (omega (arith, lt))
some_unit (m ∷ ms) zero lt = (m, refl)
some_unit (m ∷ ms) (suc k) lt = some_unit ms k (omega (arith, lt))

module _ (mark read : List ℕ) (u : ℕ) where
  grown : (k : ℕ) → slice_get mark k ≡ Some u → StandsLast read (take k mark)
      → StandsLast (read ++ u ∷ []) (take (suc k) mark)
  grown k is p =
      subst (StandsLast (read ++ u ∷ [])) (sym (next mark k u is)) (with_unit read (take k mark) u p)

  shrunk : (k : ℕ) → suc k ≤ length mark → StandsLast (read ++ u ∷ []) (take (suc k) mark)
      → StandsLast read (take k mark) × (slice_get mark k ≡ Some u)
  shrunk k le p =
      let unit = some_unit mark k (omega (arith, le)) in
      let r = without_unit read (take k mark) u unit.0
      (subst (StandsLast (read ++ u ∷ [])) (next mark k unit.0 unit.1) p) in
      (r.0, unit.1 ∙ ap Some (sym r.1))

-- So many of a mark's first units stand at the end of what was read; and with this unit behind that,
-- no more than one more of them.
pub record IsCandidate (mark read : List ℕ) (u count : ℕ) : Type 0 where
  pub stands : StandsLast read (take count mark)
  pub most : (more : ℕ) → suc more ≤ length mark
      → StandsLast (read ++ u ∷ []) (take (suc more) mark) → more ≤ count

module _ (mark read : List ℕ) (u : ℕ) where
  pub first_candidate : (met : ℕ) → IsMet mark read met → IsCandidate mark read u met
  first_candidate met is = record {
    stands = is.stands;
    most = λ more le p. is.most more (omega (arith, le)) (shrunk mark read u more le p).0;
  }

  -- the unit doesn't follow: what else may stand is a border
  pub next_candidate : (count c border : ℕ) → count ≡ suc c → count ≤ length mark
      → IsCandidate mark read u count → (slice_get mark count ≡ Some u → ⊥)
      → IsMet mark (take c (drop 1 mark)) border → IsCandidate mark read u border
  next_candidate count c border is within candidate never met =
      by mark refl
    where
      by : (m : List ℕ) → m ≡ mark → IsCandidate mark read u border
      by [] e = absurd (omega (arith, within, is, ap length e))
      by (x ∷ xs) e =
          let behind : StandsLast (take count mark) (take c (drop 1 mark)) =
          subst (λ m. StandsLast (take count m) (take c (drop 1 m))) e
          (subst (λ n. StandsLast (take n (x ∷ xs)) (take c xs)) (sym is) (x ∷ [], refl)) in
          let stands = further read (take count mark) (take c (drop 1 mark)) candidate.stands
          behind in
          record {
            stands = further read (take c (drop 1 mark)) (take border mark) stands met.stands;
            most = λ more le p.
                let r = shrunk mark read u more le p in
                let few = candidate.most more le p in
                let other : more ≡ count → ⊥ = λ same.
                never (subst (λ n. slice_get mark n ≡ Some u) same r.1) in
                let below : more ≤ c = elim (cases_lt more count) [
                  | inl lt ↦ omega (arith, lt, is)
                  | inr ge ↦ absurd (other (omega (arith, few, ge)))
                ] in
                let long : length (take c (drop 1 mark)) ≡ c =
                length-take-le c (drop 1 mark)
                (subst (λ m. c ≤ length (drop 1 m)) e (omega (arith, within, is, ap length e))) in
                met.most more (omega (arith, le)) (shorter read (take more mark)
                (take c (drop 1 mark)) r.0 stands
                (omega (arith, below, long, length-take-le more mark (omega (arith, le)))));
          }

  -- none is left
  pub none_met : IsCandidate mark read u 0 → (slice_get mark 0 ≡ Some u → ⊥)
      → IsMet mark (read ++ u ∷ []) 0
  none_met candidate never = record {
    within = omega arith;
    stands = (read ++ u ∷ [], sym (append-nil (read ++ u ∷ [])));
    most = most;
  }
    where
      most : (more : ℕ) → more ≤ length mark → StandsLast (read ++ u ∷ []) (take more mark)
          → more ≤ 0
      most zero le p = omega arith
      most (suc k) le p =
          let none : k ≡ 0 = omega (arith, candidate.most k le p) in
          absurd (never (subst (λ n. slice_get mark n ≡ Some u) none (shrunk mark read u k le p).1))

  -- the unit follows
  pub one_more_met : (count : ℕ) → slice_get mark count ≡ Some u → IsCandidate mark read u count
      → IsMet mark (read ++ u ∷ []) (suc count)
  one_more_met count is candidate = record {
    within = omega (arith, slice_get_within mark count u is);
    stands = grown mark read u count is candidate.stands;
    most = most;
  }
    where
      most : (more : ℕ) → more ≤ length mark → StandsLast (read ++ u ∷ []) (take more mark)
          → more ≤ suc count
      most zero le p = omega arith
      most (suc k) le p = omega (arith, candidate.most k le p)

-- nothing was read
pub nothing_met : (mark : List ℕ) → IsMet mark [] 0
nothing_met mark = record {
  within = omega arith;
  stands = ([], refl);
  most = λ more le p.
      omega (arith, ap length p.1, length-append p.0 (take more mark), length-take-le more mark le);
}

-- no more stand there than were read
pub met_few : (mark text : List ℕ) (count : ℕ) → IsMet mark text count → count ≤ length text
met_few mark text count is =
    omega (
      arith,
      ap length is.stands.1,
      length-append is.stands.0 (take count mark),
      length-take-le count mark is.within,
    )

-- ---- a text that is read unit by unit

pub one_more_read : (text : List ℕ) (i : ℕ) → i < length text
    → take i text ++ get_or text i 0 ∷ [] ≡ take (i + 1) text
one_more_read text i lt =
    sym (subst (λ n. take n text ≡ take i text ++ get_or text i 0 ∷ []) (suc-eq-add-one i)
    (take-suc text i 0 lt))

-- ---- borders

pub border_few : (mark : List ℕ) (c border : ℕ) → IsMet mark (take c (drop 1 mark)) border
    → border ≤ c
border_few mark c border is =
    omega (arith, met_few mark (take c (drop 1 mark)) border is, length-take c (drop 1 mark))

pub border_at : (mark borders : List ℕ) (count : ℕ) → AreBorders mark borders → 0 < count
    → count ≤ length borders
    → IsMet mark (take (count - 1) (drop 1 mark)) (get_or borders (count - 1) 0)
border_at mark borders count are some within =
    are (count - 1) (get_or borders (count - 1) 0)
    (slice_get-get_or borders (count - 1) 0 (omega (arith, some, within)))

at_pushed : (xs : List ℕ) (x i y : ℕ) → slice_get (xs ++ x ∷ []) i ≡ Some y
    → (slice_get xs i ≡ Some y) ⊎ ((i ≡ length xs) × (x ≡ y))
at_pushed [] x zero y e = inr (refl, same_Some x y e)
at_pushed [] x (suc i) y e = absurd (none-some y e)
at_pushed (z ∷ xs) x zero y e = inl e
at_pushed (z ∷ xs) x (suc i) y e =
    elim (at_pushed xs x i y e) [ inl there ↦ inl there | inr last ↦ inr (ap suc last.0, last.1) ]

-- one border more
pub borders_with : (mark borders : List ℕ) (i met : ℕ) → length borders ≡ i
    → AreBorders mark borders → IsMet mark (take i (drop 1 mark)) met
    → AreBorders mark (borders ++ met ∷ [])
borders_with mark borders i met long are is k border at =
    elim (at_pushed borders met k border at) [
      | inl there ↦ are k border there
      | inr last ↦
          subst (λ n. IsMet mark (take k (drop 1 mark)) n) last.1
          (subst (λ n. IsMet mark (take n (drop 1 mark)) met) (sym long ∙ sym last.0) is)
    ]

-- the next unit of a mark from its second one on
pub one_more_of_mark : (mark : List ℕ) (i : ℕ) → 0 < i → i < length mark
    → take (i - 1) (drop 1 mark) ++ get_or mark i 0 ∷ [] ≡ take i (drop 1 mark)
one_more_of_mark [] i some lt = absurd (omega (arith, lt))
one_more_of_mark (m ∷ ms) zero some lt = absurd (omega (arith, some))
one_more_of_mark (m ∷ ms) (suc k) some lt =
    let same : suc k - 1 ≡ k = omega arith in
    subst (λ n. take n ms ++ get_or ms k 0 ∷ [] ≡ take (suc k) ms) (sym same)
    (sym (take-suc ms k 0 (omega (arith, lt))))
