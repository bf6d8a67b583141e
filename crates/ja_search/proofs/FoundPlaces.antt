-- Where a mark stands in a text: what tests at places say of the first and the last one, by how much
-- of the mark stands at the end of what was read, forwards or backwards.
use Rattle.std.specs.Prelude.{ℕ, zero, suc, ◌≡◌, ◌==◌, ◌≤◌, ◌<◌, ◌+◌, ◌-◌, min, nat_eq, true, false, List, [], ◌∷◌, ◌++◌, length, take, drop, reverse, Some, None, get_or}
use Rattle.std.specs.List.{starts_with}
use lib.Pointwise.{bytes_decides, pointwise_long}
use Rattle.std.proofs.Common.{refl, sym, subst, ap, ◌∙◌, arith, inl, inr}
use Rattle.std.proofs.Math.Dec.{eqb-suc-zero}
use Rattle.std.proofs.Math.Seq.{drop-append_seam, drop-cons, take-add, take-append_seam, take-length}
use Rattle.std.proofs.lemmas.Bool.{cases_Bool, cases_lt, cond-true, cond-false, false≢true}
use Rattle.std.proofs.lemmas.List.{append_assoc, drop-append-le, drop-take, drop_all, get_or-take, length-append, length-drop, length-reverse, length-take, length-take-le, reverse-append, reverse-reverse, take-append-drop, take_rest}
use Rattle.ja_prim.specs.Search.{first_in, last_in}
use Rattle.ja_search.specs.code.Search.{StandsLast, IsMet}
use Rattle.ja_search.proofs.Searching.{met_few, nothing_met, one_more_read}

-- ---- a mark that stands at a place

abbrev pub StandsAt : List ℕ → List ℕ → ℕ → Type 0
StandsAt mark text p = starts_with nat_eq (drop p text) mark ≡ true

abbrev pub IsNotAt : List ℕ → List ℕ → ℕ → Type 0
IsNotAt mark text p = starts_with nat_eq (drop p text) mark ≡ false

-- where it stands last in what was read
pub stands_there : (mark t : List ℕ) (n : ℕ) (q : StandsLast (take n t) mark)
    → StandsAt mark t (length q.0)
stands_there mark t n q =
    (bytes_decides mark (take (length mark) (drop (length q.0) t))).1 (sym there)
  where
    there : take (length mark) (drop (length q.0) t) ≡ mark
    there =
        ap (λ l. take (length mark) (drop (length q.0) l))
        (sym (take-append-drop n t) ∙ ap (λ l. l ++ drop n t) q.1
        ∙ append_assoc q.0 mark (drop n t))
        ∙ ap (take (length mark)) (drop-append_seam q.0 (mark ++ drop n t))
        ∙ take-append_seam mark (drop n t)

-- .. and the other way round
pub stands_behind : (mark t : List ℕ) (p : ℕ) → StandsAt mark t p
    → StandsLast (take (p + length mark) t) mark
stands_behind mark t p is = (
  take p t,
  take-add p (length mark) t ∙ ap (λ l. take p t ++ l) (sym ((bytes_decides mark _).0 is)),
)

-- nothing stands where too little is left
pub not_past : (mark t : List ℕ) (p : ℕ) → p ≤ length t → length t < p + length mark
    → IsNotAt mark t p
not_past mark t p le past =
    elim (cases_Bool (starts_with nat_eq (drop p t) mark)) [
      | inl is ↦
          let long : length mark ≡ length (take (length mark) (drop p t)) =
          pointwise_long nat_eq mark (take (length mark) (drop p t)) is in
          absurd (omega (
            arith,
            le,
            past,
            long,
            length-take (length mark) (drop p t),
            length-drop p t,
          ))
      | inr not ↦ not
    ]

-- ---- turned round

-- a mark turned round stands last in a text turned round where the mark stands first
pub stands_first : (mark s : List ℕ) → StandsLast (reverse s) (reverse mark)
    → (behind : List ℕ) × (s ≡ mark ++ behind)
stands_first mark s q = (
  reverse q.0,
  sym (reverse-reverse s) ∙ ap reverse q.1 ∙ reverse-append q.0 (reverse mark)
      ∙ ap (λ l. l ++ reverse q.0) (reverse-reverse mark),
)

pub stands_last : (mark s behind : List ℕ) → s ≡ mark ++ behind
    → StandsLast (reverse s) (reverse mark)
stands_last mark s behind e = (reverse behind, ap reverse e ∙ reverse-append mark behind)

-- ---- the first place, and the last one

pub found_first : (mark us : List ℕ) (k p : ℕ) → p ≤ length us → StandsAt mark us p
    → ((q : ℕ) → q < p → IsNotAt mark us q) → first_in mark us k ≡ Some (k + p)
unfolding first_in
found_first mark [] k zero le is none = cond-true _ _ _ is ∙ ap Some (omega arith)
found_first mark [] k (suc p) le is none = absurd (omega (arith, le))
found_first mark (u ∷ us) k zero le is none = cond-true _ _ _ is ∙ ap Some (omega arith)
found_first mark (u ∷ us) k (suc p) le is none =
    cond-false _ _ _ (none 0 (omega arith))
    ∙ found_first mark us (suc k) p (omega (arith, le)) is
    (λ q lt. none (suc q) (omega (arith, lt)))
    ∙ ap Some (omega arith)

pub found_nowhere : (mark us : List ℕ) (k : ℕ) → ((q : ℕ) → q ≤ length us → IsNotAt mark us q)
    → first_in mark us k ≡ None
unfolding first_in
found_nowhere mark [] k none = cond-false _ _ _ (none 0 (omega arith))
found_nowhere mark (u ∷ us) k none =
    cond-false _ _ _ (none 0 (omega arith))
    ∙ found_nowhere mark us (suc k) (λ q le. none (suc q) (omega (arith, le)))

pub found_last : (mark t : List ℕ) (k p : ℕ) → p ≤ k → StandsAt mark t p
    → ((q : ℕ) → p < q → q ≤ k → IsNotAt mark t q) → last_in mark t k ≡ Some p
unfolding last_in
found_last mark t zero p le is none =
    let first : p ≡ 0 = omega (arith, le) in
    cond-true _ _ _ (subst (StandsAt mark t) first is) ∙ ap Some (sym first)
found_last mark t (suc k) p le is none =
    elim (cases_lt p (suc k)) [
      | inl lt ↦
          cond-false _ _ _ (none (suc k) lt (omega arith))
          ∙ found_last mark t k p (omega (arith, lt)) is
          (λ q over within. none q over (omega (arith, within)))
      | inr ge ↦
          let there : p ≡ suc k = omega (arith, le, ge) in
          cond-true _ _ _ (subst (StandsAt mark t) there is) ∙ ap Some (sym there)
    ]

pub found_nowhere_before : (mark t : List ℕ) (k : ℕ) → ((q : ℕ) → q ≤ k → IsNotAt mark t q)
    → last_in mark t k ≡ None
unfolding last_in
found_nowhere_before mark t zero none = cond-false _ _ _ (none 0 (omega arith))
found_nowhere_before mark t (suc k) none =
    cond-false _ _ _ (none (suc k) (omega arith))
    ∙ found_nowhere_before mark t k (λ q le. none q (omega (arith, le)))

-- ---- a mark without units

stands_empty : (text : List ℕ) (p : ℕ) → StandsAt [] text p
stands_empty text p = refl

pub some_unit_in : (n : ℕ) → false ≡ (n == 0) → 0 < n
some_unit_in zero e = absurd (false≢true e)
some_unit_in (suc n) e = omega arith

pub first_empty : (mark text : List ℕ) (from : ℕ) → true ≡ (length mark == 0)
    → first_in mark text from ≡ Some from
first_empty [] text from e =
    found_first [] text from 0 (omega arith) (stands_empty text 0)
    (λ q lt. absurd (omega (arith, lt)))
    ∙ ap Some (omega arith)
first_empty (m ∷ ms) text from e =
    absurd (false≢true (sym (eqb-suc-zero (length ms)) ∙ sym e))

pub last_empty : (mark text : List ℕ) (from : ℕ) → true ≡ (length mark == 0)
    → last_in mark text from ≡ Some from
last_empty [] text from e =
    found_last [] text from from (omega arith) (stands_empty text from)
    (λ q over within. absurd (omega (arith, over, within)))
last_empty (m ∷ ms) text from e =
    absurd (false≢true (sym (eqb-suc-zero (length ms)) ∙ sym e))

-- ---- read forwards

-- one unit more of what stands from a place on
pub read_on : (mark text : List ℕ) (from i met new : ℕ)
    → i < length (take (length text - from) (drop from text))
    → IsMet mark (take i (drop from text)) met
    → ((read : List ℕ) → IsMet mark read met → IsMet mark
    (read ++ get_or (take (length text - from) (drop from text)) i 0 ∷ []) new)
    → IsMet mark (take (i + 1) (drop from text)) new
read_on mark text from i met new lt is next =
    subst (λ l. IsMet mark l new)
    (ap (λ l. take i (drop from text) ++ get_or l i 0 ∷ []) (take_rest text from)
    ∙ one_more_read (drop from text) i (subst (λ l. i < length l) (take_rest text from) lt))
    (next (take i (drop from text)) is)

-- the whole mark stands last: it stands where that begins
found_at : (mark text : List ℕ) (n : ℕ) → n ≤ length text → IsMet mark (take n text) (length mark)
    → StandsAt mark text (n - length mark)
found_at mark text n le is =
    let q : StandsLast (take n text) mark =
    subst (StandsLast (take n text)) (take-length mark) is.stands in
    let there : length q.0 ≡ n - length mark =
    omega (arith, ap length q.1, length-append q.0 mark, length-take-le n text le) in
    subst (StandsAt mark text) there (stands_there mark text n q)

pub none_more : (mark text : List ℕ) (i met : ℕ) → IsMet mark (take (i + 1) text) met
    → (met ≡ length mark → ⊥) → ((p : ℕ) → p + length mark ≤ i → IsNotAt mark text p)
    → (p : ℕ) → p + length mark ≤ i + 1 → IsNotAt mark text p
none_more mark text i met is other none p le =
    elim (cases_lt (p + length mark) (i + 1)) [
      | inl lt ↦ none p (omega (arith, lt))
      | inr ge ↦ elim (cases_Bool (starts_with nat_eq (drop p text) mark)) [
        | inl here ↦
            let end : p + length mark ≡ i + 1 = omega (arith, le, ge) in
            let whole : StandsLast (take (i + 1) text) (take (length mark) mark) =
            subst (StandsLast (take (i + 1) text)) (sym (take-length mark))
            (subst (λ n. StandsLast (take n text) mark) end (stands_behind mark text p here)) in
            let all : length mark ≤ met = is.most (length mark) (omega arith) whole in
            absurd (other (omega (arith, all, is.within)))
        | inr not ↦ not
      ]
    ]

pub first_found : (mark text : List ℕ) (from i met : ℕ) → i < length text
    → IsMet mark (take (i + 1) text) met → met ≡ length mark
    → ((p : ℕ) → p + length mark ≤ i → IsNotAt mark text p)
    → first_in mark text from ≡ Some (from + i + 1 - met)
first_found mark text from i met lt is all none =
    let whole : IsMet mark (take (i + 1) text) (length mark) =
    subst (IsMet mark (take (i + 1) text)) all is in
    let few : length mark ≤ i + 1 =
    omega (
      arith,
      met_few mark (take (i + 1) text) (length mark) whole,
      length-take-le (i + 1) text (omega (arith, lt)),
    ) in
    let place : from + (i + 1 - length mark) ≡ from + i + 1 - met = omega (arith, few, all) in
    found_first mark text from (i + 1 - length mark) (omega (arith, lt))
    (found_at mark text (i + 1) (omega (arith, lt)) whole)
    (λ q before. none q (omega (arith, before, few)))
    ∙ ap Some place

pub first_nowhere : (mark text : List ℕ) (from : ℕ)
    → ((p : ℕ) → p + length mark ≤ length text → IsNotAt mark text p)
    → first_in mark text from ≡ None
first_nowhere mark text from none =
    found_nowhere mark text from (λ q le. elim (cases_lt (length text) (q + length mark)) [
      | inl past ↦ not_past mark text q le past
      | inr within ↦ none q within
    ])

-- ---- read backwards

-- where the last place at which a mark may stand ends
abbrev pub end_of : List ℕ → List ℕ → ℕ → ℕ
end_of mark text from = min (from + length mark) (length text)

pub one_more_back : (text : List ℕ) (end p : ℕ) → end ≤ length text → 0 < p → p ≤ end
    → reverse (drop p (take end text)) ++ get_or text (p - 1) 0 ∷ []
    ≡ reverse (drop (p - 1) (take end text))
one_more_back text end zero le some within = absurd (omega (arith, some))
one_more_back text end (suc p) le some within =
    let same : suc p - 1 ≡ p = omega arith in
    subst (λ n. reverse (drop (suc p) (take end text)) ++ get_or text n 0 ∷ []
    ≡ reverse (drop n (take end text))) (sym same)
    (sym (ap reverse (drop-cons (take end text) p 0
    (omega (arith, within, length-take-le end text le)))
    ∙ reverse-append (get_or (take end text) p 0 ∷ []) (drop (suc p) (take end text))
    ∙ ap (λ x. reverse (drop (suc p) (take end text)) ++ x ∷ [])
    (get_or-take end text p 0 (omega (arith, within)))))

-- one unit more, where the mark is read backwards
pub read_back : (m mark text : List ℕ) (end p met new : ℕ) → m ≡ reverse mark
    → end ≤ length text → 0 < p → p ≤ end
    → IsMet (reverse mark) (reverse (drop p (take end text))) met
    → ((read : List ℕ) → IsMet m read met → IsMet m (read ++ get_or text (p - 1) 0 ∷ []) new)
    → IsMet (reverse mark) (reverse (drop (p - 1) (take end text))) new
read_back m mark text end p met new same le some within is next =
    subst (λ l. IsMet (reverse mark) l new) (one_more_back text end p le some within)
    (subst (λ l. IsMet l (reverse (drop p (take end text)) ++ get_or text (p - 1) 0 ∷ []) new) same
    (next (reverse (drop p (take end text)))
    (subst (λ l. IsMet l (reverse (drop p (take end text))) met) (sym same) is)))

back_at : (mark text : List ℕ) (end p : ℕ) → end ≤ length text → p ≤ end
    → StandsLast (reverse (drop p (take end text))) (reverse mark) → StandsAt mark text p
back_at mark text end p le within q =
    (bytes_decides mark (take (length mark) (drop p text))).1 (sym there)
  where
    there : take (length mark) (drop p text) ≡ mark
    there =
        let r = stands_first mark (drop p (take end text)) q in
        ap (λ l. take (length mark) (drop p l)) (sym (take-append-drop end text))
        ∙ ap (take (length mark)) (drop-append-le p (take end text) (drop end text)
        (omega (arith, within, length-take-le end text le))
        ∙ ap (λ l. l ++ drop end text) r.1 ∙ append_assoc mark r.0 (drop end text))
        ∙ take-append_seam mark (r.0 ++ drop end text)

at_back : (mark text : List ℕ) (p k : ℕ) → StandsAt mark text p
    → StandsLast (reverse (drop p (take (p + (length mark + k)) text))) (reverse mark)
at_back mark text p k is =
    stands_last mark (drop p (take (p + (length mark + k)) text))
    (take k (drop (length mark) (drop p text)))
    (drop-take p (length mark + k) text ∙ take-add (length mark) k (drop p text)
    ∙ ap (λ l. l ++ take k (drop (length mark) (drop p text)))
    (sym ((bytes_decides mark (take (length mark) (drop p text))).0 is)))

at_back_of : (mark text : List ℕ) (end p : ℕ) → p + length mark ≤ end → StandsAt mark text p
    → StandsLast (reverse (drop p (take end text))) (reverse mark)
at_back_of mark text end p le is =
    let same : p + (length mark + (end - (p + length mark))) ≡ end = omega (arith, le) in
    subst (λ n. StandsLast (reverse (drop p (take n text))) (reverse mark)) same
    (at_back mark text p (end - (p + length mark)) is)

pub none_more_back : (mark text : List ℕ) (end p met : ℕ)
    → IsMet (reverse mark) (reverse (drop p (take end text))) met → (met ≡ length mark → ⊥)
    → ((q : ℕ) → p < q → q + length mark ≤ end → IsNotAt mark text q)
    → (q : ℕ) → p ≤ q → q + length mark ≤ end → IsNotAt mark text q
none_more_back mark text end p met is other none q from le =
    elim (cases_lt p q) [
      | inl lt ↦ none q lt le
      | inr ge ↦ elim (cases_Bool (starts_with nat_eq (drop q text) mark)) [
        | inl here ↦
            let there : q ≡ p = omega (arith, from, ge) in
            let whole : StandsLast (reverse (drop p (take end text)))
            (take (length (reverse mark)) (reverse mark)) =
            subst (StandsLast (reverse (drop p (take end text))))
            (sym (take-length (reverse mark)))
            (subst (λ n. StandsLast (reverse (drop n (take end text))) (reverse mark)) there
            (at_back_of mark text end q le here)) in
            let all : length (reverse mark) ≤ met =
            is.most (length (reverse mark)) (omega arith) whole in
            absurd (other (omega (arith, all, is.within, length-reverse mark)))
        | inr not ↦ not
      ]
    ]

module _ (mark text : List ℕ) (from : ℕ) (fits : from ≤ length text) where
  -- nothing was read
  pub opened_back : (place : ℕ) → place ≡ end_of mark text from
      → IsMet (reverse mark) (reverse (drop place (take (end_of mark text from) text))) 0
  opened_back place at =
      let none : drop place (take (end_of mark text from) text) ≡ [] =
      drop_all place (take (end_of mark text from) text)
      (omega (arith, at, length-take (end_of mark text from) text)) in
      subst (λ l. IsMet (reverse mark) (reverse l) 0) (sym none) (nothing_met (reverse mark))

  not_before : (p q : ℕ)
      → ((r : ℕ) → p ≤ r → r + length mark ≤ end_of mark text from → IsNotAt mark text r)
      → p ≤ q → q ≤ from → IsNotAt mark text q
  not_before p q none over within =
      elim (cases_lt (end_of mark text from) (q + length mark)) [
        | inl past ↦ not_past mark text q (omega (arith, within, fits)) (omega (arith, past, within))
        | inr inside ↦ none q over inside
      ]

  pub last_nowhere :
      ((r : ℕ) → 0 ≤ r → r + length mark ≤ end_of mark text from → IsNotAt mark text r)
      → last_in mark text from ≡ None
  last_nowhere none =
      found_nowhere_before mark text from (λ q within. not_before 0 q none (omega arith) within)

  pub last_found : (p met : ℕ) → p ≤ end_of mark text from
      → IsMet (reverse mark) (reverse (drop p (take (end_of mark text from) text))) met
      → met ≡ length mark
      → ((r : ℕ) → p < r → r + length mark ≤ end_of mark text from → IsNotAt mark text r)
      → last_in mark text from ≡ Some p
  last_found p met within is all none =
      let whole : IsMet (reverse mark) (reverse (drop p (take (end_of mark text from) text)))
      (length (reverse mark)) =
      subst (IsMet (reverse mark) (reverse (drop p (take (end_of mark text from) text))))
      (all ∙ sym (length-reverse mark)) is in
      let long : length (drop p (take (end_of mark text from) text)) ≡ end_of mark text from - p =
      omega (
        arith,
        length-drop p (take (end_of mark text from) text),
        length-take-le (end_of mark text from) text (omega arith),
      ) in
      let few : p + length mark ≤ end_of mark text from =
      omega (
        arith,
        within,
        long,
        length-reverse mark,
        length-reverse (drop p (take (end_of mark text from) text)),
        met_few (reverse mark) (reverse (drop p (take (end_of mark text from) text)))
            (length (reverse mark)) whole,
      ) in
      found_last mark text from p (omega (arith, few))
      (back_at mark text (end_of mark text from) p (omega arith) within
      (subst (StandsLast (reverse (drop p (take (end_of mark text from) text))))
      (take-length (reverse mark)) whole.stands))
      (λ q over before. not_before (suc p) q
      (λ r above inside. none r (omega (arith, above)) inside) (omega (arith, over)) before)
