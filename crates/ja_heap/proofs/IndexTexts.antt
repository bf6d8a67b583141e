-- An array index has one text: so where one element alone is cut, it is the one of that name.
use Rattle.std.proofs.Common.{◌≡◌, ◌⊎◌, ℕ, pos, zero, suc, ◌+◌, ◌-◌, ◌*◌, ◌<◌, ◌≤◌, true, false, not, List, [], ◌∷◌, Some, None, Option, length, inl, inr, refl, sym, ap, ◌∙◌, arith}
use Rattle.std.specs.Prelude.{filter, nat_le, nat_lt, int_lt, ◌&&◌, ◌||◌, ◌==◌}
use Rattle.std.specs.List.{list_all}
use Rattle.std.specs.Option.{option_map_or}
use Rattle.std.specs.Cmp.Lexicographic.{bytes_decides}
use Rattle.std.proofs.lemmas.Bool.{cases_Bool}
use Rattle.std.proofs.lemmas.Bool.Decides.{nat_tests}
use Rattle.std.proofs.lemmas.Int.{ints}
use Rattle.ja_base.proofs.Tests.{and_left_true, and_right_true}
use Rattle.ja_prim.specs.Characters.{is_digit}
use Rattle.ja_prim.specs.Conversions.{index_of}
use Rattle.ja_prim.specs.Index.{index_end, with_digits, starts_with_zero, is_index_text}
use Rattle.ja_prim.specs.Texts.{same_text}
use Rattle.ja_machine.specs.declared.machine.Property.{Property}
use Rattle.ja_machine.specs.Writes.{is_cut, without}

digit_range : (c : ℕ) → is_digit c ≡ true → (48 ≤ c) × (c < 58)
digit_range c h =
    let low = and_left_true (nat_le 48 c) (nat_le c 57) h in
    let high = and_right_true (nat_le 48 c) (nat_le c 57) h in
    (grind (arith, nat_tests, low), grind (arith, nat_tests, high))

-- digits as many write one number only if they are the same
record Alike (n m : ℕ) (t u : List ℕ) : Type 0 where
  number : n ≡ m
  digits : t ≡ u

alike : (n m : ℕ) (t u : List ℕ) → list_all is_digit t ≡ true → list_all is_digit u ≡ true
    → length t ≡ length u → with_digits n t ≡ with_digits m u → Alike n m t u
alike n m [] [] a b l e = record { number = e; digits = refl }
alike n m [] (d ∷ u) a b l e = absurd (omega arith)
alike n m (c ∷ t) [] a b l e = absurd (omega arith)
alike n m (c ∷ t) (d ∷ u) a b l e =
    let p = and_left_true (is_digit c) (list_all is_digit t) a in
    let p' = and_right_true (is_digit c) (list_all is_digit t) a in
    let q = and_left_true (is_digit d) (list_all is_digit u) b in
    let q' = and_right_true (is_digit d) (list_all is_digit u) b in
    let rest = alike (10 * n + (c - 48)) (10 * m + (d - 48)) t u p' q' (omega arith) e in
    let x = digit_range c p in
    let y = digit_range d q in
    let number : n ≡ m = omega (arith, rest.number, x.0, x.1, y.0, y.1) in
    let digit : c ≡ d = omega (arith, rest.number, x.0, x.1, y.0, y.1) in
    record { number = number; digits = (λ i. digit i ∷ rest.digits i) }

-- zeros before digits
zeros : ℕ → List ℕ → List ℕ
zeros zero t = t
zeros (suc k) t = 48 ∷ zeros k t

zeros_value : (k : ℕ) (t : List ℕ) → with_digits 0 (zeros k t) ≡ with_digits 0 t
unfolding zeros
zeros_value zero t = refl
zeros_value (suc k) t = zeros_value k t

zeros_digits : (k : ℕ) (t : List ℕ) → list_all is_digit t ≡ true
    → list_all is_digit (zeros k t) ≡ true
unfolding zeros
zeros_digits zero t h = h
zeros_digits (suc k) t h = zeros_digits k t h

zeros_length : (k : ℕ) (t : List ℕ) → length (zeros k t) ≡ k + length t
unfolding zeros
zeros_length zero t = omega arith
zeros_length (suc k) t = let e = zeros_length k t in omega (arith, e)

-- what the text of an index is
record IsIndexText (t : List ℕ) (i : ℕ) : Type 0 where
  some : 0 < length t
  digits : list_all is_digit t ≡ true
  first : (not (starts_with_zero t) || (length t == 1)) ≡ true
  value : with_digits 0 t ≡ i

index_text : (t : List ℕ) (i : ℕ) → index_of t ≡ Some i → IsIndexText t i
index_text t i h =
    elim (cases_Bool (is_index_text t)) [
      | inl u ↦
          let value : Some (with_digits 0 t) ≡ Some i = simp u at h in
          let few = nat_lt 0 (length t) && nat_le (length t) 10 in
          let digits = few && list_all is_digit t in
          let first = not (starts_with_zero t) || (length t == 1) in
          let k = and_left_true (digits && first) (nat_lt (with_digits 0 t) index_end) u in
          let m = and_left_true digits first k in
          let n = and_left_true few (list_all is_digit t) m in
          let o = and_left_true (nat_lt 0 (length t)) (nat_le (length t) 10) n in
          record {
            some = grind (arith, nat_tests, o);
            digits = and_right_true few (list_all is_digit t) m;
            first = and_right_true digits first k;
            value = cc;
          }
      | inr f ↦ absurd (let k : None ≡ Some i = simp f at h in cc)
    ]

-- a longer text of the same number begins with 0
longer : (t u : List ℕ) (i : ℕ) → IsIndexText t i → IsIndexText u i → length t < length u → ⊥
unfolding zeros
longer t u i a b l =
    let k = length u - length t in
    let same = alike 0 0 (zeros k t) u (zeros_digits k t a.digits) b.digits
    (zeros_length k t ∙ omega arith) (zeros_value k t ∙ (a.value ∙ sym b.value)) in
    led k (omega arith) same.digits
  where
    led : (k : ℕ) → 0 < k → zeros k t ≡ u → ⊥
    led zero p e = omega arith
    led (suc k) p e =
        let z : starts_with_zero u ≡ true = ap starts_with_zero (sym e) in
        let some = a.some in
        let f : (not (starts_with_zero u) || (length u == 1)) ≡ true = b.first in
        let one : (length u == 1) ≡ true = simp z at f in
        grind (arith, nat_tests, one, l, some)

pub one_text : (t u : List ℕ) (i : ℕ) → index_of t ≡ Some i → index_of u ≡ Some i → t ≡ u
one_text t u i h k = at (index_text t i h) (index_text u i k)
  where
    at : IsIndexText t i → IsIndexText u i → t ≡ u
    at a b =
        elim (cases_Bool (nat_lt (length t) (length u))) [
          | inl l ↦ absurd (longer t u i a b (grind (arith, nat_tests, l)))
          | inr l ↦
              elim (cases_Bool (nat_lt (length u) (length t))) [
                | inl m ↦ absurd (longer u t i b a (grind (arith, nat_tests, m)))
                | inr m ↦
                    let long : length t ≡ length u = grind (arith, nat_tests, l, m) in
                    (alike 0 0 t u a.digits b.digits long (a.value ∙ sym b.value)).digits
              ]
        ]

-- where one element alone is cut, the one of its name is
alone : (new : ℕ) (name : List ℕ) (q : Property) → index_of name ≡ Some new
    → same_text q.name name ≡ is_cut new (Some (pos (new + 1))) q
alone new name q h = at (index_of q.name) refl (cases_Bool (same_text q.name name))
  where
    same : same_text q.name name ≡ true → index_of q.name ≡ Some new
    same e = ap index_of ((bytes_decides q.name name).0 e) ∙ h

    at : (r : Option ℕ) → index_of q.name ≡ r
        → (same_text q.name name ≡ true) ⊎ (same_text q.name name ≡ false)
        → same_text q.name name
        ≡ option_map_or (λ i. nat_le new i && int_lt (pos i) (pos (new + 1))) r false
    at None e (inl s) = absurd (let k = sym e ∙ same s in cc)
    at None e (inr s) = s
    at (Some i) e (inl s) =
        let k : i ≡ new = let z = sym e ∙ same s in cc in
        s ∙ sym (grind (arith, ints, nat_tests, k))
    at (Some i) e (inr s) =
        elim (cases_Bool (nat_le new i && int_lt (pos i) (pos (new + 1)))) [
          | inr f ↦ s ∙ sym f
          | inl f ↦
              let low = and_left_true (nat_le new i) (int_lt (pos i) (pos (new + 1))) f in
              let high = and_right_true (nat_le new i) (int_lt (pos i) (pos (new + 1))) f in
              let k : i ≡ new = grind (arith, ints, nat_tests, low, high) in
              let t : q.name ≡ name = one_text q.name name new (e ∙ ap Some k) h in
              let y = (bytes_decides q.name name).1 t in
              absurd (cc)
        ]

pub one_cut : (new : ℕ) (name : List ℕ) (qs : List Property) → index_of name ≡ Some new
    → without qs name ≡ filter (λ (q : Property). not (is_cut new (Some (pos (new + 1))) q)) qs
one_cut new name qs h = λ i. filter (λ (q : Property). not (alone new name q h i)) qs
