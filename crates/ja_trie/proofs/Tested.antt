-- Lists tested place by place: lists one after another, and lists that are cut.
use Rattle.std.proofs.Common.{◌≡◌, ℕ, zero, suc, ◌+◌, ◌-◌, ◌*◌, ◌/◌, ◌%◌, ◌<◌, ◌≤◌, Bool, true, false, List, [], ◌∷◌, length, get_or, take, replicate, refl, sym, ap, ◌∙◌, subst, arith, below_more}
use Rattle.std.specs.List.{flat_map}
use Rattle.std.proofs.lemmas.Bool.{true≢false}
use Rattle.std.proofs.lemmas.List.{get_or_default, get_or-replicate}
use Rattle.std.proofs.lemmas.List.Elements.{All-replicate}
use Rattle.std.proofs.lemmas.Nat.{div-add-mod', div_below, mod_below}
use Rattle.std.proofs.lemmas.Option.{slice_get_within, slice_get-get_or, get_or_from_slice_get}
use Rattle.ja_trie.specs.Test.{SaysOfPlaces}
use Rattle.ja_trie.specs.code.Node.{AreLong}
use Rattle.ja_trie.specs.code.NodeFalls.{level_length}
use Rattle.ja_trie.specs.code.Shared.{IsShared}
use Rattle.ja_trie.specs.code.Test.{SaysOfFirst}
use Rattle.ja_trie.proofs.Levels.{read_level}
use Rattle.ja_trie.proofs.Sharing.{long_is}

-- a place before a cut
pub taken : {T : Type 0} (n k : ℕ) (l : List T) (d : T) → k < n → get_or
    (take n l) k d ≡ get_or l k d
taken zero k l d below = absurd (omega arith)
taken (suc n) k [] d below = refl
taken (suc n) zero (x ∷ l) d below = refl
taken (suc n) (suc k) (x ∷ l) d below = taken n k l d (omega arith)

-- one of the values that a list has
element : {T : Type 0} (xs : List T) → 0 < length xs → T
element [] some = absurd (omega arith)
element (x ∷ xs) some = x

-- what is said of two values is said of values that are equal to them
pub said_of : {T : Type 0} (R : T → T → Bool → Type 0) (x x' y y' : T) (b : Bool) → x ≡ x' → y ≡ y'
    → R x y b → R x' y' b
said_of R x x' y y' b e h r = subst (λ v. R v y' b) e (subst (λ v. R x v b) h r)

module _ {T : Type 0} (R : T → T → Bool → Type 0) where
  -- the same of equal lists
  pub said_at : (n : ℕ) (xs xs' ys ys' : List T) (b b' : Bool) → xs ≡ xs' → ys ≡ ys' → b ≡ b'
      → SaysOfFirst R n xs ys b → SaysOfFirst R n xs' ys' b'
  said_at n xs xs' ys ys' b b' e h i s =
      subst (λ l. SaysOfFirst R n l ys' b') e (subst (λ l. SaysOfFirst R n xs l b') h
      (subst (λ c. SaysOfFirst R n xs ys c) i s))

  module _ {X : Type 0} (f : X → List T) (w n : ℕ) (ns ms : List X) where
    -- it said true of the first n places, as far as the first i lists go, of w places each
    abbrev pub AreHeld : ℕ → Type 0
    AreHeld i = (q : ℕ) → q < i → (r : ℕ) (d : T) (e : X) → r < w → q * w + r < n
        → R (get_or (f (get_or ns q e)) r d) (get_or (f (get_or ms q e)) r d) true

    pub held_none : AreHeld 0
    held_none q below r d e inside within = absurd (omega arith)

    -- one list more
    pub held_more : (i left : ℕ) (c : X) → i < length ns → i < length ms
        → length (f (get_or ns i c)) ≡ w → left ≡ n - i * w
        → SaysOfFirst R left (f (get_or ns i c)) (f (get_or ms i c)) true
        → AreHeld i → AreHeld (i + 1)
    held_more i left c l m long rest said held =
        below_more (λ q. (r : ℕ) (d : T) (e : X) → r < w → q * w + r < n
        → R (get_or (f (get_or ns q e)) r d) (get_or (f (get_or ms q e)) r d) true) i held
        (λ r d e inside within. said_of R _ _ _ _ true
        (ap (λ x. get_or (f x) r d) (get_or_default ns i c e l))
        (ap (λ x. get_or (f x) r d) (get_or_default ms i c e m))
        (said.held refl r (omega arith) (omega arith) d))

    -- false of one of the lists
    pub failed_at : (i left : ℕ) (c : X) → i < length ns → i < length ms → AreLong f ns w
        → AreLong f ms w → left ≡ n - i * w
        → SaysOfFirst R left (f (get_or ns i c)) (f (get_or ms i c)) false
        → SaysOfFirst R n (flat_map f ns) (flat_map f ms) false
    failed_at i left c l m long long' rest said =
        let h = said.failed refl in
        let here : length (f (get_or ns i c)) ≡ w = long i c l in
        let whole : length (flat_map f ns) ≡ length ns * w = level_length f w ns long in
        let inside : h.0 < w = omega (arith, h.2) in
        let up : length ns ≡ i + 1 + (length ns - (i + 1)) = omega arith in
        let all : length ns * w ≡ i * w + w + (length ns - (i + 1)) * w =
        ap (λ k. k * w) up ∙ omega arith in
        record {
          held = λ wrong. absurd (true≢false (sym wrong));
          failed = λ _. (
            i * w + h.0,
            omega (arith, h.1),
            omega arith,
            λ d. said_of R _ _ _ _ false (sym (read_level f w ns i h.0 d c long l inside))
                (sym (read_level f w ms i h.0 d c long' m inside)) (h.3 d),
          );
        }

  -- true of all of them
  pub held_all : {X : Type 0} (f : X → List T) (w n : ℕ) (ns ms : List X) (i : ℕ) → length ns ≤ i
      → length ms ≡ length ns → 0 < w → AreLong f ns w → AreLong f ms w → AreHeld f w n ns ms i
      → SaysOfFirst R n (flat_map f ns) (flat_map f ms) true
  held_all f w n ns ms i most same wide long long' held = record {
    held = λ _ k within inside d.
        let whole : length (flat_map f ns) ≡ length ns * w = level_length f w ns long in
        let at : k / w * w + k % w ≡ k = div-add-mod' k w in
        let quotient : k / w < length ns = div_below k w (length ns) wide (omega arith) in
        let rest : k % w < w = mod_below k w wide in
        let e = element ns (omega arith) in
        said_of R _ _ _ _ true
        (sym (read_level f w ns (k / w) (k % w) d e long quotient rest)
        ∙ ap (λ j. get_or (flat_map f ns) j d) at)
        (sym (read_level f w ms (k / w) (k % w) d e long' (omega arith) rest)
        ∙ ap (λ j. get_or (flat_map f ms) j d) at)
        (held (k / w) (omega arith) (k % w) d e rest (omega arith));
    failed = λ wrong. absurd (true≢false wrong);
  }

  -- what is said of two parts, as far as they are counted, is said of each of them eight times
  pub said_copies : {X : Type 0} (x y : X) (f : X → List T) (w n : ℕ) (b : Bool)
      → length (f x) ≡ w → length (f y) ≡ w → 0 < w → SaysOfFirst R n (f x) (f y) b
      → SaysOfFirst R n (flat_map f (replicate 8 x)) (flat_map f (replicate 8 y)) b
  said_copies x y f w n true long long' wide said =
      held_all f w n (replicate 8 x) (replicate 8 y) 8 (omega arith) refl wide
      (All-replicate (λ v. length (f v) ≡ w) 8 x long)
      (All-replicate (λ v. length (f v) ≡ w) 8 y long')
      (λ q below r d e inside within. said_of R _ _ _ _ true
      (sym (ap (λ v. get_or (f v) r d) (get_or-replicate 8 q x e below)))
      (sym (ap (λ v. get_or (f v) r d) (get_or-replicate 8 q y e below)))
      (said.held refl r (omega arith) (omega arith) d))
  said_copies x y f w n false long long' wide said =
      failed_at f w n (replicate 8 x) (replicate 8 y) 0 n x (omega arith) (omega arith)
      (All-replicate (λ v. length (f v) ≡ w) 8 x long)
      (All-replicate (λ v. length (f v) ≡ w) 8 y long') (omega arith) said

  -- .. and of two values
  pub said_each : (n : ℕ) (xs ys : List T) (x y : T) (b : Bool) → xs ≡ replicate 8 x
      → ys ≡ replicate 8 y → 0 < n → R x y b → SaysOfFirst R n xs ys b
  said_each n xs ys x y b same same' some r = record {
    held = λ all k within inside d. said_of R _ _ _ _ true
        (sym (ap (λ l. get_or l k d) same
        ∙ get_or-replicate 8 k x d (omega (arith, ap length same))))
        (sym (ap (λ l. get_or l k d) same'
        ∙ get_or-replicate 8 k y d (omega (arith, ap length same))))
        (subst (R x y) all r);
    failed = λ none. (
      0,
      some,
      omega (arith, ap length same),
      λ d. said_of R _ _ _ _ false (sym (ap (λ l. get_or l 0 d) same))
          (sym (ap (λ l. get_or l 0 d) same')) (subst (R x y) none r),
    );
  }

  -- what is said of the roots as far as the first list goes is said of the lists
  pub said_of_root : (long long' w w' : ℕ) (xs ys self other : List T) (b : Bool)
      (s : IsShared long w xs) (o : IsShared long' w' ys)
      → take long xs ≡ self → take long' ys ≡ other → length other ≡ length self
      → SaysOfFirst R long xs ys b → SaysOfPlaces R self other b
  said_of_root long long' w w' xs ys self other b s o is is' same said =
      let here = long_is long w xs self s is in
      let there = long_is long' w' ys other o is' in
      let cut : take long ys ≡ other = ap (λ k. take k ys) (sym here ∙ sym same ∙ there) ∙ is' in
      record {
        held = λ all n x y at at'.
            let within : n < length self = slice_get_within self n x at in
            said_of R _ _ _ _ true
            (sym (taken long n xs x (omega arith)) ∙ ap (λ l. get_or l n x) is
            ∙ get_or_from_slice_get self n x x at)
            (sym (taken long n ys x (omega arith)) ∙ ap (λ l. get_or l n x) cut
            ∙ get_or_from_slice_get other n y x at')
            (said.held all n (omega arith) (omega (arith, s.enough, s.whole)) x);
        failed = λ none.
            let h = said.failed none in
            let d = element xs (omega (arith, h.2)) in
            let at : get_or xs h.0 d ≡ get_or self h.0 d =
            sym (taken long h.0 xs d h.1) ∙ ap (λ l. get_or l h.0 d) is in
            let at' : get_or ys h.0 d ≡ get_or other h.0 d =
            sym (taken long h.0 ys d h.1) ∙ ap (λ l. get_or l h.0 d) cut in (
              h.0,
              get_or self h.0 d,
              get_or other h.0 d,
              slice_get-get_or self h.0 d (omega (arith, h.1)),
              slice_get-get_or other h.0 d (omega (arith, h.1)),
              said_of R _ _ _ _ false at at' (h.3 d),
            );
      }
