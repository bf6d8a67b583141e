-- Lists joined place by place: one place more, and lists one after another.
use Rattle.std.proofs.Common.{◌≡◌, ℕ, zero, suc, ◌+◌, ◌-◌, ◌*◌, ◌<◌, ◌≤◌, min, Option, None, Some, List, [], ◌∷◌, ◌++◌, length, get_or, set, map, replicate, is_some, refl, sym, ap, ◌∙◌, subst, arith, add-one, drop, ⊎_elim, ◌/◌, ◌^◌, nat_lt, take, true, false, Bool, mul-le-mul_left}
use Rattle.std.specs.List.{flat_map}
use Rattle.std.proofs.lemmas.Bool.{cases_lt, lt-ltb}
use Rattle.std.proofs.lemmas.Bool.Decides.{nat_tests}
use Rattle.std.proofs.lemmas.List.{length-set, length-map, get_or-map}
use Rattle.std.proofs.lemmas.List.Elements.{All-set}
use Rattle.ja_trie.specs.code.Node.{AreLong}
use Rattle.ja_trie.specs.code.NodeFalls.{long_rest}
use Rattle.ja_trie.specs.Join.{Joined, kept_or, put_by}
use Rattle.ja_trie.specs.code.Join.{JoinedTo}

module _ {T : Type 0} (R : T → T → Option T → Type 0) where
  -- no place
  pub joined_none : (xs ys : List T) → JoinedTo R 0 xs ys xs 0
  joined_none [] ys = (refl, refl)
  joined_none (x ∷ xs) ys = (refl, refl)

  -- one place more, which is kept
  kept : (i : ℕ) (xs ys zs : List T) (puts : ℕ) (d : T) → JoinedTo R i xs ys zs puts → i < length xs
      → i < length ys → R (get_or xs i d) (get_or ys i d) None → JoinedTo R (suc i) xs ys zs puts
  kept i [] ys zs puts d h l m r = absurd (omega arith)
  kept i (x ∷ xs) [] zs puts d h l m r = absurd (omega arith)
  kept zero (x ∷ xs) (y ∷ ys) zs puts d h l m r =
      subst (λ l. JoinedTo R 1 (x ∷ xs) (y ∷ ys) l puts) (sym h.0)
      (None, 0, r, refl, omega (arith, h.1), joined_none xs ys)
  kept (suc i) (x ∷ xs) (y ∷ ys) [] puts d h l m r = absurd h
  kept (suc i) (x ∷ xs) (y ∷ ys) (z ∷ zs) puts d h l m r =
      (h.0, h.1, h.2, h.3, h.4, kept i xs ys zs h.1 d h.5 (omega arith) (omega arith) r)

  -- one place more, which is put
  put : (i : ℕ) (xs ys zs : List T) (puts : ℕ) (d z : T) → JoinedTo R i xs ys zs puts
      → i < length xs → i < length ys → R (get_or xs i d) (get_or ys i d) (Some z)
      → JoinedTo R (suc i) xs ys (set zs i z) (puts + 1)
  put i [] ys zs puts d z h l m r = absurd (omega arith)
  put i (x ∷ xs) [] zs puts d z h l m r = absurd (omega arith)
  put zero (x ∷ xs) (y ∷ ys) zs puts d z h l m r =
      subst (λ l. JoinedTo R 1 (x ∷ xs) (y ∷ ys) (set l 0 z) (puts + 1)) (sym h.0)
      (Some z, 0, r, refl, omega (arith, h.1), joined_none xs ys)
  put (suc i) (x ∷ xs) (y ∷ ys) [] puts d z h l m r = absurd h
  put (suc i) (x ∷ xs) (y ∷ ys) (w ∷ zs) puts d z h l m r = (
    h.0,
    h.1 + 1,
    h.2,
    h.3,
    omega (arith, h.4),
    put i xs ys zs h.1 d z h.5 (omega arith)
        (omega arith) r,
  )

  pub joined_kept : (i : ℕ) (xs ys zs : List T) (puts : ℕ) (d : T) → JoinedTo R i xs ys zs puts
      → i < length xs → i < length ys → R (get_or xs i d) (get_or ys i d) None
      → JoinedTo R (i + 1) xs ys zs puts
  joined_kept i xs ys zs puts d h l m r = subst (λ n. JoinedTo R n xs ys zs puts) (sym (add-one i))
      (kept i xs ys zs puts d h l m r)

  pub joined_put : (i : ℕ) (xs ys zs : List T) (puts : ℕ) (d z : T) → JoinedTo R i xs ys zs puts
      → i < length xs → i < length ys → R (get_or xs i d) (get_or ys i d) (Some z)
      → JoinedTo R (i + 1) xs ys (set zs i z) (puts + 1)
  joined_put i xs ys zs puts d z h l m r = subst (λ n. JoinedTo R n xs ys (set zs i z) (puts + 1))
      (sym (add-one i)) (put i xs ys zs puts d z h l m r)

  -- past the end it makes no difference how many places are joined
  pub joined_past : (m n : ℕ) (xs ys zs : List T) (puts : ℕ) → length xs ≤ m → length xs ≤ n
      → JoinedTo R m xs ys zs puts → JoinedTo R n xs ys zs puts
  joined_past m n [] ys zs puts l k h = h
  joined_past zero n (x ∷ xs) ys zs puts l k h = absurd (omega arith)
  joined_past (suc m) zero (x ∷ xs) ys zs puts l k h = absurd (omega arith)
  joined_past (suc m) (suc n) (x ∷ xs) [] zs puts l k h = h
  joined_past (suc m) (suc n) (x ∷ xs) (y ∷ ys) [] puts l k h = h
  joined_past (suc m) (suc n) (x ∷ xs) (y ∷ ys) (z ∷ zs) puts l k h =
      (h.0, h.1, h.2, h.3, h.4, joined_past m n xs ys zs h.1 (omega arith) (omega arith) h.5)

  -- the first n places of a list of eight, of which only those that are there are joined
  pub joined_min : (n : ℕ) (xs ys zs : List T) (puts i : ℕ) → length xs ≡ 8 → i ≡ min n 8
      → JoinedTo R i xs ys zs puts → JoinedTo R n xs ys zs puts
  joined_min n xs ys zs puts i eight is h =
      ⊎_elim (λ lt. subst (λ k. JoinedTo R k xs ys zs puts) (omega arith) h)
      (λ le. joined_past i n xs ys zs puts (omega arith) (omega arith) h) (cases_lt n 8)

  joined_zero : (xs ys zs : List T) (puts : ℕ) → JoinedTo R 0 xs ys zs puts → (zs ≡ xs) × (puts ≡ 0)
  joined_zero [] ys zs puts h = h
  joined_zero (x ∷ xs) ys zs puts h = h

  -- one list after another
  joined_append : (n : ℕ) (xs ys zs xs' ys' zs' : List T) (puts puts' : ℕ) → length ys ≡ length xs
      → JoinedTo R n xs ys zs puts → JoinedTo R (n - length xs) xs' ys' zs' puts'
      → JoinedTo R n (xs ++ xs') (ys ++ ys') (zs ++ zs') (puts + puts')
  joined_append n [] [] zs xs' ys' zs' puts puts' e h k =
      subst (λ l. JoinedTo R n xs' ys' (l ++ zs') (puts + puts')) (sym h.0)
      (subst (λ c. JoinedTo R n xs' ys' zs' c) (omega (arith, h.1))
      (subst (λ m. JoinedTo R m xs' ys' zs' puts') (omega arith) k))
  joined_append n [] (y ∷ ys) zs xs' ys' zs' puts puts' e h k = absurd (omega arith)
  joined_append zero (x ∷ xs) ys zs xs' ys' zs' puts puts' e h k =
      let rest = joined_zero xs' ys' zs' puts' (subst (λ m. JoinedTo R m xs' ys' zs' puts')
      (omega arith) k) in
      (ap (λ l. l ++ zs') h.0 ∙ ap (λ l. x ∷ xs ++ l) rest.0, omega (arith, h.1, rest.1))
  joined_append (suc n) (x ∷ xs) [] zs xs' ys' zs' puts puts' e h k = absurd h
  joined_append (suc n) (x ∷ xs) (y ∷ ys) [] xs' ys' zs' puts puts' e h k = absurd h
  joined_append (suc n) (x ∷ xs) (y ∷ ys) (z ∷ zs) xs' ys' zs' puts puts' e h k = (
    h.0,
    h.1 + puts',
    h.2,
    h.3,
    omega (arith, h.4),
    joined_append n xs ys zs xs' ys' zs' h.1 puts' (omega arith) h.5
        (subst (λ m. JoinedTo R m xs' ys' zs' puts') (omega arith) k),
  )

  module _ {X : Type 0} (f : X → List T) (w : ℕ) where
    -- the first i of the lists in a list are joined, w places each and n in all
    abbrev pub PartsJoined : ℕ → ℕ → List X → List X → List X → ℕ → Type 0
    PartsJoined n i [] ms ks puts = (ks ≡ []) × (puts ≡ 0)
    PartsJoined n zero (x ∷ ns) ms ks puts = (map f ks ≡ map f (x ∷ ns)) × (puts ≡ 0)
    PartsJoined n (suc i) (x ∷ ns) [] ks puts = ⊥
    PartsJoined n (suc i) (x ∷ ns) (y ∷ ms) [] puts = ⊥
    PartsJoined n (suc i) (x ∷ ns) (y ∷ ms) (z ∷ ks) puts = (here : ℕ) × (rest : ℕ)
        × JoinedTo R n (f x) (f y) (f z) here × (puts ≡ here + rest)
        × PartsJoined (n - w) i ns ms ks rest

    pub parts_none : (n : ℕ) (ns ms ks : List X) → map f ks ≡ map f ns → PartsJoined n 0 ns ms ks 0
    parts_none n [] ms [] e = (refl, refl)
    parts_none n [] ms (k ∷ ks) e = absurd (omega (arith, ap length e))
    parts_none n (x ∷ ns) ms ks e = (e, refl)

    first_same : (x z : X) (ns ks : List X) → map f (z ∷ ks) ≡ map f (x ∷ ns) → f z ≡ f x
    first_same x z ns ks e = ap (λ l. get_or l 0 (f x)) e

    rest_same : (x z : X) (ns ks : List X) → map f (z ∷ ks) ≡ map f (x ∷ ns) → map f ks ≡ map f ns
    rest_same x z ns ks e = ap (λ l. drop 1 l) e

    part_kept : (i n : ℕ) (ns ms ks : List X) (puts more : ℕ) (d : X)
        → PartsJoined n i ns ms ks puts → i < length ns → i < length ms
        → JoinedTo R (n - i * w) (f (get_or ns i d)) (f (get_or ms i d)) (f (get_or ns i d)) more
        → PartsJoined n (suc i) ns ms ks (puts + more)
    part_kept i n [] ms ks puts more d h l m r = absurd (omega arith)
    part_kept i n (x ∷ ns) [] ks puts more d h l m r = absurd (omega arith)
    part_kept zero n (x ∷ ns) (y ∷ ms) [] puts more d h l m r =
        absurd (omega (arith, ap length h.0))
    part_kept zero n (x ∷ ns) (y ∷ ms) (z ∷ ks) puts more d h l m r =
        let all : n - 0 * w ≡ n = omega arith in (
          more,
          0,
          subst (λ k. JoinedTo R k (f x) (f y) (f z) more) all
              (subst (λ l. JoinedTo R (n - 0 * w) (f x) (f y) l more)
              (sym (first_same x z ns ks h.0)) r),
          omega (arith, h.1),
          parts_none (n - w) ns ms ks (rest_same x z ns ks h.0),
        )
    part_kept (suc i) n (x ∷ ns) (y ∷ ms) [] puts more d h l m r = absurd h
    part_kept (suc i) n (x ∷ ns) (y ∷ ms) (z ∷ ks) puts more d h l m r =
        let one_more : (i + 1) * w ≡ i * w + w = omega arith in
        let less : n - suc i * w ≡ n - w - i * w = omega arith in (
          h.0,
          h.1 + more,
          h.2,
          omega (arith, h.3),
          part_kept i (n - w) ns ms ks h.1 more d h.4 (omega arith) (omega arith)
              (subst (λ k. JoinedTo R k (f (get_or ns i d)) (f (get_or ms i d))
              (f (get_or ns i d)) more) less r),
        )

    part_put : (i n : ℕ) (ns ms ks : List X) (puts more : ℕ) (d z : X)
        → PartsJoined n i ns ms ks puts → i < length ns → i < length ms
        → JoinedTo R (n - i * w) (f (get_or ns i d)) (f (get_or ms i d)) (f z) more
        → PartsJoined n (suc i) ns ms (set ks i z) (puts + more)
    part_put i n [] ms ks puts more d z h l m r = absurd (omega arith)
    part_put i n (x ∷ ns) [] ks puts more d z h l m r = absurd (omega arith)
    part_put zero n (x ∷ ns) (y ∷ ms) [] puts more d z h l m r =
        absurd (omega (arith, ap length h.0))
    part_put zero n (x ∷ ns) (y ∷ ms) (k ∷ ks) puts more d z h l m r =
        let all : n - 0 * w ≡ n = omega arith in (
          more,
          0,
          subst (λ k. JoinedTo R k (f x) (f y) (f z) more) all r,
          omega (arith, h.1),
          parts_none (n - w) ns ms ks (rest_same x k ns ks h.0),
        )
    part_put (suc i) n (x ∷ ns) (y ∷ ms) [] puts more d z h l m r = absurd h
    part_put (suc i) n (x ∷ ns) (y ∷ ms) (k ∷ ks) puts more d z h l m r =
        let one_more : (i + 1) * w ≡ i * w + w = omega arith in
        let less : n - suc i * w ≡ n - w - i * w = omega arith in (
          h.0,
          h.1 + more,
          h.2,
          omega (arith, h.3),
          part_put i (n - w) ns ms ks h.1 more d z h.4 (omega arith) (omega arith)
              (subst (λ k. JoinedTo R k (f (get_or ns i d)) (f (get_or ms i d)) (f z) more) less r),
        )

    pub parts_kept : (i n : ℕ) (ns ms ks : List X) (puts more : ℕ) (d : X)
        → PartsJoined n i ns ms ks puts → i < length ns → i < length ms
        → JoinedTo R (n - i * w) (f (get_or ns i d)) (f (get_or ms i d)) (f (get_or ns i d)) more
        → PartsJoined n (i + 1) ns ms ks (puts + more)
    parts_kept i n ns ms ks puts more d h l m r =
        subst (λ k. PartsJoined n k ns ms ks (puts + more)) (sym (add-one i))
        (part_kept i n ns ms ks puts more d h l m r)

    pub parts_put : (i n : ℕ) (ns ms ks : List X) (puts more : ℕ) (d z : X)
        → PartsJoined n i ns ms ks puts → i < length ns → i < length ms
        → JoinedTo R (n - i * w) (f (get_or ns i d)) (f (get_or ms i d)) (f z) more
        → PartsJoined n (i + 1) ns ms (set ks i z) (puts + more)
    parts_put i n ns ms ks puts more d z h l m r =
        subst (λ k. PartsJoined n k ns ms (set ks i z) (puts + more)) (sym (add-one i))
        (part_put i n ns ms ks puts more d z h l m r)

    -- the same, of joined lists that are equal
    pub parts_at : (i n : ℕ) (ns ms ks ks' : List X) (puts : ℕ) → map f ks' ≡ map f ks
        → PartsJoined n i ns ms ks puts → PartsJoined n i ns ms ks' puts
    parts_at i n [] ms ks [] puts e h = (refl, h.1)
    parts_at i n [] ms ks (k ∷ ks') puts e h =
        absurd (omega (arith, ap length (e ∙ ap (map f) h.0)))
    parts_at zero n (x ∷ ns) ms ks ks' puts e h = (e ∙ h.0, h.1)
    parts_at (suc i) n (x ∷ ns) [] ks ks' puts e h = absurd h
    parts_at (suc i) n (x ∷ ns) (y ∷ ms) [] ks' puts e h = absurd h
    parts_at (suc i) n (x ∷ ns) (y ∷ ms) (z ∷ ks) [] puts e h = absurd (omega (arith, ap length e))
    parts_at (suc i) n (x ∷ ns) (y ∷ ms) (z ∷ ks) (z' ∷ ks') puts e h = (
      h.0,
      h.1,
      subst (λ l. JoinedTo R n (f x) (f y) l h.0) (sym (first_same z z' ks ks' e)) h.2,
      h.3,
      parts_at i (n - w) ns ms ks ks' h.1 (rest_same z z' ks ks' e) h.4,
    )

    -- all of them are joined
    pub parts_all : (i n : ℕ) (ns ms ks : List X) (puts : ℕ) → PartsJoined n i ns ms ks puts
        → length ns ≤ i → AreLong f ns w → AreLong f ms w → length ms ≡ length ns
        → JoinedTo R n (flat_map f ns) (flat_map f ms) (flat_map f ks) puts
    parts_all i n [] ms ks puts h l a b e = (ap (flat_map f) h.0, h.1)
    parts_all zero n (x ∷ ns) ms ks puts h l a b e = absurd (omega arith)
    parts_all (suc i) n (x ∷ ns) [] ks puts h l a b e = absurd h
    parts_all (suc i) n (x ∷ ns) (y ∷ ms) [] puts h l a b e = absurd h
    parts_all (suc i) n (x ∷ ns) (y ∷ ms) (z ∷ ks) puts h l a b e =
        let long : length (f x) ≡ w = a 0 x (omega arith) in
        let other : length (f y) ≡ w = b 0 y (omega arith) in
        let rest = parts_all i (n - w) ns ms ks h.1 h.4 (omega arith) (long_rest f w x ns a)
        (long_rest f w y ms b) (omega arith) in
        subst (λ c. JoinedTo R n (f x ++ flat_map f ns) (f y ++ flat_map f ms)
        (f z ++ flat_map f ks) c) (sym h.3)
        (joined_append n (f x) (f y) (f z) (flat_map f ns) (flat_map f ms) (flat_map f ks) h.0 h.1
        (other ∙ sym long) h.2
        (subst (λ k. JoinedTo R (n - k) (flat_map f ns) (flat_map f ms) (flat_map f ks) h.1)
        (sym long) rest))

-- as many, where what is seen of them is equal
length_at : {X A : Type 0} (f : X → A) (ks ks' : List X) → map f ks' ≡ map f ks
    → length ks' ≡ length ks
length_at f ks ks' e = sym (length-map ks' f) ∙ ap length e ∙ length-map ks f

-- .. and as long each
long_at : {X A : Type 0} (f : X → List A) (n : ℕ) (ks ks' : List X) → map f ks' ≡ map f ks
    → AreLong f ks n → AreLong f ks' n
long_at f n ks ks' e long k d lt =
    let within : k < length ks = omega (arith, length_at f ks ks' e) in
    ap length (sym (get_or-map f ks' k d (f d) lt) ∙ ap (λ l. get_or l k (f d)) e
    ∙ get_or-map f ks k d (f d) within)
    ∙ long k d within

-- a fact of two values is one of values that are equal to them
pub moved : {T O : Type 0} (R : T → T → O → Type 0) (x x' y y' : T) (a : O) → x ≡ x' → y ≡ y'
    → R x y a → R x' y' a
moved R x x' y y' a e h r = subst (λ v. R v y' a) e (subst (λ v. R x v a) h r)

module _ {T : Type 0} (R : T → T → Option T → Type 0) where
  -- as long as before
  pub joined_long : (n : ℕ) (xs ys zs : List T) (puts : ℕ) → JoinedTo R n xs ys zs puts
      → length zs ≡ length xs
  joined_long n [] ys zs puts h = ap length h.0
  joined_long zero (x ∷ xs) ys zs puts h = ap length h.0
  joined_long (suc n) (x ∷ xs) [] zs puts h = absurd h
  joined_long (suc n) (x ∷ xs) (y ∷ ys) [] puts h = absurd h
  joined_long (suc n) (x ∷ xs) (y ∷ ys) (z ∷ zs) puts h = let e =
      joined_long n xs ys zs h.1 h.5 in omega arith

  -- no more are put than there are
  pub joined_few : (n : ℕ) (xs ys zs : List T) (puts : ℕ) → JoinedTo R n xs ys zs puts
      → (puts ≤ n) × (puts ≤ length xs)
  joined_few n [] ys zs puts h = (omega (arith, h.1), omega (arith, h.1))
  joined_few zero (x ∷ xs) ys zs puts h = (omega (arith, h.1), omega (arith, h.1))
  joined_few (suc n) (x ∷ xs) [] zs puts h = absurd h
  joined_few (suc n) (x ∷ xs) (y ∷ ys) [] puts h = absurd h
  joined_few (suc n) (x ∷ xs) (y ∷ ys) (z ∷ zs) puts (None, rest, r, same, count, more) =
      let most = joined_few n xs ys zs rest more in
      (omega (arith, count, most.0), omega (arith, count, most.1))
  joined_few (suc n) (x ∷ xs) (y ∷ ys) (z ∷ zs) puts (Some v, rest, r, same, count, more) =
      let most = joined_few n xs ys zs rest more in
      (omega (arith, count, most.0), omega (arith, count, most.1))

  -- where each place of the first list is joined, the lists are
  pub joined_whole : (n : ℕ) (xs ys zs : List T) (puts : ℕ) → length xs ≤ n
      → length ys ≡ length xs → JoinedTo R n xs ys zs puts → Joined R xs ys zs puts
  joined_whole n [] [] zs puts l e h = subst (λ k. Joined R [] [] k puts) (sym h.0) h.1
  joined_whole n [] (y ∷ ys) zs puts l e h = absurd (omega arith)
  joined_whole zero (x ∷ xs) ys zs puts l e h = absurd (omega arith)
  joined_whole (suc n) (x ∷ xs) [] zs puts l e h = absurd h
  joined_whole (suc n) (x ∷ xs) (y ∷ ys) [] puts l e h = absurd h
  joined_whole (suc n) (x ∷ xs) (y ∷ ys) (z ∷ zs) puts l e h =
      (h.0, h.1, h.2, h.3, h.4, joined_whole n xs ys zs h.1 (omega arith) (omega arith) h.5)

  -- lists that are cut behind the places that are joined
  pub joined_take : (n : ℕ) (xs ys zs : List T) (puts : ℕ) → JoinedTo R n xs ys zs puts
      → JoinedTo R n (take n xs) (take n ys) (take n zs) puts
  joined_take zero [] ys zs puts h = (refl, h.1)
  joined_take zero (x ∷ xs) ys zs puts h = (refl, h.1)
  joined_take (suc n) [] ys zs puts h = (ap (take (suc n)) h.0, h.1)
  joined_take (suc n) (x ∷ xs) [] zs puts h = absurd h
  joined_take (suc n) (x ∷ xs) (y ∷ ys) [] puts h = absurd h
  joined_take (suc n) (x ∷ xs) (y ∷ ys) (z ∷ zs) puts h =
      (h.0, h.1, h.2, h.3, h.4, joined_take n xs ys zs h.1 h.5)

  -- one value joined with another, at each of k places
  pub joined_each : (k n : ℕ) (x y : T) (answer : Option T) → k ≤ n → R x y answer
      → JoinedTo R n (replicate k x) (replicate k y) (replicate k (kept_or x answer))
      (k * put_by answer)
  joined_each zero n x y answer le r = (refl, omega arith)
  joined_each (suc k) zero x y answer le r = absurd (omega arith)
  joined_each (suc k) (suc n) x y answer le r =
      let more : (k + 1) * put_by answer ≡ k * put_by answer + put_by answer = omega arith in
      (answer, k * put_by answer, r, refl, omega arith, joined_each k n x y answer (omega arith) r)

  -- .. and one list with another, k times
  pub joined_copies : {X : Type 0} (x y z : X) (f : X → List T) (w k n puts : ℕ)
      → length (f x) ≡ w → length (f y) ≡ w → k * w ≤ n → JoinedTo R w (f x) (f y) (f z) puts
      → JoinedTo R n (flat_map f (replicate k x)) (flat_map f (replicate k y))
      (flat_map f (replicate k z)) (k * puts)
  joined_copies x y z f w zero n puts long long' le h = (refl, omega arith)
  joined_copies x y z f w (suc k) n puts long long' le h =
      let more : (k + 1) * w ≡ k * w + w = omega arith in
      let more_puts : (k + 1) * puts ≡ k * puts + puts = omega arith in
      let all : puts + k * puts ≡ suc k * puts = omega arith in
      subst (λ c. JoinedTo R n (f x ++ flat_map f (replicate k x)) (f y ++ flat_map f
      (replicate k y))
      (f z ++ flat_map f (replicate k z)) c) all
      (joined_append R n (f x) (f y) (f z) _ _ _ puts (k * puts) (long' ∙ sym long)
      (joined_past R w n (f x) (f y) (f z) puts (omega arith) (omega arith) h)
      (joined_copies x y z f w k (n - length (f x)) puts long long' (omega arith) h))

-- eight places are put where one is
pub told_each : {T : Type 0} (answer : Option T) → is_some answer ≡ nat_lt 0 (8 * put_by answer)
told_each None = refl
told_each (Some x) = refl

-- what the answer that something was put says of the count
pub some_put : (puts : ℕ) → true ≡ nat_lt 0 puts → 0 < puts
some_put puts e = grind (arith, nat_tests)

pub nothing_put : (puts : ℕ) → false ≡ nat_lt 0 puts → puts ≡ 0
nothing_put puts e = grind (arith, nat_tests)

pub told_put : (puts : ℕ) → 0 < puts → true ≡ nat_lt 0 puts
told_put puts lt = sym (lt-ltb 0 puts lt)

module _ {T X : Type 0} (R : T → T → Option T → Type 0) (f : X → List T) (w n : ℕ)
    (ns ms : List X) where
  -- the first i of eight lists are joined
  pub record IsJoining (i : ℕ) (ks : List X) (changed : Bool) (left from to : ℕ) : Type 0 where
    pub wide : 0 < w
    pub next : 8 * (w / 8) ≡ w
    pub eight : length ns ≡ 8
    pub eight_others : length ms ≡ 8
    pub eight_kids : length ks ≡ 8
    pub long : AreLong f ns w
    pub long_others : AreLong f ms w
    pub long_kids : AreLong f ks w
    pub rest : left ≡ n - i * w
    pub puts : ℕ
    pub told : changed ≡ nat_lt 0 puts
    pub few : puts + left ≤ n
    pub parts : PartsJoined R f w n i ns ms ks puts
    pub made : (h : ℕ) → w ≡ 8 ^ (h + 1) → to ≤ from + (h + 1) * puts

  pub joining_kept : (i : ℕ) (ks : List X) (changed : Bool) (left from to : ℕ)
      → IsJoining i ks changed left from to → i < 8 → (d : X) (more left' to' : ℕ)
      → false ≡ nat_lt 0 more → JoinedTo R left (f (get_or ns i d)) (f (get_or ms i d))
      (f (get_or ns i d)) more
      → ((h : ℕ) → length (f (get_or ns i d)) ≡ 8 ^ (h + 1) → to' ≤ to + (h + 1) * more)
      → left' ≡ left - w → IsJoining (i + 1) ks changed left' from to'
  joining_kept i ks changed left from to j below d more left' to' none joined made e =
      let nothing = nothing_put more none in
      let step : (i + 1) * w ≡ i * w + w = omega arith in
      let same : j.puts + more ≡ j.puts = omega arith in
      record {
        wide = j.wide;
        next = j.next;
        eight = j.eight;
        eight_others = j.eight_others;
        eight_kids = j.eight_kids;
        long = j.long;
        long_others = j.long_others;
        long_kids = j.long_kids;
        rest = omega (arith, j.rest);
        puts = j.puts;
        told = j.told;
        few = omega (arith, j.few);
        parts = subst (PartsJoined R f w n (i + 1) ns ms ks) same
            (parts_kept R f w i n ns ms ks j.puts more d j.parts (omega (arith, j.eight))
            (omega (arith, j.eight_others))
            (subst (λ k. JoinedTo R k (f (get_or ns i d)) (f (get_or ms i d))
            (f (get_or ns i d)) more) j.rest joined));
        made = λ h high.
            let zero_more : (h + 1) * more ≡ 0 = ap (λ m. (h + 1) * m) nothing ∙ omega arith in
            omega (arith, j.made h high, made h (j.long i d (omega (arith, j.eight)) ∙ high));
      }

  pub joining_put : (i : ℕ) (ks : List X) (changed : Bool) (left from to : ℕ)
      → IsJoining i ks changed left from to → i < 8 → (d z : X) (more left' to' : ℕ)
      → true ≡ nat_lt 0 more → JoinedTo R left (f (get_or ns i d)) (f (get_or ms i d)) (f z) more
      → ((h : ℕ) → length (f (get_or ns i d)) ≡ 8 ^ (h + 1) → to' ≤ to + (h + 1) * more)
      → left' ≡ left - w → IsJoining (i + 1) (set ks i z) true left' from to'
  joining_put i ks changed left from to j below d z more left' to' some joined made e =
      let step : (i + 1) * w ≡ i * w + w = omega arith in
      let here = j.long i d (omega (arith, j.eight)) in
      record {
        wide = j.wide;
        next = j.next;
        eight = j.eight;
        eight_others = j.eight_others;
        eight_kids = length-set ks i z ∙ j.eight_kids;
        long = j.long;
        long_others = j.long_others;
        long_kids = All-set (λ x. length (f x) ≡ w) ks i z
            (joined_long R left _ _ _ more joined ∙ here) j.long_kids;
        rest = omega (arith, j.rest);
        puts = j.puts + more;
        told = told_put (j.puts + more) (omega (arith, some_put more some));
        few =
            let most = joined_few R left _ _ _ more joined in
            omega (arith, j.few, most.0, most.1, here);
        parts = parts_put R f w i n ns ms ks j.puts more d z j.parts (omega (arith, j.eight))
            (omega (arith, j.eight_others))
            (subst (λ k. JoinedTo R k (f (get_or ns i d)) (f (get_or ms i d)) (f z) more) j.rest
            joined);
        made = λ h high.
            let product : (h + 1) * (j.puts + more) ≡ (h + 1) * j.puts + (h + 1) * more =
            omega arith in
            omega (arith, j.made h high, made h (here ∙ high));
      }

  -- the same, of kids whose lists are equal, and of an equal answer
  pub joining_at : (i : ℕ) (ks ks' : List X) (changed changed' : Bool) (left from to : ℕ)
      → map f ks' ≡ map f ks → changed' ≡ changed → IsJoining i ks changed left from to
      → IsJoining i ks' changed' left from to
  joining_at i ks ks' changed changed' left from to e h j = record {
    wide = j.wide;
    next = j.next;
    eight = j.eight;
    eight_others = j.eight_others;
    eight_kids = length_at f ks ks' e ∙ j.eight_kids;
    long = j.long;
    long_others = j.long_others;
    long_kids = long_at f w ks ks' e j.long_kids;
    rest = j.rest;
    puts = j.puts;
    told = h ∙ j.told;
    few = j.few;
    parts = parts_at R f w i n ns ms ks ks' j.puts e j.parts;
    made = j.made;
  }

  -- all eight
  pub joining_all : (i : ℕ) (ks : List X) (changed : Bool) (left from to : ℕ)
      (j : IsJoining i ks changed left from to) → 8 ≤ i
      → JoinedTo R n (flat_map f ns) (flat_map f ms) (flat_map f ks) j.puts
  joining_all i ks changed left from to j done =
      parts_all R f w i n ns ms ks j.puts j.parts (omega (arith, j.eight)) j.long j.long_others
      (omega (arith, j.eight, j.eight_others))

pub joined_at : {T : Type 0} (R : T → T → Option T → Type 0) (n : ℕ) (xs xs' ys ys' zs zs' : List T)
    (puts : ℕ) → xs ≡ xs' → ys ≡ ys' → zs ≡ zs' → JoinedTo R n xs ys zs puts
    → JoinedTo R n xs' ys' zs' puts
joined_at R n xs xs' ys ys' zs zs' puts a b c h =
    subst (λ l. JoinedTo R n l ys' zs' puts) a (subst (λ l. JoinedTo R n xs l zs' puts) b
    (subst (λ l. JoinedTo R n xs ys l puts) c h))

-- one height more makes room for as many nodes more as were put
pub one_more : (h k puts from to : ℕ) → h ≡ k + 1 → to ≤ from + (k + 1) * puts
    → to + puts ≤ from + (h + 1) * puts
one_more h k puts from to e le =
    let product : (h + 1) * puts ≡ (k + 1) * puts + puts = ap (λ m. (m + 1) * puts) e
    ∙ omega arith in
    omega arith

-- nodes for each of the places that were put and for those that are left are no more than for all
pub room_for : (h k puts left n from mid to : ℕ) → h ≡ k + 1 → puts + left ≤ n
    → mid ≤ from + (k + 1) * puts → to ≤ mid + (k + 1) * left → to ≤ from + (h + 1) * n
room_for h k puts left n from mid to e few made more =
    let both : (k + 1) * (puts + left) ≡ (k + 1) * puts + (k + 1) * left = omega arith in
    let all : (k + 1) * (puts + left) ≤ (k + 1) * n = mul-le-mul_left (k + 1) few in
    let higher : (h + 1) * n ≡ (k + 1) * n + n = ap (λ m. (m + 1) * n) e ∙ omega arith in
    omega arith

-- one node above those below, where the places that were put are eight times theirs
pub one_above : (h k puts from mid to : ℕ) → h ≡ k + 1 → 0 < puts → mid ≤ from + (k + 1) * puts
    → to ≤ mid + 1 → to ≤ from + (h + 1) * (8 * puts)
one_above h k puts from mid to e some made more =
    let all : (h + 1) * (8 * puts) ≡ 8 * ((k + 1) * puts) + 8 * puts =
    ap (λ m. (m + 1) * (8 * puts)) e ∙ omega arith in
    omega arith

-- .. and where the places that count are
pub room_above : (h k puts w n from mid to : ℕ) → h ≡ k + 1 → 0 < w → puts ≤ w → 8 * w ≤ n
    → mid ≤ from + (k + 1) * puts → to ≤ mid + 1 → to ≤ from + (h + 1) * n
room_above h k puts w n from mid to e some few room made more =
    let all : (k + 1) * puts ≤ (k + 1) * n = mul-le-mul_left (k + 1) (omega arith) in
    let higher : (h + 1) * n ≡ (k + 1) * n + n = ap (λ m. (m + 1) * n) e ∙ omega arith in
    omega arith

-- one node for eight places
pub one_for_each : (h n puts from to : ℕ) → to ≤ from + puts → puts ≤ n → to ≤ from + (h + 1) * n
one_for_each h n puts from to made few =
    let all : (h + 1) * n ≡ h * n + n = omega arith in
    omega arith
