-- Lists of one length, one after another: where a place of the whole stands, and what a write there
-- changes.
use Rattle.std.proofs.Common.{◌≡◌, ℕ, zero, suc, ◌+◌, ◌-◌, ◌*◌, ◌/◌, ◌%◌, ◌^◌, ◌<◌, ◌≤◌, Bool, true, false, if◌then◌else◌, List, [], ◌∷◌, ◌++◌, length, get_or, set, map, replicate, drop, refl, sym, ap, ◌∙◌, subst, arith, pow-suc}
use Rattle.std.specs.List.{flat_map, AllZip}
use Rattle.std.proofs.lemmas.List.{get_or_append_left, get_or-append-add, set-append_left, set-append_right, length-map, get_or-map, get_or-replicate}
use Rattle.std.proofs.lemmas.Nat.{div-add-mod', div_below, mod_below}
use Rattle.std.proofs.lemmas.List.Elements.{AllZip-get_or, length_all_zip}
use Rattle.ja_trie.specs.declared.node.Kids.{Kids}
use Rattle.ja_trie.specs.declared.node.Kids.TheVariants.{Nodes, Values}
use Rattle.ja_trie.specs.code.Node.{places, IsNode, AreLong, AreSame}
use Rattle.ja_trie.specs.code.NodeFalls.{long_rest, level_length}

module _ {X A : Type 0} (f : X → List A) (w : ℕ) where
  pub read_level : (xs : List X) (q r : ℕ) (d : A) (e : X) → AreLong f xs w → q < length xs → r < w
      → get_or (flat_map f xs) (q * w + r) d ≡ get_or (f (get_or xs q e)) r d
  read_level [] q r d e h lt below = absurd (omega arith)
  read_level (x ∷ xs) zero r d e h lt below =
      let first : length (f x) ≡ w = h 0 x (omega arith) in
      let at : 0 * w + r ≡ r = omega arith in
      ap (λ k. get_or (f x ++ flat_map f xs) k d) at
      ∙ get_or_append_left (f x) (flat_map f xs) d r (omega arith)
  read_level (x ∷ xs) (suc q) r d e h lt below =
      let first : length (f x) ≡ w = h 0 x (omega arith) in
      let more : (q + 1) * w ≡ q * w + w = omega arith in
      let at : suc q * w + r ≡ length (f x) + (q * w + r) = omega arith in
      ap (λ k. get_or (f x ++ flat_map f xs) k d) at
      ∙ get_or-append-add (f x) (flat_map f xs) (q * w + r) d
      ∙ read_level xs q r d e (long_rest f w x xs h) (omega arith) below

  write_level : (xs : List X) (q r : ℕ) (a : A) (y e : X) → AreLong f xs w → q < length xs → r < w
      → f y ≡ set (f (get_or xs q e)) r a
      → flat_map f (set xs q y) ≡ set (flat_map f xs) (q * w + r) a
  write_level [] q r a y e h lt below is = absurd (omega arith)
  write_level (x ∷ xs) zero r a y e h lt below is =
      let first : length (f x) ≡ w = h 0 x (omega arith) in
      let at : 0 * w + r ≡ r = omega arith in
      ap (λ l. l ++ flat_map f xs) is
      ∙ sym (set-append_left (f x) (flat_map f xs) r a (omega arith))
      ∙ ap (λ k. set (f x ++ flat_map f xs) k a) (sym at)
  write_level (x ∷ xs) (suc q) r a y e h lt below is =
      let first : length (f x) ≡ w = h 0 x (omega arith) in
      let more : (q + 1) * w ≡ q * w + w = omega arith in
      let at : suc q * w + r - w ≡ q * w + r = omega arith in
      ap (λ l. f x ++ l) (write_level xs q r a y e (long_rest f w x xs h) (omega arith) below is)
      ∙ ap (λ k. f x ++ set (flat_map f xs) k a) (sym at)
      ∙ sym (set-append_right (f x) (flat_map f xs) w (suc q * w + r) a first (omega arith))

  -- the same lists
  pub same_level : (xs ys : List X) → AllZip (λ x y. f y ≡ f x) xs ys
      → flat_map f ys ≡ flat_map f xs
  same_level [] [] h = refl
  same_level [] (y ∷ ys) h = absurd h
  same_level (x ∷ xs) [] h = absurd h
  same_level (x ∷ xs) (y ∷ ys) h = ap (λ l. l ++ flat_map f ys) h.0
      ∙ ap (λ l. f x ++ l) (same_level xs ys h.1)

  pub long_level : (xs ys : List X) → AllZip (λ x y. f y ≡ f x) xs ys → AreLong f xs w
      → AreLong f ys w
  long_level xs ys same long k d lt =
      let kept : length xs ≡ length ys = length_all_zip _ xs ys same in
      ap length (AllZip-get_or (λ x y. f y ≡ f x) xs ys k d d same (omega arith))
      ∙ long k d (omega arith)

  -- a place of the whole list is a place of one of its eight parts
  pub record IsLevel (xs : List X) (self : List A) (i : ℕ) : Type 0 where
    pub wide : 0 < w
    pub next : 8 * (w / 8) ≡ w
    pub less : w / 8 < w
    pub kid : i / w < 8
    pub inside : i % w < w
    pub eight : length xs ≡ 8
    pub long : AreLong f xs w
    pub reads : (d : A) (e : X) → get_or self i d ≡ get_or (f (get_or xs (i / w) e)) (i % w) d
    pub writes : (a : A) (y e : X) → f y ≡ set (f (get_or xs (i / w) e)) (i % w) a
        → flat_map f (set xs (i / w) y) ≡ set self i a

  pub level : (xs : List X) (c i : ℕ) (self : List A) → length xs ≡ 8 → 0 < c → AreLong f xs (8 * c)
      → flat_map f xs ≡ self → length self ≡ 8 * w → i < length self → IsLevel xs self i
  level xs c i self eight some long is wide within =
      let whole = level_length f (8 * c) xs long in
      let same : length (flat_map f xs) ≡ length self = ap length is in
      let eights : length xs * (8 * c) ≡ 8 * (8 * c) = ap (λ n. n * (8 * c)) eight in
      let w_is : w ≡ 8 * c = omega arith in
      let all : AreLong f xs w = subst (AreLong f xs) (sym w_is) long in
      let quotient = div_below i w 8 (omega arith) (omega arith) in
      let rest = mod_below i w (omega arith) in
      let at = div-add-mod' i w in
      record {
        wide = omega arith;
        next = omega arith;
        less = omega arith;
        kid = quotient;
        inside = rest;
        eight = eight;
        long = all;
        reads = λ d e. ap (λ l. get_or l i d) (sym is)
            ∙ ap (λ k. get_or (flat_map f xs) k d) (sym at)
            ∙ read_level xs (i / w) (i % w) d e all (omega arith) rest;
        writes = λ a y e h. write_level xs (i / w) (i % w) a y e all (omega arith) rest h
            ∙ ap (λ k. set (flat_map f xs) k a) at ∙ ap (λ l. set l i a) is;
      }

-- below a node of 8 ^ (h + 1) places stand nodes of one height less
pub deeper : (w h : ℕ) → 8 * (w / 8) ≡ w → 0 < w → 8 * w ≡ 8 ^ (h + 1)
    → (k : ℕ) × (h ≡ k + 1) × (w ≡ 8 ^ (k + 1))
deeper w zero next wide is = absurd (omega arith)
deeper w (suc k) next wide is =
    let up : suc k + 1 ≡ suc (k + 1) = omega arith in
    let more : 8 ^ (suc k + 1) ≡ 8 ^ (k + 1) * 8 = ap (λ n. 8 ^ n) up ∙ pow-suc 8 (k + 1) in
    (k, omega arith, omega arith)

-- what the one tick comes to
pub ticked_le : (b : Bool) → (if b then 1 else 0) ≤ 1
ticked_le true = omega arith
ticked_le false = omega arith

-- .. and none where it wasn't made
pub not_ticked : (made : Bool) → made ≡ false → (if made then 1 else 0) ≤ 0
not_ticked false none = omega arith
not_ticked true none = absurd (cc)

-- the same values
pub same_values : {X A : Type 0} (f : X → A) (xs ys : List X) → AllZip (λ x y. f y ≡ f x) xs ys
    → map f ys ≡ map f xs
same_values f [] [] h = refl
same_values f [] (y ∷ ys) h = absurd h
same_values f (x ∷ xs) [] h = absurd h
same_values f (x ∷ xs) (y ∷ ys) h = ap (λ a. a ∷ map f ys) h.0
    ∙ ap (λ l. f x ∷ l) (same_values f xs ys h.1)

-- a place of a node of nodes is a place of one of them
pub kid : {T : Type 0} (kids : Kids T) (ns : _) (w i : ℕ) (self : List T) → kids ≡ Nodes ns
    → IsNode kids → places kids ≡ self → length self ≡ 8 * w → i < length self
    → IsLevel (λ n. n.value) w ns self i
kid kids ns w i self is shape view wide within =
    let here = subst IsNode is shape in
    level (λ n. n.value) w ns here.1.0 i self here.0 here.1.1 here.1.2
    (ap places (sym is) ∙ view) wide within

-- the nodes below a node
pub below : {T : Type 0} (kids : Kids T) (ns : _) (w : ℕ) (self : List T) → kids ≡ Nodes ns
    → IsNode kids → places kids ≡ self → length self ≡ 8 * w
    → (0 < w) × (8 * (w / 8) ≡ w) × (length ns ≡ 8) × AreLong (λ n. n.value) ns w
below kids ns w self is shape view wide =
    let here = subst IsNode is shape in
    let whole = level_length (λ n. n.value) (8 * here.1.0) ns here.1.2 in
    let same : length (flat_map (λ n. n.value) ns) ≡ length self =
    ap length (ap places (sym is) ∙ view) in
    let eights : length ns * (8 * here.1.0) ≡ 8 * (8 * here.1.0) =
    ap (λ n. n * (8 * here.1.0)) here.0 in
    let w_is : w ≡ 8 * here.1.0 = omega arith in (
      omega (arith, here.1.1),
      omega arith,
      here.0,
      subst (AreLong (λ n. n.value) ns) (sym w_is) here.1.2,
    )

-- a node of values and one of nodes are not equally long
pub mixed : {T : Type 0} (kids others : Kids T) (xs : _) (ns : _) (self other : List T)
    → kids ≡ Values xs → others ≡ Nodes ns → IsNode kids → IsNode others
    → places kids ≡ self → places others ≡ other → length self ≡ length other → ⊥
mixed kids others xs ns self other is is' shape shape' view view' same =
    let here = subst IsNode is' shape' in
    let eight : length xs ≡ 8 = subst IsNode is shape in
    let whole = level_length (λ n. n.value) (8 * here.1.0) ns here.1.2 in
    let long : length (flat_map (λ n. n.value) ns) ≡ length other =
    ap length (ap places (sym is') ∙ view') in
    let short : length (map (λ x. x.value) xs) ≡ length self =
    ap length (ap places (sym is) ∙ view) in
    let eights : length ns * (8 * here.1.0) ≡ 8 * (8 * here.1.0) =
    ap (λ n. n * (8 * here.1.0)) here.0 in
    omega (arith, here.1.1, length-map xs (λ x. x.value))

-- a part that is put anew and is the same changes nothing
pub same_put : {X A : Type 0} (f : X → List A) (xs : List X) (q : ℕ) (y e : X)
    → f y ≡ f (get_or xs q e) → q < length xs → flat_map f (set xs q y) ≡ flat_map f xs
same_put f [] q y e h lt = absurd (omega arith)
same_put f (x ∷ xs) zero y e h lt = ap (λ l. l ++ flat_map f xs) h
same_put f (x ∷ xs) (suc q) y e h lt = ap (λ l. f x ++ l) (same_put f xs q y e h (omega arith))

-- ---- eight that are the same

-- each of them
pub each_same : {X A : Type 0} (f : X → A) (xs : List X) (a : A) (i : ℕ) (d : X)
    → map f xs ≡ replicate 8 a → i < 8 → f (get_or xs i d) ≡ a
each_same f xs a i d same below =
    let eight : length xs ≡ 8 = sym (length-map xs f) ∙ ap length same in
    sym (get_or-map f xs i d a (omega arith)) ∙ ap (λ l. get_or l i a) same
    ∙ get_or-replicate 8 i a a below

-- the same parts are the same list
same_parts : {X A : Type 0} (f : X → List A) (xs ys : List X) → map f xs ≡ map f ys
    → flat_map f xs ≡ flat_map f ys
same_parts f [] [] e = refl
same_parts f [] (y ∷ ys) e = absurd (omega (arith, ap length e))
same_parts f (x ∷ xs) [] e = absurd (omega (arith, ap length e))
same_parts f (x ∷ xs) (y ∷ ys) e =
    ap (λ l. l ++ flat_map f xs) (ap (λ l. get_or l 0 (f x)) e)
    ∙ ap (λ l. f y ++ l) (same_parts f xs ys (ap (λ l. drop 1 l) e))

-- one part of w places that a list has eight times
pub record IsEightTimes {X A : Type 0} (f : X → List A) (w : ℕ) (x : X) (self : List A)
    : Type 0 where
  pub wide : 0 < w
  pub next : 8 * (w / 8) ≡ w
  pub less : w / 8 < w
  pub long : length (f x) ≡ w
  pub whole : flat_map f (replicate 8 x) ≡ self

-- the first of eight nodes that are the same
pub first_node : {T : Type 0} (kids : Kids T) (ns : _) (w : ℕ) (self : List T) (d : _)
    → kids ≡ Nodes ns → IsNode kids → places kids ≡ self → length self ≡ 8 * w → AreSame kids
    → IsEightTimes (λ n. n.value) w (get_or ns 0 d) self
first_node kids ns w self d is shape view wide same =
    let b = below kids ns w self is shape view wide in
    let here = subst AreSame is same in
    record {
      wide = b.0;
      next = b.1;
      less = omega (arith, b.0, b.1);
      long = b.3 0 d (omega (arith, b.2));
      whole = sym (same_parts (λ n. n.value) ns (replicate 8 (get_or ns 0 d)) (here.1
          ∙ ap (λ l. replicate 8 l)
          (sym (each_same (λ n. n.value) ns here.0 0 d here.1 (omega arith)))))
          ∙ ap places (sym is) ∙ view;
    }

-- .. and of eight values
pub first_value : {T : Type 0} (kids : Kids T) (xs : _) (self : List T) (d : _)
    → kids ≡ Values xs → places kids ≡ self → AreSame kids
    → self ≡ replicate 8 (get_or xs 0 d).value
first_value kids xs self d is view same =
    let here = subst AreSame is same in
    sym view ∙ ap places is ∙ here.1 ∙ ap (λ v. replicate 8 v)
    (sym (each_same (λ x. x.value) xs here.0 0 d here.1 (omega arith)))
