-- Each node has more places than any node below it.
use Rattle.std.specs.Prelude.{◌≡◌, ℕ, suc, ◌+◌, ◌*◌, ◌≤◌, max, List, [], ◌∷◌, length}
use Rattle.std.specs.List.{flat_map}
use Rattle.std.proofs.Common.{arith, length-append, refl}
use denote.Param.Weighed.{most}
use Rattle.ja_trie.specs.declared.node.Kids.{Kids}
use Rattle.ja_trie.specs.declared.node.Kids.TheVariants.{Values, Nodes}
use Rattle.ja_trie.specs.declared.node.Node.TheDeep.{deep-Kids}
use Rattle.ja_trie.specs.code.Node.{places, IsNode, AreLong}

-- what holds of each holds of each but the first
pub long_rest : {X A : Type 0} (f : X → List A) (n : ℕ) (x : X) (xs : List X) → AreLong f (x ∷ xs) n
    → AreLong f xs n
long_rest f n x xs h = λ k d l. h (suc k) d (omega arith)

-- lists of n each, one after another
pub level_length : {X A : Type 0} (f : X → List A) (n : ℕ) (xs : List X) → AreLong f xs n
    → length (flat_map f xs) ≡ length xs * n
level_length f n [] h = omega arith
level_length f n (x ∷ xs) h =
    let e : length (flat_map f xs) ≡ length xs * n = level_length f n xs (long_rest f n x xs h) in
    let first : length (f x) ≡ n = h 0 x (omega arith) in
    omega (arith, length-append (f x) (flat_map f xs))

-- the greatest weight, where none passes the length of its list by more than one
most_within : {X A : Type 0} (weight : X → ℕ) (f : X → List A) (n : ℕ) (xs : List X)
    → ((x : X) → weight x ≤ length (f x) + 1) → AreLong f xs n → most weight xs ≤ n + 1
most_within weight f n [] w h = omega arith
most_within weight f n (x ∷ xs) w h =
    let first : length (f x) ≡ n = h 0 x (omega arith) in
    omega (arith, w x, most_within weight f n xs w (long_rest f n x xs h))

-- a node is no deeper than it has places
pub depth_within_places : {T : Type 0} (k : Kids T) → IsNode k
    → max (deep-Kids T k) 0 ≤ length (places k)
depth_within_places (Values xs) h = omega arith
depth_within_places {T} (Nodes ns) h =
    let long = level_length (λ n. n.value) (8 * h.1.0) ns h.1.2 in
    let below =
    most_within (λ n. length n.value + 1) (λ n. n.value) (8 * h.1.0) ns (λ x. omega arith) h.1.2 in
    let eight : length ns * (8 * h.1.0) ≡ 8 * (8 * h.1.0) = rw h.0 refl in
    let all : max (max (most (λ n. length n.value + 1) ns) 0) 0
    ≤ length (flat_map (λ n. n.value) ns) = omega arith in
    all
