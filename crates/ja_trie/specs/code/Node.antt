-- What a node of a shared list stands for, and its shape.
use Rattle.std.specs.Prelude.{◌≡◌, ℕ, ◌*◌, ◌<◌, List, length, map, replicate, Option, Some, None}
use Rattle.std.specs.declared.rc.Rc.{Rc}
use Rattle.std.proofs.Common.{Global}
use Rattle.std.specs.List.{All, flat_map}
use Rattle.ja_trie.specs.declared.node.Kids.{Kids}
use Rattle.ja_trie.specs.declared.node.Kids.TheVariants.{Values, Nodes}

-- the places below, in order
abbrev pub places : {T : Type 0} → Kids T → List T
places (Values xs) = map (λ x. x.value) xs
places (Nodes ns) = flat_map (λ n. n.value) ns

-- each list is n long
abbrev pub AreLong : {X A : Type 0} → (X → List A) → List X → ℕ → Type 0
AreLong f xs n = All (λ x. length (f x) ≡ n) xs

-- eight values, or eight nodes with equally many places, some multiple of eight
abbrev pub IsNode : {T : Type 0} → Kids T → Type 0
IsNode (Values xs) = length xs ≡ 8
IsNode (Nodes ns) =
    (length ns ≡ 8) × ((c : ℕ) × (0 < c) × AreLong (λ n. n.value) ns (8 * c))

-- one value at eight places, or eight nodes with the same values
abbrev pub AreSame : {T : Type 0} → Kids T → Type 0
AreSame {T} (Values xs) = (x : T) × (map (λ x. x.value) xs ≡ replicate 8 x)
AreSame {T} (Nodes ns) = (below : List T) × (map (λ n. n.value) ns ≡ replicate 8 below)

-- the places of a node that was made, or those that were there
abbrev pub places_after : {T : Type 0} → List T → Option (Rc (List T) Global) → List T
places_after xs None = xs
places_after xs (Some node) = node.value
