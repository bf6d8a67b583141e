-- What is known of the lists of names that were fixed, by the place of one.
use Rattle.std.proofs.Common.{◌≡◌, ℕ, suc, ◌<◌, ◌≤◌, Bool, true, false, ◌==◌, if◌then◌else◌, List, [], ◌∷◌, ◌++◌, map, length, take, drop, slice_set, slice_index_or, refl, ap, ◌∙◌, drop-cons, arith}
use Rattle.std.proofs.lemmas.Bool.Decides.{nat_tests}
use Rattle.ja_prim.specs.Texts.{same_text}
use Rattle.ja_base.specs.declared.ids.Reg.{Reg}
use Rattle.ja_machine.specs.Frames.{remaining, with_remaining, without_first}
use Rattle.ja_step.specs.declared.frame.Listed.{Listed}
use Rattle.ja_step.specs.code.Lists.{place_of_list}
use Rattle.ja_step.specs.code.Steps.{remaining_of}

same_number : (m n : ℕ) → (m == n) ≡ true → m ≡ n
same_number m n same = grind (arith, nat_tests)

same_reg : (a b : Reg) → (a.0 == b.0) ≡ true → a ≡ b
same_reg a b same = ap reg (same_number a.0 b.0 same)
  where
    reg : ℕ → Reg
    reg n = record { 0 = n }

-- what is left of names, where the first one of a name is taken out at its place
pub taken : (name : List ℕ) (xs : List (List ℕ)) (i : ℕ) (x : List ℕ) → i < length xs
    → x ≡ slice_index_or xs i x → same_text x name ≡ true
    → take i xs ++ without_first (drop i xs) name ≡ without_first xs name
    → take i xs ++ drop (suc i) xs ≡ without_first xs name
taken name xs i x low at same rest = ap (λ ys. take i xs ++ ys) first ∙ rest
  where
    first : drop (suc i) xs ≡ without_first (drop i xs) name
    first = rw (drop-cons xs i x low, ← at, same) refl

module _ (list : Reg) where
  -- the names that remain are those at the place
  remaining_there : (ls : List Listed) (d : Listed) → place_of_list ls list < length ls
      → (slice_index_or ls (place_of_list ls list) d).names.items
      ≡ remaining (map remaining_of ls) list
  remaining_there [] d low = absurd (omega (arith, low))
  remaining_there (l ∷ ls) d low = at (l.list.0 == list.0) low (remaining_there ls d)
    where
      at : (b : Bool) → (if b then 0 else suc (place_of_list ls list)) < suc (length ls)
          → (place_of_list ls list < length ls
          → (slice_index_or ls (place_of_list ls list) d).names.items
          ≡ remaining (map remaining_of ls) list)
          → (slice_index_or (l ∷ ls) (if b then 0 else suc (place_of_list ls list)) d).names.items
          ≡ (if b then l.names.items else remaining (map remaining_of ls) list)
      at true below others = refl
      at false below others = others (omega (arith, below))

  remaining_nowhere : (ls : List Listed) → length ls ≤ place_of_list ls list
      → [] ≡ remaining (map remaining_of ls) list
  remaining_nowhere [] high = refl
  remaining_nowhere (l ∷ ls) high = at (l.list.0 == list.0) high (remaining_nowhere ls)
    where
      at : (b : Bool) → suc (length ls) ≤ (if b then 0 else suc (place_of_list ls list))
          → (length ls ≤ place_of_list ls list → [] ≡ remaining (map remaining_of ls) list)
          → [] ≡ (if b then l.names.items else remaining (map remaining_of ls) list)
      at true above others = absurd (omega (arith, above))
      at false above others = others (omega (arith, above))

  -- names are fixed at the place
  set_there : (ls : List Listed) (m : Listed) → m.list ≡ list → place_of_list ls list < length ls
      → map remaining_of (slice_set ls (place_of_list ls list) m)
      ≡ with_remaining (map remaining_of ls) list m.names.items
  set_there [] m is low = absurd (omega (arith, low))
  set_there (l ∷ ls) m is low = at (l.list.0 == list.0) low (set_there ls m is)
    where
      at : (b : Bool) → (if b then 0 else suc (place_of_list ls list)) < suc (length ls)
          → (place_of_list ls list < length ls
          → map remaining_of (slice_set ls (place_of_list ls list) m)
          ≡ with_remaining (map remaining_of ls) list m.names.items)
          → map remaining_of (slice_set (l ∷ ls) (if b then 0 else suc (place_of_list ls list)) m)
          ≡ (if b then record { list = list; names = m.names.items } ∷ map remaining_of ls
          else remaining_of l ∷ with_remaining (map remaining_of ls) list m.names.items)
      at true below others = rw (← is) refl
      at false below others = ap (λ rs. remaining_of l ∷ rs) (others (omega (arith, below)))

  -- .. or behind all others
  push_there : (ls : List Listed) (m : Listed) → m.list ≡ list → length ls ≤ place_of_list ls list
      → map remaining_of (ls ++ m ∷ []) ≡ with_remaining (map remaining_of ls) list m.names.items
  push_there [] m is high = rw (← is) refl
  push_there (l ∷ ls) m is high = at (l.list.0 == list.0) high (push_there ls m is)
    where
      at : (b : Bool) → suc (length ls) ≤ (if b then 0 else suc (place_of_list ls list))
          → (length ls ≤ place_of_list ls list
          → map remaining_of (ls ++ m ∷ []) ≡ with_remaining (map remaining_of ls) list
          m.names.items) → remaining_of l ∷ map remaining_of (ls ++ m ∷ [])
          ≡ (if b then record { list = list; names = m.names.items } ∷ map remaining_of ls
          else remaining_of l ∷ with_remaining (map remaining_of ls) list m.names.items)
      at true above others = absurd (omega (arith, above))
      at false above others = ap (λ rs. remaining_of l ∷ rs) (others (omega (arith, above)))

  -- the list at the place is this one
  list_there : (ls : List Listed) (d : Listed) → place_of_list ls list < length ls
      → (slice_index_or ls (place_of_list ls list) d).list ≡ list
  list_there [] d low = absurd (omega (arith, low))
  list_there (l ∷ ls) d low = at (l.list.0 == list.0) refl low (list_there ls d)
    where
      at : (b : Bool) → (l.list.0 == list.0) ≡ b
          → (if b then 0 else suc (place_of_list ls list)) < suc (length ls)
          → (place_of_list ls list < length ls
          → (slice_index_or ls (place_of_list ls list) d).list ≡ list)
          → (slice_index_or (l ∷ ls) (if b then 0 else suc (place_of_list ls list)) d).list ≡ list
      at true e below others = same_reg l.list list e
      at false e below others = others (omega (arith, below))

-- the same, of a place that was found
module _ (list : Reg) (ls : List Listed) (place : ℕ) (found : place ≡ place_of_list ls list) where
  pub names_at : (d : Listed) → place < length ls → d ≡ slice_index_or ls place d
      → d.names.items ≡ remaining (map remaining_of ls) list
  names_at d low at =
      ap (λ (l : Listed). l.names.items) at ∙ rw (found)
      (remaining_there list ls d (omega (arith, found, low)))

  pub no_names : length ls ≤ place → [] ≡ remaining (map remaining_of ls) list
  no_names high = remaining_nowhere list ls (omega (arith, found, high))

  pub list_at : (d : Listed) → place < length ls → d ≡ slice_index_or ls place d → d.list ≡ list
  list_at d low at =
      ap (λ (l : Listed). l.list) at ∙ rw (found) (list_there list ls d (omega (arith, found, low)))

  pub set_at : (m : Listed) → m.list ≡ list → place < length ls
      → map remaining_of (slice_set ls place m)
      ≡ with_remaining (map remaining_of ls) list m.names.items
  set_at m is low = rw (found) (set_there list ls m is (omega (arith, found, low)))

  pub push_at : (m : Listed) → m.list ≡ list → length ls ≤ place
      → map remaining_of (ls ++ m ∷ []) ≡ with_remaining (map remaining_of ls) list m.names.items
  push_at m is high = push_there list ls m is (omega (arith, found, high))
