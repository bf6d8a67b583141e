-- What a joined list has at each place, for those who join.
use Rattle.std.proofs.Common.{◌≡◌, ℕ, zero, suc, ◌<◌, ◌≤◌, Option, None, Some, List, [], ◌∷◌, length, get_or, refl, ap, ◌∙◌, arith}
use Rattle.ja_trie.specs.Join.{Joined, kept_or, put_by}

module _ {T : Type 0} (R : T → T → Option T → Type 0) where
  -- an answer that is allowed there, and what it leaves
  pub joined_reads : (xs ys zs : List T) (puts k : ℕ) (d : T) → Joined R xs ys zs puts
      → k < length xs → (a : Option T) × R (get_or xs k d) (get_or ys k d) a
      × (get_or zs k d ≡ kept_or (get_or xs k d) a) × (put_by a ≤ puts)
  joined_reads [] ys zs puts k d h lt = absurd (omega arith)
  joined_reads (x ∷ xs) [] zs puts k d h lt = absurd h
  joined_reads (x ∷ xs) (y ∷ ys) [] puts k d h lt = absurd h
  joined_reads (x ∷ xs) (y ∷ ys) (z ∷ zs) puts zero d h lt = (h.0, h.2, h.3, omega (arith, h.4))
  joined_reads (x ∷ xs) (y ∷ ys) (z ∷ zs) puts (suc k) d h lt =
      let r = joined_reads xs ys zs h.1 k d h.5 (omega arith) in
      (r.0, r.1, r.2, omega (arith, h.4, r.3))

  -- where no place was put, the list is as it was
  pub nothing_joined : (xs ys zs : List T) → Joined R xs ys zs 0 → zs ≡ xs
  nothing_joined [] [] [] h = refl
  nothing_joined [] [] (z ∷ zs) h = absurd h
  nothing_joined [] (y ∷ ys) zs h = absurd h
  nothing_joined (x ∷ xs) [] zs h = absurd h
  nothing_joined (x ∷ xs) (y ∷ ys) [] h = absurd h
  nothing_joined (x ∷ xs) (y ∷ ys) (z ∷ zs) (None, zero, r, same, count, more) =
      ap (λ v. v ∷ zs) same ∙ ap (λ l. x ∷ l) (nothing_joined xs ys zs more)
  nothing_joined (x ∷ xs) (y ∷ ys) (z ∷ zs) (None, suc n, r, same, count, more) =
      absurd (omega arith)
  nothing_joined (x ∷ xs) (y ∷ ys) (z ∷ zs) (Some v, rest, r, same, count, more) =
      absurd (omega arith)
