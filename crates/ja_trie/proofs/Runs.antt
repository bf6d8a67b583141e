-- Runs of one value: of one place, of a node with one kid eight times, and of a list that is cut.
use Rattle.std.proofs.Common.{◌≡◌, ℕ, ◌+◌, ◌-◌, ◌*◌, ◌/◌, ◌%◌, ◌<◌, ◌≤◌, List, length, get_or, map, take, replicate, sym, ap, ◌∙◌, subst, arith}
use Rattle.std.specs.List.{flat_map}
use Rattle.std.proofs.lemmas.List.{get_or-replicate, length-replicate}
use Rattle.std.proofs.lemmas.Nat.{div-add-mod', div_below, mod_below}
use Rattle.ja_trie.specs.Run.{IsRun}
use Rattle.ja_trie.proofs.Levels.{IsLevel, read_level, each_same}
use Rattle.ja_trie.proofs.Tested.{taken}

-- a place alone
pub run_of_one : {T : Type 0} (xs : List T) (i : ℕ) → i < length xs → IsRun xs i (i + 1)
run_of_one xs i within = record {
  ahead = omega arith;
  within = omega arith;
  same = λ k from to d.
      let here : k ≡ i = omega arith in
      ap (λ n. get_or xs n d) here;
}

-- one value eight times
pub run_of_eight : {T : Type 0} (xs : List T) (x : T) (i : ℕ) → xs ≡ replicate 8 x → i < length xs
    → IsRun xs i 8
run_of_eight xs x i is within =
    let long : length xs ≡ 8 = ap length is ∙ length-replicate 8 x in
    record {
      ahead = omega arith;
      within = omega arith;
      same = λ k from to d.
          ap (λ l. get_or l k d) is ∙ get_or-replicate 8 k x d to
          ∙ sym (ap (λ l. get_or l i d) is ∙ get_or-replicate 8 i x d (omega arith));
    }

module _ {X T : Type 0} (f : X → List T) (w : ℕ) (xs : List X) (self : List T) (i : ℕ) (e : X)
    (at : IsLevel f w xs self i) (is : flat_map f xs ≡ self) (whole : length self ≡ 8 * w)
    (end : ℕ) (run : IsRun (f (get_or xs (i / w) e)) (i % w) end) where
  part_long : length (f (get_or xs (i / w) e)) ≡ w
  part_long = at.long (i / w) e (omega (arith, at.kid, at.eight))

  pub part_end : end ≤ w
  part_end = omega (arith, part_long, run.within)

  -- a run of one of the parts is one of the whole
  pub run_of_part : IsRun self i (i - i % w + end)
  run_of_part =
      let q = i / w in
      let place : q * w + i % w ≡ i = div-add-mod' i w in
      let rest : 8 * w ≡ q * w + w + (8 - (q + 1)) * w = after q at.kid in
      record {
        ahead = omega (arith, run.ahead);
        within = omega (arith, part_end);
        same = λ k from to d.
            let there : q * w + (k - q * w) ≡ k = omega arith in
            ap (λ l. get_or l k d) (sym is) ∙ ap (λ n. get_or (flat_map f xs) n d) (sym there)
            ∙ read_level f w xs q (k - q * w) d e at.long (omega (arith, at.kid, at.eight))
            (omega (arith, part_end))
            ∙ run.same (k - q * w) (omega arith) (omega arith) d ∙ sym (at.reads d e);
      }
    where
      after : (q : ℕ) → q < 8 → 8 * w ≡ q * w + w + (8 - (q + 1)) * w
      after q below =
          let eight : 8 ≡ q + 1 + (8 - (q + 1)) = omega arith in
          ap (λ n. n * w) eight ∙ omega arith

  -- .. and where it is all of one of eight parts that are the same, it goes through all of them
  pub run_of_parts : (below : List T) → map f xs ≡ replicate 8 below → i < length self
      → i % w ≡ 0 → end ≡ w → IsRun self i (8 * end)
  run_of_parts below same inside first all = record {
    ahead = omega (arith, inside, whole, all);
    within = omega (arith, whole, all);
    same = λ k from to d. value_at k (omega (arith, all)) d
        ∙ sym (value_at i (omega arith) d);
  }
    where
      value_at : (k : ℕ) → k < 8 * w → (d : T) → get_or self k d ≡ get_or below 0 d
      value_at k within d =
          let q = k / w in
          let there : q * w + k % w ≡ k = div-add-mod' k w in
          let quotient : q < 8 = div_below k w 8 at.wide within in
          let inside : k % w < w = mod_below k w at.wide in
          let mine : f (get_or xs (i / w) e) ≡ below = each_same f xs below (i / w) e same at.kid in
          ap (λ l. get_or l k d) (sym is) ∙ ap (λ n. get_or (flat_map f xs) n d) (sym there)
          ∙ read_level f w xs q (k % w) d e at.long (omega (arith, at.eight)) inside
          ∙ ap (λ l. get_or l (k % w) d) (each_same f xs below q e same quotient ∙ sym mine)
          ∙ run.same (k % w) (omega arith) (omega arith) d
          ∙ ap (λ n. get_or (f (get_or xs (i / w) e)) n d) first
          ∙ ap (λ l. get_or l 0 d) mine

-- the same run of an equal list
pub run_at : {T : Type 0} (xs ys : List T) (i end : ℕ) → xs ≡ ys → IsRun xs i end → IsRun ys i end
run_at xs ys i end e run = subst (λ l. IsRun l i end) e run

-- a run of what comes before a cut
pub run_of_root : {T : Type 0} (long : ℕ) (xs self : List T) (i end least : ℕ)
    → take long xs ≡ self → length self ≡ long → least ≤ end → least ≤ long → i < least
    → IsRun xs i end → IsRun self i least
run_of_root long xs self i end least is here most within ahead run = record {
  ahead = ahead;
  within = omega arith;
  same = λ k from to d.
      sym (ap (λ l. get_or l k d) is) ∙ taken long k xs d (omega arith)
      ∙ run.same k from (omega arith) d ∙ sym (taken long i xs d (omega arith))
      ∙ ap (λ l. get_or l i d) is;
}
