-- What is kept of lines, as they come.
use Rattle.std.proofs.Common.{◌≡◌, ℕ, ◌+◌, ◌≤◌, ◌<◌, min, Bool, false, List, [], ◌∷◌, ◌++◌, length, Option, Some, None, unwrap_or, refl, ap, sym, ◌∙◌, arith}
use Rattle.std.specs.Option.{option_or}
use Rattle.std.proofs.lemmas.List.{map-append, append_assoc, append-nil, length-map}
use Rattle.ja_lower_listing.specs.declared.item.Block.{Block}
use Rattle.ja_lower_listing.specs.declared.item.Item.{Item}
use Rattle.ja_lower_listing.specs.declared.item.Item.TheVariants as item
use Rattle.ja_lower_listing.specs.Listing.{node_count, begins_with_node}
use Rattle.ja_lower_listing.proofs.Parts.{count_both}
use Rattle.ja_lower_draft.specs.declared.part.Part.{Part}
use Rattle.ja_lower_draft.specs.declared.moves.Moves.{Moves}
use Rattle.ja_lower_draft.specs.Copies.{moved_node}
use Rattle.ja_lower_draft.specs.code.Kept.{IsKept}
use Rattle.ja_lower_draft.specs.code.Parts.{moved_by, line_of, lines_of, nodes_counted}

-- of no lines
pub kept_nothing : IsKept [] 0 None []
unfolding node_count begins_with_node
kept_nothing = record { counted = refl; begins = λ more. refl; parts = λ few. refl }

-- of lines and others behind them
either_first : (b c : Option Bool) (rest : Bool)
    → unwrap_or b (unwrap_or c rest) ≡ unwrap_or (option_or b c) rest
either_first None c rest = refl
either_first (Some b) c rest = refl

pub kept_both : {xs ys : List Item} {n m : ℕ} {b c : Option Bool} {ps qs : List Part}
    → IsKept xs n b ps → IsKept ys m c qs → IsKept (xs ++ ys) (min (n + m) 4294967295)
    (option_or b c) (ps ++ qs)
kept_both {xs} {ys} {n} {m} {b} {c} {ps} {qs} before behind = record {
  counted = omega (arith, before.counted, behind.counted, count_both xs ys);
  begins = λ more.
      ap begins_with_node (append_assoc xs ys more)
      ∙ (before.begins (ys ++ more) ∙ (ap (unwrap_or b) (behind.begins more)
      ∙ either_first b c (begins_with_node more)));
  parts = λ few.
      map-append line_of ps qs ∙ cc (
        before.parts (omega (arith, few)),
        behind.parts (omega (arith, few)),
      );
}

-- of one line, with its part
pub kept_line : (p : Part) (n : ℕ) (b : Option Bool) → n ≡ nodes_counted (line_of p ∷ [])
    → ((more : List Item) → begins_with_node (line_of p ∷ more)
    ≡ unwrap_or b (begins_with_node more)) → IsKept (line_of p ∷ []) n b (p ∷ [])
kept_line p n b count first = record { counted = count; begins = first; parts = λ few. refl }

-- where there are more nodes than in any graph, no part has to be
pub kept_long : {xs : List Item} {n : ℕ} {b : Option Bool} {ps qs : List Part}
    → (n ≤ 65536 → qs ≡ ps) → IsKept xs n b ps → IsKept xs n b qs
kept_long same h =
    record {
      counted = h.counted;
      begins = h.begins;
      parts = λ few. ap lines_of (same few)
          ∙ h.parts few;
    }

-- and a copy of a block that is that long
kept_copy : (block : Block) (n : ℕ) → n ≡ min (length block.nodes) 4294967295 → 65536 < n
    → IsKept (item.Copy block ∷ []) n (Some false) []
unfolding node_count begins_with_node
kept_copy block n count long =
    record {
      counted = omega (arith, count);
      begins = λ more. refl;
      parts = λ few. absurd (omega (arith, few, long));
    }

pub kept_long_copy : {xs : List Item} {n : ℕ} {b : Option Bool} {ps : List Part} → IsKept xs n b ps
    → (m : Moves) (block : Block) (k : ℕ) → k ≡ min (length block.nodes) 4294967295 → 65536 < k
    → IsKept (xs ++ item.Copy (moved_by m block) ∷ []) (min (n + k) 4294967295)
    (option_or b (Some false)) ps
kept_long_copy h m block k count long =
    kept_long (λ few. absurd (omega (arith, few, long)))
    (kept_both h (kept_copy (moved_by m block) k
    (count ∙ ap (λ n. min n 4294967295) (sym
    (length-map block.nodes (moved_node m.temporary m.above m.by)))) long))

-- ---- what lines begin with

pub kept_begins : {xs : List Item} {n : ℕ} {b : Option Bool} {ps : List Part} → IsKept xs n b ps
    → unwrap_or b false ≡ begins_with_node xs
unfolding begins_with_node
kept_begins {xs} h = sym (h.begins []) ∙ ap begins_with_node (append-nil xs)
