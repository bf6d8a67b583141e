-- How places are told.
use Rattle.std.specs.Prelude.{◌≡◌, ℕ, List, [], ◌∷◌, ◌++◌, map, length}
use Rattle.std.specs.List.{flat_map, join_with_byte}
use Rattle.std.proofs.Common.{refl, sym, ap, ◌∙◌, arith, append_assoc, append-nil}
use Rattle.std.proofs.lemmas.List.{length_push, same_from_push}
use lib.Chars.{codes}
use Rattle.ja_cert_parts.specs.declared.fault.Step.{Step}
use Rattle.ja_cert_read.specs.Certified.{item_text}
use Rattle.ja_cert_parts.specs.code.Reading.{step_text}
use Rattle.ja_cert_read.specs.code.Whole.{stopped}

-- steps with a point behind each are steps with points between, and one more
stopped_joined : (s : Step) (steps : List Step)
    → flat_map stopped (s ∷ steps) ≡ join_with_byte 46 (map step_text (s ∷ steps)) ++ 46 ∷ []
unfolding stopped
stopped_joined s [] = append-nil (step_text s ++ 46 ∷ [])
stopped_joined s (t ∷ steps) =
    ap (λ l. (step_text s ++ 46 ∷ []) ++ l) (stopped_joined t steps) ∙ simp append_assoc

-- without the last point
pub closed_path : (steps : List Step) (text rest : List ℕ) (last : ℕ)
    → text ≡ flat_map stopped steps → text ≡ rest ++ last ∷ []
    → rest ≡ item_text (map step_text steps)
closed_path [] text rest last was split =
    absurd (omega (arith, ap length (sym was ∙ split), length_push rest last))
closed_path (s ∷ steps) text rest last was split =
    (same_from_push rest (join_with_byte 46 (map step_text (s ∷ steps))) last 46
    (sym split ∙ was ∙ stopped_joined s steps)).0

-- no step at all
pub empty_path : (steps : List Step) (text rest : List ℕ) → text ≡ flat_map stopped steps
    → length text ≡ 0 → length rest ≡ 0 → rest ++ codes "all" ≡ item_text (map step_text steps)
empty_path [] text [] was none empty = refl
empty_path [] text (x ∷ rest) was none empty = absurd (omega (arith, empty))
empty_path (s ∷ steps) text rest was none empty =
    let size = ap length (was ∙ stopped_joined s steps) in
    absurd (omega (
      arith,
      size,
      none,
      length_push (join_with_byte 46 (map step_text (s ∷ steps))) 46,
    ))
