-- The tags of a page, which begin and end in themselves: without them its text is left.
use Rattle.std.proofs.Common.{◌≡◌, ◌≢◌, ℕ, ◌+◌, ◌%◌, ◌<◌, ◌≤◌, ◌^◌, Bool, true, false, not, ◌&&◌, ◌==◌, if◌then◌else◌, List, [], ◌∷◌, ◌++◌, append-nil, append_assoc, ap, sym, ◌∙◌, refl, arith, codes, decimal, filter, length}
use Rattle.std.proofs.lemmas.Bool.{ne_eqb}
use Rattle.std.proofs.lemmas.Fmt.{decimal_by_steps}
use Rattle.std.specs.List.{AllByRecursion, flat_map}
use Rattle.ja_base.proofs.Lists.{all_append, all_weaker}
use Rattle.ja_files.specs.declared.file.Spot.{Spot}
use Rattle.ja_files.specs.Files.{spot_at}
use Rattle.ja_lex.specs.Spots.{ends_line, max_bytes, place_at}
use Rattle.ja_show.specs.Lines.{shown}
use Rattle.ja_show.specs.Page.{behind, below, escaped, goes_on, is_about, level_class, line_end, line_start, lines_text, links_text, mark_end, mark_start, next_hint, source_text}
use Rattle.ja_show.specs.Untagged.{plain_lines, untagged}
use Rattle.ja_show.specs.declared.message.Level.{Level}
use Rattle.ja_show.specs.declared.message.Level.TheVariants.{Error, Certain, Possible, Note}
use Rattle.ja_show.specs.declared.message.Message.{Message}
use Rattle.ja_show.proofs.Escapes.{IsPlain, escaped_plain}
use Rattle.ja_show.proofs.Source.{front, goes, source_step, stays, step, step_inside, step_line, text_behind, text_below, within}

-- a text goes from one side of tags to the other, or stays, and leaves something
record Turns (from : Bool) (text : List ℕ) (to : Bool) (left : List ℕ) : Type 0 where
  holds : (rest : List ℕ) → untagged from (text ++ rest) ≡ left ++ untagged to rest

joins : {a b c : Bool} {first second left more : List ℕ} → Turns a first b left
    → Turns b second c more → Turns a (first ++ second) c (left ++ more)
joins {a} {b} {c} {first} {second} {left} {more} one two = record {
  holds = λ rest. ap (untagged a) (append_assoc first second rest)
      ∙ one.holds (second ++ rest)
      ∙ ap (λ (bs : List ℕ). left ++ bs) (two.holds rest)
      ∙ sym (append_assoc left more (untagged c rest));
}

-- ---- what has no tags

abbrev IsTagless : ℕ → Type 0
IsTagless b = (b ≢ 60) × (b ≢ 62)

inside_left : (bs rest : List ℕ) → AllByRecursion IsTagless bs
    → untagged true (bs ++ rest) ≡ untagged true rest
unfolding untagged
inside_left [] rest all = refl
inside_left (b ∷ bs) rest all =
    let one : (b == 60) ≡ false = ne_eqb b 60 all.0.0 in
    let two : (b == 62) ≡ false = ne_eqb b 62 all.0.1 in
    rw (one, two) (inside_left bs rest all.1)

outside_left : (bs rest : List ℕ) → AllByRecursion IsTagless bs
    → untagged false (bs ++ rest) ≡ bs ++ untagged false rest
unfolding untagged
outside_left [] rest all = refl
outside_left (b ∷ bs) rest all =
    let one : (b == 60) ≡ false = ne_eqb b 60 all.0.0 in
    let two : (b == 62) ≡ false = ne_eqb b 62 all.0.1 in
    rw (one, two) (ap (λ (xs : List ℕ). b ∷ xs) (outside_left bs rest all.1))

escaped_tagless : (bytes : List ℕ) → AllByRecursion IsTagless (escaped bytes)
escaped_tagless bytes =
    all_weaker IsPlain IsTagless (λ b plain. (plain.0, plain.1)) (escaped bytes)
    (escaped_plain bytes)

decimal_tagless : (n : ℕ) → n < 2 ^ 64 → AllByRecursion IsTagless (decimal n)
decimal_tagless n small =
    decimal_by_steps (λ (m : ℕ) (ds : List ℕ). AllByRecursion IsTagless ds)
    (λ m low. digit m low)
    (λ m ds high all. all_append IsTagless ds ((48 + m % 10) ∷ []) all
    (digit (m % 10) (omega arith))) n small
  where
    digit : (m : ℕ) → m < 10 → AllByRecursion IsTagless ((48 + m) ∷ [])
    digit m low = (((λ e. omega arith), (λ e. omega arith)), tt)

decimal_inside : (n : ℕ) → n < 2 ^ 64 → Turns true (decimal n) true []
decimal_inside n small = record {
  holds = λ rest. inside_left (decimal n) rest (decimal_tagless n small);
}

escaped_inside : (bytes : List ℕ) → Turns true (escaped bytes) true []
escaped_inside bytes = record {
  holds = λ rest. inside_left (escaped bytes) rest (escaped_tagless bytes);
}

escaped_outside : (bytes : List ℕ) → Turns false (escaped bytes) false (escaped bytes)
escaped_outside bytes = record {
  holds = λ rest. outside_left (escaped bytes) rest (escaped_tagless bytes);
}

-- ---- marks

class_inside : (level : Level) → Turns true (level_class level) true []
unfolding untagged
class_inside Error = record { holds = λ rest. refl }
class_inside Certain = record { holds = λ rest. refl }
class_inside Possible = record { holds = λ rest. refl }
class_inside Note = record { holds = λ rest. refl }

break_inside : Turns true (codes "&#10;") true []
unfolding untagged
break_inside = record { holds = λ rest. refl }

hints_inside : (ms : List Message) → Turns true (flat_map next_hint ms) true []
hints_inside [] = record { holds = λ rest. refl }
hints_inside (m ∷ ms) = joins (joins break_inside (escaped_inside m.text)) (hints_inside ms)

mark_begins : Turns false (codes "<mark class=\"") true []
unfolding untagged
mark_begins = record { holds = λ rest. refl }

title_inside : Turns true (codes "\" title=\"") true []
unfolding untagged
title_inside = record { holds = λ rest. refl }

tag_ends : Turns true (codes "\">") false []
unfolding untagged
tag_ends = record { holds = λ rest. refl }

mark_start_left : (ms : List Message) → Turns false (mark_start ms) false []
unfolding mark_start
mark_start_left [] = record { holds = λ rest. refl }
mark_start_left (m ∷ ms) =
    joins (joins (joins (joins (joins mark_begins (class_inside m.level)) title_inside)
    (escaped_inside m.text)) (hints_inside ms)) tag_ends

mark_end_left : (marked : Bool) → Turns false (mark_end marked) false []
unfolding untagged
mark_end_left true = record { holds = λ rest. refl }
mark_end_left false = record { holds = λ rest. refl }

no_links_left : (names : List (List ℕ)) → Turns false (links_text names []) false []
unfolding links_text
no_links_left names = record { holds = λ rest. refl }

front_left : (names : List (List ℕ)) (here : List Message) (marked : Bool) (c : ℕ)
    → Turns false (front names here [] marked c) false []
front_left names here marked c =
    joins (joins (mark_end_left (marked && not (stays here marked c))) (no_links_left names))
    (mark_start_left here)

-- ---- lines

line_begins : Turns false (codes "<li id=\"F") true []
unfolding untagged
line_begins = record { holds = λ rest. refl }

line_number_inside : Turns true (codes "L") true []
unfolding untagged
line_number_inside = record { holds = λ rest. refl }

code_begins : Turns true (codes "\"><code>") false []
unfolding untagged
code_begins = record { holds = λ rest. refl }

line_ends : Turns false line_end false (codes "\n")
unfolding untagged
line_ends = record { holds = λ rest. refl }

line_start_left : (file number : ℕ) → file < 2 ^ 64 → number < 2 ^ 64
    → Turns false (line_start file number) false []
unfolding line_start
line_start_left file number few small =
    joins (joins (joins (joins line_begins (decimal_inside file few)) line_number_inside)
    (decimal_inside number small)) code_begins

-- of files with these names
module _ (names : List (List ℕ)) where
  step_left : (here : List Message) (at : Spot) (marked : Bool) (c : ℕ) (ends : Bool)
      (low same plain : List ℕ) → at.file < 2 ^ 64 → at.place.line + 1 < 2 ^ 64
      → untagged false low ≡ plain → untagged false same ≡ plain
      → untagged false (step names here [] at marked c ends low same)
      ≡ (if ends then codes "\n" else escaped (shown c)) ++ plain
  step_left here at marked c true low same plain few small left left_same =
      ap (untagged false) (step_line names here [] at marked c low same)
      ∙ (front_left names here marked c).holds (mark_end (within here marked c) ++ line_end
      ++ line_start at.file (at.place.line + 1) ++ low)
      ∙ (joins (joins (mark_end_left (within here marked c)) line_ends)
      (line_start_left at.file (at.place.line + 1) few small)).holds low
      ∙ ap (λ (bs : List ℕ). codes "\n" ++ bs) left
  step_left here at marked c false low same plain few small left left_same =
      ap (untagged false) (step_inside names here [] at marked c low same)
      ∙ (front_left names here marked c).holds (escaped (shown c)
      ++ mark_end (within here marked c && not (goes_on c)) ++ same)
      ∙ (joins (escaped_outside (shown c))
      (mark_end_left (within here marked c && not (goes_on c)))).holds same
      ∙ ap (λ (bs : List ℕ). escaped (shown c) ++ [] ++ bs) left_same
      ∙ ap (λ (bs : List ℕ). bs ++ plain) (append-nil (escaped (shown c)))

  source_left : (ms : List Message) (cs : List ℕ) (at : Spot) (marked : Bool)
      → at.file < 2 ^ 64 → at.place.line + length cs < 2 ^ 64
      → untagged false (source_text names ms [] at marked cs) ≡ plain_lines cs
  unfolding source_text plain_lines untagged
  source_left ms [] at marked few small =
      ap (untagged false) (sym (append-nil (mark_end marked ++ line_end)))
      ∙ (joins (mark_end_left marked) line_ends).holds []
  source_left ms (c ∷ cs) at marked few small =
      let here : List Message = filter (is_about at) ms in
      let low : List ℕ = text_below names ms [] at cs in
      let same : List ℕ = text_behind names ms [] at (goes here marked c) cs in
      let left : untagged false low ≡ plain_lines cs =
      source_left ms cs (below at) false few (omega arith) in
      let left_same : untagged false same ≡ plain_lines cs =
      source_left ms cs (behind at) (goes here marked c) few (omega arith) in
      ap (untagged false) (source_step names ms [] at marked c cs)
      ∙ step_left here at marked c (ends_line (c ∷ cs)) low same (plain_lines cs) few (omega arith)
      left left_same

  pub lines_left : (ms : List Message) (file : ℕ) (text : List ℕ) → file < 2 ^ 32
      → length text ≤ max_bytes
      → untagged false (lines_text names ms [] file text) ≡ plain_lines text
  lines_left ms file text few small =
      (line_start_left file 1 (omega arith) (omega arith)).holds
      (source_text names ms [] (spot_at file (place_at 1 1)) false text)
      ∙ source_left ms text (spot_at file (place_at 1 1)) false (omega arith) (omega arith)
