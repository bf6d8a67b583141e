-- The text of a page, character by character, by what is left of messages and links.
use Rattle.std.proofs.Common.{◌≡◌, ℕ, ◌+◌, Bool, true, false, not, ◌&&◌, ◌||◌, ◌==◌, if◌then◌else◌, List, [], ◌∷◌, ◌++◌, length, filter, Some, inl, inr, refl, ap, sym, ◌∙◌, append_assoc, arith}
use Rattle.std.specs.List.{take_while}
use Rattle.ja_files.specs.declared.file.Spot.{Spot}
use Rattle.ja_files.specs.Order.{IsSpotUpTo}
use Rattle.ja_lex.specs.Spots.{ends_line}
use Rattle.ja_prim.specs.Characters.{is_part}
use Rattle.ja_show.specs.Lines.{shown}
use Rattle.ja_show.specs.Page.{AreLinksOrdered, AreMessagesOrdered, behind, below, escaped, goes_on, is_about, is_from, line_end, line_start, links_text, mark_end, mark_start, source_text}
use Rattle.ja_show.specs.code.Walk.{links_from, messages_from}
use Rattle.ja_show.specs.declared.message.Link.{Link}
use Rattle.ja_show.specs.declared.message.Message.{Message}
use Rattle.ja_show.proofs.Fronts.{from_keeps, from_ordered, front_at}
use Rattle.ja_show.proofs.Places.{up_to_itself, up_to_more}

-- ---- one character

-- a mark goes on over a character, where messages `here` begin none
abbrev pub stays : List Message → Bool → ℕ → Bool
stays here marked c = marked && is_part c && not (not (length here == 0))

-- a character stands in a mark
abbrev pub within : List Message → Bool → ℕ → Bool
within here marked c = not (length here == 0) || stays here marked c

-- .. that may go on behind it
pub goes : List Message → Bool → ℕ → Bool
goes here marked c = within here marked c && goes_on c

goes_is : (here : List Message) (marked : Bool) (c : ℕ)
    → goes here marked c ≡ (within here marked c && goes_on c)
unfolding goes
goes_is here marked c = refl

-- of files with these names
module _ (names : List (List ℕ)) where
  abbrev pub front : List Message → List Link → Bool → ℕ → List ℕ
  front here called marked c =
      mark_end (marked && not (stays here marked c)) ++ links_text names called ++ mark_start here

  -- a character with what stands there, and what is behind it on another line or on the same one
  pub step : List Message → List Link → Spot → Bool → ℕ → Bool → List ℕ → List ℕ → List ℕ
  step here called at marked c ends low same =
      front here called marked c
      ++ (if ends then
      mark_end (within here marked c) ++ line_end ++ line_start at.file (at.place.line + 1) ++ low
      else
      escaped (shown c) ++ mark_end (within here marked c && not (goes_on c)) ++ same)

  abbrev pub text_below : List Message → List Link → Spot → List ℕ → List ℕ
  text_below ms links at cs = source_text names ms links (below at) false cs

  abbrev pub text_behind : List Message → List Link → Spot → Bool → List ℕ → List ℕ
  text_behind ms links at marked cs = source_text names ms links (behind at) marked cs

  pub source_step : (ms : List Message) (links : List Link) (at : Spot) (marked : Bool) (c : ℕ)
      (cs : List ℕ) → source_text names ms links at marked (c ∷ cs)
      ≡ step (filter (is_about at) ms) (filter (is_from at) links) at marked c
      (ends_line (c ∷ cs)) (text_below ms links at cs)
      (text_behind ms links at (goes (filter (is_about at) ms) marked c) cs)
  unfolding source_text step goes
  source_step ms links at marked c cs = refl

  pub step_line : (here : List Message) (called : List Link) (at : Spot) (marked : Bool) (c : ℕ)
      (low same : List ℕ) → step here called at marked c true low same
      ≡ front here called marked c
      ++ (mark_end (within here marked c) ++ line_end ++ line_start at.file (at.place.line + 1)
      ++ low)
  unfolding step
  step_line here called at marked c low same = refl

  pub step_inside : (here : List Message) (called : List Link) (at : Spot) (marked : Bool) (c : ℕ)
      (low same : List ℕ) → step here called at marked c false low same
      ≡ front here called marked c
      ++ (escaped (shown c) ++ mark_end (within here marked c && not (goes_on c)) ++ same)
  unfolding step
  step_inside here called at marked c low same = refl

  -- a step of equal parts
  same_step : {here there : List Message} {called over : List Link} (at : Spot) (marked : Bool)
      (c : ℕ) (ends : Bool) {low down same other : List ℕ} → there ≡ here → over ≡ called
      → down ≡ low → other ≡ same
      → step there over at marked c ends down other ≡ step here called at marked c ends low same
  same_step at marked c ends one two three four = cc

  -- ---- what is left of messages and links

  -- the same messages and links stand at each spot from one on
  same_source : (ms fewer : List Message) (links less : List Link) (from : Spot)
      → ((p : Spot) → IsSpotUpTo from p → filter (is_about p) fewer ≡ filter (is_about p) ms)
      → ((p : Spot) → IsSpotUpTo from p → filter (is_from p) less ≡ filter (is_from p) links)
      → (cs : List ℕ) (at : Spot) (marked : Bool) → IsSpotUpTo from at
      → source_text names fewer less at marked cs ≡ source_text names ms links at marked cs
  unfolding source_text
  same_source ms fewer links less from kept called [] at marked up = refl
  same_source ms fewer links less from kept called (c ∷ cs) at marked up =
      let one : filter (is_about at) fewer ≡ filter (is_about at) ms = kept at up in
      let two : filter (is_from at) less ≡ filter (is_from at) links = called at up in
      let more : Bool = goes (filter (is_about at) ms) marked c in
      let low : text_below fewer less at cs ≡ text_below ms links at cs =
      same_source ms fewer links less from kept called cs (below at) false
      (up_to_more from at (below at) up (inr (refl, inl (omega arith)))) in
      let same : text_behind fewer less at more cs ≡ text_behind ms links at more cs =
      same_source ms fewer links less from kept called cs (behind at) more
      (up_to_more from at (behind at) up (inr (refl, inr (refl, omega arith)))) in
      source_step fewer less at marked c cs
      ∙ same_step at marked c (ends_line (c ∷ cs)) one two low
      (ap (λ (here : List Message). text_behind fewer less at (goes here marked c) cs) one ∙ same)
      ∙ sym (source_step ms links at marked c cs)

pub messages_ordered : (at : Spot) (ms : List Message) → AreMessagesOrdered ms
    → AreMessagesOrdered (messages_from at ms)
messages_ordered at ms ordered = from_ordered (λ (m : Message). m.spot) at ms ordered

pub links_ordered : (at : Spot) (links : List Link) → AreLinksOrdered links
    → AreLinksOrdered (links_from at links)
links_ordered at links ordered = from_ordered (λ (link : Link). Some link.from) at links ordered

-- one character of the text, with those messages and links that are left there
module _ (names : List (List ℕ)) (ms : List Message) (links : List Link) (at : Spot)
    (marked : Bool) (messages_in : AreMessagesOrdered ms) (links_in : AreLinksOrdered links) where
  abbrev pub here : List Message
  here = take_while (is_about at) (messages_from at ms)

  abbrev pub called : List Link
  called = take_while (is_from at) (links_from at links)

  pub source_here : (c : ℕ) (cs : List ℕ) → source_text names ms links at marked (c ∷ cs)
      ≡ step names here called at marked c (ends_line (c ∷ cs))
      (text_below names (messages_from at ms) (links_from at links) at cs)
      (text_behind names (messages_from at ms) (links_from at links) at (goes here marked c) cs)
  source_here c cs =
      let left : source_text names (messages_from at ms) (links_from at links) at marked (c ∷ cs)
      ≡ source_text names ms links at marked (c ∷ cs) =
      same_source names ms (messages_from at ms) links (links_from at links) at
      (λ p up. from_keeps (λ (m : Message). m.spot) at p up ms)
      (λ p up. from_keeps (λ (link : Link). Some link.from) at p up links)
      (c ∷ cs) at marked (up_to_itself at) in
      let one : filter (is_about at) (messages_from at ms) ≡ here =
      from_keeps (λ (m : Message). m.spot) at at (up_to_itself at) ms
      ∙ sym (front_at (λ (m : Message). m.spot) at ms messages_in) in
      let two : filter (is_from at) (links_from at links) ≡ called =
      from_keeps (λ (link : Link). Some link.from) at at (up_to_itself at) links
      ∙ sym (front_at (λ (link : Link). Some link.from) at links links_in) in
      sym left ∙ source_step names (messages_from at ms) (links_from at links) at marked c cs
      ∙ same_step names at marked c (ends_line (c ∷ cs)) one two refl
      (ap (λ (hs : List Message). text_behind names (messages_from at ms) (links_from at links) at
      (goes hs marked c) cs) one)

  pub past_line : (c : ℕ) (cs rest base first second third : List ℕ) → rest ≡ c ∷ cs
      → ends_line rest ≡ true → first ≡ base ++ front names here called marked c
      → second ≡ first ++ (mark_end (within here marked c) ++ line_end)
      → third ≡ second ++ line_start at.file (at.place.line + 1)
      → third ++ text_below names (messages_from at ms) (links_from at links) at cs
      ≡ base ++ source_text names ms links at marked rest
  past_line c cs rest base first second third split ends one two three =
      let low : List ℕ = text_below names (messages_from at ms) (links_from at links) at cs in
      let last : List ℕ = mark_end (within here marked c) ++ line_end in
      let start : List ℕ = line_start at.file (at.place.line + 1) in
      let same : List ℕ =
      text_behind names (messages_from at ms) (links_from at links) at (goes here marked c) cs in
      let ended : ends_line (c ∷ cs) ≡ true = sym (ap ends_line split) ∙ ends in
      let whole : source_text names ms links at marked rest
      ≡ front names here called marked c ++ (last ++ start ++ low) =
      ap (source_text names ms links at marked) split ∙ source_here c cs
      ∙ ap (λ (b : Bool). step names here called at marked c b low same) ended
      ∙ step_line names here called at marked c low same in
      let text : third
      ≡ base ++ front names here called marked c ++ last ++ start =
      three ∙ ap (λ (xs : List ℕ). xs ++ start)
      (two ∙ ap (λ (xs : List ℕ). xs ++ last) one) in
      ap (λ (xs : List ℕ). xs ++ low) text
      ∙ regrouped base (front names here called marked c) last start low
      ∙ ap (λ (xs : List ℕ). base ++ xs) (sym whole)
    where
      regrouped : (a b c d e : List ℕ) → a ++ b ++ c ++ d ++ e ≡ a ++ (b ++ (c ++ d ++ e))
      regrouped a b c d e = simp append_assoc

  pub past_inside : (c : ℕ) (cs rest base first second : List ℕ) (more : Bool) → rest ≡ c ∷ cs
      → ends_line rest ≡ false → first ≡ base ++ front names here called marked c
      → second ≡ first
      ++ (escaped (shown c) ++ mark_end (within here marked c && not (goes_on c)))
      → more ≡ (within here marked c && goes_on c)
      → second ++ text_behind names (messages_from at ms) (links_from at links) at more cs
      ≡ base ++ source_text names ms links at marked rest
  past_inside c cs rest base first second more split ends one two goes_more =
      let low : List ℕ = text_below names (messages_from at ms) (links_from at links) at cs in
      let text : List ℕ =
      escaped (shown c) ++ mark_end (within here marked c && not (goes_on c)) in
      let same : List ℕ =
      text_behind names (messages_from at ms) (links_from at links) at more cs in
      let inside : ends_line (c ∷ cs) ≡ false = sym (ap ends_line split) ∙ ends in
      let going : goes here marked c ≡ more = goes_is here marked c ∙ sym goes_more in
      let whole : source_text names ms links at marked rest
      ≡ front names here called marked c ++ (text ++ same) =
      ap (source_text names ms links at marked) split ∙ source_here c cs
      ∙ same_step names at marked c (ends_line (c ∷ cs)) refl refl refl
      (ap (λ (b : Bool).
      text_behind names (messages_from at ms) (links_from at links) at b cs) going)
      ∙ ap (λ (b : Bool). step names here called at marked c b low same) inside
      ∙ step_inside names here called at marked c low same in
      ap (λ (xs : List ℕ). xs ++ same) (two ∙ ap (λ (xs : List ℕ). xs ++ text) one)
      ∙ regrouped base (front names here called marked c) text same
      ∙ ap (λ (xs : List ℕ). base ++ xs) (sym whole)
    where
      regrouped : (a b c d : List ℕ) → a ++ b ++ c ++ d ≡ a ++ (b ++ (c ++ d))
      regrouped a b c d = simp append_assoc
