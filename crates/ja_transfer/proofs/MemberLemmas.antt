-- The labels of a program in a set, as they are listed.
use Rattle.std.proofs.Common.{◌≡◌, ◌+◌, ◌<◌, ℕ, ◌∷◌, [], ◌++◌, ◌||◌, if◌then◌else◌, Bool, true, List, length, take, get_or, sym, subst, ◌∙◌}
use Rattle.std.specs.Prelude.{IsTrue}
use Rattle.std.specs.List.{All, filter, list_any}
use Rattle.std.proofs.lemmas.List.Elements.{All-from_recursion, All-filter, All-weaker, All-head, filter_passes, filter_more}
use Rattle.std.proofs.lemmas.List.Folds.{list_any_more}
use Rattle.ja_base.specs.declared.ids.Label.{Label}
use Rattle.ja_graph.specs.declared.program.Program.{Program}
use Rattle.ja_abstract.specs.AbstractValue.{Labels}
use Rattle.ja_abstract.specs.AbstractState.{labels_of, is_label}
use Rattle.ja_abstract.specs.Reading.{both}
use Rattle.ja_abstract.specs.Resolved.{Demands}
use Rattle.ja_abstract.proofs.WritesInProgram.{labels_are_labels}
use Rattle.ja_transfer.specs.code.Members.{demands_over}

module _ (p : Program) where
  abbrev pub IsLabel : Label → Type 0
  IsLabel l = IsTrue (is_label p l)

  -- each is a label of the program
  pub members_labels : (target : Labels) (ls : List Label) → ls ≡ filter target (labels_of p)
      → All IsLabel ls
  members_labels target ls are =
      subst (All IsLabel) (sym are) (All-filter target IsLabel (labels_of p)
      (All-from_recursion IsLabel (labels_of p) (labels_are_labels p)))

  -- .. and of the set
  pub members_in : (P : Label → Type 0) (target : Labels) (ls : List Label)
      → ls ≡ filter target (labels_of p) → ((l : Label) → IsTrue (target l) → P l) → All P ls
  members_in P target ls are each =
      subst (All P) (sym are) (All-weaker (λ l. target l ≡ true) P each
      (filter target (labels_of p)) (filter_passes target (labels_of p)))

  -- those that are kept of labels of the program
  pub kept_labels : (keep : Labels) (ls kept : List Label) → kept ≡ filter keep ls → All IsLabel ls
      → All IsLabel kept
  kept_labels keep ls kept are all =
      subst (All IsLabel) (sym are) (All-filter keep IsLabel ls all)

-- what holds of a list of one label
pub of_one : (P : Label → Type 0) (ls : List Label) (l : Label) → ls ≡ l ∷ [] → All P ls → P l
of_one P ls l are all = All-head P l [] (subst (All P) are all)

-- ---- a label more

module _ (ls : List Label) (i : ℕ) (d : Label) (within : i < length ls) where
  -- one that passes a test
  pub some_more : (test : Labels) (now here after : Bool) → now ≡ list_any test (take i ls)
      → here ≡ test (get_or ls i d) → after ≡ (now || here)
      → after ≡ list_any test (take (i + 1) ls)
  some_more test now here after now_is here_is after_is =
      after_is ∙ (λ n. now_is n || here_is n) ∙ sym (list_any_more test ls i d within)

  -- what is demanded of it
  pub demands_more : (each : Label → Demands) (now one after : Demands)
      → now ≡ demands_over (take i ls) each → one ≡ each (get_or ls i d) → after ≡ both now one
      → after ≡ demands_over (take (i + 1) ls) each
  demands_more each now one after now_is one_is after_is =
      after_is ∙ (λ n. both (now_is n) (one_is n))
      ∙ (λ n m j. sym (list_any_more (λ (l : Label). each l m j) ls i d within) n)

  -- one that is kept
  pub kept_more : (keep : Labels) (now : List Label) (is_kept : Bool) (after : List Label)
      → now ≡ filter keep (take i ls) → is_kept ≡ keep (get_or ls i d)
      → after ≡ now ++ (if is_kept then get_or ls i d ∷ [] else [])
      → after ≡ filter keep (take (i + 1) ls)
  kept_more keep now is_kept after now_is kept_is after_is =
      after_is ∙ (λ n. now_is n ++ (if kept_is n then get_or ls i d ∷ [] else []))
      ∙ sym (filter_more keep ls i d within)
