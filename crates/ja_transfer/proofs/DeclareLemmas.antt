-- Definitions and declarations: where variables may be missing, and what the states come to.
use Rattle.std.proofs.Common.{arith, ◌≡◌, ◌==◌, ◌&&◌, ◌||◌, true, false, not, List, [], ◌∷◌, length, Option, Some, None, cond, refl, sym, ap, ◌∙◌}
use Rattle.std.specs.List.{filter, list_any}
use Rattle.std.specs.Option.{option_map_or}
use Rattle.std.proofs.lemmas.Bool.{ne_eqb}
use Rattle.ja_base.specs.declared.ids.Label.{Label}
use Rattle.ja_base.specs.declared.ids.NodeId.{NodeId}
use Rattle.ja_abstract.specs.declared.abstraction.Key.{Key}
use Rattle.ja_abstract.specs.AbstractValue.{Labels, AbstractProperty}
use Rattle.ja_abstract.specs.AbstractState.{AbstractState, labels_of}
use Rattle.ja_abstract.specs.Reading.{View, some_label}
use Rattle.ja_abstract.specs.Writes.{Write, sets_at, strong_update, new_alone, declared, is_missing}
use Rattle.ja_rows.specs.Out.{goes}
use Rattle.ja_transfer.specs.code.Declares.{declared_property, declared_over}
use Rattle.ja_transfer.specs.code.Deletes.{is_there}
use Rattle.ja_transfer.specs.code.Members.{weakly_over}
use Rattle.ja_transfer.proofs.Filters.{any_filter}
use Rattle.ja_transfer.proofs.WeakLemmas.{weak_where}

-- ---- at the one object of a label, or at each of some labels

module _ (w : View) (ls each : List Label) (k : Key) (q : AbstractProperty) where
  abbrev at_one : Option Label → AbstractState
  at_one o =
      let writes : List Write = sets_at k q ∷ [] in
      option_map_or (λ l. strong_update w.state l writes) o
      (weakly_over w.program w.state each (λ l. writes))

  pub set_alone : (l : Label) → new_alone ls ≡ Some l
      → strong_update w.state l (sets_at k q ∷ []) ≡ at_one (new_alone ls)
  set_alone l alone = ap at_one (sym alone)

  pub set_each : new_alone ls ≡ None
      → weakly_over w.program w.state each (λ l. sets_at k q ∷ []) ≡ at_one (new_alone ls)
  set_each none = ap at_one (sym none)

-- ---- some labels of the program

-- something is kept where a test is passed
pub some_kept : (keep : Labels) (ls : List Label) → not (length (filter keep ls) == 0) ≡ list_any keep ls
some_kept keep [] = refl
some_kept keep (l ∷ ls) =
    elim (keep l) as (λ b. not (length (cond b (l ∷ filter keep ls) (filter keep ls)) == 0)
    ≡ (b || list_any keep ls)) [
      | true ↦ ap not (ne_eqb (length (l ∷ filter keep ls)) 0 (λ e. omega (arith, e)))
      | false ↦ some_kept keep ls
    ]

module _ (w : View) (target : Labels) (k : Key) (ls : List Label)
    (are : ls ≡ filter target (labels_of w.program)) where
  pub there_is : list_any (λ l. is_there w l k) ls
      ≡ some_label w (λ l. target l && is_there w l k)
  there_is =
      ap (list_any (λ l. is_there w l k)) are
      ∙ any_filter target (λ l. is_there w l k) (labels_of w.program)

  module _ (missing : List Label) (missing_are : missing ≡ filter (λ l. is_missing w l k) ls) where
    missing_is : not (length missing == 0) ≡ some_label w (λ l. target l && is_missing w l k)
    missing_is =
        ap (λ (xs : List Label). not (length xs == 0)) missing_are
        ∙ some_kept (λ l. is_missing w l k) ls
        ∙ ap (list_any (λ l. is_missing w l k)) are
        ∙ any_filter target (λ l. is_missing w l k) (labels_of w.program)

    declared_is : declared_over w ls missing k ≡ declared w target k declared_property
    declared_is =
        let writes : List Write = sets_at k declared_property ∷ [] in
        let strong : Label → AbstractState = λ l. strong_update w.state l writes in
        (λ n. option_map_or strong (new_alone (are n))
        (weak_where w.program w.state target (λ l. is_missing w l k) writes ls missing are
        missing_are n))

    pub declared_given : (next : NodeId)
        → goes (not (length missing == 0)) next (declared_over w ls missing k)
        ≡ goes (some_label w (λ l. target l && is_missing w l k)) next
        (declared w target k declared_property)
    declared_given next = λ n. goes (missing_is n) next (declared_is n)
