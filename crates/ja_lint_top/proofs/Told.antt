-- One message for each warning that isn't only counted, as far as they are told.
use Rattle.std.specs.Prelude.{◌≡◌, ◌<◌, ◌+◌, ℕ, Bool, true, false, List, [], ◌∷◌, ◌++◌, filter, length, not, take}
use Rattle.std.proofs.Common.{get_or, cond, refl, sym, ◌∙◌, ap, subst}
use Rattle.std.proofs.lemmas.List.{append-nil}
use Rattle.std.proofs.lemmas.List.Elements.{filter-append}
use Rattle.ja_files.specs.declared.file.File.{File}
use Rattle.ja_graph.specs.declared.program.Program.{Program}
use Rattle.ja_rows.specs.declared.table.Warning.{Warning}
use Rattle.ja_rows.specs.Table.{Table}
use Rattle.ja_show.specs.declared.message.Message.{Message}
use Rattle.ja_warn.specs.declared.reached.Told.{Told}
use Rattle.ja_warn.specs.Told.{warnings_in}
use Rattle.ja_lint_top.specs.Telling.{AreTold, Tells}
use Rattle.ja_lint_top.proofs.Held.{map_more}

module _ (files : List File) (p : Program) (t : Table) where
  -- one message more, of one warning more
  told_push : (ws : List Warning) (ms : List Message) (w : Warning) (m : Message)
      → AreTold files p t ws ms → Tells files p t w m
      → AreTold files p t (ws ++ w ∷ []) (ms ++ m ∷ [])
  told_push [] ms w m told tells =
      subst (λ ns. AreTold files p t (w ∷ []) (ns ++ m ∷ [])) (sym told) (tells, refl)
  told_push (v ∷ ws) [] w m told tells = absurd told
  told_push (v ∷ ws) (n ∷ ms) w m told tells = (told.0, told_push ws ms w m told.1 tells)

  module _ (kept : Warning → Bool) (xs : List Told) (i : ℕ) (x : Told) (within : i < length xs)
      (is : x ≡ get_or xs i x) where
    front : filter kept (warnings_in (take (i + 1) xs))
        ≡ filter kept (warnings_in (take i xs)) ++ cond (kept x.warning) (x.warning ∷ []) []
    front =
        ap (filter kept) (map_more (λ (y : Told). y.warning) xs i x within
        ∙ ap (λ (y : Told). warnings_in (take i xs) ++ y.warning ∷ []) (sym is))
        ∙ filter-append kept (warnings_in (take i xs)) (x.warning ∷ [])

    -- the next warning is kept, and has a message
    pub told_more : (ms : List Message) (m : Message) → kept x.warning ≡ true
        → AreTold files p t (filter kept (warnings_in (take i xs))) ms
        → Tells files p t x.warning m
        → AreTold files p t (filter kept (warnings_in (take (i + 1) xs))) (ms ++ m ∷ [])
    told_more ms m keeps told tells =
        subst (λ ws. AreTold files p t ws (ms ++ m ∷ []))
        (sym (front ∙ ap (λ b. filter kept (warnings_in (take i xs)) ++ cond b (x.warning ∷ []) [])
        keeps))
        (told_push (filter kept (warnings_in (take i xs))) ms x.warning m told tells)

    -- or it isn't, and has none
    pub told_as_before : (ms : List Message) → kept x.warning ≡ false
        → AreTold files p t (filter kept (warnings_in (take i xs))) ms
        → AreTold files p t (filter kept (warnings_in (take (i + 1) xs))) ms
    told_as_before ms drops told =
        subst (λ ws. AreTold files p t ws ms)
        (sym (front ∙ ap (λ b. filter kept (warnings_in (take i xs)) ++ cond b (x.warning ∷ []) [])
        drops ∙ append-nil (filter kept (warnings_in (take i xs))))) told
