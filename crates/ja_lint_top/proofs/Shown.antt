-- What is written of messages is what is shown of what was found.
use Rattle.std.specs.Prelude.{◌≡◌, ℕ, true, List, filter, map, not}
use Rattle.std.proofs.Common.{◌∙◌, ap, sym, subst}
use Rattle.ja_files.specs.declared.file.File.{File}
use Rattle.ja_files.specs.Files.{characters_of, name_of}
use Rattle.ja_rows.specs.declared.table.Warning.{Warning}
use Rattle.ja_table.specs.Tables.{table_of}
use Rattle.ja_warn.specs.Told.{warnings_in}
use Rattle.ja_show.specs.declared.message.Link.{Link as ShownLink}
use Rattle.ja_show.specs.declared.message.Message.{Message}
use Rattle.ja_show.specs.Messages.{tool_name}
use Rattle.ja_show.specs.Page.{page_text}
use Rattle.ja_top.specs.declared.finding.Findings.{Findings}
use Rattle.ja_lint_top.specs.Ending.{is_counted}
use Rattle.ja_lint_top.specs.Lint.{ending_text, link_in, IsShown}
use Rattle.ja_lint_top.specs.Refusals.{lines_of, sarif_about}
use Rattle.ja_lint_top.specs.Telling.{AreTold}
use Rattle.ja_lint_top.specs.code.Answers.{AreLinksIn, Shows}
use Rattle.ja_lint_top.specs.declared.asking.Format.{Format}
use Rattle.ja_lint_top.specs.declared.asking.Format.TheVariants.{Html, Sarif}
use Rattle.ja_lint_top.specs.declared.asking.Manner.{Manner}

module _ (manner : Manner) (files : List File) (found : Findings) (messages : List Message)
    (told : AreTold files found.program (table_of found.table)
    (filter (λ (w : Warning). not (is_counted manner.rows w)) (warnings_in found.warnings))
    messages)
    (out : List ℕ) where
  abbrev Says : Format → Type 0
  Says format = IsShown format files found.program (table_of found.table) messages
      (ending_text manner files (warnings_in found.warnings)) out

  pub shows_as : (format : Format) → manner.format ≡ format → Says format
      → Shows manner files found out
  shows_as format is shown =
      record { messages = messages; told = told; shown = subst Says (sym is) shown }

  abbrev page_with : List ℕ → List Message → List ShownLink → List ℕ
  page_with ending ms links =
      page_text tool_name ending (map name_of files) (map characters_of files) ms links

  pub shows_page : manner.format ≡ Html → (first_lines : List ℕ) → first_lines ≡ lines_of files
      → (shown : List ShownLink)
      → AreLinksIn first_lines found.program (table_of found.table) shown
      → (ending : List ℕ) → ending ≡ ending_text manner files (warnings_in found.warnings)
      → (ms : List Message) → ms ≡ messages → (links : List ShownLink) → links ≡ shown
      → out ≡ page_with ending ms links → Shows manner files found out
  shows_page is first_lines lines shown linked ending ending_is ms ms_are links links_are printed =
      let last = ending_text manner files (warnings_in found.warnings) in
      let links_is = links_are ∙ linked.2
      ∙ ap (λ (firsts : List ℕ). map (link_in firsts) linked.0) lines in
      shows_as Html is (
        linked.0,
        linked.1,
        printed ∙ ap (λ (e : List ℕ). page_with e ms links) ending_is
            ∙ ap (λ (ns : List Message). page_with last ns links) ms_are
            ∙ ap (page_with last messages) links_is,
      )

  pub shows_sarif : manner.format ≡ Sarif
      → (ending : List ℕ) → ending ≡ ending_text manner files (warnings_in found.warnings)
      → (ms : List Message) → ms ≡ messages → out ≡ sarif_about files ms true ending
      → Shows manner files found out
  shows_sarif is ending ending_is ms ms_are printed =
      let last = ending_text manner files (warnings_in found.warnings) in
      shows_as Sarif is (
      printed ∙ ap (λ (e : List ℕ). sarif_about files ms true e) ending_is
      ∙ ap (λ (ns : List Message). sarif_about files ns true last) ms_are
      )
