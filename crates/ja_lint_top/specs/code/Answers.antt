-- What the answers inside the crate say.
use Rattle.std.specs.Prelude.{◌≡◌, ◌≤◌, ℕ, List, filter, length, map, not, slice_get, Some}
use Rattle.std.specs.List.{AllByRecursion}
use Rattle.std.specs.Str.{IsUtf8}
use Rattle.std.specs.Str.Lossy.{utf8_valid_len}
use Rattle.ja_files.specs.declared.file.File.{File}
use Rattle.ja_files.specs.Files.{bytes_of}
use Rattle.ja_graph.specs.declared.program.Program.{Program}
use Rattle.ja_grammar.specs.declared.fault.ParseFault.{ParseFault}
use Rattle.ja_lex.specs.Spots.{max_bytes}
use Rattle.ja_load.specs.Loading.{IsNone}
use Rattle.ja_rows.specs.declared.table.Warning.{Warning}
use Rattle.ja_rows.specs.Table.{Table}
use Rattle.ja_table.specs.Tables.{table_of}
use Rattle.ja_warn.specs.Told.{warnings_in}
use Rattle.ja_show.specs.declared.message.Link.{Link as ShownLink}
use Rattle.ja_show.specs.declared.message.Message.{Message}
use Rattle.ja_top.specs.declared.finding.Findings.{Findings}
use Rattle.ja_lint_top.specs.Calls.{AreLinks}
use Rattle.ja_lint_top.specs.Ending.{is_counted}
use Rattle.ja_lint_top.specs.Lint.{ending_text, link_in, IsShown}
use Rattle.ja_lint_top.specs.Replies.{Reply}
use Rattle.ja_lint_top.specs.Telling.{AreTold}
use Rattle.ja_lint_top.specs.declared.asking.Manner.{Manner}
use Rattle.ja_lint_top.specs.declared.links.Link.{Link}
use Rattle.ja_lint_top.specs.declared.reading.NoTexts.{NoTexts}
use Rattle.ja_lint_top.specs.declared.reading.NoTexts.TheVariants.{At, Memory as NoMemory}
use Rattle.ja_lint_top.specs.declared.reply.Reply.{Reply as Kept}

-- what is kept of a reply
abbrev pub reply_of : Kept → Reply
reply_of r = record { status = r.status; out = r.out.items; line = r.line.items }

-- the links of a table, as they are shown
abbrev pub AreLinksIn : List ℕ → Program → Table → List ShownLink → Type 0
AreLinksIn first_lines p t shown =
    (links : List Link) × AreLinks p t links × (shown ≡ map (link_in first_lines) links)

-- each file has no more bytes than a text may have
abbrev pub AreWithin : List File → Type 0
AreWithin files = AllByRecursion (λ (file : File). length (bytes_of file) ≤ max_bytes) files

-- a file is no program by itself
abbrev pub IsRefusedAlone : List File → ℕ → ParseFault → Type 0
IsRefusedAlone files number why =
    (file : File) × (slice_get files number ≡ Some file) × IsNone (bytes_of file) why

-- the bytes of a file of this name are no text, from this one on
abbrev pub IsNoText : List (List ℕ) → List (List ℕ) → NoTexts → Type 0
IsNoText names contents NoMemory = Unit {0}
IsNoText names contents (At name offset) =
    (number : ℕ) × (bytes : List ℕ) × (slice_get names number ≡ Some name.now)
    × (slice_get contents number ≡ Some bytes) × (IsUtf8 bytes → ⊥)
    × (offset ≡ utf8_valid_len bytes)

-- what is shown of what was found of files
pub record Shows (manner : Manner) (files : List File) (found : Findings) (out : List ℕ)
    : Type 0 where
  pub messages : List Message
  pub told : AreTold files found.program (table_of found.table)
      (filter (λ (w : Warning). not (is_counted manner.rows w)) (warnings_in found.warnings))
      messages
  pub shown : IsShown manner.format files found.program (table_of found.table) messages
      (ending_text manner files (warnings_in found.warnings)) out
