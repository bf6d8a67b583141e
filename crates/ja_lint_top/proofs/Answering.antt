-- What the answers to words and files come to.
use Rattle.std.specs.Prelude.{◌≡◌, if◌then◌else◌, List, []}
use Rattle.std.specs.List.{AllByRecursion}
use Rattle.std.proofs.Common.{inl, inr}
use Rattle.ja_base.specs.Streams.{Rose, Keeps, AppendsFront}
use Rattle.ja_files.specs.declared.file.File.{File}
use Rattle.ja_lint_words.specs.Words.{Word}
use Rattle.ja_prim.specs.declared.signature.Signature.{Signature}
use Rattle.ja_table.specs.Tables.{table_of}
use Rattle.ja_top.specs.Answers.{Written}
use Rattle.ja_top.specs.Findings.{Finds}
use Rattle.ja_top.specs.Statuses.{has_fault}
use Rattle.ja_top.specs.declared.finding.Findings.{Findings}
use Rattle.ja_warn.specs.Told.{warnings_in}
use Rattle.ja_lint_top.specs.Lint.{output_words, HasCause, IsAnswered, Lints}
use Rattle.ja_lint_top.specs.Reading.{Held}
use Rattle.ja_lint_top.specs.Refusals.{memory_words, text_of, IsAlone}
use Rattle.ja_lint_top.specs.Replies.{Reply, told_line, IsLineTold, IsWhole}
use Rattle.ja_lint_top.specs.code.Answers.{Shows}
use Rattle.ja_lint_top.specs.declared.asking.Manner.{Manner}
use Rattle.ja_lint_top.specs.declared.reply.Status.{Status}
use Rattle.ja_lint_top.specs.declared.reply.Status.TheVariants.{Clean, Faulty, Unfinished}

-- ---- what is found

module _ (manner : Manner) (signatures : List Signature) (files : List File) (found : Findings)
    (r : Reply) where
  -- what is shown of what was found of files is their answer
  pub lints : AllByRecursion IsAlone files → Finds (text_of files) signatures found
      → Shows manner files found r.out
      → r.status ≡ (if has_fault (warnings_in found.warnings) then Faulty else Clean)
      → r.line ≡ [] → Lints manner signatures files r
  lints alone finds shows status line = record {
    alone = alone;
    program = found.program;
    program_is = finds.0;
    table = table_of found.table;
    visits = found.visits;
    warnings = warnings_in found.warnings;
    messages = shows.messages;
    told = shows.told;
    shown = shows.shown;
    status = status;
    line = line;
    built = finds.1.built;
    few = finds.1.few;
    sound = finds.1.sound;
  }

-- ---- what is written

module _ (words : List Word) (held : Held) (output errors : Written) (status : Status) where
  pub answered : (r : Reply) → HasCause words held r → IsWhole output r.out
      → IsLineTold errors r.line → status ≡ r.status → IsAnswered words held output errors status
  answered r cause whole told is = inl (r, cause, inl (whole, told, is))

  pub begun : (r : Reply) → HasCause words held r → Rose output.faults output.faults_after
      → AppendsFront output.written output.written_after r.out
      → IsLineTold errors (told_line output_words) → status ≡ Unfinished
      → IsAnswered words held output errors status
  begun r cause rose front told is = inl (r, cause, inr (rose, front, told, is))

  pub refused : Keeps output.written output.written_after
      → Keeps output.finished output.finished_after → IsLineTold errors (told_line memory_words)
      → status ≡ Unfinished → IsAnswered words held output errors status
  refused keeps stays told is = inr (keeps, stays, told, is)
