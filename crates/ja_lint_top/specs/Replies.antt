-- What a call comes to, and how it is written.
use Rattle.std.specs.Prelude.{◌≡◌, ◌⊎◌, ℕ, true, List, [], ◌++◌}
use lib.Chars.{codes}
use Rattle.ja_base.specs.Streams.{Rose, Appends, AppendsFront, TurnsTo}
use Rattle.ja_show.specs.Messages.{tool_name}
use Rattle.ja_top.specs.Answers.{Written}
use Rattle.ja_lint_top.specs.declared.reply.Status.{Status}
use Rattle.ja_lint_top.specs.declared.reply.Status.TheVariants.{Clean, Faulty, Unfinished}

-- ---- replies

-- the exit status of a process
abbrev pub code_of : Status → ℕ
code_of Clean = 0
code_of Faulty = 1
code_of Unfinished = 2

-- what a call comes to: what goes to the output, and what goes to standard error
pub record Reply : Type 0 where
  pub status : Status
  pub out : List ℕ
  pub line : List ℕ

abbrev pub told_line : List ℕ → List ℕ
told_line words = tool_name ++ codes ": " ++ words ++ codes "\n"

-- a text that was asked for
abbrev pub Says : List ℕ → Reply → Type 0
Says text r = (r.status ≡ Clean) × (r.out ≡ text) × (r.line ≡ [])

-- no answer, but why
abbrev pub Fails : List ℕ → Reply → Type 0
Fails words r = (r.status ≡ Unfinished) × (r.out ≡ []) × (r.line ≡ told_line words)

-- ---- how they are written

-- a line to standard error, as far as it takes it
abbrev pub IsLineTold : Written → List ℕ → Type 0
IsLineTold w line =
    Appends w.written w.written_after line
    ⊎ (Rose w.faults w.faults_after × AppendsFront w.written w.written_after line)

abbrev pub IsWhole : Written → List ℕ → Type 0
IsWhole w out = Appends w.written w.written_after out × TurnsTo w.finished w.finished_after true
