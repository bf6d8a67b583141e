use Rattle.std.proofs.Common.{◌≡◌, ◌≤◌, length, subst}
use Rattle.ja_top.specs.declared.status.Status.{Status}
use Rattle.ja_top.specs.Analyses.{IsAnalysed, Reports}
use Rattle.ja_top.specs.code.Statuses.{status_of}
use Rattle.ja_top.proofs.Reporting.{reports}
use Rattle.ja_top.proofs.analysis.report_of.Goals as goal

pub returns : goal.returns
returns c =
    let p = c.args.program.now in
    let ws = c.in_ok-warnings.warnings in
    let text = c.in_ok-text.text.items in
    let whole : IsAnalysed c.args.request p text ws = record {
      formed = c.requires.program;
      table = c.args.solved.now.table;
      fits = c.requires.solved.fits;
      visits = c.args.solved.now.visits;
      printed = cc (c.in_ok-text.ensures, c.as_slice.ensures);
      built = c.requires.solved.built;
      few =
          subst (λ n. length c.args.solved.now.visits ≤ n) c.requires.budget
          c.requires.solved.few;
      sound = record {
        closed = c.requires.solved.closed;
        exact = c.in_ok-warnings.ensures.warnings;
        covers = c.requires.solved.covers;
        warned = c.in_ok-warnings.ensures.faults c.requires.solved.closed;
        goes_on = c.never_stuck.ensures p c.requires.program;
      };
    } in
    let same : status_of ws ≡ c.judged-status.result =
    cc (c.judged-status.ensures, c.as_slice-2.ensures) in
    let R : Status → Type 0 = λ s. Reports c.args.request p s text in
    subst R same (reports c.args.request p text ws whole)
