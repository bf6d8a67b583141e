use Rattle.std.proofs.Common.{◌≡◌}
use Rattle.ja_table.specs.Tables.{table_of}
use Rattle.ja_top.specs.code.Statuses.{status_of}
use Rattle.ja_top.proofs.checking.accept.Goals as goal

pub returns : goal.returns
returns c =
    let p = c.args.program.now in
    let t = table_of c.args.table.now in
    let ws = c.in_ok-warnings.warnings in
    let same : c.judged-status.result ≡ status_of ws =
    cc (c.judged-status.ensures, c.as_slice-2.ensures) in (
      ws,
      same,
      record {
        built = c.in_ok-is_built.is_built;
        built_is = c.in_ok-is_built.ensures;
        printed = cc (c.in_ok-text.ensures, c.as_slice.ensures);
        sound = record {
          closed = c.requires.closed;
          exact = c.in_ok-warnings.ensures.warnings;
          covers = c.closed_covers.ensures p t c.requires.program c.requires.closed;
          warned = c.in_ok-warnings.ensures.faults c.requires.closed;
          goes_on = c.never_stuck.ensures p c.requires.program;
        };
      },
    )
