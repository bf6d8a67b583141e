use Rattle.std.specs.Prelude.{refl}
use Rattle.ja_top.proofs.finding.findings_of.Goals as goal

pub returns : goal.returns
returns c =
    let solved = c.requires.solved in record {
      program = refl;
      formed = c.requires.program;
      fits = solved.fits;
      built = solved.built;
      few = solved.few;
      values = c.in_ok-warnings.ensures.values;
      names = c.in_ok-warnings.ensures.names;
      sound = record {
        closed = solved.closed;
        exact = c.in_ok-warnings.ensures.warnings;
        covers = solved.covers;
        warned = c.in_ok-warnings.ensures.faults solved.closed;
        goes_on = c.never_stuck.ensures c.args.program c.requires.program;
      };
    }
