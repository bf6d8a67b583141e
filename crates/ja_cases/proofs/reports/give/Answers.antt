use Rattle.ja_value.specs.Value.{property_of}
use Rattle.ja_aheap.specs.Entries.{entries_of}
use Rattle.ja_table.specs.Tables.{FitsContext}
use Rattle.ja_cases.proofs.Giving.{given_keys, given_labels, on_ok}
use Rattle.ja_cases.proofs.reports.give.Goals as goal

pub returns-clause-fits : goal.returns-clause-fits
returns-clause-fits c =
    on_ok _ (FitsContext c.args.program.now (record {
      context = c.args.own.now.context;
      nodes = c.args.own.now.nodes;
      entries = c.set.new.self;
    })) c.set.result
    (λ _ e. record {
      context = c.requires.fits.context;
      nodes = c.requires.fits.nodes;
      states = c.requires.fits.states;
      labels =
          given_labels c.args.program.now (entries_of c.args.own.now.entries)
          (entries_of c.set.new.self) c.args.label c.args.key (property_of c.args.property)
          c.requires.label c.requires.fits.labels e;
      keys =
          given_keys c.args.program.now (entries_of c.args.own.now.entries)
          (entries_of c.set.new.self) c.args.label c.args.key (property_of c.args.property)
          c.requires.key c.requires.fits.keys e;
    })
    c.set.ensures.set
