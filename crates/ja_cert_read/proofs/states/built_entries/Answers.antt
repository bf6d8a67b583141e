use Rattle.std.proofs.Common.{◌∙◌, ap, sym, List, arith}
use Rattle.ja_base.proofs.Lists.{empty_by_length}
use Rattle.ja_aheap.specs.Entries.{entries_of}
use Rattle.ja_cert_parts.specs.declared.listed.EntryAt.{EntryAt}
use Rattle.ja_cert_read.specs.code.Building.{entries_with}
use Rattle.ja_cert_read.proofs.Setting.{entries_turn}
use Rattle.ja_cert_read.proofs.states.built_entries.Goals as goal

pub loop-listed-preserved : goal.loop-listed-preserved
loop-listed-preserved c =
    entries_turn c.loop-listed.entries.items c.pop.new.self.items c.in-Some.listed
    (entries_of c.loop-listed.demanded) (entries_of c.set.new.self) c.in-Some.ensures.items
    c.in_ok-set.ensures.set ∙ c.loop-listed.invariant

pub returns : goal.returns
returns c =
    ap (λ (xs : List EntryAt). entries_with xs (entries_of c.loop-listed.demanded))
    (sym (empty_by_length c.loop-listed.entries.items
    (omega (arith, c.in_default.ensures.cases.0))))
    ∙ c.loop-listed.invariant
    ∙ ap (entries_with c.args.entries.items) c.new-demanded.ensures
