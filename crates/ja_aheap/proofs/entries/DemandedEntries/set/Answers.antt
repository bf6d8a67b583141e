use Rattle.std.proofs.Common.{Option, Some}
use Rattle.ja_abstract.specs.AbstractState.{label_number, key_number}
use Rattle.ja_abstract.specs.AbstractValue.{AbstractProperty}
use Rattle.ja_value.specs.Value.{property_of}
use Rattle.ja_aheap.proofs.MapLemmas.{ok_from, err_from}
use Rattle.ja_aheap.proofs.EntryLemmas.{Exchanged, exchanged_whole, exchanged_kept}
use Rattle.ja_aheap.proofs.entries.DemandedEntries.set.Goals as goal

pub returns-clause-set : goal.returns-clause-set
returns-clause-set c =
    let h : Exchanged c.args.self.now.objects c.take_out.new.objects c.exchange.new.map
    c.in_ok-properties.properties c.set_key-set.new.properties
    c.label_number-number.result = record {
      taken = c.in_ok-properties.ensures.taken;
      out = c.in_ok-properties.ensures.others;
      back = c.exchange.ensures.placed;
    } in
    ok_from c.set_key-set.result
    (λ done step.
    let each = exchanged_whole (λ (o : Option AbstractProperty). Some (property_of c.args.property))
    c.args.self.now.objects c.take_out.new.objects c.exchange.new.map
    c.in_ok-properties.properties c.set_key-set.new.properties c.label_number-number.result
    c.key_number.result c.args.label c.args.key h step c.label_number-number.ensures
    c.key_number.ensures in
    λ i l k. (each l k) i)
    c.set_key-set.ensures.set

pub returns-clause-kept : goal.returns-clause-kept
returns-clause-kept c =
    let h : Exchanged c.args.self.now.objects c.take_out.new.objects c.exchange.new.map
    c.in_ok-properties.properties c.set_key-set.new.properties
    c.label_number-number.result = record {
      taken = c.in_ok-properties.ensures.taken;
      out = c.in_ok-properties.ensures.others;
      back = c.exchange.ensures.placed;
    } in
    err_from c.set_key-set.result
    (λ same.
    let each = exchanged_kept c.args.self.now.objects c.take_out.new.objects c.exchange.new.map
    c.in_ok-properties.properties c.set_key-set.new.properties c.label_number-number.result h
    same in
    λ i l k. (each (label_number l) (key_number k)) i)
    c.set_key-set.ensures.kept
