use Rattle.std.proofs.Common.{Option, Some, unwrap_or}
use Rattle.ja_abstract.specs.AbstractState.{label_number, key_number}
use Rattle.ja_abstract.specs.AbstractValue.{AbstractProperty, no_property}
use Rattle.ja_aheap.proofs.MapLemmas.{ok_from, err_from}
use Rattle.ja_aheap.proofs.EntryLemmas.{Exchanged, exchanged_whole, exchanged_differs, exchanged_kept}
use Rattle.ja_aheap.proofs.entries.DemandedEntries.demand.Goals as goal

pub returns-clause-demanded : goal.returns-clause-demanded
returns-clause-demanded c =
    let h : Exchanged c.args.self.now.objects c.take_out.new.objects c.exchange.new.map
    c.in_ok-properties.properties c.demand_key-changed.new.properties
    c.label_number-number.result = record {
      taken = c.in_ok-properties.ensures.taken;
      out = c.in_ok-properties.ensures.others;
      back = c.exchange.ensures.placed;
    } in
    ok_from c.demand_key-changed.result
    (λ done step.
    let each = exchanged_whole (λ (o : Option AbstractProperty). Some (unwrap_or o no_property))
    c.args.self.now.objects c.take_out.new.objects c.exchange.new.map
    c.in_ok-properties.properties c.demand_key-changed.new.properties
    c.label_number-number.result c.key_number.result c.args.label c.args.key h step
    c.label_number-number.ensures c.key_number.ensures in
    λ i l k. (each l k) i)
    c.demand_key-changed.ensures.demanded

pub returns-clause-changed : goal.returns-clause-changed
returns-clause-changed c =
    let h : Exchanged c.args.self.now.objects c.take_out.new.objects c.exchange.new.map
    c.in_ok-properties.properties c.demand_key-changed.new.properties
    c.label_number-number.result = record {
      taken = c.in_ok-properties.ensures.taken;
      out = c.in_ok-properties.ensures.others;
      back = c.exchange.ensures.placed;
    } in
    ok_from c.demand_key-changed.result
    (λ done differs said. exchanged_differs c.args.self.now.objects c.take_out.new.objects
    c.exchange.new.map c.in_ok-properties.properties c.demand_key-changed.new.properties
    c.label_number-number.result c.key_number.result c.args.label c.args.key h
    c.label_number-number.ensures c.key_number.ensures (differs said))
    c.demand_key-changed.ensures.changed

pub returns-clause-kept : goal.returns-clause-kept
returns-clause-kept c =
    let h : Exchanged c.args.self.now.objects c.take_out.new.objects c.exchange.new.map
    c.in_ok-properties.properties c.demand_key-changed.new.properties
    c.label_number-number.result = record {
      taken = c.in_ok-properties.ensures.taken;
      out = c.in_ok-properties.ensures.others;
      back = c.exchange.ensures.placed;
    } in
    err_from c.demand_key-changed.result
    (λ same.
    let each = exchanged_kept c.args.self.now.objects c.take_out.new.objects c.exchange.new.map
    c.in_ok-properties.properties c.demand_key-changed.new.properties
    c.label_number-number.result h same in
    λ i l k. (each (label_number l) (key_number k)) i)
    c.demand_key-changed.ensures.kept
