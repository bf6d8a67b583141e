use Rattle.std.proofs.Common.{List, map, subst}
use Rattle.std.proofs.lemmas.Result.{IfOk-weaker}
use Rattle.ja_aheap.specs.declared.writes.Write.{Write}
use Rattle.ja_aheap.specs.Heap.{heap_of}
use Rattle.ja_aheap.specs.Objects.{write_of}
use Rattle.ja_cert_read.specs.code.Building.{IsWhole}
use Rattle.ja_cert_read.proofs.Wholes.{object_written}
use Rattle.ja_cert_read.proofs.objects.write_object.Goals as goal

pub returns-in_ok-made-clause-state : goal.returns-in_ok-made-clause-state
returns-in_ok-made-clause-state c =
    let h = c.args.state.now.heap in
    let ws = c.args.writes.list.items in
    let whole : IsWhole (heap_of h).names 0 (map write_of ws) =
    subst (λ n. IsWhole n 0 (map write_of ws)) c.names.ensures
    (subst (λ (xs : List Write). IsWhole c.names.result 0 (map write_of xs)) c.deref.ensures.value
    (c.is_whole.ensures c.if-is_whole.true)) in
    IfOk-weaker c.replace.result _ _ (λ u is. object_written h c.args.label ws c.in_ok-made.made
    whole c.in_ok-made.ensures c.requires.keys c.args.state.now.registers.items _ is)
    c.replace.ensures
