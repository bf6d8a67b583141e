use Rattle.std.proofs.Common.{◌∙◌, ap, sym, subst, ℕ, List, length, arith}
use Rattle.std.specs.Prelude.{IsTrue, nat_lt}
use Rattle.std.specs.List.{AllByRecursion}
use Rattle.std.proofs.lemmas.List.Elements.{All-from_recursion}
use Rattle.ja_base.proofs.Lists.{empty_by_length}
use Rattle.ja_aheap.specs.declared.writes.Write.{Write}
use Rattle.ja_aheap.specs.KeysBelow.{is_key_below}
use Rattle.ja_aheap.specs.Heap.{heap_of}
use Rattle.ja_astate.specs.State.{state_of}
use Rattle.ja_cert_parts.specs.declared.listed.PropertyAt.{PropertyAt}
use Rattle.ja_cert_read.specs.code.Building.{with_properties, IsPlaced}
use Rattle.ja_cert_read.proofs.Setting.{but_last, keys_placed, left_placed, one_shape, properties_turn}
use Rattle.ja_cert_read.proofs.objects.set_each.Goals as goal

pub write_object-requires-clause-label : goal.write_object-requires-clause-label
write_object-requires-clause-label c =
    let h = heap_of c.args.state.now.heap in
    let own = but_last (IsPlaced h.sites h.names) c.loop-last.heap.items c.pop.new.self.items
    c.in-Some.last c.in-Some.ensures.items c.loop-last.invariant.placed in
    subst (λ (n : ℕ). IsTrue (nat_lt c.in-Some.last.label.site.0 n))
    c.loop-last.invariant.shape.sites own.1.label

pub write_object-requires-clause-keys : goal.write_object-requires-clause-keys
write_object-requires-clause-keys c =
    let h = heap_of c.args.state.now.heap in
    let writes = c.in_ok-writes.writes.list.items in
    let HasKey : ℕ → Write → Type 0 = λ n w. IsTrue (is_key_below n w.key) in
    All-from_recursion (HasKey (heap_of c.loop-last.state.heap).names) writes
    (subst (λ (n : ℕ). AllByRecursion (HasKey n) writes) c.loop-last.invariant.shape.names
    (keys_placed h.sites h.names _ _ _ writes c.in_ok-writes.ensures
    (subst (AllByRecursion (IsPlaced h.sites h.names)) c.in-Some.ensures.items
    c.loop-last.invariant.placed)))

pub loop-last-preserved : goal.loop-last-preserved
loop-last-preserved c =
    let h = heap_of c.args.state.now.heap in
    record {
      state =
          properties_turn _ _ _ _ (state_of c.loop-last.state) (state_of c.write_object.new.state)
          c.in_ok-writes.ensures c.in_ok-write_object.ensures.state
          ∙ ap (λ (xs : List PropertyAt). with_properties xs (state_of c.loop-last.state))
          (sym c.in-Some.ensures.items)
          ∙ c.loop-last.invariant.state;
      shape = one_shape _ _ _ c.loop-last.invariant.shape c.in_ok-write_object.ensures.shape;
      placed =
          left_placed h.sites h.names _ _ _ _ c.in_ok-writes.ensures
          (subst (AllByRecursion (IsPlaced h.sites h.names)) c.in-Some.ensures.items
          c.loop-last.invariant.placed);
    }

pub loop-last-smaller : goal.loop-last-smaller
loop-last-smaller c =
    omega (
      arith,
      c.in_ok-writes.ensures.shorter,
      ap length c.in-Some.ensures.items,
      c.loop-last.heap.ok.0,
      c.take_object.new.heap.ok.0,
    )

pub returns-clause-state : goal.returns-clause-state
returns-clause-state c =
    ap (λ (xs : List PropertyAt). with_properties xs (state_of c.loop-last.state))
    (sym (empty_by_length c.loop-last.heap.items (omega (arith, c.in_default.ensures.cases.0))))
    ∙ c.loop-last.invariant.state
