-- A state that is kept says nothing of what neither its function nor its program has.
use Rattle.std.proofs.Common.{◌≡◌, ◌≤◌, Bool, true, false, ◌&&◌, cond, length, Option, None, Some, refl, ap, ◌∙◌, arith}
use Rattle.std.specs.Prelude.{slice_get}
use Rattle.std.specs.Option.{option_map_or}
use Rattle.std.proofs.lemmas.Bool.{ltb-false}
use Rattle.std.proofs.lemmas.Option.{slice_get_past}
use Rattle.ja_base.specs.declared.ids.FnId.{FnId}
use Rattle.ja_base.specs.declared.ids.Label.{Label}
use Rattle.ja_graph.specs.declared.program.Program.{Program}
use Rattle.ja_machine.specs.Frames.{registers_of}
use Rattle.ja_abstract.specs.declared.abstraction.Key.{Key}
use Rattle.ja_abstract.specs.AbstractValue.{entry_property}
use Rattle.ja_abstract.specs.AbstractState.{is_key, is_label, label_number}
use Rattle.ja_aheap.specs.KeysBelow.{at_keys_below}
use Rattle.ja_aheap.specs.Objects.{object_of}
use Rattle.ja_aheap.specs.declared.object.AObject.{AObject}
use Rattle.ja_aheap.proofs.UpdateLemmas.{number_beyond}
use Rattle.ja_astate.specs.State.{state_of, IsStateOf}
use Rattle.ja_astate.specs.declared.state.AState.{AState}
use Rattle.ja_astate.proofs.MadeLemmas.{same_keys}
use Rattle.ja_astate.proofs.RegisterLemmas.{register_past}
use Rattle.ja_cert_laws.proofs.States.{IsOfFunction}

module _ (p : Program) (f : FnId) (s : AState) (kept : IsStateOf p (registers_of p f) s) where
  other_label : (l : Label) (k : Key) → length p.sites ≤ l.site.0
      → (state_of s).property l k ≡ entry_property
  other_label l k past =
      let sites : s.heap.sites ≡ length p.sites = kept.heap.sites in
      ap (λ (o : Option AObject). option_map_or (λ (x : AObject).
      at_keys_below s.heap.names (object_of x) k) o entry_property)
      (slice_get_past s.heap.objects (label_number l)
      (number_beyond l s.heap.sites (length s.heap.objects) (omega (arith, sites, past))
      s.heap.placed))

  other_key : (l : Label) (k : Key) → is_key p k ≡ false
      → (state_of s).property l k ≡ entry_property
  other_key l k past = by_object (slice_get s.heap.objects (label_number l))
    where
      by_object : (o : Option AObject) → option_map_or (λ (x : AObject).
          at_keys_below s.heap.names (object_of x) k) o entry_property ≡ entry_property
      by_object None = refl
      by_object (Some x) =
          ap (λ b. cond b (object_of x k) entry_property)
          (same_keys p s.heap.names kept.heap.names k ∙ past)

  property_is : (l : Label) (k : Key) (b : Bool) → is_label p l ≡ b
      → (b && is_key p k) ≡ false → (state_of s).property l k ≡ entry_property
  property_is l k true there past = other_key l k past
  property_is l k false there past =
      other_label l k (ltb-false l.site.0 (length p.sites) there)

  pub kept_of_function : IsOfFunction p f (state_of s)
  kept_of_function = record {
    registers = λ r past. register_past s.registers.items r
        (omega (arith, past, kept.registers, s.registers.ok.0));
    in_program = record {
      properties = λ l k past. property_is l k (is_label p l) refl past;
      masks = λ t past. s.heap.counted t (omega (arith, past, kept.heap.sites));
    };
  }
