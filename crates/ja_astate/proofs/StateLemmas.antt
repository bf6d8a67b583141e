-- States by their registers and heaps.
use Rattle.std.proofs.Common.{◌≡◌, ◌&&◌, ℕ, List, Bool, true, false, length, nat_lt, refl, ap, sym, ◌∙◌}
use Rattle.ja_base.specs.declared.ids.Label.{Label}
use Rattle.ja_graph.specs.declared.program.Program.{Program}
use Rattle.ja_abstract.specs.AbstractValue.{same_label}
use Rattle.ja_abstract.specs.AbstractState.{AbstractState, is_label}
use Rattle.ja_abstract.proofs.Labels.{same_label-true}
use Rattle.ja_value.specs.declared.value.AValue.{AValue}
use Rattle.ja_aheap.specs.Heap.{HeapMap}
use Rattle.ja_astate.specs.State.{register_in}

-- the state of some registers and a heap
abbrev pub state_with : List AValue → HeapMap → AbstractState
state_with values h =
    record { register = register_in values; property = h.property; mask = h.mask }

-- a label that is one of a program
pub target_label : (p : Program) (sites : ℕ) (label m : Label) → sites ≡ length p.sites
    → nat_lt label.site.0 sites ≡ true → same_label label m ≡ (is_label p m && same_label label m)
target_label p sites label m is among = pick (same_label label m) refl
  where
    pick : (b : Bool) → same_label label m ≡ b → b ≡ (is_label p m && b)
    pick true same =
        let within : is_label p m ≡ true = ap (is_label p) (sym (same_label-true label m same))
        ∙ ap (nat_lt label.site.0) (sym is) ∙ among in
        sym (ap (λ (b : Bool). b && true) within)
    pick false other = no_both (is_label p m)
      where
        no_both : (b : Bool) → false ≡ (b && false)
        no_both true = refl
        no_both false = refl
