-- States of one shape, and the labels and keys of the program in their heaps.
use Rattle.std.proofs.Common.{List, [], ◌∷◌, map, refl, sym, subst, ◌∙◌, nat_lt}
use Rattle.std.specs.Prelude.{IsTrue}
use Rattle.std.specs.List.{All, AllByRecursion}
use Rattle.std.proofs.lemmas.List.Elements.{All-from_recursion}
use Rattle.ja_base.specs.declared.ids.Label.{Label}
use Rattle.ja_graph.specs.declared.program.Program.{Program}
use Rattle.ja_abstract.specs.declared.abstraction.Key.{Key}
use Rattle.ja_abstract.specs.declared.abstraction.Key.TheVariants as key
use Rattle.ja_abstract.specs.AbstractState.{is_label, is_key}
use Rattle.ja_abstract.specs.InProgram.{AreAtKeys}
use Rattle.ja_aheap.specs.declared.writes.Write.{Write}
use Rattle.ja_aheap.specs.Heap.{HeapMap, heap_of, IsHeapOf, has_label, has_key}
use Rattle.ja_aheap.specs.Objects.{write_of}
use Rattle.ja_astate.specs.declared.state.AState.{AState}
use Rattle.ja_astate.specs.State.{HaveOneShape}

-- ---- shapes

pub one_shape_after : (a b c : AState) → HaveOneShape a b → HaveOneShape b c → HaveOneShape a c
one_shape_after a b c first second =
    record {
      sites = first.sites ∙ second.sites;
      names = first.names ∙ second.names;
      registers = first.registers ∙ second.registers;
    }

-- a state like one of a program is one of that program
pub heap_alike : (p : Program) (a b : AState) → IsHeapOf p (heap_of a.heap) → HaveOneShape a b
    → IsHeapOf p (heap_of b.heap)
heap_alike p a b of alike =
    record { sites = sym alike.sites ∙ of.sites; names = sym alike.names ∙ of.names }

-- ---- labels and keys

module _ (p : Program) (h : HeapMap) (of : IsHeapOf p h) where
  pub label_of_heap : (l : Label) → IsTrue (is_label p l) → IsTrue (has_label h l)
  label_of_heap l within = subst (λ n. IsTrue (nat_lt l.site.0 n)) (sym of.sites) within

  key_of_heap : (k : Key) → IsTrue (is_key p k) → IsTrue (has_key h k)
  key_of_heap (key.Name n) within = subst (λ m. IsTrue (nat_lt n.0 m)) (sym of.names) within
  key_of_heap key.OtherIndex within = refl
  key_of_heap key.OtherName within = refl
  key_of_heap (key.Slot s) within = refl

  pub writes_of_heap : (ws : List Write) → AreAtKeys p (map write_of ws)
      → All (λ (w : Write). IsTrue (has_key h w.key)) ws
  writes_of_heap ws are =
      All-from_recursion (λ (w : Write). IsTrue (has_key h w.key)) ws (by ws are)
    where
      by : (ws : List Write) → AreAtKeys p (map write_of ws)
          → AllByRecursion (λ (w : Write). IsTrue (has_key h w.key)) ws
      by [] are = tt
      by (w ∷ ws) are = (key_of_heap w.key are.0, by ws are.1)
