-- What the abstract reading says of a row that is read, and of a read that has nothing else.
use Rattle.std.specs.Prelude.{◌≡◌, ℕ, true, false, IsTrue, List, Option, Some, None, unwrap_or}
use Rattle.std.specs.Option.{option_map}
use Rattle.std.proofs.Common.{refl, ap, arith}
use Rattle.std.proofs.lemmas.Bool.{or_left, or_right, and_parts, both_ways}
use Rattle.ja_base.specs.declared.ids.Label.{Label}
use Rattle.ja_prim.specs.declared.primitive.Num.TheVariants.{NaN, Whole}
use Rattle.ja_prim.specs.declared.primitive.Primitive.TheVariants as primitive
use Rattle.ja_graph.specs.declared.attrs.Attrs.{Attrs}
use Rattle.ja_graph.specs.declared.program.Program.{Program}
use Rattle.ja_machine.specs.declared.machine.Addr.{Addr}
use Rattle.ja_machine.specs.declared.machine.Content.{Content}
use Rattle.ja_machine.specs.declared.machine.Content.TheVariants as contents
use Rattle.ja_machine.specs.declared.machine.Heap.{Heap}
use Rattle.ja_machine.specs.declared.machine.Property.{Property}
use Rattle.ja_machine.specs.declared.machine.Value.{Value}
use Rattle.ja_machine.specs.declared.machine.Value.TheVariants as value
use Rattle.ja_machine.specs.Frames.{undefined}
use Rattle.ja_machine.specs.Heap as heap
use Rattle.ja_machine.specs.Nodes.{read}
use Rattle.ja_machine.specs.State.{IsContentOf, IsObjectOf}
use Rattle.ja_machine.proofs.Reading.{content_found}
use Rattle.ja_abstract.specs.declared.abstraction.Key.{Key}
use Rattle.ja_abstract.specs.AbstractState.{labels_of}
use Rattle.ja_abstract.specs.AbstractValue.{Labels, AbstractValue, AbstractProperty, has_part}
use Rattle.ja_abstract.specs.Contents.{content_of, label_of, property_content}
use Rattle.ja_abstract.specs.Keys.{key_of, named, is_among_keys}
use Rattle.ja_abstract.specs.Reading.{View, get, demands_of_get}
use Rattle.ja_abstract.specs.Resolved.{IsFilled}
use Rattle.ja_meaning.specs.Meaning.{has_value, knows}
use Rattle.ja_meaning.proofs.Gets.{get_known}
use Rattle.ja_meaning.proofs.Moments.{Reads}
use Rattle.ja_meaning.proofs.Parts.{has_part-has_value}
use Rattle.ja_rows.specs.Warning.{has_row, has_non_row}

-- a value without its row
abbrev pub rowless : AbstractValue → AbstractValue
rowless v = record v { flags = record v.flags { row = false } }

rowless_has : (h : Heap) (v : AbstractValue) (u : Value) → IsTrue (has_value h v u)
    → IsTrue (has_value h (rowless v) u)
rowless_has h v (value.Primitive primitive.Undefined) told = told
rowless_has h v (value.Primitive primitive.Null) told = told
rowless_has h v (value.Primitive (primitive.Bool true)) told = told
rowless_has h v (value.Primitive (primitive.Bool false)) told = told
rowless_has h v (value.Primitive (primitive.Number NaN)) told = told
rowless_has h v (value.Primitive (primitive.Number (Whole n))) told = told
rowless_has h v (value.Primitive (primitive.Text t)) told = told
rowless_has h v (value.Object a) told = told

absent_part : (labels : List Label) (v : AbstractValue) → IsTrue v.flags.absent
    → IsTrue (has_part labels v)
absent_part labels v h = grind (arith, h, or_left, or_right)

abbrev found_content : Option Property → Content
found_content g = unwrap_or (option_map (λ (r : Property). r.content) g) (contents.Value undefined)

row_content : (h : Heap) (q : AbstractProperty) (y : Content) (attrs : Attrs)
    → IsTrue (knows h q (content_of y attrs)) → y ≡ contents.Row → IsTrue q.value.flags.row
row_content h q (contents.Value v) attrs known is = cc
row_content h q contents.Row attrs known is = (and_parts _ _ known).0

row_found : (h : Heap) (q : AbstractProperty) (g : Option Property)
    → IsTrue (knows h q (property_content g)) → found_content g ≡ contents.Row
    → IsTrue q.value.flags.row
row_found h q None known is = cc
row_found h q (Some r) known is = row_content h q r.content r.attrs known is

module _ (e c : Heap) (w : View) (r : Reads e c w) where
  abbrev p : Program
  p = w.program

  only_content : (q : AbstractProperty) → has_part (labels_of p) (rowless q.value) ≡ false
      → (y : Content) (attrs : Attrs) → IsContentOf c y → IsTrue (knows c q (content_of y attrs))
      → y ≡ contents.Row
  only_content q none (contents.Value v) attrs there known =
      absurd (both_ways (has_part (labels_of p) (rowless q.value)) none
      (has_part-has_value p c r.heap_now (rowless q.value) v there
      (rowless_has c q.value v (and_parts _ _ known).0)))
  only_content q none contents.Row attrs there known = refl

  module _ (start : Labels) (keys : List Key) (filled : IsFilled w.entries
      (demands_of_get w start keys)) (t : List ℕ)
      (among : IsTrue (is_among_keys keys (key_of p (named t)))) (a : Addr)
      (there : IsObjectOf c a) (started : IsTrue (start (label_of c a))) where
    known : IsTrue (knows c (get w start keys) (property_content (heap.get c a t)))
    known = get_known e c w r start keys filled t among a there started

    -- a row that is read is one that the abstract reading has
    pub row_told : read c a t ≡ contents.Row → IsTrue (has_row w start keys)
    row_told is = row_found c (get w start keys) (heap.get c a t) known is

    only_found : has_non_row w start keys ≡ false → (g : Option Property) → heap.get c a t ≡ g
        → IsTrue (knows c (get w start keys) (property_content g)) → found_content g ≡ contents.Row
    only_found none None is known_ =
        absurd (both_ways (has_non_row w start keys) none
        (absent_part (labels_of p) (rowless (get w start keys).value) known_))
    only_found none (Some q) is known_ =
        only_content (get w start keys) none q.content q.attrs
        (content_found p c r.heap_now a t q.content
        (ap (option_map (λ (x : Property). x.content)) is)) known_

    -- where the abstract reading has nothing else, a row is read
    pub row_is : has_non_row w start keys ≡ false → read c a t ≡ contents.Row
    row_is none = only_found none (heap.get c a t) refl known
