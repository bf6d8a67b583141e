-- What is written of a table as JSON is read as what it was, and is UTF-8.
use Rattle.std.proofs.Common.{◌≡◌, ◌<◌, ◌*◌, ◌^◌, ℕ, suc, Bool, true, false, not, ◌&&◌, cond, List, [], ◌∷◌, ◌++◌, map, length, Option, Some, None, refl, sym, subst, arith}
use Rattle.std.specs.Prelude.{IsTrue}
use Rattle.std.specs.List.{AllByRecursion, range_with_len}
use Rattle.std.specs.Option.{option_map_or}
use Rattle.std.proofs.lemmas.Bool.{ltb-true}
use lib.Chars.{codes}
use Rattle.json.proofs.Printed.Utf8.{are_ascii, IsUtf8-are_ascii}
use Rattle.serde_json.specs.Data.{string}
use Rattle.ja_base.proofs.Lists.{all_append, all_weaker}
use Rattle.ja_base.specs.declared.ids.Context.{Context}
use Rattle.ja_base.specs.declared.ids.FnId.{FnId}
use Rattle.ja_base.specs.declared.ids.Label.{Label}
use Rattle.ja_prim.specs.declared.signature.Signature.{Signature}
use Rattle.ja_graph.specs.declared.program.Program.{Program}
use Rattle.ja_graph.specs.Program.{nodes_of}
use Rattle.ja_machine.specs.Frames.{parameters_of, registers_of}
use Rattle.ja_abstract.specs.declared.abstraction.Key.{Key}
use Rattle.ja_abstract.specs.declared.abstraction.Key.TheVariants as key
use Rattle.ja_abstract.specs.declared.abstraction.Mask.{Mask}
use Rattle.ja_abstract.specs.declared.abstraction.Slot.TheVariants as slot
use Rattle.ja_abstract.specs.AbstractValue.{AbstractValue, AbstractProperty}
use Rattle.ja_abstract.specs.AbstractState.{AbstractState, is_key, is_label, keys_of, label_number, labels_of, site_of}
use Rattle.ja_abstract.specs.Resolved.{Entries}
use Rattle.ja_aheap.specs.Entries.{entries_of}
use Rattle.ja_aheap.proofs.UpdateLemmas.{label_within}
use Rattle.ja_rows.specs.declared.table.Edge.{Edge}
use Rattle.ja_rows.specs.declared.table.Item.{Item}
use Rattle.ja_rows.specs.declared.table.Item.TheVariants.{Open, Step, Fill, Back}
use Rattle.ja_rows.specs.Table.{node_numbers}
use Rattle.ja_table.specs.Tables.{states_in, IsContext}
use Rattle.ja_table.specs.declared.table.CallEdge.{CallEdge}
use Rattle.ja_table.specs.declared.table.ContextTable.{ContextTable}
use Rattle.ja_table.proofs.Ascending.{from_filter, from_range, of_each}
use Rattle.ja_device.specs.Signatures.{is_fit}
use Rattle.ja_report.specs.Lines as lines
use Rattle.ja_report.specs.Lines.{alloc, entry, entry_lines, is_undefined, mask_line, mask_lines, mask_text, property, property_line, property_lines, register, register_line, register_lines}
use Rattle.ja_report.specs.Report.{kind_parts}
use Rattle.ja_report.specs.Texts.{attrs_text, value_labels}
use Rattle.ja_cert.specs.Certificate.{context_data, device_data, edge_data, flag_words, item_data, key_data, label_data, line_data, lines_data, listed, number_words, points_data, state_data, text_words, value_data, whole}
use Rattle.ja_cert_laws.specs.Back.{IsEdgeOf, IsItemOf}
use Rattle.ja_cert_read.specs.code.Contexts.{own_data}
use Rattle.ja_cert_laws.proofs.Climbing.{all_given}
use Rattle.ja_cert_laws.proofs.Contexts.{at_node, node_data, nodes_data}
use Rattle.ja_cert_laws.proofs.Lines.{deeper, five_items, four_back, four_items, list_back, one_item, two_items, string_back, whole_back, IsReadBack}
use Rattle.ja_cert_laws.proofs.Properties.{at_entry, at_mask, at_property, entries_are, entry_data, mask_data, masks_are, properties_are, property_data}
use Rattle.ja_cert_laws.proofs.Registers.{at_register, register_data, registers_are}
use Rattle.ja_cert_laws.proofs.RightStates.{labels_and_keys}
use Rattle.ja_cert_laws.proofs.Spelt.{attrs_spelt, kinds_spelt, mask_spelt, name_spelt, value_spelt, AreSpelt}
use Rattle.ja_cert_read.proofs.Listing.{pairs}
use Rattle.ja_cert_read.proofs.Pairs.{labels_are}

-- the numbers of a program fit 64 bits
pub record IsFew (p : Program) : Type 0 where
  pub functions : length p.functions < 2 ^ 63
  pub nodes : (f : FnId) → length (nodes_of p f) < 2 ^ 63
  pub registers : (f : FnId) → registers_of p f < 2 ^ 63
  pub sites : length p.sites < 2 ^ 62
  pub names : length p.names < 2 ^ 63

-- ---- values

strings_back : (n : ℕ) (ws : List (List ℕ)) → AreSpelt ws
    → AllByRecursion (IsReadBack n) (map string ws)
strings_back n [] spelt = tt
strings_back n (w ∷ ws) spelt = (string_back n w spelt.0, strings_back n ws spelt.1)

-- a word of a certificate
word_back : (n : ℕ) (w : List ℕ) → are_ascii w ≡ true → IsReadBack n (string w)
word_back n w ascii = string_back n w (IsUtf8-are_ascii w ascii)

module _ (p : Program) (few : IsFew p) where
  label_back : (n : ℕ) (l : Label) → IsTrue (is_label p l) → IsReadBack n (label_data l)
  label_back n l h =
      let within : label_number l < 2 * length p.sites =
      label_within l (length p.sites) (2 * length p.sites) h refl in
      whole_back n (label_number l) (omega (arith, within, few.sites))

  labels_back : (n : ℕ) (ls : List Label)
      → AllByRecursion (λ (l : Label). IsTrue (is_label p l)) ls
      → AllByRecursion (IsReadBack n) (map label_data ls)
  labels_back n [] all = tt
  labels_back n (l ∷ ls) all = (label_back n l all.0, labels_back n ls all.1)

  value_back : (v : AbstractValue) → IsReadBack 1 (value_data p v)
  unfolding value_data
  value_back v =
      list_back 0 _ (all_append (IsReadBack 0)
      (map string (flag_words v.flags ++ number_words v.number ++ text_words v.text))
      (map label_data (value_labels p v)) (strings_back 0 _ (value_spelt v))
      (labels_back 0 (value_labels p v) (of_each _ (value_labels p v) (λ l m.
      labels_are p l (from_filter v.label l (labels_of p) m).0))))

  -- ---- what is listed of a context

  key_back : (n : ℕ) (k : Key) → IsTrue (is_key p k) → IsReadBack n (key_data k)
  key_back n (key.Name m) h =
      whole_back n m.0 (omega (arith, ltb-true m.0 (length p.names) h, few.names))
  key_back n key.OtherIndex h = word_back n (codes "index") refl
  key_back n key.OtherName h = word_back n (codes "other") refl
  key_back n (key.Slot slot.Prototype) h = word_back n (codes "prototype") refl
  key_back n (key.Slot slot.Outer) h = word_back n (codes "outer") refl
  key_back n (key.Slot slot.Scope) h = word_back n (codes "scope") refl
  key_back n (key.Slot slot.Value) h = word_back n (codes "value") refl

  owned_back : (l : Label) (k : Key) (q : AbstractProperty) → IsTrue (is_label p l)
      → IsTrue (is_key p k) → IsReadBack 2 (line_data p (property l k q))
  unfolding line_data
  owned_back l k q label key =
      four_items 1 _ _ _ _ (label_back 1 l label) (key_back 1 k key) (value_back q.value)
      (string_back 1 (attrs_text k q.attrs) (attrs_spelt k q.attrs))

  registers_back : (f : FnId) (a : AbstractState)
      → IsReadBack 3 (lines_data p (register_lines p f a))
  unfolding at_register register_data register_line line_data
  registers_back f a =
      let places : List ℕ = range_with_len 0 (registers_of p f) in
      list_back 2 _ (subst (AllByRecursion (IsReadBack 2)) (sym (registers_are p f a))
      (all_given (IsReadBack 2) (at_register p f a) places (of_each _ places (λ r m.
      let range = from_range 0 (registers_of p f) r m in
      by_test r (omega (arith, range.1)) (is_undefined p (a.register r))))))
    where
      by_test : (r : ℕ) → r < registers_of p f → (b : Bool) → AllByRecursion (IsReadBack 2)
          (map (line_data p) (cond b [] (register (parameters_of p f) r (a.register r) ∷ [])))
      by_test r within true = tt
      by_test r within false = (
        two_items 1 _ _ (whole_back 1 r (omega (arith, within, few.registers f)))
            (value_back (a.register r)),
        tt,
      )

  properties_back : (a : AbstractState) → IsReadBack 3 (lines_data p (property_lines p a))
  unfolding at_property property_data property_line
  properties_back a =
      let places : List (Label × Key) = pairs (labels_of p) (keys_of p) in
      list_back 2 _ (subst (AllByRecursion (IsReadBack 2)) (sym (properties_are p a))
      (all_given (IsReadBack 2) (at_property p a) places
      (all_weaker (λ (x : Label × Key). IsTrue (is_label p x.0) × IsTrue (is_key p x.1)) _
      (λ x h. by_test x.0 x.1 h.0 h.1 (lines.is_entry p (a.property x.0 x.1))) places
      (labels_and_keys p))))
    where
      by_test : (l : Label) (k : Key) → IsTrue (is_label p l) → IsTrue (is_key p k) → (b : Bool)
          → AllByRecursion (IsReadBack 2)
          (map (line_data p) (cond b [] (property l k (a.property l k) ∷ [])))
      by_test l k label key true = tt
      by_test l k label key false = (owned_back l k (a.property l k) label key, tt)

  entries_back : (e : Entries) → IsReadBack 3 (lines_data p (entry_lines p e))
  unfolding at_entry entry_data line_data
  entries_back e =
      let places : List (Label × Key) = pairs (labels_of p) (keys_of p) in
      list_back 2 _ (subst (AllByRecursion (IsReadBack 2)) (sym (entries_are p e))
      (all_given (IsReadBack 2) (at_entry p e) places
      (all_weaker (λ (x : Label × Key). IsTrue (is_label p x.0) × IsTrue (is_key p x.1)) _
      (λ x h. by_value x.0 x.1 h.0 h.1 (e x.0 x.1)) places (labels_and_keys p))))
    where
      by_value : (l : Label) (k : Key) → IsTrue (is_label p l) → IsTrue (is_key p k)
          → (o : Option AbstractProperty) → AllByRecursion (IsReadBack 2) (map (line_data p)
          (option_map_or (λ (q : AbstractProperty). entry l k q ∷ []) o []))
      by_value l k label key None = tt
      by_value l k label key (Some q) = (owned_back l k q label key, tt)

  masks_back : (a : AbstractState) → IsReadBack 3 (lines_data p (mask_lines p a))
  unfolding at_mask mask_data mask_line line_data
  masks_back a =
      let places : List ℕ = range_with_len 0 (length p.sites) in
      list_back 2 _ (subst (AllByRecursion (IsReadBack 2)) (sym (masks_are p a))
      (all_given (IsReadBack 2) (at_mask p a) places (of_each _ places (λ s m.
      let range = from_range 0 (length p.sites) s m in
      by_test s (omega (arith, range.1)) (a.mask s) ((a.mask s).none && not (a.mask s).some)))))
    where
      by_test : (s : ℕ) → s < length p.sites → (m : Mask) (b : Bool)
          → AllByRecursion (IsReadBack 2) (map (line_data p) (cond b [] (alloc (site_of s) m ∷ [])))
      by_test s within m true = tt
      by_test s within m false = (
        two_items 1 _ _ (whole_back 1 s (omega (arith, within, few.sites)))
            (string_back 1 (mask_text m) (mask_spelt m)),
        tt,
      )

  -- ---- nodes and contexts

  state_back : (f : FnId) (n : ℕ) (a : AbstractState) → n < length (nodes_of p f)
      → IsReadBack 4 (state_data p f n a)
  unfolding state_data
  state_back f n a within =
      four_back 3 (codes "alloc") _ (codes "heap") _ (codes "node") _ (codes "registers") _ refl
      refl (masks_back a) (properties_back a) (whole_back 3 n (omega (arith, within, few.nodes f)))
      (registers_back f a)

  nodes_back : (f : FnId) (c : ContextTable) → IsReadBack 5 (nodes_data p f c)
  unfolding node_data
  nodes_back f c =
      let places : List ℕ = node_numbers p f in
      list_back 4 _ (all_given (IsReadBack 4) (at_node p f c) places (of_each _ places (λ n m.
      let range = from_range 0 (length (nodes_of p f)) n m in
      by_state n (omega (arith, range.1)) (states_in c.nodes.items n))))
    where
      by_state : (n : ℕ) → n < length (nodes_of p f) → (o : Option AbstractState)
          → AllByRecursion (IsReadBack 4)
          (option_map_or (λ (a : AbstractState). state_data p f n a ∷ []) o [])
      by_state n within None = tt
      by_state n within (Some a) = (state_back f n a within, tt)

  context_back : (c : ContextTable) → IsContext p c.context → IsReadBack 6 (own_data p c)
  unfolding own_data context_data points_data
  context_back c h =
      let f : FnId = c.context.function in
      four_back 5 (codes "entries") _ (codes "function") _ (codes "points") _ (codes "receiver") _
      refl refl (deeper 3 5 _ (omega arith) (entries_back (entries_of c.entries)))
      (whole_back 5 f.0 (omega (arith, h.function, few.functions))) (nodes_back f c)
      (label_back 5 c.context.receiver h.receiver)

  pub contexts_back : (cs : List ContextTable)
      → AllByRecursion (λ (c : ContextTable). IsContext p c.context) cs
      → IsReadBack 7 (listed (map (own_data p) cs))
  contexts_back cs all = list_back 6 _ (each cs all)
    where
      each : (cs : List ContextTable)
          → AllByRecursion (λ (c : ContextTable). IsContext p c.context) cs
          → AllByRecursion (IsReadBack 6) (map (own_data p) cs)
      each [] all = tt
      each (c ∷ cs) all = (context_back c all.0, each cs all.1)

  -- ---- edges and visits

  edge_back : (n : ℕ) (e : Edge) → IsEdgeOf p e → IsReadBack (suc n) (edge_data e)
  unfolding edge_data
  edge_back n e h =
      let function : (x : Context) → IsContext p x → IsReadBack n (whole x.function.0) =
      λ x is. whole_back n x.function.0 (omega (arith, is.function, few.functions)) in
      five_items n _ _ _ _ _ (function e.caller h.from.context)
      (label_back n e.caller.receiver h.from.context.receiver)
      (whole_back n e.node.0 (omega (arith, h.from.node, few.nodes e.caller.function)))
      (function e.callee h.callee) (label_back n e.callee.receiver h.callee.receiver)

  pub kept_edges_back : (es : List CallEdge)
      → AllByRecursion (λ (d : CallEdge). IsEdgeOf p d.edge) es
      → IsReadBack 7 (listed (map (λ (d : CallEdge). edge_data d.edge) es))
  kept_edges_back es all = list_back 6 _ (each es all)
    where
      each : (es : List CallEdge) → AllByRecursion (λ (d : CallEdge). IsEdgeOf p d.edge) es
          → AllByRecursion (IsReadBack 6) (map (λ (d : CallEdge). edge_data d.edge) es)
      each [] all = tt
      each (e ∷ es) all = (edge_back 5 e.edge all.0, each es all.1)

  item_back : (i : Item) → IsItemOf p i → IsReadBack 6 (item_data i)
  unfolding item_data
  item_back Open h = one_item 5 _ (word_back 5 (codes "open") refl)
  item_back (Step x n) h =
      four_items 5 _ _ _ _ (word_back 5 (codes "step") refl)
      (whole_back 5 x.function.0 (omega (arith, h.context.function, few.functions)))
      (label_back 5 x.receiver h.context.receiver)
      (whole_back 5 n.0 (omega (arith, h.node, few.nodes x.function)))
  item_back (Fill e) h = two_items 5 _ _ (word_back 5 (codes "fill") refl) (edge_back 4 e h)
  item_back (Back e) h = two_items 5 _ _ (word_back 5 (codes "back") refl) (edge_back 4 e h)

  pub items_back : (items : List Item) → AllByRecursion (IsItemOf p) items
      → IsReadBack 7 (listed (map item_data items))
  items_back items all = list_back 6 _ (each items all)
    where
      each : (items : List Item) → AllByRecursion (IsItemOf p) items
          → AllByRecursion (IsReadBack 6) (map item_data items)
      each [] all = tt
      each (i ∷ items) all = (item_back i all.0, each items all.1)

-- ---- devices

device_back : (s : Signature) → is_fit s ≡ true → IsReadBack 6 (device_data s)
unfolding device_data
device_back s fit =
    two_items 5 _ _ (string_back 5 s.name (name_spelt s fit))
    (list_back 4 _ (strings_back 4 (kind_parts s.kinds) (kinds_spelt s.kinds)))

pub devices_back : (ss : List Signature) → AllByRecursion (λ (s : Signature). is_fit s ≡ true) ss
    → IsReadBack 7 (listed (map device_data ss))
devices_back ss fit = list_back 6 _ (each ss fit)
  where
    each : (ss : List Signature) → AllByRecursion (λ (s : Signature). is_fit s ≡ true) ss
        → AllByRecursion (IsReadBack 6) (map device_data ss)
    each [] fit = tt
    each (s ∷ ss) fit = (device_back s fit.0, each ss fit.1)
