-- What is told where a node or a context is read, one member after another.
use Rattle.std.specs.Prelude.{◌≡◌, List, [], ◌∷◌, length, is_some, Option, Some, None}
use lib.Chars.{codes}
use Rattle.serde_json.specs.Data.{Data}
use Rattle.ja_base.specs.declared.ids.FnId.{FnId}
use Rattle.ja_graph.specs.declared.program.Program.{Program}
use Rattle.ja_graph.specs.Program.{nodes_of}
use Rattle.ja_cert_parts.specs.declared.fault.Fault.{Fault}
use Rattle.ja_cert.specs.Wrong.{Path, context_fields_wrong, context_keys, context_number, context_wrong, entry_wrong, first_of, function_in, here_unless, is_above, is_below, is_function, is_label, list_wrong, mask_wrong, members_of, point_fields_wrong, point_keys, point_number, point_wrong, property_wrong, register_wrong, under}
use Rattle.ja_cert_parts.specs.code.Reading.{Tells}
use Rattle.ja_cert_read.proofs.Told.{all_right, right_found, tells_after, tells_found, tells_missing}

-- ---- a node

pub point_told_keys : (p : Program) (f : FnId) (before : List Data) (d : Data) (e : Fault)
    → Tells (here_unless (is_some (members_of point_keys d))) e → Tells (point_wrong p f before d) e
unfolding point_wrong
point_told_keys p f before d e told =
    tells_missing (members_of point_keys d)
    (point_fields_wrong p f (is_above point_number before d)) e told

module _ (p : Program) (f : FnId) (before : List Data) (d : Data)
    {masks heap node registers : Data}
    (found : members_of point_keys d ≡ Some (masks ∷ heap ∷ node ∷ registers ∷ [])) where
  abbrev number_wrong : Option Path
  number_wrong = under (codes "node") (here_unless (is_below (length (nodes_of p f)) node))

  abbrev order_wrong : Option Path
  order_wrong = here_unless (is_above point_number before d)

  abbrev registers_wrong : Option Path
  registers_wrong = under (codes "registers") (list_wrong (register_wrong p f) registers)

  abbrev heap_wrong : Option Path
  heap_wrong = under (codes "heap") (list_wrong (property_wrong p) heap)

  abbrev masks_wrong : Option Path
  masks_wrong = under (codes "alloc") (list_wrong (mask_wrong p) masks)

  by_fields : (e : Fault) → Tells (first_of (number_wrong ∷ order_wrong ∷ registers_wrong
      ∷ heap_wrong ∷ masks_wrong ∷ [])) e → Tells (point_wrong p f before d) e
  unfolding point_wrong
  by_fields e told =
      tells_found (members_of point_keys d) (masks ∷ heap ∷ node ∷ registers ∷ [])
      (point_fields_wrong p f (is_above point_number before d)) e found told

  pub point_told_number : (e : Fault) → Tells number_wrong e → Tells (point_wrong p f before d) e
  point_told_number e told = by_fields e (tells_after [] number_wrong
      (order_wrong ∷ registers_wrong ∷ heap_wrong ∷ masks_wrong ∷ []) e tt told)

  pub point_told_order : (e : Fault) → number_wrong ≡ None → Tells order_wrong e
      → Tells (point_wrong p f before d) e
  point_told_order e a told = by_fields e (tells_after (number_wrong ∷ []) order_wrong
      (registers_wrong ∷ heap_wrong ∷ masks_wrong ∷ []) e (a, tt) told)

  pub point_told_registers : (e : Fault) → number_wrong ≡ None → order_wrong ≡ None
      → Tells registers_wrong e → Tells (point_wrong p f before d) e
  point_told_registers e a b told = by_fields e (tells_after (number_wrong ∷ order_wrong ∷ [])
      registers_wrong (heap_wrong ∷ masks_wrong ∷ []) e (a, (b, tt)) told)

  pub point_told_heap : (e : Fault) → number_wrong ≡ None → order_wrong ≡ None
      → registers_wrong ≡ None → Tells heap_wrong e → Tells (point_wrong p f before d) e
  point_told_heap e a b c told = by_fields e (tells_after
      (number_wrong ∷ order_wrong ∷ registers_wrong ∷ []) heap_wrong (masks_wrong ∷ []) e
      (a, (b, (c, tt))) told)

  pub point_told_masks : (e : Fault) → number_wrong ≡ None → order_wrong ≡ None
      → registers_wrong ≡ None → heap_wrong ≡ None → Tells masks_wrong e
      → Tells (point_wrong p f before d) e
  point_told_masks e a b c h told = by_fields e (tells_after
      (number_wrong ∷ order_wrong ∷ registers_wrong ∷ heap_wrong ∷ []) masks_wrong [] e
      (a, (b, (c, (h, tt)))) told)

  pub point_right : number_wrong ≡ None → order_wrong ≡ None → registers_wrong ≡ None
      → heap_wrong ≡ None → masks_wrong ≡ None → point_wrong p f before d ≡ None
  unfolding point_wrong
  point_right a b c h m =
      right_found (members_of point_keys d) (masks ∷ heap ∷ node ∷ registers ∷ [])
      (point_fields_wrong p f (is_above point_number before d)) found
      (all_right (number_wrong ∷ order_wrong ∷ registers_wrong ∷ heap_wrong ∷ masks_wrong ∷ [])
      (a, (b, (c, (h, (m, tt))))))

-- ---- a context

pub context_told_keys : (p : Program) (before : List Data) (d : Data) (e : Fault)
    → Tells (here_unless (is_some (members_of context_keys d))) e
    → Tells (context_wrong p before d) e
unfolding context_wrong
context_told_keys p before d e told =
    tells_missing (members_of context_keys d)
    (context_fields_wrong p (is_above context_number before d)) e told

module _ (p : Program) (before : List Data) (d : Data)
    {entries function points receiver : Data}
    (found : members_of context_keys d ≡ Some (entries ∷ function ∷ points ∷ receiver ∷ [])) where
  abbrev function_wrong : Option Path
  function_wrong = under (codes "function") (here_unless (is_function p function))

  abbrev receiver_wrong : Option Path
  receiver_wrong = under (codes "receiver") (here_unless (is_label p receiver))

  abbrev place_wrong : Option Path
  place_wrong = here_unless (is_above context_number before d)

  abbrev entries_wrong : Option Path
  entries_wrong = under (codes "entries") (list_wrong (entry_wrong p) entries)

  abbrev points_wrong : Option Path
  points_wrong = under (codes "points") (list_wrong (point_wrong p (function_in function)) points)

  by_members : (e : Fault) → Tells (first_of (function_wrong ∷ receiver_wrong ∷ place_wrong
      ∷ entries_wrong ∷ points_wrong ∷ [])) e → Tells (context_wrong p before d) e
  unfolding context_wrong
  by_members e told =
      tells_found (members_of context_keys d) (entries ∷ function ∷ points ∷ receiver ∷ [])
      (context_fields_wrong p (is_above context_number before d)) e found told

  pub context_told_function : (e : Fault) → Tells function_wrong e
      → Tells (context_wrong p before d) e
  context_told_function e told = by_members e (tells_after [] function_wrong
      (receiver_wrong ∷ place_wrong ∷ entries_wrong ∷ points_wrong ∷ []) e tt told)

  pub context_told_receiver : (e : Fault) → function_wrong ≡ None → Tells receiver_wrong e
      → Tells (context_wrong p before d) e
  context_told_receiver e a told = by_members e (tells_after (function_wrong ∷ []) receiver_wrong
      (place_wrong ∷ entries_wrong ∷ points_wrong ∷ []) e (a, tt) told)

  pub context_told_order : (e : Fault) → function_wrong ≡ None → receiver_wrong ≡ None
      → Tells place_wrong e → Tells (context_wrong p before d) e
  context_told_order e a b told = by_members e (tells_after (function_wrong ∷ receiver_wrong ∷ [])
      place_wrong (entries_wrong ∷ points_wrong ∷ []) e (a, (b, tt)) told)

  pub context_told_entries : (e : Fault) → function_wrong ≡ None → receiver_wrong ≡ None
      → place_wrong ≡ None → Tells entries_wrong e → Tells (context_wrong p before d) e
  context_told_entries e a b c told = by_members e (tells_after
      (function_wrong ∷ receiver_wrong ∷ place_wrong ∷ []) entries_wrong (points_wrong ∷ []) e
      (a, (b, (c, tt))) told)

  pub context_told_points : (e : Fault) → function_wrong ≡ None → receiver_wrong ≡ None
      → place_wrong ≡ None → entries_wrong ≡ None → Tells points_wrong e
      → Tells (context_wrong p before d) e
  context_told_points e a b c h told = by_members e (tells_after
      (function_wrong ∷ receiver_wrong ∷ place_wrong ∷ entries_wrong ∷ []) points_wrong [] e
      (a, (b, (c, (h, tt)))) told)

  pub context_right : function_wrong ≡ None → receiver_wrong ≡ None → place_wrong ≡ None
      → entries_wrong ≡ None → points_wrong ≡ None → context_wrong p before d ≡ None
  unfolding context_wrong
  context_right a b c h m =
      right_found (members_of context_keys d) (entries ∷ function ∷ points ∷ receiver ∷ [])
      (context_fields_wrong p (is_above context_number before d)) found
      (all_right (function_wrong ∷ receiver_wrong ∷ place_wrong ∷ entries_wrong ∷ points_wrong ∷ [])
      (a, (b, (c, (h, (m, tt))))))
