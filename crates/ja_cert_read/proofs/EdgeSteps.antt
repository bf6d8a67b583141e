-- What is told where an edge is read, one number after another.
use Rattle.std.specs.Prelude.{◌≡◌, ◌&&◌, Bool, false, List, [], ◌∷◌, length, map, is_some, Option, Some, None}
use Rattle.std.specs.Option.{option_map_or}
use Rattle.std.proofs.Common.{refl, sym, ap, ◌∙◌, arith}
use Rattle.serde_json.specs.Data.{Data}
use Rattle.ja_base.specs.declared.ids.FnId.{FnId}
use Rattle.ja_graph.specs.declared.node.NodeInfo.{NodeInfo}
use Rattle.ja_graph.specs.declared.program.Program.{Program}
use Rattle.ja_graph.specs.Program.{node_at, nodes_of}
use Rattle.ja_rows.specs.declared.table.Edge.{Edge}
use Rattle.ja_table.specs.declared.table.CallEdge.{CallEdge}
use Rattle.ja_cert_read.specs.declared.contexts.ContextAt.{ContextAt}
use Rattle.ja_cert_parts.specs.declared.fault.Fault.{Fault}
use Rattle.ja_cert.specs.Certificate.{edge_data, label_data, listed, whole}
use Rattle.ja_cert.specs.Wrong.{Path, are_listed, at, calls, edge_number, edge_numbers_wrong, edge_shape_wrong, edge_wrong, first_of, here, here_unless, is_above, is_below, is_calling, is_function, is_label, is_listed, is_node, list_of}
use Rattle.ja_cert_read.specs.code.Contexts.{is_among, is_between, listed_data}
use Rattle.ja_cert_read.specs.code.Orders.{call_edge_rank, comes_behind, context_rank, edge_rank}
use Rattle.ja_cert_parts.specs.code.Reading.{Tells}
use Rattle.ja_cert_read.specs.code.Whole.{call_edge_data}
use Rattle.ja_cert_read.proofs.ContextsRight.{function_is}
use Rattle.ja_cert_read.proofs.EdgesRight.{listed_among}
use Rattle.ja_cert_read.proofs.Orders.{above_behind}
use Rattle.ja_cert_read.proofs.Told.{all_right, right_found, tells_after, tells_found, tells_missing, tells_same}

-- ---- the five numbers

pub edge_told_list : (p : Program) (d : Data) (e : Fault)
    → Tells (here_unless (is_some (list_of d))) e → Tells (edge_shape_wrong p d) e
unfolding edge_shape_wrong
edge_told_list p d e told = tells_missing (list_of d) (edge_numbers_wrong p) e told

other_count : (p : Program) (ds : List Data) → (length ds ≡ 5 → ⊥) → edge_numbers_wrong p ds ≡ here
other_count p [] other = refl
other_count p (f ∷ []) other = refl
other_count p (f ∷ r ∷ []) other = refl
other_count p (f ∷ r ∷ n ∷ []) other = refl
other_count p (f ∷ r ∷ n ∷ g ∷ []) other = refl
other_count p (f ∷ r ∷ n ∷ g ∷ q ∷ []) other = absurd (other (omega arith))
other_count p (f ∷ r ∷ n ∷ g ∷ q ∷ x ∷ ds) other = refl

pub edge_told_count : (p : Program) (d : Data) (ds : List Data) (e : Fault) → list_of d ≡ Some ds
    → (length ds ≡ 5 → ⊥) → Tells here e → Tells (edge_shape_wrong p d) e
unfolding edge_shape_wrong
edge_told_count p d ds e found other told =
    tells_found (list_of d) ds (edge_numbers_wrong p) e found
    (tells_same _ here e (other_count p ds other) told)

module _ (p : Program) (d : Data) {f r n g q : Data}
    (found : list_of d ≡ Some (f ∷ r ∷ n ∷ g ∷ q ∷ [])) where
  abbrev caller_wrong : Option Path
  caller_wrong = at 0 (here_unless (is_function p f))

  abbrev receiver_wrong : Option Path
  receiver_wrong = at 1 (here_unless (is_label p r))

  abbrev node_wrong : Option Path
  node_wrong = at 2 (here_unless (is_node p f n))

  abbrev callee_wrong : Option Path
  callee_wrong = at 3 (here_unless (is_function p g))

  abbrev entered_wrong : Option Path
  entered_wrong = at 4 (here_unless (is_label p q))

  by_numbers : (e : Fault) → Tells (first_of (caller_wrong ∷ receiver_wrong ∷ node_wrong
      ∷ callee_wrong ∷ entered_wrong ∷ [])) e → Tells (edge_shape_wrong p d) e
  unfolding edge_shape_wrong
  by_numbers e told =
      tells_found (list_of d) (f ∷ r ∷ n ∷ g ∷ q ∷ []) (edge_numbers_wrong p) e found told

  pub edge_told_caller : (e : Fault) → Tells caller_wrong e → Tells (edge_shape_wrong p d) e
  edge_told_caller e told = by_numbers e (tells_after [] caller_wrong
      (receiver_wrong ∷ node_wrong ∷ callee_wrong ∷ entered_wrong ∷ []) e tt told)

  pub edge_told_receiver : (e : Fault) → caller_wrong ≡ None → Tells receiver_wrong e
      → Tells (edge_shape_wrong p d) e
  edge_told_receiver e a told = by_numbers e (tells_after (caller_wrong ∷ []) receiver_wrong
      (node_wrong ∷ callee_wrong ∷ entered_wrong ∷ []) e (a, tt) told)

  pub edge_told_node : (e : Fault) → caller_wrong ≡ None → receiver_wrong ≡ None
      → Tells node_wrong e → Tells (edge_shape_wrong p d) e
  edge_told_node e a b told = by_numbers e (tells_after (caller_wrong ∷ receiver_wrong ∷ [])
      node_wrong (callee_wrong ∷ entered_wrong ∷ []) e (a, (b, tt)) told)

  pub edge_told_callee : (e : Fault) → caller_wrong ≡ None → receiver_wrong ≡ None
      → node_wrong ≡ None → Tells callee_wrong e → Tells (edge_shape_wrong p d) e
  edge_told_callee e a b c told = by_numbers e (tells_after
      (caller_wrong ∷ receiver_wrong ∷ node_wrong ∷ []) callee_wrong (entered_wrong ∷ []) e
      (a, (b, (c, tt))) told)

  pub edge_told_entered : (e : Fault) → caller_wrong ≡ None → receiver_wrong ≡ None
      → node_wrong ≡ None → callee_wrong ≡ None → Tells entered_wrong e
      → Tells (edge_shape_wrong p d) e
  edge_told_entered e a b c h told = by_numbers e (tells_after
      (caller_wrong ∷ receiver_wrong ∷ node_wrong ∷ callee_wrong ∷ []) entered_wrong [] e
      (a, (b, (c, (h, tt)))) told)

  pub edge_right : caller_wrong ≡ None → receiver_wrong ≡ None → node_wrong ≡ None
      → callee_wrong ≡ None → entered_wrong ≡ None → edge_shape_wrong p d ≡ None
  unfolding edge_shape_wrong
  edge_right a b c h m =
      right_found (list_of d) (f ∷ r ∷ n ∷ g ∷ q ∷ []) (edge_numbers_wrong p) found
      (all_right (caller_wrong ∷ receiver_wrong ∷ node_wrong ∷ callee_wrong ∷ entered_wrong ∷ [])
      (a, (b, (c, (h, (m, tt))))))

-- a node of the function whose number stands at another place
pub node_of : (p : Program) (d n : Data) (f : FnId) → whole f.0 ≡ d
    → is_below (length (nodes_of p f)) n ≡ is_node p d n
node_of p d n f is =
    ap (λ (h : FnId). is_below (length (nodes_of p h)) n) (sym (function_is d f is))

pub edge_written : (e : Edge) (d f r n g q : Data)
    → listed (f ∷ r ∷ n ∷ g ∷ q ∷ []) ≡ d → whole e.caller.function.0 ≡ f
    → label_data e.caller.receiver ≡ r → whole e.node.0 ≡ n → whole e.callee.function.0 ≡ g
    → label_data e.callee.receiver ≡ q → edge_data e ≡ d
unfolding edge_data
edge_written e d f r n g q is a b c h m = rw (a, b, c, h, m) is

-- ---- an edge behind others, between contexts

pub above_edges : (before : List CallEdge) (d : Data) (e : Edge) → edge_data e ≡ d
    → is_above edge_number (map call_edge_data before) d
    ≡ comes_behind call_edge_rank before (edge_rank e)
unfolding edge_data
above_edges before d e is =
    above_behind call_edge_data edge_number call_edge_rank (λ x. refl) before d (edge_rank e)
    (ap edge_number (sym is))

module _ (p : Program) (contexts before : List Data) (d : Data) where
  abbrev behind_wrong : Option Path
  behind_wrong = here_unless (is_above edge_number before d)

  abbrev ends_wrong : Option Path
  ends_wrong = here_unless (are_listed contexts d && is_calling p d)

  pub told_shape : (e : Fault) → Tells (edge_shape_wrong p d) e
      → Tells (edge_wrong p contexts before d) e
  unfolding edge_wrong
  told_shape e told =
      tells_after [] (edge_shape_wrong p d) (behind_wrong ∷ ends_wrong ∷ []) e tt told

  pub told_behind : (e : Fault) → edge_shape_wrong p d ≡ None → Tells behind_wrong e
      → Tells (edge_wrong p contexts before d) e
  unfolding edge_wrong
  told_behind e a told =
      tells_after (edge_shape_wrong p d ∷ []) behind_wrong (ends_wrong ∷ []) e (a, tt) told

  pub told_ends : (e : Fault) → edge_shape_wrong p d ≡ None → behind_wrong ≡ None
      → Tells ends_wrong e → Tells (edge_wrong p contexts before d) e
  unfolding edge_wrong
  told_ends e a b told =
      tells_after (edge_shape_wrong p d ∷ behind_wrong ∷ []) ends_wrong [] e (a, (b, tt)) told

  pub call_edge_right : edge_shape_wrong p d ≡ None → behind_wrong ≡ None → ends_wrong ≡ None
      → edge_wrong p contexts before d ≡ None
  unfolding edge_wrong
  call_edge_right a b c =
      all_right (edge_shape_wrong p d ∷ behind_wrong ∷ ends_wrong ∷ []) (a, (b, (c, tt)))

-- whether an edge leads between contexts that are listed, from a call
pub leads_between : (p : Program) (xs : List ContextAt) (d : Data) (e : Edge) → edge_data e ≡ d
    → is_between p xs e ≡ (are_listed (map (listed_data p) xs) d && is_calling p d)
unfolding edge_data
leads_between p xs d e is =
    let cs = map (listed_data p) xs in
    let calling : Bool = option_map_or (λ (i : NodeInfo). calls i.node)
    (node_at p e.caller.function e.node) false in
    ap (λ (t : Bool). (t && is_among xs e.callee) && calling)
    (sym (listed_among p xs (context_rank e.caller)))
    ∙ ap (λ (t : Bool). (is_listed cs (context_rank e.caller) && t) && calling)
    (sym (listed_among p xs (context_rank e.callee)))
    ∙ ap (λ (x : Data). are_listed cs x && is_calling p x) is
