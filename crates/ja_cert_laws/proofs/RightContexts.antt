-- The contexts of a table are written as a certificate has them.
use Rattle.std.proofs.Common.{◌≡◌, ◌<◌, ◌*◌, ◌==◌, ℕ, List, [], ◌∷◌, map, length, Option, Some, None, refl, sym, ap, subst, ◌∙◌, inl, inr, arith}
use Rattle.std.specs.Prelude.{IfSome, IsTrue, nat_lt}
use Rattle.std.specs.List.{AllByRecursion}
use Rattle.std.proofs.lemmas.Bool.{and_parts, eqb-true, lt-ltb, ltb-true, or_cases}
use lib.Chars.{codes}
use Rattle.serde_json.specs.Data.{Data}
use Rattle.ja_base.proofs.Lists.{all_weaker}
use Rattle.ja_base.specs.declared.ids.Context.{Context}
use Rattle.ja_base.specs.declared.ids.FnId.{FnId}
use Rattle.ja_base.specs.declared.ids.Label.{Label}
use Rattle.ja_graph.specs.declared.program.Program.{Program}
use Rattle.ja_graph.specs.Program.{nodes_of}
use Rattle.ja_abstract.specs.declared.abstraction.Key.{Key}
use Rattle.ja_abstract.specs.AbstractState.{AbstractState, label_number}
use Rattle.ja_aheap.proofs.UpdateLemmas.{label_within}
use Rattle.ja_aheap.specs.Entries.{entries_of}
use Rattle.ja_rows.specs.Table.{node_numbers}
use Rattle.ja_table.specs.Order.{below_context, context_of, AreContextsOrdered}
use Rattle.ja_table.specs.Tables.{states_in, FitsContext}
use Rattle.ja_table.specs.declared.table.ContextTable.{ContextTable}
use Rattle.ja_table.proofs.Ascending.{from_range, of_each, Ascends}
use Rattle.ja_report.specs.Lines.{entry_lines, mask_lines, property_lines, register_lines}
use Rattle.ja_cert.specs.Certificate.{context_data, label_data, lines_data, listed, points_data, state_data, whole}
use Rattle.ja_cert.specs.Wrong as wrong
use Rattle.ja_cert.specs.Wrong.{context_number, context_wrong, entry_wrong, here_unless, is_above, is_below, is_function, list_wrong, mask_wrong, point_number, point_wrong, property_wrong, register_wrong, under}
use Rattle.ja_cert_laws.proofs.Sayable.{CanBeSaid, IsEntryProperty}
use Rattle.ja_cert_read.specs.code.Contexts.{own_data}
use Rattle.ja_cert_laws.proofs.Climbing.{list_right, places_climb, singles, IsOne, IsRight}
use Rattle.ja_cert_laws.proofs.Contexts.{at_node, node_data, node_placed, nodes_data}
use Rattle.ja_cert_laws.proofs.Picked.{Precedes}
use Rattle.ja_cert_laws.proofs.RightStates.{entries_right, masks_right, properties_right, registers_right}
use Rattle.ja_cert_read.proofs.Below.{IsBelow, below_first, below_second}
use Rattle.ja_cert_read.proofs.Pairs.{number_rank, numbers_ascend}
use Rattle.ja_cert_read.proofs.Told.{all_right}

-- a context of a table that can be said
pub record IsSaidContext (p : Program) (c : ContextTable) : Type 0 where
  pub fits : FitsContext p c
  pub states : (n : ℕ) → IfSome (states_in c.nodes.items n) CanBeSaid
  pub entries : (l : Label) (k : Key) → IfSome (entries_of c.entries l k) IsEntryProperty

pub some_said : {X : Type 0} (P : X → Type 0) (o : Option X) (x : X) → IfSome o P → o ≡ Some x
    → P x
some_said P o x h is = subst (λ r. IfSome r P) is h

-- ---- nodes

module _ (p : Program) (f : FnId) where
  point_right : (n : ℕ) (a : AbstractState) → n < length (nodes_of p f) → CanBeSaid a
      → IsRight (point_wrong p f) point_number (state_data p f n a)
  unfolding point_wrong state_data
  point_right n a within said before above =
      all_right (under (codes "node") (here_unless (is_below (length (nodes_of p f)) (whole n)))
      ∷ here_unless (is_above point_number before (state_data p f n a))
      ∷ under (codes "registers")
      (list_wrong (register_wrong p f) (lines_data p (register_lines p f a)))
      ∷ under (codes "heap") (list_wrong (property_wrong p) (lines_data p (property_lines p a)))
      ∷ under (codes "alloc") (list_wrong (mask_wrong p) (lines_data p (mask_lines p a))) ∷ []) (
        ap (λ b. under (codes "node") (here_unless b)) (lt-ltb n (length (nodes_of p f)) within),
        (
          ap here_unless above,
          (
            ap (under (codes "registers")) (registers_right p f a (λ r low. said.registers r)),
            (
              ap (under (codes "heap")) (properties_right p a said.properties),
              (ap (under (codes "alloc")) (masks_right p a (λ s low. said.masks s)), tt),
            ),
          ),
        ),
      )

  node_one : (n : ℕ) (o : Option AbstractState) → n < length (nodes_of p f) → IfSome o CanBeSaid
      → IsOne (point_wrong p f) point_number (node_data p f n o)
  unfolding node_data
  node_one n None within said = tt
  node_one n (Some a) within said = point_right n a within said

  nodes_right : (c : ContextTable)
      → ((n : ℕ) → IfSome (states_in c.nodes.items n) CanBeSaid)
      → list_wrong (point_wrong p f) (nodes_data p f c) ≡ None
  unfolding node_data
  nodes_right c said =
      let places : List ℕ = node_numbers p f in
      list_right (point_wrong p f) point_number _
      (places_climb (point_wrong p f) point_number number_rank (at_node p f c) places
      (numbers_ascend (length (nodes_of p f)))
      (of_each _ places (λ n m. node_placed p f n (states_in c.nodes.items n)))
      (of_each _ places (λ n m.
      let range = from_range 0 (length (nodes_of p f)) n m in
      node_one n (states_in c.nodes.items n) (omega (arith, range.1)) (said n))))

-- ---- contexts

abbrev pub rank_of : Context → List ℕ
rank_of x = x.function.0 ∷ label_number x.receiver ∷ []

pub below_from : (x y : Context) → IsTrue (below_context x y) → IsBelow (rank_of x) (rank_of y)
below_from x y h =
    elim (or_cases (nat_lt x.function.0 y.function.0) _ h) [
      | inl function ↦ below_first x.function.0 y.function.0 (label_number x.receiver ∷ [])
          (label_number y.receiver ∷ []) (ltb-true x.function.0 y.function.0 function)
      | inr both ↦
          let parts = and_parts (x.function.0 == y.function.0)
          (nat_lt (label_number x.receiver) (label_number y.receiver)) both in
          below_second x.function.0 y.function.0 (label_number x.receiver ∷ [])
          (label_number y.receiver ∷ []) (eqb-true x.function.0 y.function.0 parts.0)
          (below_first (label_number x.receiver) (label_number y.receiver) [] []
          (ltb-true (label_number x.receiver) (label_number y.receiver) parts.1))
    ]

abbrev own_rank : ContextTable → List ℕ
own_rank c = rank_of c.context

module _ (p : Program) where
  pub own_placed : (c : ContextTable) → context_number (own_data p c) ≡ own_rank c
  unfolding own_data context_data
  own_placed c = refl

  own_right : (c : ContextTable) → IsSaidContext p c
      → IsRight (context_wrong p) context_number (own_data p c)
  unfolding own_data context_data points_data context_wrong
  own_right c said before above =
      let f : FnId = c.context.function in
      let entries : Data = lines_data p (entry_lines p (entries_of c.entries)) in
      all_right (under (codes "function") (here_unless (is_function p (whole f.0)))
      ∷ under (codes "receiver")
      (here_unless (wrong.is_label p (label_data c.context.receiver)))
      ∷ here_unless (is_above context_number before (own_data p c))
      ∷ under (codes "entries") (list_wrong (entry_wrong p) entries)
      ∷ under (codes "points") (list_wrong (point_wrong p f) (nodes_data p f c)) ∷ []) (
        ap (λ b. under (codes "function") (here_unless b))
            (lt-ltb f.0 (length p.functions) said.fits.context.function),
        (
          ap (λ b. under (codes "receiver") (here_unless b))
              (lt-ltb (label_number c.context.receiver) (2 * length p.sites)
              (label_within c.context.receiver (length p.sites) (2 * length p.sites)
              said.fits.context.receiver refl)),
          (
            ap here_unless above,
            (
              ap (under (codes "entries")) (entries_right p (entries_of c.entries) (λ l k q is.
                  some_said IsEntryProperty (entries_of c.entries l k) q (said.entries l k) is)),
              (ap (under (codes "points")) (nodes_right p f c said.states), tt),
            ),
          ),
        ),
      )

  ascending : (cs : List ContextTable) → AreContextsOrdered cs
      → Ascends (Precedes own_rank context_number) cs
  ascending [] ordered = tt
  ascending (c ∷ cs) ordered = (
    all_weaker (λ (d : ContextTable). IsTrue (below_context (context_of c) (context_of d)))
        (Precedes own_rank context_number c) (λ d h. below_from c.context d.context h) cs ordered.0,
    ascending cs ordered.1,
  )

  pub contexts_right : (cs : List ContextTable) → AllByRecursion (IsSaidContext p) cs
      → AreContextsOrdered cs
      → list_wrong (context_wrong p) (listed (map (own_data p) cs)) ≡ None
  contexts_right cs said ordered =
      ap (λ ds. list_wrong (context_wrong p) (listed ds)) (sym (singles (own_data p) cs))
      ∙ list_right (context_wrong p) context_number _
      (places_climb (context_wrong p) context_number own_rank (λ c. own_data p c ∷ []) cs
      (ascending cs ordered) (of_each _ cs (λ c m. (own_placed c, tt)))
      (all_weaker (IsSaidContext p) _ (λ c h. own_right c h) cs said))
