-- Programs that differ in their text alone: a visit changes a table in the same way.
use Rattle.std.proofs.Common.{◌≡◌, ℕ, List, [], ◌∷◌, map, refl, sym, subst, ◌∙◌}
use Rattle.std.specs.Prelude.{◌≢◌, String, slice_get, zero, suc}
use Rattle.std.specs.declared.alloc.Global.{Global}
use Rattle.std.specs.List.{AllByRecursion}
use Rattle.std.specs.Option.{option_map_or}
use Rattle.ja_graph.specs.declared.node.Node.{Node}
use Rattle.ja_graph.specs.declared.node.Node.TheVariants as node
use Rattle.ja_graph.specs.declared.node.NodeInfo.{NodeInfo}
use Rattle.ja_graph.specs.declared.program.Program.{Program}
use Rattle.ja_abstract.specs.AbstractValue.{AbstractValue, no_value}
use Rattle.ja_abstract.specs.Operations.{AbstractOperation, looked, operation, operations}
use Rattle.ja_abstract.specs.Reading.{View}
use Rattle.ja_abstract.proofs.TextOperations.{all_text_operations}
use Rattle.ja_rows.specs.declared.table.Item.{Item}
use Rattle.ja_rows.specs.declared.table.Item.TheVariants.{Open, Step, Fill, Back}
use Rattle.ja_rows.specs.Out.{Point, at, out, sets}
use Rattle.ja_rows.specs.Table.{Table, Builds, HasOpening, IsBuilt, IsClosed, applied, effects_step, opening_table, point, visited, with_view}
use Rattle.ja_rows.specs.Transfer.{transfer_node}

module _ (p : Program) (s : String Global) where
  abbrev pub other : Program
  other = record p { text = s }

  abbrev of_other : View → View
  of_other w = record w { program = other }

  abbrev of_this : View → View
  of_this w = record w { program = p }

  -- ---- the operations of the built-in functions

  abbrev IsSameOf : AbstractOperation → Type 0
  IsSameOf r = (w : View) (vs : List AbstractValue) → r (of_other w) vs ≡ r (of_this w) vs

  picked : (rs : List AbstractOperation) (n : ℕ) → AllByRecursion IsSameOf rs
      → IsSameOf (option_map_or (λ (r : AbstractOperation). r) (slice_get rs n)
      (λ w vs. looked no_value))
  picked [] n all w vs = refl
  picked (r ∷ rs) zero all w vs = all.0 w vs
  picked (r ∷ rs) (suc n) all w vs = picked rs n all.1 w vs

  operation_same : (which : ℕ) → IsSameOf (operation which)
  operation_same which =
      picked operations which (
        λ w vs. refl,
        (
          λ w vs. refl,
          (
            λ w vs. refl,
            (
              λ w vs. refl,
              (
                λ w vs. refl,
                (
                  λ w vs. refl,
                  (λ w vs. refl, all_text_operations IsSameOf (λ op w vs. refl)),
                ),
              ),
            ),
          ),
        ),
      )

  -- ---- visits

  transfer_same : (w : View) (x : Point) (i : NodeInfo) (n : Node)
      → transfer_node (of_other w) x i n ≡ transfer_node (of_this w) x i n
  transfer_same w x i (node.Intrinsic dst which args) =
      let same = operation_same which w in
      let values : List AbstractValue = map (at w) args in
      λ j. out (sets (of_this w) dst (same values j).value i.next) (same values j).demands
  transfer_same w x i n = refl

  pub visited_same : (t : Table) (item : Item) → visited other t item ≡ visited p t item
  visited_same t Open = refl
  visited_same t (Step x n) =
      λ j. applied t (with_view p t x n (λ w i. effects_step w (point x n i)
      (transfer_same w (point x n i) i i.node j)))
  visited_same t (Fill e) = refl
  visited_same t (Back e) = refl

  -- ---- tables

  builds_from : (from t : Table) (items : List Item) → Builds p from items t
      → Builds other from items t
  builds_from from t [] h = h
  builds_from from t (item ∷ items) h =
      let same = sym (visited_same from item) in (
        h.0,
        subst (λ u. u ≢ from) same h.1,
        subst (λ u. Builds other u items t) same (builds_from (visited p from item) t items h.2),
      )

  pub built_same : (items : List Item) (t : Table) → IsBuilt p items t → IsBuilt other items t
  built_same items t h = builds_from (opening_table p) t items h

  pub opening_same : (t : Table) → HasOpening p t → HasOpening other t
  opening_same t h = record { state = h.state; state_is = h.state_is; least = h.least }

  pub closed_same : (t : Table) → IsClosed p t → IsClosed other t
  closed_same t h = record {
    opening = opening_same t h.opening;
    settled = λ item is. visited_same t item ∙ h.settled item is;
  }
