-- Each abstract operation covers the machine's, on lists of values and of registers.
use Rattle.std.specs.Prelude.{◌≡◌, ℕ, zero, suc, IsTrue, List, [], ◌∷◌, map, Option, Some, None, is_some, Ok, slice_get}
use Rattle.std.specs.List.{AllByRecursion}
use Rattle.std.specs.Option.{option_map, option_map_or}
use Rattle.std.proofs.Common.{refl, subst}
use Rattle.std.proofs.lemmas.Option.{same_Some}
use Rattle.ja_base.specs.declared.ids.Reg.{Reg}
use Rattle.ja_prim.specs.declared.primitive.Primitive.{Primitive}
use Rattle.ja_graph.specs.WellFormed.{IsRegister, IsWellFormed}
use Rattle.ja_machine.specs.declared.machine.TextOperation.{TextOperation}
use Rattle.ja_machine.specs.declared.machine.Value.{Value}
use Rattle.ja_machine.specs.declared.machine.Value.TheVariants as value
use Rattle.ja_machine.specs.declared.machine.Conf.{Conf}
use Rattle.ja_machine.specs.declared.machine.Frame.{Frame}
use Rattle.ja_machine.specs.declared.machine.Heap.{Heap}
use Rattle.ja_machine.specs.Frames.{register_of}
use Rattle.ja_machine.specs.Intrinsics as machine
use Rattle.ja_machine.specs.TextOperations.{row}
use Rattle.ja_machine.specs.Values as values
use Rattle.ja_abstract.specs.AbstractValue.{AbstractValue}
use Rattle.ja_abstract.specs.Operations as abstract
use Rattle.ja_abstract.specs.Operations.{Looked, AbstractOperation}
use Rattle.ja_abstract.specs.Parts.{has_primitive}
use Rattle.ja_abstract.specs.PrimitiveOperations.{text_operation}
use Rattle.ja_abstract.specs.Reading.{View}
use Rattle.ja_abstract.specs.Resolved.{IsFilled}
use Rattle.ja_abstract.proofs.PrimitiveOperations.{AllHave}
use Rattle.ja_abstract.proofs.TextOperations.{text_operation_covers, text_operations_beside}
use Rattle.ja_meaning.specs.Moments.{Reads}
use Rattle.ja_rows.specs.Out.{Point}
use Rattle.ja_rows.specs.Out as transfer
use Rattle.ja_sound.specs.OperationLaws.{AreIn, OperationsCover}
use Rattle.ja_sound.specs.Statements.{IsAt}
use Rattle.ja_sound.proofs.Assembled.{RowsCover}
use Rattle.ja_sound.proofs.AtNode.{fr}
use Rattle.ja_sound.proofs.CallNodes.{RowCovers}
use Rattle.ja_sound.proofs.PropertyNodes.{rd, has, of_heap}
use Rattle.ja_sound.proofs.OperationRows.{CoversOne, CoversTwo, is_object_covers, class_covers, value_covers, has_own_covers, is_enumerable_covers, inherits_covers, has_elements_covers}

module _ (e c : Heap) (w : View) (r : Reads e c w) (good : IsWellFormed w.program) where
  abbrev Covers : AbstractOperation → machine.Computation → Type 0
  Covers f row =
      (vs : List AbstractValue) (xs : List Value) (q : Primitive) → AreIn c vs xs
      → IsFilled w.entries (f w vs).demands → row xs c ≡ Ok q
      → IsTrue (has_primitive (f w vs).value q)

  one_covers : (f : View → AbstractValue → Looked) (g : Heap → Value → machine.IntrinsicOutcome)
      → CoversOne e c w r good f g → Covers (abstract.of_one f) (machine.of_one g)
  one_covers f g covers [] [] q ins filled is = cc
  one_covers f g covers (v ∷ []) (x ∷ []) q ins filled is = covers v x ins.0 ins.1 filled q is
  one_covers f g covers (v ∷ u ∷ vs) (x ∷ y ∷ xs) q ins filled is = cc
  one_covers f g covers [] (x ∷ xs) q ins filled is = absurd ins
  one_covers f g covers (v ∷ vs) [] q ins filled is = absurd ins
  one_covers f g covers (v ∷ []) (x ∷ y ∷ xs) q ins filled is = absurd ins.2
  one_covers f g covers (v ∷ u ∷ vs) (x ∷ []) q ins filled is = absurd ins.2

  two_cover : (f : View → AbstractValue → AbstractValue → Looked)
      (g : Heap → Value → Value → machine.IntrinsicOutcome)
      → CoversTwo e c w r good f g → Covers (abstract.of_two f) (machine.of_two g)
  two_cover f g covers [] [] q ins filled is = cc
  two_cover f g covers (v ∷ []) (x ∷ []) q ins filled is = cc
  two_cover f g covers (v ∷ u ∷ []) (x ∷ y ∷ []) q ins filled is =
      covers v u x y ins.0 ins.2.0 ins.1 ins.2.1 filled q is
  two_cover f g covers (v ∷ u ∷ n ∷ vs) (x ∷ y ∷ z ∷ xs) q ins filled is = cc
  two_cover f g covers [] (x ∷ xs) q ins filled is = absurd ins
  two_cover f g covers (v ∷ vs) [] q ins filled is = absurd ins
  two_cover f g covers (v ∷ []) (x ∷ y ∷ xs) q ins filled is = absurd ins.2
  two_cover f g covers (v ∷ u ∷ vs) (x ∷ []) q ins filled is = absurd ins.2
  two_cover f g covers (v ∷ u ∷ []) (x ∷ y ∷ z ∷ xs) q ins filled is = absurd ins.2.2
  two_cover f g covers (v ∷ u ∷ n ∷ vs) (x ∷ y ∷ []) q ins filled is = absurd ins.2.2

  -- values that are primitive have these in the abstract ones
  have_primitives : (vs : List AbstractValue) (xs : List Value) (qs : List Primitive)
      → AreIn c vs xs → machine.primitives_in xs ≡ Some qs → AllHave vs qs
  have_primitives [] [] [] ins is = tt
  have_primitives [] [] (q ∷ qs) ins is = absurd (cc)
  have_primitives [] (x ∷ xs) qs ins is = absurd ins
  have_primitives (v ∷ vs) [] qs ins is = absurd ins
  have_primitives (v ∷ vs) (value.Object a ∷ xs) qs ins is = absurd (cc)
  have_primitives (v ∷ vs) (value.Primitive p ∷ xs) qs ins is =
      by (machine.primitives_in xs) (λ ps there. have_primitives vs xs ps ins.2 there) qs is
    where
      by : (o : Option (List Primitive))
          → ((ps : List Primitive) → o ≡ Some ps → AllHave vs ps) → (qs : List Primitive)
          → option_map (λ ps. p ∷ ps) o ≡ Some qs → AllHave (v ∷ vs) qs
      by None others qs is = absurd (cc)
      by (Some ps) others qs is =
          subst (AllHave (v ∷ vs)) (same_Some (p ∷ ps) qs is) (ins.1, others ps refl)

  texts_cover : (op : TextOperation) → Covers (abstract.of_values (text_operation op))
      (machine.on_primitives (row op))
  texts_cover op vs xs q ins filled is = by (machine.primitives_in xs) refl is
    where
      by : (o : Option (List Primitive)) → machine.primitives_in xs ≡ o
          → option_map_or (row op) o machine.refused ≡ Ok q
          → IsTrue (has_primitive (text_operation op vs) q)
      by None there is = absurd (cc)
      by (Some qs) there is =
          text_operation_covers op vs qs q (have_primitives vs xs qs ins there) is

  -- the row is that of the number
  of_number : (f : AbstractOperation) (s row : machine.Computation) → Some s ≡ Some row
      → Covers f s → Covers f row
  of_number f s row is covers = subst (Covers f) (same_Some s row is) covers

  covers_at : (which : ℕ) (row : machine.Computation)
      → slice_get machine.rows which ≡ Some row
      → Covers (abstract.operation which) row
  covers_at zero row is =
      of_number (abstract.operation 0) _ row is (one_covers abstract.is_object
      (λ h v. machine.tells (values.is_object v)) (is_object_covers e c w r good))
  covers_at (suc zero) row is =
      of_number (abstract.operation 1) _ row is (one_covers abstract.class_of machine.class_of
      (class_covers e c w r good))
  covers_at (suc (suc zero)) row is =
      of_number (abstract.operation 2) _ row is (one_covers abstract.value_of machine.value_of
      (value_covers e c w r good))
  covers_at (suc (suc (suc zero))) row is =
      of_number (abstract.operation 3) _ row is (two_cover abstract.has_own (machine.of_own is_some)
      (has_own_covers e c w r good))
  covers_at (suc (suc (suc (suc zero)))) row is =
      of_number (abstract.operation 4) _ row is (two_cover abstract.is_enumerable
      (machine.of_own machine.is_shown) (is_enumerable_covers e c w r good))
  covers_at (suc (suc (suc (suc (suc zero))))) row is =
      of_number (abstract.operation 5) _ row is (two_cover abstract.inherits machine.inherits
      (inherits_covers e c w r good))
  covers_at (suc (suc (suc (suc (suc (suc zero)))))) row is =
      of_number (abstract.operation 6) _ row is (one_covers abstract.has_elements
      (λ h v. machine.tells (machine.is_list h v)) (has_elements_covers e c w r good))
  covers_at (suc (suc (suc (suc (suc (suc (suc n))))))) row is =
      text_operations_beside Covers texts_cover n row is

pub operations_cover : OperationsCover
operations_cover e c w which row vs xs q good r ins filled row_is is =
    covers_at e c w r good which row row_is vs xs q ins filled is

-- ---- of registers

module _ (e : Heap) (c : Conf) (top : Frame) (below : List Frame) (x : Point) (w : View)
    (at : IsAt w.program e c top below x w) (good : IsWellFormed w.program) where
  abbrev Regs : List Reg → Type 0
  Regs = AllByRecursion (IsRegister (fr e c top below x w at good).function)

  registers_in : (args : List Reg) → Regs args
      → AreIn c.heap (map (transfer.at w) args) (map (register_of top) args)
  registers_in [] rs = tt
  registers_in (a ∷ bs) rs = (
    of_heap e c top below x w at good a rs.0,
    has e c top below x w at good a rs.0,
    registers_in bs rs.1,
  )

  pub row_covers : (which : ℕ) → RowCovers e c top below x w at good which
  row_covers which args row q rs filled row_is is =
      covers_at e c.heap w (rd e c top below x w at good) good which row row_is
      (map (transfer.at w) args) (map (register_of top) args) q (registers_in args rs) filled is

pub rows_cover : RowsCover
rows_cover e c top below x w at good which = row_covers e c top below x w at good which
