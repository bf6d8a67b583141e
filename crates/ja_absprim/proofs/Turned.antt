-- An operation on the number of an atom, without its list of numbers.
use Rattle.std.specs.Prelude.{◌≡◌, [], ◌∷◌, Some, Result, Ok, Err}
use Rattle.std.proofs.Common.{refl, ap}
use Rattle.ja_prim.specs.declared.primitive.Num.{Num}
use Rattle.ja_prim.specs.declared.primitive.Num.TheVariants.{NaN, Whole}
use Rattle.ja_prim.specs.declared.primitive.Primitive.TheVariants as primitive
use Rattle.ja_prim.specs.declared.stop.Stop.{Stop}
use Rattle.ja_prim.specs.Bits as bits
use Rattle.ja_prim.specs.Comparison.{to_primitive}
use Rattle.ja_prim.specs.Conversions.{to_number}
use Rattle.ja_abstract.specs.AbstractValue.{AbstractValue, join, no_value, of_primitive}
use Rattle.ja_abstract.specs.Primitives.{Atom, exactly, index, other_whole, whole, index_text, other_text, any_text, Abstracted, exact, on_operand, of_operand, atoms, operand, over, either, stops_if, gives, gives_or_stops, whole_value}
use Rattle.std.specs.List.{flat_map}
use Rattle.ja_absprim.specs.code.Conversions.{turned, turned_by}

-- the numbers of exactly a number
numbers : (n : Num) → flat_map operand (atoms (of_primitive (primitive.Number n))) ≡ Some n ∷ []
numbers NaN = refl
numbers (Whole z) = refl

-- exactly a number, and nothing more
alone : (n : Num) → join (of_primitive (primitive.Number n)) no_value
    ≡ of_primitive (primitive.Number n)
alone NaN = refl
alone (Whole z) = refl

-- what is given of a conversion's result
of_result : (Num → Num) → Result Num Stop → Abstracted
of_result f r =
    let converted = exact (to_primitive primitive.Number r) in
    either (stops_if converted.may_stop)
    (over (of_operand f) (flat_map operand (atoms converted.value)))

result : (f : Num → Num) (r : Result Num Stop) → of_result f r
    ≡ exact (to_primitive primitive.Number (turned f r))
unfolding of_result
result f (Ok n) =
    rw (numbers n) (ap gives (alone (f n)))
result f (Err stop) = refl

pub by_number : (f : Num → Num) (texts : AbstractValue)
    → join (of_primitive (primitive.Number (f NaN))) whole_value ≡ texts → (a : Atom)
    → on_operand (of_operand f) a ≡ turned_by f texts a
unfolding of_result
by_number f texts e (exactly q) = result f (to_number q)
by_number f texts e index = refl
by_number f texts e other_whole = refl
by_number f texts e whole = refl
by_number f texts e index_text = refl
by_number f texts e other_text = ap gives_or_stops e
by_number f texts e any_text = ap gives_or_stops e

pub not_of_nan : join (of_primitive (primitive.Number (bits.not NaN))) whole_value ≡ whole_value
not_of_nan = refl
