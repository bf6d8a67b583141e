-- An operation of the built-in functions on texts and numbers alone: of one primitive each what the
-- machine gives, or nothing; where one is any of a class, all that the operation may give.
use Rattle.std.specs.Prelude.{List, [], ◌∷◌, Option, Some, None, Ok, Err}
use Rattle.std.specs.List.{flat_map}
use Rattle.std.specs.Option.{option_map, option_map_or}
use Rattle.ja_prim.specs.declared.primitive.Primitive.{Primitive}
use Rattle.ja_prim.specs.declared.primitive.Primitive.TheVariants as primitive
use Rattle.ja_machine.specs.declared.machine.TextOperation.{TextOperation}
use Rattle.ja_machine.specs.declared.machine.TextOperation.TheVariants as operation
use Rattle.ja_machine.specs.TextOperations.{Given, PrimitiveRow, row}
use Rattle.ja_abstract.specs.declared.abstraction.NumberPart.TheVariants as number_part
use Rattle.ja_abstract.specs.declared.abstraction.Sort.{Sort}
use Rattle.ja_abstract.specs.declared.abstraction.Sort.TheVariants as sort
use Rattle.ja_abstract.specs.declared.abstraction.TextPart.TheVariants as text_part
use Rattle.ja_abstract.specs.AbstractValue.{AbstractValue, no_value, join, of_primitive}
use Rattle.ja_abstract.specs.Primitives.{Atom, exactly, index, other_whole, whole, index_text, other_text, any_text, atoms, Abstracted, gives, no_result, over, of_number_part, of_text_part, nan_value, whole_value}

-- what is taken at a place: one primitive value, or any of a class
abbrev pub Taken : Type 0
Taken = Option Primitive

abbrev pub taken_at : Sort → Atom → List Taken
taken_at sort.Text (exactly (primitive.Text t)) = Some (primitive.Text t) ∷ []
taken_at sort.Text index_text = None ∷ []
taken_at sort.Text other_text = None ∷ []
taken_at sort.Text any_text = None ∷ []
taken_at sort.Number (exactly (primitive.Number n)) = Some (primitive.Number n) ∷ []
taken_at sort.Number index = None ∷ []
taken_at sort.Number other_whole = None ∷ []
taken_at sort.Number whole = None ∷ []
taken_at s a = []

abbrev pub taken : Sort → AbstractValue → List Taken
taken s v = flat_map (taken_at s) (atoms v)

-- what is taken at each place, if there are as many values as places
abbrev pub operands : List Sort → List AbstractValue → Option (List (List Taken))
operands [] [] = Some []
operands (s ∷ ss) (v ∷ vs) = option_map (λ xss. taken s v ∷ xss) (operands ss vs)
operands ss vs = None

-- over each choice of one per place
abbrev pub over_operands : (List Taken → Abstracted) → List (List Taken) → Abstracted
over_operands f [] = f []
over_operands f (xs ∷ xss) = over (λ x. over_operands (λ rest. f (x ∷ rest)) xss) xs

abbrev pub each_told : List Taken → Option (List Primitive)
each_told [] = Some []
each_told (None ∷ xs) = None
each_told (Some q ∷ xs) = option_map (λ qs. q ∷ qs) (each_told xs)

abbrev pub given_of : Given → Abstracted
given_of (Ok q) = gives (of_primitive q)
given_of (Err kind) = no_result

abbrev pub of_taken : PrimitiveRow → AbstractValue → List Taken → Abstracted
of_taken given all xs = option_map_or (λ qs. given_of (given qs)) (each_told xs) (gives all)

-- the operation, by what it takes, what the machine gives of it, and all that it may give
abbrev pub primitive_operation : List Sort → PrimitiveRow → AbstractValue → List AbstractValue
    → AbstractValue
primitive_operation ss given all vs =
    option_map_or (λ xss. (over_operands (of_taken given all) xss).value) (operands ss vs)
    no_value

-- ---- those of the built-in functions

abbrev pub index_value : AbstractValue
index_value = of_number_part number_part.Index

abbrev pub nan_or_index : AbstractValue
nan_or_index = join nan_value index_value

abbrev pub nan_or_whole : AbstractValue
nan_or_whole = join nan_value whole_value

abbrev pub text_value : AbstractValue
text_value = of_text_part text_part.Text

-- what each takes
abbrev pub sorts : TextOperation → List Sort
sorts operation.Digits = sort.Number ∷ sort.Number ∷ []
sorts operation.Size = sort.Text ∷ []
sorts operation.Unit = sort.Text ∷ sort.Number ∷ []
sorts operation.Part = sort.Text ∷ sort.Number ∷ sort.Number ∷ []
sorts operation.Character = sort.Number ∷ []
sorts operation.IndexOf = sort.Text ∷ sort.Text ∷ sort.Number ∷ []
sorts operation.LastIndexOf = sort.Text ∷ sort.Text ∷ sort.Number ∷ []
sorts operation.Lower = sort.Text ∷ []
sorts operation.Upper = sort.Text ∷ []
sorts operation.ParseInt = sort.Text ∷ sort.Number ∷ []
sorts operation.ParseFloat = sort.Text ∷ []

-- all that it may give
abbrev pub class : TextOperation → AbstractValue
class operation.Digits = text_value
class operation.Size = index_value
class operation.Unit = nan_or_index
class operation.Part = text_value
class operation.Character = text_value
class operation.IndexOf = whole_value
class operation.LastIndexOf = whole_value
class operation.Lower = text_value
class operation.Upper = text_value
class operation.ParseInt = nan_or_whole
class operation.ParseFloat = nan_or_whole

abbrev pub text_operation : TextOperation → List AbstractValue → AbstractValue
text_operation op = primitive_operation (sorts op) (row op) (class op)
