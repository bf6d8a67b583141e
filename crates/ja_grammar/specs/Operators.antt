-- The operators of ES3 11, by their symbols.
use Rattle.std.specs.Prelude.{ℕ, Bool, true, false, not, ◌&&◌, ◌==◌, if◌then◌else◌, Option, Some, None}
use Rattle.ja_syntax.specs.declared.symbol.Symbol.{Symbol}
use Rattle.ja_syntax.specs.declared.symbol.Symbol.TheVariants as k
use Rattle.ja_syntax.specs.declared.tree.BinaryOperator.{BinaryOperator}
use Rattle.ja_syntax.specs.declared.tree.BinaryOperator.TheVariants as b
use Rattle.ja_syntax.specs.declared.tree.UnaryOperator.{UnaryOperator}
use Rattle.ja_syntax.specs.declared.tree.UnaryOperator.TheVariants as u
use Rattle.ja_syntax.specs.declared.tree.UpdateOperator.{UpdateOperator}
use Rattle.ja_syntax.specs.declared.tree.UpdateOperator.TheVariants as update

-- the operator between two operands that a symbol is (11.5 to 11.11)
unfoldable pub binary_of : Symbol → Option BinaryOperator
binary_of k.Times = Some b.Times
binary_of k.Divide = Some b.Divide
binary_of k.Remainder = Some b.Remainder
binary_of k.Plus = Some b.Plus
binary_of k.Minus = Some b.Minus
binary_of k.ShiftLeft = Some b.ShiftLeft
binary_of k.ShiftRight = Some b.ShiftRight
binary_of k.ShiftRightUnsigned = Some b.ShiftRightUnsigned
binary_of k.Less = Some b.Less
binary_of k.Greater = Some b.Greater
binary_of k.LessEqual = Some b.LessEqual
binary_of k.GreaterEqual = Some b.GreaterEqual
binary_of k.Instanceof = Some b.Instanceof
binary_of k.In = Some b.In
binary_of k.Equal = Some b.Equal
binary_of k.NotEqual = Some b.NotEqual
binary_of k.StrictEqual = Some b.StrictEqual
binary_of k.StrictNotEqual = Some b.StrictNotEqual
binary_of k.BitAnd = Some b.BitAnd
binary_of k.BitXor = Some b.BitXor
binary_of k.BitOr = Some b.BitOr
binary_of k.And = Some b.And
binary_of k.Or = Some b.Or
binary_of _ = None

-- its level: 1 binds most
unfoldable pub level_of : BinaryOperator → ℕ
level_of b.Times = 1
level_of b.Divide = 1
level_of b.Remainder = 1
level_of b.Plus = 2
level_of b.Minus = 2
level_of b.ShiftLeft = 3
level_of b.ShiftRight = 3
level_of b.ShiftRightUnsigned = 3
level_of b.Less = 4
level_of b.Greater = 4
level_of b.LessEqual = 4
level_of b.GreaterEqual = 4
level_of b.Instanceof = 4
level_of b.In = 4
level_of b.Equal = 5
level_of b.NotEqual = 5
level_of b.StrictEqual = 5
level_of b.StrictNotEqual = 5
level_of b.BitAnd = 6
level_of b.BitXor = 7
level_of b.BitOr = 8
level_of b.And = 9
level_of b.Or = 10

-- how many levels there are
abbrev pub levels : ℕ
levels = 10

abbrev pub is_in : BinaryOperator → Bool
is_in b.In = true
is_in _ = false

abbrev pub at_level : Bool → ℕ → Option BinaryOperator → Option BinaryOperator
at_level no_in level None = None
at_level no_in level (Some o) =
    if level_of o == level && not (no_in && is_in o) then Some o else None

-- The operator of a level that a symbol is. `no_in`: without the operator `in` (12.6).
unfoldable pub binary_operator : Bool → ℕ → Symbol → Option BinaryOperator
binary_operator no_in level k = at_level no_in level (binary_of k)

-- the operators before an operand (11.4), but `++` and `--`
unfoldable pub unary_operator : Symbol → Option UnaryOperator
unary_operator k.Delete = Some u.Delete
unary_operator k.Void = Some u.Void
unary_operator k.Typeof = Some u.Typeof
unary_operator k.Plus = Some u.Plus
unary_operator k.Minus = Some u.Minus
unary_operator k.Complement = Some u.Complement
unary_operator k.Not = Some u.Not
unary_operator _ = None

-- `++` and `--` before an operand (11.4.4, 11.4.5)
unfoldable pub prefix_update : Symbol → Option UpdateOperator
prefix_update k.Increment = Some update.IncrementBefore
prefix_update k.Decrement = Some update.DecrementBefore
prefix_update _ = None

-- `++` and `--` behind an operand (11.3)
unfoldable pub postfix_update : Symbol → Option UpdateOperator
postfix_update k.Increment = Some update.IncrementBehind
postfix_update k.Decrement = Some update.DecrementBehind
postfix_update _ = None

-- The assignment operators (11.13); `=` has no binary operator.
unfoldable pub assignment_operator : Symbol → Option (Option BinaryOperator)
assignment_operator k.Assign = Some None
assignment_operator k.TimesAssign = Some (Some b.Times)
assignment_operator k.DivideAssign = Some (Some b.Divide)
assignment_operator k.RemainderAssign = Some (Some b.Remainder)
assignment_operator k.PlusAssign = Some (Some b.Plus)
assignment_operator k.MinusAssign = Some (Some b.Minus)
assignment_operator k.ShiftLeftAssign = Some (Some b.ShiftLeft)
assignment_operator k.ShiftRightAssign = Some (Some b.ShiftRight)
assignment_operator k.ShiftRightUnsignedAssign = Some (Some b.ShiftRightUnsigned)
assignment_operator k.BitAndAssign = Some (Some b.BitAnd)
assignment_operator k.BitXorAssign = Some (Some b.BitXor)
assignment_operator k.BitOrAssign = Some (Some b.BitOr)
assignment_operator _ = None
