-- What the tables of words and punctuators come to.
use Rattle.std.proofs.Common.{◌≡◌, ◌++◌, true, refl}
use Rattle.ja_lex.specs.Marks.{marks}
use Rattle.ja_syntax.specs.declared.symbol.Symbol.{Symbol}
use Rattle.ja_syntax.specs.declared.symbol.Symbol.TheVariants as symbol
use Rattle.ja_syntax.specs.Spelling.{texts, are_distinct, spellings, expected_spellings}
use Rattle.ja_syntax.specs.Symbols.{keywords, refused_words, punctuators, same_symbol}

pub same_marks : texts punctuators ≡ marks
unfolding punctuators marks
same_marks = refl

pub words_once : are_distinct (texts keywords ++ texts refused_words) ≡ true
unfolding keywords refused_words
words_once = refl

pub marks_once : are_distinct marks ≡ true
unfolding marks
marks_once = refl

pub spelt_once : (s : Symbol) → spellings s ≡ expected_spellings s
unfolding keywords punctuators same_symbol
spelt_once symbol.Name = refl
spelt_once symbol.Number = refl
spelt_once symbol.Text = refl
spelt_once symbol.End = refl
spelt_once symbol.Foreign = refl
spelt_once symbol.Break = refl
spelt_once symbol.Case = refl
spelt_once symbol.Catch = refl
spelt_once symbol.Continue = refl
spelt_once symbol.Default = refl
spelt_once symbol.Delete = refl
spelt_once symbol.Do = refl
spelt_once symbol.Else = refl
spelt_once symbol.False = refl
spelt_once symbol.Finally = refl
spelt_once symbol.For = refl
spelt_once symbol.Function = refl
spelt_once symbol.If = refl
spelt_once symbol.In = refl
spelt_once symbol.Instanceof = refl
spelt_once symbol.New = refl
spelt_once symbol.Null = refl
spelt_once symbol.Return = refl
spelt_once symbol.Switch = refl
spelt_once symbol.This = refl
spelt_once symbol.Throw = refl
spelt_once symbol.True = refl
spelt_once symbol.Try = refl
spelt_once symbol.Typeof = refl
spelt_once symbol.Var = refl
spelt_once symbol.Void = refl
spelt_once symbol.While = refl
spelt_once symbol.OpenBrace = refl
spelt_once symbol.CloseBrace = refl
spelt_once symbol.OpenParenthesis = refl
spelt_once symbol.CloseParenthesis = refl
spelt_once symbol.OpenBracket = refl
spelt_once symbol.CloseBracket = refl
spelt_once symbol.Dot = refl
spelt_once symbol.Semicolon = refl
spelt_once symbol.Comma = refl
spelt_once symbol.Question = refl
spelt_once symbol.Colon = refl
spelt_once symbol.Increment = refl
spelt_once symbol.Decrement = refl
spelt_once symbol.Not = refl
spelt_once symbol.Complement = refl
spelt_once symbol.Plus = refl
spelt_once symbol.Minus = refl
spelt_once symbol.Times = refl
spelt_once symbol.Divide = refl
spelt_once symbol.Remainder = refl
spelt_once symbol.ShiftLeft = refl
spelt_once symbol.ShiftRight = refl
spelt_once symbol.ShiftRightUnsigned = refl
spelt_once symbol.Less = refl
spelt_once symbol.Greater = refl
spelt_once symbol.LessEqual = refl
spelt_once symbol.GreaterEqual = refl
spelt_once symbol.Equal = refl
spelt_once symbol.NotEqual = refl
spelt_once symbol.StrictEqual = refl
spelt_once symbol.StrictNotEqual = refl
spelt_once symbol.BitAnd = refl
spelt_once symbol.BitOr = refl
spelt_once symbol.BitXor = refl
spelt_once symbol.And = refl
spelt_once symbol.Or = refl
spelt_once symbol.Assign = refl
spelt_once symbol.PlusAssign = refl
spelt_once symbol.MinusAssign = refl
spelt_once symbol.TimesAssign = refl
spelt_once symbol.DivideAssign = refl
spelt_once symbol.RemainderAssign = refl
spelt_once symbol.ShiftLeftAssign = refl
spelt_once symbol.ShiftRightAssign = refl
spelt_once symbol.ShiftRightUnsignedAssign = refl
spelt_once symbol.BitAndAssign = refl
spelt_once symbol.BitOrAssign = refl
spelt_once symbol.BitXorAssign = refl
