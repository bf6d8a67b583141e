-- The symbols of sample tokens.
use Rattle.std.proofs.Common.{◌≡◌, ℕ, ℤ, List, Some, None, refl}
use Rattle.std.specs.Prelude.{codes}
use Rattle.ja_base.specs.declared.ids.ScopeKind.{ScopeKind}
use Rattle.ja_base.specs.declared.ids.ScopeKind.TheVariants as scope
use Rattle.ja_lex.specs.declared.token.TokenFault.{TokenFault}
use Rattle.ja_lex.specs.declared.token.TokenFault.TheVariants.{Scope}
use Rattle.ja_lex.specs.declared.token.TokenKind.TheVariants.{Word, Number, Text, Mark, End, Bad}
use Rattle.ja_syntax.specs.declared.symbol.Symbol.TheVariants as symbol
use Rattle.ja_syntax.specs.Symbols.{symbol_of, word_symbol, mark_symbol, fault_of, keywords, refused_words, punctuators}

-- ---- words

pub name_is : symbol_of (Word (codes "x")) ≡ symbol.Name
unfolding symbol_of word_symbol keywords refused_words
name_is = refl

pub eval_is : symbol_of (Word (codes "eval")) ≡ symbol.Foreign
unfolding symbol_of word_symbol keywords refused_words
eval_is = refl

pub with_is : symbol_of (Word (codes "with")) ≡ symbol.Foreign
unfolding symbol_of word_symbol keywords refused_words
with_is = refl

pub class_is : symbol_of (Word (codes "class")) ≡ symbol.Foreign
unfolding symbol_of word_symbol keywords refused_words
class_is = refl

pub break_word_is : symbol_of (Word (codes "break")) ≡ symbol.Break
unfolding symbol_of word_symbol keywords refused_words
break_word_is = refl

pub case_word_is : symbol_of (Word (codes "case")) ≡ symbol.Case
unfolding symbol_of word_symbol keywords refused_words
case_word_is = refl

pub catch_word_is : symbol_of (Word (codes "catch")) ≡ symbol.Catch
unfolding symbol_of word_symbol keywords refused_words
catch_word_is = refl

pub continue_word_is : symbol_of (Word (codes "continue")) ≡ symbol.Continue
unfolding symbol_of word_symbol keywords refused_words
continue_word_is = refl

pub default_word_is : symbol_of (Word (codes "default")) ≡ symbol.Default
unfolding symbol_of word_symbol keywords refused_words
default_word_is = refl

pub delete_word_is : symbol_of (Word (codes "delete")) ≡ symbol.Delete
unfolding symbol_of word_symbol keywords refused_words
delete_word_is = refl

pub do_word_is : symbol_of (Word (codes "do")) ≡ symbol.Do
unfolding symbol_of word_symbol keywords refused_words
do_word_is = refl

pub else_word_is : symbol_of (Word (codes "else")) ≡ symbol.Else
unfolding symbol_of word_symbol keywords refused_words
else_word_is = refl

pub false_word_is : symbol_of (Word (codes "false")) ≡ symbol.False
unfolding symbol_of word_symbol keywords refused_words
false_word_is = refl

pub finally_word_is : symbol_of (Word (codes "finally")) ≡ symbol.Finally
unfolding symbol_of word_symbol keywords refused_words
finally_word_is = refl

pub for_word_is : symbol_of (Word (codes "for")) ≡ symbol.For
unfolding symbol_of word_symbol keywords refused_words
for_word_is = refl

pub function_word_is : symbol_of (Word (codes "function")) ≡ symbol.Function
unfolding symbol_of word_symbol keywords refused_words
function_word_is = refl

pub if_word_is : symbol_of (Word (codes "if")) ≡ symbol.If
unfolding symbol_of word_symbol keywords refused_words
if_word_is = refl

pub in_word_is : symbol_of (Word (codes "in")) ≡ symbol.In
unfolding symbol_of word_symbol keywords refused_words
in_word_is = refl

pub instanceof_word_is : symbol_of (Word (codes "instanceof")) ≡ symbol.Instanceof
unfolding symbol_of word_symbol keywords refused_words
instanceof_word_is = refl

pub new_word_is : symbol_of (Word (codes "new")) ≡ symbol.New
unfolding symbol_of word_symbol keywords refused_words
new_word_is = refl

pub null_word_is : symbol_of (Word (codes "null")) ≡ symbol.Null
unfolding symbol_of word_symbol keywords refused_words
null_word_is = refl

pub return_word_is : symbol_of (Word (codes "return")) ≡ symbol.Return
unfolding symbol_of word_symbol keywords refused_words
return_word_is = refl

pub switch_word_is : symbol_of (Word (codes "switch")) ≡ symbol.Switch
unfolding symbol_of word_symbol keywords refused_words
switch_word_is = refl

pub this_word_is : symbol_of (Word (codes "this")) ≡ symbol.This
unfolding symbol_of word_symbol keywords refused_words
this_word_is = refl

pub throw_word_is : symbol_of (Word (codes "throw")) ≡ symbol.Throw
unfolding symbol_of word_symbol keywords refused_words
throw_word_is = refl

pub true_word_is : symbol_of (Word (codes "true")) ≡ symbol.True
unfolding symbol_of word_symbol keywords refused_words
true_word_is = refl

pub try_word_is : symbol_of (Word (codes "try")) ≡ symbol.Try
unfolding symbol_of word_symbol keywords refused_words
try_word_is = refl

pub typeof_word_is : symbol_of (Word (codes "typeof")) ≡ symbol.Typeof
unfolding symbol_of word_symbol keywords refused_words
typeof_word_is = refl

pub var_word_is : symbol_of (Word (codes "var")) ≡ symbol.Var
unfolding symbol_of word_symbol keywords refused_words
var_word_is = refl

pub void_word_is : symbol_of (Word (codes "void")) ≡ symbol.Void
unfolding symbol_of word_symbol keywords refused_words
void_word_is = refl

pub while_word_is : symbol_of (Word (codes "while")) ≡ symbol.While
unfolding symbol_of word_symbol keywords refused_words
while_word_is = refl

-- ---- marks

pub open_brace_is : symbol_of (Mark (codes "{")) ≡ symbol.OpenBrace
unfolding symbol_of mark_symbol punctuators
open_brace_is = refl

pub close_brace_is : symbol_of (Mark (codes "}")) ≡ symbol.CloseBrace
unfolding symbol_of mark_symbol punctuators
close_brace_is = refl

pub open_parenthesis_is : symbol_of (Mark (codes "(")) ≡ symbol.OpenParenthesis
unfolding symbol_of mark_symbol punctuators
open_parenthesis_is = refl

pub close_parenthesis_is : symbol_of (Mark (codes ")")) ≡ symbol.CloseParenthesis
unfolding symbol_of mark_symbol punctuators
close_parenthesis_is = refl

pub open_bracket_is : symbol_of (Mark (codes "[")) ≡ symbol.OpenBracket
unfolding symbol_of mark_symbol punctuators
open_bracket_is = refl

pub close_bracket_is : symbol_of (Mark (codes "]")) ≡ symbol.CloseBracket
unfolding symbol_of mark_symbol punctuators
close_bracket_is = refl

pub dot_is : symbol_of (Mark (codes ".")) ≡ symbol.Dot
unfolding symbol_of mark_symbol punctuators
dot_is = refl

pub semicolon_is : symbol_of (Mark (codes ";")) ≡ symbol.Semicolon
unfolding symbol_of mark_symbol punctuators
semicolon_is = refl

pub comma_is : symbol_of (Mark (codes ",")) ≡ symbol.Comma
unfolding symbol_of mark_symbol punctuators
comma_is = refl

pub less_is : symbol_of (Mark (codes "<")) ≡ symbol.Less
unfolding symbol_of mark_symbol punctuators
less_is = refl

pub greater_is : symbol_of (Mark (codes ">")) ≡ symbol.Greater
unfolding symbol_of mark_symbol punctuators
greater_is = refl

pub less_equal_is : symbol_of (Mark (codes "<=")) ≡ symbol.LessEqual
unfolding symbol_of mark_symbol punctuators
less_equal_is = refl

pub greater_equal_is : symbol_of (Mark (codes ">=")) ≡ symbol.GreaterEqual
unfolding symbol_of mark_symbol punctuators
greater_equal_is = refl

pub equal_is : symbol_of (Mark (codes "==")) ≡ symbol.Equal
unfolding symbol_of mark_symbol punctuators
equal_is = refl

pub not_equal_is : symbol_of (Mark (codes "!=")) ≡ symbol.NotEqual
unfolding symbol_of mark_symbol punctuators
not_equal_is = refl

pub strict_equal_is : symbol_of (Mark (codes "===")) ≡ symbol.StrictEqual
unfolding symbol_of mark_symbol punctuators
strict_equal_is = refl

pub strict_not_equal_is : symbol_of (Mark (codes "!==")) ≡ symbol.StrictNotEqual
unfolding symbol_of mark_symbol punctuators
strict_not_equal_is = refl

pub plus_is : symbol_of (Mark (codes "+")) ≡ symbol.Plus
unfolding symbol_of mark_symbol punctuators
plus_is = refl

pub minus_is : symbol_of (Mark (codes "-")) ≡ symbol.Minus
unfolding symbol_of mark_symbol punctuators
minus_is = refl

pub times_is : symbol_of (Mark (codes "*")) ≡ symbol.Times
unfolding symbol_of mark_symbol punctuators
times_is = refl

pub remainder_is : symbol_of (Mark (codes "%")) ≡ symbol.Remainder
unfolding symbol_of mark_symbol punctuators
remainder_is = refl

pub increment_is : symbol_of (Mark (codes "++")) ≡ symbol.Increment
unfolding symbol_of mark_symbol punctuators
increment_is = refl

pub decrement_is : symbol_of (Mark (codes "--")) ≡ symbol.Decrement
unfolding symbol_of mark_symbol punctuators
decrement_is = refl

pub shift_left_is : symbol_of (Mark (codes "<<")) ≡ symbol.ShiftLeft
unfolding symbol_of mark_symbol punctuators
shift_left_is = refl

pub shift_right_is : symbol_of (Mark (codes ">>")) ≡ symbol.ShiftRight
unfolding symbol_of mark_symbol punctuators
shift_right_is = refl

pub shift_right_unsigned_is : symbol_of (Mark (codes ">>>")) ≡ symbol.ShiftRightUnsigned
unfolding symbol_of mark_symbol punctuators
shift_right_unsigned_is = refl

pub bit_and_is : symbol_of (Mark (codes "&")) ≡ symbol.BitAnd
unfolding symbol_of mark_symbol punctuators
bit_and_is = refl

pub bit_or_is : symbol_of (Mark (codes "|")) ≡ symbol.BitOr
unfolding symbol_of mark_symbol punctuators
bit_or_is = refl

pub bit_xor_is : symbol_of (Mark (codes "^")) ≡ symbol.BitXor
unfolding symbol_of mark_symbol punctuators
bit_xor_is = refl

pub not_is : symbol_of (Mark (codes "!")) ≡ symbol.Not
unfolding symbol_of mark_symbol punctuators
not_is = refl

pub complement_is : symbol_of (Mark (codes "~")) ≡ symbol.Complement
unfolding symbol_of mark_symbol punctuators
complement_is = refl

pub and_is : symbol_of (Mark (codes "&&")) ≡ symbol.And
unfolding symbol_of mark_symbol punctuators
and_is = refl

pub or_is : symbol_of (Mark (codes "||")) ≡ symbol.Or
unfolding symbol_of mark_symbol punctuators
or_is = refl

pub question_is : symbol_of (Mark (codes "?")) ≡ symbol.Question
unfolding symbol_of mark_symbol punctuators
question_is = refl

pub colon_is : symbol_of (Mark (codes ":")) ≡ symbol.Colon
unfolding symbol_of mark_symbol punctuators
colon_is = refl

pub assign_is : symbol_of (Mark (codes "=")) ≡ symbol.Assign
unfolding symbol_of mark_symbol punctuators
assign_is = refl

pub plus_assign_is : symbol_of (Mark (codes "+=")) ≡ symbol.PlusAssign
unfolding symbol_of mark_symbol punctuators
plus_assign_is = refl

pub minus_assign_is : symbol_of (Mark (codes "-=")) ≡ symbol.MinusAssign
unfolding symbol_of mark_symbol punctuators
minus_assign_is = refl

pub times_assign_is : symbol_of (Mark (codes "*=")) ≡ symbol.TimesAssign
unfolding symbol_of mark_symbol punctuators
times_assign_is = refl

pub remainder_assign_is : symbol_of (Mark (codes "%=")) ≡ symbol.RemainderAssign
unfolding symbol_of mark_symbol punctuators
remainder_assign_is = refl

pub shift_left_assign_is : symbol_of (Mark (codes "<<=")) ≡ symbol.ShiftLeftAssign
unfolding symbol_of mark_symbol punctuators
shift_left_assign_is = refl

pub shift_right_assign_is : symbol_of (Mark (codes ">>=")) ≡ symbol.ShiftRightAssign
unfolding symbol_of mark_symbol punctuators
shift_right_assign_is = refl

pub shift_right_unsigned_assign_is : symbol_of (Mark (codes ">>>="))
    ≡ symbol.ShiftRightUnsignedAssign
unfolding symbol_of mark_symbol punctuators
shift_right_unsigned_assign_is = refl

pub bit_and_assign_is : symbol_of (Mark (codes "&=")) ≡ symbol.BitAndAssign
unfolding symbol_of mark_symbol punctuators
bit_and_assign_is = refl

pub bit_or_assign_is : symbol_of (Mark (codes "|=")) ≡ symbol.BitOrAssign
unfolding symbol_of mark_symbol punctuators
bit_or_assign_is = refl

pub bit_xor_assign_is : symbol_of (Mark (codes "^=")) ≡ symbol.BitXorAssign
unfolding symbol_of mark_symbol punctuators
bit_xor_assign_is = refl

pub divide_is : symbol_of (Mark (codes "/")) ≡ symbol.Divide
unfolding symbol_of mark_symbol punctuators
divide_is = refl

pub divide_assign_is : symbol_of (Mark (codes "/=")) ≡ symbol.DivideAssign
unfolding symbol_of mark_symbol punctuators
divide_assign_is = refl

-- ---- what is no word and no mark

pub number_is : (value : ℤ) → symbol_of (Number value) ≡ symbol.Number
unfolding symbol_of
number_is value = refl

pub text_is : (units : List ℕ) → symbol_of (Text units) ≡ symbol.Text
unfolding symbol_of
text_is units = refl

pub end_is : symbol_of End ≡ symbol.End
unfolding symbol_of
end_is = refl

pub bad_is : (fault : TokenFault) → symbol_of (Bad fault) ≡ symbol.Foreign
unfolding symbol_of
bad_is fault = refl

-- ---- what is refused

pub eval_is_refused : fault_of (Word (codes "eval")) ≡ Some scope.Eval
unfolding fault_of refused_words
eval_is_refused = refl

pub with_is_refused : fault_of (Word (codes "with")) ≡ Some scope.With
unfolding fault_of refused_words
with_is_refused = refl

pub class_is_refused : fault_of (Word (codes "class")) ≡ Some scope.ReservedWord
unfolding fault_of refused_words
class_is_refused = refl

pub bad_is_refused : (kind : ScopeKind) → fault_of (Bad (Scope kind)) ≡ Some kind
unfolding fault_of
bad_is_refused kind = refl

pub name_is_allowed : fault_of (Word (codes "x")) ≡ None
unfolding fault_of refused_words
name_is_allowed = refl
