-- The tokens that complete a text.
use Rattle.std.proofs.Common.{◌≡◌, ℕ, ◌+◌, false, List, [], ◌∷◌, length, refl}
use Rattle.std.specs.Prelude.{codes}
use Rattle.std.specs.Str.{chars}
use Rattle.ja_lex.specs.declared.token.Token.{Token}
use Rattle.ja_lex.specs.declared.token.TokenKind.{TokenKind}
use Rattle.ja_lex.specs.declared.token.TokenKind.TheVariants.{Word, Mark, End}
use Rattle.ja_lex.specs.Marks.{mark, marks, begins_with}
use Rattle.ja_lex.specs.Spots.{after, past, ends_line}
use Rattle.ja_lex.specs.Tokens.{tokens, tokens_after, first_element, begins_comment, begins_number, begins_word, begins_string}
use Rattle.ja_lex.specs.Words.{word}
use Rattle.ja_prim.specs.Characters.{is_white, is_terminator, is_part, is_escape, is_hexadecimal}
use Rattle.ja_syntax.specs.declared.symbol.Symbol.TheVariants as k
use Rattle.ja_syntax.specs.Symbols.{is_arguments, names_arguments}
use Rattle.ja_syntax.proofs.SymbolSamples as symbols
use Rattle.ja_grammar.specs.Input.{Tokens}
use Rattle.ja_grammar.specs.Productions.{Is}
use Rattle.ja_grammar.proofs.Real.{IsRealAfter}

-- the token of this kind that a text of these characters begins with
abbrev pub token : TokenKind → List ℕ → Token
token kind text =
    record {
      kind = kind;
      start = 0;
      end = length text;
      line_before = false;
      place = record { line = 1; column = 1 };
    }

-- the end of a text of so many characters, all of one line
abbrev pub end_behind : ℕ → Token
end_behind n =
    record {
      kind = End;
      start = n;
      end = n;
      line_before = false;
      place = record { line = 1; column = 1 + n };
    }

-- the text of these characters is the token alone
abbrev pub Gives : List ℕ → Token → Type 0
Gives text t = tokens text ≡ t ∷ end_behind (length text) ∷ []

-- so some text has it
given_real : {U : Tokens} (text : List ℕ) (t : Token) → Gives text t → IsRealAfter U t
given_real text t e = record { real = λ names. (text, [], end_behind (length text) ∷ [], e) }

-- ---- words

pub name : Token
name = token (Word (codes "x")) (codes "x")

pub name_is : Is k.Name name
unfolding name
name_is = symbols.name_is

pub name_real : {U : Tokens} → IsRealAfter U name
unfolding name tokens tokens_after chars first_element is_white is_terminator begins_comment
    begins_number begins_word is_part is_escape is_hexadecimal word after past ends_line
name_real = given_real (codes "x") name refl

pub name_is_free : is_arguments name.kind ≡ false
unfolding name is_arguments names_arguments
name_is_free = refl

-- no line terminator stands before it
pub name_line : name.line_before ≡ false
unfolding name
name_line = refl

pub function_word : Token
function_word = token (Word (codes "function")) (codes "function")

pub function_word_is : Is k.Function function_word
unfolding function_word
function_word_is = symbols.function_word_is

-- ---- marks

pub open_parenthesis : Token
open_parenthesis = token (Mark (codes "(")) (codes "(")

pub open_parenthesis_is : Is k.OpenParenthesis open_parenthesis
unfolding open_parenthesis
open_parenthesis_is = symbols.open_parenthesis_is

pub open_parenthesis_real : {U : Tokens} → IsRealAfter U open_parenthesis
unfolding open_parenthesis tokens tokens_after chars first_element is_white is_terminator
    begins_comment begins_number begins_word is_part is_escape is_hexadecimal begins_string mark
    marks begins_with after past ends_line
open_parenthesis_real = given_real (codes "(") open_parenthesis refl

pub close_parenthesis : Token
close_parenthesis = token (Mark (codes ")")) (codes ")")

pub close_parenthesis_is : Is k.CloseParenthesis close_parenthesis
unfolding close_parenthesis
close_parenthesis_is = symbols.close_parenthesis_is

pub close_parenthesis_real : {U : Tokens} → IsRealAfter U close_parenthesis
unfolding close_parenthesis tokens tokens_after chars first_element is_white is_terminator
    begins_comment begins_number begins_word is_part is_escape is_hexadecimal begins_string mark
    marks begins_with after past ends_line
close_parenthesis_real = given_real (codes ")") close_parenthesis refl

pub open_brace : Token
open_brace = token (Mark (codes "{")) (codes "{")

pub open_brace_is : Is k.OpenBrace open_brace
unfolding open_brace
open_brace_is = symbols.open_brace_is

pub open_brace_real : {U : Tokens} → IsRealAfter U open_brace
unfolding open_brace tokens tokens_after chars first_element is_white is_terminator begins_comment
    begins_number begins_word is_part is_escape is_hexadecimal begins_string mark marks begins_with
    after past ends_line
open_brace_real = given_real (codes "{") open_brace refl

pub close_brace : Token
close_brace = token (Mark (codes "}")) (codes "}")

pub close_brace_is : Is k.CloseBrace close_brace
unfolding close_brace
close_brace_is = symbols.close_brace_is

pub close_brace_real : {U : Tokens} → IsRealAfter U close_brace
unfolding close_brace tokens tokens_after chars first_element is_white is_terminator begins_comment
    begins_number begins_word is_part is_escape is_hexadecimal begins_string mark marks begins_with
    after past ends_line
close_brace_real = given_real (codes "}") close_brace refl

pub close_bracket : Token
close_bracket = token (Mark (codes "]")) (codes "]")

pub close_bracket_is : Is k.CloseBracket close_bracket
unfolding close_bracket
close_bracket_is = symbols.close_bracket_is

pub close_bracket_real : {U : Tokens} → IsRealAfter U close_bracket
unfolding close_bracket tokens tokens_after chars first_element is_white is_terminator
    begins_comment begins_number begins_word is_part is_escape is_hexadecimal begins_string mark
    marks begins_with after past ends_line
close_bracket_real = given_real (codes "]") close_bracket refl

pub dot : Token
dot = token (Mark (codes ".")) (codes ".")

pub dot_is : Is k.Dot dot
unfolding dot
dot_is = symbols.dot_is

pub dot_real : {U : Tokens} → IsRealAfter U dot
unfolding dot tokens tokens_after chars first_element is_white is_terminator begins_comment
    begins_number begins_word is_part is_escape is_hexadecimal begins_string mark marks begins_with
    after past ends_line
dot_real = given_real (codes ".") dot refl

pub comma : Token
comma = token (Mark (codes ",")) (codes ",")

pub comma_is : Is k.Comma comma
unfolding comma
comma_is = symbols.comma_is

pub colon : Token
colon = token (Mark (codes ":")) (codes ":")

pub colon_is : Is k.Colon colon
unfolding colon
colon_is = symbols.colon_is

pub colon_real : {U : Tokens} → IsRealAfter U colon
unfolding colon tokens tokens_after chars first_element is_white is_terminator begins_comment
    begins_number begins_word is_part is_escape is_hexadecimal begins_string mark marks begins_with
    after past ends_line
colon_real = given_real (codes ":") colon refl

pub semicolon : Token
semicolon = token (Mark (codes ";")) (codes ";")

pub semicolon_is : Is k.Semicolon semicolon
unfolding semicolon
semicolon_is = symbols.semicolon_is

pub semicolon_real : {U : Tokens} → IsRealAfter U semicolon
unfolding semicolon tokens tokens_after chars first_element is_white is_terminator begins_comment
    begins_number begins_word is_part is_escape is_hexadecimal begins_string mark marks begins_with
    after past ends_line
semicolon_real = given_real (codes ";") semicolon refl

-- ---- words of statements

pub while_word : Token
while_word = token (Word (codes "while")) (codes "while")

pub while_word_is : Is k.While while_word
unfolding while_word
while_word_is = symbols.while_word_is

pub while_word_real : {U : Tokens} → IsRealAfter U while_word
unfolding while_word tokens tokens_after chars first_element is_white is_terminator begins_comment
    begins_number begins_word is_part is_escape is_hexadecimal word after past ends_line
while_word_real = given_real (codes "while") while_word refl

pub finally_word : Token
finally_word = token (Word (codes "finally")) (codes "finally")

pub finally_word_is : Is k.Finally finally_word
unfolding finally_word
finally_word_is = symbols.finally_word_is

pub finally_word_real : {U : Tokens} → IsRealAfter U finally_word
unfolding finally_word tokens tokens_after chars first_element is_white is_terminator begins_comment
    begins_number begins_word is_part is_escape is_hexadecimal word after past ends_line
finally_word_real = given_real (codes "finally") finally_word refl
