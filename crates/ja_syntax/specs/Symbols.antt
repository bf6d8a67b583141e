-- What the grammar sees of a token (ES3 section 7).
use Rattle.std.specs.Prelude.{ℕ, ℤ, pos, Bool, false, if◌then◌else◌, is_some, List, [], ◌∷◌, map, codes, Option, Some, None, unwrap_or}
use denote.Enum.Bare.{sameb}
use Rattle.std.specs.Str.{bytes_eq}
use Rattle.ja_base.specs.declared.ids.ScopeKind.{ScopeKind}
use Rattle.ja_base.specs.declared.ids.ScopeKind.TheVariants as scope
use Rattle.ja_lex.specs.declared.token.TokenKind.{TokenKind}
use Rattle.ja_lex.specs.declared.token.TokenKind.TheVariants.{Word, Number, Text, Mark, End, Bad}
use Rattle.ja_lex.specs.declared.token.TokenFault.{TokenFault}
use Rattle.ja_lex.specs.declared.token.TokenFault.TheVariants.{Scope, Lexical}
use Rattle.ja_syntax.specs.contracts.symbol.Symbol.{the_type}
use Rattle.ja_syntax.specs.Lookups.{lookup}
use Rattle.ja_syntax.specs.declared.symbol.Symbol.{Symbol}
use Rattle.ja_syntax.specs.declared.symbol.Symbol.TheVariants as symbol

-- the keywords (7.5.2) but `with`, and `null`, `true` and `false` (7.8.1, 7.8.2)
unfoldable pub keywords : List (List ℕ × Symbol)
keywords =
    (codes "break", symbol.Break) ∷ (codes "case", symbol.Case) ∷ (codes "catch", symbol.Catch)
    ∷ (codes "continue", symbol.Continue) ∷
    (codes "default", symbol.Default) ∷ (codes "delete", symbol.Delete) ∷ (codes "do", symbol.Do)
    ∷ (codes "else", symbol.Else) ∷
    (codes "false", symbol.False) ∷ (codes "finally", symbol.Finally) ∷ (codes "for", symbol.For)
    ∷ (codes "function", symbol.Function) ∷
    (codes "if", symbol.If) ∷ (codes "in", symbol.In) ∷ (codes "instanceof", symbol.Instanceof)
    ∷ (codes "new", symbol.New) ∷
    (codes "null", symbol.Null) ∷ (codes "return", symbol.Return) ∷ (codes "switch", symbol.Switch)
    ∷ (codes "this", symbol.This) ∷
    (codes "throw", symbol.Throw) ∷ (codes "true", symbol.True) ∷ (codes "try", symbol.Try)
    ∷ (codes "typeof", symbol.Typeof) ∷
    (codes "var", symbol.Var) ∷ (codes "void", symbol.Void) ∷ (codes "while", symbol.While) ∷ []

-- the future reserved words (7.5.3)
abbrev pub future_words : List (List ℕ)
future_words =
    codes "abstract" ∷ codes "boolean" ∷ codes "byte" ∷ codes "char" ∷ codes "class" ∷ codes "const"
    ∷ codes "debugger" ∷ codes "double" ∷
    codes "enum" ∷ codes "export" ∷ codes "extends" ∷ codes "final" ∷ codes "float" ∷ codes "goto"
    ∷ codes "implements" ∷ codes "import" ∷
    codes "int" ∷ codes "interface" ∷ codes "long" ∷ codes "native" ∷ codes "package"
    ∷ codes "private" ∷ codes "protected" ∷ codes "public" ∷
    codes "short" ∷ codes "static" ∷ codes "super" ∷ codes "synchronized" ∷ codes "throws"
    ∷ codes "transient" ∷ codes "volatile" ∷ []

-- the words that leave the profile, with the kind of their refusal
unfoldable pub refused_words : List (List ℕ × ScopeKind)
refused_words =
    (codes "eval", scope.Eval) ∷ (codes "with", scope.With)
    ∷ map (λ word. (word, scope.ReservedWord)) future_words

-- the punctuators (7.7)
unfoldable pub punctuators : List (List ℕ × Symbol)
punctuators =
    (codes "{", symbol.OpenBrace) ∷ (codes "}", symbol.CloseBrace)
    ∷ (codes "(", symbol.OpenParenthesis) ∷ (codes ")", symbol.CloseParenthesis) ∷
    (codes "[", symbol.OpenBracket) ∷ (codes "]", symbol.CloseBracket) ∷ (codes ".", symbol.Dot)
    ∷ (codes ";", symbol.Semicolon) ∷
    (codes ",", symbol.Comma) ∷ (codes "<", symbol.Less) ∷ (codes ">", symbol.Greater)
    ∷ (codes "<=", symbol.LessEqual) ∷
    (codes ">=", symbol.GreaterEqual) ∷ (codes "==", symbol.Equal) ∷ (codes "!=", symbol.NotEqual)
    ∷ (codes "===", symbol.StrictEqual) ∷
    (codes "!==", symbol.StrictNotEqual) ∷ (codes "+", symbol.Plus) ∷ (codes "-", symbol.Minus)
    ∷ (codes "*", symbol.Times) ∷
    (codes "%", symbol.Remainder) ∷ (codes "++", symbol.Increment) ∷ (codes "--", symbol.Decrement)
    ∷ (codes "<<", symbol.ShiftLeft) ∷
    (codes ">>", symbol.ShiftRight) ∷ (codes ">>>", symbol.ShiftRightUnsigned)
    ∷ (codes "&", symbol.BitAnd) ∷ (codes "|", symbol.BitOr) ∷
    (codes "^", symbol.BitXor) ∷ (codes "!", symbol.Not) ∷ (codes "~", symbol.Complement)
    ∷ (codes "&&", symbol.And) ∷ (codes "||", symbol.Or) ∷
    (codes "?", symbol.Question) ∷ (codes ":", symbol.Colon) ∷ (codes "=", symbol.Assign)
    ∷ (codes "+=", symbol.PlusAssign) ∷
    (codes "-=", symbol.MinusAssign) ∷ (codes "*=", symbol.TimesAssign)
    ∷ (codes "%=", symbol.RemainderAssign) ∷
    (codes "<<=", symbol.ShiftLeftAssign) ∷ (codes ">>=", symbol.ShiftRightAssign)
    ∷ (codes ">>>=", symbol.ShiftRightUnsignedAssign) ∷
    (codes "&=", symbol.BitAndAssign) ∷ (codes "|=", symbol.BitOrAssign)
    ∷ (codes "^=", symbol.BitXorAssign) ∷ (codes "/", symbol.Divide) ∷
    (codes "/=", symbol.DivideAssign) ∷ []

-- a word is a keyword, a word that leaves the profile, or else a name (7.5, 7.6)
unfoldable pub word_symbol : List ℕ → Symbol
word_symbol word =
    unwrap_or (lookup keywords word) (if is_some (lookup refused_words word) then symbol.Foreign
    else symbol.Name)

-- the symbol of a mark (7.7)
unfoldable pub mark_symbol : List ℕ → Symbol
mark_symbol mark = unwrap_or (lookup punctuators mark) symbol.Foreign

-- the symbol of a token
unfoldable pub symbol_of : TokenKind → Symbol
symbol_of (Word text) = word_symbol text
symbol_of (Number value) = symbol.Number
symbol_of (Text units) = symbol.Text
symbol_of (Mark text) = mark_symbol text
symbol_of End = symbol.End
symbol_of (Bad fault) = symbol.Foreign

-- the scope that a token which is bad leaves
abbrev pub scope_of_fault : TokenFault → Option ScopeKind
scope_of_fault (Scope kind) = Some kind
scope_of_fault Lexical = None

-- What a token that no rule takes is refused with: a scope, or (None) Syntax.
unfoldable pub fault_of : TokenKind → Option ScopeKind
fault_of (Word text) = lookup refused_words text
fault_of (Number value) = None
fault_of (Text units) = None
fault_of (Mark text) = None
fault_of End = None
fault_of (Bad fault) = scope_of_fault fault

-- the text of a word, and else nothing
unfoldable pub word_of : TokenKind → List ℕ
word_of (Word text) = text
word_of (Number value) = []
word_of (Text units) = []
word_of (Mark text) = []
word_of End = []
word_of (Bad fault) = []

-- the units of a string literal, and else none
unfoldable pub units_of : TokenKind → List ℕ
units_of (Word text) = []
units_of (Number value) = []
units_of (Text units) = units
units_of (Mark text) = []
units_of End = []
units_of (Bad fault) = []

-- the value of a numeric literal, and else 0
unfoldable pub number_of : TokenKind → ℤ
number_of (Word text) = pos 0
number_of (Number value) = value
number_of (Text units) = pos 0
number_of (Mark text) = pos 0
number_of End = pos 0
number_of (Bad fault) = pos 0

-- the name `arguments` (10.1.8)
unfoldable pub names_arguments : List ℕ → Bool
names_arguments name = bytes_eq (codes "arguments") name

-- whether a token is the word `arguments`
unfoldable pub is_arguments : TokenKind → Bool
is_arguments (Word text) = names_arguments text
is_arguments (Number value) = false
is_arguments (Text units) = false
is_arguments (Mark text) = false
is_arguments End = false
is_arguments (Bad fault) = false

-- whether two symbols are the same
unfoldable pub same_symbol : Symbol → Symbol → Bool
same_symbol = sameb the_type
