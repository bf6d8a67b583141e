-- What the texts of the built-in functions have in common.
use Rattle.std.specs.Prelude.{ℕ, List, [], ◌∷◌, ◌++◌, filter, map}
use Rattle.std.specs.List.{flat_map}
use lib.Chars.{codes}
use Rattle.ja_prelude.specs.Table.{is_word, words}
use Rattle.ja_prelude.specs.Functions.{PathAndText, functions}

-- the texts of the functions
abbrev pub prelude_texts : List (List ℕ)
prelude_texts = map (λ f. f.1) functions

-- the texts at some paths
abbrev pub texts_at : List (List ℕ) → List PathAndText
texts_at paths = filter (λ f. is_word f.0 paths) functions

-- ---- errors

-- the kinds of errors (15.11.1, 15.11.6)
abbrev pub error_kinds : List (List ℕ)
error_kinds = words "Error EvalError RangeError ReferenceError SyntaxError TypeError URIError"

-- What makes an error of a kind: a new one, which has the text of the argument as its `message`
-- where that isn't undefined.
abbrev pub error_text : List ℕ → List ℕ
error_text kind =
    codes "function " ++ kind ++ codes "(message) { var error = $make_" ++ kind ++ codes "(); "
    ++ codes "if (message !== void 0) { $put(error, 'message', $text(message)); } "
    ++ codes "return error; }"

-- so it is where the function is called (15.11.1.1, 15.11.7.2), and where it constructs (15.11.2.1,
-- 15.11.7.4)
abbrev pub texts_of_kind : List ℕ → List PathAndText
texts_of_kind kind = (kind, error_text kind) ∷ (kind, error_text kind) ∷ []

abbrev pub error_texts : List PathAndText
error_texts = flat_map texts_of_kind error_kinds
