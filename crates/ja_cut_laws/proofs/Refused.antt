-- What is left of a text that is an object or a list, where it is cut before its end, is no JSON.
use Rattle.std.proofs.Common.{◌≡◌, ℕ, zero, suc, List, [], ◌∷◌, ◌++◌, length, Bool, true, false, Option, Some, None, option_map, option_and_then, append-nil, refl, sym, ap, ◌∙◌}
use Rattle.std.specs.List.{list_all}
use Rattle.std.proofs.lemmas.Bool.{false≢true}
use Rattle.json.specs.Token.{Token}
use Rattle.json.specs.Word.{is_space}
use Rattle.json.specs.Lex.{Mode, between, in_word, in_string, in_escape, fresh, lex, punctuate, tokens}
use Rattle.json.specs.Json as json
use Rattle.json.specs.Json.{Parse, parse_map, value_with, value, if_last, items, members}
use Rattle.json.proofs.Grammar.{left}
use Rattle.serde_json.specs.Data.{Num, Data, number}
use Rattle.serde_json.specs.Read.{number_of, of_json, max_depth, read}
use Rattle.ja_cut_laws.specs.Cuts.{has_brackets, IsCutOff}
use Rattle.ja_cut_laws.proofs.Shapes.{Shape, token_shapes, lexeme_shapes, shapes_in, first, opens, not_found, first_value, punctuated_first, punctuated_opens, first_append, first_last}
use Rattle.ja_cut_laws.proofs.Cutting.{mode_behind, is_within, shapes_more, last_within, all_spaces}
use Rattle.ja_cut_laws.proofs.Spaces.{lex_before_spaces}

-- ---- a text that is read has a value, and no token more

abbrev whole : Option (json.Json × List Token) → Option Data
whole o = option_and_then of_json (option_and_then (λ p. if_last p.0 p.1) o)

nothing_behind : (o : Option (json.Json × List Token)) (d : Data) → whole o ≡ Some d
    → (j : json.Json) × (o ≡ Some (j, [])) × (of_json j ≡ Some d)
nothing_behind None d e = not_found d e
nothing_behind (Some (j, [])) d e = (j, refl, e)
nothing_behind (Some (j, t ∷ ts)) d e = not_found d e

abbrev pub shapes_of : List ℕ → List Shape
shapes_of text = lexeme_shapes (lex between text)

read_first : (text : List ℕ) (d : Data) → read text ≡ Some d
    → first (shapes_of text) ≡ Some []
read_first text d e =
    let found = nothing_behind (value max_depth (tokens text)) d e in
    punctuated_first (lex between text)
    (first_value max_depth (tokens text) [] (ap left found.1))

-- ---- an object or a list begins with a bracket

abbrev json_brackets : json.Json → Bool
json_brackets json.null = false
json_brackets (json.boolean b) = false
json_brackets (json.number s) = false
json_brackets (json.string s) = false
json_brackets (json.array js) = true
json_brackets (json.object ms) = true

abbrev brackets_in : Option Data → Bool
brackets_in None = false
brackets_in (Some d) = has_brackets d

no_brackets : (o : Option Num) → brackets_in (option_map number o) ≡ false
no_brackets None = refl
no_brackets (Some n) = refl

same_brackets : (j : json.Json) → brackets_in (of_json j) ≡ true → json_brackets j ≡ true
same_brackets json.null e = e
same_brackets (json.boolean b) e = e
same_brackets (json.number s) e = absurd (false≢true (sym (no_brackets (number_of s)) ∙ e))
same_brackets (json.string s) e = e
same_brackets (json.array js) e = refl
same_brackets (json.object ms) e = refl

abbrev found_brackets : Option (json.Json × List Token) → Bool
found_brackets None = false
found_brackets (Some p) = json_brackets p.0

opens_with : (a : Parse json.Items) (o : Parse json.Members) (ts : List Token)
    → found_brackets (value_with a o ts) ≡ true → opens (token_shapes ts) ≡ true
opens_with a o [] e = e
opens_with a o (Token.begin_object ∷ ts) e = refl
opens_with a o (Token.end_object ∷ ts) e = e
opens_with a o (Token.begin_array ∷ ts) e = refl
opens_with a o (Token.end_array ∷ ts) e = e
opens_with a o (Token.key s ∷ ts) e = e
opens_with a o (Token.string s ∷ ts) e = e
opens_with a o (Token.number s ∷ ts) e = e
opens_with a o (Token.boolean b ∷ ts) e = e
opens_with a o (Token.null ∷ ts) e = e
opens_with a o (Token.bad ∷ ts) e = e

value_opens : (depth : ℕ) (ts : List Token) → found_brackets (value depth ts) ≡ true
    → opens (token_shapes ts) ≡ true
unfolding value
value_opens zero = opens_with (λ ts. None) (λ ts. None)
value_opens (suc d) =
    opens_with (λ ts. items (value d) (length ts) ts) (λ ts. members (value d) (length ts) ts)

read_opens : (text : List ℕ) (d : Data) → has_brackets d ≡ true → read text ≡ Some d
    → opens (shapes_of text) ≡ true
read_opens text d brackets e =
    let found = nothing_behind (value max_depth (tokens text)) d e in
    punctuated_opens (lex between text) (value_opens max_depth (tokens text)
    (ap found_brackets found.1 ∙ same_brackets found.0 (ap brackets_in found.2 ∙ brackets)))

-- ---- a text and what is left of it

abbrev behind : List ℕ → List ℕ → List Shape
behind text rest = lexeme_shapes (lex (mode_behind between text) rest)

-- both are read: then no word, string or mark is cut off
nothing_more : (text rest : List ℕ) (c d : Data) → read text ≡ Some c
    → read (text ++ rest) ≡ Some d → behind text rest ≡ []
nothing_more text rest c d small whole =
    ap shapes_in (sym (first_append (shapes_of text) (behind text rest) []
    (read_first text c small)) ∙ ap first (sym (shapes_more text rest between))
    ∙ read_first (text ++ rest) d whole)

outside : (m : Mode) → (is_within m ≡ true → ⊥) → m ≡ between
outside between never = refl
outside in_word never = absurd (never refl)
outside in_string never = absurd (never refl)
outside in_escape never = absurd (never refl)

spaces_behind : (text rest : List ℕ) (c d : Data) → has_brackets d ≡ true
    → read text ≡ Some c → read (text ++ rest) ≡ Some d → list_all is_space rest ≡ true
spaces_behind text rest c d brackets small whole =
    let none = nothing_more text rest c d small whole in
    let same : shapes_of (text ++ rest) ≡ shapes_of text =
    shapes_more text rest between ∙ ap (λ ss. shapes_of text ++ ss) none
    ∙ append-nil (shapes_of text) in
    let open_first : opens (shapes_of text) ≡ true =
    ap opens (sym same) ∙ read_opens (text ++ rest) d brackets whole in
    let last = first_last (shapes_of text) open_first (read_first text c small) in
    let out : mode_behind between text ≡ between = outside (mode_behind between text)
    (λ within. false≢true (sym last ∙ last_within text between within)) in
    all_spaces rest (ap (λ m. lexeme_shapes (lex m rest)) (sym out) ∙ none)

unless_read : (o : Option Data) → ((c : Data) → o ≡ Some c → ⊥) → o ≡ None
unless_read None never = refl
unless_read (Some c) never = absurd (never c refl)

pub cut_is_refused : (text : List ℕ) → IsCutOff text → read text ≡ None
cut_is_refused text cut =
    unless_read (read text) (λ c small. false≢true (sym cut.more
    ∙ spaces_behind text cut.rest c cut.value cut.brackets small cut.whole))

pub spaces_change_nothing : (text rest : List ℕ) → list_all is_space rest ≡ true
    → read (text ++ rest) ≡ read text
spaces_change_nothing text rest blank =
    ap (λ ls. whole (value max_depth (punctuate fresh ls)))
    (lex_before_spaces rest text between blank)
