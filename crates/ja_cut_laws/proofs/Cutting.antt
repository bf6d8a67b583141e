-- What the lexer finds in a text that goes on: the shapes are those of the text before, and more.
use Rattle.std.proofs.Common.{◌≡◌, ℕ, List, [], ◌∷◌, ◌++◌, Bool, true, false, cond, ◌==◌, ◌&&◌, Option, Some, None, refl, sym, ap, ap₂, ◌∙◌}
use Rattle.std.specs.List.{list_all}
use Rattle.std.proofs.lemmas.Bool.{false≢true}
use Rattle.json.specs.Token.{Token}
use Rattle.json.specs.Text.{content, plain}
use Rattle.json.specs.Word.{head, ends_word, after_number, number_before, is_operator, is_space, word}
use Rattle.json.specs.Lex.{Lexeme, token, string_token, Class, quote, backslash, operator, space, other, class, operator_lexeme, Mode, between, in_word, in_string, in_escape, lex_byte, lex}
use Rattle.ja_cut_laws.proofs.Shapes.{Shape, lexeme_shape, lexeme_shapes, last_is_part}
use Rattle.ja_cut_laws.proofs.Shapes as shape

-- the mode in which the lexer goes on behind a byte, and behind a text
abbrev next_mode : Mode → Class → Mode
next_mode between quote = in_string
next_mode between backslash = in_word
next_mode between operator = between
next_mode between space = between
next_mode between other = in_word
next_mode in_word quote = in_word
next_mode in_word backslash = in_word
next_mode in_word operator = between
next_mode in_word space = between
next_mode in_word other = in_word
next_mode in_string quote = between
next_mode in_string backslash = in_escape
next_mode in_string operator = in_string
next_mode in_string space = in_string
next_mode in_string other = in_string
next_mode in_escape c = in_string

abbrev pub mode_behind : Mode → List ℕ → Mode
mode_behind m [] = m
mode_behind m (x ∷ xs) = mode_behind (next_mode m (class x)) xs

string_part : (o : Option (List ℕ)) → lexeme_shape (token (string_token o)) ≡ shape.part
string_part None = refl
string_part (Some s) = refl

chosen_part : (b : Bool) (t u : Token) → lexeme_shape (token t) ≡ shape.part
    → lexeme_shape (token u) ≡ shape.part → lexeme_shape (token (cond b t u)) ≡ shape.part
chosen_part true t u p q = p
chosen_part false t u p q = q

number_part : (t : List ℕ) (o : Option (List ℕ))
    → lexeme_shape (token (number_before t o)) ≡ shape.part
number_part t None = refl
number_part t (Some r) = chosen_part (ends_word r) _ Token.bad refl refl

word_part : (t : List ℕ) → lexeme_shape (token (word t)) ≡ shape.part
unfolding word
word_part t =
    chosen_part (head t == 116) _ _ (chosen_part _ (Token.boolean true) Token.bad refl refl)
    (chosen_part (head t == 102) _ _ (chosen_part _ (Token.boolean false) Token.bad refl refl)
    (chosen_part (head t == 110) _ _ (chosen_part _ Token.null Token.bad refl refl)
    (number_part t (after_number t))))

-- ---- the shapes of a text that goes on

module _ (x : ℕ) (xs ys : List ℕ)
    (again : (m : Mode) → lexeme_shapes (lex m (xs ++ ys))
    ≡ lexeme_shapes (lex m xs) ++ lexeme_shapes (lex (mode_behind m xs) ys)) where
  byte_more : (m : Mode) (c : Class)
      → lexeme_shapes (lex_byte m c x (xs ++ ys) (λ n. lex n (xs ++ ys)))
      ≡ lexeme_shapes (lex_byte m c x xs (λ n. lex n xs))
      ++ lexeme_shapes (lex (mode_behind (next_mode m c) xs) ys)
  byte_more between quote =
      ap₂ (λ (s : Shape) (ss : List Shape). s ∷ ss)
      (string_part (content plain (xs ++ ys)) ∙ sym (string_part (content plain xs)))
      (again in_string)
  byte_more between backslash = ap (λ ss. shape.part ∷ ss) (again in_word)
  byte_more between operator = ap (λ ss. lexeme_shape (operator_lexeme x) ∷ ss) (again between)
  byte_more between space = again between
  byte_more between other =
      ap₂ (λ (s : Shape) (ss : List Shape). s ∷ ss)
      (word_part (x ∷ (xs ++ ys)) ∙ sym (word_part (x ∷ xs))) (again in_word)
  byte_more in_word quote = again in_word
  byte_more in_word backslash = again in_word
  byte_more in_word operator = ap (λ ss. lexeme_shape (operator_lexeme x) ∷ ss) (again between)
  byte_more in_word space = again between
  byte_more in_word other = again in_word
  byte_more in_string quote = again between
  byte_more in_string backslash = again in_escape
  byte_more in_string operator = again in_string
  byte_more in_string space = again in_string
  byte_more in_string other = again in_string
  byte_more in_escape c = again in_string

pub shapes_more : (xs ys : List ℕ) (m : Mode) → lexeme_shapes (lex m (xs ++ ys))
    ≡ lexeme_shapes (lex m xs) ++ lexeme_shapes (lex (mode_behind m xs) ys)
unfolding lex
shapes_more [] ys m = refl
shapes_more (x ∷ xs) ys m = byte_more x xs ys (shapes_more xs ys) m (class x)

-- ---- a text that ends within a word or a string

abbrev pub is_within : Mode → Bool
is_within between = false
is_within in_word = true
is_within in_string = true
is_within in_escape = true

part_before : (ss : List Shape) → last_is_part false ss ≡ true → last_is_part true ss ≡ true
part_before [] e = absurd (false≢true e)
part_before (shape.opening ∷ ss) e = e
part_before (shape.closing ∷ ss) e = e
part_before (shape.part ∷ ss) e = e
part_before (shape.other ∷ ss) e = e

after_part : (s : Shape) (ss : List Shape) (b : Bool) → s ≡ shape.part
    → last_is_part true ss ≡ true → last_is_part b (s ∷ ss) ≡ true
after_part s ss b is e = ap (λ r. last_is_part b (r ∷ ss)) is ∙ e

mark_no_part : (a b : Bool) (l k : Lexeme) (ss : List Shape)
    → last_is_part a (lexeme_shape l ∷ ss) ≡ last_is_part false ss
    → last_is_part a (lexeme_shape k ∷ ss) ≡ last_is_part false ss
    → last_is_part a (lexeme_shape (cond b l k) ∷ ss) ≡ last_is_part false ss
mark_no_part a true l k ss p q = p
mark_no_part a false l k ss p q = q

-- no operator is a word or a string
after_operator : (x : ℕ) (ss : List Shape) (a : Bool) → last_is_part false ss ≡ true
    → last_is_part a (lexeme_shape (operator_lexeme x) ∷ ss) ≡ true
after_operator x ss a e =
    mark_no_part a (x == 123) _ _ ss refl (mark_no_part a (x == 125) _ _ ss refl
    (mark_no_part a (x == 91) _ _ ss refl (mark_no_part a (x == 93) _ _ ss refl
    (mark_no_part a (x == 44) _ _ ss refl refl)))) ∙ e

module _ (x : ℕ) (xs : List ℕ)
    (again : (m : Mode) → is_within (mode_behind m xs) ≡ true
    → last_is_part (is_within m) (lexeme_shapes (lex m xs)) ≡ true) where
  byte_last : (m : Mode) (c : Class)
      → is_within (mode_behind (next_mode m c) xs) ≡ true
      → last_is_part (is_within m) (lexeme_shapes (lex_byte m c x xs (λ n. lex n xs))) ≡ true
  byte_last between quote e =
      after_part _ _ false (string_part (content plain xs)) (again in_string e)
  byte_last between backslash e = again in_word e
  byte_last between operator e = after_operator x _ false (again between e)
  byte_last between space e = again between e
  byte_last between other e = after_part _ _ false (word_part (x ∷ xs)) (again in_word e)
  byte_last in_word quote e = again in_word e
  byte_last in_word backslash e = again in_word e
  byte_last in_word operator e = after_operator x _ true (again between e)
  byte_last in_word space e = part_before (lexeme_shapes (lex between xs)) (again between e)
  byte_last in_word other e = again in_word e
  byte_last in_string quote e = part_before (lexeme_shapes (lex between xs)) (again between e)
  byte_last in_string backslash e = again in_escape e
  byte_last in_string operator e = again in_string e
  byte_last in_string space e = again in_string e
  byte_last in_string other e = again in_string e
  byte_last in_escape c e = again in_string e

pub last_within : (xs : List ℕ) (m : Mode) → is_within (mode_behind m xs) ≡ true
    → last_is_part (is_within m) (lexeme_shapes (lex m xs)) ≡ true
unfolding lex
last_within [] m e = e
last_within (x ∷ xs) m e = byte_last x xs (last_within xs) m (class x) e

-- ---- a text without a word, a string or a mark

spaced : (q b o s : Bool) (x : ℕ) (xs : List ℕ) (k : Mode → List Lexeme)
    → lexeme_shapes (lex_byte between
    (cond q quote (cond b backslash (cond o operator (cond s space other)))) x xs k) ≡ []
    → (s ≡ true) × (lexeme_shapes (k between) ≡ [])
spaced true b o s x xs k e = absurd (cc)
spaced false true o s x xs k e = absurd (cc)
spaced false false true s x xs k e = absurd (cc)
spaced false false false true x xs k e = (refl, e)
spaced false false false false x xs k e = absurd (cc)

pub all_spaces : (xs : List ℕ) → lexeme_shapes (lex between xs) ≡ []
    → list_all is_space xs ≡ true
unfolding lex
all_spaces [] e = refl
all_spaces (x ∷ xs) e =
    let first = spaced (x == 34) (x == 92) (is_operator x) (is_space x) x xs (λ n. lex n xs) e in
    ap (λ b. b && list_all is_space xs) first.0 ∙ all_spaces xs first.1
