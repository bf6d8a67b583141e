-- White space behind a text changes nothing of what the lexer finds.
use Rattle.std.proofs.Common.{◌≡◌, ℕ, ◌+◌, ◌-◌, List, [], ◌∷◌, ◌++◌, length, take, drop, Bool, true, false, cond, ◌==◌, ◌&&◌, ◌||◌, nat_eq, nat_lt, Option, Some, None, option_map, option_and_then, inl, inr, append_assoc, append-nil, refl, sym, ap, ap₂, ◌∙◌, subst, arith}
use Rattle.std.specs.List.{list_all, list_any, prefix_len, starts_with}
use Rattle.std.specs.Char.{is_digit, is_ascii_digit, encode_utf8}
use Rattle.std.proofs.lemmas.Bool.{true≢false, eqb-true, and_parts, and_right, or_cases, or_parts}
use Rattle.std.proofs.lemmas.List.{drop-append-le, take-append-le, length-append}
use Rattle.std.proofs.lemmas.List.Sums.{prefix_len-le-length}
use Rattle.json.specs.Token.{Token, boolean, null, bad, number}
use Rattle.json.specs.Ascii as ascii
use Rattle.json.specs.Text.{code_unit, short_escape, is_high_surrogate, is_low_surrogate, surrogate_pair, Within, plain, after_backslash, after_u, after_high, prepend, content}
use Rattle.json.specs.Word.{is_space, head, ends_word, after_digits, after_minus, after_sign, after_whole, after_fraction, after_exponent, after_number, number_before, literal, word}
use Rattle.json.specs.Lex.{token, string_token, Class, quote, backslash, operator, space, other, class, operator_lexeme, Mode, between, in_word, in_string, in_escape, lex_byte, lex}

by_space : (P : ℕ → Type 0) → P 32 → P 9 → P 10 → P 13 → (y : ℕ) → is_space y ≡ true → P y
by_space P a b c d y is = elim (or_cases _ _ is) [
  | inr e ↦ subst P (sym (eqb-true y 13 e)) d
  | inl k ↦ elim (or_cases _ _ k) [
    | inr e ↦ subst P (sym (eqb-true y 10 e)) c
    | inl l ↦ elim (or_cases _ _ l) [
      | inl e ↦ subst P (sym (eqb-true y 32 e)) a
      | inr e ↦ subst P (sym (eqb-true y 9 e)) b
    ]
  ]
]

none_either : {A : Type 0} (b : Bool) → cond {A = Option A} b None None ≡ None
none_either true = refl
none_either false = refl

not_chosen : {A : Type 0} (b : Bool) (o : Option A) → b ≡ false → cond b o None ≡ None
not_chosen b o e = ap (λ t. cond t o None) e

no_unit : (a b c d : ℕ) → is_digit d 16 ≡ false → code_unit a b c d ≡ None
unfolding code_unit
no_unit a b c d e =
    not_chosen _ _ (and_right (is_digit a 16 && is_digit b 16 && is_digit c 16) (is_digit d 16) e)

module _ (y : ℕ) (is : is_space y ≡ true) where
  -- ---- behind a part of a string

  no_digit : is_digit y 16 ≡ false
  no_digit = by_space (λ x. is_digit x 16 ≡ false) refl refl refl refl y is

  plain_space : content plain (y ∷ []) ≡ None
  unfolding content
  plain_space = by_space (λ x. content plain (x ∷ []) ≡ None) refl refl refl refl y is

  escaped_space : content after_backslash (y ∷ []) ≡ None
  unfolding content short_escape
  escaped_space =
      by_space (λ x. content after_backslash (x ∷ []) ≡ None) refl refl refl refl y is

  pub content_spaced : (w : Within) (xs : List ℕ) → content w (xs ++ y ∷ []) ≡ content w xs
  unfolding content
  content_spaced plain [] = plain_space
  content_spaced plain (x ∷ xs) = λ i.
      cond (x == ascii.quote) (Some []) (cond (x == ascii.backslash)
      (content_spaced after_backslash xs i) (cond (nat_lt x ascii.space) None
      (prepend (x ∷ []) (content_spaced plain xs i))))
  content_spaced after_backslash [] = escaped_space
  content_spaced after_backslash (x ∷ xs) = λ i.
      cond (x == ascii.lower_u) (content_spaced after_u xs i)
      (option_and_then (λ c. prepend (c ∷ []) (content_spaced plain xs i)) (short_escape x))
  content_spaced after_u [] = refl
  content_spaced after_u (a ∷ []) = refl
  content_spaced after_u (a ∷ b ∷ []) = refl
  content_spaced after_u (a ∷ b ∷ c ∷ []) =
      ap (option_and_then (λ u. cond (is_high_surrogate u) (content (after_high u) [])
      (cond (is_low_surrogate u) None (prepend (encode_utf8 u) (content plain [])))))
      (no_unit a b c y no_digit)
  content_spaced after_u (a ∷ b ∷ c ∷ d ∷ xs) = λ i.
      option_and_then (λ u. cond (is_high_surrogate u) (content_spaced (after_high u) xs i)
      (cond (is_low_surrogate u) None (prepend (encode_utf8 u) (content_spaced plain xs i))))
      (code_unit a b c d)
  content_spaced (after_high h) [] = refl
  content_spaced (after_high h) (s ∷ []) = refl
  content_spaced (after_high h) (s ∷ u ∷ []) = refl
  content_spaced (after_high h) (s ∷ u ∷ a ∷ []) = refl
  content_spaced (after_high h) (s ∷ u ∷ a ∷ b ∷ []) = refl
  content_spaced (after_high h) (s ∷ u ∷ a ∷ b ∷ c ∷ []) =
      ap (λ o. cond ((s == ascii.backslash) && (u == ascii.lower_u))
      (option_and_then (λ l. cond (is_low_surrogate l)
      (prepend (encode_utf8 (surrogate_pair h l)) (content plain [])) None) o) None)
      (no_unit a b c y no_digit)
      ∙ none_either ((s == ascii.backslash) && (u == ascii.lower_u))
  content_spaced (after_high h) (s ∷ u ∷ a ∷ b ∷ c ∷ d ∷ xs) = λ i.
      cond ((s == ascii.backslash) && (u == ascii.lower_u))
      (option_and_then (λ l. cond (is_low_surrogate l)
      (prepend (encode_utf8 (surrogate_pair h l)) (content_spaced plain xs i)) None)
      (code_unit a b c d)) None

  -- ---- behind a word

  abbrev longer : List ℕ → List ℕ
  longer t = t ++ y ∷ []

  ends_spaced : (t : List ℕ) → ends_word (longer t) ≡ ends_word t
  ends_spaced [] = by_space (λ x. ends_word (x ∷ []) ≡ true) refl refl refl refl y is
  ends_spaced (x ∷ xs) = refl

  -- whether a text begins with a name, and the name ends there
  abbrev begins : List ℕ → List ℕ → Bool
  begins name t = starts_with nat_eq t name && ends_word (drop (length name) t)

  not_both : (b p q : Bool) → b ≡ false → ((b && p) && q) ≡ false
  not_both b p q e = ap (λ t. (t && p) && q) e

  one_more : (b p q r s : Bool) → (p && q) ≡ (r && s) → ((b && p) && q) ≡ ((b && r) && s)
  one_more true p q r s e = e
  one_more false p q r s e = refl

  begins_spaced : (name t : List ℕ) → list_any (λ c. nat_eq c y) name ≡ false
      → begins name (longer t) ≡ begins name t
  begins_spaced [] t never = ends_spaced t
  begins_spaced (c ∷ cs) [] never = not_both _ _ _ (or_parts (nat_eq c y) _ never).0
  begins_spaced (c ∷ cs) (x ∷ xs) never =
      one_more (nat_eq c x) _ _ _ _ (begins_spaced cs xs (or_parts (nat_eq c y) _ never).1)

  literal_spaced : (name : List ℕ) (k : Token) (t : List ℕ)
      → list_any (λ c. nat_eq c y) name ≡ false → literal name k (longer t) ≡ literal name k t
  literal_spaced name k t never = ap (λ b. cond b k bad) (begins_spaced name t never)

  digits_spaced : (t : List ℕ) → prefix_len is_ascii_digit (longer t) ≡ prefix_len is_ascii_digit t
  digits_spaced [] =
      by_space (λ x. prefix_len is_ascii_digit (x ∷ []) ≡ 0) refl refl refl refl y is
  digits_spaced (x ∷ xs) =
      ap (λ n. cond (is_ascii_digit x) (1 + n) 0) (digits_spaced xs)

  abbrev all_longer : Option (List ℕ) → Option (List ℕ)
  all_longer o = option_map longer o

  cond_longer : (b : Bool) (s t : Option (List ℕ))
      → cond b (all_longer s) (all_longer t) ≡ all_longer (cond b s t)
  cond_longer true s t = refl
  cond_longer false s t = refl

  after_digits_spaced : (t : List ℕ) → after_digits (longer t) ≡ all_longer (after_digits t)
  after_digits_spaced t =
      let n = prefix_len is_ascii_digit t in
      ap (λ m. cond (m == 0) None (Some (drop m (longer t)))) (digits_spaced t)
      ∙ ap (λ r. cond (n == 0) None (Some r))
      (drop-append-le n t (y ∷ []) (prefix_len-le-length is_ascii_digit t))
      ∙ cond_longer (n == 0) None (Some (drop n t))

  -- ---- behind a number, part by part

  is_not : (c : ℕ) → (y == c) ≡ (32 == c) → (t : List ℕ) → (head (longer t) == c) ≡ (head t == c)
  is_not c e [] = e
  is_not c e (x ∷ xs) = refl

  dropped : (b : Bool) (t : List ℕ) → (t ≡ [] → b ≡ false)
      → cond b (drop 1 (longer t)) (longer t) ≡ longer (cond b (drop 1 t) t)
  dropped true [] some = absurd (true≢false (some refl))
  dropped true (x ∷ xs) some = refl
  dropped false t some = refl

  minus_spaced : (t : List ℕ) → after_minus (longer t) ≡ longer (after_minus t)
  minus_spaced t =
      ap (λ b. cond b (drop 1 (longer t)) (longer t))
      (is_not 45 (by_space (λ x. (x == 45) ≡ (32 == 45)) refl refl refl refl y is) t)
      ∙ dropped (head t == 45) t (ap (λ s. head s == 45))

  sign_spaced : (t : List ℕ) → after_sign (longer t) ≡ longer (after_sign t)
  sign_spaced t =
      ap₂ (λ b c. cond (b || c) (drop 1 (longer t)) (longer t))
      (is_not 45 (by_space (λ x. (x == 45) ≡ (32 == 45)) refl refl refl refl y is) t)
      (is_not 43 (by_space (λ x. (x == 43) ≡ (32 == 43)) refl refl refl refl y is) t)
      ∙ dropped ((head t == 45) || (head t == 43)) t
      (ap (λ s. (head s == 45) || (head s == 43)))

  -- one byte is passed, and then f goes on, or g does
  passed : (b : Bool) (f g : List ℕ → Option (List ℕ)) (t : List ℕ) → (t ≡ [] → b ≡ false)
      → ((s : List ℕ) → f (longer s) ≡ all_longer (f s)) → g (longer t) ≡ all_longer (g t)
      → cond b (f (drop 1 (longer t))) (g (longer t)) ≡ all_longer (cond b (f (drop 1 t)) (g t))
  passed true f g [] some p q = absurd (true≢false (some refl))
  passed true f g (x ∷ xs) some p q = p xs
  passed false f g t some p q = q

  whole_spaced : (t : List ℕ) → after_whole (longer t) ≡ all_longer (after_whole t)
  whole_spaced t =
      ap (λ b. cond b (Some (drop 1 (longer t))) (after_digits (longer t)))
      (is_not 48 (by_space (λ x. (x == 48) ≡ (32 == 48)) refl refl refl refl y is) t)
      ∙ passed (head t == 48) Some after_digits t (ap (λ s. head s == 48)) (λ s. refl)
      (after_digits_spaced t)

  fraction_spaced : (t : List ℕ) → after_fraction (longer t) ≡ all_longer (after_fraction t)
  fraction_spaced t =
      ap (λ b. cond b (after_digits (drop 1 (longer t))) (Some (longer t)))
      (is_not 46 (by_space (λ x. (x == 46) ≡ (32 == 46)) refl refl refl refl y is) t)
      ∙ passed (head t == 46) after_digits Some t (ap (λ s. head s == 46)) after_digits_spaced refl

  exponent_spaced : (t : List ℕ) → after_exponent (longer t) ≡ all_longer (after_exponent t)
  exponent_spaced t =
      ap₂ (λ b c. cond (b || c) (after_digits (after_sign (drop 1 (longer t)))) (Some (longer t)))
      (is_not 101 (by_space (λ x. (x == 101) ≡ (32 == 101)) refl refl refl refl y is) t)
      (is_not 69 (by_space (λ x. (x == 69) ≡ (32 == 69)) refl refl refl refl y is) t)
      ∙ passed ((head t == 101) || (head t == 69)) (λ s. after_digits (after_sign s)) Some t
      (ap (λ s. (head s == 101) || (head s == 69)))
      (λ s. ap after_digits (sign_spaced s) ∙ after_digits_spaced (after_sign s)) refl

  then_longer : (f : List ℕ → Option (List ℕ))
      → ((t : List ℕ) → f (longer t) ≡ all_longer (f t)) → (o : Option (List ℕ))
      → option_and_then f (all_longer o) ≡ all_longer (option_and_then f o)
  then_longer f p None = refl
  then_longer f p (Some t) = p t

  number_spaced : (t : List ℕ) → after_number (longer t) ≡ all_longer (after_number t)
  unfolding after_number
  number_spaced t =
      ap (λ s. option_and_then after_exponent (option_and_then after_fraction (after_whole s)))
      (minus_spaced t)
      ∙ ap (λ o. option_and_then after_exponent (option_and_then after_fraction o))
      (whole_spaced (after_minus t))
      ∙ ap (option_and_then after_exponent)
      (then_longer after_fraction fraction_spaced (after_whole (after_minus t)))
      ∙ then_longer after_exponent exponent_spaced
      (option_and_then after_fraction (after_whole (after_minus t)))

  before_spaced : (t : List ℕ) (o : Option (List ℕ))
      → number_before (longer t) (all_longer o) ≡ number_before t o
  before_spaced t None = refl
  before_spaced t (Some r) =
      let n = length t - length r in
      let same : length (longer t) - length (longer r) ≡ n =
      omega (arith, length-append t (y ∷ []), length-append r (y ∷ [])) in
      ap₂ (λ b s. cond b (number s) bad) (ends_spaced r)
      (ap (λ m. take m (longer t)) same ∙ take-append-le n t (y ∷ []) (omega arith))

  name_spaced : (name : List ℕ) (k : Token) (t : List ℕ)
      → ((x : ℕ) → is_space x ≡ true → list_any (λ c. nat_eq c x) name ≡ false)
      → literal name k (longer t) ≡ literal name k t
  name_spaced name k t never = literal_spaced name k t (never y is)

  no_true : (x : ℕ) → is_space x ≡ true → list_any (λ c. nat_eq c x) ascii.true_text ≡ false
  no_true =
      by_space (λ x. list_any (λ c. nat_eq c x) ascii.true_text ≡ false) refl refl refl refl

  no_false : (x : ℕ) → is_space x ≡ true → list_any (λ c. nat_eq c x) ascii.false_text ≡ false
  no_false =
      by_space (λ x. list_any (λ c. nat_eq c x) ascii.false_text ≡ false) refl refl refl refl

  no_null : (x : ℕ) → is_space x ≡ true → list_any (λ c. nat_eq c x) ascii.null_text ≡ false
  no_null =
      by_space (λ x. list_any (λ c. nat_eq c x) ascii.null_text ≡ false) refl refl refl refl

  pub word_spaced : (x : ℕ) (xs : List ℕ) → word (longer (x ∷ xs)) ≡ word (x ∷ xs)
  unfolding word
  word_spaced x xs =
      let t = x ∷ xs in
      λ i. cond (x == ascii.lower_t) (name_spaced ascii.true_text (boolean true) t no_true i)
      (cond (x == ascii.lower_f) (name_spaced ascii.false_text (boolean false) t no_false i)
      (cond (x == ascii.lower_n) (name_spaced ascii.null_text null t no_null i)
      ((ap (number_before (longer t)) (number_spaced t)
      ∙ before_spaced t (after_number t)) i)))

  -- ---- the whole

  module _ (x : ℕ) (xs : List ℕ) (again : (m : Mode) → lex m (longer xs) ≡ lex m xs) where
    byte_spaced : (m : Mode) (c : Class)
        → lex_byte m c x (longer xs) (λ n. lex n (longer xs))
        ≡ lex_byte m c x xs (λ n. lex n xs)
    byte_spaced between quote = λ i.
        token (string_token (content_spaced plain xs i)) ∷ again in_string i
    byte_spaced between backslash = ap (λ ls. token bad ∷ ls) (again in_word)
    byte_spaced between operator = ap (λ ls. operator_lexeme x ∷ ls) (again between)
    byte_spaced between space = again between
    byte_spaced between other = λ i. token (word_spaced x xs i) ∷ again in_word i
    byte_spaced in_word quote = again in_word
    byte_spaced in_word backslash = again in_word
    byte_spaced in_word operator = ap (λ ls. operator_lexeme x ∷ ls) (again between)
    byte_spaced in_word space = again between
    byte_spaced in_word other = again in_word
    byte_spaced in_string quote = again between
    byte_spaced in_string backslash = again in_escape
    byte_spaced in_string operator = again in_string
    byte_spaced in_string space = again in_string
    byte_spaced in_string other = again in_string
    byte_spaced in_escape c = again in_string

  space_alone : (m : Mode) → lex m (y ∷ []) ≡ []
  unfolding lex
  space_alone between = by_space (λ x. lex between (x ∷ []) ≡ []) refl refl refl refl y is
  space_alone in_word = by_space (λ x. lex in_word (x ∷ []) ≡ []) refl refl refl refl y is
  space_alone in_string = by_space (λ x. lex in_string (x ∷ []) ≡ []) refl refl refl refl y is
  space_alone in_escape = by_space (λ x. lex in_escape (x ∷ []) ≡ []) refl refl refl refl y is

  lex_spaced : (xs : List ℕ) (m : Mode) → lex m (longer xs) ≡ lex m xs
  unfolding lex
  lex_spaced [] m = space_alone m
  lex_spaced (x ∷ xs) m = byte_spaced x xs (lex_spaced xs) m (class x)

pub lex_before_spaces : (ys xs : List ℕ) (m : Mode) → list_all is_space ys ≡ true
    → lex m (xs ++ ys) ≡ lex m xs
lex_before_spaces [] xs m blank = ap (lex m) (append-nil xs)
lex_before_spaces (y ∷ ys) xs m blank =
    let both = and_parts (is_space y) (list_all is_space ys) blank in
    ap (lex m) (sym (append_assoc xs (y ∷ []) ys))
    ∙ lex_before_spaces ys (xs ++ y ∷ []) m both.1 ∙ lex_spaced y both.0 xs m
