-- JSON that is written without a space is read back, also with a line's end behind it, and is
-- UTF-8 where its strings are.
use Rattle.std.proofs.Common.{◌≡◌, ◌≤◌, ◌<◌, ◌^◌, ℕ, suc, Bool, true, false, cond, ◌&&◌, List, [], ◌∷◌, ◌++◌, Some, refl, sym, ap, ap₂, ◌∙◌, append_assoc, append-nil, arith}
use Rattle.std.specs.List.{list_all, AllByRecursion}
use Rattle.std.specs.Prelude.{Option, option_map, option_and_then}
use Rattle.std.specs.Str.{IsUtf8}
use Rattle.std.proofs.lemmas.Bool.{and_parts}
use Rattle.std.proofs.lemmas.Fmt.{IsAscii-decimal}
use Rattle.std.proofs.lemmas.Str.{IsUtf8-append, IsUtf8-from_ascii}
use lib.Chars.{codes}
use Rattle.json.specs.Token.{Token, begin_object, end_object, begin_array, end_array, key, string, number, boolean, null, bad}
use Rattle.json.specs.Word.{ends_word, word}
use Rattle.json.specs.Lex.{Lexeme, token, comma, colon, string_token, lex, between, fresh, punctuate, tokens}
use Rattle.json.specs.Json as json
use Rattle.json.specs.Print.{escape, quoted, token_text, begins, ends, print_from, print, IsPrintable, ArePrintable}
use Rattle.json.specs.Tree as tree
use Rattle.json.proofs.Printed.Decimals.{IsNumber-decimal}
use Rattle.json.proofs.Printed.Numbers.{lex-number, in_word-ended}
use Rattle.json.proofs.Printed.Strings.{content-escape, lex-escape}
use Rattle.json.proofs.Printed.Tokens.{tokens-print}
use Rattle.json.proofs.Printed.Trees.{value-json_tokens, ArePrintable-json_tokens}
use Rattle.json.proofs.Printed.Utf8.{are_ascii, IsUtf8-are_ascii, IsUtf8-quoted}
use Rattle.serde_json.specs.Data as written
use Rattle.serde_json.specs.Data.{Data, no_members, member, put}
use Rattle.serde_json.specs.Read.{read, of_json, of_items, max_depth}
use Rattle.serde_json.specs.View.{items_of}
use Rattle.serde_json.specs.Written.{comma_if, compact_text, items_outline, items_text, members_text, outline}
use Rattle.serde_json.proofs.Numbers.{number_of-decimal}
use Rattle.serde_json.proofs.Texts.{print-outline}

-- ---- tokens with something behind them

abbrev lexemes_of : Token → List Lexeme
lexemes_of begin_object = token begin_object ∷ []
lexemes_of end_object = token end_object ∷ []
lexemes_of begin_array = token begin_array ∷ []
lexemes_of end_array = token end_array ∷ []
lexemes_of (key s) = token (string s) ∷ colon ∷ []
lexemes_of (string s) = token (string s) ∷ []
lexemes_of (number s) = token (number s) ∷ []
lexemes_of (boolean b) = token (boolean b) ∷ []
lexemes_of null = token null ∷ []
lexemes_of bad = []

lex_quoted : (s r : List ℕ) → lex between (quoted s ++ r) ≡ token (string s) ∷ lex between r
unfolding lex
lex_quoted s r =
    ap (λ l. lex between (34 ∷ l)) (append_assoc (escape s) (34 ∷ []) r)
    ∙ ap₂ (λ o l. token (string_token o) ∷ l) (content-escape s r) (lex-escape s r)

lex_token : (t : Token) (r : List ℕ) → IsPrintable t → (ends t ≡ true → ends_word r ≡ true)
    → lex between (token_text t ++ r) ≡ lexemes_of t ++ lex between r
unfolding lex word
lex_token begin_object r h ended = refl
lex_token end_object r h ended = refl
lex_token begin_array r h ended = refl
lex_token end_array r h ended = refl
lex_token (key s) r h ended =
    ap (lex between) (append_assoc (quoted s) (58 ∷ []) r) ∙ lex_quoted s (58 ∷ r)
lex_token (string s) r h ended = lex_quoted s r
lex_token (number s) r h ended = lex-number s r h (ended refl)
lex_token (boolean true) r h ended =
    ap₂ (λ b l. token (cond b (boolean true) bad) ∷ l) (ended refl) (in_word-ended r (ended refl))
lex_token (boolean false) r h ended =
    ap₂ (λ b l. token (cond b (boolean false) bad) ∷ l) (ended refl) (in_word-ended r (ended refl))
lex_token null r h ended =
    ap₂ (λ b l. token (cond b null bad) ∷ l) (ended refl) (in_word-ended r (ended refl))
lex_token bad r h ended = absurd h

lex_separator : (b : Bool) (r : List ℕ)
    → lex between (cond b (44 ∷ []) [] ++ r) ≡ cond b (comma ∷ []) [] ++ lex between r
unfolding lex
lex_separator true r = refl
lex_separator false r = refl

-- what follows a value ends its last word
value_ends : (ts : List Token) (rest : List ℕ) → ends_word rest ≡ true
    → ends_word (print_from true ts ++ rest) ≡ true
unfolding print_from
value_ends [] rest h = h
value_ends (begin_object ∷ ts) rest h = refl
value_ends (end_object ∷ ts) rest h = refl
value_ends (begin_array ∷ ts) rest h = refl
value_ends (end_array ∷ ts) rest h = refl
value_ends (key s ∷ ts) rest h = refl
value_ends (string s ∷ ts) rest h = refl
value_ends (number s ∷ ts) rest h = refl
value_ends (boolean b ∷ ts) rest h = refl
value_ends (null ∷ ts) rest h = refl
value_ends (bad ∷ ts) rest h = refl

lex_one : (c : Bool) (t : Token) (r : List ℕ) → IsPrintable t → (ends t ≡ true → ends_word r ≡ true)
    → lex between (cond (c && begins t) (44 ∷ []) [] ++ (token_text t ++ r))
    ≡ cond (c && begins t) (comma ∷ []) [] ++ (lexemes_of t ++ lex between r)
lex_one c t r h ended =
    lex_separator (c && begins t) (token_text t ++ r)
    ∙ ap (λ l. cond (c && begins t) (comma ∷ []) [] ++ l) (lex_token t r h ended)

grouped : (a b c d : List ℕ) → (a ++ (b ++ c)) ++ d ≡ a ++ (b ++ (c ++ d))
grouped a b c d = simp append_assoc

-- what has no lexemes changes none of them
lex_behind : (c : Bool) (ts : List Token) (rest : List ℕ) → ArePrintable ts
    → ends_word rest ≡ true → lex between rest ≡ []
    → lex between (print_from c ts ++ rest) ≡ lex between (print_from c ts)
unfolding lex print_from ArePrintable
lex_behind c [] rest h ended none = none
lex_behind c (t ∷ ts) rest h ended none =
    let more : List ℕ = print_from (ends t) ts in
    ap (lex between) (grouped (cond (c && begins t) (44 ∷ []) []) (token_text t) more rest)
    ∙ lex_one c t (more ++ rest) h.0
    (λ e. ap (λ b. ends_word (print_from b ts ++ rest)) e ∙ value_ends ts rest ended)
    ∙ ap (λ l. cond (c && begins t) (comma ∷ []) [] ++ (lexemes_of t ++ l))
    (lex_behind (ends t) ts rest h.1 ended none)
    ∙ sym (lex_one c t more h.0 (λ e. ap (λ b. ends_word (print_from b ts)) e
    ∙ ap ends_word (sym (append-nil (print_from true ts))) ∙ value_ends ts [] refl))

line_end : lex between (10 ∷ []) ≡ []
unfolding lex
line_end = refl

tokens_line : (ts : List Token) → ArePrintable ts → tokens (print ts ++ 10 ∷ []) ≡ ts
tokens_line ts h =
    ap (punctuate fresh) (lex_behind false ts (10 ∷ []) h refl line_end) ∙ tokens-print ts h

-- ---- data that is read back

abbrev whole_of : Option (json.Json × List Token) → Option Data
whole_of o = option_and_then of_json (option_and_then (λ p. json.if_last p.0 p.1) o)

pub record IsReadBack (n : ℕ) (d : Data) : Type 0 where
  pub same : of_json (outline d) ≡ Some d
  pub numbers : tree.HasNumbers (outline d)
  pub shallow : tree.depth (outline d) ≤ n
  pub utf8 : IsUtf8 (compact_text d)

pub line_utf8 : (n : ℕ) (d : Data) → IsReadBack n d → IsUtf8 (compact_text d ++ codes "\n")
line_utf8 n d h =
    IsUtf8-append (compact_text d) (codes "\n") h.utf8 (IsUtf8-are_ascii (codes "\n") refl)

pub line_read : (d : Data) → IsReadBack max_depth d
    → read (compact_text d ++ codes "\n") ≡ Some d
line_read d h =
    let j : json.Json = outline d in
    ap (λ l. read (l ++ 10 ∷ [])) (sym (print-outline d))
    ∙ ap (λ ts. whole_of (json.value max_depth ts))
    (tokens_line (tree.json_tokens j) (ArePrintable-json_tokens j h.numbers)
    ∙ sym (append-nil (tree.json_tokens j)))
    ∙ ap whole_of (value-json_tokens j max_depth [] h.shallow) ∙ h.same

pub string_back : (n : ℕ) (s : List ℕ) → IsUtf8 s → IsReadBack n (written.string s)
string_back n s h = record {
  same = refl;
  numbers = tt;
  shallow = omega arith;
  utf8 = IsUtf8-quoted s h;
}

pub whole_back : (n k : ℕ) → k < 2 ^ 64 → IsReadBack n (written.number (written.unsigned k))
whole_back n k small = record {
  same = ap (option_map written.number) (number_of-decimal k small);
  numbers = IsNumber-decimal k small;
  shallow = omega arith;
  utf8 = IsUtf8-from_ascii _ (IsAscii-decimal k small);
}

-- ---- lists

ascii_then : (x : ℕ) (xs : List ℕ) → are_ascii (x ∷ []) ≡ true → IsUtf8 xs → IsUtf8 (x ∷ xs)
ascii_then x xs small h = IsUtf8-append (x ∷ []) xs (IsUtf8-are_ascii (x ∷ []) small) h

comma_utf8 : (later : Bool) → IsUtf8 (comma_if later)
comma_utf8 true = IsUtf8-are_ascii (44 ∷ []) refl
comma_utf8 false = IsUtf8-are_ascii [] refl

record AreReadBack (n : ℕ) (ds : List Data) : Type 0 where
  same : of_items (items_outline (items_of ds)) ≡ Some (items_of ds)
  numbers : tree.ItemsHaveNumbers (items_outline (items_of ds))
  shallow : tree.items_depth (items_outline (items_of ds)) ≤ n
  utf8 : (later : Bool) → IsUtf8 (items_text later (items_of ds))

items_back : (n : ℕ) (ds : List Data) → AllByRecursion (IsReadBack n) ds → AreReadBack n ds
items_back n [] h = record {
  same = refl;
  numbers = tt;
  shallow = omega arith;
  utf8 = λ later. IsUtf8-are_ascii (93 ∷ []) refl;
}
items_back n (d ∷ ds) h =
    let rest = items_back n ds h.1 in
    record {
      same = rw (h.0.same, rest.same) refl;
      numbers = (h.0.numbers, rest.numbers);
      shallow = omega (arith, h.0.shallow, rest.shallow);
      utf8 = λ later. IsUtf8-append (comma_if later) _ (comma_utf8 later)
          (IsUtf8-append (compact_text d) _ h.0.utf8 (rest.utf8 true));
    }

pub list_back : (n : ℕ) (ds : List Data) → AllByRecursion (IsReadBack n) ds
    → IsReadBack (suc n) (written.array (items_of ds))
list_back n ds h =
    let items = items_back n ds h in
    record {
      same = ap (option_map written.array) items.same;
      numbers = items.numbers;
      shallow = omega (arith, items.shallow);
      utf8 = ascii_then 91 _ refl (items.utf8 false);
    }

module _ (n : ℕ) where
  pub one_item : (a : Data) → IsReadBack n a
      → IsReadBack (suc n) (written.array (items_of (a ∷ [])))
  one_item a h = list_back n (a ∷ []) (h, tt)

  pub two_items : (a b : Data) → IsReadBack n a → IsReadBack n b
      → IsReadBack (suc n) (written.array (items_of (a ∷ b ∷ [])))
  two_items a b h i = list_back n (a ∷ b ∷ []) (h, (i, tt))

  pub four_items : (a b c d : Data) → IsReadBack n a → IsReadBack n b → IsReadBack n c
      → IsReadBack n d → IsReadBack (suc n) (written.array (items_of (a ∷ b ∷ c ∷ d ∷ [])))
  four_items a b c d h i j k = list_back n (a ∷ b ∷ c ∷ d ∷ []) (h, (i, (j, (k, tt))))

  pub five_items : (a b c d e : Data) → IsReadBack n a → IsReadBack n b → IsReadBack n c
      → IsReadBack n d → IsReadBack n e
      → IsReadBack (suc n) (written.array (items_of (a ∷ b ∷ c ∷ d ∷ e ∷ [])))
  five_items a b c d e h i j k l =
      list_back n (a ∷ b ∷ c ∷ d ∷ e ∷ []) (h, (i, (j, (k, (l, tt)))))

-- ---- objects of four and of six members, whose names ascend

names_utf8 : (ks : List (List ℕ)) → list_all are_ascii ks ≡ true → AllByRecursion IsUtf8 ks
names_utf8 [] h = tt
names_utf8 (k ∷ ks) h =
    let both = and_parts (are_ascii k) (list_all are_ascii ks) h in
    (IsUtf8-are_ascii k both.0, names_utf8 ks both.1)

abbrev members_of : List (List ℕ × Data) → written.Members
members_of [] = no_members
members_of (x ∷ xs) = member x.0 x.1 (members_of xs)

members_utf8 : (later : Bool) (xs : List (List ℕ × Data))
    → AllByRecursion (λ (x : List ℕ × Data). IsUtf8 x.0 × IsUtf8 (compact_text x.1)) xs
    → IsUtf8 (members_text later (members_of xs))
members_utf8 later [] h = IsUtf8-are_ascii (125 ∷ []) refl
members_utf8 later (x ∷ xs) h =
    IsUtf8-append (comma_if later) _ (comma_utf8 later)
    (IsUtf8-append (quoted x.0) _ (IsUtf8-quoted x.0 h.0.0)
    (ascii_then 58 _ refl (IsUtf8-append (compact_text x.1) _ h.0.1 (members_utf8 true xs h.1))))

pub four_back : (n : ℕ) (i : List ℕ) (a : Data) (j : List ℕ) (b : Data) (k : List ℕ) (c : Data)
    (l : List ℕ) (d : Data)
    → put l d (put k c (put j b (put i a no_members)))
    ≡ member i a (member j b (member k c (member l d no_members)))
    → list_all are_ascii (i ∷ j ∷ k ∷ l ∷ []) ≡ true
    → IsReadBack n a → IsReadBack n b → IsReadBack n c → IsReadBack n d
    → IsReadBack (suc n) (written.object (member i a (member j b (member k c (member l d
    no_members)))))
four_back n i a j b k c l d order ascii p q r s =
    let names = names_utf8 (i ∷ j ∷ k ∷ l ∷ []) ascii in
    record {
      same = rw (p.same, q.same, r.same, s.same) (ap (λ ms. Some (written.object ms)) order);
      numbers = (p.numbers, (q.numbers, (r.numbers, (s.numbers, tt))));
      shallow = omega (arith, p.shallow, q.shallow, r.shallow, s.shallow);
      utf8 = ascii_then 123 _ refl (members_utf8 false ((i, a) ∷ (j, b) ∷ (k, c) ∷ (l, d) ∷ []) (
        (names.0, p.utf8),
        ((names.1.0, q.utf8), ((names.1.1.0, r.utf8), ((names.1.1.1.0, s.utf8), tt))),
      ));
    }

pub six_back : (n : ℕ) (i : List ℕ) (a : Data) (j : List ℕ) (b : Data) (k : List ℕ) (c : Data)
    (l : List ℕ) (d : Data) (m : List ℕ) (e : Data) (o : List ℕ) (f : Data)
    → put o f (put m e (put l d (put k c (put j b (put i a no_members)))))
    ≡ member i a (member j b (member k c (member l d (member m e (member o f no_members)))))
    → list_all are_ascii (i ∷ j ∷ k ∷ l ∷ m ∷ o ∷ []) ≡ true
    → IsReadBack n a → IsReadBack n b → IsReadBack n c → IsReadBack n d → IsReadBack n e
    → IsReadBack n f
    → IsReadBack (suc n) (written.object (member i a (member j b (member k c (member l d
    (member m e (member o f no_members)))))))
six_back n i a j b k c l d m e o f order ascii p q r s t u =
    let names = names_utf8 (i ∷ j ∷ k ∷ l ∷ m ∷ o ∷ []) ascii in
    record {
      same = rw (p.same, q.same, r.same, s.same, t.same, u.same)
          (ap (λ ms. Some (written.object ms)) order);
      numbers = (p.numbers, (q.numbers, (r.numbers, (s.numbers, (t.numbers, (u.numbers, tt))))));
      shallow = omega (arith, p.shallow, q.shallow, r.shallow, s.shallow, t.shallow, u.shallow);
      utf8 = ascii_then 123 _ refl (members_utf8 false
          ((i, a) ∷ (j, b) ∷ (k, c) ∷ (l, d) ∷ (m, e) ∷ (o, f) ∷ []) (
            (names.0, p.utf8),
            (
              (names.1.0, q.utf8),
              (
                (names.1.1.0, r.utf8),
                (
                  (names.1.1.1.0, s.utf8),
                  ((names.1.1.1.1.0, t.utf8), ((names.1.1.1.1.1.0, u.utf8), tt)),
                ),
              ),
            ),
          ));
    }

pub deeper : (n m : ℕ) (d : Data) → n ≤ m → IsReadBack n d → IsReadBack m d
deeper n m d le h = record {
  same = h.same;
  numbers = h.numbers;
  shallow = omega (arith, h.shallow, le);
  utf8 = h.utf8;
}
