-- A word that some text has is a text by itself.
use Rattle.std.proofs.Common.{◌≡◌, ◌<◌, ℕ, zero, suc, ◌+◌, ◌-◌, Bool, true, false, true≢false, ◌==◌, nat_lt, if◌then◌else◌, List, [], ◌∷◌, ◌++◌, length, Option, Some, None, Result, Ok, Err, drop, refl, sym, ap, ◌∙◌, subst, arith}
use Rattle.std.specs.Char.{len_utf8}
use Rattle.std.specs.List.{list_all, prefix_len, take_while}
use Rattle.std.specs.Str.{chars, IsAscii}
use Rattle.std.proofs.lemmas.Bool.{and_parts}
use Rattle.std.proofs.lemmas.Bool.Decides.{nat_tests}
use Rattle.std.proofs.lemmas.List.Folds.{length-prefix_len}
use Rattle.std.proofs.lemmas.List.Sums.{take_while-cons}
use Rattle.std.proofs.lemmas.Str.{chars-IsAscii}
use Rattle.ja_base.proofs.Tests.{or_left_false}
use Rattle.ja_prim.specs.declared.primitive.Num.{Num}
use Rattle.ja_prim.specs.declared.primitive.Num.TheVariants.{NaN, Whole}
use Rattle.ja_prim.specs.declared.stop.Stop.{Stop}
use Rattle.ja_prim.specs.Characters.{char_at, is_blank, is_digit, is_escape, is_part, is_terminator, is_white}
use Rattle.ja_prim.specs.Texts.{max_units}
use Rattle.ja_lex.specs.declared.element.Element.{Element}
use Rattle.ja_lex.specs.declared.element.Element.TheVariants as element
use Rattle.ja_lex.specs.declared.spot.Spot.{Spot}
use Rattle.ja_lex.specs.declared.strings.Body.{Body}
use Rattle.ja_lex.specs.declared.token.Token.{Token}
use Rattle.ja_lex.specs.declared.token.TokenFault.{TokenFault}
use Rattle.ja_lex.specs.declared.token.TokenKind.TheVariants as kind
use Rattle.ja_lex.specs.Blanks.{closed, closing, is_in_line, long_comment}
use Rattle.ja_lex.specs.Marks.{bad, longest, mark, mark_or, marks, stranger}
use Rattle.ja_lex.specs.Numbers.{hexadecimal_digits, is_octal, is_run_into, literal, number, of_value}
use Rattle.ja_lex.specs.Spots.{after, beginning, ends_line, past, place_at}
use Rattle.ja_lex.specs.Strings.{body_after, of_body, string}
use Rattle.ja_lex.specs.Tokens.{begins_comment, begins_number, begins_string, begins_word, element_length, first_element, is_last, led, line_behind, token, tokens, tokens_after, tokens_of}
use Rattle.ja_lex.specs.Words.{word}
use Rattle.ja_lex.proofs.Classed.{run_all}
use Rattle.ja_lex.proofs.Longest.{if_true, if_false}
use Rattle.ja_grammar.specs.Input.{Tokens}
use Rattle.ja_grammar.proofs.SampleTokens as samples

-- what a word is: letters, digits, `_` and `$`, of which a digit is not the first, and not too many
record IsWord (s : List ℕ) : Type 0 where
  first : ℕ
  others : List ℕ
  split : s ≡ first ∷ others
  begins : is_part first ≡ true
  no_digit : is_digit first ≡ false
  parts : list_all is_part others ≡ true
  few : nat_lt max_units (length s) ≡ false

-- ---- no other element is a word

-- an element that is a word is one of these
record AreWords (e : Element) : Type 0 where
  are : (s : List ℕ) (n : ℕ) → e ≡ element.Token (kind.Word s) n → IsWord s

refused : (fault : TokenFault) → AreWords (bad fault)
refused fault = record { are = λ s n h. absurd (cc) }

blank : (k : ℕ) → AreWords (element.Blank k)
blank k = record { are = λ s n h. absurd (cc) }

-- one of two elements, each of which is read only where the test says so
tested : (b : Bool) (e f : Element) → (b ≡ true → AreWords e) → (b ≡ false → AreWords f)
    → AreWords (if b then e else f)
tested true e f h k = h refl
tested false e f h k = k refl

either : (b : Bool) (e f : Element) → AreWords e → AreWords f → AreWords (if b then e else f)
either b e f h k = tested b e f (λ is. h) (λ is. k)

value_words : (k : ℕ) (r : Result Num Stop) → AreWords (of_value k r)
value_words k (Ok (Whole v)) = record { are = λ s n h. absurd (cc) }
value_words k (Ok NaN) = refused _
value_words k (Err stop) = refused _

literal_words : (cs : List ℕ) (k : ℕ) (value : Result Num Stop) → AreWords (literal cs k value)
literal_words cs k value = either (is_run_into cs k) _ _ (refused _) (value_words k value)

number_words : (cs : List ℕ) → AreWords (number cs)
unfolding number
number_words cs =
    either (is_octal cs) _ _ (refused _) (either (length (hexadecimal_digits cs) == 0) _ _
    (literal_words cs _ _) (literal_words cs _ _))

body_words : (b : Option Body) → AreWords (of_body b)
body_words None = refused _
body_words (Some b) =
    either b.octal _ _ (refused _) (either (nat_lt max_units (length b.units)) _ _ (refused _)
    (record { are = λ s n h. absurd (cc) }))

string_words : (cs : List ℕ) → AreWords (string cs)
unfolding string
string_words cs = body_words (body_after (char_at cs 0) 0 (drop 1 cs))

closed_words : (k : Option ℕ) → AreWords (closed k)
closed_words None = refused _
closed_words (Some k) = blank _

comment_words : (cs : List ℕ) → AreWords (long_comment cs)
unfolding long_comment
comment_words cs = closed_words (closing (drop 2 cs))

mark_words : (cs : List ℕ) → AreWords (mark cs)
unfolding mark
mark_words cs = go (longest [] marks cs)
  where
    go : (m : List ℕ) → AreWords (mark_or (bad (stranger (char_at cs 0))) m)
    go [] = refused _
    go (c ∷ m) = record { are = λ s n h. absurd (cc) }

-- ---- what is read as a word is one

word_words : (c : ℕ) (cs : List ℕ) → begins_number (c ∷ cs) ≡ false → begins_word (c ∷ cs) ≡ true
    → AreWords (word (c ∷ cs))
unfolding word begins_number begins_word
word_words c cs no_number begins =
    tested (is_escape (c ∷ cs) (prefix_len is_part (c ∷ cs))) _ _ (λ h. refused _)
    (λ no_escape. tested (nat_lt max_units (prefix_len is_part (c ∷ cs))) _ _ (λ h. refused _)
    (read no_escape (is_part c) refl))
  where
    read : is_escape (c ∷ cs) (prefix_len is_part (c ∷ cs)) ≡ false → (b : Bool) → is_part c ≡ b
        → nat_lt max_units (prefix_len is_part (c ∷ cs)) ≡ false
        → AreWords (element.Token (kind.Word (take_while is_part (c ∷ cs)))
        (prefix_len is_part (c ∷ cs)))
    read no_escape true part few = record { are = are }
      where
        are : (s : List ℕ) (n : ℕ) → element.Token (kind.Word (take_while is_part (c ∷ cs)))
            (prefix_len is_part (c ∷ cs)) ≡ element.Token (kind.Word s) n → IsWord s
        are s n h = let same : take_while is_part (c ∷ cs) ≡ s = cc in record {
          first = c;
          others = take_while is_part cs;
          split = sym same ∙ (take_while-cons is_part c cs ∙ rw part refl);
          begins = part;
          no_digit = or_left_false (is_digit c) _ no_number;
          parts = run_all is_part is_part (λ x h. h) cs;
          few =
              ap (λ (x : List ℕ). nat_lt max_units (length x)) (sym same)
              ∙ ap (nat_lt max_units) (length-prefix_len is_part (c ∷ cs)) ∙ few;
        }
    read no_escape false part few =
        absurd (true≢false (sym begins ∙ rw part
        (sym (ap (is_escape (c ∷ cs)) (rw part refl)) ∙ no_escape)))

first_words : (c : ℕ) (cs : List ℕ) → AreWords (first_element (c ∷ cs))
unfolding first_element
first_words c cs =
    either (is_blank (char_at (c ∷ cs) 0)) _ _ (blank 1)
    (either (begins_comment (c ∷ cs) 47) _ _ (blank (prefix_len is_in_line (c ∷ cs)))
    (either (begins_comment (c ∷ cs) 42) _ _ (comment_words (c ∷ cs))
    (tested (begins_number (c ∷ cs)) _ _ (λ h. number_words (c ∷ cs)) (λ no_number.
    tested (begins_word (c ∷ cs)) _ _ (λ begins. word_words c cs no_number begins) (λ h.
    either (begins_string (c ∷ cs)) _ _ (string_words (c ∷ cs)) (mark_words (c ∷ cs)))))))

-- those of some tokens are
abbrev AllWords : Tokens → Type 0
AllWords [] = Unit {0}
AllWords (t ∷ ts) = ((s : List ℕ) → t.kind ≡ kind.Word s → IsWord s) × AllWords ts

led_words : (e : Element) (line : Bool) (p q : Spot) (more : Tokens) → AreWords e → AllWords more
    → AllWords (led e line p q more)
led_words (element.Blank n) line p q more h k = k
led_words (element.Token κ n) line p q more h k =
    (λ s is. h.are s n (ap (λ x. element.Token x n) is), go (is_last κ))
  where
    go : (b : Bool) → AllWords (if b then [] else more)
    go true = tt
    go false = k

words_after : (n : ℕ) (line : Bool) (p : Spot) (cs : List ℕ) → AllWords (tokens_after n line p cs)
unfolding tokens_after
words_after zero line p [] = (λ s is. absurd (cc), tt)
words_after (suc n) line p [] = (λ s is. absurd (cc), tt)
words_after (suc n) line p (c ∷ cs) = words_after n line (after p (c ∷ cs)) cs
words_after zero line p (c ∷ cs) =
    let e : Element = first_element (c ∷ cs) in
    led_words e line p (past (element_length e - 1) (after p (c ∷ cs)) cs) _ (first_words c cs)
    (words_after (element_length e - 1) (line_behind e line (c ∷ cs)) (after p (c ∷ cs)) cs)

one_of : (v : Tokens) (u : Token) (w : Tokens) → AllWords (v ++ u ∷ w) → (s : List ℕ)
    → u.kind ≡ kind.Word s → IsWord s
one_of [] u w h = h.0
one_of (t ∷ v) u w h = one_of v u w h.1

is_word : (text : List ℕ) (v : Tokens) (u : Token) (w : Tokens) (s : List ℕ)
    → tokens text ≡ v ++ u ∷ w → u.kind ≡ kind.Word s → IsWord s
unfolding tokens
is_word text v u w s split is =
    one_of v u w (subst AllWords split (words_after
    (if char_at (chars text) 0 == 0xFEFF then 1 else 0) false beginning (chars text))) s is

-- ---- a word by itself

part_small : (c : ℕ) → is_part c ≡ true → c < 128
unfolding is_part
part_small c h = grind (arith, nat_tests)

part_terminator : (c : ℕ) → is_part c ≡ true → is_terminator c ≡ false
unfolding is_part is_terminator
part_terminator c h = grind (arith, nat_tests)

part_white : (c : ℕ) → is_part c ≡ true → is_white c ≡ false
unfolding is_part is_white
part_white c h = grind (arith, nat_tests)

part_slash : (c : ℕ) → is_part c ≡ true → (c == 47) ≡ false
unfolding is_part
part_slash c h = grind (arith, nat_tests)

part_point : (c : ℕ) → is_part c ≡ true → (c == 46) ≡ false
unfolding is_part
part_point c h = grind (arith, nat_tests)

part_mark : (c : ℕ) → is_part c ≡ true → (c == 0xFEFF) ≡ false
unfolding is_part
part_mark c h = grind (arith, nat_tests)

part_length : (c : ℕ) → is_part c ≡ true → len_utf8 c ≡ 1
unfolding is_part
part_length c h = grind (arith, nat_tests)

all_small : (cs : List ℕ) → list_all is_part cs ≡ true → IsAscii cs
all_small [] h i = omega arith
all_small (c ∷ cs) h zero = part_small c (and_parts (is_part c) (list_all is_part cs) h).0
all_small (c ∷ cs) h (suc i) = all_small cs (and_parts (is_part c) (list_all is_part cs) h).1 i

all_pass : (cs : List ℕ) → list_all is_part cs ≡ true
    → (prefix_len is_part cs ≡ length cs) × (take_while is_part cs ≡ cs)
all_pass [] h = (refl, refl)
all_pass (c ∷ cs) h =
    let e = and_parts (is_part c) (list_all is_part cs) h in
    let rest = all_pass cs e.1 in (
      if_true (1 + prefix_len is_part cs) 0 e.0 ∙ ap (λ n. 1 + n) rest.0 ∙ omega arith,
      take_while-cons is_part c cs ∙ rw e.0 (ap (λ (x : List ℕ). c ∷ x) rest.1),
    )

char_past : (cs : List ℕ) → char_at cs (length cs) ≡ 0
char_past [] = refl
char_past (c ∷ cs) = char_past cs

no_escape : (cs : List ℕ) → is_escape cs (length cs) ≡ false
unfolding is_escape
no_escape cs = rw (char_past cs) refl

first_is : (c : ℕ) (cs : List ℕ) → is_part c ≡ true → is_digit c ≡ false
    → list_all is_part cs ≡ true → nat_lt max_units (suc (length cs)) ≡ false
    → first_element (c ∷ cs) ≡ element.Token (kind.Word (c ∷ cs)) (suc (length cs))
unfolding first_element begins_comment begins_number begins_word word
first_is c cs part no_digit parts few =
    let all : list_all is_part (c ∷ cs) ≡ true = rw (part, parts) refl in
    let pass = all_pass (c ∷ cs) all in
    let no_blank : is_blank c ≡ false = rw (part_white c part, part_terminator c part) refl in
    let no_line : begins_comment (c ∷ cs) 47 ≡ false = rw (part_slash c part) refl in
    let no_comment : begins_comment (c ∷ cs) 42 ≡ false = rw (part_slash c part) refl in
    let no_number : begins_number (c ∷ cs) ≡ false = rw (no_digit, part_point c part) refl in
    let begins : begins_word (c ∷ cs) ≡ true = rw part refl in
    if_false _ _ no_blank ∙ if_false _ _ no_line ∙ if_false _ _ no_comment ∙ if_false _ _ no_number
    ∙ if_true _ _ begins
    ∙ if_false _ _ (ap (is_escape (c ∷ cs)) pass.0 ∙ no_escape (c ∷ cs))
    ∙ if_false _ _ (ap (nat_lt max_units) pass.0 ∙ few)
    ∙ ap (λ (x : List ℕ). element.Token (kind.Word x) (prefix_len is_part (c ∷ cs))) pass.1
    ∙ ap (λ n. element.Token (kind.Word (c ∷ cs)) n) pass.0

-- the spot behind so many characters of one line
abbrev behind_by : Spot → ℕ → Spot
behind_by p n = record { offset = p.offset + n; place = place_at p.place.line (p.place.column + n) }

after_part : (p : Spot) (c : ℕ) (cs : List ℕ) → is_part c ≡ true → after p (c ∷ cs) ≡ behind_by p 1
unfolding after ends_line
after_part p c cs h = rw (part_length c h, part_terminator c h) refl

still : (p : Spot) → p ≡ behind_by p 0
still p =
    let a : p.offset + 0 ≡ p.offset = omega arith in
    let b : p.place.column + 0 ≡ p.place.column = omega arith in
    sym (rw (a, b) refl)

moved : (p : Spot) (n : ℕ) → behind_by (behind_by p 1) n ≡ behind_by p (suc n)
moved p n =
    let a : p.offset + 1 + n ≡ p.offset + suc n = omega arith in
    let b : p.place.column + 1 + n ≡ p.place.column + suc n = omega arith in
    rw (a, b) refl

past_parts : (p : Spot) (cs : List ℕ) → list_all is_part cs ≡ true
    → past (length cs) p cs ≡ behind_by p (length cs)
unfolding past
past_parts p [] h = still p
past_parts p (c ∷ cs) h =
    let e = and_parts (is_part c) (list_all is_part cs) h in
    ap (λ q. past (length cs) q cs) (after_part p c cs e.0) ∙ past_parts (behind_by p 1) cs e.1
    ∙ moved p (length cs)

end_after : (line : Bool) (p : Spot) (cs : List ℕ)
    → tokens_after (length cs) line p cs ≡ token kind.End line (past (length cs) p cs)
    (past (length cs) p cs) ∷ []
unfolding tokens_after past
end_after line p [] = refl
end_after line p (c ∷ cs) = end_after line (after p (c ∷ cs)) cs

-- the tokens of a word that is a whole text
alone : (c : ℕ) (cs : List ℕ) → is_part c ≡ true → is_digit c ≡ false → list_all is_part cs ≡ true
    → nat_lt max_units (suc (length cs)) ≡ false
    → tokens (c ∷ cs) ≡ samples.token (kind.Word (c ∷ cs)) (c ∷ cs)
    ∷ samples.end_behind (suc (length cs)) ∷ []
unfolding tokens tokens_after
alone c cs part no_digit parts few =
    ap tokens_of (chars-IsAscii (c ∷ cs) (all_small (c ∷ cs) (rw (part, parts) refl)))
    ∙ ap (λ n. tokens_after n false beginning (c ∷ cs)) (if_false 1 0 (part_mark c part))
    ∙ ap (λ e. led e false beginning (past (element_length e - 1) (after beginning (c ∷ cs)) cs)
    (tokens_after (element_length e - 1) (line_behind e false (c ∷ cs))
    (after beginning (c ∷ cs)) cs))
    (first_is c cs part no_digit parts few)
    ∙ by (suc (length cs) - 1) (omega arith)
  where
    q : Spot
    q = behind_by beginning (suc (length cs))

    there : past (length cs) (after beginning (c ∷ cs)) cs ≡ q
    there =
        ap (λ p. past (length cs) p cs) (after_part beginning c cs part)
        ∙ past_parts (behind_by beginning 1) cs parts ∙ moved beginning (length cs)

    by : (n : ℕ) → n ≡ length cs → token (kind.Word (c ∷ cs)) false beginning
        (past n (after beginning (c ∷ cs)) cs) ∷ tokens_after n false (after beginning (c ∷ cs)) cs
        ≡ samples.token (kind.Word (c ∷ cs)) (c ∷ cs) ∷ samples.end_behind (suc (length cs)) ∷ []
    by n e =
        ap (λ m. token (kind.Word (c ∷ cs)) false beginning (past m (after beginning (c ∷ cs)) cs)
        ∷ tokens_after m false (after beginning (c ∷ cs)) cs) e
        ∙ ap (λ ts. token (kind.Word (c ∷ cs)) false beginning
        (past (length cs) (after beginning (c ∷ cs)) cs) ∷ ts)
        (end_after false (after beginning (c ∷ cs)) cs)
        ∙ ap (λ x. token (kind.Word (c ∷ cs)) false beginning x ∷ token kind.End false x x ∷ [])
        there
        ∙ (let a : 0 + suc (length cs) ≡ suc (length cs) = omega arith in rw a refl)

-- a word that some text has is a text by itself
pub word_alone : (text : List ℕ) (v : Tokens) (u : Token) (w : Tokens) (s : List ℕ)
    → tokens text ≡ v ++ u ∷ w → u.kind ≡ kind.Word s
    → tokens s ≡ samples.token (kind.Word s) s ∷ samples.end_behind (length s) ∷ []
word_alone text v u w s split is =
    let h = is_word text v u w s split is in
    subst (λ x. tokens x ≡ samples.token (kind.Word x) x ∷ samples.end_behind (length x) ∷ [])
    (sym h.split)
    (alone h.first h.others h.begins h.no_digit h.parts
    (sym (ap (λ (x : List ℕ). nat_lt max_units (length x)) h.split) ∙ h.few))
