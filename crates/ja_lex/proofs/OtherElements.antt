-- A mark is read by the rule for marks alone.
use Rattle.std.proofs.Common.{◌≡◌, ℕ, ◌+◌, Bool, true, false, ◌==◌, nat_lt, if◌then◌else◌, List, length, drop, Option, Some, None, Result, Ok, Err}
use Rattle.std.specs.List.{prefix_len, take_while}
use Rattle.ja_prim.specs.declared.primitive.Num.{Num}
use Rattle.ja_prim.specs.declared.primitive.Num.TheVariants.{NaN, Whole}
use Rattle.ja_prim.specs.declared.stop.Stop.{Stop}
use Rattle.ja_prim.specs.Characters.{char_at, is_blank, is_escape, is_part}
use Rattle.ja_prim.specs.Texts.{max_units}
use Rattle.ja_lex.specs.declared.element.Element.{Element}
use Rattle.ja_lex.specs.declared.element.Element.TheVariants as element
use Rattle.ja_lex.specs.declared.strings.Body.{Body}
use Rattle.ja_lex.specs.declared.token.TokenFault.{TokenFault}
use Rattle.ja_lex.specs.declared.token.TokenKind.TheVariants as kind
use Rattle.ja_lex.specs.Blanks.{closed, closing, is_in_line, long_comment}
use Rattle.ja_lex.specs.Marks.{bad, mark}
use Rattle.ja_lex.specs.Numbers.{hexadecimal_digits, is_octal, is_run_into, literal, number, of_value}
use Rattle.ja_lex.specs.Strings.{of_body, body_after, string}
use Rattle.ja_lex.specs.Tokens.{begins_comment, begins_number, begins_string, begins_word, first_element}
use Rattle.ja_lex.specs.Words.{word}

-- not a mark
record IsOther (e : Element) : Type 0 where
  no_mark : (m : List ℕ) (n : ℕ) → e ≡ element.Token (kind.Mark m) n → ⊥

refused : (fault : TokenFault) → IsOther (bad fault)
refused fault = record { no_mark = λ m n h. absurd (cc) }

blank : (k : ℕ) → IsOther (element.Blank k)
blank k = record { no_mark = λ m n h. absurd (cc) }

either : (b : Bool) (e f : Element) → IsOther e → IsOther f → IsOther (if b then e else f)
either true e f h k = h
either false e f h k = k

value_other : (k : ℕ) (r : Result Num Stop) → IsOther (of_value k r)
value_other k (Ok (Whole v)) = record { no_mark = λ m n h. absurd (cc) }
value_other k (Ok NaN) = refused _
value_other k (Err stop) = refused _

literal_other : (cs : List ℕ) (k : ℕ) (value : Result Num Stop) → IsOther (literal cs k value)
literal_other cs k value = either (is_run_into cs k) _ _ (refused _) (value_other k value)

number_other : (cs : List ℕ) → IsOther (number cs)
unfolding number
number_other cs =
    either (is_octal cs) _ _ (refused _) (either (length (hexadecimal_digits cs) == 0) _ _
    (literal_other cs _ _) (literal_other cs _ _))

word_is : (t : List ℕ) (k : ℕ) → IsOther (element.Token (kind.Word t) k)
word_is t k = record { no_mark = λ m n h. absurd (cc) }

word_other : (cs : List ℕ) → IsOther (word cs)
unfolding word
word_other cs =
    either (is_escape cs (prefix_len is_part cs)) _ _ (refused _)
    (either (nat_lt max_units (prefix_len is_part cs)) _ _ (refused _)
    (word_is (take_while is_part cs) (prefix_len is_part cs)))

text_is : (t : List ℕ) (k : ℕ) → IsOther (element.Token (kind.Text t) k)
text_is t k = record { no_mark = λ m n h. absurd (cc) }

body_other : (b : Option Body) → IsOther (of_body b)
body_other None = refused _
body_other (Some b) =
    either b.octal _ _ (refused _) (either (nat_lt max_units (length b.units)) _ _ (refused _)
    (text_is b.units (b.length + 2)))

string_other : (cs : List ℕ) → IsOther (string cs)
unfolding string
string_other cs = body_other (body_after (char_at cs 0) 0 (drop 1 cs))

closed_other : (k : Option ℕ) → IsOther (closed k)
closed_other None = refused _
closed_other (Some k) = blank _

comment_other : (cs : List ℕ) → IsOther (long_comment cs)
unfolding long_comment
comment_other cs = closed_other (closing (drop 2 cs))

-- where the first rule gives no mark, a mark is the second's
second : (b : Bool) (e f : Element) (m : List ℕ) (n : ℕ) → IsOther e
    → (if b then e else f) ≡ element.Token (kind.Mark m) n → f ≡ element.Token (kind.Mark m) n
second true e f m n h k = absurd (h.no_mark m n k)
second false e f m n h k = k

pub from_mark : (text m : List ℕ) (n : ℕ) → first_element text ≡ element.Token (kind.Mark m) n
    → mark text ≡ element.Token (kind.Mark m) n
unfolding first_element
from_mark text m n h =
    let a = second (is_blank (char_at text 0)) _ _ m n (blank 1) h in
    let b = second (begins_comment text 47) _ _ m n (blank (prefix_len is_in_line text)) a in
    let d = second (begins_comment text 42) _ _ m n (comment_other text) b in
    let e = second (begins_number text) _ _ m n (number_other text) d in
    let f = second (begins_word text) _ _ m n (word_other text) e in
    second (begins_string text) _ _ m n (string_other text) f
