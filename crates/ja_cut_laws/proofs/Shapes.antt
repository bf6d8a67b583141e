-- How brackets open and close, in tokens and in what the lexer finds.
use Rattle.std.proofs.Common.{◌≡◌, ℕ, zero, suc, List, [], ◌∷◌, ◌++◌, length, map, Bool, true, false, Option, Some, None, option_and_then, refl, sym, ap, ◌∙◌, subst}
use Rattle.std.proofs.lemmas.Bool.{false≢true}
use Rattle.std.specs.Prelude.{⊤}
use Rattle.json.specs.Token.{Token}
use Rattle.json.specs.Lex.{Lexeme, token, comma, colon, Place, fresh, after_value, after_comma, after_key, begins_colon, may_begin, may_close, if_allowed, place_token, punctuate}
use Rattle.json.specs.Json.{Json, array, object, Items, item, Members, member, Parse, parse_map, after_end_array, read_key, items_step, members_step, items, members, value_with, value}
use Rattle.json.proofs.Grammar.{left, left-parse_map, closed_array, read_key_is}

pub data Shape : Type 0 where
  opening : Shape
  closing : Shape
  part : Shape
  other : Shape

abbrev pub token_shape : Token → Shape
token_shape Token.begin_object = opening
token_shape Token.end_object = closing
token_shape Token.begin_array = opening
token_shape Token.end_array = closing
token_shape (Token.key s) = other
token_shape (Token.string s) = part
token_shape (Token.number s) = part
token_shape (Token.boolean b) = part
token_shape Token.null = part
token_shape Token.bad = other

-- a string or a word that is bad is one all the same
abbrev pub lexeme_shape : Lexeme → Shape
lexeme_shape (token Token.begin_object) = opening
lexeme_shape (token Token.end_object) = closing
lexeme_shape (token Token.begin_array) = opening
lexeme_shape (token Token.end_array) = closing
lexeme_shape (token (Token.key s)) = part
lexeme_shape (token (Token.string s)) = part
lexeme_shape (token (Token.number s)) = part
lexeme_shape (token (Token.boolean b)) = part
lexeme_shape (token Token.null) = part
lexeme_shape (token Token.bad) = part
lexeme_shape comma = other
lexeme_shape colon = other

abbrev pub token_shapes : List Token → List Shape
token_shapes ts = map token_shape ts

abbrev pub lexeme_shapes : List Lexeme → List Shape
lexeme_shapes ls = map lexeme_shape ls

-- ---- what follows a bracket

abbrev pub out_of : ℕ → List Shape → (ℕ → Option (List Shape)) → Option (List Shape)
out_of zero ss inside = Some ss
out_of (suc n) ss inside = inside n

-- what follows the bracket that closes the last of so many open ones, and one more
abbrev pub closed : ℕ → List Shape → Option (List Shape)
closed n [] = None
closed n (opening ∷ ss) = closed (suc n) ss
closed n (closing ∷ ss) = out_of n ss (λ m. closed m ss)
closed n (part ∷ ss) = closed n ss
closed n (other ∷ ss) = closed n ss

-- .. where one of them was closed before
abbrev pub left_open : ℕ → List Shape → Option (List Shape)
left_open n ss = out_of n ss (λ m. closed m ss)

-- what follows a value
abbrev pub first : List Shape → Option (List Shape)
first [] = None
first (opening ∷ ss) = closed zero ss
first (closing ∷ ss) = None
first (part ∷ ss) = Some ss
first (other ∷ ss) = None

abbrev pub opens : List Shape → Bool
opens [] = false
opens (opening ∷ ss) = true
opens (closing ∷ ss) = false
opens (part ∷ ss) = false
opens (other ∷ ss) = false

-- ---- values are closed

abbrev IsNone : {A : Type 0} → Option A → Type 0
IsNone None = ⊤
IsNone (Some a) = ⊥

pub not_found : {A P : Type 0} (a : A) → None ≡ Some a → P
not_found a e = absurd (subst IsNone e tt)

abbrev tokens_in : Option (List Token) → List Token
tokens_in None = []
tokens_in (Some ts) = ts

abbrev pub shapes_in : Option (List Shape) → List Shape
shapes_in None = []
shapes_in (Some ss) = ss

abbrev AreClosed : Parse Json → Type 0
AreClosed p =
    (ts r : List Token) → left (p ts) ≡ Some r → (n : ℕ)
    → closed n (token_shapes ts) ≡ closed n (token_shapes r)

abbrev Closes : {A : Type 0} → Parse A → Type 0
Closes {A} p =
    (ts r : List Token) → left (p ts) ≡ Some r → (n : ℕ)
    → closed n (token_shapes ts) ≡ left_open n (token_shapes r)

then_more : {B : Type 0} (f : Json → B → B) (more : Parse B) (o : Option (Json × List Token))
    (ss : Option (List Shape)) (n : ℕ) (r : List Token) → Closes more
    → ((x : List Token) → left o ≡ Some x → ss ≡ closed n (token_shapes x))
    → left (option_and_then (λ q. parse_map (f q.0) (more q.1)) o) ≡ Some r
    → ss ≡ left_open n (token_shapes r)
then_more f more None ss n r closes before e = not_found r e
then_more f more (Some q) ss n r closes before e =
    before q.1 refl ∙ closes q.1 r (sym (left-parse_map (f q.0) (more q.1)) ∙ e) n

module _ (p : Parse Json) (are : AreClosed p) where
  item_turn : (more : Parse Items) (ts r : List Token) (o : Option (List Token)) (n : ℕ)
      → Closes more → after_end_array ts ≡ o → left (items_step p more ts o) ≡ Some r
      → closed n (token_shapes ts) ≡ left_open n (token_shapes r)
  item_turn more ts r (Some x) n closes e f =
      ap (λ us. closed n (token_shapes us)) (closed_array ts x e)
      ∙ ap (λ o. left_open n (token_shapes (tokens_in o))) f
  item_turn more ts r None n closes e f =
      then_more item more (p ts) (closed n (token_shapes ts)) n r closes (λ x is. are ts x is n) f

  items_close : (turns : ℕ) → Closes (items p turns)
  unfolding items
  items_close zero ts r e n = not_found r e
  items_close (suc turns) ts r e n =
      item_turn (items p turns) ts r (after_end_array ts) n (items_close turns) refl e

  member_turn : (more : Parse Members) (ts r : List Token)
      (o : Option (Option (List ℕ) × List Token)) (n : ℕ) → Closes more → read_key ts ≡ o
      → left (option_and_then (λ q. members_step p more q.0 q.1) o) ≡ Some r
      → closed n (token_shapes ts) ≡ left_open n (token_shapes r)
  member_turn more ts r None n closes e f = not_found r f
  member_turn more ts r (Some (None, s)) n closes e f =
      ap (λ us. closed n (token_shapes us)) (read_key_is ts None s e)
      ∙ ap (λ o. left_open n (token_shapes (tokens_in o))) f
  member_turn more ts r (Some (Some k, s)) n closes e f =
      ap (λ us. closed n (token_shapes us)) (read_key_is ts (Some k) s e)
      ∙ then_more (member k) more (p s) (closed n (token_shapes s)) n r closes
      (λ x is. are s x is n) f

  members_close : (turns : ℕ) → Closes (members p turns)
  unfolding members
  members_close zero ts r e n = not_found r e
  members_close (suc turns) ts r e n =
      member_turn (members p turns) ts r (read_key ts) n (members_close turns) refl e

module _ (a : Parse Items) (o : Parse Members) (ca : Closes a) (co : Closes o) where
  values_with : AreClosed (value_with a o)
  values_with [] r e n = not_found r e
  values_with (Token.begin_object ∷ ts) r e n =
      co ts r (sym (left-parse_map object (o ts)) ∙ e) (suc n)
  values_with (Token.end_object ∷ ts) r e n = not_found r e
  values_with (Token.begin_array ∷ ts) r e n =
      ca ts r (sym (left-parse_map array (a ts)) ∙ e) (suc n)
  values_with (Token.end_array ∷ ts) r e n = not_found r e
  values_with (Token.key s ∷ ts) r e n = not_found r e
  values_with (Token.string s ∷ ts) r e n = ap (λ x. closed n (token_shapes (tokens_in x))) e
  values_with (Token.number s ∷ ts) r e n = ap (λ x. closed n (token_shapes (tokens_in x))) e
  values_with (Token.boolean b ∷ ts) r e n = ap (λ x. closed n (token_shapes (tokens_in x))) e
  values_with (Token.null ∷ ts) r e n = ap (λ x. closed n (token_shapes (tokens_in x))) e
  values_with (Token.bad ∷ ts) r e n = not_found r e

  first_with : (ts r : List Token) → left (value_with a o ts) ≡ Some r
      → first (token_shapes ts) ≡ Some (token_shapes r)
  first_with [] r e = not_found r e
  first_with (Token.begin_object ∷ ts) r e = co ts r (sym (left-parse_map object (o ts)) ∙ e) 0
  first_with (Token.end_object ∷ ts) r e = not_found r e
  first_with (Token.begin_array ∷ ts) r e = ca ts r (sym (left-parse_map array (a ts)) ∙ e) 0
  first_with (Token.end_array ∷ ts) r e = not_found r e
  first_with (Token.key s ∷ ts) r e = not_found r e
  first_with (Token.string s ∷ ts) r e = ap (λ x. Some (token_shapes (tokens_in x))) e
  first_with (Token.number s ∷ ts) r e = ap (λ x. Some (token_shapes (tokens_in x))) e
  first_with (Token.boolean b ∷ ts) r e = ap (λ x. Some (token_shapes (tokens_in x))) e
  first_with (Token.null ∷ ts) r e = ap (λ x. Some (token_shapes (tokens_in x))) e
  first_with (Token.bad ∷ ts) r e = not_found r e

none_closes : (A : Type 0) → Closes {A = A} (λ ts. None)
none_closes A ts r e n = not_found r e

values_closed : (depth : ℕ) → AreClosed (value depth)
unfolding value
values_closed zero = values_with (λ ts. None) (λ ts. None) (none_closes Items) (none_closes Members)
values_closed (suc d) =
    values_with (λ ts. items (value d) (length ts) ts) (λ ts. members (value d) (length ts) ts)
    (λ ts. items_close (value d) (values_closed d) (length ts) ts)
    (λ ts. members_close (value d) (values_closed d) (length ts) ts)

pub first_value : (depth : ℕ) (ts r : List Token) → left (value depth ts) ≡ Some r
    → first (token_shapes ts) ≡ Some (token_shapes r)
unfolding value
first_value zero = first_with (λ ts. None) (λ ts. None) (none_closes Items) (none_closes Members)
first_value (suc d) =
    first_with (λ ts. items (value d) (length ts) ts) (λ ts. members (value d) (length ts) ts)
    (λ ts. items_close (value d) (values_closed d) (length ts) ts)
    (λ ts. members_close (value d) (values_closed d) (length ts) ts)

-- ---- what is punctuated is closed where the lexer's finds are

allowed_closed : (b : Bool) (t : Token) (k : Place → List Token) (next : Place) (n : ℕ)
    → closed n (token_shapes (if_allowed b t k next)) ≡ Some []
    → closed n (token_shape t ∷ token_shapes (k next)) ≡ Some []
allowed_closed true t k next n e = e
allowed_closed false t k next n e = not_found [] e

-- what is left is closed too, in each place, and nothing is left where no token is
module _ (k : Place → List Token) (ss : List Shape)
    (also : (q : Place) (n : ℕ) → closed n (token_shapes (k q)) ≡ Some []
    → closed n ss ≡ Some []) (ends : token_shapes (k after_value) ≡ [] → ss ≡ []) where
  closing_is : (n : ℕ) → left_open n (token_shapes (k after_value)) ≡ Some []
      → left_open n ss ≡ Some []
  closing_is zero e = ap Some (ends (ap shapes_in e))
  closing_is (suc n) e = also after_value n e

  placed_closed : (p : Place) (t : Token) (colon_next : Bool) (n : ℕ)
      → closed n (token_shapes (place_token p t colon_next k)) ≡ Some []
      → closed n (lexeme_shape (token t) ∷ ss) ≡ Some []
  placed_closed p Token.begin_object b n e =
      also fresh (suc n) (allowed_closed (may_begin p) Token.begin_object k fresh n e)
  placed_closed p Token.end_object b n e =
      closing_is n (allowed_closed (may_close p) Token.end_object k after_value n e)
  placed_closed p Token.begin_array b n e =
      also fresh (suc n) (allowed_closed (may_begin p) Token.begin_array k fresh n e)
  placed_closed p Token.end_array b n e =
      closing_is n (allowed_closed (may_close p) Token.end_array k after_value n e)
  placed_closed p (Token.key s) b n e = not_found [] e
  placed_closed p (Token.string s) true n e =
      also after_key n (allowed_closed (may_begin p) (Token.key s) k after_key n e)
  placed_closed p (Token.string s) false n e =
      also after_value n (allowed_closed (may_begin p) (Token.string s) k after_value n e)
  placed_closed p (Token.number s) b n e =
      also after_value n (allowed_closed (may_begin p) (Token.number s) k after_value n e)
  placed_closed p (Token.boolean v) b n e =
      also after_value n (allowed_closed (may_begin p) (Token.boolean v) k after_value n e)
  placed_closed p Token.null b n e =
      also after_value n (allowed_closed (may_begin p) Token.null k after_value n e)
  placed_closed p Token.bad b n e = not_found [] e

  placed_first : (t : Token) (colon_next : Bool)
      → first (token_shapes (place_token fresh t colon_next k)) ≡ Some []
      → first (lexeme_shape (token t) ∷ ss) ≡ Some []
  placed_first Token.begin_object b e = also fresh 0 e
  placed_first Token.end_object b e = not_found [] e
  placed_first Token.begin_array b e = also fresh 0 e
  placed_first Token.end_array b e = not_found [] e
  placed_first (Token.key s) b e = not_found [] e
  placed_first (Token.string s) true e = not_found [] e
  placed_first (Token.string s) false e = ap Some (ends (ap shapes_in e))
  placed_first (Token.number s) b e = ap Some (ends (ap shapes_in e))
  placed_first (Token.boolean v) b e = ap Some (ends (ap shapes_in e))
  placed_first Token.null b e = ap Some (ends (ap shapes_in e))
  placed_first Token.bad b e = not_found [] e

  placed_opens : (t : Token) (colon_next : Bool)
      → opens (token_shapes (place_token fresh t colon_next k)) ≡ true
      → opens (lexeme_shape (token t) ∷ ss) ≡ true
  placed_opens Token.begin_object b e = refl
  placed_opens Token.end_object b e = absurd (false≢true e)
  placed_opens Token.begin_array b e = refl
  placed_opens Token.end_array b e = absurd (false≢true e)
  placed_opens (Token.key s) b e = absurd (false≢true e)
  placed_opens (Token.string s) true e = absurd (false≢true e)
  placed_opens (Token.string s) false e = absurd (false≢true e)
  placed_opens (Token.number s) b e = absurd (false≢true e)
  placed_opens (Token.boolean v) b e = absurd (false≢true e)
  placed_opens Token.null b e = absurd (false≢true e)
  placed_opens Token.bad b e = absurd (false≢true e)

some_shape : {P : Type 0} (s : Shape) (ss : List Shape) → s ∷ ss ≡ [] → P
some_shape s ss e = cc

some_allowed : {P : Type 0} (b : Bool) (t : Token) (k : Place → List Token) (next : Place)
    → token_shapes (if_allowed b t k next) ≡ [] → P
some_allowed true t k next e = some_shape _ _ e
some_allowed false t k next e = some_shape _ _ e

some_placed : {P : Type 0} (p : Place) (t : Token) (colon_next : Bool) (k : Place → List Token)
    → token_shapes (place_token p t colon_next k) ≡ [] → P
some_placed p Token.begin_object b k e = some_allowed (may_begin p) _ k fresh e
some_placed p Token.end_object b k e = some_allowed (may_close p) _ k after_value e
some_placed p Token.begin_array b k e = some_allowed (may_begin p) _ k fresh e
some_placed p Token.end_array b k e = some_allowed (may_close p) _ k after_value e
some_placed p (Token.key s) b k e = some_shape _ _ e
some_placed p (Token.string s) true k e = some_allowed (may_begin p) (Token.key s) k after_key e
some_placed p (Token.string s) false k e =
    some_allowed (may_begin p) (Token.string s) k after_value e
some_placed p (Token.number s) b k e = some_allowed (may_begin p) _ k after_value e
some_placed p (Token.boolean v) b k e = some_allowed (may_begin p) _ k after_value e
some_placed p Token.null b k e = some_allowed (may_begin p) _ k after_value e
some_placed p Token.bad b k e = some_shape _ _ e

some_after_comma : {P : Type 0} (ls : List Lexeme)
    → token_shapes (punctuate after_comma ls) ≡ [] → P
unfolding punctuate
some_after_comma [] e = some_shape _ _ e
some_after_comma (token t ∷ ls) e =
    some_placed after_comma t (begins_colon ls) (λ next. punctuate next ls) e
some_after_comma (comma ∷ ls) e = some_shape _ _ e
some_after_comma (colon ∷ ls) e = some_shape _ _ e

nothing_left : (ls : List Lexeme) → token_shapes (punctuate after_value ls) ≡ []
    → lexeme_shapes ls ≡ []
unfolding punctuate
nothing_left [] e = refl
nothing_left (token t ∷ ls) e =
    some_placed after_value t (begins_colon ls) (λ next. punctuate next ls) e
nothing_left (comma ∷ ls) e = some_after_comma ls e
nothing_left (colon ∷ ls) e = some_shape _ _ e

punctuated_closed : (ls : List Lexeme) (p : Place) (n : ℕ)
    → closed n (token_shapes (punctuate p ls)) ≡ Some [] → closed n (lexeme_shapes ls) ≡ Some []
unfolding punctuate
punctuated_closed [] fresh n e = not_found [] e
punctuated_closed [] after_value n e = not_found [] e
punctuated_closed [] after_comma n e = not_found [] e
punctuated_closed [] after_key n e = not_found [] e
punctuated_closed (token t ∷ ls) p n e =
    placed_closed (λ next. punctuate next ls) (lexeme_shapes ls) (punctuated_closed ls)
    (nothing_left ls) p t (begins_colon ls) n e
punctuated_closed (comma ∷ ls) fresh n e = not_found [] e
punctuated_closed (comma ∷ ls) after_value n e = punctuated_closed ls after_comma n e
punctuated_closed (comma ∷ ls) after_comma n e = not_found [] e
punctuated_closed (comma ∷ ls) after_key n e = not_found [] e
punctuated_closed (colon ∷ ls) fresh n e = not_found [] e
punctuated_closed (colon ∷ ls) after_value n e = not_found [] e
punctuated_closed (colon ∷ ls) after_comma n e = not_found [] e
punctuated_closed (colon ∷ ls) after_key n e = punctuated_closed ls fresh n e

pub punctuated_first : (ls : List Lexeme) → first (token_shapes (punctuate fresh ls)) ≡ Some []
    → first (lexeme_shapes ls) ≡ Some []
unfolding punctuate
punctuated_first [] e = not_found [] e
punctuated_first (token t ∷ ls) e =
    placed_first (λ next. punctuate next ls) (lexeme_shapes ls) (punctuated_closed ls)
    (nothing_left ls) t (begins_colon ls) e
punctuated_first (comma ∷ ls) e = not_found [] e
punctuated_first (colon ∷ ls) e = not_found [] e

pub punctuated_opens : (ls : List Lexeme) → opens (token_shapes (punctuate fresh ls)) ≡ true
    → opens (lexeme_shapes ls) ≡ true
unfolding punctuate
punctuated_opens [] e = absurd (false≢true e)
punctuated_opens (token t ∷ ls) e =
    placed_opens (λ next. punctuate next ls) (lexeme_shapes ls) (punctuated_closed ls)
    (nothing_left ls) t (begins_colon ls) e
punctuated_opens (comma ∷ ls) e = absurd (false≢true e)
punctuated_opens (colon ∷ ls) e = absurd (false≢true e)

-- ---- lists of shapes, one behind the other

out_append : (n : ℕ) (ss zs rs : List Shape)
    → ((m : ℕ) → closed m ss ≡ Some rs → closed m (ss ++ zs) ≡ Some (rs ++ zs))
    → left_open n ss ≡ Some rs → left_open n (ss ++ zs) ≡ Some (rs ++ zs)
out_append zero ss zs rs again e = ap (λ o. Some (shapes_in o ++ zs)) e
out_append (suc n) ss zs rs again e = again n e

closed_append : (ss zs rs : List Shape) (n : ℕ) → closed n ss ≡ Some rs
    → closed n (ss ++ zs) ≡ Some (rs ++ zs)
closed_append [] zs rs n e = not_found rs e
closed_append (opening ∷ ss) zs rs n e = closed_append ss zs rs (suc n) e
closed_append (closing ∷ ss) zs rs n e = out_append n ss zs rs (closed_append ss zs rs) e
closed_append (part ∷ ss) zs rs n e = closed_append ss zs rs n e
closed_append (other ∷ ss) zs rs n e = closed_append ss zs rs n e

pub first_append : (ss zs rs : List Shape) → first ss ≡ Some rs
    → first (ss ++ zs) ≡ Some (rs ++ zs)
first_append [] zs rs e = not_found rs e
first_append (opening ∷ ss) zs rs e = closed_append ss zs rs 0 e
first_append (closing ∷ ss) zs rs e = not_found rs e
first_append (part ∷ ss) zs rs e = ap (λ o. Some (shapes_in o ++ zs)) e
first_append (other ∷ ss) zs rs e = not_found rs e

-- ---- the last of them

abbrev pub last_is_part : Bool → List Shape → Bool
last_is_part b [] = b
last_is_part b (opening ∷ ss) = last_is_part false ss
last_is_part b (closing ∷ ss) = last_is_part false ss
last_is_part b (part ∷ ss) = last_is_part true ss
last_is_part b (other ∷ ss) = last_is_part false ss

pub closed_last : (ss : List Shape) (n : ℕ) (b : Bool) → closed n ss ≡ Some []
    → last_is_part b ss ≡ false
closed_last [] n b e = not_found [] e
closed_last (opening ∷ ss) n b e = closed_last ss (suc n) false e
closed_last (closing ∷ ss) zero b e = ap (λ o. last_is_part false (shapes_in o)) e
closed_last (closing ∷ ss) (suc n) b e = closed_last ss n false e
closed_last (part ∷ ss) n b e = closed_last ss n true e
closed_last (other ∷ ss) n b e = closed_last ss n false e

pub first_last : (ss : List Shape) → opens ss ≡ true → first ss ≡ Some []
    → last_is_part false ss ≡ false
first_last [] o e = refl
first_last (opening ∷ ss) o e = closed_last ss 0 false e
first_last (closing ∷ ss) o e = absurd (false≢true o)
first_last (part ∷ ss) o e = absurd (false≢true o)
first_last (other ∷ ss) o e = absurd (false≢true o)
