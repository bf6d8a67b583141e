-- What is known of each refusal, from the tokens before it and the rest.
use Rattle.std.proofs.Common.{◌≡◌, ◌≢◌, ◌<◌, true, [], ◌∷◌, ◌++◌, length, refl, ap, ◌∙◌, arith}
use Rattle.std.proofs.lemmas.List.{length-append}
use Rattle.ja_lex.specs.declared.token.Token.{Token}
use Rattle.ja_syntax.specs.declared.symbol.Symbol.TheVariants as k
use Rattle.ja_grammar.specs.declared.fault.Refusal.{Refusal}
use Rattle.ja_grammar.specs.declared.fault.Refusal.TheVariants as refusal
use Rattle.ja_grammar.specs.Input.{Tokens, symbol, next, head, end_token}
use Rattle.ja_grammar.proofs.Good.{Reason, elsewhere}
use Rattle.ja_grammar.proofs.Levels.{Reasons, is_free}

-- the last of the tokens
abbrev pub last : Tokens → Token
last [] = end_token
last (t ∷ []) = t
last (t ∷ (u ∷ w)) = last (u ∷ w)

-- behind other tokens it is the same
pub last_behind : (w : Tokens) (t : Token) (v : Tokens) → last (w ++ t ∷ v) ≡ last (t ∷ v)
last_behind [] t v = refl
last_behind (u ∷ []) t v = refl
last_behind (u ∷ (s ∷ w)) t v = last_behind (s ∷ w) t v

-- what stands before it
pub before_last : (t : Token) (w : Tokens) → (front : Tokens) × (t ∷ w ≡ front ++ last (t ∷ w) ∷ [])
before_last t [] = ([], refl)
before_last t (u ∷ w) = let h = before_last u w in (t ∷ h.0, ap (λ x. t ∷ x) h.1)

-- A token that is too deep is none of the end, and a label if and only if it is `:`; an operand
-- that is complete stands behind its operator.
abbrev pub Known : Refusal → Tokens → Tokens → Type 0
Known refusal.Deep w r = (next r ≢ k.End) × (next r ≢ k.Colon)
Known (refusal.DeepLabel place) w r = (next r ≡ k.Colon) × (0 < length w) × ((last w).place ≡ place)
Known (refusal.Operand place) w r =
    (1 < length w) × (elsewhere (refusal.Operand place) (head r) ≡ true)
Known (refusal.Alone place) w r =
    (0 < length w) × (symbol (last w) ≡ k.Break) × (elsewhere (refusal.Alone place) (head r) ≡ true)
Known _ w r = Unit {0}

pub known_taken : (why : Refusal) (u : Token) (r : Tokens) → Known why [] r → elsewhere why u ≡ true
    → ⊥
known_taken (refusal.Operand place) u r h on = absurd (omega (arith, h.0))
known_taken (refusal.Alone place) u r h on = absurd (omega (arith, h.0))
known_taken refusal.Unexpected u r h on = cc on
known_taken refusal.RegExp u r h on = cc on
known_taken refusal.Arguments u r h on = cc on
known_taken refusal.Deep u r h on = cc on
known_taken (refusal.DeepLabel place) u r h on = cc on
known_taken (refusal.Broken place) u r h on = cc on
known_taken (refusal.UnknownLabel place) u r h on = cc on

abbrev pub known : (O : Refusal) → Reason O
known O = record { right = Known; taken = known_taken }

known_named : (why : Refusal) (t u : Token) (r : Tokens) → symbol t ≡ k.Name → Known why (t ∷ []) r
    → elsewhere why u ≡ true → ⊥
known_named (refusal.Operand place) t u r is h on = absurd (omega (arith, h.0))
known_named (refusal.Alone place) t u r is h on = cc (is, h.1)
known_named refusal.Unexpected t u r is h on = cc on
known_named refusal.RegExp t u r is h on = cc on
known_named refusal.Arguments t u r is h on = cc on
known_named refusal.Deep t u r is h on = cc on
known_named (refusal.DeepLabel place) t u r is h on = cc on
known_named (refusal.Broken place) t u r is h on = cc on
known_named (refusal.UnknownLabel place) t u r is h on = cc on

-- behind more tokens it stays so
same_last : (w v : Tokens) → 0 < length v → (0 < length (w ++ v)) × (last (w ++ v) ≡ last v)
same_last w [] some = absurd (omega (arith, some))
same_last w (t ∷ v) some = (let n = length-append w (t ∷ v) in omega (arith, n), last_behind w t v)

known_closed : (why : Refusal) (w v r : Tokens) → Known why v r → Known why (w ++ v) r
known_closed refusal.Deep w v r h = h
known_closed (refusal.DeepLabel place) w v r h = let s = same_last w v h.1 in
    (h.0, s.0, ap (λ t. t.place) s.1 ∙ h.2)
known_closed (refusal.Operand place) w v r h =
    (let n = length-append w v in omega (arith, n, h.0), h.1)
known_closed (refusal.Alone place) w v r h = let s = same_last w v h.0 in
    (s.0, ap symbol s.1 ∙ h.1, h.2)
known_closed refusal.Unexpected w v r h = tt
known_closed refusal.RegExp w v r h = tt
known_closed refusal.Arguments w v r h = tt
known_closed (refusal.Broken place) w v r h = tt
known_closed (refusal.UnknownLabel place) w v r h = tt

known_free : (why : Refusal) (w r : Tokens) → is_free why ≡ true → Known why w r
known_free refusal.Deep w r h = absurd (cc h)
known_free (refusal.DeepLabel place) w r h = absurd (cc h)
known_free (refusal.Operand place) w r h = absurd (cc h)
known_free (refusal.Alone place) w r h = absurd (cc h)
known_free refusal.Unexpected w r h = tt
known_free refusal.RegExp w r h = tt
known_free refusal.Arguments w r h = tt
known_free (refusal.Broken place) w r h = tt
known_free (refusal.UnknownLabel place) w r h = tt

pub known_reasons : (O : Refusal) → Reasons (known O)
known_reasons O = record {
  closed = known_closed;
  free = known_free;
  deep = λ r more other. (more, other);
  deep_label = λ t r at. (at, omega arith, refl);
  operand = λ place t u w r on. (omega arith, on);
  alone = λ place t r is on. (omega arith, is, on);
  named = known_named;
}
