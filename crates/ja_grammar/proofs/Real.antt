-- Tokens that some text has, where the names before them are in some text.
use Rattle.std.proofs.Common.{◌≡◌, ◌⊎◌, inl, inr, [], ◌∷◌, ◌++◌, refl, sym, ap, ◌∙◌, subst, append_assoc}
use Rattle.ja_lex.specs.declared.token.Token.{Token}
use Rattle.ja_syntax.specs.declared.symbol.Symbol.TheVariants as k
use Rattle.ja_grammar.specs.Input.{Tokens, symbol, behind}
use Rattle.ja_grammar.specs.Language.{IsReal, AreReal}

-- some text has each of the names among these tokens
abbrev pub AreNamesReal : Tokens → Type 0
AreNamesReal U =
    (v : Tokens) (u : Token) (w : Tokens) → U ≡ v ++ u ∷ w → symbol u ≡ k.Name → IsReal u

-- where it has, some text has this token
pub record IsRealAfter (U : Tokens) (t : Token) : Type 0 where
  pub real : AreNamesReal U → IsReal t

-- and each of these
abbrev pub AreRealAfter : Tokens → Tokens → Type 0
AreRealAfter U [] = Unit {0}
AreRealAfter U (t ∷ i) = IsRealAfter U t × AreRealAfter U i

pub reals : (U i : Tokens) → AreNamesReal U → AreRealAfter U i → AreReal i
reals U [] names h = tt
reals U (t ∷ i) names h = (h.0.real names, reals U i names h.1)

-- those of a front are
pub names_front : (i v w : Tokens) → i ≡ v ++ w → AreNamesReal i → AreNamesReal v
names_front i v w split names a u b e is =
    names a u (b ++ w) (split ∙ ap (λ x. x ++ w) e ∙ append_assoc a (u ∷ b) w) is

-- ---- the tokens before

-- the token is one of these
abbrev pub Has : Token → Tokens → Type 0
Has u [] = ⊥
Has u (t ∷ v) = (t ≡ u) ⊎ Has u v

-- each of those is one of these
abbrev pub Covers : Tokens → Tokens → Type 0
Covers v w = (u : Token) → Has u v → Has u w

has_between : (v : Tokens) (u : Token) (w : Tokens) → Has u (v ++ u ∷ w)
has_between [] u w = inl refl
has_between (t ∷ v) u w = inr (has_between v u w)

split_at : (u : Token) (i : Tokens) → Has u i → (v : Tokens) × (w : Tokens) × (i ≡ v ++ u ∷ w)
split_at u [] h = absurd h
split_at u (t ∷ i) (inl e) = ([], i, ap (λ x. x ∷ i) e)
split_at u (t ∷ i) (inr h) = let s = split_at u i h in (t ∷ s.0, s.1, ap (λ x. t ∷ x) s.2)

has_front : (u : Token) (v w : Tokens) → Has u v → Has u (v ++ w)
has_front u [] w h = absurd h
has_front u (t ∷ v) w (inl e) = inl e
has_front u (t ∷ v) w (inr h) = inr (has_front u v w h)

has_behind : (u : Token) (v w : Tokens) → Has u w → Has u (v ++ w)
has_behind u [] w h = h
has_behind u (t ∷ v) w h = inr (has_behind u v w h)

has_either : (u : Token) (v w : Tokens) → Has u (v ++ w) → Has u v ⊎ Has u w
has_either u [] w h = inr h
has_either u (t ∷ v) w (inl e) = inl (inl e)
has_either u (t ∷ v) w (inr h) = go (has_either u v w h)
  where
    go : Has u v ⊎ Has u w → ((t ≡ u) ⊎ Has u v) ⊎ Has u w
    go (inl a) = inl (inr a)
    go (inr b) = inr b

-- more tokens behind them
pub covers_front : (v w : Tokens) → Covers v (v ++ w)
covers_front v w u h = has_front u v w h

-- more tokens between them
pub covers_between : (v m w : Tokens) → Covers (v ++ w) (v ++ (m ++ w))
covers_between v m w u h = go (has_either u v w h)
  where
    go : Has u v ⊎ Has u w → Has u (v ++ (m ++ w))
    go (inl a) = has_front u v (m ++ w) a
    go (inr b) = has_behind u v (m ++ w) (has_behind u m w b)

-- one of the tokens between them, written before them
pub covers_first : (t : Token) (v m w : Tokens) → Has t m → Covers (t ∷ v ++ w) (v ++ (m ++ w))
covers_first t v m w h u (inl e) =
    has_behind u v (m ++ w) (has_front u m w (subst (λ x. Has x m) e h))
covers_first t v m w h u (inr a) = covers_between v m w u a

-- nothing
pub covers_nothing : (v : Tokens) → Covers [] v
covers_nothing v u h = absurd h

-- ---- what is real behind some tokens is so behind more

pub real_more : (v w : Tokens) → Covers v w → (t : Token) → IsRealAfter v t → IsRealAfter w t
real_more v w covers t h = record {
  real =
      λ names. h.real (λ a u b e is. let s = split_at u w
      (covers u (subst (λ x. Has u x) (sym e) (has_between a u b))) in names s.0 u s.1 s.2 is);
}

pub reals_more : (v w : Tokens) → Covers v w → (c : Tokens) → AreRealAfter v c → AreRealAfter w c
reals_more v w covers [] h = tt
reals_more v w covers (t ∷ c) h = (real_more v w covers t h.0, reals_more v w covers c h.1)

-- ---- one behind the other

pub real_append : (U v w : Tokens) → AreRealAfter U v → AreRealAfter U w → AreRealAfter U (v ++ w)
real_append U [] w h g = g
real_append U (t ∷ v) w h g = (h.0, real_append U v w h.1 g)

pub real_behind : (U v : Tokens) → AreRealAfter U v → AreRealAfter U (behind v)
real_behind U [] h = tt
real_behind U (t ∷ v) h = h.1

-- the same, where the first token, or the first two, may be any
pub real_append_behind : (U v w : Tokens) → AreRealAfter U (behind v) → AreRealAfter U w
    → AreRealAfter U (behind (v ++ w))
real_append_behind U [] w h g = real_behind U w g
real_append_behind U (t ∷ v) w h g = real_append U v w h g

pub real_append_second : (U v w : Tokens) → AreRealAfter U (behind (behind v)) → AreRealAfter U w
    → AreRealAfter U (behind (behind (v ++ w)))
real_append_second U [] w h g = real_behind U (behind w) (real_behind U w g)
real_append_second U (t ∷ v) w h g = real_append_behind U v w h g
