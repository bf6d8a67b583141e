-- How a text is split before its rest.
use Rattle.std.proofs.Common.{◌≡◌, ◌+◌, ◌-◌, [], ◌∷◌, ◌++◌, length, take, refl, sym, ap, ◌∙◌, arith}
use Rattle.std.proofs.lemmas.List.{length-append}
use Rattle.ja_grammar.specs.Input.{Tokens}

-- the tokens before the place
pub taken : (w r : Tokens) → take (length w) (w ++ r) ≡ w
taken [] r = refl
taken (t ∷ w) r = ap (λ x. t ∷ x) (taken w r)

-- the tokens before, and those from there on, of a text that is split
pub split_taken : (w r : Tokens) {i : Tokens} → i ≡ w ++ r → take (length w) i ≡ w
split_taken w r e = ap (λ x. take (length w) x) e ∙ taken w r

-- how many tokens stand before it
pub split_length : (w r : Tokens) {i : Tokens} → i ≡ w ++ r → length i ≡ length w + length r
split_length w r e = ap length e ∙ length-append w r

-- the same by how many are left
pub split_place : (w r : Tokens) {i : Tokens} → i ≡ w ++ r → length w ≡ length i - length r
split_place w r {i} e = let n = split_length w r e in omega arith

-- a text is split in one way before the same rest
pub split_one : (v w r : Tokens) {i : Tokens} → i ≡ v ++ r → i ≡ w ++ r → v ≡ w
split_one v w r {i} e f =
    sym (split_taken v r e) ∙ ap (λ n. take n i) (split_place v r e ∙ sym (split_place w r f))
    ∙ split_taken w r f
