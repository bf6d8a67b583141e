-- What words say as numbers.
use Rattle.std.proofs.Common.{◌≡◌, ◌<◌, ◌^◌, ℕ, List, Ok, Err, Result, subst, arith}
use Rattle.std.specs.Str.Parse.{ParsesUnsigned}
use Rattle.std.proofs.lemmas.Fmt.{parse-decimal_wide}
use Rattle.ja_words.specs.code.Answers.{Spells}

-- a word that is a number is read as this number
parsed : {E : Type 0} (most : ℕ) (word : List ℕ) (r : Result ℕ E) → most < 2 ^ 128
    → ParsesUnsigned 128 10 word r → (number : ℕ) → Spells most word number → r ≡ Ok number
parsed most word r small parses number is =
    let low : number < 2 ^ 128 = omega (arith, is.2) in
    parse-decimal_wide 128 number word r low (omega (arith, low)) is.0 parses

-- so one that can't be read is none
pub unparsed : {E : Type 0} (most : ℕ) (word : List ℕ) (r : Result ℕ E) (e : E) → most < 2 ^ 128
    → ParsesUnsigned 128 10 word r → r ≡ Err e → (number : ℕ) → Spells most word number → ⊥
unparsed most word r e small parses fails number is =
    absurd (cc (parsed most word r small parses number is, fails))

-- and one that is read is no other
pub only_parsed : {E : Type 0} (most : ℕ) (word : List ℕ) (r : Result ℕ E) (read : ℕ)
    → most < 2 ^ 128 → ParsesUnsigned 128 10 word r → r ≡ Ok read → (Spells most word read → ⊥)
    → (number : ℕ) → Spells most word number → ⊥
only_parsed most word r read small parses gives none number is =
    let same : number ≡ read = cc (parsed most word r small parses number is, gives) in
    none (subst (Spells most word) same is)
