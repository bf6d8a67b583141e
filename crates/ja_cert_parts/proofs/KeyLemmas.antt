-- Keys as data, and their places in the order of keys.
use Rattle.std.proofs.Common.{◌≡◌, ℕ, ◌+◌, ◌<◌, Bool, true, false, cond, nat_lt, [], length, get_or, Option, Some, None, refl, ap, sym, ◌∙◌, add-zero}
use Rattle.std.specs.Prelude.{is_some}
use Rattle.std.specs.Option.{option_map}
use Rattle.std.proofs.lemmas.Bool.{lt-ltb}
use Rattle.serde_json.specs.Data.{Data, string}
use Rattle.ja_graph.specs.declared.program.Program.{Program}
use Rattle.ja_abstract.specs.declared.abstraction.Key.{Key}
use Rattle.ja_abstract.specs.declared.abstraction.Key.TheVariants as key
use Rattle.ja_abstract.specs.declared.abstraction.Slot.TheVariants as slot
use Rattle.ja_cert.specs.Certificate.{key_data, whole}
use Rattle.ja_cert.specs.Wrong.{here_unless, is_below, key_rank, key_words, position, position_of, whole_of}
use Rattle.ja_cert_parts.specs.code.Ranks.{key_place}
use Rattle.ja_cert_parts.specs.code.Reading.{Tells}
use Rattle.ja_cert_parts.specs.declared.fault.Fault.{Fault}
use Rattle.ja_cert_parts.proofs.FaultLemmas.{none_unless, tells_same}
use Rattle.ja_cert_parts.proofs.NumberLemmas.{below_none, whole_is}
use Rattle.ja_cert_parts.proofs.WordLemmas.{word_is}

-- a key as data has its place
pub key_known : (p : Program) (k : Key) → key_rank p (key_data k) ≡ key_place p k
unfolding position
key_known p (key.Name n) = refl
key_known p key.OtherIndex = ap (λ (n : ℕ). Some n) (add-zero (length p.names))
key_known p key.OtherName = refl
key_known p (key.Slot slot.Prototype) = refl
key_known p (key.Slot slot.Outer) = refl
key_known p (key.Slot slot.Scope) = refl
key_known p (key.Slot slot.Value) = refl

pub key_of_data : (p : Program) (k : Key) (d : Data) → key_data k ≡ d
    → key_rank p d ≡ key_place p k
key_of_data p k d is = ap (key_rank p) (sym is) ∙ key_known p k

-- ---- a number

some_is : (o : Option ℕ) → is_some o ≡ true → (n : ℕ) × (Some n ≡ o)
some_is None is = absurd (cc)
some_is (Some n) is = (n, refl)

none_is : (o : Option ℕ) → is_some o ≡ false → None ≡ o
none_is None is = refl
none_is (Some n) is = absurd (cc)

number_place : (p : Program) (n : ℕ) (b : Bool)
    → is_some (cond b (Some n) (option_map (λ (m : ℕ). length p.names + m)
    (position_of key_words (whole n)))) ≡ b
number_place p n true = refl
number_place p n false = refl

number_known : (p : Program) (d : Data) → is_some (whole_of d) ≡ true
    → is_some (key_rank p d) ≡ is_below (length p.names) d
number_known p d is =
    let some : (n : ℕ) × (Some n ≡ whole_of d) = some_is (whole_of d) is in
    let same : whole some.0 ≡ d = whole_is d some.0 some.1 in
    ap (λ (e : Data). is_some (key_rank p e)) (sym same)
    ∙ number_place p some.0 (nat_lt some.0 (length p.names))
    ∙ ap (is_below (length p.names)) same

pub name_told : (p : Program) (d : Data) (f : Fault) → is_some (whole_of d) ≡ true
    → Tells (here_unless (is_below (length p.names) d)) f
    → Tells (here_unless (is_some (key_rank p d))) f
name_told p d f is told =
    tells_same (here_unless (is_below (length p.names) d)) (here_unless (is_some (key_rank p d))) f
    (ap here_unless (sym (number_known p d is))) told

pub name_read : (p : Program) (d : Data) (n : ℕ) → is_some (whole_of d) ≡ true → whole n ≡ d
    → n < length p.names → here_unless (is_some (key_rank p d)) ≡ None
name_read p d n is same within =
    none_unless (is_some (key_rank p d))
    (number_known p d is ∙ ap (is_below (length p.names)) (sym same)
    ∙ lt-ltb n (length p.names) within)

-- ---- a word

word_place : (p : Program) (d : Data) → is_some (whole_of d) ≡ false
    → key_rank p d ≡ option_map (λ (n : ℕ). length p.names + n) (position_of key_words d)
word_place p d is =
    ap (λ (b : Bool). cond b (whole_of d)
    (option_map (λ (n : ℕ). length p.names + n) (position_of key_words d)))
    (below_none (length p.names) d (none_is (whole_of d) is))

mapped : (k : ℕ) (o : Option ℕ) → is_some (option_map (λ (n : ℕ). k + n) o) ≡ is_some o
mapped k None = refl
mapped k (Some n) = refl

word_known : (p : Program) (d : Data) → is_some (whole_of d) ≡ false
    → is_some (key_rank p d) ≡ is_some (position_of key_words d)
word_known p d is =
    ap (λ (o : Option ℕ). is_some o) (word_place p d is)
    ∙ mapped (length p.names) (position_of key_words d)

pub word_told : (p : Program) (d : Data) (f : Fault) → is_some (whole_of d) ≡ false
    → Tells (here_unless (is_some (position_of key_words d))) f
    → Tells (here_unless (is_some (key_rank p d))) f
word_told p d f is told =
    tells_same (here_unless (is_some (position_of key_words d)))
    (here_unless (is_some (key_rank p d))) f (ap here_unless (sym (word_known p d is))) told

pub word_read : (p : Program) (d : Data) (n : ℕ) (k : Key) → is_some (whole_of d) ≡ false
    → position_of key_words d ≡ Some n → key_data k ≡ string (get_or key_words n [])
    → (here_unless (is_some (key_rank p d)) ≡ None)
    × ((key_data k ≡ d) × (key_rank p d ≡ key_place p k))
word_read p d n k is place word =
    let same : key_data k ≡ d = word ∙ (word_is key_words d n place).1 in (
      none_unless (is_some (key_rank p d))
          (word_known p d is ∙ ap (λ (o : Option ℕ). is_some o) place),
      (same, key_of_data p k d same),
    )

pub word_within : (d : Data) (n : ℕ) → position_of key_words d ≡ Some n → n < 6
word_within d n place = (word_is key_words d n place).0
