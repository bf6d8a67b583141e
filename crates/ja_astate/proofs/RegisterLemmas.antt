-- Registers by their numbers.
use Rattle.std.proofs.Common.{◌≡◌, ◌<◌, ◌≤◌, ◌||◌, ◌&&◌, ◌==◌, ℕ, zero, suc, List, [], ◌∷◌, Bool, true, false, Option, if◌then◌else◌, length, map, get_or, refl, ap, sym, ◌∙◌, arith, ⊎_elim, subst}
use Rattle.std.proofs.lemmas.Bool.{cases_lt}
use Rattle.std.proofs.lemmas.List.{length-map}
use Rattle.std.proofs.lemmas.Option.{slice_get_past, slice_get_read}
use Rattle.std.specs.Option.{option_map_or}
use Rattle.ja_base.specs.declared.ids.Site.{Site}
use Rattle.ja_abstract.specs.declared.abstraction.Mask.{Mask}
use Rattle.ja_abstract.specs.AbstractValue.{AbstractValue, join, undefined_value}
use Rattle.ja_abstract.specs.AbstractState.{aged}
use Rattle.ja_abstract.specs.Composed.{renamed_value}
use Rattle.ja_abstract.specs.Order.{LeqValue}
use Rattle.ja_abstract.proofs.Order.{value_same, value_equal, value-join}
use Rattle.ja_abstract.proofs.Least.{value-join_right, value_least}
use Rattle.ja_value.specs.declared.value.AValue.{AValue}
use Rattle.ja_value.specs.Value.{value_of}
use Rattle.ja_astate.specs.State.{register_in}

-- a register that there is, and one that there isn't
pub register_here : (xs : List AValue) (i n : ℕ) (x : AValue) → n ≡ length xs → i < n
    → x ≡ get_or xs i x → value_of x ≡ register_in xs i
register_here xs i n x len below is =
    sym (ap (λ (o : Option AValue). option_map_or value_of o undefined_value)
    (slice_get_read xs n i x len below is))

pub register_past : (xs : List AValue) (i : ℕ) → length xs ≤ i → register_in xs i ≡ undefined_value
register_past xs i above =
    ap (λ (o : Option AValue). option_map_or value_of o undefined_value) (slice_get_past xs i above)

-- ---- the order

pub leq_along : (a b c d : AbstractValue) → a ≡ c → b ≡ d → LeqValue a b → LeqValue c d
leq_along a b c d first second h =
    subst (λ (x : AbstractValue). LeqValue x d) first
    (subst (λ (y : AbstractValue). LeqValue a y) second h)

-- values that others hold below the number of all, hold
pub leq_end : (xs ys : List AValue) (n : ℕ) → length xs ≡ n → length ys ≡ n
    → ((r : ℕ) → r < n → LeqValue (register_in xs r) (register_in ys r)) → (r : ℕ)
    → LeqValue (register_in xs r) (register_in ys r)
leq_end xs ys n a b before r =
    ⊎_elim (λ (below : r < n). before r below)
    (λ (above : n ≤ r). leq_along undefined_value undefined_value (register_in xs r)
    (register_in ys r) (sym (register_past xs r (omega arith)))
    (sym (register_past ys r (omega arith))) (value_same undefined_value)) (cases_lt r n)

-- a value that holds another is their join, and the other way round
pub join_holding : (a b : AbstractValue) → LeqValue b a → join a b ≡ a
join_holding a b h =
    value_equal (join a b) a (value_least a b a (value_same a) h) (value-join a b)

pub holding_join : (a b : AbstractValue) → join a b ≡ a → LeqValue b a
holding_join a b same =
    subst (λ (x : AbstractValue). LeqValue b x) same (value-join_right a b)

-- ---- each register changed by itself

pub registers_mapped : (f : AbstractValue → AbstractValue) (xs ys : List AValue)
    → f undefined_value ≡ undefined_value
    → map value_of xs ≡ map (λ (x : AValue). f (value_of x)) ys → (r : ℕ)
    → register_in xs r ≡ f (register_in ys r)
registers_mapped f [] [] none same r = sym none
registers_mapped f [] (y ∷ ys) none same r = absurd (cc)
registers_mapped f (x ∷ xs) [] none same r = absurd (cc)
registers_mapped f (x ∷ xs) (y ∷ ys) none same zero = head_same same
  where
    head_same : {X : Type 0} {a b : X} {more rest : List X} → a ∷ more ≡ b ∷ rest → a ≡ b
    head_same e = cc
registers_mapped f (x ∷ xs) (y ∷ ys) none same (suc r) =
    registers_mapped f xs ys none (tail_same same) r
  where
    tail_same : {X : Type 0} {a b : X} {more rest : List X} → a ∷ more ≡ b ∷ rest → more ≡ rest
    tail_same e = cc

-- what is undefined names no object
pub none_aged : (b c : Bool) → (if b then c && (false || false) else false) ≡ false
none_aged true true = refl
none_aged true false = refl
none_aged false c = refl

pub aged_undefined : (s : Site) → aged s undefined_value ≡ undefined_value
aged_undefined s =
    λ i. record undefined_value { label = λ l. (none_aged (l.site.0 == s.0) l.old) i }

none_renamed : (b : Bool) → (if b then false else false) ≡ false
none_renamed true = refl
none_renamed false = refl

pub renamed_undefined : (mask : ℕ → Mask) → renamed_value mask undefined_value ≡ undefined_value
renamed_undefined mask = λ i. record undefined_value { label = λ l. (none_renamed l.old) i }

pub registers_counted : (f : AbstractValue → AbstractValue) (xs ys : List AValue)
    → map value_of xs ≡ map (λ (x : AValue). f (value_of x)) ys → length xs ≡ length ys
registers_counted f xs ys same =
    sym (length-map xs value_of) ∙ ap length same ∙ length-map ys (λ (x : AValue). f (value_of x))
