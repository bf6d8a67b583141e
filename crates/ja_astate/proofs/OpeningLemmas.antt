-- The registers of the opening state.
use Rattle.std.proofs.Common.{◌≡◌, ◌+◌, ◌==◌, ◌<◌, ◌≤◌, ℕ, zero, suc, List, [], ◌∷◌, ◌++◌, false, Option, Some, None, is_some, length, get_or, map, unwrap_or, slice_get, refl, ap, sym, ◌∙◌, arith, ⊎_elim, zero-add}
use Rattle.std.proofs.lemmas.Grind.{common_steps}
use Rattle.std.proofs.lemmas.Bool.{cases_lt}
use Rattle.std.proofs.lemmas.Bool.Decides.{nat_tests}
use Rattle.std.proofs.lemmas.List.{length-map, map-append}
use Rattle.std.proofs.lemmas.List.FromFn.{length-range_with_len, get_or-range_with_len}
use Rattle.std.proofs.lemmas.Option.{slice_get-map, slice_get-get_or, slice_get_read, same_Some}
use Rattle.std.specs.List.{range_with_len}
use Rattle.std.specs.Option.{option_map, option_map_or}
use Rattle.ja_base.proofs.Lists.{within_from_some}
use Rattle.ja_graph.specs.declared.program.Function.{Function}
use Rattle.ja_graph.specs.declared.program.Program.{Program}
use Rattle.ja_graph.specs.Program.{global}
use Rattle.ja_graph.specs.WellFormed.{IsWellFormed}
use Rattle.ja_machine.specs.Frames.{registers_of}
use Rattle.ja_machine.specs.Machine.{program_function}
use Rattle.ja_abstract.specs.AbstractValue.{AbstractValue, of_label, undefined_value}
use Rattle.ja_abstract.specs.AbstractState.{new}
use Rattle.ja_rows.specs.Calls.{entry_values}
use Rattle.ja_rows.specs.Table.{no_arguments}
use Rattle.ja_value.specs.declared.value.AValue.{AValue}
use Rattle.ja_value.specs.Value.{value_of}
use Rattle.ja_astate.specs.State.{register_in}
use Rattle.ja_astate.specs.code.Opening.{opening_register}
use Rattle.ja_astate.proofs.RegisterLemmas.{register_past}

pub mapped_push : {X Z : Type 0} (f : X → Z) (xs ys : List X) (x : X) (zs : List Z) (z : Z)
    → ys ≡ xs ++ x ∷ [] → map f xs ≡ zs → f x ≡ z → map f ys ≡ zs ++ z ∷ []
mapped_push f xs ys x zs z pushed same here =
    ap (map f) pushed ∙ map-append f xs (x ∷ []) ∙ ap (λ (l : List _). l ++ f x ∷ []) same
    ∙ ap (λ (y : _). zs ++ y ∷ []) here

-- ---- each register by its number

range_at : (n r : ℕ) → r < n → slice_get (range_with_len 0 n) r ≡ Some r
range_at n r below =
    let inside : r < length (range_with_len 0 n) = rw length-range_with_len below in
    slice_get-get_or (range_with_len 0 n) r 0 inside
    ∙ ap (λ (x : ℕ). Some x) (get_or-range_with_len 0 n r 0 below ∙ zero-add r)

mapped_some : {X Z : Type 0} (f : X → Z) (o : Option X) (d z : Z) → option_map f o ≡ Some z
    → option_map_or f o d ≡ z
mapped_some f None d z is = absurd (cc)
mapped_some f (Some x) d z is = same_Some _ _ is

pub opening_past : (r : ℕ) → 5 ≤ r → opening_register r ≡ undefined_value
opening_past r far =
    let one : (r == 1) ≡ false = grind (arith, common_steps, nat_tests) in
    let two : (r == 2) ≡ false = grind (arith, common_steps, nat_tests) in
    let four : (r == 4) ≡ false = grind (arith, common_steps, nat_tests) in
    rw (one, two, four) refl

pub registers_count : (xs : List AValue) (n : ℕ)
    → map value_of xs ≡ map opening_register (range_with_len 0 n) → length xs ≡ n
registers_count xs n same =
    sym (length-map xs value_of) ∙ ap length same ∙ length-map (range_with_len 0 n) opening_register
    ∙ length-range_with_len 0 n

pub registers_opening : (xs : List AValue) (n : ℕ) → 5 ≤ n
    → map value_of xs ≡ map opening_register (range_with_len 0 n) → (r : ℕ)
    → register_in xs r ≡ opening_register r
registers_opening xs n enough same r =
    let long = registers_count xs n same in
    ⊎_elim
    (λ (below : r < n). mapped_some value_of (slice_get xs r) undefined_value (opening_register r)
    (sym (slice_get-map value_of xs r)
    ∙ ap (λ (l : List AbstractValue). slice_get l r) same
    ∙ slice_get-map opening_register (range_with_len 0 n) r
    ∙ ap (option_map opening_register) (range_at n r below)))
    (λ (above : n ≤ r). register_past xs r (omega (arith, long))
    ∙ sym (opening_past r (omega arith)))
    (cases_lt r n)

-- ---- those at the entry of a function that is given nothing

all_undefined : (a n j : ℕ)
    → unwrap_or (slice_get (map (λ (i : ℕ). undefined_value) (range_with_len a n)
    ++ undefined_value ∷ []) j) undefined_value ≡ undefined_value
all_undefined a zero zero = refl
all_undefined a zero (suc j) = refl
all_undefined a (suc n) zero = refl
all_undefined a (suc n) (suc j) = all_undefined (a + 1) n j

pub given_nothing : (parameters r : ℕ) → let global_value = of_label (new global) in
    opening_register r ≡ unwrap_or (slice_get (entry_values parameters global_value global_value
    undefined_value no_arguments) r) undefined_value
given_nothing parameters zero = refl
given_nothing parameters (suc zero) = refl
given_nothing parameters (suc (suc zero)) = refl
given_nothing parameters (suc (suc (suc zero))) = refl
given_nothing parameters (suc (suc (suc (suc zero)))) = refl
given_nothing parameters (suc (suc (suc (suc (suc j))))) =
    opening_past (suc (suc (suc (suc (suc j))))) (omega arith)
    ∙ sym (all_undefined 0 parameters j)

-- ---- the text's function

pub text_registers : (p : Program) → IsWellFormed p → (fn : Function)
    → fn ≡ get_or p.functions 0 fn
    → (5 ≤ fn.registers) × (registers_of p program_function ≡ fn.registers)
text_registers p well fn is =
    let within : 0 < length p.functions = within_from_some p.functions 0
    (ap is_some well.text_is) in
    let here : slice_get p.functions 0 ≡ Some fn = slice_get_read p.functions (length p.functions) 0
    fn refl within is in
    let fixed = (well.each 0 fn here).registers in (
      omega arith,
      ap (λ (o : Option Function). option_map_or (λ (fn : Function). fn.registers) o 0)
          here,
    )
