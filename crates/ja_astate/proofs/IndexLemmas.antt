-- The index of a key is below the greatest length.
use Rattle.std.proofs.Common.{◌<◌, ℕ, ◌&&◌, not, ◌||◌, length, List, Option, Some, None}
use Rattle.std.specs.Prelude.{IfSome, nat_lt, nat_le, ◌==◌}
use Rattle.std.specs.List.{list_all}
use Rattle.std.proofs.lemmas.Bool.{cond_both, ltb-true}
use Rattle.ja_base.proofs.Tests.{and_right_true}
use Rattle.ja_prim.specs.Characters.{is_digit}
use Rattle.ja_prim.specs.Conversions.{index_of}
use Rattle.ja_prim.specs.Index.{is_index_text, with_digits, starts_with_zero}
use Rattle.ja_graph.specs.declared.program.Program.{Program}
use Rattle.ja_machine.specs.Nodes.{name_text}
use Rattle.ja_abstract.specs.declared.abstraction.Key.{Key}
use Rattle.ja_abstract.specs.declared.abstraction.Key.TheVariants as key
use Rattle.ja_abstract.specs.Keys.{index_of_key}

abbrev pub IsBelow : Option ℕ → Type 0
IsBelow index = IfSome index (λ (i : ℕ). i < 4294967295)

of_text : (t : List ℕ) → IsBelow (index_of t)
of_text t =
    let digits = nat_lt 0 (length t) && nat_le (length t) 10 && list_all is_digit t in
    let first = not (starts_with_zero t) || (length t == 1) in
    cond_both (is_index_text t) (Some (with_digits 0 t)) None IsBelow
    (λ e. ltb-true (with_digits 0 t) 4294967295
    (and_right_true (digits && first) (nat_lt (with_digits 0 t) 4294967295) e)) (λ e. tt)

pub index_below : (p : Program) (k : Key) → IsBelow (index_of_key p k)
index_below p (key.Name n) = of_text (name_text p n)
index_below p key.OtherIndex = tt
index_below p key.OtherName = tt
index_below p (key.Slot s) = tt
