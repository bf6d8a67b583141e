-- What the rules on labels, jumps and function declarations say of small programs.
use Rattle.std.proofs.Common.{◌≡◌, true, false, [], ◌∷◌, Some, None, refl}
use Rattle.std.specs.Prelude.{codes}
use Rattle.ja_base.specs.declared.ids.Place.{Place}
use Rattle.ja_syntax.specs.code.Jumps.{around_body, within, within_loop, labelled, is_among, body_jumps_well}
use Rattle.ja_syntax.specs.declared.tree.FunctionOf.{FunctionOf}
use Rattle.ja_syntax.specs.declared.tree.Name.{Name}
use Rattle.ja_syntax.specs.declared.tree.Statement.{Statement}
use Rattle.ja_syntax.specs.declared.tree.Statement.TheVariants as s
use Rattle.ja_syntax.specs.declared.tree.Expression.{Expression}
use Rattle.ja_syntax.proofs.JumpLemmas.{jumps_block, jumps_break, jumps_continue, jumps_while, jumps_labelled, jumps_return, jumps_function}

module _ (p : Place) (x : Expression) (f : FunctionOf Statement) where
  abbrev label : Name
  label = record { text = codes "L"; place = p }

  -- break;
  break_alone : body_jumps_well false (s.Break None p ∷ []) ≡ false
  unfolding body_jumps_well around_body
  break_alone = rw (jumps_break None p (around_body false)) refl

  -- while (x) break;
  break_in_a_loop : body_jumps_well false (s.While x (s.Break None p) p ∷ []) ≡ true
  unfolding body_jumps_well around_body within_loop
  break_in_a_loop =
      rw (
        jumps_while x (s.Break None p) p (around_body false),
        jumps_break None p (within_loop (around_body false)),
      ) refl

  -- L: while (x) continue L;
  continue_the_loop : body_jumps_well false
      (s.Labelled label (s.While x (s.Continue (Some label) p) p) ∷ []) ≡ true
  unfolding body_jumps_well around_body within_loop labelled is_among
  continue_the_loop =
      rw (
        jumps_labelled label (s.While x (s.Continue (Some label) p) p) (around_body false),
        jumps_while x (s.Continue (Some label) p) p (labelled label.text (around_body false)),
        jumps_continue (Some label) p (within_loop (labelled label.text (around_body false))),
      ) refl

  -- L: { while (x) continue L; }
  continue_a_block : body_jumps_well false
      (s.Labelled label (s.Block (s.While x (s.Continue (Some label) p) p ∷ []) p) ∷ []) ≡ false
  unfolding body_jumps_well around_body within within_loop labelled is_among
  continue_a_block = rw (
    jumps_labelled label (s.Block (s.While x (s.Continue (Some label) p) p ∷ []) p)
        (around_body false),
    jumps_block (s.While x (s.Continue (Some label) p) p ∷ []) p
        (labelled label.text (around_body false)),
    jumps_while x (s.Continue (Some label) p) p (within (labelled label.text (around_body false))),
    jumps_continue (Some label) p (within_loop (within (labelled label.text (around_body false)))),
  ) refl

  -- L: L: break L;
  label_in_itself : body_jumps_well false (s.Labelled label
      (s.Labelled label (s.Break (Some label) p)) ∷ []) ≡ false
  unfolding body_jumps_well around_body labelled is_among
  label_in_itself =
      rw (
        jumps_labelled label (s.Labelled label (s.Break (Some label) p)) (around_body false),
        jumps_labelled label (s.Break (Some label) p) (labelled label.text (around_body false)),
      ) refl

  -- return; in the program, and in a function
  return_in_the_program : body_jumps_well false (s.Return None p ∷ []) ≡ false
  unfolding body_jumps_well around_body
  return_in_the_program = rw (jumps_return None p (around_body false)) refl

  return_in_a_function : body_jumps_well true (s.Return None p ∷ []) ≡ true
  unfolding body_jumps_well around_body
  return_in_a_function = rw (jumps_return None p (around_body true)) refl

  -- { function f() { .. } }
  function_in_a_block : body_jumps_well false (s.Block (s.Function f ∷ []) p ∷ []) ≡ false
  unfolding body_jumps_well around_body within
  function_in_a_block =
      rw (
        jumps_block (s.Function f ∷ []) p (around_body false),
        jumps_function f (within (around_body false)),
      ) refl

  function_at_the_top : body_jumps_well false (s.Function f ∷ []) ≡ true
  unfolding body_jumps_well around_body
  function_at_the_top = rw (jumps_function f (around_body false)) refl
