-- The operations on the numbers of two primitive values.
use Rattle.std.proofs.Common.{◌≡◌, ◌⊎◌, inl, inr, Some, refl, sym, subst}
use Rattle.ja_prim.specs.declared.primitive.Primitive.{Primitive}
use Rattle.ja_graph.specs.declared.node.BinaryOp.{BinaryOp}
use Rattle.ja_graph.specs.declared.node.BinaryOp.TheVariants.{Sub, Mul, Div, Rem, Shl, Shr, Ushr, And, Or, Xor}
use Rattle.ja_machine.specs.declared.machine.Value.TheVariants as value
use Rattle.ja_machine.specs.Values.{binary, of_numbers}
use Rattle.ja_operations.specs.code.Operators.{number_operation}

-- one of these operations
abbrev pub IsOnNumbers : BinaryOp → Type 0
IsOnNumbers op =
    (op ≡ Sub) ⊎ ((op ≡ Mul) ⊎ ((op ≡ Div) ⊎ ((op ≡ Rem)
    ⊎ ((op ≡ Shl) ⊎ ((op ≡ Shr) ⊎ ((op ≡ Ushr) ⊎ ((op ≡ And) ⊎ ((op ≡ Or) ⊎ (op ≡ Xor)))))))))

module _ (op : BinaryOp) (m n : Primitive) where
  Operated : BinaryOp → Type 0
  Operated o =
      binary o (value.Primitive m) (value.Primitive n) ≡ Some (of_numbers (number_operation o) m n)

  -- it gives what the operation on two numbers gives
  pub numbers_operated : IsOnNumbers op → binary op (value.Primitive m) (value.Primitive n)
      ≡ Some (of_numbers (number_operation op) m n)
  unfolding Operated
  numbers_operated (inl e) = subst Operated (sym e) refl
  numbers_operated (inr (inl e)) = subst Operated (sym e) refl
  numbers_operated (inr (inr (inl e))) = subst Operated (sym e) refl
  numbers_operated (inr (inr (inr (inl e)))) = subst Operated (sym e) refl
  numbers_operated (inr (inr (inr (inr (inl e))))) = subst Operated (sym e) refl
  numbers_operated (inr (inr (inr (inr (inr (inl e)))))) = subst Operated (sym e) refl
  numbers_operated (inr (inr (inr (inr (inr (inr (inl e))))))) = subst Operated (sym e) refl
  numbers_operated (inr (inr (inr (inr (inr (inr (inr (inl e)))))))) = subst Operated (sym e) refl
  numbers_operated (inr (inr (inr (inr (inr (inr (inr (inr (inl e))))))))) =
      subst Operated (sym e) refl
  numbers_operated (inr (inr (inr (inr (inr (inr (inr (inr (inr e))))))))) =
      subst Operated (sym e) refl
