-- Abstract states that are the same, and of one shape.
use Rattle.std.specs.Prelude.{◌≡◌, ◌↔◌, ◌&&◌, Bool, IsTrue}
use Rattle.std.proofs.Common.{sym, subst}
use Rattle.ja_abstract.specs.AbstractState.{AbstractState}
use Rattle.ja_abstract.specs.Order.{LeqState}
use Rattle.ja_abstract.proofs.Order.{state_equal, state_same}
use Rattle.ja_astate.specs.declared.state.AState.{AState}
use Rattle.ja_astate.specs.State.{HaveOneShape}
use Rattle.ja_table.proofs.Told.{told_both}

pub same_told : (a b : AbstractState) (below above : Bool) → IsTrue below ↔ LeqState a b
    → IsTrue above ↔ LeqState b a → IsTrue (below && above) ↔ (a ≡ b)
same_told a b below above h k =
    told_both below above h k (state_equal a b) (λ e. subst (LeqState a) e (state_same a))
    (λ e. subst (λ s. LeqState s a) e (state_same a))

-- a shape is the same from both sides
pub shape_turned : (a b : AState) → HaveOneShape a b → HaveOneShape b a
shape_turned a b h =
    record { sites = sym h.sites; names = sym h.names; registers = sym h.registers }
