-- States that are given back, and their shapes.
use Rattle.std.proofs.Common.{◌≡◌, [], refl, sym, subst, ◌∙◌, append-nil}
use Rattle.ja_graph.specs.declared.program.Program.{Program}
use Rattle.ja_rows.specs.Out.{Given}
use Rattle.ja_aheap.specs.Heap.{heap_of, IsHeapOf}
use Rattle.ja_astate.specs.declared.state.AState.{AState}
use Rattle.ja_astate.specs.State.{HaveOneShape}
use Rattle.ja_transfer.specs.Outcomes.{given_of}
use Rattle.ja_transfer.specs.declared.given.States.{States}
use Rattle.ja_flow.specs.declared.caller.Caller.{Caller}
use Rattle.ja_flow.specs.Flow.{AreGivenMore}

pub given_none : (c : Caller) (states : States) → AreGivenMore c [] states states
given_none c states =
    record { given = sym (append-nil (given_of states)); fits = λ fits. fits }

pub given_as : (c : Caller) (xs ys : Given) (before after : States) → xs ≡ ys
    → AreGivenMore c xs before after → AreGivenMore c ys before after
given_as c xs ys before after same given =
    subst (λ (g : Given). AreGivenMore c g before after) same given

-- ---- shapes

pub same_shape : (a : AState) → HaveOneShape a a
same_shape a = record { sites = refl; names = refl; registers = refl }
