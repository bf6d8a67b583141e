-- The lines of the states of a context.
use Rattle.std.proofs.Common.{◌≡◌, ℕ, ◌+◌, ◌<◌, List, [], ◌∷◌, ◌++◌, Option, Some, None, get_or, length, vec_len, ap, ◌∙◌}
use Rattle.std.specs.List.{flat_map, range_with_len}
use Rattle.std.specs.Option.{option_and_then, option_map_or}
use Rattle.std.specs.Result.{OnOk}
use Rattle.std.specs.Prelude.{Result}
use Rattle.std.proofs.lemmas.Result.{MatchResult-weaker}
use Rattle.std.proofs.lemmas.Option.{slice_get_read}
use Rattle.ja_base.specs.declared.ids.Context.{Context}
use Rattle.ja_base.specs.declared.ids.FnId.{FnId}
use Rattle.ja_graph.specs.declared.program.Program.{Program}
use Rattle.ja_graph.specs.Program.{nodes_of}
use Rattle.ja_machine.specs.Frames.{registers_of}
use Rattle.ja_abstract.specs.AbstractState.{AbstractState}
use Rattle.ja_abstract.specs.Resolved.{Entries}
use Rattle.ja_astate.specs.declared.state.AState.{AState}
use Rattle.ja_astate.specs.State.{state_of, IsStateOf}
use Rattle.ja_table.specs.declared.table.ContextTable.{ContextTable}
use Rattle.ja_table.specs.declared.table.NodeTable.{NodeTable}
use Rattle.ja_table.specs.Tables.{kept_state, states_in, FitsContext}
use Rattle.ja_report.specs.declared.output.Output.{Output}
use Rattle.ja_report.specs.Lines.{Line, head, entry_lines, context_lines, state_lines, node_lines, point_lines}
use Rattle.ja_report.specs.code.Output.{Adds}
use Rattle.ja_report.proofs.OutputLemmas.{adds_append, adds_none, adds_number, adds_same}

-- what is kept at a place of a context
pub kept_at : (c : ContextTable) (n : ℕ) (at : NodeTable) → at ≡ get_or c.nodes.items n at
    → n < vec_len c.nodes → kept_state c.nodes.items n ≡ at.state
kept_at c n at read inside =
    ap (option_and_then (λ (s : NodeTable). s.state))
    (slice_get_read c.nodes.items (vec_len c.nodes) n at c.nodes.ok.0 inside read)

pub node_fits : (p : Program) (c : ContextTable) (n : ℕ) (at : NodeTable) (s : AState)
    → FitsContext p c → at ≡ get_or c.nodes.items n at → n < vec_len c.nodes → at.state ≡ Some s
    → IsStateOf p (registers_of p c.context.function) s
node_fits p c n at s fits read inside found =
    fits.states n s (kept_at c n at read inside ∙ found)

pub node_found : (p : Program) (f : FnId) (c : ContextTable) (n : ℕ) (at : NodeTable) (s : AState)
    (a b : Output) → at ≡ get_or c.nodes.items n at → n < vec_len c.nodes → at.state ≡ Some s
    → Adds p (state_lines p f n (state_of s)) a b
    → Adds p (option_map_or (state_lines p f n) (states_in c.nodes.items n) []) a b
node_found p f c n at s a b read inside found adds =
    rw (kept_at c n at read inside ∙ found) adds

pub node_missing : (p : Program) (f : FnId) (c : ContextTable) (n : ℕ) (at : NodeTable) (a : Output)
    → at ≡ get_or c.nodes.items n at → n < vec_len c.nodes → at.state ≡ None
    → Adds p (option_map_or (state_lines p f n) (states_in c.nodes.items n) []) a a
node_missing p f c n at a read inside missing =
    rw (kept_at c n at read inside ∙ missing) (adds_none p a)

-- the lines of the first nodes
pub node_front : Program → FnId → (ℕ → Option AbstractState) → ℕ → List Line
node_front p f states n = flat_map (node_lines p f states) (range_with_len 0 n)

pub points_none : (p : Program) (f : FnId) (states : ℕ → Option AbstractState) (a : Output)
    → Adds p (node_front p f states 0) a a
unfolding node_front
points_none p f states a = adds_none p a

pub points_more : (p : Program) (f : FnId) (states : ℕ → Option AbstractState) (i : ℕ)
    (a b c : Output) → Adds p (node_front p f states i) a b
    → Adds p (option_map_or (state_lines p f i) (states i) []) b c
    → Adds p (node_front p f states (i + 1)) a c
unfolding node_front node_lines
points_more p f states i a b c was step = adds_number p (node_lines p f states) a b c i was step

pub points_all : (p : Program) (f : FnId) (states : ℕ → Option AbstractState) (n m : ℕ)
    (a b : Output) → Adds p (node_front p f states n) a b → n ≡ m → m ≡ length (nodes_of p f)
    → Adds p (point_lines p f states) a b
unfolding node_front point_lines
points_all p f states n m a b was all nodes =
    adds_same p _ _ a b
    (ap (λ (k : ℕ). flat_map (node_lines p f states) (range_with_len 0 k)) (all ∙ nodes)) was

-- a context with its values at entry, of some lines, and its states
pub own_added : {T E : Type 0} (p : Program) (x : Context) (e : Entries)
    (states : ℕ → Option AbstractState) (n : ℕ) (lines : List Line) (a b c d : Output)
    (r : Result T E) → Adds p (head x n ∷ []) a b → n ≡ length (entry_lines p e)
    → Adds p lines b c → lines ≡ entry_lines p e
    → OnOk r (Adds p (point_lines p x.function states) c d)
    → OnOk r (Adds p (context_lines p x e states) a d)
unfolding context_lines
own_added p x e states n lines a b c d r first count entries are more =
    let start = adds_same p _ _ a b (ap (λ (k : ℕ). head x k ∷ []) count) first in
    let listed = adds_same p _ _ b c are entries in
    MatchResult-weaker r more (λ _ points. adds_append p (head x (length (entry_lines p e)) ∷ [])
    (entry_lines p e ++ point_lines p x.function states) a b d start
    (adds_append p (entry_lines p e) (point_lines p x.function states) b c d listed points))
    (λ _ h. h)
