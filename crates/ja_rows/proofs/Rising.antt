-- Visits raise a table: what states and edges it has stays, and so do its items.
use Rattle.std.specs.Prelude.{◌≡◌, ◌≢◌, ◌&&◌, ◌==◌, ℕ, Bool, true, false, if◌then◌else◌, IsTrue, IsSome, List, [], ◌∷◌, ◌++◌, Option, Some, None}
use Rattle.std.specs.List.{list_any}
use Rattle.std.proofs.Common.{refl, sym, subst}
use Rattle.std.proofs.lemmas.Bool.{false≢true}
use Rattle.ja_base.specs.declared.ids.Context.{Context}
use Rattle.ja_graph.specs.declared.program.Program.{Program}
use Rattle.ja_abstract.specs.AbstractState.{AbstractState}
use Rattle.ja_abstract.specs.Order.{LeqState}
use Rattle.ja_abstract.proofs.Order.{LeqOptionState, option_state_same, option_state_both, state_same, state-join}
use Rattle.ja_rows.specs.declared.table.Edge.{Edge}
use Rattle.ja_rows.specs.declared.table.Item.{Item}
use Rattle.ja_rows.specs.declared.table.Item.TheVariants.{Open, Step, Fill, Back}
use Rattle.ja_rows.specs.Table.{Table, root, same_context, same_edge, StateAt, Effects, joined_state, with_state, with_states, applied, effects, visited, opening_state, opening_table, IsItem, HasOpening, Builds, IsBuilt}

pub record Rises (t u : Table) : Type 0 where
  pub state : (x : Context) (n : ℕ) → LeqOptionState (t.state x n) (u.state x n)
  pub edge : (e : Edge) → IsTrue (t.edge e) → IsTrue (u.edge e)

pub rises_same : (t : Table) → Rises t t
rises_same t = record { state = λ x n. option_state_same (t.state x n); edge = λ e h. h }

pub rises_both : (t u v : Table) → Rises t u → Rises u v → Rises t v
rises_both t u v h k = record {
  state =
      λ x n. option_state_both (t.state x n) (u.state x n) (v.state x n) (h.state x n)
      (k.state x n);
  edge = λ e i. k.edge e (h.edge e i);
}

-- ---- visits

-- a state joined in rises
pub state-joined : (o : Option AbstractState) (b : Bool) (a : AbstractState)
    → LeqOptionState o (if b then Some (joined_state o a) else o)
state-joined None true a = tt
state-joined None false a = tt
state-joined (Some s) true a = state-join s a
state-joined (Some s) false a = state_same s

states-joined : (x : Context) (n : ℕ) (gs : List StateAt) (o : Option AbstractState)
    → LeqOptionState o (with_states o x n gs)
states-joined x n [] o = option_state_same o
states-joined x n (g ∷ gs) o =
    option_state_both o (with_state o x n g) (with_states (with_state o x n g) x n gs)
    (state-joined o (same_context g.context x && (g.node == n)) g.state)
    (states-joined x n gs (with_state o x n g))

edge-kept : (b c : Bool) → IsTrue c → IsTrue (if b then true else c)
edge-kept true c h = refl
edge-kept false c h = h

pub applied_rises : (t : Table) (fx : Effects) → Rises t (applied t fx)
applied_rises t fx = record {
  state = λ x n. states-joined x n fx.states (t.state x n);
  edge = λ e h. edge-kept (list_any (λ (d : Edge). same_edge d e) fx.edges) (t.edge e) h;
}

pub visited_rises : (p : Program) (t : Table) (item : Item) → Rises t (visited p t item)
visited_rises p t item = applied_rises t (effects p t item)

-- ---- items

some_stays : (a b : Option AbstractState) → LeqOptionState a b → IsSome a → IsSome b
some_stays None b h s = absurd (false≢true s)
some_stays (Some a) None h s = absurd h
some_stays (Some a) (Some b) h s = refl

-- an item of a table stays one
pub item_stays : (p : Program) (t u : Table) (item : Item) → Rises t u → IsItem p t item
    → IsItem p u item
item_stays p t u Open h i = tt
item_stays p t u (Step x n) h i =
    (i.0, some_stays (t.state x n.0) (u.state x n.0) (h.state x n.0) i.1)
item_stays p t u (Fill e) h i = h.edge e i
item_stays p t u (Back e) h i = h.edge e i

-- .. over a visit
pub item_kept : (p : Program) (t u : Table) (visit item : Item) → visited p t visit ≡ u
    → IsItem p t item → IsItem p u item
item_kept p t u visit item v i =
    item_stays p t u item (subst (λ w. Rises t w) v (visited_rises p t visit)) i

-- ---- what visits build

-- one visit more at the end
pub builds_more : (p : Program) (from : Table) (items : List Item) (t : Table) (item : Item)
    → Builds p from items t → IsItem p t item → visited p t item ≢ t
    → Builds p from (items ++ item ∷ []) (visited p t item)
builds_more p from [] t item b i changed =
    subst (λ u. Builds p u (item ∷ []) (visited p t item)) (sym b) (i, changed, refl)
builds_more p from (first ∷ items) t item b i changed =
    (b.0, b.1, builds_more p (visited p from first) items t item b.2 i changed)

builds_rise : (p : Program) (from : Table) (items : List Item) (t : Table) → Builds p from items t
    → Rises from t
builds_rise p from [] t b = subst (λ u. Rises from u) b (rises_same from)
builds_rise p from (first ∷ items) t b =
    rises_both from (visited p from first) t (visited_rises p from first)
    (builds_rise p (visited p from first) items t b.2)

opening_from : (o : AbstractState) (a : Option AbstractState) → LeqOptionState (Some o) a
    → (s : AbstractState) × (a ≡ Some s) × LeqState o s
opening_from o None h = absurd h
opening_from o (Some s) h = (s, refl, h)

-- what visits build has the opening
pub builds_opening : (p : Program) (items : List Item) (t : Table) → IsBuilt p items t
    → HasOpening p t
builds_opening p items t b =
    let o = opening_from (opening_state p) (t.state root 0)
    ((builds_rise p (opening_table p) items t b).state root 0) in
    record { state = o.0; state_is = o.1; least = o.2 }
