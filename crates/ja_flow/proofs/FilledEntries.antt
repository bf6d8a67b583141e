-- The values with which an edge fills its callee's entry, and what they demand of the caller.
use Rattle.std.proofs.Common.{◌≡◌, List, ap, ◌∙◌}
use Rattle.std.specs.Prelude.{IsSome, IsTrue}
use Rattle.ja_base.specs.declared.ids.Label.{Label}
use Rattle.ja_graph.specs.declared.program.Program.{Program}
use Rattle.ja_abstract.specs.declared.abstraction.Key.{Key}
use Rattle.ja_abstract.specs.AbstractState.{is_key, keys_of, labels_of}
use Rattle.ja_abstract.specs.Reading.{View, both}
use Rattle.ja_abstract.specs.Resolved.{Demands, Entries, resolved}
use Rattle.ja_rows.specs.Calls as calls
use Rattle.ja_aheap.specs.Entries.{pairs_of}
use Rattle.ja_flow.specs.declared.caller.Caller.{Caller}
use Rattle.ja_flow.specs.Flow.{caller_node, caller_view}
use Rattle.ja_flow.specs.code.Pairs.{demands_at_pairs, filled}
use Rattle.ja_flow.proofs.AtCalling.{calling_at}
use Rattle.ja_flow.proofs.Pairs.{pairs_demand}

module _ (k : Caller) (w : View) (w_is : w ≡ calling_at k) (entries : Entries) where
  abbrev p : Program
  p = k.reader.program.now

  pub filled_as : filled entries (λ l j. resolved w.state w.entries l j)
      ≡ filled entries (calls.filled_with (caller_view k) k.edge (caller_node k))
  filled_as = ap (λ (v : View). filled entries (λ l j. resolved v.state v.entries l j)) w_is

  pub fill_demanded : ((l : Label) (j : Key) → IsSome (entries l j) → IsTrue (is_key p j))
      → (pairs : List (Label × Key)) → pairs ≡ pairs_of entries (labels_of p) (keys_of p)
      → (own more all : Demands)
      → own ≡ calls.demands_of_calling (caller_view k) (caller_node k) k.edge.callee.function.0
      → more ≡ demands_at_pairs w.state pairs → all ≡ both own more
      → all ≡ calls.demands_of_fill (caller_view k) k.edge (caller_node k) entries
  fill_demanded keyed pairs are own more all own_is more_is is =
      let listed = pairs_of entries (labels_of p) (keys_of p) in
      let more_at = more_is ∙ ap (demands_at_pairs w.state) are
      ∙ ap (λ (v : View). demands_at_pairs v.state listed) w_is
      ∙ pairs_demand p entries keyed (calling_at k).state in
      is ∙ (λ i. both (own_is i) (more_at i))
