-- Puts: what is written, and what the states come to.
use Rattle.std.proofs.Common.{◌≡◌, ◌+◌, ◌<◌, ℕ, Bool, true, false, ◌&&◌, ◌||◌, if◌then◌else◌, List, [], ◌∷◌, ◌++◌, length, take, get_or, Option, Some, None, refl, sym, subst, ap, ◌∙◌, append-nil}
use Rattle.std.specs.Prelude.{IsTrue, unwrap_or}
use Rattle.std.specs.List.{filter, list_any, flat_map}
use Rattle.std.specs.Option.{option_map_or}
use Rattle.std.proofs.Math.Bool.{or-false}
use Rattle.std.proofs.lemmas.List.{take_more}
use Rattle.std.proofs.lemmas.List.Concat.{flat_map-append}
use Rattle.std.proofs.lemmas.List.Folds.{list_any_more}
use Rattle.ja_base.proofs.Lists.{all_append}
use Rattle.ja_base.specs.declared.ids.Label.{Label}
use Rattle.ja_base.specs.declared.ids.NodeId.{NodeId}
use Rattle.ja_graph.specs.declared.program.Program.{Program}
use Rattle.ja_abstract.specs.declared.abstraction.Key.{Key}
use Rattle.ja_abstract.specs.AbstractValue.{Labels, AbstractValue}
use Rattle.ja_abstract.specs.AbstractState.{AbstractState, labels_of, is_key, same_key}
use Rattle.ja_abstract.specs.InProgram.{AreKeys, AreAtKeys}
use Rattle.ja_abstract.proofs.WritesInProgram.{some_writes, accepted_writes_are}
use Rattle.ja_abstract.specs.Made.{length_key}
use Rattle.ja_abstract.specs.Reading.{View, demands_of_get, demands_if, both, one_label, may_refuse, may_accept}
use Rattle.ja_abstract.specs.Resolved.{Demands, demands_of}
use Rattle.ja_abstract.specs.Writes.{Write, sets_at, put_property, put_writes, length_writes, element_writes, accepted_writes, is_array_label, asked_at, if_there, strong_put, weak_put, put_list, put_states, puts_something, some_at, strong_update, weak_update, demands_of_put, demands_of_puts}
use Rattle.ja_rows.specs.Out.{goes, all_go}
use Rattle.ja_transfer.specs.code.Members.{strong_spot, weakly_over, demands_over}
use Rattle.ja_transfer.specs.code.Puts.{Putting, putting, put_more, one_put, demands_of_keys, puts_at_some}
use Rattle.ja_transfer.proofs.Filters.{any_filter}
use Rattle.ja_transfer.proofs.GivenLemmas.{all_go_if}
use Rattle.ja_transfer.proofs.WeakLemmas.{weak_at_set, demands_at_set}

-- ---- at a label and a key

-- what is written is at keys of the program
pub accepted_keys : (w : View) → IsTrue (is_key w.program length_key) → (l : Label) (k : Key)
    (v : AbstractValue) → IsTrue (is_key w.program k)
    → AreAtKeys w.program (unwrap_or (accepted_writes w l k v) [])
accepted_keys w has_length l k v at_key =
    some_writes w has_length (accepted_writes w l k v)
    (accepted_writes_are w has_length l k v at_key)

-- ---- at a label and some keys

-- a key more
pub putting_more : (w : View) (l : Label) (v : AbstractValue) (keys : List Key) (i : ℕ) (d : Key)
    → i < length keys → (now after : Putting) → now ≡ putting w l (take i keys) v
    → after ≡ put_more now (one_put w l (get_or keys i d) v)
    → after ≡ putting w l (take (i + 1) keys) v
putting_more w l v keys i d within now after now_is after_is =
    let k = get_or keys i d in
    let writes : Key → List Write = λ j. unwrap_or (accepted_writes w l j v) [] in
    let all : put_list w (take i keys) v l ++ writes k ≡ put_list w (take (i + 1) keys) v l =
    ap (λ (ws : List Write). put_list w (take i keys) v l ++ ws) (sym (append-nil (writes k)))
    ∙ sym (flat_map-append writes (take i keys) (k ∷ []))
    ∙ ap (flat_map writes) (sym (take_more keys i d within)) in
    let some = list_any_more (λ (j : Key). puts_something w l j v) keys i d within in
    let asked = λ (m : Label) (j : Key).
    list_any_more (λ (x : Key). demands_of_put w l x m j) keys i d within in
    after_is ∙ ap (λ (x : Putting). put_more x (one_put w l k v)) now_is
    ∙ (λ n. record {
      is_something = sym some n;
      writes = all n;
      demands = λ m j. sym (asked m j) n;
    })

-- ---- at some labels and keys

strong_by : (next : NodeId) (b : Bool) (a : AbstractState) (f : List Write → AbstractState)
    (o : Option (List Write))
    → all_go next (if_there b a ++ option_map_or (λ writes. f writes ∷ []) o [])
    ≡ goes b next a ++ option_map_or (λ writes. (next.0, f writes) ∷ []) o []
strong_by next true a f None = refl
strong_by next true a f (Some writes) = refl
strong_by next false a f None = refl
strong_by next false a f (Some writes) = refl

-- the states of a strong put, by what is written where it is accepted
pub strong_given : (w : View) (l : Label) (k : Key) (v : AbstractValue) (next : NodeId)
    (o : Option (List Write)) → o ≡ accepted_writes w l k v
    → goes (may_refuse (asked_at w l k)) next w.state
    ++ option_map_or (λ writes. (next.0, strong_update w.state l writes) ∷ []) o []
    ≡ all_go next (strong_put w l k v)
strong_given w l k v next o are =
    let refuses = may_refuse (asked_at w l k) in
    sym (strong_by next refuses w.state (strong_update w.state l) o)
    ∙ ap (λ (x : Option (List Write)). all_go next (if_there refuses w.state
    ++ option_map_or (λ writes. strong_update w.state l writes ∷ []) x [])) are

module _ (w : View) (target : Labels) (keys : List Key) (ls : List Label)
    (are : ls ≡ filter target (labels_of w.program)) where
  -- a put is strong where there is one label and one name
  pub put_strong : (v : AbstractValue) (l : Label) (k : Key) → strong_spot ls keys ≡ Some (l, k)
      → strong_put w l k v ≡ put_states w target keys v
  put_strong v l k spot =
      ap (λ (o : Option (Label × Key)). option_map_or
      (λ (at : Label × Key). strong_put w at.0 at.1 v) o (weak_put w target keys v))
      (sym spot ∙ ap (λ (xs : List Label). strong_spot xs keys) are)

  weak_put_is : (v : AbstractValue) (next : NodeId)
      → goes (puts_at_some w ls keys v) next
      (weakly_over w.program w.state ls (put_list w keys v))
      ≡ all_go next (weak_put w target keys v)
  weak_put_is v next =
      let some : puts_at_some w ls keys v
      ≡ some_at w target keys (λ l k. puts_something w l k v) =
      ap (λ (xs : List Label). puts_at_some w xs keys v) are
      ∙ any_filter target (λ (l : Label). list_any (λ (k : Key). puts_something w l k v) keys)
      (labels_of w.program) in
      (λ n. goes (some n) next
      (weak_at_set w.program w.state target (put_list w keys v) ls are n))
      ∙ sym (all_go_if next (some_at w target keys (λ l k. puts_something w l k v))
      (weak_update w.program w.state target (put_list w keys v)))

  -- .. and weak elsewhere
  pub put_weak : (v : AbstractValue) (next : NodeId) → strong_spot ls keys ≡ None
      → goes (puts_at_some w ls keys v) next
      (weakly_over w.program w.state ls (put_list w keys v))
      ≡ all_go next (put_states w target keys v)
  put_weak v next none =
      weak_put_is v next
      ∙ ap (λ (o : Option (Label × Key)). all_go next (option_map_or
      (λ (at : Label × Key). strong_put w at.0 at.1 v) o (weak_put w target keys v)))
      (sym none ∙ ap (λ (xs : List Label). strong_spot xs keys) are)

  -- what is demanded
  pub puts_demands : demands_over ls (demands_of_keys w keys) ≡ demands_of_puts w target keys
  puts_demands = demands_at_set w target (demands_of_keys w keys) ls are

  pub put_demands : (l : Label) (k : Key) → ls ≡ l ∷ [] → keys ≡ k ∷ []
      → demands_of_put w l k ≡ demands_of_puts w target keys
  put_demands l k one name =
      (λ n m j. sym (or-false (demands_of_put w l k m j)) n)
      ∙ (λ n m j. sym (or-false (demands_of_put w l k m j || false)) n)
      ∙ ap (λ (ks : List Key). demands_over (l ∷ []) (demands_of_keys w ks)) (sym name)
      ∙ ap (λ (xs : List Label). demands_over xs (demands_of_keys w keys)) (sym one)
      ∙ puts_demands
