-- Puts, definitions and deletions at keys of a program keep its states within it.
use Rattle.std.specs.Prelude.{◌<◌, ◌≤◌, ◌+◌, ◌&&◌, ◌++◌, ℕ, Bool, true, false, if◌then◌else◌, length, map, filter, List, [], ◌∷◌, Option, Some, None, IfSome, unwrap_or, IsTrue}
use Rattle.std.specs.List.{AllByRecursion, flat_map, range_with_len}
use Rattle.std.specs.Option.{option_map, option_map_or, option_and_then}
use Rattle.std.proofs.Common.{refl, arith}
use Rattle.std.proofs.lemmas.Bool.{cond_both, lt-ltb}
use Rattle.ja_base.specs.declared.ids.Label.{Label}
use Rattle.ja_base.proofs.Lists.{all_append}
use Rattle.ja_graph.specs.declared.program.Program.{Program}
use Rattle.ja_machine.proofs.Lists.{all_filter, all_map, range_within}
use Rattle.ja_abstract.specs.declared.abstraction.Key.{Key}
use Rattle.ja_abstract.specs.declared.abstraction.Key.TheVariants as key
use Rattle.ja_abstract.specs.AbstractValue.{Labels, AbstractValue, AbstractProperty, absent_property}
use Rattle.ja_abstract.specs.AbstractState.{AbstractState, labels_of, keys_of, name_key, is_label, is_key, same_key}
use Rattle.ja_abstract.specs.InProgram.{IsInProgram, AreKeys, AreAtKeys}
use Rattle.ja_abstract.specs.Keys.{keys_of_value, index_of_key, index_keys, text_keys, has_key, is_index_key, is_text_key}
use Rattle.ja_abstract.specs.Made.{length_key, one_number}
use Rattle.ja_abstract.specs.Primitives.{of_bools, of_number_part, to_num}
use Rattle.ja_abstract.specs.Reading.{View, may_accept, may_refuse}
use Rattle.ja_abstract.specs.Writes.{Write, Deletion, has_some_part, sets_at, joins_at, strong_update, new_alone, one_target, one_name, strong_at, element_writes, length_writes, put_writes, accepted_writes, asked_at, if_there, strong_put, put_list, put_states, defined, declared, own_at, if_given, strong_delete, delete_list, delete_states, may_delete, may_keep, may_be_cut, may_be_length, grown_length, put_property, is_missing, is_array_label, weak_update, weak_put, weak_delete}
use Rattle.ja_abstract.proofs.Labels.{site_labels}
use Rattle.ja_abstract.proofs.InProgram.{strong_update_in, weak_update_in}

-- ---- the labels and the keys of a program are its own

module _ (p : Program) where
  abbrev IsLabel : Label → Type 0
  IsLabel l = IsTrue (is_label p l)

  abbrev IsKey : Key → Type 0
  IsKey k = IsTrue (is_key p k)

  pub labels_are_labels : AllByRecursion IsLabel (labels_of p)
  labels_are_labels = by (range_with_len 0 (length p.sites)) (range_within 0 (length p.sites))
    where
      by : (ss : List ℕ) → AllByRecursion (λ s. (0 ≤ s) × (s < 0 + length p.sites)) ss
          → AllByRecursion IsLabel (flat_map site_labels ss)
      by [] all = tt
      by (s ∷ ss) all =
          let high : s < 0 + length p.sites = all.0.1 in
          let here : s < length p.sites = omega arith in
          (lt-ltb s (length p.sites) here, (lt-ltb s (length p.sites) here, by ss all.1))

  pub keys_are_keys : AreKeys p (keys_of p)
  keys_are_keys =
      all_append IsKey (map name_key (range_with_len 0 (length p.names))) _
      (all_map (λ n. (0 ≤ n) × (n < 0 + length p.names)) IsKey name_key
      (λ n within. let high : n < 0 + length p.names = within.1 in
      lt-ltb n (length p.names) (omega arith)) _ (range_within 0 (length p.names)))
      (refl, (refl, (refl, (refl, (refl, (refl, tt))))))

  pub keys_of_value_are : (v : AbstractValue) → AreKeys p (keys_of_value p v)
  keys_of_value_are v = all_filter IsKey (has_key p v) (keys_of p) keys_are_keys

  pub index_keys_are : AreKeys p (index_keys p)
  index_keys_are = all_filter IsKey (is_index_key p) (keys_of p) keys_are_keys

  pub text_keys_are : AreKeys p (text_keys p)
  text_keys_are = all_filter IsKey is_text_key (keys_of p) keys_are_keys

  -- ---- where a write is strong

  new_alone_is : (ls : List Label) → AllByRecursion IsLabel ls → IfSome (new_alone ls) IsLabel
  new_alone_is [] all = tt
  new_alone_is (l ∷ []) all =
      cond_both l.old None (Some l) (λ o. IfSome o IsLabel) (λ _. tt) (λ _. all.0)
  new_alone_is (l ∷ m ∷ ls) all = tt

  one_name_is : (keys : List Key) → AreKeys p keys → IfSome (one_name keys) IsKey
  one_name_is [] all = tt
  one_name_is (key.Name n ∷ []) all = all.0
  one_name_is (key.Name n ∷ k ∷ ks) all = tt
  one_name_is (key.OtherIndex ∷ ks) all = tt
  one_name_is (key.OtherName ∷ ks) all = tt
  one_name_is (key.Slot s ∷ ks) all = tt

  abbrev IsSpot : Label × Key → Type 0
  IsSpot at = IsLabel at.0 × IsKey at.1

  spot_by : (o : Option Label) (n : Option Key) → IfSome o IsLabel → IfSome n IsKey
      → IfSome (option_and_then (λ l. option_map {U = Label × Key} (λ k. (l, k)) n) o) IsSpot
  spot_by None n at_label at_key = tt
  spot_by (Some l) None at_label at_key = tt
  spot_by (Some l) (Some k) at_label at_key = (at_label, at_key)

-- what holds of each of them, and where there is none, holds of both ways
by_option : {A B : Type 0} (P : A → Type 0) (Q : B → Type 0) (f : A → B) (b : B) (o : Option A)
    → IfSome o P → ((a : A) → P a → Q (f a)) → Q b → Q (option_map_or f o b)
by_option P Q f b None some each none = none
by_option P Q f b (Some a) some each none = each a some

-- ---- what is written

module _ (w : View) (has_length : IsTrue (is_key w.program length_key)) where
  abbrev p : Program
  p = w.program

  abbrev AreWrites : List Write → Type 0
  AreWrites = AreAtKeys p

  element_writes_are : (l : Label) (k : Key) (v : AbstractValue) → IsKey p k
      → IfSome (element_writes w l k v) AreWrites
  element_writes_are l k v at_key =
      let q = own_at w l length_key in
      let n = grown_length q.value (index_of_key p k) (one_number p q.value) in
      cond_both (has_some_part w q.value)
      (Some (sets_at k (put_property w l k v) ∷ sets_at length_key (record q { value = n }) ∷ []))
      None (λ (o : Option (List Write)). IfSome o AreWrites)
      (λ _. (at_key, (has_length, tt))) (λ _. tt)

  length_writes_are : (l : Label) (v : AbstractValue) → IfSome (length_writes w l v) AreWrites
  length_writes_are l v =
      let n = (to_num v).value.number in
      let cut =
      filter (λ (k : Key). may_be_cut n (index_of_key p k)) (index_keys p) in
      let put = sets_at length_key (put_property w l length_key (of_number_part n)) in
      let lost = map (λ (k : Key). joins_at k absent_property) cut in
      let all : AreWrites lost = all_map (IsKey p) (λ (x : Write). IsKey p x.key)
      (λ (k : Key). joins_at k absent_property) (λ k at. at) cut
      (all_filter (IsKey p) (λ (k : Key). may_be_cut n (index_of_key p k)) (index_keys p)
      (index_keys_are p)) in
      cond_both (may_be_length n) (Some (put ∷ lost)) None
      (λ (o : Option (List Write)). IfSome o AreWrites) (λ _. (has_length, all)) (λ _. tt)

  put_writes_are : (l : Label) (k : Key) (v : AbstractValue) → IsKey p k
      → IfSome (put_writes w l k v) AreWrites
  put_writes_are l k v at_key =
      cond_both (is_array_label p l && same_key k length_key) (length_writes w l v) _
      (λ o. IfSome o AreWrites) (λ _. length_writes_are l v)
      (λ _. cond_both (is_array_label p l && is_index_key p k) (element_writes w l k v) _
      (λ o. IfSome o AreWrites) (λ _. element_writes_are l k v at_key) (λ _. (at_key, tt)))

  pub accepted_writes_are : (l : Label) (k : Key) (v : AbstractValue) → IsKey p k
      → IfSome (accepted_writes w l k v) AreWrites
  accepted_writes_are l k v at_key =
      cond_both (may_accept (asked_at w l k)) (put_writes w l k v) None (λ o. IfSome o AreWrites)
      (λ _. put_writes_are l k v at_key) (λ _. tt)

  pub some_writes : (o : Option (List Write)) → IfSome o AreWrites → AreWrites (unwrap_or o [])
  some_writes None are = tt
  some_writes (Some writes) are = are

  pub put_list_is : (v : AbstractValue) (l : Label) (keys : List Key) → AreKeys p keys
      → AreWrites (put_list w keys v l)
  put_list_is v l [] all = tt
  put_list_is v l (k ∷ ks) all =
      all_append (λ (x : Write). IsKey p x.key) (unwrap_or (accepted_writes w l k v) []) _
      (some_writes (accepted_writes w l k v) (accepted_writes_are l k v all.0))
      (put_list_is v l ks all.1)

  delete_list_is : (l : Label) (keys : List Key) → AreKeys p keys → AreWrites (delete_list w keys l)
  delete_list_is l keys all =
      all_map (IsKey p) (λ (x : Write). IsKey p x.key)
      (λ (k : Key). joins_at k absent_property) (λ k at. at) _
      (all_filter (IsKey p) (may_delete w l) keys all)

  -- ---- the states behind it

  module _ (f : IsInProgram p w.state) (target : Labels) where
    abbrev AreIn : List AbstractState → Type 0
    AreIn states = AllByRecursion (IsInProgram p) states

    one_target_is : IfSome (one_target w target) (IsLabel p)
    one_target_is =
        new_alone_is p (filter target (labels_of p))
        (all_filter (IsLabel p) target (labels_of p) (labels_are_labels p))

    if_there_in : (b : Bool) (a : AbstractState) → IsInProgram p a → AreIn (if_there b a)
    if_there_in b a g = cond_both b (a ∷ []) [] AreIn (λ _. (g, tt)) (λ _. tt)

    strong_put_in : (v : AbstractValue) (l : Label) (k : Key) → IsLabel p l → IsKey p k
        → AreIn (strong_put w l k v)
    strong_put_in v l k at_label at_key =
        all_append (IsInProgram p) (if_there (may_refuse (asked_at w l k)) w.state) _
        (if_there_in (may_refuse (asked_at w l k)) w.state f)
        (by_option AreWrites AreIn (λ writes. strong_update w.state l writes ∷ []) []
        (accepted_writes w l k v) (accepted_writes_are l k v at_key)
        (λ writes are. (strong_update_in p w.state l writes at_label are f, tt)) tt)

    module _ (keys : List Key) (are : AreKeys p keys) where
      abbrev spot : IfSome (strong_at w target keys) (IsSpot p)
      spot = spot_by p (one_target w target) (one_name keys) one_target_is (one_name_is p keys are)

      pub put_states_in : (v : AbstractValue) → AreIn (put_states w target keys v)
      put_states_in v =
          by_option (IsSpot p) AreIn (λ (at : Label × Key). strong_put w at.0 at.1 v)
          (weak_put w target keys v) (strong_at w target keys) spot
          (λ at is. strong_put_in v at.0 at.1 is.0 is.1)
          (if_there_in _ (weak_update p w.state target (put_list w keys v))
          (weak_update_in p w.state target (put_list w keys v)
          (λ l at_label among. put_list_is v l keys are) f))

      -- .. of deletions
      abbrev AreDeletions : List Deletion → Type 0
      AreDeletions results = AllByRecursion (λ (d : Deletion). IsInProgram p d.1) results

      if_given_in : (b : Bool) (v : AbstractValue) (a : AbstractState) → IsInProgram p a
          → AreDeletions (if_given b v a)
      if_given_in b v a g = cond_both b _ [] AreDeletions (λ _. (g, tt)) (λ _. tt)

      strong_delete_in : (l : Label) (k : Key) → IsLabel p l → IsKey p k
          → AreDeletions (strong_delete w l k)
      strong_delete_in l k at_label at_key =
          let cut = strong_update w.state l (sets_at k absent_property ∷ []) in
          let gone = if_given (may_delete w l k) (of_bools true false) cut in
          let stays = if_given (may_keep w l k) (of_bools false true) w.state in
          let lacks = if_given (is_missing w l k) (of_bools true false) w.state in
          all_append (λ (d : Deletion). IsInProgram p d.1) lacks (stays ++ gone)
          (if_given_in (is_missing w l k) (of_bools true false) w.state f)
          (all_append (λ (d : Deletion). IsInProgram p d.1) stays gone
          (if_given_in (may_keep w l k) (of_bools false true) w.state f)
          (if_given_in (may_delete w l k) (of_bools true false) cut
          (strong_update_in p w.state l (sets_at k absent_property ∷ []) at_label (at_key, tt) f)))

      pub delete_states_in : AreDeletions (delete_states w target keys)
      delete_states_in =
          by_option (IsSpot p) AreDeletions (λ (at : Label × Key). strong_delete w at.0 at.1)
          (weak_delete w target keys) (strong_at w target keys) spot
          (λ at is. strong_delete_in at.0 at.1 is.0 is.1) (
            weak_update_in p w.state target (delete_list w keys)
                (λ l at_label among. delete_list_is l keys are) f,
            tt,
          )

    -- definitions
    module _ (k : Key) (q : AbstractProperty) (at_key : IsKey p k) where
      set_in : (writes : Label → List Write)
          → ((l : Label) → AreWrites (writes l)) → IsInProgram p
          (option_map_or (λ l. strong_update w.state l (sets_at k q ∷ [])) (one_target w target)
          (weak_update p w.state target writes))
      set_in writes are =
          by_option (IsLabel p) (IsInProgram p)
          (λ l. strong_update w.state l (sets_at k q ∷ []))
          (weak_update p w.state target writes) (one_target w target) one_target_is
          (λ l at_label. strong_update_in p w.state l (sets_at k q ∷ []) at_label (at_key, tt) f)
          (weak_update_in p w.state target writes (λ l at_label among. are l) f)

      pub defined_in : IsInProgram p (defined w target k q)
      defined_in = set_in (λ l. sets_at k q ∷ []) (λ l. (at_key, tt))

      pub declared_in : IsInProgram p (declared w target k q)
      declared_in =
          set_in (λ l. if (own_at w l k).value.flags.absent then sets_at k q ∷ [] else [])
          (λ l. cond_both (own_at w l k).value.flags.absent (sets_at k q ∷ []) [] AreWrites
          (λ _. (at_key, tt)) (λ _. tt))
