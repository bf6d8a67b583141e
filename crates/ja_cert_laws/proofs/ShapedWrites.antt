-- What is written into a state of a program, defined there or deleted there keeps its shape, with
-- labels of the program alone.
use Rattle.std.specs.Prelude.{◌&&◌, ◌++◌, ℕ, ℤ, pos, Bool, true, false, ◌+◌, if◌then◌else◌, int_lt, List, [], ◌∷◌, map, filter, Option, Some, None, IfSome, unwrap_or}
use Rattle.std.specs.List.{AllByRecursion}
use Rattle.std.specs.Option.{option_map_or, option_map, option_and_then}
use Rattle.std.proofs.Common.{refl}
use Rattle.std.proofs.lemmas.Bool.{cond_both}
use Rattle.ja_base.specs.declared.ids.Label.{Label}
use Rattle.ja_base.proofs.Lists.{all_append}
use Rattle.ja_prim.specs.declared.primitive.Num.TheVariants.{Whole}
use Rattle.ja_prim.specs.declared.primitive.Primitive.TheVariants as primitive
use Rattle.ja_graph.specs.declared.program.Program.{Program}
use Rattle.ja_abstract.specs.declared.abstraction.Key.{Key}
use Rattle.ja_abstract.specs.declared.abstraction.Key.TheVariants as key
use Rattle.ja_abstract.specs.AbstractValue.{Labels, AbstractValue, AbstractProperty, absent_property, absent_value, of_primitive}
use Rattle.ja_abstract.specs.AbstractState.{AbstractState, same_key}
use Rattle.ja_abstract.specs.Keys.{index_keys, index_of_key, is_index_key}
use Rattle.ja_abstract.specs.Made.{length_key, one_number, whole_constant}
use Rattle.ja_abstract.specs.Primitives.{of_bools, of_number_part, to_num, whole_value}
use Rattle.ja_abstract.specs.Reading.{View, may_accept, may_refuse}
use Rattle.ja_abstract.specs.Writes.{Write, Deletion, accepted_writes, asked_at, declared, defined, delete_list, delete_states, element_writes, grown_length, has_some_part, if_given, if_there, is_array_label, is_missing, joins_at, length_writes, may_be_cut, may_be_length, may_delete, may_keep, one_name, one_target, own_at, put_list, put_property, put_states, put_writes, sets_at, strong_at, strong_delete, strong_put, strong_update, weak_delete, weak_put, weak_update}
use Rattle.ja_rows.specs.Out.{at}
use Rattle.ja_cert_laws.proofs.ShapedReadings.{IsViewIn, resolved_is}
use Rattle.ja_cert_laws.proofs.ShapedStates.{AreTextKeys, AreWritesIn, IsPropertyIn, IsShapedIn, IsTextKey, IsWriteIn, bare_in, strong_shaped, text_in, weak_shaped}
use Rattle.ja_cert_laws.proofs.ShapedValues.{AreLabels, IsRegisterIn, joined_objects, no_objects, of_truths}

-- what holds of each of them, and where there is none, holds of both ways
pub by_option : {A B : Type 0} (P : A → Type 0) (Q : B → Type 0) (f : A → B) (b : B) (o : Option A)
    → IfSome o P → ((a : A) → P a → Q (f a)) → Q b → Q (option_map_or f o b)
by_option P Q f b None some each none = none
by_option P Q f b (Some a) some each none = each a some

module _ (w : View) (f : IsViewIn w) where
  abbrev p : Program
  p = w.program

  abbrev AreWrites : List Write → Type 0
  AreWrites = AreWritesIn p

  abbrev Objects : AbstractValue → Type 0
  Objects v = AreLabels p v.label

  own_at_labels : (l : Label) (k : Key) → Objects (own_at w l k).value
  own_at_labels l k = (resolved_is w f l k).labels

  grown_labels : (v : AbstractValue) (i : Option ℕ) (o : Option ℤ) → Objects v
      → Objects (grown_length v i o)
  grown_labels v (Some i) (Some n) g =
      cond_both (int_lt (pos i) n) (of_primitive (primitive.Number (Whole n)))
      (whole_constant (i + 1)) Objects (λ _. no_objects p) (λ _. no_objects p)
  grown_labels v (Some i) None g =
      joined_objects p v.label (whole_constant (i + 1)).label g (no_objects p)
  grown_labels v None n g = joined_objects p v.label whole_value.label g (no_objects p)

  element_writes_are : (l : Label) (k : Key) (v : AbstractValue) → IsTextKey k → Objects v
      → IfSome (element_writes w l k v) AreWrites
  element_writes_are l k v t g =
      let q = own_at w l length_key in
      let n = grown_length q.value (index_of_key p k) (one_number p q.value) in
      cond_both (has_some_part w q.value)
      (Some (sets_at k (put_property w l k v) ∷ sets_at length_key (record q { value = n }) ∷ []))
      None (λ (o : Option (List Write)). IfSome o AreWrites)
      (λ _. (
        text_in p k (put_property w l k v) t g,
        (
          text_in p length_key (record q { value = n }) refl
              (grown_labels q.value (index_of_key p k) (one_number p q.value)
              (own_at_labels l length_key)),
          tt,
        ),
      )) (λ _. tt)

  lost_are : (ks : List Key) → AreWrites (map (λ (k : Key). joins_at k absent_property) ks)
  lost_are [] = tt
  lost_are (k ∷ ks) = (bare_in p k absent_value (no_objects p), lost_are ks)

  length_writes_are : (l : Label) (v : AbstractValue) → IfSome (length_writes w l v) AreWrites
  length_writes_are l v =
      let n = (to_num v).value.number in
      let cut =
      filter (λ (k : Key). may_be_cut n (index_of_key p k)) (index_keys p) in
      let put = sets_at length_key (put_property w l length_key (of_number_part n)) in
      let lost = map (λ (k : Key). joins_at k absent_property) cut in
      cond_both (may_be_length n) (Some (put ∷ lost)) None
      (λ (o : Option (List Write)). IfSome o AreWrites)
      (λ _. (
        text_in p length_key (put_property w l length_key (of_number_part n)) refl (no_objects p),
        lost_are cut,
      )) (λ _. tt)

  put_writes_are : (l : Label) (k : Key) (v : AbstractValue) → IsTextKey k → Objects v
      → IfSome (put_writes w l k v) AreWrites
  put_writes_are l k v t g =
      cond_both (is_array_label p l && same_key k length_key) (length_writes w l v) _
      (λ o. IfSome o AreWrites) (λ _. length_writes_are l v)
      (λ _. cond_both (is_array_label p l && is_index_key p k) (element_writes w l k v) _
      (λ o. IfSome o AreWrites) (λ _. element_writes_are l k v t g)
      (λ _. (text_in p k (put_property w l k v) t g, tt)))

  accepted_are : (l : Label) (k : Key) (v : AbstractValue) → IsTextKey k → Objects v
      → IfSome (accepted_writes w l k v) AreWrites
  accepted_are l k v t g =
      cond_both (may_accept (asked_at w l k)) (put_writes w l k v) None
      (λ o. IfSome o AreWrites) (λ _. put_writes_are l k v t g) (λ _. tt)

  some_writes : (o : Option (List Write)) → IfSome o AreWrites → AreWrites (unwrap_or o [])
  some_writes None are = tt
  some_writes (Some writes) are = are

  put_list_is : (v : AbstractValue) (l : Label) (keys : List Key) → AreTextKeys keys → Objects v
      → AreWrites (put_list w keys v l)
  put_list_is v l [] all g = tt
  put_list_is v l (k ∷ ks) all g =
      all_append (IsWriteIn p) (unwrap_or (accepted_writes w l k v) []) _
      (some_writes (accepted_writes w l k v) (accepted_are l k v all.0 g))
      (put_list_is v l ks all.1 g)

  one_name_is : (keys : List Key) → IfSome (one_name keys) IsTextKey
  one_name_is [] = tt
  one_name_is (key.Name n ∷ []) = refl
  one_name_is (key.Name n ∷ k ∷ ks) = tt
  one_name_is (key.OtherIndex ∷ ks) = tt
  one_name_is (key.OtherName ∷ ks) = tt
  one_name_is (key.Slot s ∷ ks) = tt

  abbrev IsSpot : Label × Key → Type 0
  IsSpot at = IsTextKey at.1

  spot_by : (o : Option Label) (n : Option Key) → IfSome n IsTextKey
      → IfSome (option_and_then (λ l. option_map {U = Label × Key} (λ k. (l, k)) n) o) IsSpot
  spot_by None n t = tt
  spot_by (Some l) None t = tt
  spot_by (Some l) (Some k) t = t

  -- ---- the states behind it

  module _ (target : Labels) where
    abbrev IsShapedHere : AbstractState → Type 0
    IsShapedHere = IsShapedIn p

    abbrev AreShaped : List AbstractState → Type 0
    AreShaped states = AllByRecursion IsShapedHere states

    if_there_shaped : (b : Bool) (a : AbstractState) → IsShapedHere a → AreShaped (if_there b a)
    if_there_shaped b a g = cond_both b (a ∷ []) [] AreShaped (λ _. (g, tt)) (λ _. tt)

    strong_put_shaped : (v : AbstractValue) (l : Label) (k : Key) → IsTextKey k → Objects v
        → AreShaped (strong_put w l k v)
    strong_put_shaped v l k t g =
        all_append IsShapedHere (if_there (may_refuse (asked_at w l k)) w.state) _
        (if_there_shaped (may_refuse (asked_at w l k)) w.state f.state)
        (by_option AreWrites AreShaped (λ writes. strong_update w.state l writes ∷ []) []
        (accepted_writes w l k v) (accepted_are l k v t g)
        (λ writes are. (strong_shaped p w.state l writes are f.state, tt)) tt)

    module _ (keys : List Key) where
      abbrev spot : IfSome (strong_at w target keys) IsSpot
      spot = spot_by (one_target w target) (one_name keys) (one_name_is keys)

      pub put_shaped : AreTextKeys keys → (v : AbstractValue) → Objects v
          → AreShaped (put_states w target keys v)
      put_shaped are v g =
          by_option IsSpot AreShaped (λ (at : Label × Key). strong_put w at.0 at.1 v)
          (weak_put w target keys v) (strong_at w target keys) spot
          (λ at is. strong_put_shaped v at.0 at.1 is g)
          (if_there_shaped _ (weak_update p w.state target (put_list w keys v))
          (weak_shaped p p w.state target (put_list w keys v) (λ l. put_list_is v l keys are g)
          f.state))

      -- .. of deletions, each with what it gives
      abbrev IsDeletion : Deletion → Type 0
      IsDeletion d = IsRegisterIn p d.0 × IsShapedHere d.1

      abbrev AreDeletions : List Deletion → Type 0
      AreDeletions results = AllByRecursion IsDeletion results

      if_given_shaped : (b : Bool) (t f : Bool) (a : AbstractState) → IsShapedHere a
          → AreDeletions (if_given b (of_bools t f) a)
      if_given_shaped b t f a g =
          cond_both b _ [] AreDeletions (λ _. ((of_truths p t f, g), tt)) (λ _. tt)

      strong_delete_shaped : (l : Label) (k : Key) → AreDeletions (strong_delete w l k)
      strong_delete_shaped l k =
          let cut = strong_update w.state l (sets_at k absent_property ∷ []) in
          let gone = if_given (may_delete w l k) (of_bools true false) cut in
          let stays = if_given (may_keep w l k) (of_bools false true) w.state in
          let lacks = if_given (is_missing w l k) (of_bools true false) w.state in
          all_append IsDeletion lacks (stays ++ gone)
          (if_given_shaped (is_missing w l k) true false w.state f.state)
          (all_append IsDeletion stays gone
          (if_given_shaped (may_keep w l k) false true w.state f.state)
          (if_given_shaped (may_delete w l k) true false cut
          (strong_shaped p w.state l (sets_at k absent_property ∷ [])
          (bare_in p k absent_value (no_objects p), tt) f.state)))

      pub delete_shaped : AreDeletions (delete_states w target keys)
      delete_shaped =
          by_option IsSpot AreDeletions (λ (at : Label × Key). strong_delete w at.0 at.1)
          (weak_delete w target keys) (strong_at w target keys) spot
          (λ at is. strong_delete_shaped at.0 at.1) (
            (
              of_truths p _ _,
              weak_shaped p p w.state target (delete_list w keys)
                  (λ l. lost_are (filter (may_delete w l) keys)) f.state,
            ),
            tt,
          )

    -- definitions
    module _ (k : Key) (q : AbstractProperty) (t : IsPropertyIn p k q) where
      set_shaped : (writes : Label → List Write) → ((l : Label) → AreWrites (writes l))
          → IsShapedHere
          (option_map_or (λ l. strong_update w.state l (sets_at k q ∷ [])) (one_target w target)
          (weak_update p w.state target writes))
      set_shaped writes are =
          by_option (λ (l : Label). Unit {0}) IsShapedHere
          (λ l. strong_update w.state l (sets_at k q ∷ []))
          (weak_update p w.state target writes) (one_target w target) (any (one_target w target))
          (λ l u. strong_shaped p w.state l (sets_at k q ∷ []) (t, tt) f.state)
          (weak_shaped p p w.state target writes are f.state)
        where
          any : (o : Option Label) → IfSome o (λ (l : Label). Unit {0})
          any None = tt
          any (Some l) = tt

      pub defined_shaped : IsShapedHere (defined w target k q)
      defined_shaped = set_shaped (λ l. sets_at k q ∷ []) (λ l. (t, tt))

      pub declared_shaped : IsShapedHere (declared w target k q)
      declared_shaped =
          set_shaped (λ l. if (own_at w l k).value.flags.absent then sets_at k q ∷ [] else [])
          (λ l. cond_both (own_at w l k).value.flags.absent (sets_at k q ∷ []) [] AreWrites
          (λ _. (t, tt)) (λ _. tt))
