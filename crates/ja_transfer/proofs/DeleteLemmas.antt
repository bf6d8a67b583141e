-- Deletions: what is written, what they give, and what the states come to.
use Rattle.std.proofs.Common.{◌≡◌, ◌+◌, ◌<◌, ℕ, Bool, true, false, ◌||◌, if◌then◌else◌, List, [], ◌∷◌, ◌++◌, length, map, take, get_or, Option, Some, None, refl, sym, ap, ◌∙◌, append-nil}
use Rattle.std.specs.Prelude.{IsTrue}
use Rattle.std.specs.List.{filter, list_any}
use Rattle.std.specs.Option.{option_map_or}
use Rattle.std.proofs.lemmas.List.{map_push}
use Rattle.std.proofs.lemmas.List.Elements.{filter_more}
use Rattle.std.proofs.lemmas.List.Folds.{list_any_more}
use Rattle.ja_base.specs.declared.ids.Label.{Label}
use Rattle.ja_base.specs.declared.ids.NodeId.{NodeId}
use Rattle.ja_base.specs.declared.ids.Reg.{Reg}
use Rattle.ja_machine.proofs.Lists.{all_filter, all_map}
use Rattle.ja_abstract.specs.declared.abstraction.Key.{Key}
use Rattle.ja_abstract.specs.AbstractValue.{Labels, absent_property}
use Rattle.ja_abstract.specs.AbstractState.{labels_of, is_key, with_register}
use Rattle.ja_abstract.specs.InProgram.{AreKeys, AreAtKeys}
use Rattle.ja_abstract.specs.Primitives.{of_bools}
use Rattle.ja_abstract.specs.Reading.{View}
use Rattle.ja_abstract.specs.Writes.{Write, sets_at, joins_at, strong_update, weak_update, some_at, is_missing, may_keep, may_delete, delete_list, strong_delete, weak_delete, delete_states}
use Rattle.ja_rows.specs.Out.{goes, sets_in, sets_results}
use Rattle.ja_transfer.specs.code.Deletes.{Deleting, deleting, delete_more, own_flags, deletes_some, keeps_some}
use Rattle.ja_transfer.specs.code.Members.{strong_spot, weakly_over}
use Rattle.ja_transfer.proofs.Filters.{any_filter}
use Rattle.ja_transfer.proofs.WeakLemmas.{weak_at_set}

-- ---- at a label and some keys

-- what a deletion writes is at keys of the program
pub delete_list_keys : (w : View) (l : Label) (keys : List Key) → AreKeys w.program keys
    → AreAtKeys w.program (delete_list w keys l)
delete_list_keys w l keys are =
    let p = w.program in
    all_map (λ (k : Key). IsTrue (is_key p k)) (λ (x : Write). IsTrue (is_key p x.key))
    (λ (k : Key). joins_at k absent_property) (λ k at. at) (filter (may_delete w l) keys)
    (all_filter (λ (k : Key). IsTrue (is_key p k)) (may_delete w l) keys are)

map_pushed : {X Y : Type 0} (f : X → Y) (xs : List X) (x : X) (b : Bool)
    → map f (xs ++ (if b then x ∷ [] else [])) ≡ map f xs ++ (if b then f x ∷ [] else [])
map_pushed f xs x true = map_push f xs x
map_pushed f xs x false = ap (map f) (append-nil xs) ∙ sym (append-nil (map f xs))

-- a key more
pub deleting_more : (w : View) (l : Label) (keys : List Key) (i : ℕ) (d : Key) → i < length keys
    → (now after : Deleting) → now ≡ deleting w l (take i keys)
    → after ≡ delete_more now (get_or keys i d) (own_flags w l (get_or keys i d))
    → after ≡ deleting w l (take (i + 1) keys)
deleting_more w l keys i d within now after now_is after_is =
    let k = get_or keys i d in
    let deleted : Key → Bool = λ j. is_missing w l j || may_delete w l j in
    let to : Key → Write = λ j. joins_at j absent_property in
    let writes : delete_list w (take i keys) l ++ (if may_delete w l k then to k ∷ [] else [])
    ≡ delete_list w (take (i + 1) keys) l =
    sym (map_pushed to (filter (may_delete w l) (take i keys)) k (may_delete w l k))
    ∙ ap (map to) (sym (filter_more (may_delete w l) keys i d within)) in
    after_is ∙ ap (λ (x : Deleting). delete_more x k (own_flags w l k)) now_is
    ∙ (λ n. record {
      is_deleted = sym (list_any_more deleted keys i d within) n;
      is_kept = sym (list_any_more (may_keep w l) keys i d within) n;
      writes = writes n;
    })

-- ---- at some labels and keys

strong_by : (w : View) (dst : Reg) (next : NodeId) (l : Label) (k : Key) (a b c : Bool)
    → goes a next (with_register w.state dst (of_bools true false))
    ++ (goes b next (with_register w.state dst (of_bools false true))
    ++ goes c next (with_register (strong_update w.state l (sets_at k absent_property ∷ [])) dst
    (of_bools true false)))
    ≡ sets_results w dst next
    ((if a then (of_bools true false, w.state) ∷ [] else [])
    ++ ((if b then (of_bools false true, w.state) ∷ [] else [])
    ++ (if c then (
      of_bools true false,
      strong_update w.state l (sets_at k absent_property ∷ []),
    ) ∷ [] else [])))
strong_by w dst next l k true true true = refl
strong_by w dst next l k true true false = refl
strong_by w dst next l k true false true = refl
strong_by w dst next l k true false false = refl
strong_by w dst next l k false true true = refl
strong_by w dst next l k false true false = refl
strong_by w dst next l k false false true = refl
strong_by w dst next l k false false false = refl

-- what a strong deletion gives
pub strong_given : (w : View) (dst : Reg) (next : NodeId) (l : Label) (k : Key)
    → goes (is_missing w l k) next (with_register w.state dst (of_bools true false))
    ++ (goes (may_keep w l k) next (with_register w.state dst (of_bools false true))
    ++ goes (may_delete w l k) next
    (with_register (strong_update w.state l (sets_at k absent_property ∷ [])) dst
    (of_bools true false)))
    ≡ sets_results w dst next (strong_delete w l k)
strong_given w dst next l k =
    strong_by w dst next l k (is_missing w l k) (may_keep w l k) (may_delete w l k)

module _ (w : View) (target : Labels) (keys : List Key) (ls : List Label)
    (are : ls ≡ filter target (labels_of w.program)) where
  -- a deletion is strong where there is one label and one name
  pub delete_strong : (l : Label) (k : Key) → strong_spot ls keys ≡ Some (l, k)
      → strong_delete w l k ≡ delete_states w target keys
  delete_strong l k spot =
      ap (λ (o : Option (Label × Key)). option_map_or
      (λ (at : Label × Key). strong_delete w at.0 at.1) o (weak_delete w target keys))
      (sym spot ∙ ap (λ (xs : List Label). strong_spot xs keys) are)

  weak_delete_is : (dst : Reg) (next : NodeId)
      → sets_in w (weakly_over w.program w.state ls (delete_list w keys)) dst
      (of_bools (list_any (deletes_some w keys) ls) (list_any (keeps_some w keys) ls)) next
      ≡ sets_results w dst next (weak_delete w target keys)
  weak_delete_is dst next =
      let deleted : list_any (deletes_some w keys) ls
      ≡ some_at w target keys (λ l k. is_missing w l k || may_delete w l k) =
      ap (list_any (deletes_some w keys)) are
      ∙ any_filter target (deletes_some w keys) (labels_of w.program) in
      let kept : list_any (keeps_some w keys) ls ≡ some_at w target keys (may_keep w) =
      ap (list_any (keeps_some w keys)) are
      ∙ any_filter target (keeps_some w keys) (labels_of w.program) in
      (λ n. sets_in w (weak_at_set w.program w.state target (delete_list w keys) ls are n) dst
      (of_bools (deleted n) (kept n)) next)
      ∙ sym (append-nil (sets_in w (weak_update w.program w.state target (delete_list w keys)) dst
      (of_bools (some_at w target keys (λ l k. is_missing w l k || may_delete w l k))
      (some_at w target keys (may_keep w))) next))

  -- .. and weak elsewhere
  pub delete_weak : (dst : Reg) (next : NodeId) → strong_spot ls keys ≡ None
      → sets_in w (weakly_over w.program w.state ls (delete_list w keys)) dst
      (of_bools (list_any (deletes_some w keys) ls) (list_any (keeps_some w keys) ls)) next
      ≡ sets_results w dst next (delete_states w target keys)
  delete_weak dst next none =
      weak_delete_is dst next
      ∙ ap (λ (o : Option (Label × Key)). sets_results w dst next (option_map_or
      (λ (at : Label × Key). strong_delete w at.0 at.1) o (weak_delete w target keys)))
      (sym none ∙ ap (λ (xs : List Label). strong_spot xs keys) are)
