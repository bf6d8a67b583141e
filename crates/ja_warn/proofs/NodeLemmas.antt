-- What a state allows at a node is what the node's tests say.
use Rattle.std.specs.Prelude.{◌≡◌, Bool, true, false, not, ◌||◌, List, [], ◌∷◌, map, filter, Option, None, Some, is_some, Result, IfOk}
use Rattle.std.specs.List.{list_any}
use Rattle.std.proofs.Common.{refl, sym, ◌∙◌, ap}
use Rattle.std.proofs.lemmas.Result.{IfOk-weaker}
use Rattle.ja_base.specs.declared.ids.FnId.{FnId}
use Rattle.ja_base.specs.declared.ids.Label.{Label}
use Rattle.ja_base.specs.declared.ids.Memory.{Memory}
use Rattle.ja_base.specs.declared.ids.Reg.{Reg}
use Rattle.ja_graph.specs.declared.node.NodeInfo.{NodeInfo}
use Rattle.ja_graph.specs.declared.program.Program.{Program}
use Rattle.ja_abstract.specs.declared.abstraction.Key.{Key}
use Rattle.ja_abstract.specs.AbstractValue.{AbstractValue}
use Rattle.ja_abstract.specs.AbstractState.{labels_of}
use Rattle.ja_abstract.specs.Reading.{View}
use Rattle.ja_abstract.specs.Values.{has_atoms}
use Rattle.ja_rows.specs.Edges.{has_other}
use Rattle.ja_rows.specs.Out.{at}
use Rattle.ja_rows.specs.Warning.{Test, has_non_row, has_row, keys_if, no_function, one_key, row_of_name, row_of_property, some_entry, tests}
use Rattle.ja_transfer.proofs.Filters.{any_filter}
use Rattle.ja_warn.specs.declared.reached.Allowed.{Allowed}
use Rattle.ja_warn.specs.Told.{subject}
use Rattle.ja_warn.specs.code.Faults.{Finding, Spot, Says, SaysRow, tested, reached_by, held, with_reached}
use Rattle.ja_warn.proofs.Rows.{no_row}

-- what a callee allows, by the labels that it has
pub says_function : (w : View) (entry : Program → Label → Option FnId) (r : Reg)
    (v : AbstractValue) (labels : List Label) (a : Allowed) → v ≡ at w r
    → labels ≡ filter v.label (labels_of w.program)
    → a.fault ≡ (has_atoms v || list_any (λ l. not (is_some (entry w.program l))) labels)
    → a.more ≡ list_any (λ l. is_some (entry w.program l)) labels → Says (no_function entry r) w a
says_function w entry r v labels a is are fault more =
    let runs : Label → Bool = λ l. is_some (entry w.program l) in
    record {
      fault =
          fault ∙ ap (λ ls. has_atoms v || list_any (λ l. not (runs l)) ls) are
          ∙ ap (λ b. has_atoms v || b)
          (any_filter v.label (λ l. not (runs l)) (labels_of w.program))
          ∙ ap (has_other w (entry w.program)) is;
      more =
          more ∙ ap (list_any runs) are ∙ any_filter v.label runs (labels_of w.program)
          ∙ ap (some_entry w (entry w.program)) is;
    }

-- what is held, with the operation of a node that has one test
pub one_test : {T : Type 0} (w : View) (f : FnId) (i : NodeInfo) (name : AbstractValue) (test : Test) (about : Reg)
    (allowed : Result Allowed Memory) (r : Result T Memory) (before after : Spot → Option Finding)
    → tests i.node ≡ test ∷ [] → subject i.node ≡ Some about → IfOk allowed (Says test w)
    → IfOk r (λ _. (s : Test) → s.kind ≡ test.kind → subject i.node ≡ Some about
    → IfOk allowed (Says s w) → (k : Spot)
    → after k ≡ with_reached k (before k) (tested w f i name s))
    → IfOk r (λ _. (k : Spot) → after k ≡ held k (before k) (reached_by w f i name))
one_test w f i name test about allowed r before after are about_is says added =
    IfOk-weaker r _ _ (λ _ h k. h test refl about_is says k
    ∙ ap (λ ts. held k (before k) (map (tested w f i name) ts)) (sym are)) added

-- .. and that has two, of which the first was added
pub two_tests : {T : Type 0} (w : View) (f : FnId) (i : NodeInfo) (name : AbstractValue)
    (first second : Test) (about : Reg) (allowed : Result Allowed Memory) (r : Result T Memory)
    (before between after : Spot → Option Finding) → tests i.node ≡ first ∷ second ∷ []
    → ((k : Spot) → between k ≡ with_reached k (before k) (tested w f i name first))
    → subject i.node ≡ Some about → IfOk allowed (Says second w)
    → IfOk r (λ _. (s : Test) → s.kind ≡ second.kind → subject i.node ≡ Some about
    → IfOk allowed (Says s w) → (k : Spot)
    → after k ≡ with_reached k (between k) (tested w f i name s))
    → IfOk r (λ _. (k : Spot) → after k ≡ held k (before k) (reached_by w f i name))
two_tests w f i name first second about allowed r before between after are earlier about_is says added =
    IfOk-weaker r _ _ (λ _ h k. h second refl about_is says k
    ∙ ap (λ q. with_reached k q (tested w f i name second)) (earlier k)
    ∙ ap (λ ts. held k (before k) (map (tested w f i name) ts)) (sym are)) added

-- ---- the reads of names and properties

-- what a name that is read allows, by what its base has and what the reading allows
pub says_name : (w : View) (r : Reg) (keys : List Key) (v : AbstractValue) (read a : Allowed)
    → v ≡ at w r → SaysRow w v.label keys read → a.fault ≡ read.fault
    → a.more ≡ (v.flags.null || read.more) → Says (row_of_name r keys) w a
says_name w r keys v read a is says fault more = record {
  fault =
      fault ∙ says.fault ∙ ap (λ (u : AbstractValue). has_row w u.label keys) is;
  more =
      more ∙ ap (λ b. v.flags.null || b) says.more
      ∙ ap (λ (u : AbstractValue). u.flags.null || has_non_row w u.label keys) is;
}

-- what a property that is read allows, by its key
pub says_key : (w : View) (r key : Reg) (v : AbstractValue) (k : Key) (a : Allowed) → v ≡ at w r
    → one_key w (at w key) ≡ Some k → SaysRow w v.label (k ∷ []) a
    → Says (row_of_property r key) w a
says_key w r key v k a is key_is says = record {
  fault =
      says.fault ∙ ap (λ (u : AbstractValue). has_row w u.label (k ∷ [])) is
      ∙ ap (λ o. has_row w (at w r).label (keys_if o)) (sym key_is);
  more =
      says.more ∙ ap (λ (u : AbstractValue). has_non_row w u.label (k ∷ [])) is
      ∙ ap (λ o. not (is_some o) || has_non_row w (at w r).label (keys_if o)) (sym key_is);
}

-- .. and without one
pub says_no_key : (w : View) (r key : Reg) (a : Allowed) → one_key w (at w key) ≡ None
    → a.fault ≡ false → a.more ≡ true → Says (row_of_property r key) w a
says_no_key w r key a no_key fault more = record {
  fault =
      fault ∙ sym (no_row w (at w r).label)
      ∙ ap (λ o. has_row w (at w r).label (keys_if o)) (sym no_key);
  more =
      more
      ∙ ap (λ o. not (is_some o) || has_non_row w (at w r).label (keys_if o)) (sym no_key);
}
