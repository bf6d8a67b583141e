-- The keys of a value among the first names, and the lists of all texts and of indices.
use Rattle.std.specs.Prelude.{◌≡◌, ℕ, Bool, true, false, cond, ◌||◌, List, [], ◌∷◌, ◌++◌, is_some, Some, None, unwrap_or, slice_get, ◌+◌}
use Rattle.std.proofs.Common.{refl, sym, ap, ◌∙◌, arith}
use Rattle.std.proofs.lemmas.List.Elements.{filter_agree}
use Rattle.std.proofs.lemmas.List.FromFn.{filter_of_map_range_with_len_more}
use Rattle.ja_prim.specs.Index.{is_index_text, with_digits}
use Rattle.ja_graph.specs.declared.program.Program.{Program}
use Rattle.ja_machine.specs.Nodes.{name_text}
use Rattle.ja_abstract.specs.declared.abstraction.Key.{Key}
use Rattle.ja_abstract.specs.declared.abstraction.Key.TheVariants as key
use Rattle.ja_abstract.specs.declared.abstraction.NumberPart.{NumberPart}
use Rattle.ja_abstract.specs.declared.abstraction.NumberPart.TheVariants as number_part
use Rattle.ja_abstract.specs.declared.abstraction.TextPart.TheVariants as text_part
use Rattle.ja_abstract.specs.AbstractValue.{AbstractValue}
use Rattle.ja_abstract.specs.AbstractState.{name_key, keys_of}
use Rattle.ja_abstract.specs.Keys.{has_key_text, has_key, keys_of_value, text_keys, index_keys, is_text_key, is_index_key}
use Rattle.ja_astate.specs.Keys.{of_parts}
use Rattle.ja_astate.specs.code.Lists.{names_below}

module _ (p : Program) (v : AbstractValue) where
  -- the keys of one name more
  pub names_more : (n : ℕ) (t : List ℕ) (b : Bool) → slice_get p.names n ≡ Some t
      → b ≡ has_key_text v t
      → names_below p v n ++ cond b (name_key n ∷ []) [] ≡ names_below p v (n + 1)
  names_more n t b is b_is =
      ap (λ c. names_below p v n ++ cond c (name_key n ∷ []) [])
      (b_is ∙ ap (λ o. has_key_text v (unwrap_or o [])) (sym is))
      ∙ sym (filter_of_map_range_with_len_more (has_key p v) name_key 0 n n (omega arith))

-- ---- the lists of all texts and of indices

some_if : (b : Bool) (i : ℕ) → (b || false) ≡ is_some (cond b (Some i) None)
some_if true i = refl
some_if false i = refl

module _ (p : Program) where
  has_text_key : (n : NumberPart) (k : Key) → has_key p (of_parts text_part.Text n) k ≡ is_text_key k
  has_text_key n (key.Name m) = refl
  has_text_key n key.OtherIndex = refl
  has_text_key n key.OtherName = refl
  has_text_key n (key.Slot s) = refl

  -- the keys of all texts are all those of texts, whatever numbers there are beside them
  pub all_texts_are : (n : NumberPart) → keys_of_value p (of_parts text_part.Text n) ≡ text_keys p
  all_texts_are n = filter_agree _ is_text_key (has_text_key n) (keys_of p)

  has_index_key : (k : Key)
      → has_key p (of_parts text_part.Nothing number_part.Index) k ≡ is_index_key p k
  has_index_key (key.Name m) =
      some_if (is_index_text (name_text p m)) (with_digits 0 (name_text p m))
  has_index_key key.OtherIndex = refl
  has_index_key key.OtherName = refl
  has_index_key (key.Slot s) = refl

  pub indices_are : keys_of_value p (of_parts text_part.Nothing number_part.Index) ≡ index_keys p
  indices_are = filter_agree _ (is_index_key p) has_index_key (keys_of p)
