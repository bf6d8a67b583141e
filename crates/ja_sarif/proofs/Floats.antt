-- A log has no float.
use Rattle.std.proofs.Common.{◌≡◌, ℕ, Bool, List, [], ◌∷◌, map, refl, ap, ◌∙◌, false}
use Rattle.serde_json.specs.Data.{Data}
use Rattle.serde_json.specs.View.{items_of}
use Rattle.serde_json.specs.Written.{has_float, items_have_float}
use Rattle.ja_files.specs.declared.file.Spot.{Spot}
use Rattle.ja_files.specs.Lines.{lines_of}
use Rattle.ja_show.specs.declared.message.Message.{Message}
use Rattle.ja_show.specs.Messages.{others, standing}
use Rattle.ja_sarif.specs.Sarif.{call_data, invocation_data, log_data, notification_data, physical_data, place_data, places_of, region_data, result_data, rule_data, run_data, text_data, tool_data, uri_of, usual_data}

items_none : {X : Type 0} (f : X → Data) → ((x : X) → has_float (f x) ≡ false) → (xs : List X)
    → items_have_float (items_of (map f xs)) ≡ false
items_none f none [] = refl
items_none f none (x ∷ xs) = rw (none x, items_none f none xs) refl

module _ (uris : List (List ℕ)) (sources : List (List (List ℕ))) where
  place_none : (at : Spot) → has_float (place_data uris sources at) ≡ false
  unfolding place_data physical_data region_data
  place_none at = refl

  call_none : (at : Spot) → has_float (call_data uris sources at) ≡ false
  unfolding call_data physical_data region_data text_data
  call_none at = refl

  result_none : (m : Message) → has_float (result_data uris sources m) ≡ false
  unfolding result_data text_data
  result_none m =
      rw (
        items_none (place_data uris sources) place_none (places_of (standing m.spot m.calls)),
        items_none (call_data uris sources) call_none (others m.spot m.calls),
      )
      refl

tool_none : (version : List ℕ) → has_float (tool_data version) ≡ false
unfolding tool_data rule_data usual_data text_data
tool_none version = refl

invocation_none : (answered : Bool) (ending : List ℕ)
    → has_float (invocation_data answered ending) ≡ false
unfolding invocation_data notification_data text_data
invocation_none answered ending = refl

pub log_none : (version : List ℕ) (names texts : List (List ℕ)) (messages : List Message)
    (answered : Bool) (ending : List ℕ)
    → has_float (log_data (run_data version names texts messages answered ending)) ≡ false
unfolding log_data run_data
log_none version names texts messages answered ending =
    let uris = map uri_of names in
    let sources = map lines_of texts in
    rw (
      invocation_none answered ending,
      items_none (result_data uris sources) (result_none uris sources) messages,
      tool_none version,
    )
    refl

-- what is known of a value by its data
pub none_of : (d e : Data) → d ≡ e → has_float e ≡ false → has_float d ≡ false
none_of d e is none = ap has_float is ∙ none
