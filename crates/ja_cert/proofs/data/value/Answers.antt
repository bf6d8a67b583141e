use Rattle.std.proofs.Common.{◌∙◌, List, ap, map}
use Rattle.serde_json.specs.Data.{Data, array}
use Rattle.serde_json.specs.View.{items_of, view}
use Rattle.ja_cert.specs.Certificate.{value_data}
use Rattle.ja_cert.proofs.Views.{parts_written}
use Rattle.ja_cert.proofs.data.value.Goals as goal

pub returns : goal.returns
unfolding value_data
returns c =
    c.from.ensures ∙ ap (λ (ds : List Data). array (items_of ds))
    (parts_written _ _ _ _ _ _ _ _ _ (ap (map view) c.new-parts.ensures.items)
    c.in_ok-push_flag_words.ensures c.in_ok-push_number_word.ensures
    c.in_ok-push_text_word.ensures c.in_ok-push_labels.ensures)
