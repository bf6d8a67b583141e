use Rattle.std.proofs.Common.{◌≡◌, ◌∷◌, [], ◌∙◌, ap, arith, length, map, sym}
use Rattle.std.proofs.lemmas.Bool.{ltb-false, ltb-true}
use Rattle.std.proofs.lemmas.List.{length-map}
use Rattle.std.specs.Fmt.{decimal}
use Rattle.serde_json.specs.Data.{Data}
use Rattle.ja_cert_json.specs.View.{view}
use Rattle.ja_cert_read.proofs.ItemsRight.{along_is, along_told_count}
use Rattle.ja_cert_read.proofs.ObjectLemmas.{one_read}
use Rattle.ja_cert_read.proofs.Told.{reads_as, reads_inside}
use Rattle.ja_cert_read.proofs.items.read_along.Goals as goal
use Rattle.ja_cert_read.proofs.items.read_along.Goals.{in_default-via-then-values-lt1, in_default-via-else-values-lt1+else-values-lt2}

pub returns-in_default : goal.returns-in_default
returns-in_default c =
    along_told_count _ _ _ (λ count. let size : length c.args.values.now ≡ 1 =
    sym (length-map c.args.values.now view) ∙ count in
    elim c.in_default.branch [
      | in_default-via-then-values-lt1 w ↦ omega (arith, ltb-true)
      | in_default-via-else-values-lt1+else-values-lt2 w ↦ omega (arith, ltb-false)
    ]) c.here.ensures

pub returns : goal.returns
returns c =
    let values = ap (map view) (one_read _ _
    (omega (arith, c.in-len1.len_at_least, c.in-len1.len_below)) c.edge-item.is) in
    reads_as _ _ _ _ c.at.result (along_is _ _ (view c.edge-item.result) values)
    (λ e read. ap (λ (d : Data). d ∷ []) read ∙ sym values)
    (reads_inside (decimal 1) _ _ c.read_edge.result c.at.result c.read_edge.ensures
    c.at.ensures.same c.at.ensures.told)
