use Rattle.std.proofs.Common.{◌≡◌, ◌∷◌, ◌∙◌, ap, map, rules, sym, Some}
use Rattle.std.proofs.lemmas.Result.{err_from_is_err_and}
use Rattle.std.specs.Fmt.{decimal}
use Rattle.ja_cert_json.specs.View.{view}
use Rattle.ja_cert.specs.Certificate.{listed}
use Rattle.ja_cert.specs.Wrong.{list_of}
use Rattle.ja_cert_read.proofs.ItemsRight.{behind_is, item_told_empty, item_told_list, item_told_word, item_written}
use Rattle.ja_cert_read.proofs.Told.{inside_err, inside_ok, reads_as}
use Rattle.ja_cert_read.proofs.items.ItemMemberVisits.read.Goals as goal
use Rattle.ja_cert_read.proofs.items.ItemMemberVisits.read.Goals.{After-read_word}

-- the word and what is behind it
found : (c : After-read_word)
    → let ds = view c.in-Some.word.now ∷ map view c.in-Some.values.now in
    (list_of (view c.args.value.now) ≡ Some ds) × (listed ds ≡ view c.args.value.now)
found c =
    let values = c.in-Some.ensures.cases.0 in (
      c.in_ok-list.ensures.1.0 ∙ ap (λ vs. Some (map view vs)) values,
      ap (λ vs. listed (map view vs)) (sym values) ∙ c.in_ok-list.ensures.1.1,
    )

pub returns-in_err-list : goal.returns-in_err-list
returns-in_err-list c = search (rules, item_told_list)

pub returns-in_default : goal.returns-in_default
returns-in_default c =
    item_told_empty _ _ _ _ _ c.in_ok-list.ensures.1.0 c.in_default.ensures.cases c.here.ensures

pub returns-in_err-place : goal.returns-in_err-place
returns-in_err-place c =
    let p = err_from_is_err_and c.from_residual-in_err-place.result
    c.from_residual-in_err-place.ensures.1 in
    let all = found (goal.at.returns-in_err-place c).After-read_word in
    rw (p.1, p.2) (item_told_word _ _ _ all.0 _
    (inside_err _ _ _ c.read_word.result _ c.read_word.ensures c.in_err-place.ensures.told))

pub returns : goal.returns
returns c =
    let all = found (goal.at.returns c).After-read_word in
    let place = inside_ok (decimal 0) _ _ c.read_word.result c.in_ok-place.place
    c.read_word.ensures c.in_ok-place.ensures.same in
    reads_as _ _ _ _ c.read_behind.result (behind_is _ _ _ all.0 _ place.1)
    (λ i written. (item_written i _ _ _ _ all.1 place.1 written, tt)) c.read_behind.ensures
