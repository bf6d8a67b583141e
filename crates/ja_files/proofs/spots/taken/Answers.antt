use Rattle.std.proofs.Common.{◌∙◌, ◌++◌, ◌≡◌, ap, arith, length, ℕ, List}
use Rattle.std.specs.Str.{chars}
use Rattle.ja_files.specs.Files.{separator, taken}
use Rattle.ja_files.specs.Lines.{endings}
use Rattle.ja_files.proofs.Counting.{length-taken, taken-few}
use Rattle.ja_files.proofs.spots.taken.Goals as goal

pub endings-requires : goal.endings-requires
endings-requires c =
    let long = length-taken c.args.text.now in
    let all : c.deref.result.now ≡ chars c.args.text.now ++ separator =
    c.deref.ensures.value ∙ c.in_ok-extend_from_slice.ensures.items
    ∙ ap (λ (cs : List ℕ). cs ++ separator) c.in_ok-characters.ensures in
    let same : length c.deref.result.now ≡ length (chars c.args.text.now ++ separator) =
    ap length all in
    omega arith

pub returns-clause-lines : goal.returns-clause-lines
returns-clause-lines c =
    c.endings.ensures
    ∙ ap endings (c.deref.ensures.value ∙ c.in_ok-extend_from_slice.ensures.items
    ∙ ap (λ (cs : List ℕ). cs ++ separator) c.in_ok-characters.ensures)

pub returns-clause-few : goal.returns-clause-few
returns-clause-few c =
    let same : c.endings.result ≡ taken (chars c.args.text.now) = c.endings.ensures
    ∙ ap endings (c.deref.ensures.value ∙ c.in_ok-extend_from_slice.ensures.items
    ∙ ap (λ (cs : List ℕ). cs ++ separator) c.in_ok-characters.ensures) in
    let few = taken-few c.args.text.now in
    omega arith
