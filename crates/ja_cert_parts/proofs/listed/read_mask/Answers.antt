use Rattle.std.proofs.Common.{◌≡◌, ℕ, zero, suc, [], ◌<◌, cond, nat_eq, get_or, refl, ◌∙◌, ap, arith}
use lib.Chars.{codes}
use Rattle.serde_json.specs.Data.{string}
use Rattle.ja_cert_json.specs.View.{view}
use Rattle.ja_cert.specs.Wrong.{mask_words}
use Rattle.ja_cert_parts.proofs.WordLemmas.{word_is}
use Rattle.ja_cert_parts.proofs.listed.read_mask.Goals as goal

mask_at : (n : ℕ) → n < 2
    → cond (nat_eq n 1) (codes "maybe") (codes "some") ≡ get_or mask_words n []
mask_at zero within = refl
mask_at (suc zero) within = refl
mask_at (suc (suc n)) within = absurd (omega arith)

pub returns : goal.returns
returns c =
    let read = c.in_ok-place.ensures in
    let word = word_is mask_words (view c.args.value.now) c.in_ok-place.place read.1 in
    (read.0, ap string (mask_at c.in_ok-place.place word.0) ∙ word.1)
