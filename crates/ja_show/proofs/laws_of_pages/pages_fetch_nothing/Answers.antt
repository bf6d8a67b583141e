-- The head of a page computes to the policy and what is left of it, and what follows is behind.
use Rattle.std.proofs.Common.{◌≡◌, ℕ, List, ◌++◌, ◌∙◌, refl, ap, append_assoc}
use Rattle.std.specs.Prelude.{codes, drop, length, map}
use Rattle.std.specs.List.{flat_map}
use Rattle.ja_show.specs.Messages.{shown_name}
use Rattle.ja_show.specs.Page.{escaped, heading, message_item, page_text, sections}
use Rattle.ja_show.specs.declared.style.TheConstants.{HEAD, STYLE}
use Rattle.ja_show.proofs.laws_of_pages.pages_fetch_nothing.Goals as goal

abbrev policy : List ℕ
policy =
    codes "<!DOCTYPE html>\n<html lang=\"en\">\n<head>\n<meta charset=\"utf-8\">\n"
    ++ codes "<meta http-equiv=\"Content-Security-Policy\" content=\""
    ++ codes "default-src 'none'; style-src 'unsafe-inline'\">\n"

-- what begins with a text goes on to begin with it
behind : (p h d a b c e f g i j k l : List ℕ) → h ≡ p ++ d
    → (rest : List ℕ)
    × (h ++ a ++ b ++ c ++ e ++ f ++ g ++ i ++ j ++ k ++ l ≡ p ++ rest)
behind p h d a b c e f g i j k l is = (
  d ++ a ++ b ++ c ++ e ++ f ++ g ++ i ++ j ++ k ++ l,
  ap (λ x. x ++ a ++ b ++ c ++ e ++ f ++ g ++ i ++ j ++ k ++ l) is ∙ simp append_assoc,
)

pub returns : goal.returns
unfolding page_text
returns c = λ title summary names texts messages links.
    let shown_names = map shown_name names in
    behind policy HEAD.now (drop (length policy) HEAD.now) (heading title shown_names) STYLE.now
    (heading title shown_names) (codes "</h1>\n<p>") (escaped summary) (codes "</p>\n<ul>\n")
    (flat_map (message_item shown_names) messages) (codes "</ul>\n")
    (sections shown_names messages links 0 texts) (codes "</body>\n</html>\n") refl
