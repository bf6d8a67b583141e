-- The limits, as the refusals write them.
use Rattle.std.specs.Prelude.{◌≡◌}
use Rattle.std.specs.Fmt.{digits}
use Rattle.std.proofs.Common.{codes, refl}
use Rattle.ja_lint_top.specs.Refusals.{depth_words, functions_words, length_words, nodes_words, spent_words}

pub length_written : codes "more than 16777216 bytes" ≡ length_words
unfolding digits
length_written = refl

pub depth_written : codes "nested deeper than 200 levels" ≡ depth_words
unfolding digits
depth_written = refl

pub functions_written : codes "more than 4096 functions" ≡ functions_words
unfolding digits
functions_written = refl

pub nodes_written : codes "more than 65536 nodes" ≡ nodes_words
unfolding digits
nodes_written = refl

pub spent_written : codes "not closed after 1000000 visits" ≡ spent_words
unfolding digits
spent_written = refl
