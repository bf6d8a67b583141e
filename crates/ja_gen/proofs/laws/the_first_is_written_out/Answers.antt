-- Computed.
use Rattle.std.proofs.Common.{refl}
use Rattle.std.specs.Fmt.{digits}
use Rattle.ja_gen.specs.Generated.{class_text, constructor_line, generated_text, method_line}
use Rattle.ja_gen.specs.Generated.{object_line, result_line}
use Rattle.ja_gen.proofs.laws.the_first_is_written_out.Goals as goal

pub returns : goal.returns
unfolding class_text constructor_line digits generated_text method_line object_line result_line
returns c = refl
