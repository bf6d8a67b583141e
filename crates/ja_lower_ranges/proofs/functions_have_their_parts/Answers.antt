use Rattle.ja_lower_ranges.proofs.FunctionParts.{functions_found}
use Rattle.ja_lower_ranges.proofs.functions_have_their_parts.Goals as goal

pub returns : goal.returns
returns c = functions_found
