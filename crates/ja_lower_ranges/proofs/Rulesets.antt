-- The lemmas that the searches of a function are given, by its name.
use Rattle.ja_lower_ranges.proofs.FunctionRanges.{program_copies, function_copies}
use Rattle.ja_lower_ranges.proofs.ScopeLaws.{catch_keeps, finally_keeps, jump_runs, return_runs, copy_passed}

pub ruleset for_copies_are_whole = (program_copies, function_copies)

pub ruleset for_tries_keep_their_scope = (catch_keeps, finally_keeps)

pub ruleset for_blocks_are_run_with_their_scope = (jump_runs, return_runs, copy_passed)
