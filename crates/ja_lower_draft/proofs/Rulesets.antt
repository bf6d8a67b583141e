-- The lemmas that the searches of a function are given, by its name.
use Rattle.ja_lower_draft.proofs.LeftOutLemmas.{block_as_copied, graph_as_copied}
use Rattle.ja_lower_draft.proofs.PartLemmas.{of_node, of_spot, of_jump, of_written, of_copy, count_node, count_spot, count_jump, count_written, count_copy}

pub ruleset for_line = (of_node, of_spot, of_jump, of_written, of_copy)

pub ruleset for_mark = (of_spot, count_spot)

pub ruleset for_jump = (of_jump, count_jump)

pub ruleset for_with_edges = (of_node, count_node)

pub ruleset for_block = (of_written, of_copy, count_written, count_copy)

pub ruleset for_ways_out_are_as_with_copies = (block_as_copied, graph_as_copied)
