use Rattle.std.proofs.Common.{◌≡◌, map, vec_len}
use Rattle.ja_aheap.specs.Objects.{object_of}
use Rattle.ja_aheap.proofs.WriteLemmas.{replaced_in, set_by}
use Rattle.ja_aheap.proofs.object.AObject.made.Given as goal

abbrev pub invariant-loop-key : goal.invariant-loop-key
invariant-loop-key l =
    replaced_in (map set_by l.listed.items) (object_of l.object)
    ≡ replaced_in (map set_by l.initial.listed.items) (object_of l.initial.object)

abbrev pub decreases-loop-key : goal.decreases-loop-key
decreases-loop-key l = vec_len l.listed
