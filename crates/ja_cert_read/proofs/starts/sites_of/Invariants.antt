use Rattle.std.proofs.Common.{◌≡◌, map, take}
use Rattle.ja_cert_parts.specs.declared.listed.MaskAt.{MaskAt}
use Rattle.ja_cert_read.proofs.starts.sites_of.Given as goal

abbrev pub invariant-loop-listed : goal.invariant-loop-listed
invariant-loop-listed l =
    l.sites.items ≡ map (λ (m : MaskAt). m.site) (take l.listed-index l.masks)
