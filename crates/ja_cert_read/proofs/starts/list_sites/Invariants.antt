use Rattle.std.proofs.Common.{take}
use Rattle.std.specs.Prelude.{IsTrue}
use Rattle.std.specs.List.{AllByRecursion}
use Rattle.ja_base.specs.declared.ids.Site.{Site}
use Rattle.ja_cert_read.specs.code.Building.{lists_site}
use Rattle.ja_cert_read.proofs.starts.list_sites.Given as goal

abbrev pub invariant-loop-site : goal.invariant-loop-site
invariant-loop-site l =
    AllByRecursion (λ (site : Site). IsTrue (lists_site l.masks site)) (take l.site-index l.sites)
