use Rattle.std.proofs.Common.{◌∙◌, ◌++◌, ◌∷◌, [], List, ap, sym, subst}
use Rattle.ja_aheap.specs.declared.writes.Write.{Write}
use Rattle.ja_cert_parts.specs.declared.listed.PropertyAt.{PropertyAt}
use Rattle.ja_cert_read.specs.code.Building.{AreTaken}
use Rattle.ja_cert_read.proofs.Setting.{taking_all, taking_more, taking_none}
use Rattle.ja_cert_read.proofs.objects.take_object.Goals as goal

pub loop-listed-init : goal.loop-listed-init
loop-listed-init c = taking_none _ _ _

pub loop-listed-preserved : goal.loop-listed-preserved
loop-listed-preserved c =
    taking_more _ _ _ _ _ _ _ c.in-Some.listed c.setting-write.result c.loop-listed.invariant
    c.in-Some.ensures.0 c.in-Some.ensures.1 c.in_ok-push-2.ensures.items c.setting-write.ensures

pub returns : goal.returns
returns c =
    let all : List PropertyAt = c.args.heap.now.items ++ c.args.last ∷ [] in
    subst (λ (left : List PropertyAt). AreTaken all left c.args.last.label c.reverse.new.self.items)
    (sym c.in_default.ensures)
    (subst (AreTaken all c.loop-listed.heap.items c.args.last.label) (sym c.reverse.ensures.items)
    (taking_all _ _ c.args.last _ _ c.setting-first.result c.loop-listed.invariant
    (c.in_ok-push.ensures.items ∙ ap (λ (ws : List Write). ws ++ c.setting-first.result ∷ [])
    c.new-list.ensures.items) c.setting-first.ensures))
