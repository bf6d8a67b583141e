use Rattle.std.proofs.Common.{◌++◌, ◌∷◌, [], map, append_assoc, sym, ap, ◌∙◌}
use Rattle.ja_load.specs.Hosts.{object_with_devices}
use Rattle.ja_load.proofs.HostNames.{object_by_numbers}
use Rattle.ja_load.proofs.hosts.built_in.Goals as goal

pub loop-object-preserved : goal.loop-object-preserved
loop-object-preserved c =
    let names = c.args.names.now in
    let signatures = c.args.signatures.now in
    let o = c.in-Some.object in
    let rest = c.next.new.self.rest.items in
    let old = c.loop-object.objects.items in
    let made = c.in_ok-object_with.ensures ∙ object_by_numbers names signatures _ o
    (c.deref.ensures.value ∙ c.in_ok-numbers.ensures) in
    let all = c.in_ok-push.ensures.items ∙ ap (λ x. old ++ x ∷ []) made in
    ap (λ xs. xs ++ map (object_with_devices names signatures) rest) all
    ∙ append_assoc old (object_with_devices names signatures o ∷ [])
    (map (object_with_devices names signatures) rest)
    ∙ ap (λ xs. old ++ map (object_with_devices names signatures) xs)
    (sym c.in-Some.ensures.steps.0)
    ∙ c.loop-object.invariant
