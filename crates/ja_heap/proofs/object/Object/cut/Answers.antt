use Rattle.std.proofs.Common.{ap, sym, List}
use Rattle.ja_machine.specs.declared.machine.Property.{Property}
use Rattle.ja_machine.specs.declared.machine.Object.{Object}
use Rattle.ja_machine.specs.Writes.{is_cut}
use Rattle.ja_heap.proofs.Cuts.{none_cut}
use Rattle.ja_heap.proofs.object.Object.cut.Goals as goal

pub returns-in-None : goal.returns-in-None
returns-in-None c =
    sym (ap (λ (qs : List Property). let o : Object = record c.args.self.now { properties = qs } in
    o) (none_cut (is_cut c.args.new c.args.old) c.args.self.now.properties
    (λ q. ap (λ o. is_cut c.args.new o q) c.in-None.is)))
