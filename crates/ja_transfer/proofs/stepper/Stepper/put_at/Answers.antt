use Rattle.std.proofs.Common.{if◌then◌else◌, Bool, List, Option, None, ap, ◌∙◌}
use Rattle.ja_abstract.specs.AbstractValue.{AbstractProperty}
use Rattle.ja_abstract.specs.Reading.{both, may_accept}
use Rattle.ja_abstract.specs.Writes.{Write, put_writes}
use Rattle.ja_value.specs.Value.{value_of}
use Rattle.ja_transfer.specs.Outcomes.{at_view}
use Rattle.ja_astate.specs.code.Puts.{length_demands}
use Rattle.ja_transfer.proofs.stepper.Stepper.put_at.Goals as goal

pub returns : goal.returns
returns c =
    let w = at_view c.args.self.now in
    let l = c.args.label in
    let k = c.args.key in
    let looked = c.in_ok-property.ensures in
    let refuses = ap (λ (q : AbstractProperty). q.attrs.read_only.set) looked.property in
    let accepts = ap may_accept looked.property in
    let writes = c.in_ok-writes.ensures
    ∙ ap (λ (b : Bool). if◌then◌else◌ {A = Option (List Write)} b
    (put_writes w l k (value_of c.args.value.now)) None) accepts in
    let demands = c.in_ok-demand_length.ensures
    ∙ (λ n. both (looked.demands_are n) (length_demands w (accepts n) l k)) in
    λ n. record { refuses = refuses n; writes = writes n; demands = demands n }
