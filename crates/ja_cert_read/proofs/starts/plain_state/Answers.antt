use Rattle.std.proofs.Common.{◌∙◌}
use Rattle.ja_cert_read.specs.code.Building.{plain_state}
use Rattle.ja_cert_read.proofs.starts.plain_state.Goals as goal

pub returns-clause-state : goal.returns-clause-state
returns-clause-state c =
    c.in_ok-state.ensures.state
    ∙ (λ i. record plain_state { register = c.in_ok-registers.ensures.values i })

pub returns-clause-shape : goal.returns-clause-shape
returns-clause-shape c = record {
  heap = record {
    sites = c.in_ok-state.ensures.sites ∙ c.len-sites.ensures;
    names = c.in_ok-state.ensures.names ∙ c.len-names.ensures;
  };
  registers =
      c.in_ok-state.ensures.registers ∙ c.in_ok-registers.ensures.len ∙ c.register_count.ensures;
}
