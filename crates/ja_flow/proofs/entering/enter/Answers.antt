use Rattle.std.proofs.Common.{◌∙◌}
use Rattle.ja_flow.proofs.entering.enter.Goals as goal

pub returns : goal.returns
returns c =
    record {
      state = c.in_ok-state.ensures.state;
      demands_are = c.in_ok-join.ensures.joined ∙ c.in_ok-state.ensures.demands;
      fits = c.in_ok-state.ensures.shape;
    }
