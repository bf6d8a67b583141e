use Rattle.std.proofs.Common.{refl}
use Rattle.std.proofs.lemmas.Result.{IfOk-weaker}
use Rattle.ja_astate.specs.code.Walks.{met_of, join_meetings}
use Rattle.ja_astate.proofs.Meetings.{same_meeting}
use Rattle.ja_astate.proofs.met.Met.join.Goals as goal

pub returns : goal.returns
returns c =
    IfOk-weaker c.join-3.result _ _ (λ _ e. same_meeting _
    (join_meetings (met_of c.args.self.now) (met_of c.args.other)) c.in_ok-join.ensures.joined
    c.in_ok-join-2.ensures.joined refl e) c.join-3.ensures.joined
