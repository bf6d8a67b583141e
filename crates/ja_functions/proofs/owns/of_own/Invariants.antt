use Rattle.std.proofs.Common.{◌≡◌, take}
use Rattle.ja_astate.specs.Looks.{view_of}
use Rattle.ja_functions.specs.code.Told.{may_hold, may_fail, some_own}
use Rattle.ja_functions.proofs.owns.of_own.Given as goal

abbrev pub invariant-loop-label : goal.invariant-loop-label
invariant-loop-label l =
    let w = view_of l.reader in
    let asked = take l.label-index l.members in
    (l.holds ≡ some_own w (may_hold w l.asked) l.keys asked)
    × (l.fails ≡ some_own w (may_fail w l.asked) l.keys asked)
