use Rattle.std.proofs.Common.{◌≡◌, List, ◌++◌, drop, length, map}
use Rattle.std.specs.Option.{option_map}
use Rattle.serde_json.specs.Data.{Data}
use Rattle.ja_cert_json.specs.View.{members_view, view}
use Rattle.ja_cert.specs.Wrong.{members_in, members_of}
use Rattle.ja_cert_parts.proofs.members.members.Given as goal

abbrev pub invariant-loop-key : goal.invariant-loop-key
invariant-loop-key l =
    let names = map (λ key. key.now) l.keys in
    record {
      found : members_of names (view l.value)
          ≡ option_map (λ (ds : List Data). map (λ v. view v.now) l.values.items ++ ds)
          (members_in (drop l.key-index names) (members_view l.left));
      count : length l.values.items ≡ l.key-index;
    }
