use Rattle.std.proofs.Common.{◌≡◌, ◌++◌, take, drop}
use Rattle.ja_astate.specs.code.Insertion.{insert_key}
use Rattle.ja_astate.proofs.insertion.insert_key.Given as goal

-- the keys passed are before the key
abbrev pub invariant-loop-place : goal.invariant-loop-place
invariant-loop-place l = record {
  same : l.keys.items ≡ l.initial.keys.items;
  so_far : insert_key l.key l.initial.keys.items
      ≡ take l.place l.keys.items ++ insert_key l.key (drop l.place l.keys.items);
}
