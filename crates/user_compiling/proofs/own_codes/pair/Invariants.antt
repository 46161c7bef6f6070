use Rattle.std.proofs.Common.{◌≡◌, ◌++◌, ◌≤◌, map, drop, length}
use Rattle.ti_source.specs.Reading.{fault_of}
use Rattle.user_items.specs.Reading.{user_fault_of}
use Rattle.user_compiling.specs.inside.Pairs.{pairs, warning_ordinals}
use Rattle.user_compiling.proofs.own_codes.pair.Given as goal

-- what was paired and what is to be paired are the pairs of all
abbrev pub invariant-loop-local : goal.invariant-loop-local
invariant-loop-local l = record {
  all : l.codes.items ++ pairs (warning_ordinals (map fault_of (drop l.local-index l.locals))) (map user_fault_of (drop l.next l.own))
      ≡ pairs (warning_ordinals (map fault_of l.locals)) (map user_fault_of l.own);
  within : l.next ≤ length l.own;
}
