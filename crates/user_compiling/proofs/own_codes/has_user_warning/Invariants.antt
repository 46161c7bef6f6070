use Rattle.std.proofs.Common.{◌≡◌, map, drop}
use Rattle.std.specs.List.{list_any}
use Rattle.ti_source.specs.Reading.{fault_of}
use Rattle.user_items.specs.Laws.{is_local_warning}
use Rattle.user_compiling.proofs.own_codes.has_user_warning.Given as goal

abbrev pub invariant-loop-local : goal.invariant-loop-local
invariant-loop-local l = list_any is_local_warning (map fault_of (drop l.local-index l.locals)) ≡ list_any is_local_warning (map fault_of l.locals)
