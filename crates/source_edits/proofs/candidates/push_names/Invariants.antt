use Rattle.std.proofs.Common.{◌≡◌, ◌++◌, map, take}
use Rattle.ti_caps.specs.Tables.{names}
use Rattle.source_edits.proofs.candidates.push_names.Given as goal

abbrev pub invariant-loop-index : goal.invariant-loop-index
invariant-loop-index l = map (λ name. name.now) l.all.items ≡ map (λ name. name.now) l.fn.all.items ++ take l.index (names l.kind)
