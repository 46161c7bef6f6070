use Rattle.std.proofs.Common.{◌≡◌, ◌++◌, drop, map}
use Rattle.std.specs.List.{flat_map}
use Rattle.everyday_tic.specs.Messages.{unknown_if}
use Rattle.everyday_tic.proofs.messages.write_unknowns.Given as goal

-- what was appended, and the lines that are left
abbrev pub invariant-loop-name : goal.invariant-loop-name
invariant-loop-name l =
    l.out.items ++ flat_map (unknown_if l.database.texts l.count) (map (λ name. name.now) (drop l.name-index l.names))
    ≡ l.initial.out.items ++ flat_map (unknown_if l.database.texts l.count) (map (λ name. name.now) l.names)
