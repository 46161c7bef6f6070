use Rattle.std.proofs.Common.{◌≡◌, ◌++◌, map, take}
use Rattle.source_edits.specs.Edits.{edit_seen, rename}
use Rattle.source_edits.proofs.edits.push_renames.Given as goal

abbrev pub invariant-loop-other : goal.invariant-loop-other
invariant-loop-other l =
    map edit_seen l.edits.items ≡ map edit_seen l.fn.edits.items ++ map (rename l.name l.part) (map (λ other. other.now) (take l.other-index l.others))
