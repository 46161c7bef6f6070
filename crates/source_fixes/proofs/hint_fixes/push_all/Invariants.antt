use Rattle.std.proofs.Common.{◌≡◌, ◌++◌, drop}
use Rattle.std.specs.List.{flat_map}
use Rattle.source_fixes.specs.HintFixes.{if_touched}
use Rattle.source_fixes.proofs.hint_fixes.push_all.Given as goal

-- what is offered so far, and against the hints that are left, is all
abbrev pub invariant-loop-hint : goal.invariant-loop-hint
invariant-loop-hint l =
    l.fixes.items ++ flat_map (if_touched l.line l.block l.stretch) (drop l.hint-index l.hints)
    ≡ l.fn.fixes.items ++ flat_map (if_touched l.line l.block l.stretch) l.hints
