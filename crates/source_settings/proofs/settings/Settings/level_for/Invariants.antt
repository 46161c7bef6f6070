use Rattle.std.proofs.Common.{◌≡◌, drop, map}
use Rattle.source_settings.specs.Settings.{change_seen, level_for}
use Rattle.source_settings.proofs.settings.Settings.level_for.Given as goal

-- what is settled for the code is so by the rest
abbrev pub invariant-loop-change : goal.invariant-loop-change
invariant-loop-change l =
    level_for (map change_seen l.self.changes.items) l.code ≡ level_for (map change_seen (drop l.change-index l.change-items)) l.code
