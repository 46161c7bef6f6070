use Rattle.std.proofs.Common.{◌≡◌, length}
use Rattle.everyday_tset.specs.Settings.{settings_of, with_letters}
use Rattle.everyday_tset.proofs.settings.Settings.take_letters.Given as goal

-- the rest of the letters decides
abbrev pub invariant-loop-letter : goal.invariant-loop-letter
invariant-loop-letter l = with_letters (settings_of l.self) l.rest ≡ with_letters (settings_of l.initial.self) l.letters

abbrev pub decreases-loop-letter : goal.decreases-loop-letter
decreases-loop-letter l = length l.rest
