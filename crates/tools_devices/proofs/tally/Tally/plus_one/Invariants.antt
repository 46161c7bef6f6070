use Rattle.std.specs.Prelude.{◌+◌}
use Rattle.tools_devices.proofs.tally.Tally.plus_one.Given as goal

-- the number that is picked: one more than the count
abbrev pub ghosts-after : goal.ghosts-after
ghosts-after a = record { number = a._earlier.now.count + 1 }
