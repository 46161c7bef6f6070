use Rattle.std.proofs.Common.{◌≡◌}
use Rattle.std.specs.Option.{option_map}
use Rattle.everyday_tic.specs.Notes.{note_lines}
use Rattle.everyday_tic.specs.inside.States.{others_seen, over, states_of}
use Rattle.everyday_tic.proofs.notes.notes.Given as goal

-- the lines of the blocks before
abbrev pub invariant-loop-at : goal.invariant-loop-at
invariant-loop-at l =
    l.lines.items ≡ note_lines l.file l.first_line l.database.texts (states_of l.database.rule l.database.texts (option_map (λ c. c.now) l.compiled))
    (over (states_of l.database.rule l.database.texts (option_map (λ c. c.now) l.compiled)) (others_seen l.others)) l.at
