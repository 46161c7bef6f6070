use Rattle.std.proofs.Common.{◌≡◌, ℕ, length}
use Rattle.std.specs.Option.{is_some, option_map}
use Rattle.everyday_graphics.specs.Entries.{IsWrittenState}
use Rattle.everyday_tic.specs.inside.States.{others_seen, states_of}
use Rattle.everyday_tic.proofs.Drawn.{IsPut}
use Rattle.everyday_tic.proofs.drawing.drawn_entries.Given as goal

-- those of the blocks before
abbrev pub invariant-loop-at : goal.invariant-loop-at
invariant-loop-at l = record {
  many : length (others_seen l.others.items) ≡ l.at;
  each : (k : ℕ) → IsPut (IsWrittenState l.database.rule (is_some l.compiled) l.draws l.database.texts) l.database.texts
      (states_of l.database.rule l.database.texts (option_map (λ c. c.now) l.compiled)) (others_seen l.others.items) k;
}
