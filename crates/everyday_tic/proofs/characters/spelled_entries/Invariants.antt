use Rattle.std.proofs.Common.{◌≡◌, ℕ, length, option_map}
use Rattle.everyday_tic.specs.inside.States.{others_seen, states_of}
use Rattle.everyday_tic.proofs.Spelled.{IsSpelled}
use Rattle.everyday_tic.proofs.characters.spelled_entries.Given as goal

-- those of the blocks before
abbrev pub invariant-loop-at : goal.invariant-loop-at
invariant-loop-at l = record {
  many : length (others_seen l.made.items) ≡ l.at;
  each : (k : ℕ) → IsSpelled (states_of l.database.rule l.database.texts (option_map (λ c. c.now) l.compiled)) (others_seen l.others) (others_seen l.made.items) k;
}
