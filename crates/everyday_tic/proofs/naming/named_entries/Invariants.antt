use Rattle.std.proofs.Common.{◌≡◌, ℕ, length, option_map}
use Rattle.everyday_names.specs.Fields.{fields_seen}
use Rattle.everyday_tic.specs.inside.States.{others_seen, states_of}
use Rattle.everyday_tic.proofs.WholeNames.{IsNamed}
use Rattle.everyday_tic.proofs.naming.named_entries.Given as goal

-- those of the blocks before
abbrev pub invariant-loop-at : goal.invariant-loop-at
invariant-loop-at l = record {
  many : length (others_seen l.named.items) ≡ l.at;
  each : (k : ℕ) → IsNamed (states_of l.database.rule l.database.texts (option_map (λ c. c.now) l.compiled)) (others_seen l.others) (fields_seen l.fields)
      (others_seen l.named.items) k;
}
