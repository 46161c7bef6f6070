use Rattle.std.proofs.Common.{List, ℕ, length, map, Bor}
use Rattle.everyday_tput.specs.Answers.{target_of}
use Rattle.everyday_tput.specs.inside.Running.{Progress}
use Rattle.everyday_tput.specs.inside.Strings.{IsLineOf}
use Rattle.everyday_tput.proofs.running.run.Given as goal

-- the commands before the rest were run
abbrev pub invariant-loop-cap : goal.invariant-loop-cap
invariant-loop-cap l =
    IsLineOf l.target l.line
    → Progress (target_of l.target) l.until l.fn.statics (map (λ (word : Bor (List ℕ)). word.now) l.words) l.bytes.items l.passed l.statics
    (map (λ (word : Bor (List ℕ)). word.now) l.rest)

abbrev pub decreases-loop-cap : goal.decreases-loop-cap
decreases-loop-cap l = length l.rest
