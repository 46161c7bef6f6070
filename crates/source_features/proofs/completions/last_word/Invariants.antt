use Rattle.std.proofs.Common.{◌≡◌, take}
use Rattle.source_features.specs.Completions.{last_word}
use Rattle.source_features.proofs.completions.last_word.Given as goal

abbrev pub invariant-loop-at : goal.invariant-loop-at
invariant-loop-at l = l.start ≡ last_word (take l.at l.text)
