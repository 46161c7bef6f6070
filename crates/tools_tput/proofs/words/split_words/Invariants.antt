use Rattle.std.proofs.Common.{◌≡◌, ◌++◌, ◌≤◌, length, map}
use Rattle.arrayvec.specs.ArrayVec.{array_vec_len}
use Rattle.tools_tput.specs.Runs.{words_of}
use Rattle.tools_tput.proofs.words.split_words.Given as goal

-- the words before the rest
abbrev pub invariant-loop-word : goal.invariant-loop-word
invariant-loop-word l = record {
  split : words_of l.line ≡ map (λ word. word.now) l.words.items ++ words_of l.rest;
  few : array_vec_len l.words ≤ 11;
}

abbrev pub decreases-loop-word : goal.decreases-loop-word
decreases-loop-word l = length l.rest
