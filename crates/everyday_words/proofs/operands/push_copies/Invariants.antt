use Rattle.std.proofs.Common.{◌≡◌, ◌++◌, take}
use Rattle.tools_commands.specs.Arguments.{word_texts}
use Rattle.everyday_words.proofs.operands.push_copies.Given as goal

-- the words before were added
abbrev pub invariant-loop-word : goal.invariant-loop-word
invariant-loop-word l = word_texts l.line.items ≡ word_texts l.initial.line.items ++ word_texts (take l.word-index l.words)
