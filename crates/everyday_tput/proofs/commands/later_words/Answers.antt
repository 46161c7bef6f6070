use Rattle.std.proofs.Common.{List, ℕ, Bor}
use Rattle.everyday_tput.proofs.Parts.{back}
use Rattle.everyday_tput.proofs.commands.later_words.Goals as goal

pub returns-clause-words : goal.returns-clause-words
returns-clause-words c = back (λ (word : Bor (List ℕ)). word.now) c.args.words.now c.args.count c.min.result c.min.ensures
