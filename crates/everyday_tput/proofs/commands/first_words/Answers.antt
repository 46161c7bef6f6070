use Rattle.std.proofs.Common.{List, ℕ, Bor}
use Rattle.everyday_tput.proofs.Parts.{front}
use Rattle.everyday_tput.proofs.commands.first_words.Goals as goal

pub returns : goal.returns
returns c = front (λ (word : Bor (List ℕ)). word.now) c.args.words.now c.args.count c.min.result c.min.ensures
