use Rattle.everyday_lint.proofs.Sentences as proved
use Rattle.everyday_lint.proofs.words.sentences_are_of_faults.Goals as goal

pub returns : goal.returns
returns c = proved.sentences_are_of_faults
