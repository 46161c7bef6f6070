use Rattle.std.proofs.Common.{◌∙◌, sym}
use Rattle.std.proofs.lemmas.List.{length-map}
use Rattle.user_compiling.specs.Entries.{state_seen}
use Rattle.everyday_tic.proofs.compiling.faults_of.Goals as goal

pub faults-requires : goal.faults-requires
faults-requires c =
    let many = rw c.in-Some.is at c.requires.as_many in
    record { as_many = sym (length-map c.in-Some.compiled.now state_seen) ∙ many }
