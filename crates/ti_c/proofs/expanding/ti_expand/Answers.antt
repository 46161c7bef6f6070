-- A format at which the machine is stuck is refused as such, and its place is the only one.
use Rattle.std.proofs.Common.{refl}
use Rattle.ti_c.specs.Expanding.{arguments_of}
use Rattle.ti_c.proofs.expanding.ti_expand.Goals as goal

pub give_arguments-requires : goal.give_arguments-requires
unfolding arguments_of
give_arguments-requires c = refl

pub returns-then-not-write_to-clause-stuck : goal.returns-then-not-write_to-clause-stuck
returns-then-not-write_to-clause-stuck c = λ place stuck. let e = (c.in-Ok.ensures.bad_format place).1 stuck in absurd cc

pub returns-in-Ok-clause-stuck : goal.returns-in-Ok-clause-stuck
returns-in-Ok-clause-stuck c = λ place stuck. let e = (c.in-Ok.ensures.bad_format place).1 stuck in absurd cc

pub returns-in-Err-BadFormat-clause-stuck : goal.returns-in-Err-BadFormat-clause-stuck
returns-in-Err-BadFormat-clause-stuck c = λ place stuck. let e = (c.in-Err-BadFormat.ensures.bad_format place).1 stuck in (refl, cc)

pub returns-in-Err-StackFull-clause-stuck : goal.returns-in-Err-StackFull-clause-stuck
returns-in-Err-StackFull-clause-stuck c = λ place stuck. let e = (c.in-Err-StackFull.ensures.bad_format place).1 stuck in absurd cc

pub returns-clause-stuck : goal.returns-clause-stuck
returns-clause-stuck c = λ place stuck. let e = (c.in-Err-Memory.ensures.bad_format place).1 stuck in absurd cc

pub returns-in-Err-clause-stuck : goal.returns-in-Err-clause-stuck
returns-in-Err-clause-stuck c = λ place stuck. let e = (c.in-Ok.ensures.bad_format place).1 stuck in absurd cc

pub returns-in-Err-clause-no_memory : goal.returns-in-Err-clause-no_memory
returns-in-Err-clause-no_memory c = λ _. let e = c.in-Ok.ensures.ok in (e.tree, e.is_tree)
