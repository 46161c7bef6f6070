use Rattle.std.proofs.Common.{ap, refl}
use Rattle.std.specs.declared.alloc.Global.{Global}
use Rattle.std.specs.declared.rc.Rc.{Rc}
use Rattle.std.specs.declared.vec.Vec.{Vec}
use Rattle.user_values.specs.Tables.{entries_seen}
use Rattle.user_values.specs.declared.entries.UserEntry.{UserEntry}
use Rattle.user_values.proofs.entries.share.Goals as goal

pub returns-in_ok-same-in-Some-clause-shared : goal.returns-in_ok-same-in-Some-clause-shared
returns-in_ok-same-in-Some-clause-shared c =
    rw c.in-Some.is (ap (λ (list : Vec (Rc UserEntry Global) Global). entries_seen list.items) c.in_ok-same-in-Some.ensures)

pub returns-in-None-clause-shared : goal.returns-in-None-clause-shared
returns-in-None-clause-shared c = rw c.in-None.is refl
