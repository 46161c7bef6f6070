use Rattle.std.proofs.Common.{◌∙◌, List, ap, refl}
use Rattle.std.specs.declared.alloc.Global.{Global}
use Rattle.std.specs.declared.rc.Rc.{Rc}
use Rattle.std.specs.declared.vec.Vec.{Vec}
use Rattle.user_values.specs.Tables.{entries_seen}
use Rattle.user_values.specs.declared.entries.UserEntry.{UserEntry}
use Rattle.user_values.proofs.entries.slice_of.Goals as goal

pub returns-in-Some : goal.returns-in-Some
returns-in-Some c =
    rw c.in-Some.is
    (ap (λ (es : List (Rc UserEntry Global)). entries_seen es)
    (c.as_slice.ensures.value ∙ ap (λ (list : Vec (Rc UserEntry Global) Global). list.items) c.as_ref.ensures))

pub returns-in-None : goal.returns-in-None
returns-in-None c = rw c.in-None.is refl
