use Rattle.std.proofs.Common.{◌≡◌, Bool, true, false, not, refl, sym, ◌∙◌}
use Rattle.std.proofs.lemmas.Bool.{false≢true}
use Rattle.user_values.specs.inside.Entries.{held_seen}
use Rattle.user_values.proofs.Uncancelling.{shares_values}
use Rattle.user_values.proofs.entries.can_share.Goals as goal

is_not : (b : Bool) → not b ≡ true → b ≡ false
is_not true e = absurd (false≢true e)
is_not false e = refl

pub returns-in-None : goal.returns-in-None
returns-in-None c = λ e.
    shares_values c.args.held.now c.slice_of.result.now (held_seen c.args.other.now) (held_seen c.args.other.now) (rw c.in-None.is refl)
    (sym c.has_cancel.ensures ∙ is_not c.has_cancel.result e) c.slice_of.ensures refl
