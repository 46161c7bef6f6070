use Rattle.tools_tput.specs.Results.{later}
use Rattle.everyday_starting.proofs.Sending.{both_sent, first_asks}
use Rattle.everyday_starting.proofs.padding.pad_both.Goals as goal

pub returns-in_default : goal.returns-in_default
returns-in_default c = first_asks c.args.line.now _ _ (rw c.in_default.is at c.in_ok-bytes.ensures)

pub returns-in_default-2 : goal.returns-in_default-2
returns-in_default-2 c = later (rw c.in_default-2.is at c.in_ok-more.ensures)

pub returns : goal.returns
returns c =
    rw (c.in_ok-extend_from_slice.ensures.items, c.as_slice.ensures.value)
    (both_sent c.args.line.now _ _ _ _ (rw c.in-Some.is at c.in_ok-bytes.ensures) (rw c.in-Some-2.is at c.in_ok-more.ensures))
