use Rattle.std.proofs.Common.{◌≡◌, ◌++◌}
use Rattle.everyday_tset.specs.Sending.{with_return}
use Rattle.everyday_tset.proofs.Bytes.{all_sent}
use Rattle.everyday_tset.proofs.sending.strings.Goals as goal

pub returns : goal.returns
returns c =
    let first = c.in-Some.bytes.items in
    let after = c.in-Some-2.after.items in
    let is : c.push_return.new.bytes.items ≡ with_return (first ++ c.args.file.now ++ after) =
    cc (c.in_ok-push_return.ensures, c.in_ok-extend_from_slice.ensures.items, c.in_ok-extend_from_slice-2.ensures.items, c.as_slice.ensures.value) in
    all_sent c.args.line.now c.args.is_reset _ c.args.last c.args.file.now first after _
    (rw c.in-Some.is at c.in_ok-bytes.ensures) (rw c.in-Some-2.is at c.in_ok-after.ensures) is
