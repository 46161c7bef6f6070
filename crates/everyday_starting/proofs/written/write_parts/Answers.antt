use Rattle.std.proofs.Common.{map, subst}
use Rattle.std.proofs.lemmas.List.{take_all}
use Rattle.everyday_starting.specs.Starting.{AreWritten, no_part, part_of}
use Rattle.everyday_starting.proofs.Writing.{refused_at, written_more}
use Rattle.everyday_starting.proofs.written.write_parts.Goals as goal

pub loop-part-init : goal.loop-part-init
loop-part-init c = rw c.new-bytes.ensures.items no_part

pub loop-part-preserved : goal.loop-part-preserved
loop-part-preserved c =
    rw (c.in_ok-extend_from_slice.ensures.items, c.as_slice.ensures.value)
    (written_more c.args.line.now c.args.parts.now c.loop-part.part-index _ c.loop-part.bytes.items _ c.loop-part-test.true c.loop-part.invariant
    (rw c.in-Some.is at c.in_ok-front.ensures))

pub returns : goal.returns
returns c =
    subst (λ done. AreWritten c.args.line.now (map part_of done) c.loop-part.bytes.items)
    (take_all c.loop-part.part-index c.args.parts.now c.loop-part-test.false) c.loop-part.invariant

pub returns-in_default : goal.returns-in_default
returns-in_default c =
    refused_at c.args.line.now c.args.parts.now c.loop-part.part-index _ c.loop-part-test.true (rw c.in_default.is at c.in_ok-front.ensures)
