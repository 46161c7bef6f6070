use Rattle.std.proofs.Common.{Bor, List, ℕ, [], get_or, arith}
use Rattle.std.proofs.lemmas.List.{get_or_default}
use Rattle.everyday_report.proofs.Appending.{all_parts, part_in_turn}
use Rattle.everyday_report.proofs.report.append_parts.Goals as goal

-- what is past the end of the parts
no_part : Bor (List ℕ)
no_part = record { ref_ptr = (0, 0); now = [] }

pub loop-part-preserved : goal.loop-part-preserved
unfolding no_part
loop-part-preserved c =
    let parts = c.args.parts.now in
    let at = c.loop-part.part-index in
    part_in_turn (λ (part : Bor (List ℕ)). part.now) parts at (get_or parts at no_part) c.loop-part.out.items c.extend_from_slice.new.self.items _ (omega arith)
    (get_or_default parts at no_part (get_or parts at no_part) (omega arith)) c.in_ok-extend_from_slice.ensures.items c.loop-part.invariant

pub returns : goal.returns
returns c = all_parts (λ (part : Bor (List ℕ)). part.now) c.args.parts.now c.loop-part.part-index c.loop-part.out.items _ (omega arith) c.loop-part.invariant
