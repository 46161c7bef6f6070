use Rattle.std.proofs.Common.{arith, length, rules}
use Rattle.std.proofs.lemmas.Grind.{common_steps}
use Rattle.source_diagnostics.proofs.BlockFaults.{block_added, first_placed, others_placed}
use Rattle.source_diagnostics.proofs.faults.marks_in.Goals as goal

pub text-requires : goal.text-requires
text-requires c =
    omega (
      arith,
      c.block-block.ensures,
      first_placed (length c.args.database.now) c.loop-rest.rest.now c.index-rest-0.result (first_of (search rules, grind (arith, common_steps)))
          c.index-rest-0.is c.loop-rest.invariant.placed,
    )

pub loop-rest-preserved : goal.loop-rest-preserved
loop-rest-preserved c = record {
  shown = block_added c.args.database.now _ c.block_len-count.result c.loop-rest.rest.now c.split_at.result.0.now c.split_at.result.1.now c.text.result.now
      c.loop-rest.marks.items _ c.marks.result.now _ c.block_len-count.ensures.block c.split_at.ensures.front c.split_at.ensures.back c.text.ensures
      c.in_ok-found.ensures c.marks.ensures c.in_ok-extend_from_slice.ensures.items c.loop-rest.invariant.shown;
  placed = others_placed _ c.block_len-count.result c.loop-rest.rest.now c.split_at.result.1.now c.split_at.ensures.back c.loop-rest.invariant.placed;
}
