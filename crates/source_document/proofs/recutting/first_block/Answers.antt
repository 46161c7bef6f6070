use Rattle.std.proofs.Common.{length}
use Rattle.source_document.proofs.LocalCuts.{first_found}
use Rattle.source_document.proofs.recutting.first_block.Goals as goal

pub returns-then-begins_block : goal.returns-then-begins_block
returns-then-begins_block c =
    first_found c.args.text.now c.args.block.now c.split_at.result.0.now c.split_at.result.1.now (length c.args.block.now) c.requires
    (c.is_equal.ensures c.if-is_equal.true) c.split_at.ensures.front c.split_at.ensures.back (c.begins_block.ensures c.if-begins_block.true)
