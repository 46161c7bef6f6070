use Rattle.std.proofs.Common.{refl}
use Rattle.everyday_report.proofs.Placing.{one_there, read_there}
use Rattle.everyday_report.proofs.blocks.block_at.Goals as goal

pub returns : goal.returns
returns c =
    let db = c.args.database.now.texts in
    record {
      position = refl;
      stands = c.text.ensures;
      read = record {
        one = one_there db c.args.at c.text.result.now c.requires c.each_is_one_block.ensures c.text.ensures;
        items = read_there (λ block. block.items) db c.args.at c.text.result.now _ c.text.ensures c.items.ensures;
        faults = read_there (λ block. block.faults) db c.args.at c.text.result.now _ c.text.ensures c.local_faults.ensures;
      };
    }
