use Rattle.std.proofs.Common.{◌∙◌, arith}
use Rattle.ti_compiled.proofs.Replacing.{grown, cut_short}
use Rattle.ti_compiled.proofs.bytes.resize_part.Goals as goal

pub returns-then-wanted-size-clause-part : goal.returns-then-wanted-size-clause-part
returns-then-wanted-size-clause-part c = λ p m r whole at size.
    c.insert_bytes.ensures.items ∙ grown p m r c.args.bytes.now.items whole c.args.at c.args.size _ c.args.fill c.args.wanted at size (omega arith)

pub returns-else-wanted-size-clause-part : goal.returns-else-wanted-size-clause-part
returns-else-wanted-size-clause-part c = λ p m r whole at size.
    c.remove_bytes.ensures.items ∙ cut_short p m r c.args.bytes.now.items whole c.args.at c.args.size _ c.args.wanted c.args.fill at size (omega arith)
