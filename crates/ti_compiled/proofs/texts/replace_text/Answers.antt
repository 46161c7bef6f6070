use Rattle.ti_compiled.proofs.Replacing.{text_put}
use Rattle.ti_compiled.proofs.texts.replace_text.Goals as goal

pub returns-in-Some-clause-part : goal.returns-in-Some-clause-part
returns-in-Some-clause-part c =
    rw c.in-Some.is (text_put _ _ _ _ c.in-Some.text.now c.args.at c.args.size c.resize_part.ensures.part c.overwrite.ensures.part
    c.overwrite-in-Some.ensures.part)
