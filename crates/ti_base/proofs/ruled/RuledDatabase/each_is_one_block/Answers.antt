use Rattle.std.proofs.Common.{subst}
use Rattle.std.specs.List.{All}
use Rattle.ti_source.specs.Cutting.{OneBlock}
use Rattle.base_slots.specs.Slots.{slots_of}
use Rattle.ti_base.specs.RuledTexts.{RuledTexts}
use Rattle.ti_base.proofs.SlotLists.{texts_single}
use Rattle.ti_base.proofs.ruled.RuledDatabase.each_is_one_block.Goals as goal

pub returns : goal.returns
returns c =
    subst (λ (s : RuledTexts). All OneBlock s.texts) c.self.view_is (texts_single (slots_of c.self.inside.slots) c.self.invariant.kept.read.sound)
