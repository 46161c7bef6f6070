use Rattle.std.proofs.Common.{sym, ◌∙◌}
use Rattle.ti_spelling.proofs.ValueLaws.{values_are_sound}
use Rattle.ti_source.proofs.SoundLaws.{named_valid, well_read}
use Rattle.ti_source.proofs.laws.each_is_well_read.Goals as goal

pub returns : goal.returns
returns c =
    well_read (named_valid (sym c.count.ensures.value ∙ c.count.ensures.names) (sym c.count-2.ensures.value ∙ c.count-2.ensures.names)
    (sym c.count-3.ensures.value ∙ c.count-3.ensures.names))
    values_are_sound
