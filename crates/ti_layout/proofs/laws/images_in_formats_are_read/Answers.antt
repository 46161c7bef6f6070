use Rattle.ti_layout.proofs.ImageReading.{images_in_formats_are_read}
use Rattle.ti_layout.proofs.laws.images_in_formats_are_read.Goals as goal

pub returns : goal.returns
returns c = images_in_formats_are_read
