use Rattle.ti_layout.proofs.OfValues.{images_are_of_values, limits_are_of_values}
use Rattle.ti_layout.proofs.laws.images_are_of_values.Goals as goal

pub returns-clause-images : goal.returns-clause-images
returns-clause-images c = images_are_of_values

pub returns-clause-limits : goal.returns-clause-limits
returns-clause-limits c = limits_are_of_values
