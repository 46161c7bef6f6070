use Rattle.user_extension.specs.Extension.{HasSizes}
use Rattle.user_extension.proofs.Fronts.{front}
use Rattle.user_extension.proofs.writing.sizes_of.Given as goal

abbrev pub invariant-loop-row : goal.invariant-loop-row
invariant-loop-row l = HasSizes (front l.row-index l.rows) l.sizes
