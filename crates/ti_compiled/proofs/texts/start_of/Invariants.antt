use Rattle.std.proofs.Common.{◌≡◌, length}
use Rattle.ti_layout.specs.Image.{texts_below}
use Rattle.ti_compiled.specs.inside.Image.{contents_in}
use Rattle.ti_compiled.proofs.texts.start_of.Given as goal

abbrev pub invariant-loop-at : goal.invariant-loop-at
invariant-loop-at l = length (texts_below (contents_in l.bytes) l.at) ≡ length (texts_below (contents_in l.bytes) l.index)
