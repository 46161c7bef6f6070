use Rattle.std.proofs.Common.{◌≡◌, ◌++◌, length}
use Rattle.ti_layout.specs.declared.layout.Format.TheVariants.{Legacy}
use Rattle.ti_layout.specs.Layout.{number_section}
use Rattle.user_extension.specs.Extension.{texts, table, places}
use Rattle.user_extension.proofs.Fronts.{front}
use Rattle.user_extension.proofs.writing.push_value_places.Given as goal

abbrev pub invariant-loop-row : goal.invariant-loop-row
invariant-loop-row l = record {
  so_far : l.image.items ≡ l.initial.image.items ++ number_section Legacy (places 0 (texts (front l.row-index l.rows)));
  counted : l.offset ≡ length (table (texts (front l.row-index l.rows)));
}
