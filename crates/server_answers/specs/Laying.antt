-- The layout of a source, and what may be folded of it, as values of the protocol (LSP 3.17).
use Rattle.std.specs.Prelude.{List, [], ◌∷◌, Option, None, Some, map}
use Rattle.serde_json.specs.Data.{Data, array}
use Rattle.serde_json.specs.View.{items_of}
use Rattle.source_format.specs.declared.folding.Fold.{Fold}
use Rattle.lsp_values.specs.Shapes.{folding_data, text_edit_data}
use Rattle.source_features.specs.Formatting.{LayoutSeen}

-- the edits that lay out a source ("TextEdit"): none if nothing changes
abbrev pub edits_of : Option LayoutSeen → List Data
edits_of None = []
edits_of (Some edit) = text_edit_data edit.text edit.range ∷ []

abbrev pub layout_data : Option LayoutSeen → Data
layout_data edit = array (items_of (edits_of edit))

-- lines that may be folded ("FoldingRange")
abbrev pub fold_data : Fold → Data
fold_data fold = folding_data fold.first fold.last fold.is_comment

abbrev pub folds_data : List Fold → Data
folds_data folds = array (items_of (map fold_data folds))
