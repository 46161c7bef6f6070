use Rattle.std.proofs.Common.{◌≡◌, ◌++◌, drop, map, option_map}
use Rattle.std.specs.String.{string_bytes}
use Rattle.toml.specs.View.{array_view, items_view}
use Rattle.source_settings.specs.Document.{texts_of}
use Rattle.source_settings.proofs.tables.texts_of.Given as goal

-- the texts so far, and those of the rest
abbrev pub invariant-loop-value : goal.invariant-loop-value
invariant-loop-value l =
    texts_of (array_view l.array)
    ≡ option_map (λ others. map string_bytes l.texts.items ++ others) (texts_of (items_view (drop l.value-index l.value-items)))
