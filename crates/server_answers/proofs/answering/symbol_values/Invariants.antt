use Rattle.std.proofs.Common.{◌≡◌, map, take}
use Rattle.serde_json.specs.View.{view}
use Rattle.source_blocks.specs.Symbols.{symbol_seen}
use Rattle.server_answers.specs.Answers.{symbol_shown}
use Rattle.server_answers.proofs.answering.symbol_values.Given as goal

-- the values so far
abbrev pub invariant-loop-symbol : goal.invariant-loop-symbol
invariant-loop-symbol l =
    map view l.values.items ≡ map (λ s. symbol_shown l.nests_symbols l.uri (symbol_seen s)) (take l.symbol-index l.all)
