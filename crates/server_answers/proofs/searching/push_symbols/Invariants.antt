use Rattle.std.proofs.Common.{◌≡◌, ◌++◌, drop, map}
use Rattle.serde_json.specs.View.{view}
use Rattle.source_blocks.specs.Symbols.{symbol_seen}
use Rattle.server_answers.specs.Searching.{symbols_found}
use Rattle.server_answers.proofs.searching.push_symbols.Given as goal

abbrev pub invariant-loop-symbol : goal.invariant-loop-symbol
invariant-loop-symbol l = map view l.values.items ++ symbols_found l.uri l.held (map symbol_seen (drop l.symbol-index l.all))
    ≡ map view l.fn.values.items ++ symbols_found l.uri l.held (map symbol_seen l.all)
