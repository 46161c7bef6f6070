use Rattle.std.proofs.Common.{List, ap, map, sym, ◌∙◌}
use Rattle.std.proofs.lemmas.Result.{IfOk-weaker}
use Rattle.std.proofs.lemmas.Simd.{map-map}
use Rattle.source_blocks.specs.Symbols.{symbol_seen}
use Rattle.source_blocks.specs.declared.symbols.Symbol.{Symbol}
use Rattle.server_answers.specs.Answers.{symbol_shown}
use Rattle.server_answers.proofs.answering.blocks_of.Goals as goal

pub returns : goal.returns
returns c =
    let shown = symbol_shown c.args.nests_symbols c.args.uri.now in
    let same = sym (map-map shown symbol_seen c.as_slice.result.now)
    ∙ (ap (λ (all : List Symbol). map shown (map symbol_seen all)) c.as_slice.ensures.value ∙ ap (map shown) c.in_ok-all.ensures) in
    IfOk-weaker c.symbol_values.result _ _ (λ values h. h ∙ same) c.symbol_values.ensures
