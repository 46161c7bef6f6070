use Rattle.std.proofs.Common.{List, ap, length, map, sym, ◌++◌, ◌+◌, ◌∙◌, ◌∷◌, [], drop, ℕ, arith}
use Rattle.ti_text.specs.Lines.{line_count}
use Rattle.source_blocks.specs.Symbols.{symbol_seen, symbols_from}
use Rattle.source_blocks.specs.declared.symbols.Symbol.{Symbol}
use Rattle.source_blocks.proofs.Outlines.{symbol_next, text_is, text_short}
use Rattle.source_blocks.proofs.symbols.symbols_from.Goals as goal

pub loop-at-preserved : goal.loop-at-preserved
loop-at-preserved c =
    let blocks = c.args.database.now in
    let at = c.loop-at.at in
    let is = text_is blocks at c.text.result.now c.text.ensures in
    let short = text_short c.args.first blocks at c.requires (omega arith) in
    let lines = c.count_lines.ensures.lines ∙ ap line_count (sym is) in
    let next = symbol_next blocks c.loop-at.all.items c.in_ok-symbol_of.field-0 c.loop-at.line at (symbols_from c.args.first blocks)
    (omega arith) c.in_ok-symbol_of.ensures c.loop-at.invariant.so in
    record {
      so = ap (λ (all : List Symbol). map symbol_seen all ++ symbols_from (c.loop-at.line + c.count_lines.result) (drop (at + 1) blocks))
          c.in_ok-push.ensures.items
          ∙ ap (λ (n : ℕ). map symbol_seen (c.loop-at.all.items ++ c.in_ok-symbol_of.field-0 ∷ [])
          ++ symbols_from (c.loop-at.line + n) (drop (at + 1) blocks)) lines ∙ next;
      room = omega (arith, short, c.count_lines.ensures.within, ap length is);
    }
