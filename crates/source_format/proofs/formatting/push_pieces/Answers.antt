use Rattle.std.proofs.Common.{◌≡◌, ◌++◌, ◌-◌, List, [], length, drop, map, take, sym, ap, ◌∙◌, arith}
use Rattle.std.proofs.lemmas.List.{drop_all, take_rest}
use Rattle.std.proofs.lemmas.Result.{on_ok_weaker}
use Rattle.source_format.specs.Layout.{laid}
use Rattle.source_format.specs.Pieces.{Entry, merged}
use Rattle.source_format.specs.inside.Steps.{entry_seen, line_seen, place_seen}
use Rattle.source_format.specs.declared.lines.KeptLine.{KeptLine}
use Rattle.source_format.proofs.Stepping.{pieces_end}
use Rattle.source_format.proofs.formatting.push_pieces.Goals as goal

pub returns : goal.returns
returns c =
    let width = c.args.width in
    let out = c.loop-entry.out.items in
    let place = place_seen c.loop-entry.place in
    let at = c.loop-entry.at in
    let lines = c.args.lines.now in
    let none : map entry_seen (drop c.loop-entry.entry-index c.args.entries.now) ≡ [] =
    ap (map entry_seen) (drop_all c.loop-entry.entry-index c.args.entries.now (omega arith)) in
    on_ok_weaker c.end_line.result
    (λ e.
    pieces_end width out c.push_lines.new.out.items c.end_line.new.out.items place (place_seen c.in_ok-place-2.place)
    (map line_seen (take (length lines - at) (drop at lines))) (c.in_ok-place-2.ensures width) e
    ∙ ap (λ (ls : List KeptLine). out ++ laid width place (merged [] (map line_seen ls))) (take_rest lines at)
    ∙ ap (λ (es : List Entry). out ++ laid width place (merged es (map line_seen (drop at lines)))) (sym none)
    ∙ c.loop-entry.invariant.so)
    c.end_line.ensures
