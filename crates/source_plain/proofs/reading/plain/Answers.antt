use Rattle.std.proofs.Common.{◌∙◌, ◌≡◌, sym, ap}
use Rattle.source_plain.specs.Reading.{plain_lines, without_mark}
use Rattle.source_plain.proofs.Returns.{without_return, same_without_mark}
use Rattle.source_plain.proofs.reading.plain.Goals as goal

pub returns-then-text-source : goal.returns-then-text-source
returns-then-text-source c =
    c.in_ok-from_slice.ensures.items ∙ sym (without_return c.without_mark-text.result.now (sym c.holds_return.ensures ∙ c.if-holds_return.false))
    ∙ ap plain_lines c.without_mark-text.ensures

pub returns : goal.returns
returns c =
    let text = c.without_mark-text.result.now in
    let source = c.args.source.now in
    let same : without_mark source ≡ source = same_without_mark source (rw c.without_mark-text.ensures at c.if-text-source.false) in
    sym (sym (ap plain_lines (c.without_mark-text.ensures ∙ same)) ∙ without_return text (sym c.holds_return.ensures ∙ c.if-holds_return.false)
    ∙ c.without_mark-text.ensures ∙ same) ∙ ap plain_lines (sym same)
