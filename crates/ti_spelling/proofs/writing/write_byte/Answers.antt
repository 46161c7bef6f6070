-- a plain byte is its own spelling
use Rattle.std.proofs.Common.{◌∙◌, ◌++◌, List, ℕ, ap, sym}
use Rattle.ti_spelling.proofs.WritingLaws.{plain_text}
use Rattle.ti_spelling.proofs.writing.write_byte.Goals as goal

pub returns-then-is_plain-clause-items : goal.returns-then-is_plain-clause-items
returns-then-is_plain-clause-items c =
    let plain = plain_text c.args.percent c.args.edge c.args.byte c.ranges.byte.fits (sym c.is_plain.ensures ∙ c.if-is_plain.true) in
    c.push_reserved.ensures.items ∙ ap (λ (t : List ℕ). c.args.text.now.items ++ t) (sym plain)
