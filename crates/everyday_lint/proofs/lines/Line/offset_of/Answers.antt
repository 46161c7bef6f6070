use Rattle.std.proofs.Common.{◌∙◌, ap, sym}
use Rattle.everyday_lint.specs.Telling.{byte_offset}
use Rattle.everyday_lint.proofs.Walking.{ascii_offset}
use Rattle.everyday_lint.proofs.lines.Line.offset_of.Goals as goal

-- each byte of the line is a character
pub returns-then-self : goal.returns-then-self
returns-then-self c =
    let bytes = c.self.inside.bytes.now in
    c.min.ensures ∙ ascii_offset bytes c.args.column (sym c.self.invariant.0 ∙ c.if-self.true) c.self.invariant.1
    ∙ ap (λ line. byte_offset line c.args.column) c.self.view_is
