use Rattle.std.proofs.Common.{◌∙◌, ap, length}
use Rattle.std.specs.Prelude.{Some, ◌==◌}
use Rattle.ti_formats.proofs.Lexing.{left-at-end, left-before-end}
use Rattle.ti_formats.proofs.lexer.Lexer.stop.Goals as goal

pub returns-then-is_empty : goal.returns-then-is_empty
returns-then-is_empty c = left-at-end c.args.self.now (c.if-is_empty.ensures ∙ ap (λ u. length u.text == 0) c.self.view_is)

pub returns-else-is_empty : goal.returns-else-is_empty
returns-else-is_empty c =
    ap (λ u. Some u.place) c.self.view_is
    ∙ left-before-end c.args.self.now (c.if-is_empty.ensures ∙ ap (λ u. length u.text == 0) c.self.view_is) c.requires
