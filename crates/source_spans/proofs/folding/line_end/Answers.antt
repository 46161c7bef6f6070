use Rattle.std.proofs.Common.{List, ℕ, None, Some, subst}
use Rattle.memchr.specs.Find.{IsFirstByte, is_byte}
use Rattle.std.proofs.lemmas.List.{take_rest}
use Rattle.source_spans.proofs.Lines.{last_found, line_found}
use Rattle.source_spans.proofs.folding.line_end.Goals as goal

pub returns-in-Some : goal.returns-in-Some
returns-in-Some c =
    line_found c.args.block.now c.args.start c.in-Some.at
    (subst (λ (s : List ℕ). IsFirstByte (is_byte 10) s (Some c.in-Some.at)) (take_rest c.args.block.now c.args.start) c.in-Some.ensures)

pub returns-in-None : goal.returns-in-None
returns-in-None c =
    last_found c.args.block.now c.args.start c.requires
    (subst (λ (s : List ℕ). IsFirstByte (is_byte 10) s None) (take_rest c.args.block.now c.args.start) c.in-None.ensures)
