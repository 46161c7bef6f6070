use Rattle.std.proofs.Common.{ℕ, ◌+◌, ap, sym, ◌∙◌}
use Rattle.source_format.proofs.Columns.{columns-comma}
use Rattle.source_format.proofs.writing.item_columns.Goals as goal

pub returns-then-ended-clause-size : goal.returns-then-ended-clause-size
returns-then-ended-clause-size c =
    rw c.if-ended.true (ap (λ (n : ℕ). n + 1) c.columns.ensures.size ∙ sym (columns-comma c.args.text.now))
