use Rattle.std.proofs.Common.{◌≡◌, length, map, subst}
use Rattle.std.specs.List.{range_with_len}
use Rattle.std.specs.Prelude.{IfOk}
use Rattle.base_meaning.specs.Report.{lines_before}
use Rattle.ti_base.proofs.database.Database.line_starts.Goals as goal

pub returns-clause-starts : goal.returns-clause-starts
returns-clause-starts c =
    subst (λ texts. IfOk c.line_starts.result (λ starts. starts.items ≡ map (lines_before texts) (range_with_len 0 (length texts)))) c.self.view_is
    c.line_starts.ensures.starts
