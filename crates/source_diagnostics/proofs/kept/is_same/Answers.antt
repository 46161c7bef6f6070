use Rattle.std.proofs.Common.{ap₂, rules, sym, ◌∙◌}
use Rattle.std.specs.Str.{bytes_eq}
use Rattle.ti_source.specs.Code.{label_of}
use Rattle.ti_source.specs.declared.code.Code.{Code}
use Rattle.user_compiling.specs.Faults.{fault_seen}
use Rattle.source_diagnostics.proofs.SameFaults.{same_sought}
use Rattle.source_diagnostics.proofs.kept.is_same.Goals as goal

pub returns : goal.returns
returns c is =
    same_sought (fault_seen c.args.one.now) (fault_seen c.args.other.now) (search rules)
    (ap₂ (λ (x y : Code). bytes_eq (label_of x) (label_of y)) (sym c.code_of.ensures) (sym c.code_of-2.ensures) ∙ sym c.if-not-is_same_code.ensures)
    (sym c.detail_of.ensures ∙ (c.is_same_detail.ensures is ∙ c.detail_of-2.ensures))
