use Rattle.std.proofs.Common.{◌∙◌, sym}
use Rattle.ti_tools.proofs.Reporting.{list_any-map}
use Rattle.ti_source.specs.Code.{is_error}
use Rattle.base_meaning.specs.Faults.{SourceFault, fault_seen}
use Rattle.ti_tools.proofs.compiling.report_status.Goals as goal

pub returns-then-has_error : goal.returns-then-has_error
returns-then-has_error c =
    let some = sym (list_any-map (λ (fault : SourceFault). is_error fault.code) fault_seen c.args.faults.now) ∙ sym c.has_error.ensures ∙ c.if-has_error.true in
    rw some

pub returns-else-has_error : goal.returns-else-has_error
returns-else-has_error c =
    let none = sym (list_any-map (λ (fault : SourceFault). is_error fault.code) fault_seen c.args.faults.now) ∙ sym c.has_error.ensures
    ∙ c.if-has_error.false in
    rw none
