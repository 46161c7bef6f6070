use Rattle.std.proofs.Common.{List, ap, sym, ◌∙◌}
use Rattle.std.specs.List.{position}
use Rattle.base_meaning.specs.Faults.{fault_seen, faults}
use Rattle.base_meaning.specs.Owner.{readings}
use Rattle.base_meaning.specs.declared.faults.Fault.{Fault}
use Rattle.source_document.specs.Diagnostics.{diagnostic_seen, diagnostics_of}
use Rattle.source_document.specs.Documents.{held}
use Rattle.source_blocks.specs.Causes.{is_error_of}
use Rattle.source_blocks.proofs.CausesTold.{as_many, has_cause}
use Rattle.source_blocks.proofs.Firsts.{never, told-first}
use Rattle.source_blocks.proofs.causes.cause_told.Goals as goal

pub unreachable-requires : goal.unreachable-requires
unreachable-requires c =
    let blocks = held c.args.document.now in
    never (is_error_of c.args.at) fault_seen c.in_ok-faults.faults.items (faults (readings blocks))
    (c.in_ok-faults.ensures.all ∙ ap (λ bs. faults (readings bs)) c.database.ensures)
    (ap (λ (fs : List Fault). position (λ fault. is_error_of c.args.at (fault_seen fault)) fs) (sym c.deref.ensures.value) ∙ sym c.in-None.ensures)
    (has_cause c.missing_entries_have_a_cause.ensures blocks c.args.at c.requires.within c.requires.none)

pub returns : goal.returns
returns c =
    let text = c.args.document.now in
    told-first (is_error_of c.args.at) fault_seen diagnostic_seen
    c.in_ok-faults.faults.items (faults (readings (held text))) c.in_ok-diagnostics.diagnostics.items (diagnostics_of text) c.in-Some.place c.remove.result
    (c.in_ok-faults.ensures.all ∙ ap (λ bs. faults (readings bs)) c.database.ensures)
    c.in_ok-diagnostics.ensures
    (as_many c.diagnostics_are_the_faults.ensures text c.args.at c.requires.within)
    (ap (λ (fs : List Fault). position (λ fault. is_error_of c.args.at (fault_seen fault)) fs) (sym c.deref.ensures.value) ∙ sym c.in-Some.ensures)
    c.remove.ensures.value
