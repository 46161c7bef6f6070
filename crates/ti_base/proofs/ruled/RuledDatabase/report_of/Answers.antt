use Rattle.std.proofs.Common.{◌≡◌, ℕ, List, length, map, All, ap, sym, ◌∙◌}
use Rattle.std.specs.List.{flat_map}
use Rattle.base_meaning.specs.Readings.{readings_by}
use Rattle.base_meaning.specs.Usable.{IsPlaced}
use Rattle.base_meaning.specs.Faults.{SourceFault, fault_seen, faults}
use Rattle.base_meaning.specs.Report.{report_by, report_line}
use Rattle.base_meaning.proofs.Bounding.{faults_placed}
use Rattle.base_slots.specs.Slots.{blocks_of, slot_texts}
use Rattle.base_slots.proofs.Owners.{length_blocks, length_texts}
use Rattle.ti_base.specs.RuledTexts.{RuledTexts}
use Rattle.ti_base.proofs.SlotEntries.{kept_read}
use Rattle.ti_base.proofs.Installing.{all_usable}
use Rattle.ti_base.proofs.ruled.RuledDatabase.report_of.Goals as goal

placed_as : (n m : ℕ) (all found : List SourceFault) → n ≡ m → found ≡ all → All (IsPlaced n) all → All (IsPlaced m) found
placed_as n m all found e f h = rw (← e, f) h

pub write_report-requires-clause-placed : goal.write_report-requires-clause-placed
write_report-requires-clause-placed c =
    let slots = c.self.inside.slots in
    let read = kept_read c.self.inside.rule slots c.self.invariant ∙ ap (λ (s : RuledTexts). readings_by s.rule s.texts) c.self.view_is in
    placed_as (length (blocks_of slots)) (length (slot_texts slots)) (faults (blocks_of slots)) (map fault_seen c.args.found.now)
    (length_blocks slots ∙ sym (length_texts slots))
    (c.requires.all ∙ ap faults (sym read)) (faults_placed (blocks_of slots) (all_usable slots c.self.invariant.kept.read))

pub returns : goal.returns
returns c =
    let slots = c.self.inside.slots in
    let found = c.requires.all ∙ ap (λ (s : RuledTexts). faults (readings_by s.rule s.texts)) (sym c.self.view_is) in
    c.in_ok-report.ensures ∙ (ap (flat_map (report_line (slot_texts slots) c.args.first_line)) found
    ∙ ap (λ (s : RuledTexts). report_by s.rule s.texts c.args.first_line) c.self.view_is)
