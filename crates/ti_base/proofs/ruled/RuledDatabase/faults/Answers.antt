use Rattle.std.proofs.Common.{◌≡◌, ℕ, List, length, map, All, ap, sym, ◌∙◌}
use Rattle.base_meaning.specs.Readings.{readings_by}
use Rattle.base_meaning.specs.Usable.{IsPlaced}
use Rattle.base_meaning.specs.Faults.{SourceFault, fault_seen, faults}
use Rattle.base_meaning.proofs.Bounding.{faults_placed}
use Rattle.base_slots.specs.Slots.{blocks_of}
use Rattle.base_slots.proofs.Owners.{length_blocks, length_texts}
use Rattle.ti_base.specs.RuledTexts.{RuledTexts}
use Rattle.ti_base.proofs.SlotEntries.{kept_read}
use Rattle.ti_base.proofs.Installing.{all_usable}
use Rattle.ti_base.proofs.ruled.RuledDatabase.faults.Goals as goal

pub returns-clause-all : goal.returns-clause-all
returns-clause-all c =
    c.in_ok-faults.ensures ∙ (ap faults (kept_read c.self.inside.rule c.self.inside.slots c.self.invariant)
    ∙ ap (λ (s : RuledTexts). faults (readings_by s.rule s.texts)) c.self.view_is)

placed_as : (n m : ℕ) (all found : List SourceFault) → n ≡ m → found ≡ all → All (IsPlaced n) all → All (IsPlaced m) found
placed_as n m all found e f h = rw (← e, f) h

pub returns-clause-placed : goal.returns-clause-placed
returns-clause-placed c =
    let slots = c.self.inside.slots in
    placed_as (length (blocks_of slots)) (length c.args.self.now.texts) (faults (blocks_of slots)) (map fault_seen c.in_ok-faults.faults.items)
    (length_blocks slots ∙ (sym (length_texts slots) ∙ ap (λ (s : RuledTexts). length s.texts) c.self.view_is)) c.in_ok-faults.ensures
    (faults_placed (blocks_of slots) (all_usable slots c.self.invariant.kept.read))
