use Rattle.std.proofs.Common.{◌≡◌, length, map, All, subst}
use Rattle.std.specs.Prelude.{IfOk}
use Rattle.base_meaning.specs.Faults.{fault_seen, faults}
use Rattle.base_meaning.specs.Readings.{readings_by}
use Rattle.base_meaning.specs.Usable.{IsPlaced}
use Rattle.ti_base.specs.RuledTexts.{RuledTexts}
use Rattle.ti_base.proofs.LeftmostTexts.{is_leftmost}
use Rattle.ti_base.proofs.database.Database.faults.Goals as goal

pub returns-clause-all : goal.returns-clause-all
returns-clause-all c =
    let source = is_leftmost c.self.inside.ruled c.args.self.now c.self.invariant c.self.view_is in
    subst (λ (s : RuledTexts). IfOk c.faults.result (λ all. map fault_seen all.items ≡ faults (readings_by s.rule s.texts))) source c.faults.ensures.all

pub returns-clause-placed : goal.returns-clause-placed
returns-clause-placed c =
    subst (λ texts. IfOk c.faults.result (λ all. All (IsPlaced (length texts)) (map fault_seen all.items))) c.self.view_is c.faults.ensures.placed
