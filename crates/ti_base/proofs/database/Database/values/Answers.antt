use Rattle.std.proofs.Common.{◌≡◌, Some, option_map, slice_get, subst}
use Rattle.ti_source.specs.Reading.{Reading}
use Rattle.ti_layout.specs.Values.{contents}
use Rattle.base_meaning.specs.Readings.{readings_by}
use Rattle.base_meaning.specs.ValueTables.{HasTable}
use Rattle.ti_base.specs.RuledTexts.{RuledTexts}
use Rattle.ti_base.proofs.LeftmostTexts.{is_leftmost}
use Rattle.ti_base.proofs.database.Database.values.Goals as goal

pub returns : goal.returns
returns c =
    let source = is_leftmost c.self.inside.ruled c.args.self.now c.self.invariant c.self.view_is in
    let Kept : RuledTexts → Type 0 = λ s. (block : Reading) → slice_get (readings_by s.rule s.texts) c.args.at ≡ Some block
    → HasTable contents (readings_by s.rule s.texts) block (option_map (λ table. table.now) c.values.result) in
    subst Kept source c.values.ensures

pub values-requires : goal.values-requires
values-requires c = rw c.self.view_is c.requires
