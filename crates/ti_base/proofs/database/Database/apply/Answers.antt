use Rattle.std.proofs.Common.{subst}
use Rattle.std.specs.Prelude.{IfOk}
use Rattle.base_meaning.specs.Dependents.{RebuildsBy}
use Rattle.base_meaning.specs.Edits.{EditStep, change_of, outcome_of}
use Rattle.ti_base.specs.RuledTexts.{RuledTexts}
use Rattle.ti_base.proofs.LeftmostTexts.{is_leftmost}
use Rattle.ti_base.proofs.database.Database.apply.Goals as goal

pub returns-clause-step : goal.returns-clause-step
returns-clause-step c =
    subst (λ texts. EditStep texts (change_of c.args.edit.now) (outcome_of c.apply.result) c.apply.new.self.texts) c.self.view_is c.apply.ensures.step

pub returns-clause-rebuilds : goal.returns-clause-rebuilds
returns-clause-rebuilds c =
    let source = is_leftmost c.self.inside.ruled c.args.self.now c.self.invariant c.self.view_is in
    let Rebuilt : RuledTexts → Type 0 = λ s. IfOk c.apply.result
    (λ edited. RebuildsBy s.rule s.texts (change_of c.args.edit.now) edited.rebuilt.items edited.work) in
    subst Rebuilt source c.apply.ensures.rebuilds
