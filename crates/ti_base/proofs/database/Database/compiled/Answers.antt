use Rattle.std.proofs.Common.{ap, ◌∙◌}
use Rattle.base_meaning.specs.Compiled.{compiled_by}
use Rattle.ti_base.specs.RuledTexts.{RuledTexts}
use Rattle.ti_base.proofs.LeftmostTexts.{is_leftmost}
use Rattle.ti_base.proofs.database.Database.compiled.Goals as goal

pub returns : goal.returns
returns c =
    let source = is_leftmost c.self.inside.ruled c.args.self.now c.self.invariant c.self.view_is in
    c.compiled.ensures ∙ ap (λ (s : RuledTexts). compiled_by s.rule s.texts c.args.at) source

pub compiled-requires : goal.compiled-requires
compiled-requires c = rw c.self.view_is c.requires
