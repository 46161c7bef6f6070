use Rattle.std.proofs.Common.{refl, ◌∙◌}
use Rattle.ti_source.proofs.WalkLemmas.{last_tested}
use Rattle.ti_source.proofs.heads.ends_with_newline.Goals as goal

pub returns : goal.returns
returns c = c.eq.ensures ∙ last_tested c.args.text.now _ c.last.ensures.value _ refl
