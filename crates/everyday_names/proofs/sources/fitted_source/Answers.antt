use Rattle.std.proofs.Common.{◌∙◌, List, ap, arith, map, refl, ℕ}
use Rattle.std.specs.List.{concat}
use Rattle.std.proofs.lemmas.List.{take_all}
use Rattle.everyday_names.specs.Fields.{fitted}
use Rattle.everyday_names.proofs.SourceLemmas.{more-source}
use Rattle.everyday_names.proofs.sources.fitted_source.Goals as goal

pub loop-at-init : goal.loop-at-init
loop-at-init c = c.new-source.ensures.items

pub loop-at-preserved : goal.loop-at-preserved
loop-at-preserved c =
    more-source c.args.database.now.texts c.loop-at.at _ _ _ _ refl c.text.ensures c.in_ok-push_fitted.ensures c.loop-at.invariant

pub returns : goal.returns
returns c =
    c.loop-at.invariant ∙ ap (λ (ts : List (List ℕ)). concat (map fitted ts)) (take_all c.loop-at.at c.args.database.now.texts (omega arith))
