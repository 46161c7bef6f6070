use Rattle.std.proofs.lemmas.Result.{IfOk-weaker}
use Rattle.everyday_tic.proofs.compiling.not_compiled.Goals as goal

pub refused_at-requires : goal.refused_at-requires
refused_at-requires c = record {
  within = (c.requires.over c.in-TooManyNames.at c.in-TooManyNames.is).within;
  first = c.requires.first;
}

pub returns-in-TooManyNames : goal.returns-in-TooManyNames
returns-in-TooManyNames c =
    IfOk-weaker c.refused_at.result _ _ (λ outcome is. (c.in-TooManyNames.at, c.in-TooManyNames.is, is)) c.refused_at.ensures
