use Rattle.std.proofs.Common.{◌∙◌, sym}
use Rattle.everyday_names.proofs.SourceLemmas.{none-long}
use Rattle.everyday_names.proofs.sources.fit.Goals as goal

pub returns-then-not-has_some-clause-held : goal.returns-then-not-has_some-clause-held
returns-then-not-has_some-clause-held c =
    none-long c.args.fields.now c.args.database.texts (sym c.has_some.ensures ∙ c.if-not-has_some.true) c.requires
