use Rattle.std.proofs.Common.{◌∙◌, ap, map}
use Rattle.tools_sources.specs.Sources.{source_texts}
use Rattle.everyday_names.specs.Fields.{fitted}
use Rattle.everyday_names.proofs.SourceLemmas.{all-fitted, source-of_blocks}
use Rattle.everyday_names.proofs.sources.fitted_database.Goals as goal

pub returns-in-Ok-clause-held : goal.returns-in-Ok-clause-held
returns-in-Ok-clause-held c =
    let texts = c.args.database.now.texts in
    c.in-Ok.ensures.held ∙ ap source_texts (c.deref.ensures.value ∙ c.in_ok-source.ensures)
    ∙ source-of_blocks c.each_has_cut.ensures c.one_cut.ensures (map fitted texts)
    (all-fitted c.fitted_blocks_read_alike.ensures texts c.each_is_one_block.ensures)
