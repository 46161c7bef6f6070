use Rattle.source_spans.proofs.Itemizing.{fields_computed, items_computed}
use Rattle.source_spans.proofs.Naming.{names_computed}
use Rattle.source_spans.proofs.parts.parts_are_computed.Goals as goal

pub returns-clause-fields : goal.returns-clause-fields
returns-clause-fields c = fields_computed

pub returns-clause-names : goal.returns-clause-names
returns-clause-names c = names_computed

pub returns-clause-items : goal.returns-clause-items
returns-clause-items c = items_computed
