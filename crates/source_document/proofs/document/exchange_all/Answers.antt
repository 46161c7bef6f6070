use Rattle.std.proofs.Common.{ℕ, All, List, length, ap, subst, sym, arith}
use Rattle.std.proofs.lemmas.List.{length-map}
use Rattle.tools_sources.specs.Sources.{source_texts}
use Rattle.source_document.specs.Documents.{IsShortBlock}
use Rattle.source_document.proofs.Fitting.{taken_few, taken_short}
use Rattle.source_document.proofs.TextLists.{text_of}
use Rattle.source_document.proofs.document.exchange_all.Goals as goal

pub exchange-requires-clause-short : goal.exchange-requires-clause-short
exchange-requires-clause-short c =
    subst (λ (texts : List (List ℕ)). All IsShortBlock texts) (sym c.requires.texts) (taken_short (source_texts c.args.ended.now) c.requires.taken)

pub exchange-requires-clause-few : goal.exchange-requires-clause-few
exchange-requires-clause-few c =
    omega (arith, taken_few (source_texts c.args.ended.now) c.requires.taken, ap length c.requires.texts, length-map c.args.texts.now text_of)
