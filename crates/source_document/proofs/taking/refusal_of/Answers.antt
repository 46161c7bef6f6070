use Rattle.std.proofs.Common.{◌≤◌, All, List, ℕ, ap, length, sym, subst, arith}
use Rattle.std.proofs.lemmas.List.{length-map}
use Rattle.ti_text.specs.Limits.{block_bytes_max}
use Rattle.tools_sources.specs.Sources.{AreTaken, source_texts, with_last_newline}
use Rattle.source_document.proofs.Fitting.{few_taken}
use Rattle.source_document.proofs.TextLists.{text_of}
use Rattle.source_document.proofs.taking.refusal_of.Goals as goal

texts_taken : (c : goal.Then-are_few_and_short) → AreTaken (source_texts c.args.ended.now)
texts_taken c =
    let source = c.args.ended.now in
    let ended = with_last_newline source in
    let single = c.blocks_are_single.ensures ended _ (source_texts source) (c.ended_texts_end.ensures source) (c.each_has_cut.ensures ended) in
    let short = c.are_few_and_short.ensures.short c.if-are_few_and_short.true in
    let few = c.are_few_and_short.ensures.few c.if-are_few_and_short.true in
    few_taken (source_texts source) single
    (subst (λ (blocks : List (List ℕ)). All (λ block. length block ≤ block_bytes_max) blocks) c.requires.texts short)
    (omega (arith, few, ap length c.requires.texts, length-map c.args.texts.now text_of))

pub returns-then-are_few_and_short-clause-refusal : goal.returns-then-are_few_and_short-clause-refusal
returns-then-are_few_and_short-clause-refusal c = sym (c.sources_have_one_refusal.ensures.none c.args.ended.now (texts_taken c))

pub returns-then-are_few_and_short-clause-taken : goal.returns-then-are_few_and_short-clause-taken
returns-then-are_few_and_short-clause-taken c none = texts_taken c
