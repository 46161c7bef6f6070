-- The cause for which a block has no entry, among the diagnostics of a text.
use Rattle.std.proofs.Common.{◌≡◌, ◌<◌, ℕ, List, [], length, get_or, Option, Some, None, refl, sym, ap, ◌∙◌, arith}
use Rattle.std.specs.Prelude.{IsSome, option_and_then}
use Rattle.ti_source.specs.Parsing.{reading_of_text}
use Rattle.base_meaning.specs.Compiled.{compiled, entry}
use Rattle.base_meaning.specs.Faults.{faults}
use Rattle.base_meaning.specs.Owner.{readings}
use Rattle.tools_sources.specs.Sources.{source_refusal, source_texts}
use Rattle.tools_sources.specs.declared.source_error.SourceError.{SourceError}
use Rattle.source_document.specs.Diagnostics.{DiagnosticsAreTheFaults, diagnostics_of}
use Rattle.source_document.specs.Documents.{held, unless_refused}
use Rattle.source_blocks.specs.Causes.{MissingEntriesHaveACause, cause_of}
use Rattle.source_blocks.proofs.EntriesHeld.{block_here}

-- a block without an entry has a cause
pub has_cause : MissingEntriesHaveACause → (texts : List (List ℕ)) (at : ℕ) → at < length texts → compiled texts at ≡ None
    → IsSome (cause_of (readings texts) at)
has_cause law texts at within none =
    let here = block_here texts at within in
    (law (readings texts) at (reading_of_text (get_or texts at [])) here).0 (sym (ap (option_and_then (entry (readings texts))) here) ∙ none)

-- a source with a block is not refused
not_refused : (text : List ℕ) (o : Option SourceError) (at : ℕ) → at < length (unless_refused o (source_texts text)) → o ≡ None
not_refused text None at within = refl
not_refused text (Some error) at within = let none : ⊥ = omega (arith, within) in absurd none

-- the texts of its blocks are those that are held
held_texts : (text : List ℕ) → source_refusal text ≡ None → held text ≡ source_texts text
held_texts text none = ap (λ o. unless_refused o (source_texts text)) none

-- it has a diagnostic for each fault
pub as_many : DiagnosticsAreTheFaults → (text : List ℕ) (at : ℕ) → at < length (held text)
    → length (diagnostics_of text) ≡ length (faults (readings (held text)))
as_many law text at within =
    let none = not_refused text (source_refusal text) at within in
    (law text none).as_many ∙ sym (ap (λ texts. length (faults (readings texts))) (held_texts text none))
