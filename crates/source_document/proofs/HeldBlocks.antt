-- The blocks that a document holds are short, and no more than a list may have.
use Rattle.std.proofs.Common.{◌≡◌, ℕ, suc, ◌+◌, ◌≤◌, All, Bool, true, false, cond, List, [], ◌∷◌, Option, None, Some, length, refl, sym, arith}
use Rattle.std.specs.Prelude.{nat_le, nat_lt}
use Rattle.std.proofs.lemmas.Bool.{leb-false, ltb-false}
use Rattle.std.proofs.lemmas.List.Elements.{All-cons, All-head, All-nil, All-tail}
use Rattle.std.proofs.lemmas.Option.{none-some}
use Rattle.ti_text.specs.Limits.{block_bytes_max, blocks_max}
use Rattle.ti_text.specs.Lines.{line_count}
use Rattle.ti_source.specs.Cutting.{BlocksAreSingle, EachHasCut, OneBlock}
use Rattle.tools_sources.specs.Sources.{EndedTextsEnd, first_line, refusal_from, source_refusal, source_texts, with_last_newline}
use Rattle.tools_sources.specs.declared.source_error.SourceError.{SourceError}
use Rattle.tools_sources.specs.declared.source_error.SourceError.TheVariants.{BlockTooLong, TooManyBlocks}
use Rattle.source_document.specs.Documents.{HeldBlocksFit, IsShortBlock, unless_refused}

-- neither test of a block refuses it, nor one of those after it
taken_by : (long many : Bool) (one other : SourceError) (later : Option SourceError) → cond long (Some one) (cond many (Some other) later) ≡ None
    → (long ≡ false) × (many ≡ false) × (later ≡ None)
taken_by true many one other later e = absurd (none-some one (sym e))
taken_by false true one other later e = absurd (none-some other (sym e))
taken_by false false one other later e = (refl, refl, e)

-- blocks that are not refused fit after so many others
abbrev Fit : ℕ → List (List ℕ) → Type 0
Fit count texts = (count + length texts ≤ blocks_max) × All IsShortBlock texts

unrefused_fit : (line count : ℕ) (texts : List (List ℕ)) → count ≤ blocks_max → All OneBlock texts → refusal_from line count texts ≡ None → Fit count texts
unrefused_fit line count [] few single e = (omega (arith, few), All-nil IsShortBlock)
unrefused_fit line count (text ∷ texts) few single e =
    let later = refusal_from (line + line_count text) (suc count) texts in
    let taken = taken_by (nat_lt block_bytes_max (length text)) (nat_le blocks_max count) (BlockTooLong line) (TooManyBlocks line) later e in
    let room = leb-false blocks_max count taken.1 in
    let short : IsShortBlock text = (ltb-false block_bytes_max (length text) taken.0, All-head OneBlock text texts single) in
    let rest = unrefused_fit (line + line_count text) (suc count) texts (omega (arith, room)) (All-tail OneBlock text texts single) taken.2 in
    (omega (arith, rest.0), All-cons IsShortBlock text texts short rest.1)

held_fit : (texts : List (List ℕ)) (refusal : Option SourceError) → (refusal ≡ None → Fit 0 texts)
    → (length (unless_refused refusal texts) ≤ blocks_max) × All IsShortBlock (unless_refused refusal texts)
held_fit texts None fits = let fit = fits refl in (omega (arith, fit.0), fit.1)
held_fit texts (Some error) fits = (omega arith, All-nil IsShortBlock)

pub held_blocks : EachHasCut → BlocksAreSingle → EndedTextsEnd → HeldBlocksFit
held_blocks cut single ends text =
    let ended = with_last_newline text in
    held_fit (source_texts text) (source_refusal text) (λ e.
    unrefused_fit (first_line text) 0 (source_texts text) (omega arith) (single ended _ (source_texts text) (ends text) (cut ended)) e)
