-- The blocks that a document holds, once a newline is put at the end of its text.
use Rattle.std.proofs.Common.{◌≡◌, ◌+◌, ◌==◌, ℕ, false, List, [], ◌∷◌, ◌++◌, None, Some, sym, ap, subst, ◌∙◌}
use Rattle.std.proofs.lemmas.Bool.{eq-eqb}
use Rattle.ti_text.specs.Lines.{line_count}
use Rattle.ti_source.specs.Cutting.{blocks_from_head, front_of, last_byte}
use Rattle.tools_sources.specs.Sources.{EndedTextsEnd, refusal_from, source_refusal, source_texts, with_last_newline}
use Rattle.tools_sources.specs.declared.source_error.SourceError.{SourceError}
use Rattle.source_document.specs.Documents.{held, unless_refused}
use Rattle.source_document.specs.Exchanges.{Exchanged}

pub ended_is : (text : List ℕ) → last_byte 10 text ≡ 10 → with_last_newline text ≡ text
ended_is text e = rw (eq-eqb (last_byte 10 text) 10 e)

pub texts_of-ended : (text : List ℕ) → last_byte 10 text ≡ 10 → source_texts text ≡ blocks_from_head 10 text
texts_of-ended text e = ap (blocks_from_head 10) (ended_is text e)

-- a text and the same with its last line ended
pub ended_same : EndedTextsEnd → (text : List ℕ) → (last_byte 10 text == 10) ≡ false → with_last_newline (text ++ 10 ∷ []) ≡ with_last_newline text
ended_same ends text is_open =
    let is : with_last_newline text ≡ text ++ 10 ∷ [] = rw is_open in
    ended_is (text ++ 10 ∷ []) (subst (λ (t : List ℕ). last_byte 10 t ≡ 10) is (ends text)) ∙ sym is

pub ends_open : EndedTextsEnd → (text : List ℕ) → (last_byte 10 text == 10) ≡ false → last_byte 10 (text ++ 10 ∷ []) ≡ 10
ends_open ends text is_open =
    let is : with_last_newline text ≡ text ++ 10 ∷ [] = rw is_open in
    subst (λ (t : List ℕ). last_byte 10 t ≡ 10) is (ends text)

-- what is held goes by the text once it is ended
pub texts_same : (one other : List ℕ) → with_last_newline one ≡ with_last_newline other → source_texts one ≡ source_texts other
texts_same one other same = ap (blocks_from_head 10) same

pub refusal_same : (one other : List ℕ) → with_last_newline one ≡ with_last_newline other → source_refusal one ≡ source_refusal other
refusal_same one other same = ap (λ (t : List ℕ). refusal_from (line_count (front_of 10 t) + 1) 0 (blocks_from_head 10 t)) same

pub held_same : (one other : List ℕ) → with_last_newline one ≡ with_last_newline other → held one ≡ held other
held_same one other same =
    ap (λ (t : List ℕ). unless_refused (refusal_from (line_count (front_of 10 t) + 1) 0 (blocks_from_head 10 t)) (blocks_from_head 10 t)) same

pub held_taken : (text : List ℕ) → source_refusal text ≡ None → held text ≡ source_texts text
held_taken text none = ap (λ refusal. unless_refused refusal (source_texts text)) none

pub held_refused : (text : List ℕ) (error : SourceError) → source_refusal text ≡ Some error → held text ≡ []
held_refused text error some = ap (λ refusal. unless_refused refusal (source_texts text)) some

-- so do the edits
pub exchanged_same : (one other : List ℕ) (old : List (List ℕ)) (edits : ℕ) → with_last_newline one ≡ with_last_newline other
    → (source_refusal one ≡ None → Exchanged old (source_texts one) edits) → source_refusal other ≡ None → Exchanged old (source_texts other) edits
exchanged_same one other old edits same exchanged none =
    subst (λ (texts : List (List ℕ)). Exchanged old texts edits) (texts_same one other same) (exchanged (refusal_same one other same ∙ none))
