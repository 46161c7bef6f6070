-- What a run of insertions comes to, of the blocks of a source, and what a newline at the end
-- changes.
use Rattle.std.proofs.Common.{◌≡◌, ℕ, suc, ◌==◌, All, false, List, [], ◌∷◌, ◌++◌, Option, Some, None, length, map, insert, refl, sym, ap, ◌∙◌, subst, arith}
use Rattle.std.proofs.lemmas.List.{append_assoc, length-append, map-append}
use Rattle.std.proofs.Math.Seq.{drop-length, take-length}
use Rattle.ti_source.specs.Cutting.{OneBlock, blocks_from_head, last_byte}
use Rattle.base_meaning.specs.Edits.{Change, EditRun, change_of, insertion}
use Rattle.base_meaning.specs.declared.edits.Edit.{Edit}
use Rattle.base_meaning.specs.declared.edits.EditError.{EditError}
use Rattle.base_meaning.specs.declared.edits.Outcome.{Outcome}
use Rattle.base_meaning.specs.declared.edits.Outcome.TheVariants.{Accepted, Refused}
use Rattle.tools_sources.specs.Sources.{AreTaken, source_texts, with_last_newline}
use Rattle.tools_sources.specs.inside.Loading.{first_refusal, insertions}
use Rattle.tools_sources.proofs.Ending.{ended-of_newline, last_byte-newline}
use Rattle.tools_sources.proofs.Refusing.{IsTakenTo, taken_to_end, taken_to_next, taken_to_start}

insert-end : (texts : List (List ℕ)) (text : List ℕ) → insert texts (length texts) text ≡ texts ++ text ∷ []
insert-end texts text = rw (take-length texts, drop-length texts)

-- what there is after it, if none was refused
abbrev pub IsRunOf : List ℕ → List (List ℕ) → Option EditError → Type 0
IsRunOf source last None = (last ≡ source_texts source) × AreTaken (source_texts source)
IsRunOf source last (Some error) = Unit {0}

pub taken_by_run : (source : List ℕ) (blocks rest : List (List ℕ)) (outcomes : List Outcome) (last : List (List ℕ)) → IsTakenTo source blocks rest
    → EditRun blocks (insertions (length blocks) rest) outcomes last → IsRunOf source last (first_refusal outcomes)
taken_by_run source blocks [] [] last to run = let done = taken_to_end source blocks to in (run ∙ done.0, done.1)
taken_by_run source blocks [] (outcome ∷ outcomes) last to run = absurd run
taken_by_run source blocks (block ∷ rest) [] last to run = absurd run
taken_by_run source blocks (block ∷ rest) (Accepted ∷ outcomes) last to run =
    let step = run.1 in
    let next : run.0 ≡ blocks ++ block ∷ [] = step.1 ∙ insert-end blocks block in
    let longer : suc (length blocks) ≡ length (blocks ++ block ∷ []) = sym (omega (arith, length-append blocks (block ∷ []))) in
    taken_by_run source (blocks ++ block ∷ []) rest outcomes last (taken_to_next source blocks block rest to step.0)
    (subst (λ (k : ℕ). EditRun (blocks ++ block ∷ []) (insertions k rest) outcomes last) longer
    (subst (λ (texts : List (List ℕ)). EditRun texts (insertions (suc (length blocks)) rest) outcomes last) next run.2))
taken_by_run source blocks (block ∷ rest) (Refused error ∷ outcomes) last to run = tt

-- the same of all blocks of a source that ends with a newline
pub inserted_by_run : (source : List ℕ) (changes : List Change) (outcomes : List Outcome) (last : List (List ℕ)) → All OneBlock (source_texts source)
    → last_byte 10 source ≡ 10
    → changes ≡ insertions 0 (blocks_from_head 10 source) → EditRun [] changes outcomes last → IsRunOf source last (first_refusal outcomes)
inserted_by_run source changes outcomes last single is_ended whole run =
    let texts : blocks_from_head 10 source ≡ source_texts source = ap (blocks_from_head 10) (sym (ended-of_newline source is_ended)) in
    taken_by_run source [] (source_texts source) outcomes last (taken_to_start source single)
    (subst (λ (cs : List Change). EditRun [] cs outcomes last) (whole ∙ ap (insertions 0) texts) run)

-- one more insertion is made of the blocks that are left
pub one_more : (edits : List Edit) (edit : Edit) (text : List ℕ) (rest : List (List ℕ)) (all : List Change) → change_of edit ≡ insertion (length edits) text
    → map change_of edits ++ insertions (length edits) (text ∷ rest) ≡ all → map change_of (edits ++ edit ∷ [])
    ++ insertions (length (edits ++ edit ∷ [])) rest ≡ all
one_more edits edit text rest all is e =
    let longer : length (edits ++ edit ∷ []) ≡ suc (length edits) = length-append edits (edit ∷ []) ∙ (omega arith) in
    rw (
      map-append change_of edits (edit ∷ []),
      append_assoc (map change_of edits) (change_of edit ∷ []) (insertions (length (edits ++ edit ∷ [])) rest),
      is,
      longer,
    ) e

-- a newline that is put at the end of a source without one changes nothing
pub newline_changes_nothing : (source : List ℕ) → (last_byte 10 source == 10) ≡ false → with_last_newline (source ++ 10 ∷ []) ≡ with_last_newline source
newline_changes_nothing source open_end =
    ended-of_newline (source ++ 10 ∷ []) (last_byte-newline 10 source) ∙ sym (rw open_end refl)
