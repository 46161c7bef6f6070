-- Texts that a list of blocks takes, so that an edit of them is refused only if memory runs out.
use Rattle.std.proofs.Common.{◌≡◌, ℕ, ◌+◌, ◌<◌, ◌≤◌, All, Bor, List, [], ◌∷◌, ◌++◌, drop, get_or, length, map, take, sym, ap, subst, ◌∙◌, arith}
use Rattle.std.proofs.Math.Seq.{get_or-append_seam}
use Rattle.std.proofs.lemmas.List.{drop-map, drop_more, get_or-map, length-append, length-map, length-take-le, take-append-drop, take-map}
use Rattle.std.proofs.lemmas.List.Elements.{All-drop, All-take}
use Rattle.ti_text.specs.Limits.{block_bytes_max, blocks_max}
use Rattle.ti_source.specs.Cutting.{OneBlock}
use Rattle.base_meaning.specs.Edits.{Change, EditStep, IsSoundEdit, insertion, removal, replacement}
use Rattle.base_meaning.specs.declared.edits.EditError.{EditError}
use Rattle.base_meaning.specs.declared.edits.EditError.TheVariants.{Memory}
use Rattle.base_meaning.specs.declared.edits.Outcome.TheVariants.{Refused}
use Rattle.base_meaning.proofs.Causes.{one_cause}
use Rattle.tools_sources.specs.Sources.{AreTaken}
use Rattle.source_document.specs.Documents.{IsShortBlock}
use Rattle.source_document.proofs.TextLists.{text_of}

-- a list at an item of it
parts_at : (blocks : List (List ℕ)) (i : ℕ) (d : List ℕ) → i < length blocks → blocks ≡ take i blocks ++ get_or blocks i d ∷ drop (i + 1) blocks
parts_at blocks i d within = sym (take-append-drop i blocks) ∙ ap (λ (rest : List (List ℕ)). take i blocks ++ rest) (drop_more blocks i d within)

-- blocks that are taken are short, and no more than a list may have
pub taken_short : (blocks : List (List ℕ)) → AreTaken blocks → All IsShortBlock blocks
taken_short blocks taken i d within =
    let sound = taken (take i blocks) (get_or blocks i d) (drop (i + 1) blocks) (parts_at blocks i d within) in
    (sound.short, sound.block)

taken_below : (blocks : List (List ℕ)) (i : ℕ) → AreTaken blocks → i < length blocks → i < blocks_max
taken_below blocks i taken within =
    let sound = taken (take i blocks) (get_or blocks i []) (drop (i + 1) blocks) (parts_at blocks i [] within) in
    omega (arith, sound.room, length-take-le i blocks (omega (arith, within)))

pub taken_few : (blocks : List (List ℕ)) → AreTaken blocks → length blocks ≤ blocks_max
taken_few [] taken = omega arith
taken_few (block ∷ blocks) taken = omega (arith, taken_below (block ∷ blocks) (length blocks) taken (omega arith))

-- short blocks are taken if they are no more than a list may have
pub few_taken : (blocks : List (List ℕ)) → All OneBlock blocks → All (λ block. length block ≤ block_bytes_max) blocks → length blocks ≤ blocks_max
    → AreTaken blocks
few_taken blocks single short few front block back e =
    let n = ap length e ∙ length-append front (block ∷ back) in
    let is : get_or blocks (length front) [] ≡ block = ap (λ (bs : List (List ℕ)). get_or bs (length front) []) e ∙ get_or-append_seam front block back [] in
    record {
      in_place = omega arith;
      short = subst (λ (b : List ℕ). length b ≤ block_bytes_max) is (short (length front) [] (omega (arith, n)));
      block = subst OneBlock is (single (length front) [] (omega (arith, n)));
      room = omega (arith, n, few);
    }

-- so is a part of them
pub part_short : (texts : List (Bor (List ℕ))) (front n : ℕ) → All IsShortBlock (map text_of texts) → All IsShortBlock (map text_of (take n (drop front texts)))
part_short texts front n short =
    let part : take n (drop front (map text_of texts)) ≡ map text_of (take n (drop front texts)) =
    ap (take n) (drop-map text_of front texts) ∙ take-map text_of n (drop front texts) in
    subst (λ (texts : List (List ℕ)). All IsShortBlock texts) part
    (All-take IsShortBlock n (drop front (map text_of texts)) (All-drop IsShortBlock front (map text_of texts) short))

-- each of them is one
short_at : (texts : List (Bor (List ℕ))) (k : ℕ) (d : Bor (List ℕ)) → k < length texts → All IsShortBlock (map text_of texts)
    → IsShortBlock (get_or texts k d).now
short_at texts k d within short =
    subst IsShortBlock (get_or-map text_of texts k d d.now within) (short k d.now (omega (arith, within, length-map texts text_of)))

-- an edit that nothing is wrong with is refused for memory alone
pub memory_alone : (texts : List (List ℕ)) (change : Change) (error : EditError) (next : List (List ℕ)) → EditStep texts change (Refused error) next
    → IsSoundEdit texts change → error ≡ Memory
memory_alone texts change error next step sound = one_cause texts change error Memory step.0 sound

pub replacement_sound : (before : List (List ℕ)) (texts : List (Bor (List ℕ))) (at k : ℕ) (d : Bor (List ℕ)) → k < length texts → at < length before
    → All IsShortBlock (map text_of texts)
    → IsSoundEdit before (replacement at (get_or texts k d).now)
replacement_sound before texts at k d within place short =
    let one = short_at texts k d within short in
    record { in_place = place; short = one.0; block = one.1; room = tt }

pub insertion_sound : (before : List (List ℕ)) (texts : List (Bor (List ℕ))) (at k : ℕ) (d : Bor (List ℕ)) → k < length texts → at ≤ length before
    → length before < blocks_max
    → All IsShortBlock (map text_of texts) → IsSoundEdit before (insertion at (get_or texts k d).now)
insertion_sound before texts at k d within place room short =
    let one = short_at texts k d within short in
    record { in_place = place; short = one.0; block = one.1; room = room }

pub removal_sound : (before : List (List ℕ)) (at : ℕ) → at < length before → IsSoundEdit before (removal at)
removal_sound before at place = record { in_place = place; short = tt; block = tt; room = tt }
