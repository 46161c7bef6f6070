-- A repaired source is read as before, keeps its comments and blank lines, fits its width and stays as it is.
use Rattle.std.proofs.Common.{◌≡◌, ℕ, List, [], ◌∷◌, ◌++◌, map, refl, sym, ap, subst, ◌∙◌}
use Rattle.std.specs.List.{AllByRecursion, concat, flat_map}
use Rattle.std.proofs.lemmas.List.Concat.{flat_map-cons}
use Rattle.ti_text.specs.Texts.{last_byte}
use Rattle.ti_source.specs.Cutting.{AreBlocks, Cut, blocks_from_head, front_of}
use Rattle.ti_source.proofs.CutLemmas.{cut_is_computed, each_has_cut}
use Rattle.source_format.specs.Laws.{ReadAlike, kept_texts}
use Rattle.source_format.proofs.Standing.{kept_of_blocks}
use Rattle.source_kept_lines.specs.Laws.{FitsWidth, RepairedLinesFit, RepairingIsSettled, RepairingKeepsReading}
use Rattle.source_kept_lines.specs.Layout.{repaired_block, repaired_text}
use Rattle.source_kept_lines.proofs.Blocks.{alike, block_again, block_ends, block_fits, block_kept, block_one_head}

all_alike : (width before : ℕ) (bs : List (List ℕ)) → AreBlocks before bs → ReadAlike bs (map (repaired_block width) bs)
all_alike width before [] are = tt
all_alike width before (b ∷ bs) are = (alike width b are.1, all_alike width (last_byte before b) bs are.2)

all_again : (width before : ℕ) (bs : List (List ℕ)) → AreBlocks before bs
    → map (repaired_block width) (map (repaired_block width) bs) ≡ map (repaired_block width) bs
all_again width before [] are = refl
all_again width before (b ∷ bs) are =
    ap (λ (c : List ℕ). c ∷ map (repaired_block width) (map (repaired_block width) bs)) (block_again width b are.1)
    ∙ ap (λ (cs : List (List ℕ)). repaired_block width b ∷ cs) (all_again width (last_byte before b) bs are.2)

all_fit : (width before : ℕ) (bs : List (List ℕ)) → AreBlocks before bs → AllByRecursion (FitsWidth width) (map (repaired_block width) bs)
all_fit width before [] are = tt
all_fit width before (b ∷ bs) are = (block_fits width b are.1, all_fit width (last_byte before b) bs are.2)

all_kept : (width before : ℕ) (bs : List (List ℕ)) → AreBlocks before bs → flat_map kept_texts (map (repaired_block width) bs) ≡ flat_map kept_texts bs
all_kept width before [] are = refl
all_kept width before (b ∷ bs) are =
    flat_map-cons kept_texts (repaired_block width b) (map (repaired_block width) bs)
    ∙ ap (λ (ts : List (List ℕ)). ts ++ flat_map kept_texts (map (repaired_block width) bs)) (block_kept width b are.1)
    ∙ ap (λ (ts : List (List ℕ)). kept_texts b ++ ts) (all_kept width (last_byte before b) bs are.2) ∙ sym (flat_map-cons kept_texts b bs)

written_blocks : (width before other : ℕ) (bs : List (List ℕ)) → AreBlocks before bs → (before ≡ 10 → other ≡ 10)
    → AreBlocks other (map (repaired_block width) bs)
written_blocks width before other [] are begins = tt
written_blocks width before other (b ∷ bs) are begins = (
  begins are.0,
  block_one_head width b are.1,
  written_blocks width (last_byte before b) (last_byte other (repaired_block width b)) bs are.2 (λ e. block_ends width other b are.1),
)

joined : (width : ℕ) (bs : List (List ℕ)) → flat_map (repaired_block width) bs ≡ concat (map (repaired_block width) bs)
joined width [] = refl
joined width (b ∷ bs) = flat_map-cons (repaired_block width) b bs ∙ ap (λ (t : List ℕ). repaired_block width b ++ t) (joined width bs)

written_cut : (width : ℕ) (source : List ℕ) → Cut (repaired_text width source) (front_of 10 source) (map (repaired_block width) (blocks_from_head 10 source))
written_cut width source =
    let c = each_has_cut source in
    let preface = front_of 10 source in
    let bs = blocks_from_head 10 source in
    record {
      whole = ap (λ (t : List ℕ). preface ++ t) (joined width bs);
      front = c.front;
      each = written_blocks width (last_byte 10 preface) (last_byte 10 preface) bs c.each (λ e. e);
    }

stays_kept : (width : ℕ) (source : List ℕ) → kept_texts (repaired_text width source) ≡ kept_texts source
stays_kept width source =
    let preface = front_of 10 source in
    let bs = blocks_from_head 10 source in
    let old = each_has_cut source in
    let new = written_cut width source in
    ap kept_texts new.whole ∙ kept_of_blocks preface (map (repaired_block width) bs) new.each
    ∙ ap (λ (ts : List (List ℕ)). kept_texts preface ++ ts) (all_kept width (last_byte 10 preface) bs old.each)
    ∙ sym (kept_of_blocks preface bs old.each) ∙ sym (ap kept_texts old.whole)

pub lines_fit : RepairedLinesFit
lines_fit width source =
    let bs = blocks_from_head 10 source in
    let parts = cut_is_computed (repaired_text width source) (front_of 10 source) (map (repaired_block width) bs) (written_cut width source) in
    subst (AllByRecursion (FitsWidth width)) (sym parts.1) (all_fit width (last_byte 10 (front_of 10 source)) bs (each_has_cut source).each)

pub keeps_reading : RepairingKeepsReading
keeps_reading width source =
    let written = map (repaired_block width) (blocks_from_head 10 source) in
    let parts = cut_is_computed (repaired_text width source) (front_of 10 source) written (written_cut width source) in
    record {
      kept = sym (stays_kept width source);
      preface = sym parts.0;
      blocks = subst (λ (bs : List (List ℕ)). ReadAlike (blocks_from_head 10 source) bs) (sym parts.1)
          (all_alike width (last_byte 10 (front_of 10 source)) (blocks_from_head 10 source) (each_has_cut source).each);
    }

pub is_settled : RepairingIsSettled
is_settled width source =
    let bs = blocks_from_head 10 source in
    let parts = cut_is_computed (repaired_text width source) (front_of 10 source) (map (repaired_block width) bs) (written_cut width source) in
    ap (λ (p : List ℕ). p ++ flat_map (repaired_block width) (blocks_from_head 10 (repaired_text width source))) parts.0
    ∙ ap (λ (cs : List (List ℕ)). front_of 10 source ++ flat_map (repaired_block width) cs) parts.1
    ∙ ap (λ (t : List ℕ). front_of 10 source ++ t)
    (joined width (map (repaired_block width) bs)
    ∙ ap concat (all_again width (last_byte 10 (front_of 10 source)) bs (each_has_cut source).each) ∙ sym (joined width bs))
