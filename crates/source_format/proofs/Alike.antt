-- Blocks with the same names field and items of the same texts are read alike, and a formatted source
-- is read as before, keeps its comments and blank lines, fits its width and stays as it is.
use Rattle.std.proofs.Common.{◌≡◌, ℕ, ◌+◌, List, [], ◌∷◌, ◌++◌, map, Option, Some, None, refl, sym, ap, subst, ◌∙◌}
use Rattle.std.specs.List.{AllByRecursion, concat, flat_map}
use Rattle.std.proofs.lemmas.List.{map-append}
use Rattle.std.proofs.lemmas.List.Concat.{flat_map-cons}
use Rattle.ti_text.specs.Texts.{last_byte}
use Rattle.ti_source.specs.Cutting.{AreBlocks, Cut, HasOneHead, blocks_from_head, front_of}
use Rattle.ti_source.specs.Folding.{PlacedByte}
use Rattle.ti_source.specs.Items.{Statement, piece_of}
use Rattle.ti_source.specs.Judging.{Judged, faults_at, faults_from, header_faults, items_at, items_from, names_found}
use Rattle.ti_source.specs.Parsing.{reading_of_text}
use Rattle.ti_source.specs.declared.parsing.Rule.TheVariants.{Leftmost}
use Rattle.ti_source.specs.Reading.{ReadFault, ReadItem, Reading}
use Rattle.ti_source.specs.Stating.{statement_of}
use Rattle.ti_source.specs.Verdicts.{Verdict, accepted, accepted_odd, faults_by, items_by, refused}
use Rattle.ti_source.specs.Walking.{block_items}
use Rattle.ti_source.specs.inside.Header.{header_names}
use Rattle.ti_source.specs.inside.Parsing.{block_field, judged_as, judged_of}
use Rattle.ti_source.specs.inside.Verdicts.{verdict_of}
use Rattle.ti_source.proofs.CutLemmas.{cut_is_computed, each_has_cut}
use Rattle.source_format.specs.Layout.{block_text, formatted_text}
use Rattle.source_format.specs.Laws.{FitsWidth, FormattedLinesFit, FormattingIsSettled, FormattingKeepsReading, ReadAlike, ReadsAlike}
use Rattle.source_format.specs.Laws.{item_texts, kept_texts, unplaced, unplaced_fault, unplaced_item}
use Rattle.source_format.proofs.Headed.{block_again, block_ends, block_one_head, field_again, texts_again}
use Rattle.source_format.proofs.Standing.{blocks_kept, kept_of_blocks, standing_again}
use Rattle.source_format.proofs.Widths.{blocks_fit}

-- ---- items and faults without their lines

verdict_items : (ordinal line : ℕ) (v : Verdict) → map unplaced_item (items_by ordinal line v) ≡ items_by ordinal 0 v
verdict_items ordinal line (accepted said) = refl
verdict_items ordinal line (accepted_odd said) = refl
verdict_items ordinal line (refused code) = refl

verdict_faults : (ordinal line : ℕ) (name : List ℕ) (v : Verdict) → map unplaced_fault (faults_by ordinal line name v) ≡ faults_by ordinal 0 name v
verdict_faults ordinal line name (accepted said) = refl
verdict_faults ordinal line name (accepted_odd said) = refl
verdict_faults ordinal line name (refused code) = refl

-- what comes of an item of this text, on no line
abbrev judged_text : List ℕ → Option Judged
judged_text text = judged_as 0 (statement_of text)

stated_items : (ordinal line : ℕ) (o : Option Statement) → map unplaced_item (items_at ordinal (judged_as line o)) ≡ items_at ordinal (judged_as 0 o)
stated_items ordinal line None = refl
stated_items ordinal line (Some s) = verdict_items ordinal line (verdict_of s.name s.claim)

stated_faults : (ordinal line : ℕ) (o : Option Statement) → map unplaced_fault (faults_at ordinal (judged_as line o)) ≡ faults_at ordinal (judged_as 0 o)
stated_faults ordinal line None = refl
stated_faults ordinal line (Some s) = verdict_faults ordinal line s.name (verdict_of s.name s.claim)

items_unplaced : (ordinal : ℕ) (is : List (List PlacedByte)) → map unplaced_item (items_from ordinal (map judged_of is))
    ≡ items_from ordinal (map judged_text (map (λ (i : List PlacedByte). (piece_of i).text) is))
items_unplaced ordinal [] = refl
items_unplaced ordinal (i ∷ is) =
    map-append unplaced_item (items_at ordinal (judged_of i)) (items_from (ordinal + 1) (map judged_of is))
    ∙ ap (λ (front : List ReadItem). front ++ map unplaced_item (items_from (ordinal + 1) (map judged_of is)))
    (stated_items ordinal (piece_of i).line (statement_of (piece_of i).text))
    ∙ ap (λ (back : List ReadItem). items_at ordinal (judged_text (piece_of i).text) ++ back) (items_unplaced (ordinal + 1) is)

faults_unplaced : (ordinal : ℕ) (is : List (List PlacedByte)) → map unplaced_fault (faults_from ordinal (map judged_of is))
    ≡ faults_from ordinal (map judged_text (map (λ (i : List PlacedByte). (piece_of i).text) is))
faults_unplaced ordinal [] = refl
faults_unplaced ordinal (i ∷ is) =
    map-append unplaced_fault (faults_at ordinal (judged_of i)) (faults_from (ordinal + 1) (map judged_of is))
    ∙ ap (λ (front : List ReadFault). front ++ map unplaced_fault (faults_from (ordinal + 1) (map judged_of is)))
    (stated_faults ordinal (piece_of i).line (statement_of (piece_of i).text))
    ∙ ap (λ (back : List ReadFault). faults_at ordinal (judged_text (piece_of i).text) ++ back) (faults_unplaced (ordinal + 1) is)

abbrev made : List ℕ → List ReadItem → List ReadFault → Reading
made field items faults = record { rule = Leftmost; field = field; names = names_found (header_names field); items = items; faults = faults }

-- the reading of a names field and of items of these texts, without their lines
reading_with : List ℕ → List (List ℕ) → Reading
reading_with field texts =
    made field (items_from 0 (map judged_text texts)) (map unplaced_fault (header_faults field (header_names field)) ++ faults_from 0 (map judged_text texts))

reading_so : (block : List ℕ) → unplaced (reading_of_text block) ≡ reading_with (block_field block) (item_texts block)
unfolding reading_of_text reading_with
reading_so block =
    let field = block_field block in
    let is = block_items block in
    let header = header_faults field (header_names field) in
    ap (λ (items : List ReadItem). made field items (map unplaced_fault (header ++ faults_from 0 (map judged_of is)))) (items_unplaced 0 is)
    ∙ ap (made field (items_from 0 (map judged_text (item_texts block)))) (map-append unplaced_fault header (faults_from 0 (map judged_of is))
    ∙ ap (λ (back : List ReadFault). map unplaced_fault header ++ back) (faults_unplaced 0 is))

alike : (width : ℕ) (block : List ℕ) → HasOneHead block → ReadsAlike block (block_text width block)
alike width block head =
    let field = field_again width block head in
    let texts = texts_again width block head in
    record {
      texts = sym texts;
      standing = sym (standing_again width block head);
      reading = reading_so block ∙ ap (λ (f : List ℕ). reading_with f (item_texts block)) (sym field)
          ∙ ap (reading_with (block_field (block_text width block))) (sym texts) ∙ sym (reading_so (block_text width block));
    }

-- ---- all blocks of a source

all_alike : (width before : ℕ) (bs : List (List ℕ)) → AreBlocks before bs → ReadAlike bs (map (block_text width) bs)
all_alike width before [] are = tt
all_alike width before (b ∷ bs) are = (alike width b are.1, all_alike width (last_byte before b) bs are.2)

all_again : (width before : ℕ) (bs : List (List ℕ)) → AreBlocks before bs → map (block_text width) (map (block_text width) bs) ≡ map (block_text width) bs
all_again width before [] are = refl
all_again width before (b ∷ bs) are =
    ap (λ (c : List ℕ). c ∷ map (block_text width) (map (block_text width) bs)) (block_again width b are.1)
    ∙ ap (λ (cs : List (List ℕ)). block_text width b ∷ cs) (all_again width (last_byte before b) bs are.2)

written_blocks : (width before other : ℕ) (bs : List (List ℕ)) → AreBlocks before bs → (before ≡ 10 → other ≡ 10) → AreBlocks other (map (block_text width) bs)
written_blocks width before other [] are begins = tt
written_blocks width before other (b ∷ bs) are begins = (
  begins are.0,
  block_one_head width b are.1,
  written_blocks width (last_byte before b) (last_byte other (block_text width b)) bs are.2 (λ e. block_ends width other b),
)

joined : (width : ℕ) (bs : List (List ℕ)) → flat_map (block_text width) bs ≡ concat (map (block_text width) bs)
joined width [] = refl
joined width (b ∷ bs) = flat_map-cons (block_text width) b bs ∙ ap (λ (t : List ℕ). block_text width b ++ t) (joined width bs)

written_cut : (width : ℕ) (source : List ℕ) → Cut (formatted_text width source) (front_of 10 source) (map (block_text width) (blocks_from_head 10 source))
written_cut width source =
    let c = each_has_cut source in
    let preface = front_of 10 source in
    let bs = blocks_from_head 10 source in
    record {
      whole = ap (λ (t : List ℕ). preface ++ t) (joined width bs);
      front = c.front;
      each = written_blocks width (last_byte 10 preface) (last_byte 10 preface) bs c.each (λ e. e);
    }

stays_kept : (width : ℕ) (source : List ℕ) → kept_texts (formatted_text width source) ≡ kept_texts source
stays_kept width source =
    let preface = front_of 10 source in
    let bs = blocks_from_head 10 source in
    let old = each_has_cut source in
    let new = written_cut width source in
    ap kept_texts new.whole ∙ kept_of_blocks preface (map (block_text width) bs) new.each
    ∙ ap (λ (ts : List (List ℕ)). kept_texts preface ++ ts) (blocks_kept width (last_byte 10 preface) bs old.each)
    ∙ sym (kept_of_blocks preface bs old.each) ∙ sym (ap kept_texts old.whole)

pub lines_fit : FormattedLinesFit
lines_fit width source =
    let bs = blocks_from_head 10 source in
    let parts = cut_is_computed (formatted_text width source) (front_of 10 source) (map (block_text width) bs) (written_cut width source) in
    subst (AllByRecursion (FitsWidth width)) (sym parts.1) (blocks_fit width (last_byte 10 (front_of 10 source)) bs (each_has_cut source).each)

pub keeps_reading : FormattingKeepsReading
keeps_reading width source =
    let written = map (block_text width) (blocks_from_head 10 source) in
    let parts = cut_is_computed (formatted_text width source) (front_of 10 source) written (written_cut width source) in
    record {
      kept = sym (stays_kept width source);
      preface = sym parts.0;
      blocks = subst (λ (bs : List (List ℕ)). ReadAlike (blocks_from_head 10 source) bs) (sym parts.1)
          (all_alike width (last_byte 10 (front_of 10 source)) (blocks_from_head 10 source) (each_has_cut source).each);
    }

pub is_settled : FormattingIsSettled
is_settled width source =
    let bs = blocks_from_head 10 source in
    let parts = cut_is_computed (formatted_text width source) (front_of 10 source) (map (block_text width) bs) (written_cut width source) in
    ap (λ (p : List ℕ). p ++ flat_map (block_text width) (blocks_from_head 10 (formatted_text width source))) parts.0
    ∙ ap (λ (cs : List (List ℕ)). front_of 10 source ++ flat_map (block_text width) cs) parts.1
    ∙ ap (λ (t : List ℕ). front_of 10 source ++ t)
    (joined width (map (block_text width) bs)
    ∙ ap concat (all_again width (last_byte 10 (front_of 10 source)) bs (each_has_cut source).each) ∙ sym (joined width bs))
