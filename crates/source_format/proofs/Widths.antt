-- The lines of a block as it is written are within the width, or are not broken.
use Rattle.std.proofs.Common.{◌≡◌, ◌⊎◌, ℕ, ◌+◌, ◌≤◌, ◌==◌, Bool, true, false, List, [], ◌∷◌, ◌++◌, map, append_assoc, refl, sym, ap, subst, ◌∙◌, inl, inr, arith}
use Rattle.std.specs.Prelude.{nat_le}
use Rattle.std.specs.List.{AllByRecursion, Contains}
use Rattle.std.proofs.lemmas.Bool.{and_parts, leb-true}
use Rattle.std.proofs.lemmas.List.Elements.{Contains-append_right, Contains-get_or}
use Rattle.ti_source.specs.Cutting.{AreBlocks, HasOneHead}
use Rattle.ti_source.specs.Parsing.{reading_of_text}
use Rattle.ti_text.specs.Texts.{last_byte}
use Rattle.source_format.specs.Kinds.{kind_of, together}
use Rattle.source_format.specs.Layout.{Place, block_text, column_after, columns, gap, goes_on, item_bytes, laid, line_end, line_start, place_after}
use Rattle.source_format.specs.Laws.{FitsWidth, IsOneItem, IsWhole, item_texts}
use Rattle.source_format.specs.Pieces.{Piece, is_kept, item, kept, lines_of, pieces_of}
use Rattle.source_format.proofs.Columns.{columns-append}
use Rattle.source_format.proofs.Entering.{block_fine, block_texts}
use Rattle.source_format.proofs.Fine.{AreFine, HasNoItem, IsFine, fine_ended, fine_last, texts_of}
use Rattle.source_format.proofs.Folded.{IsOneLine, one_line-append}
use Rattle.source_format.proofs.Headed.{field_again, field_read, known_field, texts_again}
use Rattle.source_format.proofs.Laying.{begun}
use Rattle.source_format.proofs.Numbered.{item_line, lines_of-line}

-- ---- the items of a block

abbrev ItemsIn : List ℕ → List Piece → Type 0
ItemsIn block [] = Unit {0}
ItemsIn block (item text ended ∷ ps) = Contains (item_texts block) text × ItemsIn block ps
ItemsIn block (kept line ∷ ps) = ItemsIn block ps

none_in : (block : List ℕ) (ps : List Piece) → HasNoItem ps → ItemsIn block ps
none_in block [] none = tt
none_in block (item text ended ∷ ps) none = absurd none
none_in block (kept line ∷ ps) none = none_in block ps none

abbrev AreTexts : List ℕ → List (List ℕ) → Type 0
AreTexts block texts = (t : List ℕ) → Contains texts t → Contains (item_texts block) t

first_in : (block text : List ℕ) (ts : List (List ℕ)) → AreTexts block (text ∷ ts) → Contains (item_texts block) text
first_in block text ts are = are text (Contains-get_or (text ∷ ts) 0 text (omega arith))

items_in : (block : List ℕ) (ps : List Piece) → AreFine ps → AreTexts block (texts_of ps) → ItemsIn block ps
items_in block [] fine are = tt
items_in block (kept line ∷ ps) fine are = items_in block ps fine.2 are
items_in block (item text ended ∷ ps) fine are =
    by_end text ended fine.0 are (λ later. items_in block ps fine.1 later)
  where
    by_end : (text : List ℕ) (ended : Bool) → IsFine text ended ps → AreTexts block (texts_of (item text ended ∷ ps))
        → (AreTexts block (texts_of ps) → ItemsIn block ps) → Contains (item_texts block) text × ItemsIn block ps
    by_end text _ (fine_ended one visible ends) are more =
        (first_in block text (texts_of ps) are, more (λ t c. are t (Contains-append_right (text ∷ []) (texts_of ps) t c)))
    by_end _ _ (fine_last x {xs = xs} one visible goes only) are more = (first_in block (x ∷ xs) [] are, none_in block ps only)

-- ---- lines

abbrev Fits : ℕ → List ℕ → List ℕ → Type 0
Fits width block line = (columns line ≤ width) ⊎ IsWhole block line

abbrev AllFit : ℕ → List ℕ → List (List ℕ) → Type 0
AllFit width block lines = AllByRecursion (λ line. Fits width block line) lines

-- a line that is begun, of so many columns
record Begun (width : ℕ) (block : List ℕ) (column : ℕ) (line : List ℕ) : Type 0 where
  one_line : IsOneLine line
  size : columns line ≡ column
  fits : Fits width block line

abbrev LineSoFar : ℕ → List ℕ → Bool → ℕ → List ℕ → Type 0
LineSoFar width block true column line = line ≡ []
LineSoFar width block false column line = Begun width block column line

module _ (width : ℕ) (block : List ℕ) where
  line_fits : (line rest : List ℕ) → IsOneLine line → Fits width block line → AllFit width block (lines_of rest)
      → AllFit width block (lines_of (line ++ 10 ∷ rest))
  line_fits line rest one fits more = subst (AllFit width block) (sym (lines_of-line line rest one)) (fits, more)

  end_fits : (start : Bool) (column : ℕ) (line : List ℕ) → LineSoFar width block start column line → AllFit width block (lines_of (line ++ line_end start))
  end_fits true column line so = rw so tt
  end_fits false column line so = line_fits line [] so.one_line so.fits tt

  kept_fits : (start : Bool) (column : ℕ) (line l rest : List ℕ) → IsOneLine l → is_kept l ≡ true → LineSoFar width block start column line
      → AllFit width block (lines_of rest) → AllFit width block (lines_of (line ++ (line_end start ++ l ++ 10 ∷ rest)))
  kept_fits true column line l rest one k so more = rw so (line_fits l rest one (inr (inr (inl k))) more)
  kept_fits false column line l rest one k so more =
      line_fits line (l ++ 10 ∷ rest) so.one_line so.fits (line_fits l rest one (inr (inr (inl k))) more)

  item_fits : (start on : Bool) (column : ℕ) (line text rest : List ℕ) → IsOneLine text → Fits width block (9 ∷ text)
      → (on ≡ true → column + 1 + columns text ≤ width) → LineSoFar width block start column line
      → ((next : List ℕ) → Begun width block (column_after start on column (columns text)) next → AllFit width block (lines_of (next ++ rest)))
      → AllFit width block (lines_of (line ++ (gap start on ++ text ++ rest)))
  item_fits true on column line text rest one fits room so more =
      rw so (more (9 ∷ text) (record { one_line = (refl, one); size = refl; fits = fits }))
  item_fits false true column line text rest one fits room so more =
      let size : columns (line ++ 32 ∷ text) ≡ column + 1 + columns text = columns-append line (32 ∷ text) ∙ (rw so.size (omega arith)) in
      let within : columns (line ++ 32 ∷ text) ≤ width = omega (arith, size, room refl) in
      let whole = more (line ++ 32 ∷ text)
      (record { one_line = one_line-append line (32 ∷ text) so.one_line (refl, one); size = size; fits = inl within }) in
      subst (λ (t : List ℕ). AllFit width block (lines_of t)) (append_assoc line (32 ∷ text) rest) whole
  item_fits false false column line text rest one fits room so more =
      line_fits line (9 ∷ text ++ rest) so.one_line so.fits (more (9 ∷ text) (record { one_line = (refl, one); size = refl; fits = fits }))

  has_room : (place : Place) (text : List ℕ) (ended : Bool) → goes_on width place (kind_of text) (columns (item_bytes text ended)) ≡ true
      → place.column + 1 + columns (item_bytes text ended) ≤ width
  has_room place text ended on =
      let size = columns (item_bytes text ended) in
      leb-true (place.column + 1 + size) width (and_parts (together place.kind (kind_of text)) (nat_le (place.column + 1 + size) width) on).1

  lines_fit : (place : Place) (ps : List Piece) (line : List ℕ) → AreFine ps → ItemsIn block ps
      → LineSoFar width block (place.column == 0) place.column line → AllFit width block (lines_of (line ++ laid width place ps))
  lines_fit place [] line fine items so = end_fits (place.column == 0) place.column line so
  lines_fit place (kept l ∷ ps) line fine items so =
      kept_fits (place.column == 0) place.column line l (laid width line_start ps) fine.0 fine.1 so (lines_fit line_start ps [] fine.2 items refl)
  lines_fit place (item text ended ∷ ps) line fine items so =
      let bytes = item_bytes text ended in
      let size = columns bytes in
      let on = goes_on width place (kind_of text) size in
      let next = place_after width place (kind_of text) size in
      let one : IsOneItem block (9 ∷ bytes) = record { text = text; ended = ended; of_block = items.0; is_line = refl } in
      let later = λ (l : List ℕ) (b : Begun width block next.column l). lines_fit next ps l fine.1 items.1
      (subst (λ (start : Bool). LineSoFar width block start next.column l) (sym (begun (place.column == 0) on place.column size)) b) in
      item_fits (place.column == 0) on place.column line bytes (laid width next ps) (item_line text ended ps fine.0) (inr (inr (inr one)))
      (λ e. has_room place text ended e) so later

-- ---- a block as it is written

pub block_fits : (width : ℕ) (block : List ℕ) → HasOneHead block → FitsWidth width (block_text width block)
block_fits width block head =
    let written = block_text width block in
    let field = (reading_of_text block).field in
    let known = known_field block head in
    let rest = laid width line_start (pieces_of block) in
    let same : (reading_of_text written).field ≡ field = field_read written ∙ field_again width block head ∙ sym (field_read block) in
    let texts = block_texts block ∙ sym (texts_again width block head) in
    let items = items_in written (pieces_of block) (block_fine block) (λ t c. subst (λ (ts : List (List ℕ)). Contains ts t) texts c) in
    subst (λ (t : List ℕ). AllFit width written (lines_of t)) (append_assoc field (44 ∷ []) (10 ∷ rest))
    (line_fits width written (field ++ 44 ∷ []) rest (one_line-append field (44 ∷ []) known.one_line (refl, tt))
    (inr (inl (ap (λ (f : List ℕ). f ++ 44 ∷ []) (sym same))))
    (lines_fit width written line_start (pieces_of block) [] (block_fine block) items refl))

pub blocks_fit : (width before : ℕ) (bs : List (List ℕ)) → AreBlocks before bs → AllByRecursion (FitsWidth width) (map (block_text width) bs)
blocks_fit width before [] are = tt
blocks_fit width before (b ∷ bs) are = (block_fits width b are.1, blocks_fit width (last_byte before b) bs are.2)
