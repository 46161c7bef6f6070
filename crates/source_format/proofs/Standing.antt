-- Comments and blank lines are in the text of a formatted source, before the same items.
use Rattle.std.proofs.Common.{◌≡◌, ℕ, ◌+◌, ◌<◌, ◌≤◌, ◌==◌, Bool, true, false, List, [], ◌∷◌, ◌++◌, map, refl, sym, ap, subst, ◌∙◌, inl, inr, arith}
use Rattle.std.specs.Prelude.{nat_lt}
use Rattle.std.specs.List.{concat, filter, flat_map}
use Rattle.std.proofs.lemmas.Bool.{cases_Bool, eq-eqb, ltb-false, ltb-true}
use Rattle.std.proofs.lemmas.List.{append-nil}
use Rattle.std.proofs.lemmas.List.Concat.{flat_map-cons}
use Rattle.std.proofs.lemmas.List.Elements.{filter-append}
use Rattle.ti_text.specs.Texts.{last_byte}
use Rattle.ti_source.specs.Cutting.{AreBlocks, HasOneHead}
use Rattle.ti_source.specs.Items.{ItemPiece, item_piece, piece_of}
use Rattle.ti_source.specs.Walking.{block_items}
use Rattle.source_format.specs.Layout.{block_text}
use Rattle.source_format.specs.Laws.{StandingLine, kept_texts, standing_lines, texts_after}
use Rattle.source_format.specs.Pieces.{Entry, KeptLine, Piece, entries_of, is_kept, item, kept, kept_from, kept_lines, kept_piece, lines_before, lines_from}
use Rattle.source_format.specs.Pieces.{lines_of, merged, pieces_of, with_first_byte}
use Rattle.source_format.proofs.Headed.{pieces_again}
use Rattle.source_format.proofs.Numbered.{nat_lt-no, nat_lt-yes}
use Rattle.source_format.proofs.Placed.{entry_with}
use Rattle.source_format.proofs.Rising.{AreNumbered, InOrder, block_in_order, empty_item, full_item, lines_numbered, no_item, numbered-low}

-- ---- kept lines among pieces

abbrev standing : List ℕ → List (List ℕ) → StandingLine
standing text later = record { text = text; later = later }

-- the texts of the items that are not empty
abbrev full_texts : List (List ℕ) → List (List ℕ)
full_texts [] = []
full_texts ([] ∷ ts) = full_texts ts
full_texts ((x ∷ xs) ∷ ts) = (x ∷ xs) ∷ full_texts ts

abbrev texts_in : List Piece → List (List ℕ)
texts_in [] = []
texts_in (item text ended ∷ ps) = text ∷ texts_in ps
texts_in (kept line ∷ ps) = texts_in ps

-- the kept lines, each with the items after it
abbrev standing_in : List Piece → List StandingLine
standing_in [] = []
standing_in (item text ended ∷ ps) = standing_in ps
standing_in (kept line ∷ ps) = standing line (full_texts (texts_in ps)) ∷ standing_in ps

-- kept lines among the items that were read
abbrev standing_with : List ItemPiece → List KeptLine → List StandingLine
standing_with ps ks = map (λ (k : KeptLine). standing k.text (texts_after k.number ps)) ks

abbrev texts_of_pieces : List ItemPiece → List (List ℕ)
texts_of_pieces ps = map (λ (p : ItemPiece). p.text) ps

-- ---- the items after a line

-- all of them, if the line is before the first
after_all : {from : ℕ} {ps : List ItemPiece} (number : ℕ) → number < from → InOrder from ps → texts_after number ps ≡ full_texts (texts_of_pieces ps)
after_all number h no_item = refl
after_all number h (empty_item o) = rw (nat_lt-no number 0 (omega arith)) (after_all number h o)
after_all number h (full_item x {xs = xs} {line = line} g o) =
    rw (nat_lt-yes number line (omega arith)) (ap (λ (ts : List (List ℕ)). (x ∷ xs) ∷ ts) (after_all number (omega arith) o))

texts_lines : (ks : List KeptLine) (ps : List Piece) → texts_in (map kept_piece ks ++ ps) ≡ texts_in ps
texts_lines [] ps = refl
texts_lines (k ∷ ks) ps = texts_lines ks ps

texts_none : (ks : List KeptLine) → texts_in (map kept_piece ks) ≡ []
texts_none [] = refl
texts_none (k ∷ ks) = texts_none ks

-- the items of merged pieces are those that were read
merged_texts : (es : List Entry) (ks : List KeptLine) → texts_in (merged es ks) ≡ map (λ (e : Entry). e.text) es
merged_texts [] ks = texts_none ks
merged_texts (e ∷ es) ks =
    let left = lines_from e.line ks in
    texts_lines (lines_before e.line ks) (item e.text e.ended ∷ merged es left) ∙ ap (λ (ts : List (List ℕ)). e.text ∷ ts) (merged_texts es left)

entry_texts : {from : ℕ} {ps : List ItemPiece} → InOrder from ps → full_texts (map (λ (e : Entry). e.text) (entries_of ps)) ≡ full_texts (texts_of_pieces ps)
entry_texts no_item = refl
entry_texts (empty_item no_item) = refl
entry_texts (empty_item (empty_item o)) = entry_texts (empty_item o)
entry_texts (empty_item (full_item x g o)) = entry_texts (full_item x g o)
entry_texts (full_item x {xs = xs} g no_item) = refl
entry_texts (full_item x {xs = xs} g (empty_item o)) = ap (λ (ts : List (List ℕ)). (x ∷ xs) ∷ ts) (entry_texts (empty_item o))
entry_texts (full_item x {xs = xs} g (full_item y h o)) = ap (λ (ts : List (List ℕ)). (x ∷ xs) ∷ ts) (entry_texts (full_item y h o))

-- ---- an item more

-- an empty item comes after no line
empty_more : (ps : List ItemPiece) (ks : List KeptLine) → standing_with (item_piece [] 0 ∷ ps) ks ≡ standing_with ps ks
empty_more ps [] = refl
empty_more ps (k ∷ ks) =
    rw (nat_lt-no k.number 0 (omega arith)) (ap (λ (ls : List StandingLine). standing k.text (texts_after k.number ps) ∷ ls) (empty_more ps ks))

none_before_0 : (ks : List KeptLine) → (lines_before 0 ks ≡ []) × (lines_from 0 ks ≡ ks)
none_before_0 [] = (refl, refl)
none_before_0 (k ∷ ks) = rw (nat_lt-no k.number 0 (omega arith)) (refl, refl)

empty_merged : (es : List Entry) (ks : List KeptLine) → standing_in (merged (entry_with [] 0 true ∷ es) ks) ≡ standing_in (merged es ks)
empty_merged es ks = let none = none_before_0 ks in rw (none.0, none.1) refl

-- an item comes after no line from its own on
not_after : (text : List ℕ) (line from : ℕ) (ps : List ItemPiece) (ks : List KeptLine) → line ≤ from → AreNumbered from ks
    → standing_with (item_piece text line ∷ ps) ks ≡ standing_with ps ks
not_after text line from ps [] h n = refl
not_after text line from ps (k ∷ ks) h n =
    let low : line ≤ k.number = omega (arith, n.0) in
    rw (nat_lt-no k.number line low)
    (ap (λ (ls : List StandingLine). standing k.text (texts_after k.number ps) ∷ ls) (not_after text line k.number ps ks low n.1))

-- what comes after a line before the item
first_line : (x : ℕ) (xs : List ℕ) (line : ℕ) (ended : Bool) (ps : List ItemPiece) (rest : List Piece) (k : KeptLine) (ks : List KeptLine)
    → k.number < line → InOrder line ps → full_texts (texts_in rest) ≡ full_texts (texts_of_pieces ps)
    → full_texts (texts_in (map kept_piece (lines_before line ks) ++ item (x ∷ xs) ended ∷ rest)) ≡ (x ∷ xs) ∷ texts_after k.number ps
first_line x xs line ended ps rest k ks h o texts =
    ap full_texts (texts_lines (lines_before line ks) (item (x ∷ xs) ended ∷ rest))
    ∙ ap (λ (ts : List (List ℕ)). (x ∷ xs) ∷ ts) (texts ∙ sym (after_all k.number h o))

-- the lines before an item that is not empty, and those from it on
full_merged : (x : ℕ) (xs : List ℕ) (line low : ℕ) (ended : Bool) (ps : List ItemPiece) (rest : List Piece) (ks : List KeptLine) → AreNumbered low ks
    → InOrder line ps → full_texts (texts_in rest) ≡ full_texts (texts_of_pieces ps) → standing_in rest ≡ standing_with ps (lines_from line ks)
    → standing_in (map kept_piece (lines_before line ks) ++ item (x ∷ xs) ended ∷ rest) ≡ standing_with (item_piece (x ∷ xs) line ∷ ps) ks
full_merged x xs line low ended ps rest [] n o texts lines = lines
full_merged x xs line low ended ps rest (k ∷ ks) n o texts lines =
    elim (cases_Bool (nat_lt k.number line)) [
      | inl t ↦
          let later = first_line x xs line ended ps rest k ks (ltb-true k.number line t) o texts in
          let others = full_merged x xs line k.number ended ps rest ks n.1 o texts (rw t at lines) in
          rw t (ap (λ (ts : List (List ℕ)). standing k.text ts ∷ standing_in (map kept_piece (lines_before line ks) ++ item (x ∷ xs) ended ∷ rest)) later
          ∙ ap (λ (ls : List StandingLine). standing k.text ((x ∷ xs) ∷ texts_after k.number ps) ∷ ls) others)
      | inr f ↦
          let low_line : line ≤ k.number = ltb-false k.number line f in
          let later = not_after (x ∷ xs) line k.number ps ks low_line n.1 in
          rw f ((rw f at lines) ∙ ap (λ (ls : List StandingLine). standing k.text (texts_after k.number ps) ∷ ls) (sym later))
    ]

-- ---- all items

no_items : (ks : List KeptLine) → standing_in (map kept_piece ks) ≡ standing_with [] ks
no_items [] = refl
no_items (k ∷ ks) =
    ap (λ (ts : List (List ℕ)). standing k.text (full_texts ts) ∷ standing_in (map kept_piece ks)) (texts_none ks)
    ∙ ap (λ (ls : List StandingLine). standing k.text [] ∷ ls) (no_items ks)

from_numbered : (low line : ℕ) (ks : List KeptLine) → AreNumbered low ks → AreNumbered low (lines_from line ks)
from_numbered low line [] n = tt
from_numbered low line (k ∷ ks) n =
    elim (cases_Bool (nat_lt k.number line)) [
      | inl t ↦ rw t (numbered-low low k.number (lines_from line ks) n.0 (from_numbered k.number line ks n.1))
      | inr f ↦ rw f n
    ]

module _ (x : ℕ) (xs : List ℕ) (line low : ℕ) (ended : Bool) (ps : List ItemPiece) (ks : List KeptLine) where
  full_first : AreNumbered low ks → InOrder line ps → standing_in (merged (entries_of ps) (lines_from line ks)) ≡ standing_with ps (lines_from line ks)
      → standing_in (merged (entry_with (x ∷ xs) line ended ∷ entries_of ps) ks) ≡ standing_with (item_piece (x ∷ xs) line ∷ ps) ks
  full_first n o later =
      let left = lines_from line ks in
      full_merged x xs line low ended ps (merged (entries_of ps) left) ks n o (ap full_texts (merged_texts (entries_of ps) left) ∙ entry_texts o) later

all_standing : {from : ℕ} {ps : List ItemPiece} (low : ℕ) (ks : List KeptLine) → InOrder from ps → AreNumbered low ks
    → standing_in (merged (entries_of ps) ks) ≡ standing_with ps ks
all_standing low ks no_item n = no_items ks
all_standing low ks (empty_item no_item) n = no_items ks ∙ sym (empty_more [] ks)
all_standing low ks (empty_item {ps = q ∷ qs} o) n =
    empty_merged (entries_of (q ∷ qs)) ks ∙ all_standing low ks o n ∙ sym (empty_more (q ∷ qs) ks)
all_standing low ks (full_item x {xs = xs} {line = line} g no_item) n = full_first x xs line low false [] ks n no_item (no_items (lines_from line ks))
all_standing low ks (full_item x {xs = xs} {line = line} {ps = q ∷ qs} g o) n =
    full_first x xs line low true (q ∷ qs) ks n o (all_standing low (lines_from line ks) o (from_numbered low line ks n))

pub block_standing : (block : List ℕ) → standing_in (pieces_of block) ≡ standing_lines block
block_standing block = all_standing 1 (kept_lines block) (block_in_order block) (lines_numbered block)

pub standing_again : (width : ℕ) (block : List ℕ) → HasOneHead block → standing_lines (block_text width block) ≡ standing_lines block
standing_again width block head =
    sym (block_standing (block_text width block)) ∙ ap standing_in (pieces_again width block head) ∙ block_standing block

-- ---- the kept lines of a source

abbrev text_of : StandingLine → List ℕ
text_of line = line.text

standing_texts : (ps : List ItemPiece) (ks : List KeptLine) → map text_of (standing_with ps ks) ≡ map (λ (k : KeptLine). k.text) ks
standing_texts ps [] = refl
standing_texts ps (k ∷ ks) = ap (λ (ts : List (List ℕ)). k.text ∷ ts) (standing_texts ps ks)

numbered_texts : (number : ℕ) (lines : List (List ℕ)) → map (λ (k : KeptLine). k.text) (kept_from number lines) ≡ filter is_kept lines
numbered_texts number [] = refl
numbered_texts number (line ∷ lines) =
    elim (cases_Bool (is_kept line)) [
      | inl t ↦ rw t (ap (λ (ts : List (List ℕ)). line ∷ ts) (numbered_texts (number + 1) lines))
      | inr f ↦ rw f (numbered_texts (number + 1) lines)
    ]

block_kept : (block : List ℕ) → map text_of (standing_lines block) ≡ kept_texts block
block_kept block = standing_texts (map piece_of (block_items block)) (kept_lines block) ∙ numbered_texts 1 (lines_of block)

kept_again : (width : ℕ) (block : List ℕ) → HasOneHead block → kept_texts (block_text width block) ≡ kept_texts block
kept_again width block head = sym (block_kept (block_text width block)) ∙ ap (map text_of) (standing_again width block head) ∙ block_kept block

-- ---- lines of texts that are joined

abbrev HasFirst : List (List ℕ) → Type 0
HasFirst lines = (l : List ℕ) × (ls : List (List ℕ)) × (lines ≡ l ∷ ls)

byte_more : (x : ℕ) (lines others : List (List ℕ)) → HasFirst lines → with_first_byte x (lines ++ others) ≡ with_first_byte x lines ++ others
byte_more x [] others some = let none : [] ≡ some.0 ∷ some.1 = some.2 in cc
byte_more x (l ∷ ls) others some = refl

some_lines : (x : ℕ) (xs : List ℕ) → HasFirst (lines_of (x ∷ xs))
some_lines x xs =
    elim (cases_Bool (x == 10)) [
      | inl t ↦ ([], lines_of xs, rw t refl)
      | inr f ↦ rw f (first_of (lines_of xs))
    ]
  where
    first_of : (lines : List (List ℕ)) → HasFirst (with_first_byte x lines)
    first_of [] = (x ∷ [], [], refl)
    first_of (l ∷ ls) = (x ∷ l, ls, refl)

-- a text that ends with a newline, and another
lines_joined : (x : ℕ) (xs s : List ℕ) → last_byte x xs ≡ 10 → lines_of (x ∷ xs ++ s) ≡ lines_of (x ∷ xs) ++ lines_of s
lines_joined x [] s e = rw (eq-eqb x 10 e) refl
lines_joined x (y ∷ ys) s e =
    let later = lines_joined y ys s e in
    elim (cases_Bool (x == 10)) [
      | inl t ↦ rw t (ap (λ (ls : List (List ℕ)). [] ∷ ls) later)
      | inr f ↦ rw f (ap (with_first_byte x) later ∙ byte_more x (lines_of (y ∷ ys)) (lines_of s) (some_lines y ys))
    ]

kept_joined : (p s : List ℕ) → last_byte 10 p ≡ 10 → kept_texts (p ++ s) ≡ kept_texts p ++ kept_texts s
kept_joined [] s e = refl
kept_joined (x ∷ xs) s e = ap (filter is_kept) (lines_joined x xs s e) ∙ filter-append is_kept (lines_of (x ∷ xs)) (lines_of s)

kept_alone : (p : List ℕ) → kept_texts (p ++ []) ≡ kept_texts p ++ []
kept_alone p = ap kept_texts (append-nil p) ∙ sym (append-nil (kept_texts p))

pub kept_of_blocks : (p : List ℕ) (bs : List (List ℕ)) → AreBlocks (last_byte 10 p) bs → kept_texts (p ++ concat bs) ≡ kept_texts p ++ flat_map kept_texts bs
kept_of_blocks p [] are = kept_alone p
kept_of_blocks p (b ∷ bs) are =
    kept_joined p (b ++ concat bs) are.0
    ∙ ap (λ (ts : List (List ℕ)). kept_texts p ++ ts)
    (kept_of_blocks b bs (subst (λ (before : ℕ). AreBlocks (last_byte before b) bs) are.0 are.2) ∙ sym (flat_map-cons kept_texts b bs))

pub blocks_kept : (width before : ℕ) (bs : List (List ℕ)) → AreBlocks before bs → flat_map kept_texts (map (block_text width) bs) ≡ flat_map kept_texts bs
blocks_kept width before [] are = refl
blocks_kept width before (b ∷ bs) are =
    flat_map-cons kept_texts (block_text width b) (map (block_text width) bs)
    ∙ ap (λ (ts : List (List ℕ)). ts ++ flat_map kept_texts (map (block_text width) bs)) (kept_again width b are.1)
    ∙ ap (λ (ts : List (List ℕ)). kept_texts b ++ ts) (blocks_kept width (last_byte before b) bs are.2) ∙ sym (flat_map-cons kept_texts b bs)
