-- What is read of any block: its pieces are fine and in order, and have the texts of its items.
use Rattle.std.proofs.Common.{◌≡◌, ℕ, ◌+◌, ◌==◌, ◌||◌, ◌&&◌, Bool, true, false, List, [], ◌∷◌, ◌++◌, map, refl, sym, ap, subst, ◌∙◌, inl, inr, arith}
use Rattle.std.specs.Prelude.{nat_lt}
use Rattle.std.proofs.lemmas.Bool.{cases_Bool, eqb-true}
use Rattle.ti_text.specs.WhiteSpace.{is_white_space}
use Rattle.ti_source.specs.Folding.{HasNoNewline, PlacedByte}
use Rattle.ti_source.specs.Items.{ItemPiece, bytes, line_of, piece_of, without_front}
use Rattle.ti_source.specs.Walking.{block_items}
use Rattle.ti_source.specs.inside.Folding.{bytes_on_lines, folding_of, without_breaks, without_comments}
use Rattle.ti_source.specs.inside.Items.{after_field}
use Rattle.ti_source.proofs.ItemLaws.{BeginsVisible}
use Rattle.source_spans.specs.Parts.{with_first}
use Rattle.source_spans.proofs.Escaping.{Escape, backslash, caret, cuts, escape_after, items_of, nothing}
use Rattle.source_format.specs.Pieces.{Entry, KeptLine, Piece, item, entries, entries_of, is_kept, kept_from, kept_lines, kept_piece, lines_before}
use Rattle.source_format.specs.Pieces.{lines_from}
use Rattle.source_format.specs.Pieces.{lines_of, merged, pieces_of, with_first_byte}
use Rattle.source_format.specs.Laws.{item_texts}
use Rattle.source_format.proofs.Cut.{Ends, Goes, items_computed}
use Rattle.source_format.proofs.Fine.{AreFine, AreOrdered, BeginsFull, HasNoItem, IsFine, fine_ended, fine_last, texts_of}
use Rattle.source_format.proofs.Folded.{IsOneLine}
use Rattle.source_format.proofs.Numbered.{nat_lt-no}

-- ---- a folded text has no newline

first_false : (a b : Bool) → (a || b) ≡ false → a ≡ false
first_false true b e = e
first_false false b e = refl

pub no_breaks : (joining : Bool) (s : List PlacedByte) → HasNoNewline (without_breaks joining s)
no_breaks joining [] = tt
no_breaks joining (x ∷ xs) =
    elim (cases_Bool (x.0 == 10 || (joining && is_white_space x.0))) [
      | inl t ↦ rw t (no_breaks true xs)
      | inr f ↦ rw f (first_false (x.0 == 10) (joining && is_white_space x.0) f, no_breaks false xs)
    ]

rest_one_line : (s : List PlacedByte) → HasNoNewline s → HasNoNewline (after_field s)
rest_one_line [] n = tt
rest_one_line (x ∷ xs) n = elim (cases_Bool (x.0 == 44)) [ inl t ↦ rw t n.1 | inr f ↦ rw f (rest_one_line xs n.1) ]

-- ---- its items

abbrev GoodItems : Escape → ℕ → List (List PlacedByte) → Type 0
GoodItems by before [] = ⊥
GoodItems by before (i ∷ []) = IsOneLine (bytes i) × Goes by before (bytes i)
GoodItems by before (i ∷ j ∷ is) = IsOneLine (bytes i) × Ends by before (bytes i) × GoodItems nothing 44 (j ∷ is)

good_first : (by : Escape) (before : ℕ) (x : PlacedByte) (all : List (List PlacedByte)) → (x.0 == 10) ≡ false → cuts by x.0 ≡ false
    → GoodItems (escape_after by before x.0) x.0 all → GoodItems by before (with_first x all)
good_first by before x [] n c good = absurd good
good_first by before x (i ∷ []) n c good = ((n, good.0), (c, good.1))
good_first by before x (i ∷ j ∷ is) n c good = ((n, good.0), (c, good.1), good.2)

good_cut : (by : Escape) (before : ℕ) (all : List (List PlacedByte)) → cuts by 44 ≡ true → GoodItems nothing 44 all → GoodItems by before ([] ∷ all)
good_cut by before [] c good = absurd good
good_cut by before (i ∷ is) c good = (tt, c, good)

cuts_comma : (by : Escape) (x : ℕ) → cuts by x ≡ true → cuts by 44 ≡ true
cuts_comma nothing x c = refl
cuts_comma backslash x c = c
cuts_comma caret x c = refl

good_items : (by : Escape) (before : ℕ) (text : List PlacedByte) → HasNoNewline text → GoodItems by before (items_of by before text)
good_items by before [] n = (tt, tt)
good_items by before (x ∷ xs) n =
    elim (cases_Bool (cuts by x.0)) [
      | inl t ↦ rw t (good_cut by before (items_of nothing 44 xs) (cuts_comma by x.0 t) (good_items nothing 44 xs n.1))
      | inr f ↦ rw f (good_first by before x (items_of (escape_after by before x.0) x.0 xs) n.0 f (good_items (escape_after by before x.0) x.0 xs n.1))
    ]

block_good : (block : List ℕ) → GoodItems nothing 44 (block_items block)
block_good block =
    let folded = folding_of block in
    let one_line = rest_one_line folded (no_breaks false (without_comments false 10 (bytes_on_lines 1 block))) in
    subst (GoodItems nothing 44) (sym (items_computed block)) (good_items nothing 44 (after_field folded) one_line)

-- ---- the white space at the front of an item

goes_from : (before : ℕ) (s : List ℕ) → (before ≡ 32) → Goes nothing before s → Goes nothing 44 s
goes_from before [] e g = tt
goes_from before (x ∷ xs) e g = subst (λ (b : ℕ). Goes nothing b (x ∷ xs)) e g

goes_tab : (before : ℕ) (s : List ℕ) → (before ≡ 9) → Goes nothing before s → Goes nothing 44 s
goes_tab before [] e g = tt
goes_tab before (x ∷ xs) e g = subst (λ (b : ℕ). Goes nothing b (x ∷ xs)) e g

ends_from : (before : ℕ) (s : List ℕ) → (before ≡ 32) → Ends nothing before s → Ends nothing 44 s
ends_from before [] e g = g
ends_from before (x ∷ xs) e g = subst (λ (b : ℕ). Ends nothing b (x ∷ xs)) e g

ends_tab : (before : ℕ) (s : List ℕ) → (before ≡ 9) → Ends nothing before s → Ends nothing 44 s
ends_tab before [] e g = g
ends_tab before (x ∷ xs) e g = subst (λ (b : ℕ). Ends nothing b (x ∷ xs)) e g

goes_after_white : (x : ℕ) (s : List ℕ) → is_white_space x ≡ true → Goes (escape_after nothing 44 x) x s → Goes nothing 44 s
goes_after_white x s w g =
    elim (cases_Bool (x == 32)) [
      | inl t ↦ let e = eqb-true x 32 t in goes_from x s e (subst (λ (b : ℕ). Goes (escape_after nothing 44 b) x s) e g)
      | inr f ↦ let e = eqb-true x 9 (rw f at w) in goes_tab x s e (subst (λ (b : ℕ). Goes (escape_after nothing 44 b) x s) e g)
    ]

ends_after_white : (x : ℕ) (s : List ℕ) → is_white_space x ≡ true → Ends (escape_after nothing 44 x) x s → Ends nothing 44 s
ends_after_white x s w g =
    elim (cases_Bool (x == 32)) [
      | inl t ↦ let e = eqb-true x 32 t in ends_from x s e (subst (λ (b : ℕ). Ends (escape_after nothing 44 b) x s) e g)
      | inr f ↦ let e = eqb-true x 9 (rw f at w) in ends_tab x s e (subst (λ (b : ℕ). Ends (escape_after nothing 44 b) x s) e g)
    ]

one_line_left : (i : List PlacedByte) → IsOneLine (bytes i) → IsOneLine (piece_of i).text
one_line_left [] n = tt
one_line_left (x ∷ xs) n = elim (cases_Bool (is_white_space x.0)) [ inl w ↦ rw w (one_line_left xs n.1) | inr v ↦ rw v n ]

goes_left : (i : List PlacedByte) → Goes nothing 44 (bytes i) → Goes nothing 44 (piece_of i).text
goes_left [] g = tt
goes_left (x ∷ xs) g =
    elim (cases_Bool (is_white_space x.0)) [
      | inl w ↦ rw w (goes_left xs (goes_after_white x.0 (bytes xs) w g.1))
      | inr v ↦ rw v g
    ]

ends_left : (i : List PlacedByte) → Ends nothing 44 (bytes i) → Ends nothing 44 (piece_of i).text
ends_left [] g = g
ends_left (x ∷ xs) g =
    elim (cases_Bool (is_white_space x.0)) [
      | inl w ↦ rw w (ends_left xs (ends_after_white x.0 (bytes xs) w g.1))
      | inr v ↦ rw v g
    ]

visible_left : (i : List PlacedByte) → BeginsVisible (piece_of i).text
visible_left [] = tt
visible_left (x ∷ xs) = elim (cases_Bool (is_white_space x.0)) [ inl w ↦ rw w (visible_left xs) | inr v ↦ rw v v ]

-- an empty item has no line
no_line : (i : List PlacedByte) → (piece_of i).text ≡ [] → (piece_of i).line ≡ 0
no_line i = by_front (without_front i)
  where
    by_front : (t : List PlacedByte) → bytes t ≡ [] → line_of t ≡ 0
    by_front [] e = refl
    by_front (x ∷ xs) e = cc

-- ---- the entries

-- what is known of an item and of those after it
pub data FineEntry : List ℕ → ℕ → Bool → List Entry → Type 0 where
  entry_ended : {text : List ℕ} {line : ℕ} {es : List Entry} → IsOneLine text → BeginsVisible text → Ends nothing 44 text → (text ≡ [] → line ≡ 0)
      → FineEntry text line true es
  entry_last : (x : ℕ) {xs : List ℕ} {line : ℕ} → IsOneLine (x ∷ xs) → BeginsVisible (x ∷ xs) → Goes nothing 44 (x ∷ xs)
      → FineEntry (x ∷ xs) line false []

abbrev pub FineEntries : List Entry → Type 0
FineEntries [] = Unit {0}
FineEntries (e ∷ es) = FineEntry e.text e.line e.ended es × FineEntries es

last_fine : (p : ItemPiece) → IsOneLine p.text → BeginsVisible p.text → Goes nothing 44 p.text → FineEntries (entries_of (p ∷ []))
last_fine p one visible goes = by_text p.text p.line one visible goes
  where
    by_text : (text : List ℕ) (line : ℕ) → IsOneLine text → BeginsVisible text → Goes nothing 44 text
        → FineEntries (entries_of (record { text = text; line = line } ∷ []))
    by_text [] line one visible goes = tt
    by_text (x ∷ xs) line one visible goes = (entry_last x one visible goes, tt)

fine_entries : (is : List (List PlacedByte)) → GoodItems nothing 44 is → FineEntries (entries_of (map piece_of is))
fine_entries [] good = absurd good
fine_entries (i ∷ []) good = last_fine (piece_of i) (one_line_left i good.0) (visible_left i) (goes_left i good.1)
fine_entries (i ∷ j ∷ is) good =
    (entry_ended (one_line_left i good.0) (visible_left i) (ends_left i good.1) (no_line i), fine_entries (j ∷ is) good.2)

-- ---- the kept lines

abbrev AllKept : List KeptLine → Type 0
AllKept [] = Unit {0}
AllKept (k ∷ ks) = IsOneLine k.text × (is_kept k.text ≡ true) × AllKept ks

abbrev AllOneLine : List (List ℕ) → Type 0
AllOneLine [] = Unit {0}
AllOneLine (l ∷ ls) = IsOneLine l × AllOneLine ls

one_line_first : (x : ℕ) (ls : List (List ℕ)) → (x == 10) ≡ false → AllOneLine ls → AllOneLine (with_first_byte x ls)
one_line_first x [] n all = ((n, tt), tt)
one_line_first x (l ∷ ls) n all = ((n, all.0), all.1)

lines_one : (s : List ℕ) → AllOneLine (lines_of s)
lines_one [] = tt
lines_one (x ∷ xs) =
    elim (cases_Bool (x == 10)) [
      | inl t ↦ rw t (tt, lines_one xs)
      | inr f ↦ rw f (one_line_first x (lines_of xs) f (lines_one xs))
    ]

all_kept : (n : ℕ) (ls : List (List ℕ)) → AllOneLine ls → AllKept (kept_from n ls)
all_kept n [] all = tt
all_kept n (l ∷ ls) all =
    elim (cases_Bool (is_kept l)) [
      | inl t ↦ rw t (all.0, t, all_kept (n + 1) ls all.1)
      | inr f ↦ rw f (all_kept (n + 1) ls all.1)
    ]

kept_before : (n : ℕ) (ks : List KeptLine) → AllKept ks → AllKept (lines_before n ks)
kept_before n [] all = tt
kept_before n (k ∷ ks) all =
    elim (cases_Bool (nat_lt k.number n)) [
      | inl t ↦ rw t (all.0, all.1, kept_before n ks all.2)
      | inr f ↦ rw f tt
    ]

kept_after : (n : ℕ) (ks : List KeptLine) → AllKept ks → AllKept (lines_from n ks)
kept_after n [] all = tt
kept_after n (k ∷ ks) all =
    elim (cases_Bool (nat_lt k.number n)) [
      | inl t ↦ rw t (kept_after n ks all.2)
      | inr f ↦ rw f all
    ]

-- ---- the pieces

fine_lines : (ks : List KeptLine) (ps : List Piece) → AllKept ks → AreFine ps → AreFine (map kept_piece ks ++ ps)
fine_lines [] ps all fine = fine
fine_lines (k ∷ ks) ps all fine = (all.0, all.1, fine_lines ks ps all.2 fine)

only_lines : (ks : List KeptLine) → HasNoItem (map kept_piece ks)
only_lines [] = tt
only_lines (k ∷ ks) = only_lines ks

fine_left : (ks : List KeptLine) → AllKept ks → AreFine (map kept_piece ks)
fine_left [] all = tt
fine_left (k ∷ ks) all = (all.0, all.1, fine_left ks all.2)

fine_item : (text : List ℕ) (line : ℕ) (ended : Bool) (es : List Entry) (ks : List KeptLine) → FineEntry text line ended es → IsFine text ended (merged es ks)
fine_item text line _ es ks (entry_ended one visible ends zero) = fine_ended one visible ends
fine_item _ line _ _ ks (entry_last x one visible goes) = fine_last x one visible goes (only_lines ks)

fine_merged : (es : List Entry) (ks : List KeptLine) → FineEntries es → AllKept ks → AreFine (merged es ks)
fine_merged [] ks fine all = fine_left ks all
fine_merged (e ∷ es) ks fine all =
    let left = lines_from e.line ks in
    fine_lines (lines_before e.line ks) (item e.text e.ended ∷ merged es left) (kept_before e.line ks all)
    (fine_item e.text e.line e.ended es left fine.0, fine_merged es left fine.1 (kept_after e.line ks all))

ordered_lines : (ks : List KeptLine) (ps : List Piece) → BeginsFull ps → AreOrdered ps → AreOrdered (map kept_piece ks ++ ps)
ordered_lines [] ps full ordered = ordered
ordered_lines (k ∷ ks) ps full ordered = (full_lines ks ps full, ordered_lines ks ps full ordered)
  where
    full_lines : (ks : List KeptLine) (ps : List Piece) → BeginsFull ps → BeginsFull (map kept_piece ks ++ ps)
    full_lines [] ps full = full
    full_lines (k ∷ ks) ps full = full_lines ks ps full

full_left : (ks : List KeptLine) → BeginsFull (map kept_piece ks)
full_left [] = tt
full_left (k ∷ ks) = full_left ks

ordered_left : (ks : List KeptLine) → AreOrdered (map kept_piece ks)
ordered_left [] = tt
ordered_left (k ∷ ks) = (full_left ks, ordered_left ks)

none_before_0 : (line : ℕ) (ks : List KeptLine) → line ≡ 0 → lines_before line ks ≡ []
none_before_0 line [] e = refl
none_before_0 line (k ∷ ks) e = rw (nat_lt-no k.number line (omega arith)) refl

ordered_ended : (text : List ℕ) (line : ℕ) (ks : List KeptLine) (ps : List Piece) → (text ≡ [] → line ≡ 0) → AreOrdered ps
    → AreOrdered (map kept_piece (lines_before line ks) ++ item text true ∷ ps)
ordered_ended [] line ks ps zero ordered = rw (none_before_0 line ks (zero refl)) ordered
ordered_ended (x ∷ xs) line ks ps zero ordered = ordered_lines (lines_before line ks) (item (x ∷ xs) true ∷ ps) (λ e. cc) ordered

ordered_item : (text : List ℕ) (line : ℕ) (ended : Bool) (es : List Entry) (ks : List KeptLine) (ps : List Piece) → FineEntry text line ended es → AreOrdered ps
    → AreOrdered (map kept_piece (lines_before line ks) ++ item text ended ∷ ps)
ordered_item text line _ es ks ps (entry_ended one visible ends zero) ordered = ordered_ended text line ks ps zero ordered
ordered_item _ line _ _ ks ps (entry_last x {xs = xs} one visible goes) ordered =
    ordered_lines (lines_before line ks) (item (x ∷ xs) false ∷ ps) (λ e. cc) ordered

ordered_merged : (es : List Entry) (ks : List KeptLine) → FineEntries es → AreOrdered (merged es ks)
ordered_merged [] ks fine = ordered_left ks
ordered_merged (e ∷ es) ks fine =
    ordered_item e.text e.line e.ended es ks (merged es (lines_from e.line ks)) fine.0 (ordered_merged es (lines_from e.line ks) fine.1)

texts_lines : (ks : List KeptLine) (ps : List Piece) → texts_of (map kept_piece ks ++ ps) ≡ texts_of ps
texts_lines [] ps = refl
texts_lines (k ∷ ks) ps = texts_lines ks ps

texts_left : (ks : List KeptLine) → texts_of (map kept_piece ks) ≡ [] ∷ []
texts_left [] = refl
texts_left (k ∷ ks) = texts_left ks

texts_last : (p : ItemPiece) (ks : List KeptLine) → texts_of (merged (entries_of (p ∷ [])) ks) ≡ p.text ∷ []
texts_last p ks = by_text p.text p.line ks
  where
    by_text : (text : List ℕ) (line : ℕ) (ks : List KeptLine) → texts_of (merged (entries_of (record { text = text; line = line } ∷ [])) ks) ≡ text ∷ []
    by_text [] line ks = texts_left ks
    by_text (x ∷ xs) line ks = texts_lines (lines_before line ks) (item (x ∷ xs) false ∷ merged [] (lines_from line ks))

texts_merged : (p : ItemPiece) (ps : List ItemPiece) (ks : List KeptLine)
    → texts_of (merged (entries_of (p ∷ ps)) ks) ≡ map (λ (q : ItemPiece). q.text) (p ∷ ps)
texts_merged p [] ks = texts_last p ks
texts_merged p (q ∷ ps) ks =
    let left = lines_from p.line ks in
    texts_lines (lines_before p.line ks) (item p.text true ∷ merged (entries_of (q ∷ ps)) left)
    ∙ ap (λ (ts : List (List ℕ)). p.text ∷ ts) (texts_merged q ps left)

-- ---- of a block

pub block_fine : (block : List ℕ) → AreFine (pieces_of block)
block_fine block =
    fine_merged (entries block) (kept_lines block) (fine_entries (block_items block) (block_good block)) (all_kept 1 (lines_of block) (lines_one block))

pub block_ordered : (block : List ℕ) → AreOrdered (pieces_of block)
block_ordered block = ordered_merged (entries block) (kept_lines block) (fine_entries (block_items block) (block_good block))

pub map_texts : (is : List (List PlacedByte)) → map (λ (q : ItemPiece). q.text) (map piece_of is) ≡ map (λ (i : List PlacedByte). (piece_of i).text) is
map_texts [] = refl
map_texts (i ∷ is) = ap (λ (ts : List (List ℕ)). (piece_of i).text ∷ ts) (map_texts is)

texts_of_items : (is : List (List PlacedByte)) (ks : List KeptLine) → GoodItems nothing 44 is
    → texts_of (merged (entries_of (map piece_of is)) ks) ≡ map (λ i. (piece_of i).text) is
texts_of_items [] ks good = absurd good
texts_of_items (i ∷ is) ks good = texts_merged (piece_of i) (map piece_of is) ks ∙ map_texts (i ∷ is)

pub block_texts : (block : List ℕ) → texts_of (pieces_of block) ≡ item_texts block
block_texts block = texts_of_items (block_items block) (kept_lines block) (block_good block)
