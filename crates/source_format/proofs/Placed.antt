-- The items that are read of laid pieces are those of the pieces.
use Rattle.std.proofs.Common.{◌≡◌, ℕ, ◌+◌, Bool, true, false, List, [], ◌∷◌, ◌++◌, map, append_assoc, refl, sym, ap, ◌∙◌}
use Rattle.std.proofs.lemmas.List.{append-nil}
use Rattle.ti_source.specs.Folding.{PlacedByte}
use Rattle.ti_source.specs.Items.{ItemPiece, item_piece, piece_of}
use Rattle.ti_source.specs.inside.Items.{on_line}
use Rattle.ti_source.proofs.ItemLaws.{BeginsVisible}
use Rattle.source_spans.specs.Parts.{with_first}
use Rattle.source_spans.proofs.Escaping.{items_of, nothing}
use Rattle.source_format.specs.Layout.{item_bytes}
use Rattle.source_format.specs.Pieces.{Entry, Piece, item, entries_of}
use Rattle.source_format.proofs.Cut.{ends_after_space, goes_after_space, item_and_rest, one_item, piece_after_space, piece_on_line, placed_piece}
use Rattle.source_format.proofs.Fine.{AreFine, HasNoItem, IsFine, fine_ended, fine_last, texts_of}
use Rattle.source_format.proofs.Folded.{IsOneLine, fresh, fresh-item, fresh-kept, inline, inline-byte, inline-run}
use Rattle.source_format.proofs.Laying.{Laying, kept_line, line_ends, line_item, next_item, no_piece}

-- what is read of a text that begins on a line, where a line is begun or none is
abbrev pub reads : Bool → ℕ → List ℕ → List PlacedByte
reads true line s = inline line s
reads false line s = fresh line s

abbrev pub items_at : Bool → ℕ → List ℕ → List ItemPiece
items_at begun line s = map piece_of (items_of nothing 44 (reads begun line s))

-- ---- the items of laid pieces, each with its line

abbrev pub and_more : Bool → ItemPiece → List ItemPiece → List ItemPiece
and_more true p ps = p ∷ ps
and_more false p ps = p ∷ []

abbrev pub all_placed : {b : Bool} {ps : List Piece} {s : List ℕ} → Laying b ps s → ℕ → List ItemPiece
all_placed no_piece line = item_piece [] 0 ∷ []
all_placed (line_item text ended d) line = and_more ended (placed_piece line text) (all_placed d line)
all_placed (next_item text ended d) line = and_more ended (placed_piece line text) (all_placed d line)
all_placed (kept_line l d) line = all_placed d (line + 1)
all_placed (line_ends d) line = all_placed d (line + 1)

abbrev pub entry_with : List ℕ → ℕ → Bool → Entry
entry_with text line ended = record { text = text; line = line; ended = ended }

abbrev pub entry_at : ℕ → List ℕ → Bool → Entry
entry_at line text ended = entry_with text (placed_piece line text).line ended

abbrev pub placed : {b : Bool} {ps : List Piece} {s : List ℕ} → Laying b ps s → ℕ → List Entry
placed no_piece line = []
placed (line_item text ended d) line = entry_at line text ended ∷ placed d line
placed (next_item text ended d) line = entry_at line text ended ∷ placed d line
placed (kept_line l d) line = placed d (line + 1)
placed (line_ends d) line = placed d (line + 1)

-- ---- they are read

-- kept lines alone
nothing_read : {b : Bool} {ps : List Piece} {s : List ℕ} → Laying b ps s → AreFine ps → HasNoItem ps → (line : ℕ) → reads b line s ≡ []
nothing_read no_piece fine none line = refl
nothing_read (line_item text ended d) fine none line = absurd none
nothing_read (next_item text ended d) fine none line = absurd none
nothing_read (kept_line l {s = s} d) fine none line = fresh-kept line l s fine.0 fine.1 ∙ nothing_read d fine.2 none (line + 1)
nothing_read (line_ends d) fine none line = nothing_read d fine none (line + 1)

nothing_placed : {b : Bool} {ps : List Piece} {s : List ℕ} (d : Laying b ps s) → HasNoItem ps → (line : ℕ) → placed d line ≡ []
nothing_placed no_piece none line = refl
nothing_placed (line_item text ended d) none line = absurd none
nothing_placed (next_item text ended d) none line = absurd none
nothing_placed (kept_line l d) none line = nothing_placed d none (line + 1)
nothing_placed (line_ends d) none line = nothing_placed d none (line + 1)

-- the tab of a line is passed over
ended_after_tab : (line : ℕ) (text s : List ℕ) → IsOneLine text → BeginsVisible text
    → fresh line (9 ∷ (text ++ 44 ∷ [] ++ s)) ≡ inline line (text ++ 44 ∷ [] ++ s)
ended_after_tab line [] s one visible = fresh-item line 44 s refl refl
ended_after_tab line (x ∷ xs) s one visible = fresh-item line x (xs ++ 44 ∷ [] ++ s) one.0 visible

after_tab : (line : ℕ) (text s : List ℕ) (ended : Bool) (ps : List Piece) → IsFine text ended ps
    → fresh line (9 ∷ (item_bytes text ended ++ s)) ≡ inline line (item_bytes text ended ++ s)
after_tab line text s _ _ (fine_ended one visible ends) = ended_after_tab line text s one visible
after_tab line _ s _ _ (fine_last x {xs = xs} one visible goes none) = fresh-item line x (xs ++ s) one.0 visible

-- an item on a line that is begun, and the comma after it
ended_on_line : (line : ℕ) (text s : List ℕ) → IsOneLine text → inline line (text ++ 44 ∷ [] ++ s) ≡ on_line line text ++ (44, line) ∷ inline line s
ended_on_line line text s one =
    ap (inline line) (append_assoc text (44 ∷ []) s) ∙ inline-run line text (44 ∷ s) one
    ∙ ap (λ (t : List PlacedByte). on_line line text ++ t) (inline-byte line 44 s refl)

last_on_line : (line : ℕ) (text s : List ℕ) → IsOneLine text → inline line s ≡ [] → inline line (text ++ s) ≡ on_line line text
last_on_line line text s one none =
    inline-run line text s one ∙ ap (λ (t : List PlacedByte). on_line line text ++ t) none ∙ append-nil (on_line line text)

-- the first item of a line
first_read : {ps : List Piece} (s : List ℕ) (line : ℕ) (text : List ℕ) (ended : Bool) (rest : List ItemPiece) → IsFine text ended ps
    → (HasNoItem ps → inline line s ≡ [])
    → items_at true line s ≡ rest
    → map piece_of (items_of nothing 44 (inline line (item_bytes text ended ++ s))) ≡ and_more ended (placed_piece line text) rest
first_read s line text _ rest (fine_ended one visible ends) none later =
    ap (λ (t : List PlacedByte). map piece_of (items_of nothing 44 t)) (ended_on_line line text s one)
    ∙ ap (map piece_of) (item_and_rest nothing 44 line text (inline line s) ends)
    ∙ ap (λ (p : ItemPiece). p ∷ items_at true line s) (piece_on_line line text visible)
    ∙ ap (λ (ps : List ItemPiece). placed_piece line text ∷ ps) later
first_read s line _ _ rest (fine_last x {xs = xs} one visible goes only) none later =
    ap (λ (t : List PlacedByte). map piece_of (items_of nothing 44 t)) (last_on_line line (x ∷ xs) s one (none only))
    ∙ ap (map piece_of) (one_item nothing 44 line (x ∷ xs) goes)
    ∙ ap (λ (p : ItemPiece). p ∷ []) (piece_on_line line (x ∷ xs) visible)

-- an item after a space
next_read : {ps : List Piece} (s : List ℕ) (line : ℕ) (text : List ℕ) (ended : Bool) (rest : List ItemPiece) → IsFine text ended ps
    → (HasNoItem ps → inline line s ≡ [])
    → items_at true line s ≡ rest
    → map piece_of (items_of nothing 44 (inline line (32 ∷ (item_bytes text ended ++ s)))) ≡ and_more ended (placed_piece line text) rest
next_read s line text _ rest (fine_ended one visible ends) none later =
    ap (λ (t : List PlacedByte). map piece_of (items_of nothing 44 t))
    (inline-byte line 32 (text ++ 44 ∷ [] ++ s) refl ∙ ap (λ (t : List PlacedByte). (32, line) ∷ t) (ended_on_line line text s one))
    ∙ ap (λ (all : List (List PlacedByte)). map piece_of (with_first (32, line) all))
    (item_and_rest nothing 32 line text (inline line s) (ends_after_space text ends))
    ∙ ap (λ (p : ItemPiece). p ∷ items_at true line s) (piece_after_space line text visible)
    ∙ ap (λ (ps : List ItemPiece). placed_piece line text ∷ ps) later
next_read s line _ _ rest (fine_last x {xs = xs} one visible goes only) none later =
    ap (λ (t : List PlacedByte). map piece_of (items_of nothing 44 t))
    (inline-byte line 32 (x ∷ xs ++ s) refl ∙ ap (λ (t : List PlacedByte). (32, line) ∷ t) (last_on_line line (x ∷ xs) s one (none only)))
    ∙ ap (λ (all : List (List PlacedByte)). map piece_of (with_first (32, line) all)) (one_item nothing 32 line (x ∷ xs) (goes_after_space (x ∷ xs) goes))
    ∙ ap (λ (p : ItemPiece). p ∷ []) (piece_after_space line (x ∷ xs) visible)

pub items_read : {b : Bool} {ps : List Piece} {s : List ℕ} (d : Laying b ps s) → AreFine ps → (line : ℕ) → items_at b line s ≡ all_placed d line
items_read no_piece fine line = refl
items_read (line_item text ended {ps = ps} {s = s} d) fine line =
    ap (λ (t : List PlacedByte). map piece_of (items_of nothing 44 t)) (after_tab line text s ended ps fine.0)
    ∙ first_read s line text ended (all_placed d line) fine.0 (λ only. nothing_read d fine.1 only line) (items_read d fine.1 line)
items_read (next_item text ended {s = s} d) fine line =
    next_read s line text ended (all_placed d line) fine.0 (λ only. nothing_read d fine.1 only line) (items_read d fine.1 line)
items_read (kept_line l {s = s} d) fine line =
    ap (λ (t : List PlacedByte). map piece_of (items_of nothing 44 t)) (fresh-kept line l s fine.0 fine.1) ∙ items_read d fine.2 (line + 1)
items_read (line_ends d) fine line = items_read d fine (line + 1)

-- ---- their texts, and their entries

piece_text : (line : ℕ) (text : List ℕ) → (placed_piece line text).text ≡ text
piece_text line [] = refl
piece_text line (x ∷ xs) = refl

abbrev text_of : ItemPiece → List ℕ
text_of p = p.text

texts_more : (ps : List Piece) (line : ℕ) (t : List ℕ) (ended : Bool) (rest : List ItemPiece) → map text_of rest ≡ texts_of ps
    → map text_of (and_more ended (placed_piece line t) rest) ≡ texts_of (item t ended ∷ ps)
texts_more ps line t true rest later = ap (λ (u : List ℕ). u ∷ map text_of rest) (piece_text line t) ∙ ap (λ (us : List (List ℕ)). t ∷ us) later
texts_more ps line t false rest later = ap (λ (u : List ℕ). u ∷ []) (piece_text line t)

pub texts_placed : {b : Bool} {ps : List Piece} {s : List ℕ} (d : Laying b ps s) (line : ℕ) → map (λ (p : ItemPiece). p.text) (all_placed d line) ≡ texts_of ps
texts_placed no_piece line = refl
texts_placed (line_item t ended {ps = ps} d) line = texts_more ps line t ended (all_placed d line) (texts_placed d line)
texts_placed (next_item t ended {ps = ps} d) line = texts_more ps line t ended (all_placed d line) (texts_placed d line)
texts_placed (kept_line l d) line = texts_placed d (line + 1)
texts_placed (line_ends d) line = texts_placed d (line + 1)

abbrev IsSome : List ItemPiece → Type 0
IsSome ps = (q : ItemPiece) × (qs : List ItemPiece) × (ps ≡ q ∷ qs)

and_more-some : (ended : Bool) (p : ItemPiece) (ps : List ItemPiece) → IsSome (and_more ended p ps)
and_more-some true p ps = (p, ps, refl)
and_more-some false p ps = (p, [], refl)

some_placed : {b : Bool} {ps : List Piece} {s : List ℕ} (d : Laying b ps s) (line : ℕ) → IsSome (all_placed d line)
some_placed no_piece line = (item_piece [] 0, [], refl)
some_placed (line_item t ended d) line = and_more-some ended (placed_piece line t) (all_placed d line)
some_placed (next_item t ended d) line = and_more-some ended (placed_piece line t) (all_placed d line)
some_placed (kept_line l d) line = some_placed d (line + 1)
some_placed (line_ends d) line = some_placed d (line + 1)

abbrev ended_first : ItemPiece → List ItemPiece → List Entry
ended_first p ps = entry_with p.text p.line true ∷ entries_of ps

entries_more : (p : ItemPiece) (ps : List ItemPiece) → IsSome ps → entries_of (p ∷ ps) ≡ ended_first p ps
entries_more p ps some = rw some.2 refl

entry_more : {ps : List Piece} (line : ℕ) (t : List ℕ) (ended : Bool) (rest : List ItemPiece) (later : List Entry) → IsFine t ended ps → IsSome rest
    → entries_of rest ≡ later → (HasNoItem ps → later ≡ []) → entries_of (and_more ended (placed_piece line t) rest) ≡ entry_at line t ended ∷ later
entry_more line t _ rest later (fine_ended one visible ends) some e none =
    entries_more (placed_piece line t) rest some
    ∙ ap (λ (u : List ℕ). entry_with u (placed_piece line t).line true ∷ entries_of rest) (piece_text line t)
    ∙ ap (λ (es : List Entry). entry_at line t true ∷ es) e
entry_more line _ _ rest later (fine_last x {xs = xs} one visible goes only) some e none =
    ap (λ (es : List Entry). entry_at line (x ∷ xs) false ∷ es) (sym (none only))

pub entries_placed : {b : Bool} {ps : List Piece} {s : List ℕ} (d : Laying b ps s) → AreFine ps → (line : ℕ) → entries_of (all_placed d line) ≡ placed d line
entries_placed no_piece fine line = refl
entries_placed (line_item t ended d) fine line =
    entry_more line t ended (all_placed d line) (placed d line) fine.0 (some_placed d line) (entries_placed d fine.1 line) (λ only. nothing_placed d only line)
entries_placed (next_item t ended d) fine line =
    entry_more line t ended (all_placed d line) (placed d line) fine.0 (some_placed d line) (entries_placed d fine.1 line) (λ only. nothing_placed d only line)
entries_placed (kept_line l d) fine line = entries_placed d fine.2 (line + 1)
entries_placed (line_ends d) fine line = entries_placed d fine (line + 1)
