-- The kept lines of laid pieces are those of the pieces, and items and kept lines are in the order
-- of the pieces.
use Rattle.std.proofs.Common.{◌≡◌, ◌≢◌, ℕ, ◌+◌, ◌<◌, ◌≤◌, Bool, true, false, List, [], ◌∷◌, ◌++◌, append_assoc, refl, sym, ap}
use Rattle.std.proofs.Common.{◌∙◌, arith}
use Rattle.std.specs.Prelude.{nat_lt}
use Rattle.std.proofs.lemmas.Bool.{le-ltb, lt-ltb}
use Rattle.std.proofs.lemmas.List.{append-nil}
use Rattle.ti_text.specs.WhiteSpace.{is_white_space}
use Rattle.ti_source.proofs.ItemLaws.{BeginsVisible}
use Rattle.source_format.specs.Layout.{item_bytes}
use Rattle.source_format.specs.Pieces.{Entry, KeptLine, Piece, item, kept, is_kept, kept_from, lines_of, merged}
use Rattle.source_format.specs.Pieces.{with_first_byte}
use Rattle.source_format.proofs.Fine.{AreFine, AreOrdered, BeginsFull, IsFine, fine_ended, fine_last}
use Rattle.source_format.proofs.Folded.{IsOneLine, one_line-append}
use Rattle.source_format.proofs.Laying.{Laying, kept_line, line_ends, line_item, next_item, no_piece}
use Rattle.source_format.proofs.Placed.{entry_at, placed}

abbrev pub kept_at : ℕ → List ℕ → KeptLine
kept_at number line = record { number = number; text = line }

abbrev pub numbered : {b : Bool} {ps : List Piece} {s : List ℕ} → Laying b ps s → ℕ → List KeptLine
numbered no_piece line = []
numbered (line_item text ended d) line = numbered d line
numbered (next_item text ended d) line = numbered d line
numbered (kept_line l d) line = kept_at line l ∷ numbered d (line + 1)
numbered (line_ends d) line = numbered d (line + 1)

-- ---- the lines of a text

pub lines_of-line : (l s : List ℕ) → IsOneLine l → lines_of (l ++ 10 ∷ s) ≡ l ∷ lines_of s
lines_of-line [] s one = refl
lines_of-line (x ∷ xs) s one = rw one.0 (ap (with_first_byte x) (lines_of-line xs s one.1))

-- a line is not kept that begins so
pub record IsContent (front : List ℕ) : Type 0 where
  pub one_line : IsOneLine front
  pub not_kept : (more : List ℕ) → is_kept (front ++ more) ≡ false

-- what is kept of a text, where a line is begun or none is
abbrev KeptAs : Bool → ℕ → List ℕ → List KeptLine → Type 0
KeptAs false line s ks = kept_from line (lines_of s) ≡ ks
KeptAs true line s ks = (front : List ℕ) → IsContent front → kept_from line (lines_of (front ++ s)) ≡ ks

content-more : (front more : List ℕ) → IsContent front → IsOneLine more → IsContent (front ++ more)
content-more front more c one = record {
  one_line = one_line-append front more c.one_line one;
  not_kept = λ s. ap is_kept (append_assoc front more s) ∙ c.not_kept (more ++ s);
}

pub item_line : (text : List ℕ) (ended : Bool) (ps : List Piece) → IsFine text ended ps → IsOneLine (item_bytes text ended)
item_line text _ ps (fine_ended one visible ends) = one_line-append text (44 ∷ []) one (refl, tt)
item_line _ _ ps (fine_last x one visible goes only) = one

tab-content : (x : ℕ) (xs : List ℕ) → IsOneLine (x ∷ xs) → is_white_space x ≡ false → IsContent (9 ∷ x ∷ xs)
tab-content x xs one v = record { one_line = (refl, one); not_kept = λ more. rw v refl }

ended_content : (text : List ℕ) → IsOneLine text → BeginsVisible text → IsContent (9 ∷ (text ++ 44 ∷ []))
ended_content [] one visible = tab-content 44 [] (refl, tt) refl
ended_content (x ∷ xs) one visible = tab-content x (xs ++ 44 ∷ []) (one_line-append (x ∷ xs) (44 ∷ []) one (refl, tt)) visible

item_content : (text : List ℕ) (ended : Bool) (ps : List Piece) → IsFine text ended ps → IsContent (9 ∷ item_bytes text ended)
item_content text _ ps (fine_ended one visible ends) = ended_content text one visible
item_content _ _ ps (fine_last x {xs = xs} one visible goes only) = tab-content x xs one visible

line_over : (line : ℕ) (front s : List ℕ) → IsContent front → kept_from line (lines_of (front ++ 10 ∷ s)) ≡ kept_from (line + 1) (lines_of s)
line_over line front s c =
    let plain : is_kept front ≡ false = ap is_kept (sym (append-nil front)) ∙ c.not_kept [] in
    ap (kept_from line) (lines_of-line front s c.one_line) ∙ (rw plain refl)

pub lines_kept : {b : Bool} {ps : List Piece} {s : List ℕ} (d : Laying b ps s) → AreFine ps → (line : ℕ) → KeptAs b line s (numbered d line)
lines_kept no_piece fine line = refl
lines_kept (line_item text ended {ps = ps} d) fine line = lines_kept d fine.1 line (9 ∷ item_bytes text ended) (item_content text ended ps fine.0)
lines_kept (next_item text ended {ps = ps} {s = s} d) fine line = λ front c.
    ap (λ (t : List ℕ). kept_from line (lines_of t)) (sym (append_assoc front (32 ∷ item_bytes text ended) s))
    ∙ lines_kept d fine.1 line (front ++ 32 ∷ item_bytes text ended) (content-more front (32 ∷ item_bytes text ended) c (refl, item_line text ended ps fine.0))
lines_kept (kept_line l {s = s} d) fine line =
    ap (kept_from line) (lines_of-line l s fine.0) ∙ (rw fine.1 (ap (λ (ks : List KeptLine). kept_at line l ∷ ks) (lines_kept d fine.2 (line + 1))))
lines_kept (line_ends {s = s} d) fine line = λ front c. line_over line front s c ∙ lines_kept d fine (line + 1)

-- ---- the order

abbrev EntryFrom : ℕ → List Entry → Type 0
EntryFrom line [] = Unit {0}
EntryFrom line (e ∷ es) = line ≤ e.line

abbrev LineFrom : ℕ → List KeptLine → Type 0
LineFrom line [] = Unit {0}
LineFrom line (k ∷ ks) = line ≤ k.number

entry_from-more : (line : ℕ) (es : List Entry) → EntryFrom (line + 1) es → EntryFrom line es
entry_from-more line [] h = tt
entry_from-more line (e ∷ es) h = omega arith

line_from-more : (line : ℕ) (ks : List KeptLine) → LineFrom (line + 1) ks → LineFrom line ks
line_from-more line [] h = tt
line_from-more line (k ∷ ks) h = omega arith

full_line : (line : ℕ) (text : List ℕ) (ended : Bool) → text ≢ [] → line ≤ (entry_at line text ended).line
full_line line [] ended full = absurd (full refl)
full_line line (x ∷ xs) ended full = omega arith

entries_from : {b : Bool} {ps : List Piece} {s : List ℕ} (d : Laying b ps s) → BeginsFull ps → (line : ℕ) → EntryFrom line (placed d line)
entries_from no_piece full line = tt
entries_from (line_item text ended d) full line = full_line line text ended full
entries_from (next_item text ended d) full line = full_line line text ended full
entries_from (kept_line l d) full line = entry_from-more line (placed d (line + 1)) (entries_from d full (line + 1))
entries_from (line_ends d) full line = entry_from-more line (placed d (line + 1)) (entries_from d full (line + 1))

lines_from_here : {b : Bool} {ps : List Piece} {s : List ℕ} (d : Laying b ps s) (line : ℕ) → LineFrom line (numbered d line)
lines_from_here no_piece line = tt
lines_from_here (line_item text ended d) line = lines_from_here d line
lines_from_here (next_item text ended d) line = lines_from_here d line
lines_from_here (kept_line l d) line = omega arith
lines_from_here (line_ends d) line = line_from-more line (numbered d (line + 1)) (lines_from_here d (line + 1))

pub nat_lt-no : (a b : ℕ) → b ≤ a → nat_lt a b ≡ false
nat_lt-no a b h = le-ltb a b h

pub nat_lt-yes : (a b : ℕ) → a < b → nat_lt a b ≡ true
nat_lt-yes a b h = lt-ltb a b h

-- an item comes before kept lines from its line on
merged_item : (e : Entry) (es : List Entry) (ks : List KeptLine) (line : ℕ) → e.line ≤ line → LineFrom line ks
    → merged (e ∷ es) ks ≡ item e.text e.ended ∷ merged es ks
merged_item e es [] line low from = refl
merged_item e es (k ∷ ks) line low from = rw (nat_lt-no k.number e.line (omega arith)) refl

-- a kept line comes before items of later lines
merged_kept : (es : List Entry) (l : List ℕ) (ks : List KeptLine) (line : ℕ) → EntryFrom (line + 1) es
    → merged es (kept_at line l ∷ ks) ≡ kept l ∷ merged es ks
merged_kept [] l ks line from = refl
merged_kept (e ∷ es) l ks line from = rw (nat_lt-yes line e.line (omega arith)) refl

entry_line : (line : ℕ) (text : List ℕ) (ended : Bool) → (entry_at line text ended).line ≤ line
entry_line line [] ended = omega arith
entry_line line (x ∷ xs) ended = omega arith

item_merged : {b : Bool} {ps : List Piece} {s : List ℕ} (d : Laying b ps s) (line : ℕ) (text : List ℕ) (ended : Bool)
    → merged (placed d line) (numbered d line) ≡ ps
    → merged (entry_at line text ended ∷ placed d line) (numbered d line) ≡ item text ended ∷ ps
item_merged d line text ended later =
    merged_item (entry_at line text ended) (placed d line) (numbered d line) line (entry_line line text ended) (lines_from_here d line)
    ∙ ap (λ (qs : List Piece). item text ended ∷ qs) later

pub all_merged : {b : Bool} {ps : List Piece} {s : List ℕ} (d : Laying b ps s) → AreOrdered ps → (line : ℕ) → merged (placed d line) (numbered d line) ≡ ps
all_merged no_piece ordered line = refl
all_merged (line_item text ended d) ordered line = item_merged d line text ended (all_merged d ordered line)
all_merged (next_item text ended d) ordered line = item_merged d line text ended (all_merged d ordered line)
all_merged (kept_line l d) ordered line =
    merged_kept (placed d (line + 1)) l (numbered d (line + 1)) line (entries_from d ordered.0 (line + 1))
    ∙ ap (λ (qs : List Piece). kept l ∷ qs) (all_merged d ordered.1 (line + 1))
all_merged (line_ends d) ordered line = all_merged d ordered (line + 1)
