-- The names field of a block, and what is read of a block as it is written.
use Rattle.std.proofs.Common.{◌≡◌, ℕ, ◌==◌, Bool, true, false, List, [], ◌∷◌, ◌++◌, map, append_assoc, refl, sym, ap}
use Rattle.std.proofs.Common.{subst, ◌∙◌, inl, inr}
use Rattle.std.specs.List.{list_all}
use Rattle.std.proofs.lemmas.Bool.{cases_Bool, and_parts}
use Rattle.ti_text.specs.Texts.{last_byte}
use Rattle.ti_text.specs.WhiteSpace.{is_white_space}
use Rattle.ti_text.proofs.Texts.{last_byte-append}
use Rattle.ti_source.specs.Cutting.{HasNoHead, HasOneHead}
use Rattle.ti_source.specs.Heads.{begins_head, is_head}
use Rattle.ti_source.specs.Folding.{HasNoNewline, PlacedByte}
use Rattle.ti_source.specs.Items.{ItemPiece, bytes, piece_of}
use Rattle.ti_source.specs.Walking.{block_items}
use Rattle.ti_source.specs.inside.Folding.{bytes_on_lines, folding_of, without_comments}
use Rattle.ti_source.specs.inside.Items.{after_field, field_of, on_line}
use Rattle.ti_source.specs.Parsing.{reading_of_text}
use Rattle.ti_source.specs.inside.Parsing.{block_field}
use Rattle.source_spans.proofs.Escaping.{items_of, nothing}
use Rattle.source_format.specs.Layout.{block_text, item_bytes, laid, line_start}
use Rattle.source_format.specs.Laws.{item_texts}
use Rattle.source_format.specs.Pieces.{Entry, Piece, entries_of, is_kept, kept_from, kept_lines, lines_of, merged, pieces_of}
use Rattle.source_format.proofs.Cut.{bytes-on_line, items_computed}
use Rattle.source_format.proofs.Entering.{block_fine, block_ordered, block_texts, map_texts, no_breaks}
use Rattle.source_format.proofs.Fine.{AreFine}
use Rattle.source_format.proofs.Folded.{IsOneLine, folded, fresh, inline, inline-byte, inline-run, one_line-append}
use Rattle.source_format.proofs.Laying.{Laying, kept_line, laid_lays, line_ends, line_item, next_item, no_piece}
use Rattle.source_format.proofs.Numbered.{all_merged, item_line, lines_kept, lines_of-line, numbered}
use Rattle.source_format.proofs.Placed.{all_placed, entries_placed, items_read, placed, texts_placed}

-- ---- the first byte of a block

pub record Heads (x : ℕ) : Type 0 where
  pub white : is_white_space x ≡ false
  pub newline : (x == 10) ≡ false
  pub sign : (x == 35) ≡ false

heads_so : (x : ℕ) → begins_head x ≡ true → Heads x
heads_so x t =
    elim (cases_Bool (is_white_space x)) [
      | inl w ↦ let none : false ≡ true = rw w at t in cc
      | inr v ↦ elim (cases_Bool (x == 35)) [
        | inl s ↦ let none : false ≡ true = rw (v, s) at t in cc
        | inr f ↦ elim (cases_Bool (x == 10)) [
          | inl n ↦ let none : false ≡ true = rw (v, f, n) at t in cc
          | inr g ↦ record { white = v; newline = g; sign = f }
        ]
      ]
    ]

-- a text that begins as a head line does is read as on a line
head_read : (line x : ℕ) (s : List ℕ) → Heads x → folded false 10 line (x ∷ s) ≡ inline line (x ∷ s)
head_read line x s h = rw (h.sign, h.newline) refl

-- ---- the names field

-- no byte is a comma
abbrev pub HasNoComma : List ℕ → Type 0
HasNoComma [] = Unit {0}
HasNoComma (x ∷ xs) = ((x == 44) ≡ false) × HasNoComma xs

-- what is known of a names field: with a comma after it, it begins as a head line does
pub record Field (field : List ℕ) : Type 0 where
  pub one_line : IsOneLine field
  pub no_comma : HasNoComma field
  pub begins : (x : ℕ) (xs : List ℕ) → field ≡ x ∷ xs → Heads x

field_line : (s : List PlacedByte) → HasNoNewline s → IsOneLine (bytes (field_of s))
field_line [] n = tt
field_line (x ∷ xs) n = elim (cases_Bool (x.0 == 44)) [ inl t ↦ rw t tt | inr f ↦ rw f (n.0, field_line xs n.1) ]

field_commas : (s : List PlacedByte) → HasNoComma (bytes (field_of s))
field_commas [] = tt
field_commas (x ∷ xs) = elim (cases_Bool (x.0 == 44)) [ inl t ↦ rw t tt | inr f ↦ rw f (f, field_commas xs) ]

field_begins : (x : PlacedByte) (s : List PlacedByte) → Heads x.0 → (y : ℕ) (ys : List ℕ) → bytes (field_of (x ∷ s)) ≡ y ∷ ys → Heads y
field_begins x s h y ys =
    elim (cases_Bool (x.0 == 44)) [
      | inl t ↦ rw t (λ e. cc)
      | inr f ↦ rw f (λ e. let same : x.0 ≡ y = cc in subst Heads same h)
    ]

pub block_head : (block : List ℕ) → HasOneHead block → Field (block_field block)
block_head [] h = absurd h
block_head (x ∷ xs) h =
    let head = heads_so x h.0 in
    let whole = folding_of (x ∷ xs) in
    let read : whole ≡ (x, 1) ∷ inline 1 xs = head_read 1 x xs head ∙ inline-byte 1 x xs head.newline in
    record {
      one_line = field_line whole (no_breaks false (without_comments false 10 (bytes_on_lines 1 (x ∷ xs))));
      no_comma = field_commas whole;
      begins = λ y ys e. field_begins (x, 1) (inline 1 xs) head y ys (sym (ap (λ (t : List PlacedByte). bytes (field_of t)) read) ∙ e);
    }

-- ---- a names field, a comma and lines

comma_heads : Heads 44
comma_heads = record { white = refl; newline = refl; sign = refl }

headed : (field s : List ℕ) → Field field → folded false 10 1 (field ++ 44 ∷ 10 ∷ s) ≡ inline 1 (field ++ 44 ∷ 10 ∷ s)
headed [] s f = head_read 1 44 (10 ∷ s) comma_heads
headed (x ∷ xs) s f = head_read 1 x (xs ++ 44 ∷ 10 ∷ s) (f.begins x xs refl)

head_folded : (field s : List ℕ) → Field field → folding_of (field ++ 44 ∷ 10 ∷ s) ≡ on_line 1 field ++ (44, 1) ∷ fresh 2 s
head_folded field s f =
    headed field s f ∙ inline-run 1 field (44 ∷ 10 ∷ s) f.one_line ∙ ap (λ (t : List PlacedByte). on_line 1 field ++ t) (inline-byte 1 44 (10 ∷ s) refl)

field_is : (line : ℕ) (field : List ℕ) (rest : List PlacedByte) → HasNoComma field → field_of (on_line line field ++ (44, line) ∷ rest) ≡ on_line line field
field_is line [] rest n = refl
field_is line (x ∷ xs) rest n = rw n.0 (ap (λ (t : List PlacedByte). (x, line) ∷ t) (field_is line xs rest n.1))

rest_is : (line : ℕ) (field : List ℕ) (rest : List PlacedByte) → HasNoComma field → after_field (on_line line field ++ (44, line) ∷ rest) ≡ rest
rest_is line [] rest n = refl
rest_is line (x ∷ xs) rest n = rw n.0 (rest_is line xs rest n.1)

pub same_field : (field s : List ℕ) → Field field → block_field (field ++ 44 ∷ 10 ∷ s) ≡ field
same_field field s f =
    ap (λ (t : List PlacedByte). bytes (field_of t)) (head_folded field s f) ∙ ap bytes (field_is 1 field (fresh 2 s) f.no_comma) ∙ bytes-on_line 1 field

pub rest_read : (field s : List ℕ) → Field field → block_items (field ++ 44 ∷ 10 ∷ s) ≡ items_of nothing 44 (fresh 2 s)
rest_read field s f =
    items_computed (field ++ 44 ∷ 10 ∷ s)
    ∙ ap (λ (t : List PlacedByte). items_of nothing 44 (after_field t)) (head_folded field s f)
    ∙ ap (items_of nothing 44) (rest_is 1 field (fresh 2 s) f.no_comma)

not_kept : (field : List ℕ) → Field field → is_kept (field ++ 44 ∷ []) ≡ false
not_kept [] f = refl
not_kept (x ∷ xs) f = let h = f.begins x xs refl in rw (h.sign, h.white) refl

pub lines_left : (field s : List ℕ) → Field field → kept_lines (field ++ 44 ∷ 10 ∷ s) ≡ kept_from 2 (lines_of s)
lines_left field s f =
    let line = field ++ 44 ∷ [] in
    let plain = not_kept field f in
    ap (λ (t : List ℕ). kept_from 1 (lines_of t)) (sym (append_assoc field (44 ∷ []) (10 ∷ s)))
    ∙ ap (kept_from 1) (lines_of-line line s (one_line-append field (44 ∷ []) f.one_line (refl, tt)))
    ∙ (rw plain refl)

-- ---- a block as it is written, read again

-- the names field of a block, as it is read
pub field_read : (block : List ℕ) → (reading_of_text block).field ≡ block_field block
unfolding reading_of_text
field_read block = refl

pub known_field : (block : List ℕ) → HasOneHead block → Field (reading_of_text block).field
known_field block head = subst Field (sym (field_read block)) (block_head block head)

module _ (width : ℕ) (block : List ℕ) (head : HasOneHead block) where
  lays : Laying false (pieces_of block) (laid width line_start (pieces_of block))
  lays = laid_lays width line_start (pieces_of block)

  pub field_again : block_field (block_text width block) ≡ block_field block
  field_again = same_field (reading_of_text block).field (laid width line_start (pieces_of block)) (known_field block head) ∙ field_read block

  items_again : map piece_of (block_items (block_text width block)) ≡ all_placed lays 2
  items_again =
      ap (map piece_of) (rest_read (reading_of_text block).field (laid width line_start (pieces_of block)) (known_field block head))
      ∙ items_read lays (block_fine block) 2

  pub texts_again : item_texts (block_text width block) ≡ item_texts block
  texts_again =
      sym (map_texts (block_items (block_text width block))) ∙ ap (map (λ (q : ItemPiece). q.text)) items_again ∙ texts_placed lays 2 ∙ block_texts block

  lines_again : kept_lines (block_text width block) ≡ numbered lays 2
  lines_again =
      lines_left (reading_of_text block).field (laid width line_start (pieces_of block)) (known_field block head) ∙ lines_kept lays (block_fine block) 2

  pub pieces_again : pieces_of (block_text width block) ≡ pieces_of block
  pieces_again =
      ap (λ (es : List Entry). merged es (kept_lines (block_text width block))) (ap entries_of items_again ∙ entries_placed lays (block_fine block) 2)
      ∙ ap (merged (placed lays 2)) lines_again ∙ all_merged lays (block_ordered block) 2

  pub block_again : block_text width (block_text width block) ≡ block_text width block
  block_again =
      ap (λ (field : List ℕ). field ++ 44 ∷ 10 ∷ laid width line_start (pieces_of (block_text width block)))
      (field_read (block_text width block) ∙ field_again ∙ sym (field_read block))
      ∙ ap (λ (qs : List Piece). (reading_of_text block).field ++ 44 ∷ 10 ∷ laid width line_start qs) pieces_again

-- ---- it is one block

-- no head line begins in a text, where a line is begun or none is
abbrev NoHeadIn : Bool → List ℕ → Type 0
NoHeadIn false s = HasNoHead 10 s
NoHeadIn true s = (before : ℕ) → (before == 10) ≡ false → HasNoHead before s

no_head_byte : (before x : ℕ) → (before == 10) ≡ false → is_head before x ≡ false
no_head_byte before x n = rw n refl

no_head_run : (before : ℕ) (u s : List ℕ) → (before == 10) ≡ false → IsOneLine u → NoHeadIn true s → HasNoHead before (u ++ s)
no_head_run before [] s n one rest = rest before n
no_head_run before (x ∷ u) s n one rest = (no_head_byte before x n, no_head_run x u s one.0 one.1 rest)

newline_next : (s : List ℕ) → HasNoHead 10 s → NoHeadIn true (10 ∷ s)
newline_next s none before n = (no_head_byte before 10 n, none)

kept_no_head : (x : ℕ) (xs : List ℕ) → is_kept (x ∷ xs) ≡ true → is_head 10 x ≡ false
kept_no_head x xs k =
    elim (cases_Bool (x == 35)) [
      | inl t ↦ elim (cases_Bool (is_white_space x)) [ inl w ↦ rw w refl | inr v ↦ rw (v, t) refl ]
      | inr f ↦ let both = and_parts (is_white_space x) (list_all is_white_space xs) (rw f at k) in rw both.0 refl
    ]

kept_over : (l s : List ℕ) → IsOneLine l → is_kept l ≡ true → HasNoHead 10 s → HasNoHead 10 (l ++ 10 ∷ s)
kept_over [] s one k none = (refl, none)
kept_over (x ∷ xs) s one k none = (kept_no_head x xs k, no_head_run x xs (10 ∷ s) one.0 one.1 (newline_next s none))

no_head : {b : Bool} {qs : List Piece} {s : List ℕ} → Laying b qs s → AreFine qs → NoHeadIn b s
no_head no_piece fine = tt
no_head (line_item t ended {ps = qs} {s = s} d) fine = (refl, no_head_run 9 (item_bytes t ended) s refl (item_line t ended qs fine.0) (no_head d fine.1))
no_head (next_item t ended {ps = qs} {s = s} d) fine = λ before n.
    (no_head_byte before 32 n, no_head_run 32 (item_bytes t ended) s refl (item_line t ended qs fine.0) (no_head d fine.1))
no_head (kept_line l {s = s} d) fine = kept_over l s fine.0 fine.1 (no_head d fine.2)
no_head (line_ends {s = s} d) fine = newline_next s (no_head d fine)

abbrev EndsLine : Bool → List ℕ → Type 0
EndsLine false s = last_byte 10 s ≡ 10
EndsLine true s = (before : ℕ) → last_byte before s ≡ 10

ends_line : {b : Bool} {qs : List Piece} {s : List ℕ} → Laying b qs s → EndsLine b s
ends_line no_piece = refl
ends_line (line_item t ended {s = s} d) = last_byte-append 9 (item_bytes t ended) s ∙ ends_line d (last_byte 9 (item_bytes t ended))
ends_line (next_item t ended {s = s} d) = λ before. last_byte-append 32 (item_bytes t ended) s ∙ ends_line d (last_byte 32 (item_bytes t ended))
ends_line (kept_line l {s = s} d) = last_byte-append 10 l (10 ∷ s) ∙ ends_line d
ends_line (line_ends d) = λ before. ends_line d

head_from : (x : ℕ) → Heads x → begins_head x ≡ true
head_from x h = rw (h.white, h.sign, h.newline) refl

one_head : (field s : List ℕ) → Field field → HasNoHead 10 s → HasOneHead (field ++ 44 ∷ 10 ∷ s)
one_head [] s f none = (refl, newline_next s none 44 refl)
one_head (x ∷ xs) s f none =
    let h = f.begins x xs refl in
    (head_from x h, no_head_run x xs (44 ∷ 10 ∷ s) h.newline f.one_line.1 (λ before n. (no_head_byte before 44 n, newline_next s none 44 refl)))

pub block_one_head : (width : ℕ) (block : List ℕ) → HasOneHead block → HasOneHead (block_text width block)
block_one_head width block head =
    let pieces = pieces_of block in
    one_head (reading_of_text block).field (laid width line_start pieces) (known_field block head) (no_head (laid_lays width line_start pieces) (block_fine block))

pub block_ends : (width before : ℕ) (block : List ℕ) → last_byte before (block_text width block) ≡ 10
block_ends width before block =
    let pieces = pieces_of block in
    last_byte-append before (reading_of_text block).field (44 ∷ 10 ∷ laid width line_start pieces) ∙ ends_line (laid_lays width line_start pieces)
