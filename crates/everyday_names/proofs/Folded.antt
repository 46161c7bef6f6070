-- A block that begins with a names field on its first line, as it is read.
use Rattle.std.proofs.Common.{◌≡◌, ℕ, zero, suc, true, false, ◌==◌, ◌||◌, List, [], ◌∷◌, ◌++◌, map, replicate, Option}
use Rattle.std.proofs.Common.{refl, sym, ap, ◌∙◌, inl, inr}
use Rattle.std.proofs.lemmas.Bool.{cases_Bool, or_parts, not-true}
use Rattle.ti_text.specs.WhiteSpace.{is_white_space}
use Rattle.ti_source.specs.Folding.{PlacedByte}
use Rattle.ti_source.specs.Heads.{begins_head}
use Rattle.ti_source.specs.Items.{ItemPiece, bytes, piece_of}
use Rattle.ti_source.specs.Judging.{Judged, reading_by}
use Rattle.ti_source.specs.Parsing.{reading_of_text}
use Rattle.ti_source.specs.Stating.{statement_of}
use Rattle.ti_source.specs.Walking.{block_items}
use Rattle.ti_source.specs.inside.Folding.{bytes_on_lines, folding_of, without_breaks, without_comments}
use Rattle.ti_source.specs.inside.Header.{header_names}
use Rattle.ti_source.specs.inside.Items.{after_field, field_of, on_line}
use Rattle.ti_source.specs.inside.Parsing.{block_field, judged_as, judged_of}
use Rattle.ti_source.proofs.ItemLaws.{has_items}
use Rattle.source_spans.specs.Parts.{with_first}
use Rattle.source_spans.proofs.Escaping.{Escape, cuts, escape_after, items_of, nothing, one_items}
use Rattle.user_items.specs.Parsing.{user_reading_of_text}
use Rattle.user_items.specs.Reading as user
use Rattle.user_items.specs.inside.Computed as user_computed
use Rattle.everyday_names.specs.Fields.{has}

-- ---- bytes of the first line

-- the folded text of what follows a byte of the first line
abbrev pub straight : ℕ → List ℕ → List PlacedByte
straight before s = without_breaks false (without_comments false before (bytes_on_lines 1 s))

-- which byte is before a text does not matter if neither of two is a newline
before_any : (one other : ℕ) (s : List PlacedByte) → (one == 10) ≡ false → (other == 10) ≡ false → without_comments false one s ≡ without_comments false other s
before_any one other [] e f = refl
before_any one other (x ∷ xs) e f = rw (e, f) refl

pub before-any : (one other : ℕ) (s : List ℕ) → (one == 10) ≡ false → (other == 10) ≡ false → straight one s ≡ straight other s
before-any one other s e f = ap (λ (t : List PlacedByte). without_breaks false t) (before_any one other (bytes_on_lines 1 s) e f)

straight-byte : (before x : ℕ) (rest : List ℕ) → (before == 10) ≡ false → (x == 10) ≡ false → straight before (x ∷ rest) ≡ (x, 1) ∷ straight before rest
straight-byte before x rest e f =
    rw (e, f) (ap (λ (s : List PlacedByte). (x, 1) ∷ without_breaks false s) (before_any x before (bytes_on_lines 1 rest) f e))

pub straight-run : (before : ℕ) (run rest : List ℕ) → (before == 10) ≡ false → has 10 run ≡ false
    → straight before (run ++ rest) ≡ on_line 1 run ++ straight before rest
straight-run before [] rest e n = refl
straight-run before (x ∷ xs) rest e n =
    let parts = or_parts (x == 10) (has 10 xs) n in
    straight-byte before x (xs ++ rest) e parts.0 ∙ ap (λ (s : List PlacedByte). (x, 1) ∷ s) (straight-run before xs rest e parts.1)

-- ---- the names field

-- a names field on the first line of a block: it begins a head line, and has neither a comma nor a newline
pub record IsField (field : List ℕ) : Type 0 where
  pub first : ℕ
  pub others : List ℕ
  pub whole : field ≡ first ∷ others
  pub begins : begins_head first ≡ true
  pub no_comma : has 44 field ≡ false
  pub one_line : has 10 field ≡ false

head-byte : (x : ℕ) → begins_head x ≡ true → ((x == 35) ≡ false) × ((x == 10) ≡ false)
head-byte x e =
    let none = or_parts (is_white_space x || x == 35) (x == 10) (not-true (is_white_space x || x == 35 || x == 10) e) in
    ((or_parts (is_white_space x) (x == 35) none.0).1, none.1)

first-byte : (x : ℕ) (rest : List ℕ) → begins_head x ≡ true → folding_of (x ∷ rest) ≡ (x, 1) ∷ straight x rest
first-byte x rest e = let head = head-byte x e in rw (head.0, head.1) refl

pub folding-of_field : (field rest : List ℕ) → IsField field → folding_of (field ++ 44 ∷ rest) ≡ on_line 1 field ++ (44, 1) ∷ straight 44 rest
folding-of_field field rest is =
    let x = is.first in
    let xs = is.others in
    let head = head-byte x is.begins in
    let lines : ((x == 10) ≡ false) × (has 10 xs ≡ false) = or_parts (x == 10) (has 10 xs) (ap (has 10) (sym is.whole) ∙ is.one_line) in
    rw (is.whole) (first-byte x (xs ++ 44 ∷ rest) is.begins
    ∙ ap (λ (s : List PlacedByte). (x, 1) ∷ s) (straight-run x xs (44 ∷ rest) head.1 lines.1
    ∙ ap (λ (s : List PlacedByte). on_line 1 xs ++ s) (straight-byte x 44 rest head.1 refl
    ∙ ap (λ (s : List PlacedByte). (44, 1) ∷ s) (before-any x 44 rest head.1 refl))))

field-placed : (f : List ℕ) (rest : List PlacedByte) → has 44 f ≡ false → field_of (on_line 1 f ++ (44, 1) ∷ rest) ≡ on_line 1 f
field-placed [] rest e = refl
field-placed (x ∷ xs) rest e =
    let parts = or_parts (x == 44) (has 44 xs) e in
    rw (parts.0) (ap (λ (t : List PlacedByte). (x, 1) ∷ t) (field-placed xs rest parts.1))

after-placed : (f : List ℕ) (rest : List PlacedByte) → has 44 f ≡ false → after_field (on_line 1 f ++ (44, 1) ∷ rest) ≡ rest
after-placed [] rest e = refl
after-placed (x ∷ xs) rest e =
    let parts = or_parts (x == 44) (has 44 xs) e in
    rw (parts.0) (after-placed xs rest parts.1)

bytes-placed : (f : List ℕ) → bytes (on_line 1 f) ≡ f
bytes-placed [] = refl
bytes-placed (x ∷ xs) = ap (λ (t : List ℕ). x ∷ t) (bytes-placed xs)

pub block-field : (field rest : List ℕ) → IsField field → block_field (field ++ 44 ∷ rest) ≡ field
block-field field rest is =
    ap (λ s. bytes (field_of s)) (folding-of_field field rest is) ∙ ap bytes (field-placed field (straight 44 rest) is.no_comma) ∙ bytes-placed field

items-computed : (block : List ℕ) → block_items block ≡ items_of nothing 44 (after_field (folding_of block))
items-computed block = one_items 44 (after_field (folding_of block)) (block_items block) (has_items 44 (after_field (folding_of block)))

pub block-items : (field rest : List ℕ) → IsField field → block_items (field ++ 44 ∷ rest) ≡ items_of nothing 44 (straight 44 rest)
block-items field rest is =
    items-computed (field ++ 44 ∷ rest)
    ∙ ap (λ s. items_of nothing 44 (after_field s)) (folding-of_field field rest is)
    ∙ ap (items_of nothing 44) (after-placed field (straight 44 rest) is.no_comma)

-- ---- blanks after it

space-before : (xs : List PlacedByte) → items_of nothing 32 xs ≡ items_of nothing 44 xs
space-before [] = refl
space-before (x ∷ xs) = refl

blank-onto : (items : List (List PlacedByte)) (y : PlacedByte) → map piece_of (with_first (32, 1) (with_first y items)) ≡ map piece_of (with_first y items)
blank-onto [] y = refl
blank-onto (item ∷ items) y = refl

blank-first : (by : Escape) (before : ℕ) (xs : List PlacedByte)
    → map piece_of (with_first (32, 1) (items_of by before xs)) ≡ map piece_of (items_of by before xs)
blank-first by before [] = refl
blank-first by before (x ∷ xs) =
    elim (cases_Bool (cuts by x.0)) [
      | inl t ↦ rw t refl
      | inr f ↦ rw f (blank-onto (items_of (escape_after by before x.0) x.0 xs) x)
    ]

blank-items : (n : ℕ) (text : List PlacedByte)
    → map piece_of (items_of nothing 44 (on_line 1 (replicate n 32) ++ text)) ≡ map piece_of (items_of nothing 44 text)
blank-items zero text = refl
blank-items (suc n) text =
    blank-first nothing 32 (on_line 1 (replicate n 32) ++ text)
    ∙ ap (map piece_of) (space-before (on_line 1 (replicate n 32) ++ text))
    ∙ blank-items n text

no-newline : (n : ℕ) → has 10 (replicate n 32) ≡ false
no-newline zero = refl
no-newline (suc n) = no-newline n

pub blanks : (n : ℕ) (rest : List ℕ)
    → map piece_of (items_of nothing 44 (straight 44 (replicate n 32 ++ rest))) ≡ map piece_of (items_of nothing 44 (straight 44 rest))
blanks n rest =
    ap (λ s. map piece_of (items_of nothing 44 s)) (straight-run 44 (replicate n 32) rest refl (no-newline n))
    ∙ blank-items n (straight 44 rest)

-- ---- what is judged of items depends on their text and line

judged-by_pieces : (items : List (List PlacedByte)) → map judged_of items ≡ map (λ (p : ItemPiece). judged_as p.line (statement_of p.text)) (map piece_of items)
judged-by_pieces [] = refl
judged-by_pieces (item ∷ items) = ap (λ (js : List (Option Judged)). judged_of item ∷ js) (judged-by_pieces items)

user-by_pieces : (items : List (List PlacedByte))
    → map user_computed.judged_of items ≡ map (λ (p : ItemPiece). user_computed.judged_as p.line (statement_of p.text)) (map piece_of items)
user-by_pieces [] = refl
user-by_pieces (item ∷ items) = ap (λ (js : List (Option user.UserJudged)). user_computed.judged_of item ∷ js) (user-by_pieces items)

pub judged-alike : (items others : List (List PlacedByte)) → map piece_of items ≡ map piece_of others → map judged_of items ≡ map judged_of others
judged-alike items others e =
    judged-by_pieces items ∙ ap (map (λ (p : ItemPiece). judged_as p.line (statement_of p.text))) e ∙ sym (judged-by_pieces others)

pub user-alike : (items others : List (List PlacedByte)) → map piece_of items ≡ map piece_of others
    → map user_computed.judged_of items ≡ map user_computed.judged_of others
user-alike items others e =
    user-by_pieces items ∙ ap (map (λ (p : ItemPiece). user_computed.judged_as p.line (statement_of p.text))) e ∙ sym (user-by_pieces others)

-- ---- the readings

-- what is judged of the items of a block behind its names field
abbrev pub judged_behind : List ℕ → List (Option Judged)
judged_behind rest = map judged_of (items_of nothing 44 (straight 44 rest))

-- a block with a names field, a comma, blanks and a rest is read by its field and its rest
pub read-with_blanks : (field : List ℕ) (n : ℕ) (rest : List ℕ) → IsField field
    → reading_of_text (field ++ 44 ∷ (replicate n 32 ++ rest)) ≡ reading_by field (header_names field) (judged_behind rest)
unfolding reading_of_text
read-with_blanks field n rest is =
    let block = field ++ 44 ∷ (replicate n 32 ++ rest) in
    let at_field : block_field block ≡ field = block-field field (replicate n 32 ++ rest) is in
    let items : map judged_of (block_items block) ≡ judged_behind rest =
    ap (map judged_of) (block-items field (replicate n 32 ++ rest) is)
    ∙ judged-alike (items_of nothing 44 (straight 44 (replicate n 32 ++ rest))) (items_of nothing 44 (straight 44 rest)) (blanks n rest) in
    ap (λ (f : List ℕ). reading_by f (header_names f) (map judged_of (block_items block))) at_field
    ∙ ap (λ (js : List (Option Judged)). reading_by field (header_names field) js) items

pub user-with_blanks : (field : List ℕ) (n : ℕ) (rest : List ℕ) → IsField field
    → user_reading_of_text (field ++ 44 ∷ (replicate n 32 ++ rest))
    ≡ user.reading_by (map user_computed.judged_of (items_of nothing 44 (straight 44 rest)))
unfolding user_reading_of_text
user-with_blanks field n rest is =
    ap user.reading_by (ap (map user_computed.judged_of) (block-items field (replicate n 32 ++ rest) is)
    ∙ user-alike (items_of nothing 44 (straight 44 (replicate n 32 ++ rest))) (items_of nothing 44 (straight 44 rest)) (blanks n rest))
