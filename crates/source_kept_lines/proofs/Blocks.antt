-- A repaired block is one block, is read as before, fits its width and stays as it is.
use Rattle.std.proofs.Common.{◌≡◌, ◌≢◌, ℕ, ◌==◌, Bool, true, false, List, [], ◌∷◌, ◌++◌, refl, sym, ap, subst, ◌∙◌, inl, inr}
use Rattle.std.specs.List.{filter, list_all}
use Rattle.std.proofs.lemmas.Bool.{cases_Bool, and_parts, false≢true}
use Rattle.ti_text.specs.Texts.{last_byte}
use Rattle.ti_text.specs.WhiteSpace.{is_white_space}
use Rattle.ti_text.proofs.Texts.{last_byte-append}
use Rattle.ti_source.specs.Cutting.{HasNoHead, HasOneHead}
use Rattle.ti_source.specs.Heads.{begins_head, is_head}
use Rattle.ti_source.specs.Items.{without_white_front}
use Rattle.ti_source.specs.inside.Parsing.{block_field}
use Rattle.source_format.specs.Laws.{ReadsAlike, item_texts, kept_texts}
use Rattle.source_format.specs.Pieces.{is_kept, lines_of, with_first_byte}
use Rattle.source_format.proofs.Folded.{IsOneLine}
use Rattle.source_kept_lines.specs.Laws.{FitsWidth, FitsFrom}
use Rattle.source_kept_lines.specs.Layout.{after_line, indent_from, lead, lines_text, repaired_block, white_front}
use Rattle.source_kept_lines.specs.Parts.{after, is_between, parts}
use Rattle.source_kept_lines.specs.declared.parts.Reached.{Reached}
use Rattle.source_kept_lines.specs.declared.parts.Reached.TheVariants.{Names}
use Rattle.source_kept_lines.proofs.Contents.{Content, white_is}
use Rattle.source_kept_lines.proofs.Rows.{AreLaid, Begins, IsIndent, kept_line, laid_fit, laid_lines, laid_row, laid_stay, lines_back, no_line, relaid, rows, rows_of}
use Rattle.source_kept_lines.proofs.Rows.{text_rows, unlines}
use Rattle.source_kept_lines.proofs.Laid.{AllBegin, indent_again, parted, relaid_laid, row_first}
use Rattle.source_kept_lines.proofs.Read.{texts}
use Rattle.source_kept_lines.proofs.Folding.{Heads, all_lines, block_begins, heads_so, joined, lines_are}
use Rattle.source_kept_lines.proofs.Same.{block_stands, block_texts, relaid_kept, relaid_read, relaid_stands, stands}
use Rattle.source_kept_lines.proofs.Alike.{read_alike}

-- ---- the indent of a block is white space

white_of : (l : List ℕ) → list_all is_white_space (white_front l) ≡ true
white_of [] = refl
white_of (x ∷ xs) = elim (cases_Bool (is_white_space x)) [ inl t ↦ rw (t, t) (white_of xs) | inr f ↦ rw f refl ]

begins_some : (front : List ℕ) → Begins false front → front ≢ []
begins_some [] b = absurd b
begins_some (x ∷ xs) b = λ e. cc

tab_indent : IsIndent (9 ∷ [])
tab_indent = record { white = refl; some = λ e. cc }

pub indent_is : (first : Bool) (r : Reached) (ls : List (List ℕ)) → AllBegin first ls → (is_between r ≡ true → first ≡ false) → IsIndent (indent_from r ls)
indent_is first r [] begin h = tab_indent
indent_is first r (l ∷ ls) begin h =
    elim (cases_Bool (is_kept l)) [
      | inl t ↦ rw t (indent_is false r ls begin.1 (λ e. refl))
      | inr f ↦ elim (cases_Bool (is_between r)) [
        | inl b ↦
            let own : Begins false (white_front l) = subst (λ (z : Bool). Begins z (white_front l)) (h b) (begin.0 f) in
            rw (f, b) (record { white = white_of l; some = begins_some (white_front l) own })
        | inr b ↦ rw (f, b) (indent_is false (after r (without_white_front l)) ls begin.1 (λ e. refl))
      ]
    ]

-- ---- no head line begins in lines that are laid, but for the first

no_head_byte : (before x : ℕ) → (before == 10) ≡ false → is_head before x ≡ false
no_head_byte before x n = rw n refl

no_head_line : (before : ℕ) (l s : List ℕ) → (before == 10) ≡ false → IsOneLine l → HasNoHead 10 s → HasNoHead before (l ++ 10 ∷ s)
no_head_line before [] s n one none = (no_head_byte before 10 n, none)
no_head_line before (x ∷ xs) s n one none = (no_head_byte before x n, no_head_line x xs s one.0 one.1 none)

kept_no_head : (x : ℕ) (xs : List ℕ) → is_kept (x ∷ xs) ≡ true → is_head 10 x ≡ false
kept_no_head x xs k =
    elim (cases_Bool (x == 35)) [
      | inl t ↦ elim (cases_Bool (is_white_space x)) [ inl w ↦ rw w refl | inr v ↦ rw (v, t) refl ]
      | inr f ↦ let both = and_parts (is_white_space x) (list_all is_white_space xs) (rw f at k) in rw both.0 refl
    ]

kept_over : (l s : List ℕ) → IsOneLine l → is_kept l ≡ true → HasNoHead 10 s → HasNoHead 10 (l ++ 10 ∷ s)
kept_over [] s one k none = (refl, none)
kept_over (x ∷ xs) s one k none = (kept_no_head x xs k, no_head_line x xs s one.0 one.1 none)

row_over : (front : List ℕ) (x : ℕ) (u s : List ℕ) → Begins false front → Content front x → IsOneLine (front ++ x ∷ u) → HasNoHead 10 s
    → HasNoHead 10 (front ++ x ∷ u ++ 10 ∷ s)
row_over [] x u s begins c one none = absurd begins
row_over (y ∷ front) x u s begins c one none =
    let both = and_parts (is_white_space y) (list_all is_white_space front) c.white in
    (rw both.0 refl, no_head_line y (front ++ x ∷ u) s (white_is y both.0).0 one.1 none)

no_head : (w : ℕ) (i : List ℕ) {r : Reached} {ls : List (List ℕ)} → AreLaid w i false r ls → HasNoHead 10 (unlines ls)
no_head w i (no_line _ r) = tt
no_head w i (kept_line _ r l ls k one are) = kept_over l (unlines ls) one k (no_head w i are)
no_head w i (laid_row _ r front x u ls begins row are) = row_over front x u (unlines ls) begins row.content row.line (no_head w i are)

abbrev LaterFine : List (List ℕ) → Type 0
LaterFine [] = Unit {0}
LaterFine (l ∷ ls) = IsOneLine l × HasNoHead 10 (unlines ls)

later_fine : (w : ℕ) (i : List ℕ) {first : Bool} {r : Reached} {ls : List (List ℕ)} → AreLaid w i first r ls → LaterFine ls
later_fine w i (no_line _ r) = tt
later_fine w i (kept_line _ r l ls k one are) = (one, no_head w i are)
later_fine w i (laid_row _ r front x u ls begins row are) = (row.line, no_head w i are)

head_begins : (x : ℕ) (more : List ℕ) (ls ms : List (List ℕ)) → begins_head x ≡ true → ls ≡ (x ∷ more) ∷ ms → LaterFine ls → HasOneHead (unlines ls)
head_begins x more ls ms h e fine =
    let here : LaterFine ((x ∷ more) ∷ ms) = subst LaterFine e fine in
    let head = heads_so x h in
    subst (λ (ks : List (List ℕ)). HasOneHead (unlines ks)) (sym e) (h, no_head_line x more (unlines ms) head.newline here.0.1 here.1)

lines_end : (before : ℕ) (ls : List (List ℕ)) → last_byte 10 (unlines ls) ≡ 10
lines_end before [] = refl
lines_end before (l ∷ ls) = last_byte-append 10 l (10 ∷ unlines ls) ∙ lines_end before ls

some_end : (before : ℕ) (l : List ℕ) (ls : List (List ℕ)) → last_byte before (unlines (l ∷ ls)) ≡ 10
some_end before l ls = last_byte-append before l (10 ∷ unlines ls) ∙ lines_end before ls

-- ---- the first line of a block

abbrev FirstLine : ℕ → List (List ℕ) → Type 0
FirstLine x ls = (l : List ℕ) × (ms : List (List ℕ)) × (ls ≡ (x ∷ l) ∷ ms)

first_line : (x : ℕ) (xs : List ℕ) → (x == 10) ≡ false → FirstLine x (lines_of (x ∷ xs))
first_line x xs n = rw n (of_lines (lines_of xs))
  where
    of_lines : (ls : List (List ℕ)) → FirstLine x (with_first_byte x ls)
    of_lines [] = ([], [], refl)
    of_lines (l ∷ ls) = (l, ls, refl)

head_content : (x : ℕ) (l : List ℕ) → Heads x → (is_kept (x ∷ l) ≡ false) × (white_front (x ∷ l) ≡ []) × (without_white_front (x ∷ l) ≡ x ∷ l)
head_content x l h = (rw (h.sign, h.white) refl, rw h.white refl, rw h.white refl)

-- ---- a block as it is written

abbrev indent_of : List ℕ → List ℕ
indent_of block = indent_from Names (lines_of block)

-- its lines
abbrev written : ℕ → List ℕ → List (List ℕ)
written w block = relaid w (indent_of block) Names (lines_of block)

block_indent : (block : List ℕ) → HasOneHead block → IsIndent (indent_of block)
block_indent block head = indent_is true Names (lines_of block) (block_begins (lines_are block) head) (λ e. absurd (false≢true e))

written_laid : (w : ℕ) (block : List ℕ) → HasOneHead block → AreLaid w (indent_of block) true Names (written w block)
written_laid w block head =
    relaid_laid w (indent_of block) (block_indent block head) true Names (lines_of block) (all_lines (lines_are block)) (block_begins (lines_are block) head)

block_rows : (w : ℕ) (block : List ℕ) → repaired_block w block ≡ unlines (written w block)
block_rows w block = text_rows w (indent_of block) Names (lines_of block)

lines_again : (w : ℕ) (block : List ℕ) → HasOneHead block → lines_of (repaired_block w block) ≡ written w block
lines_again w block head = ap lines_of (block_rows w block) ∙ lines_back (written w block) (laid_lines w (indent_of block) (written_laid w block head))

-- the first of them begins as the block does
written_first : (w : ℕ) (x : ℕ) (xs : List ℕ) → HasOneHead (x ∷ xs) → FirstLine x (written w (x ∷ xs))
written_first w x xs head =
    let h = heads_so x head.0 in
    let found = first_line x xs h.newline in
    let i = indent_of (x ∷ xs) in
    subst (λ (ls : List (List ℕ)). FirstLine x (relaid w i Names ls)) (sym found.2) (of_line i (block_indent (x ∷ xs) head) found.0 found.1 h)
  where
    of_line : (i : List ℕ) → IsIndent i → (l : List ℕ) (ls : List (List ℕ)) → Heads x → FirstLine x (relaid w i Names ((x ∷ l) ∷ ls))
    of_line i indent l ls h =
        let k : is_kept (x ∷ l) ≡ false = (head_content x l h).0 in
        let p = parted Names x l h.white in
        let row = row_first w i indent (x ∷ p.part) p.later in
        let next = relaid w i (after_line Names (x ∷ l)) ls in
        let first : rows_of w i (lead i Names (x ∷ l)) (parts Names (without_white_front (x ∷ l))) ≡ rows w i (x ∷ p.part) p.later =
        rw (h.white, p.are) refl in
        (p.part ++ row.0, row.1 ++ next, ap (λ (ms : List (List ℕ)). ms ++ next) (rw k first ∙ row.2))

pub block_one_head : (w : ℕ) (block : List ℕ) → HasOneHead block → HasOneHead (repaired_block w block)
block_one_head w [] head = absurd head
block_one_head w (x ∷ xs) head =
    let found = written_first w x xs head in
    let i = indent_of (x ∷ xs) in
    subst HasOneHead (sym (block_rows w (x ∷ xs)))
    (head_begins x found.0 (written w (x ∷ xs)) found.1 head.0 found.2 (later_fine w i (written_laid w (x ∷ xs) head)))

pub block_ends : (w before : ℕ) (block : List ℕ) → HasOneHead block → last_byte before (repaired_block w block) ≡ 10
block_ends w before [] head = absurd head
block_ends w before (x ∷ xs) head =
    let found = written_first w x xs head in
    ap (last_byte before) (block_rows w (x ∷ xs) ∙ ap unlines found.2) ∙ some_end before (x ∷ found.0) found.1

pub block_again : (w : ℕ) (block : List ℕ) → HasOneHead block → repaired_block w (repaired_block w block) ≡ repaired_block w block
block_again w block head =
    let i = indent_of block in
    let new = written w block in
    ap (λ (ls : List (List ℕ)). lines_text w (indent_from Names ls) Names ls) (lines_again w block head)
    ∙ ap (λ (j : List ℕ). lines_text w j Names new) (indent_again w i (block_indent block head) Names (lines_of block) refl)
    ∙ text_rows w i Names new ∙ ap unlines (laid_stay w i (written_laid w block head)) ∙ sym (block_rows w block)

pub block_fits : (w : ℕ) (block : List ℕ) → HasOneHead block → FitsWidth w (repaired_block w block)
block_fits w block head =
    subst (FitsFrom w Names) (sym (lines_again w block head)) (laid_fit w (indent_of block) (written_laid w block head))

pub block_kept : (w : ℕ) (block : List ℕ) → HasOneHead block → kept_texts (repaired_block w block) ≡ kept_texts block
block_kept w block head =
    ap (filter is_kept) (lines_again w block head) ∙ relaid_kept w (indent_of block) (block_indent block head) Names (lines_of block)

texts_again : (w : ℕ) (block : List ℕ) → HasOneHead block
    → block_field (repaired_block w block) ∷ item_texts (repaired_block w block) ≡ block_field block ∷ item_texts block
texts_again w block head =
    sym (block_texts (repaired_block w block) (block_one_head w block head))
    ∙ ap (λ (ls : List (List ℕ)). texts Names (joined ls)) (lines_again w block head)
    ∙ relaid_read w (indent_of block) (block_indent block head) Names (lines_of block) ∙ block_texts block head

pub alike : (w : ℕ) (block : List ℕ) → HasOneHead block → ReadsAlike block (repaired_block w block)
alike w block head =
    let both = texts_again w block head in
    let field : block_field (repaired_block w block) ≡ block_field block = cc in
    let items : item_texts (repaired_block w block) ≡ item_texts block = cc in
    let new = repaired_block w block in
    record {
      texts = sym items;
      standing = block_stands block head ∙ sym (relaid_stands w (indent_of block) (block_indent block head) Names (lines_of block))
          ∙ ap (stands Names) (sym (lines_again w block head)) ∙ sym (block_stands new (block_one_head w block head));
      reading = read_alike block new (sym field) (sym items);
    }
