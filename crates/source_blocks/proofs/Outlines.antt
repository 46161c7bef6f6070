-- The blocks of a document, one after the other.
use Rattle.std.proofs.Common.{◌≡◌, ℕ, ◌+◌, ◌<◌, ◌≤◌, List, [], ◌∷◌, ◌++◌, Global, None, Some, drop, get_or, length, map, slice_get, refl, sym, ap, subst, ◌∙◌}
use Rattle.std.specs.Option.{option_map, option_map_or}
use Rattle.std.specs.Rc.{rc_slice_items}
use Rattle.std.specs.declared.rc.RcSlice.{RcSlice}
use Rattle.std.proofs.lemmas.List.{append_assoc, drop_more, map-append}
use Rattle.std.proofs.lemmas.Option.{same_Some, slice_get-get_or, slice_get-map}
use Rattle.ti_text.specs.Lines.{line_count}
use Rattle.ti_source.specs.Parsing.{reading_of_text}
use Rattle.ti_source.specs.Reading.{ReadItem, Reading}
use Rattle.base_meaning.specs.Owner.{readings}
use Rattle.base_meaning.specs.Report.{shown_detail}
use Rattle.source_document.specs.Diagnostics.{text_at}
use Rattle.source_blocks.specs.Symbols.{SymbolSeen, shown_name, symbol_at, symbol_seen, symbols_from}
use Rattle.source_blocks.specs.declared.symbols.Symbol.{Symbol}
use Rattle.source_blocks.specs.Counting.{CanCount}

-- the text at a position
pub text_is : (blocks : List (List ℕ)) (at : ℕ) (text : List ℕ) → slice_get blocks at ≡ Some text → text_at blocks at ≡ text
text_is blocks at text e = ap (λ o. option_map_or (λ (t : List ℕ). t) o []) e

pub text_got : (blocks : List (List ℕ)) (at : ℕ) → at < length blocks → text_at blocks at ≡ get_or blocks at []
text_got blocks at within = text_is blocks at (get_or blocks at []) (slice_get-get_or blocks at [] within)

pub blocks_more : (blocks : List (List ℕ)) (at : ℕ) → at < length blocks → drop at blocks ≡ text_at blocks at ∷ drop (at + 1) blocks
blocks_more blocks at within = drop_more blocks at [] within ∙ ap (λ (t : List ℕ). t ∷ drop (at + 1) blocks) (sym (text_got blocks at within))

pub text_short : (first : ℕ) (blocks : List (List ℕ)) (at : ℕ) → CanCount first blocks → at < length blocks → length (text_at blocks at) ≤ 1048576
text_short first blocks at can within = subst (λ (t : List ℕ). length t ≤ 1048576) (sym (text_got blocks at within)) (can.short at [] within).0

-- one more symbol
pub symbol_next : (blocks : List (List ℕ)) (all : List Symbol) (symbol : Symbol) (line at : ℕ) (whole : List SymbolSeen) → at < length blocks
    → symbol_seen symbol ≡ symbol_at line (text_at blocks at) → map symbol_seen all ++ symbols_from line (drop at blocks) ≡ whole
    → map symbol_seen (all ++ symbol ∷ []) ++ symbols_from (line + line_count (text_at blocks at)) (drop (at + 1) blocks) ≡ whole
symbol_next blocks all symbol line at whole within is so =
    let text = text_at blocks at in
    let rest = symbols_from (line + line_count text) (drop (at + 1) blocks) in
    ap (λ (t : List SymbolSeen). t ++ rest) (map-append symbol_seen all (symbol ∷ [])) ∙ append_assoc (map symbol_seen all) (symbol_seen symbol ∷ []) rest
    ∙ ap (λ (s : SymbolSeen). map symbol_seen all ++ s ∷ rest) is
    ∙ ap (λ (t : List (List ℕ)). map symbol_seen all ++ symbols_from line t) (sym (blocks_more blocks at within)) ∙ so

-- ---- the lookup names of a block

pub names_read : (blocks : List (List ℕ)) (at : ℕ) (names : List (List ℕ)) → at < length blocks
    → option_map (λ (block : Reading). block.names) (slice_get (readings blocks) at) ≡ Some names
    → (reading_of_text (text_at blocks at)).names ≡ names
names_read blocks at names within e =
    let read : slice_get (readings blocks) at ≡ Some (reading_of_text (text_at blocks at)) =
    slice_get-map reading_of_text blocks at
    ∙ ap (option_map reading_of_text) (slice_get-get_or blocks at [] within ∙ ap (λ (t : List ℕ). Some t) (sym (text_got blocks at within))) in
    same_Some (reading_of_text (text_at blocks at)).names names (ap (option_map (λ (block : Reading). block.names)) (sym read) ∙ e)

pub first_shown : (names : List (RcSlice ℕ Global)) (name : RcSlice ℕ Global) (field : List ℕ) → Some name ≡ slice_get names 0
    → shown_name (map rc_slice_items names) field ≡ shown_detail (rc_slice_items name)
first_shown [] name field e = cc
first_shown (other ∷ names) name field e = ap (λ (n : RcSlice ℕ Global). shown_detail (rc_slice_items n)) (sym (same_Some name other e))

pub field_shown : (names : List (RcSlice ℕ Global)) (field : List ℕ) → None ≡ slice_get names 0
    → shown_name (map rc_slice_items names) field ≡ shown_detail field
field_shown [] field e = refl
field_shown (other ∷ names) field e = cc

-- ---- the items of a block

pub items_read : (blocks : List (List ℕ)) (at : ℕ) (items : List ReadItem) → at < length blocks
    → option_map (λ (block : Reading). block.items) (slice_get (readings blocks) at) ≡ Some items
    → (reading_of_text (text_at blocks at)).items ≡ items
items_read blocks at items within e =
    let read : slice_get (readings blocks) at ≡ Some (reading_of_text (text_at blocks at)) =
    slice_get-map reading_of_text blocks at
    ∙ ap (option_map reading_of_text) (slice_get-get_or blocks at [] within ∙ ap (λ (t : List ℕ). Some t) (sym (text_got blocks at within))) in
    same_Some (reading_of_text (text_at blocks at)).items items (ap (option_map (λ (block : Reading). block.items)) (sym read) ∙ e)
