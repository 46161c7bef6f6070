-- What is sought in all blocks, one block after the other.
use Rattle.std.proofs.Common.{◌≡◌, ℕ, ◌+◌, ◌<◌, ◌||◌, ◌&&◌, Bool, cond, List, [], ◌∷◌, ◌++◌, Option, None, Some, drop, get_or, length, map, slice_get, sym, ap}
use Rattle.std.proofs.Common.{add-one, ◌∙◌}
use Rattle.std.specs.List.{list_all}
use Rattle.std.specs.Option.{option_map}
use Rattle.std.specs.Str.{bytes_eq}
use Rattle.std.proofs.lemmas.List.{append_assoc, drop_more}
use Rattle.std.proofs.lemmas.Option.{cond_some}
use Rattle.ti_text.specs.Lines.{line_count}
use Rattle.ti_source.specs.Reading.{ReadItem, Reading}
use Rattle.base_meaning.specs.Owner.{readings}
use Rattle.base_meaning.specs.Reaching.{any_use}
use Rattle.source_types.specs.declared.places.Range.{Range}
use Rattle.source_document.specs.Diagnostics.{text_at}
use Rattle.source_blocks.proofs.Outlines.{blocks_more, items_read}
use Rattle.source_names.specs.Names.{Sought, ranges_from, ranges_in}
use Rattle.source_names.specs.NameEdits.{NameEdit, Rename, can_be_put, edits_in, name_edit_seen}
use Rattle.source_names.specs.Renaming.{RenameSeen, can_be_renamed, edits_from, is_used, placed_edit, rename_edit_seen}
use Rattle.source_names.specs.declared.name_edits.NameEdit as memory
use Rattle.source_names.specs.declared.renaming.RenameEdit.{RenameEdit}

pub ranges_next : (blocks : List (List ℕ)) (sought : Sought) (before now : List Range) (line at : ℕ) (whole : List Range) → at < length blocks
    → before ++ ranges_from blocks sought at line (drop at blocks) ≡ whole → now ≡ before ++ ranges_in blocks sought at line (text_at blocks at)
    → now ++ ranges_from blocks sought (at + 1) (line + line_count (text_at blocks at)) (drop (at + 1) blocks) ≡ whole
ranges_next blocks sought before now line at whole within so e =
    let here = ranges_in blocks sought at line (text_at blocks at) in
    let next = line + line_count (text_at blocks at) in
    ap (λ (t : List Range). t ++ ranges_from blocks sought (at + 1) next (drop (at + 1) blocks)) e
    ∙ append_assoc before here (ranges_from blocks sought (at + 1) next (drop (at + 1) blocks))
    ∙ ap (λ (n : ℕ). before ++ (here ++ ranges_from blocks sought n next (drop (at + 1) blocks))) (add-one at)
    ∙ ap (λ (t : List (List ℕ)). before ++ ranges_from blocks sought at line t) (sym (blocks_more blocks at within)) ∙ so

-- whether an item of one more block uses a name
pub used_next : (blocks : List (List ℕ)) (at : ℕ) (name : List ℕ) (items : List ReadItem) (found whole : Bool) → at < length blocks
    → option_map (λ (block : Reading). block.items) (slice_get (readings blocks) at) ≡ Some items → found ≡ any_use (bytes_eq name) items
    → is_used (readings (drop at blocks)) name ≡ whole → (found || is_used (readings (drop (at + 1) blocks)) name) ≡ whole
used_next blocks at name items found whole within there is so =
    let later = is_used (readings (drop (at + 1) blocks)) name in
    ap (λ (b : Bool). b || later) (is ∙ ap (any_use (bytes_eq name)) (sym (items_read blocks at items within there)))
    ∙ sym (ap (λ (t : List (List ℕ)). is_used (readings t) name) (blocks_more blocks at within)) ∙ so

-- the edits of one more block
pub edits_next : (rename : Rename) (blocks : List (List ℕ)) (before now : List RenameSeen) (line at : ℕ) (whole : List RenameSeen) → at < length blocks
    → before ++ edits_from rename at line (drop at blocks) ≡ whole
    → now ≡ before ++ map (placed_edit line (text_at blocks at)) (edits_in rename at (text_at blocks at))
    → now ++ edits_from rename (at + 1) (line + line_count (text_at blocks at)) (drop (at + 1) blocks) ≡ whole
edits_next rename blocks before now line at whole within so e =
    let here = map (placed_edit line (text_at blocks at)) (edits_in rename at (text_at blocks at)) in
    let next = line + line_count (text_at blocks at) in
    ap (λ (t : List RenameSeen). t ++ edits_from rename (at + 1) next (drop (at + 1) blocks)) e
    ∙ append_assoc before here (edits_from rename (at + 1) next (drop (at + 1) blocks))
    ∙ ap (λ (n : ℕ). before ++ (here ++ edits_from rename n next (drop (at + 1) blocks))) (add-one at)
    ∙ ap (λ (t : List (List ℕ)). before ++ edits_from rename at line t) (sym (blocks_more blocks at within)) ∙ so

-- whether those of one more block can be put in their places
pub can_next : (rename : Rename) (blocks : List (List ℕ)) (at : ℕ) (all whole : Bool) → at < length blocks
    → can_be_renamed rename at (drop at blocks) ≡ whole
    → all ≡ list_all (can_be_put (text_at blocks at)) (edits_in rename at (text_at blocks at))
    → (all && can_be_renamed rename (at + 1) (drop (at + 1) blocks)) ≡ whole
can_next rename blocks at all whole within so e =
    ap (λ (b : Bool). b && can_be_renamed rename (at + 1) (drop (at + 1) blocks)) e
    ∙ ap (λ (n : ℕ). list_all (can_be_put (text_at blocks at)) (edits_in rename at (text_at blocks at)) && can_be_renamed rename n (drop (at + 1) blocks))
    (add-one at)
    ∙ ap (can_be_renamed rename at) (sym (blocks_more blocks at within)) ∙ so

-- one more edit
pub put_next : (line : ℕ) (block : List ℕ) (found : List memory.NameEdit) (at : ℕ) (d : memory.NameEdit) (before whole : List RenameSeen) (all : Bool)
    (one : Option RenameEdit) (edit : RenameEdit) → at < length found
    → list_all (can_be_put block) (map name_edit_seen (drop at found)) ≡ all
    → before ++ map (placed_edit line block) (map name_edit_seen (drop at found)) ≡ whole
    → option_map rename_edit_seen one ≡ cond (can_be_put block (name_edit_seen (get_or found at d)))
    (Some (placed_edit line block (name_edit_seen (get_or found at d)))) None
    → one ≡ Some edit
    → (list_all (can_be_put block) (map name_edit_seen (drop (at + 1) found)) ≡ all)
    × ((before ++ rename_edit_seen edit ∷ []) ++ map (placed_edit line block) (map name_edit_seen (drop (at + 1) found)) ≡ whole)
put_next line block found at d before whole all one edit within h so e is =
    let x = name_edit_seen (get_or found at d) in
    let rest = map name_edit_seen (drop (at + 1) found) in
    let put = cond_some (can_be_put block x) (placed_edit line block x) (rename_edit_seen edit) (sym e ∙ ap (option_map rename_edit_seen) is) in
    let more : map name_edit_seen (drop at found) ≡ x ∷ rest = ap (map name_edit_seen) (drop_more found at d within) in (
      sym (ap (λ (b : Bool). b && list_all (can_be_put block) rest) put.0) ∙ ap (list_all (can_be_put block)) (sym more) ∙ h,
      append_assoc before (rename_edit_seen edit ∷ []) (map (placed_edit line block) rest)
          ∙ ap (λ (s : RenameSeen). before ++ s ∷ map (placed_edit line block) rest) (sym put.1)
          ∙ ap (λ (t : List NameEdit). before ++ map (placed_edit line block) t) (sym more) ∙ so,
    )
