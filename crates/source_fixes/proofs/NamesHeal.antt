-- An item with a name that no capability has is healed by a name that is offered for it.
use Rattle.std.proofs.Common.{◌≡◌, ℕ, ◌==◌, All, true, Contains, List, [], ◌∷◌, ◌++◌, Some, append_assoc, slice_get, inl, inr, refl, sym, ap, subst, ◌∙◌}
use Rattle.std.proofs.lemmas.Bool.{cases_Bool, eqb-true}
use Rattle.ti_text.specs.Texts.{last_byte}
use Rattle.ti_text.specs.WhiteSpace.{is_white_space}
use Rattle.ti_source.specs.Cutting.{OneBlock}
use Rattle.ti_source.specs.Folding.{PlacedByte}
use Rattle.ti_source.specs.Items.{IsWhite, bytes, is_mark}
use Rattle.ti_source.specs.declared.code.Code.TheVariants as code
use Rattle.source_spans.specs.Folding.{folded_of}
use Rattle.source_spans.specs.Replacing.{BeginsPlain, Replaces, fault_at, is_plain}
use Rattle.source_spans.specs.Subjects.{items_of, without_end}
use Rattle.source_spans.proofs.Plain.{plain_replace}
use Rattle.source_edits.specs.Candidates.{names_for}
use Rattle.source_edits.specs.Edits.{EditSeen, known_names, renames}
use Rattle.source_edits.specs.Laws.{IsInOrder, edited}
use Rattle.source_edits.specs.Pieces.{after_name, written_name}
use Rattle.source_edits.proofs.Exchanging.{edited_at}
use Rattle.source_edits.proofs.Marks.{MarkSays, cancel_of, end_split, has_mark, has_none, mark_says, name_cut, plain_name}
use Rattle.source_edits.proofs.NamesFit.{names_fit}
use Rattle.source_fixes.specs.Healing.{LosesFault, Stays, block_after}
use Rattle.source_fixes.proofs.Changing.{item_changes, loses_unknown}
use Rattle.source_fixes.proofs.Fitting.{Fits}
use Rattle.source_fixes.proofs.ItemParts.{replaced_part}
use Rattle.source_fixes.proofs.Placing.{item_in_order}
use Rattle.source_fixes.proofs.Putting.{IsPut, each_for, renamed_at}

-- an item is its name and what begins with a plain byte, if there is more
pub record IsNamed (item : List PlacedByte) : Type 0 where
  pub rest : List PlacedByte
  pub whole : item ≡ written_name item ++ rest
  pub plain : BeginsPlain (bytes rest)

mark_plain : (mark : ℕ) → is_mark mark ≡ true → is_plain mark ≡ true
mark_plain mark is =
    elim (cases_Bool (mark == 35)) [
      | inl t ↦ rw (eqb-true mark 35 t) refl
      | inr f ↦ rw (eqb-true mark 61 (rw f at is)) refl
    ]

pub white_plain : (x : ℕ) → is_white_space x ≡ true → is_plain x ≡ true
white_plain x white =
    elim (cases_Bool (x == 32)) [
      | inl t ↦ rw (eqb-true x 32 t) refl
      | inr f ↦ rw (eqb-true x 9 (rw f at white)) refl
    ]

pub white_begins : (end : List PlacedByte) → IsWhite (bytes end) → BeginsPlain (bytes end)
white_begins [] white = tt
white_begins (x ∷ xs) white = white_plain x.0 white.0

named : (item : List PlacedByte) → MarkSays item → IsNamed item
named _ (has_mark name value mark none is) = record {
  rest = mark ∷ value;
  whole = ap (λ (n : List PlacedByte). n ++ mark ∷ value) (sym (name_cut name value mark none is));
  plain = mark_plain mark.0 is;
}
named _ (has_none item none) =
    let ends = end_split item in
    elim (cases_Bool (last_byte 0 (bytes (without_end item)) == 64)) [
      | inl t ↦
          let found = cancel_of item none t in
          let front = found.0 in
          let sign = found.1 in
          let cancel = found.2 in
          record {
            rest = sign ∷ ends.0;
            whole = ends.1 ∙ ap (λ (s : List PlacedByte). s ++ ends.0) cancel.whole ∙ append_assoc front (sign ∷ []) ends.0
                ∙ ap (λ (n : List PlacedByte). n ++ sign ∷ ends.0) (sym cancel.name);
            plain = ap is_plain cancel.is_sign;
          }
      | inr f ↦ record {
        rest = ends.0;
        whole = ends.1 ∙ ap (λ (n : List PlacedByte). n ++ ends.0) (sym (plain_name item none f).0);
        plain = white_begins ends.0 ends.2;
      }
    ]

pub item_named : (item : List PlacedByte) → IsNamed item
item_named item = named item (mark_says item)

-- another name in place of an item's
pub name_replaces : (block : List ℕ) (ordinal : ℕ) (item : List PlacedByte) (others : List (List ℕ)) (edit : EditSeen)
    → slice_get (items_of (folded_of block)) ordinal ≡ Some item → (is : IsNamed item) → All IsPut others
    → Contains (renames (written_name item) others) edit → Replaces item edit.part edit.text (edit.text ++ bytes is.rest)
name_replaces block ordinal item others edit there is put has =
    let name = written_name item in
    let at = renamed_at name others edit put has in
    let whole : item ≡ [] ++ (name ++ is.rest) = is.whole in
    let replaces = plain_replace block ordinal [] name is.rest edit.part edit.text (there ∙ ap (λ (i : List PlacedByte). Some i) whole) at.there tt
    at.put.plain at.put.visible is.plain in
    subst (λ (i : List PlacedByte). Replaces i edit.part edit.text (edit.text ++ bytes is.rest)) (sym whole) replaces

name_edited : (block : List ℕ) (ordinal : ℕ) (item : List PlacedByte) (others : List (List ℕ)) (edit : EditSeen)
    → slice_get (items_of (folded_of block)) ordinal ≡ Some item → (is : IsNamed item) → All IsPut others
    → Contains (renames (written_name item) others) edit → edited item edit ≡ edit.text ++ bytes is.rest
name_edited block ordinal item others edit there is put has =
    let name = written_name item in
    let at = renamed_at name others edit put has in
    let whole : item ≡ [] ++ (name ++ is.rest) = is.whole in
    ap (λ (i : List PlacedByte). edited i edit) whole
    ∙ edited_at edit [] name is.rest (subst (λ (i : List PlacedByte). IsInOrder i) whole (item_in_order block ordinal item there)) at.there

capability_replaces : (block : List ℕ) (ordinal : ℕ) (item : List PlacedByte) (edit : EditSeen) → slice_get (items_of (folded_of block)) ordinal ≡ Some item
    → IsNamed item → Contains (known_names item) edit
    → Replaces item edit.part edit.text (edited item edit)
capability_replaces block ordinal item edit there is has =
    let others = names_for (after_name item) in
    let put = each_for (after_name item) in
    subst (Replaces item edit.part edit.text) (sym (name_edited block ordinal item others edit there is put has))
    (name_replaces block ordinal item others edit there is put has)

pub names_heal : (block : List ℕ) (ordinal : ℕ) (item : List PlacedByte) (edit : EditSeen) → OneBlock block
    → slice_get (items_of (folded_of block)) ordinal ≡ Some item
    → fault_at block ordinal ≡ Some code.UnknownCapability → Contains (known_names item) edit → LosesFault block (block_after block edit) ordinal
    × Stays block edit × Fits item edit
names_heal block ordinal item edit single there had has =
    let replaces = capability_replaces block ordinal item edit there (item_named item) has in (
      loses_unknown block (block_after block edit) ordinal (edited item edit) had
          (item_changes block ordinal item edit.part edit.text (edited item edit) single there replaces)
          (names_fit item edit (item_in_order block ordinal item there) has),
      replaced_part block ordinal item edit.part edit.text (edited item edit) single there replaces,
      record {
        printed = (renamed_at (written_name item) (names_for (after_name item)) edit (each_for (after_name item)) has).put.is_shown;
        how = inr (edited item edit, replaces);
      },
    )
