-- A string with a `^` at its end that takes nothing is healed by the backslash that is offered.
use Rattle.std.proofs.Common.{◌≡◌, ℕ, suc, ◌+◌, ◌==◌, true, Contains, List, [], ◌∷◌, ◌++◌, append_assoc, length, Option, None, Some, take, slice_get, inl}
use Rattle.std.proofs.Common.{inr, refl, sym, ap, subst, ◌∙◌}
use Rattle.std.specs.List.{last_or}
use Rattle.std.specs.Option.{option_and_then}
use Rattle.std.proofs.lemmas.Bool.{cases_Bool}
use Rattle.std.proofs.lemmas.List.{take-append-drop}
use Rattle.ti_source.specs.Cutting.{OneBlock}
use Rattle.ti_source.specs.Folding.{PlacedByte}
use Rattle.ti_source.specs.Items.{bytes}
use Rattle.ti_source.specs.declared.code.Code.TheVariants as code
use Rattle.source_spans.specs.Folding.{bytes_at, folded_of}
use Rattle.source_spans.specs.Replacing.{Replaces, fault_at}
use Rattle.source_spans.specs.Subjects.{items_of}
use Rattle.source_spans.proofs.Escaping.{Escape, backslash, caret, cuts, nothing}
use Rattle.source_spans.proofs.Plain.{after_both, goes_both, goes_front, item_goes, last_of}
use Rattle.source_spans.proofs.Recutting.{Goes, by_after}
use Rattle.source_edits.specs.Carets.{can_be_read, caret_at, healing_caret, with_backslash}
use Rattle.source_edits.specs.Edits.{EditSeen, advises_caret, caret_in, carets}
use Rattle.source_edits.specs.Laws.{IsInOrder, edited}
use Rattle.source_edits.specs.Pieces.{value_of, written_name}
use Rattle.source_edits.specs.Shown.{shown}
use Rattle.source_edits.proofs.CaretsHeal.{Lasts, carets_heal, last_byte_is, last_found, lasts, no_byte}
use Rattle.source_edits.proofs.Exchanging.{edited_at, no_edit, only_edit}
use Rattle.source_fixes.specs.Healing.{LosesFault, Stays, block_after}
use Rattle.source_fixes.proofs.Changing.{item_changes, loses_caret, refused_item}
use Rattle.source_fixes.proofs.Fitting.{Fits}
use Rattle.source_fixes.proofs.ItemParts.{replaced_part}
use Rattle.source_fixes.proofs.Placing.{item_in_order, text_replaces}

-- the edit that is offered
abbrev backslashed : PlacedByte → EditSeen
backslashed last = record { advice = advises_caret; part = record { start = last.1; end = suc last.1 }; text = 92 ∷ 94 ∷ [] }

record IsCaretEdit (value : List PlacedByte) (edit : EditSeen) : Type 0 where
  front : List PlacedByte
  last : PlacedByte
  whole : value ≡ front ++ last ∷ []
  is : backslashed last ≡ edit

caret_cut : (value : List PlacedByte) (edit : EditSeen) → Lasts value → Contains (caret_in (healing_caret value)) edit → IsCaretEdit value edit
caret_cut _ edit no_byte has =
    elim (cases_Bool (can_be_read (with_backslash []))) [ inl t ↦ absurd (no_edit edit (rw t at has)) | inr f ↦ absurd (no_edit edit (rw f at has)) ]
caret_cut _ edit (last_byte_is front last) has =
    let value = front ++ last ∷ [] in
    elim (cases_Bool (can_be_read (with_backslash (bytes value)))) [
      | inr f ↦ absurd (no_edit edit (rw f at has))
      | inl t ↦
          let there : Contains (caret_in (option_and_then caret_at (last_or None value))) edit = rw t at has in
          let here : Contains (caret_in (caret_at last)) edit =
          subst (λ (o : Option PlacedByte). Contains (caret_in (option_and_then caret_at o)) edit) (last_found None front last) there in
          elim (cases_Bool (last.0 == 94)) [
            | inr f ↦ absurd (no_edit edit (rw f at here))
            | inl c ↦ record { front = front; last = last; whole = refl; is = only_edit (backslashed last) edit (rw c at here) }
          ]
    ]

-- `\^` ends no item, and a comma after it ends one
two_go : (by : Escape) (before : ℕ) → Goes by before (bytes_at 0 (92 ∷ 94 ∷ []))
unfolding Goes
two_go nothing before = (refl, (refl, tt))
two_go backslash before = (refl, (refl, tt))
two_go caret before = (refl, (refl, tt))

two_end : (by : Escape) (before : ℕ) → cuts (by_after by before (bytes_at 0 (92 ∷ 94 ∷ []))) 44 ≡ true
unfolding by_after
two_end nothing before = refl
two_end backslash before = refl
two_end caret before = refl

caret_replaces : (front : List PlacedByte) (last : PlacedByte) → Goes nothing 44 (front ++ ((last ∷ []) ++ []))
    → Replaces (front ++ ((last ∷ []) ++ [])) (backslashed last).part (92 ∷ 94 ∷ []) (bytes front ++ (92 ∷ 94 ∷ []))
caret_replaces front last was =
    let new = bytes_at 0 (92 ∷ 94 ∷ []) in
    let by = by_after nothing 44 front in
    text_replaces front (last ∷ []) [] (backslashed last).part (92 ∷ 94 ∷ []) refl refl (refl, (refl, tt)) was
    (goes_both nothing 44 front new (goes_front nothing 44 front (last ∷ []) was) (two_go by (last_of 44 front)))
    (λ ends. ap (λ (e : Escape). cuts e 44) (after_both nothing 44 front new) ∙ two_end by (last_of 44 front))

pub carets_mend : (block : List ℕ) (ordinal : ℕ) (item : List PlacedByte) (edit : EditSeen) → OneBlock block
    → slice_get (items_of (folded_of block)) ordinal ≡ Some item
    → fault_at block ordinal ≡ Some code.BadString → Contains (carets item) edit → LosesFault block (block_after block edit) ordinal × Stays block edit
    × Fits item edit
carets_mend block ordinal item edit single there had has =
    let size = length (written_name item) + 1 in
    let cut = caret_cut (value_of item) edit (lasts (value_of item)) has in
    let front = take size item ++ cut.front in
    let last = cut.last in
    let whole : item ≡ front ++ ((last ∷ []) ++ []) =
    sym (take-append-drop size item) ∙ ap (λ (t : List PlacedByte). take size item ++ t) cut.whole
    ∙ sym (append_assoc (take size item) cut.front (last ∷ [])) in
    let replaces = caret_replaces front last (subst (Goes nothing 44) whole (item_goes (folded_of block) ordinal item there)) in
    let text : edited (front ++ ((last ∷ []) ++ [])) (backslashed last) ≡ bytes front ++ (92 ∷ 94 ∷ []) =
    edited_at (backslashed last) front (last ∷ []) [] (subst IsInOrder whole (item_in_order block ordinal item there)) refl in
    let moved = subst (λ (i : List PlacedByte). Replaces i (backslashed last).part (92 ∷ 94 ∷ []) (edited i (backslashed last))) (sym whole)
    (subst (Replaces (front ++ ((last ∷ []) ++ [])) (backslashed last).part (92 ∷ 94 ∷ [])) (sym text) replaces) in
    let is = subst (λ (e : EditSeen). Replaces item e.part e.text (edited item e)) cut.is moved in (
      loses_caret block (block_after block edit) ordinal (edited item edit) had
          (item_changes block ordinal item edit.part edit.text (edited item edit) single there is)
          (carets_heal item edit (item_in_order block ordinal item there) (refused_item block ordinal item code.BadString there had (λ e. cc)) has),
      replaced_part block ordinal item edit.part edit.text (edited item edit) single there is,
      record { printed = subst (λ (e : EditSeen). shown e.text ≡ e.text) cut.is refl; how = inr (edited item edit, is) },
    )
