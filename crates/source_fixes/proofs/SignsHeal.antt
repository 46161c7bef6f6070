-- An item of the wrong kind is healed by the sign that is offered for its own.
use Rattle.std.proofs.Common.{◌≡◌, ℕ, suc, ◌==◌, is_ok, true, false, Contains, List, [], ◌∷◌, ◌++◌, Some, codes, slice_get, inl, inr, refl, sym, ap}
use Rattle.std.proofs.Common.{subst, ◌∙◌}
use Rattle.std.specs.List.{list_all}
use Rattle.std.proofs.lemmas.Bool.{and_parts, cases_Bool, eqb-true}
use Rattle.ti_text.specs.Texts.{is_empty, last_byte}
use Rattle.ti_text.specs.WhiteSpace.{is_white_space}
use Rattle.ti_caps.specs.declared.capability.Kind.{Kind}
use Rattle.ti_caps.specs.declared.capability.Kind.TheVariants.{Flag, Number, Text}
use Rattle.ti_spelling.specs.inside.Numbers.{number_read}
use Rattle.ti_source.specs.Cutting.{OneBlock}
use Rattle.ti_source.specs.Folding.{PlacedByte}
use Rattle.ti_source.specs.Items.{bytes, is_mark}
use Rattle.ti_source.specs.declared.code.Code.TheVariants as code
use Rattle.source_spans.specs.Folding.{folded_of}
use Rattle.source_spans.specs.Replacing.{IsOneLine, exchanged, fault_at, is_plain}
use Rattle.source_spans.specs.Subjects.{items_of, without_end}
use Rattle.source_spans.specs.declared.parts.Part.{Part}
use Rattle.source_spans.proofs.Plain.{item_goes, plain_line}
use Rattle.source_edits.specs.Carets.{can_be_read}
use Rattle.source_edits.specs.Edits.{EditSeen, advises_sign, is_digit, is_number, kind_signs, sign_at, sign_for}
use Rattle.source_edits.specs.Laws.{IsAccepted}
use Rattle.source_edits.proofs.Exchanging.{no_edit, only_edit}
use Rattle.source_edits.proofs.Marks.{empty_end, mark_enabled}
use Rattle.source_edits.proofs.Readings.{flag_accepted, number_accepted, text_accepted}
use Rattle.source_edits.proofs.SignsFit.{IsSigned, front_enabled, number_ends, signed_item}
use Rattle.source_edits.proofs.Verdicts.{flag_ends}
use Rattle.source_fixes.specs.Healing.{LosesFault, Stays, StaysOne, block_after}
use Rattle.source_fixes.proofs.Changing.{item_changes, loses_kind, refused_item}
use Rattle.source_fixes.proofs.Fitting.{Fits, sign_fits}
use Rattle.source_fixes.proofs.ItemParts.{exchanged_part}
use Rattle.source_fixes.proofs.Placing.{byte_replaces}
use Rattle.source_fixes.proofs.Putting.{IsPut, capability_put}
use Rattle.source_fixes.proofs.TakenOut.{taken_out}

-- what is known of a mark
record IsOfMark (mark : ℕ) : Type 0 where
  plain : is_plain mark ≡ true
  visible : is_white_space mark ≡ false
  other : (mark == 37) ≡ false

of_mark : (mark : ℕ) → is_mark mark ≡ true → IsOfMark mark
of_mark mark is =
    elim (cases_Bool (mark == 35)) [
      | inl t ↦ subst IsOfMark (sym (eqb-true mark 35 t)) (record { plain = refl; visible = refl; other = refl })
      | inr f ↦ subst IsOfMark (sym (eqb-true mark 61 (rw f at is))) (record { plain = refl; visible = refl; other = refl })
    ]

abbrev at_mark : PlacedByte → Part
at_mark mark = record { start = mark.1; end = suc mark.1 }

mark_part : (block : List ℕ) (ordinal : ℕ) (name value : List PlacedByte) (mark : PlacedByte) (new : List ℕ) → OneBlock block
    → slice_get (items_of (folded_of block)) ordinal ≡ Some (name ++ mark ∷ value) → IsOneLine new → StaysOne block (at_mark mark) new
mark_part block ordinal name value mark new single there line =
    exchanged_part block ordinal (name ++ mark ∷ value) name (mark ∷ []) value (at_mark mark) new single there refl refl line

-- another mark in the place of one
marked : (block : List ℕ) (ordinal : ℕ) (name value : List PlacedByte) (mark : PlacedByte) (n : ℕ) → OneBlock block
    → slice_get (items_of (folded_of block)) ordinal ≡ Some (name ++ mark ∷ value)
    → fault_at block ordinal ≡ Some code.WrongKind → IsPut (bytes name) → IsOfMark mark.0 → IsOfMark n → IsAccepted (bytes name ++ n ∷ bytes value)
    → LosesFault block (exchanged block (at_mark mark) (n ∷ [])) ordinal × StaysOne block (at_mark mark) (n ∷ [])
marked block ordinal name value mark n single there had put old new is =
    let replaces = byte_replaces name mark value (at_mark mark) n refl put.plain (old.plain, tt) (new.plain, tt) old.other new.other new.visible
    (item_goes (folded_of block) ordinal (name ++ mark ∷ value) there) in
    let changes = item_changes block ordinal (name ++ mark ∷ value) (at_mark mark) (n ∷ []) (bytes name ++ n ∷ bytes value) single there replaces in (
      loses_kind block (exchanged block (at_mark mark) (n ∷ [])) ordinal (bytes name ++ n ∷ bytes value) had changes is,
      mark_part block ordinal name value mark (n ∷ []) single there (plain_line (n ∷ []) (new.plain, tt)),
    )

-- the sign of each kind
by_kind : (block : List ℕ) (ordinal : ℕ) (edit : EditSeen) (kind : Kind) (item : List PlacedByte) (s : IsSigned item edit) → OneBlock block
    → slice_get (items_of (folded_of block)) ordinal ≡ Some (s.name ++ s.mark ∷ s.value) → fault_at block ordinal ≡ Some code.WrongKind
    → s.capability.kind ≡ kind
    → Contains (sign_at kind s.mark.1 (sign_for kind (bytes (without_end s.value)) (bytes s.value))) edit → LosesFault block (block_after block edit) ordinal × Stays block edit
by_kind block ordinal edit Flag item s single there had kind has =
    let name = bytes s.name in
    elim (cases_Bool (is_empty (bytes (without_end s.value)))) [
      | inr f ↦ absurd (no_edit edit (rw f at has))
      | inl t ↦
          let one : EditSeen = record { advice = advises_sign Flag; part = at_mark s.mark; text = [] } in
          let put = capability_put name s.capability s.named in
          let out = taken_out block ordinal s.name s.value s.mark single put (empty_end s.value t) there in
          let on = front_enabled name (s.mark.0 ∷ bytes s.value) out.end (λ e. (flag_ends name s.capability s.named kind).1 (ap (last_byte 64) e)) s.on in
          subst (λ (e : EditSeen). LosesFault block (block_after block e) ordinal × Stays block e) (only_edit one edit (rw t at has)) (
            loses_kind block (block_after block one) ordinal (name ++ out.end) had out.changes
                (flag_accepted name out.end s.capability s.none out.are on s.named kind),
            mark_part block ordinal s.name s.value s.mark [] single there tt,
          )
    ]
by_kind block ordinal edit Number item s single there had kind has =
    let name = bytes s.name in
    let value = bytes s.value in
    let written = bytes (without_end s.value) in
    elim (cases_Bool (is_number written)) [
      | inr f ↦ absurd (no_edit edit (rw f at has))
      | inl t ↦
          let one : EditSeen = record { advice = advises_sign Number; part = at_mark s.mark; text = codes "#" } in
          subst (λ (e : EditSeen). LosesFault block (block_after block e) ordinal × Stays block e) (only_edit one edit (rw t at has))
          (marked block ordinal s.name s.value s.mark 35 single there had (capability_put name s.capability s.named) (of_mark s.mark.0 s.is) (of_mark 35 refl)
          (number_accepted name value s.capability s.none (mark_enabled name (s.mark.0 ∷ value) value 35 refl s.on) s.named kind
          (number_ends s.value (and_parts (list_all is_digit written) (is_ok (number_read written)) t).1)))
    ]
by_kind block ordinal edit Text item s single there had kind has =
    let name = bytes s.name in
    let value = bytes s.value in
    elim (cases_Bool (is_empty (bytes (without_end s.value)))) [
      | inl t ↦ absurd (no_edit edit (rw t at has))
      | inr f ↦
          elim (cases_Bool (can_be_read value)) [
            | inr bad ↦ absurd (no_edit edit (rw (f, bad) at has))
            | inl can ↦
                let one : EditSeen = record { advice = advises_sign Text; part = at_mark s.mark; text = codes "=" } in
                subst (λ (e : EditSeen). LosesFault block (block_after block e) ordinal × Stays block e) (only_edit one edit (rw (f, can) at has))
                (marked block ordinal s.name s.value s.mark 61 single there had (capability_put name s.capability s.named) (of_mark s.mark.0 s.is)
                (of_mark 61 refl)
                (text_accepted name value s.capability s.none (mark_enabled name (s.mark.0 ∷ value) value 61 refl s.on) s.named kind can))
          ]
    ]

pub signs_heal : (block : List ℕ) (ordinal : ℕ) (item : List PlacedByte) (edit : EditSeen) → OneBlock block
    → slice_get (items_of (folded_of block)) ordinal ≡ Some item
    → fault_at block ordinal ≡ Some code.WrongKind → Contains (kind_signs item) edit → LosesFault block (block_after block edit) ordinal × Stays block edit
    × Fits item edit
signs_heal block ordinal item edit single there had has =
    let s = signed_item item edit (refused_item block ordinal item code.WrongKind there had (λ e. cc)) has in
    let healed = by_kind block ordinal edit s.capability.kind item s single (there ∙ ap (λ (i : List PlacedByte). Some i) s.whole) had refl s.has in
    (healed.0, healed.1, sign_fits s.capability.kind (bytes (without_end s.value)) (bytes s.value) s.name s.value item s.mark edit s.whole s.has)
