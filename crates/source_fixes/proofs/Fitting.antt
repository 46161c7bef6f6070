-- What each edit that is offered for an item exchanges: one byte of the item, or a part of it for a
-- text that keeps the item one; and its new text prints.
use Rattle.std.proofs.Common.{◌≡◌, ◌⊎◌, ℕ, suc, ◌&&◌, Contains, List, [], ◌∷◌, ◌++◌, Option, None, Some, codes, nat_le, inl, inr, refl, ap₂, subst}
use Rattle.std.proofs.lemmas.Bool.{cases_Bool}
use Rattle.ti_caps.specs.declared.capability.Kind.{Kind}
use Rattle.ti_caps.specs.declared.capability.Kind.TheVariants.{Flag, Number, Text}
use Rattle.ti_spelling.specs.Spelling.{spelling_of}
use Rattle.ti_text.specs.Texts.{is_empty}
use Rattle.ti_source.specs.Folding.{PlacedByte}
use Rattle.source_spans.specs.Replacing.{Replaces}
use Rattle.source_spans.specs.declared.parts.Part.{Part}
use Rattle.source_edits.specs.Carets.{can_be_read}
use Rattle.source_edits.specs.Edits.{EditSeen, advises_sign, advises_spelling, is_number, sign_at, sign_for, spelling_in}
use Rattle.source_edits.specs.Shown.{shown, shown_byte}
use Rattle.source_edits.proofs.Exchanging.{no_edit, only_edit}

-- ---- texts that print

again : (byte : ℕ) → shown_byte (shown_byte byte) ≡ shown_byte byte
again byte =
    elim (cases_Bool (nat_le 32 byte && nat_le byte 126)) [
      | inl t ↦ rw t (rw t refl)
      | inr f ↦ rw f refl
    ]

-- what is shown is shown as it is
pub shown_again : (text : List ℕ) → shown (shown text) ≡ shown text
shown_again [] = refl
shown_again (byte ∷ text) = ap₂ (λ (b : ℕ) (t : List ℕ). b ∷ t) (again byte) (shown_again text)

pub printed_spelling : (value : List ℕ) (part : Option Part) (edit : EditSeen) → Contains (spelling_in value part) edit → shown edit.text ≡ edit.text
printed_spelling value None edit has = absurd (no_edit edit has)
printed_spelling value (Some part) edit has =
    let one : EditSeen = record { advice = advises_spelling; part = part; text = shown (spelling_of value) } in
    subst (λ (e : EditSeen). shown e.text ≡ e.text) (only_edit one edit has) (shown_again (spelling_of value))

-- ---- what is exchanged

-- one byte of an item
pub record IsOne (item : List PlacedByte) (edit : EditSeen) : Type 0 where
  pub front : List PlacedByte
  pub byte : PlacedByte
  pub back : List PlacedByte
  pub whole : item ≡ front ++ byte ∷ back
  pub there : edit.part ≡ record { start = byte.1; end = suc byte.1 }

pub record Fits (item : List PlacedByte) (edit : EditSeen) : Type 0 where
  pub printed : shown edit.text ≡ edit.text
  pub how : IsOne item edit ⊎ ((text : List ℕ) × Replaces item edit.part edit.text text)

-- ---- a sign

of_sign : (kind : Kind) (text : List ℕ) (name rest item : List PlacedByte) (mark : PlacedByte) (edit : EditSeen) → item ≡ name ++ mark ∷ rest
    → shown text ≡ text → record { advice = advises_sign kind; part = record { start = mark.1; end = suc mark.1 }; text = text } ≡ edit → Fits item edit
of_sign kind text name rest item mark edit whole printed same =
    subst (Fits item) same
    (record { printed = printed; how = inl (record { front = name; byte = mark; back = rest; whole = whole; there = refl }) })

pub sign_fits : (kind : Kind) (value raw : List ℕ) (name rest item : List PlacedByte) (mark : PlacedByte) (edit : EditSeen) → item ≡ name ++ mark ∷ rest
    → Contains (sign_at kind mark.1 (sign_for kind value raw)) edit → Fits item edit
sign_fits Flag value raw name rest item mark edit whole has =
    let one : EditSeen = record { advice = advises_sign Flag; part = record { start = mark.1; end = suc mark.1 }; text = [] } in
    elim (cases_Bool (is_empty value)) [
      | inr f ↦ absurd (no_edit edit (rw f at has))
      | inl t ↦ of_sign Flag [] name rest item mark edit whole refl (only_edit one edit (rw t at has))
    ]
sign_fits Number value raw name rest item mark edit whole has =
    let one : EditSeen = record { advice = advises_sign Number; part = record { start = mark.1; end = suc mark.1 }; text = codes "#" } in
    elim (cases_Bool (is_number value)) [
      | inr f ↦ absurd (no_edit edit (rw f at has))
      | inl t ↦ of_sign Number (codes "#") name rest item mark edit whole refl (only_edit one edit (rw t at has))
    ]
sign_fits Text value raw name rest item mark edit whole has =
    let one : EditSeen = record { advice = advises_sign Text; part = record { start = mark.1; end = suc mark.1 }; text = codes "=" } in
    elim (cases_Bool (is_empty value)) [
      | inl t ↦ absurd (no_edit edit (rw t at has))
      | inr f ↦
          elim (cases_Bool (can_be_read raw)) [
            | inr bad ↦ absurd (no_edit edit (rw (f, bad) at has))
            | inl can ↦ of_sign Text (codes "=") name rest item mark edit whole refl (only_edit one edit (rw (f, can) at has))
          ]
    ]
