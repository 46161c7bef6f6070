-- A string with a `^` at its end that takes nothing, with a backslash before that.
use Rattle.std.proofs.Common.{◌≡◌, ℕ, suc, ◌-◌, ◌==◌, Bool, true, false, is_ok, Contains, List, [], ◌∷◌, ◌++◌, append_assoc, length, take, Option, None}
use Rattle.std.proofs.Common.{Some, Result, Ok, Err, refl, sym, ap, subst, inl, inr, arith, ◌∙◌}
use Rattle.std.specs.List.{last_or}
use Rattle.std.specs.Option.{option_and_then}
use Rattle.std.proofs.Math.Seq.{take-append_seam}
use Rattle.std.proofs.lemmas.Bool.{cases_Bool}
use Rattle.std.proofs.lemmas.List.{append-nil, length-append, map-append}
use Rattle.ti_caps.specs.Tables.{Capability, capability_named}
use Rattle.ti_caps.specs.declared.capability.Kind.{Kind}
use Rattle.ti_caps.specs.declared.capability.Kind.TheVariants.{Flag, Number, Text}
use Rattle.ti_spelling.specs.inside.Spelling.{unescape_result}
use Rattle.ti_spelling.specs.declared.spelling.UnescapeError.{UnescapeError}
use Rattle.ti_source.specs.Folding.{PlacedByte}
use Rattle.ti_source.specs.Items.{Claim, HasNoMark, IsEnabled, Statement, bytes, claims_text, text_item}
use Rattle.ti_source.specs.Reading.{Said, said_text}
use Rattle.ti_source.specs.Verdicts.{IsReadAs, ReadClaim, Verdict, cancel_read, fitting_verdict, flag_read, is_import, named_verdict, number_read_as}
use Rattle.ti_source.specs.Verdicts.{reads_cancel, reads_flag, reads_number, reads_text, refused, said_by, text_read_as, text_verdict, verdict_on}
use Rattle.ti_source.specs.declared.code.Code.TheVariants as code
use Rattle.ti_spelling.specs.declared.numbers.NumberError.{NumberError}
use Rattle.ti_spelling.specs.declared.numbers.NumberError.TheVariants.{Bad, TooLarge}
use Rattle.ti_source.specs.Stating.{plain_statement, statement_by_mark, statement_with_value}
use Rattle.ti_source.specs.inside.Verdicts.{read_claim, verdict_of}
use Rattle.ti_spelling.specs.WhiteSpace.{without_trailing_space}
use Rattle.ti_source.proofs.JudgingLaws.{has_verdict}
use Rattle.source_edits.specs.Carets.{can_be_read, caret_at, healing_caret, with_backslash}
use Rattle.source_edits.specs.Edits.{EditSeen, advises_caret, caret_in, carets}
use Rattle.source_edits.specs.Laws.{CaretsHeal, IsAccepted, IsInOrder, IsRead, edited}
use Rattle.source_edits.proofs.Exchanging.{edited_cut, no_edit, one_byte, only_edit}
use Rattle.source_edits.proofs.Marks.{MarkSays, bytes_cut, cut_at_mark, has_mark, has_none, mark_enabled, mark_says, no_mark_left, value_cut}
use Rattle.source_edits.proofs.SpellingsRead.{plain_claim, text_claim}
use Rattle.source_edits.proofs.Verdicts.{read_states}

-- ---- a string that cannot be read

-- a string capability of that name, with a value
record IsBadText (name : List ℕ) (claim : Claim) : Type 0 where
  raw : List ℕ
  capability : Capability
  claims : claim ≡ claims_text raw
  other : is_import name (claims_text raw) ≡ false
  named : capability_named name ≡ Some capability
  kind : capability.kind ≡ Text

abbrev bad : Verdict
bad = refused code.BadString

flag_not : (o : Option Capability) → bad ≡ named_verdict reads_flag o → ⊥
flag_not None e = cc
flag_not (Some d) e = at d.kind e
  where
    at : (k : Kind) → bad ≡ fitting_verdict d reads_flag k → ⊥
    at Flag e = cc
    at Number e = cc
    at Text e = cc

cancel_not : (o : Option Capability) → bad ≡ named_verdict reads_cancel o → ⊥
cancel_not None e = cc
cancel_not (Some d) e = at d.kind e
  where
    at : (k : Kind) → bad ≡ fitting_verdict d reads_cancel k → ⊥
    at Flag e = cc
    at Number e = cc
    at Text e = cc

number_not : (read : Result ℕ NumberError) (o : Option Capability) → bad ≡ named_verdict (reads_number read) o → ⊥
number_not read None e = cc
number_not read (Some d) e = at read d.kind e
  where
    at : (r : Result ℕ NumberError) (k : Kind) → bad ≡ fitting_verdict d (reads_number r) k → ⊥
    at r Flag e = cc
    at (Ok n) Number e = cc
    at (Err Bad) Number e = cc
    at (Err TooLarge) Number e = cc
    at r Text e = cc

text_kind : (d : Capability) (raw : List ℕ) (found : Result (List ℕ × Bool) UnescapeError) (k : Kind) → d.kind ≡ k
    → bad ≡ fitting_verdict d (reads_text raw found) k → d.kind ≡ Text
text_kind d raw found Flag is e = cc
text_kind d raw found Number is e = cc
text_kind d raw found Text is e = is

text_bad : (name raw : List ℕ) (found : Result (List ℕ × Bool) UnescapeError) → is_import name (claims_text raw) ≡ false → (o : Option Capability)
    → capability_named name ≡ o
    → bad ≡ named_verdict (reads_text raw found) o → IsBadText name (claims_text raw)
text_bad name raw found other None named e = absurd cc
text_bad name raw found other (Some d) named e =
    record { raw = raw; capability = d; claims = refl; other = other; named = named; kind = text_kind d raw found d.kind refl e }

bad_text : (name : List ℕ) (claim : Claim) (read : ReadClaim) → IsReadAs claim read → bad ≡ verdict_on name claim read → IsBadText name claim
bad_text name _ _ flag_read e = absurd (flag_not (capability_named name) e)
bad_text name _ _ cancel_read e = absurd (cancel_not (capability_named name) e)
bad_text name _ _ (number_read_as {text = text} {read = read} reads) e = absurd (number_not read (capability_named name) e)
bad_text name _ _ (text_read_as {value = raw} {found = found} spells) e =
    elim (cases_Bool (is_import name (claims_text raw))) [
      | inl import ↦ let no = rw import at e in absurd cc
      | inr other ↦ text_bad name raw found other (capability_named name) refl (rw other at e)
    ]

-- ---- the text that is read

accepted_text : (c : Capability) (found : Result (List ℕ × Bool) UnescapeError) → is_ok found ≡ true → (said : Said)
    × (said_by (text_verdict c found) ≡ Some said)
accepted_text c (Ok (value, true)) e = (said_text c value, refl)
accepted_text c (Ok (value, false)) e = (said_text c value, refl)
accepted_text c (Err cause) e = absurd cc

is_accepted : (name rest value : List ℕ) (c : Capability) → HasNoMark name → IsEnabled (name ++ rest)
    → ((v : List ℕ) → is_import name (claims_text v) ≡ false) → capability_named name ≡ Some c
    → c.kind ≡ Text → can_be_read value ≡ true → IsAccepted (name ++ 61 ∷ value)
is_accepted name rest value c none on other named kind read =
    let said = accepted_text c (unescape_result value) read in
    let claim : ReadClaim = read_claim (claims_text value) in
    let is : verdict_of name (claims_text value) ≡ text_verdict c (unescape_result value) =
    rw (other value) (ap (named_verdict claim) named ∙ ap (fitting_verdict c claim) kind) in
    record {
      said = said.0;
      verdict = verdict_of name (claims_text value);
      is_read = record {
        statement = record { name = name; claim = claims_text value };
        states = text_item name value none (mark_enabled name rest value 61 refl on);
        judges = has_verdict name (claims_text value);
      };
      accepts = ap said_by is ∙ said.1;
    }

-- ---- the last byte

pub data Lasts : List PlacedByte → Type 0 where
  no_byte : Lasts []
  last_byte_is : (front : List PlacedByte) (last : PlacedByte) → Lasts (front ++ last ∷ [])

lasts_more : (x : PlacedByte) (xs : List PlacedByte) → Lasts xs → Lasts (x ∷ xs)
lasts_more x _ no_byte = last_byte_is [] x
lasts_more x _ (last_byte_is front last) = last_byte_is (x ∷ front) last

pub lasts : (xs : List PlacedByte) → Lasts xs
lasts [] = no_byte
lasts (x ∷ xs) = lasts_more x xs (lasts xs)

pub last_found : (first : Option PlacedByte) (front : List PlacedByte) (last : PlacedByte) → last_or first (front ++ last ∷ []) ≡ Some last
last_found first [] last = refl
last_found first (x ∷ xs) last = last_found (Some x) xs last

with_slash : (front : List PlacedByte) (last : PlacedByte) → with_backslash (bytes (front ++ last ∷ [])) ≡ bytes front ++ 92 ∷ 94 ∷ []
with_slash front last =
    let joined : bytes (front ++ last ∷ []) ≡ bytes front ++ last.0 ∷ [] = map-append (λ (x : PlacedByte). x.0) front (last ∷ []) in
    let short : length (bytes front ++ last.0 ∷ []) - 1 ≡ length (bytes front) = omega (arith, length-append (bytes front) (last.0 ∷ [])) in
    ap with_backslash joined
    ∙ ap (λ (n : ℕ). take n (bytes front ++ last.0 ∷ []) ++ 92 ∷ 94 ∷ []) short
    ∙ ap (λ (t : List ℕ). t ++ 92 ∷ 94 ∷ []) (take-append_seam (bytes front) (last.0 ∷ []))

-- ---- each item

in_value : (name raw : List PlacedByte) (mark : PlacedByte) (edit : EditSeen) → IsInOrder (name ++ mark ∷ raw) → Lasts raw
    → Contains (caret_in (healing_caret raw)) edit
    → (can_be_read (with_backslash (bytes raw)) ≡ true) × (edited (name ++ mark ∷ raw) edit ≡ bytes name ++ mark.0 ∷ with_backslash (bytes raw))
in_value name _ mark edit order no_byte has =
    elim (cases_Bool (can_be_read (with_backslash []))) [ inl t ↦ absurd (no_edit edit (rw t at has)) | inr f ↦ absurd (no_edit edit (rw f at has)) ]
in_value name _ mark edit order (last_byte_is front last) has =
    let raw = front ++ last ∷ [] in
    let one : EditSeen = record { advice = advises_caret; part = record { start = last.1; end = suc last.1 }; text = 92 ∷ 94 ∷ [] } in
    let whole : name ++ mark ∷ raw ≡ (name ++ mark ∷ front) ++ last ∷ [] = sym (append_assoc name (mark ∷ front) (last ∷ [])) in
    let cut = edited_cut one (name ++ mark ∷ front) (last ∷ []) [] (one_byte (name ++ mark ∷ front) last [] (subst IsInOrder whole order)) in
    let text : edited (name ++ mark ∷ raw) one ≡ bytes name ++ mark.0 ∷ with_backslash (bytes raw) =
    ap (λ (t : List PlacedByte). edited t one) whole ∙ cut ∙ append-nil (bytes (name ++ mark ∷ front) ++ one.text)
    ∙ ap (λ (t : List ℕ). t ++ one.text) (bytes_cut name front mark) ∙ append_assoc (bytes name) (mark.0 ∷ bytes front) one.text
    ∙ ap (λ (t : List ℕ). bytes name ++ mark.0 ∷ t) (sym (with_slash front last)) in
    elim (cases_Bool (can_be_read (with_backslash (bytes raw)))) [
      | inr f ↦ absurd (no_edit edit (rw f at has))
      | inl t ↦
          let there : Contains (caret_in (option_and_then caret_at (last_or None raw))) edit = rw t at has in
          let here : Contains (caret_in (caret_at last)) edit =
          subst (λ (o : Option PlacedByte). Contains (caret_in (option_and_then caret_at o)) edit) (last_found None front last) there in
          elim (cases_Bool (last.0 == 94)) [
            | inr f ↦ absurd (no_edit edit (rw f at here))
            | inl c ↦ (t, ap (edited (name ++ mark ∷ raw)) (sym (only_edit one edit (rw c at here))) ∙ text)
          ]
    ]

by_marks : (item : List PlacedByte) (edit : EditSeen) → MarkSays item → IsInOrder item → IsRead (bytes item) bad → Contains (carets item) edit
    → IsAccepted (edited item edit)
by_marks _ edit (has_mark name raw mark none is) order read has =
    let text = bytes name ++ mark.0 ∷ bytes raw in
    let moved : IsRead text bad = subst (λ (t : List ℕ). IsRead t bad) (bytes_cut name raw mark) read in
    let found = bad_text moved.statement.name moved.statement.claim moved.judges.read moved.judges.is_read moved.judges.is in
    let stated = read_states text bad moved in
    let cut = cut_at_mark (bytes name) (bytes raw) mark.0 none is in
    let states : moved.statement ≡ statement_with_value (bytes name) mark.0 (bytes raw) =
    stated.1 ∙ ap (statement_by_mark text) cut.1 ∙ ap (λ (n : List ℕ). statement_with_value n mark.0 (bytes raw)) cut.0 in
    let named : moved.statement.name ≡ bytes name = ap (λ (s : Statement). s.name) states in
    let claim = text_claim (bytes name) (bytes raw) found.raw mark.0 is (ap (λ (s : Statement). s.claim) (sym states) ∙ found.claims) in
    let value = in_value name raw mark edit order (lasts raw)
    (subst (λ (r : List PlacedByte). Contains (caret_in (healing_caret r)) edit) (value_cut name raw mark none is) has) in
    let other : (v : List ℕ) → is_import (bytes name) (claims_text v) ≡ false =
    λ v. ap (λ (n : List ℕ). is_import n (claims_text v)) (sym named) ∙ found.other in
    subst IsAccepted (sym (value.1 ∙ ap (λ (m : ℕ). bytes name ++ m ∷ with_backslash (bytes raw)) claim.0))
    (is_accepted (bytes name) (mark.0 ∷ bytes raw) (with_backslash (bytes raw)) found.capability none stated.0 other
    (ap capability_named (sym named) ∙ found.named) found.kind value.0)
by_marks _ edit (has_none item none) order read has =
    let found = bad_text read.statement.name read.statement.claim read.judges.read read.judges.is_read read.judges.is in
    let core = without_trailing_space (bytes item) in
    let states : read.statement ≡ plain_statement core =
    (read_states (bytes item) bad read).1 ∙ ap (statement_by_mark (bytes item)) (no_mark_left (bytes item) none) in
    absurd (plain_claim core found.raw (ap (λ (s : Statement). s.claim) (sym states) ∙ found.claims))

pub carets_heal : CaretsHeal
carets_heal item edit order read has = by_marks item edit (mark_says item) order read has
