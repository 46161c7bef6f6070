-- An item of the wrong kind, with the sign of the right one.
use Rattle.std.proofs.Common.{◌≡◌, ◌≢◌, ℕ, append_assoc, is_ok, suc, ◌==◌, true, false, Contains, List, [], ◌∷◌, ◌++◌, Option, None, Some, codes, refl}
use Rattle.std.proofs.Common.{sym, ap, subst, inl, inr, ◌∙◌}
use Rattle.std.specs.List.{list_all}
use Rattle.std.specs.Option.{option_map_or}
use Rattle.std.proofs.lemmas.Bool.{and_parts, cases_Bool}
use Rattle.ti_text.specs.Texts.{is_empty, last_byte}
use Rattle.ti_text.specs.WhiteSpace.{is_white_space}
use Rattle.ti_spelling.specs.inside.Numbers.{number_read, value_read, within_limit}
use Rattle.ti_caps.specs.Tables.{Capability, capability_named}
use Rattle.ti_caps.specs.declared.capability.Kind.{Kind}
use Rattle.ti_caps.specs.declared.capability.Kind.TheVariants.{Flag, Number, Text}
use Rattle.ti_source.specs.Folding.{PlacedByte}
use Rattle.ti_source.specs.Items.{HasNoMark, IsEnabled, Statement, bytes, is_mark}
use Rattle.ti_source.specs.Verdicts.{refused}
use Rattle.ti_source.specs.declared.code.Code.TheVariants as code
use Rattle.ti_source.specs.Stating.{plain_statement, statement_by_mark, without_last}
use Rattle.ti_source.specs.inside.Verdicts.{verdict_of}
use Rattle.ti_spelling.specs.WhiteSpace.{without_trailing_space}
use Rattle.ti_source.proofs.JudgingLaws.{one_verdict}
use Rattle.source_spans.specs.Subjects.{without_end}
use Rattle.source_edits.specs.Carets.{can_be_read}
use Rattle.source_edits.specs.Edits.{EditSeen, advises_sign, is_digit, is_number, kind_signs, sign_at, sign_for, signs}
use Rattle.source_edits.specs.Laws.{IsAccepted, IsInOrder, IsRead, SignsFitTheKind, edited}
use Rattle.source_edits.specs.Pieces.{value_of, written_name}
use Rattle.source_edits.proofs.Exchanging.{edited_cut, no_edit, one_byte, only_edit}
use Rattle.source_edits.proofs.Marks.{MarkSays, bytes_cut, empty_end, end_bytes, has_mark, has_none, mark_enabled, mark_says, name_cut, no_mark_left, value_cut}
use Rattle.source_edits.proofs.Marks.{plain_name, rest_cut}
use Rattle.source_edits.proofs.Readings.{flag_accepted, number_accepted, text_accepted}
use Rattle.source_edits.proofs.Verdicts.{cancel_fits, flag_ends, read_states}

-- ---- an item with a mark

pub front_enabled : (name a b : List ℕ) → name ≢ [] → IsEnabled (name ++ a) → IsEnabled (name ++ b)
front_enabled [] a b some on = absurd (some refl)
front_enabled (x ∷ xs) a b some on = on

-- the sign in the item
sign_in : (kind : Kind) (name value : List PlacedByte) (mark : PlacedByte) (text : List ℕ) (edit : EditSeen) → IsInOrder (name ++ mark ∷ value)
    → Contains (sign_at kind mark.1 (Some text)) edit → edited (name ++ mark ∷ value) edit ≡ bytes name ++ (text ++ bytes value)
sign_in kind name value mark text edit order has =
    let one : EditSeen = record { advice = advises_sign kind; part = record { start = mark.1; end = suc mark.1 }; text = text } in
    ap (edited (name ++ mark ∷ value)) (sym (only_edit one edit has)) ∙ edited_cut one name (mark ∷ []) value (one_byte name mark value order)
    ∙ append_assoc (bytes name) text (bytes value)

white_again : (text : List ℕ) → list_all is_white_space (without_trailing_space text) ≡ true → list_all is_white_space text ≡ true
white_again [] e = refl
white_again (y ∷ ys) e =
    elim (cases_Bool (list_all is_white_space (y ∷ ys))) [
      | inl all ↦ all
      | inr some ↦ let both = and_parts (is_white_space y) (list_all is_white_space (without_trailing_space ys)) (rw some at e) in rw both.0 (white_again ys both.1)
    ]

not_white : (x : ℕ) (xs rest : List ℕ) → (list_all is_white_space rest ≡ true → list_all is_white_space xs ≡ true)
    → list_all is_white_space (x ∷ xs) ≡ false → without_trailing_space rest ≡ rest → without_trailing_space (x ∷ rest) ≡ x ∷ rest
not_white x xs rest again some same =
    elim (cases_Bool (list_all is_white_space (x ∷ rest))) [
      | inl all ↦ let both = and_parts (is_white_space x) (list_all is_white_space rest) all in let white = again both.1 in let no = rw (both.0, white) at some in absurd cc
      | inr f ↦ rw f (ap (λ (t : List ℕ). x ∷ t) same)
    ]

-- the white space at its end does not count in a number
twice : (text : List ℕ) → without_trailing_space (without_trailing_space text) ≡ without_trailing_space text
twice [] = refl
twice (x ∷ xs) =
    elim (cases_Bool (list_all is_white_space (x ∷ xs))) [
      | inl all ↦ rw all refl
      | inr some ↦ rw some (not_white x xs (without_trailing_space xs) (white_again xs) some (twice xs))
    ]

pub number_ends : (value : List PlacedByte) → is_ok (number_read (bytes (without_end value))) ≡ true → is_ok (number_read (bytes value)) ≡ true
number_ends value ok =
    ap (λ (t : List ℕ). is_ok (within_limit (value_read t)))
    (sym (twice (bytes value)) ∙ ap without_trailing_space (sym (end_bytes value))) ∙ ok

-- the sign of each kind
signed : (kind : Kind) (name value : List PlacedByte) (mark : PlacedByte) (c : Capability) (edit : EditSeen) → HasNoMark (bytes name)
    → IsInOrder (name ++ mark ∷ value)
    → IsEnabled (bytes name ++ mark.0 ∷ bytes value) → capability_named (bytes name) ≡ Some c → c.kind ≡ kind
    → Contains (sign_at kind mark.1 (sign_for kind (bytes (without_end value)) (bytes value))) edit → IsAccepted (edited (name ++ mark ∷ value) edit)
signed Flag name value mark c edit none order on named is has =
    elim (cases_Bool (is_empty (bytes (without_end value)))) [
      | inl t ↦ subst IsAccepted (sym (sign_in Flag name value mark [] edit order (rw t at has)))
          (flag_accepted (bytes name) (bytes value) c none (empty_end value t)
          (front_enabled (bytes name) (mark.0 ∷ bytes value) (bytes value) (λ e. (flag_ends (bytes name) c named is).1 (ap (last_byte 64) e)) on) named is)
      | inr f ↦ absurd (no_edit edit (rw f at has))
    ]
signed Number name value mark c edit none order on named is has =
    let written = bytes (without_end value) in
    elim (cases_Bool (is_number written)) [
      | inl t ↦ subst IsAccepted (sym (sign_in Number name value mark (codes "#") edit order (rw t at has)))
          (number_accepted (bytes name) (bytes value) c none (mark_enabled (bytes name) (mark.0 ∷ bytes value) (bytes value) 35 refl on) named is
          (number_ends value (and_parts (list_all is_digit written) (is_ok (number_read written)) t).1))
      | inr f ↦ absurd (no_edit edit (rw f at has))
    ]
signed Text name value mark c edit none order on named is has =
    elim (cases_Bool (is_empty (bytes (without_end value)))) [
      | inl t ↦ absurd (no_edit edit (rw t at has))
      | inr f ↦
          elim (cases_Bool (can_be_read (bytes value))) [
            | inr bad ↦ absurd (no_edit edit (rw (f, bad) at has))
            | inl can ↦
                subst IsAccepted (sym (sign_in Text name value mark (codes "=") edit order (rw (f, can) at has)))
                (text_accepted (bytes name) (bytes value) c none (mark_enabled (bytes name) (mark.0 ∷ bytes value) (bytes value) 61 refl on) named is can)
          ]
    ]

-- an item of a capability with a sign that is offered for its own
pub record IsSigned (item : List PlacedByte) (edit : EditSeen) : Type 0 where
  pub name : List PlacedByte
  pub value : List PlacedByte
  pub mark : PlacedByte
  pub capability : Capability
  pub whole : item ≡ name ++ mark ∷ value
  pub none : HasNoMark (bytes name)
  pub is : is_mark mark.0 ≡ true
  pub on : IsEnabled (bytes name ++ mark.0 ∷ bytes value)
  pub named : capability_named (bytes name) ≡ Some capability
  pub has : Contains (sign_at capability.kind mark.1 (sign_for capability.kind (bytes (without_end value)) (bytes value))) edit

by_name : (name value : List PlacedByte) (mark : PlacedByte) (edit : EditSeen) (o : Option Capability) → HasNoMark (bytes name) → is_mark mark.0 ≡ true
    → IsEnabled (bytes name ++ mark.0 ∷ bytes value) → capability_named (bytes name) ≡ o
    → Contains (option_map_or (λ (c : Capability). signs c.kind (mark ∷ without_end value) value) o []) edit → IsSigned (name ++ mark ∷ value) edit
by_name name value mark edit None none is on named has = absurd (no_edit edit has)
by_name name value mark edit (Some c) none is on named has =
    record { name = name; value = value; mark = mark; capability = c; whole = refl; none = none; is = is; on = on; named = named; has = has }

-- ---- an item with none

nothing_signed : (raw : List PlacedByte) (edit : EditSeen) (o : Option Capability) → Contains (option_map_or (λ (c : Capability). signs c.kind [] raw) o []) edit
    → ⊥
nothing_signed raw edit None has = no_edit edit has
nothing_signed raw edit (Some c) has = no_edit edit has

cancelled : (text : List ℕ) → (last_byte 0 text == 64) ≡ true → verdict_of (plain_statement text).name (plain_statement text).claim ≡ refused code.WrongKind → ⊥
cancelled text at e = cancel_fits (without_last text) (rw at at e)

-- ---- each item

by_marks : (item : List PlacedByte) (edit : EditSeen) → MarkSays item → IsRead (bytes item) (refused code.WrongKind) → Contains (kind_signs item) edit
    → IsSigned item edit
by_marks _ edit (has_mark name value mark none is) read has =
    let on : IsEnabled (bytes name ++ mark.0 ∷ bytes value) =
    subst IsEnabled (bytes_cut name value mark) (read_states (bytes (name ++ mark ∷ value)) (refused code.WrongKind) read).0 in
    let Has : (List PlacedByte) → (List PlacedByte) → (List PlacedByte) → Type 0 =
    λ n rest raw. Contains (option_map_or (λ (c : Capability). signs c.kind rest raw) (capability_named (bytes n)) []) edit in
    let item = name ++ mark ∷ value in
    let there : Has name (mark ∷ without_end value) value =
    subst (λ n. Has n (mark ∷ without_end value) value) (name_cut name value mark none is)
    (subst (λ raw. Has (written_name item) (mark ∷ without_end value) raw) (value_cut name value mark none is)
    (subst (λ rest. Has (written_name item) rest (value_of item)) (rest_cut name value mark none is) has)) in
    by_name name value mark edit (capability_named (bytes name)) none is on refl there
by_marks _ edit (has_none item none) read has =
    let core = without_trailing_space (bytes item) in
    let states : read.statement ≡ plain_statement core =
    (read_states (bytes item) (refused code.WrongKind) read).1 ∙ ap (statement_by_mark (bytes item)) (no_mark_left (bytes item) none) in
    let verdict : refused code.WrongKind ≡ verdict_of (plain_statement core).name (plain_statement core).claim =
    one_verdict read.statement.name read.statement.claim (refused code.WrongKind) read.judges ∙ ap (λ (s : Statement). verdict_of s.name s.claim) states in
    elim (cases_Bool (last_byte 0 core == 64)) [
      | inl t ↦ absurd (cancelled core t (sym verdict))
      | inr f ↦
          let plain : (last_byte 0 (bytes (without_end item)) == 64) ≡ false = ap (λ (t : List ℕ). last_byte 0 t == 64) (end_bytes item) ∙ f in
          let Has : (List PlacedByte) → Type 0 =
          λ rest. Contains (option_map_or (λ (c : Capability). signs c.kind rest (value_of item)) (capability_named (bytes (written_name item))) []) edit in
          absurd (nothing_signed (value_of item) edit (capability_named (bytes (written_name item))) (subst Has (plain_name item none plain).1 has))
    ]

pub signed_item : (item : List PlacedByte) (edit : EditSeen) → IsRead (bytes item) (refused code.WrongKind) → Contains (kind_signs item) edit
    → IsSigned item edit
signed_item item edit read has = by_marks item edit (mark_says item) read has

pub signs_fit : SignsFitTheKind
signs_fit item edit order read has =
    let s = signed_item item edit read has in
    subst (λ (i : List PlacedByte). IsAccepted (edited i edit)) (sym s.whole)
    (signed s.capability.kind s.name s.value s.mark s.capability edit s.none (subst IsInOrder s.whole order) s.on s.named refl s.has)
