-- A string with an odd escape, as it is spelled.
use Rattle.std.proofs.Common.{◌≡◌, ◌≢◌, ℕ, suc, ◌<◌, ◌==◌, ◌||◌, Bool, true, false, cond, Contains, List, [], ◌∷◌, ◌++◌, Some, append_assoc, refl, sym, ap}
use Rattle.std.proofs.Common.{ap₂, subst, inl, inr, arith, ◌∙◌}
use Rattle.std.specs.Str.{bytes_eq}
use Rattle.std.proofs.lemmas.Bool.{agree_below_at, cases_Bool, eqb-true}
use Rattle.std.proofs.lemmas.List.{append-nil, map-append}
use Rattle.std.proofs.lemmas.List.Elements.{All-tail}
use Rattle.std.proofs.lemmas.Slice.Eq.{bytes_eq-Decides}
use Rattle.ti_text.specs.Texts.{AreBytes, is_empty, last_byte}
use Rattle.ti_caps.specs.Tables.{Capability, capability_named}
use Rattle.ti_caps.specs.declared.capability.Kind.TheVariants.{Text}
use Rattle.ti_spelling.specs.Spelling.{Spells, ValuesAreSound, WrittenSpells, byte_text, is_percent, spelling_of, written_from}
use Rattle.ti_source.specs.Folding.{PlacedByte}
use Rattle.ti_source.specs.Items.{HasNoMark, IsEnabled, Statement, bytes, claims_text, is_mark, text_item}
use Rattle.ti_source.specs.Reading.{said_text}
use Rattle.ti_source.specs.Verdicts.{accepted, accepted_odd, is_import}
use Rattle.ti_spelling.specs.WhiteSpace.{without_trailing_space}
use Rattle.ti_source.specs.Stating.{plain_statement, statement_by_mark, statement_with_value}
use Rattle.ti_source.proofs.JudgingLaws.{judged_text}
use Rattle.ti_source.proofs.TextLemmas.{last_byte-push}
use Rattle.source_spans.specs.Parts.{end_of, spanned}
use Rattle.source_edits.specs.Edits.{EditSeen, advises_spelling, keeps_return, spelled, spelling_in, spellings}
use Rattle.source_edits.specs.Laws.{IsInOrder, IsRead, SpellingsReadBack, edited}
use Rattle.source_edits.specs.Pieces.{without_last}
use Rattle.source_edits.specs.Shown.{shown, shown_byte}
use Rattle.source_edits.proofs.Exchanging.{edited_at, no_edit, only_edit}
use Rattle.source_edits.proofs.Marks.{MarkSays, bytes_cut, cut_at_mark, has_mark, has_none, mark_enabled, mark_says, no_mark_left, value_cut}
use Rattle.source_edits.proofs.Returns.{EndsWithReturn, cut_last, front_of_value, raw_returns, spells_pushed, value_returns}
use Rattle.source_edits.proofs.Verdicts.{odd_text, read_states}

-- ---- a spelling prints, so it is shown as it is

prints : (percent edge : Bool) (byte : ℕ) → Bool
prints percent edge byte = bytes_eq (shown (byte_text percent edge byte)) (byte_text percent edge byte)

prints_each : (percent edge : Bool) (byte : ℕ) → byte < 256 → prints percent edge byte ≡ true
unfolding prints byte_text
prints_each true true byte below = agree_below_at (prints true true) (λ b. true) 256 byte refl below
prints_each true false byte below = agree_below_at (prints true false) (λ b. true) 256 byte refl below
prints_each false true byte below = agree_below_at (prints false true) (λ b. true) 256 byte refl below
prints_each false false byte below = agree_below_at (prints false false) (λ b. true) 256 byte refl below

text_shown : (percent edge : Bool) (byte : ℕ) → byte < 256 → shown (byte_text percent edge byte) ≡ byte_text percent edge byte
unfolding prints
text_shown percent edge byte below =
    (bytes_eq-Decides (shown (byte_text percent edge byte)) (byte_text percent edge byte)).0 (prints_each percent edge byte below)

pub written_shown : (first : Bool) (before : ℕ) (value : List ℕ) → AreBytes value → shown (written_from first before value) ≡ written_from first before value
written_shown first before [] are = refl
written_shown first before (x ∷ xs) are =
    let text = byte_text (is_percent before) (first || is_empty xs) x in
    map-append shown_byte text (written_from false x xs)
    ∙ (rw (text_shown (is_percent before) (first || is_empty xs) x (are 0 0 (omega arith)), written_shown false x xs (All-tail (λ b. b < 256) x xs are)) refl)

-- ---- the value in the item

bytes_after : (front rest : List ℕ) → AreBytes (front ++ rest) → AreBytes rest
bytes_after [] rest are = are
bytes_after (x ∷ xs) rest are = bytes_after xs rest (All-tail (λ b. b < 256) x (xs ++ rest) are)

-- the new text in the value, before what is left of it
pub spelled_in : (name : List PlacedByte) (mark v : PlacedByte) (vs back : List PlacedByte) (value : List ℕ) (edit : EditSeen)
    → IsInOrder (name ++ mark ∷ ((v ∷ vs) ++ back))
    → Contains (spelling_in value (spanned (v ∷ vs))) edit → edited (name ++ mark ∷ ((v ∷ vs) ++ back)) edit ≡ bytes name ++ mark.0
    ∷ (shown (spelling_of value) ++ bytes back)
spelled_in name mark v vs back value edit order has =
    let one : EditSeen = record { advice = advises_spelling; part = record { start = v.1; end = end_of (suc v.1) vs }; text = shown (spelling_of value) } in
    let front = name ++ mark ∷ [] in
    let whole : name ++ mark ∷ ((v ∷ vs) ++ back) ≡ front ++ ((v ∷ vs) ++ back) = sym (append_assoc name (mark ∷ []) ((v ∷ vs) ++ back)) in
    ap (edited (name ++ mark ∷ ((v ∷ vs) ++ back))) (sym (only_edit one edit has)) ∙ ap (λ (t : List PlacedByte). edited t one) whole
    ∙ edited_at one front (v ∷ vs) back (subst IsInOrder whole order) refl
    ∙ ap (λ (t : List ℕ). t ++ (one.text ++ bytes back)) (bytes_cut name [] mark) ∙ append_assoc (bytes name) (mark.0 ∷ []) (one.text ++ bytes back)

Reads : Capability → List ℕ → List ℕ → Type 0
Reads c value text = IsRead text (accepted (said_text c value))

-- a text that spells the value is read as it
read_as : (name raw rest now value : List ℕ) (c : Capability) → HasNoMark name → IsEnabled (name ++ rest) → is_import name (claims_text raw) ≡ false
    → capability_named name ≡ Some c → c.kind ≡ Text → Spells now value false → Reads c value (name ++ 61 ∷ now)
unfolding Reads
read_as name raw rest now value c none on other named kind spells = record {
  statement = record { name = name; claim = claims_text now };
  states = text_item name now none (mark_enabled name rest now 61 refl on);
  judges = judged_text name now value c other named kind spells;
}

-- ---- each item

pub plain_claim : (text raw : List ℕ) → (plain_statement text).claim ≡ claims_text raw → ⊥
plain_claim text raw e = elim (cases_Bool (last_byte 0 text == 64)) [ inl t ↦ let no = rw t at e in cc | inr f ↦ let no = rw f at e in cc ]

pub text_claim : (name value raw : List ℕ) (mark : ℕ) → is_mark mark ≡ true → (statement_with_value name mark value).claim ≡ claims_text raw → (mark ≡ 61)
    × (value ≡ raw)
text_claim name value raw mark is e =
    elim (cases_Bool (mark == 35)) [
      | inl t ↦ let no = rw t at e in cc
      | inr f ↦ (eqb-true mark 61 (rw f at is), let same = rw f at e in cc)
    ]

-- what is exchanged for a spelling: all of the value as it is written, or all but the CR at its end
pub data IsSpelled : (raw : List PlacedByte) (value : List ℕ) (edit : EditSeen) → Type 0 where
  spelled_whole : {value : List ℕ} {edit : EditSeen} (v : PlacedByte) (vs : List PlacedByte) → Contains (spelling_in value (spanned (v ∷ vs))) edit
      → IsSpelled (v ∷ vs) value edit
  spelled_front : {value : List ℕ} {edit : EditSeen} (v : PlacedByte) (vs : List PlacedByte) (x : PlacedByte) → x.0 ≡ 13 → EndsWithReturn value
      → Contains (spelling_in (without_last value) (spanned (v ∷ vs))) edit → IsSpelled ((v ∷ vs) ++ x ∷ []) value edit

spelled_part : (front : List PlacedByte) (x : PlacedByte) (value : List ℕ) (edit : EditSeen) → x.0 ≡ 13 → EndsWithReturn value
    → Contains (spelling_in (without_last value) (spanned front)) edit
    → IsSpelled (front ++ x ∷ []) value edit
spelled_part [] x value edit return ends has = absurd (no_edit edit has)
spelled_part (v ∷ vs) x value edit return ends has = spelled_front v vs x return ends has

by_return : (v : PlacedByte) (vs : List PlacedByte) (value : List ℕ) (edit : EditSeen) (b : Bool) → keeps_return (bytes (v ∷ vs)) value ≡ b
    → Contains (cond b (spelling_in (without_last value) (spanned (without_last (v ∷ vs)))) (spelling_in value (spanned (v ∷ vs)))) edit
    → IsSpelled (v ∷ vs) value edit
by_return v vs value edit false keeps has = spelled_whole v vs has
by_return v vs value edit true keeps has =
    let raw = v ∷ vs in
    let cut = cut_last PlacedByte v vs in
    let last : last_byte 0 (bytes raw) ≡ cut.0.0 =
    ap (last_byte 0) (ap bytes cut.1 ∙ map-append (λ (y : PlacedByte). y.0) (without_last raw) (cut.0 ∷ []))
    ∙ last_byte-push 0 (bytes (without_last raw)) cut.0.0 in
    subst (λ (r : List PlacedByte). IsSpelled r value edit) (sym cut.1)
    (spelled_part (without_last raw) cut.0 value edit (sym last ∙ raw_returns (bytes raw) value keeps) (value_returns (bytes raw) value keeps) has)

is_spelled : (raw : List PlacedByte) (value : List ℕ) (edit : EditSeen) → Contains (spelled raw value) edit → IsSpelled raw value edit
is_spelled [] value edit has = absurd (no_edit edit has)
is_spelled (v ∷ vs) value edit has = by_return v vs value edit (keeps_return (bytes (v ∷ vs)) value) refl has

-- the value, or all of it but the CR at its end, as it is spelled
in_value : ValuesAreSound → WrittenSpells → (name raw : List PlacedByte) (mark : PlacedByte) (c : Capability) (value : List ℕ) (edit : EditSeen)
    → HasNoMark (bytes name)
    → mark.0 ≡ 61 → IsInOrder (name ++ mark ∷ raw) → IsEnabled (bytes name ++ mark.0 ∷ bytes raw) → AreBytes (bytes raw)
    → is_import (bytes name) (claims_text (bytes raw)) ≡ false
    → capability_named (bytes name) ≡ Some c → c.kind ≡ Text → Spells (bytes raw) value true → IsSpelled raw value edit
    → Reads c value (edited (name ++ mark ∷ raw) edit)
in_value sound writes name _ mark c value edit none is order on are other named kind spells (spelled_whole v vs has) =
    let raw = v ∷ vs in
    let known = sound (bytes raw) value true spells in
    let value_bytes = known.bytes are in
    let order_too = subst (λ (r : List PlacedByte). IsInOrder (name ++ mark ∷ r)) (sym (append-nil raw)) order in
    let text : edited (name ++ mark ∷ raw) edit ≡ bytes name ++ 61 ∷ spelling_of value =
    ap (λ (r : List PlacedByte). edited (name ++ mark ∷ r) edit) (sym (append-nil raw)) ∙ spelled_in name mark v vs [] value edit order_too has
    ∙ ap₂ (λ (m : ℕ) (t : List ℕ). bytes name ++ m ∷ t) is (append-nil (shown (spelling_of value)) ∙ written_shown true 0 value value_bytes) in
    subst (Reads c value) (sym text)
    (read_as (bytes name) (bytes raw) (mark.0 ∷ bytes raw) (spelling_of value) value c none on other named kind (writes value value_bytes known.no_nul))
in_value sound writes name _ mark c value edit none is order on are other named kind spells (spelled_front v vs x return ends has) =
    let raw = (v ∷ vs) ++ x ∷ [] in
    let known = sound (bytes raw) value true spells in
    let front = without_last value in
    let front_bytes = front_of_value (λ b. b < 256) value ends (known.bytes are) in
    let now = spelling_of front ++ 13 ∷ [] in
    let text : edited (name ++ mark ∷ raw) edit ≡ bytes name ++ 61 ∷ now =
    spelled_in name mark v vs (x ∷ []) front edit order has
    ∙ ap₂ (λ (m : ℕ) (t : List ℕ). bytes name ++ m ∷ t) is (ap₂ (λ (t : List ℕ) (b : ℕ). t ++ b ∷ []) (written_shown true 0 front front_bytes) return) in
    let reads = spells_pushed (spelling_of front) front (writes front front_bytes (front_of_value (λ b. b ≢ 0) value ends known.no_nul)) in
    subst (Reads c value) (sym text)
    (read_as (bytes name) (bytes raw) (mark.0 ∷ bytes raw) now value c none on other named kind
    (subst (λ (t : List ℕ). Spells now t false) (sym ends.whole) reads))

-- an item with an odd escape, with a spelling that is offered for its value
pub record IsOdd (item : List PlacedByte) (c : Capability) (value : List ℕ) (edit : EditSeen) : Type 0 where
  pub name : List PlacedByte
  pub raw : List PlacedByte
  pub mark : PlacedByte
  pub whole : item ≡ name ++ mark ∷ raw
  pub none : HasNoMark (bytes name)
  pub is : mark.0 ≡ 61
  pub on : IsEnabled (bytes name ++ mark.0 ∷ bytes raw)
  pub are : AreBytes (bytes raw)
  pub other : is_import (bytes name) (claims_text (bytes raw)) ≡ false
  pub named : capability_named (bytes name) ≡ Some c
  pub kind : c.kind ≡ Text
  pub spells : Spells (bytes raw) value true
  pub has : IsSpelled raw value edit

by_marks : (item : List PlacedByte) (c : Capability) (value : List ℕ) (edit : EditSeen) → MarkSays item → AreBytes (bytes item)
    → IsRead (bytes item) (accepted_odd (said_text c value)) → Contains (spellings item value) edit → IsOdd item c value edit
by_marks _ c value edit (has_mark name raw mark none is) are read has =
    let text = bytes name ++ mark.0 ∷ bytes raw in
    let joined : bytes (name ++ mark ∷ raw) ≡ text = bytes_cut name raw mark in
    let moved : IsRead text (accepted_odd (said_text c value)) = subst (λ (t : List ℕ). IsRead t (accepted_odd (said_text c value))) joined read in
    let odd = odd_text moved.statement.name moved.statement.claim c value moved.judges in
    let stated = read_states text (accepted_odd (said_text c value)) moved in
    let cut = cut_at_mark (bytes name) (bytes raw) mark.0 none is in
    let states : moved.statement ≡ statement_with_value (bytes name) mark.0 (bytes raw) =
    stated.1 ∙ ap (statement_by_mark text) cut.1 ∙ ap (λ (n : List ℕ). statement_with_value n mark.0 (bytes raw)) cut.0 in
    let named : moved.statement.name ≡ bytes name = ap (λ (s : Statement). s.name) states in
    let claim = text_claim (bytes name) (bytes raw) odd.raw mark.0 is (ap (λ (s : Statement). s.claim) (sym states) ∙ odd.claims) in
    record {
      name = name;
      raw = raw;
      mark = mark;
      whole = refl;
      none = none;
      is = claim.0;
      on = stated.0;
      are = All-tail (λ b. b < 256) mark.0 (bytes raw) (bytes_after (bytes name) (mark.0 ∷ bytes raw) (subst AreBytes joined are));
      other = ap (λ (n : List ℕ). is_import n (claims_text odd.raw)) (sym named) ∙ odd.other;
      named = ap capability_named (sym named) ∙ odd.named;
      kind = odd.kind;
      spells = subst (λ (r : List ℕ). Spells r value true) (sym claim.1) odd.spells;
      has = is_spelled raw value edit (subst (λ (r : List PlacedByte). Contains (spelled r value) edit) (value_cut name raw mark none is) has);
    }
by_marks _ c value edit (has_none item none) are read has =
    let odd = odd_text read.statement.name read.statement.claim c value read.judges in
    let core = without_trailing_space (bytes item) in
    let states : read.statement ≡ plain_statement core =
    (read_states (bytes item) (accepted_odd (said_text c value)) read).1 ∙ ap (statement_by_mark (bytes item)) (no_mark_left (bytes item) none) in
    absurd (plain_claim core odd.raw (ap (λ (s : Statement). s.claim) (sym states) ∙ odd.claims))

pub odd_item : (item : List PlacedByte) (c : Capability) (value : List ℕ) (edit : EditSeen) → AreBytes (bytes item)
    → IsRead (bytes item) (accepted_odd (said_text c value))
    → Contains (spellings item value) edit → IsOdd item c value edit
odd_item item c value edit are read has = by_marks item c value edit (mark_says item) are read has

pub spellings_read : ValuesAreSound → WrittenSpells → SpellingsReadBack
unfolding Reads
spellings_read sound writes item c value edit order are read has =
    let o = odd_item item c value edit are read has in
    subst (λ (i : List PlacedByte). Reads c value (edited i edit)) (sym o.whole)
    (in_value sound writes o.name o.raw o.mark c value edit o.none o.is (subst IsInOrder o.whole order) o.on o.are o.other o.named o.kind o.spells o.has)
