-- Items of capabilities of their kinds.
use Rattle.std.proofs.Common.{◌≡◌, ℕ, Bool, true, false, is_ok, List, ◌∷◌, ◌++◌, Some, Result, Ok, Err, inl, inr, refl, ap, ◌∙◌}
use Rattle.std.proofs.lemmas.Bool.{cases_Bool}
use Rattle.ti_caps.specs.Tables.{Capability, capability_named}
use Rattle.ti_caps.specs.declared.capability.Kind.TheVariants.{Flag, Number, Text}
use Rattle.ti_spelling.specs.declared.numbers.NumberError.{NumberError}
use Rattle.ti_spelling.specs.declared.spelling.UnescapeError.{UnescapeError}
use Rattle.ti_spelling.specs.inside.Numbers.{number_read as number_value}
use Rattle.ti_spelling.specs.inside.Spelling.{unescape_result}
use Rattle.ti_source.specs.Items.{Claim, HasNoMark, IsEnabled, IsWhite, cancel_item, claims_cancel, claims_flag, claims_number, claims_text, flag_item}
use Rattle.ti_source.specs.Items.{States, number_item, text_item, without_outer_space}
use Rattle.ti_source.specs.Reading.{Said, said_cancel, said_flag, said_import, said_number, said_text}
use Rattle.ti_source.specs.Verdicts.{ReadClaim, accepted, fitting_verdict, is_import, named_verdict, number_verdict, reads_flag, said_by, text_verdict}
use Rattle.ti_source.specs.inside.Verdicts.{read_claim, verdict_of}
use Rattle.ti_source.proofs.JudgingLaws.{has_verdict, judged_cancel, judged_flag}
use Rattle.source_edits.specs.Carets.{can_be_read}
use Rattle.source_edits.specs.Laws.{IsAccepted, IsOfCapability}
use Rattle.source_edits.proofs.Verdicts.{flag_ends, number_fits, text_fits}

pub flag_read : (name end : List ℕ) (c : Capability) → HasNoMark name → IsWhite end → IsEnabled (name ++ end) → capability_named name ≡ Some c
    → c.kind ≡ Flag → IsOfCapability (name ++ end)
flag_read name end c none white on named kind =
    let ends = flag_ends name c named kind in
    record {
      verdict = accepted (said_flag c);
      is_read = record {
        statement = record { name = name; claim = claims_flag };
        states = flag_item name end none white on ends.0 ends.1;
        judges = judged_flag name c named kind;
      };
      known = λ e. cc;
      of_kind = λ e. cc;
    }

pub cancel_read : (name end : List ℕ) (c : Capability) → HasNoMark name → IsWhite end → IsEnabled (name ++ 64 ∷ end) → capability_named name ≡ Some c
    → IsOfCapability (name ++ 64 ∷ end)
cancel_read name end c none white on named = record {
  verdict = accepted (said_cancel c);
  is_read = record {
    statement = record { name = name; claim = claims_cancel };
    states = cancel_item name end none white on;
    judges = judged_cancel name c named;
  };
  known = λ e. cc;
  of_kind = λ e. cc;
}

pub number_read : (name value : List ℕ) (c : Capability) → HasNoMark name → IsEnabled (name ++ 35 ∷ value) → capability_named name ≡ Some c
    → c.kind ≡ Number → IsOfCapability (name ++ 35 ∷ value)
number_read name value c none on named kind = record {
  verdict = verdict_of name (claims_number value);
  is_read = record {
    statement = record { name = name; claim = claims_number value };
    states = number_item name value none on;
    judges = has_verdict name (claims_number value);
  };
  known = (number_fits name value c named kind).0;
  of_kind = (number_fits name value c named kind).1;
}

pub text_read : (name value : List ℕ) (c : Capability) → HasNoMark name → IsEnabled (name ++ 61 ∷ value) → capability_named name ≡ Some c → c.kind ≡ Text
    → IsOfCapability (name ++ 61 ∷ value)
text_read name value c none on named kind = record {
  verdict = verdict_of name (claims_text value);
  is_read = record {
    statement = record { name = name; claim = claims_text value };
    states = text_item name value none on;
    judges = has_verdict name (claims_text value);
  };
  known = (text_fits name value c named kind).0;
  of_kind = (text_fits name value c named kind).1;
}

-- ---- with values that are read

-- an item that states this, and what it says by the verdict on that
accepted_by : (text name : List ℕ) (claim : Claim) (said : Said) → States text (Some (record { name = name; claim = claim }))
    → said_by (verdict_of name claim) ≡ Some said → IsAccepted text
accepted_by text name claim said states accepts = record {
  said = said;
  verdict = verdict_of name claim;
  is_read = record { statement = record { name = name; claim = claim }; states = states; judges = has_verdict name claim };
  accepts = accepts;
}

pub flag_accepted : (name end : List ℕ) (c : Capability) → HasNoMark name → IsWhite end → IsEnabled (name ++ end) → capability_named name ≡ Some c
    → c.kind ≡ Flag → IsAccepted (name ++ end)
flag_accepted name end c none white on named kind =
    let ends = flag_ends name c named kind in
    accepted_by (name ++ end) name claims_flag (said_flag c) (flag_item name end none white on ends.0 ends.1)
    (ap said_by (ap (named_verdict reads_flag) named ∙ ap (fitting_verdict c reads_flag) kind))

number_says : (c : Capability) (read : Result ℕ NumberError) → is_ok read ≡ true → (said : Said) × (said_by (number_verdict c read) ≡ Some said)
number_says c (Ok n) ok = (said_number c n, refl)
number_says c (Err cause) ok = absurd cc

pub number_accepted : (name value : List ℕ) (c : Capability) → HasNoMark name → IsEnabled (name ++ 35 ∷ value) → capability_named name ≡ Some c
    → c.kind ≡ Number → is_ok (number_value value) ≡ true → IsAccepted (name ++ 35 ∷ value)
number_accepted name value c none on named kind ok =
    let says = number_says c (number_value value) ok in
    let read : ReadClaim = read_claim (claims_number value) in
    accepted_by (name ++ 35 ∷ value) name (claims_number value) says.0 (number_item name value none on)
    (ap said_by (ap (named_verdict read) named ∙ ap (fitting_verdict c read) kind) ∙ says.1)

text_says : (c : Capability) (found : Result (List ℕ × Bool) UnescapeError) → is_ok found ≡ true → (said : Said)
    × (said_by (text_verdict c found) ≡ Some said)
text_says c (Ok (value, true)) ok = (said_text c value, refl)
text_says c (Ok (value, false)) ok = (said_text c value, refl)
text_says c (Err cause) ok = absurd cc

pub text_accepted : (name value : List ℕ) (c : Capability) → HasNoMark name → IsEnabled (name ++ 61 ∷ value) → capability_named name ≡ Some c
    → c.kind ≡ Text → can_be_read value ≡ true → IsAccepted (name ++ 61 ∷ value)
text_accepted name value c none on named kind can =
    let says = text_says c (unescape_result value) can in
    let read : ReadClaim = read_claim (claims_text value) in
    let is : named_verdict read (capability_named name) ≡ text_verdict c (unescape_result value) =
    ap (named_verdict read) named ∙ ap (fitting_verdict c read) kind in
    elim (cases_Bool (is_import name (claims_text value))) [
      | inl import ↦ accepted_by (name ++ 61 ∷ value) name (claims_text value) (said_import (without_outer_space value)) (text_item name value none on) (rw import refl)
      | inr other ↦ accepted_by (name ++ 61 ∷ value) name (claims_text value) says.0 (text_item name value none on) (rw other (ap said_by is ∙ says.1))
    ]
