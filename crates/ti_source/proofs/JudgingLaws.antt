-- Each statement has one verdict, and it is the computed one.
use Rattle.std.proofs.Common.{◌≡◌, ◌≢◌, ℕ, ◌≤◌, Bool, true, false, List, Some, Result, Ok, Err, refl, sym, ap, ◌∙◌}
use Rattle.ti_caps.specs.Tables.{Capability, capability_named}
use Rattle.ti_caps.specs.declared.capability.Kind.TheVariants as kind
use Rattle.ti_spelling.specs.declared.spelling.UnescapeError.{UnescapeError}
use Rattle.ti_spelling.specs.declared.spelling.UnescapeError.TheVariants.{BadOctal, BadControl, BadByte, Memory}
use Rattle.ti_spelling.specs.Spelling.{Spells, SpellsAs, IsCauseOf}
use Rattle.ti_spelling.specs.inside.Spelling.{unescape_result}
use Rattle.ti_spelling.proofs.SpellingLaws.{spells_unescaped, fails_unescaped, unescaped_spells, unescaped_fails}
use Rattle.ti_text.specs.Limits.{number_max}
use Rattle.ti_spelling.specs.Numbers.{IsNumeral}
use Rattle.ti_source.specs.Items.{Claim, claims_flag, claims_number, claims_text, claims_cancel, without_outer_space}
use Rattle.ti_source.specs.Reading.{said_flag, said_number, said_text, said_cancel, said_import}
use Rattle.ti_source.specs.Verdicts.{Verdict, accepted, is_import, ReadClaim, reads_flag, reads_number, reads_text, reads_cancel, IsReadAs, flag_read}
use Rattle.ti_source.specs.Verdicts.{number_read_as, text_read_as, cancel_read, fitting_verdict, verdict_on, Judges}
use Rattle.ti_source.specs.inside.Verdicts.{read_claim, verdict_of}
use Rattle.ti_spelling.proofs.NumberLemmas.{each_text, one_reading as one_number}

-- ---- what a text spells

pub one_spelling : (raw : List ℕ) (found : Result (List ℕ × Bool) UnescapeError) → SpellsAs raw found → unescape_result raw ≡ found
one_spelling raw (Ok found) spells = spells_unescaped spells
one_spelling raw (Err cause) fails = fails_unescaped fails

spelled : (raw : List ℕ) (found : Result (List ℕ × Bool) UnescapeError) → unescape_result raw ≡ found → SpellsAs raw found
spelled raw (Ok found) e = unescaped_spells e
spelled raw (Err cause) e = unescaped_fails e

pub has_spelling : (raw : List ℕ) → SpellsAs raw (unescape_result raw)
has_spelling raw = spelled raw (unescape_result raw) refl

pub caused : (raw : List ℕ) (cause : UnescapeError) → cause ≢ Memory → IsCauseOf cause raw → unescape_result raw ≡ Err cause
caused raw BadOctal some fails = fails_unescaped fails
caused raw BadControl some fails = fails_unescaped fails
caused raw BadByte some fails = fails_unescaped fails
caused raw Memory some can = absurd (some refl)

-- ---- what a claim reads as

pub is_read : (claim : Claim) → IsReadAs claim (read_claim claim)
is_read claims_flag = flag_read
is_read (claims_number text) = number_read_as (each_text text)
is_read (claims_text value) = text_read_as (has_spelling value)
is_read claims_cancel = cancel_read

one_claim : (claim : Claim) (read : ReadClaim) → IsReadAs claim read → read ≡ read_claim claim
one_claim _ _ flag_read = refl
one_claim _ _ (number_read_as {text = text} {read = read} reads) = ap reads_number (sym (one_number text read reads))
one_claim _ _ (text_read_as {value = value} {found = found} spells) = ap (reads_text value) (sym (one_spelling value found spells))
one_claim _ _ cancel_read = refl

-- ---- the verdict

pub has_verdict : (name : List ℕ) (claim : Claim) → Judges name claim (verdict_of name claim)
has_verdict name claim = record { read = read_claim claim; is_read = is_read claim; is = refl }

pub one_verdict : (name : List ℕ) (claim : Claim) (v : Verdict) → Judges name claim v → v ≡ verdict_of name claim
one_verdict name claim v j = j.is ∙ ap (verdict_on name claim) (one_claim claim j.read j.is_read)

-- ---- verdicts that accept

named : (name : List ℕ) (claim : Claim) (read : ReadClaim) (c : Capability) → is_import name claim ≡ false → capability_named name ≡ Some c
    → fitting_verdict c read c.kind ≡ verdict_on name claim read
named name claim read c other e = rw (other, e) refl

pub judged_flag : (name : List ℕ) (c : Capability) → capability_named name ≡ Some c → c.kind ≡ kind.Flag → Judges name claims_flag (accepted (said_flag c))
judged_flag name c e is =
    record { read = reads_flag; is_read = flag_read; is = ap (fitting_verdict c reads_flag) (sym is) ∙ named name claims_flag reads_flag c refl e }

pub judged_cancel : (name : List ℕ) (c : Capability) → capability_named name ≡ Some c → Judges name claims_cancel (accepted (said_cancel c))
judged_cancel name c e = record { read = reads_cancel; is_read = cancel_read; is = named name claims_cancel reads_cancel c refl e }

pub judged_number : (name text : List ℕ) (c : Capability) (n : ℕ) → capability_named name ≡ Some c → c.kind ≡ kind.Number → IsNumeral text n → n ≤ number_max
    → Judges name (claims_number text) (accepted (said_number c n))
judged_number name text c n e is numeral small =
    record {
      read = reads_number (Ok n);
      is_read = number_read_as (numeral, small);
      is = ap (fitting_verdict c (reads_number (Ok n))) (sym is) ∙ named name (claims_number text) (reads_number (Ok n)) c refl e;
    }

pub judged_text : (name value text : List ℕ) (c : Capability) → is_import name (claims_text value) ≡ false → capability_named name ≡ Some c → c.kind ≡ kind.Text
    → Spells value text false → Judges name (claims_text value) (accepted (said_text c text))
judged_text name value text c other e is spells =
    let read : ReadClaim = reads_text value (Ok (text, false)) in
    record {
      read = read;
      is_read = text_read_as spells;
      is = ap (fitting_verdict c read) (sym is) ∙ named name (claims_text value) read c other e;
    }

pub judged_import : (name value : List ℕ) → is_import name (claims_text value) ≡ true
    → Judges name (claims_text value) (accepted (said_import (without_outer_space value)))
judged_import name value t =
    record { read = reads_text value (unescape_result value); is_read = text_read_as (has_spelling value); is = rw t refl }
