-- What comes of what an item states.
use Rattle.std.proofs.Common.{◌≡◌, ◌≢◌, ℕ, ◌<◌, ◌==◌, ◌&&◌, not, Bool, true, false, List, [], ◌∷◌, Option, None, Some, MatchOption, Result, Ok, Err, get_or}
use Rattle.std.proofs.Common.{refl, sym, ap, subst, inl, inr, arith, ◌∙◌}
use Rattle.std.specs.List.{list_all}
use Rattle.std.proofs.lemmas.Bool.{and_parts, cases_Bool, eq-eqb, not-true}
use Rattle.std.proofs.lemmas.List.Folds.{list_all_at}
use Rattle.std.proofs.lemmas.Option.{same_Some}
use Rattle.ti_text.specs.Texts.{last_byte}
use Rattle.ti_text.specs.WhiteSpace.{is_white_space}
use Rattle.ti_caps.specs.Names.{flag_names}
use Rattle.ti_caps.specs.Tables.{Capability, IsCapability, capability_named, count_of, name_of, names}
use Rattle.ti_caps.specs.declared.capability.Kind.{Kind}
use Rattle.ti_caps.specs.declared.capability.Kind.TheVariants.{Flag, Number, Text}
use Rattle.ti_caps.proofs.Named.{named_says}
use Rattle.ti_caps.proofs.Table.{length-names}
use Rattle.ti_spelling.specs.Spelling.{Spells, SpellsAs}
use Rattle.ti_spelling.specs.declared.spelling.UnescapeError.{UnescapeError}
use Rattle.ti_source.specs.Items.{Claim, IsEnabled, Statement, claims_cancel, claims_number, claims_text}
use Rattle.ti_source.specs.Reading.{said_text}
use Rattle.ti_source.specs.Verdicts.{Judges, IsReadAs, ReadClaim, Verdict, accepted_odd, cancel_read, fitting_verdict, flag_read, is_import, named_verdict}
use Rattle.ti_source.specs.Verdicts.{number_read_as, number_verdict, reads_cancel, reads_flag, reads_number, reads_text, refused, text_read_as}
use Rattle.ti_source.specs.Verdicts.{text_verdict, verdict_on}
use Rattle.ti_source.specs.declared.code.Code.TheVariants as code
use Rattle.ti_spelling.specs.declared.numbers.NumberError.{NumberError}
use Rattle.ti_spelling.specs.declared.numbers.NumberError.TheVariants.{Bad, TooLarge}
use Rattle.ti_source.specs.Stating.{from_mark, statement_by_mark, statement_of}
use Rattle.ti_spelling.specs.inside.Numbers.{number_read}
use Rattle.ti_spelling.specs.inside.Spelling.{unescape_result}
use Rattle.ti_source.specs.inside.Verdicts.{read_claim, verdict_of}
use Rattle.ti_source.proofs.ItemLaws.{one_statement}
use Rattle.ti_source.proofs.JudgingLaws.{one_verdict}
use Rattle.source_edits.specs.Laws.{IsRead, ItemsHaveOneVerdict}

-- what an item states is computed from its text, which does not begin with a dot
pub states_by : (text : List ℕ) (s : Statement) → Some s ≡ statement_of text → IsEnabled text × (s ≡ statement_by_mark text (from_mark text))
states_by [] s e = cc
states_by (x ∷ xs) s e =
    elim (cases_Bool (x == 46)) [
      | inl t ↦ let no = rw t at e in cc
      | inr f ↦ (f, same_Some s (statement_by_mark (x ∷ xs) (from_mark (x ∷ xs))) (rw f at e))
    ]

pub read_states : (text : List ℕ) (v : Verdict) (read : IsRead text v) → IsEnabled text × (read.statement ≡ statement_by_mark text (from_mark text))
read_states text v read = states_by text read.statement (one_statement text (Some read.statement) read.states)

verdict_by : (text : List ℕ) (v : Verdict) (s : Statement) → IsRead text v → Some s ≡ statement_of text → v ≡ verdict_of s.name s.claim
verdict_by text v s read e =
    let same : read.statement ≡ s = same_Some read.statement s (one_statement text (Some read.statement) read.states ∙ sym e) in
    one_verdict read.statement.name read.statement.claim v read.judges ∙ ap (λ (t : Statement). verdict_of t.name t.claim) same

pub one_verdict_on : ItemsHaveOneVerdict
one_verdict_on text one other first second =
    let e = one_statement text (Some first.statement) first.states in
    verdict_by text one first.statement first e ∙ sym (verdict_by text other first.statement second e)

-- ---- a cancel is of any kind

cancel_named : (o : Option Capability) → named_verdict reads_cancel o ≡ refused code.WrongKind → ⊥
cancel_named None e = cc
cancel_named (Some c) e = fits c.kind e
  where
    fits : (k : Kind) → fitting_verdict c reads_cancel k ≡ refused code.WrongKind → ⊥
    fits Flag e = cc
    fits Number e = cc
    fits Text e = cc

pub cancel_fits : (name : List ℕ) → verdict_of name claims_cancel ≡ refused code.WrongKind → ⊥
cancel_fits name e = cancel_named (capability_named name) e

-- ---- a number and a string of their kinds

-- a verdict on an item of a capability of its kind
abbrev pub IsFitting : Verdict → Type 0
IsFitting verdict = (verdict ≢ refused code.UnknownCapability) × (verdict ≢ refused code.WrongKind)

number_fits_read : (c : Capability) (read : Result ℕ NumberError) → IsFitting (number_verdict c read)
number_fits_read c (Ok n) = (λ e. cc, λ e. cc)
number_fits_read c (Err Bad) = (λ e. cc, λ e. cc)
number_fits_read c (Err TooLarge) = (λ e. cc, λ e. cc)

pub number_fits : (name value : List ℕ) (c : Capability) → capability_named name ≡ Some c → c.kind ≡ Number → IsFitting (verdict_of name (claims_number value))
number_fits name value c named kind =
    let read : ReadClaim = read_claim (claims_number value) in
    let is : verdict_of name (claims_number value) ≡ number_verdict c (number_read value) = ap (named_verdict read) named ∙ ap (fitting_verdict c read) kind in
    subst IsFitting (sym is) (number_fits_read c (number_read value))

text_fits_read : (c : Capability) (found : Result (List ℕ × Bool) UnescapeError) → IsFitting (text_verdict c found)
text_fits_read c (Ok (value, true)) = (λ e. cc, λ e. cc)
text_fits_read c (Ok (value, false)) = (λ e. cc, λ e. cc)
text_fits_read c (Err cause) = (λ e. cc, λ e. cc)

pub text_fits : (name value : List ℕ) (c : Capability) → capability_named name ≡ Some c → c.kind ≡ Text → IsFitting (verdict_of name (claims_text value))
text_fits name value c named kind =
    let read : ReadClaim = read_claim (claims_text value) in
    let is : named_verdict read (capability_named name) ≡ text_verdict c (unescape_result value) =
    ap (named_verdict read) named ∙ ap (fitting_verdict c read) kind in
    elim (cases_Bool (is_import name (claims_text value))) [
      | inl import ↦ rw import (λ e. cc, λ e. cc)
      | inr other ↦ rw other (subst IsFitting (sym is) (text_fits_read c (unescape_result value)))
    ]

-- ---- the names of booleans

-- a name does not end with white space or an `@`
ends_well : List ℕ → Bool
ends_well name = not (is_white_space (last_byte 64 name)) && not (last_byte 64 name == 64)

flags_end_well : list_all ends_well (names Flag) ≡ true
unfolding names flag_names ends_well
flags_end_well = refl

ends_in : (name : List ℕ) → ends_well name ≡ true → (is_white_space (last_byte 64 name) ≡ false) × (last_byte 64 name ≢ 64)
unfolding ends_well
ends_in name well =
    let both = and_parts _ _ well in
    (not-true _ both.0, λ e. let no = not-true _ both.1 in let same = eq-eqb (last_byte 64 name) 64 e in cc)

pub flag_ends : (name : List ℕ) (c : Capability) → capability_named name ≡ Some c → c.kind ≡ Flag → (is_white_space (last_byte 64 name) ≡ false)
    × (last_byte 64 name ≢ 64)
flag_ends name c named kind =
    let says : IsCapability c × (name_of c ≡ name) =
    subst (λ (o : Option Capability). MatchOption o ((d : Capability) → IsCapability d → name_of d ≢ name) (λ d. IsCapability d × (name_of d ≡ name)))
    named (named_says name) in
    let within : c.index < 44 = subst (λ (k : Kind). c.index < count_of k) kind says.0 in
    let is : get_or (names Flag) c.index [] ≡ name = ap (λ (k : Kind). get_or (names k) c.index []) (sym kind) ∙ says.1 in
    ends_in name (subst (λ (n : List ℕ). ends_well n ≡ true) is (each_ends_well c.index within))
  where
    each_ends_well : (index : ℕ) → index < 44 → ends_well (get_or (names Flag) index []) ≡ true
    each_ends_well index within =
        elim (cases_Bool (ends_well (get_or (names Flag) index []))) [
          | inl well ↦ well
          | inr ill ↦ let no = list_all_at ends_well (names Flag) index [] (omega (arith, within, length-names Flag)) ill in let all = flags_end_well in cc
        ]

-- ---- a string with an odd escape

-- a string capability of that name, and what its value spells
pub record IsOddText (name : List ℕ) (claim : Claim) (c : Capability) (value : List ℕ) : Type 0 where
  pub raw : List ℕ
  pub claims : claim ≡ claims_text raw
  pub other : is_import name (claims_text raw) ≡ false
  pub named : capability_named name ≡ Some c
  pub kind : c.kind ≡ Text
  pub spells : Spells raw value true

pub odd_text : (name : List ℕ) (claim : Claim) (c : Capability) (value : List ℕ) → Judges name claim (accepted_odd (said_text c value))
    → IsOddText name claim c value
odd_text name claim c value judges = said_odd claim judges.read judges.is_read judges.is
  where
    flag_is_not : (o : Option Capability) → accepted_odd (said_text c value) ≡ named_verdict reads_flag o → ⊥
    flag_is_not None e = cc
    flag_is_not (Some d) e = at d.kind e
      where
        at : (k : Kind) → accepted_odd (said_text c value) ≡ fitting_verdict d reads_flag k → ⊥
        at Flag e = cc
        at Number e = cc
        at Text e = cc

    cancel_is_not : (o : Option Capability) → accepted_odd (said_text c value) ≡ named_verdict reads_cancel o → ⊥
    cancel_is_not None e = cc
    cancel_is_not (Some d) e = at d.kind e
      where
        at : (k : Kind) → accepted_odd (said_text c value) ≡ fitting_verdict d reads_cancel k → ⊥
        at Flag e = cc
        at Number e = cc
        at Text e = cc

    number_is_not : (read : Result ℕ NumberError) (o : Option Capability) → accepted_odd (said_text c value) ≡ named_verdict (reads_number read) o → ⊥
    number_is_not read None e = cc
    number_is_not read (Some d) e = at read d.kind e
      where
        at : (r : Result ℕ NumberError) (k : Kind) → accepted_odd (said_text c value) ≡ fitting_verdict d (reads_number r) k → ⊥
        at r Flag e = cc
        at (Ok n) Number e = cc
        at (Err Bad) Number e = cc
        at (Err TooLarge) Number e = cc
        at r Text e = cc

    text_is : (raw : List ℕ) (found : Result (List ℕ × Bool) UnescapeError) → SpellsAs raw found → is_import name (claims_text raw) ≡ false
        → (o : Option Capability) → capability_named name ≡ o → accepted_odd (said_text c value) ≡ named_verdict (reads_text raw found) o
        → IsOddText name (claims_text raw) c value
    text_is raw found spells other None named e = cc
    text_is raw found spells other (Some d) named e = at found d.kind spells refl e
      where
        at : (f : Result (List ℕ × Bool) UnescapeError) (k : Kind) → SpellsAs raw f → d.kind ≡ k
            → accepted_odd (said_text c value) ≡ fitting_verdict d (reads_text raw f) k → IsOddText name (claims_text raw) c value
        at f Flag s is e = cc
        at f Number s is e = cc
        at (Err cause) Text s is e = cc
        at (Ok (bytes, false)) Text s is e = cc
        at (Ok (bytes, true)) Text s is e =
            let same : d ≡ c = cc in
            let text : bytes ≡ value = cc in
            record {
              raw = raw;
              claims = refl;
              other = other;
              named = named ∙ ap (λ (x : Capability). Some x) same;
              kind = ap (λ (x : Capability). x.kind) (sym same) ∙ is;
              spells = subst (λ (v : List ℕ). Spells raw v true) text s;
            }

    said_odd : (claim : Claim) (read : ReadClaim) → IsReadAs claim read → accepted_odd (said_text c value) ≡ verdict_on name claim read
        → IsOddText name claim c value
    said_odd _ _ flag_read e = absurd (flag_is_not (capability_named name) e)
    said_odd _ _ cancel_read e = absurd (cancel_is_not (capability_named name) e)
    said_odd _ _ (number_read_as {text = text} {read = read} reads) e = absurd (number_is_not read (capability_named name) e)
    said_odd _ _ (text_read_as {value = raw} {found = found} spells) e =
        elim (cases_Bool (is_import name (claims_text raw))) [
          | inl import ↦ let no = rw import at e in cc
          | inr other ↦ text_is raw found spells other (capability_named name) refl (rw other at e)
        ]
