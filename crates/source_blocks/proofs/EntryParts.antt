-- Whether an entry has a value, as it is read.
use Rattle.std.proofs.Common.{◌≡◌, ℕ, ◌==◌, true, false, cond, List, Option, Some, None, slice_get, refl, sym, ap, ◌∙◌}
use Rattle.std.specs.Prelude.{is_some, nat_lt, option_and_then, slice_index}
use Rattle.ti_caps.specs.Tables.{Capability}
use Rattle.ti_caps.specs.declared.capability.Kind.{Kind}
use Rattle.ti_caps.specs.declared.capability.Kind.TheVariants.{Flag, Number, Text}
use Rattle.ti_layout.specs.Image.{is_there}
use Rattle.ti_layout.specs.Layout.{first_negative}
use Rattle.ti_layout.specs.Reading.{numbers_in, says, stored_flag, stored_number, stored_text, text_from}
use Rattle.ti_layout.specs.Values.{content_true, content_number, content_text}
use Rattle.ti_layout.specs.View.{shown_flag, shown_number, shown_text, view_contents}
use Rattle.ti_layout.specs.declared.layout.Format.{Format}
use Rattle.ti_layout.specs.declared.layout.Format.TheVariants.{Legacy}
use Rattle.ti_layout.specs.declared.view.View.{View}

flag_stored : (byte : ℕ) → shown_flag (stored_flag byte) ≡ is_there (stored_flag byte)
flag_stored byte =
    elim (byte == 1) as (λ b. shown_flag (cond b (Some content_true) None) ≡ is_there (cond b (Some content_true) None)) [ true ↦ refl | false ↦ refl ]

number_stored : (format : Format) (found : Option ℕ) → is_some (shown_number (option_and_then (stored_number format) found))
    ≡ is_there (option_and_then (stored_number format) found)
number_stored format None = refl
number_stored format (Some n) = elim (nat_lt n (first_negative format))
    as (λ b. is_some (shown_number (cond b (Some (content_number n)) None)) ≡ is_there (cond b (Some (content_number n)) None)) [ true ↦ refl | false ↦ refl ]

text_stored : (strings : List ℕ) (found : Option ℕ) → is_some (shown_text (option_and_then (stored_text strings) found))
    ≡ is_there (option_and_then (stored_text strings) found)
text_stored strings None = refl
text_stored strings (Some n) = elim (nat_lt n (first_negative Legacy))
    as (λ b. is_some (shown_text (cond b (Some (content_text (text_from strings n))) None))
    ≡ is_there (cond b (Some (content_text (text_from strings n))) None)) [ true ↦ refl | false ↦ refl ]

pub flag_is : (v : View) (c : Capability) → c.kind ≡ Flag → shown_flag (view_contents v c) ≡ is_there (view_contents v c)
flag_is v c e =
    let said = λ (k : Kind). says v.format v.flags.now (numbers_in v.format v.numbers.now) (numbers_in Legacy v.offsets.now) v.strings.now k c.index in
    ap (λ (k : Kind). shown_flag (said k)) e ∙ flag_stored (slice_index v.flags.now c.index) ∙ sym (ap (λ (k : Kind). is_there (said k)) e)

pub number_is : (v : View) (c : Capability) → c.kind ≡ Number → is_some (shown_number (view_contents v c)) ≡ is_there (view_contents v c)
number_is v c e =
    let said = λ (k : Kind). says v.format v.flags.now (numbers_in v.format v.numbers.now) (numbers_in Legacy v.offsets.now) v.strings.now k c.index in
    ap (λ (k : Kind). is_some (shown_number (said k))) e ∙ number_stored v.format (slice_get (numbers_in v.format v.numbers.now) c.index)
    ∙ sym (ap (λ (k : Kind). is_there (said k)) e)

pub text_is : (v : View) (c : Capability) → c.kind ≡ Text → is_some (shown_text (view_contents v c)) ≡ is_there (view_contents v c)
text_is v c e =
    let said = λ (k : Kind). says v.format v.flags.now (numbers_in v.format v.numbers.now) (numbers_in Legacy v.offsets.now) v.strings.now k c.index in
    ap (λ (k : Kind). is_some (shown_text (said k))) e ∙ text_stored v.strings.now (slice_get (numbers_in Legacy v.offsets.now) c.index)
    ∙ sym (ap (λ (k : Kind). is_there (said k)) e)
