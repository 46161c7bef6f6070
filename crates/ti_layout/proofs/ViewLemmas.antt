-- What a view shows of a number and of a text.
use Rattle.std.proofs.Common.{◌≡◌, ℕ, ◌-◌, ◌*◌, ◌/◌, ◌<◌, ◌≤◌, true, false, ltb, eqb, List, length, take, drop, Some, None, slice_get, sym, ap, ◌∙◌, subst}
use Rattle.std.proofs.Common.{arith}
use Rattle.std.proofs.lemmas.Bool.{lt-ltb, le-ltb}
use Rattle.std.proofs.lemmas.List.{take_all, length-drop}
use Rattle.std.specs.List.{before_first}
use Rattle.std.specs.Option.{option_and_then}
use Rattle.ti_caps.specs.declared.capability.Kind.{Kind}
use Rattle.ti_caps.specs.declared.capability.Kind.TheVariants.{Number, Text}
use Rattle.ti_caps.specs.Tables.{Capability}
use Rattle.ti_layout.specs.declared.layout.Format.{Format}
use Rattle.ti_layout.specs.declared.layout.Format.TheVariants.{Legacy}
use Rattle.ti_layout.specs.Layout.{first_negative, width}
use Rattle.ti_layout.specs.Reading.{word_at, number_at, count_in, numbers_in, stored_number, text_from, stored_text, says, contents_of}
use Rattle.ti_layout.specs.View.{shown_number, shown_text}
use Rattle.ti_layout.proofs.Below.{slice_get-below, slice_get-past_below}

-- the rest of a list, as a slice of it is seen
pub rest_of : (n : ℕ) (xs : List ℕ) → take (length xs - n) (drop n xs) ≡ drop n xs
rest_of n xs = take_all (length xs - n) (drop n xs) (omega (arith, length-drop n xs))

-- the number of a place of a section
numbers_in-there : (w : Format) (section : List ℕ) (k : ℕ) → k < count_in w section → slice_get (numbers_in w section) k
    ≡ Some (number_at w (width w * k) section)
numbers_in-there w section k lt = slice_get-below (λ i. number_at w (width w * i) section) (count_in w section) k lt

numbers_in-past : (w : Format) (section : List ℕ) (k : ℕ) → count_in w section ≤ k → slice_get (numbers_in w section) k ≡ None
numbers_in-past w section k le = slice_get-past_below (λ i. number_at w (width w * i) section) (count_in w section) k le

-- the place and the value that the code finds
pub number_place : (w : Format) (section : List ℕ) (size k i j n : ℕ) → size ≡ width w → i ≡ k → i < length section / size → j ≡ k
    → n ≡ number_at w (size * j) section
    → (k < count_in w section) × (n ≡ number_at w (width w * k) section)
number_place w section size k i j n e f lt g v =
    let within : i < length section / width w = subst (λ (x : ℕ). i < length section / x) e lt in
    (omega arith, v ∙ ap (λ (x : ℕ). number_at w (x * j) section) e ∙ ap (λ (x : ℕ). number_at w (width w * x) section) g)

module _ (w : Format) (flags numbers offsets strings : List ℕ) (c : Capability) where
  says-number : c.kind ≡ Number → contents_of w flags numbers offsets strings c ≡ option_and_then (stored_number w) (slice_get numbers c.index)
  says-number e = ap (λ (kind : Kind). says w flags numbers offsets strings kind c.index) e

  says-text : c.kind ≡ Text → contents_of w flags numbers offsets strings c ≡ option_and_then (stored_text strings) (slice_get offsets c.index)
  says-text e = ap (λ (kind : Kind). says w flags numbers offsets strings kind c.index) e

module _ (w : Format) (flags numbers offsets strings : List ℕ) (c : Capability) (is_number : c.kind ≡ Number) where
  pub number_past : count_in w numbers ≤ c.index → None ≡ shown_number (contents_of w flags (numbers_in w numbers) offsets strings c)
  number_past le = sym (ap shown_number (says-number w flags (numbers_in w numbers) offsets strings c is_number
      ∙ ap (option_and_then (stored_number w)) (numbers_in-past w numbers c.index le)))

  said : (n : ℕ) → c.index < count_in w numbers → n ≡ number_at w (width w * c.index) numbers
      → contents_of w flags (numbers_in w numbers) offsets strings c ≡ stored_number w n
  said n lt e = says-number w flags (numbers_in w numbers) offsets strings c is_number
      ∙ ap (option_and_then (stored_number w)) (numbers_in-there w numbers c.index lt) ∙ ap (stored_number w) (sym e)

  pub number_plain : (n : ℕ) → c.index < count_in w numbers → n ≡ number_at w (width w * c.index) numbers → n < first_negative w
      → Some n ≡ shown_number (contents_of w flags (numbers_in w numbers) offsets strings c)
  number_plain n lt e plain = let a : ltb n (first_negative w) ≡ true = lt-ltb _ _ plain in rw (said n lt e, a)

  pub number_void : (n : ℕ) → c.index < count_in w numbers → n ≡ number_at w (width w * c.index) numbers → first_negative w ≤ n
      → None ≡ shown_number (contents_of w flags (numbers_in w numbers) offsets strings c)
  number_void n lt e void = let a : ltb n (first_negative w) ≡ false = le-ltb _ _ void in rw (said n lt e, a)

module _ (w : Format) (flags numbers offsets strings : List ℕ) (c : Capability) (is_text : c.kind ≡ Text) where
  pub text_past : count_in Legacy offsets ≤ c.index → None ≡ shown_text (contents_of w flags numbers (numbers_in Legacy offsets) strings c)
  text_past le = sym (ap shown_text (says-text w flags numbers (numbers_in Legacy offsets) strings c is_text
      ∙ ap (option_and_then (stored_text strings)) (numbers_in-past Legacy offsets c.index le)))

  text_said : (n : ℕ) → c.index < count_in Legacy offsets → n ≡ word_at (2 * c.index) offsets
      → contents_of w flags numbers (numbers_in Legacy offsets) strings c ≡ stored_text strings n
  text_said n lt e = says-text w flags numbers (numbers_in Legacy offsets) strings c is_text
      ∙ ap (option_and_then (stored_text strings)) (numbers_in-there Legacy offsets c.index lt) ∙ ap (stored_text strings) (sym e)

  pub text_void : (n : ℕ) → c.index < count_in Legacy offsets → n ≡ word_at (2 * c.index) offsets → 32768 ≤ n
      → None ≡ shown_text (contents_of w flags numbers (numbers_in Legacy offsets) strings c)
  text_void n lt e void = let a : ltb n 32768 ≡ false = le-ltb _ _ void in rw (text_said n lt e, a)

  -- the text that the code finds in the rest of the table
  pub text_plain : (n : ℕ) (text : List ℕ) → c.index < count_in Legacy offsets → n ≡ word_at (2 * c.index) offsets → n < 32768
      → text ≡ before_first (λ b. eqb b 0) (take (length strings - n) (drop n strings)) → Some text
      ≡ shown_text (contents_of w flags numbers (numbers_in Legacy offsets) strings c)
  text_plain n text lt e plain found =
      let a : ltb n 32768 ≡ true = lt-ltb _ _ plain in
      let cut : text ≡ text_from strings n = found ∙ ap (λ (xs : List ℕ). before_first (λ b. eqb b 0) xs) (rest_of n strings) in
      rw (text_said n lt e, a) (ap (λ t. Some t) cut)
