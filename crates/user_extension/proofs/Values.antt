-- The values that an extension shows can be written again, and those that the tables of an entry
-- show too.
use Rattle.std.proofs.Common.{◌≡◌, ℕ, ◌+◌, ◌-◌, ◌*◌, ◌<◌, Bool, true, false, cond, eqb, ltb, nat_lt, ◌==◌, List, length, drop, get_or, Option, Some, None}
use Rattle.std.proofs.Common.{refl, sym, ap, ◌∙◌, subst, arith}
use Rattle.std.specs.Prelude.{IfSome, option_and_then, slice_get, slice_index}
use Rattle.std.specs.List.{before_first, position_or_len}
use Rattle.std.specs.Option.{option_map}
use Rattle.std.proofs.lemmas.Bool.{ltb-true}
use Rattle.std.proofs.lemmas.List.{get_or-take, length-take}
use Rattle.std.proofs.lemmas.List.Sums.{fails_before_first}
use Rattle.ti_caps.specs.Tables.{Capability}
use Rattle.ti_caps.specs.declared.capability.Kind.{Kind}
use Rattle.ti_caps.specs.declared.capability.Kind.TheVariants.{Flag, Number, Text}
use Rattle.ti_text.specs.Texts.{HasNoNul}
use Rattle.ti_layout.specs.declared.layout.Format.{Format}
use Rattle.ti_layout.specs.declared.layout.Format.TheVariants.{Legacy, Extended}
use Rattle.ti_layout.specs.declared.values.Content.{Content as Lent}
use Rattle.ti_layout.specs.Layout.{first_negative, width}
use Rattle.ti_layout.specs.Reading.{Reads, count_in, number_at, says, stored_flag, stored_number, stored_text, word_at}
use Rattle.ti_layout.specs.Values.{Content, Contents, content_true, content_number, content_text, content_seen}
use Rattle.user_extension.specs.UserDefined.{IsValue}
use Rattle.user_extension.specs.Laws.{TextsHaveNoNul}
use Rattle.user_extension.specs.Reading.{Parts, value_in}

-- what stands before the first NUL has none
clean : (xs : List ℕ) → HasNoNul (before_first (λ b. eqb b 0) xs)
clean xs k d lt e =
    let n = position_or_len (λ (b : ℕ). eqb b 0) xs in
    let l : k < n = omega (arith, lt, length-take n xs) in
    let z : get_or xs k d ≡ 0 = sym (get_or-take n xs k d l) ∙ e in
    let never : true ≡ false = sym (ap (λ (x : ℕ). eqb x 0) z) ∙ fails_before_first (λ (b : ℕ). eqb b 0) xs k d l in
    absurd cc

flag_sound : (n : ℕ) → IfSome (stored_flag n) IsValue
flag_sound n = elim (n == 1) as (λ b. IfSome (cond b (Some content_true) None) IsValue) [ true ↦ tt | false ↦ tt ]

number_under : (w : Format) (n : ℕ) (b : Bool) → ltb n (first_negative w) ≡ b → IfSome (cond b (Some (content_number n)) None) IsValue
number_under Legacy n true e = let l = ltb-true n 32768 e in omega (arith, l)
number_under Extended n true e = let l = ltb-true n 2147483648 e in omega (arith, l)
number_under w n false e = tt

text_sound : (table : List ℕ) (n : ℕ) → IfSome (stored_text table n) IsValue
text_sound table n =
    elim (nat_lt n (first_negative Legacy)) as (λ b. IfSome (cond b (Some (content_text (before_first (λ (b : ℕ). eqb b 0) (drop n table)))) None) IsValue) [
      | true ↦ clean (drop n table)
      | false ↦ tt
    ]

one_sound : (b : Bool) (x y : Option Content) → IfSome x IsValue → IfSome y IsValue → IfSome (cond b x y) IsValue
one_sound true x y p q = p
one_sound false x y p q = q

pub value_sound : (w : Format) (p : Parts) (i : ℕ) → IfSome (value_in w p i) IsValue
value_sound w p i =
    let number = number_at w (width w * (i - length p.flags)) p.numbers in
    one_sound (nat_lt i (length p.flags)) (stored_flag (slice_index p.flags i)) _ (flag_sound (slice_index p.flags i))
    (one_sound (nat_lt i (length p.flags + count_in w p.numbers)) (stored_number w number)
    (stored_text p.table (word_at (2 * (i - (length p.flags + count_in w p.numbers))) p.values))
    (number_under w number (nat_lt number (first_negative w)) refl) (text_sound p.table (word_at (2 * (i - (length p.flags + count_in w p.numbers))) p.values)))

-- so can what is lent of one
pub lent_sound : (o : Option Lent) (q : Option Content) → option_map content_seen o ≡ q → IfSome q IsValue → IfSome o (λ v. IsValue (content_seen v))
lent_sound None q e h = tt
lent_sound (Some v) q e h = subst (λ x. IfSome x IsValue) (sym e) h

-- ---- the tables of an entry

and_then_sound : (f : ℕ → Option Content) (o : Option ℕ) → ((n : ℕ) → IfSome (f n) IsValue) → IfSome (option_and_then f o) IsValue
and_then_sound f None h = tt
and_then_sound f (Some n) h = h n

says_sound : (w : Format) (flags numbers offsets strings : List ℕ) (kind : Kind) (i : ℕ) → IfSome (says w flags numbers offsets strings kind i) IsValue
says_sound w flags numbers offsets strings Flag i = flag_sound (slice_index flags i)
says_sound w flags numbers offsets strings Number i =
    and_then_sound (stored_number w) (slice_get numbers i) (λ n. number_under w n (nat_lt n (first_negative w)) refl)
says_sound w flags numbers offsets strings Text i = and_then_sound (stored_text strings) (slice_get offsets i) (text_sound strings)

pub texts_have_no_nul : TextsHaveNoNul
texts_have_no_nul bytes names contents r c text e =
    let s = r.sections in
    let is : says r.format s.flags s.numbers s.offsets s.strings c.kind c.index ≡ Some (content_text text) =
    sym (ap (λ (f : Contents). f c) r.held) ∙ e in
    subst (λ x. IfSome x IsValue) is (says_sound r.format s.flags s.numbers s.offsets s.strings c.kind c.index)
