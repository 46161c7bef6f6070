-- What a table is given with characters.
use Rattle.std.proofs.Common.{◌≡◌, ◌≢◌, ℕ, zero, suc, ◌+◌, ◌-◌, ◌*◌, ◌<◌, ◌≤◌, Bool, true, false, cond, eqb, ltb, nat_lt, ◌==◌, ◌&&◌, not, nat_le, List, [], ◌∷◌, ◌++◌, length, get_or, drop, take, All}
use Rattle.std.proofs.Common.{Option, Some, None, refl, sym, ap, ◌∙◌, subst, arith, inl, inr}
use Rattle.std.specs.Prelude.{option_and_then, slice_get, slice_index}
use Rattle.std.specs.List.{AllByRecursion, before_first, position_or_len}
use Rattle.std.proofs.lemmas.Bool.{and_parts, cases_lt, leb-true, ltb-true}
use Rattle.std.proofs.lemmas.List.{get_or-take, length-take}
use Rattle.std.proofs.lemmas.List.Elements.{All-from_recursion, recursion_from_All}
use Rattle.std.proofs.lemmas.List.Sums.{fails_before_first}
use Rattle.std.proofs.lemmas.Option.{none-some, same_Some}
use Rattle.ti_text.specs.Digits.{is_decimal_digit}
use Rattle.ti_text.specs.Texts.{AreBytes, HasNoNul}
use Rattle.ti_caps.specs.Tables.{Capability, IsCapability, capability}
use Rattle.ti_caps.specs.declared.capability.Kind.{Kind}
use Rattle.ti_caps.specs.declared.capability.Kind.TheVariants.{Flag, Number, Text}
use Rattle.ti_layout.specs.declared.layout.Format.{Format}
use Rattle.ti_layout.specs.declared.layout.Format.TheVariants.{Legacy, Extended}
use Rattle.ti_layout.specs.declared.view.View.{View}
use Rattle.ti_layout.specs.Layout.{first_negative}
use Rattle.ti_layout.specs.Reading.{numbers_in, says, stored_flag, stored_number, stored_text}
use Rattle.ti_layout.specs.Values.{AgreesIfSome, Content, Contents, Mention, contents, content_true, content_number, content_text, content_cancelled}
use Rattle.ti_layout.specs.View.{view_contents}
use Rattle.everyday_constants.specs.Constants.{begins_number, constant_at, digit, if_character, is_character, kept_size, size_by, text_by, with_characters, written_from}
use Rattle.everyday_constants.specs.Entries.{content_with}
use Rattle.everyday_constants.specs.declared.constants.Constant.{Constant}

-- ---- an entry has what its capabilities may have

-- what stands before the first NUL has none
clean : (xs : List ℕ) → HasNoNul (before_first (λ b. eqb b 0) xs)
clean xs k d lt e =
    let n = position_or_len (λ (b : ℕ). eqb b 0) xs in
    let l : k < n = omega (arith, lt, length-take n xs) in
    let z : get_or xs k d ≡ 0 = sym (get_or-take n xs k d l) ∙ e in
    let never : true ≡ false = sym (ap (λ (x : ℕ). eqb x 0) z) ∙ fails_before_first (λ (b : ℕ). eqb b 0) xs k d l in
    absurd cc

module _ (c : Capability) where
  flag-agrees : c.kind ≡ Flag → (b : ℕ) → AgreesIfSome c (stored_flag b)
  flag-agrees is b = elim (b == 1) as (λ t. AgreesIfSome c (cond t (Some content_true) None)) [ true ↦ is | false ↦ tt ]

  number-agrees : c.kind ≡ Number → (w : Format) (n : ℕ) (b : Bool) → nat_lt n (first_negative w) ≡ b → AgreesIfSome c (cond b (Some (content_number n)) None)
  number-agrees is Legacy n true e = (is, (let l = ltb-true n 32768 e in omega (arith, l)))
  number-agrees is Extended n true e = (is, (let l = ltb-true n 2147483648 e in omega (arith, l)))
  number-agrees is w n false e = tt

  text-agrees : c.kind ≡ Text → (strings : List ℕ) (n : ℕ) → AgreesIfSome c (stored_text strings n)
  text-agrees is strings n =
      elim (nat_lt n (first_negative Legacy)) as (λ t. AgreesIfSome c (cond t (Some (content_text (before_first (λ (b : ℕ). eqb b 0) (drop n strings)))) None)) [
        | true ↦ (is, clean (drop n strings))
        | false ↦ tt
      ]

  agrees-then : (f : ℕ → Option Content) (o : Option ℕ) → ((n : ℕ) → AgreesIfSome c (f n)) → AgreesIfSome c (option_and_then f o)
  agrees-then f None h = tt
  agrees-then f (Some n) h = h n

  pub said-agrees : (w : Format) (flags numbers offsets strings : List ℕ) (kind : Kind) → c.kind ≡ kind
      → AgreesIfSome c (says w flags numbers offsets strings kind c.index)
  said-agrees w flags numbers offsets strings Flag is = flag-agrees is (slice_index flags c.index)
  said-agrees w flags numbers offsets strings Number is =
      agrees-then (stored_number w) (slice_get numbers c.index) (λ n. number-agrees is w n (nat_lt n (first_negative w)) refl)
  said-agrees w flags numbers offsets strings Text is = agrees-then (stored_text strings) (slice_get offsets c.index) (text-agrees is strings)

view-agrees : (v : View) (c : Capability) → AgreesIfSome c (view_contents v c)
view-agrees v c = said-agrees c v.format v.flags.now (numbers_in v.format v.numbers.now) (numbers_in Legacy v.offsets.now) v.strings.now c.kind refl

-- ---- and so it does with characters

-- a constant is a printed character
record IsPrinted (c : Constant) : Type 0 where
  low : 32 ≤ c.value
  high : c.value < 127

printed : (n size : ℕ) (c : Constant) → if_character n size ≡ Some c → IsPrinted c
printed n size c found = by_test (is_character n) refl found
  where
    by_test : (b : Bool) → is_character n ≡ b → cond b (Some (record { value = n; size = size })) None ≡ Some c → IsPrinted c
    by_test false e f = absurd (none-some c f)
    by_test true e f =
        let made : Constant = record { value = n; size = size } in
        let parts = and_parts (nat_le 32 n) (nat_lt n 127 && not (n == 92)) e in
        let low = leb-true 32 n parts.0 in
        let high = ltb-true n 127 (and_parts (nat_lt n 127) (not (n == 92)) parts.1).0 in
        let same : n ≡ c.value = ap (λ (k : Constant). k.value) (same_Some made c f) in
        record { low = omega (arith, low, same); high = omega (arith, high, same) }

one-found : (a b d : Bool) (one two : Option Constant) (c : Constant) (P : Type 0) → (one ≡ Some c → P) → (two ≡ Some c → P)
    → cond a None (cond b one (cond d two None)) ≡ Some c → P
one-found true b d one two c P f g e = absurd (none-some c e)
one-found false true d one two c P f g e = f e
one-found false false true one two c P f g e = g e
one-found false false false one two c P f g e = absurd (none-some c e)

constant-printed : (text : List ℕ) (c : Constant) → constant_at text ≡ Some c → IsPrinted c
constant-printed text c e =
    one-found (not (begins_number text)) (slice_index text 4 == 125) (is_decimal_digit (slice_index text 4) && slice_index text 5 == 125)
    (if_character (10 * digit text 2 + digit text 3) 5) (if_character (10 * (10 * digit text 2 + digit text 3) + digit text 4) 6) c (IsPrinted c)
    (printed (10 * digit text 2 + digit text 3) 5 c) (printed (10 * (10 * digit text 2 + digit text 3) + digit text 4) 6 c) e

-- what holds of each byte of a string, and of printed characters, holds with characters
module _ (P : ℕ → Type 0) (of_printed : (v : ℕ) → 32 ≤ v → v < 127 → P v) where
  both : (xs ys : List ℕ) → AllByRecursion P xs → AllByRecursion P ys → AllByRecursion P (xs ++ ys)
  both [] ys here there = there
  both (x ∷ xs) ys here there = (here.0, both xs ys here.1 there)

  taken : (k : ℕ) (xs : List ℕ) → AllByRecursion P xs → AllByRecursion P (take k xs)
  taken zero xs all = tt
  taken (suc k) [] all = tt
  taken (suc k) (x ∷ xs) all = (all.0, taken k xs all.1)

  of-piece : (text : List ℕ) (found : Option Constant) → constant_at text ≡ found → AllByRecursion P text → AllByRecursion P (text_by found text)
  of-piece text None e all = taken (kept_size text) text all
  of-piece text (Some c) e all =
      let is = constant-printed text c e in (
        of_printed 37 (omega arith) (omega arith),
        (
          of_printed 39 (omega arith) (omega arith),
          (
            of_printed c.value is.low is.high,
            (of_printed 39 (omega arith) (omega arith), tt),
          ),
        ),
      )

  of-written : (left : ℕ) (text : List ℕ) → AllByRecursion P text → AllByRecursion P (written_from left text)
  of-written left [] all = tt
  of-written (suc left) (x ∷ xs) all = of-written left xs all.1
  of-written zero (x ∷ xs) all =
      both (text_by (constant_at (x ∷ xs)) (x ∷ xs)) (written_from (size_by (constant_at (x ∷ xs)) (x ∷ xs) - 1) xs)
      (of-piece (x ∷ xs) (constant_at (x ∷ xs)) refl all) (of-written (size_by (constant_at (x ∷ xs)) (x ∷ xs) - 1) xs all.1)

  pub all-with : (text : List ℕ) → All P text → All P (with_characters text)
  all-with text all = All-from_recursion P (with_characters text) (of-written 0 text (recursion_from_All P text all))

clean-with : (text : List ℕ) → HasNoNul text → HasNoNul (with_characters text)
clean-with text all = all-with (λ byte. byte ≢ 0) (λ v low high is. absurd (omega (arith, low, is))) text all

-- a string of bytes is one with characters
pub bytes-with : (text : List ℕ) → AreBytes text → AreBytes (with_characters text)
bytes-with text all = all-with (λ byte. byte < 256) (λ v low high. omega (arith, high)) text all

pub agrees-with : (c : Capability) (o : Option Content) → AgreesIfSome c o → AgreesIfSome c (content_with o)
agrees-with c None agrees = agrees
agrees-with c (Some content_true) agrees = agrees
agrees-with c (Some (content_number n)) agrees = agrees
agrees-with c (Some (content_text t)) agrees = (agrees.0, clean-with t agrees.1)
agrees-with c (Some content_cancelled) agrees = agrees

pub given-agrees : (v : View) (c : Capability) (held value : Content) (found : Option Content) → found ≡ view_contents v c → found ≡ Some held
    → content_with (Some held) ≡ Some value → AgreesIfSome c (Some value)
given-agrees v c held value found seen is gives =
    subst (AgreesIfSome c) (ap content_with (sym seen ∙ is) ∙ gives) (agrees-with c (view_contents v c) (view-agrees v c))

-- ---- capability by capability

abbrev pub GivenBelow : Contents → Kind → ℕ → List Mention → Type 0
GivenBelow held kind n table = (c : Capability) → IsCapability c → c.kind ≡ kind → c.index < n → contents table c ≡ content_with (held c)

pub given_more : (held : Contents) (kind : Kind) (k : ℕ) (old new : List Mention) → GivenBelow held kind k old
    → contents new (capability kind k) ≡ content_with (held (capability kind k))
    → ((c : Capability) → c ≢ capability kind k → contents new c ≡ contents old c) → GivenBelow held kind (k + 1) new
given_more held kind k old new before here others c valid of_kind l = elim (cases_lt c.index k) [
  | inl below ↦ others c (λ (e : c ≡ capability kind k). let i = ap (λ (d : Capability). d.index) e in omega (arith, i, below)) ∙ before c valid of_kind below
  | inr not_below ↦
      let at : c.index ≡ k = omega (arith, l, not_below) in
      let is : capability kind k ≡ c = ap (λ i. capability kind i) (sym at) ∙ ap (λ (n : Kind). capability n c.index) (sym of_kind) in
      subst (λ (d : Capability). contents new d ≡ content_with (held d)) is here
]

pub others_more : (kind : Kind) (k : ℕ) (start old new : List Mention) → ((c : Capability) → c.kind ≢ kind → contents old c ≡ contents start c)
    → ((c : Capability) → c ≢ capability kind k → contents new c ≡ contents old c) → (c : Capability) → c.kind ≢ kind
    → contents new c ≡ contents start c
others_more kind k start old new before others c apart = others c (λ (e : c ≡ capability kind k). apart (ap (λ (d : Capability). d.kind) e)) ∙ before c apart

-- after the three kinds
pub all_given : (held : Contents) (one two three : List Mention)
    → ((c : Capability) → IsCapability c → c.kind ≡ Flag → contents one c ≡ content_with (held c))
    → ((c : Capability) → IsCapability c → c.kind ≡ Number → contents two c ≡ content_with (held c))
    → ((c : Capability) → c.kind ≢ Number → contents two c ≡ contents one c)
    → ((c : Capability) → IsCapability c → c.kind ≡ Text → contents three c ≡ content_with (held c))
    → ((c : Capability) → c.kind ≢ Text → contents three c ≡ contents two c)
    → (c : Capability) → IsCapability c → contents three c ≡ content_with (held c)
all_given held one two three flags numbers other_numbers texts other_texts c valid =
    elim c.kind as (λ k. c.kind ≡ k → contents three c ≡ content_with (held c)) [
      | Flag ↦ λ e.
          other_texts c (λ (t : c.kind ≡ Text). absurd (let n : Flag ≡ Text = sym e ∙ t in cc))
          ∙ other_numbers c (λ (t : c.kind ≡ Number). absurd (let n : Flag ≡ Number = sym e ∙ t in cc)) ∙ flags c valid e
      | Number ↦ λ e. other_texts c (λ (t : c.kind ≡ Text). absurd (let n : Number ≡ Text = sym e ∙ t in cc)) ∙ numbers c valid e
      | Text ↦ λ e. texts c valid e
    ] refl
