-- What is read of an entry is what its capabilities may have.
use Rattle.std.proofs.Common.{◌≡◌, ◌<◌, ◌==◌, ℕ, Bool, true, false, cond, eqb, nat_lt, List, drop, Option, None, Some, refl, sym, ap, ◌∙◌, subst, arith}
use Rattle.std.proofs.Common.{option_and_then, slice_get}
use Rattle.std.specs.Prelude.{slice_index}
use Rattle.std.specs.List.{before_first, position_or_len}
use Rattle.std.proofs.lemmas.Bool.{ltb-true}
use Rattle.std.proofs.lemmas.List.{get_or-take, length-take}
use Rattle.std.proofs.lemmas.List.Sums.{fails_before_first}
use Rattle.std.proofs.Common.{get_or}
use Rattle.ti_caps.specs.Tables.{Capability}
use Rattle.ti_caps.specs.declared.capability.Kind.{Kind}
use Rattle.ti_caps.specs.declared.capability.Kind.TheVariants.{Flag, Number, Text}
use Rattle.ti_layout.specs.declared.layout.Format.{Format}
use Rattle.ti_layout.specs.declared.layout.Format.TheVariants.{Legacy, Extended}
use Rattle.ti_layout.specs.Layout.{first_negative}
use Rattle.ti_layout.specs.Reading.{Reads, says, stored_flag, stored_number, stored_text, text_from}
use Rattle.ti_layout.specs.Values.{AgreesIfSome, Content, Contents, HasNoNul, content_number, content_text, content_true}

-- what stands before the first NUL has none
clean : (xs : List ℕ) → HasNoNul (before_first (λ b. b == 0) xs)
clean xs k d lt e =
    let n = position_or_len (λ (b : ℕ). eqb b 0) xs in
    let l : k < n = omega (arith, lt, length-take n xs) in
    let z : get_or xs k d ≡ 0 = sym (get_or-take n xs k d l) ∙ e in
    let never : true ≡ false = sym (ap (λ (x : ℕ). eqb x 0) z) ∙ fails_before_first (λ (b : ℕ). eqb b 0) xs k d l in
    absurd cc

module _ (c : Capability) where
  flag-agrees : c.kind ≡ Flag → (b : ℕ) → AgreesIfSome c (stored_flag b)
  flag-agrees is b = elim (b == 1) as (λ t. AgreesIfSome c (cond t (Some content_true) None)) [ true ↦ is | false ↦ tt ]

  number-agrees : c.kind ≡ Number → (w : Format) (n : ℕ) (b : Bool) → nat_lt n (first_negative w) ≡ b → AgreesIfSome c (cond b (Some (content_number n)) None)
  number-agrees is Legacy n true e = (is, (let l = ltb-true n 32768 e in omega (arith, l)))
  number-agrees is Extended n true e = (is, (let l = ltb-true n 2147483648 e in omega (arith, l)))
  number-agrees is w n false e = tt

  text-agrees : c.kind ≡ Text → (strings : List ℕ) (n : ℕ) → AgreesIfSome c (stored_text strings n)
  text-agrees is strings n =
      elim (nat_lt n (first_negative Legacy)) as (λ t. AgreesIfSome c (cond t (Some (content_text (text_from strings n))) None)) [
        | true ↦ (is, clean (drop n strings))
        | false ↦ tt
      ]

  agrees-then : (f : ℕ → Option Content) (o : Option ℕ) → ((n : ℕ) → AgreesIfSome c (f n)) → AgreesIfSome c (option_and_then f o)
  agrees-then f None h = tt
  agrees-then f (Some n) h = h n

  said-agrees : (w : Format) (flags numbers offsets strings : List ℕ) (kind : Kind) → c.kind ≡ kind
      → AgreesIfSome c (says w flags numbers offsets strings kind c.index)
  said-agrees w flags numbers offsets strings Flag is = flag-agrees is (slice_index flags c.index)
  said-agrees w flags numbers offsets strings Number is =
      agrees-then (stored_number w) (slice_get numbers c.index) (λ n. number-agrees is w n (nat_lt n (first_negative w)) refl)
  said-agrees w flags numbers offsets strings Text is = agrees-then (stored_text strings) (slice_get offsets c.index) (text-agrees is strings)

pub read-agrees : (bytes names : List ℕ) (held : Contents) → Reads bytes names held → (c : Capability) → AgreesIfSome c (held c)
read-agrees bytes names held r c =
    subst (AgreesIfSome c) (sym (ap (λ (t : Contents). t c) r.held))
    (said-agrees c r.format r.sections.flags r.sections.numbers r.sections.offsets r.sections.strings c.kind refl)
