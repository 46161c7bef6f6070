-- What the walk over the names of an extension knows of those before a place, and of the next.
use Rattle.std.proofs.Common.{◌≡◌, ◌≢◌, ℕ, zero, suc, ◌+◌, ◌*◌, ◌<◌, Bool, List, length, take, drop, refl, sym, ap, ◌∙◌, subst, arith, inl, inr}
use Rattle.std.specs.Prelude.{IsTrue}
use Rattle.std.specs.List.{list_all}
use Rattle.std.specs.Ordering.{nat_cmp, is_lt}
use Rattle.std.specs.Cmp.Lexicographic.{slice_cmp}
use Rattle.std.proofs.lemmas.Bool.{cases_lt}
use Rattle.ti_layout.specs.declared.layout.Format.TheVariants.{Legacy}
use Rattle.ti_layout.specs.Reading.{count_in, text_from, word_at}
use Rattle.user_items.specs.Names.{is_user_defined_byte}
use Rattle.user_extension.specs.Reading.{AreNames, name_in}
use Rattle.user_extension.specs.inside.Keys.{is_plain_byte}
use Rattle.user_extension.proofs.NameKeys.{plain_after, plain_text, text_front}

pub name_front : (table name : List ℕ) (offset : ℕ) → name ≡ text_from table offset → name ≡ take (length name) (drop offset table)
name_front table name offset e = text_front name (drop offset table) e

pub plain_name : (table name : List ℕ) (offset : ℕ) (plain : Bool) → plain ≡ list_all is_plain_byte table → name ≡ text_from table offset → IsTrue plain
    → IsTrue (list_all is_user_defined_byte name)
plain_name table name offset plain tested e is =
    ap (λ (n : List ℕ). list_all is_user_defined_byte n) e ∙ plain_text (drop offset table) (plain_after offset table (sym tested ∙ is))

-- a place after the first follows another
one_before : (n : ℕ) → 0 < n → (k : ℕ) × (suc k ≡ n)
one_before zero some = absurd (omega (arith, some))
one_before (suc k) some = (k, refl)

module _ (second third : ℕ) (names table : List ℕ) where
  -- where the name before a place ends
  abbrev pub EndsBefore : ℕ → ℕ → Type 0
  EndsBefore place next = (k : ℕ) → suc k ≡ place → next ≡ word_at (2 * k) names + length (name_in names table k) + 1

  -- the name before a place
  abbrev pub IsBefore : ℕ → List ℕ → Type 0
  IsBefore place previous = (k : ℕ) → suc k ≡ place → previous ≡ name_in names table k

  pub no_gap : AreNames second third names table → (place offset next : ℕ) → 0 < place → place < count_in Legacy names → offset ≡ word_at (2 * place) names
      → EndsBefore place next → offset ≡ next
  no_gap are place offset next some within at ended =
      let (k, e) = one_before place some in
      at ∙ ap (λ (n : ℕ). word_at (2 * n) names) (sym e) ∙ are.adjoin k (omega (arith, e, within)) ∙ sym (ended k e)

  pub no_fall : AreNames second third names table → (place : ℕ) (previous name : List ℕ) → 0 < place → place < count_in Legacy names → place ≢ second
      → place ≢ third → name ≡ name_in names table place → IsBefore place previous → IsTrue (is_lt (slice_cmp nat_cmp previous name))
  no_fall are place previous name some within not_second not_third is before =
      let (k, e) = one_before place some in
      let rise = are.rise k (omega (arith, e, within)) (λ s. not_second (sym e ∙ s)) (λ t. not_third (sym e ∙ t)) in
      let name_is : name ≡ name_in names table (suc k) = is ∙ ap (λ (n : ℕ). name_in names table n) (sym e) in
      ap (λ (n : List ℕ). is_lt (slice_cmp nat_cmp previous n)) name_is
      ∙ ap (λ (p : List ℕ). is_lt (slice_cmp nat_cmp p (name_in names table (suc k)))) (before k e) ∙ rise

  -- ---- one name more

  pub one_more : (P : ℕ → Type 0) (place : ℕ) → ((k : ℕ) → k < place → P k) → P place → (k : ℕ) → k < place + 1 → P k
  one_more P place old here k lt = elim (cases_lt k place) [
    | inl before ↦ old k before
    | inr not_before ↦ let same : place ≡ k = omega (arith, lt, not_before) in subst P same here
  ]

  pub adjoins : (place offset next : ℕ) → ((k : ℕ) → suc k < place → word_at (2 * suc k) names ≡ word_at (2 * k) names + length (name_in names table k) + 1)
      → offset ≡ word_at (2 * place) names → EndsBefore place next → (0 < place → offset ≡ next)
      → (k : ℕ) → suc k < place + 1 → word_at (2 * suc k) names ≡ word_at (2 * k) names + length (name_in names table k) + 1
  adjoins place offset next old at ended same k lt = elim (cases_lt (suc k) place) [
    | inl before ↦ old k before
    | inr not_before ↦
        let e : suc k ≡ place = omega (arith, lt, not_before) in
        ap (λ (n : ℕ). word_at (2 * n) names) e ∙ sym at ∙ same (omega (arith, e)) ∙ ended k e
  ]

  pub goes_on_rising : (place : ℕ) (previous name : List ℕ)
      → ((k : ℕ) → suc k < place → suc k ≢ second → suc k ≢ third → IsTrue (is_lt (slice_cmp nat_cmp (name_in names table k) (name_in names table (suc k)))))
      → name ≡ name_in names table place → IsBefore place previous
      → (0 < place → place ≢ second → place ≢ third → IsTrue (is_lt (slice_cmp nat_cmp previous name)))
      → (k : ℕ) → suc k < place + 1 → suc k ≢ second → suc k ≢ third
      → IsTrue (is_lt (slice_cmp nat_cmp (name_in names table k) (name_in names table (suc k))))
  goes_on_rising place previous name old is before rises k lt not_second not_third = elim (cases_lt (suc k) place) [
    | inl earlier ↦ old k earlier not_second not_third
    | inr not_earlier ↦
        let e : suc k ≡ place = omega (arith, lt, not_earlier) in
        let here = rises (omega (arith, e)) (λ s. not_second (e ∙ s)) (λ t. not_third (e ∙ t)) in
        let name_is : name ≡ name_in names table (suc k) = is ∙ ap (λ (n : ℕ). name_in names table n) (sym e) in
        sym (ap (λ (n : List ℕ). is_lt (slice_cmp nat_cmp previous n)) name_is
        ∙ ap (λ (p : List ℕ). is_lt (slice_cmp nat_cmp p (name_in names table (suc k)))) (before k e)) ∙ here
  ]

  pub ended_here : (place offset : ℕ) (name : List ℕ) → offset ≡ word_at (2 * place) names → name ≡ name_in names table place
      → EndsBefore (place + 1) (offset + length name + 1)
  ended_here place offset name at is k e =
      let same : place ≡ k = omega (arith, e) in
      ap (λ (n : ℕ). n + length name + 1) (at ∙ ap (λ (n : ℕ). word_at (2 * n) names) same)
      ∙ ap (λ (xs : List ℕ). word_at (2 * k) names + length xs + 1) (is ∙ ap (λ (n : ℕ). name_in names table n) same)

  pub last_here : (place : ℕ) (name : List ℕ) → name ≡ name_in names table place → IsBefore (place + 1) name
  last_here place name is k e = let same : place ≡ k = omega (arith, e) in is ∙ ap (λ (n : ℕ). name_in names table n) same
