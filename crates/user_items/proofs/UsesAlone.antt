-- A block in which no user-defined name is found unknown has nothing of user-defined capabilities
-- but its uses.
use Rattle.std.proofs.Common.{◌≡◌, ℕ, ◌+◌, Bool, true, false, ◌&&◌, List, [], ◌∷◌, ◌++◌, map, Option, Some, None, refl, sym, ap, ◌∙◌, inl, inr, cond}
use Rattle.std.specs.List.{flat_map, list_any}
use Rattle.std.specs.Prelude.{Ok, Err}
use Rattle.std.proofs.lemmas.Bool.{cases_Bool}
use Rattle.std.proofs.lemmas.Grind.{flat_map-append}
use Rattle.ti_caps.specs.Tables.{Capability, capability_named}
use Rattle.ti_caps.specs.declared.capability.Kind.{Kind}
use Rattle.ti_caps.specs.declared.capability.Kind.TheVariants as kind
use Rattle.ti_spelling.specs.declared.numbers.NumberError.TheVariants.{Bad, TooLarge}
use Rattle.ti_source.specs.declared.code.Code.{Code}
use Rattle.ti_source.specs.Folding.{PlacedByte}
use Rattle.ti_source.specs.Items.{Claim, Statement, piece_of}
use Rattle.ti_source.specs.Stating.{statement_of}
use Rattle.ti_source.specs.Reading.{ReadFault}
use Rattle.ti_source.specs.Parsing.{reading_of_text}
use Rattle.ti_source.specs.Judging.{items_at as items_at_there, items_from as items_from_there}
use Rattle.ti_source.specs.Verdicts.{items_by as items_by_there, is_import, fitting_verdict, named_verdict, verdict_on as verdict_there, ReadClaim}
use Rattle.ti_source.specs.Verdicts.{reads_flag, reads_number, reads_text, reads_cancel}
use Rattle.ti_source.specs.inside.Parsing.{judged_as as judged_as_there, judged_of as judged_there}
use Rattle.ti_source.specs.Walking.{block_items}
use Rattle.ti_source.specs.inside.Verdicts.{read_claim}
use Rattle.user_items.specs.Names.{is_user_defined_name}
use Rattle.user_items.specs.Verdicts.{defining_verdict, verdict_on}
use Rattle.user_items.specs.Reading.{items_at, faults_at, items_from, faults_from}
use Rattle.user_items.specs.Parsing.{user_reading_of_text}
use Rattle.user_items.specs.inside.Computed.{judged_with, judged_as, judged_of}
use Rattle.user_items.specs.Laws.{NamedPlace, is_unknown, is_local_warning, is_warning_with, user_warning, warning_of, places_at, places_from, use_in}
use Rattle.user_items.specs.Laws.{BlocksWithoutWarningsHaveUsesAlone}
use Rattle.user_items.proofs.Warnings.{place, placed, warnings}

-- ---- no warning has no place

empty_left : {X : Type 0} (xs ys : List X) → xs ++ ys ≡ [] → xs ≡ []
empty_left [] ys e = refl
empty_left (x ∷ xs) ys e = absurd (cc)

empty_right : {X : Type 0} (xs ys : List X) → xs ++ ys ≡ [] → ys ≡ []
empty_right [] ys e = e
empty_right (x ∷ xs) ys e = absurd (cc)

unwarned : (f : ReadFault) (detail : Option (List ℕ)) → is_warning_with f.code detail ≡ false → warning_of f detail ≡ []
unwarned f None e = refl
unwarned f (Some name) e = rw e refl

none_warned : (fs : List ReadFault) → list_any is_local_warning fs ≡ false → flat_map user_warning fs ≡ []
none_warned [] e = refl
none_warned (f ∷ fs) e =
    elim (cases_Bool (is_local_warning f)) [
      | inl w ↦ absurd (cc)
      | inr w ↦ rw (unwarned f f.detail w) (none_warned fs (cc))
    ]

-- ---- one item

abbrev Alone : ℕ → ℕ → List ℕ → ReadClaim → Bool → Type 0
Alone o line name read b =
    places_at o (judged_with line name (cond b (Some (defining_verdict name read)) None)) ≡ []
    → (items_at o (judged_with line name (cond b (Some (defining_verdict name read)) None))
    ≡ flat_map use_in (items_by_there o line (named_verdict read (capability_named name))))
    × (faults_at o (judged_with line name (cond b (Some (defining_verdict name read)) None)) ≡ [])

fits_none : (o line : ℕ) (c : Capability) (read : ReadClaim) (k : Kind) → flat_map use_in (items_by_there o line (fitting_verdict c read k)) ≡ []
fits_none o line c reads_flag kind.Flag = refl
fits_none o line c reads_flag kind.Number = refl
fits_none o line c reads_flag kind.Text = refl
fits_none o line c (reads_number read) kind.Flag = refl
fits_none o line c (reads_number (Ok n)) kind.Number = refl
fits_none o line c (reads_number (Err Bad)) kind.Number = refl
fits_none o line c (reads_number (Err TooLarge)) kind.Number = refl
fits_none o line c (reads_number read) kind.Text = refl
fits_none o line c (reads_text value found) kind.Flag = refl
fits_none o line c (reads_text value found) kind.Number = refl
fits_none o line c (reads_text value (Ok found)) kind.Text =
    elim found.1 as (λ b. flat_map use_in (items_by_there o line (fitting_verdict c (reads_text value (Ok (found.0, b))) kind.Text)) ≡ [])
    [ true ↦ refl | false ↦ refl ]
fits_none o line c (reads_text value (Err cause)) kind.Text = refl
fits_none o line c reads_cancel kind.Flag = refl
fits_none o line c reads_cancel kind.Number = refl
fits_none o line c reads_cancel kind.Text = refl

named_none : (o line : ℕ) (read : ReadClaim) (c : Option Capability) → flat_map use_in (items_by_there o line (named_verdict read c)) ≡ []
named_none o line read None = refl
named_none o line read (Some c) = fits_none o line c read c.kind

named_alone : (o line : ℕ) (name : List ℕ) (read : ReadClaim) (b : Bool) → Alone o line name read b
named_alone o line name read true p = let none : place o line name ≡ [] = placed o line name read true refl ∙ p in absurd (cc)
named_alone o line name read false p = (sym (named_none o line read (capability_named name)), refl)

claim_alone : (o line : ℕ) (name : List ℕ) (claim : Claim) (read : ReadClaim) → places_at o (judged_with line name (verdict_on name claim read)) ≡ []
    → (items_at o (judged_with line name (verdict_on name claim read)) ≡ flat_map use_in (items_by_there o line (verdict_there name claim read)))
    × (faults_at o (judged_with line name (verdict_on name claim read)) ≡ [])
claim_alone o line name claim read =
    elim (cases_Bool (is_import name claim)) [
      | inl e ↦ rw e (λ p. (refl, refl))
      | inr e ↦ rw e (named_alone o line name read (is_user_defined_name name))
    ]

statement_alone : (o line : ℕ) (s : Option Statement) → places_at o (judged_as line s) ≡ []
    → (items_at o (judged_as line s) ≡ flat_map use_in (items_at_there o (judged_as_there line s))) × (faults_at o (judged_as line s) ≡ [])
statement_alone o line None p = (refl, refl)
statement_alone o line (Some s) p = claim_alone o line s.name s.claim (read_claim s.claim) p

-- ---- all of them

all_alone : (o : ℕ) (items : List (List PlacedByte)) → places_from o (map judged_of items) ≡ []
    → (items_from o (map judged_of items) ≡ flat_map use_in (items_from_there o (map judged_there items))) × (faults_from o (map judged_of items) ≡ [])
all_alone o [] p = (refl, refl)
all_alone o (item ∷ items) p =
    let here = places_at o (judged_of item) in
    let later = places_from (o + 1) (map judged_of items) in
    let one = statement_alone o (piece_of item).line (statement_of (piece_of item).text) (empty_left here later p) in
    let rest = all_alone (o + 1) items (empty_right here later p) in (
      ap (λ xs. xs ++ items_from (o + 1) (map judged_of items)) one.0
          ∙ ap (λ xs. flat_map use_in (items_at_there o (judged_there item)) ++ xs) rest.0
          ∙ sym (flat_map-append use_in (items_at_there o (judged_there item)) (items_from_there (o + 1) (map judged_there items))),
      ap (λ xs. xs ++ faults_from (o + 1) (map judged_of items)) one.1 ∙ rest.1,
    )

items_there : (block : List ℕ) → (reading_of_text block).items ≡ items_from_there 0 (map judged_there (block_items block))
unfolding reading_of_text
items_there block = refl

pub uses_alone : BlocksWithoutWarningsHaveUsesAlone
unfolding user_reading_of_text
uses_alone block none =
    let places = sym (warnings block) ∙ none_warned (reading_of_text block).faults none in
    let all = all_alone 0 (block_items block) places in
    ap (λ items. record { items = items; faults = faults_from 0 (map judged_of (block_items block)) }) (all.0 ∙ ap (flat_map use_in) (sym (items_there block)))
    ∙ ap (λ faults. record { items = flat_map use_in (reading_of_text block).items; faults = faults }) all.1
