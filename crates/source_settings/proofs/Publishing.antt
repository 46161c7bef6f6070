-- What settings change of what is published.
use Rattle.std.proofs.Common.{◌≡◌, ◌∙◌, ℕ, ◌+◌, ◌<◌, Bool, true, false, List, [], ◌∷◌, ◌++◌, Option, Some, None, ap, append-nil, get_or, inl, inr, length, map, refl, sym, take}
use Rattle.std.proofs.lemmas.Grind.{flat_map-append}
use Rattle.std.proofs.lemmas.List.{map-append, take_more}
use Rattle.std.specs.Prelude.{◌&&◌}
use Rattle.std.proofs.lemmas.Bool.{cases_Bool}
use Rattle.std.proofs.lemmas.List.Elements.{filter-append}
use Rattle.source_types.specs.declared.severities.Severity.{Severity}
use Rattle.source_remarks.specs.Remarks.{SeenRemark, label_of_remark, range_of, seen_fault, seen_hint, severity_of}
use Rattle.source_settings.specs.Comments.{allowed_on}
use Rattle.source_settings.specs.Settings.{SeenSettings, level_for, nothing_settled}
use Rattle.source_settings.specs.declared.levels.Level.{Level}
use Rattle.source_settings.specs.declared.levels.Level.TheVariants.{Off, Told}
use Rattle.source_settings.specs.Laws.{AllIsPublished, ErrorsStay, NothingElseIsTakenOut, errors_among}
use Rattle.source_settings.specs.Published.{SeenPublished, as_it_is, is_allowed_in, is_error, is_on, is_unknown_name, published, published_as, told, told_as}

-- what is no error is none, however it is told
no_error : (remark : SeenRemark) (severity : Option Severity) → is_error (severity_of remark) ≡ false → errors_among (published_as remark severity) ≡ []
no_error remark None other = refl
no_error remark (Some severity) other = rw other refl

-- what is published of one remark, and of others
errors-more : (settings : SeenSettings) (text : List ℕ) (remark : SeenRemark) (remarks : List SeenRemark)
    → errors_among (published settings text (remark ∷ remarks))
    ≡ errors_among (published_as remark (told settings text remark)) ++ errors_among (published settings text remarks)
errors-more settings text remark remarks =
    filter-append (λ (one : SeenPublished). is_error (severity_of one.remark)) (published_as remark (told settings text remark)) (published settings text remarks)

pub errors : ErrorsStay
errors settings text [] = refl
errors settings text (remark ∷ remarks) = errors-more settings text remark remarks ∙ elim (cases_Bool (is_error (severity_of remark))) [
  | inl error ↦ rw (error, error) (ap (λ (rest : List SeenPublished). as_it_is remark ∷ rest) (errors settings text remarks))
  | inr other ↦ rw (no_error remark (told settings text remark) other, other) (errors settings text remarks)
]

-- what is off by what is settled for its code
told_off : (severity : Severity) (level : Option Level) → told_as severity level ≡ None → level ≡ Some Off
told_off severity None off = absurd cc
told_off severity (Some (Told other)) off = absurd cc
told_off severity (Some Off) off = refl

pub nothing_else : NothingElseIsTakenOut
nothing_else settings text remark out = elim (cases_Bool (is_error (severity_of remark))) [
  | inl error ↦ let there = rw error at out in absurd cc
  | inr other ↦ elim (cases_Bool (is_allowed_in text remark)) [
    | inl allowed ↦ inl allowed
    | inr forbidden ↦ elim (cases_Bool (is_on settings.names remark)) [
      | inl own ↦ inr (inl own)
      | inr unknown ↦ inr (inr (told_off (severity_of remark) (level_for settings.changes (label_of_remark remark)) (rw (other, forbidden, unknown) at out)))
    ]
  ]
]

and_none : (b : Bool) → (b && false) ≡ false
and_none true = refl
and_none false = refl

-- no name is the author's own
on_none : (remark : SeenRemark) → is_on [] remark ≡ false
on_none (seen_fault fault) = refl
on_none (seen_hint hint) = and_none (is_unknown_name hint.kind)

allowed_none : (text : List ℕ) (remark : SeenRemark) → ((line : ℕ) → allowed_on text line ≡ []) → is_allowed_in text remark ≡ false
allowed_none text remark none = rw (none (range_of remark).start.line) refl

told_plain : (text : List ℕ) (remark : SeenRemark) → ((line : ℕ) → allowed_on text line ≡ []) → told nothing_settled text remark ≡ Some (severity_of remark)
told_plain text remark none = elim (cases_Bool (is_error (severity_of remark))) [
  | inl error ↦ rw error refl
  | inr other ↦ rw (other, allowed_none text remark none, on_none remark) refl
]

pub all : AllIsPublished
all text [] none = refl
all text (remark ∷ remarks) none =
    ap (λ (severity : Option Severity). published_as remark severity ++ published nothing_settled text remarks) (told_plain text remark none)
    ∙ ap (λ (rest : List SeenPublished). as_it_is remark ∷ rest) (all text remarks none)

-- what is published of one remark more
pub published-more : {X : Type 0} (see : X → SeenRemark) (settings : SeenSettings) (text : List ℕ) (xs : List X) (i : ℕ) (x : X) → i < length xs
    → x ≡ get_or xs i x → published settings text (map see (take (i + 1) xs))
    ≡ published settings text (map see (take i xs)) ++ published_as (see x) (told settings text (see x))
published-more {X = X} see settings text xs i x inside is =
    let one = λ (remark : SeenRemark). published_as remark (told settings text remark) in
    let more : map see (take (i + 1) xs) ≡ map see (take i xs) ++ see x ∷ [] =
    ap (map see) (take_more xs i x inside ∙ ap (λ (last : X). take i xs ++ last ∷ []) (sym is)) ∙ map-append see (take i xs) (x ∷ []) in
    ap (published settings text) more ∙ flat_map-append one (map see (take i xs)) (see x ∷ [])
    ∙ ap (λ (last : List SeenPublished). published settings text (map see (take i xs)) ++ last) (append-nil (one (see x)))
