-- What settings and comments may change of what is published (own).
use Rattle.std.specs.Prelude.{◌≡◌, ◌⊎◌, ℕ, true, List, [], filter, map, Some, None}
use Rattle.source_remarks.specs.Remarks.{SeenRemark, label_of_remark, severity_of}
use Rattle.source_settings.specs.Comments.{allowed_on}
use Rattle.source_settings.specs.Settings.{SeenSettings, level_for, nothing_settled}
use Rattle.source_settings.specs.declared.levels.Level.TheVariants.{Off}
use Rattle.source_settings.specs.Published.{SeenPublished, as_it_is, is_allowed_in, is_error, is_on, published, told}

-- what is published and is an error by itself
abbrev pub errors_among : List SeenPublished → List SeenPublished
errors_among all = filter (λ (one : SeenPublished). is_error (severity_of one.remark)) all

-- Whatever is settled, all errors are published, in their order and as errors.
abbrev pub ErrorsStay : Type 0
ErrorsStay = (settings : SeenSettings) (text : List ℕ) (remarks : List SeenRemark)
    → errors_among (published settings text remarks) ≡ map as_it_is (filter (λ remark. is_error (severity_of remark)) remarks)

-- A remark that is not published is allowed, on a name of the author's own, or off.
abbrev pub NothingElseIsTakenOut : Type 0
NothingElseIsTakenOut = (settings : SeenSettings) (text : List ℕ) (remark : SeenRemark) → told settings text remark ≡ None
    → (is_allowed_in text remark ≡ true) ⊎ ((is_on settings.names remark ≡ true) ⊎ (level_for settings.changes (label_of_remark remark) ≡ Some Off))

-- If nothing is settled, and nothing is allowed, all remarks are published as they are.
abbrev pub AllIsPublished : Type 0
AllIsPublished = (text : List ℕ) (remarks : List SeenRemark) → ((line : ℕ) → allowed_on text line ≡ [])
    → published nothing_settled text remarks ≡ map as_it_is remarks
