-- The user-defined capabilities of a table, kind by kind.
use Rattle.std.specs.Prelude.{ℕ, Bool, true, false, if◌then◌else◌, List, [], ◌∷◌, filter, Option, Some, None}
use Rattle.ti_caps.specs.declared.capability.Kind.{Kind}
use Rattle.ti_caps.specs.declared.capability.Kind.TheVariants as kind
use Rattle.ti_layout.specs.Values.{Content, content_true, content_number, content_text}
use Rattle.user_extension.specs.UserDefined.{Row}

-- whether a content is of a kind; a cancel is of none
abbrev pub is_of_kind : Kind → Content → Bool
is_of_kind kind.Flag content_true = true
is_of_kind kind.Number (content_number n) = true
is_of_kind kind.Text (content_text t) = true
is_of_kind _ _ = false

-- a content, if it is of this kind
abbrev pub of_kind : Kind → Content → Option Content
of_kind k content = if is_of_kind k content then Some content else None

-- those of a kind
abbrev pub rows_of_kind : Kind → List Row → List Row
rows_of_kind k rows = filter (λ r. is_of_kind k r.1) rows

-- the row of a name that has this, if it has something
abbrev pub row_with : List ℕ → Option Content → List Row
row_with name None = []
row_with name (Some content) = (name, content) ∷ []
