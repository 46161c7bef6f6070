-- Which kind a value is of (own).
use Rattle.ti_caps.specs.declared.capability.Kind.{Kind}
use Rattle.ti_caps.specs.declared.capability.Kind.TheVariants.{Flag, Number, Text}
use Rattle.ti_layout.specs.Values.{Content, content_true, content_number, content_text}

-- a boolean, a number or a string
abbrev pub IsOfKind : Kind → Content → Type 0
IsOfKind Flag content_true = Unit {0}
IsOfKind Number (content_number n) = Unit {0}
IsOfKind Text (content_text t) = Unit {0}
IsOfKind _ _ = ⊥
