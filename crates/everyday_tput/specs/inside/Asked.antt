-- What a name asks of an entry (own).
use Rattle.std.specs.Prelude.{◌≡◌, Some, None, List, ℕ}
use Rattle.ti_caps.specs.Tables.{Capability}
use Rattle.ti_caps.specs.declared.capability.Kind.TheVariants as kinds
use Rattle.ti_layout.specs.Values.{content_true, content_number}
use Rattle.ti_layout.specs.View.{shown_text, view_contents}
use Rattle.ti_layout.specs.declared.view.View.{View}
use Rattle.everyday_tput.specs.Answers.{FullEntry, HasNoTableText, HasText, defined}
use Rattle.everyday_tput.specs.declared.asked.Asked.{Asked}
use Rattle.everyday_tput.specs.declared.asked.Asked.TheVariants.{Flag, Number, Text, Other}

-- what a capability of the tables asks of a view
abbrev pub IsTableText : View → Capability → Asked → Type 0
IsTableText view c (Text text) = (c.kind ≡ kinds.Text) × (shown_text (view_contents view c) ≡ Some text.now)
IsTableText view c Other = c.kind ≡ kinds.Text → shown_text (view_contents view c) ≡ None
IsTableText view c _ = ⊥

-- the entry has no string of that name, and it is not user-defined
abbrev pub IsOther : FullEntry → List ℕ → Type 0
IsOther e cap = (defined e cap ≡ None) × HasNoTableText e cap

-- what a name asks of an entry
abbrev pub IsAsked : FullEntry → List ℕ → Asked → Type 0
IsAsked e cap Flag = defined e cap ≡ Some content_true
IsAsked e cap (Number n) = defined e cap ≡ Some (content_number n)
IsAsked e cap (Text text) = HasText e cap text.now
IsAsked e cap Other = IsOther e cap
