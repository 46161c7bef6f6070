-- What an entry has of a capability (term(5)), wherever it is in memory.
use Rattle.ti_text.specs.Limits.{number_max}
use Rattle.std.specs.Prelude.{◌≡◌, ℕ, ◌+◌, ◌<◌, ◌≤◌, if◌then◌else◌, List, [], ◌∷◌, map, length, slice_index, All, Option, Some, None}
use Rattle.std.specs.Rc.{rc_slice_items}
pub use Rattle.ti_text.specs.Texts.{HasNoNul}
use Rattle.ti_caps.specs.Tables.{Capability, IsCapability, rank_in, same_capability}
use Rattle.ti_caps.specs.declared.capability.Kind.TheVariants.{Flag, Number, Text}
use Rattle.ti_layout.specs.declared.values.Content.{Content as Lent}
use Rattle.ti_layout.specs.declared.values.Content.TheVariants as lent
use Rattle.ti_layout.specs.declared.values.Value.{Value}
use Rattle.ti_layout.specs.declared.values.Value.TheVariants.{True, Cancelled}
use Rattle.ti_layout.specs.declared.values.Value.TheVariants as v

-- a boolean, a number, a string, or a value that is cancelled
pub data Content : Type 0 where
  content_true : Content
  content_number : ℕ → Content
  content_text : List ℕ → Content
  content_cancelled : Content

-- a finite map: what each of the capabilities has
abbrev pub Contents : Type 0
Contents = Capability → Option Content

-- what a value says, as plain data
abbrev pub content_of : Value → Content
content_of True = content_true
content_of (v.Number n) = content_number n
content_of (v.Text t) = content_text (rc_slice_items t)
content_of Cancelled = content_cancelled

-- what a content says whose string is elsewhere, as plain data
abbrev pub content_seen : Lent → Content
content_seen lent.True = content_true
content_seen (lent.Number n) = content_number n
content_seen (lent.Text t) = content_text t.now
content_seen lent.Cancelled = content_cancelled

-- the capability may have the content: the kinds agree, a number is no greater than one may be, a
-- string has no NUL
abbrev pub Agrees : Capability → Content → Type 0
Agrees c content_true = c.kind ≡ Flag
Agrees c (content_number n) = (c.kind ≡ Number) × (n ≤ number_max)
Agrees c (content_text t) = (c.kind ≡ Text) × HasNoNul t
Agrees c content_cancelled = Unit {0}

-- the capability may have the content, if there is one
abbrev pub AgreesIfSome : Capability → Option Content → Type 0
AgreesIfSome c None = Unit {0}
AgreesIfSome c (Some content) = Agrees c content

-- ---- own: what is said about capabilities, one after another

-- a capability, and the value or the cancel that it is given
abbrev pub Mention : Type 0
Mention = Capability × Content

-- the mentions that a slice of capabilities and values makes
abbrev pub entries_of : List (Capability × Value) → List Mention
entries_of held = map (λ e. (e.0, content_of e.1)) held

-- what the mentions say of a capability: what the first of it gives it, a cancel too, if there is one
unfoldable pub contents : List Mention → Contents
contents [] c = None
contents (e ∷ es) c = if same_capability e.0 c then Some e.1 else contents es c

-- which of all capabilities it is, in the order of the compiled entry
abbrev pub rank_of : Capability → ℕ
rank_of c = rank_in c.kind + c.index

-- the rank of the capability at i
abbrev pub rank_at : List Mention → ℕ → ℕ
rank_at es i = slice_index (map (λ e. rank_of e.0) es) i

-- each capability comes after those before it, and may have what it has
pub record IsSorted (es : List Mention) : Type 0 where
  pub rises : (i j : ℕ) → i < j → j < length es → rank_at es i < rank_at es j
  pub agree : All (λ e. IsCapability e.0 × Agrees e.0 e.1) es
