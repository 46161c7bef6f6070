-- Where the entry of a name is, or would be, in a table (own).
use Rattle.std.specs.Prelude.{ℕ, ◌≡◌, ◌<◌, ◌≤◌, Bool, true, false, List, [], length, slice_index_or, Option, Some, None}
use Rattle.std.specs.Option.{option_or}
use Rattle.std.specs.Cmp.Lexicographic.{slice_cmp}
use Rattle.std.specs.Ordering.{nat_cmp}
use Rattle.std.specs.declared.cmp.Ordering.TheVariants.{Less}
use Rattle.std.specs.declared.alloc.Global.{Global}
use Rattle.std.specs.declared.rc.Rc.{Rc}
use Rattle.std.specs.declared.vec.Vec.{Vec}
use Rattle.ti_layout.specs.Values.{Content, content_true, content_number, content_text, content_cancelled}
use Rattle.ti_layout.specs.Laws.{without_cancel}
use Rattle.user_values.specs.Expansion.{UserMention}
use Rattle.user_values.specs.Tables.{TableSeen, entries_seen, said_at, said_once}
use Rattle.user_values.specs.declared.entries.UserEntry.{UserEntry}

-- the entries that are held, if some are
abbrev pub held_seen : Option (Rc (Vec (Rc UserEntry Global) Global) Global) → TableSeen
held_seen None = []
held_seen (Some entries) = entries_seen entries.value.items

-- what an entry says is said where nothing was
abbrev pub AddsEntry : UserMention → TableSeen → TableSeen → Type 0
AddsEntry entry old new = (name : List ℕ) → said_at new name ≡ option_or (said_at old name) (said_once entry.0 entry.1 name)

-- so is what each entry of a table says
abbrev pub AddsEntries : TableSeen → TableSeen → TableSeen → Type 0
AddsEntries entries old new = (name : List ℕ) → said_at new name ≡ option_or (said_at old name) (said_at entries name)

-- so is what an entry says, unless that is a cancel
abbrev pub AddsValue : UserMention → TableSeen → TableSeen → Type 0
AddsValue entry old new = (name : List ℕ) → said_at new name ≡ option_or (said_at old name) (without_cancel (said_once entry.0 entry.1 name))

-- so is each value of a table, but no cancel
abbrev pub AddsValues : TableSeen → TableSeen → TableSeen → Type 0
AddsValues entries old new = (name : List ℕ) → said_at new name ≡ option_or (said_at old name) (without_cancel (said_at entries name))

-- whether a content is a cancel
abbrev pub is_cancel : Content → Bool
is_cancel content_true = false
is_cancel (content_number n) = false
is_cancel (content_text text) = false
is_cancel content_cancelled = true

-- the entry of the name is at i
pub record IsAt (table : TableSeen) (name : List ℕ) (i : ℕ) : Type 0 where
  pub within : i < length table
  pub is_here : (entry : UserMention) → (slice_index_or table i entry).0 ≡ name

-- the entry of the name would be at i
pub record IsGapFor (table : TableSeen) (name : List ℕ) (i : ℕ) : Type 0 where
  pub within : i ≤ length table
  pub before : (j : ℕ) (entry : UserMention) → j < i → slice_cmp nat_cmp (slice_index_or table j entry).0 name ≡ Less
  pub after : (j : ℕ) (entry : UserMention) → i ≤ j → j < length table → slice_cmp nat_cmp name (slice_index_or table j entry).0 ≡ Less
