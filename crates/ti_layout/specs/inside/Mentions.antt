-- Mentions of capabilities one after another, of which the first of each decides (own).
use Rattle.std.specs.Prelude.{◌≡◌, ℕ, suc, ◌<◌, List, length, slice_index, slice_index_or, Some, None}
use Rattle.ti_caps.specs.Tables.{Capability, IsCapability, capability_count}
use Rattle.ti_layout.specs.Values.{Mention, contents, rank_of}

-- the mention that decides for the capability with this rank
abbrev pub Decides : List Mention → ℕ → Mention → Type 0
Decides es rank e = IsCapability e.0 × (rank_of e.0 ≡ rank) × (contents es e.0 ≡ Some e.1)

-- by the rank of each capability, one more than the position of its first mention, 0 if there is none
pub record AreMentionPositions (es : List Mention) (positions : List ℕ) : Type 0 where
  pub all : length positions ≡ capability_count
  pub none : (c : Capability) → IsCapability c → slice_index positions (rank_of c) ≡ 0 → contents es c ≡ None
  pub first : (rank p : ℕ) → slice_index positions rank ≡ suc p → (p < length es) × ((e : Mention) → Decides es rank (slice_index_or es p e))

-- how many mentions there are when a table is made of them
abbrev pub recent_max : ℕ
recent_max = 1000
