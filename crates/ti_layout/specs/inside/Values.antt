-- At which index an entry is, or would be, among the entries of a table (own).
use Rattle.std.specs.Prelude.{◌≡◌, ◌≢◌, ℕ, ◌<◌, ◌≤◌, List, length, slice_index_or, Option}
use Rattle.ti_caps.specs.Tables.{Capability}
use Rattle.ti_layout.specs.Values.{Content, Mention, contents, rank_of, rank_at}

-- the entry of the capability is at i
pub record IsAt (es : List Mention) (c : Capability) (i : ℕ) : Type 0 where
  pub in_range : i < length es
  pub is_here : (e : Mention) → (slice_index_or es i e).0 ≡ c

-- the entry of the capability would be at i
pub record IsGapFor (es : List Mention) (c : Capability) (i : ℕ) : Type 0 where
  pub in_range : i ≤ length es
  pub before : (j : ℕ) → j < i → rank_at es j < rank_of c
  pub after : (j : ℕ) → i ≤ j → j < length es → rank_of c < rank_at es j

-- the new entries give the capability this content, and say of every other one what the old ones
-- say
pub record SetsOnly (old new : List Mention) (c : Capability) (content : Option Content) : Type 0 where
  pub this_one : contents new c ≡ content
  pub others : (d : Capability) → d ≢ c → contents new d ≡ contents old d
