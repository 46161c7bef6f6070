-- The tables of the blocks of a source, made one after another (own).
use Rattle.std.specs.Prelude.{◌≡◌, ℕ, ◌+◌, ◌<◌, List, length, Option, Some, None, slice_get}
use Rattle.std.specs.Option.{IsSome}
use Rattle.ti_text.specs.Lists.{Has, AreBelow, AreDistinct}
use Rattle.base_components.specs.Graph.{HasEdge}
use Rattle.ti_source.specs.declared.parsing.Rule.{Rule}
use Rattle.user_values.specs.Expansion.{expansion}
use Rattle.user_values.specs.Uses.{uses_of}

-- the rule of the tables, the texts of the source, the positions of its blocks in the order in which
-- their tables are made, and how many are made
pub record TablesSeen : Type 0 where
  pub rule : Rule
  pub texts : List (List ℕ)
  pub order : List ℕ
  pub made : ℕ

-- each position of the source is in the order, once, and no other number; a block that resolves
-- comes after each block that it uses
pub record IsOrderOf (texts : List (List ℕ)) (order : List ℕ) : Type 0 where
  pub listed : (at : ℕ) → at < length texts → Has order at
  pub below : AreBelow order (length texts)
  pub once : AreDistinct order
  pub after_used : (i at used : ℕ) (text : List ℕ) → slice_get order i ≡ Some at → slice_get texts at ≡ Some text → IsSome (expansion texts text)
      → HasEdge (uses_of texts) at used → (j : ℕ) × (j < i) × (slice_get order j ≡ Some used)

-- no table of this source is made by this rule
pub record IsStartBy (rule : Rule) (texts : List (List ℕ)) (tables : TablesSeen) : Type 0 where
  pub by_rule : tables.rule ≡ rule
  pub same : tables.texts ≡ texts
  pub all : IsOrderOf texts tables.order
  pub none : tables.made ≡ 0

-- these tables, and how many are made once that of a position is, if there was one to make
abbrev pub once_made : TablesSeen → Option ℕ → TablesSeen
once_made tables None = tables
once_made tables (Some at) = record { rule = tables.rule; texts = tables.texts; order = tables.order; made = tables.made + 1 }

-- the next table is made, if there is one
pub record MakesNext (old : TablesSeen) (at : Option ℕ) (new : TablesSeen) : Type 0 where
  pub next : at ≡ slice_get old.order old.made
  pub is : new ≡ once_made old at

-- the table of this position is the last that was made
pub record IsMadeLast (tables : TablesSeen) (at : ℕ) : Type 0 where
  pub before : ℕ
  pub one_more : tables.made ≡ before + 1
  pub here : slice_get tables.order before ≡ Some at
