-- What a block says of user-defined capabilities (tic(1)).
use Rattle.ti_text.specs.Ascii as ascii
use Rattle.std.specs.Prelude.{◌≡◌, ℕ, List, map, Option}
use Rattle.ti_source.specs.Folding.{PlacedByte, Folds}
use Rattle.ti_source.specs.Items.{Begins, AreItems}
use Rattle.ti_source.specs.Walking.{block_items}
use Rattle.user_items.specs.Reading.{UserBlock, UserJudged, AreUserJudged, reading_by}
use Rattle.user_items.specs.inside.Computed.{judged_of}

-- how a block is read: by the folding and the cut of a block, and then each item by itself
pub record ReadsUserItems (block : List ℕ) (reading : UserBlock) : Type 0 where
  pub text : List PlacedByte
  pub field : List PlacedByte
  pub rest : List PlacedByte
  pub items : List (List PlacedByte)
  pub judged : List (Option UserJudged)
  pub folds : Folds block text
  pub begins : Begins text field rest
  pub cut : AreItems ascii.comma rest items
  pub are_judged : AreUserJudged items judged
  pub is : reading ≡ reading_by judged

-- the reading of a block: by the law below, the one that these give
unfoldable pub user_reading_of_text : List ℕ → UserBlock
user_reading_of_text block = reading_by (map judged_of (block_items block))
