-- A block of a source of bytes that resolves by a rule has a names field that can be listed, and what
-- it says fits its capabilities.
use Rattle.std.proofs.Common.{◌≡◌, ℕ, suc, false, List, length, Some, ap, sym, ◌∙◌, subst}
use Rattle.std.specs.List.{All}
use Rattle.std.proofs.lemmas.List.Elements.{All-map, All-weaker}
use Rattle.ti_spelling.specs.Spelling.{ValuesAreSound}
use Rattle.ti_source.specs.declared.parsing.Rule.{Rule}
use Rattle.ti_source.specs.Parsing.{reading_of_text, HasReading}
use Rattle.ti_source.specs.Reading.{Reading}
use Rattle.ti_source.specs.Sound.{EachIsWellRead}
use Rattle.ti_layout.specs.Values.{Mention}
use Rattle.base_meaning.specs.Expansion.{is_broken, expansion}
use Rattle.base_meaning.specs.Owner.{owner_block}
use Rattle.base_meaning.specs.Readings.{reading_by, readings_by}
use Rattle.base_meaning.proofs.Ruling.{read_by}
use Rattle.tools_relisting.proofs.EntryLaws.{IsGoodBlock, IsText}
use Rattle.tools_relisting.proofs.Fitting.{ItemFits, expand-fits, items-fit, owned-has, unbroken-expand}
use Rattle.tools_relisting.proofs.Heading.{block-listable}
use Rattle.tools_relisting.proofs.TextBytes.{parsed-bytes}

-- what a block says fits
abbrev BlockFits : Reading → Type 0
BlockFits block = All ItemFits block.items

module _ (sound : ValuesAreSound) (computed : HasReading) (well_read : EachIsWellRead) where
  text-fits : (rule : Rule) (text : List ℕ) → IsText text → BlockFits (reading_by rule text)
  text-fits rule text is =
      subst BlockFits (sym (read_by rule text))
      (items-fit (reading_of_text text).items (well_read text is.0).sets (parsed-bytes sound computed text is.1))

  blocks-fit : (rule : Rule) (texts : List (List ℕ)) → All IsText texts → All BlockFits (readings_by rule texts)
  blocks-fit rule texts are =
      All-map BlockFits (reading_by rule) texts (All-weaker IsText (λ text. BlockFits (reading_by rule text)) (text-fits rule) texts are)

  pub good-block : (rule : Rule) (texts : List (List ℕ)) (text : List ℕ) (ms : List Mention) → All IsText texts → IsText text
      → expansion (readings_by rule texts) (reading_by rule text) ≡ Some ms → IsGoodBlock (reading_of_text text) ms
  good-block rule texts text ms are is e =
      let blocks = readings_by rule texts in
      let block = reading_by rule text in
      let whole : is_broken (reading_of_text text) ≡ false =
      sym (ap is_broken (read_by rule text)) ∙ unbroken-expand (owner_block blocks) (length blocks) block ms e in
      let fits : All BlockFits blocks = blocks-fit rule texts are in
      let named = (well_read text is.0).named whole in
      record {
        listable = block-listable text is.0 (computed text) whole;
        some = named.some;
        no_nul = named.no_nul;
        fit = expand-fits (owner_block blocks) (λ name b o. owned-has BlockFits blocks name b fits o) (suc (length blocks)) block ms (text-fits rule text is) e;
      }
