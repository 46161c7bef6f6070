-- Contents that have the same strings have the same string table and offsets.
use Rattle.std.proofs.Common.{◌≡◌, ℕ, length, ap, ◌∙◌}
use Rattle.ti_caps.specs.Tables.{capability}
use Rattle.ti_caps.specs.declared.capability.Kind.TheVariants.{Text}
use Rattle.ti_layout.specs.Image.{is_there, of_kind, offset_value, text_piece, texts_below, offsets_below, written_count}
use Rattle.ti_layout.specs.Values.{Contents}
use Rattle.ti_layout.proofs.Below.{below-same, last_passing-same}
use Rattle.ti_layout.proofs.Texts.{texts-same}

module _ (g c : Contents) (same : (i : ℕ) → g (capability Text i) ≡ c (capability Text i)) where
  pub same_texts : (n : ℕ) → texts_below g n ≡ texts_below c n
  same_texts n = texts-same g c n (λ i lt. ap text_piece (same i))

  pub same_offsets : (n : ℕ) → offsets_below g n ≡ offsets_below c n
  same_offsets n = below-same _ _ n (λ i lt.
      ap (offset_value (length (texts_below g i))) (same i) ∙ ap (λ t. offset_value (length t) (of_kind c Text i)) (same_texts i))

  pub same_text_count : written_count g Text ≡ written_count c Text
  same_text_count = last_passing-same _ _ 414 (λ i lt. ap is_there (same i))

  pub same_strings : texts_below g (written_count g Text) ≡ texts_below c (written_count c Text)
  same_strings = same_texts (written_count g Text) ∙ ap (texts_below c) same_text_count
