-- The rows of an extension, place by place.
use Rattle.std.proofs.Common.{◌≡◌, ℕ, ◌<◌, [], length, get_or, Some, None, ap, ◌∙◌, arith, slice_get}
use Rattle.std.proofs.lemmas.Option.{slice_get-get_or}
use Rattle.std.proofs.lemmas.List.FromFn.{length-map-range_with_len, get_or-map-range_with_len}
use Rattle.ti_layout.specs.declared.layout.Format.{Format}
use Rattle.ti_layout.specs.declared.layout.Format.TheVariants.{Legacy}
use Rattle.ti_layout.specs.Reading.{count_in}
use Rattle.user_extension.specs.Reading.{Parts, ReadRow, name_in, name_table, rows_in, value_in}

module _ (w : Format) (p : Parts) where
  read_row : ℕ → ReadRow
  read_row i = (name_in p.names (name_table p.values p.table) i, value_in w p i)

  pub rows_long : length (rows_in w p) ≡ count_in Legacy p.names
  rows_long = length-map-range_with_len {X = ReadRow} (λ i. (name_in p.names (name_table p.values p.table) i, value_in w p i)) 0 (count_in Legacy p.names)

  pub row_at : (i : ℕ) (d : ReadRow) → i < count_in Legacy p.names → get_or (rows_in w p) i d
      ≡ (name_in p.names (name_table p.values p.table) i, value_in w p i)
  row_at i d lt = get_or-map-range_with_len {X = ReadRow} (λ i. (name_in p.names (name_table p.values p.table) i, value_in w p i)) 0
      (count_in Legacy p.names) i i d lt (omega arith)

  pub row_stands : (i : ℕ) → i < count_in Legacy p.names → slice_get (rows_in w p) i ≡ Some (name_in p.names (name_table p.values p.table) i, value_in w p i)
  row_stands i lt = let d : ReadRow = ([], None) in let long = rows_long in slice_get-get_or (rows_in w p) i d (omega arith)
      ∙ ap (λ (r : ReadRow). Some r) (row_at i d lt)
