-- A string that is past the last has no name, and takes no parameters; the counts are of the strings.
use Prim.Native.String.{String}
use Rattle.std.proofs.Common.{◌≡◌, ◌≤◌, ℕ, [], map, refl, sym, subst}
use Rattle.std.proofs.lemmas.List.{get_or_past}
use Rattle.ti_caps.specs.Names.{text_names}
use Rattle.ti_caps.specs.Tables.{names}
use Rattle.ti_caps.specs.declared.capability.Kind.TheVariants.{Text}
use Rattle.ti_caps.proofs.Table.{length-names}
use Rattle.source_block_hints.specs.Counts.{counts, parameter_count}
use Rattle.source_block_hints.specs.Formats.{string_name}
use Rattle.source_block_hints.specs.Laws.{EachStringHasACount}

pub past : (index : ℕ) → 414 ≤ index → 0 ≡ parameter_count index
past index over = sym (get_or_past (map (λ (row : String × ℕ). row.1) counts) index 0 over)

pub no_name : (index : ℕ) → 414 ≤ index → [] ≡ string_name index
no_name index over =
    let P : ℕ → Type 0 = λ n. n ≤ index in
    sym (get_or_past (names Text) index [] (subst P (sym (length-names Text)) over))

pub each_has_a_count : EachStringHasACount
unfolding text_names
each_has_a_count = refl
