-- Sections that were cut and looked through are an extension.
use Rattle.std.proofs.Common.{◌≡◌, ℕ, ◌+◌, ◌-◌, ◌*◌, ◌/◌, ◌<◌, ◌≤◌, min, List, length, take, drop, refl, sym, ap, ◌∙◌, subst, arith, inl, inr}
use Rattle.std.specs.Prelude.{slice_range}
use Rattle.std.proofs.lemmas.List.{length-drop, length-take, drop_min}
use Rattle.ti_layout.specs.declared.layout.Format.{Format}
use Rattle.ti_layout.specs.declared.layout.Format.TheVariants.{Legacy}
use Rattle.ti_layout.specs.Layout.{width}
use Rattle.ti_layout.specs.Reading.{HasBadFlag, HasEnd, count_in}
use Rattle.ti_layout.specs.Sections.{AreFlags, AreOffsets, AreStoredNumbers}
use Rattle.ti_layout.proofs.Spelled.{counted}
use Rattle.ti_layout.proofs.ViewLemmas.{rest_of}
use Rattle.user_extension.specs.declared.checks.Sections.{Sections}
use Rattle.user_extension.specs.Reading.{AreNames, IsExtension, Parts, flag_count, name_count, name_table, number_count, parts_in, table_end, table_size}
use Rattle.user_extension.specs.Reading.{text_count}
use Rattle.user_extension.specs.inside.Sections.{IsCut, parts_cut}

-- how long the sections are
pub record Lengths (w : Format) (rest : List ℕ) (p : Parts) : Type 0 where
  pub flags_long : length p.flags ≡ flag_count rest
  pub numbers_long : length p.numbers ≡ width w * number_count rest
  pub values_long : length p.values ≡ 2 * text_count rest
  pub names_long : length p.names ≡ 2 * name_count rest
  pub table_long : length p.table ≡ table_size rest

range_long : (xs : List ℕ) (a n b : ℕ) → b ≡ a + n → b ≤ length xs → length (slice_range xs a b) ≡ n
range_long xs a n b e within = omega (arith, length-take (b - a) (drop a xs), length-drop a xs)

pub lengths : (w : Format) (rest : List ℕ) → table_end w rest ≤ length rest → Lengths w rest (parts_in w rest)
lengths w rest whole = record {
  flags_long = range_long rest _ (flag_count rest) _ refl (omega arith);
  numbers_long = range_long rest _ (width w * number_count rest) _ refl (omega arith);
  values_long = range_long rest _ (2 * text_count rest) _ refl (omega arith);
  names_long = range_long rest _ (2 * name_count rest) _ refl (omega arith);
  table_long = range_long rest _ (table_size rest) _ refl whole;
}

pub lengths_cut : (w : Format) (rest : List ℕ) (s : Sections) → IsCut w rest s → Lengths w rest (parts_cut s)
lengths_cut w rest s cut = subst (Lengths w rest) (sym cut.cut) (lengths w rest cut.whole)

-- how many there are
pub record Counted (w : Format) (rest : List ℕ) (p : Parts) : Type 0 where
  pub flags_are : length p.flags ≡ flag_count rest
  pub numbers_are : count_in w p.numbers ≡ number_count rest
  pub values_are : count_in Legacy p.values ≡ text_count rest
  pub names_are : count_in Legacy p.names ≡ name_count rest

pub counts : (w : Format) (rest : List ℕ) (p : Parts) → Lengths w rest p → Counted w rest p
counts w rest p l =
    let v = l.values_long in
    let n = l.names_long in
    record {
      flags_are = l.flags_long;
      numbers_are = ap (λ (k : ℕ). k / width w) l.numbers_long ∙ counted w (number_count rest);
      values_are = omega arith;
      names_are = omega arith;
    }

-- the rest of the table, as the code cuts it
pub tail_is : (table : List ℕ) (size m : ℕ) → m ≡ min size (length table) → take (length table - m) (drop m table) ≡ drop size table
tail_is table size m e = rest_of m table ∙ ap (λ (k : ℕ). drop k table) e ∙ drop_min size table

-- an offset that a NUL follows leads into the table
pub leads : (table : List ℕ) (n : ℕ) → HasEnd table n → n < length table
leads table n h = let a = h.1 in let b = h.2 in omega arith

module _ (w : Format) (rest : List ℕ) (s : Sections) (cut : IsCut w rest s) (second third : ℕ) (second_is : second ≡ length s.flags.now)
    (third_is : third ≡ second + count_in w s.numbers.now) where
  second_place : second ≡ flag_count rest
  second_place = second_is ∙ (lengths_cut w rest s cut).flags_long

  third_place : third ≡ flag_count rest + number_count rest
  third_place = let a = second_place in let b = (counts w rest (parts_cut s) (lengths_cut w rest s cut)).numbers_are in omega arith

  pub is_extension : AreFlags s.flags.now → AreStoredNumbers w s.numbers.now → AreOffsets s.values.now s.table.now
      → AreNames second third s.names.now (name_table s.values.now s.table.now) → IsExtension w rest
  is_extension flags numbers values names = record {
    long = cut.long;
    few_names = cut.few_names;
    table_fits = cut.table_fits;
    whole = cut.whole;
    flags = subst (λ (p : Parts). AreFlags p.flags) cut.cut flags;
    numbers = subst (λ (p : Parts). AreStoredNumbers w p.numbers) cut.cut numbers;
    values = subst (λ (p : Parts). AreOffsets p.values p.table) cut.cut values;
    names = subst (λ (k : ℕ). AreNames (flag_count rest) k (parts_in w rest).names (name_table (parts_in w rest).values (parts_in w rest).table)) third_place
        (subst (λ (k : ℕ). AreNames k third (parts_in w rest).names (name_table (parts_in w rest).values (parts_in w rest).table)) second_place
        (subst (λ (p : Parts). AreNames second third p.names (name_table p.values p.table)) cut.cut names));
  }

  pub names_of : IsExtension w rest → AreNames second third s.names.now (name_table s.values.now s.table.now)
  names_of e =
      subst (λ (p : Parts). AreNames second third p.names (name_table p.values p.table)) (sym cut.cut)
      (subst (λ (k : ℕ). AreNames k third (parts_in w rest).names (name_table (parts_in w rest).values (parts_in w rest).table)) (sym second_place)
      (subst (λ (k : ℕ). AreNames (flag_count rest) k (parts_in w rest).names (name_table (parts_in w rest).values (parts_in w rest).table))
      (sym third_place) e.names))

  pub bad_flag : IsExtension w rest → HasBadFlag s.flags.now → ⊥
  bad_flag e bad =
      let flags : AreFlags s.flags.now = subst (λ (p : Parts). AreFlags p.flags) (sym cut.cut) e.flags in
      elim (flags bad.0 bad.1) [ inl low ↦ omega (arith, low, bad.2) | inr high ↦ omega (arith, high, bad.3) ]
