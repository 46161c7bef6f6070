-- The parts that the writer adds in turn are the extension, and its size is known before.
use Rattle.std.proofs.Common.{◌≡◌, ℕ, ◌+◌, ◌*◌, ◌%◌, ◌<◌, ◌≤◌, List, [], ◌∷◌, ◌++◌, length, replicate, refl, ap, ◌∙◌, arith, append_assoc, length-append}
use Rattle.std.proofs.lemmas.List.{length-map, length-replicate}
use Rattle.ti_layout.specs.declared.layout.Format.{Format}
use Rattle.ti_layout.specs.declared.layout.Format.TheVariants.{Legacy}
use Rattle.ti_layout.specs.Layout.{number_section, width}
use Rattle.ti_layout.proofs.Spelled.{length-spelled}
use Rattle.user_extension.specs.declared.writing.Sizes.{Sizes}
use Rattle.user_extension.specs.UserDefined.{Row}
use Rattle.user_extension.specs.Extension.{HasSizes, at_most_max, extension, extension_header, extension_size, flags, names, numbers, places, table, texts}
use Rattle.user_extension.specs.Extension.{ended}

pub length-places : (at : ℕ) (ts : List (List ℕ)) → length (places at ts) ≡ length ts
length-places at [] = refl
length-places at (t ∷ ts) = let e = length-places (at + length (ended t)) ts in omega (arith, e)

length-eight : (h f g m o p t n : List ℕ) → length (h ++ f ++ g ++ m ++ o ++ p ++ t ++ n) ≡ length h + length f + length g + length m + length o + length
    p + length t + length n
length-eight h f g m o p t n = simp length-append

sums : (h f g m o p t n x y z : ℕ) → h ≡ 10 → g ≡ f % 2 → m ≡ x → o ≡ 2 * y → p ≡ 2 * z → h + f + g + m + o + p + t + n
    ≡ 10 + f + f % 2 + x + 2 * y + 2 * z + (t + n)
sums h f g m o p t n x y z a b c d e = omega arith

pub length-extension : (w : Format) (rows : List Row) → length (extension w rows)
    ≡ 10 + length (flags rows) + length (flags rows) % 2 + width w * length (numbers rows) + 2 * length
    (texts rows) + 2 * length rows + (length (table (texts rows)) + length (table (names rows)))
unfolding extension
length-extension w rows =
    let h : length (extension_header rows) ≡ 10 = length-spelled Legacy _ in
    let o : length (number_section Legacy (places 0 (texts rows))) ≡ 2 * length (texts rows) =
    length-spelled Legacy (places 0 (texts rows)) ∙ ap (λ n. 2 * n) (length-places 0 (texts rows)) in
    let p : length (number_section Legacy (places 0 (names rows))) ≡ 2 * length rows =
    length-spelled Legacy (places 0 (names rows)) ∙ ap (λ n. 2 * n) (length-places 0 (names rows) ∙ length-map rows (λ (u : Row). u.0)) in
    length-eight (extension_header rows) (flags rows) _ _ _ _ (table (texts rows)) (table (names rows))
    ∙ sums _ _ _ _ _ _ _ _ _ _ _ h (length-replicate (length (flags rows) % 2) 0) (length-spelled w (numbers rows)) o p

pub joined : (v0 v1 v2 v3 v4 v5 v6 v7 v8 h f g m o p t n : List ℕ) → v1 ≡ v0 ++ h → v2 ≡ v1 ++ f → v3 ≡ v2 ++ g → v4 ≡ v3 ++ m → v5 ≡ v4 ++ o → v6 ≡ v5 ++ p
    → v7 ≡ v6 ++ t → v8 ≡ v7 ++ n
    → v8 ≡ v0 ++ (h ++ f ++ g ++ m ++ o ++ p ++ t ++ n)
joined v0 v1 v2 v3 v4 v5 v6 v7 v8 h f g m o p t n e1 e2 e3 e4 e5 e6 e7 e8 = rw (e8, e7, e6, e5, e4, e3, e2, e1) (simp append_assoc)

pub record Small (rows : List Row) (sizes : Sizes) : Type 0 where
  pub few_flags : sizes.flags ≤ 32768
  pub few_numbers : sizes.numbers ≤ 32768
  pub few_texts : sizes.texts ≤ 32768
  pub few : length rows ≤ 32768
  pub small_table : sizes.table ≤ 32768
  pub table_counted : sizes.table ≡ length (table (texts rows) ++ table (names rows))
  pub values_fit : length (table (texts rows)) < 65536
  pub names_fit : length (table (names rows)) < 65536

pub small : (w : Format) (rows : List Row) (sizes : Sizes) → HasSizes rows sizes → length (extension w rows) ≤ 32768 → Small rows sizes
small w rows sizes has within =
    let l = length-extension w rows in
    let f = has.few_flags in
    let n = has.few_numbers in
    let t = has.few_texts in
    let e = has.table_is in
    record {
      few_flags = omega arith;
      few_numbers = omega arith;
      few_texts = omega arith;
      few = omega arith;
      small_table = omega arith;
      table_counted = omega (arith, length-append (table (texts rows)) (table (names rows)));
      values_fit = omega arith;
      names_fit = omega arith;
    }

same_header : (a b c d e a' b' c' d' e' : ℕ) → a ≡ a' → b ≡ b' → c ≡ c' → d ≡ d' → e ≡ e' → number_section Legacy (a ∷ b ∷ c ∷ d ∷ e ∷ [])
    ≡ number_section Legacy (a' ∷ b' ∷ c' ∷ d' ∷ e' ∷ [])
same_header a b c d e a' b' c' d' e' p q r s t = rw (p, q, r, s, t) refl

pub header_is : (rows : List Row) (sizes : Sizes) (count : ℕ) → HasSizes rows sizes → count ≡ length rows
    → sizes.table ≡ length (table (texts rows) ++ table (names rows))
    → number_section Legacy (sizes.flags ∷ sizes.numbers ∷ sizes.texts ∷ (sizes.texts + count) ∷ sizes.table ∷ []) ≡ extension_header rows
header_is rows sizes count has e t =
    same_header _ _ _ _ _ _ _ _ _ _ has.flags_are has.numbers_are has.texts_are (let a = has.texts_are in omega (arith, length-map rows (λ (u : Row). u.0))) t

pub extended : (w : Format) (rows : List Row) (start v1 v2 v3 v4 v5 v6 v7 v8 : List ℕ) → v1 ≡ start ++ extension_header rows → v2 ≡ v1 ++ flags rows
    → v3 ≡ v2 ++ replicate (length (flags rows) % 2) 0
    → v4 ≡ v3 ++ number_section w (numbers rows) → v5 ≡ v4 ++ number_section Legacy (places 0 (texts rows))
    → v6 ≡ v5 ++ number_section Legacy (places 0 (names rows))
    → v7 ≡ v6 ++ table (texts rows) → v8 ≡ v7 ++ table (names rows) → v8 ≡ start ++ extension w rows
unfolding extension
extended w rows start v1 v2 v3 v4 v5 v6 v7 v8 e1 e2 e3 e4 e5 e6 e7 e8 = joined start v1 v2 v3 v4 v5 v6 v7 v8 _ _ _ _ _ _ _ _ e1 e2 e3 e4 e5 e6 e7 e8

-- the size of an extension as it is counted
pub size_counted : (w : Format) (rows : List Row) (sizes : Sizes) → HasSizes rows sizes → at_most_max (extension_size w sizes (length rows))
    ≡ at_most_max (length (extension w rows))
size_counted w rows sizes has =
    let l = length-extension w rows in
    let f = has.flags_are in
    let f2 : sizes.flags % 2 ≡ length (flags rows) % 2 = ap (λ (n : ℕ). n % 2) f in
    let n : width w * sizes.numbers ≡ width w * length (numbers rows) = ap (λ k. width w * k) has.numbers_are in
    let t = has.texts_are in
    let e = has.table_is in
    omega arith
