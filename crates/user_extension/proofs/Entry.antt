-- The entry and its parts, and how long it is.
use Rattle.std.proofs.Common.{◌≡◌, ℕ, zero, suc, ◌+◌, ◌%◌, ◌<◌, ◌≤◌, Bool, true, false, List, [], ◌∷◌, ◌++◌, length, get_or, replicate, Some, refl, sym, ap}
use Rattle.std.proofs.Common.{◌∙◌, subst, arith, append-nil, append_assoc, length-append}
use Rattle.std.proofs.Common.{◌||◌, ◌==◌}
use Rattle.std.proofs.lemmas.Bool.Decides.{nat_tests}
use Rattle.std.proofs.lemmas.List.Folds.{list_any-append}
use Rattle.std.proofs.lemmas.List.{length-replicate}
use Rattle.ti_layout.specs.declared.layout.Format.{Format}
use Rattle.ti_layout.specs.declared.header.Header.{Header}
use Rattle.ti_layout.specs.Layout.{entry_size, limit}
use Rattle.ti_layout.specs.Image.{image_in, is_wide}
use Rattle.ti_layout.specs.Values.{Contents, content_seen}
use Rattle.ti_layout.specs.Sizes as layout
use Rattle.ti_layout.proofs.Assembling as layout_assembling
use Rattle.ti_layout.proofs.Sizes.{limit-le}
use Rattle.user_extension.specs.declared.user_defined.UserDefined.{UserDefined}
use Rattle.user_extension.specs.declared.writing.Sizes.{Sizes}
use Rattle.user_extension.specs.UserDefined.{Row, rows_of, row_of}
use Rattle.user_extension.specs.Extension.{Fits, FitsAfter, HasSizes, at_most_max, entry, entry_format, extension, extension_size, some_wide}
use Rattle.user_extension.proofs.Assembling.{size_counted}
use Rattle.user_extension.proofs.Fronts.{front, front_more}

module _ (field : List ℕ) (c : Contents) where
  pub entry_none : (rows : List Row) → length rows ≡ 0 → entry field c rows ≡ image_in (entry_format c rows) field c
  unfolding entry
  entry_none [] e = append-nil _
  entry_none (u ∷ rows) e = absurd (omega (arith, e))

  pub entry_some : (rows : List Row) → 0 < length rows → entry field c rows ≡ image_in (entry_format c rows) field c
      ++ (replicate (length (image_in (entry_format c rows) field c) % 2) 0 ++ extension (entry_format c rows) rows)
  unfolding entry
  entry_some [] lt = absurd (omega (arith, lt))
  entry_some (u ∷ rows) lt = refl

  pub length-some : (rows : List Row) → 0 < length rows → let image =
      length (image_in (entry_format c rows) field c) in length (entry field c rows) ≡ image + image % 2 + length (extension (entry_format c rows) rows)
  length-some rows lt =
      let image = image_in (entry_format c rows) field c in
      let e = ap length (entry_some rows lt) ∙ length-append image (replicate (length image % 2) 0 ++ extension (entry_format c rows) rows) in
      let r : length (replicate {A = ℕ} (length image % 2) 0) ≡ length image % 2 = length-replicate (length image % 2) 0 in
      omega (arith, e, length-append (replicate {A = ℕ} (length image % 2) 0) (extension (entry_format c rows) rows), r)

  -- what is added in turn is the entry
  pub made : (rows : List Row) (w : Format) (image v1 v2 : List ℕ) (n : ℕ) → 0 < length rows → w ≡ entry_format c rows → image ≡ image_in w field c
      → n ≡ length image → v1 ≡ image ++ replicate (n % 2) 0 → v2 ≡ v1 ++ extension w rows → v2 ≡ entry field c rows
  made rows w image v1 v2 n lt e i l a b =
      let image2 : image ≡ image_in (entry_format c rows) field c = i ∙ ap (λ f. image_in f field c) e in
      b ∙ ap (λ x. x ++ extension w rows) a ∙ append_assoc image (replicate (n % 2) 0) (extension w rows)
      ∙ ap (λ x. image ++ (x ++ extension w rows)) (ap (λ (k : ℕ). replicate {A = ℕ} (k % 2) 0) (l ∙ ap length image2))
      ∙ ap (λ x. x ++ (replicate (length (image_in (entry_format c rows) field c) % 2) 0 ++ extension w rows)) image2
      ∙ ap (λ f. image_in (entry_format c rows) field c ++ (replicate (length (image_in (entry_format c rows) field c) % 2) 0 ++ extension f rows)) e
      ∙ sym (entry_some rows lt)

  pub made_alone : (rows : List Row) (w : Format) (image : List ℕ) → length rows ≡ 0 → w ≡ entry_format c rows → image ≡ image_in w field c
      → image ≡ entry field c rows
  made_alone rows w image none e i = i ∙ ap (λ f. image_in f field c) e ∙ sym (entry_none rows none)

  -- the parts are small if the whole is
  pub image_small : (rows : List Row) → Fits field c rows → length (image_in (entry_format c rows) field c) ≤ 32768
  image_small [] fits = let e = ap length (entry_none [] refl) in omega (arith, e, fits, limit-le (entry_format c []))
  image_small (u ∷ rows) fits = let e = length-some (u ∷ rows) (omega arith) in omega (arith, e, fits, limit-le (entry_format c (u ∷ rows)))

  pub extension_small : (rows : List Row) → 0 < length rows → Fits field c rows → length (extension (entry_format c rows) rows) ≤ 32768
  extension_small rows lt fits = omega (arith, length-some rows lt, fits, limit-le (entry_format c rows))

  small_after : (s image x long l : ℕ) → at_most_max s ≡ at_most_max image → at_most_max x ≡ at_most_max long → l ≤ 32768 → s + s % 2 + x ≤ l
      → image + image % 2 + long ≤ l
  small_after s image x long l e f most le =
      let a : s ≡ image = omega arith in
      let b : x ≡ long = omega arith in
      let d : s % 2 ≡ image % 2 = ap (λ (n : ℕ). n % 2) a in
      omega arith

  large_after : (s image x long l : ℕ) → at_most_max s ≡ at_most_max image → at_most_max x ≡ at_most_max long → l ≤ 32768 → image + image % 2 + long ≤ l
      → s + s % 2 + x ≤ l
  large_after s image x long l e f most le = small_after image s long x l (sym e) (sym f) most le

  -- what the sizes say of the whole
  module _ (rows : List Row) (h : Header) (sizes : Sizes) (header : layout.HasSizesIn (entry_format c rows) field c h) (has : HasSizes rows sizes) where
    size_is : at_most_max (entry_size h.format h.names h.flags h.numbers h.texts h.strings) ≡ at_most_max (length (image_in (entry_format c rows) field c))
    size_is = layout_assembling.size_counted_in (entry_format c rows) field c h header _ refl

  fits_none : (rows : List Row) (h : Header) (sizes : Sizes) → length rows ≡ 0 → layout.HasSizesIn (entry_format c rows) field c h
      → (entry_size h.format h.names h.flags h.numbers h.texts h.strings ≤ limit h.format → Fits field c rows)
      × (Fits field c rows → entry_size h.format h.names h.flags h.numbers h.texts h.strings ≤ limit h.format)
  fits_none rows h sizes e header =
      let s : at_most_max (entry_size h.format h.names h.flags h.numbers h.texts h.strings)
      ≡ at_most_max (length (image_in (entry_format c rows) field c)) = layout_assembling.size_counted_in (entry_format c rows) field c h header _ refl in
      let l = ap length (entry_none rows e) in
      let k = limit-le (entry_format c rows) in
      let m : limit h.format ≡ limit (entry_format c rows) = ap limit header.format in
      (λ a. omega arith, λ a. omega arith)

  fits_some : (rows : List Row) (h : Header) (sizes : Sizes) → 0 < length rows → layout.HasSizesIn (entry_format c rows) field c h → HasSizes rows sizes
      → let s = entry_size h.format h.names h.flags h.numbers h.texts h.strings in
      (s + s % 2 + extension_size h.format sizes (length rows) ≤ limit h.format → Fits field c rows)
      × (Fits field c rows → s + s % 2 + extension_size h.format sizes (length rows) ≤ limit h.format)
  fits_some rows h sizes lt header has =
      let w = entry_format c rows in
      let s = entry_size h.format h.names h.flags h.numbers h.texts h.strings in
      let a : at_most_max s ≡ at_most_max (length (image_in w field c)) = layout_assembling.size_counted_in w field c h header _ refl in
      let b : at_most_max (extension_size h.format sizes (length rows)) ≡ at_most_max (length (extension w rows)) =
      ap (λ f. at_most_max (extension_size f sizes (length rows))) header.format ∙ size_counted w rows sizes has in
      let l = length-some rows lt in
      let k = limit-le w in
      let m : limit h.format ≡ limit w = ap limit header.format in (
        λ le. let r = small_after s _ _ _ (limit w) a b k (omega (arith, le, m)) in omega (arith, r, l),
        λ fits. let r =
            large_after s _ _ _ (limit w) a b k (omega (arith, fits, l)) in omega (arith, r, m),
      )

  pub fits_when : (rows : List Row) (h : Header) (sizes : Sizes) (count : ℕ) → count ≡ length rows → layout.HasSizesIn (entry_format c rows) field c h
      → HasSizes rows sizes
      → FitsAfter h.format sizes count (entry_size h.format h.names h.flags h.numbers h.texts h.strings) → Fits field c rows
  fits_when rows h sizes zero e header has f = (fits_none rows h sizes (sym e) header).0 f
  fits_when rows h sizes (suc n) e header has f =
      let s = entry_size h.format h.names h.flags h.numbers h.texts h.strings in
      (fits_some rows h sizes (omega arith) header has).0 (subst (λ (k : ℕ). s + s % 2 + extension_size h.format sizes k ≤ limit h.format) e f)

  pub fits_then : (rows : List Row) (h : Header) (sizes : Sizes) (count : ℕ) → count ≡ length rows → layout.HasSizesIn (entry_format c rows) field c h
      → HasSizes rows sizes
      → Fits field c rows → FitsAfter h.format sizes count (entry_size h.format h.names h.flags h.numbers h.texts h.strings)
  fits_then rows h sizes zero e header has f = (fits_none rows h sizes (sym e) header).1 f
  fits_then rows h sizes (suc n) e header has f =
      let s = entry_size h.format h.names h.flags h.numbers h.texts h.strings in
      subst (λ (k : ℕ). s + s % 2 + extension_size h.format sizes k ≤ limit h.format) (sym e) ((fits_some rows h sizes (omega arith) header has).1 f)

-- ---- the format

or_false : (b : Bool) → (b || false) ≡ b
or_false true = refl
or_false false = refl

or_true : (b : Bool) → (b || true) ≡ true
or_true true = refl
or_true false = refl

any_append : (a : List Row) (u : Row) → some_wide a ≡ false → some_wide (a ++ u ∷ []) ≡ is_wide (Some u.1)
any_append a u e =
    let p : Row → Bool = λ x. is_wide (Some x.1) in
    list_any-append p a (u ∷ []) ∙ ap (λ b. b || (is_wide (Some u.1) || false)) e ∙ or_false (is_wide (Some u.1))

pub wide_none : (rows : List UserDefined) (k : ℕ) (d : UserDefined) → k < length rows → some_wide (front k rows) ≡ false
    → is_wide (Some (content_seen (get_or rows k d).value)) ≡ false → some_wide (front (k + 1) rows) ≡ false
wide_none rows k d lt none here =
    ap (λ (xs : List Row). some_wide xs) (front_more rows k d lt) ∙ any_append (front k rows) (row_of (get_or rows k d)) none ∙ here

pub wide_here : (rows : List UserDefined) (k : ℕ) (d : UserDefined) → k < length rows → is_wide (Some (content_seen (get_or rows k d).value)) ≡ true
    → some_wide (rows_of rows) ≡ true
wide_here [] k d lt here = absurd (omega (arith, lt))
wide_here (u ∷ rows) zero d lt here = ap (λ b. b || some_wide (rows_of rows)) here
wide_here (u ∷ rows) (suc k) d lt here =
    ap (λ b. is_wide (Some (content_seen u.value)) || b) (wide_here rows k d (omega (arith, lt)) here) ∙ or_true (is_wide (Some (content_seen u.value)))

pub some : (n : ℕ) → false ≡ (n == 0) → 0 < n
some zero e = absurd cc
some (suc n) e = omega arith

pub none : (n : ℕ) → true ≡ (n == 0) → n ≡ 0
none n e = grind (arith, nat_tests)
