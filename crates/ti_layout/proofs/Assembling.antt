-- The parts that the writer writes in turn are the entry, and its size is known before.
use Rattle.std.proofs.Common.{◌≡◌, ℕ, suc, ◌+◌, ◌-◌, ◌%◌, ◌^◌, ◌<◌, ◌≤◌, min, List, [], ◌∷◌, ◌++◌, length, replicate, refl, sym, ap, ◌∙◌, subst, arith}
use Rattle.std.proofs.Common.{append-nil}
use Rattle.ti_caps.specs.declared.capability.Kind.TheVariants.{Flag, Number, Text}
use Rattle.ti_layout.specs.declared.layout.Format.{Format}
use Rattle.ti_layout.specs.declared.layout.Format.TheVariants.{Legacy}
use Rattle.ti_layout.specs.declared.header.Header.{Header}
use Rattle.ti_layout.specs.Layout.{entry_size, header, limit, number_section}
use Rattle.ti_layout.specs.Image.{image, image_in, image_limit, format_of, even_gap, flags_below, numbers_below, offsets_below, texts_below, written_count}
use Rattle.ti_layout.specs.Sizes.{HasSizes, HasSizesIn, at_most_max}
use Rattle.ti_layout.specs.Values.{Contents}
use Rattle.ti_layout.proofs.Below.{length-below}
use Rattle.ti_layout.proofs.Sizes.{image-is, length-image_in, limit-le, strings_small_in}

-- a size as it is counted
counted_size : (fixed strings : ℕ) → min (fixed + min strings (2 ^ 64 - 1)) (2 ^ 64 - 1) ≡ min (fixed + strings) (2 ^ 64 - 1)
counted_size fixed strings = omega arith

sized : (w w' : Format) (n n' f f' m m' t t' s s' : ℕ) → w ≡ w' → n ≡ n' → f ≡ f' → m ≡ m' → t ≡ t' → s ≡ s'
    → entry_size w n f m t s ≡ entry_size w' n' f' m' t' s'
sized w w' n n' f f' m m' t t' s s' a b c d e g = rw (a, b, c, d, e, g) refl

same_header : (w w' : Format) (n n' f f' m m' t t' s s' : ℕ) → w ≡ w' → n ≡ n' → f ≡ f' → m ≡ m' → t ≡ t' → s ≡ s'
    → header w n f m t s ≡ header w' n' f' m' t' s'
same_header w w' n n' f f' m m' t t' s s' a b c d e g = rw (a, b, c, d, e, g) refl

joined : (a b x y : List ℕ) → a ≡ b → x ≡ y → a ++ x ≡ b ++ y
joined a b x y e g = ap (λ t. t ++ x) e ∙ ap (λ t. b ++ t) g

-- the sizes, in the header's own format
pub own_sizes : (w : Format) (field : List ℕ) (c : Contents) (h : Header) → HasSizesIn w field c h → HasSizesIn h.format field c h
own_sizes w field c h has = record {
  format = refl;
  names = has.names;
  flags = has.flags;
  numbers = has.numbers;
  texts = has.texts;
  strings = has.strings;
  flags_fit = has.flags_fit;
  numbers_fit = has.numbers_fit;
  texts_fit = has.texts_fit;
}

module _ (w : Format) (field : List ℕ) (c : Contents) (h : Header) (has : HasSizesIn w field c h) where
  size_of_header : entry_size h.format h.names h.flags h.numbers h.texts h.strings
      ≡ entry_size w (suc (length field)) (written_count c Flag) (written_count c Number) (written_count c Text)
      (at_most_max (length (texts_below c (written_count c Text))))
  size_of_header = sized _ _ _ _ _ _ _ _ _ _ _ _ has.format has.names has.flags has.numbers has.texts has.strings

  pub size_counted_in : (size : ℕ) → size ≡ at_most_max (entry_size h.format h.names h.flags h.numbers h.texts h.strings)
      → size ≡ at_most_max (length (image_in w field c))
  size_counted_in size e =
      e ∙ ap at_most_max size_of_header ∙ counted_size _ (length (texts_below c (written_count c Text))) ∙ ap at_most_max (sym (length-image_in w field c))

  -- the limit is of the entry's format
  pub over_limit_in : (size most : ℕ) → size ≡ at_most_max (entry_size h.format h.names h.flags h.numbers h.texts h.strings) → most ≡ limit h.format
      → most < size → limit w < length (image_in w field c)
  over_limit_in size most e l over =
      let s = size_counted_in size e in
      let m : most ≡ limit w = l ∙ ap limit has.format in
      omega arith

  pub within_limit_in : (size most : ℕ) → size ≡ at_most_max (entry_size h.format h.names h.flags h.numbers h.texts h.strings) → most ≡ limit h.format
      → size ≤ most → length (image_in w field c) ≤ limit w
  within_limit_in size most e l within =
      let s = size_counted_in size e in
      let m : most ≡ limit w = l ∙ ap limit has.format in
      let k = limit-le w in
      omega arith

  module _ (small : length (image_in w field c) ≤ 32768) where
    -- an entry that is small has a small string table, whose size is counted
    pub table_small : length (texts_below c (written_count c Text)) < 32768
    table_small = strings_small_in w field c small

    pub strings_counted : h.strings ≡ length (texts_below c (written_count c Text))
    strings_counted = let s = has.strings in let t = table_small in omega arith

    pub header_written_in : header h.format h.names h.flags h.numbers h.texts h.strings
        ≡ header w (suc (length field)) (length (flags_below c (written_count c Flag))) (length (numbers_below w c (written_count c Number)))
        (length (offsets_below c (written_count c Text))) (length (texts_below c (written_count c Text)))
    header_written_in =
        same_header _ _ _ _ _ _ _ _ _ _ _ _ has.format has.names (has.flags ∙ sym (length-below _ (written_count c Flag)))
        (has.numbers ∙ sym (length-below _ (written_count c Number)))
        (has.texts ∙ sym (length-below _ (written_count c Text))) strings_counted

    -- what is added in turn is the entry
    pub assembled : (v0 v1 v2 v3 v4 v5 v6 v7 v8 : List ℕ) → v0 ≡ [] → v1 ≡ v0 ++ header h.format h.names h.flags h.numbers h.texts h.strings
        → v2 ≡ v1 ++ field → v3 ≡ v2 ++ 0 ∷ []
        → v4 ≡ v3 ++ flags_below c (written_count c Flag) → v5 ≡ v4 ++ replicate ((h.names + h.flags) % 2) 0
        → v6 ≡ v5 ++ number_section h.format (numbers_below h.format c (written_count c Number))
        → v7 ≡ v6 ++ number_section Legacy (offsets_below c (written_count c Text)) → v8 ≡ v7 ++ texts_below c (written_count c Text) → v8 ≡ image_in w field c
    unfolding image_in
    assembled v0 v1 v2 v3 v4 v5 v6 v7 v8 e0 e1 e2 e3 e4 e5 e6 e7 e8 =
        let numbers : number_section h.format (numbers_below h.format c (written_count c Number))
        ≡ number_section w (numbers_below w c (written_count c Number)) =
        ap (λ f. number_section f (numbers_below f c (written_count c Number))) has.format in
        let gap : replicate {A = ℕ} ((h.names + h.flags) % 2) 0 ≡ even_gap field (written_count c Flag) =
        ap (λ n. replicate {A = ℕ} (n % 2) 0) (ap (λ n. n + h.flags) has.names ∙ ap (λ n. suc (length field) + n) has.flags) in
        let first : v1 ≡ header w (suc (length field)) (length (flags_below c (written_count c Flag))) (length (numbers_below w c (written_count c Number)))
        (length (offsets_below c (written_count c Text))) (length (texts_below c (written_count c Text))) =
        e1 ∙ ap (λ x. x ++ header h.format h.names h.flags h.numbers h.texts h.strings) e0 ∙ header_written_in in
        e8 ∙ ap (λ x. x ++ texts_below c (written_count c Text))
        (e7 ∙ ap (λ x. x ++ number_section Legacy (offsets_below c (written_count c Text)))
        (e6 ∙ joined _ _ _ _ (e5 ∙ joined _ _ _ _ (e4 ∙ ap (λ x. x ++ flags_below c (written_count c Flag))
        (e3 ∙ ap (λ x. x ++ 0 ∷ []) (e2 ∙ ap (λ x. x ++ field) first))) gap) numbers))
        ∙ sym (append-nil _)

module _ (field : List ℕ) (c : Contents) (h : Header) (has : HasSizes field c h) where
  pub over_limit : (size most : ℕ) → size ≡ at_most_max (entry_size h.format h.names h.flags h.numbers h.texts h.strings) → most ≡ limit h.format
      → most < size → image_limit c < length (image field c)
  over_limit size most e l over =
      subst (λ (x : List ℕ). image_limit c < length x) (sym (image-is field c)) (over_limit_in (format_of c) field c h has size most e l over)

  pub within_limit : (size most : ℕ) → size ≡ at_most_max (entry_size h.format h.names h.flags h.numbers h.texts h.strings) → most ≡ limit h.format
      → size ≤ most → length (image field c) ≤ image_limit c
  within_limit size most e l within =
      subst (λ (x : List ℕ). length x ≤ image_limit c) (sym (image-is field c)) (within_limit_in (format_of c) field c h has size most e l within)

  pub is_small : length (image field c) ≤ image_limit c → length (image_in h.format field c) ≤ 32768
  is_small within =
      let k = limit-le (format_of c) in
      let l : length (image_in h.format field c) ≡ length (image field c) =
      ap (λ f. length (image_in f field c)) has.format ∙ sym (ap length (image-is field c)) in
      omega arith

  pub its_image : (v : List ℕ) → v ≡ image_in h.format field c → v ≡ image field c
  its_image v e = e ∙ ap (λ f. image_in f field c) has.format ∙ sym (image-is field c)

  pub header_written : length (image field c) ≤ image_limit c → header h.format h.names h.flags h.numbers h.texts h.strings
      ≡ header (format_of c) (suc (length field)) (length (flags_below c (written_count c Flag)))
      (length (numbers_below (format_of c) c (written_count c Number))) (length (offsets_below c (written_count c Text)))
      (length (texts_below c (written_count c Text)))
  header_written within = header_written_in (format_of c) field c h has (let e = ap length (image-is field c) in let k = limit-le (format_of c) in omega arith)

  pub size_counted : (size : ℕ) → size ≡ at_most_max (entry_size h.format h.names h.flags h.numbers h.texts h.strings)
      → size ≡ at_most_max (length (image field c))
  size_counted size e = size_counted_in (format_of c) field c h has size e ∙ ap at_most_max (sym (ap length (image-is field c)))
