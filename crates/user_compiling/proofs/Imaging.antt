-- An entry depends on the values of the 497 capabilities, in each format.
use Rattle.std.proofs.Common.{◌≡◌, ℕ, ◌≤◌, cond, List, [], ◌++◌, length, Option, Some, None, refl, sym, ap, ◌∙◌, arith}
use Rattle.std.proofs.lemmas.List.{append-nil}
use Rattle.ti_caps.specs.Tables.{capability, count_of}
use Rattle.ti_caps.specs.declared.capability.Kind.{Kind}
use Rattle.ti_caps.specs.declared.capability.Kind.TheVariants.{Flag, Number, Text}
use Rattle.ti_layout.specs.declared.layout.Format.{Format}
use Rattle.ti_layout.specs.declared.layout.Format.TheVariants.{Legacy, Extended}
use Rattle.ti_layout.specs.Values.{Content, content_cancelled, Contents}
use Rattle.ti_layout.specs.Layout.{absent_mark, entry_bytes, limit}
use Rattle.ti_layout.specs.Image.{image, image_in, is_there, is_wide, format_of, of_kind, written_count, flag_value, number_value, offset_value, text_piece}
use Rattle.ti_layout.specs.Image.{flags_below, numbers_below, offsets_below, texts_below, even_gap}
use Rattle.ti_layout.specs.Laws.{without_cancel, ShowSame}
use Rattle.user_extension.specs.UserDefined.{Row}
use Rattle.user_extension.specs.Extension.{entry, entry_format, entry_limit, extension_after, some_wide}
use Rattle.ti_layout.proofs.Below.{below-same, last_passing-le, last_passing-same, some_below-same}
use Rattle.ti_layout.proofs.Texts.{texts-same}

-- what depends on a content depends on it with a cancel as absent
abbrev GoesByPresence : {X : Type 0} → (Option Content → X) → Type 0
GoesByPresence f = (o : Option Content) → f (without_cancel o) ≡ f o

same_by_presence : {X : Type 0} (f : Option Content → X) (o q : Option Content) → GoesByPresence f → without_cancel o ≡ without_cancel q → f o ≡ f q
same_by_presence f o q h e = sym (h o) ∙ (ap f e ∙ h q)

is_there-presence : GoesByPresence is_there
is_there-presence None = refl
is_there-presence (Some content_cancelled) = refl
is_there-presence _ = refl

is_wide-presence : GoesByPresence is_wide
is_wide-presence (Some content_cancelled) = refl
is_wide-presence _ = refl

flag_value-presence : GoesByPresence flag_value
flag_value-presence (Some content_cancelled) = refl
flag_value-presence _ = refl

number_value-presence : (void : ℕ) → GoesByPresence (number_value void)
number_value-presence void (Some content_cancelled) = refl
number_value-presence void _ = refl

text_piece-presence : GoesByPresence text_piece
text_piece-presence (Some content_cancelled) = refl
text_piece-presence _ = refl

offset_value-presence : (offset : ℕ) → GoesByPresence (offset_value offset)
offset_value-presence offset (Some content_cancelled) = refl
offset_value-presence offset _ = refl

-- sections whose parts are the same
alike : (w : Format) (names f f' g g' m m' o o' s s' : List ℕ) → f ≡ f' → g ≡ g' → m ≡ m' → o ≡ o' → s ≡ s'
    → entry_bytes w (record { names = names; flags = f; gap = g; numbers = m; offsets = o; strings = s; rest = [] })
    ≡ entry_bytes w (record { names = names; flags = f'; gap = g'; numbers = m'; offsets = o'; strings = s'; rest = [] })
alike w names f f' g g' m m' o o' s s' a b c d e =
    let whole : List ℕ → List ℕ → List ℕ → List ℕ → List ℕ → List ℕ =
    λ f g m o s. entry_bytes w (record { names = names; flags = f; gap = g; numbers = m; offsets = o; strings = s; rest = [] }) in
    ap (λ x. whole x g m o s) a ∙ ap (λ x. whole f' x m o s) b ∙ ap (λ x. whole f' g' x o s) c ∙ ap (λ x. whole f' g' m' x s) d
    ∙ ap (λ x. whole f' g' m' o' x) e

module _ (t u : Contents) (h : ShowSame t u) where
  count-same : (k : Kind) → written_count t k ≡ written_count u k
  count-same k = last_passing-same _ _ (count_of k) (λ i l. same_by_presence is_there (t (capability k i)) (u (capability k i)) is_there-presence
      (h (capability k i) l))

  count-within : (k : Kind) → written_count t k ≤ count_of k
  count-within k = last_passing-le (λ j. is_there (of_kind t k j)) (count_of k)

  format-same : format_of t ≡ format_of u
  format-same =
      ap (λ b. cond b Extended Legacy) (some_below-same (λ i. is_wide (of_kind t Number i)) (λ i. is_wide (of_kind u Number i)) 39
      (λ i l. same_by_presence is_wide (t (capability Number i)) (u (capability Number i)) is_wide-presence (h (capability Number i) l)))

  texts_below-same : (n : ℕ) → n ≤ 414 → texts_below t n ≡ texts_below u n
  texts_below-same n l = texts-same t u n (λ i m. same_by_presence text_piece (t (capability Text i)) (u (capability Text i)) text_piece-presence
      (h (capability Text i) (omega arith)))

  strings-same : texts_below t (written_count t Text) ≡ texts_below u (written_count u Text)
  strings-same = texts_below-same (written_count t Text) (count-within Text) ∙ ap (texts_below u) (count-same Text)

  flags-same : flags_below t (written_count t Flag) ≡ flags_below u (written_count u Flag)
  flags-same =
      below-same _ _ (written_count t Flag) (λ i l. same_by_presence flag_value (t (capability Flag i)) (u (capability Flag i)) flag_value-presence
      (h (capability Flag i) (let m = count-within Flag in omega arith)))
      ∙ ap (flags_below u) (count-same Flag)

  numbers-same : (w : Format) → numbers_below w t (written_count t Number) ≡ numbers_below w u (written_count u Number)
  numbers-same w =
      below-same _ _ (written_count t Number)
      (λ i l. same_by_presence (number_value (absent_mark w)) (t (capability Number i)) (u (capability Number i)) (number_value-presence (absent_mark w))
      (h (capability Number i) (let m = count-within Number in omega arith)))
      ∙ ap (numbers_below w u) (count-same Number)

  offsets-same : offsets_below t (written_count t Text) ≡ offsets_below u (written_count u Text)
  offsets-same =
      below-same _ _ (written_count t Text)
      (λ i l.
      let m = count-within Text in
      same_by_presence (offset_value (length (texts_below t i))) (t (capability Text i)) (u (capability Text i))
      (offset_value-presence (length (texts_below t i))) (h (capability Text i) (omega arith))
      ∙ ap (λ s. offset_value (length s) (u (capability Text i))) (texts_below-same i (omega arith)))
      ∙ ap (offsets_below u) (count-same Text)

  image-same : (w : Format) (names : List ℕ) → image_in w names t ≡ image_in w names u
  unfolding image_in
  image-same w names = alike w names _ _ _ _ _ _ _ _ _ _ flags-same (ap (even_gap names) (count-same Flag)) (numbers-same w) offsets-same strings-same

  entry_format-same : (rows : List Row) → entry_format t rows ≡ entry_format u rows
  entry_format-same rows = ap (λ w. cond (some_wide rows) Extended w) format-same

  entry-same : (names : List ℕ) (rows : List Row) → entry names t rows ≡ entry names u rows
  unfolding entry
  entry-same names rows =
      let whole : Format → List ℕ → List ℕ = λ w image. image ++ extension_after (length image) w rows in
      ap (λ w. whole w (image_in w names t)) (entry_format-same rows) ∙ ap (λ image. whole (entry_format u rows) image) (image-same (entry_format u rows) names)

pub entries_are_of_values : (names : List ℕ) (t u : Contents) (rows : List Row) → ShowSame t u → entry names t rows ≡ entry names u rows
entries_are_of_values names t u rows h = entry-same t u h names rows

pub limits_are_of_values : (t u : Contents) (rows : List Row) → ShowSame t u → entry_limit t rows ≡ entry_limit u rows
limits_are_of_values t u rows h = ap limit (entry_format-same t u h rows)

-- without user-defined capabilities the entry is the image, with its limit
pub entry_without : (names : List ℕ) (t : Contents) → entry names t [] ≡ image names t
unfolding entry image
entry_without names t = append-nil (image_in (format_of t) names t)
