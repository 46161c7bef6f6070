-- The booleans of an image: their bytes, and how many are written when one changes.
use Rattle.std.proofs.Common.{◌≡◌, ◌≢◌, ℕ, suc, ◌+◌, ◌-◌, ◌%◌, ◌<◌, ◌≤◌, max, Bool, true, false, List, length, drop, get_or, slice_range, Option, Some}
use Rattle.std.proofs.Common.{None, refl, sym, ap, ◌∙◌, arith}
use Rattle.std.proofs.lemmas.List.{get_or-take, get_or-drop}
use Rattle.ti_caps.specs.Tables.{capability}
use Rattle.ti_caps.specs.declared.capability.Kind.TheVariants.{Flag, Text}
use Rattle.ti_layout.specs.declared.header.Header.{Header}
use Rattle.ti_layout.specs.Image.{image, is_there, of_kind, flag_value, flags_below, written_count, texts_below}
use Rattle.ti_layout.specs.Layout.{entry_size}
use Rattle.ti_layout.specs.Sizes.{HasSizes, at_most_max}
use Rattle.ti_layout.specs.Values.{Content, content_true, content_number, content_text, content_cancelled, Contents, AgreesIfSome}
use Rattle.ti_layout.specs.Reading.{names_size, flag_count}
use Rattle.ti_layout.proofs.Below.{get_or-below, length-below}
use Rattle.ti_layout.proofs.Whole.{length-part}
use Rattle.ti_layout.proofs.Sizes.{length-image}
use Rattle.ti_compiled.specs.inside.Changes.{flag_content}
use Rattle.ti_compiled.specs.Image.{with_content}
use Rattle.ti_compiled.specs.inside.Image.{names_in, contents_in, IsImage}
use Rattle.ti_compiled.proofs.Counted.{count-put, count-unchanged, count-down}
use Rattle.ti_compiled.proofs.Given.{given_here, given_place}
use Rattle.ti_compiled.proofs.Heading.{found_in}
use Rattle.ti_compiled.proofs.Same.{same_strings}

-- the length of an image by its header
pub length_sized : (names : List ℕ) (c : Contents) (h : Header) → HasSizes names c h
    → length (image names c) ≡ entry_size h.format h.names h.flags h.numbers h.texts (length (texts_below c (written_count c Text)))
length_sized names c h has = rw (has.format, has.names, has.flags, has.numbers, has.texts) (length-image names c)

-- the byte of a boolean says whether it is there
pub flag_absent : (i : ℕ) (o : Option Content) → AgreesIfSome (capability Flag i) o → flag_value o ≡ 0 → is_there o ≡ false
flag_absent i None a e = refl
flag_absent i (Some content_true) a e = absurd (omega arith)
flag_absent i (Some (content_number n)) a e = let never = a.0 in absurd cc
flag_absent i (Some (content_text t)) a e = let never = a.0 in absurd cc
flag_absent i (Some content_cancelled) a e = refl

pub flag_present : (o : Option Content) → (flag_value o ≡ 0 → ⊥) → is_there o ≡ true
flag_present None a = absurd (a refl)
flag_present (Some content_true) a = refl
flag_present (Some (content_number n)) a = refl
flag_present (Some (content_text t)) a = refl
flag_present (Some content_cancelled) a = absurd (a refl)

module _ (b : List ℕ) (is : IsImage b) (h : Header) (has : HasSizes (names_in b) (contents_in b) h) where
  abbrev c : Contents
  c = contents_in b

  pub flags_within : 12 + h.names + h.flags + (h.names + h.flags) % 2 ≤ length b
  flags_within = let l = ap (λ (x : List ℕ). length x) is.whole ∙ length_sized (names_in b) c h has in omega arith

  -- the byte of a boolean
  pub flag_byte : (j : ℕ) → j < h.flags → get_or b (12 + h.names + j) 0 ≡ flag_value (of_kind c Flag j)
  flag_byte j lt =
      let f = found_in b is in
      let n = has.names in
      let m = f.names_size in
      let F = has.flags in
      let counted = f.flag_count in
      let e : flags_below c (written_count c Flag) ≡ flags_below c h.flags = ap (flags_below c) (sym has.flags) in
      let long : h.flags ≡ length (flags_below c (written_count c Flag)) =
      has.flags ∙ sym (length-below (λ i. flag_value (of_kind c Flag i)) (written_count c Flag)) in
      let start : names_size b ≡ h.names = m ∙ sym n in
      let size : flag_count b ≡ h.flags = counted ∙ sym long in
      let under : j < 12 + names_size b + flag_count b - (12 + names_size b) = omega arith in
      let at : 12 + names_size b + j ≡ 12 + h.names + j = omega arith in
      sym (get_or-take (12 + names_size b + flag_count b - (12 + names_size b)) (drop (12 + names_size b) b) j 0 under
      ∙ get_or-drop (12 + names_size b) b j 0 ∙ ap (λ x. get_or b x 0) at)
      ∙ ap (λ t. get_or t j 0) (f.flags ∙ e) ∙ get_or-below (λ i. flag_value (of_kind c Flag i)) h.flags j 0 lt

  pub flag_byte_in : (x y j : ℕ) → x ≡ 12 + h.names → j < y - x → j < h.flags → get_or (slice_range b x y) j 0 ≡ flag_value (of_kind c Flag j)
  flag_byte_in x y j e under lt = get_or-take (y - x) (drop x b) j 0 under ∙ get_or-drop x b j 0 ∙ ap (λ n. get_or b (n + j) 0) e ∙ flag_byte j lt

  module _ (index : ℕ) (within : index < 44) where
    abbrev g : Bool → Contents
    g on = with_content c (capability Flag index) (flag_content on)

    others : (on : Bool) (j : ℕ) → j ≢ index → g on (capability Flag j) ≡ c (capability Flag j)
    others on j other = given_place c Flag index (flag_content on) j other

    here : (on : Bool) → g on (capability Flag index) ≡ flag_content on
    here on = given_here c (capability Flag index) (flag_content on)

    -- the other sizes do not change
    with_flags : (on : Bool) (m : ℕ) (k : Header) → written_count (g on) Flag ≡ m → m ≤ 44 → k
        ≡ record { format = h.format; names = h.names; flags = m; numbers = h.numbers; texts = h.texts; strings = h.strings } → HasSizes (names_in b) (g on) k
    with_flags on m k e le same = rw same (record {
      format = has.format;
      names = has.names;
      flags = sym e;
      numbers = has.numbers;
      texts = has.texts;
      strings = has.strings ∙ ap (λ (t : List ℕ). at_most_max (length t)) (sym (same_strings (g on) c (λ i. refl)));
      flags_fit = le;
      numbers_fit = has.numbers_fit;
      texts_fit = has.texts_fit;
    })

    pub sizes_set : (m : ℕ) → m ≡ max h.flags (index + 1)
        → HasSizes (names_in b) (g true) (record { format = h.format; names = h.names; flags = m; numbers = h.numbers; texts = h.texts; strings = h.strings })
    sizes_set m e =
        let F = has.flags in
        let fit = has.flags_fit in
        with_flags true m _ (count-put (of_kind c Flag) (of_kind (g true) Flag) 44 index within (others true) (ap is_there (here true)) m (omega arith))
        (omega arith) refl

    pub sizes_unchanged : index + 1 ≢ h.flags
        → HasSizes (names_in b) (g false)
        (record { format = h.format; names = h.names; flags = h.flags; numbers = h.numbers; texts = h.texts; strings = h.strings })
    sizes_unchanged other =
        let F = has.flags in
        with_flags false h.flags _ (count-unchanged (of_kind c Flag) (of_kind (g false) Flag) 44 index within (others false) (ap is_there (here false))
        (λ e. other (omega arith)) ∙ sym F) has.flags_fit refl

    pub sizes_down : (x y m : ℕ) → x ≡ 12 + h.names → y ≡ x + index → index + 1 ≡ h.flags → m ≤ length (slice_range b x y)
        → ((j : ℕ) → suc j ≡ m → get_or (slice_range b x y) j 0 ≢ 0) → ((j : ℕ) → m ≤ j → j < length (slice_range b x y) → get_or (slice_range b x y) j 0 ≡ 0)
        → HasSizes (names_in b) (g false) (record { format = h.format; names = h.names; flags = m; numbers = h.numbers; texts = h.texts; strings = h.strings })
    sizes_down x y m ex ey last le set past =
        let F = has.flags in
        let fit = has.flags_fit in
        let w = flags_within in
        let long : length (slice_range b x y) ≡ index = length-part b x y (omega arith) (omega arith) ∙ omega arith in
        let count = count-down (of_kind c Flag) (of_kind (g false) Flag) 44 index within (others false) (ap is_there (here false)) (omega arith) m (omega arith)
        (λ j e. flag_present (of_kind c Flag j) (λ z. set j e (flag_byte_in x y j ex (omega arith) (omega arith) ∙ z)))
        (λ j low lt. flag_absent j (of_kind c Flag j) (is.imaged.agree (capability Flag j) (omega arith))
        (sym (flag_byte_in x y j ex (omega arith) (omega arith)) ∙ past j low (omega arith))) in
        with_flags false m _ count (omega arith) refl
