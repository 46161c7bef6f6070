-- The sizes of an image in which a string changes.
use Rattle.std.proofs.Common.{◌≡◌, ◌≢◌, ℕ, suc, ◌+◌, ◌-◌, ◌*◌, ◌^◌, ◌<◌, ◌≤◌, min, max, true, false, List, length, Option, None, refl, sym, ap, ◌∙◌, arith}
use Rattle.std.proofs.lemmas.List.{length-append}
use Rattle.ti_caps.specs.Tables.{capability}
use Rattle.ti_caps.specs.declared.capability.Kind.TheVariants.{Text}
use Rattle.ti_layout.specs.declared.header.Header.{Header}
use Rattle.ti_layout.specs.Image.{is_there, of_kind, text_piece, texts_below, written_count}
use Rattle.ti_layout.specs.Reading.{word_at}
use Rattle.ti_layout.specs.Sizes.{HasSizes, at_most_max}
use Rattle.ti_layout.specs.Values.{Contents}
use Rattle.ti_layout.proofs.Below.{last_passing-le}
use Rattle.ti_layout.proofs.Texts.{texts-more, length-texts-le}
use Rattle.ti_compiled.specs.inside.Changes.{text_content}
use Rattle.ti_compiled.specs.Image.{with_content}
use Rattle.ti_compiled.specs.inside.Image.{names_in, contents_in, IsImage}
use Rattle.ti_compiled.specs.inside.Bytes.{ended_text}
use Rattle.ti_compiled.proofs.Counted.{count-put, count-unchanged, count-down}
use Rattle.ti_compiled.proofs.Given.{HoldsNoOther, given_here, given_place, given_past}
use Rattle.ti_compiled.proofs.TextChange.{piece_of, lengths_about}
use Rattle.ti_compiled.proofs.TextPlaces.{offset_tells, offset_found, offsets_from, table_small, strings_exact, texts_end, texts_past}

module _ (b : List ℕ) (is : IsImage b) (h : Header) (has : HasSizes (names_in b) (contents_in b) h) (index : ℕ) (within : index < 414)
    (t : Option (List ℕ)) where
  abbrev c : Contents
  c = contents_in b

  abbrev g : Contents
  g = with_content (contents_in b) (capability Text index) (text_content t)

  pub others : (j : ℕ) → j ≢ index → g (capability Text j) ≡ c (capability Text j)
  others j other = given_place c Text index (text_content t) j other

  pub here : g (capability Text index) ≡ text_content t
  here = given_here c (capability Text index) (text_content t)

  pub past_g : HoldsNoOther (with_content (contents_in b) (capability Text index) (text_content t))
  past_g = given_past c is.imaged.past (capability Text index) (text_content t) within

  pub count_le : (d : Contents) → written_count d Text ≤ 414
  count_le d = last_passing-le (λ j. is_there (of_kind d Text j)) 414

  -- the size of the string, and of all strings
  pub text_ends : length (texts_below (contents_in b) (index + 1)) ≡ length (texts_below (contents_in b) index) + length
      (text_piece (of_kind (contents_in b) Text index))
  text_ends = ap (λ (x : List ℕ). length x) (texts-more c index) ∙ length-append (texts_below c index) (text_piece (of_kind c Text index))

  pub text_within : length (texts_below (contents_in b) (index + 1)) ≤ length (texts_below (contents_in b) (written_count (contents_in b) Text))
  text_within =
      let l = length-texts-le c 414 (index + 1) (omega arith) in
      let e = ap (λ (x : List ℕ). length x) (texts_past (names_in b) c is.imaged 414 (count_le c)) in
      omega arith

  pub table_length : length (texts_below (with_content (contents_in b) (capability Text index) (text_content t))
      (written_count (with_content (contents_in b) (capability Text index) (text_content t)) Text)) + length (text_piece (of_kind (contents_in b) Text index))
      ≡ length (texts_below (contents_in b) (written_count (contents_in b) Text)) + length (ended_text t)
  table_length =
      let l = lengths_about c g index others 414 within in
      let p : length (text_piece (of_kind g Text index)) ≡ length (ended_text t) =
      ap (λ o. length (text_piece o)) here ∙ ap (λ (x : List ℕ). length x) (piece_of t) in
      let e = ap (λ (x : List ℕ). length x) (texts_past (names_in b) c is.imaged 414 (count_le c)) in
      let f = ap (λ (x : List ℕ). length x) (texts_end g past_g 414 (count_le g)) in
      omega arith

  with_texts : (m s : ℕ) → written_count g Text ≡ m → m ≤ 414 → s ≡ at_most_max (length (texts_below g (written_count g Text)))
      → HasSizes (names_in b) g (record { format = h.format; names = h.names; flags = h.flags; numbers = h.numbers; texts = m; strings = s })
  with_texts m s e le sum = record {
    format = has.format;
    names = has.names;
    flags = has.flags;
    numbers = has.numbers;
    texts = sym e;
    strings = sum;
    flags_fit = has.flags_fit;
    numbers_fit = has.numbers_fit;
    texts_fit = le;
  }

  module _ (start end : ℕ) (s : start ≡ length (texts_below (contents_in b) index)) (e : end ≡ length (texts_below (contents_in b) (index + 1))) where
    pub text_order : start ≤ end
    text_order = let l = text_ends in omega arith

    pub removed_le : end - start ≤ h.strings
    removed_le = let l = text_within in let x = strings_exact b is h has in omega arith

    -- the table with only the other strings
    pub others_sum : length (texts_below (with_content (contents_in b) (capability Text index) (text_content t))
        (written_count (with_content (contents_in b) (capability Text index) (text_content t)) Text)) ≡ h.strings - (end - start) + length (ended_text t)
    others_sum =
        let l = text_ends in
        let w = text_within in
        let x = strings_exact b is h has in
        let y = table_length in
        omega arith

    pub sizes_given : (m n k : ℕ) → is_there (text_content t) ≡ true → m ≡ max h.texts (index + 1) → n ≡ min (h.strings - (end - start) + k) (2 ^ 64 - 1)
        → length (ended_text t) ≡ k + 1 → (z : ℕ) → z ≡ min (n + 1) (2 ^ 64 - 1)
        → HasSizes (names_in b) (with_content (contents_in b) (capability Text index) (text_content t))
        (record { format = h.format; names = h.names; flags = h.flags; numbers = h.numbers; texts = m; strings = z })
    sizes_given m n k there em en lk z ez =
        let T = has.texts in
        let fit = has.texts_fit in
        let o = others_sum in
        with_texts m z (count-put (of_kind c Text) (of_kind g Text) 414 index within others (ap is_there here ∙ there) m (omega arith)) (omega arith)
        (omega arith)

    module _ (none : t ≡ None) where
      gone : is_there (of_kind g Text index) ≡ false
      gone = ap is_there (here ∙ ap text_content none)

      sum : h.strings - (end - start) ≡ at_most_max (length (texts_below g (written_count g Text)))
      sum =
          let o = others_sum in
          let z : length (ended_text t) ≡ 0 = ap (λ x. length (ended_text x)) none in
          let x = strings_exact b is h has in
          let small = table_small (names_in b) c is.imaged in
          omega arith

      pub sizes_other : index + 1 ≢ h.texts → HasSizes (names_in b) (with_content (contents_in b) (capability Text index) (text_content t))
          (record { format = h.format; names = h.names; flags = h.flags; numbers = h.numbers; texts = h.texts; strings = h.strings - (end - start) })
      sizes_other other =
          let T = has.texts in
          with_texts h.texts _ (count-unchanged (of_kind c Text) (of_kind g Text) 414 index within others gone (λ e. other (omega arith)) ∙ sym T)
          has.texts_fit sum

      pub sizes_last : (place m : ℕ) → place ≡ offsets_from h → index + 1 ≡ h.texts → m ≤ index → ((j : ℕ) → suc j ≡ m → word_at (place + 2 * j) b ≢ 65535)
          → ((j : ℕ) → m ≤ j → j < index → word_at (place + 2 * j) b ≡ 65535)
          → HasSizes (names_in b) (with_content (contents_in b) (capability Text index) (text_content t))
          (record { format = h.format; names = h.names; flags = h.flags; numbers = h.numbers; texts = m; strings = h.strings - (end - start) })
      sizes_last place m at last le there past =
          let T = has.texts in
          let fit = has.texts_fit in
          let found = λ (j : ℕ) (lt : j < h.texts). offset_found b is h has place j (word_at (place + 2 * j) b) at lt refl in
          with_texts m _ (count-down (of_kind c Text) (of_kind g Text) 414 index within others gone (omega arith) m le
          (λ j e. ((offset_tells (names_in b) c is.imaged j).there (λ z. there j e (found j (omega arith) ∙ z))).0)
          (λ j low lt. ((offset_tells (names_in b) c is.imaged j).absent (sym (found j (omega arith)) ∙ past j low lt)).0)) (omega arith) sum
