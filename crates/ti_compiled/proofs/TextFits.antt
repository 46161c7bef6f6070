-- How long an image is in which a string changes, and where its parts end.
use Rattle.std.proofs.Common.{◌≡◌, ℕ, suc, ◌+◌, ◌-◌, ◌*◌, ◌%◌, ◌<◌, ◌≤◌, ◌⊎◌, max, true, List, length, Option, Some, None, refl, sym, ap, ◌∙◌, arith, inl, inr}
use Rattle.ti_caps.specs.Tables.{capability}
use Rattle.ti_caps.specs.declared.capability.Kind.TheVariants.{Text}
use Rattle.ti_layout.specs.declared.layout.Format.{Format}
use Rattle.ti_layout.specs.declared.header.Header.{Header}
use Rattle.ti_layout.specs.Image.{image, format_of, is_there, image_limit, of_kind, text_piece, texts_below, written_count}
use Rattle.ti_layout.specs.Layout.{width}
use Rattle.ti_layout.specs.Sizes.{HasSizes}
use Rattle.ti_layout.proofs.Sizes.{limit-le}
use Rattle.ti_compiled.specs.inside.Changes.{text_content}
use Rattle.ti_compiled.specs.Image.{with_content}
use Rattle.ti_compiled.specs.inside.Image.{names_in, contents_in, IsImage}
use Rattle.ti_compiled.specs.inside.Bytes.{ended_text}
use Rattle.ti_compiled.proofs.Counted.{count-put}
use Rattle.ti_compiled.proofs.FlagPlaces.{length_sized}
use Rattle.ti_compiled.proofs.TextPlaces.{offsets_from, texts_within}
use Rattle.ti_compiled.proofs.TextSizes.{here, others, text_ends, text_within, table_length}

pub record Lengths (len start end place removed added old_texts new_texts room : ℕ) : Type 0 where
  pub removed_is : removed ≡ end - start
  pub ordered : start ≤ end
  pub fits : len ≤ 32768
  pub in_table : place + 2 * old_texts + end ≤ len
  pub head : 12 ≤ place
  pub room_for : len + added + 2 * new_texts ≤ room + removed + 2 * old_texts
  pub added_fits : added ≤ 32768
  pub written : 2 * old_texts ≤ 828
  pub wanted : 2 * new_texts ≤ 828
  pub grows : removed ≤ end

same_place : (w v : Format) (n f m n' f' m' : ℕ) → w ≡ v → n ≡ n' → f ≡ f' → m ≡ m' → 12 + n + f + (n + f) % 2 + width w * m
    ≡ 12 + n' + f' + (n' + f') % 2 + width v * m'
same_place w v n f m n' f' m' a b c d = rw (a, b, c, d) refl

plain : (start end place removed room added len from T U s u x m : ℕ) → end ≡ start + x → removed ≡ end - start → end ≤ s → len ≤ 32768 → place ≡ from
    → from + 2 * T + s ≡ len → m ≡ from + 2 * U + u
    → u + x ≡ s + added → m ≤ room → m ≤ 32768 → 12 ≤ from → T ≤ 414 → U ≤ 414 → x ≤ s → Lengths len start end place removed added T U room
plain start end place removed room added len from T U s u x m e r i l p w t q le small h tf uf y = record {
  removed_is = r;
  ordered = omega arith;
  fits = l;
  in_table = omega arith;
  head = omega arith;
  room_for = omega arith;
  added_fits = omega arith;
  written = omega arith;
  wanted = omega arith;
  grows = omega arith;
}

module _ (b : List ℕ) (is : IsImage b) (h : Header) (has : HasSizes (names_in b) (contents_in b) h) (index : ℕ) (within : index < 414) (t : Option (List ℕ))
    (k : Header)
    (sizes : HasSizes (names_in b) (with_content (contents_in b) (capability Text index) (text_content t)) k)
    (small : length (image (names_in b) (with_content (contents_in b) (capability Text index) (text_content t))) ≤ image_limit
    (with_content (contents_in b) (capability Text index) (text_content t))) where
  pub lengths : (start end place removed room added : ℕ) → start ≡ length (texts_below (contents_in b) index)
      → end ≡ length (texts_below (contents_in b) (index + 1)) → place ≡ offsets_from h → removed ≡ end - start
      → added ≡ length (ended_text t) → length (image (names_in b) (with_content (contents_in b) (capability Text index) (text_content t))) ≤ room
      → Lengths (length b) start end place removed added h.texts k.texts room
  lengths start end place removed room added es ee ep er ea le =
      let c = contents_in b in
      let g = with_content (contents_in b) (capability Text index) (text_content t) in
      let ends = text_ends b is h has index within t in
      let inside = text_within b is h has index within t in
      let sum = table_length b is h has index within t in
      let whole = texts_within b is h has in
      let long = length_sized (names_in b) g k sizes in
      let place_k : offsets_from k ≡ offsets_from h =
      same_place k.format h.format k.names k.flags k.numbers h.names h.flags h.numbers (sizes.format ∙ sym has.format) (sizes.names ∙ sym has.names)
      (sizes.flags ∙ sym has.flags) (sizes.numbers ∙ sym has.numbers) in
      let most = limit-le (format_of g) in
      let most_c = limit-le (format_of c) in
      let within_c = is.imaged.within in
      let len = ap (λ (x : List ℕ). length x) is.whole in
      let tf = has.texts_fit in
      let kf = sizes.texts_fit in
      let total : length (image (names_in b) g) ≡ offsets_from h + 2 * k.texts + length (texts_below g (written_count g Text)) =
      long ∙ ap (λ p. p + 2 * k.texts + length (texts_below g (written_count g Text))) place_k in
      plain start end place removed room added (length b) (offsets_from h) h.texts k.texts (length (texts_below c (written_count c Text)))
      (length (texts_below g (written_count g Text)))
      (length (text_piece (of_kind c Text index))) (length (image (names_in b) g))
      (omega arith) er (omega arith) (omega arith) ep (omega arith) total (omega arith) le (omega arith) (omega arith) tf kf (omega arith)

  -- how long the image is, by what calls answer that are given the bytes
  pub lengths_of : (x y : List ℕ) (start end place room added : ℕ) → x ≡ b → y ≡ b → start ≡ length (texts_below (contents_in x) index)
      → end ≡ length (texts_below (contents_in y) (index + 1)) → place ≡ offsets_from h
      → added ≡ length (ended_text t) → length (image (names_in b) (with_content (contents_in b) (capability Text index) (text_content t))) ≤ room
      → Lengths (length b) start end place (end - start) added h.texts k.texts room
  lengths_of x y start end place room added ex ey es ee ep ea le =
      lengths start end place (end - start) room added (es ∙ ap (λ z. length (texts_below (contents_in z) index)) ex)
      (ee ∙ ap (λ z. length (texts_below (contents_in z) (index + 1))) ey) ep refl ea le

  pub removed_found : (x y : List ℕ) (start end : ℕ) → x ≡ b → y ≡ b → start ≡ length (texts_below (contents_in x) index)
      → end ≡ length (texts_below (contents_in y) (index + 1)) → end - start ≡ length (text_piece (of_kind (contents_in b) Text index))
  removed_found x y start end ex ey es ee =
      let ends = text_ends b is h has index within t in
      let s : start ≡ length (texts_below (contents_in b) index) = es ∙ ap (λ z. length (texts_below (contents_in z) index)) ex in
      let e : end ≡ length (texts_below (contents_in b) (index + 1)) = ee ∙ ap (λ z. length (texts_below (contents_in z) (index + 1))) ey in
      omega arith

  -- nothing is put in, or no offset is taken away
  pub gone_or_more : (length (ended_text t) ≡ 0) ⊎ (h.texts ≤ k.texts)
  gone_or_more = elim t as (λ u. t ≡ u → (length (ended_text t) ≡ 0) ⊎ (h.texts ≤ k.texts)) [
    | None ↦ λ e. inl (ap (λ u. length (ended_text u)) e)
    | Some x ↦ λ e.
        let c = contents_in b in
        let g = with_content c (capability Text index) (text_content t) in
        let T = has.texts in
        let U = sizes.texts in
        let there : is_there (of_kind g Text index) ≡ true = ap is_there (here b is h has index within t ∙ ap text_content e) in
        let count = count-put (of_kind c Text) (of_kind g Text) 414 index within (others b is h has index within t) there
        (max (written_count c Text) (suc index)) refl in
        inr (omega arith)
  ] refl
