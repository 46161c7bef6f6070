-- An image in which a string changes is made step by step.
use Rattle.std.proofs.Common.{◌≡◌, ◌≢◌, ℕ, ◌+◌, ◌-◌, ◌*◌, ◌<◌, ◌≤◌, ◌==◌, if◌then◌else◌, cond, List, [], ◌++◌, length, Option, Some, None, refl, sym, ap}
use Rattle.std.proofs.Common.{◌∙◌, append_assoc, append-nil, eq-eqb, arith, inl, inr}
use Rattle.std.proofs.lemmas.Bool.{cases_lt, cases_eq, ne_eqb}
use Rattle.std.proofs.lemmas.List.{length-append}
use Rattle.ti_caps.specs.Tables.{capability}
use Rattle.ti_caps.specs.declared.capability.Kind.TheVariants.{Text}
use Rattle.ti_layout.specs.declared.layout.Format.TheVariants.{Legacy}
use Rattle.ti_layout.specs.declared.header.Header.{Header}
use Rattle.ti_layout.specs.Image.{image, below, image_limit, of_kind, offset_value, text_piece, texts_below, written_count}
use Rattle.ti_layout.specs.Layout.{header, number_section}
use Rattle.ti_layout.specs.Sizes.{HasSizes}
use Rattle.ti_layout.specs.Values.{Content, content_true, content_number, content_text, content_cancelled, Contents, AgreesIfSome}
use Rattle.ti_layout.proofs.Assembling.{header_written}
use Rattle.ti_layout.proofs.Below.{below-same}
use Rattle.ti_layout.proofs.Spelled.{length-spelled}
use Rattle.ti_layout.proofs.Below.{length-below}
use Rattle.ti_compiled.specs.inside.Changes.{text_content}
use Rattle.ti_compiled.specs.Image.{with_content}
use Rattle.ti_compiled.specs.inside.Image.{names_in, contents_in, IsImage}
use Rattle.ti_compiled.specs.inside.Bytes.{Replaces, with_length, offset_after, moved_later, ended_text}
use Rattle.ti_compiled.proofs.Moving.{moved_absent, moved_there, later_before, later_from}
use Rattle.ti_compiled.proofs.Numbering.{resized-spelled}
use Rattle.ti_compiled.proofs.TextChange.{piece_of, lengths_about, texts_about, texts_before}
use Rattle.ti_compiled.proofs.TextPlaces.{offset_of, offset_tells, offset_past, offsets_from, head_of, middle, text_frame, text_parts, length_front}
use Rattle.ti_compiled.proofs.TextPlaces.{length_head, texts_end, texts_past, texts_small, agrees_text}
use Rattle.ti_compiled.proofs.TextSizes.{others, here, past_g, count_le}

-- the offset of a string after the one that changes
moved_one : (j n m removed added : ℕ) (o : Option Content) → AgreesIfSome (capability Text j) o → n < 65535 → m + removed ≡ n + added
    → offset_after removed added (offset_value n o) ≡ offset_value m o
moved_one j n m removed added None a lt e = moved_absent removed added 65535 refl
moved_one j n m removed added (Some content_true) a lt e = absurd cc
moved_one j n m removed added (Some (content_number k)) a lt e = let never = a.0 in absurd cc
moved_one j n m removed added (Some (content_text t)) a lt e = moved_there removed added n (λ h. omega arith) ∙ omega arith
moved_one j n m removed added (Some content_cancelled) a lt e = moved_absent removed added 65535 refl

module _ (b : List ℕ) (is : IsImage b) (h : Header) (has : HasSizes (names_in b) (contents_in b) h) (index : ℕ) (within : index < 414)
    (t : Option (List ℕ)) where
  abbrev names : List ℕ
  names = names_in b

  abbrev c : Contents
  c = contents_in b

  abbrev g : Contents
  g = with_content (contents_in b) (capability Text index) (text_content t)

  abbrev T : ℕ
  T = written_count (contents_in b) Text

  abbrev front : List ℕ
  front = head_of (names_in b) (contents_in b) ++ middle (names_in b) (contents_in b)

  abbrev tail : List ℕ
  tail = (texts_about (contents_in b) (with_content (contents_in b) (capability Text index) (text_content t)) index (others b is h has index within t)
      (414 - (index + 1))).0

  all : index + 1 + (414 - (index + 1)) ≡ 414
  all = omega arith

  old_table : texts_below c T ≡ texts_below c index ++ (text_piece (of_kind c Text index) ++ tail)
  old_table = sym (texts_past names c is.imaged 414 (count_le b is h has index within t c)) ∙ ap (texts_below c) (sym all)
      ∙ (texts_about c g index (others b is h has index within t) (414 - (index + 1))).1

  new_table : texts_below g (written_count g Text) ≡ texts_below c index ++ (ended_text t ++ tail)
  new_table =
      sym (texts_end g (past_g b is h has index within t) 414 (count_le b is h has index within t g)) ∙ ap (texts_below g) (sym all)
      ∙ (texts_about c g index (others b is h has index within t) (414 - (index + 1))).2
      ∙ ap (λ o. texts_below c index ++ (text_piece o ++ tail)) (here b is h has index within t) ∙ ap (λ y. texts_below c index ++ (y ++ tail)) (piece_of t)

  regroup : (p o a x r : List ℕ) → p ++ (o ++ ((a ++ (x ++ r)) ++ [])) ≡ (p ++ (o ++ a)) ++ (x ++ r)
  regroup p o a x r = simp (append_assoc, append-nil)

  -- the string is replaced in the table
  pub table_changed : (b1 : List ℕ) (place at start removed : ℕ) → place ≡ offsets_from h → at ≡ place + 2 * h.texts + start
      → start ≡ length (texts_below (contents_in b) index) → removed ≡ length (text_piece (of_kind (contents_in b) Text index))
      → Replaces b b1 at removed (λ _. ended_text t)
      → b1 ≡ (head_of (names_in b) (contents_in b) ++ middle (names_in b) (contents_in b)) ++
      (number_section Legacy (below (offset_of (contents_in b)) (written_count (contents_in b) Text))
      ++ (texts_below (with_content (contents_in b) (capability Text index) (text_content t))
      (written_count (with_content (contents_in b) (capability Text index) (text_content t)) Text) ++ []))
  table_changed b1 place at start removed ep ea es er replaces =
      let o = number_section Legacy (below (offset_of c) T) in
      let a = texts_below c index in
      let x = text_piece (of_kind c Text index) in
      let lo : length o ≡ 2 * T = length-spelled Legacy (below (offset_of c) T) ∙ ap (λ k. 2 * k) (length-below (offset_of c) T) in
      let lf = length_front names c h has in
      let n = has.texts in
      let l1 = length-append front (o ++ a) in
      let l2 = length-append o a in
      let first : b ≡ (front ++ (o ++ a)) ++ (x ++ tail) =
      text_parts b names c is.whole ∙ ap (λ s. front ++ (o ++ (s ++ []))) old_table ∙ regroup front o a x tail in
      replaces (front ++ (o ++ a)) x tail first (omega arith) (sym er) ∙ sym (regroup front o a (ended_text t) tail)
      ∙ ap (λ s. front ++ (o ++ (s ++ []))) (sym new_table)

  -- the offsets are cut or filled up
  pub offsets_resized : (b1 b2 rest : List ℕ) (place n : ℕ) → place ≡ offsets_from h
      → b1 ≡ (head_of (names_in b) (contents_in b) ++ middle (names_in b) (contents_in b))
      ++ (number_section Legacy (below (offset_of (contents_in b)) (written_count (contents_in b) Text)) ++ rest)
      → Replaces b1 b2 place (2 * h.texts) (λ m. with_length m (2 * n) 255)
      → b2 ≡ (head_of (names_in b) (contents_in b) ++ middle (names_in b) (contents_in b))
      ++ (number_section Legacy (below (offset_of (contents_in b)) n) ++ rest)
  offsets_resized b1 b2 rest place n ep whole replaces =
      let o = number_section Legacy (below (offset_of c) T) in
      let lo : length o ≡ 2 * T = length-spelled Legacy (below (offset_of c) T) ∙ ap (λ k. 2 * k) (length-below (offset_of c) T) in
      let e = has.texts in
      replaces front o rest whole (length_front names c h has ∙ sym ep) (omega arith)
      ∙ ap (λ x. front ++ (x ++ rest)) (resized-spelled Legacy (offset_of c) T n (λ j le. offset_past names c is.imaged j le))

  -- the offset of the string itself is set
  abbrev pub put : ℕ → ℕ
  put j = if j == index then offset_of (with_content (contents_in b) (capability Text index) (text_content t)) index else offset_of (contents_in b) j

  pub put_here : (if index == index then offset_of (with_content (contents_in b) (capability Text index) (text_content t)) index else offset_of
      (contents_in b) index) ≡ offset_of (with_content (contents_in b) (capability Text index) (text_content t)) index
  put_here = ap (λ x. cond x (offset_of g index) (offset_of c index)) (eq-eqb index index refl)

  pub put_other : (j : ℕ) → j ≢ index
      → (if j == index then offset_of (with_content (contents_in b) (capability Text index) (text_content t)) index else offset_of (contents_in b) j)
      ≡ offset_of (contents_in b) j
  put_other j other = ap (λ x. cond x (offset_of g index) (offset_of c j)) (ne_eqb j index other)

  same_start : length (texts_below g index) ≡ length (texts_below c index)
  same_start = ap (λ (x : List ℕ). length x) (texts_before c g index (others b is h has index within t) index (omega arith))

  pub offset_there : (x : List ℕ) → t ≡ Some x → offset_of (with_content (contents_in b) (capability Text index) (text_content t)) index
      ≡ length (texts_below (contents_in b) index)
  offset_there x e = ap (offset_value (length (texts_below g index))) (here b is h has index within t ∙ ap text_content e) ∙ same_start

  pub offset_none : t ≡ None → offset_of (with_content (contents_in b) (capability Text index) (text_content t)) index ≡ 65535
  offset_none e = ap (offset_value (length (texts_below g index))) (here b is h has index within t ∙ ap text_content e)

  new_fits : offset_of g index ≤ 65535
  new_fits = let s = texts_small names c is.imaged index in elim t as (λ u. t ≡ u → offset_of g index ≤ 65535) [
    | None ↦ λ e. let o = offset_none e in omega arith
    | Some x ↦ λ e. let o = offset_there x e in omega arith
  ] refl

  pub put_fits : (j : ℕ) → (if j == index then offset_of (with_content (contents_in b) (capability Text index) (text_content t)) index else offset_of
      (contents_in b) j) ≤ 65535
  put_fits j = elim (cases_eq j index) [
    | inl same ↦ let e : put j ≡ offset_of g index = ap put same ∙ put_here in let f = new_fits in omega arith
    | inr other ↦ let e = put_other j other in let f = (offset_tells names c is.imaged j).fits in omega arith
  ]

  -- the later offsets are moved
  each : (removed added : ℕ) → removed ≡ length (text_piece (of_kind c Text index)) → added ≡ length (ended_text t) → (j : ℕ)
      → moved_later put (index + 1) removed added j ≡ offset_of g j
  each removed added er ea j = elim (cases_lt j (index + 1)) [
    | inl low ↦ later_before put (index + 1) removed added j low ∙ elim (cases_eq j index) [
      | inl same ↦ ap put same ∙ put_here ∙ ap (offset_of g) (sym same)
      | inr other ↦
          let s = ap (λ (x : List ℕ). length x) (texts_before c g index (others b is h has index within t) j (omega arith)) in
          put_other j other ∙ sym (ap (offset_value (length (texts_below g j))) (others b is h has index within t j other)
          ∙ ap (λ n. offset_value n (of_kind c Text j)) s)
    ]
    | inr high ↦
        let s = texts_small names c is.imaged j in
        let l = lengths_about c g index (others b is h has index within t) j (omega arith) in
        let p : length (text_piece (of_kind g Text index)) ≡ length (ended_text t) =
        ap (λ o. length (text_piece o)) (here b is h has index within t) ∙ ap (λ (x : List ℕ). length x) (piece_of t) in
        let other : j ≢ index = λ same. omega arith in
        later_from put (index + 1) removed added j (omega arith) ∙ ap (offset_after removed added) (put_other j other)
        ∙ moved_one j (length (texts_below c j)) (length (texts_below g j)) removed added (of_kind c Text j) (agrees_text names c is.imaged j) (omega arith)
        (omega arith)
        ∙ sym (ap (offset_value (length (texts_below g j))) (others b is h has index within t j other))
  ]

  pub text_changed : (b4 b5 : List ℕ) (k : Header) (removed added : ℕ) → removed ≡ length (text_piece (of_kind (contents_in b) Text index))
      → added ≡ length (ended_text t)
      → b4 ≡ (head_of (names_in b) (contents_in b) ++ middle (names_in b) (contents_in b)) ++
      (number_section Legacy (below (moved_later
      (λ j. if j == index then offset_of (with_content (contents_in b) (capability Text index) (text_content t)) index else offset_of (contents_in b) j)
      (index + 1) removed added) k.texts)
      ++ (texts_below (with_content (contents_in b) (capability Text index) (text_content t))
      (written_count (with_content (contents_in b) (capability Text index) (text_content t)) Text) ++ []))
      → HasSizes (names_in b) (with_content (contents_in b) (capability Text index) (text_content t)) k
      → length (image (names_in b) (with_content (contents_in b) (capability Text index) (text_content t))) ≤ image_limit
      (with_content (contents_in b) (capability Text index) (text_content t))
      → Replaces b4 b5 0 12 (λ _. header k.format k.names k.flags k.numbers k.texts k.strings)
      → b5 ≡ image (names_in b) (with_content (contents_in b) (capability Text index) (text_content t))
  text_changed b4 b5 k removed added er ea whole sizes small replaces =
      let S = texts_below g (written_count g Text) in
      let o = number_section Legacy (below (moved_later put (index + 1) removed added) k.texts) in
      let rest = middle names c ++ (o ++ (S ++ [])) in
      let offsets : below (moved_later put (index + 1) removed added) k.texts ≡ below (offset_of g) (written_count g Text) =
      below-same (moved_later put (index + 1) removed added) (offset_of g) k.texts (λ j lt. each removed added er ea j)
      ∙ ap (below (offset_of g)) sizes.texts in
      replaces [] (head_of names c) rest (whole ∙ append_assoc (head_of names c) (middle names c) (o ++ (S ++ []))) refl (length_head names c)
      ∙ ap (λ x. x ++ rest) (header_written names g k sizes small)
      ∙ ap (λ x. head_of names g ++ (middle names c ++ (number_section Legacy x ++ (S ++ [])))) offsets
      ∙ sym (text_frame names g)
