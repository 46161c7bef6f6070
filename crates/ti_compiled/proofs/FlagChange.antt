-- An image in which a boolean changes, byte for byte.
use Rattle.std.proofs.Common.{◌≡◌, ◌≢◌, ℕ, suc, ◌+◌, ◌-◌, ◌*◌, ◌%◌, ◌<◌, ◌≤◌, Bool, List, [], ◌∷◌, ◌++◌, length, set, Option, Some, None, refl, sym, ap}
use Rattle.std.proofs.Common.{◌∙◌, append_assoc, arith}
use Rattle.std.proofs.lemmas.List.{length-append, set-append_left, set-append_right}
use Rattle.ti_caps.specs.Tables.{capability}
use Rattle.ti_caps.specs.declared.capability.Kind.TheVariants.{Flag, Number, Text}
use Rattle.ti_layout.specs.declared.layout.Format.TheVariants.{Legacy}
use Rattle.ti_layout.specs.declared.header.Header.{Header}
use Rattle.ti_layout.specs.Image.{image, image_in, below, even_gap, flag_value, flags_below, format_of, image_limit, numbers_below, of_kind, offsets_below}
use Rattle.ti_layout.specs.Image.{texts_below, written_count}
use Rattle.ti_layout.specs.Layout.{header, number_section, entry_size, width}
use Rattle.ti_layout.specs.Laws.{without_cancel}
use Rattle.ti_layout.specs.Sizes.{HasSizes}
use Rattle.ti_layout.specs.Values.{Content, content_true, content_number, content_text, content_cancelled, Contents}
use Rattle.ti_layout.proofs.Assembling.{header_written}
use Rattle.ti_layout.proofs.Below.{length-below, below-filled, below-same}
use Rattle.ti_layout.proofs.Parts.{length-header}
use Rattle.ti_layout.proofs.Sizes.{length-image}
use Rattle.ti_compiled.specs.inside.Changes.{flag_content}
use Rattle.ti_compiled.specs.Image.{with_content}
use Rattle.ti_compiled.specs.inside.Bytes.{Replaces, with_length}
use Rattle.ti_compiled.proofs.Given.{HoldsNoOther, given_here, given_place, given_past, nothing_past}
use Rattle.ti_compiled.proofs.Resizing.{resized-below, set-below}
use Rattle.ti_compiled.proofs.Same.{same_offsets, same_strings, same_text_count}

regroup : (h n z f g m o s r : List ℕ) → h ++ n ++ z ++ f ++ g ++ m ++ o ++ s ++ r ≡ h ++ ((n ++ z) ++ ((f ++ g) ++ (m ++ o ++ s ++ r)))
regroup h n z f g m o s r = simp append_assoc

set_inside : (p m r : List ℕ) (at i v : ℕ) → length p ≡ at → i < length m → set (p ++ (m ++ r)) (at + i) v ≡ p ++ (set m i v ++ r)
set_inside p m r at i v e lt =
    let k : at + i - at ≡ i = omega arith in
    set-append_right p (m ++ r) at (at + i) v e (omega arith) ∙ ap (λ n. p ++ set (m ++ r) n v) k ∙ ap (λ t. p ++ t) (set-append_left m r i v lt)

void_flag : (o : Option Content) → without_cancel o ≡ None → flag_value o ≡ 0
void_flag None e = refl
void_flag (Some content_true) e = absurd cc
void_flag (Some (content_number n)) e = refl
void_flag (Some (content_text t)) e = refl
void_flag (Some content_cancelled) e = refl

added : (n f f' x t s l m : ℕ) → l ≡ 12 + n + f + (n + f) % 2 + x + t + s → m ≡ 12 + n + f' + (n + f') % 2 + x + t + s
    → m + (f + (n + f) % 2) ≡ l + (f' + (n + f') % 2)
added n f f' x t s l m a b = omega arith

-- the byte of each place
abbrev bytes_of : Contents → ℕ → ℕ
bytes_of c j = flag_value (of_kind c Flag j)

-- the booleans with the zero byte
abbrev size : List ℕ → Contents → ℕ
size names c = written_count c Flag + (suc (length names) + written_count c Flag) % 2

-- what comes after the booleans
abbrev behind : Contents → List ℕ
behind c = number_section (format_of c) (numbers_below (format_of c) c (written_count c Number))
    ++ number_section Legacy (offsets_below c (written_count c Text)) ++ texts_below c (written_count c Text) ++ []

abbrev head : List ℕ → Contents → List ℕ
head names c =
    header (format_of c) (suc (length names)) (length (flags_below c (written_count c Flag)))
    (length (numbers_below (format_of c) c (written_count c Number))) (length (offsets_below c (written_count c Text)))
    (length (texts_below c (written_count c Text)))

nothing_flagged : (c : Contents) → HoldsNoOther c → (j : ℕ) → written_count c Flag ≤ j → bytes_of c j ≡ 0
nothing_flagged c past j le = void_flag (c (capability Flag j)) (nothing_past c past Flag j le)

frame : (names : List ℕ) (c : Contents) → HoldsNoOther c → image names c ≡ head names c
    ++ ((names ++ 0 ∷ []) ++ (below (bytes_of c) (size names c) ++ behind c))
unfolding image image_in
frame names c past =
    let F = written_count c Flag in
    let region : below (bytes_of c) (size names c) ≡ flags_below c F ++ even_gap names F =
    below-filled (bytes_of c) 0 F ((suc (length names) + F) % 2) (λ j low high. nothing_flagged c past j low) in
    regroup (head names c) names (0 ∷ []) (flags_below c F) (even_gap names F)
    (number_section (format_of c) (numbers_below (format_of c) c (written_count c Number)))
    (number_section Legacy (offsets_below c (written_count c Text))) (texts_below c (written_count c Text)) []
    ∙ ap (λ t. head names c ++ ((names ++ 0 ∷ []) ++ (t ++ behind c))) (sym region)

module _ (names : List ℕ) (c : Contents) (past : HoldsNoOther c) (index : ℕ) (within : index < 44) (on : Bool) where
  abbrev g : Contents
  g = with_content c (capability Flag index) (flag_content on)

  -- the two images differ in the bytes of the booleans and the zero byte
  pub flag_lengths : (h k : Header) → HasSizes names c h → HasSizes names g k
      → length (image names g) + (h.flags + (h.names + h.flags) % 2) ≡ length (image names c) + (k.flags + (k.names + k.flags) % 2)
  flag_lengths h k has has_g =
      let l = length-image names c in
      let m : length (image names g) ≡ entry_size (format_of c) (suc (length names)) (written_count g Flag) (written_count c Number) (written_count c Text)
      (length (texts_below c (written_count c Text))) =
      length-image names g ∙ ap (λ (t : List ℕ). entry_size (format_of c) (suc (length names)) (written_count g Flag) (written_count c Number)
      (written_count c Text) (length t)) (same_strings g c (λ i. refl)) in
      rw (has.names, has.flags, has_g.names, has_g.flags) (added (suc (length names)) (written_count c Flag) (written_count g Flag)
      (width (format_of c) * written_count c Number) (2 * written_count c Text) (length (texts_below c (written_count c Text))) _ _ l m)

  past_g : HoldsNoOther g
  past_g = given_past c past (capability Flag index) (flag_content on) within

  same_behind : behind g ≡ behind c
  same_behind =
      let w = format_of c in
      let front = number_section w (numbers_below w c (written_count c Number)) in
      ap (λ t. front ++ number_section Legacy t ++ texts_below g (written_count g Text) ++ [])
      (same_offsets g c (λ i. refl) (written_count g Text) ∙ ap (offsets_below c) (same_text_count g c (λ i. refl)))
      ∙ ap (λ t. front ++ number_section Legacy (offsets_below c (written_count c Text)) ++ t ++ []) (same_strings g c (λ i. refl))

  start : List ℕ
  start = head names c ++ (names ++ 0 ∷ [])

  length_start : length (head names c ++ (names ++ 0 ∷ [])) ≡ 12 + suc (length names)
  length_start =
      let a = length-append (head names c) (names ++ 0 ∷ []) in
      let n = length-append names (0 ∷ []) in
      let h = length-header (format_of c) (suc (length names)) (length (flags_below c (written_count c Flag)))
      (length (numbers_below (format_of c) c (written_count c Number))) (length (offsets_below c (written_count c Text)))
      (length (texts_below c (written_count c Text))) in
      omega arith

  -- cut, or filled up
  module _ (b b1 : List ℕ) (n : ℕ) (whole : b ≡ image names c) (resizes : Replaces b b1 (12 + suc (length names)) (size names c) (λ m. with_length m n 0)) where
    pub flags_resized : b1 ≡ (head names c ++ (names ++ 0 ∷ [])) ++ (below (bytes_of c) n ++ behind c)
    flags_resized =
        resizes (head names c ++ (names ++ 0 ∷ [])) (below (bytes_of c) (size names c)) (behind c)
        (whole ∙ frame names c past ∙ sym (append_assoc (head names c) (names ++ 0 ∷ []) (below (bytes_of c) (size names c) ++ behind c)))
        length_start (length-below (bytes_of c) (size names c))
        ∙ ap (λ t. (head names c ++ (names ++ 0 ∷ [])) ++ (t ++ behind c))
        (resized-below (bytes_of c) 0 (size names c) n (λ j low. nothing_flagged c past j (omega arith)))

    others : (j : ℕ) → j ≢ index → bytes_of g j ≡ bytes_of c j
    others j other = ap flag_value (given_place c Flag index (flag_content on) j other)

    abbrev With : List ℕ → Type 0
    With b2 = b2 ≡ (head names c ++ (names ++ 0 ∷ [])) ++ (below (bytes_of g) n ++ behind c)

    pub flag_written : (b2 : List ℕ) (at v : ℕ) → index < n → at ≡ 12 + suc (length names) → v ≡ flag_value (flag_content on) → b2 ≡ set b1 (at + index) v
        → With b2
    flag_written b2 at v lt e o changed =
        let here : bytes_of g index ≡ v = ap flag_value (given_here c (capability Flag index) (flag_content on)) ∙ sym o in
        changed ∙ ap (λ t. set t (at + index) v) flags_resized
        ∙ set_inside (head names c ++ (names ++ 0 ∷ [])) (below (bytes_of c) n) (behind c) at index v (length_start ∙ sym e)
        (let l = length-below (bytes_of c) n in omega arith)
        ∙ ap (λ t. (head names c ++ (names ++ 0 ∷ [])) ++ (t ++ behind c)) (set-below (bytes_of c) (bytes_of g) n index v lt here others)

    pub flag_cut : n ≤ index → With b1
    flag_cut le = flags_resized ∙ ap (λ t. (head names c ++ (names ++ 0 ∷ [])) ++ (t ++ behind c))
        (below-same (bytes_of c) (bytes_of g) n (λ j lt. sym (others j (λ same. omega arith))))

    pub flag_changed : (b2 b3 : List ℕ) (k : Header) → With b2 → HasSizes names g k → length (image names g) ≤ image_limit g
        → n ≡ k.flags + (k.names + k.flags) % 2
        → Replaces b2 b3 0 12 (λ _. header k.format k.names k.flags k.numbers k.texts k.strings) → b3 ≡ image names g
    flag_changed b2 b3 k so_far has small e replaces =
        let rest = (names ++ 0 ∷ []) ++ (below (bytes_of g) n ++ behind c) in
        let all : n ≡ size names g = rw (← has.flags, ← has.names) e in
        replaces [] (head names c) rest (so_far ∙ append_assoc (head names c) (names ++ 0 ∷ []) (below (bytes_of g) n ++ behind c)) refl
        (length-header (format_of c) (suc (length names)) (length (flags_below c (written_count c Flag)))
        (length (numbers_below (format_of c) c (written_count c Number))) (length (offsets_below c (written_count c Text)))
        (length (texts_below c (written_count c Text))))
        ∙ ap (λ t. t ++ rest) (header_written names g k has small)
        ∙ ap (λ t. head names g ++ ((names ++ 0 ∷ []) ++ (below (bytes_of g) n ++ t))) (sym same_behind)
        ∙ ap (λ m. head names g ++ ((names ++ 0 ∷ []) ++ (below (bytes_of g) m ++ behind g))) all
        ∙ sym (frame names g past_g)
