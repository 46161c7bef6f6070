-- What is written of user-defined capabilities, read again: the header and the sections.
use Rattle.std.proofs.Common.{◌≡◌, ℕ, zero, suc, ◌+◌, ◌*◌, ◌/◌, ◌%◌, ◌<◌, ◌≤◌, true, ltb, cond, List, [], ◌∷◌, ◌++◌, length, get_or, take, drop, replicate}
use Rattle.std.proofs.Common.{refl, sym, ap, ◌∙◌, subst, arith, append_assoc, length-append, inl}
use Rattle.std.specs.Prelude.{slice_range}
use Rattle.std.proofs.lemmas.Bool.{lt-ltb}
use Rattle.std.specs.Prelude.{All}
use Rattle.std.proofs.lemmas.List.{drop_at, take_all, take_more, get_or_default, length-map, length-replicate}
use Rattle.ti_layout.specs.Reading.{IsOffset}
use Rattle.ti_layout.specs.Sections.{AreOffsets}
use Rattle.user_extension.proofs.Fronts.{length-ended, table_append}
use Rattle.ti_layout.specs.declared.layout.Format.{Format}
use Rattle.ti_layout.specs.declared.layout.Format.TheVariants.{Legacy, Extended}
use Rattle.ti_layout.specs.Layout.{number_section, width}
use Rattle.ti_layout.specs.Reading.{count_in, text_from, word_at}
use Rattle.ti_text.specs.Texts.{HasNoNul}
use Rattle.ti_layout.proofs.ImageReading.{IsIn, text-in}
use Rattle.ti_layout.proofs.Parts.{part_at}
use Rattle.ti_layout.proofs.Spelled.{counted, length-spelled, number_read}
use Rattle.user_extension.specs.UserDefined.{Row}
use Rattle.user_extension.specs.Extension.{ended, extension, extension_header, flags, names, numbers, places, table, texts}
use Rattle.user_extension.specs.Reading.{Parts, flag_count, name_count, name_table, number_count, parts_in, table_end, table_size, text_count, value_size}
use Rattle.user_extension.specs.Reading.{values_size}
use Rattle.user_extension.proofs.Assembling.{length-extension, length-places}

-- ---- the header

pub record Words (b : List ℕ) (rows : List Row) : Type 0 where
  pub flags_are : flag_count b ≡ length (flags rows)
  pub numbers_are : number_count b ≡ length (numbers rows)
  pub texts_are : text_count b ≡ length (texts rows)
  pub table_is : table_size b ≡ length (table (texts rows) ++ table (names rows))

words : (rows : List Row) (rest : List ℕ) → length (flags rows) < 65536 → length (numbers rows) < 65536 → length (texts rows) < 65536
    → length (table (texts rows) ++ table (names rows)) < 65536
    → Words (extension_header rows ++ rest) rows
unfolding number_section
words rows rest f n t s = record { flags_are = omega arith; numbers_are = omega arith; texts_are = omega arith; table_is = omega arith }

-- ---- the sections

abbrev pub spelled : Format → List Row → Parts
spelled w rows = record {
  flags = flags rows;
  numbers = number_section w (numbers rows);
  values = number_section Legacy (places 0 (texts rows));
  names = number_section Legacy (places 0 (names rows));
  table = table (texts rows) ++ table (names rows);
}

record Middles (b h f g m o p t r : List ℕ) : Type 0 where
  flags : b ≡ h ++ (f ++ (g ++ m ++ o ++ p ++ t ++ r))
  numbers : b ≡ (h ++ f ++ g) ++ (m ++ (o ++ p ++ t ++ r))
  values : b ≡ (h ++ f ++ g ++ m) ++ (o ++ (p ++ t ++ r))
  names : b ≡ (h ++ f ++ g ++ m ++ o) ++ (p ++ (t ++ r))
  table : b ≡ (h ++ f ++ g ++ m ++ o ++ p) ++ (t ++ r)

middles : (h f g m o p t r : List ℕ) → Middles (h ++ f ++ g ++ m ++ o ++ p ++ t ++ r) h f g m o p t r
middles h f g m o p t r = record {
  flags = simp append_assoc;
  numbers = simp append_assoc;
  values = simp append_assoc;
  names = simp append_assoc;
  table = simp append_assoc;
}

-- ---- a text of a table

-- what begins at the offset of a text: the text with its NUL
pub text_place : (at : ℕ) (pre : List ℕ) (ts : List (List ℕ)) (k : ℕ) (more : List ℕ) → length pre ≡ at → k < length ts
    → (rest : List ℕ) × (drop (get_or (places at ts) k 0) (pre ++ (table ts ++ more)) ≡ get_or ts k [] ++ 0 ∷ rest)
text_place at pre [] k more long lt = absurd (omega (arith, lt))
text_place at pre (t ∷ ts) zero more long lt = (
  table ts ++ more,
  drop_at pre ((ended t ++ table ts) ++ more) at long ∙ append_assoc (ended t) (table ts) more ∙ append_assoc t (0 ∷ []) (table ts ++ more),
)
text_place at pre (t ∷ ts) (suc k) more long lt =
    let next = text_place (at + length (ended t)) (pre ++ ended t) ts k more (omega (arith, long, length-append pre (ended t))) (omega (arith, lt)) in (
      next.0,
      ap (λ x. drop (get_or (places (at + length (ended t)) ts) k 0) x) (ap (λ x. pre ++ x) (append_assoc (ended t) (table ts) more)
          ∙ sym (append_assoc pre (ended t) (table ts ++ more))) ∙ next.1,
    )

-- a text of a table is found from its offset
pub text_found : (ts : List (List ℕ)) (k : ℕ) (more : List ℕ) → k < length ts → HasNoNul (get_or ts k [])
    → IsIn (table ts ++ more) (get_or (places 0 ts) k 0) (get_or ts k [])
text_found ts k more lt no_nul =
    let p = text_place 0 [] ts k more refl lt in text-in (table ts ++ more) (get_or (places 0 ts) k 0) (get_or ts k []) p.0 no_nul p.1

-- ---- the sections, cut again

spelled_long : (w : Format) (rows : List Row) → length (number_section w (numbers rows)) ≡ width w * length (numbers rows)
spelled_long w rows = length-spelled w (numbers rows)

places_long : (ts : List (List ℕ)) → length (number_section Legacy (places 0 ts)) ≡ 2 * length ts
places_long ts = length-spelled Legacy (places 0 ts) ∙ ap (λ n. 2 * n) (length-places 0 ts)

names_long : (rows : List Row) → length (names rows) ≡ length rows
names_long rows = length-map rows (λ (u : Row). u.0)

header_long : (rows : List Row) → length (extension_header rows) ≡ 10
header_long rows = length-spelled Legacy _

abbrev parts_of : (f m o p t : List ℕ) → Parts
parts_of f m o p t = record { flags = f; numbers = m; values = o; names = p; table = t }

same_parts : (f f' m m' o o' p p' t t' : List ℕ) → f ≡ f' → m ≡ m' → o ≡ o' → p ≡ p' → t ≡ t'
    → parts_of f m o p t ≡ parts_of f' m' o' p' t'
same_parts f f' m m' o o' p p' t t' a b c d e = rw (a, b, c, d, e) refl

cut_again : (b h f g m o p t r : List ℕ) → Middles b h f g m o p t r → (F N T K S wN : ℕ) → length h ≡ 10 → length f ≡ F → length g ≡ F % 2 → length m ≡ wN
    → length o ≡ 2 * T → length p ≡ 2 * K → length t ≡ S
    → (slice_range b 10 (10 + F) ≡ f) × (slice_range b (10 + F + F % 2) (10 + F + F % 2 + wN) ≡ m)
    × (slice_range b (10 + F + F % 2 + wN) (10 + F + F % 2 + wN + 2 * T) ≡ o)
    × (slice_range b (10 + F + F % 2 + wN + 2 * T) (10 + F + F % 2 + wN + 2 * T + 2 * K) ≡ p)
    × (slice_range b (10 + F + F % 2 + wN + 2 * T + 2 * K) (10 + F + F % 2 + wN + 2 * T + 2 * K + S) ≡ t)
    × (10 + F + F % 2 + wN + 2 * T + 2 * K + S ≤ length b)
cut_again b h f g m o p t r mid F N T K S wN lh lf lg lm lo lp lt =
    let p3 : length (h ++ f ++ g) ≡ 10 + F + F % 2 = omega (arith, length-append (h ++ f) g, length-append h f, lh, lf, lg) in
    let p4 : length (h ++ f ++ g ++ m) ≡ 10 + F + F % 2 + wN = omega (arith, length-append (h ++ f ++ g) m, p3, lm) in
    let p5 : length (h ++ f ++ g ++ m ++ o) ≡ 10 + F + F % 2 + wN + 2 * T = omega (arith, length-append (h ++ f ++ g ++ m) o, p4, lo) in
    let p6 : length (h ++ f ++ g ++ m ++ o ++ p) ≡ 10 + F + F % 2 + wN + 2 * T + 2 * K = omega (arith, length-append (h ++ f ++ g ++ m ++ o) p, p5, lp) in
    let whole : length b ≡ length (h ++ f ++ g ++ m ++ o ++ p) + length (t ++ r) =
    ap length mid.table ∙ length-append (h ++ f ++ g ++ m ++ o ++ p) (t ++ r) in (
      part_at b h f _ 10 (10 + F) mid.flags lh (omega (arith, lh, lf)),
      part_at b (h ++ f ++ g) m _ _ _ mid.numbers p3 (omega (arith, p3, lm)),
      part_at b (h ++ f ++ g ++ m) o _ _ _ mid.values p4 (omega (arith, p4, lo)),
      part_at b (h ++ f ++ g ++ m ++ o) p _ _ _ mid.names p5 (omega (arith, p5, lp)),
      part_at b (h ++ f ++ g ++ m ++ o ++ p) t _ _ _ mid.table p6 (omega (arith, p6, lt)),
      omega (arith, whole, p6, length-append t r, lt),
    )

-- the extension regrouped, with the table as one part
regrouped : (w : Format) (rows : List Row) (more : List ℕ) → extension w rows ++ more
    ≡ extension_header rows ++ flags rows ++ replicate (length (flags rows) % 2) 0 ++ number_section w (numbers rows)
    ++ number_section Legacy (places 0 (texts rows)) ++ number_section Legacy (places 0 (names rows)) ++ (table (texts rows) ++ table (names rows)) ++ more
unfolding extension
regrouped w rows more =
    ap (λ x. x ++ more) (append_assoc (extension_header rows ++ flags rows ++ replicate (length (flags rows) % 2) 0 ++ number_section w (numbers rows)
    ++ number_section Legacy (places 0 (texts rows)) ++ number_section Legacy (places 0 (names rows))) (table (texts rows)) (table (names rows)))

pub record SmallCounts (rows : List Row) : Type 0 where
  pub flags_fit : length (flags rows) < 65536
  pub numbers_fit : length (numbers rows) < 65536
  pub texts_fit : length (texts rows) < 65536
  pub table_fits : length (table (texts rows) ++ table (names rows)) < 32768
  pub few : length rows < 32768

wide : (w : Format) (n : ℕ) → n ≤ width w * n
wide Legacy n = omega arith
wide Extended n = omega arith

pub small_counts : (w : Format) (rows : List Row) → length (extension w rows) ≤ 32768 → SmallCounts rows
small_counts w rows within =
    let l = length-extension w rows in
    let t = length-append (table (texts rows)) (table (names rows)) in
    let n : length (numbers rows) ≤ width w * length (numbers rows) = wide w (length (numbers rows)) in
    record { flags_fit = omega arith; numbers_fit = omega arith; texts_fit = omega arith; table_fits = omega arith; few = omega arith }

-- what is cut from an extension
pub record Cut (w : Format) (b : List ℕ) (rows : List Row) : Type 0 where
  pub words_are : Words b rows
  pub whole : table_end w b ≤ length b
  pub parts : parts_in w b ≡ spelled w rows

pub cut : (w : Format) (rows : List Row) (more : List ℕ) → length (names rows) ≡ length (flags rows) + length (numbers rows) + length (texts rows)
    → length (extension w rows) ≤ 32768 → Cut w (extension w rows ++ more) rows
cut w rows more sum within =
    let s = small_counts w rows within in
    let f = flags rows in
    let g : List ℕ = replicate (length f % 2) 0 in
    let m = number_section w (numbers rows) in
    let o = number_section Legacy (places 0 (texts rows)) in
    let p = number_section Legacy (places 0 (names rows)) in
    let t = table (texts rows) ++ table (names rows) in
    let e = regrouped w rows more in
    let front : extension w rows ++ more ≡ extension_header rows ++ (f ++ g ++ m ++ o ++ p ++ t ++ more) = e ∙ simp append_assoc in
    let words_are : Words (extension w rows ++ more) rows =
    subst (λ b. Words b rows) (sym front) (words rows (f ++ g ++ m ++ o ++ p ++ t ++ more) s.flags_fit s.numbers_fit s.texts_fit
    (omega (arith, s.table_fits))) in
    let b = extension w rows ++ more in
    let mid : Middles b (extension_header rows) f g m o p t more =
    subst (λ x. Middles x (extension_header rows) f g m o p t more) (sym e) (middles (extension_header rows) f g m o p t more) in
    let fl = words_are.flags_are in
    let nl = words_are.numbers_are in
    let tl = words_are.texts_are in
    let c = cut_again b (extension_header rows) f g m o p t more mid (flag_count b) (number_count b) (text_count b) (name_count b) (table_size b)
    (width w * number_count b)
    (header_long rows) (sym fl) (length-replicate (length f % 2) 0 ∙ ap (λ (n : ℕ). n % 2) (sym fl)) (spelled_long w rows ∙ ap (λ n. width w * n) (sym nl))
    (places_long (texts rows) ∙ ap (λ n. 2 * n) (sym tl))
    (places_long (names rows) ∙ ap (λ n. 2 * n) (omega (arith, sum, fl, nl, tl))) (sym words_are.table_is) in
    record { words_are = words_are; whole = c.5; parts = same_parts _ _ _ _ _ _ _ _ _ _ c.0 c.1 c.2 c.3 c.4 }

-- ---- what the values take

-- each text of a list has no NUL
abbrev pub Clean : List (List ℕ) → Type 0
Clean ts = (k : ℕ) → k < length ts → HasNoNul (get_or ts k [])

places_fit : (ts : List (List ℕ)) (more : List ℕ) → length (table ts ++ more) < 32768 → Clean ts → All (λ o. o ≤ 65535) (places 0 ts)
places_fit ts more small clean k d lt =
    let e = get_or_default (places 0 ts) k d 0 lt in
    let n : k < length ts = omega (arith, lt, length-places 0 ts) in
    let f = text_found ts k more n (clean k n) in
    omega (arith, e, f.within, small)

-- the offset of a text, read from its bytes
pub place_read : (ts : List (List ℕ)) (more : List ℕ) (k : ℕ) → length (table ts ++ more) < 32768 → Clean ts → k < length ts
    → word_at (2 * k) (number_section Legacy (places 0 ts)) ≡ get_or (places 0 ts) k 0
place_read ts more k small clean lt = number_read Legacy (places 0 ts) k (places_fit ts more small clean) (omega (arith, lt, length-places 0 ts))

pub places_counted : (ts : List (List ℕ)) → count_in Legacy (number_section Legacy (places 0 ts)) ≡ length ts
places_counted ts = ap (λ (k : ℕ). k / 2) (places_long ts) ∙ counted Legacy (length ts)

-- the text at a place, as it is read
pub text_read : (ts : List (List ℕ)) (more : List ℕ) (k : ℕ) → length (table ts ++ more) < 32768 → Clean ts → k < length ts
    → text_from (table ts ++ more) (word_at (2 * k) (number_section Legacy (places 0 ts))) ≡ get_or ts k []
text_read ts more k small clean lt =
    ap (λ o. text_from (table ts ++ more) o) (place_read ts more k small clean lt) ∙ (text_found ts k more lt (clean k lt)).found

taken : (ts : List (List ℕ)) (more : List ℕ) (k : ℕ) → length (table ts ++ more) < 32768 → Clean ts → k < length ts
    → value_size (table ts ++ more) (word_at (2 * k) (number_section Legacy (places 0 ts))) ≡ length (get_or ts k []) + 1
taken ts more k small clean lt =
    let o = place_read ts more k small clean lt in
    let f = text_found ts k more lt (clean k lt) in
    let plain : ltb (word_at (2 * k) (number_section Legacy (places 0 ts))) 32768 ≡ true = lt-ltb _ _ (omega (arith, o, f.within, small)) in
    ap (λ b. cond b (length (text_from (table ts ++ more) (word_at (2 * k) (number_section Legacy (places 0 ts)))) + 1) 0) plain
    ∙ ap (λ (t : List ℕ). length t + 1) (text_read ts more k small clean lt)

values_so_far : (ts : List (List ℕ)) (more : List ℕ) (n : ℕ) → n ≤ length ts → length (table ts ++ more) < 32768 → Clean ts
    → values_size (number_section Legacy (places 0 ts)) (table ts ++ more) n ≡ length (table (take n ts))
values_so_far ts more zero le small clean = refl
values_so_far ts more (suc n) le small clean =
    let before = values_so_far ts more n (omega arith) small clean in
    let here = taken ts more n small clean (omega arith) in
    let one : suc n ≡ n + 1 = omega arith in
    let next : table (take (suc n) ts) ≡ table (take n ts) ++ ended (get_or ts n []) =
    ap (λ k. table (take k ts)) one ∙ ap (λ (x : List (List ℕ)). table x) (take_more ts n [] (omega arith)) ∙ table_append (take n ts) (get_or ts n []) in
    omega (arith, before, here, ap length next, length-append (table (take n ts)) (ended (get_or ts n [])), length-ended (get_or ts n []))

-- the values take the first part of the table, and the names are the rest
pub names_are_rest : (ts : List (List ℕ)) (more : List ℕ) → length (table ts ++ more) < 32768 → Clean ts
    → name_table (number_section Legacy (places 0 ts)) (table ts ++ more) ≡ more
names_are_rest ts more small clean =
    let size : values_size (number_section Legacy (places 0 ts)) (table ts ++ more) (count_in Legacy (number_section Legacy (places 0 ts)))
    ≡ length (table ts) =
    ap (values_size (number_section Legacy (places 0 ts)) (table ts ++ more)) (places_counted ts) ∙ values_so_far ts more (length ts) (omega arith) small clean
    ∙ ap (λ (x : List (List ℕ)). length (table x)) (take_all (length ts) ts (omega arith)) in
    ap (λ (n : ℕ). drop n (table ts ++ more)) size ∙ drop_at (table ts) more (length (table ts)) refl

-- the offsets of the values lead to them
pub sound_places : (ts : List (List ℕ)) (more : List ℕ) → length (table ts ++ more) < 32768 → Clean ts
    → AreOffsets (number_section Legacy (places 0 ts)) (table ts ++ more)
sound_places ts more small clean k lt =
    let n : k < length ts = omega (arith, lt, places_counted ts) in
    let o = place_read ts more k small clean n in
    let f = text_found ts k more n (clean k n) in
    subst (λ (x : ℕ). IsOffset (table ts ++ more) x) (sym o) (inl (omega (arith, f.within, small), f.has_end))
