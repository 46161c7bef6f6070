-- What is written of user-defined capabilities is read as these.
use Rattle.std.proofs.Common.{◌≡◌, ◌≢◌, ℕ, zero, suc, ◌+◌, ◌-◌, ◌*◌, ◌/◌, ◌<◌, ◌≤◌, Bool, true, false, ltb, ◌&&◌, ◌||◌, ◌==◌, List, [], ◌∷◌, ◌++◌, length}
use Rattle.std.proofs.Common.{get_or, Option, Some, None, refl, sym, ap, ◌∙◌, subst, arith, append-nil, length-append, inl, inr}
use Rattle.std.specs.Prelude.{All, IsTrue, nat_le}
use Rattle.std.specs.Ordering.{nat_cmp, is_lt}
use Rattle.std.specs.Cmp.Lexicographic.{slice_cmp}
use Rattle.std.proofs.lemmas.Bool.{cases_lt, lt-ltb, le-ltb}
use Rattle.std.proofs.lemmas.Bool.Decides.{nat_tests}
use Rattle.std.proofs.lemmas.List.{get_or-map, get_or-replicate, get_or_default, length-map, length-replicate}
use Rattle.std.proofs.lemmas.List.FromFn.{fill_by_all}
use Rattle.ti_layout.specs.declared.layout.Format.{Format}
use Rattle.ti_layout.specs.declared.layout.Format.TheVariants.{Legacy, Extended}
use Rattle.ti_layout.specs.Layout.{absent_mark, first_negative, number_section, width}
use Rattle.ti_layout.specs.Reading.{HasEnd, IsStoredNumber, count_in, number_at, word_at}
use Rattle.ti_layout.specs.Sections.{AreFlags, AreOffsets, AreStoredNumbers}
use Rattle.ti_layout.specs.Values.{Content, content_true}
use Rattle.ti_text.specs.Texts.{HasNoNul}
use Rattle.ti_layout.proofs.Spelled.{counted, length-spelled, number_read}
use Rattle.user_extension.specs.UserDefined.{AreUserDefined, IsValue, Row, kind_rank}
use Rattle.user_items.specs.Names.{is_user_defined_name}
use Rattle.user_items.proofs.NameBytes.{names_have_no_nul}
use Rattle.user_extension.proofs.Fronts.{length-ended}
use Rattle.user_extension.specs.Extension.{ended, extension, flags, names, numbers, places, table, texts}
use Rattle.user_extension.specs.Reading.{AreNames, IsExtension, Parts, ReadRow, flag_count, name_in, name_table, number_count, parts_in, rows_in, value_in}
use Rattle.user_extension.specs.Laws.{ExtensionsAreRead, HoldsNumbers, as_read}
use Rattle.user_extension.proofs.Again.{Clean, Cut, cut, SmallCounts, small_counts, spelled, names_are_rest, place_read, places_counted, sound_places}
use Rattle.user_extension.proofs.Again.{text_found, text_read}
use Rattle.user_extension.proofs.ByKind as by_kind
use Rattle.user_extension.proofs.ByKind.{Split, join, split}

-- a text begins after the one before it
places_next : (at : ℕ) (ts : List (List ℕ)) (k : ℕ) → suc k < length ts → get_or (places at ts) (suc k) 0
    ≡ get_or (places at ts) k 0 + length (get_or ts k []) + 1
places_next at [] k lt = absurd (omega (arith, lt))
places_next at (t ∷ []) k lt = absurd (omega (arith, lt))
places_next at (t ∷ s ∷ ts) zero lt = let e = length-ended t in omega (arith, e)
places_next at (t ∷ s ∷ ts) (suc k) lt = places_next (at + length (ended t)) (s ∷ ts) k (omega (arith, lt))

under : (w : Format) → first_negative w ≤ absent_mark w
under Legacy = omega arith
under Extended = omega arith

before_same : (r s : ℕ) (b : Bool) → r ≡ s → IsTrue (nat_le (suc r) s || (r == s && b)) → IsTrue b
before_same r s true e h = refl
before_same r s false e h = grind (arith, nat_tests)

ranks : (r s : ℕ) (b : Bool) → IsTrue (nat_le (suc r) s || (r == s && b)) → r ≤ s
ranks r s b h = grind (arith, nat_tests)

abbrev read_row : List ℕ → Option Content → ReadRow
read_row a x = (a, x)

pair : (a b : List ℕ) (x y : Option Content) → a ≡ b → x ≡ y → read_row a x ≡ read_row b y
pair a b x y e f = rw (e, f) refl

module _ (w : Format) (fs : List (List ℕ)) (ns : List (List ℕ × ℕ)) (ts : List (List ℕ × List ℕ)) (are : AreUserDefined (join fs ns ts))
    (holds : HoldsNumbers w (join fs ns ts)) (within : length (extension w (join fs ns ts)) ≤ 32768) where
  abbrev rows : List Row
  rows = join fs ns ts

  small : SmallCounts rows
  small = small_counts w rows within

  flags_long : length (flags rows) ≡ length fs
  flags_long = ap length (by_kind.flags_joined fs ns ts) ∙ length-replicate (length fs) 1

  numbers_long : length (numbers rows) ≡ length ns
  numbers_long = ap length (by_kind.numbers_joined fs ns ts) ∙ length-map ns (λ p. p.1)

  texts_long : length (texts rows) ≡ length ts
  texts_long = ap length (by_kind.texts_joined fs ns ts) ∙ length-map ts (λ p. p.1)

  names_long : length (names rows) ≡ length rows
  names_long = length-map rows (λ (u : Row). u.0)

  all_long : length rows ≡ length fs + length ns + length ts
  all_long = by_kind.length-join fs ns ts

  no_row : Row
  no_row = ([], content_true)

  name_is : (k : ℕ) → k < length rows → get_or (names rows) k [] ≡ (get_or rows k no_row).0
  name_is k lt = get_or-map (λ (u : Row). u.0) rows k no_row [] lt

  clean_names : Clean (names rows)
  clean_names k lt =
      let l : k < length rows = omega (arith, lt, names_long) in
      names_have_no_nul (get_or (names rows) k []) (subst (λ n. IsTrue (is_user_defined_name n)) (sym (name_is k l)) (are.names k no_row l))

  text_is : (k : ℕ) → k < length ts → get_or (texts rows) k [] ≡ (get_or ts k ([], [])).1
  text_is k lt = ap (λ (xs : List (List ℕ)). get_or xs k []) (by_kind.texts_joined fs ns ts) ∙ get_or-map (λ (p : List ℕ × List ℕ). p.1) ts k ([], []) [] lt

  clean_texts : Clean (texts rows)
  clean_texts k lt =
      let l : k < length ts = omega (arith, lt, texts_long) in
      let i : ℕ = length fs + length ns + k in
      let back : i - (length fs + length ns) ≡ k = omega arith in
      let at = by_kind.text_at fs ns ts i no_row (omega arith) (omega (arith, l)) ∙ ap (λ (j : ℕ). by_kind.as_text (get_or ts j ([], []))) back in
      let v : HasNoNul (get_or ts k ([], [])).1 = subst (λ (u : Row). IsValue u.1) at (are.values i no_row (omega (arith, all_long, l))) in
      subst (λ t. HasNoNul t) (sym (text_is k l)) v

  number_is : (k : ℕ) → k < length ns → get_or (numbers rows) k 0 ≡ (get_or ns k ([], 0)).1
  number_is k lt = ap (λ (xs : List ℕ). get_or xs k 0) (by_kind.numbers_joined fs ns ts) ∙ get_or-map (λ (p : List ℕ × ℕ). p.1) ns k ([], 0) 0 lt

  number_plain : (k : ℕ) → k < length ns → get_or (numbers rows) k 0 < first_negative w
  number_plain k lt =
      let i : ℕ = length fs + k in
      let back : i - length fs ≡ k = omega arith in
      let at = by_kind.number_at fs ns ts i no_row (omega arith) (omega (arith, lt)) ∙ ap (λ (j : ℕ). by_kind.as_number (get_or ns j ([], 0))) back in
      let h = holds i (get_or ns k ([], 0)).1 no_row (omega (arith, all_long, lt)) (ap (λ (u : Row). u.1) at) in
      omega (arith, h, number_is k lt)

  numbers_fit : All (λ n. n ≤ absent_mark w) (numbers rows)
  numbers_fit k d lt =
      let e = get_or_default (numbers rows) k d 0 lt in
      let n = number_plain k (omega (arith, lt, numbers_long)) in
      omega (arith, e, n, under w)

  number_again : (k : ℕ) → k < length ns → number_at w (width w * k) (number_section w (numbers rows)) ≡ get_or (numbers rows) k 0
  number_again k lt = number_read w (numbers rows) k numbers_fit (omega (arith, lt, numbers_long))

  numbers_counted : count_in w (number_section w (numbers rows)) ≡ length ns
  numbers_counted = ap (λ (k : ℕ). k / width w) (length-spelled w (numbers rows)) ∙ counted w (length (numbers rows)) ∙ numbers_long

  flag_is : (k : ℕ) → k < length fs → get_or (flags rows) k 0 ≡ 1
  flag_is k lt = ap (λ (xs : List ℕ). get_or xs k 0) (by_kind.flags_joined fs ns ts) ∙ get_or-replicate (length fs) k 1 0 lt

  small_table : length (table (texts rows) ++ table (names rows)) < 32768
  small_table = small.table_fits

  small_names : length (table (names rows) ++ []) < 32768
  small_names = let e = ap length (append-nil (table (names rows))) in omega (arith, e, small_table, length-append (table (texts rows)) (table (names rows)))

  -- ---- the sections are sound

  flags_sound : AreFlags (flags rows)
  flags_sound k lt = inl (let e = flag_is k (omega (arith, lt, flags_long)) in omega (arith, e))

  numbers_sound : AreStoredNumbers w (number_section w (numbers rows))
  numbers_sound k lt =
      let l : k < length ns = omega (arith, lt, numbers_counted) in
      subst (λ (n : ℕ). IsStoredNumber w n) (sym (number_again k l)) (inl (number_plain k l))

  values_sound : AreOffsets (number_section Legacy (places 0 (texts rows))) (table (texts rows) ++ table (names rows))
  values_sound = sound_places (texts rows) (table (names rows)) small_table clean_texts

  name_read : (k : ℕ) → k < length rows → name_in (number_section Legacy (places 0 (names rows))) (table (names rows) ++ []) k ≡ (get_or rows k no_row).0
  name_read k lt = text_read (names rows) [] k small_names clean_names (omega (arith, lt, names_long)) ∙ name_is k lt

  same_kind : (k : ℕ) → suc k < length rows → suc k ≢ length fs → suc k ≢ length fs + length ns
      → kind_rank (get_or rows k no_row).1 ≡ kind_rank (get_or rows (suc k) no_row).1
  same_kind k lt a b = elim (cases_lt (suc k) (length fs)) [
    | inl f ↦
        ap (λ (u : Row). kind_rank u.1) (by_kind.flag_at fs ns ts k no_row (omega (arith, f)))
        ∙ sym (ap (λ (u : Row). kind_rank u.1) (by_kind.flag_at fs ns ts (suc k) no_row f))
    | inr le ↦ elim (cases_lt (suc k) (length fs + length ns)) [
      | inl n ↦
          ap (λ (u : Row). kind_rank u.1) (by_kind.number_at fs ns ts k no_row (omega (arith, le, a)) (omega (arith, n, le, a)))
          ∙ sym (ap (λ (u : Row). kind_rank u.1) (by_kind.number_at fs ns ts (suc k) no_row le (omega (arith, n, le))))
      | inr le2 ↦
          ap (λ (u : Row). kind_rank u.1) (by_kind.text_at fs ns ts k no_row (omega (arith, le2, b)) (omega (arith, lt, all_long, le2, b)))
          ∙ sym (ap (λ (u : Row). kind_rank u.1) (by_kind.text_at fs ns ts (suc k) no_row le2 (omega (arith, lt, all_long, le2))))
    ]
  ]

  names_sound : AreNames (length fs) (length fs + length ns) (number_section Legacy (places 0 (names rows))) (table (names rows) ++ [])
  names_sound =
      let counted_names = places_counted (names rows) in
      record {
        plain = λ k lt.
            let l : k < length (names rows) = omega (arith, lt, counted_names) in
            let f = text_found (names rows) k [] l (clean_names k l) in
            let o = place_read (names rows) [] k small_names clean_names l in
            omega (arith, f.within, o, small_names);
        ended = λ k lt.
            let l : k < length (names rows) = omega (arith, lt, counted_names) in
            let f = text_found (names rows) k [] l (clean_names k l) in
            subst (λ (o : ℕ). HasEnd (table (names rows) ++ []) o) (sym (place_read (names rows) [] k small_names clean_names l)) f.has_end;
        user_defined = λ k lt.
            let l : k < length rows = omega (arith, lt, counted_names, names_long) in
            subst (λ n. IsTrue (is_user_defined_name n)) (sym (name_read k l)) (are.names k no_row l);
        adjoin = λ k lt.
            let l : suc k < length (names rows) = omega (arith, lt, counted_names) in
            let here = place_read (names rows) [] k small_names clean_names (omega (arith, l)) in
            let next = place_read (names rows) [] (suc k) small_names clean_names l in
            let name = ap (λ (x : List ℕ). length x) (text_read (names rows) [] k small_names clean_names (omega (arith, l))) in
            omega (arith, here, next, name, places_next 0 (names rows) k l);
        rise = λ k lt a b.
            let l : suc k < length rows = omega (arith, lt, counted_names, names_long) in
            let h = before_same _ _ (is_lt (slice_cmp nat_cmp (get_or rows k no_row).0 (get_or rows (suc k) no_row).0)) (same_kind k l a b)
            (are.rise k (suc k) no_row (omega arith) l) in
            subst (λ n. IsTrue (is_lt (slice_cmp nat_cmp n (name_in (number_section Legacy (places 0 (names rows))) (table (names rows) ++ []) (suc k)))))
            (sym (name_read k (omega (arith, l))))
            (subst (λ n. IsTrue (is_lt (slice_cmp nat_cmp (get_or rows k no_row).0 n))) (sym (name_read (suc k) l)) h);
      }

  rest_is : name_table (number_section Legacy (places 0 (texts rows))) (table (texts rows) ++ table (names rows)) ≡ table (names rows) ++ []
  rest_is = names_are_rest (texts rows) (table (names rows)) small_table clean_texts ∙ sym (append-nil (table (names rows)))

  -- ---- what the rows are

  value_read : (k : ℕ) → k < length rows → value_in w (spelled w rows) k ≡ Some (get_or rows k no_row).1
  value_read k lt = elim (cases_lt k (length fs)) [
    | inl f ↦
        let test : ltb k (length (flags rows)) ≡ true = lt-ltb _ _ (omega (arith, f, flags_long)) in
        let one = flag_is k f in
        let u = by_kind.flag_at fs ns ts k no_row f in
        rw (test, one, u) refl
    | inr le ↦
        let test : ltb k (length (flags rows)) ≡ false = le-ltb _ _ (omega (arith, le, flags_long)) in
        elim (cases_lt k (length fs + length ns)) [
          | inl n ↦
              let l : k - length fs < length ns = omega (arith, n, le) in
              let test2 : ltb k (length (flags rows) + count_in w (number_section w (numbers rows))) ≡ true =
              lt-ltb _ _ (omega (arith, n, flags_long, numbers_counted)) in
              let place : k - length (flags rows) ≡ k - length fs = ap (λ (j : ℕ). k - j) flags_long in
              let number = ap (λ (j : ℕ). number_at w (width w * j) (number_section w (numbers rows))) place ∙ number_again (k - length fs) l
              ∙ number_is (k - length fs) l in
              let plain : ltb (get_or ns (k - length fs) ([], 0)).1 (first_negative w) ≡ true =
              lt-ltb _ _ (let p = number_plain (k - length fs) l in let e = number_is (k - length fs) l in omega (arith, p, e)) in
              let u = by_kind.number_at fs ns ts k no_row le l in
              rw (test, test2, number, plain, u) refl
          | inr le2 ↦
              let l : k - (length fs + length ns) < length ts = omega (arith, lt, all_long, le2) in
              let test2 : ltb k (length (flags rows) + count_in w (number_section w (numbers rows))) ≡ false =
              le-ltb _ _ (omega (arith, le2, flags_long, numbers_counted)) in
              let place : k - (length (flags rows) + count_in w (number_section w (numbers rows))) ≡ k - (length fs + length ns) =
              omega (arith, flags_long, numbers_counted) in
              let lt2 : k - (length fs + length ns) < length (texts rows) = omega (arith, l, texts_long) in
              let f = text_found (texts rows) (k - (length fs + length ns)) (table (names rows)) lt2 (clean_texts (k - (length fs + length ns)) lt2) in
              let o = place_read (texts rows) (table (names rows)) (k - (length fs + length ns)) small_table clean_texts lt2 in
              let plain : ltb (word_at (2 * (k - (length fs + length ns))) (number_section Legacy (places 0 (texts rows)))) 32768 ≡ true =
              lt-ltb _ _ (omega (arith, f.within, o, small_table)) in
              let text = text_read (texts rows) (table (names rows)) (k - (length fs + length ns)) small_table clean_texts lt2
              ∙ text_is (k - (length fs + length ns)) l in
              let u = by_kind.text_at fs ns ts k no_row le2 l in
              rw (test, test2, place, plain, text, u) refl
        ]
  ]

  rows_read : rows_in w (spelled w rows) ≡ as_read rows
  rows_read =
      let counted_names = places_counted (names rows) in
      sym (fill_by_all {X = ReadRow}
      (λ i. (name_in (spelled w rows).names (name_table (spelled w rows).values (spelled w rows).table) i, value_in w (spelled w rows) i)) (as_read rows)
      (count_in Legacy (spelled w rows).names) ([], None) (length-map rows (λ (u : Row). (u.0, Some u.1)) ∙ omega (arith, counted_names, names_long))
      (λ k lt.
      let l : k < length rows = omega (arith, lt, counted_names, names_long) in
      let name : name_in (spelled w rows).names (name_table (spelled w rows).values (spelled w rows).table) k ≡ (get_or rows k no_row).0 =
      ap (λ t. name_in (number_section Legacy (places 0 (names rows))) t k) rest_is ∙ name_read k l in
      get_or-map (λ (u : Row). (u.0, Some u.1)) rows k no_row ([], None) l ∙ sym (pair _ _ _ _ name (value_read k l))))

  pub joined_read : (more : List ℕ) → IsExtension w (extension w rows ++ more) × (rows_in w (parts_in w (extension w rows ++ more)) ≡ as_read rows)
  joined_read more =
      let b = extension w rows ++ more in
      let c : Cut w b rows = cut w rows more (omega (arith, names_long, all_long, flags_long, numbers_long, texts_long)) within in
      let words = c.words_are in
      let second : length fs ≡ flag_count b = sym (words.flags_are ∙ flags_long) in
      let third : length fs + length ns ≡ flag_count b + number_count b = omega (arith, words.flags_are, flags_long, words.numbers_are, numbers_long) in (
        record {
          long = omega (arith, c.whole);
          few_names = omega (arith, words.flags_are, words.numbers_are, words.texts_are, flags_long, numbers_long, texts_long, all_long, small.few);
          table_fits = omega (arith, words.table_is, small_table);
          whole = c.whole;
          flags = subst (λ (p : Parts). AreFlags p.flags) (sym c.parts) flags_sound;
          numbers = subst (λ (p : Parts). AreStoredNumbers w p.numbers) (sym c.parts) numbers_sound;
          values = subst (λ (p : Parts). AreOffsets p.values p.table) (sym c.parts) values_sound;
          names = subst (λ (p : Parts). AreNames (flag_count b) (flag_count b + number_count b) p.names (name_table p.values p.table)) (sym c.parts)
              (subst (λ t. AreNames (flag_count b) (flag_count b + number_count b) (number_section Legacy (places 0 (names rows))) t) (sym rest_is)
              (subst (λ (k : ℕ). AreNames k (flag_count b + number_count b) (number_section Legacy (places 0 (names rows))) (table (names rows) ++ [])) second
              (subst (λ (k : ℕ). AreNames (length fs) k (number_section Legacy (places 0 (names rows))) (table (names rows) ++ [])) third names_sound)));
        },
        ap (λ (p : Parts). rows_in w p) c.parts ∙ rows_read,
      )

pub extensions_are_read : ExtensionsAreRead
extensions_are_read w rows more are holds within =
    let s = split rows are.values (λ i j d lt in_range. ranks _ _ _ (are.rise i j d lt in_range)) in
    subst (λ (xs : List Row). IsExtension w (extension w xs ++ more) × (rows_in w (parts_in w (extension w xs ++ more)) ≡ as_read xs)) (sym s.whole)
    (joined_read w s.fs s.ns s.ts (subst AreUserDefined s.whole are) (subst (HoldsNumbers w) s.whole holds)
    (subst (λ (xs : List Row). length (extension w xs) ≤ 32768) s.whole within) more)
