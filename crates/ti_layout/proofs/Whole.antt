-- Bytes that were cut are their sections, one after the other.
use Rattle.std.proofs.Common.{◌≡◌, ℕ, suc, min, ◌+◌, ◌-◌, ◌*◌, ◌%◌, ◌<◌, ◌≤◌, List, [], ◌∷◌, ◌++◌, length, take, drop, get_or, slice_range, All, refl, sym}
use Rattle.std.proofs.Common.{ap, ◌∙◌, subst, append_assoc, arith, inl, inr}
use Rattle.std.proofs.lemmas.List.{take_all, take_more, take-append-drop, length-drop, length-take, get_or-drop, get_or-take, get_or_default, get_or_past}
use Rattle.std.proofs.lemmas.List.{drop-drop}
use Rattle.std.proofs.lemmas.Bool.{cases_lt}
use Rattle.ti_layout.specs.declared.layout.Format.{Format}
use Rattle.ti_layout.specs.declared.layout.Format.TheVariants.{Legacy}
use Rattle.ti_layout.specs.Layout.{Sections, header, entry_bytes, magic, number_bytes, number_section, width}
use Rattle.ti_layout.specs.Reading.{word_at, number_at, count_in, numbers_in, AreSound, IsStoredNumber, IsOffset, Reads, contents_of, format_in, names_size}
use Rattle.ti_layout.specs.Reading.{flag_count}
use Rattle.ti_layout.specs.Reading.{number_count, text_count, strings_size, flags_begin, numbers_begin, offsets_begin, strings_begin, entry_end, names_section}
use Rattle.ti_layout.specs.Reading.{flags_section, numbers_section, offsets_section, strings_section}
use Rattle.ti_layout.specs.Sections.{AreNames, AreFlags, AreStoredNumbers, AreOffsets, EachNumber}
use Rattle.ti_layout.specs.inside.View.{OffsetsEnd}
use Rattle.ti_layout.proofs.Below.{length-below, get_or-below}
use Rattle.ti_layout.proofs.Spelled.{IsBytes, part-number, spelled-again, length-numbers_in}

-- a part, and what comes after it
pub part_and_rest : (b : List ℕ) (x y : ℕ) → x ≤ y → slice_range b x y ++ drop y b ≡ drop x b
part_and_rest b x y le =
    let e : drop (y - x) (drop x b) ≡ drop y b = drop-drop (y - x) x b ∙ ap (λ (n : ℕ). drop n b) (omega arith) in
    subst (λ (r : List ℕ). take (y - x) (drop x b) ++ r ≡ drop x b) e (take-append-drop (y - x) (drop x b))

-- a front of b, and a further part
pub further : (b front : List ℕ) (x y : ℕ) → x ≤ y → front ++ drop x b ≡ b → (front ++ slice_range b x y) ++ drop y b ≡ b
further b front x y le so_far =
    append_assoc front (slice_range b x y) (drop y b) ∙ ap (λ (r : List ℕ). front ++ r) (part_and_rest b x y le) ∙ so_far

pub length-part : (b : List ℕ) (x y : ℕ) → x ≤ y → y ≤ length b → length (slice_range b x y) ≡ y - x
length-part b x y le within = omega (arith, length-take (y - x) (drop x b), length-drop x b)

-- a front of b, and the number after it
further_word : (b front : List ℕ) (at : ℕ) → IsBytes b → at + 2 ≤ length b → front ++ drop at b ≡ b
    → (front ++ number_bytes Legacy (word_at at b)) ++ drop (at + 2) b ≡ b
further_word b front at fits within so_far =
    let n : at + 2 - at ≡ 2 = omega arith in
    let part : slice_range b at (at + 2) ≡ number_bytes Legacy (word_at at b) = ap (λ (k : ℕ). take k (drop at b)) n ∙ part-number Legacy b at fits within in
    subst (λ (p : List ℕ). (front ++ p) ++ drop (at + 2) b ≡ b) part (further b front at (at + 2) (omega arith) so_far)

-- the six numbers of a header
pub header-bytes : (w : Format) (n f m t s : ℕ) → header w n f m t s
    ≡ number_bytes Legacy (magic w) ++ number_bytes Legacy n ++ number_bytes Legacy f ++ number_bytes Legacy m ++ number_bytes Legacy t ++ number_bytes Legacy s
unfolding number_section
header-bytes w n f m t s = refl

-- the header is spelled again by its numbers
pub header_again : (b : List ℕ) (w : Format) → IsBytes b → 12 ≤ length b → word_at 0 b ≡ magic w
    → header w (word_at 2 b) (word_at 4 b) (word_at 6 b) (word_at 8 b) (word_at 10 b) ++ drop 12 b ≡ b
header_again b w fits long known =
    let W : ℕ → List ℕ = λ n. number_bytes Legacy n in
    let first : W (magic w) ++ drop 2 b ≡ b =
    subst (λ (n : ℕ). W n ++ drop 2 b ≡ b) known (further_word b [] 0 fits (omega arith) refl) in
    let second = further_word b (W (magic w)) 2 fits (omega arith) first in
    let third = further_word b (W (magic w) ++ W (word_at 2 b)) 4 fits (omega arith) second in
    let fourth = further_word b (W (magic w) ++ W (word_at 2 b) ++ W (word_at 4 b)) 6 fits (omega arith) third in
    let fifth = further_word b (W (magic w) ++ W (word_at 2 b) ++ W (word_at 4 b) ++ W (word_at 6 b)) 8 fits (omega arith) fourth in
    ap (λ (h : List ℕ). h ++ drop 12 b) (header-bytes w _ _ _ _ _)
    ∙ further_word b (W (magic w) ++ W (word_at 2 b) ++ W (word_at 4 b) ++ W (word_at 6 b) ++ W (word_at 8 b)) 10 fits (omega arith) fifth

-- a part of bytes is of bytes
bytes_of_part : (b : List ℕ) (x y : ℕ) → IsBytes b → IsBytes (slice_range b x y)
bytes_of_part b x y fits i = elim (cases_lt i (y - x)) [
  | inl within ↦ rw (get_or-take (y - x) (drop x b) i 0 within, get_or-drop x b i 0) (fits (x + i))
  | inr past ↦ let none : get_or (slice_range b x y) i 0 ≡ 0 =
      get_or_past (slice_range b x y) i 0 (omega (arith, length-take (y - x) (drop x b))) in rw none (omega arith)
]

-- names with their NUL are the names and the NUL
pub names_and_nul : (names : List ℕ) → AreNames names → names ≡ take (length names - 1) names ++ 0 ∷ []
names_and_nul names are =
    let n : length names - 1 + 1 ≡ length names = omega (arith, are.some) in
    let nul : get_or names (length names - 1) 0 ≡ 0 = are.ended (length names - 1) (omega (arith, are.some)) in
    let all : take (length names - 1 + 1) names ≡ names = rw n (take_all (length names) names (omega arith)) in
    sym all ∙ take_more names (length names - 1) 0 (omega (arith, are.some)) ∙ ap (λ (x : ℕ). take (length names - 1) names ++ x ∷ []) nul

-- the sections that the header's numbers cut
pub sections_in : List ℕ → Sections
sections_in b = record {
  names = take (length (names_section b) - 1) (names_section b);
  flags = flags_section b;
  gap = slice_range b (flags_begin b + flag_count b) (numbers_begin b);
  numbers = numbers_in (format_in b) (numbers_section b);
  offsets = numbers_in Legacy (offsets_section b);
  strings = strings_section b;
  rest = drop (entry_end b) b;
}

-- their lengths
record HasLengths (b : List ℕ) : Type 0 where
  names : length (names_section b) ≡ names_size b
  flags : length (flags_section b) ≡ flag_count b
  gap : length (slice_range b (flags_begin b + flag_count b) (numbers_begin b)) ≡ (names_size b + flag_count b) % 2
  numbers : length (numbers_section b) ≡ width (format_in b) * number_count b
  offsets : length (offsets_section b) ≡ 2 * text_count b
  strings : length (strings_section b) ≡ strings_size b

lengths : (b : List ℕ) → entry_end b ≤ length b → HasLengths b
lengths b whole = record {
  names = length-part b 12 (flags_begin b) (omega arith) (omega arith) ∙ omega arith;
  flags = length-part b (flags_begin b) (flags_begin b + flag_count b) (omega arith) (omega arith) ∙ omega arith;
  gap = length-part b (flags_begin b + flag_count b) (numbers_begin b) (omega arith) (omega arith) ∙ omega arith;
  numbers = length-part b (numbers_begin b) (offsets_begin b) (omega arith) (omega arith) ∙ omega arith;
  offsets = length-part b (offsets_begin b) (strings_begin b) (omega arith) (omega arith) ∙ omega arith;
  strings = length-part b (strings_begin b) (entry_end b) (omega arith) (omega arith) ∙ omega arith;
}

-- the header that the sections' lengths spell
header_of-lengths : (b : List ℕ) → HasLengths b → AreNames (names_section b)
    → header (format_in b) (suc (length (sections_in b).names)) (length (flags_section b)) (length (sections_in b).numbers) (length (sections_in b).offsets)
    (length (strings_section b))
    ≡ header (format_in b) (names_size b) (flag_count b) (number_count b) (text_count b) (strings_size b)
unfolding sections_in
header_of-lengths b l named =
    let n : suc (length (take (length (names_section b) - 1) (names_section b))) ≡ names_size b =
    omega (arith, length-take (length (names_section b) - 1) (names_section b), l.names, named.some) in
    let numbers = length-numbers_in (format_in b) (numbers_section b) (number_count b) l.numbers in
    let offsets = length-numbers_in Legacy (offsets_section b) (text_count b) l.offsets in
    let flags = l.flags in
    let strings = l.strings in
    rw (n, flags, numbers, offsets, strings) refl

pub cut_whole : (b : List ℕ) → IsBytes b → 12 ≤ length b → word_at 0 b ≡ magic (format_in b) → entry_end b ≤ length b → AreNames (names_section b)
    → b ≡ entry_bytes (format_in b) (sections_in b)
unfolding sections_in
cut_whole b fits long known whole named =
    let w = format_in b in
    let l = lengths b whole in
    let H : List ℕ = header w (suc (length (sections_in b).names)) (length (flags_section b)) (length (sections_in b).numbers)
    (length (sections_in b).offsets) (length (strings_section b)) in
    let N : List ℕ = take (length (names_section b) - 1) (names_section b) in
    let gap : List ℕ = slice_range b (flags_begin b + flag_count b) (numbers_begin b) in
    let h : H ++ drop 12 b ≡ b = ap (λ (x : List ℕ). x ++ drop 12 b) (header_of-lengths b l named) ∙ header_again b w fits long known in
    let n : ((H ++ N) ++ 0 ∷ []) ++ drop (flags_begin b) b ≡ b =
    ap (λ (x : List ℕ). x ++ drop (flags_begin b) b) (append_assoc H N (0 ∷ []) ∙ ap (λ (x : List ℕ). H ++ x) (sym (names_and_nul (names_section b) named)))
    ∙ further b H 12 (flags_begin b) (omega arith) h in
    let f = further b ((H ++ N) ++ 0 ∷ []) (flags_begin b) (flags_begin b + flag_count b) (omega arith) n in
    let g = further b (((H ++ N) ++ 0 ∷ []) ++ flags_section b) (flags_begin b + flag_count b) (numbers_begin b) (omega arith) f in
    let m = further b ((((H ++ N) ++ 0 ∷ []) ++ flags_section b) ++ gap) (numbers_begin b) (offsets_begin b) (omega arith) g in
    let o = further b (((((H ++ N) ++ 0 ∷ []) ++ flags_section b) ++ gap) ++ numbers_section b) (offsets_begin b) (strings_begin b) (omega arith) m in
    let whole = further b ((((((H ++ N) ++ 0 ∷ []) ++ flags_section b) ++ gap) ++ numbers_section b) ++ offsets_section b) (strings_begin b) (entry_end b)
    (omega arith) o in
    let numbers : number_section w (numbers_in w (numbers_section b)) ≡ numbers_section b =
    spelled-again w (numbers_section b) (number_count b) (bytes_of_part b (numbers_begin b) (offsets_begin b) fits) l.numbers in
    let offsets : number_section Legacy (numbers_in Legacy (offsets_section b)) ≡ offsets_section b =
    spelled-again Legacy (offsets_section b) (text_count b) (bytes_of_part b (offsets_begin b) (strings_begin b) fits) l.offsets in
    sym (ap (λ (x : List ℕ). (((((H ++ N) ++ 0 ∷ []) ++ flags_section b) ++ gap) ++ x) ++ number_section Legacy (numbers_in Legacy (offsets_section b))
    ++ strings_section b ++ drop (entry_end b) b) numbers
    ∙ ap (λ (x : List ℕ). ((((((H ++ N) ++ 0 ∷ []) ++ flags_section b) ++ gap) ++ numbers_section b) ++ x) ++ strings_section b ++ drop (entry_end b) b) offsets
    ∙ whole)

-- what reading found of the sections that the header cut
pub record IsRead (b : List ℕ) : Type 0 where
  pub fits : IsBytes b
  pub long : 12 ≤ length b
  pub known : word_at 0 b ≡ magic (format_in b)
  pub names_fit : names_size b < 32768
  pub flags_fit : flag_count b ≤ 44
  pub numbers_fit : number_count b ≤ 39
  pub texts_fit : text_count b ≤ 414
  pub strings_fit : strings_size b < 32768
  pub whole : entry_end b ≤ length b
  pub names : AreNames (names_section b)
  pub flags : AreFlags (flags_section b)
  pub numbers : AreStoredNumbers (format_in b) (numbers_section b)
  pub offsets : AreOffsets (offsets_section b) (strings_section b)

-- what holds of each number of a section
each_number : (w : Format) (section : List ℕ) (P : ℕ → Type 0) → EachNumber w section P → All P (numbers_in w section)
each_number w section P each k d lt =
    let f : ℕ → ℕ = λ i. number_at w (width w * i) section in
    let within : k < count_in w section = omega (arith, length-below f (count_in w section)) in
    subst P (sym (get_or-below f (count_in w section) k d within)) (each k within)

pub sections-sound : (b : List ℕ) → IsRead b → AreSound (format_in b) (sections_in b)
unfolding sections_in
sections-sound b r =
    let l = lengths b r.whole in
    let numbers = length-numbers_in (format_in b) (numbers_section b) (number_count b) l.numbers in
    let offsets = length-numbers_in Legacy (offsets_section b) (text_count b) l.offsets in
    let n : length (take (length (names_section b) - 1) (names_section b)) ≡ names_size b - 1 =
    omega (arith, length-take (length (names_section b) - 1) (names_section b), l.names) in
    record {
      some_names = omega (arith, n, l.names, r.names.some);
      names_size = omega (arith, n, l.names, r.names.some, r.names_fit);
      no_nul = λ k d lt e.
          let under : k < length (names_section b) - 1 = omega (arith, n, l.names) in
          r.names.no_nul k (omega (arith, under))
          (sym (get_or_default (take (length (names_section b) - 1) (names_section b)) k d 0 lt
          ∙ get_or-take (length (names_section b) - 1) (names_section b) k 0 under) ∙ e);
      flag_count = omega (arith, l.flags, r.flags_fit);
      number_count = omega (arith, numbers, r.numbers_fit);
      text_count = omega (arith, offsets, r.texts_fit);
      strings_size = omega (arith, l.strings, r.strings_fit);
      gap_size = l.gap ∙ ap (λ (x : ℕ). x % 2) (omega (arith, n, l.names, l.flags, r.names.some));
      flags = λ k d lt. rw (get_or_default (flags_section b) k d 0 lt) (r.flags k lt);
      numbers = each_number (format_in b) (numbers_section b) (IsStoredNumber (format_in b)) r.numbers;
      offsets = each_number Legacy (offsets_section b) (IsOffset (strings_section b)) r.offsets;
    }

pub is_read : (b : List ℕ) (w : Format) (names flags numbers offsets strings : List ℕ) → IsBytes b → 12 ≤ length b → word_at 0 b ≡ magic (format_in b)
    → names_size b < 32768 → flag_count b ≤ 44 → number_count b ≤ 39 → text_count b ≤ 414 → strings_size b < 32768 → entry_end b ≤ length b
    → w ≡ format_in b → names ≡ names_section b → flags ≡ flags_section b → numbers ≡ numbers_section b → offsets ≡ offsets_section b
    → strings ≡ strings_section b
    → AreNames names → AreFlags flags → AreStoredNumbers w numbers → AreOffsets offsets strings → IsRead b
is_read b w names flags numbers offsets strings fits long known a1 a2 a3 a4 a5 whole e n f m o s named flagged numbered placed =
    record {
      fits = fits;
      long = long;
      known = known;
      names_fit = a1;
      flags_fit = a2;
      numbers_fit = a3;
      texts_fit = a4;
      strings_fit = a5;
      whole = whole;
      names = subst AreNames n named;
      flags = subst AreFlags f flagged;
      numbers = subst (λ (x : Format). AreStoredNumbers x (numbers_section b)) e (subst (λ (x : List ℕ). AreStoredNumbers w x) m numbered);
      offsets = subst (λ (x : List ℕ). AreOffsets x (strings_section b)) o (subst (λ (x : List ℕ). AreOffsets offsets x) s placed);
    }

pub reads : (b : List ℕ) (w : Format) (names flags numbers offsets strings : List ℕ) → IsRead b
    → w ≡ format_in b → names ≡ names_section b → flags ≡ flags_section b → numbers ≡ numbers_section b → offsets ≡ offsets_section b
    → strings ≡ strings_section b
    → Reads b (take (length names - 1) names) (contents_of w flags (numbers_in w numbers) (numbers_in Legacy offsets) strings)
unfolding sections_in
reads b w names flags numbers offsets strings r e n f m o s =
    record {
      format = format_in b;
      sections = sections_in b;
      sound = sections-sound b r;
      whole = cut_whole b r.fits r.long r.known r.whole r.names;
      named = rw n refl;
      held = rw (f, m, o, s, e) refl;
    }

no_longer : (x n l place size : ℕ) → x ≡ min n l → n ≡ place + size - place → size < 32768 → x < 32768
no_longer x n l place size same cut fits = omega arith

-- the string table is no longer than the header says
pub few_strings : (b strings : List ℕ) → strings_size b < 32768 → strings ≡ strings_section b → length strings < 32768
few_strings b strings fits cut =
    let place = strings_begin b in
    let size = strings_size b in
    let n = entry_end b - place in
    let same : length strings ≡ min n (length (drop place b)) = ap (λ (x : List ℕ). length x) cut ∙ length-take n (drop place b) in
    no_longer (length strings) n (length (drop place b)) place size same refl fits

-- an offset that has its end in the string table begins in it
offset_ends : (strings : List ℕ) (n : ℕ) → IsOffset strings n → n < 32768 → n < length strings
offset_ends strings n (inl plain) low = let e = plain.1 in let from : n ≤ e.0 = e.1 in let within : e.0 < length strings = e.2 in omega arith
offset_ends strings n (inr void) low = let high : 65534 ≤ n = void.0 in omega arith

pub offsets_end : (offsets strings : List ℕ) → AreOffsets offsets strings → OffsetsEnd offsets strings
offsets_end offsets strings are k within low = offset_ends strings _ (are k within) low
