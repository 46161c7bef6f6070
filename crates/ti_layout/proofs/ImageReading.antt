-- What is written is read as what was written.
use Rattle.std.proofs.Common.{◌≡◌, ℕ, suc, ◌+◌, ◌-◌, ◌%◌, ◌<◌, ◌≤◌, Bool, true, false, cond, ltb, eqb, List, [], ◌∷◌, ◌++◌, length, take, drop, get_or}
use Rattle.std.proofs.Common.{Option, Some, None, refl, sym, ap, ◌∙◌, subst, arith, inl, inr, append-nil}
use Rattle.std.specs.List.{before_first, position_or_len}
use Rattle.std.specs.Option.{option_and_then}
use Rattle.std.proofs.lemmas.Bool.{cases_lt, lt-ltb, ne_eqb}
use Rattle.std.proofs.lemmas.List.{length-append, length-replicate, take_at, get_or_append_left, get_or-drop, length-drop, get_or_past}
use Rattle.std.proofs.lemmas.List.Sums.{position_or_len_is}
use Rattle.ti_caps.specs.Tables.{Capability, capability, IsCapability, count_of}
use Rattle.ti_caps.specs.declared.capability.Kind.{Kind}
use Rattle.ti_caps.specs.declared.capability.Kind.TheVariants.{Flag, Number, Text}
use Rattle.ti_layout.specs.declared.layout.Format.{Format}
use Rattle.ti_layout.specs.declared.layout.Format.TheVariants.{Legacy, Extended}
use Rattle.ti_layout.specs.Values.{Content, content_true, content_number, content_text, content_cancelled, Contents, AgreesIfSome, HasNoNul}
use Rattle.ti_layout.specs.Layout.{Sections, absent_mark, entry_bytes, first_negative}
use Rattle.ti_layout.specs.Reading.{Reads, AreSound, IsFlagByte, IsStoredNumber, IsOffset, HasEnd, stored_flag, stored_number, stored_text, text_from, says}
use Rattle.ti_layout.specs.Reading.{contents_of}
use Rattle.ti_layout.specs.Image.{image, image_in, is_there, is_wide, format_of, of_kind, written_count, flag_value, number_value, offset_value}
use Rattle.ti_layout.specs.Image.{texts_below, sections_of, some_below, below}
use Rattle.ti_layout.specs.Laws.{without_cancel, HoldsNumbers, ImagesAreRead, ImagesInFormatsAreRead}
use Rattle.ti_layout.proofs.Below.{length-below, get_or-below, slice_get-below, slice_get-past_below, last_passing-le, last_passing-past, some_below-true}
use Rattle.ti_layout.proofs.Sizes.{image-is, limit-le, strings_small_in}
use Rattle.ti_layout.proofs.Texts.{text_there}

-- ---- texts

nul_at : (t rest : List ℕ) → get_or (t ++ 0 ∷ rest) (length t) 0 ≡ 0
nul_at [] rest = refl
nul_at (x ∷ t) rest = nul_at t rest

get_or-seam : (t rest : List ℕ) → get_or (t ++ 0 ∷ rest) (length t) 1 ≡ 0
get_or-seam [] rest = refl
get_or-seam (x ∷ t) rest = get_or-seam t rest

-- the bytes before the first NUL
before_nul : (t rest : List ℕ) → HasNoNul t → before_first (λ b. eqb b 0) (t ++ 0 ∷ rest) ≡ t
before_nul t rest no_nul =
    let n = length-append t (0 ∷ rest) in
    let place : position_or_len (λ b. eqb b 0) (t ++ 0 ∷ rest) ≡ length t =
    position_or_len_is (λ b. eqb b 0) (t ++ 0 ∷ rest) (length t) 1 (omega (arith, n))
    (λ k lt. ne_eqb (get_or (t ++ 0 ∷ rest) k 1) 0 (λ e. no_nul k 1 lt (sym (get_or_append_left t (0 ∷ rest) 1 k lt) ∙ e)))
    (λ _. ap (λ (b : ℕ). eqb b 0) (get_or-seam t rest)) in
    ap (λ (k : ℕ). take k (t ++ 0 ∷ rest)) place ∙ take_at t (0 ∷ rest) (length t) refl

-- a text of the table, found from its offset
pub record IsIn (strings : List ℕ) (offset : ℕ) (t : List ℕ) : Type 0 where
  pub has_end : HasEnd strings offset
  pub within : offset < length strings
  pub found : text_from strings offset ≡ t

pub text-in : (strings : List ℕ) (offset : ℕ) (t rest : List ℕ) → HasNoNul t → drop offset strings ≡ t ++ 0 ∷ rest → IsIn strings offset t
text-in strings offset t rest no_nul e =
    let size : length strings - offset ≡ length t + suc (length rest) = sym (length-drop offset strings) ∙ ap length e ∙ length-append t (0 ∷ rest) in
    let at : get_or strings (offset + length t) 0 ≡ 0 =
    sym (get_or-drop offset strings (length t) 0) ∙ ap (λ (x : List ℕ). get_or x (length t) 0) e ∙ nul_at t rest in
    record {
      has_end = (offset + length t, omega arith, omega (arith, size), at);
      within = omega (arith, size);
      found = ap (λ (x : List ℕ). before_first (λ b. eqb b 0) x) e ∙ before_nul t rest no_nul;
    }

-- ---- the format holds each number

wide_or_not : (c : Contents) (k n : ℕ) → k < 39 → c (capability Number k) ≡ Some (content_number n) → n ≤ 2147483647 → (b : Bool)
    → some_below (λ i. is_wide (of_kind c Number i)) 39 ≡ b → n < first_negative (cond b Extended Legacy)
wide_or_not c k n lt e fits true format_is = omega arith
wide_or_not c k n lt e fits false format_is = elim (cases_lt 32767 n) [
  | inl wide ↦
      let passes : is_wide (of_kind c Number k) ≡ true = ap is_wide e ∙ lt-ltb 32767 n wide in
      let some = some_below-true (λ i. is_wide (of_kind c Number i)) 39 k lt passes in
      let never : true ≡ false = sym some ∙ format_is in
      absurd cc
  | inr narrow ↦ omega arith
]

-- a number is not negative in the format of its entry
pub number-plain : (c : Contents) (k n : ℕ) → k < 39 → c (capability Number k) ≡ Some (content_number n) → n ≤ 2147483647 → n < first_negative (format_of c)
number-plain c k n lt e fits = wide_or_not c k n lt e fits (some_below (λ i. is_wide (of_kind c Number i)) 39) refl

-- ---- the sections are sound

sound_flag : (o : Option Content) → IsFlagByte (flag_value o)
sound_flag None = inl (omega arith)
sound_flag (Some content_true) = inl (omega arith)
sound_flag (Some (content_number n)) = inl (omega arith)
sound_flag (Some (content_text t)) = inl (omega arith)
sound_flag (Some content_cancelled) = inl (omega arith)

absent_number : (w : Format) → IsStoredNumber w (absent_mark w)
absent_number Legacy = inr (omega arith, omega arith)
absent_number Extended = inr (omega arith, omega arith)

sound_number : (w : Format) (c : Contents) → HoldsNumbers w c → (k : ℕ) → k < 39 → (o : Option Content) → c (capability Number k) ≡ o
    → AgreesIfSome (capability Number k) o → IsStoredNumber w (number_value (absent_mark w) o)
sound_number w c holds k lt None e a = absent_number w
sound_number w c holds k lt (Some content_true) e a = absent_number w
sound_number w c holds k lt (Some (content_number n)) e a = inl (holds k n lt e)
sound_number w c holds k lt (Some (content_text t)) e a = absent_number w
sound_number w c holds k lt (Some content_cancelled) e a = absent_number w

absent_offset : (strings : List ℕ) → IsOffset strings 65535
absent_offset strings = inr (omega arith, omega arith)

sound_offset : (c : Contents) (n i : ℕ) → i < n → length (texts_below c n) < 32768 → (o : Option Content) → c (capability Text i) ≡ o
    → AgreesIfSome (capability Text i) o → IsOffset (texts_below c n) (offset_value (length (texts_below c i)) o)
sound_offset c n i lt small None e a = absent_offset _
sound_offset c n i lt small (Some content_true) e a = absent_offset _
sound_offset c n i lt small (Some (content_number m)) e a = absent_offset _
sound_offset c n i lt small (Some (content_text t)) e a =
    let d = text_there c n i t lt e in
    let there = text-in (texts_below c n) (length (texts_below c i)) t d.0 a.1 d.1 in
    inl (omega (arith, there.within, small), there.has_end)
sound_offset c n i lt small (Some content_cancelled) e a = absent_offset _

pub record Sound (names : List ℕ) (c : Contents) : Type 0 where
  pub some : 0 < length names
  pub short : length names ≤ 127
  pub no_nul : HasNoNul names
  pub agree : (k : Capability) → IsCapability k → AgreesIfSome k (c k)
  pub small : length (texts_below c (written_count c Text)) < 32768

pub record Counts (c : Contents) : Type 0 where
  pub flags : written_count c Flag ≤ 44
  pub numbers : written_count c Number ≤ 39
  pub texts : written_count c Text ≤ 414

pub counts : (c : Contents) → Counts c
counts c = record {
  flags = last_passing-le (λ i. is_there (of_kind c Flag i)) 44;
  numbers = last_passing-le (λ i. is_there (of_kind c Number i)) 39;
  texts = last_passing-le (λ i. is_there (of_kind c Text i)) 414;
}

-- what holds of the value of each place
all_below : (f : ℕ → ℕ) (n : ℕ) (P : ℕ → Type 0) → ((i : ℕ) → i < n → P (f i)) → (k d : ℕ) → k < length (below f n) → P (get_or (below f n) k d)
all_below f n P each k d lt =
    let within : k < n = omega (arith, length-below f n) in
    subst P (sym (get_or-below f n k d within)) (each k within)

pub sections-sound_in : (w : Format) (names rest : List ℕ) (c : Contents) → HoldsNumbers w c → Sound names c
    → AreSound w (record (sections_of w names c) { rest = rest })
sections-sound_in w names rest c holds h =
    let n = counts c in
    let F = written_count c Flag in
    let N = written_count c Number in
    let T = written_count c Text in
    let f = length-below (λ i. flag_value (of_kind c Flag i)) F in
    let m = length-below (λ i. number_value (absent_mark w) (of_kind c Number i)) N in
    let o = length-below (λ i. offset_value (length (texts_below c i)) (of_kind c Text i)) T in
    record {
      some_names = h.some;
      names_size = omega (arith, h.short);
      no_nul = h.no_nul;
      flag_count = omega (arith, f, n.flags);
      number_count = omega (arith, m, n.numbers);
      text_count = omega (arith, o, n.texts);
      strings_size = h.small;
      gap_size = length-replicate ((suc (length names) + F) % 2) 0 ∙ ap (λ (k : ℕ). (suc (length names) + k) % 2) (sym f);
      flags = all_below (λ i. flag_value (of_kind c Flag i)) F IsFlagByte (λ i lt. sound_flag (of_kind c Flag i));
      numbers = all_below (λ i. number_value (absent_mark w) (of_kind c Number i)) N (IsStoredNumber w) (λ i lt.
          let within : i < 39 = omega (arith, n.numbers) in
          sound_number w c holds i within (of_kind c Number i) refl (h.agree (capability Number i) within));
      offsets = all_below (λ i. offset_value (length (texts_below c i)) (of_kind c Text i)) T (IsOffset (texts_below c T)) (λ i lt.
          let within : i < 414 = omega (arith, n.texts) in
          sound_offset c T i lt h.small (of_kind c Text i) refl (h.agree (capability Text i) within));
    }

-- a number may be no greater than the format of its entry holds
holds_agreed : (c : Contents) → ((k : Capability) → IsCapability k → AgreesIfSome k (c k)) → HoldsNumbers (format_of c) c
holds_agreed c agree k n lt e = number-plain c k n lt e (subst (AgreesIfSome (capability Number k)) e (agree (capability Number k) lt)).1

pub sections-sound : (names : List ℕ) (c : Contents) → Sound names c → AreSound (format_of c) (sections_of (format_of c) names c)
sections-sound names c h = sections-sound_in (format_of c) names [] c (holds_agreed c h.agree) h

-- ---- what the sections say is what the contents are

pub not_there : (o : Option Content) → is_there o ≡ false → without_cancel o ≡ None
not_there None e = refl
not_there (Some content_true) e = absurd cc
not_there (Some (content_number n)) e = absurd cc
not_there (Some (content_text t)) e = absurd cc
not_there (Some content_cancelled) e = refl

-- a place that is not written holds nothing
pub past-written : (c : Contents) (kind : Kind) (i : ℕ) → written_count c kind ≤ i → i < count_of kind → without_cancel (c (capability kind i)) ≡ None
past-written c kind i le lt = not_there (c (capability kind i)) (last_passing-past (λ k. is_there (of_kind c kind k)) (count_of kind) i le lt)

flag-again : (i : ℕ) (o : Option Content) → AgreesIfSome (capability Flag i) o → stored_flag (flag_value o) ≡ without_cancel o
flag-again i None a = refl
flag-again i (Some content_true) a = refl
flag-again i (Some (content_number n)) a = absurd (let e = a.0 in cc)
flag-again i (Some (content_text t)) a = absurd (let e = a.0 in cc)
flag-again i (Some content_cancelled) a = refl

absent-says : (w : Format) → stored_number w (absent_mark w) ≡ None
absent-says Legacy = refl
absent-says Extended = refl

number-again : (w : Format) (c : Contents) → HoldsNumbers w c → (k : ℕ) → k < 39 → (o : Option Content) → c (capability Number k) ≡ o
    → AgreesIfSome (capability Number k) o → stored_number w (number_value (absent_mark w) o) ≡ without_cancel o
number-again w c holds k lt None e a = absent-says w
number-again w c holds k lt (Some content_true) e a = absurd (let p : Number ≡ Flag = a in cc)
number-again w c holds k lt (Some (content_number n)) e a =
    let small : ltb n (first_negative w) ≡ true = lt-ltb _ _ (holds k n lt e) in
    ap (λ b. cond b (Some (content_number n)) None) small
number-again w c holds k lt (Some (content_text t)) e a = absurd (let p = a.0 in cc)
number-again w c holds k lt (Some content_cancelled) e a = absent-says w

text-again : (c : Contents) (n i : ℕ) → i < n → length (texts_below c n) < 32768 → (o : Option Content) → c (capability Text i) ≡ o
    → AgreesIfSome (capability Text i) o → stored_text (texts_below c n) (offset_value (length (texts_below c i)) o) ≡ without_cancel o
text-again c n i lt small None e a = refl
text-again c n i lt small (Some content_true) e a = absurd (let p : Text ≡ Flag = a in cc)
text-again c n i lt small (Some (content_number m)) e a = absurd (let p = a.0 in cc)
text-again c n i lt small (Some (content_text t)) e a =
    let d = text_there c n i t lt e in
    let there = text-in (texts_below c n) (length (texts_below c i)) t d.0 a.1 d.1 in
    let plain : ltb (length (texts_below c i)) 32768 ≡ true = lt-ltb _ _ (omega (arith, there.within, small)) in
    let found = there.found in
    rw (plain, found) refl
text-again c n i lt small (Some content_cancelled) e a = refl

section_says : (w : Format) (names : List ℕ) (c : Contents) → HoldsNumbers w c → Sound names c → (kind : Kind) (i : ℕ) → i < count_of kind → let s =
    sections_of w names c in
    says w s.flags s.numbers s.offsets s.strings kind i ≡ without_cancel (c (capability kind i))
section_says w names c holds h Flag i lt =
    let f : ℕ → ℕ = λ k. flag_value (of_kind c Flag k) in
    let n = written_count c Flag in
    elim (cases_lt i n) [
      | inl under ↦ ap stored_flag (get_or-below f n i 0 under) ∙ flag-again i (c (capability Flag i)) (h.agree (capability Flag i) lt)
      | inr le ↦ ap stored_flag (get_or_past (below f n) i 0 (omega (arith, length-below f n, le))) ∙ sym (past-written c Flag i le lt)
    ]
section_says w names c holds h Number i lt =
    let f : ℕ → ℕ = λ k. number_value (absent_mark w) (of_kind c Number k) in
    let n = written_count c Number in
    elim (cases_lt i n) [
      | inl under ↦ ap (option_and_then (stored_number w)) (slice_get-below f n i under)
          ∙ number-again w c holds i lt (c (capability Number i)) refl (h.agree (capability Number i) lt)
      | inr le ↦ ap (option_and_then (stored_number w)) (slice_get-past_below f n i le) ∙ sym (past-written c Number i le lt)
    ]
section_says w names c holds h Text i lt =
    let n = written_count c Text in
    let f : ℕ → ℕ = λ k. offset_value (length (texts_below c k)) (of_kind c Text k) in
    elim (cases_lt i n) [
      | inl under ↦ ap (option_and_then (stored_text (texts_below c n))) (slice_get-below f n i under)
          ∙ text-again c n i under h.small (c (capability Text i)) refl (h.agree (capability Text i) lt)
      | inr le ↦ ap (option_and_then (stored_text (texts_below c n))) (slice_get-past_below f n i le) ∙ sym (past-written c Text i le lt)
    ]

with_rest : (x rest : List ℕ) → (x ++ []) ++ rest ≡ x ++ rest
with_rest x rest = ap (λ y. y ++ rest) (append-nil x)

pub image_in-with : (w : Format) (names rest : List ℕ) (c : Contents) → image_in w names c ++ rest
    ≡ entry_bytes w (record (sections_of w names c) { rest = rest })
unfolding image_in
image_in-with w names rest c = with_rest _ rest

pub images_in_formats_are_read : ImagesInFormatsAreRead
images_in_formats_are_read w names rest c some short no_nul agree holds limit =
    let h : Sound names c = record { some = some; short = short; no_nul = no_nul; agree = agree; small = strings_small_in w names c limit } in
    let s : Sections = record (sections_of w names c) { rest = rest } in (
      contents_of w s.flags s.numbers s.offsets s.strings,
      record { format = w; sections = s; sound = sections-sound_in w names rest c holds h; whole = image_in-with w names rest c; named = refl; held = refl },
      λ k valid. section_says w names c holds h k.kind k.index valid,
    )

pub images_are_read : ImagesAreRead
images_are_read names c some short no_nul agree limit =
    let w = format_of c in
    let most = limit-le w in
    let same : image names c ≡ image_in w names c = image-is names c in
    let long = ap length same in
    let read = images_in_formats_are_read w names [] c some short no_nul agree (holds_agreed c agree) (omega arith) in (
      read.0,
      subst (λ b. Reads b names read.0) (append-nil (image_in w names c) ∙ sym same) read.1,
      read.2,
    )
