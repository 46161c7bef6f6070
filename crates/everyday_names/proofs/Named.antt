-- An entry with another names field.
use Rattle.std.proofs.Common.{◌≡◌, ◌≢◌, ℕ, suc, ◌+◌, ◌*◌, ◌%◌, ◌<◌, ◌≤◌, cond, nat_lt, List, [], ◌∷◌, ◌++◌, length, drop, replicate}
use Rattle.std.proofs.Common.{refl, sym, ap, ◌∙◌, subst, arith, append_assoc, length-append}
use Rattle.std.proofs.lemmas.Bool.{le-ltb}
use Rattle.std.proofs.lemmas.List.{drop-drop, drop_at, length-replicate}
use Rattle.ti_text.specs.Texts.{HasNoNul}
use Rattle.ti_layout.specs.declared.layout.Format.{Format}
use Rattle.ti_layout.specs.declared.layout.Format.TheVariants.{Legacy}
use Rattle.ti_layout.specs.Image.{even_gap}
use Rattle.ti_layout.specs.Layout.{Sections, entry_bytes, entry_size, header, number_section, width}
use Rattle.ti_layout.specs.Reading.{AreSound, Reads, entry_end, flag_count, flags_section, format_in, names_size, number_count, numbers_begin}
use Rattle.ti_layout.specs.Reading.{strings_size, text_count}
use Rattle.ti_layout.specs.Values.{Contents}
use Rattle.ti_layout.proofs.Parts.{found, length-header}
use Rattle.ti_layout.proofs.Spelled.{length-spelled}
use Rattle.user_extension.specs.Reading.{EndsWell, IsExtension, after_entry, parts_in, rows_after, rows_in}
use Rattle.everyday_names.specs.Entries.{rebuilt, with_names}
use Rattle.everyday_names.specs.Laws.{NamedEntriesRead, NamedReads}

-- ---- the sections with another names field

abbrev built : Format → ℕ → ℕ → ℕ → ℕ → List ℕ → List ℕ → List ℕ → List ℕ
built w flags numbers texts strings section rest field =
    header w (suc (length field)) flags numbers texts strings ++ field ++ 0 ∷ [] ++ section ++ even_gap field flags ++ rest

built-same : (field : List ℕ) (w w' : Format) (f f' m m' t t' s s' : ℕ) (x x' r r' : List ℕ) → w ≡ w' → f ≡ f' → m ≡ m' → t ≡ t' → s ≡ s' → x ≡ x' → r ≡ r'
    → built w f m t s x r field ≡ built w' f' m' t' s' x' r' field
built-same field w w' f f' m m' t t' s s' x x' r r' a b c d e g h =
    ap (λ (y : Format). built y f m t s x r field) a ∙ ap (λ (y : ℕ). built w' y m t s x r field) b ∙ ap (λ (y : ℕ). built w' f' y t s x r field) c
    ∙ ap (λ (y : ℕ). built w' f' m' y s x r field) d ∙ ap (λ (y : ℕ). built w' f' m' t' y x r field) e
    ∙ ap (λ (y : List ℕ). built w' f' m' t' s' y r field) g ∙ ap (λ (y : List ℕ). built w' f' m' t' s' x' y field) h

named-is : (field bytes : List ℕ) → rebuilt field bytes
    ≡ built (format_in bytes) (flag_count bytes) (number_count bytes) (text_count bytes) (strings_size bytes) (flags_section bytes)
    (drop (numbers_begin bytes) bytes) field
unfolding rebuilt
named-is field bytes = refl

-- if the bytes have a header
with-header : (field bytes : List ℕ) → 12 ≤ length bytes → with_names field bytes ≡ rebuilt field bytes
with-header field bytes long = rw (le-ltb (length bytes) 12 long) refl

-- what is put together is the entry with another names field
pub named-from : (bytes field h x g r : List ℕ) (w : Format) (names f m t s : ℕ) → h ≡ header w names f m t s → names ≡ length field + 1 → w ≡ format_in bytes
    → f ≡ flag_count bytes → m ≡ number_count bytes → t ≡ text_count bytes → s ≡ strings_size bytes → x ≡ flags_section bytes
    → g ≡ replicate ((names + f) % 2) 0 → r ≡ drop (numbers_begin bytes) bytes → h ++ field ++ 0 ∷ [] ++ x ++ g ++ r ≡ rebuilt field bytes
named-from bytes field h x g r w names f m t s eh en ew ef em et es ex eg er =
    let size : names ≡ suc (length field) = omega (arith, en) in
    let front : h ≡ header w (suc (length field)) f m t s = eh ∙ ap (λ (n : ℕ). header w n f m t s) size in
    let gap : g ≡ even_gap field f = eg ∙ ap (λ (n : ℕ). replicate ((n + f) % 2) 0) size in
    ap (λ (k : List ℕ). k ++ field ++ 0 ∷ [] ++ x ++ g ++ r) front
    ∙ ap (λ (k : List ℕ). header w (suc (length field)) f m t s ++ field ++ 0 ∷ [] ++ x ++ k ++ r) gap
    ∙ built-same field w (format_in bytes) f (flag_count bytes) m (number_count bytes) t (text_count bytes) s (strings_size bytes) x (flags_section bytes)
    r (drop (numbers_begin bytes) bytes) ew ef em et es ex er
    ∙ sym (named-is field bytes)

pub chained : (v0 v1 v2 v3 v4 v5 v6 h f z x g r : List ℕ) → v0 ≡ [] → v1 ≡ v0 ++ h → v2 ≡ v1 ++ f → v3 ≡ v2 ++ z → v4 ≡ v3 ++ x → v5 ≡ v4 ++ g → v6 ≡ v5 ++ r
    → v6 ≡ h ++ f ++ z ++ x ++ g ++ r
chained v0 v1 v2 v3 v4 v5 v6 h f z x g r e0 e1 e2 e3 e4 e5 e6 =
    e6 ∙ ap (λ (v : List ℕ). v ++ r) (e5 ∙ ap (λ (v : List ℕ). v ++ g) (e4 ∙ ap (λ (v : List ℕ). v ++ x) (e3
    ∙ ap (λ (v : List ℕ). v ++ z) (e2 ∙ ap (λ (v : List ℕ). v ++ f) (e1 ∙ ap (λ (v : List ℕ). v ++ h) e0)))))

-- six lists and what follows
regrouped : (h n z f g m o s r : List ℕ) → (h ++ n ++ z ++ f ++ g) ++ (m ++ o ++ s ++ r) ≡ h ++ n ++ z ++ f ++ g ++ m ++ o ++ s ++ r
regrouped h n z f g m o s r = simp append_assoc

front-and_rest : (h n z f g m o s r : List ℕ) → (h ++ n ++ z ++ f ++ g ++ m ++ o ++ s) ++ r ≡ h ++ n ++ z ++ f ++ g ++ m ++ o ++ s ++ r
front-and_rest h n z f g m o s r = refl

-- the sections with another names field
abbrev with_field : List ℕ → Sections → Sections
with_field field s = record s { names = field; gap = even_gap field (length s.flags) }

sections-sound : (field : List ℕ) (w : Format) (s : Sections) → AreSound w s → 0 < length field → length field ≤ 512 → HasNoNul field
    → AreSound w (with_field field s)
sections-sound field w s sound some short no_nul = record {
  some_names = some;
  names_size = omega (arith, short);
  no_nul = no_nul;
  flag_count = sound.flag_count;
  number_count = sound.number_count;
  text_count = sound.text_count;
  strings_size = sound.strings_size;
  gap_size = length-replicate ((suc (length field) + length s.flags) % 2) 0;
  flags = sound.flags;
  numbers = sound.numbers;
  offsets = sound.offsets;
}

abbrev heading : Format → Sections → List ℕ
heading w s = header w (suc (length s.names)) (length s.flags) (length s.numbers) (length s.offsets) (length s.strings)

-- the numbers and all that follows
behind-gap : (w : Format) (s : Sections) → AreSound w s
    → drop (numbers_begin (entry_bytes w s)) (entry_bytes w s) ≡ number_section w s.numbers ++ number_section Legacy s.offsets ++ s.strings ++ s.rest
behind-gap w s sound =
    let h = heading w s in
    let m = number_section w s.numbers in
    let o = number_section Legacy s.offsets in
    let f = found w s sound in
    at (entry_bytes w s) (h ++ s.names ++ 0 ∷ [] ++ s.flags ++ s.gap) (m ++ o ++ s.strings ++ s.rest)
    (sym (regrouped h s.names (0 ∷ []) s.flags s.gap m o s.strings s.rest)) f.names_size f.flag_count
    (length-append (h ++ s.names ++ 0 ∷ [] ++ s.flags) s.gap ∙ ap (λ (n : ℕ). n + length s.gap) (length-append (h ++ s.names ++ 0 ∷ []) s.flags
    ∙ ap (λ (n : ℕ). n + length s.flags) (length-append (h ++ s.names) (0 ∷ [])
    ∙ ap (λ (n : ℕ). n + 1) (length-append h s.names ∙ ap (λ (n : ℕ). n + length s.names) (length-header w _ _ _ _ _)))))
  where
    at : (b front rest : List ℕ) → b ≡ front ++ rest → names_size b ≡ suc (length s.names) → flag_count b ≡ length s.flags
        → length front ≡ 12 + length s.names + 1 + length s.flags + length s.gap → drop (numbers_begin b) b ≡ rest
    at b front rest whole names flags size =
        let gap = sound.gap_size in
        let same : (suc (length s.names) + length s.flags) % 2 ≡ (names_size b + flag_count b) % 2 = rw (names, flags) refl in
        let end : length front ≡ numbers_begin b = omega (arith, size, gap, same, names, flags) in
        ap (λ (t : List ℕ). drop (numbers_begin b) t) whole ∙ drop_at front rest (numbers_begin b) end

pub named-sections : (field : List ℕ) (w : Format) (s : Sections) → AreSound w s → with_names field (entry_bytes w s) ≡ entry_bytes w (with_field field s)
named-sections field w s sound =
    let b = entry_bytes w s in
    let f = found w s sound in
    let m = number_section w s.numbers in
    let o = number_section Legacy s.offsets in
    with-header field b f.long
    ∙ named-is field b
    ∙ built-same field (format_in b) w (flag_count b) (length s.flags) (number_count b) (length s.numbers) (text_count b) (length s.offsets) (strings_size b)
    (length s.strings) (flags_section b) s.flags (drop (numbers_begin b) b) (m ++ o ++ s.strings ++ s.rest) f.format_is f.flag_count f.number_count
    f.text_count f.strings_size f.flags (behind-gap w s sound)
    ∙ regrouped (heading w (with_field field s)) field (0 ∷ []) s.flags (even_gap field (length s.flags)) m o s.strings s.rest

-- ---- what follows the entry

sized : (w w' : Format) (n n' f f' m m' t t' s s' : ℕ) → w ≡ w' → n ≡ n' → f ≡ f' → m ≡ m' → t ≡ t' → s ≡ s'
    → entry_size w n f m t s ≡ entry_size w' n' f' m' t' s'
sized w w' n n' f f' m m' t t' s s' a b c d e g = rw (a, b, c, d, e, g) refl

-- the parity of an entry is that of what follows the names, the booleans and the gap
even : (n f k : ℕ) → (12 + n + f + (n + f) % 2 + k) % 2 ≡ k % 2
even n f k = omega arith

abbrev sizes : Format → Sections → ℕ
sizes w s = width w * length s.numbers + 2 * length s.offsets + length s.strings

after-sections : (w : Format) (s : Sections) → AreSound w s → after_entry (entry_bytes w s) ≡ drop (sizes w s % 2) s.rest
after-sections w s sound =
    let b = entry_bytes w s in
    let f = found w s sound in
    let h = heading w s in
    let m = number_section w s.numbers in
    let o = number_section Legacy s.offsets in
    let front : List ℕ = h ++ s.names ++ 0 ∷ [] ++ s.flags ++ s.gap ++ m ++ o ++ s.strings in
    let size : entry_end b ≡ entry_size w (suc (length s.names)) (length s.flags) (length s.numbers) (length s.offsets) (length s.strings) =
    sized (format_in b) w _ _ _ _ _ _ _ _ _ _ f.format_is f.names_size f.flag_count f.number_count f.text_count f.strings_size in
    let long : length front ≡ 12 + length s.names + 1 + length s.flags + length s.gap + width w * length s.numbers + 2 * length s.offsets + length s.strings =
    (let e1 = length-append h s.names in
    let e2 = length-append (h ++ s.names) (0 ∷ []) in
    let e3 = length-append (h ++ s.names ++ 0 ∷ []) s.flags in
    let e4 = length-append (h ++ s.names ++ 0 ∷ [] ++ s.flags) s.gap in
    let e5 = length-append (h ++ s.names ++ 0 ∷ [] ++ s.flags ++ s.gap) m in
    let e6 = length-append (h ++ s.names ++ 0 ∷ [] ++ s.flags ++ s.gap ++ m) o in
    let e7 = length-append (h ++ s.names ++ 0 ∷ [] ++ s.flags ++ s.gap ++ m ++ o) s.strings in
    let l0 : length h ≡ 12 = length-header w _ _ _ _ _ in
    let l1 = length-spelled w s.numbers in
    let l2 : length o ≡ 2 * length s.offsets = length-spelled Legacy s.offsets in
    omega (arith, e1, e2, e3, e4, e5, e6, e7, l0, l1, l2)) in
    at b (entry_end b) front size long refl
  where
    at : (b : List ℕ) (end : ℕ) (front : List ℕ)
        → end ≡ entry_size w (suc (length s.names)) (length s.flags) (length s.numbers) (length s.offsets) (length s.strings)
        → length front ≡ 12 + length s.names + 1 + length s.flags + length s.gap + width w * length s.numbers + 2 * length s.offsets + length s.strings
        → b ≡ front ++ s.rest → drop (end + end % 2) b ≡ drop (sizes w s % 2) s.rest
    at b end front size long whole =
        let gap = sound.gap_size in
        let n = length s.names in
        let grouped : end ≡ 12 + suc n + length s.flags + (suc n + length s.flags) % 2 + sizes w s = size ∙ omega arith in
        let parity : end % 2 ≡ sizes w s % 2 = ap (λ (k : ℕ). k % 2) grouped ∙ even (suc n) (length s.flags) (sizes w s) in
        let same : length front ≡ end = omega (arith, long, gap, grouped) in
        ap (λ (t : List ℕ). drop (end + end % 2) t) whole
        ∙ ap (λ (k : ℕ). drop k (front ++ s.rest)) (omega (arith, parity))
        ∙ sym (drop-drop (sizes w s % 2) end (front ++ s.rest))
        ∙ ap (drop (sizes w s % 2)) (drop_at front s.rest end same)

-- ---- the law

rows-alike : (b c : List ℕ) → after_entry b ≡ after_entry c → format_in b ≡ format_in c → rows_after b ≡ rows_after c
rows-alike b c after format =
    ap (λ (a : List ℕ). cond (nat_lt (length a) 10) [] (rows_in (format_in b) (parts_in (format_in b) a))) after
    ∙ ap (λ (f : Format). cond (nat_lt (length (after_entry c)) 10) [] (rows_in f (parts_in f (after_entry c)))) format

ends-alike : (b c : List ℕ) → after_entry b ≡ after_entry c → format_in b ≡ format_in c → EndsWell c → EndsWell b
ends-alike b c after format well long =
    let there = well (subst (λ (a : List ℕ). 10 ≤ length a) after long) in
    subst (λ (f : Format). IsExtension f (after_entry b)) (sym format)
    (subst (λ (a : List ℕ). IsExtension (format_in c) a) (sym after) there)

module _ (field : List ℕ) (w : Format) (s : Sections) (sound : AreSound w s) (some : 0 < length field) (short : length field ≤ 512) (no_nul : HasNoNul field)
  where
    there : AreSound w (with_field field s)
    there = sections-sound field w s sound some short no_nul

    after : after_entry (with_names field (entry_bytes w s)) ≡ after_entry (entry_bytes w s)
    after =
        ap after_entry (named-sections field w s sound) ∙ after-sections w (with_field field s) there ∙ sym (after-sections w s sound)

    format : format_in (with_names field (entry_bytes w s)) ≡ format_in (entry_bytes w s)
    format =
        ap format_in (named-sections field w s sound) ∙ (found w (with_field field s) there).format_is ∙ sym (found w s sound).format_is

    pub named-reads : (contents : Contents) → (reads : Reads (entry_bytes w s) s.names contents) → reads.format ≡ w → reads.sections ≡ s
        → NamedReads field (entry_bytes w s) contents
    named-reads contents reads a b = record {
      reads = record {
        format = w;
        sections = with_field field s;
        sound = there;
        whole = named-sections field w s sound;
        named = refl;
        held = reads.held ∙ (rw (a, b) refl);
      };
      rows = rows-alike (with_names field (entry_bytes w s)) (entry_bytes w s) after format;
      ends_well = ends-alike (with_names field (entry_bytes w s)) (entry_bytes w s) after format;
    }

some-field : (field : List ℕ) → field ≢ [] → 0 < length field
some-field [] n = absurd (n refl)
some-field (x ∷ xs) n = omega arith

pub named_entries_read : NamedEntriesRead
named_entries_read field bytes names contents some short no_nul r =
    let w = r.format in
    let s = r.sections in
    let here : Reads (entry_bytes w s) s.names contents = record {
      format = w;
      sections = s;
      sound = r.sound;
      whole = refl;
      named = refl;
      held = r.held;
    } in
    subst (λ (b : List ℕ). NamedReads field b contents) (sym r.whole)
    (named-reads field w s r.sound (some-field field some) short no_nul contents here refl refl)
