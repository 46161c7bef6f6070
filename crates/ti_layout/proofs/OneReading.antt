-- Bytes are an entry in at most one way, are refused in at most one way, and never both.
use Rattle.std.proofs.Common.{◌≡◌, ℕ, ◌+◌, ◌-◌, ◌*◌, ◌/◌, ◌<◌, ◌≤◌, All, List, [], ◌∷◌, ◌++◌, length, take, get_or, cond, eqb, refl, sym, ap, ◌∙◌, subst}
use Rattle.std.proofs.Common.{arith, inl, inr}
use Rattle.std.proofs.lemmas.List.{take_at, length-append, get_or_append_left}
use Rattle.std.proofs.lemmas.Bool.{cases_lt}
use Rattle.ti_layout.specs.declared.fault.ReadError.{ReadError}
use Rattle.ti_layout.specs.declared.fault.ReadError.TheVariants.{Short, Magic, Counts, Truncated, BadNames, BadFlag, BadNumber, BadOffset}
use Rattle.ti_layout.specs.Values.{Contents, HasNoNul}
use Rattle.ti_layout.specs.declared.layout.Format.{Format}
use Rattle.ti_layout.specs.declared.layout.Format.TheVariants.{Legacy, Extended}
use Rattle.ti_layout.specs.Layout.{Sections, absent_mark, cancelled_mark, first_negative, number_section, width}
use Rattle.ti_layout.specs.Reading.{AreSound, IsStoredNumber, IsOffset, Reads, contents_of, number_at, numbers_in, count_in, format_in, FailsToRead}
use Rattle.ti_layout.specs.Reading.{HasReadFault}
use Rattle.ti_layout.specs.Reading.{HasBadCount, HasBadNames, HasBadFlag, HasBadNumber, HasBadOffset, HasEnd, rank, names_section, flags_section}
use Rattle.ti_layout.specs.Reading.{numbers_section}
use Rattle.ti_layout.specs.Reading.{offsets_section, strings_section}
use Rattle.ti_layout.proofs.Spelled.{numbers-again, number_read, length-spelled, counted}
use Rattle.ti_layout.proofs.Parts.{Found, found}

-- what is left of names without their last byte
names_before : (b names : List ℕ) (s : Sections) → b ≡ names ++ 0 ∷ [] → take (length b - 1) b ≡ names
names_before b names s e =
    let n : length names ≡ length b - 1 = omega (arith, ap length e, length-append names (0 ∷ [])) in
    rw (← n) (rw e (take_at names (0 ∷ []) (length names) refl))

found_of : (b m : List ℕ) (c : Contents) (r : Reads b m c) → Found b r.format r.sections
found_of b m c r = subst (λ (x : List ℕ). Found x r.format r.sections) (sym r.whole) (found r.format r.sections r.sound)

contents_same : (v w : Format) (f f' n n' o o' s s' : List ℕ) → v ≡ w → f ≡ f' → numbers_in w n ≡ n' → o ≡ o' → s ≡ s'
    → contents_of v f (numbers_in v n) o s ≡ contents_of w f' n' o' s'
contents_same v w f f' n n' o o' s s' a b c d e = rw (a, b, c, d, e) refl

plain_fits : (w : Format) (n : ℕ) → n < first_negative w → n ≤ absent_mark w
plain_fits Legacy n lt = omega arith
plain_fits Extended n lt = omega arith

-- what may be in a section fits its bytes
number_fits : (w : Format) (n : ℕ) → IsStoredNumber w n → n ≤ absent_mark w
number_fits w n (inl plain) = plain_fits w n plain
number_fits w n (inr void) = void.1

offset_fits : (strings : List ℕ) (n : ℕ) → IsOffset strings n → n ≤ absent_mark Legacy
offset_fits strings n (inl plain) = omega (arith, plain.0)
offset_fits strings n (inr void) = void.1

-- names and contents are those of the sections that the header cuts
pub read_names : (b m : List ℕ) (c : Contents) → Reads b m c → m ≡ take (length (names_section b) - 1) (names_section b)
read_names b m c r = r.named ∙ sym (names_before (names_section b) r.sections.names r.sections (found_of b m c r).names)

pub read_contents : (b m : List ℕ) (c : Contents) → Reads b m c
    → c ≡ contents_of (format_in b) (flags_section b) (numbers_in (format_in b) (numbers_section b)) (numbers_in Legacy (offsets_section b)) (strings_section b)
read_contents b m c r =
    let f = found_of b m c r in
    let s = r.sections in
    let e0 = f.format_is in
    let e1 = f.flags in
    let e2 : numbers_in r.format (numbers_section b) ≡ s.numbers =
    ap (numbers_in r.format) f.numbers ∙ numbers-again r.format s.numbers (λ k d lt. number_fits r.format _ (r.sound.numbers k d lt)) in
    let e3 : numbers_in Legacy (offsets_section b) ≡ s.offsets =
    ap (numbers_in Legacy) f.offsets ∙ numbers-again Legacy s.offsets (λ k d lt. offset_fits s.strings _ (r.sound.offsets k d lt)) in
    let e4 = f.strings in
    r.held ∙ sym (contents_same (format_in b) r.format (flags_section b) s.flags (numbers_section b) s.numbers
    (numbers_in Legacy (offsets_section b)) s.offsets (strings_section b) s.strings e0 e1 e2 e3 e4)

pub one_entry : (b m n : List ℕ) (c d : Contents) → Reads b m c → Reads b n d → (m ≡ n) × (c ≡ d)
one_entry b m n c d r s = (read_names b m c r ∙ sym (read_names b n d s), read_contents b m c r ∙ sym (read_contents b n d s))

-- the refusal at a place in the order
unrank : ℕ → ReadError
unrank n =
    cond (eqb n 1) Short (cond (eqb n 2) Magic
    (cond (eqb n 3) Counts (cond (eqb n 4) Truncated (cond (eqb n 5) BadNames (cond (eqb n 6) BadFlag (cond (eqb n 7) BadNumber BadOffset))))))

unrank-rank : (e : ReadError) → unrank (rank e) ≡ e
unfolding unrank
unrank-rank Short = refl
unrank-rank Magic = refl
unrank-rank Counts = refl
unrank-rank Truncated = refl
unrank-rank BadNames = refl
unrank-rank BadFlag = refl
unrank-rank BadNumber = refl
unrank-rank BadOffset = refl

-- two refusals at the same place in the order are equal
same_rank : (e f : ReadError) → rank e ≡ rank f → e ≡ f
same_rank e f h = sym (unrank-rank e) ∙ ap unrank h ∙ unrank-rank f

pub one_refusal : (b : List ℕ) (e f : ReadError) → FailsToRead b e → FailsToRead b f → e ≡ f
one_refusal b e f r s =
    elim (cases_lt (rank e) (rank f)) [
      | inl lt ↦ absurd (s.first e lt r.holds)
      | inr le ↦ elim (cases_lt (rank f) (rank e)) [
        | inl lt ↦ absurd (r.first f lt s.holds)
        | inr other ↦ same_rank e f (omega (arith, le, other))
      ]
    ]

-- an entry meets no refusal
good_counts : (b : List ℕ) (w : Format) (s : Sections) → AreSound w s → Found b w s → ¬ HasBadCount b
good_counts b w s sound f h =
    elim h [
      | inl n ↦ omega (arith, n, f.names_size, sound.names_size)
      | inr t ↦ elim t [
        | inl n ↦ omega (arith, n, f.flag_count, sound.flag_count)
        | inr t ↦ elim t [
          | inl n ↦ omega (arith, n, f.number_count, sound.number_count)
          | inr t ↦ elim t [
            | inl n ↦ omega (arith, n, f.text_count, sound.text_count)
            | inr n ↦ omega (arith, n, f.strings_size, sound.strings_size)
          ]
        ]
      ]
    ]

last_byte : (names : List ℕ) → get_or (names ++ 0 ∷ []) (length names) 0 ≡ 0
last_byte [] = refl
last_byte (x ∷ names) = last_byte names

good_names : (names : List ℕ) → 0 < length names → HasNoNul names → ¬ HasBadNames (names ++ 0 ∷ [])
good_names names some no_nul h =
    let n : length (names ++ 0 ∷ []) ≡ length names + 1 = length-append names (0 ∷ []) in
    elim h [
      | inl short ↦ omega (arith, short, n)
      | inr t ↦ elim t [
        | inl w ↦
            let below : w.0 < length names = omega (arith, w.1, n) in
            no_nul w.0 0 below (sym (get_or_append_left names (0 ∷ []) 0 w.0 below) ∙ w.2)
        | inr other ↦
            let place : length (names ++ 0 ∷ []) - 1 ≡ length names = omega (arith, n) in
            other (ap (λ (k : ℕ). get_or (names ++ 0 ∷ []) k 0) place ∙ last_byte names)
      ]
    ]

-- a number of a section is one that may be there
good_number : (w : Format) (n : ℕ) → IsStoredNumber w n → first_negative w ≤ n → n < cancelled_mark w → ⊥
good_number w n (inl plain) low high = omega arith
good_number w n (inr void) low high = omega (arith, void.0)

good_offset : (strings : List ℕ) (n : ℕ) → IsOffset strings n → n < cancelled_mark Legacy → ¬ HasEnd strings n → ⊥
good_offset strings n (inl plain) high ends = ends plain.1
good_offset strings n (inr void) high ends = omega (arith, void.0)

-- the number of a place of a section that is spelled
spelled_number : (w : Format) (ns : List ℕ) (k : ℕ) (P : ℕ → Type 0) → ((n : ℕ) → P n → n ≤ absent_mark w) → All P ns → k < count_in w (number_section w ns)
    → P (number_at w (width w * k) (number_section w ns))
spelled_number w ns k P fits all lt =
    let c : count_in w (number_section w ns) ≡ length ns = ap (λ k. k / width w) (length-spelled w ns) ∙ counted w (length ns) in
    let within : k < length ns = omega arith in
    subst P (sym (number_read w ns k (λ i d l. fits _ (all i d l)) within)) (all k 0 within)

-- an entry meets no refusal
never_of : (b : List ℕ) (w : Format) (s : Sections) → AreSound w s → Found b w s → (e : ReadError) → ¬ HasReadFault b e
never_of b w s sound f Short h = omega (arith, h, f.long)
never_of b Legacy s sound f Magic h = h.0 f.known
never_of b Extended s sound f Magic h = h.1 f.known
never_of b w s sound f Counts h = good_counts b w s sound f h
never_of b w s sound f Truncated h = omega (arith, h, f.whole)
never_of b w s sound f BadNames h = good_names s.names sound.some_names sound.no_nul (subst HasBadNames f.names h)
never_of b w s sound f BadFlag h =
    let p = subst HasBadFlag f.flags h in
    elim (sound.flags p.0 0 p.1) [ inl low ↦ omega (arith, low, p.2) | inr high ↦ omega (arith, high, p.3) ]
never_of b w s sound f BadNumber h =
    let p = subst (HasBadNumber w) f.numbers (subst (λ (x : Format). HasBadNumber x (numbers_section b)) f.format_is h) in
    good_number w _ (spelled_number w s.numbers p.0 (IsStoredNumber w) (number_fits w) sound.numbers p.1) p.2.0 p.2.1
never_of b w s sound f BadOffset h =
    let p = subst (λ (x : List ℕ). HasBadOffset x s.strings) f.offsets (subst (λ (x : List ℕ). HasBadOffset (offsets_section b) x) f.strings h) in
    good_offset s.strings _ (spelled_number Legacy s.offsets p.0 (IsOffset s.strings) (offset_fits s.strings) sound.offsets p.1) p.2.0 p.2.1

never : (b m : List ℕ) (c : Contents) (e : ReadError) → Reads b m c → HasReadFault b e → ⊥
never b m c e r h = never_of b r.format r.sections r.sound (found_of b m c r) e h

pub not_both : (b m : List ℕ) (c : Contents) (e : ReadError) → Reads b m c → FailsToRead b e → ⊥
not_both b m c e r s = never b m c e r s.holds
