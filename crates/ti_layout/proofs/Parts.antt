-- The sections of a layout, found again by its header.
use Rattle.std.proofs.Common.{◌≡◌, ℕ, suc, ◌+◌, ◌-◌, ◌*◌, ◌/◌, ◌%◌, ◌≤◌, List, [], ◌∷◌, ◌++◌, length, slice_range, refl, sym, ap, ◌∙◌, subst, append_assoc}
use Rattle.std.proofs.Common.{arith}
use Rattle.std.proofs.lemmas.List.{take_at, drop_at, length-append}
use Rattle.ti_layout.specs.declared.layout.Format.{Format}
use Rattle.ti_layout.specs.declared.layout.Format.TheVariants.{Legacy, Extended}
use Rattle.ti_layout.specs.Layout.{Sections, header, entry_bytes, magic, number_section, width}
use Rattle.ti_layout.specs.Reading.{word_at, AreSound, format_in, names_size, flag_count, number_count, text_count, strings_size, entry_end, names_section}
use Rattle.ti_layout.specs.Reading.{flags_section, numbers_section, offsets_section, strings_section}
use Rattle.ti_layout.proofs.Spelled.{length-spelled}

pub part_at : (b p m r : List ℕ) (x y : ℕ) → b ≡ p ++ (m ++ r) → length p ≡ x → length p + length m ≡ y → slice_range b x y ≡ m
part_at b p m r x y e from to =
    let n : length m ≡ y - x = omega (arith, from, to) in
    rw (e, drop_at p (m ++ r) x from) (take_at m r (y - x) n)

-- the header's numbers
record Numbers (b : List ℕ) (w : Format) (s : Sections) : Type 0 where
  known : word_at 0 b ≡ magic w
  names : names_size b ≡ suc (length s.names)
  flags : flag_count b ≡ length s.flags
  numbers : number_count b ≡ length s.numbers
  offsets : text_count b ≡ length s.offsets
  strings : strings_size b ≡ length s.strings

magic-fits : (w : Format) → (magic w % 256) + 256 * (magic w / 256 % 256) ≡ magic w
magic-fits Legacy = refl
magic-fits Extended = refl

numbers-of : (w : Format) (s : Sections) → AreSound w s → Numbers (entry_bytes w s) w s
unfolding number_section
numbers-of w s sound = record {
  known = magic-fits w;
  names = omega arith;
  flags = omega arith;
  numbers = omega arith;
  offsets = omega arith;
  strings = omega arith;
}

-- the magic number says the format
pub format_told : (b : List ℕ) (w : Format) → word_at 0 b ≡ magic w → format_in b ≡ w
format_told b Legacy e = rw e refl
format_told b Extended e = rw e refl

pub length-header : (w : Format) (n f m t s : ℕ) → length (header w n f m t s) ≡ 12
unfolding number_section
length-header w n f m t s = refl

-- the sections that the header cuts from a layout
pub record Found (b : List ℕ) (w : Format) (s : Sections) : Type 0 where
  pub long : 12 ≤ length b
  pub known : word_at 0 b ≡ magic w
  pub format_is : format_in b ≡ w
  pub names_size : names_size b ≡ suc (length s.names)
  pub flag_count : flag_count b ≡ length s.flags
  pub number_count : number_count b ≡ length s.numbers
  pub text_count : text_count b ≡ length s.offsets
  pub strings_size : strings_size b ≡ length s.strings
  pub whole : entry_end b ≤ length b
  pub names : names_section b ≡ s.names ++ 0 ∷ []
  pub flags : flags_section b ≡ s.flags
  pub numbers : numbers_section b ≡ number_section w s.numbers
  pub offsets : offsets_section b ≡ number_section Legacy s.offsets
  pub strings : strings_section b ≡ s.strings

-- eight lists one after the other, each as the middle of three
record Middles (b h n f g m o s r : List ℕ) : Type 0 where
  names : b ≡ h ++ (n ++ (f ++ g ++ m ++ o ++ s ++ r))
  flags : b ≡ (h ++ n) ++ (f ++ (g ++ m ++ o ++ s ++ r))
  numbers : b ≡ (h ++ n ++ f ++ g) ++ (m ++ (o ++ s ++ r))
  offsets : b ≡ (h ++ n ++ f ++ g ++ m) ++ (o ++ (s ++ r))
  strings : b ≡ (h ++ n ++ f ++ g ++ m ++ o) ++ (s ++ r)

middles : (h n f g m o s r : List ℕ) → Middles (h ++ n ++ f ++ g ++ m ++ o ++ s ++ r) h n f g m o s r
middles h n f g m o s r = record {
  names = simp append_assoc;
  flags = simp append_assoc;
  numbers = simp append_assoc;
  offsets = simp append_assoc;
  strings = simp append_assoc;
}

cut_again : (b h n f g m o s r : List ℕ) → Middles b h n f g m o s r → length h ≡ 12 → (x1 x2 x3 x4 x5 : ℕ) → length n ≡ x1 → length f ≡ x2 → length m ≡ x3
    → length o ≡ x4 → length s ≡ x5 → length g ≡ (x1 + x2) % 2
    → (slice_range b 12 (12 + x1) ≡ n) × (slice_range b (12 + x1) (12 + x1 + x2) ≡ f)
    × (slice_range b (12 + x1 + x2 + (x1 + x2) % 2) (12 + x1 + x2 + (x1 + x2) % 2 + x3) ≡ m)
    × (slice_range b (12 + x1 + x2 + (x1 + x2) % 2 + x3) (12 + x1 + x2 + (x1 + x2) % 2 + x3 + x4) ≡ o)
    × (slice_range b (12 + x1 + x2 + (x1 + x2) % 2 + x3 + x4) (12 + x1 + x2 + (x1 + x2) % 2 + x3 + x4 + x5) ≡ s)
    × (12 + x1 + x2 + (x1 + x2) % 2 + x3 + x4 + x5 ≤ length b)
cut_again b h n f g m o s r mid lh x1 x2 x3 x4 x5 l1 l2 l3 l4 l5 lg =
    let p2 : length (h ++ n) ≡ 12 + x1 = omega (arith, length-append h n) in
    let p3 : length (h ++ n ++ f ++ g) ≡ 12 + x1 + x2 + (x1 + x2) % 2 = omega (arith, length-append (h ++ n ++ f) g, length-append (h ++ n) f, p2) in
    let p4 : length (h ++ n ++ f ++ g ++ m) ≡ 12 + x1 + x2 + (x1 + x2) % 2 + x3 = omega (arith, length-append (h ++ n ++ f ++ g) m, p3) in
    let p5 : length (h ++ n ++ f ++ g ++ m ++ o) ≡ 12 + x1 + x2 + (x1 + x2) % 2 + x3 + x4 = omega (arith, length-append (h ++ n ++ f ++ g ++ m) o, p4) in
    let whole : length b ≡ length (h ++ n ++ f ++ g ++ m ++ o) + length (s ++ r) =
    ap length mid.strings ∙ length-append (h ++ n ++ f ++ g ++ m ++ o) (s ++ r) in (
      part_at b h n _ 12 (12 + x1) mid.names lh (omega (arith, lh, l1)),
      part_at b (h ++ n) f _ (12 + x1) (12 + x1 + x2) mid.flags p2 (omega (arith, p2, l2)),
      part_at b (h ++ n ++ f ++ g) m _ _ _ mid.numbers p3 (omega (arith, p3, l3)),
      part_at b (h ++ n ++ f ++ g ++ m) o _ _ _ mid.offsets p4 (omega (arith, p4, l4)),
      part_at b (h ++ n ++ f ++ g ++ m ++ o) s _ _ _ mid.strings p5 (omega (arith, p5, l5)),
      omega (arith, whole, p5, length-append s r, l5),
    )

middles-of : (s : Sections) (h m o : List ℕ) (b : List ℕ) → b ≡ h ++ s.names ++ 0 ∷ [] ++ s.flags ++ s.gap ++ m ++ o ++ s.strings ++ s.rest
    → Middles b h (s.names ++ 0 ∷ []) s.flags s.gap m o s.strings s.rest
middles-of s h m o b e =
    let n = s.names ++ 0 ∷ [] in
    let regrouped : b ≡ h ++ n ++ s.flags ++ s.gap ++ m ++ o ++ s.strings ++ s.rest =
    e ∙ ap (λ (x : List ℕ). x ++ s.flags ++ s.gap ++ m ++ o ++ s.strings ++ s.rest) (append_assoc h s.names (0 ∷ [])) in
    subst (λ (x : List ℕ). Middles x h n s.flags s.gap m o s.strings s.rest) (sym regrouped) (middles h n s.flags s.gap m o s.strings s.rest)

pub found : (w : Format) (s : Sections) → AreSound w s → Found (entry_bytes w s) w s
found w s sound =
    let b = entry_bytes w s in
    let h = header w (suc (length s.names)) (length s.flags) (length s.numbers) (length s.offsets) (length s.strings) in
    let n = numbers-of w s sound in
    let format_is = format_told b w n.known in
    let size : length (s.names ++ 0 ∷ []) ≡ names_size b = omega (arith, length-append s.names (0 ∷ []), n.names) in
    let gap : length s.gap ≡ (names_size b + flag_count b) % 2 = sound.gap_size ∙ ap (λ (x : ℕ). x % 2) (omega (arith, n.names, n.flags)) in
    let numbers : length (number_section w s.numbers) ≡ width (format_in b) * number_count b =
    length-spelled w s.numbers ∙ ap (λ (k : ℕ). width w * k) (sym n.numbers) ∙ ap (λ (f : Format). width f * number_count b) (sym format_is) in
    let offsets : length (number_section Legacy s.offsets) ≡ 2 * text_count b = length-spelled Legacy s.offsets ∙ ap (λ (k : ℕ). 2 * k) (sym n.offsets) in
    let parts = cut_again b h (s.names ++ 0 ∷ []) s.flags s.gap (number_section w s.numbers) (number_section Legacy s.offsets) s.strings s.rest
    (middles-of s h (number_section w s.numbers) (number_section Legacy s.offsets) b refl) (length-header w _ _ _ _ _)
    (names_size b) (flag_count b) (width (format_in b) * number_count b) (2 * text_count b) (strings_size b) size (sym n.flags) numbers offsets
    (sym n.strings) gap in
    record {
      long = omega (arith, parts.5);
      known = n.known;
      format_is = format_is;
      names_size = n.names;
      flag_count = n.flags;
      number_count = n.numbers;
      text_count = n.offsets;
      strings_size = n.strings;
      whole = parts.5;
      names = parts.0;
      flags = parts.1;
      numbers = parts.2;
      offsets = parts.3;
      strings = parts.4;
    }
