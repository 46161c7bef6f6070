-- Bytes that are refused only for their last section.
use Rattle.std.proofs.Common.{◌≡◌, ◌≢◌, ℕ, ◌-◌, ◌<◌, ◌≤◌, List, length, subst, arith, inl, inr}
use Rattle.ti_layout.specs.declared.layout.Format.{Format}
use Rattle.ti_layout.specs.declared.layout.Format.TheVariants.{Legacy, Extended}
use Rattle.ti_layout.specs.declared.fault.ReadError.{ReadError}
use Rattle.ti_layout.specs.declared.fault.ReadError.TheVariants.{Short, Magic, Counts, Truncated, BadNames, BadFlag, BadNumber, BadOffset}
use Rattle.ti_layout.specs.declared.sections.Sections.{Sections}
use Rattle.ti_layout.specs.Layout.{cancelled_mark, magic, first_negative}
use Rattle.ti_layout.specs.Reading.{IsStoredNumber, format_in, names_section, flags_section, numbers_section, strings_section, HasBadCount, HasBadNames}
use Rattle.ti_layout.specs.Reading.{HasBadFlag, HasBadNumber, HasBadOffset, HasReadFault, FailsToRead, rank}
use Rattle.ti_layout.specs.Sections.{AreNames, AreFlags, AreStoredNumbers, IsCutIntoSections}

known_magic : (w : Format) (n : ℕ) → n ≡ magic w → n ≢ magic Legacy → n ≢ magic Extended → ⊥
known_magic Legacy n e f g = f e
known_magic Extended n e f g = g e

good_counts : (b : List ℕ) (s : Sections) → IsCutIntoSections b s → ¬ HasBadCount b
good_counts b s cut h =
    let k = cut.header in
    elim h [
      | inl n ↦ omega (arith, n, k.names_fit)
      | inr t ↦ elim t [
        | inl n ↦ omega (arith, n, k.flags_fit)
        | inr t ↦ elim t [
          | inl n ↦ omega (arith, n, k.numbers_fit)
          | inr t ↦ elim t [
            | inl n ↦ omega (arith, n, k.texts_fit)
            | inr n ↦ omega (arith, n, k.strings_fit)
          ]
        ]
      ]
    ]

good_names : (names : List ℕ) → AreNames names → ¬ HasBadNames names
good_names names are h = elim h [
  | inl short ↦ omega (arith, short, are.some)
  | inr t ↦ elim t [
    | inl w ↦ are.no_nul w.0 w.1 w.2
    | inr other ↦ other (are.ended (length names - 1) (omega (arith, are.some)))
  ]
]

good_number : (w : Format) (n : ℕ) → IsStoredNumber w n → first_negative w ≤ n → n < cancelled_mark w → ⊥
good_number w n (inl plain) low high = omega arith
good_number w n (inr void) low high = omega (arith, void.0)

-- nothing is wrong before the refusal of a rank, if each section that is looked through before it
-- is good
none_before : (b : List ℕ) (s : Sections) → IsCutIntoSections b s → (n : ℕ) → n ≤ 8 → (5 < n → AreNames (names_section b))
    → (6 < n → AreFlags (flags_section b))
    → (7 < n → AreStoredNumbers (format_in b) (numbers_section b)) → (e : ReadError) → rank e < n → ¬ HasReadFault b e
none_before b s cut n most names flags numbers Short lt h = omega (arith, h, cut.header.long)
none_before b s cut n most names flags numbers Magic lt h = known_magic (format_in b) _ cut.header.known h.0 h.1
none_before b s cut n most names flags numbers Counts lt h = good_counts b s cut h
none_before b s cut n most names flags numbers Truncated lt h = omega (arith, h, cut.whole)
none_before b s cut n most names flags numbers BadNames lt h = good_names (names_section b) (names lt) h
none_before b s cut n most names flags numbers BadFlag lt h =
    elim (flags lt h.0 h.1) [ inl low ↦ omega (arith, low, h.2) | inr high ↦ omega (arith, high, h.3) ]
none_before b s cut n most names flags numbers BadNumber lt h = good_number (format_in b) _ (numbers lt h.0 h.1) h.2.0 h.2.1
none_before b s cut n most names flags numbers BadOffset lt h = omega (arith, lt, most)

-- what is known of a section that was cut is known of the bytes
numbers_of : (b : List ℕ) (s : Sections) → IsCutIntoSections b s → AreStoredNumbers s.format s.numbers.now → AreStoredNumbers (format_in b) (numbers_section b)
numbers_of b s cut numbers =
    subst (λ (x : Format). AreStoredNumbers x (numbers_section b)) cut.format (subst (λ (x : List ℕ). AreStoredNumbers s.format x) cut.numbers numbers)

pub refused_names : (b : List ℕ) (s : Sections) → IsCutIntoSections b s → HasBadNames s.names.now → FailsToRead b BadNames
refused_names b s cut bad = record {
  holds = subst HasBadNames cut.names bad;
  first = none_before b s cut 5 (omega arith) (λ (n : 5 < 5). absurd (omega (arith, n))) (λ (n : 6 < 5). absurd (omega (arith, n)))
      (λ (n : 7 < 5). absurd (omega (arith, n)));
}

pub refused_flags : (b : List ℕ) (s : Sections) → IsCutIntoSections b s → AreNames s.names.now → HasBadFlag s.flags.now → FailsToRead b BadFlag
refused_flags b s cut names bad = record {
  holds = subst HasBadFlag cut.flags bad;
  first = none_before b s cut 6 (omega arith) (λ (_ : 5 < 6). subst AreNames cut.names names) (λ (n : 6 < 6). absurd (omega (arith, n)))
      (λ (n : 7 < 6). absurd (omega (arith, n)));
}

pub refused_numbers : (b : List ℕ) (s : Sections) → IsCutIntoSections b s → AreNames s.names.now → AreFlags s.flags.now
    → HasBadNumber s.format s.numbers.now → FailsToRead b BadNumber
refused_numbers b s cut names flags bad = record {
  holds = subst (λ (x : Format). HasBadNumber x (numbers_section b)) cut.format (subst (λ (x : List ℕ). HasBadNumber s.format x) cut.numbers bad);
  first = none_before b s cut 7 (omega arith) (λ (_ : 5 < 7). subst AreNames cut.names names) (λ (_ : 6 < 7). subst AreFlags cut.flags flags)
      (λ (n : 7 < 7). absurd (omega (arith, n)));
}

-- the offsets are looked through last
pub refused_offsets : (b : List ℕ) (s : Sections) → IsCutIntoSections b s → AreNames s.names.now → AreFlags s.flags.now
    → AreStoredNumbers s.format s.numbers.now → HasBadOffset s.offsets.now s.strings.now → FailsToRead b BadOffset
refused_offsets b s cut names flags numbers bad = record {
  holds = subst (λ (x : List ℕ). HasBadOffset x (strings_section b)) cut.offsets (subst (λ (x : List ℕ). HasBadOffset s.offsets.now x) cut.strings bad);
  first = none_before b s cut 8 (omega arith) (λ (_ : 5 < 8). subst AreNames cut.names names) (λ (_ : 6 < 8). subst AreFlags cut.flags flags)
      (λ (_ : 7 < 8). numbers_of b s cut numbers);
}
