-- A NUL follows each string of an entry.
use Rattle.std.proofs.Common.{◌≡◌, ℕ, suc, ◌+◌, ◌-◌, ◌<◌, true, false, eqb, nat_lt, inl, inr, List, [], ◌∷◌, ◌++◌, length, take, drop, get_or, Some, None, slice_get}
use Rattle.std.proofs.Common.{refl, sym, ap, ◌∙◌, arith}
use Rattle.std.proofs.lemmas.Bool.{cases_lt, eqb-true, ltb-true}
use Rattle.std.proofs.lemmas.List.{append_assoc, get_or-drop, length-drop, take-append-drop}
use Rattle.std.proofs.lemmas.List.Sums.{fails_before_first, passes_at_first, split_at_first}
use Rattle.std.proofs.lemmas.Option.{get_or_from_slice_get, slice_get_within}
use Rattle.std.specs.List.{after_first, position_or_len}
use Rattle.std.specs.Option.{option_and_then}
use Rattle.std.specs.Prelude.{Option}
use Rattle.ti_layout.specs.Layout.{header, number_section}
use Rattle.ti_layout.specs.declared.layout.Format.TheVariants.{Legacy}
use Rattle.ti_layout.specs.Reading.{HasEnd, IsOffset, stored_text, text_from}
use Rattle.ti_layout.specs.Values.{Contents}
use Rattle.ti_layout.specs.View.{shown_text}
use Rattle.ti_c.specs.Ends.{IsEndedIn, StringsHaveAnEnd}
use Rattle.ti_c.specs.Entries.{string_at}

-- the first NUL from an offset on is in the table
end_within : (strings : List ℕ) (n : ℕ) → HasEnd strings n → position_or_len (λ b. eqb b 0) (drop n strings) < length (drop n strings)
end_within strings n (i, from, within, is_nul) =
    let rest = drop n strings in
    elim (cases_lt (position_or_len (λ b. eqb b 0) rest) (length rest)) [
      | inl less ↦ less
      | inr more ↦
          let k = i - n in
          let size = length-drop n strings in
          let early : k < position_or_len (λ b. eqb b 0) rest = omega (arith, more, size, from, within) in
          let here : n + k ≡ i = omega (arith, from) in
          let nul : get_or rest k 0 ≡ 0 = get_or-drop n strings k 0 ∙ ap (λ (at : ℕ). get_or strings at 0) here ∙ is_nul in
          let never : true ≡ false = sym (ap (λ (b : ℕ). eqb b 0) nul) ∙ fails_before_first (λ (b : ℕ). eqb b 0) rest k 0 early in
          absurd cc
    ]

-- the table from an offset on is the string, a NUL, and the rest
end_of : (strings : List ℕ) (n : ℕ) → HasEnd strings n → (after : List ℕ) × (drop n strings ≡ text_from strings n ++ (0 ∷ after))
end_of strings n has_end =
    let rest = drop n strings in
    let within = end_within strings n has_end in
    let nul = eqb-true _ 0 (passes_at_first (λ (b : ℕ). eqb b 0) rest 0 within) in (
      after_first (λ (b : ℕ). eqb b 0) rest,
      split_at_first (λ (b : ℕ). eqb b 0) rest 0 within
          ∙ ap (λ (b : ℕ). text_from strings n ++ (b ∷ after_first (λ (b : ℕ). eqb b 0) rest)) nul,
    )

-- an offset that is stored for a string that is there
offset_of : (strings : List ℕ) (o : Option ℕ) (text : List ℕ) → shown_text (option_and_then (stored_text strings) o) ≡ Some text
    → (n : ℕ) × (o ≡ Some n) × (n < 32768) × (text ≡ text_from strings n)
offset_of strings None text h = absurd cc
offset_of strings (Some n) text h =
    elim (nat_lt n 32768) as (λ b. nat_lt n 32768 ≡ b → (n' : ℕ) × (Some n ≡ Some n') × (n' < 32768) × (text ≡ text_from strings n')) [
      | true ↦ λ e. (n, refl, ltb-true n 32768 e, (let shown = h in cc))
      | false ↦ λ e. absurd (let shown = h in cc)
    ] refl

-- a string that is there ends in the table
ends_in_table : (strings offsets : List ℕ) (index : ℕ) (text : List ℕ) → ((k d : ℕ) → k < length offsets → IsOffset strings (get_or offsets k d))
    → shown_text (option_and_then (stored_text strings) (slice_get offsets index)) ≡ Some text
    → (front after : List ℕ) × (strings ≡ front ++ (text ++ (0 ∷ after)))
ends_in_table strings offsets index text sound shown =
    let (n, stored, plain, is) = offset_of strings (slice_get offsets index) text shown in
    let within = slice_get_within offsets index n stored in
    let at = get_or_from_slice_get offsets index n 0 stored in
    elim (sound index 0 within) [
      | inl good ↦
          let has_end : HasEnd strings n = rw (sym at) good.1 in
          let (after, e) = end_of strings n has_end in
          (take n strings, after, sym (take-append-drop n strings) ∙ ap (λ t. take n strings ++ t) (e ∙ ap (λ t. t ++ (0 ∷ after)) (sym is)))
      | inr void ↦ absurd (omega (arith, void.0, at, plain))
    ]

-- the bytes around a string of the table, which is the last section but one
around : (a b c d e f strings rest front text after : List ℕ) → strings ≡ front ++ (text ++ (0 ∷ after))
    → a ++ b ++ 0 ∷ [] ++ c ++ d ++ e ++ f ++ strings ++ rest ≡ (a ++ b ++ 0 ∷ [] ++ c ++ d ++ e ++ f ++ front) ++ (text ++ (0 ∷ (after ++ rest)))
around a b c d e f strings rest front text after table =
    ap (λ t. a ++ b ++ 0 ∷ [] ++ c ++ d ++ e ++ f ++ t ++ rest) table ∙ simp append_assoc

pub strings_have_an_end : StringsHaveAnEnd
strings_have_an_end bytes names contents index text reads some =
    let s = reads.sections in
    let f = reads.format in
    let held = ap (λ (c : Contents). string_at c index) reads.held in
    elim (nat_lt index 414) as (λ b. nat_lt index 414 ≡ b → IsEndedIn bytes text) [
      | true ↦ λ e.
          let shown : shown_text (option_and_then (stored_text s.strings) (slice_get s.offsets index)) ≡ Some text = (let found = sym held ∙ some in cc) in
          let (front, after, table) = ends_in_table s.strings s.offsets index text reads.sound.offsets shown in
          let head = header f (suc (length s.names)) (length s.flags) (length s.numbers) (length s.offsets) (length s.strings) in (
            _,
            after ++ s.rest,
            reads.whole
                ∙ around head s.names s.flags s.gap (number_section f s.numbers) (number_section Legacy s.offsets) s.strings s.rest front text after table,
          )
      | false ↦ λ e. absurd (let found = sym held ∙ some in cc)
    ] refl
