-- An entry that is read has a listing.
use Rattle.std.proofs.Common.{◌≡◌, ◌≢◌, ℕ, ◌+◌, ◌-◌, ◌*◌, ◌<◌, ◌==◌, Bool, true, false, cond, eqb, nat_lt, List, [], length, drop, get_or, Option}
use Rattle.std.proofs.Common.{Some, None, refl, sym, ap, ◌∙◌, subst, arith}
use Rattle.std.specs.Prelude.{IfSome, option_and_then, slice_get, slice_index}
use Rattle.std.specs.List.{All, before_first, position_or_len, range_with_len}
use Rattle.std.proofs.lemmas.Bool.{ltb-true, ltb-false}
use Rattle.std.proofs.lemmas.List.{get_or-take, length-take}
use Rattle.std.proofs.lemmas.List.Elements.{All-nil, All-drop, All-map, All-take, All-weaker, All-from_recursion, recursion_from_All}
use Rattle.std.proofs.lemmas.List.FromFn.{get_or-range_with_len, length-range_with_len}
use Rattle.std.proofs.lemmas.List.Sums.{fails_before_first}
use Rattle.ti_caps.specs.Tables.{Capability}
use Rattle.ti_caps.specs.declared.capability.Kind.{Kind}
use Rattle.ti_caps.specs.declared.capability.Kind.TheVariants.{Flag, Number, Text}
use Rattle.ti_spelling.specs.Spelling.{AreBytes, HasNoNul}
use Rattle.ti_layout.specs.declared.layout.Format.{Format}
use Rattle.ti_layout.specs.declared.layout.Format.TheVariants.{Legacy, Extended}
use Rattle.ti_layout.specs.Layout.{first_negative, width}
use Rattle.ti_layout.specs.Reading.{Reads, count_in, format_in, number_at, says, stored_flag, stored_number, stored_text, text_from, word_at}
use Rattle.ti_layout.specs.Values.{Content, Contents, content_true, content_number, content_text, content_cancelled}
use Rattle.tools_relisting.proofs.TextBytes.{behind-bytes}
use Rattle.tools_relisting.specs.Relisting.{CanHave}
use Rattle.user_items.specs.Names.{is_user_defined_name}
use Rattle.user_extension.specs.UserDefined.{IsValue}
use Rattle.user_extension.specs.Reading.{EndsWell, Parts, ReadRow, after_entry, header_size, name_in, name_table, parts_in, rows_after, rows_in, value_in}
use Rattle.user_extension.proofs.Values.{value_sound}
use Rattle.user_relisting.specs.ReadingBack.{IsWritableIfSome, ReadEntriesHaveListings}
use Rattle.user_relisting.proofs.Laying.{left-part}

-- ---- texts

text-bytes : (strings : List ℕ) (n : ℕ) → AreBytes strings → AreBytes (text_from strings n)
text-bytes strings n h =
    All-take (λ b. b < 256) (position_or_len (λ (b : ℕ). b == 0) (drop n strings)) (drop n strings) (All-drop (λ b. b < 256) n strings h)

-- what stands before the first NUL has none
clean : (xs : List ℕ) → HasNoNul (before_first (λ b. b == 0) xs)
clean xs k d lt e =
    let n = position_or_len (λ (b : ℕ). eqb b 0) xs in
    let l : k < n = omega (arith, lt, length-take n xs) in
    let z : get_or xs k d ≡ 0 = sym (get_or-take n xs k d l) ∙ e in
    let never : true ≡ false = sym (ap (λ (x : ℕ). eqb x 0) z) ∙ fails_before_first (λ (b : ℕ). eqb b 0) xs k d l in
    absurd cc

-- ---- the tables

module _ (c : Capability) where
  have-flag : c.kind ≡ Flag → (b : ℕ) → CanHave c (stored_flag b)
  have-flag is b = elim (b == 1) as (λ t. CanHave c (cond t (Some content_true) None)) [ true ↦ is | false ↦ tt ]

  have-number : c.kind ≡ Number → (w : Format) (n : ℕ) (b : Bool) → nat_lt n (first_negative w) ≡ b → CanHave c (cond b (Some (content_number n)) None)
  have-number is Legacy n true e = (is, (let l = ltb-true n 32768 e in omega (arith, l)))
  have-number is Extended n true e = (is, (let l = ltb-true n 2147483648 e in omega (arith, l)))
  have-number is w n false e = tt

  have-text : c.kind ≡ Text → (strings : List ℕ) → AreBytes strings → (n : ℕ) → CanHave c (stored_text strings n)
  have-text is strings h n =
      elim (nat_lt n (first_negative Legacy)) as (λ t. CanHave c (cond t (Some (content_text (text_from strings n))) None)) [
        | true ↦ ((is, clean (drop n strings)), text-bytes strings n h)
        | false ↦ tt
      ]

  have-then : (f : ℕ → Option Content) (o : Option ℕ) → ((n : ℕ) → CanHave c (f n)) → CanHave c (option_and_then f o)
  have-then f None h = tt
  have-then f (Some n) h = h n

  have-said : (w : Format) (flags numbers offsets strings : List ℕ) → AreBytes strings → (kind : Kind) → c.kind ≡ kind
      → CanHave c (says w flags numbers offsets strings kind c.index)
  have-said w flags numbers offsets strings h Flag is = have-flag is (slice_index flags c.index)
  have-said w flags numbers offsets strings h Number is =
      have-then (stored_number w) (slice_get numbers c.index) (λ n. have-number is w n (nat_lt n (first_negative w)) refl)
  have-said w flags numbers offsets strings h Text is = have-then (stored_text strings) (slice_get offsets c.index) (have-text is strings h)

-- the strings of an entry of bytes are bytes
strings-bytes : (bytes names : List ℕ) (contents : Contents) → AreBytes bytes → (r : Reads bytes names contents) → AreBytes r.sections.strings
strings-bytes bytes names contents h r =
    let whole = subst AreBytes r.whole h in
    let front = left-part (λ (b : ℕ). b < 256) _ r.sections.rest (recursion_from_All (λ (b : ℕ). b < 256) _ whole) in
    All-from_recursion (λ (b : ℕ). b < 256) r.sections.strings (behind-bytes _ r.sections.strings front)

-- ---- user-defined capabilities

-- a text is of bytes
abbrev IsOfBytes : Content → Type 0
IsOfBytes content_true = Unit {0}
IsOfBytes (content_number n) = Unit {0}
IsOfBytes (content_text t) = AreBytes t
IsOfBytes content_cancelled = Unit {0}

flag-of-bytes : (n : ℕ) → IfSome (stored_flag n) IsOfBytes
flag-of-bytes n = elim (n == 1) as (λ b. IfSome (cond b (Some content_true) None) IsOfBytes) [ true ↦ tt | false ↦ tt ]

number-of-bytes : (w : Format) (n : ℕ) → IfSome (stored_number w n) IsOfBytes
number-of-bytes w n = elim (nat_lt n (first_negative w)) as (λ b. IfSome (cond b (Some (content_number n)) None) IsOfBytes) [ true ↦ tt | false ↦ tt ]

text-of-bytes : (table : List ℕ) (n : ℕ) → AreBytes table → IfSome (stored_text table n) IsOfBytes
text-of-bytes table n h =
    elim (nat_lt n (first_negative Legacy)) as (λ b. IfSome (cond b (Some (content_text (text_from table n))) None) IsOfBytes) [
      | true ↦ text-bytes table n h
      | false ↦ tt
    ]

one-of-bytes : (b : Bool) (x y : Option Content) → IfSome x IsOfBytes → IfSome y IsOfBytes → IfSome (cond b x y) IsOfBytes
one-of-bytes true x y p q = p
one-of-bytes false x y p q = q

value-of-bytes : (w : Format) (p : Parts) (i : ℕ) → AreBytes p.table → IfSome (value_in w p i) IsOfBytes
value-of-bytes w p i h =
    let number = number_at w (width w * (i - length p.flags)) p.numbers in
    let offset = word_at (2 * (i - (length p.flags + count_in w p.numbers))) p.values in
    one-of-bytes (nat_lt i (length p.flags)) (stored_flag (slice_index p.flags i)) _ (flag-of-bytes (slice_index p.flags i))
    (one-of-bytes (nat_lt i (length p.flags + count_in w p.numbers)) (stored_number w number) (stored_text p.table offset)
    (number-of-bytes w number) (text-of-bytes p.table offset h))

-- what is a value and of bytes can be written, and is no cancel
can-write : (o : Option Content) → IfSome o IsValue → IfSome o IsOfBytes → IsWritableIfSome o × (o ≢ Some content_cancelled)
can-write None value bytes = (tt, λ e. cc)
can-write (Some content_true) value bytes = (tt, λ e. cc)
can-write (Some (content_number n)) value bytes = (value, λ e. cc)
can-write (Some (content_text t)) value bytes = ((bytes, value), λ e. cc)
can-write (Some content_cancelled) value bytes = absurd value

-- a row of a user-defined name, whose value can be written and is no cancel
abbrev IsGood : ReadRow → Type 0
IsGood row = (is_user_defined_name row.0 ≡ true) × (IsWritableIfSome row.1 × (row.1 ≢ Some content_cancelled))

module _ (bytes : List ℕ) (h : AreBytes bytes) (ends : EndsWell bytes) where
  abbrev w : Format
  w = format_in bytes

  abbrev p : Parts
  p = parts_in w (after_entry bytes)

  abbrev row_at : ℕ → ReadRow
  row_at i = (name_in p.names (name_table p.values p.table) i, value_in w p i)

  table-bytes : AreBytes p.table
  table-bytes = All-take (λ (b : ℕ). b < 256) _ _ (All-drop (λ (b : ℕ). b < 256) _ (after_entry bytes) (All-drop (λ (b : ℕ). b < 256) _ bytes h))

  good-at : header_size < length (after_entry bytes) + 1 → (i : ℕ) → i < count_in Legacy p.names → IsGood (row_at i)
  good-at long i lt =
      let is = ends (omega (arith, long)) in
      (is.names.user_defined i lt, can-write (value_in w p i) (value_sound w p i) (value-of-bytes w p i table-bytes))

  by-size : (b : Bool) → nat_lt (length (after_entry bytes)) header_size ≡ b → All IsGood (cond b [] (rows_in w p))
  by-size true e = All-nil IsGood
  by-size false e =
      let n = count_in Legacy p.names in
      let l = ltb-false (length (after_entry bytes)) header_size e in
      let long : header_size < length (after_entry bytes) + 1 = omega (arith, l) in
      All-map IsGood row_at (range_with_len 0 n)
      (λ k d lt.
      let within : k < n = omega (arith, lt, length-range_with_len 0 n) in
      subst (λ i. IsGood (row_at i)) (sym (get_or-range_with_len 0 n k d within)) (good-at long (0 + k) (omega (arith, within))))

  rows-good : All IsGood (rows_after bytes)
  rows-good = by-size (nat_lt (length (after_entry bytes)) header_size) refl

pub read_have_listings : ReadEntriesHaveListings
read_have_listings bytes field entry names h reads ends is listable =
    let s = reads.sections in
    let good : All IsGood entry.rows = subst (All IsGood) (sym is) (rows-good bytes h ends) in
    record {
      names = names;
      listable = listable;
      holds = λ c valid. subst (λ (table : Contents). CanHave c (table c)) (sym reads.held)
          (have-said c reads.format s.flags s.numbers s.offsets s.strings (strings-bytes bytes field entry.entry.contents h reads) c.kind refl);
      writable = All-weaker IsGood (λ (row : ReadRow). (is_user_defined_name row.0 ≡ true) × IsWritableIfSome row.1) (λ row g. (g.0, g.1.0)) entry.rows good;
      plain = All-weaker IsGood (λ (row : ReadRow). row.1 ≢ Some content_cancelled) (λ row g. g.1.1) entry.rows good;
    }
