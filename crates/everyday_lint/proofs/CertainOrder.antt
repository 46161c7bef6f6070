-- The certain edits of a block are of single bytes of it, each after the one before it.
use Rattle.std.proofs.Common.{◌≡◌, ℕ, zero, suc, Contains, ◌+◌, ◌<◌, ◌≤◌, ◌==◌, true, false, cond, List, [], ◌∷◌, ◌++◌, append_assoc, length, map, take, Option}
use Rattle.std.proofs.Common.{None, Some, codes, inl, inr, refl, sym, ap, subst, ◌∙◌, arith}
use Rattle.std.specs.List.{AllByRecursion, list_all}
use Rattle.std.specs.Option.{option_and_then, option_map_or}
use Rattle.std.specs.Prelude.{slice_index}
use Rattle.std.proofs.lemmas.Bool.{cases_Bool}
use Rattle.std.proofs.lemmas.List.{take-append-drop}
use Rattle.std.proofs.lemmas.List.Elements.{recursion_from_All}
use Rattle.ti_text.specs.Texts.{is_empty}
use Rattle.ti_text.specs.WhiteSpace.{is_white_space}
use Rattle.ti_caps.specs.Tables.{Capability, capability_named}
use Rattle.ti_caps.specs.declared.capability.Kind.{Kind}
use Rattle.ti_caps.specs.declared.capability.Kind.TheVariants.{Flag, Number, Text}
use Rattle.ti_source.specs.Cutting.{OneBlock}
use Rattle.ti_source.specs.Folding.{PlacedByte}
use Rattle.ti_source.specs.Items.{bytes, takes, without_front}
use Rattle.ti_source.specs.declared.code.Code.{Code}
use Rattle.ti_source.specs.declared.code.Code.TheVariants as code
use Rattle.source_spans.specs.Folding.{folded_of}
use Rattle.source_spans.specs.Parts.{end_of, items_after, rest_of, with_first}
use Rattle.source_spans.specs.Replacing.{fault_at}
use Rattle.source_spans.specs.Subjects.{items_of, without_end}
use Rattle.source_spans.specs.declared.parts.Part.{Part}
use Rattle.source_spans.proofs.Computing.{folded_computed}
use Rattle.source_spans.proofs.OneFolding.{offsets_lead}
use Rattle.source_edits.specs.Carets.{can_be_read, caret_at, healing_caret, with_backslash}
use Rattle.source_edits.specs.Edits.{EditSeen, advises_caret, advises_sign, caret_in, carets, is_number, kind_signs, sign_at, sign_for, signs}
use Rattle.source_edits.specs.Laws.{IsInOrder}
use Rattle.source_edits.specs.Pieces.{after_name, value_of, written_name}
use Rattle.source_edits.specs.Shown.{shown}
use Rattle.source_edits.proofs.CaretsHeal.{Lasts, last_byte_is, last_found, lasts, no_byte}
use Rattle.source_edits.proofs.InOrder.{folded_in_order}
use Rattle.source_fixes.specs.Together.{certain_edits, certain_for, certain_from}
use Rattle.everyday_lint.proofs.Changes.{AreInOrder, IsOfByte, Rise, change_of, rise_lower}

-- ---- bytes in order

-- bytes from an offset on, each after the one before it, up to another
abbrev BytesRise : ℕ → ℕ → List PlacedByte → Type 0
BytesRise low high [] = low ≤ high
BytesRise low high (x ∷ xs) = (low ≤ x.1) × BytesRise (suc x.1) high xs

bytes_lower : (low less high : ℕ) (text : List PlacedByte) → low ≤ less → BytesRise less high text → BytesRise low high text
bytes_lower low less high [] up rise = omega (arith, up, rise)
bytes_lower low less high (x ∷ xs) up rise = (let first = rise.0 in omega (arith, up, first), rise.1)

-- bytes up to the end of the last of them
abbrev Ends : ℕ → List PlacedByte → Type 0
Ends low text = BytesRise low (end_of low text) text

ends_lower : (low less : ℕ) (text : List PlacedByte) → low ≤ less → Ends less text → Ends low text
ends_lower low less [] up rise = omega arith
ends_lower low less (x ∷ xs) up rise = (let first = rise.0 in omega (arith, up, first), rise.1)

end_lower : (low less : ℕ) (text : List PlacedByte) → low ≤ less → end_of low text ≤ end_of less text
end_lower low less [] up = up
end_lower low less (x ∷ xs) up = omega arith

abbrev BeginsFrom : ℕ → List PlacedByte → Type 0
BeginsFrom low [] = Unit {0}
BeginsFrom low (x ∷ xs) = low ≤ x.1

begins_next : (n : ℕ) (xs : List PlacedByte) → AllByRecursion (λ (m : ℕ). n < m) (map (λ (x : PlacedByte). x.1) xs) → BeginsFrom (suc n) xs
begins_next n [] all = tt
begins_next n (x ∷ xs) all = let less = all.0 in omega (arith, less)

in_order_rise : (low high : ℕ) (text : List PlacedByte) → low ≤ high → BeginsFrom low text → IsInOrder text
    → AllByRecursion (λ (x : PlacedByte). x.1 < high) text → BytesRise low high text
in_order_rise low high [] up begins order within = up
in_order_rise low high (x ∷ xs) up begins order within =
    let less = within.0 in
    (begins, in_order_rise (suc x.1) high xs (omega (arith, less)) (begins_next x.1 xs order.0) order.1 within.1)

begins_any : (text : List PlacedByte) → BeginsFrom 0 text
begins_any [] = tt
begins_any (x ∷ xs) = omega arith

within_of : (high : ℕ) (text : List PlacedByte) (block : List ℕ)
    → AllByRecursion (λ (x : PlacedByte). (x.1 < high) × (slice_index block x.1 ≡ x.0)) text
    → AllByRecursion (λ (x : PlacedByte). x.1 < high) text
within_of high [] block all = tt
within_of high (x ∷ xs) block all = (all.0.0, within_of high xs block all.1)

folded_rise : (block : List ℕ) → BytesRise 0 (length block) (folded_of block)
folded_rise block =
    let text = folded_of block in
    in_order_rise 0 (length block) text (omega arith) (begins_any text) (folded_in_order block)
    (within_of (length block) text block (recursion_from_All _ text (offsets_lead block text (folded_computed block))))

rest_rise : (low high : ℕ) (text : List PlacedByte) → BytesRise low high text → BytesRise low high (rest_of text)
rest_rise low high [] rise = rise
rest_rise low high (x ∷ xs) rise =
    let first = rise.0 in
    elim (x.0 == 44) as (λ b. BytesRise low high (cond b xs (rest_of xs))) [
      | true ↦ bytes_lower low (suc x.1) high xs (omega (arith, first)) rise.1
      | false ↦ bytes_lower low (suc x.1) high (rest_of xs) (omega (arith, first)) (rest_rise (suc x.1) high xs rise.1)
    ]

-- ---- items in order

-- items from an offset on, each after the one before it, up to another
abbrev ItemsRise : ℕ → ℕ → List (List PlacedByte) → Type 0
ItemsRise low high [] = low ≤ high
ItemsRise low high (item ∷ items) = Ends low item × ItemsRise (end_of low item) high items

items_lower : (low less high : ℕ) (items : List (List PlacedByte)) → low ≤ less → ItemsRise less high items → ItemsRise low high items
items_lower low less high [] up rise = omega (arith, up, rise)
items_lower low less high (item ∷ items) up rise =
    (ends_lower low less item up rise.0, items_lower (end_of low item) (end_of less item) high items (end_lower low less item up) rise.1)

first_rise : (low high : ℕ) (x : PlacedByte) (items : List (List PlacedByte)) → low ≤ x.1 → ItemsRise (suc x.1) high items
    → ItemsRise low high (with_first x items)
first_rise low high x [] up rise = ((up, omega arith), rise)
first_rise low high x (item ∷ items) up rise = ((up, rise.0), rise.1)

items_rise : (low high before : ℕ) (text : List PlacedByte) → BytesRise low high text → ItemsRise low high (items_after before text)
items_rise low high before [] rise = (omega arith, rise)
items_rise low high before (x ∷ []) rise =
    let first = rise.0 in
    let last = rise.1 in
    elim (x.0 == 44) as (λ b. ItemsRise low high (cond b ([] ∷ [] ∷ []) ((x ∷ []) ∷ []))) [
      | true ↦ (omega arith, (omega arith, omega (arith, first, last)))
      | false ↦ ((first, omega arith), last)
    ]
items_rise low high before (x ∷ y ∷ ys) rise =
    let first = rise.0 in
    elim (x.0 == 44) as (λ b. ItemsRise low high
    (cond b ([] ∷ items_after 44 (y ∷ ys)) (cond (takes before x.0 y.0) (with_first x (with_first y (items_after y.0 ys)))
    (with_first x (items_after x.0 (y ∷ ys)))))) [
      | true ↦ (omega arith, items_lower low (suc x.1) high (items_after 44 (y ∷ ys)) (omega (arith, first)) (items_rise (suc x.1) high 44 (y ∷ ys) rise.1))
      | false ↦
          elim (takes before x.0 y.0) as (λ b. ItemsRise low high (cond b (with_first x (with_first y (items_after y.0 ys)))
          (with_first x (items_after x.0 (y ∷ ys))))) [
            | true ↦ first_rise low high x (with_first y (items_after y.0 ys)) first
                (first_rise (suc x.1) high y (items_after y.0 ys) rise.1.0 (items_rise (suc y.1) high y.0 ys rise.1.1))
            | false ↦ first_rise low high x (items_after x.0 (y ∷ ys)) first (items_rise (suc x.1) high x.0 (y ∷ ys) rise.1)
          ]
    ]

-- without the white space at the front of each
record IsShorter (low : ℕ) (item front : List PlacedByte) : Type 0 where
  rise : Ends low front
  end : end_of low front ≤ end_of low item

front_shorter : (low : ℕ) (item : List PlacedByte) → Ends low item → IsShorter low item (without_front item)
front_shorter low [] rise = record { rise = rise; end = omega arith }
front_shorter low (x ∷ xs) rise =
    let first = rise.0 in
    elim (is_white_space x.0) as (λ b. IsShorter low (x ∷ xs) (cond b (without_front xs) (x ∷ xs))) [
      | true ↦
          let later = front_shorter (suc x.1) xs rise.1 in
          let end = later.end in
          let lower = end_lower low (suc x.1) (without_front xs) (omega (arith, first)) in
          record { rise = ends_lower low (suc x.1) (without_front xs) (omega (arith, first)) later.rise; end = omega (arith, end, lower) }
      | false ↦ record { rise = rise; end = omega arith }
    ]

fronts_rise : (low high : ℕ) (items : List (List PlacedByte)) → ItemsRise low high items → ItemsRise low high (map without_front items)
fronts_rise low high [] rise = rise
fronts_rise low high (item ∷ items) rise =
    let shorter = front_shorter low item rise.0 in (
      shorter.rise,
      items_lower (end_of low (without_front item)) (end_of low item) high (map without_front items) shorter.end
          (fronts_rise (end_of low item) high items rise.1),
    )

block_items_rise : (block : List ℕ) → ItemsRise 0 (length block) (items_of (folded_of block))
block_items_rise block =
    let text = folded_of block in
    fronts_rise 0 (length block) (items_after 44 (rest_of text))
    (items_rise 0 (length block) 44 (rest_of text) (rest_rise 0 (length block) text (folded_rise block)))

-- ---- a certain edit is of a byte of its item

-- an edit exchanges a byte of an item for a text that prints
pub record IsOfItem (item : List PlacedByte) (edit : EditSeen) : Type 0 where
  pub front : List PlacedByte
  pub byte : PlacedByte
  pub back : List PlacedByte
  pub whole : item ≡ front ++ byte ∷ back
  pub there : edit.part ≡ record { start = byte.1; end = suc byte.1 }
  pub printed : shown edit.text ≡ edit.text

-- an item has one such edit or none
pub data HasFew (item : List PlacedByte) (edits : List EditSeen) : Type 0 where
  has_none : edits ≡ [] → HasFew item edits
  has_one : (edit : EditSeen) → edits ≡ edit ∷ [] → IsOfItem item edit → HasFew item edits

end_split : (item : List PlacedByte) → (tail : List PlacedByte) × (item ≡ without_end item ++ tail)
end_split [] = ([], refl)
end_split (x ∷ xs) =
    let later = end_split xs in
    elim (list_all is_white_space (bytes (x ∷ xs))) as (λ b. (tail : List PlacedByte) × (x ∷ xs ≡ cond b [] (x ∷ without_end xs) ++ tail)) [
      | true ↦ (x ∷ xs, refl)
      | false ↦ (later.0, ap (λ (t : List PlacedByte). x ∷ t) later.1)
    ]

sign_printed : (kind : Kind) (value raw text : List ℕ) → sign_for kind value raw ≡ Some text → shown text ≡ text
sign_printed Flag value raw text e =
    elim (cases_Bool (is_empty value)) [
      | inl t ↦ let is : Some [] ≡ Some text = rw t at e in let same : [] ≡ text = cc in subst (λ (s : List ℕ). shown s ≡ s) same refl
      | inr f ↦ let none : None ≡ Some text = rw f at e in absurd cc
    ]
sign_printed Number value raw text e =
    elim (cases_Bool (is_number value)) [
      | inl t ↦ let is : Some (codes "#") ≡ Some text = rw t at e in let same : codes "#" ≡ text = cc in subst (λ (s : List ℕ). shown s ≡ s) same refl
      | inr f ↦ let none : None ≡ Some text = rw f at e in absurd cc
    ]
sign_printed Text value raw text e =
    elim (cases_Bool (is_empty value)) [
      | inl t ↦ let none : None ≡ Some text = rw t at e in absurd cc
      | inr f ↦
          elim (cases_Bool (can_be_read raw)) [
            | inl can ↦
                let is : Some (codes "=") ≡ Some text = rw (f, can) at e in
                let same : codes "=" ≡ text = cc in subst (λ (s : List ℕ). shown s ≡ s) same refl
            | inr bad ↦ let none : None ≡ Some text = rw (f, bad) at e in absurd cc
          ]
    ]

few_sign : (item front : List PlacedByte) (byte : PlacedByte) (back : List PlacedByte) (kind : Kind) (o : Option (List ℕ))
    → item ≡ front ++ byte ∷ back → ((text : List ℕ) → o ≡ Some text → shown text ≡ text) → HasFew item (sign_at kind byte.1 o)
few_sign item front byte back kind None whole printed = has_none refl
few_sign item front byte back kind (Some text) whole printed =
    has_one (record { advice = advises_sign kind; part = record { start = byte.1; end = suc byte.1 }; text = text }) refl
    (record { front = front; byte = byte; back = back; whole = whole; there = refl; printed = printed text refl })

few_signs : (item front rest tail raw : List PlacedByte) (kind : Kind) → item ≡ front ++ (rest ++ tail) → HasFew item (signs kind rest raw)
few_signs item front [] tail raw kind whole = has_none refl
few_signs item front (x ∷ value) tail raw kind whole =
    few_sign item front x (value ++ tail) kind (sign_for kind (bytes value) (bytes raw)) whole (sign_printed kind (bytes value) (bytes raw))

few_kind : (item front rest tail raw : List PlacedByte) (o : Option Capability) → item ≡ front ++ (rest ++ tail)
    → HasFew item (option_map_or (λ (c : Capability). signs c.kind rest raw) o [])
few_kind item front rest tail raw None whole = has_none refl
few_kind item front rest tail raw (Some c) whole = few_signs item front rest tail raw c.kind whole

few_kinds : (item : List PlacedByte) → HasFew item (kind_signs item)
few_kinds item =
    let split = end_split item in
    let n = length (written_name item) in
    few_kind item (take n (without_end item)) (after_name item) split.0 (value_of item) (capability_named (bytes (written_name item)))
    (split.1 ∙ ap (λ (t : List PlacedByte). t ++ split.0) (sym (take-append-drop n (without_end item)))
    ∙ append_assoc (take n (without_end item)) (after_name item) split.0)

few_at : (item front : List PlacedByte) (byte : PlacedByte) → item ≡ front ++ byte ∷ [] → HasFew item (caret_in (caret_at byte))
few_at item front byte whole =
    elim (cases_Bool (byte.0 == 94)) [
      | inl t ↦
          rw t (has_one (record { advice = advises_caret; part = record { start = byte.1; end = suc byte.1 }; text = 92 ∷ 94 ∷ [] }) refl
          (record { front = front; byte = byte; back = []; whole = whole; there = refl; printed = refl }))
      | inr f ↦ rw f (has_none refl)
    ]

few_last : (item before value : List PlacedByte) → Lasts value → item ≡ before ++ value → HasFew item (caret_in (healing_caret value))
few_last item before _ no_byte whole = elim (cases_Bool (can_be_read (with_backslash []))) [ inl t ↦ rw t (has_none refl) | inr f ↦ rw f (has_none refl) ]
few_last item before _ (last_byte_is front last) whole =
    let value = front ++ last ∷ [] in
    elim (cases_Bool (can_be_read (with_backslash (bytes value)))) [
      | inl t ↦
          rw t (subst (λ (o : Option PlacedByte). HasFew item (caret_in (option_and_then caret_at o))) (sym (last_found None front last))
          (few_at item (before ++ front) last (whole ∙ sym (append_assoc before front (last ∷ [])))))
      | inr f ↦ rw f (has_none refl)
    ]

few_carets : (item : List PlacedByte) → HasFew item (carets item)
few_carets item =
    let n = length (written_name item) + 1 in
    few_last item (take n item) (value_of item) (lasts (value_of item)) (sym (take-append-drop n item))

pub few_certain : (item : List PlacedByte) (fault : Option Code) → HasFew item (certain_for item fault)
few_certain item None = has_none refl
few_certain item (Some code.WrongKind) = few_kinds item
few_certain item (Some code.BadString) = few_carets item
few_certain item (Some _) = has_none refl

-- ---- the edits of a block

byte_within : (low high : ℕ) (front : List PlacedByte) (byte : PlacedByte) (back : List PlacedByte) → BytesRise low high (front ++ byte ∷ back)
    → (low ≤ byte.1) × (suc byte.1 ≤ high)
byte_within low high [] byte back rise = (rise.0, bytes_end (suc byte.1) high back rise.1)
  where
    bytes_end : (from to : ℕ) (text : List PlacedByte) → BytesRise from to text → from ≤ to
    bytes_end from to [] is = is
    bytes_end from to (x ∷ xs) is =
        let first = is.0 in
        let later = bytes_end (suc x.1) to xs is.1 in
        omega (arith, first, later)
byte_within low high (x ∷ front) byte back rise =
    let first = rise.0 in
    let later = byte_within (suc x.1) high front byte back rise.1 in
    let low_of = later.0 in
    (omega (arith, first, low_of), later.1)

-- those of an item, and then others
item_first : (low high : ℕ) (item : List PlacedByte) (edits rest : List EditSeen) → Ends low item → HasFew item edits
    → Rise (end_of low item) high (map change_of rest) → AllByRecursion IsOfByte rest
    → Rise low high (map change_of (edits ++ rest)) × AllByRecursion IsOfByte (edits ++ rest)
item_first low high item edits rest ends (has_none none) rise ones =
    let up = bytes_up low (end_of low item) item ends in
    subst (λ (es : List EditSeen). Rise low high (map change_of (es ++ rest)) × AllByRecursion IsOfByte (es ++ rest)) (sym none)
    (rise_lower low (end_of low item) high (map change_of rest) up rise, ones)
  where
    bytes_up : (from to : ℕ) (text : List PlacedByte) → BytesRise from to text → from ≤ to
    bytes_up from to [] is = is
    bytes_up from to (x ∷ xs) is =
        let first = is.0 in
        let later = bytes_up (suc x.1) to xs is.1 in
        omega (arith, first, later)
item_first low high item edits rest ends (has_one edit is of) rise ones =
    let within = byte_within low (end_of low item) of.front of.byte of.back (subst (BytesRise low (end_of low item)) of.whole ends) in
    let start : edit.part.start ≡ of.byte.1 = ap (λ (p : Part). p.start) of.there in
    let end : edit.part.end ≡ suc of.byte.1 = ap (λ (p : Part). p.end) of.there in
    let above = within.0 in
    let below = within.1 in
    subst (λ (es : List EditSeen). Rise low high (map change_of (es ++ rest)) × AllByRecursion IsOfByte (es ++ rest)) (sym is) (
      (omega (arith, start, above), rise_lower (suc edit.part.start) (end_of low item) high (map change_of rest) (omega (arith, start, below)) rise),
      (omega (arith, start, end), ones),
    )

certain_rise : (block : List ℕ) (ordinal low high : ℕ) (items : List (List PlacedByte)) → ItemsRise low high items
    → Rise low high (map change_of (certain_from block ordinal items)) × AllByRecursion IsOfByte (certain_from block ordinal items)
certain_rise block ordinal low high [] rise = (rise, tt)
certain_rise block ordinal low high (item ∷ items) rise =
    let later = certain_rise block (suc ordinal) (end_of low item) high items rise.1 in
    item_first low high item (certain_for item (fault_at block ordinal)) (certain_from block (suc ordinal) items) rise.0
    (few_certain item (fault_at block ordinal)) later.0 later.1

pub certain_in_order : (block : List ℕ) → AreInOrder certain_edits block
certain_in_order block =
    let is = certain_rise block 0 0 (length block) (items_of (folded_of block)) (block_items_rise block) in
    record { rise = is.0; ones = is.1 }

-- ---- none is of the first byte of a block

rest_later : (high : ℕ) (text : List PlacedByte) → 1 ≤ high → BytesRise 0 high text → BytesRise 1 high (rest_of text)
rest_later high [] some rise = some
rest_later high (x ∷ xs) some rise =
    elim (x.0 == 44) as (λ b. BytesRise 1 high (cond b xs (rest_of xs))) [
      | true ↦ bytes_lower 1 (suc x.1) high xs (omega arith) rise.1
      | false ↦ bytes_lower 1 (suc x.1) high (rest_of xs) (omega arith) (rest_rise (suc x.1) high xs rise.1)
    ]

rises_later : (low high : ℕ) (edits : List EditSeen) (edit : EditSeen) → Rise low high (map change_of edits) → Contains edits edit → low ≤ edit.part.start
rises_later low high [] edit rise has = let less = has.1 in absurd (omega (arith, less))
rises_later low high (e ∷ edits) edit rise (zero, within, is) =
    let first = rise.0 in
    let same = ap (λ (x : EditSeen). x.part.start) is in
    omega (arith, first, same)
rises_later low high (e ∷ edits) edit rise (suc k, within, is) =
    let first = rise.0 in
    let later = rises_later (suc e.part.start) high edits edit rise.1 (k, omega (arith, within), is) in
    omega (arith, first, later)

later_in : (block : List ℕ) (edit : EditSeen) → 1 ≤ length block → Contains (certain_edits block) edit → 0 < edit.part.start
later_in block edit some has =
    let text = folded_of block in
    let size = length block in
    let rest = rest_later size text some (folded_rise block) in
    let items = fronts_rise 1 size (items_after 44 (rest_of text)) (items_rise 1 size 44 (rest_of text) rest) in
    let rise = certain_rise block 0 1 size (items_of text) items in
    let low = rises_later 1 size (certain_edits block) edit rise.0 has in
    omega (arith, low)

pub certain_later : (block : List ℕ) (edit : EditSeen) → OneBlock block → Contains (certain_edits block) edit → 0 < edit.part.start
certain_later [] edit single has = absurd single.cut.each.1
certain_later (x ∷ xs) edit single has = later_in (x ∷ xs) edit (omega arith) has
