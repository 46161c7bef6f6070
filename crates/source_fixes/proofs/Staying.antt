-- A block stays one block once a part of an item is exchanged for a text without a newline.
use Rattle.std.proofs.Common.{◌≡◌, ◌≢◌, ℕ, suc, ◌==◌, true, false, List, [], ◌∷◌, ◌++◌, append_assoc, drop, take, Some, slice_get, refl, sym, ap, ap₂}
use Rattle.std.proofs.Common.{subst, ◌∙◌}
use Rattle.std.proofs.lemmas.Bool.{eq-eqb}
use Rattle.std.proofs.lemmas.List.{append-nil}
use Rattle.std.proofs.lemmas.Option.{slice_get-map}
use Rattle.ti_text.specs.Texts.{last_byte}
use Rattle.ti_source.specs.Cutting.{HasNoHead, OneBlock, begins_head, is_head}
use Rattle.ti_source.specs.Folding.{PlacedByte}
use Rattle.ti_source.specs.Items.{without_front}
use Rattle.source_spans.specs.Folding.{bytes_at, folded_of}
use Rattle.source_spans.specs.Parts.{end_of, field_of, items_after, rest_of, spanned}
use Rattle.source_spans.specs.Replacing.{IsOneLine, exchanged}
use Rattle.source_spans.specs.Subjects.{items_of}
use Rattle.source_spans.specs.declared.parts.Part.{Part}
use Rattle.source_spans.proofs.Exchanging.{block_from, cut_back, cut_front, found_raw, head_no_newline, placed_at, regroup, some_first}
use Rattle.source_spans.proofs.Recutting.{front_split}
use Rattle.source_spans.proofs.Refolding.{find_kept, kept_after, kept_safe, no_line_begins, no_newline}
use Rattle.source_fixes.specs.Healing.{IsInLine}

-- ---- texts in which no block begins

pub last_both : (before : ℕ) (one other : List ℕ) → last_byte before (one ++ other) ≡ last_byte (last_byte before one) other
last_both before [] other = refl
last_both before (x ∷ xs) other = last_both x xs other

pub front_none : (before : ℕ) (one other : List ℕ) → HasNoHead before (one ++ other) → HasNoHead before one
front_none before [] other none = tt
front_none before (x ∷ xs) other none = (none.0, front_none x xs other none.1)

pub back_none : (before : ℕ) (one other : List ℕ) → HasNoHead before (one ++ other) → HasNoHead (last_byte before one) other
back_none before [] other none = none
back_none before (x ∷ xs) other none = back_none x xs other none.1

pub both_none : (before : ℕ) (one other : List ℕ) → HasNoHead before one → HasNoHead (last_byte before one) other → HasNoHead before (one ++ other)
both_none before [] other none more = more
both_none before (x ∷ xs) other none more = (none.0, both_none x xs other none.1 more)

pub not_head : (before x : ℕ) → (before == 10) ≡ false → is_head before x ≡ false
not_head before x other = rw other refl

line_none : (before : ℕ) (text : List ℕ) → (before == 10) ≡ false → IsOneLine text → HasNoHead before text
line_none before [] other line = tt
line_none before (x ∷ xs) other line = (not_head before x other, line_none x xs line.0 line.1)

line_last : (before : ℕ) (text : List ℕ) → (before == 10) ≡ false → IsOneLine text → (last_byte before text == 10) ≡ false
line_last before [] other line = other
line_last before (x ∷ xs) other line = line_last x xs line.0 line.1

pub other_none : (one other : ℕ) (text : List ℕ) → (other == 10) ≡ false → HasNoHead one text → HasNoHead other text
other_none one other [] plain none = tt
other_none one other (x ∷ xs) plain none = (not_head other x plain, none.1)

other_last : (one other : ℕ) (text : List ℕ) → (one == 10) ≡ false → last_byte one text ≡ 10 → last_byte other text ≡ 10
other_last one other [] plain last = let is = eq-eqb one 10 last in absurd cc
other_last one other (x ∷ xs) plain last = last

-- ---- where a part of an item is

has_last : (x : PlacedByte) (xs : List PlacedByte) → (front : List PlacedByte) × (last : PlacedByte) × (x ∷ xs ≡ front ++ last ∷ [])
    × (end_of (suc x.1) xs ≡ suc last.1)
has_last x [] = ([], x, refl, refl)
has_last x (y ∷ ys) = let later = has_last y ys in (x ∷ later.0, later.1, ap (λ (t : List PlacedByte). x ∷ t) later.2, later.3)

pub record IsStill (h : ℕ) (text : List ℕ) : Type 0 where
  pub none : HasNoHead h text
  pub last : last_byte h text ≡ 10

never : (n : ℕ) → (n == 10) ≡ false → n ≢ 10
never n off is = let t = eq-eqb n 10 is in cc

-- the block after its first byte
still_one : (h : ℕ) (block : List ℕ) (p : PlacedByte) (front : List PlacedByte) (x : PlacedByte) (xs back : List PlacedByte) (new : List ℕ)
    → begins_head h ≡ true → HasNoHead h block → last_byte h block ≡ 10
    → IsOneLine new → folded_of (h ∷ block) ≡ (p ∷ front) ++ ((x ∷ xs) ++ back)
    → (text : List ℕ) × (exchanged (h ∷ block) (record { start = x.1; end = end_of (suc x.1) xs }) new ≡ h ∷ text) × IsStill h text
    × IsInLine (h ∷ block) (record { start = x.1; end = end_of (suc x.1) xs }) new
still_one h block p front x xs back new head none ends line e =
    let lasts = has_last x xs in
    let both : (h, 0) ∷ kept_after false h false (bytes_at 1 block) ≡ p ∷ (front ++ (x ∷ (xs ++ back))) = sym (block_from h (bytes_at 1 block) head) ∙ e in
    let left : kept_after false h false (bytes_at 1 block) ≡ front ++ (x ∷ (xs ++ back)) = cc in
    let safe = kept_safe h (head_no_newline h head) in
    let found = find_kept false false h 1 block front x (xs ++ back) safe left in
    let ended : front ++ (x ∷ (xs ++ back)) ≡ (front ++ lasts.0) ++ lasts.1 ∷ back =
    ap (λ (t : List PlacedByte). front ++ (t ++ back)) lasts.2 ∙ ap (λ (t : List PlacedByte). front ++ t) (append_assoc lasts.0 (lasts.1 ∷ []) back)
    ∙ sym (append_assoc front lasts.0 (lasts.1 ∷ back)) in
    let end = find_kept false false h 1 block (front ++ lasts.0) lasts.1 back safe (left ∙ ended) in
    let b = last_byte h found.before in
    let m = lasts.1.0 in
    let plain : (b == 10) ≡ false = no_line_begins found.comment found.joining b x.0 h found.before found.after refl
    (subst (HasNoHead h) found.whole none) found.safe found.out found.stays in
    let other : (m == 10) ≡ false = no_newline end.joining m end.stays in
    let fronts : take x.1 (h ∷ block) ≡ h ∷ found.before =
    ap (λ (t : List ℕ). take x.1 (h ∷ t)) found.whole ∙ cut_front h x.0 found.before found.after x.1 found.place in
    let backs : drop (end_of (suc x.1) xs) (h ∷ block) ≡ end.after =
    ap (λ (n : ℕ). drop n (h ∷ block)) lasts.3 ∙ ap (λ (t : List ℕ). drop (suc lasts.1.1) (h ∷ t)) end.whole
    ∙ cut_back h m end.before end.after lasts.1.1 end.place in
    let now = last_byte b new in
    let now_plain = line_last b new plain line in
    let before_none = front_none h found.before (x.0 ∷ found.after) (subst (HasNoHead h) found.whole none) in
    let after_none : HasNoHead m end.after = (back_none h end.before (m ∷ end.after) (subst (HasNoHead h) end.whole none)).1 in
    let new_last : last_byte h (found.before ++ new) ≡ now = last_both h found.before new in
    let after_last : last_byte m end.after ≡ 10 = sym (last_both h end.before (m ∷ end.after)) ∙ ap (last_byte h) (sym end.whole) ∙ ends in (
      (found.before ++ new) ++ end.after,
      ap₂ (λ (s t : List ℕ). s ++ new ++ t) fronts backs,
      record {
        none = both_none h (found.before ++ new) end.after (both_none h found.before new before_none (line_none b new plain line))
            (subst (λ (n : ℕ). HasNoHead n end.after) (sym new_last) (other_none m now end.after now_plain after_none));
        last = last_both h (found.before ++ new) end.after ∙ ap (λ (n : ℕ). last_byte n end.after) new_last ∙ other_last m now end.after other after_last;
      },
      subst (λ (t : List ℕ). last_byte 10 (t ++ new) ≢ 10) (sym fronts) (subst (λ (n : ℕ). n ≢ 10) (sym new_last) (never now now_plain)),
    )

-- a block
pub one_of : (h : ℕ) (text block : List ℕ) → begins_head h ≡ true → block ≡ h ∷ text → IsStill h text → OneBlock block
one_of h text block head is still =
    subst OneBlock (sym is) (record {
      cut = record { whole = sym (append-nil (h ∷ text)); front = tt; each = (refl, (head, still.none), tt) };
      ends = still.last;
    })

by_raw : (h : ℕ) (block : List ℕ) (ordinal : ℕ) (raw front : List PlacedByte) (x : PlacedByte) (xs back : List PlacedByte) (new : List ℕ)
    → begins_head h ≡ true → HasNoHead h block → last_byte h block ≡ 10
    → IsOneLine new → slice_get (items_after 44 (rest_of (folded_of (h ∷ block)))) ordinal ≡ Some raw → without_front raw ≡ front ++ ((x ∷ xs) ++ back)
    → OneBlock (exchanged (h ∷ block) (record { start = x.1; end = end_of (suc x.1) xs }) new)
    × IsInLine (h ∷ block) (record { start = x.1; end = end_of (suc x.1) xs }) new
by_raw h block ordinal raw front x xs back new head none ends line there shown =
    let whole = folded_of (h ∷ block) in
    let placed = placed_at whole ordinal raw x front (xs ++ back) there shown in
    let field = field_of whole in
    let comma = placed.rest.comma in
    let before = placed.at.front in
    let tail = placed.at.tail in
    let split = front_split raw in
    let white = split.white in
    let raw_is : raw ≡ white ++ (front ++ ((x ∷ xs) ++ back)) = split.whole ∙ ap (λ (t : List PlacedByte). white ++ t) shown in
    let first = some_first field (before ++ (white ++ front)) comma in
    let folded : whole ≡ (first.0 ∷ first.1) ++ ((x ∷ xs) ++ (back ++ tail)) =
    placed.rest.whole ∙ ap (λ (t : List PlacedByte). field ++ comma ∷ t) (placed.at.whole ∙ ap (λ (t : List PlacedByte). before ++ (t ++ tail)) raw_is)
    ∙ regroup field before white front (x ∷ xs) back tail comma ∙ ap (λ (t : List PlacedByte). t ++ ((x ∷ xs) ++ (back ++ tail))) first.2 in
    let still = still_one h block first.0 first.1 x xs (back ++ tail) new head none ends line folded in
    (one_of h still.0 (exchanged (h ∷ block) (record { start = x.1; end = end_of (suc x.1) xs }) new) head still.1 still.2, still.3)

pub stays_one : (block : List ℕ) (ordinal : ℕ) (item front middle back : List PlacedByte) (part : Part) (new : List ℕ) → OneBlock block
    → slice_get (items_of (folded_of block)) ordinal ≡ Some item
    → item ≡ front ++ (middle ++ back) → spanned middle ≡ Some part → IsOneLine new → OneBlock (exchanged block part new) × IsInLine block part new
stays_one [] ordinal item front middle back part new single there whole is line = absurd single.cut.each.1
stays_one (h ∷ block) ordinal item front [] back part new single there whole is line = absurd cc
stays_one (h ∷ block) ordinal item front (x ∷ xs) back part new single there whole is line =
    let raws = items_after 44 (rest_of (folded_of (h ∷ block))) in
    let found = found_raw (slice_get raws ordinal) item (sym (slice_get-map without_front raws ordinal) ∙ there) in
    let one : Part = record { start = x.1; end = end_of (suc x.1) xs } in
    let same : one ≡ part = cc in
    subst (λ (p : Part). OneBlock (exchanged (h ∷ block) p new) × IsInLine (h ∷ block) p new) same
    (by_raw h block ordinal found.0 front x xs back new single.cut.each.1.0 single.cut.each.1.1 single.ends line found.1 (found.2 ∙ whole))
