-- The parts of a block that get a new name are in its order, and none overlaps another.
use Rattle.std.proofs.Common.{ℕ, zero, suc, ◌+◌, ◌-◌, ◌≤◌, ◌==◌, ◌||◌, ◌&&◌, Bool, true, false, cond, List, [], ◌∷◌, ◌++◌, drop, filter}
use Rattle.std.proofs.Common.{flat_map, length, map, take, None, Some, sym, subst, arith}
use Rattle.std.specs.Option.{option_to_list}
use Rattle.std.specs.Str.{bytes_eq}
use Rattle.std.specs.List.{list_all}
use Rattle.std.specs.Prelude.{codes}
use Rattle.std.proofs.lemmas.List.{map-append}
use Rattle.ti_text.specs.WhiteSpace.{is_white_space}
use Rattle.ti_source.specs.Folding.{PlacedByte}
use Rattle.ti_source.specs.Items.{bytes, takes, without_front}
use Rattle.source_spans.specs.Folding.{bytes_at, folded_of, in_comment, without_breaks, without_comments}
use Rattle.source_spans.specs.Parts.{end_of, field_of, items_after, names_of, rest_of, spanned, with_first}
use Rattle.source_spans.specs.Subjects.{UseSeen, begins_with, lookup_parts, own_spans, span_if, use_in, used_name, uses_of, without_end}
use Rattle.source_spans.specs.declared.parts.Part.{Part}
use Rattle.source_names.specs.Names.{is_sought, one_name, parts_in, used_parts}

-- ---- bytes whose offsets rise, from the first offset to before the last

abbrev pub Rise : ℕ → ℕ → List PlacedByte → Type 0
Rise low high [] = low ≤ high
Rise low high (x ∷ xs) = (low ≤ x.1) × Rise (suc x.1) high xs

pub rise_up : (low high : ℕ) (text : List PlacedByte) → Rise low high text → low ≤ high
rise_up low high [] r = r
rise_up low high (x ∷ xs) r = let more = rise_up (suc x.1) high xs r.1 in omega (arith, r.0, more)

pub rise_lower : (low less high : ℕ) (text : List PlacedByte) → low ≤ less → Rise less high text → Rise low high text
rise_lower low less high [] le r = omega (arith, r)
rise_lower low less high (x ∷ xs) le r = (omega (arith, r.0), r.1)

pub rise_higher : (low high more : ℕ) (text : List PlacedByte) → high ≤ more → Rise low high text → Rise low more text
rise_higher low high more [] le r = omega (arith, r)
rise_higher low high more (x ∷ xs) le r = (r.0, rise_higher (suc x.1) high more xs le r.1)

rise_either : (low high : ℕ) (b : Bool) (x : PlacedByte) (one other : List PlacedByte) → low ≤ x.1 → Rise (suc x.1) high one → Rise (suc x.1) high other
    → Rise low high (cond b one (x ∷ other))
rise_either low high true x one other le p q = rise_lower low (suc x.1) high one (omega arith) p
rise_either low high false x one other le p q = (le, q)

rise_bytes : (low : ℕ) (text : List ℕ) → Rise low (low + length text) (bytes_at low text)
rise_bytes low [] = omega arith
rise_bytes low (byte ∷ bytes) = (
  omega arith,
  rise_higher (suc low) (suc low + length bytes) (low + length (byte ∷ bytes)) (bytes_at (suc low) bytes) (omega arith)
      (rise_bytes (suc low) bytes),
)

rise_comments : (low high : ℕ) (comment : Bool) (before : ℕ) (text : List PlacedByte) → Rise low high text
    → Rise low high (without_comments comment before text)
rise_comments low high comment before [] r = r
rise_comments low high comment before (x ∷ xs) r =
    rise_either low high (in_comment comment before x.0) x (without_comments true x.0 xs) (without_comments false x.0 xs) r.0
    (rise_comments (suc x.1) high true x.0 xs r.1) (rise_comments (suc x.1) high false x.0 xs r.1)

rise_breaks : (low high : ℕ) (joining : Bool) (text : List PlacedByte) → Rise low high text → Rise low high (without_breaks joining text)
rise_breaks low high joining [] r = r
rise_breaks low high joining (x ∷ xs) r =
    rise_either low high (x.0 == 10 || (joining && is_white_space x.0)) x (without_breaks true xs) (without_breaks false xs) r.0
    (rise_breaks (suc x.1) high true xs r.1) (rise_breaks (suc x.1) high false xs r.1)

pub rise_folded : (block : List ℕ) → Rise 0 (length block) (folded_of block)
rise_folded block =
    let all = rise_higher 0 (0 + length block) (length block) (bytes_at 0 block) (omega arith) (rise_bytes 0 block) in
    rise_breaks 0 (length block) false (without_comments false 10 (bytes_at 0 block)) (rise_comments 0 (length block) false 10 (bytes_at 0 block) all)

-- ---- the field, and what is after it

abbrev pub Halves : ℕ → ℕ → List PlacedByte → List PlacedByte → Type 0
Halves low high front back = (middle : ℕ) × (Rise low middle front) × (Rise middle high back)

halves_by : (low high : ℕ) (b : Bool) (x : PlacedByte) (xs : List PlacedByte) → low ≤ x.1 → Rise (suc x.1) high xs
    → Halves (suc x.1) high (field_of xs) (rest_of xs)
    → Halves low high (cond b [] (x ∷ field_of xs)) (cond b xs (rest_of xs))
halves_by low high true x xs le r h = (suc x.1, omega arith, r)
halves_by low high false x xs le r h = (h.0, (le, h.1), h.2)

pub halves : (low high : ℕ) (text : List PlacedByte) → Rise low high text → Halves low high (field_of text) (rest_of text)
halves low high [] r = (low, omega arith, r)
halves low high (x ∷ xs) r = halves_by low high (x.0 == 44) x xs r.0 r.1 (halves (suc x.1) high xs r.1)

-- ---- parts that rise

abbrev pub PartsRise : ℕ → ℕ → List (List PlacedByte) → Type 0
PartsRise low high [] = low ≤ high
PartsRise low high (part ∷ parts) = (middle : ℕ) × (Rise low middle part) × (PartsRise middle high parts)

parts_up : (low high : ℕ) (parts : List (List PlacedByte)) → PartsRise low high parts → low ≤ high
parts_up low high [] r = r
parts_up low high (part ∷ parts) r =
    let here = rise_up low r.0 part r.1 in
    let later = parts_up r.0 high parts r.2 in
    omega (arith, here, later)

parts_take : (n low high : ℕ) (parts : List (List PlacedByte)) → PartsRise low high parts → PartsRise low high (take n parts)
parts_take zero low high [] r = r
parts_take zero low high (part ∷ parts) r = parts_up low high (part ∷ parts) r
parts_take (suc n) low high [] r = r
parts_take (suc n) low high (part ∷ parts) r = (r.0, r.1, parts_take n r.0 high parts r.2)

looked_up : (low high : ℕ) (b : Bool) (n : ℕ) (parts : List (List PlacedByte)) → PartsRise low high parts → PartsRise low high (cond b parts (take n parts))
looked_up low high true n parts r = r
looked_up low high false n parts r = parts_take n low high parts r

with_first_rises : (low high : ℕ) (x : PlacedByte) (parts : List (List PlacedByte)) → low ≤ x.1 → PartsRise (suc x.1) high parts
    → PartsRise low high (with_first x parts)
with_first_rises low high x [] le r = (suc x.1, (le, omega arith), r)
with_first_rises low high x (part ∷ parts) le r = (r.0, (le, r.1), r.2)

names_by : (low high : ℕ) (b : Bool) (x : PlacedByte) (names : List (List PlacedByte)) → low ≤ x.1 → PartsRise (suc x.1) high names
    → PartsRise low high (cond b ([] ∷ names) (with_first x names))
names_by low high true x names le r = (suc x.1, omega arith, r)
names_by low high false x names le r = with_first_rises low high x names le r

names_rise : (low high : ℕ) (field : List PlacedByte) → Rise low high field → PartsRise low high (names_of field)
names_rise low high [] r = (low, omega arith, r)
names_rise low high (x ∷ xs) r = names_by low high (x.0 == 124) x (names_of xs) r.0 (names_rise (suc x.1) high xs r.1)

last_by : (low high : ℕ) (b : Bool) (x : PlacedByte) → low ≤ x.1 → suc x.1 ≤ high → PartsRise low high (cond b ([] ∷ [] ∷ []) ((x ∷ []) ∷ []))
last_by low high true x le less = (suc x.1, omega arith, (suc x.1, omega arith, less))
last_by low high false x le less = (suc x.1, (le, omega arith), less)

items_by : (low high : ℕ) (ends takes : Bool) (x y : PlacedByte) (rest pair one : List (List PlacedByte)) → low ≤ x.1 → suc x.1 ≤ y.1
    → PartsRise (suc x.1) high rest → PartsRise (suc y.1) high pair → PartsRise (suc x.1) high one
    → PartsRise low high (cond ends ([] ∷ rest) (cond takes (with_first x (with_first y pair)) (with_first x one)))
items_by low high true takes x y rest pair one le less p q r = (suc x.1, omega arith, p)
items_by low high false true x y rest pair one le less p q r =
    with_first_rises low high x (with_first y pair) le (with_first_rises (suc x.1) high y pair less q)
items_by low high false false x y rest pair one le less p q r = with_first_rises low high x one le r

pub items_rise : (low high before : ℕ) (text : List PlacedByte) → Rise low high text → PartsRise low high (items_after before text)
items_rise low high before [] r = (low, omega arith, r)
items_rise low high before (x ∷ []) r = last_by low high (x.0 == 44) x r.0 r.1
items_rise low high before (x ∷ (y ∷ ys)) r =
    items_by low high (x.0 == 44) (takes before x.0 y.0) x y (items_after 44 (y ∷ ys)) (items_after y.0 ys) (items_after x.0 (y ∷ ys)) r.0 r.1.0
    (items_rise (suc x.1) high 44 (y ∷ ys) r.1) (items_rise (suc y.1) high y.0 ys r.1.1) (items_rise (suc x.1) high x.0 (y ∷ ys) r.1)

-- ---- parts of parts

front_by : (low high : ℕ) (b : Bool) (x : PlacedByte) (xs rest : List PlacedByte) → Rise low high (x ∷ xs) → Rise low high rest
    → Rise low high (cond b rest (x ∷ xs))
front_by low high true x xs rest r h = h
front_by low high false x xs rest r h = r

pub front_rises : (low high : ℕ) (part : List PlacedByte) → Rise low high part → Rise low high (without_front part)
front_rises low high [] r = r
front_rises low high (x ∷ xs) r =
    front_by low high (is_white_space x.0) x xs (without_front xs) r
    (rise_lower low (suc x.1) high (without_front xs) (omega (arith, r.0)) (front_rises (suc x.1) high xs r.1))

end_by : (low high : ℕ) (b : Bool) (x : PlacedByte) (rest : List PlacedByte) → low ≤ high → Rise low high (x ∷ rest) → Rise low high (cond b [] (x ∷ rest))
end_by low high true x rest le r = le
end_by low high false x rest le r = r

end_rises : (low high : ℕ) (part : List PlacedByte) → Rise low high part → Rise low high (without_end part)
end_rises low high [] r = r
end_rises low high (x ∷ xs) r =
    end_by low high (list_all is_white_space (bytes (x ∷ xs))) x (without_end xs) (rise_up low high (x ∷ xs) r) (r.0, end_rises (suc x.1) high xs r.1)

pub drop_rises : (n low high : ℕ) (part : List PlacedByte) → Rise low high part → Rise low high (drop n part)
drop_rises zero low high [] r = r
drop_rises zero low high (x ∷ xs) r = r
drop_rises (suc n) low high [] r = r
drop_rises (suc n) low high (x ∷ xs) r = drop_rises n low high xs (rise_lower low (suc x.1) high xs (omega (arith, r.0)) r.1)

pub fronts_rise : (low high : ℕ) (parts : List (List PlacedByte)) → PartsRise low high parts → PartsRise low high (map without_front parts)
fronts_rise low high [] r = r
fronts_rise low high (part ∷ parts) r = (r.0, front_rises low r.0 part r.1, fronts_rise r.0 high parts r.2)

-- ---- spans that rise

abbrev pub SpansRise : ℕ → ℕ → List Part → Type 0
SpansRise low high [] = low ≤ high
SpansRise low high (span ∷ spans) = (low ≤ span.start) × (span.start ≤ span.end) × (SpansRise span.end high spans)

spans_lower : (low less high : ℕ) (spans : List Part) → low ≤ less → SpansRise less high spans → SpansRise low high spans
spans_lower low less high [] le r = omega (arith, r)
spans_lower low less high (span ∷ spans) le r = (omega (arith, r.0), r.1, r.2)

spans_append : (low middle high : ℕ) (one other : List Part) → SpansRise low middle one → SpansRise middle high other → SpansRise low high (one ++ other)
spans_append low middle high [] other p q = spans_lower low middle high other p q
spans_append low middle high (span ∷ spans) other p q = (p.0, p.1, spans_append span.end middle high spans other p.2 q)

ends_rise : (low high : ℕ) (text : List PlacedByte) → Rise low high text → (low ≤ end_of low text) × (end_of low text ≤ high)
ends_rise low high [] r = (omega arith, r)
ends_rise low high (x ∷ xs) r = let h = ends_rise (suc x.1) high xs r.1 in (omega (arith, r.0, h.0), h.1)

span_rises : (low high : ℕ) (part : List PlacedByte) → Rise low high part → SpansRise low high (option_to_list (spanned part))
span_rises low high [] r = r
span_rises low high (x ∷ xs) r = let h = ends_rise (suc x.1) high xs r.1 in (r.0, omega (arith, h.0), h.1)

span_by : (low high : ℕ) (b : Bool) (spans : List Part) → low ≤ high → SpansRise low high spans → SpansRise low high (cond b spans [])
span_by low high true spans le r = r
span_by low high false spans le r = le

own_rises : (low high : ℕ) (name : List ℕ) (parts : List (List PlacedByte)) → PartsRise low high parts → SpansRise low high (flat_map (span_if name) parts)
own_rises low high name [] r = r
own_rises low high name (part ∷ parts) r =
    let here = span_by low r.0 (bytes_eq (bytes part) name) (option_to_list (spanned part)) (rise_up low r.0 part r.1) (span_rises low r.0 part r.1) in
    spans_append low r.0 high (span_if name part) (flat_map (span_if name) parts) here (own_rises r.0 high name parts r.2)

-- where uses are
abbrev places_of : List UseSeen → List Part
places_of uses = map (λ (found : UseSeen). found.span) uses

use_rises : (low high : ℕ) (name : List PlacedByte) → Rise low high name → SpansRise low high (places_of (use_in (Some name)))
use_rises low high [] r = r
use_rises low high (x ∷ xs) r = let h = ends_rise (suc x.1) high xs r.1 in (r.0, omega (arith, h.0), h.1)

use_by : (low high : ℕ) (b : Bool) (name : List PlacedByte) → Rise low high name → SpansRise low high (places_of (use_in (cond b (Some name) None)))
use_by low high true name r = use_rises low high name r
use_by low high false name r = rise_up low high name r

item_rises : (low high : ℕ) (item : List PlacedByte) → Rise low high item → SpansRise low high (places_of (use_in (used_name item)))
item_rises low high item r =
    let value = without_front (drop 4 item) in
    use_by low high (begins_with (codes "use=") item) (without_end value)
    (end_rises low high value (front_rises low high (drop 4 item) (drop_rises 4 low high item r)))

uses_rise : (low high : ℕ) (items : List (List PlacedByte)) → PartsRise low high items
    → SpansRise low high (places_of (flat_map (λ item. use_in (used_name item)) items))
uses_rise low high [] r = r
uses_rise low high (item ∷ items) r =
    let here = use_in (used_name item) in
    let later = flat_map (λ item. use_in (used_name item)) items in
    let joined = spans_append low r.0 high (places_of here) (places_of later) (item_rises low r.0 item r.1) (uses_rise r.0 high items r.2) in
    subst (SpansRise low high) (sym (map-append (λ (found : UseSeen). found.span) here later)) joined

kept_by : (low high : ℕ) (b : Bool) (found : UseSeen) (rest : List UseSeen) → low ≤ found.span.start → found.span.start ≤ found.span.end
    → SpansRise found.span.end high (places_of rest) → SpansRise low high (places_of (cond b (found ∷ rest) rest))
kept_by low high true found rest le less r = (le, less, r)
kept_by low high false found rest le less r = spans_lower low found.span.end high (places_of rest) (omega arith) r

kept_rise : (low high : ℕ) (test : UseSeen → Bool) (uses : List UseSeen) → SpansRise low high (places_of uses)
    → SpansRise low high (places_of (filter test uses))
kept_rise low high test [] r = r
kept_rise low high test (found ∷ uses) r =
    kept_by low high (test found) found (filter test uses) r.0 r.1 (kept_rise found.span.end high test uses r.2)

-- ---- the parts of a block

pub sought_rise : (blocks : List (List ℕ)) (owner at : ℕ) (name block : List ℕ) → SpansRise 0 (length block) (parts_in blocks (one_name owner name) at block)
sought_rise blocks owner at name block =
    let text = folded_of block in
    let end = length block in
    let cut = halves 0 end text (rise_folded block) in
    let names = names_of (field_of text) in
    let named = looked_up 0 cut.0 (length names == 1) (length names - 1) names (names_rise 0 cut.0 (field_of text) cut.1) in
    let head =
    span_by 0 cut.0 (owner == at) (own_spans name block) (rise_up 0 cut.0 (field_of text) cut.1) (own_rises 0 cut.0 name (lookup_parts names) named) in
    let items = fronts_rise cut.0 end (items_after 44 (rest_of text)) (items_rise cut.0 end 44 (rest_of text) cut.2) in
    let uses = uses_rise cut.0 end (map without_front (items_after 44 (rest_of text))) items in
    let kept = kept_rise cut.0 end (λ (found : UseSeen). is_sought blocks (one_name owner name) found.name) (uses_of block) uses in
    spans_append 0 cut.0 end (cond (owner == at) (own_spans name block) []) (used_parts blocks (one_name owner name) block) head kept
