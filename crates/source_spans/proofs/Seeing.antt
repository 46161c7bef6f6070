-- Parts of a folded text without white space at an end.
use Rattle.std.proofs.Common.{◌≡◌, ℕ, suc, ◌+◌, ◌-◌, ◌<◌, ◌≤◌, ◌==◌, ◌&&◌, Bool, true, false, cond, List, [], ◌∷◌, ◌++◌, drop, get_or, Some, None, length}
use Rattle.std.proofs.Common.{map, take, refl, sym, ap, ap₂, ◌∙◌, arith}
use Rattle.std.specs.Prelude.{codes}
use Rattle.std.specs.List.{list_all, slice_range}
use Rattle.std.proofs.lemmas.Bool.{and_parts}
use Rattle.std.proofs.lemmas.List.{drop_all, drop_more, drop-drop, drop-take, length-map, length-take, map-append, take-map}
use Rattle.std.proofs.lemmas.List.Folds.{list_all-append}
use Rattle.std.proofs.Math.Nat.{min-le_left}
use Rattle.ti_text.specs.WhiteSpace.{is_white_space}
use Rattle.ti_source.specs.Folding.{PlacedByte}
use Rattle.ti_source.specs.Items.{bytes, without_front}
use Rattle.source_spans.specs.Parts.{names_of, part_of}
use Rattle.source_spans.specs.Subjects.{begins_with, lookup_parts, used_name, without_end}
use Rattle.source_spans.specs.Words.{last_of}
use Rattle.source_spans.specs.declared.parts.Part.{Part}
use Rattle.source_spans.proofs.Parting.{longer}

-- one more byte of a part
pub part_more : (text : List PlacedByte) (start at : ℕ) (d : PlacedByte) → start ≤ at → at < length text
    → slice_range text start (at + 1) ≡ slice_range text start at ++ get_or text at d ∷ []
part_more text start at d order within =
    longer text start at 1 order ∙ ap (λ (t : List PlacedByte). slice_range text start at ++ take 1 t) (drop_more text at d within)

pub bytes_more : (text : List PlacedByte) (start at : ℕ) (d : PlacedByte) → start ≤ at → at < length text
    → bytes (slice_range text start (at + 1)) ≡ bytes (slice_range text start at) ++ (get_or text at d).0 ∷ []
bytes_more text start at d order within =
    ap bytes (part_more text start at d order within) ∙ map-append (λ (x : PlacedByte). x.0) (slice_range text start at) (get_or text at d ∷ [])

-- one byte less at the front
pub part_less : (text : List PlacedByte) (at end : ℕ) (d : PlacedByte) → at < end → end ≤ length text
    → slice_range text at end ≡ get_or text at d ∷ slice_range text (at + 1) end
part_less text at end d less within =
    let size : end - at ≡ suc (end - (at + 1)) = omega (arith, less) in
    ap (λ (n : ℕ). take n (drop at text)) size ∙ ap (λ (t : List PlacedByte). take (suc (end - (at + 1))) t) (drop_more text at d (omega (arith, less, within)))

-- ---- white space at the front

front_white : (x : PlacedByte) (xs : List PlacedByte) → is_white_space x.0 ≡ true → without_front (x ∷ xs) ≡ without_front xs
front_white x xs white = rw white

front_plain : (x : PlacedByte) (xs : List PlacedByte) → is_white_space x.0 ≡ false → without_front (x ∷ xs) ≡ x ∷ xs
front_plain x xs plain = rw plain

pub front_more : (text : List PlacedByte) (at end : ℕ) (d : PlacedByte) (all : List PlacedByte) → at < end → end ≤ length text
    → is_white_space (get_or text at d).0 ≡ true
    → without_front (slice_range text at end) ≡ all → without_front (slice_range text (at + 1) end) ≡ all
front_more text at end d all less within white e =
    sym (ap without_front (part_less text at end d less within) ∙ front_white (get_or text at d) (slice_range text (at + 1) end) white) ∙ e

pub front_found : (text : List PlacedByte) (at end : ℕ) (d : PlacedByte) (all : List PlacedByte) → at < end → end ≤ length text
    → is_white_space (get_or text at d).0 ≡ false
    → without_front (slice_range text at end) ≡ all → slice_range text at end ≡ all
front_found text at end d all less within plain e =
    part_less text at end d less within ∙ sym (ap without_front (part_less text at end d less within)
    ∙ front_plain (get_or text at d) (slice_range text (at + 1) end) plain) ∙ e

-- ---- white space at the end

all_more : (xs : List PlacedByte) (x : PlacedByte) → list_all is_white_space (bytes (xs ++ x ∷ []))
    ≡ (list_all is_white_space (bytes xs) && (is_white_space x.0 && true))
all_more xs x = ap (list_all is_white_space) (map-append (λ (y : PlacedByte). y.0) xs (x ∷ [])) ∙ list_all-append is_white_space (bytes xs) (x.0 ∷ [])

and_true : (a b : Bool) → b ≡ true → (a && (b && true)) ≡ a
and_true true true e = refl
and_true true false e = cc
and_true false b e = refl

and_false : (a b : Bool) → b ≡ false → (a && (b && true)) ≡ false
and_false true true e = cc
and_false true false e = refl
and_false false b e = refl

end_by : (x : PlacedByte) (xs : List PlacedByte) (b : Bool) → list_all is_white_space (bytes (x ∷ xs)) ≡ b
    → without_end (x ∷ xs) ≡ cond b [] (x ∷ without_end xs)
end_by x xs b e = rw e

pub end_white : (xs : List PlacedByte) (x : PlacedByte) → is_white_space x.0 ≡ true → without_end (xs ++ x ∷ []) ≡ without_end xs
end_white [] x white = rw white
end_white (y ∷ ys) x white =
    let b = list_all is_white_space (bytes (y ∷ ys)) in
    end_by y (ys ++ x ∷ []) b (all_more (y ∷ ys) x ∙ and_true b (is_white_space x.0) white)
    ∙ ap (λ (t : List PlacedByte). cond b [] (y ∷ t)) (end_white ys x white) ∙ sym (end_by y ys b refl)

pub end_plain : (xs : List PlacedByte) (x : PlacedByte) → is_white_space x.0 ≡ false → without_end (xs ++ x ∷ []) ≡ xs ++ x ∷ []
end_plain [] x plain = rw plain
end_plain (y ∷ ys) x plain =
    end_by y (ys ++ x ∷ []) false (all_more (y ∷ ys) x ∙ and_false (list_all is_white_space (bytes (y ∷ ys))) (is_white_space x.0) plain)
    ∙ ap (λ (t : List PlacedByte). y ∷ t) (end_plain ys x plain)

pub end_next_white : (text : List PlacedByte) (start at end : ℕ) (d : PlacedByte) → start ≤ at → at < length text → is_white_space (get_or text at d).0 ≡ true
    → without_end (slice_range text start at) ≡ slice_range text start end → without_end (slice_range text start (at + 1)) ≡ slice_range text start end
end_next_white text start at end d order within white e =
    ap without_end (part_more text start at d order within) ∙ end_white (slice_range text start at) (get_or text at d) white ∙ e

pub end_next_plain : (text : List PlacedByte) (start at : ℕ) (d : PlacedByte) → start ≤ at → at < length text → is_white_space (get_or text at d).0 ≡ false
    → without_end (slice_range text start (at + 1)) ≡ slice_range text start (at + 1)
end_next_plain text start at d order within plain =
    ap without_end (part_more text start at d order within) ∙ end_plain (slice_range text start at) (get_or text at d) plain
    ∙ sym (part_more text start at d order within)

-- ---- the bytes with which a text begins

and_none : (b : Bool) → (b && false) ≡ false
and_none true = refl
and_none false = refl

pub begins_short : (word : List ℕ) (text : List PlacedByte) → length text < length word → begins_with word text ≡ false
begins_short [] text short = absurd (omega (arith, short))
begins_short (byte ∷ bytes) [] short = refl
begins_short (byte ∷ bytes) (x ∷ xs) short = ap (λ (b : Bool). x.0 == byte && b) (begins_short bytes xs (omega (arith, short))) ∙ and_none (x.0 == byte)

begins_cons : (byte : ℕ) (bytes : List ℕ) (x : PlacedByte) (xs : List PlacedByte) (b : Bool) → (x.0 == byte) ≡ b
    → begins_with (byte ∷ bytes) (x ∷ xs) ≡ (b && begins_with bytes xs)
begins_cons byte bytes x xs b e = rw e

begins_at : (word : List ℕ) (text : List PlacedByte) (at : ℕ) (d : PlacedByte) (b : Bool) → at < length word → at < length text
    → ((get_or text at d).0 == get_or word at 0) ≡ b
    → begins_with (drop at word) (drop at text) ≡ (b && begins_with (drop (at + 1) word) (drop (at + 1) text))
begins_at word text at d b less within e =
    ap₂ begins_with (drop_more word at 0 less) (drop_more text at d within)
    ∙ begins_cons (get_or word at 0) (drop (at + 1) word) (get_or text at d) (drop (at + 1) text) b e

pub begins_next : (word : List ℕ) (text : List PlacedByte) (at : ℕ) (d : PlacedByte) (r : Bool) → at < length word → at < length text
    → ((get_or text at d).0 == get_or word at 0) ≡ true
    → begins_with (drop at word) (drop at text) ≡ r → begins_with (drop (at + 1) word) (drop (at + 1) text) ≡ r
begins_next word text at d r less within same e = sym (begins_at word text at d true less within same) ∙ e

pub begins_not : (word : List ℕ) (text : List PlacedByte) (at : ℕ) (d : PlacedByte) (r : Bool) → at < length word → at < length text
    → ((get_or text at d).0 == get_or word at 0) ≡ false
    → begins_with (drop at word) (drop at text) ≡ r → false ≡ r
begins_not word text at d r less within differ e = sym (begins_at word text at d false less within differ) ∙ e

pub begins_all : (word : List ℕ) (text : List PlacedByte) (at : ℕ) (r : Bool) → length word ≤ at → begins_with (drop at word) (drop at text) ≡ r → true ≡ r
begins_all word text at r past e = ap (λ (w : List ℕ). begins_with w (drop at text)) (sym (drop_all at word past)) ∙ e

-- ---- the names that can be looked up

pub names_looked_up : (text : List PlacedByte) (parts : List Part) (n count : ℕ) (field : List PlacedByte) → map (part_of text) parts ≡ names_of field
    → count ≡ length parts
    → ((names : List (List PlacedByte)) → length names ≡ count → take n names ≡ lookup_parts names)
    → map (part_of text) (take n parts) ≡ lookup_parts (names_of field)
names_looked_up text parts n count field e all looked =
    sym (take-map (part_of text) n parts) ∙ looked (map (part_of text) parts) (length-map parts (part_of text) ∙ sym all) ∙ ap lookup_parts e

-- ---- the name that is used

-- what is after the first bytes of an item
pub value_is : (text : List PlacedByte) (item : Part) → 4 ≤ item.end - item.start → part_of text (record { start = item.start + 4; end = item.end })
    ≡ drop 4 (part_of text item)
value_is text item long =
    let m = item.end - (item.start + 4) in
    let size : item.end - item.start ≡ 4 + m = omega (arith, long) in
    sym (ap (λ (n : ℕ). drop 4 (take n (drop item.start text))) size ∙ drop-take 4 m (drop item.start text) ∙ ap (take m) (drop-drop 4 item.start text))

-- an item that begins with four bytes is as long
begins_long : (word : List ℕ) (text : List PlacedByte) → begins_with word text ≡ true → length word ≤ length text
begins_long [] text e = omega arith
begins_long (byte ∷ bytes) [] e = cc
begins_long (byte ∷ bytes) (x ∷ xs) e = omega (arith, begins_long bytes xs (and_parts (x.0 == byte) (begins_with bytes xs) e).1)

pub use_long : (text : List PlacedByte) (item : Part) → begins_with (codes "use=") (part_of text item) ≡ true → 4 ≤ item.end - item.start
use_long text item e =
    let long = begins_long (codes "use=") (part_of text item) e in
    omega (arith, long, length-take (item.end - item.start) (drop item.start text), min-le_left (item.end - item.start) (length (drop item.start text)))

pub used_is : (item : List PlacedByte) → begins_with (codes "use=") item ≡ true → used_name item ≡ Some (without_end (without_front (drop 4 item)))
used_is item e = rw e

pub used_not : (item : List PlacedByte) → begins_with (codes "use=") item ≡ false → used_name item ≡ None
used_not item e = rw e

-- ---- the last of some parts

pub last_mapped : (text : List PlacedByte) (parts : List Part) (d : Part) → 0 < length parts
    → part_of text (get_or parts (length parts - 1) d) ≡ last_of (map (part_of text) parts)
last_mapped text [] d some = absurd (omega (arith, some))
last_mapped text (part ∷ []) d some = refl
last_mapped text (part ∷ other ∷ parts) d some =
    let size : length (part ∷ other ∷ parts) - 1 ≡ suc (length (other ∷ parts) - 1) = omega arith in
    ap (λ (n : ℕ). part_of text (get_or (part ∷ other ∷ parts) n d)) size ∙ last_mapped text (other ∷ parts) d (omega arith)
