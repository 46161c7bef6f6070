-- The names field and the items, as they are found.
use Rattle.std.proofs.Common.{◌≡◌, ℕ, suc, zero, ◌+◌, ◌-◌, ◌<◌, ◌≤◌, ◌==◌, true, false, not, List, [], ◌∷◌, ◌++◌, drop, get_or, length, map, take, refl}
use Rattle.std.proofs.Common.{sym, ap, subst, ◌∙◌, arith}
use Rattle.std.specs.List.{slice_range}
use Rattle.std.proofs.Math.Seq.{take-add}
use Rattle.std.proofs.lemmas.Bool.{eq-eqb, false≢true}
use Rattle.std.proofs.lemmas.List.{append-nil, append_assoc, drop-drop, drop_all, drop_more, get_or-drop, map-append, take-append-drop, take_all}
use Rattle.ti_source.specs.Folding.{PlacedByte}
use Rattle.ti_source.specs.Items.{AreItems, Begins, HasNoComma, all_field, field_and_rest, item_ends, last_item, pair_of_bytes, single_byte, stands_alone}
use Rattle.ti_source.specs.Items.{takes}
use Rattle.source_spans.specs.Parts.{part_of}
use Rattle.source_spans.specs.declared.parts.Part.{Part}
use Rattle.source_spans.specs.inside.Steps.{EndsHere, GoesOn}

-- ---- the names field

no_comma : (text : List PlacedByte) (n : ℕ) (d : PlacedByte) → n ≤ length text → ((k : ℕ) → k < n → ((get_or text k d).0 == 44) ≡ false)
    → HasNoComma (take n text)
no_comma text zero d within none = tt
no_comma [] (suc n) d within none = tt
no_comma (x ∷ xs) (suc n) d within none = (none 0 (omega arith), no_comma xs n d (omega (arith, within)) (λ k below. none (suc k) (omega (arith, below))))

pub field_found : (text : List PlacedByte) (n : ℕ) (d : PlacedByte) → n < length text → ((k : ℕ) → k < n → ((get_or text k d).0 == 44) ≡ false)
    → (get_or text n d).0 ≡ 44
    → Begins text (take n text) (drop (n + 1) text)
field_found text n d within none comma =
    let x = get_or text n d in
    let whole : take n text ++ (44, x.1) ∷ drop (n + 1) text ≡ text =
    ap (λ (b : ℕ). take n text ++ (b, x.1) ∷ drop (n + 1) text) (sym comma)
    ∙ ap (λ (t : List PlacedByte). take n text ++ t) (sym (drop_more text n d within)) ∙ take-append-drop n text in
    subst (λ (t : List PlacedByte). Begins t (take n text) (drop (n + 1) text)) whole
    (field_and_rest (take n text) (drop (n + 1) text) x.1 (no_comma text n d (omega (arith, within)) none))

pub field_all : (text : List PlacedByte) (d : PlacedByte) → ((k : ℕ) → k < length text → ((get_or text k d).0 == 44) ≡ false)
    → Begins text (take (length text) text) (drop (length text + 1) text)
field_all text d none =
    let all : take (length text) text ≡ text = take_all (length text) text (omega arith) in
    let rest : drop (length text + 1) text ≡ [] = drop_all (length text + 1) text (omega arith) in
    subst (λ (t : List PlacedByte). Begins text (take (length text) text) t) (sym rest)
    (subst (λ (t : List PlacedByte). Begins t (take (length text) text) []) all
    (all_field (take (length text) text) (no_comma text (length text) d (omega arith) none)))

-- ---- a step in an item

pub goes_by_one : (x : PlacedByte) (xs : List PlacedByte) (before : ℕ) → (x.0 == 44) ≡ false → stands_alone before x.0 xs ≡ true → GoesOn (x ∷ xs) before 1
goes_by_one x xs before plain alone d item items are = single_byte before x xs item items (λ e. absurd (false≢true (sym plain ∙ eq-eqb x.0 44 e))) alone are

pub goes_by_two : (x y : PlacedByte) (xs : List PlacedByte) (before : ℕ) → takes before x.0 y.0 ≡ true → GoesOn (x ∷ y ∷ xs) before 2
goes_by_two x y xs before taken d item items are = pair_of_bytes before x y xs item items taken are

pub one_step : (text : List PlacedByte) (before : ℕ) (d : PlacedByte) → 0 < length text → ((get_or text 0 d).0 == 44) ≡ false
    → (1 < length text → takes before (get_or text 0 d).0 (get_or text 1 d).0 ≡ false) → GoesOn text before 1
one_step [] before d some plain alone = absurd (omega (arith, some))
one_step (x ∷ []) before d some plain alone = goes_by_one x [] before plain refl
one_step (x ∷ y ∷ ys) before d some plain alone = goes_by_one x (y ∷ ys) before plain (ap not (alone (omega arith)))

pub two_steps : (text : List PlacedByte) (before : ℕ) (d : PlacedByte) → 1 < length text → takes before (get_or text 0 d).0 (get_or text 1 d).0 ≡ true
    → GoesOn text before 2
two_steps [] before d some taken = absurd (omega (arith, some))
two_steps (x ∷ []) before d some taken = absurd (omega (arith, some))
two_steps (x ∷ y ∷ ys) before d some taken = goes_by_two x y ys before taken

-- the byte at which an item ends
pub ends_at : (text : List PlacedByte) (at : ℕ) (d : PlacedByte) → EndsHere (drop at text) → (get_or text at d).0 ≡ 44
ends_at text at d ends =
    let here : at ≡ at + 0 = omega arith in
    ap (λ (n : ℕ). (get_or text n d).0) here ∙ ap (λ (x : PlacedByte). x.0) (sym (get_or-drop at text 0 d))
    ∙ ap (λ (xs : List PlacedByte). (get_or xs 0 d).0) ends.2

-- ---- all items

-- the items so far, if the rest has these
abbrev pub PartsTo : List PlacedByte → ℕ → List Part → ℕ → ℕ → ℕ → Type 0
PartsTo text from parts start at before =
    (item : List PlacedByte) (items : List (List PlacedByte)) → AreItems before (drop at text) (item ∷ items)
    → AreItems 44 (drop from text) (map (part_of text) parts ++ (slice_range text start at ++ item) ∷ items)

pub none_of : (text : List PlacedByte) (at : ℕ) → slice_range text at at ≡ []
none_of text at = let none : at - at ≡ 0 = omega arith in ap (λ (n : ℕ). take n (drop at text)) none

pub parts_start : (text : List PlacedByte) (from : ℕ) → PartsTo text from [] from from 44
parts_start text from item items are = subst (λ (t : List PlacedByte). AreItems 44 (drop from text) ((t ++ item) ∷ items)) (sym (none_of text from)) are

pub longer : (text : List PlacedByte) (start at size : ℕ) → start ≤ at → slice_range text start (at + size) ≡ slice_range text start at
    ++ take size (drop at text)
longer text start at size order =
    let all : at + size - start ≡ at - start + size = omega (arith, order) in
    let here : start + (at - start) ≡ at = omega (arith, order) in
    ap (λ (n : ℕ). take n (drop start text)) all ∙ take-add (at - start) size (drop start text)
    ∙ ap (λ (t : List PlacedByte). slice_range text start at ++ take size t) (drop-drop (at - start) start text ∙ ap (λ (n : ℕ). drop n text) here)

pub parts_go_on : (text : List PlacedByte) (from : ℕ) (parts : List Part) (start at size before : ℕ) (d : PlacedByte) → start ≤ at → 0 < size
    → PartsTo text from parts start at before → GoesOn (drop at text) before size
    → PartsTo text from parts start (at + size) (get_or text (at + size - 1) d).0
parts_go_on text from parts start at size before d order some so goes item items are =
    let last : at + (size - 1) ≡ at + size - 1 = omega (arith, some) in
    let byte : (get_or text (at + size - 1) d).0 ≡ (get_or (drop at text) (size - 1) d).0 =
    ap (λ (n : ℕ). (get_or text n d).0) (sym last) ∙ ap (λ (x : PlacedByte). x.0) (sym (get_or-drop at text (size - 1) d)) in
    let rest : AreItems (get_or (drop at text) (size - 1) d).0 (drop size (drop at text)) (item ∷ items) =
    subst (λ (b : ℕ). AreItems b (drop size (drop at text)) (item ∷ items)) byte
    (subst (λ (t : List PlacedByte). AreItems (get_or text (at + size - 1) d).0 t (item ∷ items)) (sym (drop-drop size at text)) are) in
    let made = so (take size (drop at text) ++ item) items (goes d item items rest) in
    subst (λ (t : List PlacedByte). AreItems 44 (drop from text) (map (part_of text) parts ++ t ∷ items))
    (sym (append_assoc (slice_range text start at) (take size (drop at text)) item)
    ∙ ap (λ (t : List PlacedByte). t ++ item) (sym (longer text start at size order))) made

-- one more item
pub more_parts : (text : List PlacedByte) (parts : List Part) (part : Part) (rest : List (List PlacedByte))
    → map (part_of text) parts ++ (part_of text part ++ []) ∷ rest ≡ map (part_of text) (parts ++ part ∷ []) ++ rest
more_parts text parts part rest =
    ap (λ (t : List PlacedByte). map (part_of text) parts ++ t ∷ rest) (append-nil (part_of text part))
    ∙ sym (append_assoc (map (part_of text) parts) (part_of text part ∷ []) rest)
    ∙ ap (λ (t : List (List PlacedByte)). t ++ rest) (sym (map-append (part_of text) parts (part ∷ [])))

pub parts_end : (text : List PlacedByte) (from : ℕ) (parts : List Part) (start at before : ℕ) (d : PlacedByte) → at < length text
    → (get_or text at d).0 ≡ 44 → PartsTo text from parts start at before
    → PartsTo text from (parts ++ record { start = start; end = at } ∷ []) (at + 1) (at + 1) 44
parts_end text from parts start at before d within comma so item items are =
    let x = get_or text at d in
    let part : Part = record { start = start; end = at } in
    let here : drop at text ≡ (44, x.1) ∷ drop (at + 1) text = drop_more text at d within ∙ ap (λ (b : ℕ). (b, x.1) ∷ drop (at + 1) text) comma in
    let ended =
    subst (λ (t : List PlacedByte). AreItems before t ([] ∷ item ∷ items)) (sym here) (item_ends before x.1 (drop (at + 1) text) (item ∷ items) are) in
    let made = so [] (item ∷ items) ended in
    subst (λ (t : List (List PlacedByte)). AreItems 44 (drop from text) t)
    (more_parts text parts part (item ∷ items) ∙ ap (λ (t : List PlacedByte). map (part_of text) (parts ++ part ∷ []) ++ (t ++ item) ∷ items)
    (sym (none_of text (at + 1)))) made

pub parts_last : (text : List PlacedByte) (from : ℕ) (parts : List Part) (start at before : ℕ) → at ≡ length text → PartsTo text from parts start at before
    → AreItems 44 (drop from text) (map (part_of text) (parts ++ record { start = start; end = length text } ∷ []))
parts_last text from parts start at before all so =
    let part : Part = record { start = start; end = length text } in
    let none : drop at text ≡ [] = drop_all at text (omega (arith, all)) in
    let made = so [] [] (subst (λ (t : List PlacedByte). AreItems before t ([] ∷ [])) (sym none) (last_item before)) in
    let same = ap (λ (n : ℕ). map (part_of text) parts ++ (slice_range text start n ++ []) ∷ []) all ∙ more_parts text parts part []
    ∙ append-nil (map (part_of text) (parts ++ part ∷ [])) in
    subst (λ (t : List (List PlacedByte)). AreItems 44 (drop from text) t) same made
