-- Names that are found one after the other.
use Rattle.std.proofs.Common.{◌≡◌, ℕ, ◌+◌, ◌<◌, ◌≤◌, Bool, true, false, ◌||◌, cond, List, [], ◌∷◌, ◌++◌, map, length, take, drop, get_or, Option, Some}
use Rattle.std.proofs.Common.{None, is_some, refl, sym, ap, ◌∙◌, subst, arith, append-nil, length-append}
use Rattle.std.specs.Option.{option_or}
use Rattle.std.specs.Str.{bytes_eq}
use Rattle.std.proofs.lemmas.Grind.{flat_map-append}
use Rattle.std.specs.List.{take-map}
use Rattle.std.proofs.lemmas.List.{length-map, map-append, take_all, take_more, take-append-drop}
use Rattle.std.proofs.lemmas.List.Folds.{list_any-append}
use Rattle.ti_layout.specs.Values.{Content}
use Rattle.user_items.specs.Reading.{ReadUserItem, UserBlock, user_item_of, user_reading_of}
use Rattle.user_items.specs.Parsing.{user_reading_of_text}
use Rattle.user_items.specs.declared.reading.UserItem.{UserItem}
use Rattle.user_items.specs.declared.reading.UserItems.{UserItems}
use Rattle.user_values.specs.declared.names_found.NamesFound.{NamesFound}
use Rattle.user_values.specs.Limit.{name_limit, name_said, name_count, IsOverLimitAt, names_of, names_in, has_name, with_name, distinct_after}
use Rattle.user_values.specs.Tables.{said_at, said_once}
use Rattle.user_values.specs.inside.Counting.{AreFound}

-- ---- one name

or_false : (b : Bool) → (b || false) ≡ b
or_false true = refl
or_false false = refl

has_name-append : (names : List (List ℕ)) (name other : List ℕ) → has_name (names ++ name ∷ []) other ≡ (has_name names other || bytes_eq name other)
has_name-append names name other =
    list_any-append (λ n. bytes_eq n other) names (name ∷ []) ∙ ap (λ b. has_name names other || b) (or_false (bytes_eq name other))

or_some : (o : Option Content) (b : Bool) (c : Content) → is_some (option_or o (cond b (Some c) None)) ≡ (is_some o || b)
or_some None true c = refl
or_some None false c = refl
or_some (Some x) b c = refl

abbrev chosen : List (List ℕ) → List ℕ → Bool → List (List ℕ)
chosen names name b = cond b names (names ++ name ∷ [])

pub found_again : (names : List (List ℕ)) (name : List ℕ) (found : NamesFound) → AreFound names found → is_some (said_at found.table name) ≡ true
    → AreFound (with_name names name) found
found_again names name found h e = subst (λ b. AreFound (chosen names name b) found) (sym e ∙ h.each name) h

pub one_too_many : (names : List (List ℕ)) (name : List ℕ) (found : NamesFound) → AreFound names found → is_some (said_at found.table name) ≡ false
    → 1024 ≤ found.count → 1024 < length (with_name names name)
one_too_many names name found h e full =
    subst (λ b. 1024 < length (chosen names name b)) (sym e ∙ h.each name) (let c = h.counted in omega (arith, c, full, length-append names (name ∷ [])))

pub found_one : (names : List (List ℕ)) (name : List ℕ) (content : Content) (found new : NamesFound) → AreFound names found
    → is_some (said_at found.table name) ≡ false → new.count ≡ found.count + 1
    → ((other : List ℕ) → said_at new.table other ≡ option_or (said_at found.table other) (said_once name content other)) → AreFound (with_name names name) new
found_one names name content found new h e more said =
    subst (λ b. AreFound (chosen names name b) new) (sym e ∙ h.each name) (record {
      counted = (let c = h.counted in omega (arith, c, more, length-append names (name ∷ [])));
      each = λ other.
          ap is_some (said other) ∙ or_some (said_at found.table other) (bytes_eq name other) content ∙ ap (λ b. b || bytes_eq name other) (h.each other)
          ∙ sym (has_name-append names name other);
    })

-- ---- names in a row

with_name-longer : (names : List (List ℕ)) (name : List ℕ) → length names ≤ length (with_name names name)
with_name-longer names name =
    elim (has_name names name) as (λ b. length names ≤ length (chosen names name b)) [
      | true ↦ omega arith
      | false ↦
          omega (arith, length-append names (name ∷ []))
    ]

pub distinct_after-longer : (found names : List (List ℕ)) → length found ≤ length (distinct_after found names)
distinct_after-longer found [] = omega arith
distinct_after-longer found (name ∷ names) =
    let one = with_name-longer found name in
    let rest = distinct_after-longer (with_name found name) names in
    omega arith

pub distinct_after-append : (found xs ys : List (List ℕ)) → distinct_after found (xs ++ ys) ≡ distinct_after (distinct_after found xs) ys
distinct_after-append found [] ys = refl
distinct_after-append found (x ∷ xs) ys = distinct_after-append (with_name found x) xs ys

-- ---- items and blocks in a row

pub names_of-more : (items : List UserItem) (n : ℕ) (d : UserItem) → n < length items
    → names_of (map user_item_of (take (n + 1) items)) ≡ names_of (map user_item_of (take n items)) ++ name_said (user_item_of (get_or items n d)).said
names_of-more items n d lt =
    ap (λ (xs : List UserItem). names_of (map user_item_of xs)) (take_more items n d lt)
    ∙ ap (λ (xs : List ReadUserItem). names_of xs) (map-append user_item_of (take n items) (get_or items n d ∷ []))
    ∙ flat_map-append (λ (i : ReadUserItem). name_said i.said) (map user_item_of (take n items)) (user_item_of (get_or items n d) ∷ [])
    ∙ ap (λ xs. names_of (map user_item_of (take n items)) ++ xs) (append-nil (name_said (user_item_of (get_or items n d)).said))

pub names_in-more : (reads : List UserItems) (n : ℕ) (d : UserItems) → n < length reads
    → names_in (map user_reading_of (take (n + 1) reads)) ≡ names_in (map user_reading_of (take n reads)) ++ names_of (user_reading_of (get_or reads n d)).items
names_in-more reads n d lt =
    ap (λ (xs : List UserItems). names_in (map user_reading_of xs)) (take_more reads n d lt)
    ∙ ap (λ (xs : List UserBlock). names_in xs) (map-append user_reading_of (take n reads) (get_or reads n d ∷ []))
    ∙ flat_map-append (λ (b : UserBlock). names_of b.items) (map user_reading_of (take n reads)) (user_reading_of (get_or reads n d) ∷ [])
    ∙ ap (λ xs. names_in (map user_reading_of (take n reads)) ++ xs) (append-nil (names_of (user_reading_of (get_or reads n d)).items))

-- ---- the blocks of a source

taken : (reads : List UserItems) (texts : List (List ℕ)) (n : ℕ) → map user_reading_of reads ≡ map user_reading_of_text texts
    → map user_reading_of (take n reads) ≡ map user_reading_of_text (take n texts)
taken reads texts n e = sym (take-map user_reading_of n reads) ∙ ap (take n) e ∙ take-map user_reading_of_text n texts

pub count_is : (reads : List UserItems) (texts : List (List ℕ)) (n : ℕ) → map user_reading_of reads ≡ map user_reading_of_text texts
    → length (distinct_after [] (names_in (map user_reading_of (take n reads)))) ≡ name_count texts n
count_is reads texts n e = ap (λ (bs : List UserBlock). length (distinct_after [] (names_in bs))) (taken reads texts n e)

pub few_so_far : (reads : List UserItems) (texts : List (List ℕ)) → map user_reading_of reads ≡ map user_reading_of_text texts
    → length (distinct_after [] (names_in (map user_reading_of reads))) ≤ name_limit → name_count texts (length texts) ≤ name_limit
few_so_far reads texts e few =
    let whole : length (distinct_after [] (names_in (map user_reading_of reads))) ≡ name_count texts (length texts) =
    ap (λ (bs : List UserBlock). length (distinct_after [] (names_in bs)))
    (e ∙ ap (map user_reading_of_text) (sym (take_all (length texts) texts (omega arith)))) in
    omega (arith, whole, few)

pub over_limit : (reads : List UserItems) (texts : List (List ℕ)) (at : ℕ) → map user_reading_of reads ≡ map user_reading_of_text texts → at < length reads
    → length (distinct_after [] (names_in (map user_reading_of (take at reads)))) ≤ name_limit
    → name_limit < length (distinct_after [] (names_in (map user_reading_of (take (at + 1) reads))))
    → IsOverLimitAt texts at
over_limit reads texts at e lt few over =
    let long : length reads ≡ length texts =
    sym (length-map reads user_reading_of) ∙ ap (λ (bs : List UserBlock). length bs) e ∙ length-map texts user_reading_of_text in
    let before = count_is reads texts at e in
    let after = count_is reads texts (at + 1) e in
    record { within = omega (arith, long, lt); before = omega (arith, before, few); over = omega (arith, after, over) }

pub found_more : (items : List UserItem) (n : ℕ) (item : UserItem) (names : List (List ℕ)) → n < length items → item ≡ get_or items n item
    → distinct_after names (names_of (map user_item_of (take (n + 1) items))) ≡ distinct_after
    (distinct_after names (names_of (map user_item_of (take n items)))) (name_said (user_item_of item).said)
found_more items n item names lt is =
    let front = names_of (map user_item_of (take n items)) in
    ap (distinct_after names) (names_of-more items n item lt ∙ ap (λ (i : UserItem). front ++ name_said (user_item_of i).said) (sym is))
    ∙ distinct_after-append names front (name_said (user_item_of item).said)

pub found_in_more : (reads : List UserItems) (n : ℕ) (read : UserItems) (names : List (List ℕ)) → n < length reads → read ≡ get_or reads n read
    → distinct_after names (names_in (map user_reading_of (take (n + 1) reads))) ≡ distinct_after
    (distinct_after names (names_in (map user_reading_of (take n reads)))) (names_of (user_reading_of read).items)
found_in_more reads n read names lt is =
    let front = names_in (map user_reading_of (take n reads)) in
    ap (distinct_after names) (names_in-more reads n read lt ∙ ap (λ (r : UserItems). front ++ names_of (user_reading_of r).items) (sym is))
    ∙ distinct_after-append names front (names_of (user_reading_of read).items)

pub longer_with_all : (items : List UserItem) (n : ℕ) (names : List (List ℕ))
    → length (distinct_after names (names_of (map user_item_of (take n items)))) ≤ length (distinct_after names (names_of (map user_item_of items)))
longer_with_all items n names =
    let front = names_of (map user_item_of (take n items)) in
    let back = names_of (map user_item_of (drop n items)) in
    let e : names_of (map user_item_of items) ≡ front ++ back =
    ap (λ (xs : List UserItem). names_of (map user_item_of xs)) (sym (take-append-drop n items))
    ∙ ap (λ (xs : List ReadUserItem). names_of xs) (map-append user_item_of (take n items) (drop n items))
    ∙ flat_map-append (λ (i : ReadUserItem). name_said i.said) (map user_item_of (take n items)) (map user_item_of (drop n items)) in
    let whole = ap (λ (xs : List (List ℕ)). length xs) (ap (distinct_after names) e ∙ distinct_after-append names front back) in
    omega (arith, whole, distinct_after-longer (distinct_after names front) back)
