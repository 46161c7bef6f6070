-- Lists of texts that lie in memory.
use Rattle.std.proofs.Common.{◌≡◌, ℕ, ◌+◌, ◌-◌, ◌<◌, ◌≤◌, Bor, List, [], ◌∷◌, ◌++◌, Some, drop, get_or, length, map, slice_get, slice_set, insert, max}
use Rattle.std.proofs.Common.{refl, subst, take, sym, ap, ◌∙◌, arith}
use Rattle.std.specs.List.{slice_range}
use Rattle.std.specs.Prelude.{option_map}
use Rattle.std.proofs.lemmas.List.{append_assoc, drop-map, length-append, length-drop, length-map, length-take-le, map-append, take-map, take_more}
use Rattle.std.proofs.lemmas.Option.{get_or_from_slice_get, slice_get-get_or, slice_get-map}
use Rattle.source_document.specs.Exchanges.{AtBack, AtFront, EditsLead, Exchanged, edits_max}
use Rattle.source_document.proofs.ListEdits.{inserted, length_front, replaced}

-- the text that a reference leads to
abbrev pub text_of : Bor (List ℕ) → List ℕ
text_of text = text.now

pub read_at : (texts : List (Bor (List ℕ))) (at : ℕ) (other : Bor (List ℕ)) → at < length texts
    → slice_get (map (λ (text : Bor (List ℕ)). text.now) texts) at ≡ Some (get_or texts at other).now
read_at texts at other within = slice_get-map text_of texts at ∙ ap (option_map text_of) (slice_get-get_or texts at other within)

-- one more of the texts
pub more_taken : (texts : List (Bor (List ℕ))) (k : ℕ) (other : Bor (List ℕ)) → k < length texts
    → map text_of (take (k + 1) texts) ≡ map text_of (take k texts) ++ (get_or texts k other).now ∷ []
more_taken texts k other within = ap (map text_of) (take_more texts k other within) ∙ map-append text_of (take k texts) (get_or texts k other ∷ [])

length_taken : (texts : List (Bor (List ℕ))) (k : ℕ) → k ≤ length texts → length (map text_of (take k texts)) ≡ k
length_taken texts k within = length-map (take k texts) text_of ∙ length-take-le k texts within

pub replace_next : (old before new : List (List ℕ)) (texts : List (Bor (List ℕ))) (at k : ℕ) (other : Bor (List ℕ)) → k < length texts
    → at + length texts ≤ length old
    → before ≡ take at old ++ map text_of (take k texts) ++ drop (at + k) old → new ≡ slice_set before (at + k) (get_or texts k other).now
    → new ≡ take at old ++ map text_of (take (k + 1) texts) ++ drop (at + (k + 1)) old
replace_next old before new texts at k other within room e f =
    f ∙ ap (λ (b : List (List ℕ)). slice_set b (at + k) (get_or texts k other).now) e
    ∙ replaced old (map text_of (take k texts)) at k (get_or texts k other).now (length_taken texts k (omega (arith, within))) (omega (arith, within, room))
    ∙ ap (λ (done : List (List ℕ)). take at old ++ done ++ drop (at + (k + 1)) old) (sym (more_taken texts k other within))

pub insert_next : (old before new : List (List ℕ)) (texts : List (Bor (List ℕ))) (at k : ℕ) (other : Bor (List ℕ)) → k < length texts → at ≤ length old
    → before ≡ take at old ++ map text_of (take k texts) ++ drop at old → new ≡ insert before (at + k) (get_or texts k other).now
    → new ≡ take at old ++ map text_of (take (k + 1) texts) ++ drop at old
insert_next old before new texts at k other within room e f =
    f ∙ ap (λ (b : List (List ℕ)). insert b (at + k) (get_or texts k other).now) e
    ∙ inserted old (map text_of (take k texts)) at k (get_or texts k other).now (length_taken texts k (omega (arith, within))) room
    ∙ ap (λ (done : List (List ℕ)). take at old ++ done ++ drop at old) (sym (more_taken texts k other within))

-- how long the lists are between
pub length_replacing : (old before : List (List ℕ)) (texts : List (Bor (List ℕ))) (at k : ℕ) → k ≤ length texts → at + length texts ≤ length old
    → before ≡ take at old ++ map text_of (take k texts) ++ drop (at + k) old → length before ≡ length old
length_replacing old before texts at k within room e =
    let done = map text_of (take k texts) in
    omega (
      arith,
      ap length e,
      length-append (take at old ++ done) (drop (at + k) old),
      length_front old done at k (length_taken texts k within) (omega (arith, room)),
      length-drop (at + k) old,
      within,
      room,
    )

pub length_inserting : (old before : List (List ℕ)) (texts : List (Bor (List ℕ))) (at k : ℕ) → k ≤ length texts → at ≤ length old
    → before ≡ take at old ++ map text_of (take k texts) ++ drop at old → length before ≡ length old + k
length_inserting old before texts at k within room e =
    let done = map text_of (take k texts) in
    omega (
      arith,
      ap length e,
      length-append (take at old ++ done) (drop at old),
      length_front old done at k (length_taken texts k within) room,
      length-drop at old,
      room,
    )

pub length_removing : (old before : List (List ℕ)) (at k : ℕ) → at + k ≤ length old → before ≡ take at old ++ drop (at + k) old → length before ≡ length old - k
length_removing old before at k room e =
    omega (arith, ap length e, length-append (take at old) (drop (at + k) old), length-take-le at old (omega (arith, room)), length-drop (at + k) old, room)

-- a part of the texts
pub part_is : (texts : List (Bor (List ℕ))) (front n : ℕ) → map text_of (slice_range texts front (front + n)) ≡ take n (drop front (map text_of texts))
part_is texts front n =
    let len : front + n - front ≡ n = omega arith in
    ap (λ k. map text_of (take k (drop front texts))) len ∙ sym (take-map text_of n (drop front texts)) ∙ ap (take n) (sym (drop-map text_of front texts))

pub length_part : (texts : List (Bor (List ℕ))) (front n : ℕ) → front + n ≤ length texts → length (slice_range texts front (front + n)) ≡ n
length_part texts front n within =
    let len : front + n - front ≡ n = omega arith in
    ap (λ k. length (take k (drop front texts))) len ∙ length-take-le n (drop front texts) (omega (arith, length-drop front texts, within))

-- one more text of a list is read
pub one_more_read : (all : List (List ℕ)) (texts : List (Bor (List ℕ))) (text : Bor (List ℕ)) (at : ℕ) → at < length all → map text_of texts ≡ take at all
    → slice_get all at ≡ Some text.now
    → map text_of (texts ++ text ∷ []) ≡ take (at + 1) all
one_more_read all texts text at within e is =
    map-append text_of texts (text ∷ []) ∙ ap (λ (front : List (List ℕ)). front ++ text.now ∷ []) e
    ∙ ap (λ (t : List ℕ). take at all ++ t ∷ []) (sym (get_or_from_slice_get all at text.now [] is)) ∙ sym (take_more all at [] within)

-- one more text is cut off
pub one_more_cut : (texts : List (Bor (List ℕ))) (text : Bor (List ℕ)) (rest all : List (List ℕ)) → map text_of texts ++ text.now ∷ rest ≡ all
    → map text_of (texts ++ text ∷ []) ++ rest ≡ all
one_more_cut texts text rest all e =
    ap (λ (front : List (List ℕ)). front ++ rest) (map-append text_of texts (text ∷ [])) ∙ append_assoc (map text_of texts) (text.now ∷ []) rest ∙ e

-- ---- blocks exchanged for texts

differing_same : (old : List (List ℕ)) (texts : List (Bor (List ℕ))) → max (length old) (length (map text_of texts)) ≡ max (length old) (length texts)
differing_same old texts = ap (max (length old)) (length-map texts text_of)

-- too many differ
pub exchanged_anew : (old : List (List ℕ)) (texts : List (Bor (List ℕ))) (new : List (List ℕ)) (front back : ℕ) → map text_of texts ≡ new
    → AtFront old (map text_of texts) front → AtBack old (map text_of texts) front back → edits_max < max (length old) (length texts) - front - back
    → Exchanged old new 0
exchanged_anew old texts new front back same at_front at_back over = subst (λ (blocks : List (List ℕ)). Exchanged old blocks 0) same (record {
  front = front;
  back = back;
  at_front = at_front;
  at_back = at_back;
  few = λ less. absurd (omega (arith, less, over, differing_same old texts));
  many = λ more. refl;
})

-- each that differs is exchanged
pub exchanged_each : (old : List (List ℕ)) (texts : List (Bor (List ℕ))) (now new : List (List ℕ)) (front back edits : ℕ) → map text_of texts ≡ new
    → AtFront old (map text_of texts) front → AtBack old (map text_of texts) front back → max (length old) (length texts) - front - back ≤ edits_max
    → edits ≡ max (length old) (length texts) - front - back → now ≡ map text_of texts → EditsLead edits old now → Exchanged old new edits
exchanged_each old texts now new front back edits same at_front at_back few is made lead =
    subst (λ (blocks : List (List ℕ)). Exchanged old blocks edits) same (record {
      front = front;
      back = back;
      at_front = at_front;
      at_back = at_back;
      few = λ less. (omega (arith, is, differing_same old texts), subst (EditsLead edits old) made lead);
      many = λ more. absurd (omega (arith, more, few, differing_same old texts));
    })
