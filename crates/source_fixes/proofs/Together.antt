-- Certain edits of a block that are made at once.
use Rattle.std.proofs.Common.{◌≡◌, ◌⊎◌, ℕ, zero, suc, ◌+◌, ◌<◌, ◌≤◌, Bool, true, false, cond, Contains, List, [], ◌∷◌, ◌++◌, append_assoc, drop, filter, length}
use Rattle.std.proofs.Common.{nat_le, take, Option, None, Some, slice_get, inl, inr, refl, sym, ap, subst, ◌∙◌, arith}
use Rattle.std.specs.Option.{option_and_then, option_map, option_map_or}
use Rattle.std.proofs.lemmas.Bool.{cases_Bool, false≢true, leb-false, leb-true}
use Rattle.std.proofs.lemmas.List.{append-nil, length-append, length-map, length-set}
use Rattle.std.proofs.lemmas.List.Elements.{filter-append}
use Rattle.std.proofs.lemmas.Option.{slice_get-map, slice_get_cases, slice_get_past, slice_get_within}
use Rattle.ti_text.specs.Texts.{last_byte}
use Rattle.ti_caps.specs.Tables.{Capability, capability_named}
use Rattle.ti_caps.specs.declared.capability.Kind.{Kind}
use Rattle.ti_spelling.specs.Spelling.{spelling_of}
use Rattle.ti_source.specs.Cutting.{OneBlock, begins_head}
use Rattle.ti_source.specs.Folding.{PlacedByte}
use Rattle.ti_source.specs.Items.{bytes, without_front}
use Rattle.ti_source.specs.Reading.{Said}
use Rattle.ti_source.specs.Verdicts.{Verdict, accepted, accepted_odd, refused, said_by}
use Rattle.ti_source.specs.declared.code.Code.{Code}
use Rattle.ti_source.specs.declared.code.Code.TheVariants as code
use Rattle.source_spans.specs.Folding.{bytes_at, folded_of}
use Rattle.source_spans.specs.Parts.{end_of, field_of, items_after, rest_of, spanned, with_first}
use Rattle.source_spans.specs.Replacing.{exchanged, fault_at, item_texts, said_at}
use Rattle.source_spans.specs.Subjects.{head_text, items_of}
use Rattle.source_spans.specs.declared.parts.Part.{Part}
use Rattle.source_spans.proofs.Escaping as machine
use Rattle.source_spans.proofs.Escaping.{Escape, cuts, escape_after, nothing}
use Rattle.source_spans.proofs.Exchanging.{block_from, computed, cut_front, found_raw, head_no_newline, placed_at, some_first}
use Rattle.source_spans.proofs.Recutting.{front_split}
use Rattle.source_spans.proofs.Refolding.{bytes_apart, find_kept, kept_after, kept_safe}
use Rattle.source_spans.proofs.Rereading.{fault_by, fault_is, other_got, said_is, verdict_in}
use Rattle.source_edits.specs.Edits.{EditSeen, advises_caret, advises_sign, advises_spelling, caret_in, edits_for, is_certain, keeps_return, renames_in, sign_at, sign_for}
use Rattle.source_edits.specs.Edits.{signs, spelled, spelling_in}
use Rattle.source_edits.specs.Candidates.{names_for}
use Rattle.source_edits.specs.Carets.{healing_caret}
use Rattle.source_edits.specs.Pieces.{after_name, value_of, without_last, written_name}
use Rattle.source_edits.specs.Shown.{shown}
use Rattle.source_edits.proofs.Exchanging.{no_edit, only_edit}
use Rattle.source_edits.proofs.NamesFit.{each_edit}
use Rattle.source_fixes.specs.Healing.{IsFixed, LosesFault, OneItemChanges, Stays, block_after}
use Rattle.source_fixes.specs.Together.{CertainEditsAreMade, IsSound, StaysAsItWas, TheseAreCertain, certain_edits, certain_for, certain_from, edited_last}
use Rattle.source_fixes.proofs.CaretsMend.{carets_mend}
use Rattle.source_fixes.proofs.Fitting.{Fits}
use Rattle.source_fixes.proofs.SignsHeal.{signs_heal}

-- ---- items before a place do not depend on what is after it

-- how many items end in a text
unfoldable cuts_in : Escape → ℕ → List PlacedByte → ℕ
cuts_in by before [] = 0
cuts_in by before (x ∷ xs) = cond (cuts by x.0) (suc (cuts_in nothing 44 xs)) (cuts_in (escape_after by before x.0) x.0 xs)

first_alike : (x : PlacedByte) (one other : List (List PlacedByte)) → slice_get one zero ≡ slice_get other zero
    → slice_get (with_first x one) zero ≡ slice_get (with_first x other) zero
first_alike x [] [] e = refl
first_alike x [] (o ∷ other) e = absurd cc
first_alike x (i ∷ one) [] e = absurd cc
first_alike x (i ∷ one) (o ∷ other) e = let same : i ≡ o = cc in ap (λ (t : List PlacedByte). Some (x ∷ t)) same

later_alike : (x : PlacedByte) (at : ℕ) (items : List (List PlacedByte)) → slice_get (with_first x items) (suc at) ≡ slice_get items (suc at)
later_alike x at [] = refl
later_alike x at (i ∷ items) = refl

with_alike : (x : PlacedByte) (at : ℕ) (one other : List (List PlacedByte)) → slice_get one at ≡ slice_get other at
    → slice_get (with_first x one) at ≡ slice_get (with_first x other) at
with_alike x zero one other e = first_alike x one other e
with_alike x (suc at) one other e = later_alike x at one ∙ e ∙ sym (later_alike x at other)

after_comma : (one other : List (List PlacedByte)) (count : ℕ) → ((at : ℕ) → at < count → slice_get one at ≡ slice_get other at)
    → (at : ℕ) → at < suc count → slice_get ([] ∷ one) at ≡ slice_get ([] ∷ other) at
after_comma one other count alike zero less = refl
after_comma one other count alike (suc at) less = alike at (omega (arith, less))

ended_alike : (by : Escape) (before at : ℕ) (front one other : List PlacedByte) → at < cuts_in by before front
    → slice_get (machine.items_of by before (front ++ one)) at ≡ slice_get (machine.items_of by before (front ++ other)) at
unfolding cuts_in
ended_alike by before at [] one other less = absurd (omega (arith, less))
ended_alike by before at (x ∷ xs) one other less =
    elim (cases_Bool (cuts by x.0)) [
      | inl t ↦ rw t (after_comma (machine.items_of nothing 44 (xs ++ one)) (machine.items_of nothing 44 (xs ++ other)) (cuts_in nothing 44 xs)
          (λ n below. ended_alike nothing 44 n xs one other below) at (rw t at less))
      | inr f ↦
          rw f (with_alike x at (machine.items_of (escape_after by before x.0) x.0 (xs ++ one)) (machine.items_of (escape_after by before x.0) x.0 (xs ++ other))
          (ended_alike (escape_after by before x.0) x.0 at xs one other (rw f at less)))
    ]

-- an item of a text, and what is before it
record IsAfter (by : Escape) (before : ℕ) (text : List PlacedByte) (at : ℕ) (item : List PlacedByte) : Type 0 where
  front : List PlacedByte
  tail : List PlacedByte
  whole : text ≡ front ++ (item ++ tail)
  ended : at ≤ cuts_in by before front

first_goes_on : (x : PlacedByte) (xs item : List PlacedByte) (items : List (List PlacedByte))
    → ((i : List PlacedByte) → slice_get items zero ≡ Some i → (tail : List PlacedByte) × (xs ≡ i ++ tail)) → slice_get (with_first x items) zero ≡ Some item
    → (tail : List PlacedByte) × (x ∷ xs ≡ item ++ tail)
first_goes_on x xs item [] begins got = let one : x ∷ [] ≡ item = cc in (xs, ap (λ (i : List PlacedByte). i ++ xs) one)
first_goes_on x xs item (i ∷ items) begins got =
    let one : x ∷ i ≡ item = cc in
    let later = begins i refl in (later.0, ap (λ (t : List PlacedByte). x ∷ t) later.1 ∙ ap (λ (t : List PlacedByte). t ++ later.0) one)

first_begins : (by : Escape) (before : ℕ) (text item : List PlacedByte) → slice_get (machine.items_of by before text) zero ≡ Some item
    → (tail : List PlacedByte) × (text ≡ item ++ tail)
first_begins by before [] item e = let none : [] ≡ item = cc in ([], ap (λ (t : List PlacedByte). t ++ []) none)
first_begins by before (x ∷ xs) item e =
    elim (cases_Bool (cuts by x.0)) [
      | inl t ↦ let is : Some [] ≡ Some item = rw t at e in let none : [] ≡ item = cc in (x ∷ xs, ap (λ (i : List PlacedByte). i ++ x ∷ xs) none)
      | inr f ↦
          first_goes_on x xs item (machine.items_of (escape_after by before x.0) x.0 xs)
          (λ i got. first_begins (escape_after by before x.0) x.0 xs i got) (rw f at e)
    ]

is_after : (by : Escape) (before : ℕ) (text : List PlacedByte) (at : ℕ) (item : List PlacedByte) → slice_get (machine.items_of by before text) at ≡ Some item
    → IsAfter by before text at item
unfolding cuts_in
is_after by before text zero item got =
    let first = first_begins by before text item got in record { front = []; tail = first.0; whole = first.1; ended = omega arith }
is_after by before [] (suc at) item got = let none : None ≡ Some item = got in absurd cc
is_after by before (x ∷ xs) (suc at) item got =
    elim (cases_Bool (cuts by x.0)) [
      | inl t ↦
          let later = is_after nothing 44 xs at item (rw t at got) in
          let ended = later.ended in
          record {
            front = x ∷ later.front;
            tail = later.tail;
            whole = ap (λ (l : List PlacedByte). x ∷ l) later.whole;
            ended = rw t (omega (arith, ended));
          }
      | inr f ↦
          let items = machine.items_of (escape_after by before x.0) x.0 xs in
          let there : slice_get (with_first x items) (suc at) ≡ Some item = rw f at got in
          let later = is_after (escape_after by before x.0) x.0 xs (suc at) item (sym (later_alike x at items) ∙ there) in
          record {
            front = x ∷ later.front;
            tail = later.tail;
            whole = ap (λ (l : List PlacedByte). x ∷ l) later.whole;
            ended = rw f later.ended;
          }
    ]

-- ---- a block whose bytes from a place of an item on are others

-- the folded text of a block up to a byte that is kept
same_front : (h : ℕ) (block : List ℕ) (p : PlacedByte) (front : List PlacedByte) (x : PlacedByte) (back : List PlacedByte) (more : List ℕ)
    → begins_head h ≡ true → folded_of (h ∷ block) ≡ (p ∷ front) ++ x ∷ back
    → (rest : List PlacedByte) × (folded_of (take x.1 (h ∷ block) ++ more) ≡ (p ∷ front) ++ rest)
same_front h block p front x back more head e =
    let both : (h, 0) ∷ kept_after false h false (bytes_at 1 block) ≡ p ∷ (front ++ x ∷ back) = sym (block_from h (bytes_at 1 block) head) ∙ e in
    let first : (h, 0) ≡ p = cc in
    let left : kept_after false h false (bytes_at 1 block) ≡ front ++ x ∷ back = cc in
    let found = find_kept false false h 1 block front x back (kept_safe h (head_no_newline h head)) left in
    let here = 1 + length found.before in
    let rest = kept_after found.comment (last_byte h found.before) found.joining (bytes_at here more) in
    let fronts : take x.1 (h ∷ block) ≡ h ∷ found.before =
    ap (λ (t : List ℕ). take x.1 (h ∷ t)) found.whole ∙ cut_front h x.0 found.before found.after x.1 found.place in (
      rest,
      ap (λ (t : List ℕ). folded_of (t ++ more)) fronts ∙ block_from h (bytes_at 1 (found.before ++ more)) head
          ∙ ap (λ (t : List PlacedByte). (h, 0) ∷ kept_after false h false t) (bytes_apart 1 found.before more)
          ∙ ap (λ (t : List PlacedByte). (h, 0) ∷ t) (found.front_kept (bytes_at here more))
          ∙ ap (λ (q : PlacedByte). q ∷ (front ++ rest)) first,
    )

-- the items before that one are as they were, each byte at its place
abbrev EarlierStay : List ℕ → List ℕ → ℕ → Type 0
EarlierStay block after ordinal = (at : ℕ) → at < ordinal → slice_get (items_of (folded_of after)) at ≡ slice_get (items_of (folded_of block)) at

earlier_of : (h : ℕ) (block : List ℕ) (ordinal : ℕ) (raw front : List PlacedByte) (x : PlacedByte) (back : List PlacedByte) (more : List ℕ)
    → begins_head h ≡ true → slice_get (items_after 44 (rest_of (folded_of (h ∷ block)))) ordinal ≡ Some raw → without_front raw ≡ front ++ x ∷ back
    → EarlierStay (h ∷ block) (take x.1 (h ∷ block) ++ more) ordinal
earlier_of h block ordinal raw front x back more head there shown =
    let whole = folded_of (h ∷ block) in
    let after = take x.1 (h ∷ block) ++ more in
    let has = (placed_at whole ordinal raw x front back there shown).rest in
    let field = field_of whole in
    let comma = has.comma in
    let place = is_after nothing 44 (rest_of whole) ordinal raw
    (ap (λ (l : List (List PlacedByte)). slice_get l ordinal) (sym (computed (rest_of whole))) ∙ there) in
    let split = front_split raw in
    let inner = split.white ++ front in
    let first = some_first field (place.front ++ inner) comma in
    let raw_is : raw ≡ inner ++ x ∷ back =
    split.whole ∙ ap (λ (t : List PlacedByte). split.white ++ t) shown ∙ sym (append_assoc split.white front (x ∷ back)) in
    let old : rest_of whole ≡ place.front ++ (inner ++ x ∷ (back ++ place.tail)) =
    place.whole ∙ ap (λ (t : List PlacedByte). place.front ++ (t ++ place.tail)) raw_is
    ∙ ap (λ (t : List PlacedByte). place.front ++ t) (append_assoc inner (x ∷ back) place.tail) in
    let folded : whole ≡ (first.0 ∷ first.1) ++ x ∷ (back ++ place.tail) =
    has.whole ∙ ap (λ (t : List PlacedByte). field ++ comma ∷ t) (old ∙ sym (append_assoc place.front inner (x ∷ (back ++ place.tail))))
    ∙ sym (append_assoc field (comma ∷ (place.front ++ inner)) (x ∷ (back ++ place.tail)))
    ∙ ap (λ (t : List PlacedByte). t ++ x ∷ (back ++ place.tail)) first.2 in
    let new = same_front h block first.0 first.1 x (back ++ place.tail) more head folded in
    let now : rest_of (folded_of after) ≡ place.front ++ (inner ++ new.0) =
    ap rest_of (new.1 ∙ ap (λ (t : List PlacedByte). t ++ new.0) (sym first.2) ∙ append_assoc field (comma ∷ (place.front ++ inner)) new.0)
    ∙ has.rest ((place.front ++ inner) ++ new.0) ∙ append_assoc place.front inner new.0 in
    λ at less.
    let ended = place.ended in
    let same = ended_alike nothing 44 at place.front (inner ++ new.0) (inner ++ x ∷ (back ++ place.tail)) (omega (arith, less, ended)) in
    slice_get-map without_front (items_after 44 (rest_of (folded_of after))) at
    ∙ ap (λ (l : List (List PlacedByte)). option_map without_front (slice_get l at))
    (computed (rest_of (folded_of after)) ∙ ap (machine.items_of nothing 44) now)
    ∙ ap (option_map without_front) same
    ∙ ap (λ (l : List (List PlacedByte)). option_map without_front (slice_get l at))
    (ap (machine.items_of nothing 44) (sym old) ∙ sym (computed (rest_of whole)))
    ∙ sym (slice_get-map without_front (items_after 44 (rest_of whole)) at)

earlier_stay : (block : List ℕ) (ordinal : ℕ) (item front : List PlacedByte) (x : PlacedByte) (back : List PlacedByte) (part : Part) (new : List ℕ)
    → OneBlock block → slice_get (items_of (folded_of block)) ordinal ≡ Some item → item ≡ front ++ x ∷ back → part.start ≡ x.1
    → EarlierStay block (exchanged block part new) ordinal
earlier_stay [] ordinal item front x back part new single there whole starts = absurd single.cut.each.1
earlier_stay (h ∷ block) ordinal item front x back part new single there whole starts =
    let raws = items_after 44 (rest_of (folded_of (h ∷ block))) in
    let found = found_raw (slice_get raws ordinal) item (sym (slice_get-map without_front raws ordinal) ∙ there) in
    let more = new ++ drop part.end (h ∷ block) in
    let is : exchanged (h ∷ block) part new ≡ take x.1 (h ∷ block) ++ more =
    append_assoc (take part.start (h ∷ block)) new (drop part.end (h ∷ block)) ∙ ap (λ (n : ℕ). take n (h ∷ block) ++ more) starts in
    subst (λ (after : List ℕ). EarlierStay (h ∷ block) after ordinal) (sym is)
    (earlier_of h block ordinal found.0 front x back more single.cut.each.1.0 found.1 (found.2 ∙ whole))

-- ---- an item has at most one certain edit

abbrev IsFew : List EditSeen → Type 0
IsFew edits = (edits ≡ []) ⊎ ((edit : EditSeen) × (edits ≡ edit ∷ []) × (is_certain edit.advice ≡ true))

few_sign : (kind : Kind) (at : ℕ) (o : Option (List ℕ)) → IsFew (sign_at kind at o)
few_sign kind at None = inl refl
few_sign kind at (Some text) = inr (record { advice = advises_sign kind; part = record { start = at; end = suc at }; text = text }, refl, refl)

few_signs : (kind : Kind) (rest raw : List PlacedByte) → IsFew (signs kind rest raw)
few_signs kind [] raw = inl refl
few_signs kind (x ∷ value) raw = few_sign kind x.1 (sign_for kind (bytes value) (bytes raw))

few_kind : (rest raw : List PlacedByte) (o : Option Capability) → IsFew (option_map_or (λ (c : Capability). signs c.kind rest raw) o [])
few_kind rest raw None = inl refl
few_kind rest raw (Some c) = few_signs c.kind rest raw

few_carets : (o : Option Part) → IsFew (caret_in o)
few_carets None = inl refl
few_carets (Some part) = inr (record { advice = advises_caret; part = part; text = 92 ∷ 94 ∷ [] }, refl, refl)

few : (item : List PlacedByte) (fault : Option Code) → IsFew (certain_for item fault)
few item None = inl refl
few item (Some code.WrongKind) = few_kind (after_name item) (value_of item) (capability_named (bytes (written_name item)))
few item (Some code.BadString) = few_carets (healing_caret (value_of item))
few item (Some _) = inl refl

certain_one : (edits : List EditSeen) (edit : EditSeen) → IsFew edits → Contains edits edit → is_certain edit.advice ≡ true
certain_one edits edit (inl none) has = absurd (no_edit edit (subst (λ (l : List EditSeen). Contains l edit) none has))
certain_one edits edit (inr (one, is, certain)) has =
    subst (λ (e : EditSeen). is_certain e.advice ≡ true) (only_edit one edit (subst (λ (l : List EditSeen). Contains l edit) is has)) certain

offered : (item : List PlacedByte) (fault : Option Code) (value : Option (List ℕ)) (edit : EditSeen) → Contains (certain_for item fault) edit
    → Contains (edits_for item fault value) edit
offered item None value edit has = absurd (no_edit edit has)
offered item (Some code.WrongKind) value edit has = has
offered item (Some code.BadString) value edit has = has
offered item (Some _) value edit has = absurd (no_edit edit has)

-- another name is not certain, nor is a spelling
name_guessed : (name : List ℕ) (others : List (List ℕ)) (o : Option Part) (edit : EditSeen) → Contains (renames_in name others o) edit
    → is_certain edit.advice ≡ false
name_guessed name others None edit has = absurd (no_edit edit has)
name_guessed name others (Some part) edit has =
    each_edit (λ (e : EditSeen). is_certain e.advice ≡ false) name part others edit (λ index d within. refl) has

spelling_guessed : (value : List ℕ) (o : Option Part) (edit : EditSeen) → Contains (spelling_in value o) edit → is_certain edit.advice ≡ false
spelling_guessed value None edit has = absurd (no_edit edit has)
spelling_guessed value (Some part) edit has =
    let one : EditSeen = record { advice = advises_spelling; part = part; text = shown (spelling_of value) } in
    subst (λ (e : EditSeen). is_certain e.advice ≡ false) (only_edit one edit has) refl

spelled_guessed : (raw : List PlacedByte) (value : List ℕ) (edit : EditSeen) → Contains (spelled raw value) edit → is_certain edit.advice ≡ false
spelled_guessed raw value edit has =
    elim (cases_Bool (keeps_return (bytes raw) value)) [
      | inl t ↦ spelling_guessed (without_last value) (spanned (without_last raw)) edit (rw t at has)
      | inr f ↦ spelling_guessed value (spanned raw) edit (rw f at has)
    ]

guessed_not : (b : Bool) → b ≡ false → b ≡ true → ⊥
guessed_not b is not = false≢true (sym is ∙ not)

no_others : (item : List PlacedByte) (fault : Option Code) (value : Option (List ℕ)) (edit : EditSeen) → Contains (edits_for item fault value) edit
    → is_certain edit.advice ≡ true → Contains (certain_for item fault) edit
no_others item None value edit has certain = absurd (no_edit edit has)
no_others item (Some code.WrongKind) value edit has certain = has
no_others item (Some code.BadString) value edit has certain = has
no_others item (Some code.UnknownCapability) value edit has certain =
    let name = written_name item in
    absurd (guessed_not (is_certain edit.advice) (name_guessed (bytes name) (names_for (after_name item)) (spanned name) edit has) certain)
no_others item (Some code.UnknownEscape) None edit has certain = absurd (no_edit edit has)
no_others item (Some code.UnknownEscape) (Some value) edit has certain =
    absurd (guessed_not (is_certain edit.advice) (spelled_guessed (value_of item) value edit has) certain)
no_others item (Some _) value edit has certain = absurd (no_edit edit has)

pub these_are_certain : TheseAreCertain
these_are_certain = record {
  these = λ item fault value edit has. (offered item fault value edit has, certain_one (certain_for item fault) edit (few item fault) has);
  no_others = no_others;
}

-- that of an item is chosen, or none is
data IsChosen (chosen : EditSeen → Bool) (edits : List EditSeen) : Type 0 where
  none_is : filter chosen edits ≡ [] → ((edit : EditSeen) → Contains edits edit → chosen edit ≡ true → ⊥) → IsChosen chosen edits
  one_is : (edit : EditSeen) → filter chosen edits ≡ edit ∷ [] → Contains edits edit → chosen edit ≡ true → IsChosen chosen edits

is_chosen : (chosen : EditSeen → Bool) (edits : List EditSeen) → IsFew edits → IsChosen chosen edits
is_chosen chosen edits (inl none) =
    none_is (ap (filter chosen) none) (λ edit has is. no_edit edit (subst (λ (l : List EditSeen). Contains l edit) none has))
is_chosen chosen edits (inr (one, is, certain)) =
    elim (cases_Bool (chosen one)) [
      | inl t ↦
          one_is one (ap (filter chosen) is ∙ rw t refl)
          (subst (λ (l : List EditSeen). Contains l one) (sym is) (0, omega arith, refl)) t
      | inr f ↦
          none_is (ap (filter chosen) is ∙ rw f refl)
          (λ edit has yes.
          let same = only_edit one edit (subst (λ (l : List EditSeen). Contains l edit) is has) in
          let no : chosen edit ≡ false = ap chosen (sym same) ∙ f in
          false≢true (sym no ∙ yes))
    ]

-- ---- one of them

-- an item that says something has no other fault
sound_by : (o : Option Verdict) (said : Said) (found : Code) → option_and_then said_by o ≡ Some said → option_and_then fault_by o ≡ Some found
    → found ≡ code.UnknownEscape
sound_by None said found says e = absurd cc
sound_by (Some (accepted s)) said found says e = absurd cc
sound_by (Some (accepted_odd s)) said found says e = let same : code.UnknownEscape ≡ found = cc in sym same
sound_by (Some (refused c)) said found says e = absurd cc

is_sound : (block : List ℕ) (ordinal : ℕ) (said : Said) → said_at block ordinal ≡ Some said → IsSound block ordinal
is_sound block ordinal said says =
    let verdict = option_and_then verdict_in (slice_get (item_texts block) ordinal) in
    record {
      said = said;
      says = says;
      fault = λ found e. sound_by verdict said found (sym (said_is block ordinal) ∙ says) (sym (fault_is block ordinal) ∙ e);
    }

record IsMade (block after : List ℕ) (ordinal : ℕ) : Type 0 where
  single : OneBlock after
  text : List ℕ
  changes : OneItemChanges block after ordinal text
  sound : IsSound after ordinal
  earlier : EarlierStay block after ordinal

starts_there : (middle : List PlacedByte) (part : Part) → spanned middle ≡ Some part → (x : PlacedByte) × (xs : List PlacedByte) × (middle ≡ x ∷ xs)
    × (part.start ≡ x.1)
starts_there [] part e = absurd cc
starts_there (x ∷ xs) part e =
    let same : record { start = x.1; end = end_of (suc x.1) xs } ≡ part = cc in (x, xs, refl, ap (λ (p : Part). p.start) (sym same))

earlier_fits : (block : List ℕ) (ordinal : ℕ) (item : List PlacedByte) (edit : EditSeen) → OneBlock block
    → slice_get (items_of (folded_of block)) ordinal ≡ Some item → Fits item edit → EarlierStay block (block_after block edit) ordinal
earlier_fits block ordinal item edit single there fits =
    elim fits.how [
      | inl one ↦ earlier_stay block ordinal item one.front one.byte one.back edit.part edit.text single there one.whole (ap (λ (p : Part). p.start) one.there)
      | inr more ↦
          let r = more.1 in
          let begins = starts_there r.middle edit.part r.there in
          earlier_stay block ordinal item r.front begins.0 (begins.1 ++ r.back) edit.part edit.text single there
          (r.whole ∙ ap (λ (m : List PlacedByte). r.front ++ (m ++ r.back)) begins.2) begins.3
    ]

fixed_as : (c found : Code) (block after : List ℕ) (ordinal : ℕ) (text : List ℕ) → found ≡ c → IsFixed found block after ordinal text
    → IsFixed c block after ordinal text
fixed_as c found block after ordinal text same is = subst (λ (k : Code). IsFixed k block after ordinal text) same is

-- an edit by which an item loses a fault, and says something then
one_made_by : (c : Code) (block : List ℕ) (ordinal : ℕ) (item : List PlacedByte) (edit : EditSeen) → OneBlock block
    → slice_get (items_of (folded_of block)) ordinal ≡ Some item
    → ((text : List ℕ) → IsFixed c block (block_after block edit) ordinal text → (said : Said) × (said_at (block_after block edit) ordinal ≡ Some said))
    → fault_at block ordinal ≡ Some c → LosesFault block (block_after block edit) ordinal × Stays block edit × Fits item edit
    → IsMade block (block_after block edit) ordinal
one_made_by c block ordinal item edit single there says had heals =
    let loses = heals.0 in
    let same : loses.code ≡ c = let h = loses.had in cc in
    let now = says loses.text (fixed_as c loses.code block (block_after block edit) ordinal loses.text same loses.fixed) in
    record {
      single = heals.1.1;
      text = loses.text;
      changes = loses.changes;
      sound = is_sound (block_after block edit) ordinal now.0 now.1;
      earlier = earlier_fits block ordinal item edit single there heals.2;
    }

one_made : (block : List ℕ) (ordinal : ℕ) (item : List PlacedByte) (edit : EditSeen) (o : Option Code) → OneBlock block
    → slice_get (items_of (folded_of block)) ordinal ≡ Some item → fault_at block ordinal ≡ o → Contains (certain_for item o) edit
    → IsMade block (block_after block edit) ordinal
one_made block ordinal item edit None single there had has = absurd (no_edit edit has)
one_made block ordinal item edit (Some code.WrongKind) single there had has =
    one_made_by code.WrongKind block ordinal item edit single there (λ text fixed. fixed) had (signs_heal block ordinal item edit single there had has)
one_made block ordinal item edit (Some code.BadString) single there had has =
    one_made_by code.BadString block ordinal item edit single there (λ text fixed. fixed) had (carets_mend block ordinal item edit single there had has)
one_made block ordinal item edit (Some _) single there had has = absurd (no_edit edit has)

-- ---- those of the items from one on

record AreMadeFrom (chosen : EditSeen → Bool) (block after : List ℕ) (from : ℕ) : Type 0 where
  one : OneBlock after
  head : head_text after ≡ head_text block
  as_many : length (item_texts after) ≡ length (item_texts block)
  earlier : EarlierStay block after from
  before : (at : ℕ) → at < from → (said_at after at ≡ said_at block at) × (fault_at after at ≡ fault_at block at)
  sound : (ordinal : ℕ) (item : List PlacedByte) (edit : EditSeen) → from ≤ ordinal → slice_get (items_of (folded_of block)) ordinal ≡ Some item
      → Contains (certain_for item (fault_at block ordinal)) edit → chosen edit ≡ true → IsSound after ordinal
  others : (ordinal : ℕ) (item : List PlacedByte) → from ≤ ordinal → slice_get (items_of (folded_of block)) ordinal ≡ Some item
      → filter chosen (certain_for item (fault_at block ordinal)) ≡ [] → StaysAsItWas block after ordinal

none_made : (chosen : EditSeen → Bool) (block : List ℕ) (from : ℕ) → OneBlock block → length (items_of (folded_of block)) ≡ from
    → AreMadeFrom chosen block block from
none_made chosen block from single size = record {
  one = single;
  head = refl;
  as_many = refl;
  earlier = λ at less. refl;
  before = λ at less. (refl, refl);
  sound = λ ordinal item edit past got has is.
      let no = slice_get_past (items_of (folded_of block)) ordinal (omega (arith, past, size)) in let end : None ≡ Some item = sym no ∙ got in absurd cc;
  others = λ ordinal item past got none. record { text = refl; says = refl; fault = refl };
}

-- this one, or one after it
this_or_later : (from ordinal : ℕ) → from ≤ ordinal → (ordinal ≡ from) ⊎ (suc from ≤ ordinal)
this_or_later from ordinal past =
    elim (cases_Bool (nat_le (suc from) ordinal)) [
      | inl t ↦ inr (leb-true (suc from) ordinal t)
      | inr f ↦ let less = leb-false (suc from) ordinal f in inl (omega (arith, past, less))
    ]

same_text : (block after : List ℕ) (at : ℕ) → slice_get (items_of (folded_of after)) at ≡ slice_get (items_of (folded_of block)) at
    → slice_get (item_texts after) at ≡ slice_get (item_texts block) at
same_text block after at e =
    slice_get-map bytes (items_of (folded_of after)) at ∙ ap (option_map bytes) e ∙ sym (slice_get-map bytes (items_of (folded_of block)) at)

-- none of this item is chosen
skipped : (chosen : EditSeen → Bool) (block after : List ℕ) (from : ℕ) (item : List PlacedByte) → slice_get (items_of (folded_of block)) from ≡ Some item
    → ((edit : EditSeen) → Contains (certain_for item (fault_at block from)) edit → chosen edit ≡ true → ⊥)
    → AreMadeFrom chosen block after (suc from) → AreMadeFrom chosen block after from
skipped chosen block after from item there never made = record {
  one = made.one;
  head = made.head;
  as_many = made.as_many;
  earlier = λ at less. made.earlier at (omega (arith, less));
  before = λ at less. made.before at (omega (arith, less));
  sound = λ ordinal other edit past got has is.
      elim (this_or_later from ordinal past) [
        | inl same ↦
            let one : Some item ≡ Some other = sym there ∙ ap (slice_get (items_of (folded_of block))) (sym same) ∙ got in
            let is_it : other ≡ item = cc in
            absurd (never edit (subst (λ (n : ℕ). Contains (certain_for item (fault_at block n)) edit) same
            (subst (λ (i : List PlacedByte). Contains (certain_for i (fault_at block ordinal)) edit) is_it has)) is)
        | inr later ↦ made.sound ordinal other edit later got has is
      ];
  others = λ ordinal other past got none.
      elim (this_or_later from ordinal past) [
        | inl same ↦
            let here = made.before from (omega arith) in
            subst (StaysAsItWas block after) (sym same)
            (record { text = same_text block after from (made.earlier from (omega arith)); says = here.0; fault = here.1 })
        | inr later ↦ made.others ordinal other later got none
      ];
}

-- one of this item is chosen
one_more : (chosen : EditSeen → Bool) (block after : List ℕ) (from : ℕ) (item : List PlacedByte) (edit : EditSeen)
    → slice_get (items_of (folded_of block)) from ≡ Some item → filter chosen (certain_for item (fault_at block from)) ≡ edit ∷ []
    → Contains (certain_for item (fault_at block from)) edit → AreMadeFrom chosen block after (suc from)
    → AreMadeFrom chosen block (block_after after edit) from
one_more chosen block after from item edit there chooses has made =
    let now = block_after after edit in
    let same_item = made.earlier from (omega arith) ∙ there in
    let here = made.before from (omega arith) in
    let one = one_made after from item edit (fault_at block from) made.one same_item here.1 has in
    let apart : (at : ℕ) → suc from ≤ at → (at ≡ from → ⊥) = λ at later same. omega (arith, later, same) in
    let below : (at : ℕ) → at < from → (at ≡ from → ⊥) = λ at less same. omega (arith, less, same) in
    record {
      one = one.single;
      head = one.changes.head ∙ made.head;
      as_many = ap length one.changes.texts ∙ length-set (item_texts after) from one.text ∙ made.as_many;
      earlier = λ at less. one.earlier at less ∙ made.earlier at (omega (arith, less));
      before = λ at less.
          let kept = one.changes.others at (below at less) in
          let was = made.before at (omega (arith, less)) in (kept.0 ∙ was.0, kept.1 ∙ was.1);
      sound = λ ordinal other e past got contains is.
          elim (this_or_later from ordinal past) [
            | inl same ↦ subst (IsSound now) (sym same) one.sound
            | inr later ↦
                let was = made.sound ordinal other e later got contains is in
                let kept = one.changes.others ordinal (apart ordinal later) in
                record { said = was.said; says = kept.0 ∙ was.says; fault = λ found f. was.fault found (sym kept.1 ∙ f) }
          ];
      others = λ ordinal other past got none.
          elim (this_or_later from ordinal past) [
            | inl same ↦
                let is : Some item ≡ Some other = sym there ∙ ap (slice_get (items_of (folded_of block))) (sym same) ∙ got in
                let is_it : other ≡ item = cc in
                let empty : filter chosen (certain_for item (fault_at block from)) ≡ [] =
                subst (λ (n : ℕ). filter chosen (certain_for item (fault_at block n)) ≡ []) same
                (subst (λ (i : List PlacedByte). filter chosen (certain_for i (fault_at block ordinal)) ≡ []) is_it none) in
                let no : edit ∷ [] ≡ [] = sym chooses ∙ empty in
                absurd cc
            | inr later ↦
                let was = made.others ordinal other later got none in
                let kept = one.changes.others ordinal (apart ordinal later) in
                record {
                  text = ap (λ (l : List (List ℕ)). slice_get l ordinal) one.changes.texts
                      ∙ other_got (item_texts after) from ordinal one.text (apart ordinal later) ∙ was.text;
                  says = kept.0 ∙ was.says;
                  fault = kept.1 ∙ was.fault;
                }
          ];
    }

both_edited : (block : List ℕ) (one other : List EditSeen) → edited_last block (one ++ other) ≡ edited_last (edited_last block other) one
both_edited block [] other = refl
both_edited block (edit ∷ edits) other = ap (λ (t : List ℕ). block_after t edit) (both_edited block edits other)

at_seam : (front : List (List PlacedByte)) (item : List PlacedByte) (rest : List (List PlacedByte)) → slice_get (front ++ item ∷ rest) (length front) ≡ Some item
at_seam [] item rest = refl
at_seam (f ∷ front) item rest =
    let size : length (f ∷ front) ≡ suc (length front) = omega arith in
    ap (slice_get (f ∷ (front ++ item ∷ rest))) size ∙ at_seam front item rest

by_choice : (chosen : EditSeen → Bool) (block : List ℕ) (from : ℕ) (item : List PlacedByte) (after : List ℕ)
    → slice_get (items_of (folded_of block)) from ≡ Some item → AreMadeFrom chosen block after (suc from)
    → IsChosen chosen (certain_for item (fault_at block from))
    → AreMadeFrom chosen block (edited_last after (filter chosen (certain_for item (fault_at block from)))) from
by_choice chosen block from item after there later (none_is none never) =
    subst (λ (l : List EditSeen). AreMadeFrom chosen block (edited_last after l) from) (sym none) (skipped chosen block after from item there never later)
by_choice chosen block from item after there later (one_is edit is has picked) =
    subst (λ (l : List EditSeen). AreMadeFrom chosen block (edited_last after l) from) (sym is) (one_more chosen block after from item edit there is has later)

made_from : (chosen : EditSeen → Bool) (block : List ℕ) (front rest : List (List PlacedByte)) (from : ℕ) → OneBlock block
    → items_of (folded_of block) ≡ front ++ rest → length front ≡ from
    → AreMadeFrom chosen block (edited_last block (filter chosen (certain_from block from rest))) from
made_from chosen block front [] from single whole size =
    none_made chosen block from single (ap length whole ∙ ap length (append-nil front) ∙ size)
made_from chosen block front (item ∷ rest) from single whole size =
    let mine = certain_for item (fault_at block from) in
    let others = certain_from block (suc from) rest in
    let later = made_from chosen block (front ++ item ∷ []) rest (suc from) single (whole ∙ sym (append_assoc front (item ∷ []) rest))
    (length-append front (item ∷ []) ∙ omega (arith, size)) in
    let after = edited_last block (filter chosen others) in
    let there : slice_get (items_of (folded_of block)) from ≡ Some item =
    ap (λ (l : List (List PlacedByte)). slice_get l from) whole ∙ ap (slice_get (front ++ item ∷ rest)) (sym size) ∙ at_seam front item rest in
    let split : edited_last block (filter chosen (mine ++ others)) ≡ edited_last after (filter chosen mine) =
    ap (edited_last block) (filter-append chosen mine others) ∙ both_edited block (filter chosen mine) (filter chosen others) in
    subst (λ (t : List ℕ). AreMadeFrom chosen block t from) (sym split)
    (by_choice chosen block from item after there later (is_chosen chosen mine (few item (fault_at block from))))

-- an item of a block that has a certain edit then
no_certain : (item : List PlacedByte) (o : Option Code) (edit : EditSeen) → ((found : Code) → o ≡ Some found → found ≡ code.UnknownEscape)
    → Contains (certain_for item o) edit → ⊥
no_certain item None edit only has = no_edit edit has
no_certain item (Some c) edit only has = no_edit edit (subst (λ (k : Code). Contains (certain_for item (Some k)) edit) (only c refl) has)

left_over : (chosen : EditSeen → Bool) (block after : List ℕ) → AreMadeFrom chosen block after 0 → (ordinal : ℕ) (item : List PlacedByte) (edit : EditSeen)
    → slice_get (items_of (folded_of after)) ordinal ≡ Some item → Contains (certain_for item (fault_at after ordinal)) edit → StaysAsItWas block after ordinal
left_over chosen block after made ordinal item edit got has =
    let within = slice_get_within (items_of (folded_of after)) ordinal item got in
    let size : length (items_of (folded_of after)) ≡ length (items_of (folded_of block)) =
    sym (length-map (items_of (folded_of after)) bytes) ∙ made.as_many ∙ length-map (items_of (folded_of block)) bytes in
    elim (slice_get_cases (items_of (folded_of block)) ordinal).1 [
      | inl found ↦
          elim (is_chosen chosen (certain_for found.0 (fault_at block ordinal)) (few found.0 (fault_at block ordinal))) [
            | none_is none never ↦ made.others ordinal found.0 (omega arith) found.2 none
            | one_is one is there picked ↦
                let sound = made.sound ordinal found.0 one (omega arith) found.2 there picked in
                absurd (no_certain item (fault_at after ordinal) edit sound.fault has)
          ]
      | inr past ↦ let end = past.0 in absurd (omega (arith, within, size, end))
    ]

pub certain_made : CertainEditsAreMade
certain_made chosen block single =
    let made = made_from chosen block [] (items_of (folded_of block)) 0 single refl refl in
    record {
      one = made.one;
      head = made.head;
      as_many = made.as_many;
      sound = λ ordinal item edit got has is. made.sound ordinal item edit (omega arith) got has is;
      others = λ ordinal item got none. made.others ordinal item (omega arith) got none;
      left = λ ordinal item edit got has. left_over chosen block (edited_last block (filter chosen (certain_edits block))) made ordinal item edit got has;
    }
