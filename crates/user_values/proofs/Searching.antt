-- Where a binary search ends among the entries of a table, and what an edit there makes of them.
use Rattle.std.proofs.Common.{◌≡◌, ℕ, zero, suc, ◌+◌, ◌<◌, ◌≤◌, false, List, [], ◌∷◌, ◌++◌, length, get_or, take, Option, Some, None, is_some}
use Rattle.std.proofs.Common.{Result, Ok, Err, IfOk, IfErr, OnErr, OnOk, refl, sym, ap, ◌∙◌, subst, inl, inr, arith, Less, Equal, Greater}
use Rattle.std.specs.Option.{option_or}
use Rattle.std.specs.List.{insert}
use Rattle.std.specs.List.Sorted.{IsSearchInRange, IsBinarySearchResult, IsNonDecreasingBy}
use Rattle.std.specs.Ordering.{nat_cmp, is_eq, ordering_index, ordering_reverse}
use Rattle.std.specs.Cmp.Lexicographic.{slice_cmp, bytes_decides}
use Rattle.std.specs.Rc.{rc_slice_items}
use Rattle.std.specs.declared.alloc.Global.{Global}
use Rattle.std.specs.declared.cmp.Ordering.{Ordering}
use Rattle.std.specs.declared.rc.Rc.{Rc}
use Rattle.std.specs.declared.vec.Vec.{Vec}
use Rattle.std.proofs.lemmas.Bool.{cases_lt, false≢true}
use Rattle.std.proofs.lemmas.Cmp.{nat_list_cmp_total}
use Rattle.std.proofs.lemmas.List.{get_or-map, length-map, map-append}
use Rattle.std.proofs.lemmas.Map.Text.{is_eq-slice_cmp}
use Rattle.ti_text.proofs.Lists.{map-take_item}
use Rattle.ti_layout.specs.Values.{Content, content_of}
use Rattle.user_values.specs.Expansion.{UserMention}
use Rattle.user_values.specs.Tables.{TableSeen, NamesRise, entries_seen, entry_seen, said_at, said_once}
use Rattle.user_values.specs.inside.Entries.{held_seen, AddsEntries, AddsEntry, IsAt, IsGapFor}
use Rattle.user_values.specs.declared.entries.UserEntry.{UserEntry}
use Rattle.user_values.proofs.Saying.{rise-insert, said-insert, said_here, said_nowhere, nowhere, added_behind, said_more}

abbrev pub Entries : Type 0
Entries = List (Rc UserEntry Global)

abbrev seen : Rc UserEntry Global → UserMention
seen e = entry_seen e.value

abbrev name_in : Rc UserEntry Global → List ℕ
name_in e = rc_slice_items e.value.name

-- ---- names in order

same_names : (x y : List ℕ) → slice_cmp nat_cmp x y ≡ Equal → x ≡ y
same_names x y e = (bytes_decides x y).0 (sym (is_eq-slice_cmp x y) ∙ ap is_eq e)

at_most : (o : Ordering) (k : ℕ) → o ≡ Less → ordering_index o ≤ k
at_most o k e = subst (λ (p : Ordering). ordering_index p ≤ k) (sym e) (omega arith)

at_most_two : (o : Ordering) → ordering_index o ≤ 2
at_most_two Less = omega arith
at_most_two Equal = omega arith
at_most_two Greater = omega arith

less_index : (x y n : List ℕ) → slice_cmp nat_cmp x y ≡ Less → ordering_index (slice_cmp nat_cmp x n) ≤ ordering_index (slice_cmp nat_cmp y n)
less_index x y n l =
    elim (slice_cmp nat_cmp y n) as (λ o. slice_cmp nat_cmp y n ≡ o → ordering_index (slice_cmp nat_cmp x n) ≤ ordering_index o) [
      | Less ↦ λ e. at_most (slice_cmp nat_cmp x n) 0 (nat_list_cmp_total.trans x y n l e)
      | Equal ↦ λ e. at_most (slice_cmp nat_cmp x n) 1 (subst (λ (z : List ℕ). slice_cmp nat_cmp x z ≡ Less) (same_names y n e) l)
      | Greater ↦ λ e. at_most_two (slice_cmp nat_cmp x n)
    ] refl

-- ---- where a search ends

-- an item of a list that has one
some_item : {X : Type 0} (xs : List X) (i : ℕ) → i < length xs → X
some_item [] i l = absurd (omega (arith, l))
some_item (x ∷ xs) i l = x

-- how the name of an entry stands to another name
abbrev pub to_name : List ℕ → Rc UserEntry Global → Ordering
to_name name e = slice_cmp nat_cmp (rc_slice_items e.value.name) name

module _ (xs : Entries) (rise : NamesRise (entries_seen xs)) (name : List ℕ) where
  read : (i : ℕ) (d : Rc UserEntry Global) (e : UserMention) → i < length xs → get_or (entries_seen xs) i e ≡ seen (get_or xs i d)
  read i d e within = get_or-map seen xs i d e within

  comparisons_rise : IsNonDecreasingBy (λ e. ordering_index (to_name name e)) xs
  comparisons_rise i j d le within = elim (cases_lt i j) [
    | inl below ↦
        let low : i < length xs = omega (arith, below, within) in
        let rises = rise i j (seen d) below (rw length-map within) in
        let up : slice_cmp nat_cmp (name_in (get_or xs i d)) (name_in (get_or xs j d)) ≡ Less =
        ap (λ (m : UserMention). slice_cmp nat_cmp m.0 (name_in (get_or xs j d))) (sym (read i d (seen d) low))
        ∙ ap (λ (m : UserMention). slice_cmp nat_cmp (get_or (entries_seen xs) i (seen d)).0 m.0) (sym (read j d (seen d) within)) ∙ rises in
        less_index (name_in (get_or xs i d)) (name_in (get_or xs j d)) name up
    | inr not_below ↦
        let one : i ≡ j = omega (arith, le, not_below) in
        subst (λ k. ordering_index (to_name name (get_or xs i d)) ≤ ordering_index (to_name name (get_or xs k d))) one (omega arith)
  ]

  found_at : (i : ℕ) → i < length xs → ((d : Rc UserEntry Global) → to_name name (get_or xs i d) ≡ Equal) → IsAt (entries_seen xs) name i
  found_at i within equal = record {
    within = rw length-map within;
    is_here = λ e.
        let d = some_item xs i within in
        ap (λ (m : UserMention). m.0) (read i d e within) ∙ same_names (name_in (get_or xs i d)) name (equal d);
  }

  gap_at : (i : ℕ) → i ≤ length xs → IsBinarySearchResult (to_name name) xs (Err i) → IsGapFor (entries_seen xs) name i
  gap_at i within parted =
      let parts = parted comparisons_rise in
      record {
        within = rw length-map within;
        before = λ j e low.
            let l : j < length xs = omega (arith, low, within) in
            let d = some_item xs j l in
            ap (λ (m : UserMention). slice_cmp nat_cmp m.0 name) (read j d e l) ∙ parts.0 j d (omega arith) low;
        after = λ j e high l'.
            let l : j < length xs = rw length-map at l' in
            let d = some_item xs j l in
            ap (λ (m : UserMention). slice_cmp nat_cmp name m.0) (read j d e l) ∙ nat_list_cmp_total.antisymm name (name_in (get_or xs j d))
            ∙ ap ordering_reverse (parts.1 j d high l);
      }

  pub searched_found : (r : Result ℕ ℕ) → IsSearchInRange r (length xs) → IsBinarySearchResult (to_name name) xs r → IfOk r (IsAt (entries_seen xs) name)
  searched_found (Ok i) within equal = found_at i within equal
  searched_found (Err i) within parted = tt

  pub searched_absent : (r : Result ℕ ℕ) → IsSearchInRange r (length xs) → IsBinarySearchResult (to_name name) xs r → IfErr r (IsGapFor (entries_seen xs) name)
  searched_absent (Ok i) within equal = tt
  searched_absent (Err i) within parted = gap_at i within parted

  -- what is at the index is what the entries say
  pub value_here : (i : ℕ) (d : Rc UserEntry Global) → IsAt (entries_seen xs) name i
      → Some (content_of (get_or xs i d).value.value) ≡ said_at (entries_seen xs) name
  value_here i d at =
      let within : i < length xs = rw length-map at at.within in
      sym (said_here (entries_seen xs) name i (seen d) rise at.within (at.is_here (seen d)) ∙ ap (λ (m : UserMention). Some m.1) (read i d (seen d) within))

  pub value_nowhere : (i : ℕ) → IsGapFor (entries_seen xs) name i → None ≡ said_at (entries_seen xs) name
  value_nowhere i gap = sym (said_nowhere (entries_seen xs) name (nowhere (entries_seen xs) name i gap))

-- ---- one more entry

map-insert : (xs : Entries) (i : ℕ) (e : Rc UserEntry Global) → entries_seen (insert xs i e) ≡ insert (entries_seen xs) i (seen e)
map-insert xs zero e = refl
map-insert [] (suc i) e = refl
map-insert (x ∷ xs) (suc i) e = ap (λ t. seen x ∷ t) (map-insert xs i e)

abbrev EntryVec : Type 0
EntryVec = Vec (Rc UserEntry Global) Global

abbrev Held : Type 0
Held = Option (Rc EntryVec Global)

-- the entries with one more in its place
pub list_more : (list more : Entries) (old : TableSeen) (i : ℕ) (entry : Rc UserEntry Global) → entries_seen list ≡ old → more ≡ insert list i entry
    → entries_seen more ≡ insert old i (entry_seen entry.value)
list_more list more old i entry same inserted =
    ap (λ (xs : Entries). entries_seen xs) inserted ∙ map-insert list i entry ∙ ap (λ (t : TableSeen). insert t i (seen entry)) same

pub as_many : (xs ys : Entries) (i : ℕ) → entries_seen xs ≡ entries_seen ys → i ≤ length ys → i ≤ length xs
as_many xs ys i same within =
    let l : length (entries_seen xs) ≡ length (entries_seen ys) = ap (λ (t : TableSeen). length t) same in
    let m : length (entries_seen xs) ≡ length xs = length-map xs seen in
    let n : length (entries_seen ys) ≡ length ys = length-map ys seen in
    omega (arith, within, l, m, n)

-- so in what is held, of an entry that is shared
pub put_more : (held : Held) (list : Rc EntryVec Global) (new : TableSeen) (i : ℕ) (copy entry : UserEntry) → held ≡ Some list → copy ≡ entry
    → new ≡ insert (entries_seen list.value.items) i (entry_seen copy) → new ≡ insert (held_seen held) i (entry_seen entry)
put_more held list new i copy entry is same more =
    more ∙ ap (λ (h : Held). insert (held_seen h) i (entry_seen copy)) (sym is) ∙ ap (λ (e : UserEntry). insert (held_seen held) i (entry_seen e)) same

pub rises_more : (old new : TableSeen) (i : ℕ) (entry : UserEntry) → new ≡ insert old i (entry_seen entry) → NamesRise old
    → IsGapFor old (entry_seen entry).0 i → NamesRise new
rises_more old new i entry is rise gap = subst (λ (t : TableSeen). NamesRise t) (sym is) (rise-insert old i (entry_seen entry) rise gap)

pub rises_put : {T E : Type 0} (r : Result T E) (old new : TableSeen) (i : ℕ) (entry : UserEntry) → OnOk r (new ≡ insert old i (entry_seen entry))
    → OnErr r (new ≡ old) → NamesRise old → IsGapFor old (entry_seen entry).0 i → NamesRise new
rises_put (Ok x) old new i entry more kept rise gap = rises_more old new i entry more rise gap
rises_put (Err e) old new i entry more kept rise gap = subst (λ (t : TableSeen). NamesRise t) (sym kept) rise

pub adds_more : (old new : TableSeen) (i : ℕ) (entry : UserEntry) → new ≡ insert old i (entry_seen entry) → IsGapFor old (entry_seen entry).0 i
    → AddsEntry (entry_seen entry) old new
adds_more old new i entry is gap =
    let name = (entry_seen entry).0 in
    subst (λ (t : TableSeen). AddsEntry (entry_seen entry) old t) (sym is)
    (said-insert old i (entry_seen entry) (said_nowhere old name (nowhere old name i gap)))

pub fits : (xs : Entries) (old : TableSeen) (name : List ℕ) (i : ℕ) → entries_seen xs ≡ old → IsGapFor old name i → i ≤ length xs
fits xs old name i same gap =
    let w = gap.within in
    let l : length (entries_seen xs) ≡ length old = ap (λ (t : TableSeen). length t) same in
    let m : length (entries_seen xs) ≡ length xs = length-map xs seen in
    omega (arith, w, l, m)

-- an entry that is there adds nothing
pub at_adds_nothing : (table : TableSeen) (entry : UserMention) (i : ℕ) → NamesRise table → IsAt table entry.0 i → AddsEntry entry table table
at_adds_nothing table entry i rise at =
    added_behind table entry (get_or table i entry).1 (said_here table entry.0 i entry rise at.within (at.is_here entry))

-- ---- entries in a row

pub copied_more : (entries copies new : Entries) (k : ℕ) (entry copy : Rc UserEntry Global) → entries_seen copies ≡ entries_seen (take k entries)
    → k < length entries → entry ≡ get_or entries k entry → copy.value ≡ entry.value → new ≡ copies ++ copy ∷ []
    → entries_seen new ≡ entries_seen (take (k + 1) entries)
copied_more entries copies new k entry copy before within is copied pushed =
    ap (λ (xs : Entries). entries_seen xs) pushed ∙ map-append seen copies (copy ∷ []) ∙ ap (λ (t : TableSeen). t ++ seen copy ∷ []) before
    ∙ ap (λ (e : UserEntry). entries_seen (take k entries) ++ entry_seen e ∷ []) copied ∙ sym (map-take_item seen entries k entry within is)

pub entries_more : (entries : Entries) (k : ℕ) (entry : Rc UserEntry Global) (start old new : TableSeen) → AddsEntries (entries_seen (take k entries)) start old
    → k < length entries → entry ≡ get_or entries k entry → AddsEntry (seen entry) old new → AddsEntries (entries_seen (take (k + 1) entries)) start new
entries_more entries k entry start old new before within is added name =
    said_more (seen entry) (entries_seen (take k entries)) start old new before added name
    ∙ ap (λ (t : TableSeen). option_or (said_at start name) (said_at t name)) (sym (map-take_item seen entries k entry within is))

-- ---- a whole table

pub nothing_held : (held : Option (Rc EntryVec Global)) → is_some held ≡ false → held_seen held ≡ []
nothing_held None e = refl
nothing_held (Some entries) e = absurd (false≢true (sym e))

pub rises_shared : {T E : Type 0} (r : Result T E) (old new other : Option (Rc EntryVec Global)) → OnOk r (held_seen new ≡ held_seen other)
    → OnErr r (new ≡ old) → NamesRise (held_seen old) → NamesRise (held_seen other) → NamesRise (held_seen new)
rises_shared (Ok x) old new other same kept rise rises = subst (λ (t : TableSeen). NamesRise t) (sym same) rises
rises_shared (Err e) old new other same kept rise rises = subst (λ (h : Option (Rc EntryVec Global)). NamesRise (held_seen h)) (sym kept) rise

pub shares_all : (held : Option (Rc EntryVec Global)) (shared other : TableSeen) → is_some held ≡ false → shared ≡ other
    → AddsEntries other (held_seen held) shared
shares_all held shared other none same name =
    ap (λ (t : TableSeen). said_at t name) same
    ∙ sym (ap (λ (t : TableSeen). option_or (said_at t name) (said_at other name)) (nothing_held held none))

pub added_by : (entry : UserMention) (name : List ℕ) (content : Content) (held old new : TableSeen) → entry ≡ (name, content) → held ≡ old
    → AddsEntry entry held new → (other : List ℕ) → said_at new other ≡ option_or (said_at old other) (said_once name content other)
added_by entry name content held old new is view added other =
    added other ∙ ap (λ (t : TableSeen). option_or (said_at t other) (said_once entry.0 entry.1 other)) view
    ∙ ap (λ (e : UserMention). option_or (said_at old other) (said_once e.0 e.1 other)) is

pub merged_by : (from other held old new : TableSeen) → from ≡ other → held ≡ old → AddsEntries from held new → AddsEntries other old new
merged_by from other held old new of_other of_self added name =
    added name ∙ ap (λ (t : TableSeen). option_or (said_at t name) (said_at from name)) of_self
    ∙ ap (λ (t : TableSeen). option_or (said_at old name) (said_at t name)) of_other
