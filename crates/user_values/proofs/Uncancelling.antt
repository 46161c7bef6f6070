-- The entries of a table added one by one, but for cancels.
use Rattle.std.proofs.Common.{◌≡◌, ℕ, zero, suc, ◌+◌, ◌<◌, Bool, true, false, ◌||◌, cond, List, [], ◌∷◌, length, get_or, take, Option, Some, None, is_some}
use Rattle.std.proofs.Common.{refl, sym, ◌∙◌, ap, subst, arith, Less}
use Rattle.std.specs.Option.{option_or}
use Rattle.std.specs.List.{list_any}
use Rattle.std.specs.Ordering.{nat_cmp}
use Rattle.std.specs.Cmp.Lexicographic.{slice_cmp, bytes_decides}
use Rattle.std.specs.Str.{bytes_eq}
use Rattle.std.specs.declared.alloc.Global.{Global}
use Rattle.std.specs.declared.rc.Rc.{Rc}
use Rattle.std.specs.declared.vec.Vec.{Vec}
use Rattle.std.proofs.lemmas.Bool.{false≢true}
use Rattle.std.proofs.lemmas.List.{get_or-map, length-map, take-map}
use Rattle.std.proofs.lemmas.List.Elements.{All-cons}
use Rattle.ti_text.proofs.Lists.{map-take_item}
use Rattle.ti_layout.specs.Values.{Content, content_true, content_number, content_text, content_cancelled}
use Rattle.ti_layout.specs.Laws.{without_cancel}
use Rattle.user_values.specs.Expansion.{UserMention}
use Rattle.user_values.specs.Tables.{TableSeen, NamesRise, entries_seen, entry_seen, said_at, said_once}
use Rattle.user_values.specs.inside.Entries.{held_seen, is_cancel, AddsEntry, AddsValue, AddsValues}
use Rattle.user_values.specs.declared.entries.UserEntry.{UserEntry}
use Rattle.user_values.proofs.Depth.{first_said-append}
use Rattle.user_values.proofs.Saying.{Nowhere, head_first, less_apart, or_assoc, or_none, said_nowhere, tail_rises}
use Rattle.user_values.proofs.Searching.{Entries, nothing_held}

abbrev seen : Rc UserEntry Global → UserMention
seen e = entry_seen e.value

-- no entry before one has its name
before_nowhere : (table : TableSeen) (i : ℕ) (e : UserMention) → NamesRise table → i < length table → e ≡ get_or table i e → Nowhere (take i table) e.0
before_nowhere table zero e rise l is = λ k d short. absurd (omega (arith, short))
before_nowhere [] (suc i) e rise l is = absurd (omega (arith, l))
before_nowhere (x ∷ table) (suc i) e rise l is =
    let within : i < length table = omega (arith, l) in
    let less : slice_cmp nat_cmp x.0 e.0 ≡ Less =
    subst (λ (m : UserMention). slice_cmp nat_cmp x.0 m.0 ≡ Less) (sym is) (head_first x table rise i e within) in
    All-cons (λ (u : UserMention). bytes_eq u.0 e.0 ≡ false) x (take i table) (less_apart x.0 e.0 less)
    (before_nowhere table i e (tail_rises x table rise) within is)

kept_one : (v : Content) → is_cancel v ≡ false → Some v ≡ without_cancel (Some v)
kept_one content_true e = refl
kept_one (content_number n) e = refl
kept_one (content_text t) e = refl
kept_one content_cancelled e = absurd (false≢true (sym e))

dropped_one : (v : Content) → is_cancel v ≡ true → None ≡ without_cancel (Some v)
dropped_one content_true e = absurd (false≢true e)
dropped_one (content_number n) e = absurd (false≢true e)
dropped_one (content_text t) e = absurd (false≢true e)
dropped_one content_cancelled e = refl

-- ---- one entry

once_kept : (same : Bool) (v : Content) → is_cancel v ≡ false → cond same (Some v) None ≡ without_cancel (cond same (Some v) None)
once_kept true v e = kept_one v e
once_kept false v e = refl

once_dropped : (same : Bool) (v : Content) → is_cancel v ≡ true → None ≡ without_cancel (cond same (Some v) None)
once_dropped true v e = dropped_one v e
once_dropped false v e = refl

-- an entry that is no cancel adds its value
pub value_added : (entry : UserMention) (old new : TableSeen) → is_cancel entry.1 ≡ false → AddsEntry entry old new → AddsValue entry old new
value_added entry old new e added name =
    added name ∙ ap (λ o. option_or (said_at old name) o) (once_kept (bytes_eq entry.0 name) entry.1 e)

-- and a cancel nothing
pub cancel_dropped : (entry : UserMention) (table : TableSeen) → is_cancel entry.1 ≡ true → AddsValue entry table table
cancel_dropped entry table e name =
    or_none (said_at table name) ∙ ap (λ o. option_or (said_at table name) o) (once_dropped (bytes_eq entry.0 name) entry.1 e)

-- ---- entries in a row

said_joined : (same : Bool) (p : Option Content) (v : Content) → (same ≡ true → p ≡ None)
    → option_or (without_cancel p) (without_cancel (cond same (Some v) None)) ≡ without_cancel (option_or p (cond same (Some v) None))
said_joined false p v absent = sym (or_none (without_cancel p)) ∙ ap without_cancel (or_none p)
said_joined true p v absent = rw (absent refl) refl

module _ (xs : Entries) (i : ℕ) (x : Rc UserEntry Global) (rise : NamesRise (entries_seen xs)) (l : i < length xs) (here : x ≡ get_or xs i x) where
  more : (name : List ℕ) → said_at (entries_seen (take (i + 1) xs)) name ≡ option_or (said_at (entries_seen (take i xs)) name) (said_once (seen x).0 (seen x).1 name)
  more name =
      ap (λ (t : TableSeen). said_at t name) (map-take_item seen xs i x l here) ∙ first_said-append (entries_seen (take i xs)) (seen x ∷ []) name

  absent : (name : List ℕ) → bytes_eq (seen x).0 name ≡ true → said_at (entries_seen (take i xs)) name ≡ None
  absent name same =
      let one : (seen x).0 ≡ name = (bytes_decides (seen x).0 name).0 same in
      let read : seen x ≡ get_or (entries_seen xs) i (seen x) = ap seen here ∙ sym (get_or-map seen xs i x (seen x) l) in
      let none : Nowhere (take i (entries_seen xs)) (seen x).0 = before_nowhere (entries_seen xs) i (seen x) rise (rw length-map l) read in
      subst (λ (n : List ℕ). said_at (entries_seen (take i xs)) n ≡ None) one
      (ap (λ (t : TableSeen). said_at t (seen x).0) (sym (take-map seen i xs)) ∙ said_nowhere (take i (entries_seen xs)) (seen x).0 none)

  pub values_more : (start old new : TableSeen) → AddsValues (entries_seen (take i xs)) start old → AddsValue (seen x) old new
      → AddsValues (entries_seen (take (i + 1) xs)) start new
  values_more start old new before added name =
      let p = said_at (entries_seen (take i xs)) name in
      let q = said_once (seen x).0 (seen x).1 name in
      added name ∙ ap (λ o. option_or o (without_cancel q)) (before name)
      ∙ or_assoc (said_at start name) (without_cancel p) (without_cancel q)
      ∙ ap (λ o. option_or (said_at start name) o)
      (said_joined (bytes_eq (seen x).0 name) p (seen x).1 (absent name) ∙ ap without_cancel (sym (more name)))

-- ---- no entry is a cancel

or_false_parts : (a b : Bool) → (a || b) ≡ false → (a ≡ false) × (b ≡ false)
or_false_parts true b e = absurd (false≢true (sym e))
or_false_parts false b e = (refl, e)

pub no_cancels : (xs : Entries) → list_any (λ (e : Rc UserEntry Global). is_cancel (entry_seen e.value).1) xs ≡ false → (name : List ℕ)
    → said_at (entries_seen xs) name ≡ without_cancel (said_at (entries_seen xs) name)
no_cancels [] e name = refl
no_cancels (x ∷ xs) e name =
    let parts = or_false_parts (is_cancel (seen x).1) (list_any (λ (e : Rc UserEntry Global). is_cancel (entry_seen e.value).1) xs) e in
    elim (bytes_eq (seen x).0 name) as (λ b. cond b (Some (seen x).1) (said_at (entries_seen xs) name)
    ≡ without_cancel (cond b (Some (seen x).1) (said_at (entries_seen xs) name))) [
      | true ↦ kept_one (seen x).1 parts.0
      | false ↦ no_cancels xs parts.1 name
    ]

abbrev Held : Type 0
Held = Option (Rc (Vec (Rc UserEntry Global) Global) Global)

-- all that is shared are values
pub shares_values : (held : Held) (entries : Entries) (shared other : TableSeen) → is_some held ≡ false
    → list_any (λ (e : Rc UserEntry Global). is_cancel (entry_seen e.value).1) entries ≡ false → entries_seen entries ≡ other → shared ≡ other
    → AddsValues other (held_seen held) shared
shares_values held entries shared other none values of_other same name =
    ap (λ (t : TableSeen). said_at t name) same
    ∙ subst (λ (t : TableSeen). said_at t name ≡ without_cancel (said_at t name)) of_other (no_cancels entries values name)
    ∙ sym (ap (λ (t : TableSeen). option_or (said_at t name) (without_cancel (said_at other name))) (nothing_held held none))

pub values_by : (from other held old new : TableSeen) → from ≡ other → held ≡ old → AddsValues from held new → AddsValues other old new
values_by from other held old new of_other of_self added name =
    added name ∙ ap (λ (t : TableSeen). option_or (said_at t name) (without_cancel (said_at from name))) of_self
    ∙ ap (λ (t : TableSeen). option_or (said_at old name) (without_cancel (said_at t name))) of_other
