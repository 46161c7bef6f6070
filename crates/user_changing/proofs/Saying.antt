-- What a list of user-defined capabilities says of each name when one is put in or taken out.
use Rattle.std.proofs.Common.{◌≡◌, ◌≢◌, ℕ, zero, suc, ◌+◌, ◌<◌, ◌≤◌, Bool, true, false, cond, not, filter, List, [], ◌∷◌, map, length, get_or, take, drop}
use Rattle.std.proofs.Common.{Option, Some, None, refl, sym, ap, ◌∙◌, subst, arith, drop-cons, add-one, slice_get, inl, inr}
use Rattle.std.specs.Prelude.{IsTrue, All}
use Rattle.std.specs.List.{insert}
use Rattle.std.specs.Option.{option_map, option_or}
use Rattle.std.specs.Str.{bytes_eq}
use Rattle.std.specs.Cmp.Lexicographic.{bytes_decides}
use Rattle.std.proofs.lemmas.Bool.{cases_Bool, cases_lt, false≢true}
use Rattle.std.proofs.lemmas.List.Elements.{All-filter, filter_passes}
use Rattle.std.proofs.lemmas.List.Kept.{AllPairs-filter}
use Rattle.std.proofs.lemmas.Option.{same_Some, none-some}
use Rattle.std.proofs.lemmas.List.{get_or-map, get_or-take, length-map, length-take}
use Rattle.ti_text.proofs.Lists.{item_at}
use Rattle.ti_layout.specs.Values.{Content, content_seen}
use Rattle.user_items.specs.Names.{is_user_defined_name}
use Rattle.user_extension.specs.UserDefined.{AreUserDefined, IsValue, Row, row_of, rows_of}
use Rattle.user_extension.specs.Laws.{as_read}
use Rattle.user_extension.specs.Reading.{ReadRow, said}
use Rattle.user_extension.specs.declared.user_defined.UserDefined.{UserDefined}
use Rattle.user_changing.specs.Changes.{CanBeMade, after, edit_of, edits_of}
use Rattle.user_changing.proofs.Ordered.{map-insert}
use Rattle.user_changing.specs.declared.change.Change.{Change}
use Rattle.user_changing.specs.inside.Rows.{IsBefore, IsNew}

same_self : (name : List ℕ) → bytes_eq name name ≡ true
same_self name = (bytes_decides name name).1 refl

apart_bytes : (x y : List ℕ) → x ≢ y → bytes_eq x y ≡ false
apart_bytes x y apart = elim (cases_Bool (bytes_eq x y)) [
  | inl t ↦ absurd (apart ((bytes_decides x y).0 t))
  | inr f ↦ f
]

-- ---- one more

pub said-insert : (rows : List Row) (i : ℕ) (e : Row) (q : List ℕ) → IsNew e.0 rows
    → said (as_read (insert rows i e)) q ≡ cond (bytes_eq e.0 q) (Some e.1) (said (as_read rows) q)
said-insert rows zero e q new = refl
said-insert [] (suc i) e q new = refl
said-insert (x ∷ rows) (suc i) e q new =
    let rest = said-insert rows i e q (λ k d l. new (suc k) d (omega (arith, l))) in
    elim (cases_Bool (bytes_eq x.0 q)) [
      | inl t ↦
          let here : x.0 ≡ q = (bytes_decides x.0 q).0 t in
          let f : bytes_eq e.0 q ≡ false = apart_bytes e.0 q (λ (same : e.0 ≡ q). new 0 x (omega arith) (here ∙ sym same)) in
          rw (t, f) refl
      | inr f ↦ rw (f, rest) refl
    ]

-- the same where it was put into a list of the code
pub put_said : (rows more : List UserDefined) (i : ℕ) (one : UserDefined) (q : List ℕ) → more ≡ insert rows i one → IsNew (row_of one).0 (rows_of rows)
    → said (as_read (rows_of more)) q ≡ cond (bytes_eq (row_of one).0 q) (Some (row_of one).1) (said (as_read (rows_of rows)) q)
put_said rows more i one q is new =
    ap (λ (rs : List Row). said (as_read rs) q) (ap (λ (xs : List UserDefined). rows_of xs) is ∙ map-insert rows i one)
    ∙ said-insert (rows_of rows) i (row_of one) q new

-- ---- one less

-- whether a row has another name
abbrev pub is_other : List ℕ → Row → Bool
is_other name u = not (bytes_eq u.0 name)

none_said : (b : Bool) (x : Option Content) → x ≡ None → x ≡ cond b None x
none_said true x e = e
none_said false x e = refl

pub said-filter : (rows : List Row) (name q : List ℕ) → said (as_read (filter (is_other name) rows)) q ≡ cond (bytes_eq name q) None (said (as_read rows) q)
said-filter [] name q = none_said (bytes_eq name q) (said (as_read []) q) refl
said-filter (x ∷ rows) name q =
    let rest = said-filter rows name q in
    elim (cases_Bool (bytes_eq x.0 name)) [
      | inl t ↦
          let here : x.0 ≡ name = (bytes_decides x.0 name).0 t in
          elim (cases_Bool (bytes_eq name q)) [
            | inl same ↦ rw (t, rest, same) refl
            | inr apart ↦
                let f : bytes_eq x.0 q ≡ false = subst (λ (n : List ℕ). bytes_eq n q ≡ false) (sym here) apart in
                rw (t, rest, apart, f) refl
          ]
      | inr f ↦ elim (cases_Bool (bytes_eq x.0 q)) [
        | inl same ↦
            let here : x.0 ≡ q = (bytes_decides x.0 q).0 same in
            let apart : bytes_eq name q ≡ false =
            apart_bytes name q (λ (e : name ≡ q). false≢true (sym f ∙ (bytes_decides x.0 name).1 (here ∙ sym e))) in
            rw (f, same, apart) refl
        | inr apart ↦ rw (f, apart, rest) refl
      ]
    ]

pub new-filter : (rows : List Row) (name : List ℕ) → IsNew name (filter (is_other name) rows)
new-filter rows name k d l same =
    let passes : not (bytes_eq (get_or (filter (is_other name) rows) k d).0 name) ≡ true = filter_passes (is_other name) rows k d l in
    let equal : bytes_eq (get_or (filter (is_other name) rows) k d).0 name ≡ true = (bytes_decides (get_or (filter (is_other name) rows) k d).0 name).1 same in
    false≢true (ap not (sym equal) ∙ passes)

pub are-filter : (rows : List Row) (name : List ℕ) → AreUserDefined rows → AreUserDefined (filter (is_other name) rows)
are-filter rows name are = record {
  names = All-filter (is_other name) (λ u. IsTrue (is_user_defined_name u.0)) rows are.names;
  values = All-filter (is_other name) (λ u. IsValue u.1) rows are.values;
  rise = AllPairs-filter IsBefore (is_other name) rows are.rise;
  once = AllPairs-filter (λ u v. u.0 ≢ v.0) (is_other name) rows are.once;
}

twice : (b : Bool) (x y : Option Content) → cond b x (cond b None y) ≡ cond b x y
twice true x y = refl
twice false x y = refl

-- what is said when the row of a name was taken out, and then one of it was put in or not
pub given_said : (old kept : List Row) (name q : List ℕ) (x : Option Content) → kept ≡ filter (is_other name) old
    → cond (bytes_eq name q) x (said (as_read kept) q) ≡ cond (bytes_eq name q) x (said (as_read old) q)
given_said old kept name q x is =
    ap (cond (bytes_eq name q) x) (ap (λ (rs : List Row). said (as_read rs) q) is ∙ said-filter old name q) ∙ twice (bytes_eq name q) x (said (as_read old) q)

filter_in : (f : UserDefined → Row) (test : Row → Bool) (x : UserDefined) (kept : List UserDefined) (seen : List Row) (b : Bool) → map f kept ≡ seen
    → map f (cond b (x ∷ kept) kept) ≡ cond b (f x ∷ seen) seen
filter_in f test x kept seen true e = ap (λ t. f x ∷ t) e
filter_in f test x kept seen false e = e

pub rows-filter : (test : Row → Bool) (rows : List UserDefined) → rows_of (filter (λ u. test (row_of u)) rows) ≡ filter test (rows_of rows)
rows-filter test [] = refl
rows-filter test (x ∷ rows) =
    filter_in row_of test x (filter (λ u. test (row_of u)) rows) (filter test (rows_of rows)) (test (row_of x)) (rows-filter test rows)

pub none_are : AreUserDefined []
none_are = record {
  names = λ k d l. absurd (omega (arith, l));
  values = λ k d l. absurd (omega (arith, l));
  rise = λ i j d a b. absurd (omega (arith, b));
  once = λ i j d a b. absurd (omega (arith, b));
}

-- ---- rows that were read, from the last to the first

pub said-drop : (rows : List ReadRow) (k : ℕ) (row : ReadRow) (name : List ℕ) → slice_get rows k ≡ Some row
    → said (drop k rows) name ≡ cond (bytes_eq row.0 name) (option_or row.1 (said (drop (suc k) rows) name)) (said (drop (suc k) rows) name)
said-drop [] k row name e = absurd (none-some row e)
said-drop (x ∷ rows) zero row name e =
    let same : x ≡ row = same_Some x row e in
    ap (λ (r : ReadRow). cond (bytes_eq r.0 name) (option_or r.1 (said rows name)) (said rows name)) same
said-drop (x ∷ rows) (suc k) row name e = said-drop rows k row name e

-- one more row was taken, from the end on
pub held_more : (rows : List ReadRow) (k left : ℕ) (old new : List Row) → left ≡ suc k → k < length rows
    → ((name : List ℕ) → said (as_read old) name ≡ said (drop left rows) name)
    → ((row : ReadRow) (name : List ℕ) → slice_get rows k ≡ Some row
    → said (as_read new) name ≡ cond (bytes_eq row.0 name) (option_or row.1 (said (as_read old) name)) (said (as_read old) name))
    → (name : List ℕ) → said (as_read new) name ≡ said (drop k rows) name
held_more rows k left old new is within before more name =
    let w = item_at rows k within in
    more w.0 name w.1
    ∙ ap (λ o. cond (bytes_eq w.0.0 name) (option_or w.0.1 o) o) (before name ∙ ap (λ n. said (drop n rows) name) is)
    ∙ sym (said-drop rows k w.0 name w.1)

-- ---- changes in a row

pub can_at : (changes : List Change) (k : ℕ) (d : Change) → All CanBeMade (edits_of changes) → k < length changes → CanBeMade (edit_of (get_or changes k d))
can_at changes k d can within =
    let long : length (edits_of changes) ≡ length changes = length-map changes edit_of in
    subst CanBeMade (get_or-map edit_of changes k d (edit_of d) within) (can k (edit_of d) (omega (arith, within, long)))

pub can_more : (changes : List Change) (k : ℕ) (d : Change) → All CanBeMade (take k (edits_of changes)) → k < length changes
    → CanBeMade (edit_of (get_or changes k d)) → All CanBeMade (take (k + 1) (edits_of changes))
can_more changes k d before within here j e l =
    let es = edits_of changes in
    let long : length es ≡ length changes = length-map changes edit_of in
    let up : j < k + 1 = omega (arith, l, length-take (k + 1) es) in
    subst CanBeMade (sym (get_or-take (k + 1) es j e up)) (elim (cases_lt j k) [
      | inl below ↦ subst CanBeMade (get_or-take k es j e below) (before j e (omega (arith, below, within, long, length-take k es)))
      | inr not_below ↦
          let same : k ≡ j = omega (arith, up, not_below) in
          subst (λ n. CanBeMade (get_or es n e)) same (subst CanBeMade (sym (get_or-map edit_of changes k d e within)) here)
    ])

pub can_all : (changes : List Change) (k : ℕ) → length changes ≤ k → All CanBeMade (take k (edits_of changes)) → All CanBeMade (edits_of changes)
can_all changes k past can j e l =
    let es = edits_of changes in
    let long : length es ≡ length changes = length-map changes edit_of in
    subst CanBeMade (get_or-take k es j e (omega (arith, l, long, past))) (can j e (omega (arith, l, long, past, length-take k es)))

pub after_one : (changes : List Change) (k : ℕ) (one : Change) (name : List ℕ) (held new : Option Content) → k < length changes
    → one ≡ get_or changes k one → new ≡ cond (bytes_eq one.name.now name) (option_map content_seen one.value) held
    → after (edits_of (drop (k + 1) changes)) name new ≡ after (edits_of (drop k changes)) name held
after_one changes k one name held new within is has =
    rw (add-one, drop-cons changes k one) (
    ap (after (edits_of (drop (suc k) changes)) name)
    (has ∙ ap (λ (c : Change). cond (bytes_eq c.name.now name) (option_map content_seen c.value) held) is))
