-- What becomes of the blocks of a source is what the definition of its faults has, and how many
-- user-defined names the source has.
use Rattle.std.proofs.Common.{◌≡◌, ◌≢◌, ◌==◌, ℕ, zero, suc, ◌+◌, ◌<◌, ◌≤◌, Bool, true, false, cond, List, [], ◌∷◌, ◌++◌, drop, filter, get_or, length, map, take}
use Rattle.std.proofs.Common.{Option, Some, refl, sym, ap, subst, ◌∙◌, arith, ◌⊎◌, inl, inr}
use Rattle.std.specs.Prelude.{All, IsTrue, ◌&&◌, ◌||◌, not, nat_le}
use Rattle.std.specs.List.{AllPairs, AllZip, Contains}
use Rattle.std.specs.Str.{bytes_eq}
use Rattle.std.specs.Ordering.{nat_cmp, is_eq, is_lt, ordering_reverse}
use Rattle.std.specs.declared.cmp.Ordering.{Ordering}
use Rattle.std.specs.declared.cmp.Ordering.TheVariants.{Less, Equal, Greater}
use Rattle.std.specs.Cmp.Lexicographic.{slice_cmp, bytes_decides}
use Rattle.std.proofs.lemmas.Bool.{cases_Bool, cases_lt, false≢true}
use Rattle.std.proofs.lemmas.Cmp.{nat_list_cmp_total}
use Rattle.std.proofs.lemmas.List.{map-append, take_all, take-append-drop}
use Rattle.std.proofs.lemmas.Grind.{flat_map-append}
use Rattle.std.proofs.lemmas.List.Elements.{All-append, All-contains, filter_passes}
use Rattle.std.proofs.lemmas.List.Elements.{Contains-append_cases, Contains-append_left, Contains-append_right}
use Rattle.std.proofs.lemmas.List.Kept.{AllPairs-cons, AllPairs-filter}
use Rattle.std.proofs.lemmas.Map.Text.{is_eq-slice_cmp}
use Rattle.std.proofs.lemmas.Option.{same_Some, none-some}
use Rattle.std.proofs.lemmas.Slice.Eq.{bytes_eq-Decides}
use Rattle.ti_source.specs.Parsing.{reading_of_text}
use Rattle.ti_layout.specs.Values.{Content, content_true, content_number, content_text, content_cancelled, Mention}
use Rattle.ti_layout.specs.Laws.{without_cancel}
use Rattle.base_meaning.specs.Compiled.{EntryState}
use Rattle.base_meaning.specs.Faults.{faults}
use Rattle.base_meaning.specs.Owner.{readings}
use Rattle.user_extension.specs.UserDefined.{Row, comes_before, kind_rank}
use Rattle.user_items.specs.Parsing.{user_reading_of_text}
use Rattle.user_items.specs.Reading.{UserBlock}
use Rattle.user_values.specs.Expansion.{UserMention, expansion as user_expansion, first_said}
use Rattle.user_values.specs.Limit.{IsOverLimitAt, distinct_after, name_count, name_limit, names_in, names_of}
use Rattle.user_values.proofs.Naming.{distinct_after-append, distinct_after-longer}
use Rattle.user_compiling.specs.Entries.{IsStateOf, does_not_resolve, does_resolve, state_with}
use Rattle.user_compiling.specs.Faults.{extended_faults, of_profile}
use Rattle.user_compiling.specs.Rows.{AreRowsOf}
use Rattle.user_compiling.proofs.RowLists.{contains_head, rows_agree, rows_are_determined}
use Rattle.source_diagnostics.specs.SourceFaults.{StatesAreThose, faults_by, has_few_names, rows_said, state_by, state_in, states_in, with_content, with_row, without_name}
use Rattle.source_diagnostics.specs.declared.capabilities.Capabilities.TheVariants.{Profile, UserDefined}

-- ---- the order of rows

abbrev Before : Row → Row → Type 0
Before u v = IsTrue (comes_before u v)

abbrev before_with : ℕ → ℕ → Ordering → Bool
before_with a b o = nat_le (suc a) b || (a == b && is_lt o)

with_less : (a b : ℕ) (o : Ordering) → a ≡ b → o ≡ Less → before_with a b o ≡ true
with_less a b o e l = rw (e, l) (same_ranks b) where
  same_ranks : (n : ℕ) → before_with n n Less ≡ true
  same_ranks n = grind arith

with_rank : (a b : ℕ) (o : Ordering) → a < b → before_with a b o ≡ true
with_rank a b o l = let t : nat_le (suc a) b ≡ true = grind (arith, l) in rw t refl

not_after_rank : (a b : ℕ) (o : Ordering) → b < a → before_with a b o ≡ false
not_after_rank a b o l =
    let t : nat_le (suc a) b ≡ false = grind (arith, l) in
    let u : (a == b) ≡ false = grind (arith, l) in
    rw (t, u) refl

by_name : (n : ℕ) (o : Ordering) → before_with n n o ≡ true → o ≡ Less
by_name n Less e = refl
by_name n Equal e = let f : before_with n n Equal ≡ false = grind arith in absurd (false≢true (sym f ∙ e))
by_name n Greater e = let f : before_with n n Greater ≡ false = grind arith in absurd (false≢true (sym f ∙ e))

-- by the kind, or by the name in one kind
known : (a b : ℕ) (o : Ordering) → before_with a b o ≡ true → (a < b) ⊎ ((a ≡ b) × (o ≡ Less))
known a b o e = elim (cases_lt a b) [
  | inl lt ↦ inl lt
  | inr le ↦ elim (cases_lt b a) [
    | inl lt ↦ absurd (false≢true (sym (not_after_rank a b o lt) ∙ e))
    | inr ge ↦
        let same : a ≡ b = omega (arith, le, ge) in
        inr (same, by_name b o (subst (λ (n : ℕ). before_with n b o ≡ true) same e))
  ]
]

before_next : (u v w : Row) → Before u v → Before v w → Before u w
before_next u v w e f =
    let a = kind_rank u.1 in
    let b = kind_rank v.1 in
    let c = kind_rank w.1 in
    elim (known a b (slice_cmp nat_cmp u.0 v.0) e) [
      | inl one ↦ elim (known b c (slice_cmp nat_cmp v.0 w.0) f) [
        | inl two ↦ with_rank a c (slice_cmp nat_cmp u.0 w.0) (omega (arith, one, two))
        | inr two ↦ with_rank a c (slice_cmp nat_cmp u.0 w.0) (omega (arith, one, two.0))
      ]
      | inr one ↦ elim (known b c (slice_cmp nat_cmp v.0 w.0) f) [
        | inl two ↦ with_rank a c (slice_cmp nat_cmp u.0 w.0) (omega (arith, one.0, two))
        | inr two ↦ with_less a c (slice_cmp nat_cmp u.0 w.0) (one.0 ∙ two.0) (nat_list_cmp_total.trans u.0 v.0 w.0 one.1 two.1)
      ]
    ]

same_names : (x y : List ℕ) → slice_cmp nat_cmp x y ≡ Equal → x ≡ y
same_names x y e = (bytes_decides x y).0 (sym (is_eq-slice_cmp x y) ∙ ap is_eq e)

by_names : (u v : Row) → kind_rank u.1 ≡ kind_rank v.1 → u.0 ≢ v.0 → (o : Ordering) → slice_cmp nat_cmp u.0 v.0 ≡ o → Before u v ⊎ Before v u
by_names u v same apart Less e = inl (with_less (kind_rank u.1) (kind_rank v.1) (slice_cmp nat_cmp u.0 v.0) same e)
by_names u v same apart Equal e = absurd (apart (same_names u.0 v.0 e))
by_names u v same apart Greater e =
    inr (with_less (kind_rank v.1) (kind_rank u.1) (slice_cmp nat_cmp v.0 u.0) (sym same)
    (nat_list_cmp_total.antisymm v.0 u.0 ∙ ap ordering_reverse e))

-- of two names one comes before the other
one_before : (u v : Row) → u.0 ≢ v.0 → Before u v ⊎ Before v u
one_before u v apart = elim (cases_lt (kind_rank u.1) (kind_rank v.1)) [
  | inl lt ↦ inl (with_rank (kind_rank u.1) (kind_rank v.1) (slice_cmp nat_cmp u.0 v.0) lt)
  | inr le ↦ elim (cases_lt (kind_rank v.1) (kind_rank u.1)) [
    | inl lt ↦ inr (with_rank (kind_rank v.1) (kind_rank u.1) (slice_cmp nat_cmp v.0 u.0) lt)
    | inr ge ↦ by_names u v (omega (arith, le, ge)) apart (slice_cmp nat_cmp u.0 v.0) refl
  ]
]

-- ---- lists

contains_later : (r : Row) (rs : List Row) (x : Row) → Contains rs x → Contains (r ∷ rs) x
contains_later r rs x c = (suc c.0, omega (arith, c.1), c.2)

contains_cases : (r : Row) (rs : List Row) (x : Row) → Contains (r ∷ rs) x → (r ≡ x) ⊎ Contains rs x
contains_cases r rs x c = by_place r rs x c.0 c.1 c.2 where
  by_place : (r : Row) (rs : List Row) (x : Row) (k : ℕ) → k < length (r ∷ rs) → get_or (r ∷ rs) k x ≡ x → (r ≡ x) ⊎ Contains rs x
  by_place r rs x zero l e = inl e
  by_place r rs x (suc k) l e = inr (k, omega (arith, l), e)

contains_none : (x : Row) → Contains [] x → ⊥
contains_none x c = omega (arith, c.1)

filter-contains : (p : Row → Bool) (rs : List Row) (x : Row) → Contains rs x → p x ≡ true → Contains (filter p rs) x
filter-contains p [] x c e = absurd (contains_none x c)
filter-contains p (r ∷ rs) x c e = elim (contains_cases r rs x c) [
  | inl same ↦
      let passes : p r ≡ true = ap p same ∙ e in
      subst (λ (b : Bool). Contains (cond b (r ∷ filter p rs) (filter p rs)) x) (sym passes)
      (subst (λ (y : Row). Contains (r ∷ filter p rs) y) same (contains_head r (filter p rs)))
  | inr later ↦ elim (p r) as (λ b. Contains (cond b (r ∷ filter p rs) (filter p rs)) x) [
    | true ↦ contains_later r (filter p rs) x (filter-contains p rs x later e)
    | false ↦ filter-contains p rs x later e
  ]
]

contains-from_filter : (p : Row → Bool) (rs : List Row) (x : Row) → Contains (filter p rs) x → Contains rs x
contains-from_filter p [] x c = c
contains-from_filter p (r ∷ rs) x c = elim (p r) as (λ b. Contains (cond b (r ∷ filter p rs) (filter p rs)) x → Contains (r ∷ rs) x) [
  | true ↦ λ d. elim (contains_cases r (filter p rs) x d) [
    | inl same ↦ subst (λ (y : Row). Contains (r ∷ rs) y) same (contains_head r rs)
    | inr later ↦ contains_later r rs x (contains-from_filter p rs x later)
  ]
  | false ↦ λ d. contains_later r rs x (contains-from_filter p rs x d)
] c

passes-in_filter : (p : Row → Bool) (rs : List Row) (x : Row) → Contains (filter p rs) x → p x ≡ true
passes-in_filter p rs x c = All-contains (λ y. p y ≡ true) (filter p rs) x (filter_passes p rs) c

pairs_tail : (r : Row) (rs : List Row) → AllPairs Before (r ∷ rs) → AllPairs Before rs
pairs_tail r rs h = λ i j d a b. h (suc i) (suc j) d (omega (arith, a)) (omega (arith, b))

pairs_head : (r : Row) (rs : List Row) → AllPairs Before (r ∷ rs) → All (Before r) rs
pairs_head r rs h = λ k d l. h 0 (suc k) d (omega arith) (omega (arith, l))

at_itself : (ys : List Row) (k : ℕ) (d : Row) → k < length ys → get_or ys k (get_or ys k d) ≡ get_or ys k d
at_itself [] k d l = absurd (omega (arith, l))
at_itself (y ∷ ys) zero d l = refl
at_itself (y ∷ ys) (suc k) d l = at_itself ys k d (omega (arith, l))

pairs_append : (xs ys : List Row) → AllPairs Before xs → AllPairs Before ys → ((x y : Row) → Contains xs x → Contains ys y → Before x y)
    → AllPairs Before (xs ++ ys)
pairs_append [] ys a b h = b
pairs_append (x ∷ xs) ys a b h =
    AllPairs-cons Before x (xs ++ ys)
    (All-append (Before x) xs ys (pairs_head x xs a) (λ k d l. h x (get_or ys k d) (contains_head x xs) (k, l, at_itself ys k d l)))
    (pairs_append xs ys (pairs_tail x xs a) b (λ y z c e. h y z (contains_later x xs y c) e))

-- ---- one more row

abbrev front : Row → List Row → List Row
front row rows = filter (λ other. comes_before other row) rows

abbrev back : Row → List Row → List Row
back row rows = filter (λ other. comes_before row other) rows

rises : (row : Row) (rows : List Row) → AllPairs Before rows → AllPairs Before (with_row row rows)
rises row rows h =
    pairs_append (front row rows) (row ∷ back row rows) (AllPairs-filter Before (λ other. comes_before other row) rows h)
    (AllPairs-cons Before row (back row rows) (filter_passes (λ other. comes_before row other) rows)
    (AllPairs-filter Before (λ other. comes_before row other) rows h))
    (λ x y c d.
    let before = passes-in_filter (λ other. comes_before other row) rows x c in
    elim (contains_cases row (back row rows) y d) [
      | inl same ↦ subst (λ (z : Row). Before x z) same before
      | inr later ↦ before_next x row y before (passes-in_filter (λ other. comes_before row other) rows y later)
    ])

-- a row is that one or another
from_with : (row : Row) (rows : List Row) (x : Row) → Contains (with_row row rows) x → (row ≡ x) ⊎ Contains rows x
from_with row rows x c = elim (Contains-append_cases (front row rows) (row ∷ back row rows) x c) [
  | inl first ↦ inr (contains-from_filter (λ other. comes_before other row) rows x first)
  | inr others ↦ elim (contains_cases row (back row rows) x others) [
    | inl same ↦ inl same
    | inr last ↦ inr (contains-from_filter (λ other. comes_before row other) rows x last)
  ]
]

it_is_there : (row : Row) (rows : List Row) → Contains (with_row row rows) row
it_is_there row rows = Contains-append_right (front row rows) (row ∷ back row rows) row (contains_head row (back row rows))

others_are_there : (row : Row) (rows : List Row) (x : Row) → Contains rows x → x.0 ≢ row.0 → Contains (with_row row rows) x
others_are_there row rows x c apart = elim (one_before x row apart) [
  | inl before ↦ Contains-append_left (front row rows) (row ∷ back row rows) x (filter-contains (λ other. comes_before other row) rows x c before)
  | inr after ↦
      Contains-append_right (front row rows) (row ∷ back row rows) x
      (contains_later row (back row rows) x (filter-contains (λ other. comes_before row other) rows x c after))
]

-- ---- names

abbrev is_other : List ℕ → Row → Bool
is_other name row = not (bytes_eq row.0 name)

not_true : (b : Bool) → not b ≡ true → b ≡ false
not_true true e = absurd (false≢true e)
not_true false e = refl

apart_names : (one other : List ℕ) → bytes_eq one other ≡ false → one ≢ other
apart_names one other f same = false≢true (sym f ∙ (bytes_eq-Decides one other).1 same)

names_unlike : (one other : List ℕ) → one ≢ other → bytes_eq one other ≡ false
names_unlike one other apart = elim (cases_Bool (bytes_eq one other)) [
  | inl t ↦ absurd (apart ((bytes_eq-Decides one other).0 t))
  | inr f ↦ f
]

kept_is_other : (name : List ℕ) (rows : List Row) (x : Row) → Contains (without_name name rows) x → x.0 ≢ name
kept_is_other name rows x c = apart_names x.0 name (not_true (bytes_eq x.0 name) (passes-in_filter (is_other name) rows x c))

other_is_kept : (name : List ℕ) (rows : List Row) (x : Row) → Contains rows x → x.0 ≢ name → Contains (without_name name rows) x
other_is_kept name rows x c apart = filter-contains (is_other name) rows x c (ap not (names_unlike x.0 name apart))

-- ---- what mentions say

abbrev Said : Type 0
Said = List ℕ → Option Content

-- what is said first of one name, and of others
abbrev said_with : List ℕ → Content → Said → Said
said_with name content said other = cond (bytes_eq name other) (Some content) (said other)

of_another : (name : List ℕ) (content : Content) (said : Said) (other : List ℕ) → other ≢ name → said_with name content said other ≡ said other
of_another name content said other apart =
    ap (λ (b : Bool). cond b (Some content) (said other)) (names_unlike name other (λ same. apart (sym same)))

of_itself : (name : List ℕ) (content : Content) (said : Said) (other : List ℕ) → name ≡ other → said_with name content said other ≡ Some content
of_itself name content said other same = ap (λ (b : Bool). cond b (Some content) (said other)) ((bytes_eq-Decides name other).1 same)

a_row : (a b : List ℕ) (c d : Content) → a ≡ b → c ≡ d → ◌≡◌ {A = Row} (a, c) (b, d)
a_row a b c d e f = rw (e, f) refl

value_added : (name : List ℕ) (content : Content) (said : Said) (rows : List Row) → without_cancel (Some content) ≡ Some content → AreRowsOf said rows
    → AreRowsOf (said_with name content said) (with_row (name, content) (without_name name rows))
value_added name content said rows present are = record {
  rise = rises (name, content) (without_name name rows) (AllPairs-filter Before (is_other name) rows are.rise);
  each = λ other c. (
    λ there. elim (from_with (name, content) (without_name name rows) (other, c) there) [
      | inl same ↦
          let named : name ≡ other = ap (λ (r : Row). r.0) same in
          let given : content ≡ c = ap (λ (r : Row). r.1) same in
          ap without_cancel (of_itself name content said other named) ∙ present ∙ ap Some given
      | inr kept ↦
          ap without_cancel (of_another name content said other (kept_is_other name rows (other, c) kept))
          ∙ (are.each other c).0 (contains-from_filter (is_other name) rows (other, c) kept)
    ],
    λ e. elim (cases_Bool (bytes_eq name other)) [
      | inl t ↦
          let named : name ≡ other = (bytes_eq-Decides name other).0 t in
          let given : content ≡ c =
          same_Some content c (sym present ∙ sym (ap without_cancel (of_itself name content said other named)) ∙ e) in
          subst (λ (r : Row). Contains (with_row (name, content) (without_name name rows)) r) (a_row name other content c named given)
          (it_is_there (name, content) (without_name name rows))
      | inr f ↦
          let apart : other ≢ name = λ same. apart_names name other f (sym same) in
          let there = (are.each other c).1 (sym (ap without_cancel (of_another name content said other apart)) ∙ e) in
          others_are_there (name, content) (without_name name rows) (other, c) (other_is_kept name rows (other, c) there apart) apart
    ],
  );
}

cancel_added : (name : List ℕ) (said : Said) (rows : List Row) → AreRowsOf said rows
    → AreRowsOf (said_with name content_cancelled said) (without_name name rows)
cancel_added name said rows are = record {
  rise = AllPairs-filter Before (is_other name) rows are.rise;
  each = λ other c. (
    λ kept.
        ap without_cancel (of_another name content_cancelled said other (kept_is_other name rows (other, c) kept))
        ∙ (are.each other c).0 (contains-from_filter (is_other name) rows (other, c) kept),
    λ e. elim (cases_Bool (bytes_eq name other)) [
      | inl t ↦
          absurd (none-some c (sym (ap without_cancel (of_itself name content_cancelled said other ((bytes_eq-Decides name other).0 t))) ∙ e))
      | inr f ↦
          let apart : other ≢ name = λ same. apart_names name other f (sym same) in
          other_is_kept name rows (other, c)
          ((are.each other c).1 (sym (ap without_cancel (of_another name content_cancelled said other apart)) ∙ e)) apart
    ],
  );
}

content_added : (name : List ℕ) (content : Content) (said : Said) (rows : List Row) → AreRowsOf said rows
    → AreRowsOf (said_with name content said) (with_content name content (without_name name rows))
content_added name content_true said rows are = value_added name content_true said rows refl are
content_added name (content_number n) said rows are = value_added name (content_number n) said rows refl are
content_added name (content_text t) said rows are = value_added name (content_text t) said rows refl are
content_added name content_cancelled said rows are = cancel_added name said rows are

rows_are : (mentions : List UserMention) → AreRowsOf (first_said mentions) (rows_said mentions)
rows_are [] = record {
  rise = λ i j d a b. absurd (omega (arith, b));
  each = λ name content. (λ c. absurd (contains_none (name, content) c), λ e. absurd (none-some content e));
}
rows_are (m ∷ ms) =
    rows_agree (said_with m.0 m.1 (first_said ms)) (first_said (m ∷ ms)) (rows_said (m ∷ ms)) (λ name. refl)
    (content_added m.0 m.1 (first_said ms) (rows_said ms) (rows_are ms))

-- ---- what becomes of blocks

one_state : (texts : List (List ℕ)) (text : List ℕ) (state : EntryState) → IsStateOf texts text state → state ≡ state_in texts text
one_state texts text _ (does_not_resolve none) = sym (ap (λ (o : Option (List Mention)). state_by text o (user_expansion texts text)) none)
one_state texts text _ (does_resolve {state = state} h) =
    let rows = rows_are_determined (first_said h.user_mentions) h.rows (rows_said h.user_mentions) h.are_rows (rows_are h.user_mentions) in
    h.is ∙ ap (state_with (reading_of_text text) h.mentions) rows
    ∙ sym (ap (λ (o : Option (List Mention)). state_by text o (user_expansion texts text)) h.expands ∙ ap (λ (o : Option (List UserMention)). state_by text (Some h.mentions) o)
    h.user_expands)

same_states : (texts xs : List (List ℕ)) (states : List EntryState) → AllZip (IsStateOf texts) xs states → states ≡ map (state_in texts) xs
same_states texts [] [] all = refl
same_states texts [] (s ∷ ss) all = absurd all
same_states texts (x ∷ xs) [] all = absurd all
same_states texts (x ∷ xs) (s ∷ ss) all = rw (one_state texts x s all.0, same_states texts xs ss all.1) refl

pub those_states : StatesAreThose
those_states = λ texts states all. same_states texts texts states all

-- ---- how many names

-- the names of blocks one after another
names_one_by_one : (front back : List (List ℕ))
    → names_in (map user_reading_of_text (front ++ back)) ≡ names_in (map user_reading_of_text front) ++ names_in (map user_reading_of_text back)
names_one_by_one front back =
    ap (λ (bs : List UserBlock). names_in bs) (map-append user_reading_of_text front back)
    ∙ flat_map-append (λ (b : UserBlock). names_of b.items) (map user_reading_of_text front) (map user_reading_of_text back)

-- the front of a source has no more names than the whole
fewer_before : (texts : List (List ℕ)) (n : ℕ) → name_count texts n ≤ name_count texts (length texts)
fewer_before texts n =
    let before = names_in (map user_reading_of_text (take n texts)) in
    let after = names_in (map user_reading_of_text (drop n texts)) in
    let whole : take (length texts) texts ≡ take n texts ++ drop n texts = take_all (length texts) texts (omega arith) ∙ sym (take-append-drop n texts) in
    let names : names_in (map user_reading_of_text (take (length texts) texts)) ≡ before ++ after =
    ap (λ (ts : List (List ℕ)). names_in (map user_reading_of_text ts)) whole ∙ names_one_by_one (take n texts) (drop n texts) in
    let count : name_count texts (length texts) ≡ length (distinct_after (distinct_after [] before) after) =
    ap (λ (ns : List (List ℕ)). length (distinct_after [] ns)) names ∙ ap (λ (ns : List (List ℕ)). length ns) (distinct_after-append [] before after) in
    omega (arith, count, distinct_after-longer (distinct_after [] before) after)

pub few_names : (texts : List (List ℕ)) → name_count texts (length texts) ≤ name_limit → faults_by UserDefined texts ≡ extended_faults texts (states_in texts)
few_names texts few =
    let t : has_few_names texts ≡ true = grind (arith, few) in
    ap (λ (b : Bool). cond b (extended_faults texts (states_in texts)) (map of_profile (faults (readings texts)))) t

pub many_names : (texts : List (List ℕ)) → name_limit < name_count texts (length texts) → faults_by UserDefined texts ≡ faults_by Profile texts
many_names texts many =
    let f : has_few_names texts ≡ false = grind (arith, many) in
    ap (λ (b : Bool). cond b (extended_faults texts (states_in texts)) (map of_profile (faults (readings texts)))) f

pub over_limit : (texts : List (List ℕ)) (at : ℕ) → IsOverLimitAt texts at → faults_by UserDefined texts ≡ faults_by Profile texts
over_limit texts at over = many_names texts (omega (arith, over.over, fewer_before texts (at + 1)))
