-- The rows of a table, kind by kind, are those of a block, and there is only one such list.
use Rattle.std.proofs.Common.{◌≡◌, ◌↔◌, ℕ, zero, suc, ◌+◌, ◌<◌, Bool, true, false, cond, List, [], ◌∷◌, ◌++◌, filter, length, get_or, take, Option}
use Rattle.std.proofs.Common.{Some, None, refl, sym, ap, ◌∙◌, subst, arith, append_assoc, ◌⊎◌, inl, inr}
use Rattle.std.specs.Prelude.{IsTrue, ◌==◌, ◌&&◌, ◌||◌, nat_le, All}
use Rattle.std.specs.List.{AllPairs, Contains}
use Rattle.std.specs.Ordering.{nat_cmp, is_eq, is_lt}
use Rattle.std.specs.Str.{bytes_eq}
use Rattle.std.specs.declared.cmp.Ordering.{Ordering}
use Rattle.std.specs.declared.cmp.Ordering.TheVariants.{Less, Equal, Greater}
use Rattle.std.specs.Cmp.Lexicographic.{slice_cmp, bytes_decides}
use Rattle.std.proofs.lemmas.Map.Text.{is_eq-slice_cmp}
use Rattle.std.specs.declared.alloc.Global.{Global}
use Rattle.std.specs.declared.rc.Rc.{Rc}
use Rattle.std.proofs.lemmas.Bool.{cases_Bool, cases_lt, false≢true}
use Rattle.std.proofs.lemmas.Cmp.{nat_list_cmp_total, tied_itself}
use Rattle.std.proofs.lemmas.List.Elements.{All-append, All-contains, filter-append, filter_passes}
use Rattle.std.proofs.lemmas.List.Elements.{Contains-append_cases, Contains-append_left, Contains-append_right}
use Rattle.std.proofs.lemmas.List.Kept.{AllPairs-cons, AllPairs-filter}
use Rattle.std.proofs.lemmas.Option.{same_Some, none-some}
use Rattle.ti_text.proofs.Lists.{map-take_item}
use Rattle.ti_caps.specs.declared.capability.Kind.{Kind}
use Rattle.ti_caps.specs.declared.capability.Kind.TheVariants as kind
use Rattle.ti_layout.specs.Values.{Content, content_true, content_number, content_text, content_cancelled}
use Rattle.ti_layout.specs.Laws.{without_cancel}
use Rattle.user_extension.specs.UserDefined.{Row, comes_before, kind_rank}
use Rattle.user_compiling.specs.Rows.{AreRowsOf, RowsAreDetermined}
use Rattle.user_values.specs.Expansion.{first_said}
use Rattle.user_values.specs.Tables.{entries_seen, entry_seen}
use Rattle.user_values.specs.declared.entries.UserEntry.{UserEntry}
use Rattle.user_compiling.specs.inside.Kinds.{is_of_kind, of_kind, row_with, rows_of_kind}

-- ---- lists

pub contains_head : (r : Row) (rs : List Row) → Contains (r ∷ rs) r
contains_head r rs = (0, omega arith, refl)

pub contains_later : (r : Row) (rs : List Row) (x : Row) → Contains rs x → Contains (r ∷ rs) x
contains_later r rs x c = (suc c.0, omega (arith, c.1), c.2)

pub contains_cases : (r : Row) (rs : List Row) (x : Row) → Contains (r ∷ rs) x → (r ≡ x) ⊎ Contains rs x
contains_cases r rs x c = by_place r rs x c.0 c.1 c.2 where
  by_place : (r : Row) (rs : List Row) (x : Row) (k : ℕ) → k < length (r ∷ rs) → get_or (r ∷ rs) k x ≡ x → (r ≡ x) ⊎ Contains rs x
  by_place r rs x zero l e = inl e
  by_place r rs x (suc k) l e = inr (k, omega (arith, l), e)

pub contains_none : (x : Row) → Contains [] x → ⊥
contains_none x c = omega (arith, c.1)

filter-contains : (p : Row → Bool) (rs : List Row) (x : Row) → Contains rs x → p x ≡ true → Contains (filter p rs) x
filter-contains p [] x c e = absurd (contains_none x c)
filter-contains p (r ∷ rs) x c e = elim (contains_cases r rs x c) [
  | inl same ↦
      let passes : p r ≡ true = ap p same ∙ e in
      subst (λ (b : Bool). Contains (cond b (r ∷ filter p rs) (filter p rs)) x) (sym passes)
      (subst (λ (y : Row). Contains (r ∷ filter p rs) y) same (contains_head r (filter p rs)))
  | inr later ↦ elim (p r) as (λ b. Contains (cond b (r ∷ filter p rs) (filter p rs)) x) [
    | true ↦ contains_later r (filter p rs) x (filter-contains p rs x later e)
    | false ↦ filter-contains p rs x later e
  ]
]

contains-from_filter : (p : Row → Bool) (rs : List Row) (x : Row) → Contains (filter p rs) x → Contains rs x
contains-from_filter p [] x c = c
contains-from_filter p (r ∷ rs) x c = elim (p r) as (λ b. Contains (cond b (r ∷ filter p rs) (filter p rs)) x → Contains (r ∷ rs) x) [
  | true ↦ λ d. elim (contains_cases r (filter p rs) x d) [
    | inl same ↦ subst (λ (y : Row). Contains (r ∷ rs) y) same (contains_head r rs)
    | inr later ↦ contains_later r rs x (contains-from_filter p rs x later)
  ]
  | false ↦ λ d. contains_later r rs x (contains-from_filter p rs x d)
] c

passes-in_filter : (p : Row → Bool) (rs : List Row) (x : Row) → Contains (filter p rs) x → p x ≡ true
passes-in_filter p rs x c = All-contains (λ y. p y ≡ true) (filter p rs) x (filter_passes p rs) c

pairs_tail : (R : Row → Row → Type 0) (r : Row) (rs : List Row) → AllPairs R (r ∷ rs) → AllPairs R rs
pairs_tail R r rs h = λ i j d a b. h (suc i) (suc j) d (omega (arith, a)) (omega (arith, b))

pairs_head : (R : Row → Row → Type 0) (r : Row) (rs : List Row) → AllPairs R (r ∷ rs) → All (R r) rs
pairs_head R r rs h = λ k d l. h 0 (suc k) d (omega arith) (omega (arith, l))

pairs_append : (R : Row → Row → Type 0) (xs ys : List Row) → AllPairs R xs → AllPairs R ys → ((x y : Row) → Contains xs x → Contains ys y → R x y)
    → AllPairs R (xs ++ ys)
pairs_append R [] ys a b h = b
pairs_append R (x ∷ xs) ys a b h =
    AllPairs-cons R x (xs ++ ys)
    (All-append (R x) xs ys (pairs_head R x xs a) (λ k d l. h x (get_or ys k d) (contains_head x xs) (k, l, at_itself ys k d l)))
    (pairs_append R xs ys (pairs_tail R x xs a) b (λ y z c e. h y z (contains_later x xs y c) e))
  where
    at_itself : (ys : List Row) (k : ℕ) (d : Row) → k < length ys → get_or ys k (get_or ys k d) ≡ get_or ys k d
    at_itself [] k d l = absurd (omega (arith, l))
    at_itself (y ∷ ys) zero d l = refl
    at_itself (y ∷ ys) (suc k) d l = at_itself ys k d (omega (arith, l))

-- ---- the order of rows

abbrev before_with : ℕ → ℕ → Ordering → Bool
before_with a b o = nat_le (suc a) b || (a == b && is_lt o)

with_less : (a b : ℕ) (o : Ordering) → a ≡ b → o ≡ Less → before_with a b o ≡ true
with_less a b o e l = rw (e, l) (same_ranks b) where
  same_ranks : (n : ℕ) → before_with n n Less ≡ true
  same_ranks n = grind arith

with_rank : (a b : ℕ) (o : Ordering) → a < b → before_with a b o ≡ true
with_rank a b o l = let t : nat_le (suc a) b ≡ true = grind (arith, l) in rw t refl

not_after_rank : (a b : ℕ) (o : Ordering) → b < a → before_with a b o ≡ false
not_after_rank a b o l =
    let t : nat_le (suc a) b ≡ false = grind (arith, l) in
    let u : (a == b) ≡ false = grind (arith, l) in
    rw (t, u) refl

by_name : (n : ℕ) (o : Ordering) → before_with n n o ≡ true → o ≡ Less
by_name n Less e = refl
by_name n Equal e = let f : before_with n n Equal ≡ false = grind arith in absurd (false≢true (sym f ∙ e))
by_name n Greater e = let f : before_with n n Greater ≡ false = grind arith in absurd (false≢true (sym f ∙ e))

-- no two names come before each other
names_apart : (x y : List ℕ) → slice_cmp nat_cmp x y ≡ Less → slice_cmp nat_cmp y x ≡ Less → ⊥
names_apart x y a b = less_itself x (nat_list_cmp_total.trans x y x a b) where
  less_itself : (x : List ℕ) → slice_cmp nat_cmp x x ≡ Less → ⊥
  less_itself x e = apart_orderings (sym e ∙ tied_itself nat_list_cmp_total x) where
    apart_orderings : Less ≡ Equal → ⊥
    apart_orderings e = cc

-- no two rows come before each other
pub rows_apart : (u v : Row) → IsTrue (comes_before u v) → IsTrue (comes_before v u) → ⊥
rows_apart u v e f = elim (cases_lt (kind_rank u.1) (kind_rank v.1)) [
  | inl lt ↦ false≢true (sym (not_after_rank (kind_rank v.1) (kind_rank u.1) (slice_cmp nat_cmp v.0 u.0) lt) ∙ f)
  | inr le ↦ elim (cases_lt (kind_rank v.1) (kind_rank u.1)) [
    | inl lt ↦ false≢true (sym (not_after_rank (kind_rank u.1) (kind_rank v.1) (slice_cmp nat_cmp u.0 v.0) lt) ∙ e)
    | inr ge ↦
        let same : kind_rank u.1 ≡ kind_rank v.1 = omega (arith, le, ge) in
        names_apart u.0 v.0 (by_name (kind_rank v.1) (slice_cmp nat_cmp u.0 v.0)
        (subst (λ (n : ℕ). before_with n (kind_rank v.1) (slice_cmp nat_cmp u.0 v.0) ≡ true) same e))
        (by_name (kind_rank v.1) (slice_cmp nat_cmp v.0 u.0) (subst (λ (n : ℕ). before_with (kind_rank v.1) n (slice_cmp nat_cmp v.0 u.0) ≡ true) same f))
  ]
]

-- ---- there is only one list

abbrev Before : Row → Row → Type 0
Before u v = IsTrue (comes_before u v)

abbrev AreSame : List Row → List Row → Type 0
AreSame xs ys = (r : Row) → Contains xs r ↔ Contains ys r

same_heads : (x : Row) (xs : List Row) (y : Row) (ys : List Row) → AllPairs Before (x ∷ xs) → AllPairs Before (y ∷ ys) → AreSame (x ∷ xs) (y ∷ ys) → x ≡ y
same_heads x xs y ys a b h = elim (contains_cases y ys x ((h x).0 (contains_head x xs))) [
  | inl e ↦ sym e
  | inr c ↦ elim (contains_cases x xs y ((h y).1 (contains_head y ys))) [
    | inl e ↦ e
    | inr d ↦ absurd (rows_apart x y (All-contains (Before x) xs y (pairs_head Before x xs a) d) (All-contains (Before y) ys x (pairs_head Before y ys b) c))
  ]
]

-- a row of the rest of one list is in the rest of the other
in_rest : (x : Row) (xs : List Row) (y : Row) (ys : List Row) → AllPairs Before (x ∷ xs) → x ≡ y → (r : Row) → Contains xs r → Contains (y ∷ ys) r
    → Contains ys r
in_rest x xs y ys a same r c d = elim (contains_cases y ys r d) [
  | inl e ↦
      let here : Before x r = All-contains (Before x) xs r (pairs_head Before x xs a) c in
      let itself : Before x x = subst (λ (z : Row). Before x z) (sym (same ∙ e)) here in
      absurd (rows_apart x x itself itself)
  | inr later ↦ later
]

determined : (xs ys : List Row) → AllPairs Before xs → AllPairs Before ys → AreSame xs ys → xs ≡ ys
determined [] [] a b h = refl
determined [] (y ∷ ys) a b h = absurd (contains_none y ((h y).1 (contains_head y ys)))
determined (x ∷ xs) [] a b h = absurd (contains_none x ((h x).0 (contains_head x xs)))
determined (x ∷ xs) (y ∷ ys) a b h =
    let same : x ≡ y = same_heads x xs y ys a b h in
    let rest : xs ≡ ys =
    determined xs ys (pairs_tail Before x xs a) (pairs_tail Before y ys b)
    (λ r. (
      λ c. in_rest x xs y ys a same r c ((h r).0 (contains_later x xs r c)),
      λ c. in_rest y ys x xs b (sym same) r c
          ((h r).1 (contains_later y ys r c)),
    )) in
    ap (λ z. z ∷ xs) same ∙ ap (λ zs. y ∷ zs) rest

pub rows_are_determined : RowsAreDetermined
rows_are_determined said one other a b =
    determined one other a.rise b.rise (λ r. (λ c. (b.each r.0 r.1).1 ((a.each r.0 r.1).0 c), λ c. (a.each r.0 r.1).1 ((b.each r.0 r.1).0 c)))

-- ---- what a table says

abbrev ByName : Row → Row → Type 0
ByName u v = slice_cmp nat_cmp u.0 v.0 ≡ Less

said_here : (r : Row) (rs : List Row) (name : List ℕ) (content : Content) → r ≡ (name, content) → first_said (r ∷ rs) name ≡ Some content
said_here r rs name content same =
    let named : r.0 ≡ name = ap (λ (x : Row). x.0) same in
    let given : r.1 ≡ content = ap (λ (x : Row). x.1) same in
    let passes : bytes_eq r.0 name ≡ true = (bytes_decides r.0 name).1 named in
    ap (λ (b : Bool). cond b (Some r.1) (first_said rs name)) passes ∙ ap (λ (x : Content). Some x) given

passed_said : (r : Row) (rs : List Row) (name : List ℕ) → bytes_eq r.0 name ≡ false → first_said (r ∷ rs) name ≡ first_said rs name
passed_said r rs name f = ap (λ (b : Bool). cond b (Some r.1) (first_said rs name)) f

said_later : (r : Row) (rs : List Row) (name : List ℕ) → slice_cmp nat_cmp r.0 name ≡ Less → first_said (r ∷ rs) name ≡ first_said rs name
said_later r rs name l = passed_said r rs name (sym (is_eq-slice_cmp r.0 name) ∙ ap is_eq l)

said_of_row : (rs : List Row) → AllPairs ByName rs → (name : List ℕ) (content : Content) → Contains rs (name, content) → first_said rs name ≡ Some content
said_of_row [] s name content c = absurd (contains_none (name, content) c)
said_of_row (r ∷ rs) s name content c = elim (contains_cases r rs (name, content) c) [
  | inl same ↦ said_here r rs name content same
  | inr later ↦
      let less : slice_cmp nat_cmp r.0 name ≡ Less = All-contains (ByName r) rs (name, content) (pairs_head ByName r rs s) later in
      said_later r rs name less ∙ said_of_row rs (pairs_tail ByName r rs s) name content later
]

pub row_same : (a b : List ℕ) (c d : Content) → a ≡ b → c ≡ d → ◌≡◌ {A = Row} (a, c) (b, d)
row_same a b c d e f = rw (e, f) refl

row_of_said : (rs : List Row) (name : List ℕ) (content : Content) → first_said rs name ≡ Some content → Contains rs (name, content)
row_of_said [] name content e = absurd (none-some content e)
row_of_said (r ∷ rs) name content e = elim (cases_Bool (bytes_eq r.0 name)) [
  | inl t ↦
      let same : r.0 ≡ name = (bytes_decides r.0 name).0 t in
      let found : first_said (r ∷ rs) name ≡ Some r.1 = ap (λ (b : Bool). cond b (Some r.1) (first_said rs name)) t in
      let given : r.1 ≡ content = same_Some r.1 content (sym found ∙ e) in
      subst (λ (x : Row). Contains (r ∷ rs) x) (row_same r.0 name r.1 content same given) (contains_head r rs)
  | inr f ↦ contains_later r rs (name, content) (row_of_said rs name content (sym (passed_said r rs name f) ∙ e))
]

-- ---- kind by kind

abbrev rank_of_kind : Kind → ℕ
rank_of_kind kind.Flag = 0
rank_of_kind kind.Number = 1
rank_of_kind kind.Text = 2

rank_in_kind : (k : Kind) (c : Content) → is_of_kind k c ≡ true → kind_rank c ≡ rank_of_kind k
rank_in_kind kind.Flag content_true e = refl
rank_in_kind kind.Flag (content_number n) e = absurd (false≢true e)
rank_in_kind kind.Flag (content_text t) e = absurd (false≢true e)
rank_in_kind kind.Flag content_cancelled e = absurd (false≢true e)
rank_in_kind kind.Number content_true e = absurd (false≢true e)
rank_in_kind kind.Number (content_number n) e = refl
rank_in_kind kind.Number (content_text t) e = absurd (false≢true e)
rank_in_kind kind.Number content_cancelled e = absurd (false≢true e)
rank_in_kind kind.Text content_true e = absurd (false≢true e)
rank_in_kind kind.Text (content_number n) e = absurd (false≢true e)
rank_in_kind kind.Text (content_text t) e = refl
rank_in_kind kind.Text content_cancelled e = absurd (false≢true e)

-- a content of a kind is there
present : (k : Kind) (c : Content) → is_of_kind k c ≡ true → without_cancel (Some c) ≡ Some c
present k content_true e = refl
present k (content_number n) e = refl
present k (content_text t) e = refl
present kind.Flag content_cancelled e = absurd (false≢true e)
present kind.Number content_cancelled e = absurd (false≢true e)
present kind.Text content_cancelled e = absurd (false≢true e)

pub uncancelled : (o : Option Content) (c : Content) → without_cancel o ≡ Some c → o ≡ Some c
uncancelled None c e = absurd (none-some c e)
uncancelled (Some content_true) c e = e
uncancelled (Some (content_number n)) c e = e
uncancelled (Some (content_text t)) c e = e
uncancelled (Some content_cancelled) c e = absurd (none-some c e)

abbrev in_kind : Kind → Row → Bool
in_kind k r = is_of_kind k r.1

abbrev all_kinds : List Row → List Row
all_kinds rows = (rows_of_kind kind.Flag rows ++ rows_of_kind kind.Number rows) ++ rows_of_kind kind.Text rows

in_all : (rows : List Row) (name : List ℕ) (c : Content) → Contains rows (name, c) → without_cancel (Some c) ≡ Some c → Contains (all_kinds rows) (name, c)
in_all rows name content_true h e =
    Contains-append_left (rows_of_kind kind.Flag rows ++ rows_of_kind kind.Number rows) (rows_of_kind kind.Text rows) (name, content_true)
    (Contains-append_left (rows_of_kind kind.Flag rows) (rows_of_kind kind.Number rows) (name, content_true)
    (filter-contains (in_kind kind.Flag) rows (name, content_true) h refl))
in_all rows name (content_number n) h e =
    Contains-append_left (rows_of_kind kind.Flag rows ++ rows_of_kind kind.Number rows) (rows_of_kind kind.Text rows) (name, content_number n)
    (Contains-append_right (rows_of_kind kind.Flag rows) (rows_of_kind kind.Number rows) (name, content_number n)
    (filter-contains (in_kind kind.Number) rows (name, content_number n) h refl))
in_all rows name (content_text t) h e =
    Contains-append_right (rows_of_kind kind.Flag rows ++ rows_of_kind kind.Number rows) (rows_of_kind kind.Text rows) (name, content_text t)
    (filter-contains (in_kind kind.Text) rows (name, content_text t) h refl)
in_all rows name content_cancelled h e = absurd (none-some content_cancelled e)

abbrev IsThere : List Row → Row → Type 0
IsThere rows r = Contains rows r × (without_cancel (Some r.1) ≡ Some r.1)

in_one : (k : Kind) (rows : List Row) (r : Row) → Contains (rows_of_kind k rows) r → IsThere rows r
in_one k rows r c = (contains-from_filter (in_kind k) rows r c, present k r.1 (passes-in_filter (in_kind k) rows r c))

from_all : (rows : List Row) (r : Row) → Contains (all_kinds rows) r → IsThere rows r
from_all rows r c = elim (Contains-append_cases (rows_of_kind kind.Flag rows ++ rows_of_kind kind.Number rows) (rows_of_kind kind.Text rows) r c) [
  | inl front ↦ elim (Contains-append_cases (rows_of_kind kind.Flag rows) (rows_of_kind kind.Number rows) r front) [
    | inl flag ↦ in_one kind.Flag rows r flag
    | inr number ↦ in_one kind.Number rows r number
  ]
  | inr text ↦ in_one kind.Text rows r text
]

kind_at : (k : Kind) (rows : List Row) (r : Row) → Contains (rows_of_kind k rows) r → kind_rank r.1 ≡ rank_of_kind k
kind_at k rows r c = rank_in_kind k r.1 (passes-in_filter (in_kind k) rows r c)

kind_rises : (k : Kind) (rows : List Row) → AllPairs ByName rows → AllPairs Before (rows_of_kind k rows)
kind_rises k rows h = λ i j d a b.
    let kept = rows_of_kind k rows in
    let passes : All (λ (r : Row). is_of_kind k r.1 ≡ true) kept = filter_passes (in_kind k) rows in
    let u = get_or kept i d in
    let v = get_or kept j d in
    let first : i < length kept = omega (arith, a, b) in
    with_less (kind_rank u.1) (kind_rank v.1) (slice_cmp nat_cmp u.0 v.0) (rank_in_kind k u.1 (passes i d first) ∙ sym (rank_in_kind k v.1 (passes j d b)))
    (AllPairs-filter ByName (in_kind k) rows h i j d a b)

across : (u v : Row) (a b : ℕ) → kind_rank u.1 ≡ a → kind_rank v.1 ≡ b → a < b → Before u v
across u v a b e f l = with_rank (kind_rank u.1) (kind_rank v.1) (slice_cmp nat_cmp u.0 v.0) (omega (arith, e, f, l))

all_rise : (rows : List Row) → AllPairs ByName rows → AllPairs Before (all_kinds rows)
all_rise rows h =
    let flags = rows_of_kind kind.Flag rows in
    let numbers = rows_of_kind kind.Number rows in
    let texts = rows_of_kind kind.Text rows in
    pairs_append Before (flags ++ numbers) texts
    (pairs_append Before flags numbers (kind_rises kind.Flag rows h) (kind_rises kind.Number rows h)
    (λ u v c d. across u v 0 1 (kind_at kind.Flag rows u c) (kind_at kind.Number rows v d) (omega arith)))
    (kind_rises kind.Text rows h)
    (λ u v c d. elim (Contains-append_cases flags numbers u c) [
      | inl flag ↦ across u v 0 2 (kind_at kind.Flag rows u flag) (kind_at kind.Text rows v d) (omega arith)
      | inr number ↦ across u v 1 2 (kind_at kind.Number rows u number) (kind_at kind.Text rows v d) (omega arith)
    ])

-- the rows of a table are those of the block that says what it says
pub rows_of_entries : (rows : List Row) → AllPairs ByName rows → AreRowsOf (first_said rows) (all_kinds rows)
rows_of_entries rows s = record {
  rise = all_rise rows s;
  each = λ name content. (
    λ c.
        let there = from_all rows (name, content) c in
        ap without_cancel (said_of_row rows s name content there.0) ∙ there.1,
    λ e.
        let said : first_said rows name ≡ Some content = uncancelled (first_said rows name) content e in
        in_all rows name content (row_of_said rows name content said) (sym (ap without_cancel said) ∙ e),
  );
}

-- one more row of a kind
pub kind_more : (k : Kind) (rows : List Row) (r : Row) → rows_of_kind k (rows ++ r ∷ []) ≡ rows_of_kind k rows ++ row_with r.0 (of_kind k r.1)
kind_more k rows r =
    filter-append (in_kind k) rows (r ∷ [])
    ∙ elim (is_of_kind k r.1) as (λ b. rows_of_kind k rows ++ cond b (r ∷ []) [] ≡ rows_of_kind k rows
    ++ row_with r.0 (cond b (Some r.1) None)) [ true ↦ refl | false ↦ refl ]

-- a row of one more entry was added
pub row_more : (k : Kind) (entries : List (Rc UserEntry Global)) (at : ℕ) (entry : Rc UserEntry Global) (start old new : List Row)
    → old ≡ start ++ rows_of_kind k (entries_seen (take at entries)) → at < length entries → entry ≡ get_or entries at entry
    → new ≡ old ++ row_with (entry_seen entry.value).0 (of_kind k (entry_seen entry.value).1)
    → new ≡ start ++ rows_of_kind k (entries_seen (take (at + 1) entries))
row_more k entries at entry start old new e within is n =
    let seen : Rc UserEntry Global → Row = λ x. entry_seen x.value in
    let before = entries_seen (take at entries) in
    let added = row_with (seen entry).0 (of_kind k (seen entry).1) in
    n ∙ ap (λ xs. xs ++ added) e ∙ append_assoc start (rows_of_kind k before) added
    ∙ ap (λ xs. start ++ xs) (sym (kind_more k before (seen entry)) ∙ ap (rows_of_kind k) (sym (map-take_item seen entries at entry within is)))

-- the rows of who gives each name the same value
pub rows_alike : (said other : List ℕ → Option Content) (rows : List Row) → ((name : List ℕ) → without_cancel (said name) ≡ without_cancel (other name))
    → AreRowsOf said rows → AreRowsOf other rows
rows_alike said other rows h are = record {
  rise = are.rise;
  each = λ name content. (λ c. sym (h name) ∙ (are.each name content).0 c, λ e. (are.each name content).1 (h name ∙ e));
}

pub rows_agree : (said other : List ℕ → Option Content) (rows : List Row) → ((name : List ℕ) → said name ≡ other name) → AreRowsOf said rows
    → AreRowsOf other rows
rows_agree said other rows h are = rows_alike said other rows (λ name. ap without_cancel (h name)) are

-- the rows of the three kinds, added in turn, are those of who says what the entries say
pub rows_in_turn : (rows : List Row) (said : List ℕ → Option Content) (none a b c : List Row) → AllPairs ByName rows
    → ((name : List ℕ) → first_said rows name ≡ said name) → none ≡ [] → a ≡ none ++ rows_of_kind kind.Flag rows
    → b ≡ a ++ rows_of_kind kind.Number rows → c ≡ b ++ rows_of_kind kind.Text rows → AreRowsOf said c
rows_in_turn rows said none a b c s h n e f g =
    let flags : a ≡ rows_of_kind kind.Flag rows = e ∙ ap (λ xs. xs ++ rows_of_kind kind.Flag rows) n in
    let all : c ≡ all_kinds rows = g ∙ ap (λ xs. xs ++ rows_of_kind kind.Text rows) (f ∙ ap (λ xs. xs ++ rows_of_kind kind.Number rows) flags) in
    rows_agree (first_said rows) said c h (subst (AreRowsOf (first_said rows)) (sym all) (rows_of_entries rows s))
