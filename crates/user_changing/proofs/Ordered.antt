-- User-defined capabilities have one order, and a list of them in this order keeps it where one is
-- put in.
use Rattle.std.proofs.Common.{◌≡◌, ◌≢◌, ℕ, zero, suc, ◌+◌, ◌<◌, ◌≤◌, Bool, true, false, List, [], ◌∷◌, length, get_or, take, drop, refl, sym, ap, ◌∙◌, subst, arith, ◌⊎◌, inl, inr}
use Rattle.std.specs.Prelude.{IsTrue, ◌==◌, ◌&&◌, ◌||◌, nat_le, All}
use Rattle.std.specs.List.{AllPairs, insert}
use Rattle.std.specs.Ordering.{nat_cmp, is_eq, is_lt, ordering_reverse}
use Rattle.std.specs.declared.cmp.Ordering.{Ordering}
use Rattle.std.specs.declared.cmp.Ordering.TheVariants.{Less, Equal, Greater}
use Rattle.std.specs.Cmp.Lexicographic.{slice_cmp, bytes_decides}
use Rattle.std.proofs.lemmas.Map.Text.{is_eq-slice_cmp}
use Rattle.std.proofs.lemmas.Bool.{cases_lt, false≢true}
use Rattle.std.proofs.lemmas.Cmp.{nat_list_cmp_total}
use Rattle.std.proofs.lemmas.List.{get_or-map, length-map}
use Rattle.std.proofs.lemmas.List.Elements.{All-append, All-cons, All-take, All-drop}
use Rattle.std.proofs.lemmas.List.Kept.{AllPairs-cons}
use Rattle.user_items.specs.Names.{is_user_defined_name}
use Rattle.user_extension.specs.UserDefined.{AreUserDefined, IsValue, Row, comes_before, kind_rank, row_of, rows_of}
use Rattle.user_extension.specs.declared.user_defined.UserDefined.{UserDefined}
use Rattle.user_changing.specs.inside.Rows.{IsBefore, IsGapFor, IsNew}

-- ---- the order of two

abbrev before_with : ℕ → ℕ → Ordering → Bool
before_with a b o = nat_le (suc a) b || (a == b && is_lt o)

with_less : (a b : ℕ) (o : Ordering) → a ≡ b → o ≡ Less → before_with a b o ≡ true
with_less a b o e l = rw (e, l) (same_ranks b) where
  same_ranks : (n : ℕ) → before_with n n Less ≡ true
  same_ranks n = grind arith

with_rank : (a b : ℕ) (o : Ordering) → a < b → before_with a b o ≡ true
with_rank a b o l = let t : nat_le (suc a) b ≡ true = grind (arith, l) in rw t refl

not_after_rank : (a b : ℕ) (o : Ordering) → b < a → before_with a b o ≡ false
not_after_rank a b o l =
    let t : nat_le (suc a) b ≡ false = grind (arith, l) in
    let u : (a == b) ≡ false = grind (arith, l) in
    rw (t, u) refl

by_name : (n : ℕ) (o : Ordering) → before_with n n o ≡ true → o ≡ Less
by_name n Less e = refl
by_name n Equal e = let f : before_with n n Equal ≡ false = grind arith in absurd (false≢true (sym f ∙ e))
by_name n Greater e = let f : before_with n n Greater ≡ false = grind arith in absurd (false≢true (sym f ∙ e))

-- one is of a kind before, or of the same kind with a name before
parts : (a b : ℕ) (o : Ordering) → before_with a b o ≡ true → (a < b) ⊎ ((a ≡ b) × (o ≡ Less))
parts a b o e = elim (cases_lt a b) [
  | inl lt ↦ inl lt
  | inr le ↦ elim (cases_lt b a) [
    | inl lt ↦ absurd (false≢true (sym (not_after_rank a b o lt) ∙ e))
    | inr ge ↦
        let same : a ≡ b = omega (arith, le, ge) in
        inr (same, by_name b o (subst (λ (n : ℕ). before_with n b o ≡ true) same e))
  ]
]

follows : (u v w : Row) → IsBefore u v → IsBefore v w → IsBefore u w
follows u v w p q =
    elim (parts (kind_rank u.1) (kind_rank v.1) (slice_cmp nat_cmp u.0 v.0) p) [
      | inl lt ↦ elim (parts (kind_rank v.1) (kind_rank w.1) (slice_cmp nat_cmp v.0 w.0) q) [
        | inl more ↦ with_rank (kind_rank u.1) (kind_rank w.1) (slice_cmp nat_cmp u.0 w.0) (omega (arith, lt, more))
        | inr same ↦ let e = same.0 in with_rank (kind_rank u.1) (kind_rank w.1) (slice_cmp nat_cmp u.0 w.0) (omega (arith, lt, e))
      ]
      | inr same ↦ elim (parts (kind_rank v.1) (kind_rank w.1) (slice_cmp nat_cmp v.0 w.0) q) [
        | inl more ↦ let e = same.0 in with_rank (kind_rank u.1) (kind_rank w.1) (slice_cmp nat_cmp u.0 w.0) (omega (arith, e, more))
        | inr again ↦
            with_less (kind_rank u.1) (kind_rank w.1) (slice_cmp nat_cmp u.0 w.0) (same.0 ∙ again.0) (nat_list_cmp_total.trans u.0 v.0 w.0 same.1 again.1)
      ]
    ]

same_names : (x y : List ℕ) → slice_cmp nat_cmp x y ≡ Equal → x ≡ y
same_names x y e = (bytes_decides x y).0 (sym (is_eq-slice_cmp x y) ∙ ap is_eq e)

less_other_way : (x y : List ℕ) → x ≢ y → slice_cmp nat_cmp x y ≢ Less → slice_cmp nat_cmp y x ≡ Less
less_other_way x y apart not_less =
    nat_list_cmp_total.antisymm y x ∙ elim (slice_cmp nat_cmp x y) as (λ o. slice_cmp nat_cmp x y ≡ o → ordering_reverse o ≡ Less) [
      | Less ↦ λ e. absurd (not_less e)
      | Equal ↦ λ e. absurd (apart (same_names x y e))
      | Greater ↦ λ e. refl
    ] refl

-- of two whose names differ one comes before the other
other_way : (u v : Row) → u.0 ≢ v.0 → comes_before u v ≡ false → IsBefore v u
other_way u v apart e = elim (cases_lt (kind_rank u.1) (kind_rank v.1)) [
  | inl lt ↦ absurd (false≢true (sym e ∙ with_rank (kind_rank u.1) (kind_rank v.1) (slice_cmp nat_cmp u.0 v.0) lt))
  | inr le ↦ elim (cases_lt (kind_rank v.1) (kind_rank u.1)) [
    | inl lt ↦ with_rank (kind_rank v.1) (kind_rank u.1) (slice_cmp nat_cmp v.0 u.0) lt
    | inr ge ↦
        let same : kind_rank v.1 ≡ kind_rank u.1 = omega (arith, le, ge) in
        with_less (kind_rank v.1) (kind_rank u.1) (slice_cmp nat_cmp v.0 u.0) same
        (less_other_way u.0 v.0 apart
        (λ l. false≢true (sym e ∙ with_less (kind_rank u.1) (kind_rank v.1) (slice_cmp nat_cmp u.0 v.0) (sym same) l)))
  ]
]

-- ---- the place of one among others

abbrev Rows : Type 0
Rows = List UserDefined

read : (rows : Rows) (i : ℕ) (d : UserDefined) (e : Row) → i < length rows → get_or (rows_of rows) i e ≡ row_of (get_or rows i d)
read rows i d e within = get_or-map row_of rows i d e within

-- each of the first comes before the row
abbrev pub ComeBefore : Rows → ℕ → Row → Type 0
ComeBefore rows n row = (j : ℕ) (d : Row) → j < n → IsBefore (get_or (rows_of rows) j d) row

pub one_more_before : (rows : Rows) (k : ℕ) (row : Row) (one : UserDefined) → ComeBefore rows k row → k < length rows
    → comes_before (row_of (get_or rows k one)) row ≡ true → ComeBefore rows (k + 1) row
one_more_before rows k row one before within first j d l = elim (cases_lt j k) [
  | inl below ↦ before j d below
  | inr not_below ↦
      let same : k ≡ j = omega (arith, l, not_below) in
      subst (λ n. IsBefore (get_or (rows_of rows) n d) row) same (subst (λ (u : Row). IsBefore u row) (sym (read rows k one d within)) first)
]

pub gap_here : (rows : Rows) (k : ℕ) (row : Row) (one : UserDefined) → AreUserDefined (rows_of rows) → IsNew row.0 (rows_of rows) → ComeBefore rows k row
    → k < length rows → comes_before (row_of (get_or rows k one)) row ≡ false → IsGapFor (rows_of rows) row k
gap_here rows k row one are new before within not_before =
    let long : length (rows_of rows) ≡ length rows = length-map rows row_of in
    let at = row_of (get_or rows k one) in
    let here : (d : Row) → get_or (rows_of rows) k d ≡ row_of (get_or rows k one) = λ d. read rows k one d within in
    let low : k < length (rows_of rows) = omega (arith, within, long) in
    let apart : at.0 ≢ row.0 = subst (λ (u : Row). u.0 ≢ row.0) (here row) (new k row low) in
    let first : IsBefore row at = other_way at row apart not_before in
    record {
      within = omega (arith, within, long);
      before = before;
      after = λ j d le l. elim (cases_lt k j) [
        | inl later ↦
            follows row at (get_or (rows_of rows) j d) first
            (subst (λ (u : Row). IsBefore u (get_or (rows_of rows) j d)) (here d) (are.rise k j d later l))
        | inr not_later ↦
            let same : k ≡ j = omega (arith, le, not_later) in
            subst (λ n. IsBefore row (get_or (rows_of rows) n d)) same (subst (λ (u : Row). IsBefore row u) (sym (here d)) first)
      ];
    }

-- ---- one more

all-insert : {X : Type 0} (P : X → Type 0) (xs : List X) (i : ℕ) (x : X) → P x → All P xs → All P (insert xs i x)
all-insert P xs i x here all = All-append P (take i xs) (x ∷ drop i xs) (All-take P i xs all) (All-cons P x (drop i xs) here (All-drop P i xs all))

pairs-insert : (R : Row → Row → Type 0) (rows : List Row) (i : ℕ) (e : Row) → AllPairs R rows → i ≤ length rows
    → ((j : ℕ) (d : Row) → j < i → R (get_or rows j d) e) → ((j : ℕ) (d : Row) → i ≤ j → j < length rows → R e (get_or rows j d))
    → AllPairs R (insert rows i e)
pairs-insert R rows zero e pairs within before after = AllPairs-cons R e rows (λ k d l. after k d (omega arith) l) pairs
pairs-insert R [] (suc i) e pairs within before after = absurd (omega (arith, within))
pairs-insert R (x ∷ rows) (suc i) e pairs within before after =
    AllPairs-cons R x (insert rows i e)
    (all-insert (R x) rows i e (before 0 x (omega arith)) (λ k d l. pairs 0 (suc k) d (omega arith) (omega (arith, l))))
    (pairs-insert R rows i e (λ j k d a b. pairs (suc j) (suc k) d (omega (arith, a)) (omega (arith, b))) (omega (arith, within))
    (λ j d l. before (suc j) d (omega (arith, l))) (λ j d l m. after (suc j) d (omega (arith, l)) (omega (arith, m))))

pub map-insert : (rows : Rows) (i : ℕ) (one : UserDefined) → rows_of (insert rows i one) ≡ insert (rows_of rows) i (row_of one)
map-insert rows zero one = refl
map-insert [] (suc i) one = refl
map-insert (x ∷ rows) (suc i) one = ap (λ t. row_of x ∷ t) (map-insert rows i one)

pub are-insert : (rows : List Row) (i : ℕ) (row : Row) → AreUserDefined rows → IsTrue (is_user_defined_name row.0) → IsValue row.1 → IsNew row.0 rows → IsGapFor rows row i
    → AreUserDefined (insert rows i row)
are-insert rows i row are named value new gap = record {
  names = all-insert (λ u. IsTrue (is_user_defined_name u.0)) rows i row named are.names;
  values = all-insert (λ u. IsValue u.1) rows i row value are.values;
  rise = pairs-insert IsBefore rows i row are.rise gap.within gap.before gap.after;
  once = pairs-insert (λ u v. u.0 ≢ v.0) rows i row are.once gap.within
      (λ j d l. new j d (let w = gap.within in omega (arith, l, w))) (λ j d le l e. new j d l (sym e));
}

-- the same where it was put into a list of the code
pub put_are : (rows more : Rows) (i : ℕ) (one : UserDefined) → more ≡ insert rows i one → AreUserDefined (rows_of rows)
    → IsTrue (is_user_defined_name (row_of one).0) → IsValue (row_of one).1 → IsNew (row_of one).0 (rows_of rows) → IsGapFor (rows_of rows) (row_of one) i
    → AreUserDefined (rows_of more)
put_are rows more i one is are named value new gap =
    subst (λ (rs : List Row). AreUserDefined rs) (sym (ap (λ (xs : Rows). rows_of xs) is ∙ map-insert rows i one))
    (are-insert (rows_of rows) i (row_of one) are named value new gap)
