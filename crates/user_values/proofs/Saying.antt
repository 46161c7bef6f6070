-- What the entries of a table say, and what one more changes.
use Rattle.std.proofs.Common.{◌≡◌, ℕ, zero, suc, ◌<◌, true, false, cond, All, subst, List, [], ◌∷◌, ◌++◌, length, get_or, take, drop}
use Rattle.std.proofs.Common.{Option, Some, None, refl, sym, ap, ◌∙◌, inl, inr, arith, Less}
use Rattle.std.specs.List.{insert}
use Rattle.std.specs.Option.{option_or}
use Rattle.std.specs.Ordering.{nat_cmp, is_eq}
use Rattle.std.specs.Cmp.Lexicographic.{slice_cmp, bytes_decides, nat_list_eq_equiv}
use Rattle.std.specs.Str.{bytes_eq}
use Rattle.std.proofs.lemmas.Bool.{cases_Bool, cases_lt}
use Rattle.std.proofs.lemmas.List.Elements.{All-cons, All-append, All-take, All-drop}
use Rattle.std.proofs.lemmas.List.Kept.{AllPairs-cons}
use Rattle.std.proofs.lemmas.Map.Text.{is_eq-slice_cmp}
use Rattle.std.proofs.lemmas.Option.{none-some}
use Rattle.ti_layout.specs.Values.{Content}
use Rattle.user_values.specs.Expansion.{UserMention}
use Rattle.user_values.specs.Tables.{TableSeen, IsBefore, NamesRise, said_at, said_once}
use Rattle.user_values.specs.inside.Entries.{AddsEntry, IsGapFor}
use Rattle.user_values.proofs.Depth.{first_said-append}

-- ---- names that differ

pub less_apart : (x y : List ℕ) → slice_cmp nat_cmp x y ≡ Less → bytes_eq x y ≡ false
less_apart x y l = sym (is_eq-slice_cmp x y) ∙ ap is_eq l

pub same_self : (name : List ℕ) → bytes_eq name name ≡ true
same_self name = (bytes_decides name name).1 refl

pub or_none : {X : Type 0} (o : Option X) → o ≡ option_or o None
or_none None = refl
or_none (Some x) = refl

pub or_assoc : {X : Type 0} (a b c : Option X) → option_or (option_or a b) c ≡ option_or a (option_or b c)
or_assoc None b c = refl
or_assoc (Some x) b c = refl

-- ---- entries in order

pub none_rise : NamesRise []
none_rise i j d a b = absurd (omega (arith, b))

pub tail_rises : (x : UserMention) (table : TableSeen) → NamesRise (x ∷ table) → NamesRise table
tail_rises x table h i j d a b = h (suc i) (suc j) d (omega (arith, a)) (omega (arith, b))

pub head_first : (x : UserMention) (table : TableSeen) → NamesRise (x ∷ table) → All (IsBefore x) table
head_first x table h k d l = h 0 (suc k) d (omega arith) (omega (arith, l))

pub said_here : (table : TableSeen) (name : List ℕ) (i : ℕ) (d : UserMention) → NamesRise table → i < length table → (get_or table i d).0 ≡ name
    → said_at table name ≡ Some (get_or table i d).1
said_here [] name i d rise l here = absurd (omega (arith, l))
said_here (x ∷ table) name zero d rise l here =
    let same : bytes_eq x.0 name ≡ true = (bytes_decides x.0 name).1 here in
    ap (λ b. cond b (Some x.1) (said_at table name)) same
said_here (x ∷ table) name (suc i) d rise l here =
    let less : slice_cmp nat_cmp x.0 name ≡ Less =
    subst (λ (n : List ℕ). slice_cmp nat_cmp x.0 n ≡ Less) here (head_first x table rise i d (omega (arith, l))) in
    ap (λ b. cond b (Some x.1) (said_at table name)) (less_apart x.0 name less)
    ∙ said_here table name i d (tail_rises x table rise) (omega (arith, l)) here

-- no entry has the name
abbrev pub Nowhere : TableSeen → List ℕ → Type 0
Nowhere table name = All (λ (u : UserMention). bytes_eq u.0 name ≡ false) table

pub said_nowhere : (table : TableSeen) (name : List ℕ) → Nowhere table name → said_at table name ≡ None
said_nowhere [] name h = refl
said_nowhere (x ∷ table) name h =
    ap (λ b. cond b (Some x.1) (said_at table name)) (h 0 x (omega arith))
    ∙ said_nowhere table name (λ k d l. h (suc k) d (omega (arith, l)))

pub nowhere : (table : TableSeen) (name : List ℕ) (i : ℕ) → IsGapFor table name i → Nowhere table name
nowhere table name i gap k d l = elim (cases_lt k i) [
  | inl below ↦ less_apart (get_or table k d).0 name (gap.before k d below)
  | inr not_below ↦
      nat_list_eq_equiv.symm (get_or table k d).0 name ∙ less_apart name (get_or table k d).0 (gap.after k d (omega (arith, not_below)) l)
]

-- ---- one more entry

all-insert : (P : UserMention → Type 0) (table : TableSeen) (i : ℕ) (e : UserMention) → P e → All P table → All P (insert table i e)
all-insert P table i e here all =
    All-append P (take i table) (e ∷ drop i table) (All-take P i table all) (All-cons P e (drop i table) here (All-drop P i table all))

pub rise-insert : (table : TableSeen) (i : ℕ) (e : UserMention) → NamesRise table → IsGapFor table e.0 i → NamesRise (insert table i e)
rise-insert table zero e rise gap = AllPairs-cons IsBefore e table (λ k d l. gap.after k d (omega arith) l) rise
rise-insert [] (suc i) e rise gap = absurd (let w = gap.within in omega (arith, w))
rise-insert (x ∷ table) (suc i) e rise gap =
    AllPairs-cons IsBefore x (insert table i e) (all-insert (IsBefore x) table i e (gap.before 0 x (omega arith)) (head_first x table rise))
    (rise-insert table i e (tail_rises x table rise) (record {
      within = (let w = gap.within in omega (arith, w));
      before = λ j d l. gap.before (suc j) d (omega (arith, l));
      after = λ j d l m. gap.after (suc j) d (omega (arith, l)) (omega (arith, m));
    }))

once : (name : List ℕ) (content : Content) → said_once name content name ≡ Some content
once name content = ap (λ b. cond b (Some content) None) (same_self name)

not_once : (name : List ℕ) (content : Content) (q : List ℕ) → bytes_eq name q ≡ false → said_once name content q ≡ None
not_once name content q f = ap (λ b. cond b (Some content) None) f

in_front : (table : TableSeen) (e : UserMention) → said_at table e.0 ≡ None → AddsEntry e table (e ∷ table)
in_front table e none q = elim (cases_Bool (bytes_eq e.0 q)) [
  | inl t ↦
      let same : e.0 ≡ q = (bytes_decides e.0 q).0 t in
      subst (λ (n : List ℕ). said_at (e ∷ table) n ≡ option_or (said_at table n) (said_once e.0 e.1 n)) same
      (ap (λ b. cond b (Some e.1) (said_at table e.0)) (same_self e.0)
      ∙ sym (ap (λ o. option_or o (said_once e.0 e.1 e.0)) none ∙ once e.0 e.1))
  | inr f ↦
      ap (λ b. cond b (Some e.1) (said_at table q)) f ∙ or_none (said_at table q) ∙ ap (option_or (said_at table q)) (sym (not_once e.0 e.1 q f))
]

none_later : (x : UserMention) (table : TableSeen) (name : List ℕ) → said_at (x ∷ table) name ≡ None → said_at table name ≡ None
none_later x table name = elim (bytes_eq x.0 name) as (λ b. cond b (Some x.1) (said_at table name) ≡ None → said_at table name ≡ None) [
  | true ↦ λ e. absurd (none-some x.1 (sym e))
  | false ↦ λ e. e
]

pub said-insert : (table : TableSeen) (i : ℕ) (e : UserMention) → said_at table e.0 ≡ None → AddsEntry e table (insert table i e)
said-insert table zero e none q = in_front table e none q
said-insert [] (suc i) e none q = in_front [] e none q
said-insert (x ∷ table) (suc i) e none q =
    elim (bytes_eq x.0 q) as (λ b. cond b (Some x.1) (said_at (insert table i e) q) ≡ option_or (cond b (Some x.1) (said_at table q)) (said_once e.0 e.1 q)) [
      | true ↦ refl
      | false ↦ said-insert table i e (none_later x table e.0 none) q
    ]

-- an entry whose name something is said about adds nothing
pub added_behind : (table : TableSeen) (e : UserMention) (content : Content) → said_at table e.0 ≡ Some content → AddsEntry e table table
added_behind table e content some q = elim (cases_Bool (bytes_eq e.0 q)) [
  | inl t ↦
      let same : e.0 ≡ q = (bytes_decides e.0 q).0 t in
      subst (λ (n : List ℕ). said_at table n ≡ option_or (said_at table n) (said_once e.0 e.1 n)) same
      (some ∙ sym (ap (λ o. option_or o (said_once e.0 e.1 e.0)) some))
  | inr f ↦ or_none (said_at table q) ∙ ap (option_or (said_at table q)) (sym (not_once e.0 e.1 q f))
]

-- ---- entries in a row

-- one more entry was added to what was said
pub said_more : (e : UserMention) (es start old new : TableSeen) → ((q : List ℕ) → said_at old q ≡ option_or (said_at start q) (said_at es q))
    → AddsEntry e old new → (q : List ℕ) → said_at new q ≡ option_or (said_at start q) (said_at (es ++ e ∷ []) q)
said_more e es start old new before added q =
    added q ∙ ap (λ o. option_or o (said_once e.0 e.1 q)) (before q) ∙ or_assoc (said_at start q) (said_at es q) (said_once e.0 e.1 q)
    ∙ ap (option_or (said_at start q)) (sym (first_said-append es (e ∷ []) q))
