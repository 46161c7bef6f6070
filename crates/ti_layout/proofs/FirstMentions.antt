-- Mentions of capabilities one after another: where the first of each is, and the entries of the
-- first ones.
use Rattle.std.proofs.Common.{◌≡◌, ◌≢◌, ℕ, suc, ◌+◌, ◌<◌, ◌≤◌, cond, List, [], ◌∷◌, ◌++◌, length, get_or, set, replicate, Option, Some, None, refl, sym, ap}
use Rattle.std.proofs.Common.{◌∙◌, subst, arith, inl, inr, length-set, take, All}
use Rattle.std.specs.Option.{option_or}
use Rattle.std.proofs.lemmas.Bool.{cases_eq, cases_lt}
use Rattle.std.proofs.lemmas.List.{length-append, length-map, length-take-le, map-append, take_more, length-replicate, get_or_append_left, get_or_at}
use Rattle.std.proofs.lemmas.List.{get_or-replicate, get_or-set_same, get_or-set_other, get_or_past}
use Rattle.std.proofs.lemmas.List.Elements.{All-push}
use Rattle.ti_caps.specs.Tables.{Capability, IsCapability, count_of, same_capability, rank_in}
use Rattle.ti_caps.specs.declared.capability.Kind.{Kind}
use Rattle.ti_caps.specs.declared.capability.Kind.TheVariants.{Flag, Number, Text}
use Rattle.ti_layout.specs.inside.Mentions.{AreMentionPositions, Decides, recent_max}
use Rattle.ti_layout.specs.declared.values.Value.{Value}
use Rattle.ti_layout.specs.Values.{Content, Mention, Agrees, IsSorted, contents, content_of, entries_of, rank_of}
use Rattle.ti_layout.proofs.SortedEntries.{one_from_rank, same_from_one, test_from_other}
use Rattle.ti_layout.proofs.Fronts.{AllBefore, absent_behind, contents-append, contents-none, contents-one, sorted-push, rank-push}

-- ---- one more mention

-- a mention says nothing of another capability
says_nothing : (x : Mention) (c : Capability) → x.0 ≢ c → contents (x ∷ []) c ≡ None
says_nothing x c other = contents-one x c ∙ ap (λ b. cond b (Some x.1) None) (test_from_other x.0 c other)

says_own : (x : Mention) → contents (x ∷ []) x.0 ≡ Some x.1
says_own x = contents-one x x.0 ∙ ap (λ b. cond b (Some x.1) None) (same_from_one x.0 x.0 refl)

none_more : (es : List Mention) (x : Mention) (c : Capability) → contents es c ≡ None → x.0 ≢ c → contents (es ++ x ∷ []) c ≡ None
none_more es x c none other = contents-append es (x ∷ []) c ∙ ap (λ o. option_or o (contents (x ∷ []) c)) none ∙ says_nothing x c other

some_more : (es : List Mention) (x : Mention) (c : Capability) (v : Content) → contents es c ≡ Some v → contents (es ++ x ∷ []) c ≡ Some v
some_more es x c v some = contents-append es (x ∷ []) c ∙ ap (λ o. option_or o (contents (x ∷ []) c)) some

first_more : (es : List Mention) (x : Mention) → contents es x.0 ≡ None → contents (es ++ x ∷ []) x.0 ≡ Some x.1
first_more es x none = contents-append es (x ∷ []) x.0 ∙ ap (λ o. option_or o (contents (x ∷ []) x.0)) none ∙ says_own x

-- ---- mentions after a table

pub or_nothing : (o : Option Content) → option_or o None ≡ o
or_nothing None = refl
or_nothing (Some v) = refl

pub no_items : {X : Type 0} (xs : List X) → length xs ≡ 0 → xs ≡ []
no_items [] e = refl
no_items (x ∷ xs) e = absurd (omega arith)

-- no mention
pub nothing_behind : (table : List Mention) (xs : List (Capability × Value)) (c : Capability) → xs ≡ []
    → contents table c ≡ option_or (contents table c) (contents (entries_of xs) c)
nothing_behind table xs c none =
    sym (ap (λ o. option_or (contents table c) o) (ap (λ ys. contents (entries_of ys) c) none ∙ contents-none c) ∙ or_nothing (contents table c))

-- mentions after an empty table
pub behind_nothing : (table : List Mention) (xs : List (Capability × Value)) (c : Capability) (said : Option Content) → xs ≡ [] → entries_of xs ≡ table
    → said ≡ option_or (contents table c) said
behind_nothing table xs c said none is = sym (ap (λ o. option_or o said) (ap (λ es. contents es c) (sym is ∙ ap entries_of none) ∙ contents-none c))

-- what was put, and one more value
pub or_assoc : (a b o : Option Content) → option_or (option_or a b) o ≡ option_or a (option_or b o)
or_assoc None b o = refl
or_assoc (Some v) b o = refl

pub added_more : (table : List Mention) (xs : List (Capability × Value)) (x : Capability × Value) (c : Capability)
    → contents (table ++ entries_of (xs ++ x ∷ [])) c ≡ option_or (contents (table ++ entries_of xs) c)
    (cond (same_capability x.0 c) (Some (content_of x.1)) None)
added_more table xs x c =
    let e : Mention = (x.0, content_of x.1) in
    let end : entries_of (xs ++ x ∷ []) ≡ entries_of xs ++ e ∷ [] = map-append (λ (y : Capability × Value). (y.0, content_of y.1)) xs (x ∷ []) in
    contents-append table (entries_of (xs ++ x ∷ [])) c
    ∙ ap (λ o. option_or (contents table c) o) (ap (λ es. contents es c) end ∙ contents-append (entries_of xs) (e ∷ []) c)
    ∙ sym (or_assoc (contents table c) (contents (entries_of xs) c) (contents (e ∷ []) c))
    ∙ ap (λ o. option_or o (contents (e ∷ []) c)) (sym (contents-append table (entries_of xs) c))
    ∙ ap (λ o. option_or (contents (table ++ entries_of xs) c) o) (contents-one e c)

-- all that was put is in the table
pub added_all : (table : List Mention) (xs : List (Capability × Value)) (c : Capability) → xs ≡ [] → contents (table ++ entries_of xs) c ≡ contents table c
added_all table xs c none = contents-append table (entries_of xs) c ∙ sym (nothing_behind table xs c none)

-- ---- the positions of first mentions

pub positions_of_none : (n : ℕ) → n ≡ 497 → AreMentionPositions [] (replicate n 0)
positions_of_none n is = record {
  all = length-replicate n 0 ∙ is;
  none = λ c valid at. contents-none c;
  first = λ rank p at. absurd (elim (cases_lt rank n) [
    | inl within ↦ omega (arith, get_or-replicate {A = ℕ} n rank 0 0 within)
    | inr beyond ↦ omega (arith, get_or_past {X = ℕ} (replicate n 0) rank 0 (rw length-replicate beyond))
  ]);
}

-- the rank of a capability
within_kind : (k : Kind) (i : ℕ) → i < count_of k → rank_in k + i < 497
within_kind Flag i low = omega arith
within_kind Number i low = omega arith
within_kind Text i low = omega arith

pub rank_within : (c : Capability) → IsCapability c → rank_of c < 497
rank_within c valid = within_kind c.kind c.index valid

-- the entries of one more mention
pub entries_front : (xs : List (Capability × Value)) (i : ℕ) (x : Capability × Value) → i < length xs → get_or xs i x ≡ x
    → entries_of (take (i + 1) xs) ≡ entries_of (take i xs) ++ (x.0, content_of x.1) ∷ []
entries_front xs i x within here = ap entries_of (take_more xs i x within ∙ ap (λ y. take i xs ++ y ∷ []) here)
    ∙ map-append (λ (e : Capability × Value). (e.0, content_of e.1)) (take i xs) (x ∷ [])

pub front_more : (xs : List (Capability × Value)) (i : ℕ) (x : Capability × Value) → i < length xs → get_or xs i x ≡ x → (c : Capability)
    → contents (entries_of (take (i + 1) xs)) c ≡ option_or (contents (entries_of (take i xs)) c) (cond (same_capability x.0 c) (Some (content_of x.1)) None)
front_more xs i x within here c =
    ap (λ es. contents es c) (entries_front xs i x within here) ∙ contents-append (entries_of (take i xs)) ((x.0, content_of x.1) ∷ []) c
    ∙ ap (λ o. option_or (contents (entries_of (take i xs)) c) o) (contents-one (x.0, content_of x.1) c)

pub entries_count : (xs : List (Capability × Value)) (i : ℕ) → i ≤ length xs → length (entries_of (take i xs)) ≡ i
entries_count xs i within = rw length-map (length-take-le i xs within)

module _ (es : List Mention) (x : Mention) (positions : List ℕ) (known : AreMentionPositions es positions) where
  longer : length (es ++ x ∷ []) ≡ length es + 1
  longer = length-append es (x ∷ [])

  -- a first mention remains the first
  stays : (rank p : ℕ) → get_or positions rank 0 ≡ suc p
      → (p < length (es ++ x ∷ [])) × ((e : Mention) → Decides (es ++ x ∷ []) rank (get_or (es ++ x ∷ []) p e))
  stays rank p at =
      let old = known.first rank p at in
      let long = longer in (
        omega arith,
        λ e.
            let read : get_or (es ++ x ∷ []) p e ≡ get_or es p e = get_or_append_left es (x ∷ []) e p old.0 in
            let here = old.1 e in
            subst (Decides (es ++ x ∷ []) rank) (sym read) (here.0, here.1, some_more es x (get_or es p e).0 (get_or es p e).1 here.2),
      )

  -- a capability that was mentioned still has its first mention
  pub positions_unchanged : get_or positions (rank_of x.0) 0 ≢ 0 → AreMentionPositions (es ++ x ∷ []) positions
  positions_unchanged there = record {
    all = known.all;
    none = λ c valid at. none_more es x c (known.none c valid at) (λ same. there (subst (λ d. get_or positions (rank_of d) 0 ≡ 0) (sym same) at));
    first = stays;
  }

  -- the first mention of a capability
  pub positions_more : IsCapability x.0 → rank_of x.0 < 497 → get_or positions (rank_of x.0) 0 ≡ 0
      → AreMentionPositions (es ++ x ∷ []) (set positions (rank_of x.0) (suc (length es)))
  positions_more valid within free =
      let here : rank_of x.0 < length positions = omega (arith, known.all) in
      let new = get_or-set_same positions (rank_of x.0) (suc (length es)) 0 here in
      record {
        all = rw length-set known.all;
        none = λ c valid_c at. elim (cases_eq (rank_of c) (rank_of x.0)) [
          | inl same ↦ absurd (let e = subst (λ r. get_or (set positions (rank_of x.0) (suc (length es))) r 0 ≡ 0) same at in omega (arith, new, e))
          | inr other ↦
              let old : get_or positions (rank_of c) 0 ≡ 0 = sym (get_or-set_other positions (rank_of x.0) (rank_of c) (suc (length es)) 0 other) ∙ at in
              none_more es x c (known.none c valid_c old) (λ same. other (ap rank_of (sym same)))
        ];
        first = λ rank p at. elim (cases_eq rank (rank_of x.0)) [
          | inl same ↦
              let e = subst (λ r. get_or (set positions (rank_of x.0) (suc (length es))) r 0 ≡ suc p) same at in
              let last : p ≡ length es = omega (arith, new, e) in
              let long = longer in (
                omega arith,
                λ d.
                    let read : get_or (es ++ x ∷ []) p d ≡ x = ap (λ j. get_or (es ++ x ∷ []) j d) last ∙ get_or_at es x [] d (length es) refl in
                    subst (Decides (es ++ x ∷ []) rank) (sym read) (valid, sym same, first_more es x (known.none x.0 valid free)),
              )
          | inr other ↦ stays rank p (sym (get_or-set_other positions (rank_of x.0) rank (suc (length es)) 0 other) ∙ at)
        ];
      }

-- ---- the first mentions, in the order of the entry

-- these entries are the first mentions of the capabilities below a rank
pub record Gathers (es out : List Mention) (rank : ℕ) : Type 0 where
  pub sorted : IsSorted out
  pub before : AllBefore out rank
  pub said : (c : Capability) → IsCapability c → rank_of c < rank → contents out c ≡ contents es c

pub gathers_none : (es : List Mention) → Gathers es [] 0
gathers_none es = record {
  sorted = record { rises = λ i j lt within. absurd (omega arith); agree = λ k d lt. absurd (omega arith) };
  before = λ k within. absurd (omega arith);
  said = λ c valid below. absurd (omega arith);
}

module _ (es out : List Mention) (rank : ℕ) (so_far : Gathers es out rank) (positions : List ℕ) (known : AreMentionPositions es positions) where
  later : AllBefore out (rank + 1)
  later k within = let b = so_far.before k within in omega arith

  -- no mention has the rank
  pub gathers_on : get_or positions rank 0 ≡ 0 → Gathers es out (rank + 1)
  gathers_on at = record {
    sorted = so_far.sorted;
    before = later;
    said = λ c valid below. elim (cases_lt (rank_of c) rank) [
      | inl low ↦ so_far.said c valid low
      | inr high ↦
          let same : rank ≡ rank_of c = omega arith in
          absent_behind out c so_far.sorted (subst (AllBefore out) same so_far.before)
          ∙ sym (known.none c valid (subst (λ r. get_or positions r 0 ≡ 0) same at))
    ];
  }

  -- the first mention with the rank
  pub gathers_more : (x : Mention) → Agrees x.0 x.1 → Decides es rank x → Gathers es (out ++ x ∷ []) (rank + 1)
  gathers_more x agrees decides =
      let valid = decides.0 in
      let here = decides.1 in
      let is = decides.2 in
      let ahead : AllBefore out (rank_of x.0) = subst (AllBefore out) (sym here) so_far.before in
      record {
        sorted = sorted-push out x so_far.sorted ahead valid agrees;
        before = λ k within. rank-push out x k (rank + 1) within later (omega arith);
        said = λ c valid_c below. elim (cases_lt (rank_of c) rank) [
          | inl low ↦
              let other : x.0 ≢ c = λ same. absurd (let r = ap rank_of same in omega arith) in
              contents-append out (x ∷ []) c ∙ ap (λ o. option_or (contents out c) o) (says_nothing x c other) ∙ or_nothing (contents out c)
              ∙ so_far.said c valid_c low
          | inr high ↦
              let same : x.0 ≡ c = one_from_rank x.0 c valid valid_c (omega arith) in
              subst (λ d. contents (out ++ x ∷ []) d ≡ contents es d) same (first_more out x (absent_behind out x.0 so_far.sorted ahead) ∙ sym is)
        ];
      }

-- ---- one more mention after those before

pub agree_more : (xs : List (Capability × Value)) (x : Capability × Value) → All (λ (e : Mention). Agrees e.0 e.1) (entries_of xs) → Agrees x.0 (content_of x.1)
    → All (λ (e : Mention). Agrees e.0 e.1) (entries_of (xs ++ x ∷ []))
agree_more xs x all agrees =
    subst (All (λ (e : Mention). Agrees e.0 e.1)) (sym (map-append (λ (e : Capability × Value). (e.0, content_of e.1)) xs (x ∷ [])))
    (All-push (λ (e : Mention). Agrees e.0 e.1) (entries_of xs) (x.0, content_of x.1) all agrees)

pub one_longer : (xs : List (Capability × Value)) (x : Capability × Value) → length xs < recent_max → length (xs ++ x ∷ []) ≤ recent_max
one_longer xs x room = let long = length-append xs (x ∷ []) in omega arith
