-- What a change at one name leaves at the others.
use Rattle.std.proofs.Common.{◌≡◌, ◌≢◌, ℕ, ◌≤◌, ◌⊎◌, inl, inr, Bool, true, false, cond, not, ◌&&◌, nat_eq, List, [], ◌∷◌, length, filter, Option, Some}
use Rattle.std.proofs.Common.{None, refl, sym, ◌∙◌, ap, arith}
use Rattle.std.specs.Option.{option_map_or, is_some}
use Rattle.std.specs.Vec.{vec_capacity}
use Rattle.std.specs.Ordering.{is_eq, nat_cmp, eq_by_cmp}
use Rattle.std.specs.Cmp.{eq_by_cmp_equiv}
use Rattle.std.specs.Cmp.Lexicographic.{slice_cmp, bytes_decides, nat_list_cmp_total, nat_list_eq_equiv}
use Rattle.std.specs.Str.{bytes_eq}
use Rattle.std.specs.BTreeMap.{BTreeMap, UpdatesBy, is_at}
use Rattle.std.specs.Map.{lookup, IsKeyTest, AreApart, KeepsOthers as KeepsOtherKeys}
use Rattle.std.specs.declared.vec.Vec.{Vec}
use Rattle.std.specs.declared.alloc.Global.{Global}
use Rattle.std.proofs.lemmas.Bool.{cases_Bool, false_from_ne_true, false≢true}
use Rattle.std.proofs.lemmas.Map.Text.{is_eq-slice_cmp}
use Rattle.base_index.specs.declared.names.Mentions.{Mentions}
use Rattle.base_index.specs.declared.names.NameIndex.{NameIndex}
use Rattle.base_index.specs.Listing.{ListsNoMore}
use Rattle.base_index.specs.Laws.{ListsFit}
use Rattle.base_index.specs.Names.{found_in, mentions_at, holders_at, users_at, IsSeenSame, KeepsCapacity, KeepsOthers}

other_entries : {K X : Type 0} (eq : K → K → Bool) (test : K → Bool) (old new : List (K × X)) → KeepsOtherKeys eq test old new → (other : K → Bool)
    → IsKeyTest eq other → AreApart test other → lookup other new ≡ lookup other old
unfolding KeepsOtherKeys
other_entries eq test old new h = h

apart : (name other key : List ℕ) → bytes_eq name other ≡ false → bytes_eq name key ≡ true → bytes_eq other key ≡ false
apart name other key n y = nat_list_eq_equiv.symm other key ∙ (sym (nat_list_eq_equiv.congr name key other y) ∙ n)

apart_in_order : (name other key : List ℕ) → bytes_eq name other ≡ false → is_eq (slice_cmp nat_cmp name key) ≡ true
    → is_eq (slice_cmp nat_cmp other key) ≡ false
apart_in_order name other key n y = is_eq-slice_cmp other key ∙ apart name other key n (sym (is_eq-slice_cmp name key) ∙ y)

pub others_kept : (name : List ℕ) (old new : BTreeMap (Vec ℕ Global) Mentions) (value : Option Mentions)
    → UpdatesBy (λ x y. slice_cmp nat_cmp x.items y.items) (λ key. slice_cmp nat_cmp name key.items) old new value → (other : List ℕ) → other ≢ name
    → found_in new other ≡ found_in old other
others_kept name old new value h other n =
    let different : bytes_eq name other ≡ false = false_from_ne_true (bytes_eq name other) (λ t. n (sym ((bytes_decides name other).0 t))) in
    other_entries (eq_by_cmp (λ (x y : Vec ℕ Global). slice_cmp nat_cmp x.items y.items)) (is_at (λ (key : Vec ℕ Global). slice_cmp nat_cmp name key.items))
    old.entries new.entries h.3
    (is_at (λ (key : Vec ℕ Global). slice_cmp nat_cmp other key.items))
    (λ x y. (eq_by_cmp_equiv nat_list_cmp_total).congr other x.items y.items) (λ key. apart_in_order name other key.items different)

-- an index with other entries
abbrev pub with_entries : NameIndex → BTreeMap (Vec ℕ Global) Mentions → NameIndex
with_entries index entries = record { alloc = index.alloc; entries = entries }

-- the name is this one, or another
name_cases : (other name : List ℕ) → (other ≡ name) ⊎ (other ≢ name)
name_cases other name = elim (cases_Bool (bytes_eq other name)) [
  | inl t ↦ inl ((bytes_decides other name).0 t)
  | inr f ↦ inr (λ e. false≢true (sym f ∙ (bytes_decides other name).1 e))
]

seen_by_others : (old new : NameIndex) (name other : List ℕ) → IsSeenSame old new name → KeepsOthers old new name → IsSeenSame old new other
seen_by_others old new name other here others = elim (name_cases other name) [
  | inl same ↦ rw same here
  | inr n ↦
      let e = others other n in
      record {
        holders = ap (λ o. option_map_or (λ m. m.holders.items) o []) e;
        users = ap (λ o. option_map_or (λ m. m.users.items) o []) e;
      }
]

capacity_by_others : (old new : NameIndex) (name other : List ℕ) → KeepsCapacity old new name → KeepsOthers old new name → KeepsCapacity old new other
capacity_by_others old new name other here others = elim (name_cases other name) [
  | inl same ↦ rw same here
  | inr n ↦
      let e = others other n in
      let a = ap (λ o. option_map_or (λ m. vec_capacity m.holders) o 0) e in
      let b = ap (λ o. option_map_or (λ m. vec_capacity m.users) o 0) e in
      record { holders = omega (arith, a); users = omega (arith, b) }
]

-- the lists of an entry stay, and no capacity is lost
pub record IsGrown (old new : Mentions) : Type 0 where
  pub holders : new.holders.items ≡ old.holders.items
  pub users : new.users.items ≡ old.users.items
  pub holders_room : vec_capacity old.holders ≤ vec_capacity new.holders
  pub users_room : vec_capacity old.users ≤ vec_capacity new.users

pub grown_seen : (old : NameIndex) (entries : BTreeMap (Vec ℕ Global) Mentions) (name : List ℕ) (m w : Mentions) → mentions_at old name ≡ Some m
    → UpdatesBy (λ x y. slice_cmp nat_cmp x.items y.items) (λ key. slice_cmp nat_cmp name key.items) old.entries entries (Some w) → IsGrown m w
    → (other : List ℕ) → IsSeenSame old (with_entries old entries) other
grown_seen old entries name m w found h grown other =
    seen_by_others old (with_entries old entries) name other
    (record { holders = rw (h.1, found) grown.holders; users = rw (h.1, found) grown.users })
    (others_kept name old.entries entries (Some w) h)

pub grown_capacity : (old : NameIndex) (entries : BTreeMap (Vec ℕ Global) Mentions) (name : List ℕ) (m w : Mentions) → mentions_at old name ≡ Some m
    → UpdatesBy (λ x y. slice_cmp nat_cmp x.items y.items) (λ key. slice_cmp nat_cmp name key.items) old.entries entries (Some w) → IsGrown m w
    → (other : List ℕ) → KeepsCapacity old (with_entries old entries) other
grown_capacity old entries name m w found h grown other =
    capacity_by_others old (with_entries old entries) name other
    (record { holders = rw (h.1, found) grown.holders_room; users = rw (h.1, found) grown.users_room })
    (others_kept name old.entries entries (Some w) h)

-- an entry without blocks was brought
pub brought_seen : (old : NameIndex) (entries : BTreeMap (Vec ℕ Global) Mentions) (name : List ℕ) (w : Mentions) → mentions_at old name ≡ None
    → UpdatesBy (λ x y. slice_cmp nat_cmp x.items y.items) (λ key. slice_cmp nat_cmp name key.items) old.entries entries (Some w)
    → w.holders.items ≡ [] → w.users.items ≡ [] → (other : List ℕ) → IsSeenSame old (with_entries old entries) other
brought_seen old entries name w found h holders users other =
    seen_by_others old (with_entries old entries) name other
    (record { holders = rw (h.1, found) holders; users = rw (h.1, found) users })
    (others_kept name old.entries entries (Some w) h)

pub brought_capacity : (old : NameIndex) (entries : BTreeMap (Vec ℕ Global) Mentions) (name : List ℕ) (w : Mentions) → mentions_at old name ≡ None
    → UpdatesBy (λ x y. slice_cmp nat_cmp x.items y.items) (λ key. slice_cmp nat_cmp name key.items) old.entries entries (Some w) → (other : List ℕ)
    → KeepsCapacity old (with_entries old entries) other
brought_capacity old entries name w found h other =
    capacity_by_others old (with_entries old entries) name other
    (record { holders = rw found (omega arith); users = rw found (omega arith) })
    (others_kept name old.entries entries (Some w) h)

-- an entry without blocks was let go
pub forgotten_seen : (old : NameIndex) (entries : BTreeMap (Vec ℕ Global) Mentions) (name : List ℕ)
    → UpdatesBy (λ x y. slice_cmp nat_cmp x.items y.items) (λ key. slice_cmp nat_cmp name key.items) old.entries entries None
    → holders_at old name ≡ [] → users_at old name ≡ [] → (other : List ℕ) → IsSeenSame old (with_entries old entries) other
forgotten_seen old entries name h holders users other =
    seen_by_others old (with_entries old entries) name other
    (record { holders = rw h.1 (sym holders); users = rw h.1 (sym users) })
    (others_kept name old.entries entries None h)

-- of no ids none is left
filter_and_none : (t u : ℕ → Bool) (xs : List ℕ) → [] ≡ filter t xs → [] ≡ filter (λ x. u x && t x) xs
filter_and_none t u [] e = refl
filter_and_none t u (x ∷ xs) e = elim (cases_Bool (t x)) [
  | inl passes ↦ (let f : [] ≡ x ∷ filter t xs = rw passes at e in cc)
  | inr fails ↦
      let rest = filter_and_none t u xs (rw fails at e) in
      elim (u x) as (λ v. [] ≡ cond (v && t x) (x ∷ filter (λ y. u y && t y) xs) (filter (λ y. u y && t y) xs)) [
        | true ↦ rw fails rest
        | false ↦ rest
      ]
]

pub nothing_left : (listed : List ℕ) (id : ℕ) → ListsNoMore listed [] [] id
nothing_left listed id t e = filter_and_none t (λ x. not (nat_eq x id)) listed e

pub none_from_test : (o : Option Mentions) → is_some o ≡ false → o ≡ None
none_from_test None e = refl
none_from_test (Some m) e = absurd (false≢true (sym e))

-- the same, if the entry's key has the bytes of the name
pub brought_key_seen : (old : NameIndex) (entries : BTreeMap (Vec ℕ Global) Mentions) (key name : List ℕ) (w : Mentions) → key ≡ name
    → mentions_at old name ≡ None
    → UpdatesBy (λ x y. slice_cmp nat_cmp x.items y.items) (λ k. slice_cmp nat_cmp key k.items) old.entries entries (Some w) → w.holders.items ≡ []
    → w.users.items ≡ [] → (other : List ℕ) → IsSeenSame old (with_entries old entries) other
brought_key_seen old entries key name w same found h = brought_seen old entries name w found (rw same at h)

pub brought_key_capacity : (old : NameIndex) (entries : BTreeMap (Vec ℕ Global) Mentions) (key name : List ℕ) (w : Mentions) → key ≡ name
    → mentions_at old name ≡ None
    → UpdatesBy (λ x y. slice_cmp nat_cmp x.items y.items) (λ k. slice_cmp nat_cmp key k.items) old.entries entries (Some w) → (other : List ℕ)
    → KeepsCapacity old (with_entries old entries) other
brought_key_capacity old entries key name w same found h = brought_capacity old entries name w found (rw same at h)

-- ---- what a list can have

holders_fit : (o : Option Mentions) → length (option_map_or (λ m. m.holders.items) o []) ≤ option_map_or (λ m. vec_capacity m.holders) o 0
holders_fit None = omega arith
holders_fit (Some m) = omega (arith, m.holders.ok.0, m.holders.ok.1)

users_fit : (o : Option Mentions) → length (option_map_or (λ m. m.users.items) o []) ≤ option_map_or (λ m. vec_capacity m.users) o 0
users_fit None = omega arith
users_fit (Some m) = omega (arith, m.users.ok.0, m.users.ok.1)

pub fitting_lists : ListsFit
fitting_lists = record { holders = λ index name. holders_fit (mentions_at index name); users = λ index name. users_fit (mentions_at index name) }
