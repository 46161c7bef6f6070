-- The names of a block come to an index, or go, one at a time.
use Rattle.std.proofs.Common.{◌≡◌, ◌≢◌, ◌⊎◌, ◌≤◌, ◌+◌, ℕ, suc, zero, inl, inr, List, [], ◌∷◌, ◌++◌, length, map, take, Bool, true, false, not, nat_eq, ◌&&◌}
use Rattle.std.proofs.Common.{◌||◌, Option}
use Rattle.std.proofs.Common.{Some, None, option_map, slice_get, refl, sym, ◌∙◌, ap, arith, eq-eqb, length-append, Global}
use Rattle.std.specs.Option.{option_map_or}
use Rattle.std.specs.Vec.{vec_capacity}
use Rattle.std.specs.Str.{bytes_eq}
use Rattle.std.specs.Rc.{rc_slice_items}
use Rattle.std.specs.declared.rc.RcSlice.{RcSlice}
use Rattle.std.specs.Cmp.Lexicographic.{bytes_decides}
use Rattle.std.proofs.lemmas.Bool.{cases_Bool, false≢true}
use Rattle.std.proofs.lemmas.List.{take_more, take_all, length-map}
use Rattle.std.proofs.lemmas.Option.{slice_get_within, get_or_from_slice_get}
use Rattle.ti_source.specs.Reading.{item_of}
use Rattle.ti_source.specs.declared.parsing.Item.{Item}
use Rattle.ti_source.specs.declared.parsing.Parsed.{Parsed}
use Rattle.base_meaning.specs.Owner.{is_among}
use Rattle.base_meaning.specs.Reaching.{any_use, used_name, use_passes}
use Rattle.base_index.specs.declared.names.NameIndex.{NameIndex}
use Rattle.base_index.specs.Listing.{AreAmong, Lists, ListsToo, ListsNoMore}
use Rattle.base_index.specs.Names.{mentions_at, holder_capacity, user_capacity, HasHolderRoom, HasUserRoom, IsForgotten, IsSeenSame, KeepsCapacity, KeepsOthers}
use Rattle.base_index.proofs.LawProofs.{agreeing_lists, among_all}
use Rattle.base_slots.specs.declared.indexing.Role.{Role}
use Rattle.base_slots.specs.declared.indexing.Role.TheVariants.{Holder, User}
use Rattle.base_slots.specs.inside.Indexing.{Said, said_as_own, said_as_used, all_said, says_of, is_role, is_said, is_among_said, ids_at, HasRoom, AddsId}
use Rattle.base_slots.specs.inside.Indexing.{Forgets, Removes, HasRoomAt, IsGrown, IsPart}

-- ---- what depends on the entry of a name alone

ids_by : (role : Role) (one other : NameIndex) (name : List ℕ) → mentions_at one name ≡ mentions_at other name → ids_at role one name ≡ ids_at role other name
ids_by Holder one other name e = ap (λ o. option_map_or (λ m. m.holders.items) o []) e
ids_by User one other name e = ap (λ o. option_map_or (λ m. m.users.items) o []) e

holder_capacity_by : (one other : NameIndex) (name : List ℕ) → mentions_at one name ≡ mentions_at other name
    → holder_capacity one name ≡ holder_capacity other name
holder_capacity_by one other name e = ap (λ o. option_map_or (λ m. vec_capacity m.holders) o 0) e

user_capacity_by : (one other : NameIndex) (name : List ℕ) → mentions_at one name ≡ mentions_at other name → user_capacity one name ≡ user_capacity other name
user_capacity_by one other name e = ap (λ o. option_map_or (λ m. vec_capacity m.users) o 0) e

-- ---- tests

or_none : (a : Bool) → (a || false) ≡ a
or_none true = refl
or_none false = refl

or_assoc : (a b c : Bool) → (a || (b || c)) ≡ ((a || b) || c)
or_assoc true b c = refl
or_assoc false b c = refl

or_true : (a b : Bool) → b ≡ true → (a || b) ≡ true
or_true true b e = refl
or_true false b e = e

and_false : (a b : Bool) → b ≡ false → (a && b) ≡ false
and_false true b e = e
and_false false b e = refl

and_none : (a b t : Bool) → b ≡ false → ((a && b) || t) ≡ t
and_none true b t e = rw e refl
and_none false b t e = refl

all_added : (a b c t : Bool) → c ≡ true → (a || ((a && b) || t)) ≡ ((a && c) || t)
all_added true b c t e = rw e refl
all_added false b c t e = refl

all_removed : (a b c t : Bool) → c ≡ true → (not a && (not (a && b) && t)) ≡ (not (a && c) && t)
all_removed true b c t e = rw e refl
all_removed false b c t e = refl

-- the name is this one, or another
name_cases : (other name : List ℕ) → ((other ≡ name) × (bytes_eq other name ≡ true)) ⊎ ((other ≢ name) × (bytes_eq other name ≡ false))
name_cases other name = elim (cases_Bool (bytes_eq other name)) [
  | inl t ↦ inl ((bytes_decides other name).0 t, t)
  | inr f ↦ inr ((λ e. false≢true (sym f ∙ (bytes_decides other name).1 e)), f)
]

-- and so is the role
role_cases : (other role : Role) → ((other ≡ role) × (is_role other role ≡ true)) ⊎ (is_role other role ≡ false)
role_cases Holder Holder = inl (refl, refl)
role_cases Holder User = inr refl
role_cases User Holder = inr refl
role_cases User User = inl (refl, refl)

-- ---- room

pub capacity_here : (mid new : NameIndex) (name other : List ℕ) → KeepsCapacity mid new name → KeepsOthers mid new name → KeepsCapacity mid new other
capacity_here mid new name other here others = elim (name_cases other name) [
  | inl same ↦ rw same.0 here
  | inr apart ↦
      let a = holder_capacity_by new mid other (others other apart.0) in
      let b = user_capacity_by new mid other (others other apart.0) in
      record { holders = omega (arith, a); users = omega (arith, b) }
]

pub capacity_same : (index : NameIndex) (name : List ℕ) → KeepsCapacity index index name
capacity_same index name = record { holders = omega arith; users = omega arith }

pub capacity_more : (old mid new : NameIndex) (name : List ℕ) → KeepsCapacity old mid name → KeepsCapacity mid new name → KeepsCapacity old new name
capacity_more old mid new name g h = record { holders = omega (arith, g.holders, h.holders); users = omega (arith, g.users, h.users) }

room_kept : (role : Role) (old new : NameIndex) (name : List ℕ) → ids_at role new name ≡ ids_at role old name → KeepsCapacity old new name
    → HasRoom old role name → HasRoom new role name
room_kept Holder old new name e k room = omega (arith, room, ap length e, k.holders)
room_kept User old new name e k room = omega (arith, room, ap length e, k.users)

-- ---- a change at one name

-- of the name that is said, the list changes so; every other stays
abbrev pub IsChange : (List ℕ → List ℕ → Type 0) → Said → NameIndex → NameIndex → Type 0
IsChange R said mid new = (role : Role) (name : List ℕ)
    → ((is_said role name said ≡ true) × R (ids_at role mid name) (ids_at role new name))
    ⊎ ((is_said role name said ≡ false) × (ids_at role new name ≡ ids_at role mid name))

pub no_change : (R : List ℕ → List ℕ → Type 0) (index : NameIndex) → IsChange R None index index
no_change R index role name = inr (refl, refl)

pub changed : (R : List ℕ → List ℕ → Type 0) (role : Role) (name : List ℕ) (mid new : NameIndex) → R (ids_at role mid name) (ids_at role new name)
    → ((other : Role) → is_role other role ≡ false → ids_at other new name ≡ ids_at other mid name) → KeepsOthers mid new name
    → IsChange R (Some (role, name)) mid new
changed R role name mid new here rest others = λ r n. elim (name_cases n name) [
  | inl same ↦ elim (role_cases r role) [
    | inl one ↦ inl (rw (one.1, same.1) refl, rw (same.0, one.0) here)
    | inr apart ↦ inr (rw apart refl, rw same.0 (rest r apart))
  ]
  | inr apart ↦ inr (and_false (is_role r role) (bytes_eq n name) apart.1, ids_by r new mid n (others n apart.0))
]

pub changed_holder : (R : List ℕ → List ℕ → Type 0) (name : List ℕ) (mid new : NameIndex) → R (ids_at Holder mid name) (ids_at Holder new name)
    → ids_at User new name ≡ ids_at User mid name → KeepsOthers mid new name → IsChange R (Some (Holder, name)) mid new
changed_holder R name mid new here rest others = changed R Holder name mid new here other others where
  other : (r : Role) → is_role r Holder ≡ false → ids_at r new name ≡ ids_at r mid name
  other Holder e = absurd (false≢true (sym e))
  other User e = rest

pub changed_user : (R : List ℕ → List ℕ → Type 0) (name : List ℕ) (mid new : NameIndex) → R (ids_at User mid name) (ids_at User new name)
    → ids_at Holder new name ≡ ids_at Holder mid name → KeepsOthers mid new name → IsChange R (Some (User, name)) mid new
changed_user R name mid new here rest others = changed R User name mid new here other others where
  other : (r : Role) → is_role r User ≡ false → ids_at r new name ≡ ids_at r mid name
  other Holder e = rest
  other User e = absurd (false≢true (sym e))

-- ---- tests of names that grow by one

-- the one test is the other, and what is said
abbrev pub GrowsBy : Said → (Role → List ℕ → Bool) → (Role → List ℕ → Bool) → Type 0
GrowsBy said passes more = (role : Role) (name : List ℕ) → more role name ≡ (passes role name || is_said role name said)

-- ---- a name comes

pub adds_more : (listed : List ℕ) (passes more : Role → List ℕ → Bool) (id : ℕ) (old mid new : NameIndex) (said : Said)
    → AddsId listed passes id old mid → GrowsBy said passes more → IsChange (λ a b. ListsToo listed a b id) said mid new
    → ((name : List ℕ) → KeepsCapacity mid new name) → AddsId listed more id old new
adds_more listed passes more id old mid new said h step change capacity = record {
  added = λ role n test e. elim (change role n) [
    | inl here ↦
        let all : more role n ≡ true = step role n ∙ or_true (passes role n) (is_said role n said) here.0 in
        here.1 (λ x. (nat_eq x id && passes role n) || test x) (h.added role n test e)
        ∙ agreeing_lists listed (λ x. nat_eq x id || ((nat_eq x id && passes role n) || test x)) (λ x. (nat_eq x id && more role n) || test x)
        (λ i x f. all_added (nat_eq x id) (passes role n) (more role n) (test x) all)
    | inr apart ↦
        let as_before : more role n ≡ passes role n = step role n ∙ (ap (λ b. passes role n || b) apart.0 ∙ or_none (passes role n)) in
        apart.1
        ∙ (h.added role n test e
        ∙ agreeing_lists listed (λ x. (nat_eq x id && passes role n) || test x) (λ x. (nat_eq x id && more role n) || test x)
        (λ i x f. ap (λ b. (nat_eq x id && b) || test x) (sym as_before)))
  ];
  capacity = λ n. capacity_more old mid new n (h.capacity n) (capacity n);
}

-- what adding a name asks for
pub place_for : (listed : List ℕ) (passes : Role → List ℕ → Bool) (id : ℕ) (old mid : NameIndex) (role : Role) (name : List ℕ) → AddsId listed passes id old mid
    → IsPart listed (ids_at role old name) → HasRoom old role name → HasRoom mid role name ⊎ Lists listed (ids_at role mid name) id
place_for listed passes id old mid role name h part room =
    elim (cases_Bool (passes role name)) [
      | inl t ↦ inr ((λ x. (nat_eq x id && passes role name) || part.0 x), h.added role name part.0 part.1, rw (t, eq-eqb id id refl) refl)
      | inr f ↦
          let same : ids_at role mid name ≡ ids_at role old name =
          h.added role name part.0 part.1
          ∙ (agreeing_lists listed (λ x. (nat_eq x id && passes role name) || part.0 x) part.0 (λ i x e. and_none (nat_eq x id) (passes role name) (part.0 x) f)
          ∙ sym part.1) in
          inl (room_kept role old mid name same (h.capacity name) room)
    ]

pub added_among : (listed : List ℕ) (passes : Role → List ℕ → Bool) (id : ℕ) (old mid : NameIndex) (role : Role) (name : List ℕ)
    → AddsId listed passes id old mid → IsPart listed (ids_at role old name) → AreAmong (ids_at role mid name) listed
added_among listed passes id old mid role name h part =
    rw (h.added role name part.0 part.1) (among_all listed (λ x. (nat_eq x id && passes role name) || part.0 x))

-- a test that says the same
pub adds_same : (listed : List ℕ) (passes more : Role → List ℕ → Bool) (id : ℕ) (old new : NameIndex)
    → ((role : Role) (name : List ℕ) → more role name ≡ passes role name) → AddsId listed passes id old new → AddsId listed more id old new
adds_same listed passes more id old new same h = record {
  added = λ role n test e. h.added role n test e
      ∙ agreeing_lists listed (λ x. (nat_eq x id && passes role n) || test x) (λ x. (nat_eq x id && more role n) || test x)
      (λ i x f. ap (λ b. (nat_eq x id && b) || test x) (sym (same role n)));
  capacity = h.capacity;
}

-- ---- a name goes

pub removes_more : (listed : List ℕ) (passes more : Role → List ℕ → Bool) (id : ℕ) (old mid new : NameIndex) (said : Said)
    → Removes listed passes id old mid → GrowsBy said passes more → IsChange (λ a b. ListsNoMore listed a b id) said mid new
    → ((name : List ℕ) → KeepsCapacity mid new name) → Removes listed more id old new
removes_more listed passes more id old mid new said h step change capacity = record {
  removed = λ role n test e. elim (change role n) [
    | inl here ↦
        let all : more role n ≡ true = step role n ∙ or_true (passes role n) (is_said role n said) here.0 in
        here.1 (λ x. not (nat_eq x id && passes role n) && test x) (h.removed role n test e)
        ∙ agreeing_lists listed (λ x. not (nat_eq x id) && (not (nat_eq x id && passes role n) && test x)) (λ x. not (nat_eq x id && more role n) && test x)
        (λ i x f. all_removed (nat_eq x id) (passes role n) (more role n) (test x) all)
    | inr apart ↦
        let as_before : more role n ≡ passes role n = step role n ∙ (ap (λ b. passes role n || b) apart.0 ∙ or_none (passes role n)) in
        apart.1
        ∙ (h.removed role n test e
        ∙ agreeing_lists listed (λ x. not (nat_eq x id && passes role n) && test x) (λ x. not (nat_eq x id && more role n) && test x)
        (λ i x f. ap (λ b. not (nat_eq x id && b) && test x) (sym as_before)))
  ];
  capacity = λ n. capacity_more old mid new n (h.capacity n) (capacity n);
}

pub removed_among : (listed : List ℕ) (passes : Role → List ℕ → Bool) (id : ℕ) (old mid : NameIndex) (role : Role) (name : List ℕ)
    → Removes listed passes id old mid → IsPart listed (ids_at role old name) → AreAmong (ids_at role mid name) listed
removed_among listed passes id old mid role name h part =
    rw (h.removed role name part.0 part.1) (among_all listed (λ x. not (nat_eq x id && passes role name) && part.0 x))

pub removes_same : (listed : List ℕ) (passes more : Role → List ℕ → Bool) (id : ℕ) (old new : NameIndex)
    → ((role : Role) (name : List ℕ) → more role name ≡ passes role name) → Removes listed passes id old new → Removes listed more id old new
removes_same listed passes more id old new same h = record {
  removed = λ role n test e. h.removed role n test e
      ∙ agreeing_lists listed (λ x. not (nat_eq x id && passes role n) && test x) (λ x. not (nat_eq x id && more role n) && test x)
      (λ i x f. ap (λ b. not (nat_eq x id && b) && test x) (sym (same role n)));
  capacity = h.capacity;
}

-- ---- room is made

pub grown_none : (index : NameIndex) → IsGrown index index
grown_none index = record { seen = λ name. record { holders = refl; users = refl }; capacity = capacity_same index }

pub grown_more : (old mid new : NameIndex) → IsGrown old mid → IsGrown mid new → IsGrown old new
grown_more old mid new g h = record {
  seen = λ n. record { holders = (h.seen n).holders ∙ (g.seen n).holders; users = (h.seen n).users ∙ (g.seen n).users };
  capacity = λ n. capacity_more old mid new n (g.capacity n) (h.capacity n);
}

pub room_grown : (old new : NameIndex) → IsGrown old new → (role : Role) (name : List ℕ) → HasRoom old role name → HasRoom new role name
room_grown old new h Holder name room = room_kept Holder old new name (h.seen name).holders (h.capacity name) room
room_grown old new h User name room = room_kept User old new name (h.seen name).users (h.capacity name) room

pub room_more : (passes more : Role → List ℕ → Bool) (mid new : NameIndex) (said : Role) (name : List ℕ) → HasRoomAt passes mid → IsGrown mid new
    → HasHolderRoom new name → HasUserRoom new name → GrowsBy (Some (said, name)) passes more → HasRoomAt more new
room_more passes more mid new said name room h holder user step role n e = elim (name_cases n name) [
  | inl same ↦ rw same.0 (either role)
  | inr apart ↦ room_grown mid new h role n
      (room role n (sym (or_none (passes role n)) ∙ (ap (λ b. passes role n || b) (sym (and_false (is_role role said) (bytes_eq n name) apart.1))
      ∙ (sym (step role n) ∙ e))))
] where
  either : (r : Role) → HasRoom new r name
  either Holder = holder
  either User = user

-- ---- names are dropped

forgotten_stays : (mid new : NameIndex) (name : List ℕ) → ((n : List ℕ) → IsSeenSame mid new n) → KeepsOthers mid new name → IsForgotten new name
    → (n : List ℕ) → IsForgotten mid n → IsForgotten new n
forgotten_stays mid new name seen others gone n before = elim (name_cases n name) [
  | inl same ↦ rw same.0 gone
  | inr apart ↦ λ holders users. others n apart.0 ∙ before (sym (seen n).holders ∙ holders) (sym (seen n).users ∙ users)
]

pub forgets_more : (passes more : Role → List ℕ → Bool) (old mid new : NameIndex) (said : Role) (name : List ℕ) → Forgets passes old mid
    → ((n : List ℕ) → IsSeenSame mid new n) → KeepsOthers mid new name → IsForgotten new name → GrowsBy (Some (said, name)) passes more → Forgets more old new
forgets_more passes more old mid new said name h seen others gone step = record {
  same = λ n. record { holders = (seen n).holders ∙ (h.same n).holders; users = (seen n).users ∙ (h.same n).users };
  gone = λ role n e. elim (name_cases n name) [
    | inl same ↦ rw same.0 gone
    | inr apart ↦ forgotten_stays mid new name seen others gone n
        (h.gone role n (sym (or_none (passes role n)) ∙ (ap (λ b. passes role n || b) (sym (and_false (is_role role said) (bytes_eq n name) apart.1))
        ∙ (sym (step role n) ∙ e))))
  ];
  kept = λ n f. forgotten_stays mid new name seen others gone n (h.kept n f);
}

-- ---- one more place

said_push : (all : List Said) (said : Said) (role : Role) (name : List ℕ) → is_among_said (all ++ said ∷ []) role name
    ≡ (is_among_said all role name || is_said role name said)
said_push [] said role name = or_none (is_said role name said)
said_push (x ∷ xs) said role name =
    ap (λ b. is_said role name x || b) (said_push xs said role name) ∙ or_assoc (is_said role name x) (is_among_said xs role name) (is_said role name said)

pub said_more : (all : List Said) (k : ℕ) (said : Said) → slice_get all k ≡ Some said
    → GrowsBy said (is_among_said (take k all)) (is_among_said (take (k + 1) all))
said_more all k said e role name =
    ap (λ xs. is_among_said xs role name) (take_more all k said (slice_get_within all k said e)
    ∙ ap (λ x. take k all ++ x ∷ []) (get_or_from_slice_get all k said said e))
    ∙ said_push (take k all) said role name

-- what says nothing more
pub said_same : (all : List Said) (k : ℕ) → slice_get all k ≡ Some None → (role : Role) (name : List ℕ)
    → is_among_said (take (k + 1) all) role name ≡ is_among_said (take k all) role name
said_same all k e role name = said_more all k None e role name ∙ or_none (is_among_said (take k all) role name)

pub said_here : (all : List Said) (k : ℕ) (role : Role) (name : List ℕ) → slice_get all k ≡ Some (Some (role, name)) → is_among_said all role name ≡ true
said_here [] k role name e = absurd (let l = slice_get_within [] k (Some (role, name)) e in omega arith)
said_here (x ∷ xs) zero role name e =
    let is : x ≡ Some (role, name) = cc in
    let same : bytes_eq name name ≡ true = (bytes_decides name name).1 refl in
    rw is (elim (role_cases role role) [ inl one ↦ rw (one.1, same) refl | inr apart ↦ absurd (itself role apart) ])
  where
    itself : (r : Role) → is_role r r ≡ false → ⊥
    itself Holder e = false≢true (sym e)
    itself User e = false≢true (sym e)
said_here (x ∷ xs) (suc k) role name e = or_true (is_said role name x) (is_among_said xs role name) (said_here xs k role name e)

-- ---- all places of a block

used_here : (role : Role) (name : List ℕ) (o : Option (List ℕ)) → is_said Holder name (option_map (λ n. (User, n)) o) ≡ false
used_here role name None = refl
used_here role name (Some n) = refl

no_holder_used : (name : List ℕ) (items : List Item) → is_among_said (map said_as_used items) Holder name ≡ false
no_holder_used name [] = refl
no_holder_used name (x ∷ xs) = rw (used_here Holder name (used_name (item_of x).said), no_holder_used name xs) refl

own_said : (names : List (RcSlice ℕ Global)) (rest : List Said) (name : List ℕ) → is_among_said rest Holder name ≡ false
    → is_among_said (map said_as_own names ++ rest) Holder name ≡ is_among name (map rc_slice_items names)
own_said [] rest name e = e
own_said (x ∷ xs) rest name e = ap (λ b. bytes_eq name (rc_slice_items x) || b) (own_said xs rest name e)

use_said : (name : List ℕ) (o : Option (List ℕ)) → is_said User name (option_map (λ n. (User, n)) o) ≡ use_passes (bytes_eq name) o
use_said name None = refl
use_said name (Some n) = refl

uses_said : (items : List Item) (name : List ℕ) → is_among_said (map said_as_used items) User name ≡ any_use (bytes_eq name) (map item_of items)
uses_said [] name = refl
uses_said (x ∷ xs) name = rw (use_said name (used_name (item_of x).said), uses_said xs name) refl

past_own : (names : List (RcSlice ℕ Global)) (rest : List Said) (name : List ℕ) → is_among_said (map said_as_own names ++ rest) User name
    ≡ is_among_said rest User name
past_own [] rest name = refl
past_own (x ∷ xs) rest name = past_own xs rest name

pub says_all : (block : Parsed) (role : Role) (name : List ℕ) → says_of block role name ≡ is_among_said (all_said block) role name
says_all block Holder name = sym (own_said block.names.items (map said_as_used block.items.items) name (no_holder_used name block.items.items))
says_all block User name = sym (past_own block.names.items (map said_as_used block.items.items) name ∙ uses_said block.items.items name)

-- how many places there are
said_length : (block : Parsed) → length (all_said block) ≡ length block.names.items + length block.items.items
said_length block =
    length-append (map said_as_own block.names.items) (map said_as_used block.items.items)
    ∙ omega (arith, length-map block.names.items said_as_own, length-map block.items.items said_as_used)

-- after the last place, all is said
pub said_ended : (block : Parsed) (n : ℕ) → length block.names.items + length block.items.items ≤ n → (role : Role) (name : List ℕ)
    → says_of block role name ≡ is_among_said (take n (all_said block)) role name
said_ended block n past role name =
    let all = take_all n (all_said block) (omega (arith, said_length block)) in
    says_all block role name ∙ ap (λ xs. is_among_said xs role name) (sym all)
