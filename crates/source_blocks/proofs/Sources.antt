-- A block that is told of owns the name by which it is.
use Rattle.std.proofs.Common.{◌≡◌, ℕ, zero, suc, ◌+◌, ◌||◌, ◌⊎◌, All, Bool, true, false, cond, inl, inr, List, [], ◌∷◌, ◌++◌, nat_eq, Option, None, Some}
use Rattle.std.proofs.Common.{slice_get, refl, sym, subst, ap, ◌∙◌, zero-add, arith}
use Rattle.std.specs.Prelude.{option_and_then}
use Rattle.std.specs.List.{find}
use Rattle.std.specs.Option.{option_map, option_map_or}
use Rattle.std.specs.Str.{bytes_eq}
use Rattle.std.proofs.lemmas.Bool.{cases_Bool, eq-eqb, eqb-true}
use Rattle.std.proofs.lemmas.List.Elements.{All-append, All-cons, All-head, All-nil, All-tail}
use Rattle.std.proofs.lemmas.Option.{same_Some, slice_get-map}
use Rattle.std.proofs.lemmas.Slice.Eq.{bytes_eq-Decides}
use Rattle.ti_caps.specs.Tables.{Capability, capability, count_of, same_capability}
use Rattle.ti_caps.specs.declared.capability.Kind.{Kind}
use Rattle.ti_caps.specs.declared.capability.Kind.TheVariants.{Flag, Number, Text}
use Rattle.ti_source.specs.Parsing.{reading_of_text}
use Rattle.ti_source.specs.Reading.{Reading, ReadItem, Said, said_flag, said_number, said_text, said_cancel, said_import}
use Rattle.ti_layout.specs.Image.{is_there}
use Rattle.base_meaning.specs.Owner.{is_among, is_owner, owner, readings}
use Rattle.base_meaning.specs.Report.{shown_detail}
use Rattle.source_blocks.specs.Deciding.{Decides, decides_it, hands_it_on, IsSource, SourceSeen, SourcesOwnTheirNames, decided_by, decider, first_say}
use Rattle.source_blocks.specs.Deciding.{if_another, inherited_below, inherited_from, inherited_kind, inherited_of, inherited_one, items_of, other_decider}
use Rattle.source_blocks.specs.Deciding.{own_name, said_by, say_before, say_of, source_at, source_with, sources_from}
use Rattle.source_blocks.specs.declared.deciding.Inherited.{Inherited}
use Rattle.source_blocks.specs.declared.deciding.Say.TheVariants.{Silent, Decisive, HandsOn}
use Rattle.source_blocks.proofs.Deciders.{found_decides}
use Rattle.source_blocks.proofs.Handing.{use_on}

-- ---- a block that decides for another owns a name

-- a block owns some name
abbrev OwnsSome : List Reading → ℕ → Type 0
OwnsSome blocks by = (name : List ℕ) × (owner blocks name ≡ Some by)

mention_no : (b : Bool) (next : ℕ) (blocks : List Reading) → cond b Decisive Silent ≡ HandsOn next → OwnsSome blocks next
mention_no true next blocks e = absurd cc
mention_no false next blocks e = absurd cc

said_on : (blocks : List Reading) (c : Capability) (said : Said) (next : ℕ) → say_of blocks c said ≡ HandsOn next → OwnsSome blocks next
said_on blocks c (said_flag other) next e = mention_no (same_capability other c) next blocks e
said_on blocks c (said_number other n) next e = mention_no (same_capability other c) next blocks e
said_on blocks c (said_text other t) next e = mention_no (same_capability other c) next blocks e
said_on blocks c (said_cancel other) next e = mention_no (same_capability other c) next blocks e
said_on blocks c (said_import name) next e = (name, use_on blocks c (owner blocks name) next e)

items_on : (blocks : List Reading) (c : Capability) (items : List ReadItem) (next : ℕ) → first_say blocks c items ≡ HandsOn next → OwnsSome blocks next
items_on blocks c [] next e = absurd cc
items_on blocks c (item ∷ items) next e =
    elim (say_of blocks c item.said) as (λ s. say_of blocks c item.said ≡ s → say_before s (first_say blocks c items) ≡ HandsOn next → OwnsSome blocks next) [
      | Silent ↦ λ s f. items_on blocks c items next f
      | Decisive ↦ λ s f. absurd cc
      | HandsOn other ↦ λ s f. said_on blocks c item.said next (s ∙ f)
    ] refl e

through : (blocks : List Reading) (next by : ℕ) → OwnsSome blocks next → (by ≡ next) ⊎ OwnsSome blocks by → OwnsSome blocks by
through blocks next by owns h = elim h [ inl same ↦ (owns.0, owns.1 ∙ ap (λ (n : ℕ). Some n) (sym same)) | inr other ↦ other ]

handed : (blocks : List Reading) (c : Capability) (at by : ℕ) → Decides blocks c at by → (by ≡ at) ⊎ OwnsSome blocks by
handed blocks c _ _ (decides_it {at = at} says) = inl refl
handed blocks c _ _ (hands_it_on {at = at} {next = next} {by = by} says decides) =
    inr (through blocks next by (items_on blocks c (items_of blocks at) next says) (handed blocks c next by decides))

another_by : (b : Bool) (one by : ℕ) → cond b None (Some one) ≡ Some by → (b ≡ false) × (one ≡ by)
another_by true one by e = absurd cc
another_by false one by e = (refl, same_Some one by e)

other_by : (blocks : List Reading) (at : ℕ) (found : Option ℕ) (by : ℕ) (b : Bool) → ((one : ℕ) → found ≡ Some one → (one ≡ at) ⊎ OwnsSome blocks one)
    → cond b (option_and_then (if_another at) found) None ≡ Some by → OwnsSome blocks by
other_by blocks at found by false h e = absurd cc
other_by blocks at None by true h e = absurd cc
other_by blocks at (Some one) by true h e =
    let is = another_by (nat_eq one at) one by e in
    elim (h one refl) [
      | inl same ↦ let clash : true ≡ false = sym (eq-eqb one at same) ∙ is.0 in absurd cc
      | inr owns ↦ (owns.0, owns.1 ∙ ap (λ (n : ℕ). Some n) is.1)
    ]

other_owns : (blocks : List Reading) (at : ℕ) (c : Capability) (by : ℕ) → other_decider blocks at c ≡ Some by → OwnsSome blocks by
other_owns blocks at c by e =
    other_by blocks at (decider blocks c at) by (is_there (said_by blocks c at))
    (λ one f. handed blocks c at one (found_decides blocks c at one f)) e

-- ---- what is inherited

-- its block owns some name
abbrev IsFromOwner : List Reading → Inherited → Type 0
IsFromOwner blocks one = OwnsSome blocks one.by

from_owner : (blocks : List Reading) (c : Capability) (found : Option ℕ) → ((by : ℕ) → found ≡ Some by → OwnsSome blocks by)
    → All (IsFromOwner blocks) (inherited_from c found)
from_owner blocks c None h = All-nil (IsFromOwner blocks)
from_owner blocks c (Some by) h = All-cons (IsFromOwner blocks) (record { capability = c; by = by }) [] (h by refl) (All-nil (IsFromOwner blocks))

below_owned : (blocks : List Reading) (at : ℕ) (kind : Kind) (n : ℕ) → All (IsFromOwner blocks) (inherited_below blocks at kind n)
unfolding inherited_below
below_owned blocks at kind zero = All-nil (IsFromOwner blocks)
below_owned blocks at kind (suc n) =
    let c = capability kind n in
    All-append (IsFromOwner blocks) (inherited_below blocks at kind n) (inherited_one blocks at c) (below_owned blocks at kind n)
    (from_owner blocks c (other_decider blocks at c) (other_owns blocks at c))

all_owned : (blocks : List Reading) (at : ℕ) → All (IsFromOwner blocks) (inherited_of blocks at)
all_owned blocks at =
    let of_kind = λ (kind : Kind). below_owned blocks at kind (count_of kind) in
    All-append (IsFromOwner blocks) (inherited_kind blocks at Flag ++ inherited_kind blocks at Number) (inherited_kind blocks at Text)
    (All-append (IsFromOwner blocks) (inherited_kind blocks at Flag) (inherited_kind blocks at Number) (of_kind Flag) (of_kind Number)) (of_kind Text)

decided_rest : (by : ℕ) (one : Inherited) (rest : List Inherited) (b : Bool) → nat_eq one.by by ≡ b
    → decided_by by (one ∷ rest) ≡ cond b (one.capability ∷ decided_by by rest) (decided_by by rest)
decided_rest by one rest true e = rw e refl
decided_rest by one rest false e = rw e refl

decided_owned : (blocks : List Reading) (by : ℕ) (inherited : List Inherited) (c : Capability) (cs : List Capability) → All (IsFromOwner blocks) inherited
    → decided_by by inherited ≡ c ∷ cs → OwnsSome blocks by
decided_owned blocks by [] c cs all e = absurd cc
decided_owned blocks by (one ∷ rest) c cs all e =
    elim (cases_Bool (nat_eq one.by by)) [
      | inl same ↦
          let owns = All-head (IsFromOwner blocks) one rest all in
          (owns.0, owns.1 ∙ ap (λ (n : ℕ). Some n) (eqb-true one.by by same))
      | inr other ↦ decided_owned blocks by rest c cs (All-tail (IsFromOwner blocks) one rest all) (sym (decided_rest by one rest false other) ∙ e)
    ]

-- ---- the first name that a block owns

later_is : (found : Option ℕ) (at : ℕ) → option_map (λ k. suc k) found ≡ Some at → (k : ℕ) × (found ≡ Some k) × (suc k ≡ at)
later_is None at e = absurd cc
later_is (Some k) at e = (k, refl, same_Some (suc k) at e)

owner_by : (block : Reading) (blocks : List Reading) (name : List ℕ) (b : Bool) → is_among name block.names ≡ b
    → owner (block ∷ blocks) name ≡ cond b (Some 0) (option_map (λ k. suc k) (owner blocks name))
owner_by block blocks name b e = rw e refl

-- the owner of a name has it
has_name : (blocks : List Reading) (name : List ℕ) (at : ℕ) (there : Reading) → owner blocks name ≡ Some at → slice_get blocks at ≡ Some there
    → is_among name there.names ≡ true
has_name [] name at there e s = absurd cc
has_name (block ∷ blocks) name at there e s =
    elim (cases_Bool (is_among name block.names)) [
      | inl first ↦
          let is = same_Some 0 at (sym (owner_by block blocks name true first) ∙ e) in
          let here : block ≡ there = same_Some block there (ap (slice_get (block ∷ blocks)) is ∙ s) in
          subst (λ (b : Reading). is_among name b.names ≡ true) here first
      | inr later ↦
          let k = later_is (owner blocks name) at (sym (owner_by block blocks name false later) ∙ e) in
          has_name blocks name k.0 there k.1 (ap (slice_get (block ∷ blocks)) k.2 ∙ s)
    ]

is_owner_by : (found : Option ℕ) (by : ℕ) → option_map_or (λ place. nat_eq place by) found false ≡ true → found ≡ Some by
is_owner_by None by e = absurd cc
is_owner_by (Some place) by e = ap (λ (n : ℕ). Some n) (eqb-true place by e)

owner_is : (found : Option ℕ) (by : ℕ) → found ≡ Some by → option_map_or (λ place. nat_eq place by) found false ≡ true
owner_is found by e = ap (λ o. option_map_or (λ place. nat_eq place by) o false) e ∙ eq-eqb by by refl

or_second : (a b : Bool) → a ≡ false → (a || b) ≡ true → b ≡ true
or_second true b p e = absurd cc
or_second false b p e = e

-- of names with one that a block owns, the first that it owns is found
record IsFound (blocks : List Reading) (by : ℕ) (names : List (List ℕ)) : Type 0 where
  name : List ℕ
  is : find (λ n. is_owner blocks n by) names ≡ Some name
  owns : owner blocks name ≡ Some by

find_by : (p : List ℕ → Bool) (x : List ℕ) (xs : List (List ℕ)) (b : Bool) → p x ≡ b → find p (x ∷ xs) ≡ cond b (Some x) (find p xs)
find_by p x xs b e = rw e refl

found_name : (blocks : List Reading) (by : ℕ) (name : List ℕ) (names : List (List ℕ)) → owner blocks name ≡ Some by → is_among name names ≡ true
    → IsFound blocks by names
found_name blocks by name [] owns e = absurd cc
found_name blocks by name (x ∷ xs) owns e =
    let p = λ (n : List ℕ). is_owner blocks n by in
    elim (cases_Bool (is_owner blocks x by)) [
      | inl here ↦ record { name = x; is = find_by p x xs true here; owns = is_owner_by (owner blocks x) by here }
      | inr off ↦
          let apart : bytes_eq name x ≡ false = elim (cases_Bool (bytes_eq name x)) [
            | inl same ↦
                let is : name ≡ x = (bytes_eq-Decides name x).0 same in
                let clash : true ≡ false = sym (owner_is (owner blocks x) by (ap (owner blocks) (sym is) ∙ owns)) ∙ off in absurd cc
            | inr other ↦ other
          ] in
          let later = found_name blocks by name xs owns (or_second (bytes_eq name x) (is_among name xs) apart e) in
          record { name = later.name; is = find_by p x xs false off ∙ later.is; owns = later.owns }
    ]

-- ---- what is told

with_owner : (texts : List (List ℕ)) (at by : ℕ) (text : List ℕ) (found : List Capability) → slice_get texts by ≡ Some text
    → decided_by by (inherited_of (readings texts) at) ≡ found
    → All (IsSource texts at) (source_with (own_name texts by (reading_of_text text).names) found)
with_owner texts at by text [] there e = All-nil (IsSource texts at)
with_owner texts at by text (c ∷ cs) there e =
    let blocks = readings texts in
    let owns = decided_owned blocks by (inherited_of blocks at) c cs (all_owned blocks at) e in
    let block : slice_get blocks by ≡ Some (reading_of_text text) = slice_get-map reading_of_text texts by ∙ ap (option_map reading_of_text) there in
    let found = found_name blocks by owns.0 (reading_of_text text).names owns.1 (has_name blocks owns.0 by (reading_of_text text) owns.1 block) in
    let source : SourceSeen = record { name = own_name texts by (reading_of_text text).names; capabilities = c ∷ cs } in
    All-cons (IsSource texts at) source [] (record {
      by = by;
      name = found.name;
      owns = found.owns;
      shown = ap (λ o. option_map_or shown_detail o []) found.is;
      decides = sym e;
    }) (All-nil (IsSource texts at))

from_sources : (texts : List (List ℕ)) (at by : ℕ) (rest : List (List ℕ)) → ((k : ℕ) → slice_get texts (by + k) ≡ slice_get rest k)
    → All (IsSource texts at) (sources_from texts (inherited_of (readings texts) at) by rest)
from_sources texts at by [] same = All-nil (IsSource texts at)
from_sources texts at by (text ∷ rest) same =
    let inherited = inherited_of (readings texts) at in
    let there : slice_get texts by ≡ Some text = ap (slice_get texts) (omega arith) ∙ same 0 in
    All-append (IsSource texts at) (source_at texts inherited by (reading_of_text text).names) (sources_from texts inherited (suc by) rest)
    (with_owner texts at by text (decided_by by inherited) there refl)
    (from_sources texts at (suc by) rest (λ k. ap (slice_get texts) (omega arith) ∙ same (suc k)))

pub own_their_names : SourcesOwnTheirNames
own_their_names texts at = from_sources texts at 0 texts (λ k. ap (slice_get texts) (zero-add k))
