-- What a rename leaves as it is.
use Rattle.std.proofs.Common.{◌≡◌, ℕ, zero, suc, ◌+◌, ◌==◌, ◌||◌, ◌⊎◌, Bool, true, false, cond, not, inl, inr, List, [], ◌∷◌, ◌++◌, length, map, Option, None}
use Rattle.std.proofs.Common.{Some, slice_get, refl, sym, subst, ap, ◌∙◌, arith}
use Rattle.std.specs.Prelude.{option_and_then}
use Rattle.std.specs.Option.{option_map, option_map_or}
use Rattle.std.specs.Str.{bytes_eq}
use Rattle.std.proofs.lemmas.Bool.{cases_Bool, eq-eqb, eqb-true, ne_eqb}
use Rattle.std.proofs.lemmas.List.{map-append}
use Rattle.std.proofs.lemmas.Option.{none-some, same_Some}
use Rattle.std.proofs.lemmas.Slice.Eq.{bytes_eq-Decides}
use Rattle.ti_text.specs.Lists.{both_lists}
use Rattle.ti_source.specs.declared.parsing.Rule.{Rule}
use Rattle.ti_source.specs.declared.parsing.Rule.TheVariants.{Leftmost, OwnFirst}
use Rattle.ti_source.specs.Reading.{Reading, ReadItem, Said, said_flag, said_number, said_text, said_cancel, said_import}
use Rattle.ti_layout.specs.Values.{Mention}
use Rattle.base_meaning.specs.Compiled.{entry_of}
use Rattle.base_meaning.specs.Expansion.{block_mentions, expand, expand_items, is_broken, is_use, mentions_of, own_items, use_items}
use Rattle.base_meaning.specs.Owner.{is_among, owner, owner_block}
use Rattle.base_meaning.specs.Reaching.{Uses, any_use, used_name}
use Rattle.base_meaning.proofs.Depth.{names_at}
use Rattle.base_meaning.proofs.Leading.{used-any_use}
use Rattle.base_meaning.proofs.Owning.{owning, somebody, nobody, nobody_to_none, owner_to_owned}
use Rattle.base_meaning.proofs.Ruling.{own-uses, use-uses}
use Rattle.source_names.specs.Renamed.{AreRenamed, BlocksSayWhatTheyDid, EntriesHoldWhatTheyDid, IsAccepted, IsRenamed, UsesLeadWhereTheyDid, renamed_name}
use Rattle.source_names.specs.Renamed.{renamed_said}
use Rattle.source_names.specs.Renaming.{is_used}

-- ---- names

equal : (one other : List ℕ) → bytes_eq one other ≡ true → one ≡ other
equal one other e = (bytes_eq-Decides one other).0 e

same : (name : List ℕ) → bytes_eq name name ≡ true
same name = (bytes_eq-Decides name name).1 refl

name_by : (name new used : List ℕ) (b : Bool) → bytes_eq used name ≡ b → renamed_name name new used ≡ cond b new used
name_by name new used b e = rw e refl

-- neither of the two names
record IsOther (name new n : List ℕ) : Type 0 where
  old : bytes_eq n name ≡ false
  later : bytes_eq n new ≡ false

other_one : (name new n x : List ℕ) → IsOther name new n → bytes_eq n (renamed_name name new x) ≡ bytes_eq n x
other_one name new n x h =
    elim (cases_Bool (bytes_eq x name)) [
      | inl is ↦ ap (bytes_eq n) (name_by name new x true is) ∙ h.later ∙ sym (ap (bytes_eq n) (equal x name is) ∙ h.old)
      | inr off ↦ ap (bytes_eq n) (name_by name new x false off)
    ]

among_other : (name new n : List ℕ) (names : List (List ℕ)) → IsOther name new n → is_among n (map (renamed_name name new) names) ≡ is_among n names
among_other name new n [] h = refl
among_other name new n (x ∷ xs) h =
    ap (λ (b : Bool). b || is_among n (map (renamed_name name new) xs)) (other_one name new n x h)
    ∙ ap (λ (b : Bool). bytes_eq n x || b) (among_other name new n xs h)

or_left : (a b : Bool) → a ≡ true → (a || b) ≡ true
or_left true b e = refl
or_left false b e = absurd cc

or_right : (a b : Bool) → b ≡ true → (a || b) ≡ true
or_right true b e = refl
or_right false b e = e

or_second : (a b : Bool) → a ≡ false → (a || b) ≡ true → b ≡ true
or_second true b p e = absurd cc
or_second false b p e = e

among_new : (name new : List ℕ) (names : List (List ℕ)) → is_among name names ≡ true → is_among new (map (renamed_name name new) names) ≡ true
among_new name new [] e = absurd cc
among_new name new (x ∷ xs) e =
    let first = bytes_eq new (renamed_name name new x) in
    let more = is_among new (map (renamed_name name new) xs) in
    elim (cases_Bool (bytes_eq name x)) [
      | inl is ↦
          let this : bytes_eq x name ≡ true = ap (λ (n : List ℕ). bytes_eq n name) (sym (equal name x is)) ∙ same name in
          or_left first more (ap (bytes_eq new) (name_by name new x true this) ∙ same new)
      | inr off ↦ or_right first more (among_new name new xs (or_second (bytes_eq name x) (is_among name xs) off e))
    ]

-- ---- owners

owner_by : (block : Reading) (blocks : List Reading) (n : List ℕ) (b : Bool) → is_among n block.names ≡ b
    → owner (block ∷ blocks) n ≡ cond b (Some 0) (option_map (λ k. suc k) (owner blocks n))
owner_by block blocks n b e = rw e refl

owner_as : (one other : Reading) (ones others : List Reading) (n m : List ℕ) → is_among n one.names ≡ is_among m other.names → owner ones n ≡ owner others m
    → owner (one ∷ ones) n ≡ owner (other ∷ others) m
owner_as one other ones others n m e f =
    ap (λ (b : Bool). cond b (Some 0) (option_map (λ k. suc k) (owner ones n))) e
    ∙ ap (λ (o : Option ℕ). cond (is_among m other.names) (Some 0) (option_map (λ k. suc k) o)) f

names_other : (name new n : List ℕ) (own : Bool) (block other : Reading) → IsOther name new n → IsRenamed name new own block other
    → is_among n other.names ≡ is_among n block.names
names_other name new n true block other h r = ap (is_among n) r.names ∙ among_other name new n block.names h
names_other name new n false block other h r = ap (is_among n) r.names

owner_other : (name new n : List ℕ) (at k : ℕ) (blocks others : List Reading) → IsOther name new n → AreRenamed name new at k blocks others
    → owner others n ≡ owner blocks n
owner_other name new n at k [] [] h r = refl
owner_other name new n at k [] (other ∷ others) h r = absurd r
owner_other name new n at k (block ∷ blocks) [] h r = absurd r
owner_other name new n at k (block ∷ blocks) (other ∷ others) h r =
    owner_as other block others blocks n n (names_other name new n (k == at) block other h r.0) (owner_other name new n at (suc k) blocks others h r.1)

later_is : (found : Option ℕ) (j : ℕ) → option_map (λ k. suc k) found ≡ Some j → (i : ℕ) × (found ≡ Some i) × (suc i ≡ j)
later_is None j e = absurd cc
later_is (Some i) j e = (i, refl, same_Some (suc i) j e)

-- nobody owns a name, or the block at that position does
abbrev IsFree : List Reading → List ℕ → ℕ → Type 0
IsFree blocks new j = (owner blocks new ≡ None) ⊎ (owner blocks new ≡ Some j)

free_later : (found : Option ℕ) (i : ℕ) → (option_map (λ k. suc k) found ≡ None) ⊎ (option_map (λ k. suc k) found ≡ Some (suc i)) → (found ≡ None)
    ⊎ (found ≡ Some i)
free_later None i h = inl refl
free_later (Some k) i h =
    elim h [
      | inl none ↦ absurd (none-some (suc k) (sym none))
      | inr some ↦ let is : suc k ≡ suc i = same_Some (suc k) (suc i) some in inr (ap (λ (n : ℕ). Some n) (omega (arith, is)))
    ]

own_names : (name new : List ℕ) (own : Bool) (block other : Reading) → IsRenamed name new own block other → own ≡ true
    → other.names ≡ map (renamed_name name new) block.names
own_names name new true block other r e = r.names
own_names name new false block other r e = absurd cc

kept_names : (name new : List ℕ) (own : Bool) (block other : Reading) → IsRenamed name new own block other → own ≡ false → other.names ≡ block.names
kept_names name new true block other r e = absurd cc
kept_names name new false block other r e = r.names

not_first : (block : Reading) (blocks : List Reading) (new : List ℕ) (i : ℕ) → IsFree (block ∷ blocks) new (suc i) → is_among new block.names ≡ false
not_first block blocks new i free =
    elim (cases_Bool (is_among new block.names)) [
      | inr off ↦ off
      | inl first ↦
          let is = owner_by block blocks new true first in
          elim free [
            | inl none ↦ absurd (none-some 0 (sym none ∙ is))
            | inr some ↦ let clash = same_Some 0 (suc i) (sym is ∙ some) in absurd (omega arith)
          ]
    ]

owner_new : (name new : List ℕ) (at k j : ℕ) (blocks others : List Reading) → AreRenamed name new at k blocks others → owner blocks name ≡ Some j → k + j ≡ at
    → IsFree blocks new j → owner others new ≡ Some j
owner_new name new at k j [] others r owns place free = absurd cc
owner_new name new at k j (block ∷ blocks) [] r owns place free = absurd r
owner_new name new at k j (block ∷ blocks) (other ∷ others) r owns place free =
    elim (cases_Bool (is_among name block.names)) [
      | inl first ↦
          let is : 0 ≡ j = same_Some 0 j (sym (owner_by block blocks name true first) ∙ owns) in
          let own : (k == at) ≡ true = eq-eqb k at (omega (arith, is, place)) in
          let there : is_among new other.names ≡ true =
          ap (is_among new) (own_names name new (k == at) block other r.0 own) ∙ among_new name new block.names first in
          owner_by other others new true there ∙ ap (λ (n : ℕ). Some n) is
      | inr later ↦
          let next = later_is (owner blocks name) j (sym (owner_by block blocks name false later) ∙ owns) in
          let i = next.0 in
          let up = next.2 in
          let apart : (k == at) ≡ false = ne_eqb k at (λ e. omega (arith, e, place, up)) in
          let free_here : IsFree (block ∷ blocks) new (suc i) = subst (IsFree (block ∷ blocks) new) (sym up) free in
          let off = not_first block blocks new i free_here in
          let off_too : is_among new other.names ≡ false = ap (is_among new) (kept_names name new (k == at) block other r.0 apart) ∙ off in
          let rest : IsFree blocks new i = free_later (owner blocks new) i (elim free_here [
            | inl none ↦ inl (sym (owner_by block blocks new false off) ∙ none)
            | inr some ↦ inr (sym (owner_by block blocks new false off) ∙ some)
          ]) in
          let found = owner_new name new at (suc k) i blocks others r.1 next.1 (omega (arith, place, up)) rest in
          owner_by other others new false off_too ∙ ap (option_map (λ k. suc k)) found ∙ ap (λ (n : ℕ). Some n) up
    ]

-- ---- a name that is not taken

not_false : (b : Bool) → not b ≡ false → b ≡ true
not_false true e = refl
not_false false e = absurd cc

free_by : (found : Option ℕ) (at : ℕ) (used : Bool) → option_map_or (λ other. not (other == at)) found used ≡ false → ((found ≡ None) × (used ≡ false))
    ⊎ (found ≡ Some at)
free_by None at used e = inl (refl, e)
free_by (Some other) at used e = inr (ap (λ (n : ℕ). Some n) (eqb-true other at (not_false (other == at) e)))

used_there : (blocks : List Reading) (place : ℕ) (block : Reading) (used : List ℕ) → slice_get blocks place ≡ Some block → Uses block.items used
    → is_used blocks used ≡ true
used_there [] place block used there u = absurd cc
used_there (first ∷ blocks) zero block used there u =
    let is : first ≡ block = same_Some first block there in
    or_left (any_use (bytes_eq used) first.items) (is_used blocks used) (ap (λ (b : Reading). any_use (bytes_eq used) b.items) is
    ∙ used-any_use used block.items u)
used_there (first ∷ blocks) (suc place) block used there u =
    or_right (any_use (bytes_eq used) first.items) (is_used blocks used) (used_there blocks place block used there u)

free_of : (blocks others : List Reading) (at : ℕ) (name new : List ℕ) → IsAccepted blocks others at name new → IsFree blocks new at
free_of blocks others at name new a = elim (free_by (owner blocks new) at (is_used blocks new) a.free) [ inl none ↦ inl none.0 | inr some ↦ inr some ]

new_owner : (blocks others : List Reading) (at : ℕ) (name new : List ℕ) → IsAccepted blocks others at name new → owner others new ≡ Some at
new_owner blocks others at name new a =
    owner_new name new at 0 at blocks others a.renamed a.owns (omega arith) (free_of blocks others at name new a)

-- ---- where uses lead

pub uses_lead : UsesLeadWhereTheyDid
uses_lead blocks others at name new a place block used there u =
    let here = new_owner blocks others at name new a in
    elim (cases_Bool (bytes_eq used name)) [
      | inl is ↦ ap (owner others) (name_by name new used true is) ∙ here ∙ sym (ap (owner blocks) (equal used name is) ∙ a.owns)
      | inr off ↦ elim (cases_Bool (bytes_eq used new)) [
        | inl is ↦
            let this : used ≡ new = equal used new is in
            let led : owner blocks new ≡ Some at = elim (free_by (owner blocks new) at (is_used blocks new) a.free) [
              | inl none ↦
                  let clash : true ≡ false = sym (used_there blocks place block used there u) ∙ ap (is_used blocks) this ∙ none.1 in
                  absurd cc
              | inr some ↦ some
            ] in
            ap (owner others) (name_by name new used false off ∙ this) ∙ here ∙ sym (ap (owner blocks) this ∙ led)
        | inr apart ↦
            ap (owner others) (name_by name new used false off)
            ∙ owner_other name new used at 0 blocks others (record { old = off; later = apart }) a.renamed
      ]
    ]

-- ---- what blocks say

pub same_length : (name new : List ℕ) (at k : ℕ) (blocks others : List Reading) → AreRenamed name new at k blocks others → length others ≡ length blocks
same_length name new at k [] [] r = refl
same_length name new at k [] (other ∷ others) r = absurd r
same_length name new at k (block ∷ blocks) [] r = absurd r
same_length name new at k (block ∷ blocks) (other ∷ others) r = ap (λ (n : ℕ). suc n) (same_length name new at (suc k) blocks others r.1)

-- the block at a position after the rename
pub record After (name new : List ℕ) (others : List Reading) (place : ℕ) (block : Reading) : Type 0 where
  pub own : Bool
  pub other : Reading
  pub there : slice_get others place ≡ Some other
  pub is : IsRenamed name new own block other

pub after_at : (name new : List ℕ) (at k : ℕ) (blocks others : List Reading) (place : ℕ) (block : Reading) → AreRenamed name new at k blocks others
    → slice_get blocks place ≡ Some block
    → After name new others place block
after_at name new at k [] others place block r there = absurd cc
after_at name new at k (first ∷ blocks) [] place block r there = absurd r
after_at name new at k (first ∷ blocks) (other ∷ others) zero block r there =
    record { own = k == at; other = other; there = refl; is = subst (λ (b : Reading). IsRenamed name new (k == at) b other) (same_Some first block there) r.0 }
after_at name new at k (first ∷ blocks) (other ∷ others) (suc place) block r there =
    let found = after_at name new at (suc k) blocks others place block r.1 there in
    record { own = found.own; other = found.other; there = found.there; is = found.is }

abbrev Mentions : Type 0
Mentions = Option (List Mention)

mentions_same : (name new : List ℕ) (f g : List ℕ → Mentions) (said : Said)
    → ((used : List ℕ) → used_name said ≡ Some used → f (renamed_name name new used) ≡ g used)
    → mentions_of f (renamed_said name new said) ≡ mentions_of g said
mentions_same name new f g (said_flag c) h = refl
mentions_same name new f g (said_number c n) h = refl
mentions_same name new f g (said_text c t) h = refl
mentions_same name new f g (said_cancel c) h = refl
mentions_same name new f g (said_import used) h = h used refl

items_same : (name new : List ℕ) (f g : List ℕ → Mentions) (items others : List ReadItem)
    → map (λ (item : ReadItem). item.said) others ≡ map (λ (item : ReadItem). renamed_said name new item.said) items
    → ((used : List ℕ) → Uses items used → f (renamed_name name new used) ≡ g used) → expand_items f others ≡ expand_items g items
items_same name new f g [] [] e h = refl
items_same name new f g [] (other ∷ others) e h = absurd cc
items_same name new f g (item ∷ items) [] e h = absurd cc
items_same name new f g (item ∷ items) (other ∷ others) e h =
    let first : other.said ≡ renamed_said name new item.said = cc in
    let more : map (λ (i : ReadItem). i.said) others ≡ map (λ (i : ReadItem). renamed_said name new i.said) items = cc in
    let here = ap (mentions_of f) first ∙ mentions_same name new f g item.said (λ used u. h used (inl u)) in
    let later = items_same name new f g items others more (λ used u. h used (inr u)) in
    ap (λ (m : Mentions). both_lists m (expand_items f others)) here ∙ ap (both_lists (mentions_of g item.said)) later

-- what becomes of a block's own items, and of its uses
one_said : (name new : List ℕ) (item : ReadItem) → is_use (renamed_said name new item.said) ≡ is_use item.said
one_said name new item = by_said item.said
  where
    by_said : (said : Said) → is_use (renamed_said name new said) ≡ is_use said
    by_said (said_flag c) = refl
    by_said (said_number c n) = refl
    by_said (said_text c t) = refl
    by_said (said_cancel c) = refl
    by_said (said_import used) = refl

-- the same sayings, renamed
abbrev SaidAlike : (name new : List ℕ) → (items others : List ReadItem) → Type 0
SaidAlike name new items others =
    map (λ (item : ReadItem). item.said) others ≡ map (λ (item : ReadItem). renamed_said name new item.said) items

alike_behind : (name new : List ℕ) (items others : List ReadItem) (item other : ReadItem) → SaidAlike name new items others
    → other.said ≡ renamed_said name new item.said → SaidAlike name new (items ++ item ∷ []) (others ++ other ∷ [])
alike_behind name new items others item other e f =
    map-append (λ (i : ReadItem). i.said) others (other ∷ [])
    ∙ ap (λ (ss : List Said). ss ++ other.said ∷ []) e
    ∙ ap (λ (s : Said). map (λ (i : ReadItem). renamed_said name new i.said) items ++ s ∷ []) f
    ∙ sym (map-append (λ (i : ReadItem). renamed_said name new i.said) items (item ∷ []))

own_alike : (name new : List ℕ) (items others : List ReadItem) → SaidAlike name new items others → SaidAlike name new (own_items items) (own_items others)
own_alike name new [] [] e = refl
own_alike name new [] (other ∷ others) e = absurd cc
own_alike name new (item ∷ items) [] e = absurd cc
own_alike name new (item ∷ items) (other ∷ others) e =
    let first : other.said ≡ renamed_said name new item.said = cc in
    let more : SaidAlike name new items others = cc in
    let own = own_alike name new items others more in
    let same : is_use other.said ≡ is_use item.said = ap is_use first ∙ one_said name new item in
    subst (λ (b : Bool). SaidAlike name new (own_items (item ∷ items)) (cond b (own_items others) (own_items others ++ other ∷ []))) (sym same)
    (by_use (is_use item.said) own (alike_behind name new (own_items items) (own_items others) item other own first))
  where
    by_use : (b : Bool) → SaidAlike name new (own_items items) (own_items others)
        → SaidAlike name new (own_items items ++ item ∷ []) (own_items others ++ other ∷ [])
        → SaidAlike name new (cond b (own_items items) (own_items items ++ item ∷ [])) (cond b (own_items others) (own_items others ++ other ∷ []))
    by_use true own longer = own
    by_use false own longer = longer

uses_alike : (name new : List ℕ) (items others : List ReadItem) → SaidAlike name new items others → SaidAlike name new (use_items items) (use_items others)
uses_alike name new [] [] e = refl
uses_alike name new [] (other ∷ others) e = absurd cc
uses_alike name new (item ∷ items) [] e = absurd cc
uses_alike name new (item ∷ items) (other ∷ others) e =
    let first : other.said ≡ renamed_said name new item.said = cc in
    let more : SaidAlike name new items others = cc in
    let later = uses_alike name new items others more in
    let same : is_use other.said ≡ is_use item.said = ap is_use first ∙ one_said name new item in
    subst (λ (b : Bool). SaidAlike name new (use_items (item ∷ items)) (cond b (other ∷ use_items others) (use_items others))) (sym same)
    (by_use (is_use item.said) later (ap (λ (ss : List Said). other.said ∷ ss) later
    ∙ ap (λ (s : Said). s ∷ map (λ (i : ReadItem). renamed_said name new i.said) (use_items items)) first))
  where
    by_use : (b : Bool) → SaidAlike name new (use_items items) (use_items others)
        → SaidAlike name new (item ∷ use_items items) (other ∷ use_items others)
        → SaidAlike name new (cond b (item ∷ use_items items) (use_items items)) (cond b (other ∷ use_items others) (use_items others))
    by_use true later longer = longer
    by_use false later longer = later

ruled_same : (rule : Rule) (name new : List ℕ) (f g : List ℕ → Mentions) (items others : List ReadItem) → SaidAlike name new items others
    → ((used : List ℕ) → Uses items used → f (renamed_name name new used) ≡ g used) → block_mentions rule f others ≡ block_mentions rule g items
ruled_same Leftmost name new f g items others e h = items_same name new f g items others e h
ruled_same OwnFirst name new f g items others e h =
    let own = items_same name new f g (own_items items) (own_items others) (own_alike name new items others e) (λ used u. h used (own-uses items used u)) in
    let uses = items_same name new f g (use_items items) (use_items others) (uses_alike name new items others e) (λ used u. h used (use-uses items used u)) in
    rw (own, uses) refl

-- a rename that is accepted
module _ (blocks others : List Reading) (at : ℕ) (name new : List ℕ) (a : IsAccepted blocks others at name new) where
  -- blocks before and after it say the same, expanded to that depth
  abbrev SameAt : ℕ → Type 0
  SameAt depth =
      (place : ℕ) (own : Bool) (block other : Reading) → slice_get blocks place ≡ Some block → IsRenamed name new own block other
      → expand (owner_block others) depth other ≡ expand (owner_block blocks) depth block

  use_same : (depth : ℕ) → SameAt depth → (used : List ℕ) → owner others (renamed_name name new used) ≡ owner blocks used
      → names_at (owner_block others) depth (renamed_name name new used) ≡ names_at (owner_block blocks) depth used
  use_same depth same_at used led =
      let expanded = λ (env : List ℕ → Option Reading) (o : Option Reading). option_and_then (expand env depth) o in
      elim (owning blocks used) [
        | nobody o d ↦
            ap (expanded (owner_block others)) (nobody_to_none others (renamed_name name new used) (led ∙ o)) ∙ sym (ap (expanded (owner_block blocks)) d)
        | somebody place block h ↦
            let found = after_at name new at 0 blocks others place block a.renamed h.stands in
            ap (expanded (owner_block others)) (owner_to_owned others (renamed_name name new used) place found.other (led ∙ h.owns) found.there)
            ∙ same_at place found.own block found.other h.stands found.is
            ∙ sym (ap (expanded (owner_block blocks)) h.is)
      ]

  expand_same : (depth : ℕ) → SameAt depth
  expand_same zero place own block other there r = refl
  expand_same (suc depth) place own block other there r =
      let uses = λ (used : List ℕ) (u : Uses block.items used). use_same depth (expand_same depth) used
      (uses_lead blocks others at name new a place block used there u) in
      ap (λ (b : Bool). cond b None (block_mentions other.rule (names_at (owner_block others) depth) other.items)) r.broken
      ∙ ap (λ (rule : Rule). cond (is_broken block) None (block_mentions rule (names_at (owner_block others) depth) other.items)) r.same_rule
      ∙ ap (λ (m : Mentions). cond (is_broken block) None m)
      (ruled_same block.rule name new (names_at (owner_block others) depth) (names_at (owner_block blocks) depth) block.items other.items r.sayings uses)

pub blocks_say : BlocksSayWhatTheyDid
blocks_say blocks others at name new a place block other there after =
    let found = after_at name new at 0 blocks others place block a.renamed there in
    let is : found.other ≡ other = same_Some found.other other (sym found.there ∙ after) in
    let length_is = same_length name new at 0 blocks others a.renamed in
    ap (λ (n : ℕ). expand (owner_block others) (suc n) other) length_is
    ∙ expand_same blocks others at name new a (suc (length blocks)) place found.own block other there
    (subst (λ (o : Reading). IsRenamed name new found.own block o) is found.is)

pub entries_hold : EntriesHoldWhatTheyDid
entries_hold blocks others at name new a place block other there after =
    ap (option_and_then (entry_of other)) (blocks_say blocks others at name new a place block other there after)
