-- How deep a block has to be expanded: once there is an expansion, a deeper one is equal, and one
-- level for each block of the list suffices.
use Rattle.std.proofs.Common.{◌≡◌, ℕ, zero, suc, ◌+◌, ◌-◌, ◌<◌, ◌≤◌, ◌⊎◌, inl, inr, Bool, true, false, cond, List, [], ◌∷◌, ◌++◌, length, Option, Some}
use Rattle.std.proofs.Common.{None, is_some, option_map, option_and_then, slice_get, refl, sym, ◌∙◌, arith}
use Rattle.std.specs.Option.{option_map_or}
use Rattle.std.proofs.lemmas.Bool.{false≢true}
use Rattle.std.proofs.lemmas.Option.{same_Some, none-some, slice_get_within}
use Rattle.ti_source.specs.declared.parsing.Rule.{Rule}
use Rattle.ti_source.specs.declared.parsing.Rule.TheVariants.{Leftmost, OwnFirst}
use Rattle.ti_source.specs.Reading.{Reading, ReadItem, Said, said_flag, said_number, said_text, said_cancel, said_import}
use Rattle.base_meaning.specs.Owner.{owner_block}
use Rattle.ti_text.specs.Lists.{both_lists}
use Rattle.ti_layout.specs.Values.{Mention}
use Rattle.base_meaning.specs.Expansion.{is_broken, mentions_of, expand_items, own_items, use_items, uncancelled, block_mentions, expand, expansion}
use Rattle.base_meaning.proofs.Owning.{nobody, somebody, owning}
use Rattle.base_meaning.proofs.Ruling.{mapped_part, mapped-some}
use Rattle.base_meaning.proofs.Settling.{IsGrowing, settles}

abbrev pub Mentions : Type 0
Mentions = Option (List Mention)

-- ---- what two lists joined say

pub record AreJoined (a b : Mentions) (ms : List Mention) : Type 0 where
  pub front : List Mention
  pub back : List Mention
  pub front_is : a ≡ Some front
  pub back_is : b ≡ Some back
  pub whole : front ++ back ≡ ms

pub joined_parts : (a b : Mentions) (ms : List Mention) → both_lists a b ≡ Some ms → AreJoined a b ms
joined_parts None b ms e = absurd (none-some ms e)
joined_parts (Some xs) None ms e = absurd (none-some ms e)
joined_parts (Some xs) (Some ys) ms e =
    record { front = xs; back = ys; front_is = refl; back_is = refl; whole = same_Some (xs ++ ys) ms e }

-- ---- what is there remains if names give more

abbrev pub Names : Type 0
Names = List ℕ → Mentions

abbrev pub GivesMore : Names → Names → Type 0
GivesMore f g = (name : List ℕ) (ms : List Mention) → f name ≡ Some ms → g name ≡ Some ms

pub mentions_of-more : (f g : Names) → GivesMore f g → (said : Said) (ms : List Mention) → mentions_of f said ≡ Some ms → mentions_of g said ≡ Some ms
mentions_of-more f g h (said_flag c) ms e = e
mentions_of-more f g h (said_number c n) ms e = e
mentions_of-more f g h (said_text c t) ms e = e
mentions_of-more f g h (said_cancel c) ms e = e
mentions_of-more f g h (said_import name) ms e = h name ms e

pub expand_items-more : (f g : Names) → GivesMore f g → (items : List ReadItem) (ms : List Mention) → expand_items f items ≡ Some ms
    → expand_items g items ≡ Some ms
expand_items-more f g h [] ms e = e
expand_items-more f g h (i ∷ is) ms e =
    let p = joined_parts (mentions_of f i.said) (expand_items f is) ms e in
    rw (mentions_of-more f g h i.said p.front p.front_is, expand_items-more f g h is p.back p.back_is, p.whole) refl

pub block-more : (r : Rule) (f g : Names) → GivesMore f g → (items : List ReadItem) (ms : List Mention) → block_mentions r f items ≡ Some ms
    → block_mentions r g items ≡ Some ms
block-more Leftmost f g h items ms e = expand_items-more f g h items ms e
block-more OwnFirst f g h items ms e =
    let p = joined_parts (expand_items f (own_items items)) (option_map uncancelled (expand_items f (use_items items))) ms e in
    let m = mapped_part uncancelled (expand_items f (use_items items)) p.back p.back_is in
    rw (expand_items-more f g h (own_items items) p.front p.front_is, expand_items-more f g h (use_items items) m.before m.is, m.mapped, p.whole) refl

abbrev pub names_at : (List ℕ → Option Reading) → ℕ → Names
names_at env depth name = option_and_then (expand env depth) (env name)

and_then-more : (f g : Reading → Mentions) → ((b : Reading) (ms : List Mention) → f b ≡ Some ms → g b ≡ Some ms) → (o : Option Reading) (ms : List Mention)
    → option_and_then f o ≡ Some ms → option_and_then g o ≡ Some ms
and_then-more f g h None ms e = absurd (none-some ms e)
and_then-more f g h (Some b) ms e = h b ms e

pub if_sound : (b : Bool) (o q : Mentions) (ms : List Mention) → (o ≡ Some ms → q ≡ Some ms) → cond b None o ≡ Some ms → cond b None q ≡ Some ms
if_sound true o q ms h e = absurd (none-some ms e)
if_sound false o q ms h e = h e

pub expand-suc : (env : List ℕ → Option Reading) (k : ℕ) (b : Reading) (ms : List Mention) → expand env k b ≡ Some ms → expand env (suc k) b ≡ Some ms
expand-suc env zero b ms e = absurd (none-some ms e)
expand-suc env (suc k) b ms e =
    if_sound (is_broken b) (block_mentions b.rule (names_at env k) b.items) (block_mentions b.rule (names_at env (suc k)) b.items) ms
    (block-more b.rule (names_at env k) (names_at env (suc k))
    (λ name. and_then-more (expand env k) (expand env (suc k)) (expand-suc env k) (env name)) b.items ms) e

-- an expansion is the same at each greater depth
pub expand-add : (env : List ℕ → Option Reading) (d k : ℕ) (b : Reading) (ms : List Mention) → expand env k b ≡ Some ms → expand env (d + k) b ≡ Some ms
expand-add env zero k b ms e = let i : 0 + k ≡ k = omega arith in rw i e
expand-add env (suc d) k b ms e =
    let i : suc d + k ≡ suc (d + k) = omega arith in rw i (expand-suc env (d + k) b ms (expand-add env d k b ms e))

pub expand-le : (env : List ℕ → Option Reading) (k m : ℕ) (b : Reading) (ms : List Mention) → k ≤ m → expand env k b ≡ Some ms → expand env m b ≡ Some ms
expand-le env k m b ms l e = let i : (m - k) + k ≡ m = omega arith in rw (← i) (expand-add env (m - k) k b ms e)

pub names_at-le : (env : List ℕ → Option Reading) (k m : ℕ) → k ≤ m → GivesMore (names_at env k) (names_at env m)
names_at-le env k m l name = and_then-more (expand env k) (expand env m) (λ b ms. expand-le env k m b ms l) (env name)

pub expand_same : (env : List ℕ → Option Reading) (j k : ℕ) (b : Reading) (ms ns : List Mention) → expand env j b ≡ Some ms → expand env k b ≡ Some ns → ms ≡ ns
expand_same env j k b ms ns e f =
    let deep = expand-add env k j b ms e in
    let other = expand-le env k (k + j) b ns (omega arith) f in
    same_Some ms ns (sym deep ∙ other)

-- ---- whether a block resolves at a depth depends on what its names do

joined-some : (a b c d : Mentions) → is_some a ≡ is_some c → is_some b ≡ is_some d → is_some (both_lists a b) ≡ is_some (both_lists c d)
joined-some None b None d e f = refl
joined-some None b (Some ys) d e f = absurd (false≢true e)
joined-some (Some xs) b None d e f = absurd (false≢true (sym e))
joined-some (Some xs) None (Some ys) None e f = refl
joined-some (Some xs) None (Some ys) (Some zs) e f = absurd (false≢true f)
joined-some (Some xs) (Some zs) (Some ys) None e f = absurd (false≢true (sym f))
joined-some (Some xs) (Some zs) (Some ys) (Some ws) e f = refl

mentions_of-some : (f g : Names) → ((name : List ℕ) → is_some (f name) ≡ is_some (g name)) → (said : Said)
    → is_some (mentions_of f said) ≡ is_some (mentions_of g said)
mentions_of-some f g h (said_flag c) = refl
mentions_of-some f g h (said_number c n) = refl
mentions_of-some f g h (said_text c t) = refl
mentions_of-some f g h (said_cancel c) = refl
mentions_of-some f g h (said_import name) = h name

expand_items-some : (f g : Names) → ((name : List ℕ) → is_some (f name) ≡ is_some (g name)) → (items : List ReadItem)
    → is_some (expand_items f items) ≡ is_some (expand_items g items)
expand_items-some f g h [] = refl
expand_items-some f g h (i ∷ is) =
    joined-some (mentions_of f i.said) (expand_items f is) (mentions_of g i.said) (expand_items g is) (mentions_of-some f g h i.said)
    (expand_items-some f g h is)

block-some : (r : Rule) (f g : Names) → ((name : List ℕ) → is_some (f name) ≡ is_some (g name)) → (items : List ReadItem)
    → is_some (block_mentions r f items) ≡ is_some (block_mentions r g items)
block-some Leftmost f g h items = expand_items-some f g h items
block-some OwnFirst f g h items =
    joined-some (expand_items f (own_items items)) (option_map uncancelled (expand_items f (use_items items))) (expand_items g (own_items items))
    (option_map uncancelled (expand_items g (use_items items))) (expand_items-some f g h (own_items items))
    (mapped-some uncancelled (expand_items f (use_items items))
    ∙ (expand_items-some f g h (use_items items) ∙ sym (mapped-some uncancelled (expand_items g (use_items items)))))

cond-some : (b : Bool) (o q : Mentions) → is_some o ≡ is_some q → is_some (cond b None o) ≡ is_some (cond b None q)
cond-some true o q e = refl
cond-some false o q e = e

-- whether the block at a place resolves at a depth
resolves_at : List Reading → ℕ → ℕ → Bool
resolves_at bs k p = option_map_or (λ b. is_some (expand (owner_block bs) k b)) (slice_get bs p) false

resolves_at-is : (bs : List Reading) (k p : ℕ) (b : Reading) → slice_get bs p ≡ Some b → resolves_at bs k p ≡ is_some (expand (owner_block bs) k b)
unfolding resolves_at
resolves_at-is bs k p b e = rw e refl

same_names : (bs : List Reading) (j k : ℕ) → ((p : ℕ) → p < length bs → resolves_at bs j p ≡ resolves_at bs k p) → (name : List ℕ)
    → is_some (names_at (owner_block bs) j name) ≡ is_some (names_at (owner_block bs) k name)
same_names bs j k h name =
    elim (owning bs name) [
      | nobody _ d ↦ rw d refl
      | somebody p b o ↦
          let e = sym (resolves_at-is bs j p b o.stands) ∙ (h p (slice_get_within bs p b o.stands) ∙ resolves_at-is bs k p b o.stands) in
          rw o.is e
    ]

some_is : {X : Type 0} (o : Option X) → is_some o ≡ true → (x : X) × (o ≡ Some x)
some_is None e = absurd (false≢true e)
some_is (Some x) e = (x, refl)

is_some-of : {X : Type 0} (o : Option X) (x : X) → o ≡ Some x → is_some o ≡ true
is_some-of o x e = rw e refl

each_place : (bs : List Reading) (p : ℕ) → ((b : Reading) × (slice_get bs p ≡ Some b)) ⊎ (slice_get bs p ≡ None)
each_place bs p = elim (slice_get bs p) as (λ v. slice_get bs p ≡ v → ((b : Reading) × (slice_get bs p ≡ Some b))
    ⊎ (slice_get bs p ≡ None)) [ Some b ↦ λ e. inl (b, e) | None ↦ λ e. inr e ] refl

resolves_at-grows : (bs : List Reading) (k p : ℕ) → p < length bs → resolves_at bs k p ≡ true → resolves_at bs (suc k) p ≡ true
unfolding resolves_at
resolves_at-grows bs k p l h =
    elim (each_place bs p) [
      | inr none ↦ absurd (false≢true (sym (rw none refl) ∙ h))
      | inl found ↦
          let b = found.0 in
          let e : is_some (expand (owner_block bs) k b) ≡ true = sym (resolves_at-is bs k p b found.1) ∙ h in
          let w = some_is (expand (owner_block bs) k b) e in
          resolves_at-is bs (suc k) p b found.1 ∙ is_some-of (expand (owner_block bs) (suc k) b) w.0 (expand-suc (owner_block bs) k b w.0 w.1)
    ]

resolves_at-stays : (bs : List Reading) (k : ℕ) → ((p : ℕ) → p < length bs → resolves_at bs (suc k) p ≡ resolves_at bs k p) → (p : ℕ) → p < length bs
    → resolves_at bs (suc (suc k)) p ≡ resolves_at bs (suc k) p
resolves_at-stays bs k h p l =
    elim (each_place bs p) [
      | inr none ↦ unfold resolves_at in (rw none refl)
      | inl found ↦
          let b = found.0 in
          resolves_at-is bs (suc (suc k)) p b found.1
          ∙ (cond-some (is_broken b) (block_mentions b.rule (names_at (owner_block bs) (suc k)) b.items)
          (block_mentions b.rule (names_at (owner_block bs) k) b.items) (block-some b.rule (names_at (owner_block bs) (suc k)) (names_at (owner_block bs) k) (same_names bs (suc k) k h) b.items)
          ∙ sym (resolves_at-is bs (suc k) p b found.1))
    ]

growing : (bs : List Reading) → IsGrowing (resolves_at bs) (length bs)
growing bs = record { grows = resolves_at-grows bs; stays = resolves_at-stays bs }

-- a block of the list that some depth expands has that expansion
pub bounded : (bs : List Reading) (k p : ℕ) (b : Reading) (ms : List Mention) → slice_get bs p ≡ Some b → expand (owner_block bs) k b ≡ Some ms
    → expansion bs b ≡ Some ms
bounded bs k p b ms s e =
    let within = slice_get_within bs p b s in
    let here : resolves_at bs k p ≡ true = resolves_at-is bs k p b s ∙ is_some-of (expand (owner_block bs) k b) ms e in
    let there = settles (resolves_at bs) (length bs) (growing bs) k p within here in
    let w = some_is (expand (owner_block bs) (length bs) b) (sym (resolves_at-is bs (length bs) p b s) ∙ there) in
    let same = expand_same (owner_block bs) (length bs) k b w.0 ms w.1 e in
    expand-suc (owner_block bs) (length bs) b ms (rw (← same) w.1)

-- a block that no depth expands has no expansion
pub unbounded : (bs : List Reading) (b : Reading) → ((k : ℕ) → expand (owner_block bs) k b ≡ None) → expansion bs b ≡ None
unbounded bs b h = h (suc (length bs))
