-- A block has no entry exactly if the report has an error of it.
use Rattle.std.proofs.Common.{◌≡◌, ℕ, zero, suc, inl, inr, Bool, true, false, cond, List, [], ◌∷◌, ◌++◌, ◌+◌, ◌||◌, ◌⊎◌, filter, map, Option, Some, None}
use Rattle.std.proofs.Common.{is_some, option_and_then, slice_get, refl, subst, sym, ◌∙◌, ap, not, arith}
use Rattle.std.specs.Prelude.{nat_eq, nat_lt, IsSome, IsTrue}
use Rattle.std.specs.List.{find, list_any}
use Rattle.std.proofs.lemmas.Bool.{and_parts, cases_Bool, false≢true, eq-eqb, eqb-true, or_cases}
use Rattle.std.proofs.lemmas.Option.{none-some, same_Some}
use Rattle.ti_source.specs.declared.code.Code.{Code}
use Rattle.ti_source.specs.declared.code.Code.TheVariants.{TooLarge, Unresolved}
use Rattle.std.specs.Option.{option_map_or}
use Rattle.ti_source.specs.Code.{is_error, is_of_header}
use Rattle.ti_source.specs.Reading.{Reading, ReadItem, ReadFault}
use Rattle.base_meaning.specs.Owner.{owner_block}
use Rattle.ti_layout.specs.Values.{Mention}
use Rattle.base_meaning.specs.Expansion.{expansion, is_broken, resolves}
use Rattle.base_meaning.specs.Reaching.{used_name, Uses, leads_to}
use Rattle.base_meaning.specs.Compiled.{entry, entry_of, image_of, is_too_large, state_of, state_with, EntryState, unresolved, oversized, written}
use Rattle.base_meaning.specs.Faults.{SourceFault, block_faults, entry_faults, fault_between, fault_of_item, distinct, fault_of_use, faults, faults_after}
use Rattle.base_meaning.specs.Faults.{faults_before, faults_from, is_kept, is_owned_before, name_fault, item_faults, local_fault, local_faults, name_faults}
use Rattle.base_meaning.specs.Faults.{use_fault}
use Rattle.base_meaning.specs.UseLaws.{UnresolvedBlocksHaveACause, HasUseAtFault}
use Rattle.source_blocks.specs.Causes.{MissingEntriesHaveACause, cause_of, is_error_of}

-- ---- lists of which an element passes

or-left : (x y : Bool) → x ≡ true → (x || y) ≡ true
or-left true y e = refl
or-left false y e = absurd (false≢true e)

or-right : (x y : Bool) → y ≡ true → (x || y) ≡ true
or-right true y e = refl
or-right false y e = e

any-left : {X : Type 0} (p : X → Bool) (xs ys : List X) → list_any p xs ≡ true → list_any p (xs ++ ys) ≡ true
any-left p [] ys e = absurd (false≢true e)
any-left p (x ∷ xs) ys e = elim (or_cases (p x) (list_any p xs) e) [
  | inl here ↦ or-left (p x) (list_any p (xs ++ ys)) here
  | inr later ↦ or-right (p x) (list_any p (xs ++ ys)) (any-left p xs ys later)
]

any-right : {X : Type 0} (p : X → Bool) (xs ys : List X) → list_any p ys ≡ true → list_any p (xs ++ ys) ≡ true
any-right p [] ys e = e
any-right p (x ∷ xs) ys e = or-right (p x) (list_any p (xs ++ ys)) (any-right p xs ys e)

found_if : {X : Type 0} (p : X → Bool) (x : X) (xs : List X) (b : Bool) → p x ≡ b → IsSome (cond b (Some x) (find p xs)) → IsSome (find p (x ∷ xs))
found_if p x xs b e s = subst IsSome (sym (ap (λ v. cond v (Some x) (find p xs)) e)) s

found : {X : Type 0} (p : X → Bool) (xs : List X) → list_any p xs ≡ true → IsSome (find p xs)
found p [] e = absurd (false≢true e)
found p (x ∷ xs) e = elim (cases_Bool (p x)) [
  | inl here ↦ found_if p x xs true here refl
  | inr not ↦ found_if p x xs false not (found p xs (sym (ap (λ (v : Bool). v || list_any p xs) not) ∙ e))
]

-- ---- the faults of an item

one-local : (at : ℕ) (fault : ReadFault) → is_error fault.code ≡ true → is_error_of at (local_fault at fault) ≡ true
one-local at fault e = rw (eq-eqb at at refl, e) refl

any-local : (at : ℕ) (fs : List ReadFault) → list_any (λ (f : ReadFault). is_error f.code) fs ≡ true
    → list_any (is_error_of at) (map (local_fault at) fs) ≡ true
any-local at [] e = e
any-local at (f ∷ fs) e = elim (or_cases (is_error f.code) (list_any (λ (g : ReadFault). is_error g.code) fs) e) [
  | inl here ↦ or-left (is_error_of at (local_fault at f)) (list_any (is_error_of at) (map (local_fault at) fs)) (one-local at f here)
  | inr later ↦ or-right (is_error_of at (local_fault at f)) (list_any (is_error_of at) (map (local_fault at) fs)) (any-local at fs later)
]

between-error : (owned : Option Reading) (back : Bool) (does : Reading → Bool) (code : Code) → fault_between owned back does ≡ Some code → is_error code ≡ true
between-error None back does code e = subst (λ (o : Option Code). option_map_or is_error o true ≡ true) e refl
between-error (Some b) true does code e = subst (λ (o : Option Code). option_map_or is_error o true ≡ true) e refl
between-error (Some b) false does code e = subst (λ (o : Option Code). option_map_or is_error o true ≡ true) e (sound b does) where
  sound : (b : Reading) (does : Reading → Bool) → option_map_or is_error (fault_between (Some b) false does) true ≡ true
  sound b does = elim (does b) as (λ v. option_map_or is_error (cond v None (Some Unresolved)) true ≡ true) [
    | true ↦ refl
    | false ↦ refl
  ]

use-error : (blocks : List Reading) (at line : ℕ) (name : List ℕ) (code : Code) → use_fault blocks at name ≡ Some code
    → list_any (is_error_of at) (fault_of_item blocks at line (Some name)) ≡ true
use-error blocks at line name code e =
    ap (λ (o : Option Code). list_any (is_error_of at) (fault_of_use at line name o)) e
    ∙ or-left (is_error_of at (record { block = at; line = line; code = code; detail = Some name })) false
    (rw (eq-eqb at at refl, between-error (owner_block blocks name) (leads_to blocks name at) (resolves blocks) code e) refl)

-- ---- the faults of the items of a block

-- a list is the part at the front and the part that follows
parted : (n : ℕ) (fs : List ReadFault) → list_any (λ (f : ReadFault). is_error f.code) fs ≡ true
    → (list_any (λ (f : ReadFault). is_error f.code) (faults_before n fs) ≡ true) ⊎ (list_any (λ (f : ReadFault). is_error f.code) (faults_from n fs) ≡ true)
parted n [] e = inl e
parted n (f ∷ fs) e = elim (cases_Bool (nat_lt f.ordinal n)) [
  | inr behind ↦ inr (ap (λ (v : Bool). list_any (λ (g : ReadFault). is_error g.code) (cond v (faults_from n fs) (f ∷ fs))) behind ∙ e)
  | inl before ↦ elim (or_cases (is_error f.code) (list_any (λ (g : ReadFault). is_error g.code) fs) e) [
    | inl here ↦ inl (ap (λ (v : Bool). list_any (λ (g : ReadFault). is_error g.code) (cond v (f ∷ faults_before n fs) [])) before
        ∙ or-left (is_error f.code) (list_any (λ (g : ReadFault). is_error g.code) (faults_before n fs)) here)
    | inr later ↦ elim (parted n fs later) [
      | inl front ↦ inl (ap (λ (v : Bool). list_any (λ (g : ReadFault). is_error g.code) (cond v (f ∷ faults_before n fs) [])) before
          ∙ or-right (is_error f.code) (list_any (λ (g : ReadFault). is_error g.code) (faults_before n fs)) front)
      | inr rest ↦ inr (ap (λ (v : Bool). list_any (λ (g : ReadFault). is_error g.code) (cond v (faults_from n fs) (f ∷ fs))) before ∙ rest)
    ]
  ]
]

read-error : (blocks : List Reading) (at : ℕ) (fs : List ReadFault) (items : List ReadItem) → list_any (λ (f : ReadFault). is_error f.code) fs ≡ true
    → list_any (is_error_of at) (item_faults blocks at fs items) ≡ true
read-error blocks at fs [] e = any-local at fs e
read-error blocks at fs (item ∷ items) e =
    let first = map (local_fault at) (faults_before item.ordinal fs) in
    let own = fault_of_item blocks at item.line (used_name item.said) in
    let rest = item_faults blocks at (faults_from item.ordinal fs) items in
    elim (parted item.ordinal fs e) [
      | inl front ↦ any-left (is_error_of at) first (own ++ rest) (any-local at (faults_before item.ordinal fs) front)
      | inr later ↦ any-right (is_error_of at) first (own ++ rest)
          (any-right (is_error_of at) own rest (read-error blocks at (faults_from item.ordinal fs) items later))
    ]

uses-error : (blocks : List Reading) (at : ℕ) (fs : List ReadFault) (items : List ReadItem) (name : List ℕ) (code : Code) → Uses items name
    → use_fault blocks at name ≡ Some code
    → list_any (is_error_of at) (item_faults blocks at fs items) ≡ true
uses-error blocks at fs [] name code u e = absurd u
uses-error blocks at fs (item ∷ items) name code u e =
    let first = map (local_fault at) (faults_before item.ordinal fs) in
    let own = fault_of_item blocks at item.line (used_name item.said) in
    let rest = item_faults blocks at (faults_from item.ordinal fs) items in
    any-right (is_error_of at) first (own ++ rest) (elim u [
      | inl here ↦ any-left (is_error_of at) own rest
          (ap (λ (o : Option (List ℕ)). list_any (is_error_of at) (fault_of_item blocks at item.line o)) here ∙ use-error blocks at item.line name code e)
      | inr later ↦ any-right (is_error_of at) own rest (uses-error blocks at (faults_from item.ordinal fs) items name code later e)
    ])

-- ---- the faults of a block

kept-either : (fs : List ReadFault) → list_any (λ (f : ReadFault). is_error f.code) fs ≡ true
    → (list_any (λ (f : ReadFault). is_error f.code) (filter (is_kept true) fs) ≡ true)
    ⊎ (list_any (λ (f : ReadFault). is_error f.code) (filter (is_kept false) fs) ≡ true)
kept-either [] e = inl e
kept-either (f ∷ fs) e =
    let bad = λ (g : ReadFault). is_error g.code in
    let header = filter (is_kept true) fs in
    let others = filter (is_kept false) fs in
    elim (cases_Bool (is_of_header f.code)) [
      | inl of ↦
          let in_header = ap (λ (v : Bool). list_any bad (cond v (f ∷ header) header)) of in
          let in_others = ap (λ (v : Bool). list_any bad (cond (not v) (f ∷ others) others)) of in
          elim (or_cases (bad f) (list_any bad fs) e) [
            | inl here ↦ inl (in_header ∙ or-left (bad f) (list_any bad header) here)
            | inr later ↦ elim (kept-either fs later) [
              | inl one ↦ inl (in_header ∙ or-right (bad f) (list_any bad header) one)
              | inr other ↦ inr (in_others ∙ other)
            ]
          ]
      | inr of ↦
          let in_header = ap (λ (v : Bool). list_any bad (cond v (f ∷ header) header)) of in
          let in_others = ap (λ (v : Bool). list_any bad (cond (not v) (f ∷ others) others)) of in
          elim (or_cases (bad f) (list_any bad fs) e) [
            | inl here ↦ inr (in_others ∙ or-left (bad f) (list_any bad others) here)
            | inr later ↦ elim (kept-either fs later) [
              | inl one ↦ inl (in_header ∙ one)
              | inr other ↦ inr (in_others ∙ or-right (bad f) (list_any bad others) other)
            ]
          ]
    ]

-- the parts of the faults of a block
by-header : (blocks : List Reading) (at : ℕ) (block : Reading) → list_any (is_error_of at) (local_faults true at block.faults) ≡ true
    → list_any (is_error_of at) (block_faults blocks at block) ≡ true
by-header blocks at block e =
    any-left (is_error_of at) (local_faults true at block.faults)
    (name_faults blocks at block.names ++ (item_faults blocks at (filter (is_kept false) block.faults) block.items
    ++ entry_faults at block.names (state_of blocks block))) e

by-items : (blocks : List Reading) (at : ℕ) (block : Reading)
    → list_any (is_error_of at) (item_faults blocks at (filter (is_kept false) block.faults) block.items) ≡ true
    → list_any (is_error_of at) (block_faults blocks at block) ≡ true
by-items blocks at block e =
    let names = name_faults blocks at block.names in
    let items = item_faults blocks at (filter (is_kept false) block.faults) block.items in
    let last = entry_faults at block.names (state_of blocks block) in
    any-right (is_error_of at) (local_faults true at block.faults) (names ++ (items ++ last))
    (any-right (is_error_of at) names (items ++ last) (any-left (is_error_of at) items last e))

by-entry : (blocks : List Reading) (at : ℕ) (block : Reading) → state_of blocks block ≡ oversized
    → list_any (is_error_of at) (block_faults blocks at block) ≡ true
by-entry blocks at block e =
    let names = name_faults blocks at block.names in
    let items = item_faults blocks at (filter (is_kept false) block.faults) block.items in
    let last = entry_faults at block.names (state_of blocks block) in
    any-right (is_error_of at) (local_faults true at block.faults) (names ++ (items ++ last))
    (any-right (is_error_of at) names (items ++ last)
    (any-right (is_error_of at) items last
    (ap (λ (s : EntryState). list_any (is_error_of at) (entry_faults at block.names s)) e ∙ rw (eq-eqb at at refl) refl)))

broken-error : (blocks : List Reading) (at : ℕ) (block : Reading) → IsTrue (is_broken block) → list_any (is_error_of at) (block_faults blocks at block) ≡ true
broken-error blocks at block broken = elim (kept-either block.faults broken) [
  | inl header ↦ by-header blocks at block (any-local at (filter (is_kept true) block.faults) header)
  | inr other ↦ by-items blocks at block (read-error blocks at (filter (is_kept false) block.faults) block.items other)
]

with-use : (blocks : List Reading) (at : ℕ) (block : Reading) (name : List ℕ) (o : Option Code) → Uses block.items name → use_fault blocks at name ≡ o
    → IsSome o
    → list_any (is_error_of at) (block_faults blocks at block) ≡ true
with-use blocks at block name None u e some = absurd (false≢true some)
with-use blocks at block name (Some code) u e some =
    by-items blocks at block (uses-error blocks at (filter (is_kept false) block.faults) block.items name code u e)

-- ---- the block of a source

missed : (block : Reading) (o : Option (List Mention)) → option_and_then (entry_of block) o ≡ None → (is_some o ≡ false) ⊎ (state_with block o ≡ oversized)
missed block None e = inl refl
missed block (Some ms) e = elim (cases_Bool (is_too_large block ms)) [
  | inl large ↦ inr (ap (λ (v : Bool). cond v oversized (written (image_of block ms))) large)
  | inr small ↦ absurd (none-some (image_of block ms) (sym e ∙ ap (λ (v : Bool). cond v None (Some (image_of block ms))) small))
]

block-error : UnresolvedBlocksHaveACause → (blocks : List Reading) (at : ℕ) (block : Reading) → slice_get blocks at ≡ Some block → entry blocks block ≡ None
    → list_any (is_error_of at) (block_faults blocks at block) ≡ true
block-error law blocks at block here none = elim (missed block (expansion blocks block) none) [
  | inr large ↦ by-entry blocks at block large
  | inl lost ↦ elim ((law blocks at block here).0 lost) [
    | inl broken ↦ broken-error blocks at block broken
    | inr used ↦ with-use blocks at block used.0 (use_fault blocks at used.0) used.1 refl used.2
  ]
]

-- the faults of a block are among those of the source
among : (p : SourceFault → Bool) (blocks : List Reading) (start : ℕ) (rest : List Reading) (k at : ℕ) (block : Reading) → slice_get rest k ≡ Some block
    → start + k ≡ at
    → list_any p (block_faults blocks at block) ≡ true → list_any p (faults_after blocks start rest) ≡ true
among p blocks start [] k at block here same e = absurd (none-some block here)
among p blocks start (b ∷ rest) zero at block here same e =
    let first : start ≡ at = omega (arith, same) in
    any-left p (block_faults blocks start b) (faults_after blocks (suc start) rest) (rw (same_Some b block here, first) e)
among p blocks start (b ∷ rest) (suc k) at block here same e =
    any-right p (block_faults blocks start b) (faults_after blocks (suc start) rest) (among p blocks (suc start) rest k at block here (omega (arith, same)) e)

-- ---- an error of a block is one of its faults that leave it without an entry

any-either : {X : Type 0} (p : X → Bool) (xs ys : List X) → list_any p (xs ++ ys) ≡ true → (list_any p xs ≡ true) ⊎ (list_any p ys ≡ true)
any-either p [] ys e = inr e
any-either p (x ∷ xs) ys e = elim (or_cases (p x) (list_any p (xs ++ ys)) e) [
  | inl here ↦ inl (or-left (p x) (list_any p xs) here)
  | inr later ↦ elim (any-either p xs ys later) [
    | inl front ↦ inl (or-right (p x) (list_any p xs) front)
    | inr rest ↦ inr rest
  ]
]

missed-find : {X : Type 0} (p : X → Bool) (xs : List X) → IsSome (find p xs) → list_any p xs ≡ true
missed-find p [] e = e
missed-find p (x ∷ xs) e = elim (cases_Bool (p x)) [
  | inl here ↦ or-left (p x) (list_any p xs) here
  | inr not ↦ or-right (p x) (list_any p xs) (missed-find p xs (subst IsSome (ap (λ (v : Bool). cond v (Some x) (find p xs)) not) e))
]

own-local : (at s : ℕ) (fs : List ReadFault) → list_any (is_error_of at) (map (local_fault s) fs) ≡ true → (s ≡ at)
    × (list_any (λ (f : ReadFault). is_error f.code) fs ≡ true)
own-local at s [] e = absurd (false≢true e)
own-local at s (f ∷ fs) e = elim (or_cases (is_error_of at (local_fault s f)) (list_any (is_error_of at) (map (local_fault s) fs)) e) [
  | inl here ↦
      let both = and_parts (nat_eq s at) (is_error f.code) here in
      (eqb-true s at both.0, or-left (is_error f.code) (list_any (λ (g : ReadFault). is_error g.code) fs) both.1)
  | inr later ↦
      let rest = own-local at s fs later in
      (rest.0, or-right (is_error f.code) (list_any (λ (g : ReadFault). is_error g.code) fs) rest.1)
]

own-names : (at s : ℕ) (names : List (List ℕ)) → list_any (is_error_of at) (map (name_fault s) names) ≡ true → ⊥
own-names at s [] e = false≢true e
own-names at s (name ∷ names) e = elim (or_cases (is_error_of at (name_fault s name)) (list_any (is_error_of at) (map (name_fault s) names)) e) [
  | inl here ↦ false≢true (and_parts (nat_eq s at) false here).1
  | inr later ↦ own-names at s names later
]

own-use : (at s line : ℕ) (name : List ℕ) (o : Option Code) → list_any (is_error_of at) (fault_of_use s line name o) ≡ true → (s ≡ at) × IsSome o
own-use at s line name None e = absurd (false≢true e)
own-use at s line name (Some code) e = elim (or_cases (is_error_of at (record { block = s; line = line; code = code; detail = Some name })) false e) [
  | inl here ↦ (eqb-true s at (and_parts (nat_eq s at) (is_error code) here).0, refl)
  | inr later ↦ absurd (false≢true later)
]

own-item : (blocks : List Reading) (at s line : ℕ) (used : Option (List ℕ)) → list_any (is_error_of at) (fault_of_item blocks s line used) ≡ true
    → (s ≡ at) × ((name : List ℕ) × (used ≡ Some name) × IsSome (use_fault blocks s name))
own-item blocks at s line None e = absurd (false≢true e)
own-item blocks at s line (Some name) e =
    let found = own-use at s line name (use_fault blocks s name) e in
    (found.0, (name, refl, found.1))

of-before : (n : ℕ) (fs : List ReadFault) → list_any (λ (f : ReadFault). is_error f.code) (faults_before n fs) ≡ true
    → list_any (λ (f : ReadFault). is_error f.code) fs ≡ true
of-before n [] e = e
of-before n (f ∷ fs) e = elim (cases_Bool (nat_lt f.ordinal n)) [
  | inr behind ↦ absurd (false≢true (sym (ap (λ (v : Bool). list_any (λ (g : ReadFault). is_error g.code) (cond v (f ∷ faults_before n fs) [])) behind) ∙ e))
  | inl before ↦ elim (or_cases (is_error f.code) (list_any (λ (g : ReadFault). is_error g.code) (faults_before n fs))
      (sym (ap (λ (v : Bool). list_any (λ (g : ReadFault). is_error g.code) (cond v (f ∷ faults_before n fs) [])) before) ∙ e)) [
        | inl here ↦ or-left (is_error f.code) (list_any (λ (g : ReadFault). is_error g.code) fs) here
        | inr later ↦ or-right (is_error f.code) (list_any (λ (g : ReadFault). is_error g.code) fs) (of-before n fs later)
      ]
]

of-rest : (n : ℕ) (fs : List ReadFault) → list_any (λ (f : ReadFault). is_error f.code) (faults_from n fs) ≡ true
    → list_any (λ (f : ReadFault). is_error f.code) fs ≡ true
of-rest n [] e = e
of-rest n (f ∷ fs) e = elim (cases_Bool (nat_lt f.ordinal n)) [
  | inr behind ↦ sym (ap (λ (v : Bool). list_any (λ (g : ReadFault). is_error g.code) (cond v (faults_from n fs) (f ∷ fs))) behind) ∙ e
  | inl before ↦ or-right (is_error f.code) (list_any (λ (g : ReadFault). is_error g.code) fs)
      (of-rest n fs (sym (ap (λ (v : Bool). list_any (λ (g : ReadFault). is_error g.code) (cond v (faults_from n fs) (f ∷ fs))) before) ∙ e))
]

-- what the faults of items with an error come from
abbrev ItemsLack : List Reading → ℕ → List ReadFault → List ReadItem → Type 0
ItemsLack blocks at fs items =
    (list_any (λ (f : ReadFault). is_error f.code) fs ≡ true) ⊎ ((name : List ℕ) × Uses items name × IsSome (use_fault blocks at name))

own-items : (blocks : List Reading) (at s : ℕ) (fs : List ReadFault) (items : List ReadItem) → list_any (is_error_of at) (item_faults blocks s fs items) ≡ true
    → (s ≡ at) × ItemsLack blocks s fs items
own-items blocks at s fs [] e = let local = own-local at s fs e in (local.0, inl local.1)
own-items blocks at s fs (item ∷ items) e =
    let first = map (local_fault s) (faults_before item.ordinal fs) in
    let own = fault_of_item blocks s item.line (used_name item.said) in
    let rest = item_faults blocks s (faults_from item.ordinal fs) items in
    elim (any-either (is_error_of at) first (own ++ rest) e) [
      | inl front ↦
          let local = own-local at s (faults_before item.ordinal fs) front in
          (local.0, inl (of-before item.ordinal fs local.1))
      | inr later ↦ elim (any-either (is_error_of at) own rest later) [
        | inl here ↦
            let used = own-item blocks at s item.line (used_name item.said) here in
            (used.0, inr (used.1.0, inl used.1.1, used.1.2))
        | inr behind ↦
            let more = own-items blocks at s (faults_from item.ordinal fs) items behind in (
              more.0,
              elim more.1 [
                | inl local ↦ inl (of-rest item.ordinal fs local)
                | inr used ↦ inr (used.0, inr used.1, used.2)
              ],
            )
      ]
    ]

own-entry : (at s : ℕ) (names : List (List ℕ)) (state : EntryState) → list_any (is_error_of at) (entry_faults s names state) ≡ true → (s ≡ at)
    × (state ≡ oversized)
own-entry at s names unresolved e = absurd (false≢true e)
own-entry at s names oversized e = elim (or_cases (is_error_of at (record { block = s; line = 1; code = TooLarge; detail = slice_get names 0 })) false e) [
  | inl here ↦ (eqb-true s at (and_parts (nat_eq s at) true here).0, refl)
  | inr later ↦ absurd (false≢true later)
]
own-entry at s names (written bytes) e = absurd (false≢true e)

-- what leaves the block at a position without an entry
abbrev Lacks : List Reading → ℕ → Reading → Type 0
Lacks blocks at block = (IsTrue (is_broken block) ⊎ HasUseAtFault blocks at block) ⊎ (state_of blocks block ≡ oversized)

of-kept : (of_header : Bool) (fs : List ReadFault) → list_any (λ (f : ReadFault). is_error f.code) (filter (is_kept of_header) fs) ≡ true
    → list_any (λ (f : ReadFault). is_error f.code) fs ≡ true
of-kept of_header [] e = e
of-kept of_header (f ∷ fs) e = elim (cases_Bool (is_kept of_header f)) [
  | inl kept ↦ elim (or_cases (is_error f.code) (list_any (λ (g : ReadFault). is_error g.code) (filter (is_kept of_header) fs))
      (sym (ap (λ (v : Bool). list_any (λ (g : ReadFault). is_error g.code) (cond v (f ∷ filter (is_kept of_header) fs) (filter (is_kept of_header) fs)))
      kept) ∙ e)) [
        | inl here ↦ or-left (is_error f.code) (list_any (λ (g : ReadFault). is_error g.code) fs) here
        | inr later ↦ or-right (is_error f.code) (list_any (λ (g : ReadFault). is_error g.code) fs) (of-kept of_header fs later)
      ]
  | inr left ↦ or-right (is_error f.code) (list_any (λ (g : ReadFault). is_error g.code) fs)
      (of-kept of_header fs (sym (ap (λ (v : Bool). list_any (λ (g : ReadFault). is_error g.code)
      (cond v (f ∷ filter (is_kept of_header) fs) (filter (is_kept of_header) fs))) left) ∙ e))
]

own-block : (blocks : List Reading) (at s : ℕ) (block : Reading) → list_any (is_error_of at) (block_faults blocks s block) ≡ true → (s ≡ at)
    × Lacks blocks s block
own-block blocks at s block e =
    let header = local_faults true s block.faults in
    let names = name_faults blocks s block.names in
    let items = item_faults blocks s (filter (is_kept false) block.faults) block.items in
    let last = entry_faults s block.names (state_of blocks block) in
    elim (any-either (is_error_of at) header (names ++ (items ++ last)) e) [
      | inl front ↦
          let local = own-local at s (filter (is_kept true) block.faults) front in
          (local.0, inl (inl (of-kept true block.faults local.1)))
      | inr behind ↦ elim (any-either (is_error_of at) names (items ++ last) behind) [
        | inl duplicate ↦ absurd (own-names at s (filter (is_owned_before blocks s) (distinct block.names)) duplicate)
        | inr later ↦ elim (any-either (is_error_of at) items last later) [
          | inl item ↦
              let found = own-items blocks at s (filter (is_kept false) block.faults) block.items item in (
                found.0,
                elim found.1 [
                  | inl local ↦ inl (inl (of-kept false block.faults local))
                  | inr used ↦ inl (inr used)
                ],
              )
          | inr large ↦
              let found = own-entry at s block.names (state_of blocks block) large in
              (found.0, inr found.1)
        ]
      ]
    ]

own-source : (blocks : List Reading) (at start : ℕ) (rest : List Reading) → list_any (is_error_of at) (faults_after blocks start rest) ≡ true
    → (k : ℕ) × (block : Reading) × (slice_get rest k ≡ Some block) × (start + k ≡ at) × Lacks blocks at block
own-source blocks at start [] e = absurd (false≢true e)
own-source blocks at start (b ∷ rest) e = elim (any-either (is_error_of at) (block_faults blocks start b) (faults_after blocks (suc start) rest) e) [
  | inl here ↦
      let own = own-block blocks at start b here in
      (0, b, refl, omega (arith, own.0), subst (λ (n : ℕ). Lacks blocks n b) own.0 own.1)
  | inr later ↦
      let more = own-source blocks at (suc start) rest later in
      (suc more.0, more.1, more.2, omega (arith, more.3), more.4)
]

abbrev is_whole : EntryState → Bool
is_whole unresolved = false
is_whole oversized = false
is_whole (written bytes) = true

none-large : (block : Reading) (o : Option (List Mention)) → state_with block o ≡ oversized → option_and_then (entry_of block) o ≡ None
none-large block None e = refl
none-large block (Some ms) e = elim (cases_Bool (is_too_large block ms)) [
  | inl large ↦ ap (λ (v : Bool). cond v None (Some (image_of block ms))) large
  | inr small ↦ absurd (false≢true (sym (ap is_whole e) ∙ ap (λ (v : Bool). is_whole (cond v oversized (written (image_of block ms)))) small))
]

none-lost : (block : Reading) (o : Option (List Mention)) → is_some o ≡ false → option_and_then (entry_of block) o ≡ None
none-lost block None e = refl
none-lost block (Some ms) e = absurd (false≢true (sym e))

lacking : UnresolvedBlocksHaveACause → (blocks : List Reading) (at : ℕ) (block : Reading) → slice_get blocks at ≡ Some block → Lacks blocks at block
    → entry blocks block ≡ None
lacking law blocks at block here (inl lost) = none-lost block (expansion blocks block) ((law blocks at block here).1 lost)
lacking law blocks at block here (inr large) = none-large block (expansion blocks block) large

error-lacks : UnresolvedBlocksHaveACause → (blocks : List Reading) (at : ℕ) (block : Reading) → slice_get blocks at ≡ Some block
    → IsSome (cause_of blocks at) → entry blocks block ≡ None
error-lacks law blocks at block here some =
    let found = own-source blocks at 0 blocks (missed-find (is_error_of at) (faults blocks) some) in
    let place : found.0 ≡ at = omega (arith, found.3) in
    let same = same_Some found.1 block (sym found.2 ∙ ap (slice_get blocks) place ∙ here) in
    lacking law blocks at block here (subst (λ (b : Reading). Lacks blocks at b) same found.4)

pub missing_entries_have_a_cause : UnresolvedBlocksHaveACause → MissingEntriesHaveACause
missing_entries_have_a_cause law blocks at block here = (
  λ none. found (is_error_of at) (faults blocks) (among (is_error_of at) blocks 0 blocks at at block here (omega arith)
      (block-error law blocks at block here none)),
  error-lacks law blocks at block here,
)
