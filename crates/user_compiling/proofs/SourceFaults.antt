-- The faults of a block and of a source, put together.
use Rattle.std.proofs.Common.{◌≡◌, ℕ, zero, suc, ◌+◌, ◌-◌, ◌<◌, ◌≤◌, Bool, true, false, ◌&&◌, cond, nat_eq, List, [], ◌∷◌, ◌++◌, map, filter, length}
use Rattle.std.proofs.Common.{length-append, take, drop, get_or, Option, Some, None, is_some, slice_get, refl, sym, ap, ◌∙◌, arith, append_assoc}
use Rattle.std.specs.Prelude.{All, is_none, option_and_then}
use Rattle.std.specs.List.{take-map, drop-map}
use Rattle.std.proofs.lemmas.List.{append-nil, drop_all, length-map}
use Rattle.ti_base.proofs.Lists.{drop_get}
use Rattle.std.proofs.lemmas.List.Elements.{All-nil, All-cons, All-head, All-tail, All-append, All-map}
use Rattle.user_values.proofs.Making.{read_by_text}
use Rattle.ti_source.specs.declared.code.Code.{Code}
use Rattle.ti_source.specs.declared.code.Code.TheVariants as code
use Rattle.ti_source.specs.declared.parsing.Rule.{Rule}
use Rattle.ti_source.specs.Reading.{Reading, ReadFault, ReadItem}
use Rattle.ti_source.specs.Parsing.{reading_of_text}
use Rattle.ti_layout.specs.Values.{Contents, Mention}
use Rattle.base_meaning.specs.Readings.{reading_by, readings_by}
use Rattle.base_meaning.proofs.Ruling.{read_by}
use Rattle.base_meaning.specs.Reaching.{used_name}
use Rattle.base_meaning.specs.Expansion.{expansion}
use Rattle.base_meaning.specs.Usable.{IsPlaced}
use Rattle.base_meaning.specs.ValueTables.{HasTable}
use Rattle.base_meaning.specs.Compiled.{EntryState, unresolved, oversized, written, state_of, state_with, entry, entry_of, is_too_large, image_of, compiled_by}
use Rattle.base_meaning.specs.Faults.{SourceFault, local_fault, local_faults, is_kept, name_fault, name_faults, is_owned_before, distinct, use_fault}
use Rattle.base_meaning.specs.Faults.{fault_of_use, fault_of_item, faults_before, faults_from, item_faults, entry_faults, block_faults, faults_after}
use Rattle.user_items.specs.declared.reading.UserCode.{UserCode}
use Rattle.user_items.specs.declared.reading.UserCode.TheVariants as user
use Rattle.user_compiling.specs.Faults.{ExtendedSourceFault, of_profile, bad_user_defined, with_code, in_place, bad_at, is_user_warning}
use Rattle.user_compiling.specs.Faults.{extended_block_faults, extended_faults_after}
use Rattle.user_compiling.specs.Report.{IsExtendedPlaced}
use Rattle.user_compiling.specs.inside.Pairs.{replaced, head_code, tail_codes, front_faults, count_at}

-- ---- the faults of a block before that of its entry

pub in_two : (blocks : List Reading) (at : ℕ) (b : Reading) → block_faults blocks at b ≡ front_faults blocks at b ++ entry_faults at b.names (state_of blocks b)
in_two blocks at b =
    let items = item_faults blocks at (filter (is_kept false) b.faults) b.items in
    let names = name_faults blocks at b.names in
    let last = entry_faults at b.names (state_of blocks b) in
    sym (append_assoc (local_faults true at b.faults) (names ++ items) last ∙ ap (λ xs. local_faults true at b.faults ++ xs) (append_assoc names items last))

pub in_two_by : (rule : Rule) (blocks : List Reading) (at : ℕ) (text : List ℕ) → block_faults blocks at (reading_by rule text)
    ≡ front_faults blocks at (reading_of_text text) ++ entry_faults at (reading_of_text text).names (state_of blocks (reading_by rule text))
in_two_by rule blocks at text =
    in_two blocks at (reading_by rule text)
    ∙ ap (λ (b : Reading). front_faults blocks at b ++ entry_faults at b.names (state_of blocks (reading_by rule text))) (read_by rule text)

take_front : {X : Type 0} (xs ys : List X) → take (length xs) (xs ++ ys) ≡ xs
take_front [] ys = refl
take_front (x ∷ xs) ys = ap (λ zs. x ∷ zs) (take_front xs ys)

drop_front : {X : Type 0} (xs ys : List X) → drop (length xs) (xs ++ ys) ≡ ys
drop_front [] ys = refl
drop_front (x ∷ xs) ys = drop_front xs ys

-- as many as come before the last
pub front_taken : {X : Type 0} (f : X → SourceFault) (xs : List X) (front last : List SourceFault) (n : ℕ) → map f xs ≡ front ++ last
    → n + length last ≡ length xs → map f (take n xs) ≡ front
front_taken f xs front last n e l =
    let many : length xs ≡ length front + length last = sym (length-map xs f) ∙ ap (λ ys. length ys) e ∙ length-append front last in
    let same : n ≡ length front = omega (arith, l, many) in
    sym (take-map f n xs) ∙ ap (take n) e ∙ ap (λ k. take k (front ++ last)) same ∙ take_front front last

-- all but the last one, where one follows
pub front_but_one : {X : Type 0} (f : X → SourceFault) (xs : List X) (front last : List SourceFault) (n : ℕ) → map f xs ≡ front ++ last → length last ≡ 1
    → n ≡ length xs - 1 → map f (take n xs) ≡ front
front_but_one f xs front last n e one l =
    let many : length xs ≡ length front + length last = sym (length-map xs f) ∙ ap (λ ys. length ys) e ∙ length-append front last in
    front_taken f xs front last n e (omega (arith, l, many, one))

-- the fault of an entry, by the values and the entry of its block
entry_count_by : (at : ℕ) (names : List (List ℕ)) (b : Reading) (ms : Option (List Mention)) (some : Bool) → is_some ms ≡ some
    → length (entry_faults at names (state_with b ms)) ≡ cond (some && is_none (option_and_then (entry_of b) ms)) 1 0
entry_count_by at names b None some e = rw (← e) refl
entry_count_by at names b (Some ms) some e = rw (← e) (chosen (is_too_large b ms) (image_of b ms)) where
  chosen : (v : Bool) (i : List ℕ) → length (entry_faults at names (cond v oversized (written i))) ≡ cond (is_none (cond v None (Some i))) 1 0
  chosen true i = refl
  chosen false i = refl

some_of_table : {T : Type 0} (f : T → Contents) (blocks : List Reading) (b : Reading) (t : Option T) → HasTable f blocks b t
    → is_some (expansion blocks b) ≡ is_some t
some_of_table f blocks b None h = ap is_some h
some_of_table f blocks b (Some t) h = ap is_some h.1

pub entry_count : {T : Type 0} (f : T → Contents) (rule : Rule) (texts : List (List ℕ)) (at : ℕ) (text : List ℕ) (t : Option T) (o : Option (List ℕ))
    → slice_get texts at ≡ Some text
    → HasTable f (readings_by rule texts) (reading_by rule text) t → o ≡ compiled_by rule texts at
    → length (entry_faults at (reading_of_text text).names (state_of (readings_by rule texts) (reading_by rule text))) ≡ cond (is_some t && is_none o) 1 0
entry_count f rule texts at text t o stands h e =
    let blocks = readings_by rule texts in
    let b = reading_by rule text in
    let there : slice_get blocks at ≡ Some b = read_by_text rule texts at text stands in
    let here : compiled_by rule texts at ≡ option_and_then (entry_of b) (expansion blocks b) = ap (option_and_then (entry blocks)) there in
    entry_count_by at (reading_of_text text).names b (expansion blocks b) (is_some t) (some_of_table f blocks b t h)
    ∙ ap (λ q. cond (is_some t && is_none q) 1 0) (sym (e ∙ here))

-- a block that has an entry has no fault of it
pub entry_none : (rule : Rule) (texts : List (List ℕ)) (at : ℕ) (text bytes : List ℕ) → slice_get texts at ≡ Some text
    → Some bytes ≡ compiled_by rule texts at
    → length (entry_faults at (reading_of_text text).names (state_of (readings_by rule texts) (reading_by rule text))) ≡ 0
entry_none rule texts at text bytes stands e =
    let blocks = readings_by rule texts in
    let b = reading_by rule text in
    let there : slice_get blocks at ≡ Some b = read_by_text rule texts at text stands in
    let here : compiled_by rule texts at ≡ option_and_then (entry_of b) (expansion blocks b) = ap (option_and_then (entry blocks)) there in
    entry_count_by at (reading_of_text text).names b (expansion blocks b) (is_some (expansion blocks b)) refl
    ∙ ap (λ o. cond (is_some (expansion blocks b) && is_none o) 1 0) (sym (e ∙ here)) ∙ neither (is_some (expansion blocks b)) where
      neither : (v : Bool) → ◌≡◌ {A = ℕ} (cond (v && false) 1 0) 0
      neither true = refl
      neither false = refl

-- one that has none has a fault of it if it resolves
pub entry_one : {T : Type 0} (f : T → Contents) (rule : Rule) (texts : List (List ℕ)) (at : ℕ) (text : List ℕ) (t : Option T) → slice_get texts at ≡ Some text
    → HasTable f (readings_by rule texts) (reading_by rule text) t → None ≡ compiled_by rule texts at
    → length (entry_faults at (reading_of_text text).names (state_of (readings_by rule texts) (reading_by rule text))) ≡ cond (is_some t) 1 0
entry_one f rule texts at text t stands h e = entry_count f rule texts at text t None stands h e ∙ both (is_some t) where
  both : (v : Bool) → ◌≡◌ {A = ℕ} (cond (v && true) 1 0) (cond v 1 0)
  both true = refl
  both false = refl

-- ---- the loop over the faults of the profile

-- a warning is exchanged
pub one_replaced : (f : SourceFault) (fs : List SourceFault) (cs : List (Option UserCode)) (c : Option UserCode) (old new whole : List ExtendedSourceFault)
    → is_user_warning f ≡ true → c ≡ head_code cs
    → old ++ replaced (f ∷ fs) cs ≡ whole → new ≡ old ++ in_place f c → new ++ replaced fs (tail_codes cs) ≡ whole
one_replaced f fs cs c old new whole t e h n =
    ap (λ xs. xs ++ replaced fs (tail_codes cs)) (n ∙ ap (λ d. old ++ in_place f d) e)
    ∙ append_assoc old (in_place f (head_code cs)) (replaced fs (tail_codes cs))
    ∙ ap (λ b. old ++ cond b (in_place f (head_code cs) ++ replaced fs (tail_codes cs)) (of_profile f ∷ replaced fs cs)) (sym t) ∙ h

-- another fault stays
pub one_kept : (f : SourceFault) (fs : List SourceFault) (cs : List (Option UserCode)) (old new whole : List ExtendedSourceFault) → is_user_warning f ≡ false
    → old ++ replaced (f ∷ fs) cs ≡ whole → new ≡ old ++ of_profile f ∷ [] → new ++ replaced fs cs ≡ whole
one_kept f fs cs old new whole t h n =
    ap (λ xs. xs ++ replaced fs cs) n ∙ append_assoc old (of_profile f ∷ []) (replaced fs cs)
    ∙ ap (λ b. old ++ cond b (in_place f (head_code cs) ++ replaced fs (tail_codes cs)) (of_profile f ∷ replaced fs cs)) (sym t) ∙ h

tail_of_next : (n : ℕ) (cs : List (Option UserCode)) → tail_codes (drop n cs) ≡ drop (suc n) cs
tail_of_next zero [] = refl
tail_of_next zero (c ∷ cs) = refl
tail_of_next (suc n) [] = refl
tail_of_next (suc n) (c ∷ cs) = tail_of_next n cs

one_more : (n : ℕ) → suc n ≡ n + 1
one_more n = omega arith

pub tail_of_drop : (n : ℕ) (cs : List (Option UserCode)) → tail_codes (drop n cs) ≡ drop (n + 1) cs
tail_of_drop n cs = tail_of_next n cs ∙ ap (λ (k : ℕ). drop k cs) (one_more n)

-- ---- a block

pub four_added : (old one new h n i e : List ExtendedSourceFault) → one ≡ old ++ (h ++ (n ++ i)) → new ≡ one ++ e → new ≡ old ++ (h ++ (n ++ (i ++ e)))
four_added old one new h n i e a b = rw (b, a) (simp append_assoc)

-- ---- where the faults are

abbrev IsAt : ℕ → SourceFault → Type 0
IsAt at f = f.block ≡ at

use_at : (at line : ℕ) (name : List ℕ) (o : Option Code) → All (IsAt at) (fault_of_use at line name o)
use_at at line name None = All-nil (IsAt at)
use_at at line name (Some c) = All-cons (IsAt at) (record { block = at; line = line; code = c; detail = Some name }) [] refl (All-nil (IsAt at))

item_use_at : (blocks : List Reading) (at line : ℕ) (used : Option (List ℕ)) → All (IsAt at) (fault_of_item blocks at line used)
item_use_at blocks at line None = All-nil (IsAt at)
item_use_at blocks at line (Some name) = use_at at line name (use_fault blocks at name)

locals_at : (at : ℕ) (fs : List ReadFault) → All (IsAt at) (map (local_fault at) fs)
locals_at at fs = All-map (IsAt at) (local_fault at) fs (λ k d l. refl)

items_at : (blocks : List Reading) (at : ℕ) (fs : List ReadFault) (items : List ReadItem) → All (IsAt at) (item_faults blocks at fs items)
items_at blocks at fs [] = locals_at at fs
items_at blocks at fs (item ∷ items) =
    All-append (IsAt at) (map (local_fault at) (faults_before item.ordinal fs))
    (fault_of_item blocks at item.line (used_name item.said) ++ item_faults blocks at (faults_from item.ordinal fs) items)
    (locals_at at (faults_before item.ordinal fs))
    (All-append (IsAt at) (fault_of_item blocks at item.line (used_name item.said)) (item_faults blocks at (faults_from item.ordinal fs) items)
    (item_use_at blocks at item.line (used_name item.said)) (items_at blocks at (faults_from item.ordinal fs) items))

entry_at : (at : ℕ) (names : List (List ℕ)) (s : EntryState) → All (IsAt at) (entry_faults at names s)
entry_at at names unresolved = All-nil (IsAt at)
entry_at at names oversized = All-cons (IsAt at) (record { block = at; line = 1; code = code.TooLarge; detail = slice_get names 0 }) [] refl (All-nil (IsAt at))
entry_at at names (written bytes) = All-nil (IsAt at)

block_at : (blocks : List Reading) (at : ℕ) (b : Reading) → All (IsAt at) (block_faults blocks at b)
block_at blocks at b =
    let items = item_faults blocks at (filter (is_kept false) b.faults) b.items in
    let last = entry_faults at b.names (state_of blocks b) in
    All-append (IsAt at) (local_faults true at b.faults) (name_faults blocks at b.names ++ (items ++ last)) (locals_at at (filter (is_kept true) b.faults))
    (All-append (IsAt at) (name_faults blocks at b.names) (items ++ last)
    (All-map (IsAt at) (name_fault at) (filter (is_owned_before blocks at) (distinct b.names)) (λ k d l. refl))
    (All-append (IsAt at) items last (items_at blocks at (filter (is_kept false) b.faults) b.items) (entry_at at b.names (state_of blocks b))))

-- the faults of the blocks from a position on
abbrev IsFrom : ℕ → SourceFault → Type 0
IsFrom at f = at ≤ f.block

weaker : {X : Type 0} (P Q : X → Type 0) → ((x : X) → P x → Q x) → (xs : List X) → All P xs → All Q xs
weaker P Q h xs all = λ k d l. h (get_or xs k d) (all k d l)

after_from : (blocks : List Reading) (at : ℕ) (rest : List Reading) → All (IsFrom at) (faults_after blocks at rest)
after_from blocks at [] = All-nil (IsFrom at)
after_from blocks at (b ∷ rest) =
    All-append (IsFrom at) (block_faults blocks at b) (faults_after blocks (suc at) rest)
    (weaker (IsAt at) (IsFrom at) (λ f e. omega (arith, e)) (block_faults blocks at b) (block_at blocks at b))
    (weaker (IsFrom (suc at)) (IsFrom at) (λ f l. omega (arith, l)) (faults_after blocks (suc at) rest) (after_from blocks (suc at) rest))

count_none : (at : ℕ) (fs : List SourceFault) → All (IsFrom (suc at)) fs → count_at at fs ≡ 0
count_none at [] all = refl
count_none at (f ∷ fs) all =
    let later = All-head (IsFrom (suc at)) f fs all in
    let other : nat_eq f.block at ≡ false = grind (arith, later) in
    ap (λ b. cond b (suc (count_at at fs)) 0) other

count_front : (at : ℕ) (xs ys : List SourceFault) → All (IsAt at) xs → All (IsFrom (suc at)) ys → count_at at (xs ++ ys) ≡ length xs
count_front at [] ys a b = count_none at ys b
count_front at (x ∷ xs) ys a b =
    let here = All-head (IsAt at) x xs a in
    let same : nat_eq x.block at ≡ true = grind (arith, here) in
    ap (λ v. cond v (suc (count_at at (xs ++ ys))) 0) same ∙ ap suc (count_front at xs ys (All-tail (IsAt at) x xs a) b)

-- the faults of a block are as many as stand at the front
pub count_of_block : (blocks : List Reading) (at : ℕ) (b : Reading) (rest : List Reading)
    → count_at at (block_faults blocks at b ++ faults_after blocks (suc at) rest) ≡ length (block_faults blocks at b)
count_of_block blocks at b rest =
    count_front at (block_faults blocks at b) (faults_after blocks (suc at) rest) (block_at blocks at b) (after_from blocks (suc at) rest)

-- the part of a list that is mapped to the front of two, and what follows it
pub part_front : {X : Type 0} (f : X → SourceFault) (xs : List X) (ys zs : List SourceFault) → map f xs ≡ ys ++ zs → map f (take (length ys) xs) ≡ ys
part_front f xs ys zs e = sym (take-map f (length ys) xs) ∙ ap (take (length ys)) e ∙ take_front ys zs

pub part_back : {X : Type 0} (f : X → SourceFault) (xs : List X) (ys zs : List SourceFault) → map f xs ≡ ys ++ zs → map f (drop (length ys) xs) ≡ zs
part_back f xs ys zs e = sym (drop-map f (length ys) xs) ∙ ap (drop (length ys)) e ∙ drop_front ys zs

-- ---- on which lines they are

abbrev Placed : ℕ → SourceFault → Type 0
Placed n f = IsPlaced n f

pub all_left : {X : Type 0} (P : X → Type 0) (xs ys : List X) → All P (xs ++ ys) → All P xs
all_left P [] ys a = All-nil P
all_left P (x ∷ xs) ys a = All-cons P x xs (All-head P x (xs ++ ys) a) (all_left P xs ys (All-tail P x (xs ++ ys) a))

pub all_right : {X : Type 0} (P : X → Type 0) (xs ys : List X) → All P (xs ++ ys) → All P ys
all_right P [] ys a = a
all_right P (x ∷ xs) ys a = all_right P xs ys (All-tail P x (xs ++ ys) a)

placed_bad : (n : ℕ) (f : SourceFault) (d : Option (List ℕ)) → IsPlaced n f → All (IsExtendedPlaced n) (bad_at f d)
placed_bad n f None p = All-nil (IsExtendedPlaced n)
placed_bad n f (Some name) p = All-cons (IsExtendedPlaced n) (bad_user_defined f.block f.line name) [] p (All-nil (IsExtendedPlaced n))

placed_in_place : (n : ℕ) (f : SourceFault) (c : Option UserCode) → IsPlaced n f → All (IsExtendedPlaced n) (in_place f c)
placed_in_place n f None p = All-nil (IsExtendedPlaced n)
placed_in_place n f (Some user.UnknownEscape) p =
    All-cons (IsExtendedPlaced n) (of_profile (with_code f code.UnknownEscape)) [] p (All-nil (IsExtendedPlaced n))
placed_in_place n f (Some user.BadUserDefined) p = placed_bad n f f.detail p

pub placed_replaced : (n : ℕ) (fs : List SourceFault) (cs : List (Option UserCode)) → All (IsPlaced n) fs → All (IsExtendedPlaced n) (replaced fs cs)
placed_replaced n [] cs a = All-nil (IsExtendedPlaced n)
placed_replaced n (f ∷ fs) cs a =
    let here = All-head (IsPlaced n) f fs a in
    let rest = All-tail (IsPlaced n) f fs a in
    elim (is_user_warning f) as (λ b. All (IsExtendedPlaced n)
    (cond b (in_place f (head_code cs) ++ replaced fs (tail_codes cs)) (of_profile f ∷ replaced fs cs))) [
      | true ↦ All-append (IsExtendedPlaced n) (in_place f (head_code cs)) (replaced fs (tail_codes cs)) (placed_in_place n f (head_code cs) here)
          (placed_replaced n fs (tail_codes cs) rest)
      | false ↦ All-cons (IsExtendedPlaced n) (of_profile f) (replaced fs cs) here (placed_replaced n fs cs rest)
    ]

pub placed_entry : (n at : ℕ) (names : List (List ℕ)) (s : EntryState) → at < n → All (IsExtendedPlaced n) (map of_profile (entry_faults at names s))
placed_entry n at names unresolved l = All-nil (IsExtendedPlaced n)
placed_entry n at names oversized l =
    All-cons (IsExtendedPlaced n) (of_profile (record { block = at; line = 1; code = code.TooLarge; detail = slice_get names 0 })) []
    (l, (omega arith, omega arith)) (All-nil (IsExtendedPlaced n))
placed_entry n at names (written bytes) l = All-nil (IsExtendedPlaced n)

-- ---- block by block

next_is : (at : ℕ) → at + 1 ≡ suc at
next_is at = omega arith

-- one more block has its faults
pub one_block_more : (rule : Rule) (texts : List (List ℕ)) (states : List EntryState) (at : ℕ) (text : List ℕ) (state : EntryState)
    (old new whole : List ExtendedSourceFault) → slice_get texts at ≡ Some text → slice_get states at ≡ Some state
    → old ++ extended_faults_after (readings_by rule texts) at (drop at texts) (drop at states) ≡ whole
    → new ≡ old ++ extended_block_faults (readings_by rule texts) at text state
    → new ++ extended_faults_after (readings_by rule texts) (at + 1) (drop (at + 1) texts) (drop (at + 1) states) ≡ whole
one_block_more rule texts states at text state old new whole s t h n =
    let blocks = readings_by rule texts in
    let here = extended_block_faults blocks at text state in
    let later = extended_faults_after blocks (at + 1) (drop (at + 1) texts) (drop (at + 1) states) in
    ap (λ xs. xs ++ later) n ∙ append_assoc old here later
    ∙ ap (λ (k : ℕ). old ++ (here ++ extended_faults_after blocks k (drop (at + 1) texts) (drop (at + 1) states))) (next_is at)
    ∙ ap (λ xs. old ++ extended_faults_after blocks at xs (state ∷ drop (at + 1) states)) (sym (drop_get texts at text s))
    ∙ ap (λ ss. old ++ extended_faults_after blocks at (drop at texts) ss) (sym (drop_get states at state t)) ∙ h

-- the faults of the profile that are left, in those of the next block and the others
pub left_in_two : (rule : Rule) (texts : List (List ℕ)) (at : ℕ) (text : List ℕ) (left : List SourceFault) → slice_get texts at ≡ Some text
    → left ≡ faults_after (readings_by rule texts) at (drop at (readings_by rule texts))
    → left ≡ block_faults (readings_by rule texts) at (reading_by rule text)
    ++ faults_after (readings_by rule texts) (suc at) (drop (at + 1) (readings_by rule texts))
left_in_two rule texts at text left s e =
    let blocks = readings_by rule texts in
    e ∙ ap (faults_after blocks at) (drop_get blocks at (reading_by rule text) (read_by_text rule texts at text s))

pub left_more : (rule : Rule) (texts : List (List ℕ)) (at : ℕ) (left : List SourceFault)
    → left ≡ faults_after (readings_by rule texts) (suc at) (drop (at + 1) (readings_by rule texts))
    → left ≡ faults_after (readings_by rule texts) (at + 1) (drop (at + 1) (readings_by rule texts))
left_more rule texts at left e =
    e ∙ ap (λ (k : ℕ). faults_after (readings_by rule texts) k (drop (at + 1) (readings_by rule texts))) (sym (next_is at))

pub none_left : (blocks : List Reading) (at : ℕ) (texts : List (List ℕ)) (states : List EntryState) (all whole : List ExtendedSourceFault)
    → length texts ≤ at → all ++ extended_faults_after blocks at (drop at texts) (drop at states) ≡ whole → all ≡ whole
none_left blocks at texts states all whole l e =
    sym (append-nil all) ∙ ap (λ xs. all ++ extended_faults_after blocks at xs (drop at states)) (sym (drop_all at texts l)) ∙ e

-- the fault of an entry was added
pub entry_added : (at : ℕ) (names : List (List ℕ)) (d : Option (List ℕ)) (old new : List ExtendedSourceFault) → d ≡ slice_get names 0
    → new ≡ old ++ of_profile (record { block = at; line = 1; code = code.TooLarge; detail = d }) ∷ []
    → new ≡ old ++ map of_profile (entry_faults at names oversized)
entry_added at names d old new e n =
    n ∙ ap (λ (o : Option (List ℕ)). old ++ of_profile (record { block = at; line = 1; code = code.TooLarge; detail = o }) ∷ []) e
