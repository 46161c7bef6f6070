-- Each warning is paired with what is wrong with its item.
use Rattle.std.proofs.Common.{◌≡◌, ℕ, zero, suc, ◌+◌, ◌<◌, ◌≤◌, Bool, true, false, ◌&&◌, ◌||◌, cond, nat_eq, nat_lt, List, [], ◌∷◌, ◌++◌, map, filter, drop}
use Rattle.std.proofs.Common.{length, get_or, Option, Some, None, refl, sym, ap, ◌∙◌, arith, inl, inr, append_assoc}
use Rattle.std.specs.Prelude.{not}
use Rattle.std.specs.List.{flat_map, list_any}
use Rattle.std.proofs.lemmas.Bool.{cases_Bool, false≢true}
use Rattle.std.proofs.lemmas.List.{map-append}
use Rattle.std.proofs.lemmas.Option.{same_Some, none-some}
use Rattle.ti_source.specs.declared.code.Code.{Code}
use Rattle.ti_source.specs.declared.code.Code.TheVariants as code
use Rattle.ti_source.specs.Code.{is_of_header}
use Rattle.ti_source.specs.Reading.{Reading, ReadFault, ReadItem}
use Rattle.ti_source.specs.Parsing.{reading_of_text}
use Rattle.ti_source.specs.Walking.{block_items}
use Rattle.base_meaning.specs.Owner.{owner_block}
use Rattle.base_meaning.specs.Expansion.{resolves}
use Rattle.base_meaning.specs.Reaching.{used_name, leads_to}
use Rattle.base_meaning.specs.Faults.{SourceFault, local_fault, local_faults, is_kept, name_fault, name_faults, is_owned_before, distinct}
use Rattle.base_meaning.specs.Faults.{fault_between, fault_of_use, fault_of_item, faults_before, faults_from, item_faults}
use Rattle.base_meaning.specs.Laws.{fault_with_ordinal, numbered_faults, ItemFaultsAreInOrder}
use Rattle.user_items.specs.Names.{is_user_defined_name}
use Rattle.user_items.specs.Verdicts.{UserVerdict, user_accepted, user_odd, user_refused, says, imports}
use Rattle.user_items.specs.Laws.{NamedPlace, WarningsAreOfDefiningItems, is_local_warning, is_unknown, is_warning_with, warning_of, user_warning, places_at, places_from}
use Rattle.user_items.specs.Reading.{ReadUserFault, UserJudged, fault_with, faults_at, faults_from as user_faults_from}
use Rattle.user_items.specs.Parsing.{user_reading_of_text}
use Rattle.user_items.specs.inside.Computed.{judged_of}
use Rattle.user_items.specs.declared.reading.UserCode.{UserCode}
use Rattle.user_items.specs.declared.reading.UserCode.TheVariants as user
use Rattle.user_compiling.specs.Faults.{of_profile, in_place, is_user_warning, own_code, extended_fault}
use Rattle.user_compiling.specs.Faults.{extended_item_faults}
use Rattle.user_compiling.specs.Findings.{warning_codes, AreCodesOf}
use Rattle.user_compiling.specs.inside.Pairs.{warning_ordinals, code_here, pairs, head_code, tail_codes, replaced, front_faults}

-- ---- the ordinals of warnings are those of defining items

abbrev ordinals : List NamedPlace → List ℕ
ordinals places = map (λ (p : NamedPlace). p.ordinal) places

of_one : (f : ReadFault) (d : Option (List ℕ)) (rest : List ℕ) → ordinals (warning_of f d) ++ rest ≡ cond (is_warning_with f.code d) (f.ordinal ∷ rest) rest
of_one f None rest = refl
of_one f (Some name) rest = elim (is_unknown f.code && is_user_defined_name name) as (λ b. ordinals
    (cond b (record { ordinal = f.ordinal; line = f.line; name = name } ∷ []) []) ++ rest ≡ cond b (f.ordinal ∷ rest) rest) [ true ↦ refl | false ↦ refl ]

warned : (fs : List ReadFault) → ordinals (flat_map user_warning fs) ≡ warning_ordinals fs
warned [] = refl
warned (f ∷ fs) =
    map-append (λ (p : NamedPlace). p.ordinal) (user_warning f) (flat_map user_warning fs)
    ∙ ap (λ os. ordinals (user_warning f) ++ os) (warned fs) ∙ of_one f f.detail (warning_ordinals fs)

defined : WarningsAreOfDefiningItems → (text : List ℕ) → warning_ordinals (reading_of_text text).faults
    ≡ ordinals (places_from 0 (map judged_of (block_items text)))
defined law text = sym (warned (reading_of_text text).faults) ∙ ap ordinals (law text)

-- ---- pairing is looking up

abbrev codes_at : List ℕ → List ReadUserFault → List (Option UserCode)
codes_at os own = map (λ o. own_code o own) os

-- the ordinals of places and of faults from an ordinal on are no less
abbrev AtLeast : ℕ → List ℕ → Type 0
AtLeast k [] = Unit {0}
AtLeast k (o ∷ os) = (k ≤ o) × AtLeast k os

least-append : (k : ℕ) (xs ys : List ℕ) → AtLeast k xs → AtLeast k ys → AtLeast k (xs ++ ys)
least-append k [] ys a b = b
least-append k (x ∷ xs) ys a b = (a.0, least-append k xs ys a.1 b)

least-down : (k : ℕ) (xs : List ℕ) → AtLeast (k + 1) xs → AtLeast k xs
least-down k [] a = tt
least-down k (x ∷ xs) a = (omega (arith, a.0), least-down k xs a.1)

abbrev fault_ordinals : List ReadUserFault → List ℕ
fault_ordinals fs = map (λ (f : ReadUserFault). f.ordinal) fs

places_least : (k : ℕ) (js : List (Option UserJudged)) → AtLeast k (ordinals (places_from k js))
places_least k [] = tt
places_least k (None ∷ js) = least-down k (ordinals (places_from (k + 1) js)) (places_least (k + 1) js)
places_least k (Some j ∷ js) =
    of_verdict k j.line j.name j.verdict (places_from (k + 1) js) (least-down k (ordinals (places_from (k + 1) js)) (places_least (k + 1) js)) where
      of_verdict : (k line : ℕ) (name : List ℕ) (v : UserVerdict) (rest : List NamedPlace) → AtLeast k (ordinals rest)
          → AtLeast k (ordinals (places_at k (Some (record { line = line; name = name; verdict = v })) ++ rest))
      of_verdict k line name (user_accepted (imports n)) rest a = a
      of_verdict k line name (user_accepted (says n c)) rest a = (omega arith, a)
      of_verdict k line name (user_odd s) rest a = (omega arith, a)
      of_verdict k line name user_refused rest a = (omega arith, a)

faults_least : (k : ℕ) (js : List (Option UserJudged)) → AtLeast k (fault_ordinals (user_faults_from k js))
faults_least k [] = tt
faults_least k (None ∷ js) = least-down k (fault_ordinals (user_faults_from (k + 1) js)) (faults_least (k + 1) js)
faults_least k (Some j ∷ js) = of_verdict k j.line j.name j.verdict (user_faults_from (k + 1) js)
    (least-down k (fault_ordinals (user_faults_from (k + 1) js)) (faults_least (k + 1) js)) where
      of_verdict : (k line : ℕ) (name : List ℕ) (v : UserVerdict) (rest : List ReadUserFault) → AtLeast k (fault_ordinals rest)
          → AtLeast k (fault_ordinals (faults_at k (Some (record { line = line; name = name; verdict = v })) ++ rest))
      of_verdict k line name (user_accepted s) rest a = a
      of_verdict k line name (user_odd s) rest a = (omega arith, a)
      of_verdict k line name user_refused rest a = (omega arith, a)

unequal : (a b : ℕ) → a < b → nat_eq a b ≡ false
unequal a b l = grind (arith, l)

equal : (a : ℕ) → nat_eq a a ≡ true
equal a = grind arith

-- no fault of later items has the ordinal
no_code : (k : ℕ) (own : List ReadUserFault) → AtLeast (k + 1) (fault_ordinals own) → own_code k own ≡ None
no_code k [] a = refl
no_code k (u ∷ us) a =
    let other : nat_eq u.ordinal k ≡ false = grind (arith, a.0) in
    rw other (no_code k us a.1)

no_pair : (k : ℕ) (os : List ℕ) (own : List ReadUserFault) → AtLeast (k + 1) (fault_ordinals own) → pairs (k ∷ os) own ≡ None ∷ pairs os own
no_pair k os [] a = refl
no_pair k os (u ∷ us) a = let other : nat_eq u.ordinal k ≡ false = grind (arith, a.0) in rw other refl

-- a fault before the ordinals is no one's
skipped : (u : ReadUserFault) (k : ℕ) (os : List ℕ) (own : List ReadUserFault) → u.ordinal ≡ k → AtLeast (k + 1) os → codes_at os (u ∷ own) ≡ codes_at os own
skipped u k [] own e a = refl
skipped u k (o ∷ os) own e a =
    let other : nat_eq u.ordinal o ≡ false = grind (arith, a.0, e) in
    ap (λ b. cond b (Some u.code) (own_code o own) ∷ codes_at os (u ∷ own)) other ∙ ap (λ cs. own_code o own ∷ cs) (skipped u k os own e a.1)

without_fault : (k : ℕ) (os : List ℕ) (own : List ReadUserFault) → AtLeast (k + 1) (fault_ordinals own) → pairs os own ≡ codes_at os own
    → pairs (k ∷ os) own ≡ codes_at (k ∷ os) own
without_fault k os own a e = no_pair k os own a ∙ ap (λ cs. None ∷ cs) e ∙ ap (λ c. c ∷ codes_at os own) (sym (no_code k own a))

with_fault : (u : ReadUserFault) (os : List ℕ) (own : List ReadUserFault) → AtLeast (u.ordinal + 1) os → pairs os own ≡ codes_at os own
    → pairs (u.ordinal ∷ os) (u ∷ own) ≡ codes_at (u.ordinal ∷ os) (u ∷ own)
with_fault u os own a e =
    let itself = equal u.ordinal in
    ap (λ b. cond b (Some u.code ∷ pairs os own) (None ∷ pairs os (u ∷ own))) itself
    ∙ ap (λ cs. Some u.code ∷ cs) (e ∙ sym (skipped u u.ordinal os own refl a))
    ∙ ap (λ b. cond b (Some u.code) (own_code u.ordinal own) ∷ codes_at os (u ∷ own)) (sym itself)

paired : (k : ℕ) (js : List (Option UserJudged)) → pairs (ordinals (places_from k js)) (user_faults_from k js)
    ≡ codes_at (ordinals (places_from k js)) (user_faults_from k js)
paired k [] = refl
paired k (None ∷ js) = paired (k + 1) js
paired k (Some j ∷ js) =
    of_verdict k j.line j.name j.verdict (places_from (k + 1) js) (user_faults_from (k + 1) js) (places_least (k + 1) js) (faults_least (k + 1) js)
    (paired (k + 1) js) where
      of_verdict : (k line : ℕ) (name : List ℕ) (v : UserVerdict) (ps : List NamedPlace) (us : List ReadUserFault) → AtLeast (k + 1) (ordinals ps)
          → AtLeast (k + 1) (fault_ordinals us)
          → pairs (ordinals ps) us ≡ codes_at (ordinals ps) us
          → pairs (ordinals (places_at k (Some (record { line = line; name = name; verdict = v })) ++ ps))
          (faults_at k (Some (record { line = line; name = name; verdict = v })) ++ us)
          ≡ codes_at (ordinals (places_at k (Some (record { line = line; name = name; verdict = v })) ++ ps))
          (faults_at k (Some (record { line = line; name = name; verdict = v })) ++ us)
      of_verdict k line name (user_accepted (imports n)) ps us a b e = e
      of_verdict k line name (user_accepted (says n c)) ps us a b e = without_fault k (ordinals ps) us b e
      of_verdict k line name (user_odd s) ps us a b e = with_fault (fault_with k line name user.UnknownEscape) (ordinals ps) us a e
      of_verdict k line name user_refused ps us a b e = with_fault (fault_with k line name user.BadUserDefined) (ordinals ps) us a e

own_faults_from : (text : List ℕ) → (user_reading_of_text text).faults ≡ user_faults_from 0 (map judged_of (block_items text))
unfolding user_reading_of_text
own_faults_from text = refl

-- the codes of the warnings of a block are those of their items
pub codes_of_block : WarningsAreOfDefiningItems → (text : List ℕ)
    → pairs (warning_ordinals (reading_of_text text).faults) (user_reading_of_text text).faults
    ≡ codes_at (warning_ordinals (reading_of_text text).faults) (user_reading_of_text text).faults
codes_of_block law text =
    let js = map judged_of (block_items text) in
    rw (defined law text, own_faults_from text) (paired 0 js)

-- ---- faults without warnings

any_first : (f : SourceFault) (fs : List SourceFault) → is_user_warning f ≡ true → list_any is_user_warning (f ∷ fs) ≡ true
any_first f fs t = rw t refl

any_later : (f : SourceFault) (fs : List SourceFault) → is_user_warning f ≡ false → list_any is_user_warning (f ∷ fs) ≡ list_any is_user_warning fs
any_later f fs n = rw n refl

pub no_warnings : (fs : List SourceFault) (cs : List (Option UserCode)) → list_any is_user_warning fs ≡ false → replaced fs cs ≡ map of_profile fs
no_warnings [] cs h = refl
no_warnings (f ∷ fs) cs h = elim (cases_Bool (is_user_warning f)) [
  | inl t ↦ absurd (false≢true (sym h ∙ any_first f fs t))
  | inr n ↦ ap (λ b. cond b (in_place f (head_code cs) ++ replaced fs (tail_codes cs)) (of_profile f ∷ replaced fs cs)) n
      ∙ ap (λ xs. of_profile f ∷ xs) (no_warnings fs cs (sym (any_later f fs n) ∙ h))
]

-- codes of which none is there replace as no codes do
pub nothing_wrong : (fs : List SourceFault) (os : List ℕ) → replaced fs [] ≡ replaced fs (pairs os [])
nothing_wrong [] os = refl
nothing_wrong (f ∷ fs) [] = refl
nothing_wrong (f ∷ fs) (o ∷ os) =
    elim (is_user_warning f) as (λ b. cond b (in_place f None ++ replaced fs []) (of_profile f ∷ replaced fs [])
    ≡ cond b (in_place f None ++ replaced fs (pairs os [])) (of_profile f ∷ replaced fs (None ∷ pairs os []))) [
      | true ↦ ap (λ xs. in_place f None ++ xs) (nothing_wrong fs os)
      | false ↦ ap (λ xs. of_profile f ∷ xs) (nothing_wrong fs (o ∷ os))
    ]

warning_codes_are : (own : List ReadUserFault) (fs : List ReadFault) → warning_codes own fs ≡ codes_at (warning_ordinals fs) own
warning_codes_are own [] = refl
warning_codes_are own (f ∷ fs) =
    let rest = warning_codes_are own fs in
    elim (is_local_warning f) as (λ b. cond b (own_code f.ordinal own ∷ warning_codes own fs) (warning_codes own fs)
    ≡ codes_at (cond b (f.ordinal ∷ warning_ordinals fs) (warning_ordinals fs)) own) [
      | true ↦ ap (λ cs. own_code f.ordinal own ∷ cs) rest
      | false ↦ rest
    ]

pub pairs_are_codes : WarningsAreOfDefiningItems → (text : List ℕ)
    → pairs (warning_ordinals (reading_of_text text).faults) (user_reading_of_text text).faults
    ≡ warning_codes (user_reading_of_text text).faults (reading_of_text text).faults
pairs_are_codes law text = codes_of_block law text ∙ sym (warning_codes_are (user_reading_of_text text).faults (reading_of_text text).faults)

-- the codes of a block replace as the pairs do
pub replaced_by_codes : WarningsAreOfDefiningItems → (text : List ℕ) (codes : List (Option UserCode)) (fs : List SourceFault) → AreCodesOf text codes
    → replaced fs codes ≡ replaced fs (pairs (warning_ordinals (reading_of_text text).faults) (user_reading_of_text text).faults)
replaced_by_codes law text codes fs (inl e) = ap (replaced fs) (e ∙ sym (pairs_are_codes law text))
replaced_by_codes law text codes fs (inr e) =
    let os = warning_ordinals (reading_of_text text).faults in
    ap (replaced fs) e.0 ∙ nothing_wrong fs os ∙ ap (λ (us : List ReadUserFault). replaced fs (pairs os us)) (sym e.1)

pub replaced-front : (fs gs : List SourceFault) (cs : List (Option UserCode)) → list_any is_user_warning fs ≡ false
    → replaced (fs ++ gs) cs ≡ map of_profile fs ++ replaced gs cs
replaced-front [] gs cs h = refl
replaced-front (f ∷ fs) gs cs h = elim (cases_Bool (is_user_warning f)) [
  | inl t ↦ absurd (false≢true (sym h ∙ any_first f fs t))
  | inr n ↦ ap (λ b. cond b (in_place f (head_code cs) ++ replaced (fs ++ gs) (tail_codes cs)) (of_profile f ∷ replaced (fs ++ gs) cs)) n
      ∙ ap (λ xs. of_profile f ∷ xs) (replaced-front fs gs cs (sym (any_later f fs n) ∙ h))
]

no_detail : (c : Code) (d : Option (List ℕ)) → is_unknown c ≡ false → is_warning_with c d ≡ false
no_detail c None e = refl
no_detail c (Some name) e = rw e refl

header_known : (c : Code) → is_of_header c ≡ true → is_unknown c ≡ false
header_known code.BadHeader e = refl
header_known code.NamesTooLong e = refl
header_known code.UnknownCapability e = absurd (false≢true e)
header_known _ e = refl

header_quiet : (at : ℕ) (fs : List ReadFault) → list_any is_user_warning (local_faults true at fs) ≡ false
header_quiet at [] = refl
header_quiet at (f ∷ fs) = elim (cases_Bool (is_of_header f.code)) [
  | inl t ↦
      let quiet = no_detail f.code f.detail (header_known f.code t) in
      ap (λ b. list_any is_user_warning (map (local_fault at) (cond b (f ∷ filter (is_kept true) fs) (filter (is_kept true) fs)))) t
      ∙ ap (λ b. b || list_any is_user_warning (local_faults true at fs)) quiet ∙ header_quiet at fs
  | inr n ↦ ap (λ b. list_any is_user_warning (map (local_fault at) (cond b (f ∷ filter (is_kept true) fs) (filter (is_kept true) fs)))) n ∙ header_quiet at fs
]

names_quiet : (at : ℕ) (names : List (List ℕ)) → list_any is_user_warning (map (name_fault at) names) ≡ false
names_quiet at [] = refl
names_quiet at (name ∷ names) = names_quiet at names

-- ---- the faults of items, with their ordinals

abbrev Numbered : Type 0
Numbered = List (ℕ × SourceFault)

abbrev bare : Numbered → List SourceFault
bare ns = map (λ (f : ℕ × SourceFault). f.1) ns

-- the ordinals of warnings among numbered faults
abbrev numbered_ordinals : Numbered → List ℕ
numbered_ordinals [] = []
numbered_ordinals (f ∷ fs) = cond (is_user_warning f.1) (f.0 ∷ numbered_ordinals fs) (numbered_ordinals fs)

numbered_ordinals-append : (xs ys : Numbered) → numbered_ordinals (xs ++ ys) ≡ numbered_ordinals xs ++ numbered_ordinals ys
numbered_ordinals-append [] ys = refl
numbered_ordinals-append (x ∷ xs) ys =
    let rest = numbered_ordinals-append xs ys in
    elim (is_user_warning x.1) as (λ b. cond b (x.0 ∷ numbered_ordinals (xs ++ ys)) (numbered_ordinals (xs ++ ys))
    ≡ cond b (x.0 ∷ numbered_ordinals xs) (numbered_ordinals xs) ++ numbered_ordinals ys) [
      | true ↦ ap (λ os. x.0 ∷ os) rest
      | false ↦ rest
    ]

warning_ordinals-append : (xs ys : List ReadFault) → warning_ordinals (xs ++ ys) ≡ warning_ordinals xs ++ warning_ordinals ys
warning_ordinals-append [] ys = refl
warning_ordinals-append (x ∷ xs) ys =
    let rest = warning_ordinals-append xs ys in
    elim (is_local_warning x) as (λ b. cond b (x.ordinal ∷ warning_ordinals (xs ++ ys)) (warning_ordinals (xs ++ ys))
    ≡ cond b (x.ordinal ∷ warning_ordinals xs) (warning_ordinals xs) ++ warning_ordinals ys) [
      | true ↦ ap (λ os. x.ordinal ∷ os) rest
      | false ↦ rest
    ]

local_ordinals : (at : ℕ) (fs : List ReadFault) → numbered_ordinals (map (fault_with_ordinal at) fs) ≡ warning_ordinals fs
local_ordinals at [] = refl
local_ordinals at (f ∷ fs) = ap (λ os. cond (is_local_warning f) (f.ordinal ∷ os) os) (local_ordinals at fs)

use_code_known : (o : Option Reading) (b : Bool) (r : Reading → Bool) (at line : ℕ) (name : List ℕ) (ordinal : ℕ)
    → numbered_ordinals (map (λ f. (ordinal, f)) (fault_of_use at line name (fault_between o b r))) ≡ []
use_code_known None b r at line name ordinal = refl
use_code_known (Some block) true r at line name ordinal = refl
use_code_known (Some block) false r at line name ordinal =
    elim (r block) as (λ v. numbered_ordinals (map (λ f. (ordinal, f)) (fault_of_use at line name (cond v None (Some code.Unresolved))))
    ≡ []) [ true ↦ refl | false ↦ refl ]

use_quiet : (blocks : List Reading) (at line ordinal : ℕ) (used : Option (List ℕ))
    → numbered_ordinals (map (λ f. (ordinal, f)) (fault_of_item blocks at line used)) ≡ []
use_quiet blocks at line ordinal None = refl
use_quiet blocks at line ordinal (Some name) = use_code_known (owner_block blocks name) (leads_to blocks name at) (resolves blocks) at line name ordinal

split_at : (k : ℕ) (fs : List ReadFault) → faults_before k fs ++ faults_from k fs ≡ fs
split_at k [] = refl
split_at k (f ∷ fs) = joined (nat_lt f.ordinal k) f fs (faults_before k fs) (faults_from k fs) (split_at k fs) where
  joined : (v : Bool) (f : ReadFault) (fs a b : List ReadFault) → a ++ b ≡ fs → cond v (f ∷ a) [] ++ cond v b (f ∷ fs) ≡ f ∷ fs
  joined true f fs a b e = ap (λ xs. f ∷ xs) e
  joined false f fs a b e = refl

item_ordinals : (blocks : List Reading) (at : ℕ) (faults : List ReadFault) (items : List ReadItem)
    → numbered_ordinals (numbered_faults blocks at faults items) ≡ warning_ordinals faults
item_ordinals blocks at faults [] = local_ordinals at faults
item_ordinals blocks at faults (item ∷ items) =
    let before = faults_before item.ordinal faults in
    let after = faults_from item.ordinal faults in
    let uses = map (λ fault. (item.ordinal, fault)) (fault_of_item blocks at item.line (used_name item.said)) in
    let rest = numbered_faults blocks at after items in
    numbered_ordinals-append (map (fault_with_ordinal at) before) (uses ++ rest)
    ∙ ap (λ os. os ++ numbered_ordinals (uses ++ rest)) (local_ordinals at before)
    ∙ ap (λ os. warning_ordinals before ++ os) (numbered_ordinals-append uses rest
    ∙ ap (λ os. os ++ numbered_ordinals rest) (use_quiet blocks at item.line item.ordinal (used_name item.said)) ∙ item_ordinals blocks at after items)
    ∙ sym (warning_ordinals-append before after) ∙ ap warning_ordinals (split_at item.ordinal faults)

-- those of the header are no warnings
items_alone : (fs : List ReadFault) → warning_ordinals (filter (is_kept false) fs) ≡ warning_ordinals fs
items_alone [] = refl
items_alone (f ∷ fs) = elim (cases_Bool (is_of_header f.code)) [
  | inl t ↦
      let quiet = no_detail f.code f.detail (header_known f.code t) in
      ap (λ b. warning_ordinals (cond (not b) (f ∷ filter (is_kept false) fs) (filter (is_kept false) fs))) t ∙ items_alone fs
      ∙ sym (ap (λ b. cond b (f.ordinal ∷ warning_ordinals fs) (warning_ordinals fs)) quiet)
  | inr n ↦
      ap (λ b. warning_ordinals (cond (not b) (f ∷ filter (is_kept false) fs) (filter (is_kept false) fs))) n
      ∙ ap (λ os. cond (is_local_warning f) (f.ordinal ∷ os) os) (items_alone fs)
]

nothing_there : (o : ℕ) (os : List ℕ) → o ∷ os ≡ [] → ⊥
nothing_there o os e = cc

-- each warning has the code of its ordinal
by_ordinal : (own : List ReadUserFault) (ns : Numbered) → replaced (bare ns) (codes_at (numbered_ordinals ns) own) ≡ flat_map (extended_fault own) ns
by_ordinal own [] = refl
by_ordinal own (n ∷ ns) = elim (cases_Bool (is_user_warning n.1)) [
  | inl t ↦
      ap (λ b. replaced (bare (n ∷ ns)) (codes_at (cond b (n.0 ∷ numbered_ordinals ns) (numbered_ordinals ns)) own)) t
      ∙ ap (λ b. cond b (in_place n.1 (own_code n.0 own) ++ replaced (bare ns) (codes_at (numbered_ordinals ns) own))
      (of_profile n.1 ∷ replaced (bare ns) (own_code n.0 own ∷ codes_at (numbered_ordinals ns) own))) t
      ∙ ap (λ xs. in_place n.1 (own_code n.0 own) ++ xs) (by_ordinal own ns)
      ∙ ap (λ b. cond b (in_place n.1 (own_code n.0 own)) (of_profile n.1 ∷ []) ++ flat_map (extended_fault own) ns) (sym t)
  | inr f ↦
      ap (λ b. replaced (bare (n ∷ ns)) (codes_at (cond b (n.0 ∷ numbered_ordinals ns) (numbered_ordinals ns)) own)) f
      ∙ ap (λ b. cond b (in_place n.1 (head_code (codes_at (numbered_ordinals ns) own)) ++ replaced (bare ns)
      (tail_codes (codes_at (numbered_ordinals ns) own))) (of_profile n.1 ∷ replaced (bare ns) (codes_at (numbered_ordinals ns) own))) f
      ∙ ap (λ xs. of_profile n.1 ∷ xs) (by_ordinal own ns)
      ∙ ap (λ b. cond b (in_place n.1 (own_code n.0 own)) (of_profile n.1 ∷ []) ++ flat_map (extended_fault own) ns) (sym f)
]

-- ---- a block

pub items_replaced : WarningsAreOfDefiningItems → ItemFaultsAreInOrder → (blocks : List Reading) (at : ℕ) (text : List ℕ)
    → replaced (item_faults blocks at (filter (is_kept false) (reading_of_text text).faults) (reading_of_text text).items)
    (pairs (warning_ordinals (reading_of_text text).faults) (user_reading_of_text text).faults)
    ≡ extended_item_faults blocks at text
items_replaced law order blocks at text =
    let block = reading_of_text text in
    let own = (user_reading_of_text text).faults in
    let numbered = numbered_faults blocks at (filter (is_kept false) block.faults) block.items in
    let ordinals_are : warning_ordinals block.faults ≡ numbered_ordinals numbered =
    sym (item_ordinals blocks at (filter (is_kept false) block.faults) block.items ∙ items_alone block.faults) in
    ap (λ fs. replaced fs (pairs (warning_ordinals block.faults) own)) (sym (order.same blocks at (filter (is_kept false) block.faults) block.items))
    ∙ ap (replaced (bare numbered)) (codes_of_block law text ∙ ap (λ os. codes_at os own) ordinals_are) ∙ by_ordinal own numbered

-- the faults of the profile before that of the entry, with what comes in the place of each warning
pub front_replaced : WarningsAreOfDefiningItems → ItemFaultsAreInOrder → (blocks : List Reading) (at : ℕ) (text : List ℕ)
    → replaced (front_faults blocks at (reading_of_text text)) (pairs (warning_ordinals (reading_of_text text).faults) (user_reading_of_text text).faults)
    ≡ map of_profile (local_faults true at (reading_of_text text).faults)
    ++ (map of_profile (name_faults blocks at (reading_of_text text).names) ++ extended_item_faults blocks at text)
front_replaced law order blocks at text =
    let block = reading_of_text text in
    let cs = pairs (warning_ordinals block.faults) (user_reading_of_text text).faults in
    let header = local_faults true at block.faults in
    let names = name_faults blocks at block.names in
    let items = item_faults blocks at (filter (is_kept false) block.faults) block.items in
    replaced-front header (names ++ items) cs (header_quiet at block.faults)
    ∙ ap (λ xs. map of_profile header ++ xs)
    (replaced-front names items cs (names_quiet at (filter (is_owned_before blocks at) (distinct block.names)))
    ∙ ap (λ xs. map of_profile names ++ xs) (items_replaced law order blocks at text))

-- without warnings the faults of items are those of the profile
plain_numbered : (own : List ReadUserFault) (ns : Numbered) → numbered_ordinals ns ≡ [] → flat_map (extended_fault own) ns ≡ map of_profile (bare ns)
plain_numbered own [] e = refl
plain_numbered own (n ∷ ns) e = elim (cases_Bool (is_user_warning n.1)) [
  | inl t ↦ absurd (nothing_there n.0 (numbered_ordinals ns) (sym (ap (λ b. cond b (n.0 ∷ numbered_ordinals ns) (numbered_ordinals ns)) t) ∙ e))
  | inr f ↦
      ap (λ b. cond b (in_place n.1 (own_code n.0 own)) (of_profile n.1 ∷ []) ++ flat_map (extended_fault own) ns) f
      ∙ ap (λ xs. of_profile n.1 ∷ xs) (plain_numbered own ns (sym (ap (λ b. cond b (n.0 ∷ numbered_ordinals ns) (numbered_ordinals ns)) f) ∙ e))
]

no_ordinals : (fs : List ReadFault) → flat_map user_warning fs ≡ [] → warning_ordinals fs ≡ []
no_ordinals fs e = sym (warned fs) ∙ ap ordinals e

pub plain_items : ItemFaultsAreInOrder → (blocks : List Reading) (at : ℕ) (text : List ℕ) → flat_map user_warning (reading_of_text text).faults ≡ []
    → extended_item_faults blocks at text
    ≡ map of_profile (item_faults blocks at (filter (is_kept false) (reading_of_text text).faults) (reading_of_text text).items)
plain_items order blocks at text e =
    let block = reading_of_text text in
    let own = (user_reading_of_text text).faults in
    let numbered = numbered_faults blocks at (filter (is_kept false) block.faults) block.items in
    plain_numbered own numbered (item_ordinals blocks at (filter (is_kept false) block.faults) block.items ∙ items_alone block.faults
    ∙ no_ordinals block.faults e)
    ∙ ap (map of_profile) (order.same blocks at (filter (is_kept false) block.faults) block.items)

-- faults without the first
abbrev pub tail_faults : List ReadUserFault → List ReadUserFault
tail_faults [] = []
tail_faults (u ∷ us) = us

-- ---- what the loops add

-- the code of a warning was added, and its fault is the next
pub code_added : (f : ReadFault) (fs : List ReadFault) (own rest : List ReadUserFault) (c : UserCode) (old new : List (Option UserCode))
    → is_local_warning f ≡ true → Some c ≡ code_here f.ordinal own
    → tail_faults own ≡ rest → new ≡ old ++ Some c ∷ [] → new ++ pairs (warning_ordinals fs) rest ≡ old ++ pairs (warning_ordinals (f ∷ fs)) own
code_added f fs [] rest c old new t e r n = absurd (none-some c (sym e))
code_added f fs (u ∷ us) rest c old new t e r n =
    elim (cases_Bool (nat_eq u.ordinal f.ordinal)) [
      | inl same ↦
          let code : c ≡ u.code = same_Some c u.code (e ∙ ap (λ b. cond b (Some u.code) None) same) in
          ap (λ xs. xs ++ pairs (warning_ordinals fs) rest) n ∙ append_assoc old (Some c ∷ []) (pairs (warning_ordinals fs) rest)
          ∙ ap (λ d. old ++ (Some d ∷ pairs (warning_ordinals fs) rest)) code ∙ ap (λ xs. old ++ (Some u.code ∷ pairs (warning_ordinals fs) xs)) (sym r)
          ∙ ap (λ b. old ++ cond b (Some u.code ∷ pairs (warning_ordinals fs) us) (None ∷ pairs (warning_ordinals fs) (u ∷ us))) (sym same)
          ∙ ap (λ b. old ++ pairs (cond b (f.ordinal ∷ warning_ordinals fs) (warning_ordinals fs)) (u ∷ us)) (sym t)
      | inr other ↦ absurd (none-some c (sym (e ∙ ap (λ b. cond b (Some u.code) None) other)))
    ]

-- the next fault is not of the item of a warning
pub none_added : (f : ReadFault) (fs : List ReadFault) (own : List ReadUserFault) (old new : List (Option UserCode)) → is_local_warning f ≡ true
    → None ≡ code_here f.ordinal own
    → new ≡ old ++ None ∷ [] → new ++ pairs (warning_ordinals fs) own ≡ old ++ pairs (warning_ordinals (f ∷ fs)) own
none_added f fs [] old new t e n =
    ap (λ xs. xs ++ pairs (warning_ordinals fs) []) n ∙ append_assoc old (None ∷ []) (pairs (warning_ordinals fs) [])
    ∙ ap (λ b. old ++ pairs (cond b (f.ordinal ∷ warning_ordinals fs) (warning_ordinals fs)) []) (sym t)
none_added f fs (u ∷ us) old new t e n =
    elim (cases_Bool (nat_eq u.ordinal f.ordinal)) [
      | inl same ↦ absurd (none-some u.code (e ∙ ap (λ b. cond b (Some u.code) None) same))
      | inr other ↦
          ap (λ xs. xs ++ pairs (warning_ordinals fs) (u ∷ us)) n ∙ append_assoc old (None ∷ []) (pairs (warning_ordinals fs) (u ∷ us))
          ∙ ap (λ b. old ++ cond b (Some u.code ∷ pairs (warning_ordinals fs) us) (None ∷ pairs (warning_ordinals fs) (u ∷ us))) (sym other)
          ∙ ap (λ b. old ++ pairs (cond b (f.ordinal ∷ warning_ordinals fs) (warning_ordinals fs)) (u ∷ us)) (sym t)
    ]

-- another fault has no code
pub no_code_added : (f : ReadFault) (fs : List ReadFault) (own : List ReadUserFault) (old : List (Option UserCode)) → is_local_warning f ≡ false
    → old ++ pairs (warning_ordinals fs) own ≡ old ++ pairs (warning_ordinals (f ∷ fs)) own
no_code_added f fs own old n = ap (λ b. old ++ pairs (cond b (f.ordinal ∷ warning_ordinals fs) (warning_ordinals fs)) own) (sym n)

one_more : (n : ℕ) → suc n ≡ n + 1
one_more n = omega arith

tail_of_next : {X : Type 0} (g : X → ReadUserFault) (n : ℕ) (xs : List X) → tail_faults (map g (drop n xs)) ≡ map g (drop (suc n) xs)
tail_of_next g zero [] = refl
tail_of_next g zero (x ∷ xs) = refl
tail_of_next g (suc n) [] = refl
tail_of_next g (suc n) (x ∷ xs) = tail_of_next g n xs

-- the faults after the first of those from a place on
pub tail_of_faults : {X : Type 0} (g : X → ReadUserFault) (n : ℕ) (xs : List X) → tail_faults (map g (drop n xs)) ≡ map g (drop (n + 1) xs)
tail_of_faults g n xs = tail_of_next g n xs ∙ ap (λ (k : ℕ). map g (drop k xs)) (one_more n)

drop_next : {X : Type 0} (xs : List X) (i : ℕ) (x : X) → i < length xs → x ≡ get_or xs i x → drop i xs ≡ x ∷ drop (suc i) xs
drop_next [] i x l e = absurd (omega (arith, l))
drop_next (y ∷ ys) zero x l e = ap (λ z. z ∷ ys) (sym e)
drop_next (y ∷ ys) (suc i) x l e = drop_next ys i x (omega (arith, l)) e

-- what is left from a place on
drop_item : {X : Type 0} (xs : List X) (i : ℕ) (x : X) → i < length xs → x ≡ get_or xs i x → drop i xs ≡ x ∷ drop (i + 1) xs
drop_item xs i x l e = drop_next xs i x l e ∙ ap (λ (k : ℕ). x ∷ drop k xs) (one_more i)

pub map-drop_item : {X Y : Type 0} (f : X → Y) (xs : List X) (i : ℕ) (x : X) → i < length xs → x ≡ get_or xs i x
    → map f (drop i xs) ≡ f x ∷ map f (drop (i + 1) xs)
map-drop_item f xs i x l e = ap (map f) (drop_item xs i x l e)
