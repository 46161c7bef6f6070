-- A source without user-defined names is as in the profile.
use Rattle.std.proofs.Common.{◌≡◌, ℕ, zero, suc, ◌+◌, Bool, true, false, cond, List, [], ◌∷◌, ◌++◌, map, filter, length, Option, Some, None, option_map}
use Rattle.std.proofs.Common.{option_and_then, slice_get, refl, sym, ap, ◌∙◌, subst}
use Rattle.std.specs.List.{AllZip, flat_map}
use Rattle.std.proofs.lemmas.Bool.{false≢true}
use Rattle.std.proofs.lemmas.List.{map-append}
use Rattle.std.proofs.lemmas.Option.{same_Some, none-some}
use Rattle.user_values.proofs.Depth.{mapped_part}
use Rattle.user_values.proofs.Making.{read_by_text}
use Rattle.ti_text.specs.Lists.{both_lists}
use Rattle.ti_source.specs.declared.parsing.Rule.{Rule}
use Rattle.ti_source.specs.declared.parsing.Rule.TheVariants.{Leftmost, OwnFirst}
use Rattle.ti_source.specs.Reading.{Reading}
use Rattle.ti_source.specs.Parsing.{reading_of_text}
use Rattle.ti_source.specs.Walking.{block_items}
use Rattle.ti_layout.specs.Values.{Mention}
use Rattle.ti_layout.specs.Laws.{without_cancel}
use Rattle.base_meaning.specs.Owner.{owner, readings}
use Rattle.base_meaning.specs.Readings.{reading_by, readings_by}
use Rattle.base_meaning.proofs.Ruling.{read_by}
use Rattle.base_meaning.specs.Expansion.{is_broken, expansion as expansion_there}
use Rattle.base_meaning.specs.Compiled.{EntryState, oversized, written, state_of, state_with as state_there, entry, entry_of, is_too_large}
use Rattle.base_meaning.specs.Compiled.{image_of, compiled_by}
use Rattle.base_meaning.specs.Faults.{SourceFault, is_kept, item_faults, local_faults, name_faults, entry_faults, block_faults, faults_after, faults}
use Rattle.base_meaning.specs.Laws.{ItemFaultsAreInOrder}
use Rattle.base_meaning.specs.Report.{report_line}
use Rattle.user_items.specs.Verdicts.{UserSaid, UserVerdict, user_accepted, user_odd, user_refused, says, imports}
use Rattle.user_items.specs.Laws.{WarningsAreOfDefiningItems, user_warning, places_from}
use Rattle.user_items.specs.Reading.{ReadUserItem, UserJudged, items_from}
use Rattle.user_items.specs.Parsing.{user_reading_of_text}
use Rattle.user_items.specs.inside.Computed.{judged_of}
use Rattle.user_extension.specs.UserDefined.{Row}
use Rattle.user_values.specs.Expansion.{UserMention, first_said, mentions_of, expand_items, is_use, own_items, use_items, uncancelled, block_mentions, owner_text}
use Rattle.user_values.specs.Expansion.{expand_by}
use Rattle.user_compiling.specs.Rows.{AreRowsOf}
use Rattle.user_compiling.specs.Entries.{IsStateBy, does_not_resolve, does_resolve, entry_in, state_with}
use Rattle.user_compiling.specs.Faults.{of_profile, extended_block_faults, extended_faults_after}
use Rattle.user_compiling.specs.Report.{extended_line}
use Rattle.user_compiling.specs.Laws.{DefineNoNames, PlainSourcesAreAsInTheProfile}
use Rattle.user_compiling.proofs.RowLists.{contains_head}
use Rattle.user_compiling.proofs.Pairs.{plain_items}
use Rattle.user_compiling.proofs.States.{bare_image}

-- ---- no user-defined name is mentioned

abbrev IsImport : UserSaid → Type 0
IsImport (says name content) = ⊥
IsImport (imports name) = Unit {0}

abbrev AreImports : List ReadUserItem → Type 0
AreImports [] = Unit {0}
AreImports (i ∷ is) = IsImport i.said × AreImports is

abbrev Plain : List ℕ → Type 0
Plain text = flat_map user_warning (reading_of_text text).faults ≡ []

nothing_there : {X : Type 0} (x : X) (xs : List X) → x ∷ xs ≡ [] → ⊥
nothing_there x xs e = cc

imports_from : (k : ℕ) (js : List (Option UserJudged)) → places_from k js ≡ [] → AreImports (items_from k js)
imports_from k [] e = tt
imports_from k (None ∷ js) e = imports_from (k + 1) js e
imports_from k (Some j ∷ js) e = of_verdict k j.line j.name j.verdict js e (imports_from (k + 1) js) where
  of_verdict : (k line : ℕ) (name : List ℕ) (v : UserVerdict) (js : List (Option UserJudged))
      → places_from k (Some (record { line = line; name = name; verdict = v }) ∷ js) ≡ []
      → (places_from (k + 1) js ≡ [] → AreImports (items_from (k + 1) js))
      → AreImports (items_from k (Some (record { line = line; name = name; verdict = v }) ∷ js))
  of_verdict k line name (user_accepted (imports n)) js e rest = (tt, rest e)
  of_verdict k line name (user_accepted (says n c)) js e rest =
      absurd (nothing_there (record { ordinal = k; line = line; name = name }) (places_from (k + 1) js) e)
  of_verdict k line name (user_odd s) js e rest = absurd (nothing_there (record { ordinal = k; line = line; name = name }) (places_from (k + 1) js) e)
  of_verdict k line name user_refused js e rest = absurd (nothing_there (record { ordinal = k; line = line; name = name }) (places_from (k + 1) js) e)

items_of_text : (text : List ℕ) → (user_reading_of_text text).items ≡ items_from 0 (map judged_of (block_items text))
unfolding user_reading_of_text
items_of_text text = refl

plain_imports : WarningsAreOfDefiningItems → (text : List ℕ) → Plain text → AreImports (user_reading_of_text text).items
plain_imports law text e = subst AreImports (sym (items_of_text text)) (imports_from 0 (map judged_of (block_items text)) (sym (law text) ∙ e))

abbrev Mentions : Type 0
Mentions = Option (List UserMention)

both_none : (a b : Mentions) (ms : List UserMention) → both_lists a b ≡ Some ms → ((xs : List UserMention) → a ≡ Some xs → xs ≡ [])
    → ((ys : List UserMention) → b ≡ Some ys → ys ≡ []) → ms ≡ []
both_none None b ms e f g = absurd (none-some ms e)
both_none (Some xs) None ms e f g = absurd (none-some ms e)
both_none (Some xs) (Some ys) ms e f g = sym (same_Some (xs ++ ys) ms e) ∙ ap (λ zs. zs ++ ys) (f xs refl) ∙ g ys refl

of_said : (of_name : List ℕ → Mentions) (s : UserSaid) → IsImport s → ((name : List ℕ) (xs : List UserMention) → of_name name ≡ Some xs → xs ≡ [])
    → (xs : List UserMention) → mentions_of of_name s ≡ Some xs → xs ≡ []
of_said of_name (says name content) b h xs f = absurd b
of_said of_name (imports name) b h xs f = h name xs f

no_items : (of_name : List ℕ → Mentions) (is : List ReadUserItem) (ms : List UserMention) → AreImports is
    → ((name : List ℕ) (xs : List UserMention) → of_name name ≡ Some xs → xs ≡ []) → expand_items of_name is ≡ Some ms → ms ≡ []
no_items of_name [] ms a h e = sym (same_Some [] ms e)
no_items of_name (i ∷ is) ms a h e =
    both_none (mentions_of of_name i.said) (expand_items of_name is) ms e (of_said of_name i.said a.0 h) (λ ys f. no_items of_name is ys a.1 h f)

-- by either rule
is_import_use : (s : UserSaid) → IsImport s → is_use s ≡ true
is_import_use (says name content) h = absurd h
is_import_use (imports name) h = refl

own_one : (b : Bool) (i : ReadUserItem) (own : List ReadUserItem) → is_use i.said ≡ b → IsImport i.said → AreImports own
    → AreImports (cond b own (own ++ i ∷ []))
own_one true i own e h rest = rest
own_one false i own e h rest = absurd (false≢true (sym e ∙ is_import_use i.said h))

own_imports : (is : List ReadUserItem) → AreImports is → AreImports (own_items is)
own_imports [] a = tt
own_imports (i ∷ is) a = own_one (is_use i.said) i (own_items is) refl a.0 (own_imports is a.1)

use_one : (b : Bool) (i : ReadUserItem) (used : List ReadUserItem) → IsImport i.said → AreImports used → AreImports (cond b (i ∷ used) used)
use_one true i used h rest = (h, rest)
use_one false i used h rest = rest

use_imports : (is : List ReadUserItem) → AreImports is → AreImports (use_items is)
use_imports [] a = tt
use_imports (i ∷ is) a = use_one (is_use i.said) i (use_items is) a.0 (use_imports is a.1)

none_uncancelled : uncancelled [] ≡ []
unfolding uncancelled
none_uncancelled = refl

no_items_by : (rule : Rule) (of_name : List ℕ → Mentions) (is : List ReadUserItem) (ms : List UserMention) → AreImports is
    → ((name : List ℕ) (xs : List UserMention) → of_name name ≡ Some xs → xs ≡ []) → block_mentions rule of_name is ≡ Some ms → ms ≡ []
no_items_by Leftmost of_name is ms a h e = no_items of_name is ms a h e
no_items_by OwnFirst of_name is ms a h e =
    both_none (expand_items of_name (own_items is)) (option_map uncancelled (expand_items of_name (use_items is))) ms e
    (λ xs f. no_items of_name (own_items is) xs (own_imports is a) h f)
    (λ ys f. let m = mapped_part uncancelled (expand_items of_name (use_items is)) ys f in
    sym m.mapped ∙ ap uncancelled (no_items of_name (use_items is) m.before (use_imports is a) h m.is) ∙ none_uncancelled)

-- a block of the list mentions none, if blocks expanded to that depth do not
abbrev MentionNone : Rule → List (List ℕ) → ℕ → Type 0
MentionNone rule texts depth = (text : List ℕ) (ms : List UserMention) → Plain text → expand_by rule texts depth text ≡ Some ms → ms ≡ []

at_place : (rule : Rule) (texts : List (List ℕ)) (depth at : ℕ) → DefineNoNames texts → MentionNone rule texts depth → (t : Option (List ℕ)) (ms : List UserMention)
    → slice_get texts at ≡ t → option_and_then (expand_by rule texts depth) t ≡ Some ms → ms ≡ []
at_place rule texts depth at plain h None ms stands e = absurd (none-some ms e)
at_place rule texts depth at plain h (Some text) ms stands e = h text ms (plain at text stands) e

no_owner : (rule : Rule) (texts : List (List ℕ)) (depth : ℕ) → DefineNoNames texts → MentionNone rule texts depth → (o : Option ℕ) (ms : List UserMention)
    → option_and_then (expand_by rule texts depth) (option_and_then (slice_get texts) o) ≡ Some ms → ms ≡ []
no_owner rule texts depth plain h None ms e = absurd (none-some ms e)
no_owner rule texts depth plain h (Some at) ms e = at_place rule texts depth at plain h (slice_get texts at) ms refl e

if_whole : (broken : Bool) (o : Mentions) (ms : List UserMention) → cond broken None o ≡ Some ms → o ≡ Some ms
if_whole true o ms e = absurd (none-some ms e)
if_whole false o ms e = e

no_mentions : WarningsAreOfDefiningItems → (rule : Rule) (texts : List (List ℕ)) → DefineNoNames texts → (depth : ℕ) (text : List ℕ)
    (ms : List UserMention) → Plain text → expand_by rule texts depth text ≡ Some ms → ms ≡ []
no_mentions law rule texts plain zero text ms p e = absurd (none-some ms e)
no_mentions law rule texts plain (suc depth) text ms p e =
    no_items_by rule (λ name. option_and_then (expand_by rule texts depth) (owner_text texts name)) (user_reading_of_text text).items ms (plain_imports law text p)
    (λ name xs f. no_owner rule texts depth plain (no_mentions law rule texts plain depth) (owner (readings texts) name) xs f)
    (if_whole (is_broken (reading_of_text text))
    (block_mentions rule (λ name. option_and_then (expand_by rule texts depth) (owner_text texts name)) (user_reading_of_text text).items) ms e)

no_rows : (ms : List UserMention) (rows : List Row) → ms ≡ [] → AreRowsOf (first_said ms) rows → rows ≡ []
no_rows ms [] e are = refl
no_rows ms (r ∷ rs) e are = absurd (none-some r.1 (sym (ap (λ xs. without_cancel (first_said xs r.0)) e) ∙ (are.each r.0 r.1).0 (contains_head r rs)))

-- ---- what becomes of the blocks

one_state : WarningsAreOfDefiningItems → (rule : Rule) (texts : List (List ℕ)) → DefineNoNames texts → (text : List ℕ) (state : EntryState) → Plain text
    → IsStateBy rule texts text state → state ≡ state_of (readings_by rule texts) (reading_by rule text)
one_state law rule texts plain text _ p (does_not_resolve e) = sym (ap (state_there (reading_by rule text)) e)
one_state law rule texts plain text _ p (does_resolve {state = state} h) =
    let none : h.user_mentions ≡ [] = no_mentions law rule texts plain (suc (length texts)) text h.user_mentions p h.user_expands in
    let rows : h.rows ≡ [] = no_rows h.user_mentions h.rows none h.are_rows in
    h.is ∙ ap (state_with (reading_of_text text) h.mentions) rows ∙ bare_image (reading_of_text text) h.mentions
    ∙ sym (ap (λ b. state_there b (Some h.mentions)) (read_by rule text)) ∙ sym (ap (state_there (reading_by rule text)) h.expands)

all_states : WarningsAreOfDefiningItems → (rule : Rule) (texts : List (List ℕ)) → DefineNoNames texts → (xs : List (List ℕ)) (states : List EntryState)
    → ((at : ℕ) (text : List ℕ) → slice_get xs at ≡ Some text → Plain text)
    → AllZip (IsStateBy rule texts) xs states → states ≡ map (λ text. state_of (readings_by rule texts) (reading_by rule text)) xs
all_states law rule texts plain [] [] h all = refl
all_states law rule texts plain [] (s ∷ ss) h all = absurd all
all_states law rule texts plain (x ∷ xs) [] h all = absurd all
all_states law rule texts plain (x ∷ xs) (s ∷ ss) h all =
    ap (λ z. z ∷ ss) (one_state law rule texts plain x s (h 0 x refl) all.0)
    ∙ ap (λ zs. state_of (readings_by rule texts) (reading_by rule x) ∷ zs) (all_states law rule texts plain xs ss (λ at text e. h (suc at) text e) all.1)

entry_of_state : (b : Reading) (o : Option (List Mention)) → entry_in (state_there b o) ≡ option_and_then (entry_of b) o
entry_of_state b None = refl
entry_of_state b (Some ms) = chosen (is_too_large b ms) (image_of b ms) where
  chosen : (v : Bool) (i : List ℕ) → entry_in (cond v oversized (written i)) ≡ cond v None (Some i)
  chosen true i = refl
  chosen false i = refl

same_entry : (rule : Rule) (texts : List (List ℕ)) (at : ℕ) (text : List ℕ) → slice_get texts at ≡ Some text
    → entry_in (state_of (readings_by rule texts) (reading_by rule text)) ≡ compiled_by rule texts at
same_entry rule texts at text stands =
    let blocks = readings_by rule texts in
    let b = reading_by rule text in
    let there : slice_get blocks at ≡ Some b = read_by_text rule texts at text stands in
    let here : compiled_by rule texts at ≡ option_and_then (entry_of b) (expansion_there blocks b) = ap (option_and_then (entry blocks)) there in
    entry_of_state b (expansion_there blocks b) ∙ sym here

-- ---- the faults

map_four : (h n i e : List SourceFault) → map of_profile h ++ (map of_profile n ++ (map of_profile i ++ map of_profile e))
    ≡ map of_profile (h ++ (n ++ (i ++ e)))
map_four h n i e =
    sym (map-append of_profile h (n ++ (i ++ e)) ∙ ap (λ xs. map of_profile h ++ xs) (map-append of_profile n (i ++ e)
    ∙ ap (λ xs. map of_profile n ++ xs) (map-append of_profile i e)))

-- the faults of a block of which that becomes
abbrev faults_with : List Reading → ℕ → EntryState → Reading → List SourceFault
faults_with blocks at state b =
    local_faults true at b.faults
    ++ (name_faults blocks at b.names ++ (item_faults blocks at (filter (is_kept false) b.faults) b.items ++ entry_faults at b.names state))

same_block : WarningsAreOfDefiningItems → ItemFaultsAreInOrder → (rule : Rule) (blocks : List Reading) (at : ℕ) (text : List ℕ) → Plain text
    → extended_block_faults blocks at text (state_of blocks (reading_by rule text)) ≡ map of_profile (block_faults blocks at (reading_by rule text))
same_block law order rule blocks at text p =
    let block = reading_of_text text in
    let state = state_of blocks (reading_by rule text) in
    let h = local_faults true at block.faults in
    let n = name_faults blocks at block.names in
    let e = entry_faults at block.names state in
    ap (λ xs. map of_profile h ++ (map of_profile n ++ (xs ++ map of_profile e))) (plain_items order blocks at text p)
    ∙ map_four h n (item_faults blocks at (filter (is_kept false) block.faults) block.items) e
    ∙ sym (ap (λ b. map of_profile (faults_with blocks at state b)) (read_by rule text))

same_after : WarningsAreOfDefiningItems → ItemFaultsAreInOrder → (rule : Rule) (blocks : List Reading) (at : ℕ) (xs : List (List ℕ))
    → ((k : ℕ) (text : List ℕ) → slice_get xs k ≡ Some text → Plain text)
    → extended_faults_after blocks at xs (map (λ text. state_of blocks (reading_by rule text)) xs)
    ≡ map of_profile (faults_after blocks at (map (reading_by rule) xs))
same_after law order rule blocks at [] h = refl
same_after law order rule blocks at (x ∷ xs) h =
    let rest = faults_after blocks (suc at) (map (reading_by rule) xs) in
    ap (λ ys. ys ++ extended_faults_after blocks (suc at) xs (map (λ text. state_of blocks (reading_by rule text)) xs))
    (same_block law order rule blocks at x (h 0 x refl))
    ∙ ap (λ ys. map of_profile (block_faults blocks at (reading_by rule x)) ++ ys)
    (same_after law order rule blocks (suc at) xs (λ k text e. h (suc k) text e))
    ∙ sym (map-append of_profile (block_faults blocks at (reading_by rule x)) rest)

-- ---- the report

same_lines : (texts : List (List ℕ)) (first : ℕ) (fs : List SourceFault) → flat_map (extended_line texts first) (map of_profile fs)
    ≡ flat_map (report_line texts first) fs
same_lines texts first [] = refl
same_lines texts first (f ∷ fs) = ap (λ xs. report_line texts first f ++ xs) (same_lines texts first fs)

pub plain_sources : WarningsAreOfDefiningItems → ItemFaultsAreInOrder → PlainSourcesAreAsInTheProfile
plain_sources law order = record {
  states = λ rule texts states plain are. all_states law rule texts plain texts states plain are;
  entries = same_entry;
  faults = λ rule texts plain. same_after law order rule (readings_by rule texts) 0 texts plain;
  report = λ rule texts first plain.
      ap (flat_map (extended_line texts first)) (same_after law order rule (readings_by rule texts) 0 texts plain)
      ∙ same_lines texts first (faults (readings_by rule texts));
}
