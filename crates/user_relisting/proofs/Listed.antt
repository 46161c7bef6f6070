-- The listing of an entry with user-defined capabilities is read as these.
use Rattle.std.proofs.Common.{◌≡◌, ◌≢◌, ℕ, suc, ◌<◌, ◌≤◌, Bool, true, false, ◌||◌, ◌&&◌, ◌==◌, List, [], ◌∷◌, ◌++◌, map, cond, length, get_or, Some}
use Rattle.std.proofs.Common.{refl, ap, sym, ◌∙◌, subst, append_assoc, append-nil, arith}
use Rattle.std.specs.List.{All, AllByRecursion, filter_map, flat_map}
use Rattle.std.specs.Str.{bytes_eq}
use Rattle.std.proofs.lemmas.Bool.{false_from_ne_true}
use Rattle.std.specs.Prelude.{IsTrue, nat_le}
use Rattle.std.specs.Ordering.{nat_cmp, is_lt}
use Rattle.std.specs.Cmp.Lexicographic.{bytes_decides, slice_cmp}
use Rattle.std.proofs.lemmas.Bool.Decides.{nat_tests}
use Rattle.std.proofs.lemmas.List.{map-append}
use Rattle.std.proofs.lemmas.Grind.{flat_map-append}
use Rattle.std.proofs.lemmas.List.Elements.{All-nil, All-cons, All-append, recursion_from_All}
use Rattle.ti_caps.specs.NameOrder.{EachKindIsInOrder}
use Rattle.ti_caps.specs.Tables.{IsCapability}
use Rattle.ti_caps.specs.declared.capability.Kind.{Kind}
use Rattle.ti_caps.specs.declared.capability.Kind.TheVariants.{Flag, Number, Text}
use Rattle.ti_layout.specs.Values.{Contents}
use Rattle.ti_list.specs.declared.layout.Layout.{Layout}
use Rattle.ti_list.specs.Listing.{kind_items, in_order}
use Rattle.ti_source.specs.Reading.{Said}
use Rattle.tools_relisting.specs.Relisting.{CanHaveAll}
use Rattle.tools_relisting.specs.Layouts.{entry_items}
use Rattle.user_items.specs.Names.{is_user_defined_name}
use Rattle.user_items.specs.Verdicts.{UserSaid, says}
use Rattle.user_items.specs.Parsing.{user_reading_of_text}
use Rattle.user_extension.specs.UserDefined.{Row, kind_rank}
use Rattle.user_extension.specs.Reading.{ReadRow, said}
use Rattle.user_extension.specs.Laws.{as_read}
use Rattle.user_extension.proofs.ByKind.{as_flag, as_number, as_text, split}
use Rattle.user_listing.specs.Entries.{Extended}
use Rattle.user_listing.specs.Names.{is_of_kind, names_of_kind, of_kind}
use Rattle.user_listing.specs.Items.{item_if_said, kind_lines, named_item, table_items}
use Rattle.user_listing.specs.Listing.{extended_listing, listed_kind, user_items}
use Rattle.user_relisting.specs.Items.{Item, of_tables, of_user, item_text, user_said, table_said, no_more, IsSource, CanBeWritten, IsWritable}
use Rattle.user_relisting.specs.Items.{IsUserReadAs, ItemsAreRead}
use Rattle.user_relisting.specs.ReadingBack.{AreOfSource, ListingsAreRead}
use Rattle.user_relisting.proofs.Laying.{three-kinds, tables-can, texts-map, tables-give, kind-valid, left-part, right-part}

-- ---- the user-defined items

-- the item of a row
abbrev of_row : Row → Item
of_row u = of_user u.0 u.1

-- the rows of one kind
abbrev AreOfKind : Kind → List Row → Type 0
AreOfKind kind us = AllByRecursion (λ (u : Row). is_of_kind kind (Some u.1) ≡ true) us

-- the rows of other kinds
abbrev AreOfOthers : Kind → List Row → Type 0
AreOfOthers kind us = AllByRecursion (λ (u : Row). is_of_kind kind (Some u.1) ≡ false) us

names-own : (kind : Kind) (us : List Row) → AreOfKind kind us → names_of_kind kind (as_read us) ≡ map (λ (u : Row). u.0) us
names-own kind [] all = refl
names-own kind (u ∷ us) all = rw all.0 (ap (λ (names : List (List ℕ)). u.0 ∷ names) (names-own kind us all.1))

names-other : (kind : Kind) (us : List Row) → AreOfOthers kind us → names_of_kind kind (as_read us) ≡ []
names-other kind [] all = refl
names-other kind (u ∷ us) all = rw all.0 (names-other kind us all.1)

names-append : (kind : Kind) (us vs : List Row) → names_of_kind kind (as_read (us ++ vs)) ≡ names_of_kind kind (as_read us) ++ names_of_kind kind (as_read vs)
names-append kind us vs =
    ap (names_of_kind kind) (map-append (λ (u : Row). (u.0, Some u.1)) us vs)
    ∙ flat_map-append (λ (row : ReadRow). cond (is_of_kind kind row.1) (row.0 ∷ []) []) (as_read us) (as_read vs)

-- each row is what is said of its name
abbrev AreSaid : List ReadRow → List Row → Type 0
AreSaid all us = AllByRecursion (λ (u : Row). said all u.0 ≡ Some u.1) us

items-own : (kind : Kind) (all : List ReadRow) (us : List Row) → AreOfKind kind us → AreSaid all us
    → flat_map (λ (name : List ℕ). item_if_said name (of_kind kind (said all name))) (map (λ (u : Row). u.0) us) ≡ map item_text (map of_row us)
items-own kind all [] kinds are = refl
items-own kind all (u ∷ us) kinds are =
    let own : item_if_said u.0 (of_kind kind (said all u.0)) ≡ named_item u.0 u.1 ∷ [] = rw (are.0, kinds.0) refl in
    rw own (ap (λ (items : List (List ℕ)). named_item u.0 u.1 ∷ items) (items-own kind all us kinds.1 are.1))

-- the user-defined items of a kind are those of its rows, among rows of the others
items-among : (kind : Kind) (before us after : List Row) → AreOfOthers kind before → AreOfKind kind us → AreOfOthers kind after
    → AreSaid (as_read (before ++ (us ++ after))) us
    → user_items kind (as_read (before ++ (us ++ after))) ≡ map item_text (map of_row us)
items-among kind before us after one own other are =
    let all : List ReadRow = as_read (before ++ (us ++ after)) in
    let names : names_of_kind kind all ≡ map (λ (u : Row). u.0) us =
    names-append kind before (us ++ after) ∙ ap (λ (ns : List (List ℕ)). ns ++ names_of_kind kind (as_read (us ++ after))) (names-other kind before one)
    ∙ names-append kind us after ∙ ap (λ (ns : List (List ℕ)). names_of_kind kind (as_read us) ++ ns) (names-other kind after other)
    ∙ append-nil (names_of_kind kind (as_read us)) ∙ names-own kind us own in
    ap (flat_map (λ (name : List ℕ). item_if_said name (of_kind kind (said all name)))) names ∙ items-own kind all us own are

-- ---- what is said of the names

-- what is said of later names is said of all, if the first name is another
said-lifted : (u : Row) (us vs : List Row) → ((k : ℕ) (d : Row) → k < length vs → u.0 ≢ (get_or vs k d).0) → AreSaid (as_read us) vs
    → AreSaid (as_read (u ∷ us)) vs
said-lifted u us [] apart are = tt
said-lifted u us (v ∷ vs) apart are =
    let other : bytes_eq u.0 v.0 ≡ false = false_from_ne_true (bytes_eq u.0 v.0) (λ t. apart 0 v (omega arith) ((bytes_decides u.0 v.0).0 t)) in
    (rw other are.0, said-lifted u us vs (λ k d lt. apart (suc k) d (omega (arith, lt))) are.1)

-- each row of distinct names is what is said of its name
all-said : (us : List Row) → ((i j : ℕ) (d : Row) → i < j → j < length us → (get_or us i d).0 ≢ (get_or us j d).0) → AreSaid (as_read us) us
all-said [] once = tt
all-said (u ∷ us) once =
    let same : bytes_eq u.0 u.0 ≡ true = (bytes_decides u.0 u.0).1 refl in
    let later = all-said us (λ i j d lt within. once (suc i) (suc j) d (omega (arith, lt)) (omega (arith, within))) in
    (rw same refl, said-lifted u us us (λ k d lt. once 0 (suc k) d (omega arith) (omega (arith, lt))) later)

flags-kind : (fs : List (List ℕ)) → AreOfKind Flag (map as_flag fs) × AreOfOthers Number (map as_flag fs) × AreOfOthers Text (map as_flag fs)
flags-kind [] = (tt, tt, tt)
flags-kind (f ∷ fs) = let later = flags-kind fs in ((refl, later.0), (refl, later.1), (refl, later.2))

numbers-kind : (ns : List (List ℕ × ℕ)) → AreOfOthers Flag (map as_number ns) × AreOfKind Number (map as_number ns) × AreOfOthers Text (map as_number ns)
numbers-kind [] = (tt, tt, tt)
numbers-kind (n ∷ ns) = let later = numbers-kind ns in ((refl, later.0), (refl, later.1), (refl, later.2))

texts-kind : (ts : List (List ℕ × List ℕ)) → AreOfOthers Flag (map as_text ts) × AreOfOthers Number (map as_text ts) × AreOfKind Text (map as_text ts)
texts-kind [] = (tt, tt, tt)
texts-kind (t ∷ ts) = let later = texts-kind ts in ((refl, later.0), (refl, later.1), (refl, later.2))

both-others : (kind : Kind) (us vs : List Row) → AreOfOthers kind us → AreOfOthers kind vs → AreOfOthers kind (us ++ vs)
both-others kind [] vs one other = other
both-others kind (u ∷ us) vs one other = (one.0, both-others kind us vs one.1 other)

-- ---- what the items give

rows-can : (us : List Row) → AllByRecursion (λ (u : Row). CanBeWritten (of_row u)) us → All CanBeWritten (map of_row us)
rows-can [] all = All-nil CanBeWritten
rows-can (u ∷ us) all = All-cons CanBeWritten (of_row u) (map of_row us) all.0 (rows-can us all.1)

rows-give : (us : List Row) (items : List Item) → filter_map user_said (map of_row us ++ items) ≡ map (λ (u : Row). says u.0 u.1) us
    ++ filter_map user_said items
rows-give [] items = refl
rows-give (u ∷ us) items = ap (λ (ss : List UserSaid). says u.0 u.1 ∷ ss) (rows-give us items)

-- ---- a kind

-- the items of a kind: those of the tables, and those of rows
abbrev kind_list : Layout → Contents → Kind → List Row → List Item
kind_list layout table kind us = map of_tables (kind_items layout table kind) ++ map of_row us

kind-texts : (layout : Layout) (table : Contents) (kind : Kind) (us : List Row)
    → map item_text (kind_list layout table kind us) ≡ table_items layout table kind ++ map item_text (map of_row us)
kind-texts layout table kind us =
    map-append item_text (map of_tables (kind_items layout table kind)) (map of_row us)
    ∙ ap (λ (items : List (List ℕ)). items ++ map item_text (map of_row us)) (texts-map (kind_items layout table kind))

kind-gives : (layout : Layout) (table : Contents) (kind : Kind) (us : List Row) (items : List Item)
    → filter_map user_said (kind_list layout table kind us ++ items) ≡ map (λ (u : Row). says u.0 u.1) us ++ filter_map user_said items
kind-gives layout table kind us items =
    ap (filter_map user_said) (append_assoc (map of_tables (kind_items layout table kind)) (map of_row us) items)
    ∙ tables-give table (in_order layout.order kind) (map of_row us ++ items) ∙ rows-give us items

-- the profile keeps what is of the tables
pub tables-kept : (ss : List Said) (more : List Item) → filter_map table_said (map of_tables ss ++ more) ≡ ss ++ filter_map table_said more
tables-kept [] more = refl
tables-kept (s ∷ ss) more = ap (λ (xs : List Said). s ∷ xs) (tables-kept ss more)

rows-left-out : (us : List Row) (more : List Item) → filter_map table_said (map of_row us ++ more) ≡ filter_map table_said more
rows-left-out [] more = refl
rows-left-out (u ∷ us) more = rows-left-out us more

kind-keeps : (layout : Layout) (table : Contents) (kind : Kind) (us : List Row) (more : List Item)
    → filter_map table_said (kind_list layout table kind us ++ more) ≡ kind_items layout table kind ++ filter_map table_said more
kind-keeps layout table kind us more =
    ap (filter_map table_said) (append_assoc (map of_tables (kind_items layout table kind)) (map of_row us) more)
    ∙ tables-kept (kind_items layout table kind) (map of_row us ++ more) ∙ ap (λ (xs : List Said). kind_items layout table kind ++ xs) (rows-left-out us more)

kind-can : (layout : Layout) (table : Contents) (kind : Kind) (us : List Row) → AllByRecursion IsCapability (in_order layout.order kind) → CanHaveAll table
    → AllByRecursion (λ (u : Row). CanBeWritten (of_row u)) us → All CanBeWritten (kind_list layout table kind us)
kind-can layout table kind us valid has can =
    All-append CanBeWritten (map of_tables (kind_items layout table kind)) (map of_row us) (tables-can table (in_order layout.order kind) valid has)
    (rows-can us can)

-- ---- the whole

ranks : (r s : ℕ) (b : Bool) → IsTrue (nat_le (suc r) s || (r == s && b)) → r ≤ s
ranks r s b h = grind (arith, nat_tests)

-- the rows by their kinds
record ByKind (F N T : List Row) : Type 0 where
  pub flags : AreOfKind Flag F × AreOfOthers Number F × AreOfOthers Text F
  pub numbers : AreOfOthers Flag N × AreOfKind Number N × AreOfOthers Text N
  pub texts : AreOfOthers Flag T × AreOfOthers Number T × AreOfKind Text T

abbrev says_of : List Row → List UserSaid
says_of us = map (λ (u : Row). says u.0 u.1) us

-- the listing of an entry is laid out as items: those of its tables, and those of these rows
pub record IsLaidOut (entry : Extended) (layout : Layout) (rows : List Row) : Type 0 where
  pub items : List Item
  pub can : All CanBeWritten items
  pub source : IsSource entry.entry.names items (extended_listing entry layout)
  pub gives : filter_map user_said items ≡ says_of rows
  pub keeps : filter_map table_said items ≡ entry_items layout entry.entry.contents

laid-by-kind : EachKindIsInOrder → (entry : Extended) (layout : Layout) (F N T : List Row) → ByKind F N T
    → CanHaveAll entry.entry.contents → entry.rows ≡ as_read (F ++ (N ++ T))
    → AreSaid (as_read (F ++ (N ++ T))) (F ++ (N ++ T)) → AllByRecursion (λ (u : Row). CanBeWritten (of_row u)) (F ++ (N ++ T))
    → IsLaidOut entry layout (F ++ (N ++ T))
laid-by-kind ordered entry layout F N T kinds has is are can =
    let table = entry.entry.contents in
    let flags = kind_list layout table Flag F in
    let numbers = kind_list layout table Number N in
    let texts = kind_list layout table Text T in
    let valid = kind-valid ordered layout in
    let can_rest = right-part (λ (u : Row). CanBeWritten (of_row u)) F (N ++ T) can in
    let are_rest = right-part (λ (u : Row). said (as_read (F ++ (N ++ T))) u.0 ≡ Some u.1) F (N ++ T) are in
    let each : All CanBeWritten (flags ++ (numbers ++ (texts ++ []))) =
    All-append CanBeWritten flags (numbers ++ (texts ++ [])) (kind-can layout table Flag F valid.0 has
    (left-part (λ (u : Row). CanBeWritten (of_row u)) F (N ++ T) can))
    (All-append CanBeWritten numbers (texts ++ []) (kind-can layout table Number N valid.1 has (left-part (λ (u : Row). CanBeWritten (of_row u)) N T can_rest))
    (All-append CanBeWritten texts [] (kind-can layout table Text T valid.2 has (right-part (λ (u : Row). CanBeWritten (of_row u)) N T can_rest))
    (All-nil CanBeWritten))) in
    let last : (F ++ N) ++ (T ++ []) ≡ F ++ (N ++ T) = ap (λ t. (F ++ N) ++ t) (append-nil T) ∙ append_assoc F N T in
    let of_flags : user_items Flag (as_read (F ++ (N ++ T))) ≡ map item_text (map of_row F) =
    items-among Flag [] F (N ++ T) tt kinds.flags.0 (both-others Flag N T kinds.numbers.0 kinds.texts.0) (left-part (λ (u : Row). said (as_read (F ++
    (N ++ T))) u.0 ≡ Some u.1) F (N ++ T) are) in
    let of_numbers : user_items Number (as_read (F ++ (N ++ T))) ≡ map item_text (map of_row N) =
    items-among Number F N T kinds.flags.1 kinds.numbers.1 kinds.texts.1
    (left-part (λ (u : Row). said (as_read (F ++ (N ++ T))) u.0 ≡ Some u.1) N T are_rest) in
    let of_texts : user_items Text (as_read (F ++ (N ++ T))) ≡ map item_text (map of_row T) =
    ap (λ us. user_items Text (as_read us)) (sym last)
    ∙ items-among Text (F ++ N) T [] (both-others Text F N kinds.flags.2 kinds.numbers.2) kinds.texts.2 tt
    (subst (λ us. AreSaid (as_read us) T) (sym last) (right-part (λ (u : Row). said (as_read (F ++ (N ++ T))) u.0 ≡ Some u.1) N T are_rest)) in
    let lines : (kind : Kind) (us : List Row) → user_items kind (as_read (F ++ (N ++ T))) ≡ map item_text (map of_row us)
    → kind_lines layout (map item_text (kind_list layout table kind us)) ≡ listed_kind layout entry kind =
    λ kind us same.
    ap (kind_lines layout) (kind-texts layout table kind us)
    ∙ ap (λ items. kind_lines layout (table_items layout table kind ++ items)) (sym same ∙ ap (user_items kind) (sym is)) in
    let source = three-kinds layout entry.entry.names flags numbers texts [] (10 ∷ []) no_more in
    let whole : IsSource entry.entry.names (flags ++ (numbers ++ (texts ++ []))) (extended_listing entry layout) =
    rw (lines Flag F of_flags, lines Number N of_numbers, lines Text T of_texts) at source in
    let gives : filter_map user_said (flags ++ (numbers ++ (texts ++ []))) ≡ says_of (F ++ (N ++ T)) =
    kind-gives layout table Flag F (numbers ++ (texts ++ []))
    ∙ ap (λ ss. says_of F ++ ss) (kind-gives layout table Number N (texts ++ [])
    ∙ ap (λ ss. says_of N ++ ss) (kind-gives layout table Text T [] ∙ append-nil (says_of T)))
    ∙ sym (map-append (λ (u : Row). says u.0 u.1) F (N ++ T) ∙ ap (λ ss. says_of F ++ ss) (map-append (λ (u : Row). says u.0 u.1) N T)) in
    let keeps : filter_map table_said (flags ++ (numbers ++ (texts ++ []))) ≡ entry_items layout table =
    kind-keeps layout table Flag F (numbers ++ (texts ++ []))
    ∙ ap (λ ss. kind_items layout table Flag ++ ss)
    (kind-keeps layout table Number N (texts ++ []) ∙ ap (λ ss. kind_items layout table Number ++ ss)
    (kind-keeps layout table Text T [] ∙ append-nil (kind_items layout table Text))) in
    record { items = flags ++ (numbers ++ (texts ++ [])); can = each; source = whole; gives = gives; keeps = keeps }

can-be-written : (us : List Row) → AllByRecursion (λ (u : Row). is_user_defined_name u.0 ≡ true) us → AllByRecursion (λ (u : Row). IsWritable u.1) us
    → AllByRecursion (λ (u : Row). CanBeWritten (of_row u)) us
can-be-written [] names values = tt
can-be-written (u ∷ us) names values = ((names.0, values.0), can-be-written us names.1 values.1)

-- the listing of an entry that has these user-defined capabilities
pub laid_out : EachKindIsInOrder → (entry : Extended) (rows : List Row) (layout : Layout) → CanHaveAll entry.entry.contents → entry.rows ≡ as_read rows
    → AreOfSource rows
    → IsLaidOut entry layout rows
laid_out ordered entry rows layout has is are =
    let user = are.user_defined in
    let s = split rows user.values (λ i j d lt within. ranks (kind_rank (get_or rows i d).1) (kind_rank (get_or rows j d).1) (is_lt (slice_cmp nat_cmp
    (get_or rows i d).0 (get_or rows j d).0)) (user.rise i j d lt within)) in
    let kinds : ByKind (map as_flag s.fs) (map as_number s.ns) (map as_text s.ts) =
    record { flags = flags-kind s.fs; numbers = numbers-kind s.ns; texts = texts-kind s.ts } in
    let can = can-be-written rows (recursion_from_All (λ (u : Row). is_user_defined_name u.0 ≡ true) rows user.names)
    (recursion_from_All (λ (u : Row). IsWritable u.1) rows are.writable) in
    subst (IsLaidOut entry layout) (sym s.whole)
    (laid-by-kind ordered entry layout (map as_flag s.fs) (map as_number s.ns) (map as_text s.ts) kinds has (is
    ∙ ap as_read s.whole) (subst (λ us. AreSaid (as_read us) us) s.whole (all-said rows user.once))
    (subst (λ us. AllByRecursion (λ (u : Row). CanBeWritten (of_row u)) us) s.whole can))

pub listings_read : EachKindIsInOrder → ItemsAreRead → ListingsAreRead
listings_read ordered read entry names rows layout good has is are =
    let laid = laid_out ordered entry rows layout has is are in
    subst (λ ss. IsUserReadAs ss (user_reading_of_text (extended_listing entry layout))) laid.gives
    (read entry.entry.names names laid.items (extended_listing entry layout) good laid.can laid.source)
