-- The relative source of an entry with user-defined capabilities is read as what it says.
use Rattle.std.proofs.Common.{◌≡◌, ℕ, Bool, true, false, cond, List, [], ◌∷◌, ◌++◌, map, Option, Some, None, refl, ap, sym, ◌∙◌, subst, append_assoc}
use Rattle.std.specs.List.{All, AllByRecursion, filter_map, flat_map}
use Rattle.std.specs.Option.{option_or}
use Rattle.std.specs.Str.{bytes_eq}
use Rattle.std.specs.Ordering.{nat_cmp}
use Rattle.std.specs.Cmp.Lexicographic.{slice_cmp}
use Rattle.std.specs.declared.cmp.Ordering.{Ordering}
use Rattle.std.specs.declared.cmp.Ordering.TheVariants.{Less, Equal, Greater}
use Rattle.std.proofs.lemmas.List.{map-append}
use Rattle.std.proofs.lemmas.List.Elements.{All-nil, All-cons, All-head, All-tail, All-append, recursion_from_All}
use Rattle.ti_caps.specs.NameOrder.{EachKindIsInOrder}
use Rattle.ti_caps.specs.Tables.{Capability, IsCapability}
use Rattle.ti_caps.specs.declared.capability.Kind.{Kind}
use Rattle.ti_caps.specs.declared.capability.Kind.TheVariants.{Flag, Number, Text}
use Rattle.ti_list.specs.Items as tables
use Rattle.ti_source.specs.declared.code.Code.TheVariants as code
use Rattle.ti_source.specs.Parsing.{reading_of_text}
use Rattle.ti_source.specs.Reading.{Said, said_import, ReadFault}
use Rattle.ti_layout.specs.Values.{Content, Contents}
use Rattle.ti_layout.specs.View.{Entry}
use Rattle.ti_list.specs.declared.layout.Layout.{Layout}
use Rattle.ti_list.specs.Listing.{kind_items, in_order}
use Rattle.ti_list.specs.RelativeSource.{difference, differing_contents, first_name, first_of, same_content, use_lines}
use Rattle.tools_relisting.specs.Layouts.{entry_items, uses_of}
use Rattle.tools_relisting.specs.Relisting.{CanHave, CanHaveAll}
use Rattle.user_items.specs.Names.{is_user_defined_name}
use Rattle.user_items.specs.Verdicts.{UserSaid, imports}
use Rattle.user_items.specs.Parsing.{user_reading_of_text}
use Rattle.user_extension.specs.Reading.{ReadRow, said}
use Rattle.user_listing.specs.Entries.{Extended, entries_in}
use Rattle.user_listing.specs.Names.{is_of_kind, names_among, names_of_both, names_of_kind, with_names_of}
use Rattle.user_listing.specs.Items.{item_if_said, kind_lines, table_items}
use Rattle.user_listing.specs.RelativeSource.{differing_kind, extended_relative, first_said, user_difference}
use Rattle.user_listing.proofs.Rows.{both-less, both-equal, both-greater}
use Rattle.user_relisting.specs.Items.{Item, of_tables, of_user, item_text, user_said, table_said, IsTail, no_more, new_line, IsSource, CanBeWritten}
use Rattle.user_relisting.specs.Items.{IsUserReadAs, IsProfileReadAs, ItemsAreRead, ItemsAreReadByTheProfile}
use Rattle.user_relisting.specs.ReadingBack.{AreWritable, CanBeUsed, IsWritableIfSome, RelativesAreRead, differing_said, relative_said, said_if}
use Rattle.user_relisting.proofs.Laying.{three-kinds, tables-can, texts-map, tables-give, kind-valid}
use Rattle.user_relisting.proofs.Listed.{tables-kept}

-- ---- items of names of which something is said

-- the item of a name, if something is said of it
abbrev item_if : List ℕ → Option Content → List Item
item_if name None = []
item_if name (Some content) = of_user name content ∷ []

-- the items of names
abbrev items_of : (List ℕ → Option Content) → List (List ℕ) → List Item
items_of say names = flat_map (λ (name : List ℕ). item_if name (say name)) names

item-texts : (name : List ℕ) (o : Option Content) (items : List Item) → map item_text (item_if name o ++ items) ≡ item_if_said name o ++ map item_text items
item-texts name None items = refl
item-texts name (Some content) items = refl

items-texts : (say : List ℕ → Option Content) (names : List (List ℕ)) → map item_text (items_of say names)
    ≡ flat_map (λ (name : List ℕ). item_if_said name (say name)) names
items-texts say [] = refl
items-texts say (name ∷ names) =
    item-texts name (say name) (items_of say names) ∙ ap (λ (ts : List (List ℕ)). item_if_said name (say name) ++ ts) (items-texts say names)

item-gives : (name : List ℕ) (o : Option Content) (items : List Item) → filter_map user_said (item_if name o ++ items) ≡ said_if name o
    ++ filter_map user_said items
item-gives name None items = refl
item-gives name (Some content) items = refl

items-give : (say : List ℕ → Option Content) (names : List (List ℕ)) (more : List Item)
    → filter_map user_said (items_of say names ++ more) ≡ flat_map (λ (name : List ℕ). said_if name (say name)) names ++ filter_map user_said more
items-give say [] more = refl
items-give say (name ∷ names) more =
    ap (filter_map user_said) (append_assoc (item_if name (say name)) (items_of say names) more)
    ∙ item-gives name (say name) (items_of say names ++ more)
    ∙ ap (λ (ss : List UserSaid). said_if name (say name) ++ ss) (items-give say names more)
    ∙ sym (append_assoc (said_if name (say name)) (flat_map (λ (n : List ℕ). said_if n (say n)) names) (filter_map user_said more))

-- to the profile they are nothing
item-left-out : (name : List ℕ) (o : Option Content) (items : List Item) → filter_map table_said (item_if name o ++ items) ≡ filter_map table_said items
item-left-out name None items = refl
item-left-out name (Some content) items = refl

items-left-out : (say : List ℕ → Option Content) (names : List (List ℕ)) (more : List Item)
    → filter_map table_said (items_of say names ++ more) ≡ filter_map table_said more
items-left-out say [] more = refl
items-left-out say (name ∷ names) more =
    ap (filter_map table_said) (append_assoc (item_if name (say name)) (items_of say names) more)
    ∙ item-left-out name (say name) (items_of say names ++ more) ∙ items-left-out say names more

item-can : (name : List ℕ) (o : Option Content) → is_user_defined_name name ≡ true → IsWritableIfSome o → All CanBeWritten (item_if name o)
item-can name None user can = All-nil CanBeWritten
item-can name (Some content) user can = All-cons CanBeWritten (of_user name content) [] (user, can) (All-nil CanBeWritten)

abbrev AreUserNames : List (List ℕ) → Type 0
AreUserNames names = AllByRecursion (λ (name : List ℕ). is_user_defined_name name ≡ true) names

items-can : (say : List ℕ → Option Content) (names : List (List ℕ)) → AreUserNames names → ((name : List ℕ) → IsWritableIfSome (say name))
    → All CanBeWritten (items_of say names)
items-can say [] users can = All-nil CanBeWritten
items-can say (name ∷ names) users can =
    All-append CanBeWritten (item_if name (say name)) (items_of say names) (item-can name (say name) users.0 (can name)) (items-can say names users.1 can)

-- ---- names

kind-user : (b : Bool) (name : List ℕ) (names : List (List ℕ)) → is_user_defined_name name ≡ true → AreUserNames names
    → AreUserNames (cond b (name ∷ []) [] ++ names)
kind-user true name names user users = (user, users)
kind-user false name names user users = users

kind-users : (kind : Kind) (rows : List ReadRow) → AllByRecursion (λ (row : ReadRow). is_user_defined_name row.0 ≡ true) rows
    → AreUserNames (names_of_kind kind rows)
kind-users kind [] all = tt
kind-users kind (row ∷ rows) all = kind-user (is_of_kind kind row.1) row.0 (names_of_kind kind rows) all.0 (kind-users kind rows all.1)

both-by : (x v : List ℕ) (xs vs : List (List ℕ)) (o : Ordering) → slice_cmp nat_cmp x v ≡ o → is_user_defined_name x ≡ true → is_user_defined_name v ≡ true
    → AreUserNames (names_of_both xs (v ∷ vs)) → AreUserNames (names_of_both xs vs) → AreUserNames (names_of_both (x ∷ xs) vs)
    → AreUserNames (names_of_both (x ∷ xs) (v ∷ vs))
both-by x v xs vs Less e one other less equal greater = subst AreUserNames (sym (both-less x v xs vs e)) (one, less)
both-by x v xs vs Equal e one other less equal greater = subst AreUserNames (sym (both-equal x v xs vs e)) (one, equal)
both-by x v xs vs Greater e one other less equal greater = subst AreUserNames (sym (both-greater x v xs vs e)) (other, greater)

both-at : (x : List ℕ) (xs : List (List ℕ)) → AreUserNames (x ∷ xs) → ((ys : List (List ℕ)) → AreUserNames ys → AreUserNames (names_of_both xs ys))
    → (vs : List (List ℕ)) → AreUserNames vs → AreUserNames (names_of_both (x ∷ xs) vs)
both-at x xs one on [] users = one
both-at x xs one on (v ∷ vs) users =
    both-by x v xs vs (slice_cmp nat_cmp x v) refl one.0 users.0 (on (v ∷ vs) users) (on vs users.1) (both-at x xs one on vs users.1)

both-users : (xs ys : List (List ℕ)) → AreUserNames xs → AreUserNames ys → AreUserNames (names_of_both xs ys)
both-users [] ys one other = other
both-users (x ∷ xs) ys one other = both-at x xs one (λ vs users. both-users xs vs one.1 users) ys other

with-users : (kind : Kind) (names : List (List ℕ)) (others : List Extended) → AreUserNames names → All CanBeUsed others
    → AreUserNames (with_names_of kind names others)
with-users kind names [] users can = users
with-users kind names (other ∷ others) users can =
    let used = All-head CanBeUsed other others can in
    with-users kind (names_of_both names (names_of_kind kind other.rows)) others
    (both-users names (names_of_kind kind other.rows) users (kind-users kind other.rows (recursion_from_All (λ
    (row : ReadRow). is_user_defined_name row.0 ≡ true) other.rows used.user_defined)))
    (All-tail CanBeUsed other others can)

own-users : (rows : List ReadRow) → AllByRecursion (λ (row : ReadRow). (is_user_defined_name row.0 ≡ true) × IsWritableIfSome row.1) rows
    → AllByRecursion (λ (row : ReadRow). is_user_defined_name row.0 ≡ true) rows
own-users [] all = tt
own-users (row ∷ rows) all = (all.0.0, own-users rows all.1)

among-users : (kind : Kind) (entry : Extended) (others : List Extended) → AreWritable entry.rows → All CanBeUsed others
    → AreUserNames (names_among kind entry others)
among-users kind entry others own can =
    with-users kind (names_of_kind kind entry.rows) others
    (kind-users kind entry.rows (own-users entry.rows
    (recursion_from_All (λ (row : ReadRow). (is_user_defined_name row.0 ≡ true) × IsWritableIfSome row.1) entry.rows own))) can

-- ---- values

either-can : (b : Bool) (o p : Option Content) → IsWritableIfSome o → IsWritableIfSome p → IsWritableIfSome (cond b o p)
either-can true o p one other = one
either-can false o p one other = other

first-can : (o p : Option Content) → IsWritableIfSome o → IsWritableIfSome p → IsWritableIfSome (option_or o p)
first-can None p one other = other
first-can (Some content) p one other = one

said-can : (rows : List ReadRow) (name : List ℕ) → AllByRecursion (λ (row : ReadRow). (is_user_defined_name row.0 ≡ true) × IsWritableIfSome row.1) rows
    → IsWritableIfSome (said rows name)
said-can [] name all = tt
said-can (row ∷ rows) name all =
    let later = said-can rows name all.1 in
    either-can (bytes_eq row.0 name) (option_or row.1 (said rows name)) (said rows name) (first-can row.1 (said rows name) all.0.1 later) later

difference-can : (own theirs : Option Content) → IsWritableIfSome own → IsWritableIfSome (difference own theirs)
difference-can None None can = tt
difference-can None (Some theirs) can = tt
difference-can (Some own) None can = can
difference-can (Some own) (Some theirs) can = either-can (same_content own theirs) None (Some own) tt can

user-can : (kind : Kind) (own theirs : Option Content) → IsWritableIfSome own → IsWritableIfSome (user_difference kind own theirs)
user-can kind own theirs can = either-can (is_of_kind kind (option_or own theirs)) (difference own theirs) None (difference-can own theirs can) tt

have-either : (b : Bool) (c : Capability) (o p : Option Content) → CanHave c o → CanHave c p → CanHave c (cond b o p)
have-either true c o p one other = one
have-either false c o p one other = other

have-difference : (c : Capability) (own theirs : Option Content) → CanHave c own → CanHave c (difference own theirs)
have-difference c None None has = tt
have-difference c None (Some theirs) has = tt
have-difference c (Some own) None has = has
have-difference c (Some own) (Some theirs) has = have-either (same_content own theirs) c None (Some own) tt has

differing-have : (table : Contents) (others : List Entry) → CanHaveAll table → CanHaveAll (differing_contents table others)
differing-have table others has c is = have-difference c (table c) (first_of others c) (has c is)

-- ---- uses

abbrev use_of : Extended → Item
use_of other = of_tables (said_import (first_name other.entry.names))

uses-tail : (others : List Extended) → IsTail (map use_of others) (use_lines (entries_in others) ++ 10 ∷ [])
uses-tail [] = no_more
uses-tail (other ∷ others) =
    let text = item_text (use_of other) in
    subst (λ t. IsTail (use_of other ∷ map use_of others) (10 ∷ 9 ∷ t)) (sym (append_assoc text (44 ∷ use_lines (entries_in others)) (10 ∷ [])))
    (new_line (use_of other) (map use_of others) (use_lines (entries_in others) ++ 10 ∷ []) (uses-tail others))

uses-can : (others : List Extended) → All CanBeUsed others → All CanBeWritten (map use_of others)
uses-can [] can = All-nil CanBeWritten
uses-can (other ∷ others) can =
    let used = All-head CanBeUsed other others can in
    All-cons CanBeWritten (use_of other) (map use_of others) (used.first.lookup, used.first.bare) (uses-can others (All-tail CanBeUsed other others can))

uses-give : (others : List Extended) → filter_map user_said (map use_of others) ≡ map (λ (other : Extended). imports (first_name other.entry.names)) others
uses-give [] = refl
uses-give (other ∷ others) = ap (λ (ss : List UserSaid). imports (first_name other.entry.names) ∷ ss) (uses-give others)

uses-kept : (others : List Extended) → filter_map table_said (map use_of others) ≡ uses_of (entries_in others)
uses-kept [] = refl
uses-kept (other ∷ others) = ap (λ (ss : List Said). said_import (first_name other.entry.names) ∷ ss) (uses-kept others)

-- ---- a kind, and the whole

-- the relative source of an entry is laid out as items: what it says of the tables and of
-- user-defined names, kind by kind, and then the uses
pub record IsRelativeLaidOut (entry : Extended) (others : List Extended) (layout : Layout) : Type 0 where
  pub items : List Item
  pub can : All CanBeWritten items
  pub source : IsSource entry.entry.names items (extended_relative entry others layout)
  pub gives : filter_map user_said items ≡ relative_said entry others
  pub keeps : filter_map table_said items
      ≡ entry_items layout (differing_contents entry.entry.contents (entries_in others)) ++ uses_of (entries_in others)

module _ (ordered : EachKindIsInOrder) (entry : Extended) (others : List Extended) (layout : Layout) (has : CanHaveAll entry.entry.contents)
    (own : AreWritable entry.rows) (used : All CanBeUsed others) where
  abbrev table : Contents
  table = differing_contents entry.entry.contents (entries_in others)

  abbrev say : Kind → List ℕ → Option Content
  say kind name = user_difference kind (said entry.rows name) (first_said others name)

  abbrev kind_list : Kind → List Item
  kind_list kind = map of_tables (kind_items layout table kind) ++ items_of (say kind) (names_among kind entry others)

  kind-lines : (kind : Kind) → kind_lines layout (map item_text (kind_list kind)) ≡ differing_kind layout entry others kind
  kind-lines kind =
      ap (kind_lines layout)
      (map-append item_text (map of_tables (kind_items layout table kind)) (items_of (say kind) (names_among kind entry others))
      ∙ ap (λ (items : List (List ℕ)). items ++ map item_text (items_of (say kind) (names_among kind entry others))) (texts-map (kind_items layout table kind))
      ∙ ap (λ (items : List (List ℕ)). table_items layout table kind ++ items) (items-texts (say kind) (names_among kind entry others)))

  kind-gives : (kind : Kind) (more : List Item) → filter_map user_said (kind_list kind ++ more) ≡ differing_said kind entry others ++ filter_map user_said more
  kind-gives kind more =
      ap (filter_map user_said) (append_assoc (map of_tables (kind_items layout table kind)) (items_of (say kind) (names_among kind entry others)) more)
      ∙ tables-give table (in_order layout.order kind) (items_of (say kind) (names_among kind entry others) ++ more)
      ∙ items-give (say kind) (names_among kind entry others) more

  kind-keeps : (kind : Kind) (more : List Item) → filter_map table_said (kind_list kind ++ more) ≡ kind_items layout table kind ++ filter_map table_said more
  kind-keeps kind more =
      ap (filter_map table_said) (append_assoc (map of_tables (kind_items layout table kind)) (items_of (say kind) (names_among kind entry others)) more)
      ∙ tables-kept (kind_items layout table kind) (items_of (say kind) (names_among kind entry others) ++ more)
      ∙ ap (λ (ss : List Said). kind_items layout table kind ++ ss) (items-left-out (say kind) (names_among kind entry others) more)

  kind-can : (kind : Kind) → AllByRecursion IsCapability (in_order layout.order kind) → All CanBeWritten (kind_list kind)
  kind-can kind valid =
      All-append CanBeWritten (map of_tables (kind_items layout table kind)) (items_of (say kind) (names_among kind entry others))
      (tables-can table (in_order layout.order kind) valid (differing-have entry.entry.contents (entries_in others) has))
      (items-can (say kind) (names_among kind entry others) (among-users kind entry others own used)
      (λ name. user-can kind (said entry.rows name) (first_said others name) (said-can entry.rows name (recursion_from_All (λ (row : ReadRow).
      (is_user_defined_name row.0 ≡ true) × IsWritableIfSome row.1) entry.rows own))))

  abbrev all_items : List Item
  all_items = kind_list Flag ++ (kind_list Number ++ (kind_list Text ++ map use_of others))

  all-can : All CanBeWritten all_items
  all-can =
      let valid = kind-valid ordered layout in
      All-append CanBeWritten (kind_list Flag) (kind_list Number ++ (kind_list Text ++ map use_of others)) (kind-can Flag valid.0)
      (All-append CanBeWritten (kind_list Number) (kind_list Text ++ map use_of others) (kind-can Number valid.1)
      (All-append CanBeWritten (kind_list Text) (map use_of others) (kind-can Text valid.2) (uses-can others used)))

  all-give : filter_map user_said all_items ≡ relative_said entry others
  all-give =
      kind-gives Flag (kind_list Number ++ (kind_list Text ++ map use_of others))
      ∙ ap (λ (ss : List UserSaid). differing_said Flag entry others ++ ss)
      (kind-gives Number (kind_list Text ++ map use_of others)
      ∙ ap (λ (ss : List UserSaid). differing_said Number entry others ++ ss)
      (kind-gives Text (map use_of others) ∙ ap (λ (ss : List UserSaid). differing_said Text entry others ++ ss) (uses-give others)))

  all-keep : filter_map table_said all_items ≡ entry_items layout table ++ uses_of (entries_in others)
  all-keep =
      let flags = kind_items layout table Flag in
      let numbers = kind_items layout table Number in
      let texts = kind_items layout table Text in
      let uses = uses_of (entries_in others) in
      kind-keeps Flag (kind_list Number ++ (kind_list Text ++ map use_of others))
      ∙ ap (λ (ss : List Said). flags ++ ss)
      (kind-keeps Number (kind_list Text ++ map use_of others)
      ∙ ap (λ (ss : List Said). numbers ++ ss) (kind-keeps Text (map use_of others) ∙ ap (λ (ss : List Said). texts ++ ss) (uses-kept others)))
      ∙ sym (append_assoc flags (numbers ++ texts) uses ∙ ap (λ (ss : List Said). flags ++ ss) (append_assoc numbers texts uses))

  source : IsSource entry.entry.names all_items (extended_relative entry others layout)
  source =
      let front = entry.entry.names ++ 44 ∷ differing_kind layout entry others Flag ++ differing_kind layout entry others Number
      ++ differing_kind layout entry others Text in
      let laid = three-kinds layout entry.entry.names (kind_list Flag) (kind_list Number) (kind_list Text) (map use_of others) (use_lines
      (entries_in others) ++ 10 ∷ []) (uses-tail others) in
      let lines : IsSource entry.entry.names all_items (front ++ (use_lines (entries_in others) ++ 10 ∷ [])) =
      rw (kind-lines Flag, kind-lines Number, kind-lines Text) at laid in
      subst (λ text. IsSource entry.entry.names all_items text) (sym (append_assoc front (use_lines (entries_in others)) (10 ∷ []))) lines

pub relative_laid_out : EachKindIsInOrder → (entry : Extended) (others : List Extended) (layout : Layout) → CanHaveAll entry.entry.contents
    → AreWritable entry.rows → All CanBeUsed others
    → IsRelativeLaidOut entry others layout
relative_laid_out ordered entry others layout has own used = record {
  items = all_items ordered entry others layout has own used;
  can = all-can ordered entry others layout has own used;
  source = source ordered entry others layout has own used;
  gives = all-give ordered entry others layout has own used;
  keeps = all-keep ordered entry others layout has own used;
}

pub relatives_read : EachKindIsInOrder → ItemsAreRead → RelativesAreRead
relatives_read ordered read entry others names layout good has own used =
    let laid = relative_laid_out ordered entry others layout has own used in
    subst (λ ss. IsUserReadAs ss (user_reading_of_text (extended_relative entry others layout))) laid.gives
    (read entry.entry.names names laid.items (extended_relative entry others layout) good laid.can laid.source)

-- what the profile reads of it
pub relative-plain : EachKindIsInOrder → ItemsAreReadByTheProfile → (entry : Extended) (others : List Extended) (names : List (List ℕ)) (layout : Layout)
    → tables.IsListable entry.entry.names names
    → CanHaveAll entry.entry.contents → AreWritable entry.rows → All CanBeUsed others
    → IsProfileReadAs entry.entry.names names
    (entry_items layout (differing_contents entry.entry.contents (entries_in others)) ++ uses_of (entries_in others))
    (reading_of_text (extended_relative entry others layout))
relative-plain ordered plain entry others names layout good has own used =
    let laid = relative_laid_out ordered entry others layout has own used in
    subst (λ items. IsProfileReadAs entry.entry.names names items (reading_of_text (extended_relative entry others layout))) laid.keeps
    (plain entry.entry.names names laid.items (extended_relative entry others layout) good laid.can laid.source)

-- each fault of that is a warning
pub relative-sound : EachKindIsInOrder → ItemsAreReadByTheProfile → (entry : Extended) (others : List Extended) (names : List (List ℕ)) (layout : Layout)
    → tables.IsListable entry.entry.names names
    → CanHaveAll entry.entry.contents → AreWritable entry.rows → All CanBeUsed others
    → AllByRecursion (λ (fault : ReadFault). fault.code ≡ code.UnknownCapability) (reading_of_text (extended_relative entry others layout)).faults
relative-sound ordered plain entry others names layout good has own used =
    recursion_from_All (λ (fault : ReadFault). fault.code ≡ code.UnknownCapability) (reading_of_text (extended_relative entry others layout)).faults
    (relative-plain ordered plain entry others names layout good has own used).warned
