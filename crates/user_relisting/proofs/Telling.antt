-- What listings and relative source say of user-defined names in a source.
use Rattle.std.proofs.Common.{◌≡◌, ◌≢◌, ℕ, suc, Bool, true, false, cond, List, [], ◌∷◌, ◌++◌, map, length, Option, Some, None, option_and_then, refl}
use Rattle.std.proofs.Common.{ap, sym, ◌∙◌, subst, append_assoc, arith}
use Rattle.std.specs.List.{All, AllByRecursion, flat_map}
use Rattle.std.specs.Option.{option_or}
use Rattle.std.specs.Str.{bytes_eq}
use Rattle.std.proofs.lemmas.List.Elements.{All-nil, All-cons, All-from_recursion, recursion_from_All}
use Rattle.ti_caps.specs.NameOrder.{EachKindIsInOrder}
use Rattle.ti_caps.specs.declared.capability.Kind.{Kind}
use Rattle.ti_caps.specs.declared.capability.Kind.TheVariants.{Flag, Number, Text}
use Rattle.ti_source.specs.declared.parsing.Rule.{Rule}
use Rattle.ti_source.specs.Parsing.{reading_of_text}
use Rattle.ti_layout.specs.Values.{Content, content_true, content_number, content_text, content_cancelled}
use Rattle.ti_layout.specs.Laws.{without_cancel}
use Rattle.ti_list.specs.declared.layout.Layout.{Layout}
use Rattle.ti_list.specs.Items.{IsListable}
use Rattle.ti_list.specs.RelativeSource.{difference, first_name}
use Rattle.tools_relisting.specs.Relisting.{CanHaveAll}
use Rattle.user_items.specs.Names.{is_user_defined_name}
use Rattle.user_items.specs.Verdicts.{UserSaid, says, imports}
use Rattle.user_extension.specs.UserDefined.{IsValue, Row}
use Rattle.user_extension.specs.Reading.{ReadRow, said}
use Rattle.user_extension.specs.Laws.{as_read}
use Rattle.user_listing.specs.Entries.{Extended}
use Rattle.user_listing.specs.Listing.{extended_listing}
use Rattle.user_listing.specs.Names.{is_of_kind, names_among}
use Rattle.user_listing.specs.RelativeSource.{extended_relative, first_said, user_difference}
use Rattle.user_values.specs.Expansion.{UserMention, first_said as mentioned, expand_by}
use Rattle.user_values.proofs.Depth.{first_said-append}
use Rattle.user_relisting.specs.Items.{IsWritable, ItemsAreRead, ItemsAreReadByTheProfile}
use Rattle.user_relisting.specs.ReadingBack.{AreWritable, CanBeListed, CanBeUsed, HasListing, IsListedIn, IsWritableIfSome, Listed, ListingsSayTheEntry}
use Rattle.user_relisting.specs.ReadingBack.{RelativesSayTheEntryInASource, differing_said, entries_of, given, relative_said, said_if}
use Rattle.user_relisting.proofs.Compiling.{not-broken}
use Rattle.user_relisting.proofs.Ordering.{both-parts, kept, kept-nothing, kept-plain, or-nothing}
use Rattle.user_relisting.proofs.Related.{relative-sound, relatives_read}
use Rattle.user_relisting.proofs.Restoring.{listing-gives, relatives_say}
use Rattle.user_relisting.proofs.UserRules.{IsOf, IsOwn, IsUse, block-expands, block_says, expand_said, mentions_by, names_in, own-tell}
use Rattle.user_relisting.proofs.UserRules.{pairs-append, pairs_of, uses-last}
use Rattle.user_listing.proofs.Alone.{relative-alone}

-- ---- what a relative source says

-- of user-defined names itself
abbrev own_part : Extended → List Extended → List UserSaid
own_part entry others = differing_said Flag entry others ++ (differing_said Number entry others ++ differing_said Text entry others)

-- and the uses
abbrev use_part : List Extended → List UserSaid
use_part others = map (λ (other : Extended). imports (first_name other.entry.names)) others

both-are : (entry : Extended) (others : List Extended) → relative_said entry others ≡ own_part entry others ++ use_part others
both-are entry others =
    let f = differing_said Flag entry others in
    let n = differing_said Number entry others in
    let t = differing_said Text entry others in
    sym (append_assoc f (n ++ t) (use_part others) ∙ ap (λ ss. f ++ ss) (append_assoc n t (use_part others)))

-- what the entry has of a name where it differs from the others
abbrev differs : Extended → List Extended → List ℕ → Option Content
differs entry others name = difference (said entry.rows name) (first_said others name)

of-kind : (b : Bool) (own theirs : Option Content) (x : Content) → cond b (difference own theirs) None ≡ Some x → difference own theirs ≡ Some x
of-kind true own theirs x e = e
of-kind false own theirs x e = cc

names-own : (say : List ℕ → Option Content) (names : List (List ℕ)) → AllByRecursion IsOwn (flat_map (λ (name : List ℕ). said_if name (say name)) names)
names-own say [] = tt
names-own say (n ∷ ns) =
    both-parts IsOwn (said_if n (say n)) (flat_map (λ (name : List ℕ). said_if name (say name)) ns) (one (say n)) (names-own say ns) where
      one : (o : Option Content) → AllByRecursion IsOwn (said_if n o)
      one None = tt
      one (Some x) = (refl, tt)

names-of : (has say : List ℕ → Option Content) (names : List (List ℕ)) → ((name : List ℕ) (x : Content) → say name ≡ Some x → has name ≡ Some x)
    → AllByRecursion (IsOf has) (pairs_of (flat_map (λ (name : List ℕ). said_if name (say name)) names))
names-of has say [] h = tt
names-of has say (n ∷ ns) h =
    let later = flat_map (λ (name : List ℕ). said_if name (say name)) ns in
    subst (AllByRecursion (IsOf has)) (sym (pairs-append (said_if n (say n)) later))
    (both-parts (IsOf has) (pairs_of (said_if n (say n))) (pairs_of later) (one (say n) refl) (names-of has say ns h))
  where
    one : (o : Option Content) → say n ≡ o → AllByRecursion (IsOf has) (pairs_of (said_if n o))
    one None e = tt
    one (Some x) e = (h n x e, tt)

module _ (entry : Extended) (others : List Extended) where
  abbrev say : Kind → List ℕ → Option Content
  say kind name = user_difference kind (said entry.rows name) (first_said others name)

  own-are : AllByRecursion IsOwn (own_part entry others)
  own-are =
      let each : (kind : Kind) → AllByRecursion IsOwn (differing_said kind entry others) =
      λ kind. names-own (say kind) (names_among kind entry others) in
      both-parts IsOwn (differing_said Flag entry others) (differing_said Number entry others ++ differing_said Text entry others) (each Flag)
      (both-parts IsOwn (differing_said Number entry others) (differing_said Text entry others) (each Number) (each Text))

  own-of : AllByRecursion (IsOf (differs entry others)) (pairs_of (own_part entry others))
  own-of =
      let P = IsOf (differs entry others) in
      let f = differing_said Flag entry others in
      let n = differing_said Number entry others in
      let t = differing_said Text entry others in
      let each : (kind : Kind) → AllByRecursion P (pairs_of (differing_said kind entry others)) =
      λ kind. names-of (differs entry others) (say kind) (names_among kind entry others)
      (λ name x e. of-kind (is_of_kind kind (option_or (said entry.rows name) (first_said others name))) (said entry.rows name) (first_said others name) x e) in
      subst (AllByRecursion P) (sym (pairs-append f (n ++ t)))
      (both-parts P (pairs_of f) (pairs_of (n ++ t)) (each Flag)
      (subst (AllByRecursion P) (sym (pairs-append n t)) (both-parts P (pairs_of n) (pairs_of t) (each Number) (each Text))))

uses-are : (others : List Extended) → AllByRecursion IsUse (use_part others)
uses-are [] = tt
uses-are (other ∷ others) = (refl, uses-are others)

either-same : (b : Bool) (x y z : Option Content) → y ≡ z → cond b x y ≡ cond b x z
either-same true x y z e = refl
either-same false x y z e = e

pairs-given : (ss : List UserSaid) (name : List ℕ) → mentioned (pairs_of ss) name ≡ given ss name
pairs-given [] name = refl
pairs-given (says other content ∷ ss) name =
    either-same (bytes_eq other name) (Some content) (mentioned (pairs_of ss) name) (given ss name) (pairs-given ss name)
pairs-given (imports other ∷ ss) name = pairs-given ss name

uses-give-none : (others : List Extended) (name : List ℕ) → given (use_part others) name ≡ None
uses-give-none [] name = refl
uses-give-none (other ∷ others) name = uses-give-none others name

given-own : (entry : Extended) (others : List Extended) (name : List ℕ)
    → mentioned (pairs_of (own_part entry others)) name ≡ given (relative_said entry others) name
given-own entry others name =
    let own = own_part entry others in
    let uses = use_part others in
    sym (sym (pairs-given (relative_said entry others) name) ∙ ap (λ ss. mentioned (pairs_of ss) name) (both-are entry others)
    ∙ ap (λ ms. mentioned ms name) (pairs-append own uses) ∙ first_said-append (pairs_of own) (pairs_of uses) name
    ∙ ap (option_or (mentioned (pairs_of own) name)) (pairs-given uses name ∙ uses-give-none others name) ∙ or-nothing (mentioned (pairs_of own) name))

-- what a relative source says of a name, with these mentions by its uses
tells-with : (rule : Rule) (entry : Extended) (others : List Extended) (used : List UserMention) (name : List ℕ)
    → mentioned (mentions_by rule (pairs_of (own_part entry others)) used) name
    ≡ option_or (given (relative_said entry others) name) (kept rule (mentioned used name))
tells-with rule entry others used name =
    own-tell rule (differs entry others) (pairs_of (own_part entry others)) used name (own-of entry others)
    ∙ ap (λ o. option_or o (kept rule (mentioned used name))) (given-own entry others name)

-- ---- entries of a source

-- rows of a source can be written
row-writable : (rows : List Row) → AllByRecursion (λ (u : Row). is_user_defined_name u.0 ≡ true) rows → AllByRecursion (λ (u : Row). IsWritable u.1) rows
    → AllByRecursion (λ (row : ReadRow). (is_user_defined_name row.0 ≡ true) × IsWritableIfSome row.1) (as_read rows)
row-writable [] users can = tt
row-writable (u ∷ us) users can = ((users.0, can.0), row-writable us users.1 can.1)

row-users : (rows : List ReadRow) → AllByRecursion (λ (row : ReadRow). (is_user_defined_name row.0 ≡ true) × IsWritableIfSome row.1) rows
    → AllByRecursion (λ (row : ReadRow). is_user_defined_name row.0 ≡ true) rows
row-users [] all = tt
row-users (row ∷ rows) all = (all.0.0, row-users rows all.1)

value-plain : (x : Content) → IsValue x → Some x ≢ Some content_cancelled
value-plain content_true v = λ e. cc
value-plain (content_number n) v = λ e. cc
value-plain (content_text t) v = λ e. cc
value-plain content_cancelled v = absurd v

rows-plain : (rows : List Row) → AllByRecursion (λ (u : Row). IsValue u.1) rows
    → AllByRecursion (λ (row : ReadRow). row.1 ≢ Some content_cancelled) (as_read rows)
rows-plain [] all = tt
rows-plain (u ∷ us) all = (value-plain u.1 all.0, rows-plain us all.1)

pub writable : (entry : Extended) → CanBeListed entry
    → AllByRecursion (λ (row : ReadRow). (is_user_defined_name row.0 ≡ true) × IsWritableIfSome row.1) entry.rows
writable entry can =
    subst (AllByRecursion (λ (row : ReadRow). (is_user_defined_name row.0 ≡ true) × IsWritableIfSome row.1)) (sym can.are_rows)
    (row-writable can.rows (recursion_from_All (λ (u : Row). is_user_defined_name u.0 ≡ true) can.rows can.of_source.user_defined.names) (recursion_from_All (λ
    (u : Row). IsWritable u.1) can.rows can.of_source.writable))

-- an entry of a source has a listing
pub has-listing : (entry : Extended) → CanBeListed entry → HasListing entry
has-listing entry can = record {
  names = can.names;
  listable = can.listable;
  holds = can.holds;
  writable = All-from_recursion (λ (row : ReadRow). (is_user_defined_name row.0 ≡ true) × IsWritableIfSome row.1) entry.rows (writable entry can);
  plain = All-from_recursion (λ (row : ReadRow). row.1 ≢ Some content_cancelled) entry.rows
      (subst (AllByRecursion (λ (row : ReadRow). row.1 ≢ Some content_cancelled)) (sym can.are_rows)
      (rows-plain can.rows (recursion_from_All (λ (u : Row). IsValue u.1) can.rows can.of_source.user_defined.values)));
}

pub can-use : (texts : List (List ℕ)) (listed : List Listed) → AllByRecursion (IsListedIn texts) listed → All CanBeUsed (entries_of listed)
can-use texts [] all = All-nil CanBeUsed
can-use texts (one ∷ others) all =
    All-cons CanBeUsed one.0 (entries_of others)
    (record {
      first = all.0.first;
      user_defined = All-from_recursion (λ (row : ReadRow). is_user_defined_name row.0 ≡ true) one.0.rows
          (row-users one.0.rows (writable one.0 all.0.listed));
    })
    (can-use texts others all.1)

-- the mentions of the listing of an entry, of any rows
abbrev pub listed_mentions : Rule → Extended → List UserMention
listed_mentions rule entry = mentions_by rule (pairs_of (own_part entry [])) []

-- the rows of the others, one after the other
record UsesExpand (rule : Rule) (texts : List (List ℕ)) (depth : ℕ) (listed : List Listed) : Type 0 where
  pub mentions : List UserMention
  pub is : expand_said (names_in rule texts depth) (use_part (entries_of listed)) ≡ Some mentions
  pub say : (name : List ℕ) → mentioned mentions name ≡ first_said (entries_of listed) name

module _ (ordered : EachKindIsInOrder) (read : ItemsAreRead) (plain : ItemsAreReadByTheProfile) where
  -- a relative source expands to these, given the mentions of its uses
  expands-with : (rule : Rule) (entry : Extended) (others : List Extended) (names : List (List ℕ)) (layout : Layout) (texts : List (List ℕ)) (depth : ℕ)
      (used : List UserMention) → IsListable entry.entry.names names → CanHaveAll entry.entry.contents → AreWritable entry.rows → All CanBeUsed others
      → expand_said (names_in rule texts depth) (use_part others) ≡ Some used
      → expand_by rule texts (suc depth) (extended_relative entry others layout) ≡ Some (mentions_by rule (pairs_of (own_part entry others)) used)
  expands-with rule entry others names layout texts depth used good has own may is =
      let text = extended_relative entry others layout in
      let of_name = names_in rule texts depth in
      let sound = not-broken (reading_of_text text).faults (relative-sound ordered plain entry others names layout good has own may) in
      block-expands rule texts depth text (relative_said entry others) sound (relatives_read ordered read entry others names layout good has own may).says
      ∙ ap (block_says rule of_name) (both-are entry others)
      ∙ uses-last rule of_name (own_part entry others) (use_part others) used (own-are entry others) (uses-are others) is

  -- ---- listings

  pub any-expands : (rule : Rule) (entry : Extended) (layout : Layout) (texts : List (List ℕ)) (depth : ℕ) → HasListing entry
      → expand_by rule texts (suc depth) (extended_listing entry layout) ≡ Some (listed_mentions rule entry)
  any-expands rule entry layout texts depth can =
      ap (expand_by rule texts (suc depth)) (sym (relative-alone entry layout))
      ∙ expands-with rule entry [] can.names layout texts depth [] can.listable can.holds can.writable (All-nil CanBeUsed) refl

  pub any-tells : (rule : Rule) (entry : Extended) (name : List ℕ) → HasListing entry → mentioned (listed_mentions rule entry) name ≡ said entry.rows name
  any-tells rule entry name can =
      let own = given (relative_said entry []) name in
      tells-with rule entry [] [] name ∙ ap (option_or own) (kept-nothing rule) ∙ or-nothing own ∙ listing-gives entry name can.plain

  pub listings_say : ListingsSayTheEntry
  listings_say rule entry layout texts can = (
    listed_mentions rule entry,
    any-expands rule entry layout texts (length texts) can,
    λ name. sym (any-tells rule entry name can),
  )

  -- ---- relative source

  uses-expand : (rule : Rule) (texts : List (List ℕ)) (depth : ℕ) (listed : List Listed) → AllByRecursion (IsListedIn texts) listed
      → UsesExpand rule texts (suc depth) listed
  uses-expand rule texts depth [] all = record { mentions = []; is = refl; say = λ name. refl }
  uses-expand rule texts depth (one ∷ others) all =
      let later = uses-expand rule texts depth others all.1 in
      let can = has-listing one.0 all.0.listed in
      let rows = listed_mentions rule one.0 in
      let here : names_in rule texts (suc depth) (first_name one.0.entry.names) ≡ Some rows =
      ap (option_and_then (expand_by rule texts (suc depth))) all.0.owned ∙ any-expands rule one.0 one.1 texts depth can in
      record {
        mentions = rows ++ later.mentions;
        is = rw (here, later.is) refl;
        say = λ name. first_said-append rows later.mentions name
            ∙ ap (λ o. option_or o (mentioned later.mentions name)) (any-tells rule one.0 name can)
            ∙ ap (option_or (said one.0.rows name)) (later.say name);
      }

  pub relatives_say_there : RelativesSayTheEntryInASource
  relatives_say_there rule entry layout listed [] can some used = absurd (omega (arith, some))
  relatives_say_there rule entry layout listed (text ∷ texts) can some used =
      let others = entries_of listed in
      let each = recursion_from_All (IsListedIn (text ∷ texts)) listed used in
      let uses = uses-expand rule (text ∷ texts) (length texts) listed each in
      let has = has-listing entry can in (
        mentions_by rule (pairs_of (own_part entry others)) uses.mentions,
        expands-with rule entry others can.names layout (text ∷ texts) (suc (length texts)) uses.mentions can.listable can.holds has.writable
            (can-use (text ∷ texts) listed each) uses.is,
        λ name. ap without_cancel (tells-with rule entry others uses.mentions name
            ∙ ap (λ o. option_or (given (relative_said entry others) name) (kept rule o)) (uses.say name))
            ∙ kept-plain rule (given (relative_said entry others) name) (first_said others name) ∙ relatives_say entry others name has.plain,
      )
