-- What is written of a block is read as what the block says.
use Rattle.std.proofs.Common.{◌≡◌, ◌≢◌, ℕ, suc, ◌<◌, ◌≤◌, Bool, true, false, cond, nat_lt, List, [], ◌∷◌, length, get_or, Option, Some, None, option_and_then}
use Rattle.std.proofs.Common.{slice_get, refl, sym, ap, ◌∙◌, subst, inl, inr, arith}
use Rattle.std.specs.Prelude.{IsTrue}
use Rattle.std.specs.List.{All, AllByRecursion, Contains}
use Rattle.std.specs.Option.{option_or}
use Rattle.std.specs.Str.{bytes_eq}
use Rattle.std.specs.Cmp.Lexicographic.{bytes_decides}
use Rattle.std.proofs.lemmas.Bool.{cases_Bool, ltb-false}
use Rattle.std.proofs.lemmas.List.Elements.{All-head, All-tail, All-weaker, All-contains, All-contains_itself, Contains-get_or, recursion_from_All}
use Rattle.std.proofs.lemmas.Option.{same_Some, none-some, slice_get_within, get_or_from_slice_get}
use Rattle.ti_caps.specs.Tables.{Capability, same_capability}
use Rattle.ti_caps.proofs.Same.{same_capability-true}
use Rattle.ti_source.specs.Cutting.{OneBlock}
use Rattle.ti_source.specs.Parsing.{reading_of_text}
use Rattle.ti_source.specs.declared.parsing.Rule.{Rule}
use Rattle.ti_source.specs.Reading.{Reading, ReadItem, Said, said_flag, said_number, said_text, said_cancel, said_import}
use Rattle.ti_source.specs.Sound.{EachIsWellRead, SetsItsKind}
use Rattle.ti_layout.specs.Values.{Content, content_true, content_number, content_text, content_cancelled, Mention, contents, Agrees, AgreesIfSome}
use Rattle.ti_layout.specs.Laws.{without_cancel}
use Rattle.base_meaning.specs.Owner.{owner_block}
use Rattle.base_meaning.specs.Readings.{reading_by, readings_by}
use Rattle.base_meaning.specs.Expansion.{is_broken, values, expansion}
use Rattle.base_meaning.proofs.Ruling.{read_by}
use Rattle.base_meaning.specs.Compiled.{EntryState, unresolved, oversized, written}
use Rattle.base_meaning.proofs.Imaging.{sound_of_expansion}
use Rattle.user_items.specs.Names.{is_user_defined_name}
use Rattle.user_items.specs.Verdicts.{UserSaid, says, imports}
use Rattle.user_items.specs.Reading.{ReadUserItem}
use Rattle.user_items.specs.Parsing.{user_reading_of_text}
use Rattle.user_items.specs.Sound.{IsSoundValue, IsSoundItem, EachUserReadingIsSound}
use Rattle.user_extension.specs.UserDefined.{IsValue, Row, comes_before}
use Rattle.user_extension.specs.Extension.{entry_limit}
use Rattle.user_extension.specs.Reading.{said}
use Rattle.user_extension.specs.Laws.{as_read, EntriesAreRead}
use Rattle.user_values.specs.Expansion.{UserMention, first_said, expansion_by, user_value_by}
use Rattle.user_compiling.specs.Rows.{AreRowsOf}
use Rattle.user_compiling.specs.Entries.{entry_with, IsStateBy, does_not_resolve, does_resolve, state_with}
use Rattle.user_compiling.specs.ReadBack.{ReadsBack, RowsAreUserDefined, EntriesReadBack, StatesOfBlocksAreDetermined}
use Rattle.user_compiling.proofs.RowLists.{contains_head, contains_later, contains_cases, contains_none, row_same, rows_apart, rows_are_determined}
use Rattle.user_compiling.proofs.States.{uncancelled-twice}
use Rattle.user_compiling.proofs.Mentioned.{SaidHas, ItemsHave, mentions-have, owned-has, UserSaidHas, UserItemsHave, user-mentions-have, rows-have}

-- ---- lists

-- what all texts have, the one at a place has
pub all-at : {X : Type 0} (P : X → Type 0) (xs : List X) (k : ℕ) (x : X) → All P xs → slice_get xs k ≡ Some x → P x
all-at P xs k x all e = subst P (get_or_from_slice_get xs k x x e) (all k x (slice_get_within xs k x e))

-- ---- the user-defined capabilities of a block

-- what a user-defined name may be given
abbrev IsSound : UserMention → Type 0
IsSound m = (is_user_defined_name m.0 ≡ true) × IsSoundValue m.1

said-sound : (s : UserSaid) → IsSoundItem s → UserSaidHas IsSound s
said-sound (says name content) sound = sound
said-sound (imports name) sound = tt

text-sound : EachUserReadingIsSound → (text : List ℕ) → OneBlock text → UserItemsHave IsSound text
text-sound sound text one =
    let items = (user_reading_of_text text).items in
    recursion_from_All (λ (item : ReadUserItem). UserSaidHas IsSound item.said) items
    (All-weaker (λ (item : ReadUserItem). IsSoundItem item.said) (λ (item : ReadUserItem). UserSaidHas IsSound item.said)
    (λ item h. said-sound item.said h) items (sound text one).items)

mentions-sound : EachUserReadingIsSound → (rule : Rule) (texts : List (List ℕ)) (at : ℕ) (text : List ℕ) (ms : List UserMention) → All OneBlock texts
    → slice_get texts at ≡ Some text → expansion_by rule texts text ≡ Some ms → All IsSound ms
mentions-sound sound rule texts at text ms blocks stands e =
    user-mentions-have IsSound rule texts (λ k t here. text-sound sound t (all-at OneBlock texts k t blocks here)) (suc (length texts)) text ms
    (text-sound sound text (all-at OneBlock texts at text blocks stands)) e

never-cancelled : (o : Option Content) → without_cancel o ≡ Some content_cancelled → ⊥
never-cancelled None e = none-some content_cancelled e
never-cancelled (Some content_true) e = cc
never-cancelled (Some (content_number n)) e = cc
never-cancelled (Some (content_text t)) e = cc
never-cancelled (Some content_cancelled) e = none-some content_cancelled e

row-value : (o : Option Content) (content : Content) → without_cancel o ≡ Some content → IsSoundValue content → IsValue content
row-value o content_true e sound = tt
row-value o (content_number n) e sound = sound
row-value o (content_text t) e sound = sound
row-value o content_cancelled e sound = absurd (never-cancelled o e)

abbrev Before : Row → Row → Type 0
Before u v = IsTrue (comes_before u v)

-- rows of one name have one value, and none comes before itself
names-once : (given : List ℕ → Option Content) (rows : List Row) (u v : Row) → AreRowsOf given rows → Contains rows u → Contains rows v → Before u v → u.0 ≢ v.0
names-once given rows u v are first second before same =
    let value : u.1 ≡ v.1 =
    same_Some u.1 v.1
    (sym ((are.each u.0 u.1).0 first) ∙ ap (λ name. without_cancel (given name)) same ∙ (are.each v.0 v.1).0 second) in
    let itself : Before u u = subst (λ (w : Row). Before u w) (sym (row_same u.0 v.0 u.1 v.1 same value)) before in
    rows_apart u u itself itself

pub rows_are_user_defined : EachUserReadingIsSound → RowsAreUserDefined
rows_are_user_defined sound rule texts at text ms rows blocks stands e are =
    let has : All IsSound rows = rows-have IsSound ms rows are (mentions-sound sound rule texts at text ms blocks stands e) in
    record {
      names = All-weaker IsSound (λ (u : Row). IsTrue (is_user_defined_name u.0)) (λ u h. h.0) rows has;
      values = All-weaker (Contains rows) (λ (u : Row). IsValue u.1)
          (λ u here. row-value (first_said ms u.0) u.1 ((are.each u.0 u.1).0 here) (All-contains IsSound rows u has here).1) rows (All-contains_itself rows);
      rise = are.rise;
      once = λ i j d lt within.
          names-once (first_said ms) rows (get_or rows i d) (get_or rows j d) are (Contains-get_or rows i d (omega (arith, lt, within)))
          (Contains-get_or rows j d within) (are.rise i j d lt within);
    }

-- ---- what rows say of a name

said-at : (u : Row) (us : List Row) (name : List ℕ) (content : Content) (b : Bool) → bytes_eq u.0 name ≡ b
    → (said (as_read us) name ≡ Some content → Contains us (name, content))
    → cond b (option_or (Some u.1) (said (as_read us) name)) (said (as_read us) name) ≡ Some content → Contains (u ∷ us) (name, content)
said-at u us name content true same later e =
    subst (λ (r : Row). Contains (u ∷ us) r) (row_same u.0 name u.1 content ((bytes_decides u.0 name).0 same) (same_Some u.1 content e)) (contains_head u us)
said-at u us name content false other later e = contains_later u us (name, content) (later e)

said-here : (rows : List Row) (name : List ℕ) (content : Content) → said (as_read rows) name ≡ Some content → Contains rows (name, content)
said-here [] name content e = absurd (none-some content e)
said-here (u ∷ us) name content e = said-at u us name content (bytes_eq u.0 name) refl (said-here us name content) e

none-later : (b : Bool) (x : Content) (rest : Option Content) → cond b (Some x) rest ≡ None → rest ≡ None
none-later true x rest e = absurd (none-some x (sym e))
none-later false x rest e = e

-- a name that a row has is said
said-there : (rows : List Row) (name : List ℕ) (content : Content) → Contains rows (name, content) → said (as_read rows) name ≡ None → ⊥
said-there [] name content here e = contains_none (name, content) here
said-there (u ∷ us) name content here e = elim (contains_cases u us (name, content) here) [
  | inl same ↦
      let named : bytes_eq u.0 name ≡ true = (bytes_decides u.0 name).1 (ap (λ (r : Row). r.0) same) in
      none-some u.1 (sym e ∙ ap (λ (b : Bool). cond b (Some u.1) (said (as_read us) name)) named)
  | inr later ↦ said-there us name content later (none-later (bytes_eq u.0 name) u.1 (said (as_read us) name) e)
]

by-said : (given : List ℕ → Option Content) (rows : List Row) (name : List ℕ) → AreRowsOf given rows → (o q : Option Content)
    → said (as_read rows) name ≡ o → without_cancel (given name) ≡ q → o ≡ q
by-said given rows name are (Some content) q here there = sym ((are.each name content).0 (said-here rows name content here)) ∙ there
by-said given rows name are None None here there = refl
by-said given rows name are None (Some content) here there = absurd (said-there rows name content ((are.each name content).1 there) here)

-- the rows of a block say of each name the value that it has there
pub rows-say : (given : List ℕ → Option Content) (rows : List Row) → AreRowsOf given rows → (name : List ℕ)
    → said (as_read rows) name ≡ without_cancel (given name)
rows-say given rows are name = by-said given rows name are (said (as_read rows) name) (without_cancel (given name)) refl refl

-- ---- a block that has an entry

-- a block that has this entry resolves, and the entry is within its limit
pub record IsWritten (rule : Rule) (texts : List (List ℕ)) (text bytes : List ℕ) : Type 0 where
  pub mentions : List Mention
  pub user_mentions : List UserMention
  pub rows : List Row
  pub expands : expansion (readings_by rule texts) (reading_by rule text) ≡ Some mentions
  pub user_expands : expansion_by rule texts text ≡ Some user_mentions
  pub are_rows : AreRowsOf (first_said user_mentions) rows
  pub is : entry_with (reading_of_text text) mentions rows ≡ bytes
  pub within : length (entry_with (reading_of_text text) mentions rows) ≤ entry_limit (values mentions) rows

not-unresolved : (bytes : List ℕ) → unresolved ≡ written bytes → ⊥
not-unresolved bytes e = cc

not-oversized : (bytes : List ℕ) → oversized ≡ written bytes → ⊥
not-oversized bytes e = cc

-- the bytes of an entry
abbrev bytes_in : EntryState → List ℕ
bytes_in unresolved = []
bytes_in oversized = []
bytes_in (written bytes) = bytes

by-size : (limit : ℕ) (image bytes : List ℕ) (b : Bool) → nat_lt limit (length image) ≡ b → cond b oversized (written image) ≡ written bytes
    → (image ≡ bytes) × (length image ≤ limit)
by-size limit image bytes true large e = absurd (not-oversized bytes e)
by-size limit image bytes false small e = (ap bytes_in e, ltb-false limit (length image) small)

pub has-entry : (rule : Rule) (texts : List (List ℕ)) (text : List ℕ) (state : EntryState) (bytes : List ℕ) → IsStateBy rule texts text state
    → state ≡ written bytes → IsWritten rule texts text bytes
has-entry rule texts text _ bytes (does_not_resolve none) e = absurd (not-unresolved bytes e)
has-entry rule texts text _ bytes (does_resolve {state = state} h) e =
    let block = reading_of_text text in
    let limit = entry_limit (values h.mentions) h.rows in
    let image = entry_with block h.mentions h.rows in
    let size = by-size limit image bytes (nat_lt limit (length image)) refl (sym h.is ∙ e) in
    record {
      mentions = h.mentions;
      user_mentions = h.user_mentions;
      rows = h.rows;
      expands = h.expands;
      user_expands = h.user_expands;
      are_rows = h.are_rows;
      is = size.0;
      within = size.1;
    }

-- ---- what its block says of the tables

abbrev Agreeing : Mention → Type 0
Agreeing m = Agrees m.0 m.1

said-agrees : (s : Said) → SetsItsKind s → SaidHas Agreeing s
said-agrees (said_flag c) sets = sets.1
said-agrees (said_number c n) sets = (sets.1, sets.2)
said-agrees (said_text c t) sets = (sets.1, sets.2)
said-agrees (said_cancel c) sets = tt
said-agrees (said_import name) sets = tt

text-agrees : EachIsWellRead → (text : List ℕ) → OneBlock text → ItemsHave Agreeing (reading_of_text text)
text-agrees well text one =
    let items = (reading_of_text text).items in
    recursion_from_All (λ (item : ReadItem). SaidHas Agreeing item.said) items
    (All-weaker (λ (item : ReadItem). SetsItsKind item.said) (λ (item : ReadItem). SaidHas Agreeing item.said)
    (λ item h. said-agrees item.said h) items (well text one).sets)

ruled-agrees : EachIsWellRead → (rule : Rule) (text : List ℕ) → OneBlock text → ItemsHave Agreeing (reading_by rule text)
ruled-agrees well rule text one = subst (λ (b : Reading). ItemsHave Agreeing b) (sym (read_by rule text)) (text-agrees well text one)

texts-agree : EachIsWellRead → (rule : Rule) (texts : List (List ℕ)) → AllByRecursion OneBlock texts → AllByRecursion (ItemsHave Agreeing) (readings_by rule texts)
texts-agree well rule [] blocks = tt
texts-agree well rule (text ∷ texts) blocks = (ruled-agrees well rule text blocks.0, texts-agree well rule texts blocks.1)

contents-agree : (ms : List Mention) (c : Capability) → All Agreeing ms → AgreesIfSome c (contents ms c)
unfolding contents
contents-agree [] c all = tt
contents-agree (m ∷ ms) c all = elim (cases_Bool (same_capability m.0 c)) [
  | inl t ↦ rw t (subst (λ d. Agrees d m.1) (same_capability-true m.0 c t) (All-head Agreeing m ms all))
  | inr f ↦ rw f (contents-agree ms c (All-tail Agreeing m ms all))
]

uncancelled-agrees : (c : Capability) (o : Option Content) → AgreesIfSome c o → AgreesIfSome c (without_cancel o)
uncancelled-agrees c None agrees = tt
uncancelled-agrees c (Some content_true) agrees = agrees
uncancelled-agrees c (Some (content_number n)) agrees = agrees
uncancelled-agrees c (Some (content_text t)) agrees = agrees
uncancelled-agrees c (Some content_cancelled) agrees = tt

-- each capability may have its value
values-agree : EachIsWellRead → (rule : Rule) (texts : List (List ℕ)) (at : ℕ) (text : List ℕ) (ms : List Mention) → All OneBlock texts
    → slice_get texts at ≡ Some text → expansion (readings_by rule texts) (reading_by rule text) ≡ Some ms → (c : Capability) → AgreesIfSome c (values ms c)
values-agree well rule texts at text ms blocks stands e c =
    let each = texts-agree well rule texts (recursion_from_All OneBlock texts blocks) in
    let own = ruled-agrees well rule text (all-at OneBlock texts at text blocks stands) in
    let all = mentions-have Agreeing (owner_block (readings_by rule texts))
    (λ name block o. owned-has (ItemsHave Agreeing) (readings_by rule texts) name block each o)
    (suc (length (readings_by rule texts))) (reading_by rule text) ms own e in
    uncancelled-agrees c (contents ms c) (contents-agree ms c all)

-- ---- reading

some-long : (w : List ℕ) → w ≢ [] → 0 < length w
some-long [] some = absurd (some refl)
some-long (x ∷ w) some = omega arith

value-of : (rule : Rule) (texts : List (List ℕ)) (at : ℕ) (text : List ℕ) (ms : List UserMention) (name : List ℕ) → slice_get texts at ≡ Some text
    → expansion_by rule texts text ≡ Some ms → user_value_by rule texts at name ≡ without_cancel (first_said ms name)
value-of rule texts at text ms name stands e =
    let value : List UserMention → Option Content = λ mentions. without_cancel (first_said mentions name) in
    ap (λ o. option_and_then value (option_and_then (expansion_by rule texts) o)) stands ∙ ap (option_and_then value) e

pub entries_read_back : EachIsWellRead → EachUserReadingIsSound → EntriesAreRead → EntriesReadBack
entries_read_back well sound read rule texts at text bytes blocks stands is =
    let h = has-entry rule texts text (written bytes) bytes is refl in
    let block = reading_of_text text in
    let one = all-at OneBlock texts at text blocks stands in
    let whole : is_broken block ≡ false = subst (λ (b : Reading). is_broken b ≡ false) (read_by rule text)
    (sound_of_expansion (readings_by rule texts) (reading_by rule text) h.mentions h.expands) in
    let named = (well text one).named whole in
    let user = rows_are_user_defined sound rule texts at text h.user_mentions h.rows blocks stands h.user_expands h.are_rows in
    let back = read block.field (values h.mentions) h.rows (some-long block.field named.some) named.short named.no_nul
    (λ c valid. values-agree well rule texts at text h.mentions blocks stands h.expands c) user h.within in
    subst (ReadsBack rule texts at text) h.is
    (record {
      contents = back.0;
      mentions = h.mentions;
      expands = h.expands;
      reads = back.1;
      tables = λ c valid. back.2 c valid ∙ uncancelled-twice (contents h.mentions c);
      ends_well = back.3;
      user_defined = λ name. ap (λ rows. said rows name) back.4 ∙ rows-say (first_said h.user_mentions) h.rows h.are_rows name
          ∙ sym (value-of rule texts at text h.user_mentions name stands h.user_expands);
    })

-- ---- only one thing becomes of a block

pub one_state : StatesOfBlocksAreDetermined
one_state rule texts text _ _ (does_not_resolve e) (does_not_resolve f) = refl
one_state rule texts text _ _ (does_not_resolve e) (does_resolve {state = t} h) = absurd (none-some h.mentions (sym e ∙ h.expands))
one_state rule texts text _ _ (does_resolve {state = s} g) (does_not_resolve f) = absurd (none-some g.mentions (sym f ∙ g.expands))
one_state rule texts text _ _ (does_resolve {state = s} g) (does_resolve {state = t} h) =
    let block = reading_of_text text in
    let mentions = same_Some g.mentions h.mentions (sym g.expands ∙ h.expands) in
    let user_mentions = same_Some g.user_mentions h.user_mentions (sym g.user_expands ∙ h.user_expands) in
    let rows = rows_are_determined (first_said g.user_mentions) g.rows h.rows g.are_rows
    (subst (λ ms. AreRowsOf (first_said ms) h.rows) (sym user_mentions) h.are_rows) in
    g.is ∙ ap (λ ms. state_with block ms g.rows) mentions ∙ ap (state_with block h.mentions) rows ∙ sym h.is
