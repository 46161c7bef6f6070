-- What becomes of a block, by its table and its rows.
use Rattle.std.proofs.Common.{◌≡◌, ℕ, ◌<◌, ◌≤◌, Bool, true, false, cond, nat_lt, List, [], ◌∷◌, length}
use Rattle.std.proofs.Common.{Option, Some, None, is_some, option_and_then, slice_get, refl, sym, ap, ◌∙◌, subst, arith}
use Rattle.std.proofs.lemmas.Bool.{lt-ltb, le-ltb, false≢true}
use Rattle.user_values.proofs.Making.{read_by_text}
use Rattle.ti_source.specs.declared.parsing.Rule.{Rule}
use Rattle.ti_source.specs.Reading.{Reading}
use Rattle.ti_source.specs.Parsing.{reading_of_text}
use Rattle.ti_layout.specs.Values.{Content, content_true, content_number, content_text, content_cancelled, Contents, Mention, contents}
use Rattle.ti_layout.specs.Laws.{without_cancel, ShowSame}
use Rattle.ti_layout.specs.Image.{image_limit}
use Rattle.base_meaning.specs.Readings.{reading_by, readings_by}
use Rattle.base_meaning.proofs.Ruling.{read_by}
use Rattle.ti_base.proofs.AnyResolving.{resolves_by}
use Rattle.base_meaning.specs.Expansion.{values, expansion}
use Rattle.base_meaning.specs.Compiled.{EntryState, oversized, written, entry as entry_there, entry_of, image_of, is_too_large, compiled_by}
use Rattle.base_meaning.specs.ValueTables.{IsTableOfMentions}
use Rattle.user_extension.specs.declared.user_defined.UserDefined.{UserDefined}
use Rattle.user_extension.specs.UserDefined.{Row, rows_of}
use Rattle.user_extension.specs.Extension.{entry, entry_limit}
use Rattle.user_values.specs.Expansion.{first_said, expansion_by}
use Rattle.user_values.specs.Tables.{IsUserTableBy}
use Rattle.user_values.specs.Laws.{ValuesAreWhereResolvedByRule}
use Rattle.user_compiling.specs.Rows.{AreRowsOf}
use Rattle.user_compiling.specs.Entries.{entry_with, state_with, HasStateBy}
use Rattle.user_compiling.specs.inside.States.{state_of_entry}
use Rattle.user_compiling.proofs.RowLists.{rows_agree}
use Rattle.user_compiling.proofs.Imaging.{entries_are_of_values, limits_are_of_values, entry_without}

pub uncancelled-twice : (o : Option Content) → without_cancel (without_cancel o) ≡ without_cancel o
uncancelled-twice None = refl
uncancelled-twice (Some content_true) = refl
uncancelled-twice (Some (content_number n)) = refl
uncancelled-twice (Some (content_text t)) = refl
uncancelled-twice (Some content_cancelled) = refl

show_same : (t : Contents) (ms : List Mention) → IsTableOfMentions t ms → ShowSame t (values ms)
show_same t ms h c valid = ap without_cancel (h c valid) ∙ sym (uncancelled-twice (contents ms c))

-- an entry that was written is the state of its block
pub state_written : (b : Reading) (t : Contents) (ms : List Mention) (rows : List Row) (bytes : List ℕ) → IsTableOfMentions t ms
    → bytes ≡ entry b.field t rows → length bytes ≤ entry_limit t rows
    → written bytes ≡ state_with b ms rows
state_written b t ms rows bytes h e l =
    let same : bytes ≡ entry_with b ms rows = e ∙ entries_are_of_values b.field t (values ms) rows (show_same t ms h) in
    let limit : entry_limit t rows ≡ entry_limit (values ms) rows = limits_are_of_values t (values ms) rows (show_same t ms h) in
    let within : length (entry_with b ms rows) ≤ entry_limit (values ms) rows =
    subst (λ (n : ℕ). length (entry_with b ms rows) ≤ n) limit (subst (λ (xs : List ℕ). length xs ≤ entry_limit t rows) same l) in
    let small : nat_lt (entry_limit (values ms) rows) (length (entry_with b ms rows)) ≡ false =
    le-ltb (entry_limit (values ms) rows) (length (entry_with b ms rows)) within in
    ap written same ∙ sym (ap (λ v. cond v oversized (written (entry_with b ms rows))) small)

-- so is the refusal of one that is too large
pub state_refused : (b : Reading) (t : Contents) (ms : List Mention) (rows : List Row) → IsTableOfMentions t ms
    → entry_limit t rows < length (entry b.field t rows) → oversized ≡ state_with b ms rows
state_refused b t ms rows h l =
    let same : entry b.field t rows ≡ entry_with b ms rows = entries_are_of_values b.field t (values ms) rows (show_same t ms h) in
    let limit : entry_limit t rows ≡ entry_limit (values ms) rows = limits_are_of_values t (values ms) rows (show_same t ms h) in
    let over : entry_limit (values ms) rows < length (entry_with b ms rows) =
    subst (λ (n : ℕ). n < length (entry_with b ms rows)) limit (subst (λ (xs : List ℕ). entry_limit t rows < length xs) same l) in
    let large : nat_lt (entry_limit (values ms) rows) (length (entry_with b ms rows)) ≡ true =
    lt-ltb (entry_limit (values ms) rows) (length (entry_with b ms rows)) over in
    sym (ap (λ v. cond v oversized (written (entry_with b ms rows))) large)

-- without rows the state is that of the profile
bare_state : (b : Reading) (ms : List Mention) → state_of_entry (entry_of b ms) ≡ state_with b ms []
bare_state b ms =
    let with_image : List ℕ → EntryState = λ i. cond (nat_lt (image_limit (values ms)) (length i)) oversized (written i) in
    chosen (is_too_large b ms) (image_of b ms) ∙ ap with_image (sym (entry_without b.field (values ms))) where
      chosen : (v : Bool) (i : List ℕ) → state_of_entry (cond v None (Some i)) ≡ cond v oversized (written i)
      chosen true i = refl
      chosen false i = refl

pub bare_image : (b : Reading) (ms : List Mention) → state_with b ms [] ≡ cond (is_too_large b ms) oversized (written (image_of b ms))
bare_image b ms =
    let with_image : List ℕ → EntryState = λ i. cond (nat_lt (image_limit (values ms)) (length i)) oversized (written i) in
    ap with_image (entry_without b.field (values ms))

entry_here : (rule : Rule) (texts : List (List ℕ)) (at : ℕ) (text : List ℕ) (ms : List Mention) → slice_get texts at ≡ Some text
    → expansion (readings_by rule texts) (reading_by rule text) ≡ Some ms → compiled_by rule texts at ≡ entry_of (reading_of_text text) ms
entry_here rule texts at text ms stands e =
    let there : slice_get (readings_by rule texts) at ≡ Some (reading_by rule text) = read_by_text rule texts at text stands in
    ap (option_and_then (entry_there (readings_by rule texts))) there ∙ ap (option_and_then (entry_of (reading_by rule text))) e
    ∙ ap (λ b. entry_of b ms) (read_by rule text)

-- a block that resolves and has these rows has its state by them
has_state : (rule : Rule) (texts : List (List ℕ)) (text : List ℕ) (said : List ℕ → Option Content) (ms : List Mention) (rows : List Row) (state : EntryState)
    → IsUserTableBy rule texts text said → AreRowsOf said rows
    → expansion (readings_by rule texts) (reading_by rule text) ≡ Some ms → state ≡ state_with (reading_of_text text) ms rows
    → HasStateBy rule texts text state
has_state rule texts text said ms rows state user are e h = record {
  mentions = ms;
  user_mentions = user.0;
  rows = rows;
  expands = e;
  user_expands = user.1;
  are_rows = rows_agree said (first_said user.0) rows user.2 are;
  is = h;
}

-- that of a block without rows, by the entry that the profile gives
pub state_of_profile : (rule : Rule) (texts : List (List ℕ)) (at : ℕ) (text : List ℕ) (said : List ℕ → Option Content) (t : Contents) (rows : List Row)
    (o : Option (List ℕ)) (state : EntryState) → slice_get texts at ≡ Some text
    → IsUserTableBy rule texts text said → AreRowsOf said rows → rows ≡ []
    → (table : (ms : List Mention) × (expansion (readings_by rule texts) (reading_by rule text) ≡ Some ms) × IsTableOfMentions t ms)
    → o ≡ compiled_by rule texts at → state ≡ state_of_entry o → HasStateBy rule texts text state
state_of_profile rule texts at text said t rows o state stands user are none table e h =
    let ms = table.0 in
    has_state rule texts text said ms [] state user (subst (AreRowsOf said) none are) table.1
    (h ∙ ap state_of_entry (e ∙ entry_here rule texts at text ms stands table.1) ∙ bare_state (reading_of_text text) ms)

-- that of a block with rows
pub state_of_rows : (rule : Rule) (texts : List (List ℕ)) (text : List ℕ) (said : List ℕ → Option Content) (t : Contents) (rows : List Row) (state : EntryState)
    → IsUserTableBy rule texts text said → AreRowsOf said rows
    → (table : (ms : List Mention) × (expansion (readings_by rule texts) (reading_by rule text) ≡ Some ms) × IsTableOfMentions t ms)
    → ((ms : List Mention) → IsTableOfMentions t ms → state ≡ state_with (reading_of_text text) ms rows) → HasStateBy rule texts text state
state_of_rows rule texts text said t rows state user are table h = has_state rule texts text said table.0 rows state user are table.1 (h table.0 table.2)

-- a block without user-defined values does not resolve
pub none_without : ValuesAreWhereResolvedByRule → (rule : Rule) (texts : List (List ℕ)) (text : List ℕ) → expansion_by rule texts text ≡ None
    → expansion (readings_by rule texts) (reading_by rule text) ≡ None
none_without law rule texts text e =
    nothing (expansion (readings_by rule texts) (reading_by rule text)) (resolves_by rule texts text ∙ sym (law rule texts text) ∙ ap is_some e) where
      nothing : {X : Type 0} (o : Option X) → is_some o ≡ false → o ≡ None
      nothing None f = refl
      nothing (Some x) f = absurd (false≢true (sym f))

-- ---- rows

pub no_rows_seen : (xs : List UserDefined) → length xs ≡ 0 → rows_of xs ≡ []
no_rows_seen [] e = refl
no_rows_seen (x ∷ xs) e = absurd (omega (arith, e))
