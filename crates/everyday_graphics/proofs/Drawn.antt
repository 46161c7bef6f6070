-- What becomes of a block with its line graphics.
use Rattle.std.proofs.Common.{◌≡◌, ◌<◌, ◌≤◌, ◌&&◌, ℕ, zero, suc, [], ◌∷◌, Bool, true, false, cond, List, length, nat_lt, nat_le, refl, sym, ap, ◌∙◌, subst, arith}
use Rattle.std.proofs.Common.{Option, None, Some}
use Rattle.std.proofs.lemmas.Bool.{false≢true, le-leb, le-ltb, lt-leb}
use Rattle.std.proofs.lemmas.Option.{none-some, same_Some}
use Rattle.ti_caps.specs.Tables.{Capability, IsCapability, same_capability}
use Rattle.ti_source.specs.declared.parsing.Rule.{Rule}
use Rattle.ti_source.specs.Parsing.{reading_of_text}
use Rattle.ti_source.specs.Reading.{Reading}
use Rattle.ti_layout.specs.Image.{image, image_limit}
use Rattle.ti_layout.specs.Laws.{ShowSame, without_cancel}
use Rattle.std.specs.List.{list_all}
use Rattle.ti_layout.specs.Values.{Contents, HasNoNul, Mention, contents}
use Rattle.base_meaning.specs.Compiled as profile
use Rattle.base_meaning.specs.Compiled.{EntryState, oversized, unresolved, written}
use Rattle.base_meaning.specs.Expansion.{expansion, values}
use Rattle.base_meaning.specs.Readings.{reading_by, readings_by}
use Rattle.base_meaning.specs.ValueTables.{IsTableOfMentions}
use Rattle.base_meaning.proofs.Ruling.{read_by}
use Rattle.user_extension.specs.Extension.{entry, entry_limit}
use Rattle.user_extension.specs.UserDefined.{Row}
use Rattle.user_compiling.specs.Entries as compiled
use Rattle.user_compiling.specs.Entries.{IsStateBy, entry_in}
use Rattle.user_compiling.proofs.Imaging.{entries_are_of_values, entry_without, limits_are_of_values}
use Rattle.user_compiling.proofs.States.{uncancelled-twice}
use Rattle.user_compiling.proofs.ReadBack.{IsWritten}
use Rattle.everyday_graphics.specs.Entries.{IsDrawnState, does_not_resolve, does_resolve, drawn_image, drawn_state, in_place}
use Rattle.everyday_graphics.specs.Graphics.{acsc, drawn_values, lacks_acsc, rmacs, smacs, vt100_acsc, with_acsc}

-- ---- an entry in its own place

cond-same : {X : Type 0} (b : Bool) (x : X) → x ≡ cond b x x
cond-same true x = refl
cond-same false x = refl

-- an entry that is written stays so
same-there : (limit : ℕ) (bytes : List ℕ) (large : Bool)
    → cond large oversized (written bytes) ≡ in_place (cond large oversized (written bytes)) limit bytes
same-there limit bytes true = refl
same-there limit bytes false = cond-same (nat_le (length bytes) limit) (written bytes)

-- a block whose values are drawn as they are becomes what it became
pub state-kept : (draws : Bool) (block : Reading) (ms : List Mention) (rows : List Row) → drawn_values draws ms ≡ values ms
    → compiled.state_with block ms rows ≡ drawn_state draws block ms rows
state-kept draws block ms rows same =
    same-there (entry_limit (values ms) rows) (entry block.field (values ms) rows)
    (nat_lt (entry_limit (values ms) rows) (length (entry block.field (values ms) rows)))
    ∙ ap (λ (v : Contents). in_place (compiled.state_with block ms rows) (entry_limit v rows) (entry block.field v rows)) (sym same)

pub image-kept : (draws : Bool) (block : Reading) (ms : List Mention) → drawn_values draws ms ≡ values ms
    → profile.state_with block (Some ms) ≡ drawn_image draws block (Some ms)
image-kept draws block ms same =
    same-there (image_limit (values ms)) (image block.field (values ms)) (nat_lt (image_limit (values ms)) (length (image block.field (values ms))))
    ∙ ap (λ (v : Contents). in_place (profile.state_with block (Some ms)) (image_limit v) (image block.field v)) (sym same)

-- ---- a block of a list

-- whether it lacks `acsc` by its table
pub lacks-there : (t : Contents) (ms : List Mention) → IsTableOfMentions t ms → lacks_acsc t ≡ lacks_acsc (contents ms)
lacks-there t ms is =
    let at : (c : Capability) → IsCapability c → t c ≡ contents ms c = is in
    rw (at smacs (omega arith), at rmacs (omega arith), at acsc (omega arith)) refl

pub kept-values : (draws : Bool) (ms : List Mention) → (draws && lacks_acsc (contents ms)) ≡ false → drawn_values draws ms ≡ values ms
kept-values draws ms not = ap (λ (b : Bool). cond b (with_acsc (values ms)) (values ms)) not

-- one that does not lack it becomes what it became
pub kept-state : (draws : Bool) (rule : Rule) (texts : List (List ℕ)) (text : List ℕ) (state : EntryState)
    → ((ms : List Mention) → expansion (readings_by rule texts) (reading_by rule text) ≡ Some ms → (draws && lacks_acsc (contents ms)) ≡ false)
    → IsStateBy rule texts text state → IsDrawnState draws rule texts text state
kept-state draws rule texts text _ not (compiled.does_not_resolve none) = does_not_resolve none
kept-state draws rule texts text _ not (compiled.does_resolve {state = state} h) =
    does_resolve
    (record {
      mentions = h.mentions;
      user_mentions = h.user_mentions;
      rows = h.rows;
      expands = h.expands;
      user_expands = h.user_expands;
      are_rows = h.are_rows;
      is = h.is ∙ state-kept draws (reading_of_text text) h.mentions h.rows (kept-values draws h.mentions (not h.mentions h.expands));
    })

-- so does each block if nothing is drawn
pub none-drawn : (rule : Rule) (texts : List (List ℕ)) (text : List ℕ) (state : EntryState) → IsStateBy rule texts text state
    → IsDrawnState false rule texts text state
none-drawn rule texts text state is = kept-state false rule texts text state (λ ms e. refl) is

-- and of a block without user-defined capabilities
pub kept-image : (draws : Bool) (block : Reading) (found : Option (List Mention))
    → ((ms : List Mention) → found ≡ Some ms → (draws && lacks_acsc (contents ms)) ≡ false) → profile.state_with block found ≡ drawn_image draws block found
kept-image draws block None not = refl
kept-image draws block (Some ms) not = image-kept draws block ms (kept-values draws ms (not ms refl))

-- the values of one that lacks it
lacking-values : (ms : List Mention) → lacks_acsc (contents ms) ≡ true → drawn_values true ms ≡ with_acsc (values ms)
lacking-values ms lacks = ap (λ (b : Bool). cond b (with_acsc (values ms)) (values ms)) lacks

-- ---- a table with the `acsc` of a VT100

-- it shows what the block has with it
pub shows-acsc : (t new : Contents) (ms : List Mention) → IsTableOfMentions t ms → ((c : Capability) → new c ≡ with_acsc t c)
    → ShowSame new (with_acsc (values ms))
shows-acsc t new ms is gives c valid = ap without_cancel (gives c) ∙ by_test (same_capability acsc c) refl
  where
    by_test : (b : Bool) → same_capability acsc c ≡ b → without_cancel (with_acsc t c) ≡ without_cancel (with_acsc (values ms) c)
    by_test true e = rw e refl
    by_test false e = rw e (ap without_cancel (is c valid) ∙ sym (uncancelled-twice (contents ms c)))

-- the entry that is written of it is that in the place of any other
pub put-within : (field : List ℕ) (new u : Contents) (rows : List Row) (made bytes : List ℕ) → ShowSame new u → made ≡ entry field new rows
    → length made ≤ entry_limit new rows → written made ≡ in_place (written bytes) (entry_limit u rows) (entry field u rows)
put-within field new u rows made bytes shows is low =
    let same : made ≡ entry field u rows = is ∙ entries_are_of_values field new u rows shows in
    let limit : entry_limit new rows ≡ entry_limit u rows = limits_are_of_values new u rows shows in
    let within : length (entry field u rows) ≤ entry_limit u rows =
    subst (λ (n : ℕ). length (entry field u rows) ≤ n) limit (subst (λ (xs : List ℕ). length xs ≤ entry_limit new rows) same low) in
    ap written same
    ∙ sym (ap (λ (b : Bool). cond b (written (entry field u rows)) (written bytes)) (le-leb (length (entry field u rows)) (entry_limit u rows) within))

-- and nothing is put in its place that is over its limit
pub put-over : (field : List ℕ) (new u : Contents) (rows : List Row) (bytes : List ℕ) → ShowSame new u
    → entry_limit new rows < length (entry field new rows) → written bytes ≡ in_place (written bytes) (entry_limit u rows) (entry field u rows)
put-over field new u rows bytes shows over =
    let same : entry field new rows ≡ entry field u rows = entries_are_of_values field new u rows shows in
    let limit : entry_limit new rows ≡ entry_limit u rows = limits_are_of_values new u rows shows in
    let large : entry_limit u rows < length (entry field u rows) =
    subst (λ (n : ℕ). n < length (entry field u rows)) limit (subst (λ (xs : List ℕ). entry_limit new rows < length xs) same over) in
    sym (ap (λ (b : Bool). cond b (written (entry field u rows)) (written bytes)) (lt-leb (length (entry field u rows)) (entry_limit u rows) large))

-- ---- the block at a position

-- what became of a block that has an entry
was-written : (state : EntryState) (bytes : List ℕ) → entry_in state ≡ Some bytes → state ≡ written bytes
was-written unresolved bytes e = absurd (none-some bytes e)
was-written oversized bytes e = absurd (none-some bytes e)
was-written (written found) bytes e = ap written (same_Some found bytes e)

-- of one that lacks `acsc`, without user-defined capabilities
pub image-drawn : (rule : Rule) (texts : List (List ℕ)) (text bytes made : List ℕ) (t : Contents) (ms : List Mention)
    → entry_in (profile.state_of (readings_by rule texts) (reading_by rule text)) ≡ Some bytes
    → expansion (readings_by rule texts) (reading_by rule text) ≡ Some ms → IsTableOfMentions t ms → lacks_acsc t ≡ true
    → written made ≡ in_place (written bytes) (entry_limit (with_acsc (values ms)) []) (entry (reading_of_text text).field (with_acsc (values ms)) [])
    → written made ≡ drawn_image true (reading_by rule text) (expansion (readings_by rule texts) (reading_by rule text))
image-drawn rule texts text bytes made t ms has expands says lacks is =
    let block = reading_by rule text in
    let u = with_acsc (values ms) in
    let state : written bytes ≡ profile.state_with block (Some ms) =
    sym (was-written (profile.state_of (readings_by rule texts) block) bytes has) ∙ ap (profile.state_with block) expands in
    let values_drawn = lacking-values ms (sym (lacks-there t ms says) ∙ lacks) in
    is ∙ ap (in_place (written bytes) (image_limit u)) (entry_without (reading_of_text text).field u)
    ∙ ap (λ (field : List ℕ). in_place (written bytes) (image_limit u) (image field u)) (sym (ap (λ (b : Reading). b.field) (read_by rule text)))
    ∙ ap (λ (s : EntryState). in_place s (image_limit u) (image block.field u)) state
    ∙ ap (λ (v : Contents). in_place (profile.state_with block (Some ms)) (image_limit v) (image block.field v)) (sym values_drawn)
    ∙ ap (drawn_image true block) (sym expands)

-- of one that does not lack it, or does not resolve
pub image-stays : (rule : Rule) (texts : List (List ℕ)) (text bytes : List ℕ)
    → entry_in (profile.state_of (readings_by rule texts) (reading_by rule text)) ≡ Some bytes
    → ((ms : List Mention) → expansion (readings_by rule texts) (reading_by rule text) ≡ Some ms → lacks_acsc (contents ms) ≡ false)
    → written bytes ≡ drawn_image true (reading_by rule text) (expansion (readings_by rule texts) (reading_by rule text))
image-stays rule texts text bytes has not =
    sym (was-written (profile.state_of (readings_by rule texts) (reading_by rule text)) bytes has)
    ∙ kept-image true (reading_by rule text) (expansion (readings_by rule texts) (reading_by rule text)) not

-- of one that lacks it, with its user-defined capabilities
pub state-drawn : (rule : Rule) (texts : List (List ℕ)) (text bytes made : List ℕ) (t : Contents) → (h : IsWritten rule texts text bytes)
    → IsTableOfMentions t h.mentions → lacks_acsc t ≡ true
    → written made ≡ in_place (written bytes) (entry_limit (with_acsc (values h.mentions)) h.rows)
    (entry (reading_of_text text).field (with_acsc (values h.mentions)) h.rows)
    → IsDrawnState true rule texts text (written made)
state-drawn rule texts text bytes made t h says lacks is =
    let block = reading_of_text text in
    let ms = h.mentions in
    let rows = h.rows in
    let values_drawn = lacking-values ms (sym (lacks-there t ms says) ∙ lacks) in
    let limit = entry_limit (values ms) rows in
    let own = compiled.entry_with block ms rows in
    let state : written bytes ≡ compiled.state_with block ms rows =
    ap written (sym h.is) ∙ sym (ap (λ (b : Bool). cond b oversized (written own)) (le-ltb limit (length own) h.within)) in
    does_resolve
    (record {
      mentions = ms;
      user_mentions = h.user_mentions;
      rows = rows;
      expands = h.expands;
      user_expands = h.user_expands;
      are_rows = h.are_rows;
      is = is ∙ ap (λ (s : EntryState). in_place s (entry_limit (with_acsc (values ms)) rows) (entry block.field (with_acsc (values ms)) rows)) state
          ∙ ap (λ (v : Contents). in_place (compiled.state_with block ms rows) (entry_limit v rows) (entry block.field v rows)) (sym values_drawn);
    })

-- ---- its text

some-byte : (x : ℕ) (b : Bool) → (nat_lt 0 x && b) ≡ true → x ≡ 0 → ⊥
some-byte zero b e nul = false≢true e
some-byte (suc x) b e nul = omega (arith, nul)

both-true : (c b : Bool) → (c && b) ≡ true → b ≡ true
both-true true b e = e
both-true false b e = absurd (false≢true e)

no-nul : (t : List ℕ) → list_all (λ byte. nat_lt 0 byte) t ≡ true → HasNoNul t
no-nul [] all k d low nul = absurd (omega (arith, low))
no-nul (x ∷ xs) all zero d low nul = some-byte x (list_all (λ byte. nat_lt 0 byte) xs) all nul
no-nul (x ∷ xs) all (suc k) d low nul = no-nul xs (both-true (nat_lt 0 x) (list_all (λ byte. nat_lt 0 byte) xs) all) k d (omega (arith, low)) nul

pub acsc-has-no-nul : HasNoNul vt100_acsc
acsc-has-no-nul = no-nul vt100_acsc refl
