-- The entries with line graphics in the places of compiled ones.
use Rattle.std.proofs.Common.{◌≡◌, ◌⊎◌, ◌<◌, ℕ, zero, suc, Bool, true, false, List, [], ◌∷◌, ◌++◌, length, Option, None, Some, inl, inr}
use Rattle.std.proofs.Common.{option_and_then, option_map, slice_get, unwrap_or, refl, sym, ap, ◌∙◌, subst, arith}
use Rattle.std.specs.List.{AllZip}
use Rattle.std.proofs.lemmas.Option.{none-some, same_Some, slice_get-map}
use Rattle.ti_source.specs.declared.parsing.Rule.{Rule}
use Rattle.ti_source.specs.Parsing.{reading_of_text}
use Rattle.ti_source.specs.Reading.{Reading}
use Rattle.ti_layout.specs.Image.{image, image_limit}
use Rattle.ti_layout.specs.Values.{Mention}
use Rattle.base_meaning.specs.Compiled as profile
use Rattle.base_meaning.specs.Compiled.{EntryState, compiled_by, oversized, unresolved, written}
use Rattle.base_meaning.specs.Expansion.{expansion}
use Rattle.base_meaning.specs.Readings.{reading_by, readings_by}
use Rattle.user_kept.proofs.KeptStates.{zip_at}
use Rattle.user_extension.specs.Extension.{entry, entry_limit}
use Rattle.user_compiling.specs.Entries as compiled
use Rattle.user_compiling.specs.Entries.{AreStatesBy, IsStateBy, entry_in}
use Rattle.user_compiling.specs.Laws.{profile_states_by}
use Rattle.everyday_graphics.specs.Entries.{IsDrawnState, IsWrittenState, does_not_resolve, does_resolve, drawn_image, in_place}
use Rattle.everyday_graphics.specs.Graphics.{drawn_values}
use Rattle.everyday_graphics.proofs.Drawn.{kept-image, none-drawn}
use Rattle.everyday_tic.specs.Entries.{BecomeThese, entry_at}
use Rattle.everyday_tic.specs.inside.States.{option_flat, over, put}

-- ---- an entry in the place of another

pub some_over : (states : List EntryState) (others : List (Option (List ℕ))) (at : ℕ) (bytes : List ℕ) → at < length states
    → option_flat (slice_get others at) ≡ Some bytes → entry_at (over states others) at ≡ Some bytes
some_over [] others at bytes low e = absurd (omega (arith, low))
some_over (s ∷ ss) [] at bytes low e = absurd (none-some bytes e)
some_over (s ∷ ss) (o ∷ os) zero bytes low e = ap (λ (x : Option (List ℕ)). entry_in (put s x)) e
some_over (s ∷ ss) (o ∷ os) (suc at) bytes low e = some_over ss os at bytes (omega (arith, low)) e

pub none_over : (states : List EntryState) (others : List (Option (List ℕ))) (at : ℕ) → option_flat (slice_get others at) ≡ None
    → entry_at (over states others) at ≡ entry_at states at
none_over [] others at e = refl
none_over (s ∷ ss) [] at e = refl
none_over (s ∷ ss) (o ∷ os) zero e = ap (λ (x : Option (List ℕ)). entry_in (put s x)) e
none_over (s ∷ ss) (o ∷ os) (suc at) e = none_over ss os at e

put-written : (o : Option (List ℕ)) (bytes : List ℕ) → written (unwrap_or o bytes) ≡ put (written bytes) o
put-written None bytes = refl
put-written (Some other) bytes = refl

-- ---- each block by its position

-- this is written of a block, by what is put in the place of what became of it
abbrev pub IsPut : (List ℕ → EntryState → Type 0) → List (List ℕ) → List EntryState → List (Option (List ℕ)) → ℕ → Type 0
IsPut R texts states others k =
    (text : List ℕ) (state : EntryState) (other : Option (List ℕ)) → slice_get texts k ≡ Some text → slice_get states k ≡ Some state
    → slice_get others k ≡ Some other → R text (put state other)

pub all_over : (R : List ℕ → EntryState → Type 0) (texts : List (List ℕ)) (states : List EntryState) (others : List (Option (List ℕ)))
    → length states ≡ length texts → length others ≡ length texts → ((k : ℕ) → IsPut R texts states others k) → AllZip R texts (over states others)
all_over R [] [] others e f each = tt
all_over R [] (s ∷ ss) others e f each = absurd (omega (arith, e))
all_over R (t ∷ ts) [] others e f each = absurd (omega (arith, e))
all_over R (t ∷ ts) (s ∷ ss) [] e f each = absurd (omega (arith, f))
all_over R (t ∷ ts) (s ∷ ss) (o ∷ os) e f each =
    (each zero t s o refl refl refl, all_over R ts ss os (omega (arith, e)) (omega (arith, f)) (λ k. each (suc k)))

pub pushed-at : {X : Type 0} (xs : List X) (x y : X) (k : ℕ) → slice_get (xs ++ x ∷ []) k ≡ Some y
    → (slice_get xs k ≡ Some y) ⊎ ((k ≡ length xs) × (x ≡ y))
pushed-at [] x y zero e = inr (refl, same_Some x y e)
pushed-at [] x y (suc k) e = absurd (none-some y e)
pushed-at (z ∷ zs) x y zero e = inl e
pushed-at (z ∷ zs) x y (suc k) e = elim (pushed-at zs x y k e) [ inl there ↦ inl there | inr last ↦ inr (omega (arith, last.0), last.1) ]

-- one more
pub one_put : (R : List ℕ → EntryState → Type 0) (texts : List (List ℕ)) (states : List EntryState) (others next : List (Option (List ℕ))) (at : ℕ)
    (other : Option (List ℕ)) → length others ≡ at → next ≡ others ++ other ∷ [] → ((k : ℕ) → IsPut R texts states others k)
    → ((text : List ℕ) (state : EntryState) → slice_get texts at ≡ Some text → slice_get states at ≡ Some state → R text (put state other))
    → (k : ℕ) → IsPut R texts states next k
one_put R texts states others next at other many is each here k text state o stands becomes there =
    elim (pushed-at others other o k (ap (λ (os : List (Option (List ℕ))). slice_get os k) (sym is) ∙ there)) [
      | inl before ↦ each k text state o stands becomes before
      | inr last ↦
          let place : at ≡ k = omega (arith, many, last.0) in
          subst (λ (x : Option (List ℕ)). R text (put state x)) last.1
          (here text state (ap (slice_get texts) place ∙ stands) (ap (slice_get states) place ∙ becomes))
    ]

-- ---- what is written of a block

-- what became of a block that has an entry
was-written : (state : EntryState) (bytes : List ℕ) → entry_in state ≡ Some bytes → state ≡ written bytes
was-written unresolved bytes e = absurd (none-some bytes e)
was-written oversized bytes e = absurd (none-some bytes e)
was-written (written found) bytes e = ap written (same_Some found bytes e)

-- nothing is put in the place of what is not written
void-place : (state : EntryState) (limit : ℕ) (other : List ℕ) → entry_in state ≡ None → state ≡ in_place state limit other
void-place unresolved limit other e = refl
void-place oversized limit other e = refl
void-place (written bytes) limit other e = absurd (none-some bytes (sym e))

void-state : (draws : Bool) (rule : Rule) (texts : List (List ℕ)) (text : List ℕ) (state : EntryState) → IsStateBy rule texts text state
    → entry_in state ≡ None → IsDrawnState draws rule texts text state
void-state draws rule texts text _ (compiled.does_not_resolve none) void = does_not_resolve none
void-state draws rule texts text _ (compiled.does_resolve {state = state} h) void =
    let u = drawn_values draws h.mentions in
    let limit = entry_limit u h.rows in
    let other = entry (reading_of_text text).field u h.rows in
    does_resolve
    (record {
      mentions = h.mentions;
      user_mentions = h.user_mentions;
      rows = h.rows;
      expands = h.expands;
      user_expands = h.user_expands;
      are_rows = h.are_rows;
      is = void-place state limit other void ∙ ap (λ (s : EntryState). in_place s limit other) h.is;
    })

void-image : (draws : Bool) (block : Reading) (found : Option (List Mention)) → entry_in (profile.state_with block found) ≡ None
    → profile.state_with block found ≡ drawn_image draws block found
void-image draws block None void = refl
void-image draws block (Some ms) void =
    void-place (profile.state_with block (Some ms)) (image_limit (drawn_values draws ms)) (image block.field (drawn_values draws ms)) void

-- what becomes of the block at a position in the profile
profile-at : (rule : Rule) (texts : List (List ℕ)) (at : ℕ) (text : List ℕ) (state : EntryState) → slice_get texts at ≡ Some text
    → slice_get (profile_states_by rule texts) at ≡ Some state → state ≡ profile.state_of (readings_by rule texts) (reading_by rule text)
profile-at rule texts at text state stands becomes =
    let of : List ℕ → EntryState = λ t. profile.state_of (readings_by rule texts) (reading_by rule t) in
    same_Some state (of text) (sym becomes ∙ slice_get-map of texts at ∙ ap (option_map of) stands)

module _ (rule : Rule) (texts : List (List ℕ)) (states : List EntryState) (at : ℕ) (text : List ℕ) (state : EntryState)
    (stands : slice_get texts at ≡ Some text) (becomes : slice_get states at ≡ Some state)
  where
    -- if nothing is drawn, what became of it
    pub undrawn : (user_defined : Bool) → BecomeThese rule user_defined texts states → IsWrittenState rule user_defined false texts text state
    undrawn true are = none-drawn rule texts text state (zip_at (IsStateBy rule texts) texts states at text state are stands becomes)
    undrawn false are =
        let is = profile-at rule texts at text state stands (ap (λ (ss : List EntryState). slice_get ss at) (sym are) ∙ becomes) in
        is ∙ kept-image false (reading_by rule text) (expansion (readings_by rule texts) (reading_by rule text)) (λ ms e. refl)

    -- if it has no entry, that
    pub unwritten : (user_defined : Bool) → BecomeThese rule user_defined texts states → entry_at states at ≡ None
        → IsWrittenState rule user_defined true texts text state
    unwritten user_defined are none = by_kind user_defined are
      where
        void : entry_in state ≡ None
        void = sym (ap (option_and_then entry_in) becomes) ∙ none

        by_kind : (u : Bool) → BecomeThese rule u texts states → IsWrittenState rule u true texts text state
        by_kind true is = void-state true rule texts text state (zip_at (IsStateBy rule texts) texts states at text state is stands becomes) void
        by_kind false is =
            let same = profile-at rule texts at text state stands (ap (λ (ss : List EntryState). slice_get ss at) (sym is) ∙ becomes) in
            same ∙ void-image true (reading_by rule text) (expansion (readings_by rule texts) (reading_by rule text)) (sym (ap entry_in same) ∙ void)

    -- that of a block with an entry
    pub has-written : (bytes : List ℕ) → entry_at states at ≡ Some bytes → state ≡ written bytes
    has-written bytes is = was-written state bytes (sym (ap (option_and_then entry_in) becomes) ∙ is)

-- an entry that was compiled with user-defined capabilities is that of its block
pub compiled-there : (rule : Rule) (texts : List (List ℕ)) (states : List EntryState) (at : ℕ) (text bytes : List ℕ) → AreStatesBy rule texts states
    → slice_get texts at ≡ Some text → entry_at states at ≡ Some bytes → IsStateBy rule texts text (written bytes)
compiled-there rule texts states at text bytes are stands is = by_state (slice_get states at) refl
  where
    by_state : (found : Option EntryState) → slice_get states at ≡ found → IsStateBy rule texts text (written bytes)
    by_state None e = absurd (none-some bytes (sym (ap (option_and_then entry_in) e) ∙ is))
    by_state (Some state) e =
        zip_at (IsStateBy rule texts) texts states at text (written bytes) are stands
        (e ∙ ap (λ (s : EntryState). Some s) (was-written state bytes (sym (ap (option_and_then entry_in) e) ∙ is)))

-- with an entry in the place of its own
pub put-there : (R : EntryState → Type 0) (state : EntryState) (bytes : List ℕ) (o : Option (List ℕ)) → state ≡ written bytes
    → R (written (unwrap_or o bytes)) → R (put state o)
put-there R state bytes o is there = subst (λ (s : EntryState). R (put s o)) (sym is) (subst R (put-written o bytes) there)
