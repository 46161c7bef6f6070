-- The entry that a block's table gives is the one that its mentions give.
use Rattle.std.proofs.Common.{◌≡◌, ℕ, ◌<◌, ◌≤◌, Bool, true, false, cond, List, length, nat_lt, Option, Some, None, refl, sym, ◌∙◌, ap}
use Rattle.std.proofs.lemmas.Bool.{lt-ltb, le-ltb}
use Rattle.std.proofs.lemmas.Option.{same_Some, none-some}
use Rattle.ti_source.specs.Reading.{Reading}
use Rattle.ti_layout.specs.Values.{Content, content_true, content_number, content_text, content_cancelled, Contents, Mention, contents}
use Rattle.ti_layout.specs.Image.{image, image_limit}
use Rattle.ti_layout.specs.Laws.{without_cancel, ShowSame}
use Rattle.ti_layout.proofs.OfValues.{images_are_of_values, limits_are_of_values}
use Rattle.base_meaning.specs.Expansion.{values, is_broken, expansion}
use Rattle.base_meaning.specs.Compiled.{image_of, is_too_large, entry_of, EntryState, oversized, written, state_of}
use Rattle.base_meaning.specs.ValueTables.{IsTableOfMentions}

uncancelled-twice : (o : Option Content) → without_cancel (without_cancel o) ≡ without_cancel o
uncancelled-twice None = refl
uncancelled-twice (Some content_true) = refl
uncancelled-twice (Some (content_number n)) = refl
uncancelled-twice (Some (content_text t)) = refl
uncancelled-twice (Some content_cancelled) = refl

show_same : (t : Contents) (ms : List Mention) → IsTableOfMentions t ms → ShowSame t (values ms)
show_same t ms h c valid = ap without_cancel (h c valid) ∙ sym (uncancelled-twice (contents ms c))

-- a table that says what the mentions say has their image, and its limit
pub image_says : (names : List ℕ) (t : Contents) (ms : List Mention) → IsTableOfMentions t ms → image names t ≡ image names (values ms)
image_says names t ms h = images_are_of_values names t (values ms) (show_same t ms h)

pub limit_says : (t : Contents) (ms : List Mention) → IsTableOfMentions t ms → image_limit t ≡ image_limit (values ms)
limit_says t ms h = limits_are_of_values t (values ms) (show_same t ms h)

pub within_limit : (b : Reading) (ms : List Mention) (bytes : List ℕ) → bytes ≡ image_of b ms → length bytes ≤ image_limit (values ms)
    → ◌≡◌ {A = Option (List ℕ)} (Some bytes) (entry_of b ms)
within_limit b ms bytes e l =
    let small : nat_lt (image_limit (values ms)) (length (image_of b ms)) ≡ false = le-ltb (image_limit (values ms)) (length (image_of b ms)) (rw (← e) l) in
    rw (small, e) refl

pub over_limit : (b : Reading) (ms : List Mention) → image_limit (values ms) < length (image_of b ms) → ◌≡◌ {A = Option (List ℕ)} None (entry_of b ms)
over_limit b ms l =
    let large : nat_lt (image_limit (values ms)) (length (image_of b ms)) ≡ true = lt-ltb (image_limit (values ms)) (length (image_of b ms)) l in
    rw large refl

if_within : (large : Bool) (i bytes : List ℕ) → Some bytes ≡ cond large None (Some i) → written bytes ≡ cond large oversized (written i)
if_within true i bytes e = absurd (none-some bytes (sym e))
if_within false i bytes e = ap (λ x. written x) (same_Some bytes i e)

if_over : (large : Bool) (i : List ℕ) → None ≡ cond large None (Some i) → oversized ≡ cond large oversized (written i)
if_over true i e = refl
if_over false i e = absurd (none-some i e)

-- the state that such an entry shows
abbrev pub state_with_entry : Option (List ℕ) → EntryState
state_with_entry None = oversized
state_with_entry (Some bytes) = written bytes

-- the state of a block that has a table
pub state_seen_of : (bs : List Reading) (b : Reading) (ms : List Mention) (o : Option (List ℕ)) → expansion bs b ≡ Some ms → o ≡ entry_of b ms
    → state_with_entry o ≡ state_of bs b
state_seen_of bs b ms (Some bytes) e h = rw e (if_within (is_too_large b ms) (image_of b ms) bytes h)
state_seen_of bs b ms None e h = rw e (if_over (is_too_large b ms) (image_of b ms) h)

-- a block that has an expansion is sound
if_sound : (broken : Bool) (o : Option (List Mention)) (ms : List Mention) → cond broken None o ≡ Some ms → broken ≡ false
if_sound true o ms e = absurd (none-some ms e)
if_sound false o ms e = refl

pub sound_of_expansion : (bs : List Reading) (b : Reading) (ms : List Mention) → expansion bs b ≡ Some ms → is_broken b ≡ false
sound_of_expansion bs b ms e = if_sound (is_broken b) _ ms e
