-- The edits of a rename are in the order of the text, and no two of them overlap.
use Rattle.std.proofs.Common.{◌≡◌, ℕ, zero, suc, ◌+◌, ◌==◌, All, Bool, true, false, cond, inl, inr, List, [], ◌∷◌, ◌++◌}
use Rattle.std.proofs.Common.{length, map, Option, None, Some, refl, subst, arith}
use Rattle.std.specs.Option.{option_map_or}
use Rattle.std.proofs.lemmas.Bool.{eq-eqb}
use Rattle.std.proofs.lemmas.List.Elements.{All-head, All-tail}
use Rattle.std.proofs.lemmas.List.Sums.{sum_by-cons}
use Rattle.ti_text.specs.Lines.{line_count}
use Rattle.ti_source.specs.Cutting.{last_byte}
use Rattle.source_spans.specs.Subjects.{TouchedSeen}
use Rattle.source_types.specs.declared.failures.Failure.{Failure}
use Rattle.source_types.specs.declared.failures.Failure.TheVariants.{NoName}
use Rattle.source_types.specs.declared.places.Position.{Position}
use Rattle.source_document.specs.Documents.{HeldBlocksFit, IsShortBlock, held}
use Rattle.source_places.specs.Position.{ends_line, place_after, step_over, units}
use Rattle.source_blocks.specs.Spots.{head_line, place_in}
use Rattle.source_blocks.specs.Symbols.{IsUpTo}
use Rattle.source_blocks.proofs.Selections.{rises_in, up_up}
use Rattle.source_names.specs.NameEdits.{NameEdit, Rename, edits_in}
use Rattle.source_names.specs.Names.{name_of, owner_of, touched_at}
use Rattle.source_names.specs.Renaming.{FollowFrom, RenameSeen, RenamedPartsFollow, can_be_renamed, edits_from, edits_of, failure_of, placed_edit, refuses}
use Rattle.source_names.specs.Renaming.{renamed, renamed_so, renamed_touched, renames, renames_nothing}
use Rattle.source_names.proofs.EditsRise.{EditsRise, edits_rise}

-- ---- the edits of a block

abbrev Follows : Position → Position → List RenameSeen → Type 0
Follows low high [] = IsUpTo low high
Follows low high (edit ∷ edits) = IsUpTo low edit.range.start × IsUpTo edit.range.start edit.range.end × Follows edit.range.end high edits

follows_lower : (low less high : Position) (edits : List RenameSeen) → IsUpTo low less → Follows less high edits → Follows low high edits
follows_lower low less high [] le r = up_up low less high le r
follows_lower low less high (edit ∷ edits) le r = (up_up low less edit.range.start le r.0, r.1, r.2)

follows_append : (low middle high : Position) (one other : List RenameSeen) → Follows low middle one → Follows middle high other
    → Follows low high (one ++ other)
follows_append low middle high [] other p q = follows_lower low middle high other p q
follows_append low middle high (edit ∷ edits) other p q = (p.0, p.1, follows_append edit.range.end middle high edits other p.2 q)

follows_in : (line : ℕ) (block : List ℕ) (low high : ℕ) (edits : List NameEdit) → EditsRise low high edits
    → Follows (place_in line block low) (place_in line block high) (map (placed_edit line block) edits)
follows_in line block low high [] r = rises_in line block low high r
follows_in line block low high (edit ∷ edits) r = (
  rises_in line block low edit.part.start r.0,
  rises_in line block edit.part.start edit.part.end r.1,
  follows_in line block edit.part.end high edits r.2,
)

-- ---- the end of a block is the start of the next line

-- the start of a line
abbrev start_of : ℕ → Position
start_of line = record { line = line; column = 0 }

-- a place after a byte is at the start of a line if the byte ends one
abbrev IsStart : ℕ → Position → Type 0
IsStart before place = before ≡ 10 → place.column ≡ 0

step_line : (newline ends : Bool) (place : Position) (n : ℕ)
    → (cond newline (record { line = place.line + 1; column = 0 }) (cond ends place (record { line = place.line; column = place.column + n }))).line
    ≡ place.line + cond newline 1 0
step_line true ends place n = refl
step_line false true place n = omega arith
step_line false false place n = omega arith

step_start : (newline ends : Bool) (place : Position) (n : ℕ) → newline ≡ true
    → (cond newline (record { line = place.line + 1; column = 0 }) (cond ends place (record { line = place.line; column = place.column + n }))).column ≡ 0
step_start true ends place n e = refl
step_start false ends place n e = absurd cc

pub lines_more : (byte : ℕ) (bytes : List ℕ) → line_count (byte ∷ bytes) ≡ cond (byte == 10) 1 0 + line_count bytes
lines_more byte bytes = sum_by-cons (λ (x : ℕ). cond (x == 10) 1 0) byte bytes

ends_at : (place : Position) (before : ℕ) (text : List ℕ) → last_byte before text ≡ 10 → IsStart before place
    → ((place_after place text (length text)).line ≡ place.line + line_count text) × ((place_after place text (length text)).column ≡ 0)
ends_at place before [] last start = (omega arith, start last)
ends_at place before (byte ∷ bytes) last start =
    let next = step_over (byte ∷ bytes) place in
    let begins : IsStart byte next = λ e. step_start (byte == 10) (ends_line (byte ∷ bytes)) place (units byte) (eq-eqb byte 10 e) in
    let h = ends_at next byte bytes last begins in
    (omega (arith, h.0, step_line (byte == 10) (ends_line (byte ∷ bytes)) place (units byte), lines_more byte bytes), h.1)

block_end : (line : ℕ) (block : List ℕ) → last_byte 0 block ≡ 10 → IsUpTo (place_in line block (length block)) (start_of (line + line_count block))
block_end line block last =
    let h = ends_at (start_of 0) 0 block last (λ e. refl) in
    inr (omega (arith, h.0), omega (arith, h.1))

block_start : (line : ℕ) (block : List ℕ) → IsUpTo (start_of line) (place_in line block 0)
block_start line [] = inr (omega arith, omega arith)
block_start line (byte ∷ bytes) = inr (omega arith, omega arith)

-- ---- all blocks

all_follow : (rename : Rename) (at line : ℕ) (rest : List (List ℕ)) → All IsShortBlock rest
    → (high : Position) × Follows (start_of line) high (edits_from rename at line rest)
all_follow rename at line [] short = (start_of line, inr (refl, omega arith))
all_follow rename at line (block ∷ rest) short =
    let next = line + line_count block in
    let end = place_in line block (length block) in
    let later = all_follow rename (suc at) next rest (All-tail IsShortBlock block rest short) in
    let here = map (placed_edit line block) (edits_in rename at block) in
    let before = follows_lower (start_of line) (place_in line block 0) end here (block_start line block)
    (follows_in line block 0 (length block) (edits_in rename at block) (edits_rise rename at block)) in
    let after = follows_lower end (start_of next) later.0 (edits_from rename (suc at) next rest)
    (block_end line block (All-head IsShortBlock block rest short).1.ends) later.1 in
    (later.0, follows_append (start_of line) end later.0 here (edits_from rename (suc at) next rest) before after)

from_start : (low high : Position) (edits : List RenameSeen) → Follows low high edits → FollowFrom low edits
from_start low high [] r = tt
from_start low high (edit ∷ edits) r = (r.0, r.1, from_start edit.range.end high edits r.2)

from_first : (low less : Position) (edits : List RenameSeen) → IsUpTo low less → FollowFrom less edits → FollowFrom low edits
from_first low less [] le r = tt
from_first low less (edit ∷ edits) le r = (up_up low less edit.range.start le r.0, r.1, r.2)

line_up : (line : ℕ) → IsUpTo (start_of 0) (start_of line)
line_up zero = inr (refl, omega arith)
line_up (suc line) = inl (omega arith)

-- ---- what is renamed

abbrev IsInOrder : List RenameSeen → Type 0
IsInOrder edits = FollowFrom (start_of 0) edits

edits_follow : HeldBlocksFit → (text : List ℕ) (rename : Rename) → IsInOrder (edits_of text rename)
edits_follow fit text rename =
    let line = head_line text in
    let edits = edits_of text rename in
    let all = all_follow rename 0 line (held text) (fit text).1 in
    from_first (start_of 0) (start_of line) edits (line_up line) (from_start (start_of line) all.0 edits all.1)

of_edits : HeldBlocksFit → (text : List ℕ) (rename : Rename) (can : Bool) (edits : List RenameSeen)
    → cond can (renames (edits_of text rename)) (refuses NoName) ≡ renames edits → IsInOrder edits
of_edits fit text rename true edits e = let same : edits_of text rename ≡ edits = cc in subst IsInOrder same (edits_follow fit text rename)
of_edits fit text rename false edits e = absurd cc

of_failure : HeldBlocksFit → (text : List ℕ) (rename : Rename) (failure : Option Failure) (edits : List RenameSeen)
    → option_map_or refuses failure (renamed_so text rename) ≡ renames edits → IsInOrder edits
of_failure fit text rename None edits e = of_edits fit text rename (can_be_renamed rename 0 (held text)) edits e
of_failure fit text rename (Some failure) edits e = absurd cc

of_owner : HeldBlocksFit → (text new name : List ℕ) (owner : Option ℕ) (edits : List RenameSeen)
    → option_map_or (λ at. renamed text (record { owner = at; name = name; new = new })) owner renames_nothing ≡ renames edits → IsInOrder edits
of_owner fit text new name None edits e = absurd cc
of_owner fit text new name (Some at) edits e =
    of_failure fit text (record { owner = at; name = name; new = new }) (failure_of (held text) at new) edits e

of_touched : HeldBlocksFit → (text new : List ℕ) (found : Option TouchedSeen) (edits : List RenameSeen)
    → option_map_or (renamed_touched text new) found renames_nothing ≡ renames edits → IsInOrder edits
of_touched fit text new None edits e = absurd cc
of_touched fit text new (Some touched) edits e = of_owner fit text new (name_of touched.subject) (owner_of (held text) touched) edits e

pub renamed_follow : HeldBlocksFit → RenamedPartsFollow
renamed_follow fit text place new edits e = of_touched fit text new (touched_at text place) edits e
