-- The text of a document once the edits of a rename are made.
use Rattle.std.proofs.Common.{◌≡◌, ℕ, zero, suc, ◌+◌, ◌-◌, ◌<◌, ◌≤◌, ◌&&◌, All, Bool, true, false, cond, List, [], ◌∷◌, ◌++◌, append_assoc, drop}
use Rattle.std.proofs.Common.{length, map, max, take, Option, None, Some, refl, sym, ap, ap₂, subst, ◌∙◌, arith}
use Rattle.std.specs.List.{concat, list_all, slice_range}
use Rattle.std.specs.Option.{option_map_or}
use Rattle.std.proofs.Math.Nat.{max-eq_right}
use Rattle.std.proofs.lemmas.Bool.{and_parts, ltb-true}
use Rattle.std.proofs.lemmas.List.{drop-take, length-append, length-take-le, take-append-le}
use Rattle.std.proofs.lemmas.List.Elements.{All-head, All-tail}
use Rattle.std.proofs.lemmas.Option.{none-some}
use Rattle.ti_text.specs.Lines.{line_count}
use Rattle.ti_text.specs.Texts.{last_byte}
use Rattle.ti_text.proofs.LineLaws.{lines_add}
use Rattle.ti_source.specs.Cutting.{AreBlocks, OneBlock}
use Rattle.ti_source.proofs.CutLemmas.{each_has_cut}
use Rattle.base_meaning.specs.Owner.{owner, readings}
use Rattle.tools_sources.specs.Sources.{preface_of, source_refusal, source_texts, with_last_newline}
use Rattle.tools_sources.specs.declared.source_error.SourceError.{SourceError}
use Rattle.source_keeping.specs.Keeping.{EditsInLinesKeepLines, KeepsLines, goes_on_line, open_line, stays_in_line}
use Rattle.source_keeping.proofs.Held.{stays_held}
use Rattle.source_spans.specs.Subjects.{TouchedSeen}
use Rattle.source_types.specs.declared.failures.Failure.{Failure}
use Rattle.source_types.specs.declared.failures.Failure.TheVariants.{NameTaken, NoName}
use Rattle.source_document.specs.Documents.{HeldBlocksFit, IsShortBlock, held, unless_refused}
use Rattle.source_places.specs.Splicing.{spliced}
use Rattle.source_blocks.specs.Giving.{can_be_given}
use Rattle.source_blocks.specs.Places.{missing_newline}
use Rattle.source_blocks.proofs.Placing.{IsMissing, ended_with, leads, missing_is, missing_size, spliced_in, spliced_more}
use Rattle.source_names.specs.Edited.{IsRenaming, RenamesAreApplied, blocks_renamed, client_renamed, edit_at, edited, edits_at}
use Rattle.source_names.specs.NameEdits.{NameEdit, Rename, can_be_put, edits_in}
use Rattle.source_names.specs.Names.{name_of, owner_of, touched_at}
use Rattle.source_names.specs.Renaming.{RenameSeen, can_be_renamed, edits_from, edits_of, failure_of, is_taken, placed_edit, refuses, renamed, renamed_so}
use Rattle.source_names.specs.Renaming.{renamed_touched, renames, renames_nothing}
use Rattle.source_names.proofs.EditsRise.{EditsRise, edits_join, edits_rise}

-- ---- edits that are made from the last on

shifted : ℕ → NameEdit → NameEdit
shifted size edit = record { part = record { start = size + edit.part.start; end = size + edit.part.end }; text = edit.text }

all_shifted : ℕ → List NameEdit → List NameEdit
all_shifted size [] = []
all_shifted size (edit ∷ edits) = shifted size edit ∷ all_shifted size edits

both_edited : (text : List ℕ) (one other : List NameEdit) → edited text (one ++ other) ≡ edited (edited text other) one
both_edited text [] other = refl
both_edited text (edit ∷ edits) other = ap (λ (t : List ℕ). spliced t edit.part.start edit.part.end edit.text) (both_edited text edits other)

-- what is before the edits stays
still_long : (text : List ℕ) (low high : ℕ) (edits : List NameEdit) → high ≤ length text → EditsRise low high edits → low ≤ length (edited text edits)
still_long text low high [] within r = omega (arith, within, r)
still_long text low high (edit ∷ edits) within r =
    let later = edited text edits in
    let start = edit.part.start in
    let end = edit.part.end in
    let long = still_long text end high edits within r.2 in
    let lower = r.0 in
    let forward = r.1 in
    let first = length-take-le start later (omega (arith, long, forward)) in
    let size : length ((take start later ++ edit.text) ++ drop (max start end) later)
    ≡ (length (take start later) + length edit.text) + length (drop (max start end) later) =
    length-append (take start later ++ edit.text) (drop (max start end) later)
    ∙ ap (λ (n : ℕ). n + length (drop (max start end) later)) (length-append (take start later) edit.text) in
    omega (arith, lower, first, size)

-- a text without its end is edited as the text is
more_edited : (text more : List ℕ) (low high : ℕ) (edits : List NameEdit) → high ≤ length text → EditsRise low high edits
    → edited (text ++ more) edits ≡ edited text edits ++ more
more_edited text more low high [] within r = refl
more_edited text more low high (edit ∷ edits) within r =
    ap (λ (t : List ℕ). spliced t edit.part.start edit.part.end edit.text) (more_edited text more edit.part.end high edits within r.2)
    ∙ spliced_more (edited text edits) more edit.text edit.part.start edit.part.end r.1 (still_long text edit.part.end high edits within r.2)

one_exchanged : (front block back new : List ℕ) (start end : ℕ) → start ≤ end → end ≤ length block
    → spliced (front ++ (block ++ back)) (length front + start) (length front + end) new ≡ front ++ (spliced block start end new ++ back)
one_exchanged front block back new start end forward within =
    spliced_in front block back (record { start = start; end = end }) new forward within
    ∙ ap (λ (n : ℕ). front ++ (((take start block ++ new) ++ drop n block) ++ back)) (sym (max-eq_right forward))

block_edited : (front block back : List ℕ) (low : ℕ) (edits : List NameEdit) → EditsRise low (length block) edits
    → edited (front ++ (block ++ back)) (all_shifted (length front) edits) ≡ front ++ (edited block edits ++ back)
unfolding all_shifted shifted
block_edited front block back low [] r = refl
block_edited front block back low (edit ∷ edits) r =
    ap (λ (t : List ℕ). spliced t (length front + edit.part.start) (length front + edit.part.end) edit.text)
    (block_edited front block back edit.part.end edits r.2)
    ∙ one_exchanged front (edited block edits) back edit.text edit.part.start edit.part.end r.1
    (still_long block edit.part.end (length block) edits (omega arith) r.2)

-- ---- the edits of all blocks, as edits of the text

edits_after : Rename → (at size : ℕ) → List (List ℕ) → List NameEdit
edits_after rename at size [] = []
edits_after rename at size (block ∷ rest) = all_shifted size (edits_in rename at block) ++ edits_after rename (suc at) (size + length block) rest

all_blocks : (rename : Rename) (at : ℕ) (front : List ℕ) (rest : List (List ℕ))
    → edited (front ++ concat rest) (edits_after rename at (length front) rest) ≡ front ++ concat (blocks_renamed rename at rest)
unfolding edits_after
all_blocks rename at front [] = refl
all_blocks rename at front (block ∷ rest) =
    let edits = edits_in rename at block in
    let here = all_shifted (length front) edits in
    let later = edits_after rename (suc at) (length front + length block) rest in
    let back = concat (blocks_renamed rename (suc at) rest) in
    let next : edited (front ++ (block ++ concat rest)) later ≡ front ++ (block ++ back) =
    ap₂ (λ (t : List ℕ) (n : ℕ). edited t (edits_after rename (suc at) n rest)) (sym (append_assoc front block (concat rest)))
    (sym (length-append front block))
    ∙ all_blocks rename (suc at) (front ++ block) rest ∙ append_assoc front block back in
    both_edited (front ++ (block ++ concat rest)) here later ∙ ap (λ (t : List ℕ). edited t here) next
    ∙ block_edited front block back 0 edits (edits_rise rename at block)

-- ---- they are in order

edits_shift : (size low high : ℕ) (edits : List NameEdit) → EditsRise low high edits → EditsRise (size + low) (size + high) (all_shifted size edits)
unfolding all_shifted shifted
edits_shift size low high [] r = omega (arith, r)
edits_shift size low high (edit ∷ edits) r =
    let a = r.0 in
    let b = r.1 in
    (omega (arith, a), omega (arith, b), edits_shift size edit.part.end high edits r.2)

all_rise : (rename : Rename) (at size : ℕ) (rest : List (List ℕ)) → EditsRise size (size + length (concat rest)) (edits_after rename at size rest)
unfolding edits_after
all_rise rename at size [] = omega arith
all_rise rename at size (block ∷ rest) =
    let edits = edits_in rename at block in
    let later = edits_after rename (suc at) (size + length block) rest in
    let here : EditsRise size (size + length block) (all_shifted size edits) =
    subst (λ (n : ℕ). EditsRise n (size + length block) (all_shifted size edits)) (plus_none size)
    (edits_shift size 0 (length block) edits (edits_rise rename at block)) in
    let sum : (size + length block) + length (concat rest) ≡ size + length (block ++ concat rest) =
    let both = length-append block (concat rest) in omega (arith, both) in
    subst (λ (n : ℕ). EditsRise size n (all_shifted size edits ++ later)) sum
    (edits_join size (size + length block) ((size + length block) + length (concat rest)) (all_shifted size edits) later here
    (all_rise rename (suc at) (size + length block) rest))
  where
    plus_none : (n : ℕ) → n + 0 ≡ n
    plus_none n = omega arith

-- ---- what is known of each edit of a block, and of each edit of the text

-- each edit of a block can be put in its place
AllPut : List ℕ → List NameEdit → Type 0
AllPut block [] = Unit {0}
AllPut block (edit ∷ edits) = (can_be_put block edit ≡ true) × AllPut block edits

all_put : (block : List ℕ) (edits : List NameEdit) → list_all (can_be_put block) edits ≡ true → AllPut block edits
unfolding AllPut
all_put block [] e = tt
all_put block (edit ∷ edits) e = let both = and_parts _ _ e in (both.0, all_put block edits both.1)

record IsPut (block : List ℕ) (edit : NameEdit) : Type 0 where
  start : edit.part.start < length block
  start_is : can_be_put block edit ≡ true
  end : edit.part.end < length block
  stays : stays_in_line block edit.part.start edit.part.end edit.text ≡ true

is_put : (block : List ℕ) (edit : NameEdit) → can_be_put block edit ≡ true → IsPut block edit
is_put block edit e =
    let both = and_parts _ _ (and_parts _ _ e).0 in
    let ends = and_parts _ _ both.0 in
    record {
      start = ltb-true edit.part.start (length block) (and_parts _ _ ends.0).0;
      start_is = e;
      end = ltb-true edit.part.end (length block) (and_parts _ _ ends.1).0;
      stays = (and_parts _ _ both.1).1;
    }

-- each edit ends up to an offset, and stays within a line of a text
AllStay : ℕ → List ℕ → List NameEdit → Type 0
AllStay high text [] = Unit {0}
AllStay high text (edit ∷ edits) =
    (edit.part.end ≤ high) × (stays_in_line text edit.part.start edit.part.end edit.text ≡ true) × AllStay high text edits

stay_both : (high : ℕ) (text : List ℕ) (one other : List NameEdit) → AllStay high text one → AllStay high text other → AllStay high text (one ++ other)
unfolding AllStay
stay_both high text [] other p q = q
stay_both high text (edit ∷ edits) other p q = (p.0, p.1, stay_both high text edits other p.2 q)

tighter : (text : List ℕ) (low high less : ℕ) (edits : List NameEdit) → low ≤ less → AllStay less text edits → EditsRise low high edits
    → EditsRise low less edits
unfolding AllStay
tighter text low high less [] le all r = le
tighter text low high less (edit ∷ edits) le all r = (r.0, r.1, tighter text edit.part.end high less edits all.0 all.2 r.2)

-- ---- an edit within a line of a block is within a line of the text

block_stays : (text more front block back : List ℕ) (low : ℕ) (edits : List NameEdit) → text ++ more ≡ front ++ (block ++ back) → last_byte 10 front ≡ 10
    → length front + length block ≤ suc (length text) → EditsRise low (length block) edits → AllPut block edits
    → AllStay (length text) text (all_shifted (length front) edits)
unfolding AllStay AllPut all_shifted shifted
block_stays text more front block back low [] whole ends room r all = tt
block_stays text more front block back low (edit ∷ edits) whole ends room r all =
    let put = is_put block edit all.0 in
    let last = put.end in
    let inside : length front + edit.part.end ≤ length text = omega (arith, last, room) in (
      inside,
      stays_held text more front block back edit.part.start edit.part.end edit.text whole ends r.1 (omega (arith, last)) inside put.stays,
      block_stays text more front block back edit.part.end edits whole ends room r.2 all.1,
    )

-- ---- the ranges lead to them

edits_both : (text : List ℕ) (one other : List RenameSeen) → edits_at text (one ++ other) ≡ edits_at text one ++ edits_at text other
edits_both text [] other = refl
edits_both text (edit ∷ edits) other = ap (λ (t : List NameEdit). edit_at text edit ∷ t) (edits_both text edits other)

edit_leads : (text more front block back : List ℕ) (edit : NameEdit) → IsMissing more → text ++ more ≡ front ++ (block ++ back) → last_byte 10 front ≡ 10
    → last_byte 10 block ≡ 10 → can_be_put block edit ≡ true
    → edit_at text (placed_edit (line_count front) block edit) ≡ shifted (length front) edit
unfolding shifted
edit_leads text more front block back edit missing whole ends one can =
    let both = and_parts _ _ (and_parts _ _ (and_parts _ _ can).0).0 in
    let start = and_parts _ _ both.0 in
    let end = and_parts _ _ both.1 in
    ap₂ (λ (a b : ℕ). record { part = record { start = a; end = b }; text = edit.text })
    (leads text more front block back edit.part.start missing whole ends one (ltb-true edit.part.start (length block) start.0) start.1)
    (leads text more front block back edit.part.end missing whole ends one (ltb-true edit.part.end (length block) end.0) end.1)

block_leads : (text more front block back : List ℕ) (edits : List NameEdit) → IsMissing more → text ++ more ≡ front ++ (block ++ back)
    → last_byte 10 front ≡ 10 → last_byte 10 block ≡ 10 → AllPut block edits
    → edits_at text (map (placed_edit (line_count front) block) edits) ≡ all_shifted (length front) edits
unfolding all_shifted AllPut
block_leads text more front block back [] missing whole ends one all = refl
block_leads text more front block back (edit ∷ edits) missing whole ends one all =
    ap₂ (λ (p : NameEdit) (ps : List NameEdit). p ∷ ps) (edit_leads text more front block back edit missing whole ends one all.0)
    (block_leads text more front block back edits missing whole ends one all.1)

block_ends : (block : List ℕ) → OneBlock block → last_byte 10 block ≡ 10
block_ends [] single = refl
block_ends (x ∷ xs) single = single.ends

last_both : (before : ℕ) (one other : List ℕ) → last_byte before (one ++ other) ≡ last_byte (last_byte before one) other
last_both before [] other = refl
last_both before (x ∷ xs) other = last_both x xs other

-- all of them, and each is within a line of the text
record Lead (text : List ℕ) (rename : Rename) (at : ℕ) (front : List ℕ) (rest : List (List ℕ)) : Type 0 where
  lead : edits_at text (edits_from rename at (line_count front) rest) ≡ edits_after rename at (length front) rest
  stay : AllStay (length text) text (edits_after rename at (length front) rest)

all_lead : (text more : List ℕ) (rename : Rename) (at : ℕ) (front : List ℕ) (rest : List (List ℕ)) → IsMissing more → text ++ more ≡ front ++ concat rest
    → last_byte 10 front ≡ 10 → All IsShortBlock rest → can_be_renamed rename at rest ≡ true
    → Lead text rename at front rest
unfolding edits_after AllStay
all_lead text more rename at front [] missing whole ends short can = record { lead = refl; stay = tt }
all_lead text more rename at front (block ∷ rest) missing whole ends short can =
    let both = and_parts _ _ can in
    let edits = edits_in rename at block in
    let put = all_put block edits both.0 in
    let single = (All-head IsShortBlock block rest short).1 in
    let one = block_ends block single in
    let few = missing_size more missing in
    let size : length text + length more ≡ length front + (length block + length (concat rest)) =
    sym (length-append text more) ∙ ap length whole ∙ length-append front (block ++ concat rest)
    ∙ ap (λ (n : ℕ). length front + n) (length-append block (concat rest)) in
    let here = block_leads text more front block (concat rest) edits missing whole ends one put in
    let here_stay = block_stays text more front block (concat rest) 0 edits whole ends (omega (arith, size, few)) (edits_rise rename at block) put in
    let next_ends : last_byte 10 (front ++ block) ≡ 10 = last_both 10 front block ∙ ap (λ (b : ℕ). last_byte b block) ends ∙ one in
    let later = all_lead text more rename (suc at) (front ++ block) rest missing (whole ∙ sym (append_assoc front block (concat rest))) next_ends
    (All-tail IsShortBlock block rest short) both.1 in
    let next : edits_at text (edits_from rename (suc at) (line_count front + line_count block) rest)
    ≡ edits_after rename (suc at) (length front + length block) rest =
    ap (λ (n : ℕ). edits_at text (edits_from rename (suc at) n rest)) (sym (lines_add front block)) ∙ later.lead
    ∙ ap (λ (n : ℕ). edits_after rename (suc at) n rest) (length-append front block) in
    record {
      lead = edits_both text (map (placed_edit (line_count front) block) edits) (edits_from rename (suc at) (line_count front + line_count block) rest)
          ∙ ap₂ (λ (a b : List NameEdit). a ++ b) here next;
      stay = stay_both (length text) text (all_shifted (length front) edits) (edits_after rename (suc at) (length front + length block) rest) here_stay
          (subst (λ (n : ℕ). AllStay (length text) text (edits_after rename (suc at) n rest)) (length-append front block) later.stay);
    }

-- ---- edits within lines keep the lines

none_taken : (xs ys : List ℕ) → take zero xs ≡ take zero ys
none_taken [] [] = refl
none_taken [] (y ∷ ys) = refl
none_taken (x ∷ xs) [] = refl
none_taken (x ∷ xs) (y ∷ ys) = refl

taken : (n m : ℕ) (xs : List ℕ) → n ≤ m → take n (take m xs) ≡ take n xs
taken zero m xs le = none_taken (take m xs) xs
taken (suc n) zero xs le = absurd (omega (arith, le))
taken (suc n) (suc m) [] le = refl
taken (suc n) (suc m) (x ∷ xs) le = ap (λ (t : List ℕ). x ∷ t) (taken n m xs (omega (arith, le)))

-- what is before the edits
front_same : (text : List ℕ) (n low high : ℕ) (edits : List NameEdit) → n ≤ low → high ≤ length text → EditsRise low high edits
    → take n (edited text edits) ≡ take n text
front_same text n low high [] less within r = refl
front_same text n low high (edit ∷ edits) less within r =
    let later = edited text edits in
    let start = edit.part.start in
    let end = edit.part.end in
    let long = still_long text end high edits within r.2 in
    let lower = r.0 in
    let forward = r.1 in
    let first = length-take-le start later (omega (arith, long, forward)) in
    let both = length-append (take start later) edit.text in
    take-append-le n (take start later ++ edit.text) (drop (max start end) later) (omega (arith, first, both, less, lower))
    ∙ take-append-le n (take start later) edit.text (omega (arith, first, less, lower))
    ∙ taken n start later (omega (arith, less, lower))
    ∙ front_same text n end high edits (omega (arith, less, lower, forward)) within r.2

stays_later : (text : List ℕ) (high : ℕ) (edit : NameEdit) (edits : List NameEdit) → high ≤ length text → edit.part.start ≤ edit.part.end
    → EditsRise edit.part.end high edits → stays_in_line text edit.part.start edit.part.end edit.text ≡ true
    → stays_in_line (edited text edits) edit.part.start edit.part.end edit.text ≡ true
stays_later text high edit edits within forward r stays =
    let start = edit.part.start in
    let end = edit.part.end in
    let later = edited text edits in
    let front = front_same text start end high edits forward within r in
    let whole = front_same text end end high edits (omega arith) within r in
    let old : slice_range later start end ≡ slice_range text start end =
    sym (drop-take start (end - start) later) ∙ ap (λ (n : ℕ). drop start (take n later)) (omega (arith, forward)) ∙ ap (drop start) whole
    ∙ ap (λ (n : ℕ). drop start (take n text)) (omega (arith, forward)) ∙ drop-take start (end - start) text in
    ap₂ (λ (t was : List ℕ). goes_on_line (open_line [] t) was && goes_on_line (open_line [] t) edit.text) front old ∙ stays

lines_keep : EditsInLinesKeepLines → (text : List ℕ) (low high : ℕ) (edits : List NameEdit) → high ≤ length text → EditsRise low high edits
    → AllStay high text edits
    → KeepsLines text (edited text edits)
unfolding AllStay
lines_keep keeps text low high [] within r all = refl
lines_keep keeps text low high (edit ∷ edits) within r all =
    let start = edit.part.start in
    let end = edit.part.end in
    let later = edited text edits in
    let one = keeps later start end edit.text r.1 (stays_later text high edit edits within r.1 r.2 all.1) in
    let last : max start end ≡ end = max-eq_right r.1 in
    let same : spliced later start end edit.text ≡ take start later ++ (edit.text ++ drop end later) =
    append_assoc (take start later) edit.text (drop (max start end) later)
    ∙ ap (λ (n : ℕ). take start later ++ (edit.text ++ drop n later)) last in
    subst (KeepsLines later) (sym same) one ∙ lines_keep keeps text end high edits within r.2 all.2

-- ---- all of it

record Made (text more preface : List ℕ) (blocks : List (List ℕ)) (rename : Rename) : Type 0 where
  made : client_renamed text (edits_from rename 0 (line_count preface) blocks) ++ more ≡ preface ++ concat (blocks_renamed rename 0 blocks)
  lines : KeepsLines text (client_renamed text (edits_from rename 0 (line_count preface) blocks))

all_made : EditsInLinesKeepLines → (text more preface : List ℕ) (blocks : List (List ℕ)) (rename : Rename) → IsMissing more
    → text ++ more ≡ preface ++ concat blocks → last_byte 10 preface ≡ 10
    → All IsShortBlock blocks → length preface ≤ length text → can_be_renamed rename 0 blocks ≡ true
    → Made text more preface blocks rename
all_made keeps text more preface blocks rename missing whole ends short room can =
    let edits = edits_after rename 0 (length preface) blocks in
    let all = all_lead text more rename 0 preface blocks missing whole ends short can in
    let rise = tighter text (length preface) (length preface + length (concat blocks)) (length text) edits room all.stay
    (all_rise rename 0 (length preface) blocks) in
    record {
      made = ap (λ (es : List NameEdit). edited text es ++ more) all.lead
          ∙ sym (more_edited text more (length preface) (length text) edits (omega arith) rise)
          ∙ ap (λ (t : List ℕ). edited t edits) whole ∙ all_blocks rename 0 preface blocks;
      lines = subst (λ (es : List NameEdit). KeepsLines text (edited text es)) (sym all.lead)
          (lines_keep keeps text (length preface) (length text) edits (omega arith) rise all.stay);
    }

-- ---- a rename that is accepted

not_refused : (o : Option SourceError) (blocks : List (List ℕ)) (name : List ℕ) (at : ℕ) → owner (readings (unless_refused o blocks)) name ≡ Some at
    → unless_refused o blocks ≡ blocks
not_refused None blocks name at e = refl
not_refused (Some error) blocks name at e = absurd (none-some at e)

-- a block owns the name, so there is one
record HasBlock (preface : List ℕ) (blocks : List (List ℕ)) : Type 0 where
  ends : last_byte 10 preface ≡ 10
  some : 0 < length (concat blocks)

has_block : (preface : List ℕ) (blocks : List (List ℕ)) (name : List ℕ) (at : ℕ) → owner (readings blocks) name ≡ Some at
    → AreBlocks (last_byte 10 preface) blocks → HasBlock preface blocks
has_block preface [] name at owns are = absurd (none-some at owns)
has_block preface ([] ∷ blocks) name at owns are = absurd are.1
has_block preface ((x ∷ xs) ∷ blocks) name at owns are = record { ends = are.0; some = omega arith }

no_failure : (given taken : Bool) → cond given (cond taken (Some NameTaken) None) (Some NoName) ≡ None → (given ≡ true) × (taken ≡ false)
no_failure true true e = absurd cc
no_failure true false e = (refl, refl)
no_failure false taken e = absurd cc

less_one : (n : ℕ) → n + 1 - 1 ≡ n
less_one n = omega arith

made : HeldBlocksFit → EditsInLinesKeepLines → (text : List ℕ) (rename : Rename) → owner (readings (held text)) rename.name ≡ Some rename.owner
    → can_be_renamed rename 0 (held text) ≡ true
    → Made text (missing_newline text) (preface_of text) (held text) rename
made fit keeps text rename owns can =
    let blocks = held text in
    let preface = preface_of text in
    let more = missing_newline text in
    let same : blocks ≡ source_texts text = not_refused (source_refusal text) (source_texts text) rename.name rename.owner owns in
    let cut = each_has_cut (with_last_newline text) in
    let whole : text ++ more ≡ preface ++ concat blocks = sym (ended_with text) ∙ cut.whole ∙ ap (λ (b : List (List ℕ)). preface ++ concat b) (sym same) in
    let has = has_block preface blocks rename.name rename.owner owns (subst (AreBlocks (last_byte 10 preface)) (sym same) cut.each) in
    let few = missing_size more (missing_is text) in
    let some = has.some in
    let size : length text + length more ≡ length preface + length (concat blocks) =
    sym (length-append text more) ∙ ap length whole ∙ length-append preface (concat blocks) in
    all_made keeps text more preface blocks rename (missing_is text) whole has.ends (fit text).1 (omega (arith, size, few, some)) can

of_edits : HeldBlocksFit → EditsInLinesKeepLines → (text : List ℕ) (rename : Rename) (can : Bool) (edits : List RenameSeen)
    → can_be_renamed rename 0 (held text) ≡ can → owner (readings (held text)) rename.name ≡ Some rename.owner
    → can_be_given rename.new ≡ true → is_taken (readings (held text)) rename.owner rename.new ≡ false
    → cond can (renames (edits_of text rename)) (refuses NoName) ≡ renames edits → IsRenaming text rename.new edits
of_edits fit keeps text rename false edits can owns given free e = absurd cc
of_edits fit keeps text rename true edits can owns given free e =
    let same : edits_of text rename ≡ edits = cc in
    let all = made fit keeps text rename owns can in
    let line : edits_from rename 0 (line_count (preface_of text)) (held text) ≡ edits =
    ap (λ (n : ℕ). edits_from rename 0 n (held text)) (sym (less_one (line_count (preface_of text)))) ∙ same in
    record {
      rename = rename;
      new_is = refl;
      owns = owns;
      given = given;
      free = free;
      applied = ap (λ (r : List RenameSeen). client_renamed text r ++ missing_newline text) (sym line) ∙ all.made;
      lines = subst (λ (r : List RenameSeen). KeepsLines text (client_renamed text r)) line all.lines;
    }

of_failure : HeldBlocksFit → EditsInLinesKeepLines → (text : List ℕ) (rename : Rename) (failure : Option Failure) (edits : List RenameSeen)
    → failure_of (held text) rename.owner rename.new ≡ failure → owner (readings (held text)) rename.name ≡ Some rename.owner
    → option_map_or refuses failure (renamed_so text rename) ≡ renames edits → IsRenaming text rename.new edits
of_failure fit keeps text rename None edits none owns e =
    let free = no_failure (can_be_given rename.new) (is_taken (readings (held text)) rename.owner rename.new) none in
    of_edits fit keeps text rename (can_be_renamed rename 0 (held text)) edits refl owns free.0 free.1 e
of_failure fit keeps text rename (Some failure) edits some owns e = absurd cc

of_owner : HeldBlocksFit → EditsInLinesKeepLines → (text new name : List ℕ) (o : Option ℕ) (edits : List RenameSeen)
    → owner (readings (held text)) name ≡ o
    → option_map_or (λ at. renamed text (record { owner = at; name = name; new = new })) o renames_nothing ≡ renames edits → IsRenaming text new edits
of_owner fit keeps text new name None edits owns e = absurd cc
of_owner fit keeps text new name (Some at) edits owns e =
    of_failure fit keeps text (record { owner = at; name = name; new = new }) (failure_of (held text) at new) edits refl owns e

of_touched : HeldBlocksFit → EditsInLinesKeepLines → (text new : List ℕ) (found : Option TouchedSeen) (edits : List RenameSeen)
    → option_map_or (renamed_touched text new) found renames_nothing ≡ renames edits → IsRenaming text new edits
of_touched fit keeps text new None edits e = absurd cc
of_touched fit keeps text new (Some touched) edits e = of_owner fit keeps text new (name_of touched.subject) (owner_of (held text) touched) edits refl e

pub renames_applied : HeldBlocksFit → EditsInLinesKeepLines → RenamesAreApplied
renames_applied fit keeps text place new edits e = of_touched fit keeps text new (touched_at text place) edits e
