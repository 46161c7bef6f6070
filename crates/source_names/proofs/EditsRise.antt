-- The edits of a block are in the order of the block, and no two of them overlap.
use Rattle.std.proofs.Common.{◌≡◌, ℕ, suc, ◌≤◌, ◌==◌, ◌&&◌, ◌⊎◌, Bool, true, false, cond, inl, inr, List, [], ◌∷◌, ◌++◌, drop, flat_map, length}
use Rattle.std.proofs.Common.{nat_le, nat_lt, refl, arith}
use Rattle.std.proofs.lemmas.Bool.{and_parts, cases_Bool, leb-true, ltb-true}
use Rattle.ti_source.specs.Folding.{PlacedByte}
use Rattle.source_spans.specs.Folding.{folded_of}
use Rattle.source_spans.specs.declared.parts.Part.{Part}
use Rattle.source_edits.specs.Pieces.{bytes_in}
use Rattle.source_names.specs.NameEdits.{NameEdit, Rename, dealt, edits_in, line_parts, name_edits, named_parts, share, with_byte}
use Rattle.source_names.proofs.Following.{Rise, SpansRise, rise_folded, sought_rise}

-- edits that rise
abbrev pub EditsRise : ℕ → ℕ → List NameEdit → Type 0
EditsRise low high [] = low ≤ high
EditsRise low high (edit ∷ edits) = (low ≤ edit.part.start) × (edit.part.start ≤ edit.part.end) × EditsRise edit.part.end high edits

pub edits_up : (low high : ℕ) (edits : List NameEdit) → EditsRise low high edits → low ≤ high
edits_up low high [] r = r
edits_up low high (edit ∷ edits) r = let more = edits_up edit.part.end high edits r.2 in omega (arith, r.0, r.1, more)

pub edits_lower : (low less high : ℕ) (edits : List NameEdit) → low ≤ less → EditsRise less high edits → EditsRise low high edits
edits_lower low less high [] le r = omega (arith, le, r)
edits_lower low less high (edit ∷ edits) le r = (omega (arith, le, r.0), r.1, r.2)

pub edits_join : (low middle high : ℕ) (one other : List NameEdit) → EditsRise low middle one → EditsRise middle high other
    → EditsRise low high (one ++ other)
edits_join low middle high [] other p q = edits_lower low middle high other p q
edits_join low middle high (edit ∷ edits) other p q = (p.0, p.1, edits_join edit.part.end middle high edits other p.2 q)

-- ---- the bytes of a part

kept_by : (low high : ℕ) (b : Bool) (x : PlacedByte) (one other : List PlacedByte) → (b ≡ true → (low ≤ x.1) × Rise (suc x.1) high one)
    → (b ≡ false → Rise low high other)
    → Rise low high (cond b (x ∷ one) other)
kept_by low high true x one other p q = p refl
kept_by low high false x one other p q = q refl

in_part : (low less high base : ℕ) (start at end : ℕ) → (base ≤ start) ⊎ (base ≤ low) → low ≤ at → (nat_le start at && nat_lt at end) ≡ true
    → (base ≤ at) × (suc at ≤ end)
in_part low less high base start at end h le e =
    let both = and_parts _ _ e in
    let from = leb-true start at both.0 in
    let to = ltb-true at end both.1 in
    elim h [ inl one ↦ (omega (arith, one, from), omega (arith, to)) | inr other ↦ (omega (arith, other, le), omega (arith, to)) ]

later : (base start low at : ℕ) → (base ≤ start) ⊎ (base ≤ low) → low ≤ at → (base ≤ start) ⊎ (base ≤ suc at)
later base start low at h le = elim h [ inl one ↦ inl one | inr other ↦ inr (omega (arith, other, le)) ]

bytes_rise : (part : Part) (low high base : ℕ) (text : List PlacedByte) → Rise low high text → base ≤ part.end → (base ≤ part.start) ⊎ (base ≤ low)
    → Rise base part.end (bytes_in part text)
bytes_rise part low high base [] r to h = to
bytes_rise part low high base (x ∷ xs) r to h =
    kept_by base part.end (nat_le part.start x.1 && nat_lt x.1 part.end) x (bytes_in part xs) (bytes_in part xs)
    (λ e.
    let here = in_part low low high base part.start x.1 part.end h r.0 e in
    (here.0, bytes_rise part (suc x.1) high (suc x.1) xs r.1 here.1 (inr (omega arith))))
    (λ e. bytes_rise part (suc x.1) high base xs r.1 to (later base part.start low x.1 h r.0))

-- ---- the lines of a name

byte_rises : (low high at : ℕ) (parts : List Part) → low ≤ at → SpansRise (suc at) high parts → SpansRise low high (with_byte at parts)
byte_rises low high at [] le r = (le, omega arith, r)
byte_rises low high at (part ∷ parts) le r =
    elim (cases_Bool (part.start == suc at)) [
      | inl t ↦ rw t (le, omega (arith, r.0, r.1), r.2)
      | inr f ↦ rw f (le, omega arith, r)
    ]

lines_rise : (low high : ℕ) (text : List PlacedByte) → Rise low high text → SpansRise low high (line_parts text)
lines_rise low high [] r = r
lines_rise low high (x ∷ xs) r = byte_rises low high x.1 (line_parts xs) r.0 (lines_rise (suc x.1) high xs r.1)

dealt_rise : (low high : ℕ) (parts : List Part) (new : List ℕ) → SpansRise low high parts → EditsRise low high (dealt parts new)
dealt_rise low high [] new r = r
dealt_rise low high (part ∷ parts) new r = (r.0, r.1, dealt_rise part.end high parts (drop (share (length new) parts) new) r.2)

-- ---- the edits of a block

all_rise : (low high end : ℕ) (text : List PlacedByte) (new : List ℕ) (parts : List Part) → Rise 0 end text → SpansRise low high parts
    → EditsRise low high (flat_map (name_edits text new) parts)
all_rise low high end text new [] whole r = r
all_rise low high end text new (part ∷ parts) whole r =
    let here = dealt_rise part.start part.end (line_parts (bytes_in part text)) new
    (lines_rise part.start part.end (bytes_in part text) (bytes_rise part 0 end part.start text whole r.1 (inl (omega arith)))) in
    edits_join low part.end high (name_edits text new part) (flat_map (name_edits text new) parts)
    (edits_lower low part.start part.end (name_edits text new part) r.0 here) (all_rise part.end high end text new parts whole r.2)

pub edits_rise : (rename : Rename) (at : ℕ) (block : List ℕ) → EditsRise 0 (length block) (edits_in rename at block)
edits_rise rename at block =
    all_rise 0 (length block) (length block) (folded_of block) rename.new (named_parts rename at block) (rise_folded block)
    (sought_rise [] rename.owner at rename.name block)
