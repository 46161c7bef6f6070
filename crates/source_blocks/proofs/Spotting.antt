-- The block that a line is in, and the lines before a block.
use Rattle.std.proofs.Common.{◌≡◌, ℕ, suc, ◌+◌, ◌<◌, ◌≤◌, Bool, true, false, cond, inl, inr, List, [], ◌∷◌, Option, None, Some, drop, length, refl, sym, ap}
use Rattle.std.proofs.Common.{◌∙◌, add-one, arith}
use Rattle.std.specs.Prelude.{IfSome, nat_lt, option_map}
use Rattle.std.proofs.lemmas.Bool.{cases_Bool, le-ltb, lt-ltb}
use Rattle.std.proofs.lemmas.List.{length-map}
use Rattle.std.proofs.lemmas.List.Sums.{sum_by_more}
use Rattle.std.proofs.lemmas.Option.{same_Some}
use Rattle.ti_text.specs.Lines.{line_count}
use Rattle.ti_source.specs.Parsing.{reading_of_text}
use Rattle.ti_source.specs.Reading.{Reading}
use Rattle.base_meaning.specs.Owner.{is_among, owner, readings}
use Rattle.base_meaning.specs.Report.{lines_before}
use Rattle.source_types.specs.declared.places.Position.{Position}
use Rattle.source_document.specs.Diagnostics.{text_at}
use Rattle.source_blocks.specs.Spots.{offset_in, spot_from}
use Rattle.source_blocks.specs.declared.spots.Spot.{Spot}
use Rattle.source_blocks.proofs.Outlines.{blocks_more, text_got}

-- ---- the block that a line is in

abbrev spot_by : Bool → Bool → Spot → Option Spot → Option Spot
spot_by before here spot later = cond before None (cond here (Some spot) later)

-- a place in the block at a position
abbrev pub spot_in : List (List ℕ) → (at start : ℕ) → Position → Spot
spot_in blocks at start place = record { at = at; line = start; offset = offset_in start (text_at blocks at) place }

spot_step : (blocks : List (List ℕ)) (at start : ℕ) (place : Position) → at < length blocks
    → spot_from at start place (drop at blocks)
    ≡ spot_by (nat_lt place.line start) (nat_lt place.line (start + line_count (text_at blocks at))) (spot_in blocks at start place)
    (spot_from (suc at) (start + line_count (text_at blocks at)) place (drop (at + 1) blocks))
spot_step blocks at start place within = ap (spot_from at start place) (blocks_more blocks at within)

pub spot_before : (blocks : List (List ℕ)) (at start : ℕ) (place : Position) (found : Option Spot) → at < length blocks → place.line < start
    → spot_from at start place (drop at blocks) ≡ found → None ≡ found
spot_before blocks at start place found within less so =
    let here = nat_lt place.line (start + line_count (text_at blocks at)) in
    let later = spot_from (suc at) (start + line_count (text_at blocks at)) place (drop (at + 1) blocks) in
    sym (spot_step blocks at start place within ∙ ap (λ (b : Bool). spot_by b here (spot_in blocks at start place) later) (lt-ltb place.line start less)) ∙ so

pub spot_here : (blocks : List (List ℕ)) (at start offset : ℕ) (place : Position) (found : Option Spot) → at < length blocks → start ≤ place.line
    → place.line < start + line_count (text_at blocks at) → offset ≡ offset_in start (text_at blocks at) place
    → spot_from at start place (drop at blocks) ≡ found
    → Some (record { at = at; line = start; offset = offset }) ≡ found
spot_here blocks at start offset place found within past less is so =
    let spot = spot_in blocks at start place in
    let here = nat_lt place.line (start + line_count (text_at blocks at)) in
    let later = spot_from (suc at) (start + line_count (text_at blocks at)) place (drop (at + 1) blocks) in
    rw is (sym (spot_step blocks at start place within ∙ ap (λ (b : Bool). spot_by b here spot later) (le-ltb place.line start past)
    ∙ ap (λ (b : Bool). spot_by false b spot later) (lt-ltb place.line (start + line_count (text_at blocks at)) less)) ∙ so)

pub spot_later : (blocks : List (List ℕ)) (at start : ℕ) (place : Position) (found : Option Spot) → at < length blocks → start ≤ place.line
    → start + line_count (text_at blocks at) ≤ place.line → spot_from at start place (drop at blocks) ≡ found
    → spot_from (at + 1) (start + line_count (text_at blocks at)) place (drop (at + 1) blocks) ≡ found
spot_later blocks at start place found within past over so =
    let spot = spot_in blocks at start place in
    let next = start + line_count (text_at blocks at) in
    let here = nat_lt place.line next in
    let later = spot_from (suc at) next place (drop (at + 1) blocks) in
    ap (λ (n : ℕ). spot_from n next place (drop (at + 1) blocks)) (add-one at)
    ∙ sym (spot_step blocks at start place within ∙ ap (λ (b : Bool). spot_by b here spot later) (le-ltb place.line start past)
    ∙ ap (λ (b : Bool). spot_by false b spot later) (le-ltb place.line next over)) ∙ so

-- ---- the lines before a block

pub lines_more : (blocks : List (List ℕ)) (k : ℕ) → k < length blocks → lines_before blocks (k + 1) ≡ lines_before blocks k + line_count (text_at blocks k)
lines_more blocks k within =
    sum_by_more line_count blocks k [] within ∙ ap (λ (t : List ℕ). lines_before blocks k + line_count t) (sym (text_got blocks k within))

-- ---- the owner of a name is a block

later_within : (n : ℕ) (found : Option ℕ) (at : ℕ) → ((k : ℕ) → found ≡ Some k → k < n) → option_map (λ k. suc k) found ≡ Some at → at < suc n
later_within n None at below e = cc
later_within n (Some k) at below e = let is = same_Some (suc k) at e in omega (arith, is, below k refl)

owner_by : (block : Reading) (blocks : List Reading) (name : List ℕ) (b : Bool) → is_among name block.names ≡ b
    → owner (block ∷ blocks) name ≡ cond b (Some 0) (option_map (λ k. suc k) (owner blocks name))
owner_by block blocks name b e = rw e

pub owner_within : (blocks : List Reading) (name : List ℕ) (at : ℕ) → owner blocks name ≡ Some at → at < length blocks
owner_within [] name at e = cc
owner_within (block ∷ blocks) name at e =
    elim (cases_Bool (is_among name block.names)) [
      | inl first ↦ let is = same_Some 0 at (sym (owner_by block blocks name true first) ∙ e) in omega (arith, is)
      | inr later ↦ later_within (length blocks) (owner blocks name) at (owner_within blocks name) (sym (owner_by block blocks name false later) ∙ e)
    ]

pub owner_found : (blocks : List (List ℕ)) (name : List ℕ) (found : Option ℕ) → found ≡ owner (readings blocks) name → IfSome found (λ at. at < length blocks)
owner_found blocks name None e = tt
owner_found blocks name (Some at) e = omega (arith, owner_within (readings blocks) name at (sym e), length-map blocks reading_of_text)
