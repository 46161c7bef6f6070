-- A block with the same head has the same names, so each name has the owner that it had.
use Rattle.std.proofs.Common.{◌≡◌, ℕ, zero, suc, ◌==◌, ◌||◌, ◌&&◌, Bool, true, false, cond, List, [], ◌∷◌, option_map, Option, Some, inl, inr, refl, sym}
use Rattle.std.proofs.Common.{ap, ap₂, subst, ◌∙◌, slice_set}
use Rattle.std.proofs.lemmas.Bool.{cases_Bool}
use Rattle.ti_text.specs.WhiteSpace.{is_white_space}
use Rattle.ti_source.specs.Folding.{PlacedByte}
use Rattle.ti_source.specs.Header.{ReadsNames}
use Rattle.ti_source.specs.Items.{bytes}
use Rattle.ti_source.specs.Judging.{names_found}
use Rattle.ti_source.specs.Parsing.{Parses, reading_of_text}
use Rattle.ti_source.specs.Reading.{Reading}
use Rattle.ti_source.proofs.HeaderLemmas.{headers_have_one_reading}
use Rattle.ti_source.proofs.ReadingLaws.{has_reading}
use Rattle.base_meaning.specs.Owner.{is_among, owner, readings}
use Rattle.source_spans.specs.Folding.{bytes_at, folded_of, in_comment}
use Rattle.source_spans.specs.Subjects.{head_text}
use Rattle.source_spans.proofs.Computing.{left_of}
use Rattle.source_spans.proofs.Itemizing.{field_is}
use Rattle.source_spans.proofs.Ordinals.{same_field}
use Rattle.source_spans.proofs.Refolding.{bytes_of_at, kept_after}
use Rattle.source_document.specs.Diagnostics.{text_at}

-- what is kept of a text depends on its bytes alone
bytes_kept : (c j : Bool) (b : ℕ) (one other : List PlacedByte) → bytes one ≡ bytes other → bytes (kept_after c b j one) ≡ bytes (kept_after c b j other)
bytes_kept c j b [] [] e = refl
bytes_kept c j b [] (y ∷ ys) e = absurd cc
bytes_kept c j b (x ∷ xs) [] e = absurd cc
bytes_kept c j b (x ∷ xs) (y ∷ ys) e =
    let same : x.0 ≡ y.0 = cc in
    let rest : bytes xs ≡ bytes ys = cc in
    rw (← same)
    (elim (cases_Bool (in_comment c b x.0)) [
      | inl t ↦ rw t (bytes_kept true j x.0 xs ys rest)
      | inr out ↦
          elim (cases_Bool (x.0 == 10 || (j && is_white_space x.0))) [
            | inl t ↦ rw (out, t) (bytes_kept false true x.0 xs ys rest)
            | inr plain ↦ rw (out, plain) (ap (λ (t : List ℕ). x.0 ∷ t) (bytes_kept false false x.0 xs ys rest))
          ]
    ])

field_seen : (block : List ℕ) (reading : Reading) (p : Parses block reading) → bytes p.field ≡ head_text block
field_seen block reading p =
    let f = p.folds in
    let text : bytes p.text ≡ bytes (folded_of block) =
    ap bytes (left_of f.whole f.lines p.text f.are_lines f.joins)
    ∙ bytes_kept false false 10 f.whole (bytes_at 0 block) (f.are_placed.bytes ∙ sym (bytes_of_at 0 block)) in
    ap bytes (field_is p.text p.field p.rest p.begins) ∙ same_field p.text (folded_of block) text

names_kept : (block other : List ℕ) → head_text other ≡ head_text block → (reading_of_text other).names ≡ (reading_of_text block).names
names_kept block other same =
    let p = has_reading block in
    let q = has_reading other in
    let fields : bytes q.field ≡ bytes p.field = field_seen other (reading_of_text other) q ∙ same ∙ sym (field_seen block (reading_of_text block) p) in
    let names : q.names ≡ p.names =
    headers_have_one_reading (bytes p.field) q.names p.names (subst (λ (t : List ℕ). ReadsNames t q.names) fields q.reads_names) p.reads_names in
    ap (λ (r : Reading). r.names) q.is ∙ ap names_found names ∙ sym (ap (λ (r : Reading). r.names) p.is)

with_names : (one other : Reading) (blocks others : List Reading) (name : List ℕ) → other.names ≡ one.names → owner others name ≡ owner blocks name
    → owner (other ∷ others) name ≡ owner (one ∷ blocks) name
with_names one other blocks others name same rest =
    ap₂ (λ (n : List (List ℕ)) (o : Option ℕ). cond (is_among name n) (Some 0) (option_map (λ k. suc k) o)) same rest

pub owner_kept : (blocks : List (List ℕ)) (at : ℕ) (other : List ℕ) (name : List ℕ) → head_text other ≡ head_text (text_at blocks at)
    → owner (readings (slice_set blocks at other)) name ≡ owner (readings blocks) name
owner_kept [] at other name same = refl
owner_kept (block ∷ blocks) zero other name same =
    with_names (reading_of_text block) (reading_of_text other) (readings blocks) (readings blocks) name (names_kept block other same) refl
owner_kept (block ∷ blocks) (suc at) other name same =
    with_names (reading_of_text block) (reading_of_text block) (readings blocks) (readings (slice_set blocks at other)) name refl
    (owner_kept blocks at other name same)
