-- The files of entries with names fields that are too long for the profile.
use Rattle.std.proofs.Common.{◌≡◌, ◌≢◌, ◌⊎◌, ◌<◌, ◌≤◌, ◌==◌, inl, inr, ℕ, zero, suc, Bool, true, false, cond, List, [], ◌∷◌, length, nat_le}
use Rattle.std.proofs.Common.{Option, None, Some, slice_get, refl, sym, ap, ◌∙◌, subst, arith}
use Rattle.std.specs.List.{AllByRecursion}
use Rattle.std.proofs.lemmas.Bool.{eqb-false, leb-false, leb-true, or_parts}
use Rattle.std.proofs.lemmas.List.Elements.{All-from_recursion}
use Rattle.std.proofs.lemmas.Option.{none-some, same_Some}
use Rattle.ti_text.specs.Limits.{extended_entry_max}
use Rattle.ti_text.specs.Texts.{HasNoNul}
use Rattle.ti_source.specs.Cutting.{OneBlock}
use Rattle.ti_source.specs.Parsing.{reading_of_text}
use Rattle.ti_layout.specs.Reading.{Reads}
use Rattle.ti_layout.specs.Values.{Contents}
use Rattle.base_meaning.specs.Compiled.{EntryState, oversized, unresolved, written}
use Rattle.user_compiling.specs.Entries.{entry_in}
use Rattle.user_extension.specs.Reading.{EndsWell}
use Rattle.everyday_names.specs.Entries.{with_names}
use Rattle.everyday_names.specs.Fields.{fitted, has, long_field}
use Rattle.everyday_names.specs.Laws.{FittedBlocksReadAlike, NamedEntriesRead}
use Rattle.everyday_names.proofs.Fitted.{HasLong, has-long, has-none_long}
use Rattle.everyday_tic.specs.Named.{named_state, named_states}
use Rattle.everyday_recompiling.specs.WrittenFiles.{IsReadWithNames}

-- ---- what is written of a block

pub same-bytes : (one other : List ℕ) → written one ≡ written other → one ≡ other
same-bytes one other is = same_Some one other (ap entry_in is)

-- it is the entry of the block as it is compiled, with its names
pub record IsNamedOf (field : Option (List ℕ)) (image : List ℕ) (state : EntryState) : Type 0 where
  pub bytes : List ℕ
  pub is : state ≡ written bytes
  pub named : written image ≡ named_state field (written bytes)

was-named : (field : Option (List ℕ)) (image : List ℕ) (state : EntryState) → named_state field state ≡ written image → IsNamedOf field image state
was-named None image state e = record { bytes = image; is = e; named = refl }
was-named (Some f) image unresolved e = absurd (none-some image (ap entry_in e))
was-named (Some f) image oversized e = absurd (none-some image (ap entry_in e))
was-named (Some f) image (written bytes) e = record { bytes = bytes; is = refl; named = sym e }

pub named-at : (fields : List (Option (List ℕ))) (states : List EntryState) (at : ℕ) (field : Option (List ℕ)) (image : List ℕ)
    → slice_get fields at ≡ Some field → slice_get (named_states fields states) at ≡ Some (written image)
    → (state : EntryState) × (slice_get states at ≡ Some state) × IsNamedOf field image state
named-at [] states at field image there e = absurd (none-some field there)
named-at (f ∷ fs) [] at field image there e = absurd (none-some (written image) e)
named-at (f ∷ fs) (s ∷ ss) zero field image there e = (
  s,
  refl,
  was-named field image s (ap (λ (x : Option (List ℕ)). named_state x s) (sym (same_Some f field there)) ∙ same_Some (named_state f s) (written image) e),
)
named-at (f ∷ fs) (s ∷ ss) (suc at) field image there e = named-at fs ss at field image there e

-- ---- the names fields

no-nul : (s : List ℕ) → has 0 s ≡ false → AllByRecursion (λ byte. byte ≢ 0) s
no-nul [] e = tt
no-nul (x ∷ xs) e = let parts = or_parts (x == 0) (has 0 xs) e in (eqb-false x 0 parts.0, no-nul xs parts.1)

-- an entry can have the names field
pub record CanBeNamed (field : List ℕ) : Type 0 where
  pub some : field ≢ []
  pub short : length field ≤ 512
  pub no_nul : HasNoNul field

pub can-be_named : (whole field : List ℕ) → HasLong whole field → CanBeNamed field
can-be_named whole field h =
    let over = h.long.over in
    let within = h.long.within in
    let size = ap length h.same in
    record {
      some = λ none. absurd (omega (arith, over, size, ap length none));
      short = omega (arith, within, size);
      no_nul = All-from_recursion (λ byte. byte ≢ 0) field (no-nul field (ap (has 0) h.same ∙ h.long.no_nul));
    }

-- the whole field is that of the block
pub whole-field : FittedBlocksReadAlike → (whole field : List ℕ) → OneBlock whole → HasLong whole field → field ≡ (reading_of_text whole).field
whole-field law whole field one h = h.same ∙ sym (law whole one h.is).whole

pub not-long : (whole : List ℕ) → long_field whole ≡ None → fitted whole ≡ whole
not-long whole e = rw (has-none_long whole e) refl

-- ---- what is read of a file

-- a file has the whole names field, or is over its limit with it, and is the entry as it was compiled
pub by-limit : (field bytes image : List ℕ) → written image ≡ named_state (Some field) (written bytes)
    → ((image ≡ with_names field bytes) × (length (with_names field bytes) ≤ extended_entry_max))
    ⊎ ((image ≡ bytes) × (extended_entry_max < length (with_names field bytes)))
by-limit field bytes image e = by_test (nat_le (length (with_names field bytes)) extended_entry_max) refl
  where
    by_test : (b : Bool) → nat_le (length (with_names field bytes)) extended_entry_max ≡ b
        → ((image ≡ with_names field bytes) × (length (with_names field bytes) ≤ extended_entry_max))
        ⊎ ((image ≡ bytes) × (extended_entry_max < length (with_names field bytes)))
    by_test true t = inl (
      same-bytes image (with_names field bytes) (e ∙ ap (λ (b : Bool). cond b (written (with_names field bytes)) (written bytes)) t),
      leb-true (length (with_names field bytes)) extended_entry_max t,
    )
    by_test false f = inr (
      same-bytes image bytes (e ∙ ap (λ (b : Bool). cond b (written (with_names field bytes)) (written bytes)) f),
      leb-false (length (with_names field bytes)) extended_entry_max f,
    )

pub read-with_names : FittedBlocksReadAlike → NamedEntriesRead → (whole bytes image : List ℕ) (contents : Contents) → OneBlock whole
    → written image ≡ named_state (long_field whole) (written bytes) → Reads bytes (reading_of_text (fitted whole)).field contents → EndsWell bytes
    → IsReadWithNames whole bytes image contents
read-with_names alike names whole bytes image contents one is reads ends = by (long_field whole) refl
  where
    kept : image ≡ bytes
        → ((reading_of_text (fitted whole)).field ≡ (reading_of_text whole).field)
        ⊎ (((reading_of_text (fitted whole)).field ≡ (reading_of_text (fitted whole)).field)
        × (extended_entry_max < length (with_names (reading_of_text whole).field bytes)))
        → IsReadWithNames whole bytes image contents
    kept same chosen = subst (λ (b : List ℕ). IsReadWithNames whole bytes b contents) (sym same) (record {
      field = (reading_of_text (fitted whole)).field;
      chosen = chosen;
      reads = reads;
      rows = refl;
      ends_well = ends;
    })

    by : (found : Option (List ℕ)) → long_field whole ≡ found → IsReadWithNames whole bytes image contents
    by None e =
        kept (same-bytes image bytes (is ∙ ap (λ (f : Option (List ℕ)). named_state f (written bytes)) e))
        (inl (ap (λ (t : List ℕ). (reading_of_text t).field) (not-long whole e)))
    by (Some field) e =
        let h = has-long whole field e in
        let can = can-be_named whole field h in
        let same : field ≡ (reading_of_text whole).field = whole-field alike whole field one h in
        let read = names field bytes (reading_of_text (fitted whole)).field contents can.some can.short can.no_nul reads in
        elim (by-limit field bytes image (is ∙ ap (λ (f : Option (List ℕ)). named_state f (written bytes)) e)) [
          | inl within ↦ subst (λ (b : List ℕ). IsReadWithNames whole bytes b contents) (sym within.0) (record {
            field = field;
            chosen = inl same;
            reads = read.reads;
            rows = read.rows;
            ends_well = read.ends_well ends;
          })
          | inr over ↦ kept over.0 (inr (refl, subst (λ (f : List ℕ). extended_entry_max < length (with_names f bytes)) same over.1))
        ]
