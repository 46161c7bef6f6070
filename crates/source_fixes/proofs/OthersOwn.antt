-- The names that are offered for one that no block has.
use Rattle.std.proofs.Common.{◌≡◌, ◌≢◌, ℕ, ◌+◌, ◌==◌, All, Bool, true, false, Contains, List, [], ◌∷◌, ◌++◌, Option, None, Some, cond, filter, flat_map}
use Rattle.std.proofs.Common.{get_or, is_none, nat_eq, refl, ap, inl, inr, arith, ◌∙◌}
use Rattle.std.specs.List.{enumerate_from}
use Rattle.std.specs.Option.{option_map_or}
use Rattle.std.proofs.lemmas.Bool.{cases_Bool, eq-eqb, eqb-true, le-leb}
use Rattle.std.proofs.lemmas.List.Elements.{All-append, All-cons, All-filter, All-head, All-nil, All-tail, filter_passes}
use Rattle.ti_source.specs.Cutting.{OneBlock}
use Rattle.ti_source.specs.Header.{IsLookupName, IsNameByte}
use Rattle.ti_source.specs.Items.{bytes}
use Rattle.ti_source.specs.Parsing.{reading_of_text}
use Rattle.ti_source.specs.Sound.{EachIsWellRead}
use Rattle.base_meaning.specs.Faults.{distinct, distinct_after}
use Rattle.base_meaning.specs.OwnNames.{own_names}
use Rattle.base_meaning.specs.Owner.{is_among, is_owner, owner, readings}
use Rattle.source_spans.specs.Parts.{spanned}
use Rattle.source_spans.specs.declared.parts.Part.{Part}
use Rattle.source_blocks.specs.Giving.{can_be_given}
use Rattle.source_edits.specs.Edits.{EditSeen, renames_in}
use Rattle.source_edits.specs.Shown.{shown}
use Rattle.source_edits.proofs.Exchanging.{no_edit}
use Rattle.source_edits.proofs.NamesFit.{each_edit}
use Rattle.source_fixes.specs.Fixes.{given_names, other_names, others_in}
use Rattle.source_fixes.specs.Laws.{NamesAreOfOtherBlocks}

-- a lookup name prints
name_shown : (name : List ℕ) → All IsNameByte name → shown name ≡ name
name_shown [] all = refl
name_shown (x ∷ xs) all =
    let first = All-head IsNameByte x xs all in
    let low = first.0 in
    let high = first.1 in
    rw (le-leb 32 x (omega (arith, low)), le-leb x 126 high) (ap (λ (t : List ℕ). x ∷ t) (name_shown xs (All-tail IsNameByte x xs all)))

-- what holds of each name holds of each of the distinct ones
each_once : (P : List ℕ → Type 0) (before names : List (List ℕ)) → All P names → All P (distinct_after before names)
each_once P before [] all = all
each_once P before (name ∷ names) all =
    let later = each_once P (before ++ name ∷ []) names (All-tail P name names all) in
    elim (is_among name before) as (λ b. All P (cond b [] (name ∷ []) ++ distinct_after (before ++ name ∷ []) names)) [
      | true ↦ later
      | false ↦ All-cons P name (distinct_after (before ++ name ∷ []) names) (All-head P name names all) later
    ]

owned_at : (o : Option ℕ) (at : ℕ) → option_map_or (λ place. nat_eq place at) o false ≡ true → o ≡ Some at
owned_at None at e = cc
owned_at (Some place) at e = ap (λ (p : ℕ). Some p) (eqb-true place at e)

-- another block owns the name that is put in
Owns : List (List ℕ) → ℕ → List ℕ → Type 0
Owns blocks own text = (at : ℕ) × (owner (readings blocks) text ≡ Some at) × (at ≢ own)

module _ (blocks : List (List ℕ)) (own : ℕ) (sound : EachIsWellRead) where
  Shows : List ℕ → Type 0
  Shows other = Owns blocks own (shown other)

  each_owned : (at : ℕ) (block : List ℕ) → OneBlock block → (at == own) ≡ false → All Shows (own_names (readings blocks) at (reading_of_text block).names)
  unfolding Owns Shows
  each_owned at block single other index d within =
      let names = (reading_of_text block).names in
      let p : List ℕ → Bool = λ name. is_owner (readings blocks) name at in
      let name = get_or (filter p (distinct names)) index d in
      let owned : owner (readings blocks) name ≡ Some at = owned_at (owner (readings blocks) name) at (filter_passes p (distinct names) index d within) in
      let known : IsLookupName name = All-filter p IsLookupName (distinct names) (each_once IsLookupName [] names (sound block single).names) index d within in
      (at, ap (owner (readings blocks)) (name_shown name known.bytes) ∙ owned, λ e. let same = eq-eqb at own e in cc)

  each_in : (at : ℕ) (block : List ℕ) → OneBlock block → All Shows (others_in blocks own (at, block))
  each_in at block single =
      elim (cases_Bool (at == own)) [
        | inl t ↦ rw t (All-nil Shows)
        | inr f ↦ rw f (each_owned at block single f)
      ]

  each_from : (at : ℕ) (rest : List (List ℕ)) → All OneBlock rest → All Shows (flat_map (others_in blocks own) (enumerate_from at rest))
  each_from at [] all = All-nil Shows
  each_from at (block ∷ rest) all =
      All-append Shows (others_in blocks own (at, block)) (flat_map (others_in blocks own) (enumerate_from (at + 1) rest))
      (each_in at block (All-head OneBlock block rest all)) (each_from (at + 1) rest (All-tail OneBlock block rest all))

renamed_in : (blocks : List (List ℕ)) (own : ℕ) (name : List ℕ) (part : Option Part) (edit : EditSeen) → EachIsWellRead → All OneBlock blocks
    → Contains (renames_in name (given_names blocks own) part) edit → Owns blocks own edit.text
unfolding Shows
renamed_in blocks own name None edit sound all has = absurd (no_edit edit has)
renamed_in blocks own name (Some part) edit sound all has =
    each_edit (λ e. Owns blocks own e.text) name part (given_names blocks own) edit
    (All-filter can_be_given (Shows blocks own sound) (other_names blocks own) (each_from blocks own sound 0 blocks all)) has

pub others_own : EachIsWellRead → NamesAreOfOtherBlocks
unfolding Owns
others_own sound blocks own name edit all has =
    elim (cases_Bool (is_none (owner (readings blocks) (bytes name)))) [
      | inl t ↦ renamed_in blocks own (bytes name) (spanned name) edit sound all (rw t at has)
      | inr f ↦ absurd (no_edit edit (rw f at has))
    ]
