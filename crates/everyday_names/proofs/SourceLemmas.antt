-- The blocks of a source, fitted.
use Rattle.std.proofs.Common.{◌≡◌, ◌+◌, ℕ, zero, suc, Bool, true, false, List, [], ◌∷◌, ◌++◌, map, take, length, Option, Some, None, is_some, slice_get, All}
use Rattle.std.proofs.Common.{refl, sym, ap, ◌∙◌, subst, arith, append_assoc, append-nil}
use Rattle.std.specs.Global.{Vec}
use Rattle.std.specs.List.{AllByRecursion, concat, list_any}
use Rattle.std.proofs.lemmas.Bool.{or_parts, true≢false}
use Rattle.std.proofs.lemmas.List.{map-append}
use Rattle.std.proofs.lemmas.List.Elements.{All-from_recursion, recursion_from_All}
use Rattle.std.proofs.lemmas.Option.{none-some, same_Some}
use Rattle.ti_source.specs.Cutting.{AreBlocks, Cut, EachHasCut, IsOnlyCut, OneBlock, blocks_from_head, front_of, last_byte}
use Rattle.ti_text.proofs.Texts.{last_byte-append}
use Rattle.tools_sources.specs.Sources.{source_texts}
use Rattle.tools_sources.proofs.Ending.{ended-of_newline}
use Rattle.everyday_names.specs.Fields.{field_seen, fields_seen, fitted, is_long, long_field}
use Rattle.everyday_names.specs.Laws.{FittedBlocksReadAlike}
use Rattle.everyday_names.proofs.Fitted.{has-none_long}

-- ---- one more block

pub more-texts : (texts : List (List ℕ)) (at : ℕ) (text : List ℕ) → slice_get texts at ≡ Some text → take (suc at) texts ≡ take at texts ++ text ∷ []
more-texts [] at text e = absurd (none-some text e)
more-texts (t ∷ ts) zero text e = ap (λ (x : List ℕ). x ∷ []) (same_Some t text e)
more-texts (t ∷ ts) (suc at) text e = ap (λ (xs : List (List ℕ)). t ∷ xs) (more-texts ts at text e)

-- ---- blocks one after the other are a source of them

block-fitted : FittedBlocksReadAlike → (text : List ℕ) → OneBlock text → OneBlock (fitted text)
block-fitted law text one = by (is_long text) refl
  where
    by : (b : Bool) → is_long text ≡ b → OneBlock (fitted text)
    by true t = (law text one t).block
    by false f = rw f one

blocks-fitted : FittedBlocksReadAlike → (texts : List (List ℕ)) → AllByRecursion OneBlock texts → AllByRecursion OneBlock (map fitted texts)
blocks-fitted law [] all = tt
blocks-fitted law (text ∷ texts) all = (block-fitted law text all.0, blocks-fitted law texts all.1)

pub all-fitted : FittedBlocksReadAlike → (texts : List (List ℕ)) → All OneBlock texts → All OneBlock (map fitted texts)
all-fitted law texts all = All-from_recursion OneBlock (map fitted texts) (blocks-fitted law texts (recursion_from_All OneBlock texts all))

last-of_block : (text : List ℕ) → OneBlock text → last_byte 10 text ≡ 10
last-of_block [] one = refl
last-of_block (x ∷ xs) one = one.ends

are-blocks : (texts : List (List ℕ)) → AllByRecursion OneBlock texts → AreBlocks 10 texts
are-blocks [] all = tt
are-blocks (text ∷ texts) all =
    (refl, all.0.cut.each.1, subst (λ (b : ℕ). AreBlocks b texts) (sym (last-of_block text all.0)) (are-blocks texts all.1))

last-of_blocks : (texts : List (List ℕ)) → AllByRecursion OneBlock texts → last_byte 10 (concat texts) ≡ 10
last-of_blocks [] all = refl
last-of_blocks (text ∷ texts) all =
    last_byte-append 10 text (concat texts) ∙ ap (λ (b : ℕ). last_byte b (concat texts)) (last-of_block text all.0) ∙ last-of_blocks texts all.1

pub source-of_blocks : EachHasCut → IsOnlyCut → (texts : List (List ℕ)) → All OneBlock texts → source_texts (concat texts) ≡ texts
source-of_blocks each one texts all =
    let blocks = recursion_from_All OneBlock texts all in
    let source = concat texts in
    let cut : Cut source [] texts = record { whole = refl; front = tt; each = are-blocks texts blocks } in
    ap (blocks_from_head 10) (ended-of_newline source (last-of_blocks texts blocks))
    ∙ (one source (front_of 10 source) [] (blocks_from_head 10 source) texts (each source) cut).1

-- ---- no block with a long names field

none-there : (f : Option (List ℕ)) → is_some f ≡ false → f ≡ None
none-there None e = refl
none-there (Some x) e = absurd (true≢false e)

each-none : (fields : List (Option (Vec ℕ))) (texts : List (List ℕ)) → list_any (λ f. is_some (field_seen f)) fields ≡ false
    → fields_seen fields ≡ map long_field texts → map fitted texts ≡ texts
each-none fields [] none are = refl
each-none [] (text ∷ texts) none are = absurd (omega (arith, ap length are))
each-none (field ∷ fields) (text ∷ texts) none are =
    let parts = or_parts (is_some (field_seen field)) (list_any (λ f. is_some (field_seen f)) fields) none in
    let first : long_field text ≡ None = sym (head are) ∙ none-there (field_seen field) parts.0 in
    let here : fitted text ≡ text = rw (has-none_long text first) refl in
    ap (λ (t : List ℕ). t ∷ map fitted texts) here ∙ ap (λ (ts : List (List ℕ)). text ∷ ts) (each-none fields texts parts.1 (tail are))
  where
    head : field_seen field ∷ fields_seen fields ≡ long_field text ∷ map long_field texts → field_seen field ≡ long_field text
    head e = cc

    tail : field_seen field ∷ fields_seen fields ≡ long_field text ∷ map long_field texts → fields_seen fields ≡ map long_field texts
    tail e = cc

pub none-long : (fields : List (Option (Vec ℕ))) (texts : List (List ℕ)) → list_any (λ f. is_some (field_seen f)) fields ≡ false
    → fields_seen fields ≡ map long_field texts → texts ≡ map fitted texts
none-long fields texts none are = sym (each-none fields texts none are)

-- ---- one more block of a list

pub more-fields : (texts : List (List ℕ)) (at next : ℕ) (text : List ℕ) (old new : List (Option (Vec ℕ))) (field : Option (Vec ℕ)) → next ≡ at + 1
    → slice_get texts at ≡ Some text → field_seen field ≡ long_field text → new ≡ old ++ field ∷ [] → fields_seen old ≡ map long_field (take at texts)
    → fields_seen new ≡ map long_field (take next texts)
more-fields texts at next text old new field count stands is pushed so_far =
    let one : next ≡ suc at = omega (arith, count) in
    let more : take next texts ≡ take at texts ++ text ∷ [] = ap (λ (n : ℕ). take n texts) one ∙ more-texts texts at text stands in
    ap fields_seen pushed ∙ map-append field_seen old (field ∷ [])
    ∙ ap (λ (fs : List (Option (List ℕ))). fs ++ field_seen field ∷ []) so_far
    ∙ ap (λ (f : Option (List ℕ)). map long_field (take at texts) ++ f ∷ []) is
    ∙ sym (ap (map long_field) more ∙ map-append long_field (take at texts) (text ∷ []))

concat-last : (ts : List (List ℕ)) (t : List ℕ) → concat (ts ++ t ∷ []) ≡ concat ts ++ t
concat-last [] t = append-nil t
concat-last (x ∷ xs) t = ap (λ (s : List ℕ). x ++ s) (concat-last xs t) ∙ sym (append_assoc x (concat xs) t)

pub more-source : (texts : List (List ℕ)) (at next : ℕ) (text old new : List ℕ) → next ≡ at + 1 → slice_get texts at ≡ Some text
    → new ≡ old ++ fitted text → old ≡ concat (map fitted (take at texts)) → new ≡ concat (map fitted (take next texts))
more-source texts at next text old new count stands pushed so_far =
    let one : next ≡ suc at = omega (arith, count) in
    let more : take next texts ≡ take at texts ++ text ∷ [] = ap (λ (n : ℕ). take n texts) one ∙ more-texts texts at text stands in
    pushed ∙ ap (λ (s : List ℕ). s ++ fitted text) so_far
    ∙ sym (ap (λ (ts : List (List ℕ)). concat (map fitted ts)) more
    ∙ ap concat (map-append fitted (take at texts) (text ∷ [])) ∙ concat-last (map fitted (take at texts)) (fitted text))
