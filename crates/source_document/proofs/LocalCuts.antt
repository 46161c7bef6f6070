-- Cutting is local: the blocks of a text, from those of two parts of it.
use Rattle.std.proofs.Common.{◌≡◌, ◌<◌, ℕ, All, Bor, List, [], ◌∷◌, ◌++◌, cond, drop, get_or, length, map, reverse, take, refl, sym, ap, ap₂, subst, ◌∙◌, inl, inr, arith}
use Rattle.std.proofs.lemmas.Bool.{cases_Bool}
use Rattle.std.proofs.lemmas.List.{append-nil, append_assoc, get_or-map, length-map, map-append, reverse-append, take-append-drop}
use Rattle.std.proofs.Math.Seq.{drop-append_seam}
use Rattle.std.specs.List.{concat}
use Rattle.ti_source.specs.Cutting.{AreBlocks, Cut, OneBlock, blocks_from_head, front_of, last_byte}
use Rattle.ti_source.specs.Heads.{is_head}
use Rattle.ti_source.proofs.CutLemmas.{cut_is_computed}
use Rattle.source_document.specs.Recutting.{CuttingIsLocal}
use Rattle.source_document.proofs.TextLists.{text_of}

-- what comes after a text does not change what is before its first head
front_kept : (byte : ℕ) (before after : List ℕ) → front_of (last_byte byte before) after ≡ [] → front_of byte (before ++ after) ≡ front_of byte before
front_kept byte [] after none = none
front_kept byte (x ∷ xs) after none = ap (λ (rest : List ℕ). cond (is_head byte x) [] (x ∷ rest)) (front_kept x xs after none)

-- nor its blocks
blocks_kept : (byte : ℕ) (before after : List ℕ) → front_of (last_byte byte before) after ≡ []
    → blocks_from_head byte (before ++ after) ≡ blocks_from_head byte before ++ blocks_from_head (last_byte byte before) after
blocks_kept byte [] after none = refl
blocks_kept byte (x ∷ xs) after none =
    elim (cases_Bool (is_head byte x)) [
      | inl t ↦ rw t (ap₂ (λ (front : List ℕ) (rest : List (List ℕ)). (x ∷ front) ∷ rest) (front_kept x xs after none) (blocks_kept x xs after none))
      | inr f ↦ rw f (blocks_kept x xs after none)
    ]

pub cutting_local : CuttingIsLocal
cutting_local before after ends none =
    blocks_kept 10 before after (ap (λ (byte : ℕ). front_of byte after) ends ∙ none)
    ∙ ap (λ (byte : ℕ). blocks_from_head 10 before ++ blocks_from_head byte after) ends

-- ---- a block that is one by itself

block_ends : (block : List ℕ) → OneBlock block → last_byte 10 block ≡ 10
block_ends [] single = refl
block_ends (x ∷ xs) single = single.ends

-- it is the first of a text that it begins, if a block or nothing comes after it
pub first_cut : (block after : List ℕ) → OneBlock block → front_of 10 after ≡ [] → blocks_from_head 10 (block ++ after) ≡ block ∷ blocks_from_head 10 after
first_cut block after single none =
    cutting_local block after (block_ends block single) none
    ∙ ap (λ (bs : List (List ℕ)). bs ++ blocks_from_head 10 after) (cut_is_computed block [] (block ∷ []) single.cut).1

-- it is the last of a text that it ends, if a line ends before it
pub last_cut : (before block : List ℕ) → OneBlock block → last_byte 10 before ≡ 10 → blocks_from_head 10 (before ++ block) ≡ blocks_from_head 10 before ++ block ∷ []
last_cut before block single ends =
    let alone = cut_is_computed block [] (block ∷ []) single.cut in
    cutting_local before block ends alone.0 ∙ ap (λ (bs : List (List ℕ)). blocks_from_head 10 before ++ bs) alone.1

-- ---- a text without what is before its first block

blocks_alone : (byte : ℕ) (blocks : List (List ℕ)) → AreBlocks byte blocks → blocks_from_head 10 (concat blocks) ≡ blocks
blocks_alone byte [] are = refl
blocks_alone byte (block ∷ blocks) are =
    let from : AreBlocks 10 (block ∷ blocks) = subst (λ (b : ℕ). AreBlocks b (block ∷ blocks)) are.0 are in
    (cut_is_computed (concat (block ∷ blocks)) [] (block ∷ blocks) (record { whole = refl; front = tt; each = from })).1

-- ---- blocks that are taken from both ends, one after another

-- each of the texts that are held is one block
pub single_at : (held : List (Bor (List ℕ))) (k : ℕ) (d : Bor (List ℕ)) → k < length held → All OneBlock (map text_of held) → OneBlock (get_or held k d).now
single_at held k d within single =
    subst OneBlock (get_or-map text_of held k d d.now within) (single k d.now (omega (arith, within, length-map held text_of)))

-- one more is taken from the front
pub first_taken : (texts new : List (Bor (List ℕ))) (own : Bor (List ℕ)) (rest after : List ℕ) (all : List (List ℕ)) → new ≡ texts ++ own ∷ []
    → blocks_from_head 10 rest ≡ own.now ∷ blocks_from_head 10 after → map text_of texts ++ blocks_from_head 10 rest ≡ all
    → map text_of new ++ blocks_from_head 10 after ≡ all
first_taken texts new own rest after all e first so_far =
    ap (λ (ts : List (Bor (List ℕ))). map text_of ts ++ blocks_from_head 10 after) e
    ∙ ap (λ (ts : List (List ℕ)). ts ++ blocks_from_head 10 after) (map-append text_of texts (own ∷ []))
    ∙ append_assoc (map text_of texts) (own.now ∷ []) (blocks_from_head 10 after)
    ∙ ap (λ (ts : List (List ℕ)). map text_of texts ++ ts) (sym first) ∙ so_far

-- and one from the end
pub last_taken : (texts new : List (Bor (List ℕ))) (own : Bor (List ℕ)) (text before : List ℕ) (all : List (List ℕ)) → new ≡ texts ++ own ∷ []
    → blocks_from_head 10 text ≡ blocks_from_head 10 before ++ own.now ∷ [] → blocks_from_head 10 text ++ reverse (map text_of texts) ≡ all
    → blocks_from_head 10 before ++ reverse (map text_of new) ≡ all
last_taken texts new own text before all e last so_far =
    let turned : reverse (map text_of new) ≡ own.now ∷ reverse (map text_of texts) =
    ap (λ (ts : List (Bor (List ℕ))). reverse (map text_of ts)) e ∙ ap reverse (map-append text_of texts (own ∷ []))
    ∙ reverse-append (map text_of texts) (own.now ∷ []) in
    ap (λ (ts : List (List ℕ)). blocks_from_head 10 before ++ ts) turned
    ∙ sym (append_assoc (blocks_from_head 10 before) (own.now ∷ []) (reverse (map text_of texts)))
    ∙ ap (λ (ts : List (List ℕ)). ts ++ reverse (map text_of texts)) (sym last) ∙ so_far

turned : (texts : List (Bor (List ℕ))) → map text_of (reverse texts) ≡ reverse (map text_of texts)
turned [] = refl
turned (text ∷ texts) =
    ap (map text_of) (reverse-append (text ∷ []) texts) ∙ map-append text_of (reverse texts) (text ∷ [])
    ∙ ap (λ (ts : List (List ℕ)). ts ++ text.now ∷ []) (turned texts) ∙ sym (reverse-append (text.now ∷ []) (map text_of texts))

-- those from the front, those that are cut anew, and those from the end
pub joined : (none first cut all no_last last back : List (Bor (List ℕ))) (text rest middle : List ℕ) → none ≡ [] → no_last ≡ []
    → map text_of first ++ blocks_from_head 10 rest ≡ map text_of none ++ blocks_from_head 10 text
    → blocks_from_head 10 middle ++ reverse (map text_of last) ≡ blocks_from_head 10 rest ++ reverse (map text_of no_last)
    → map text_of cut ≡ map text_of first ++ blocks_from_head 10 middle → back ≡ reverse last → all ≡ cut ++ back
    → map text_of all ≡ blocks_from_head 10 text
joined none first cut all no_last last back text rest middle empty no_back taken left anew is whole =
    ap (map text_of) whole ∙ map-append text_of cut back
    ∙ ap₂ (λ (a b : List (List ℕ)). a ++ b) anew (ap (map text_of) is ∙ turned last)
    ∙ append_assoc (map text_of first) (blocks_from_head 10 middle) (reverse (map text_of last))
    ∙ ap (λ (ts : List (List ℕ)). map text_of first ++ ts)
    (left ∙ ap (λ (ts : List (Bor (List ℕ))). blocks_from_head 10 rest ++ reverse (map text_of ts)) no_back ∙ append-nil (blocks_from_head 10 rest))
    ∙ taken ∙ ap (λ (ts : List (Bor (List ℕ))). map text_of ts ++ blocks_from_head 10 text) empty

-- a block that is found at the front, and one at the end
pub first_found : (text block own rest : List ℕ) (n : ℕ) → OneBlock block → own ≡ block → own ≡ take n text → rest ≡ drop n text → front_of 10 rest ≡ []
    → blocks_from_head 10 text ≡ own ∷ blocks_from_head 10 rest
first_found text block own rest n single same front back none =
    let whole : text ≡ own ++ rest = sym (take-append-drop n text) ∙ ap₂ (λ (a b : List ℕ). a ++ b) (sym front) (sym back) in
    ap (blocks_from_head 10) whole ∙ first_cut own rest (subst OneBlock (sym same) single) none

pub last_found : (text block before own : List ℕ) (n : ℕ) → OneBlock block → own ≡ block → before ≡ take n text → own ≡ drop n text → last_byte 10 before ≡ 10
    → blocks_from_head 10 text ≡ blocks_from_head 10 before ++ own ∷ []
last_found text block before own n single same front back ends =
    let whole : text ≡ before ++ own = sym (take-append-drop n text) ∙ ap₂ (λ (a b : List ℕ). a ++ b) (sym front) (sym back) in
    ap (blocks_from_head 10) whole ∙ last_cut before own (subst OneBlock (sym same) single) ends

pub without_preface : (text preface : List ℕ) (blocks : List (List ℕ)) → Cut text preface blocks → blocks ≡ blocks_from_head 10 text
    → blocks_from_head 10 (drop (length preface) text) ≡ blocks_from_head 10 text
without_preface text preface blocks cut e =
    ap (λ (t : List ℕ). blocks_from_head 10 (drop (length preface) t)) cut.whole
    ∙ ap (blocks_from_head 10) (drop-append_seam preface (concat blocks)) ∙ blocks_alone (last_byte 10 preface) blocks cut.each ∙ e
