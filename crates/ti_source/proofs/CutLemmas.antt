-- Each source has one cut, which `front_of` and `blocks_from_head` compute. Each block by itself is
-- one block.
use Rattle.std.proofs.Common.{◌≡◌, ℕ, ◌≤◌, true, false, ◌==◌, List, [], ◌∷◌, ◌++◌, length, All, cond, refl, sym, ap, ◌∙◌, inl, inr, arith, rules}
use Rattle.std.specs.List.{concat}
use Rattle.std.proofs.lemmas.Bool.{cases_Bool, and_parts, and_from, eqb-true, eq-eqb}
use Rattle.std.proofs.lemmas.List.{append-nil}
use Rattle.std.proofs.lemmas.List.Elements.{All-nil, All-cons}
use Rattle.ti_text.proofs.Texts.{last_byte-append}
use Rattle.ti_source.specs.Cutting.{last_byte, HasNoHead, HasOneHead, AreBlocks, Cut, OneBlock, EachHasCut, IsOnlyCut, BlocksAreSingle}
use Rattle.ti_source.specs.Cutting.{BlocksAreSingleOnceEnded}
use Rattle.ti_source.specs.Cutting.{front_of, blocks_from_head}
use Rattle.ti_source.specs.Heads.{begins_head, is_head}

-- a head line begins if a newline is before a byte that may begin one
pub is_head_from : (before x : ℕ) → before ≡ 10 → begins_head x ≡ true → is_head before x ≡ true
is_head_from before x e h = and_from (before == 10) (begins_head x) (eq-eqb before 10 e) h

pub is_head_parts : (before x : ℕ) → is_head before x ≡ true → (before ≡ 10) × (begins_head x ≡ true)
is_head_parts before x t =
    let p = and_parts (before == 10) (begins_head x) t in
    (eqb-true before 10 p.0, p.1)

-- what a text has if a head line begins at its first byte, and if none does
pub front_of-head : (before x : ℕ) (xs : List ℕ) → is_head before x ≡ true → front_of before (x ∷ xs) ≡ []
front_of-head before x xs t = rw t

pub front_of-plain : (before x : ℕ) (xs : List ℕ) → is_head before x ≡ false → front_of before (x ∷ xs) ≡ x ∷ front_of x xs
front_of-plain before x xs f = rw f

pub blocks_of-head : (before x : ℕ) (xs : List ℕ) → is_head before x ≡ true → blocks_from_head before (x ∷ xs) ≡ (x ∷ front_of x xs) ∷ blocks_from_head x xs
blocks_of-head before x xs t = rw t

pub blocks_of-plain : (before x : ℕ) (xs : List ℕ) → is_head before x ≡ false → blocks_from_head before (x ∷ xs) ≡ blocks_from_head x xs
blocks_of-plain before x xs f = rw f

-- what the cut of a text after the byte `before` says: it is the computed one
record CutAfter (before : ℕ) (s p : List ℕ) (bs : List (List ℕ)) : Type 0 where
  whole : s ≡ p ++ concat bs
  front : HasNoHead before p
  each : AreBlocks (last_byte before p) bs

has_cut_after : (before : ℕ) (s : List ℕ) → CutAfter before s (front_of before s) (blocks_from_head before s)
has_cut_after before [] = record { whole = refl; front = tt; each = tt }
has_cut_after before (x ∷ xs) =
    let rest = has_cut_after x xs in
    elim (cases_Bool (is_head before x)) [
      | inl t ↦
          let h = is_head_parts before x t in
          rw (front_of-head before x xs t, blocks_of-head before x xs t)
          (record { whole = ap (λ r. x ∷ r) rest.whole; front = tt; each = (h.0, (h.1, rest.front), rest.each) })
      | inr f ↦
          rw (front_of-plain before x xs f, blocks_of-plain before x xs f)
          (record { whole = ap (λ r. x ∷ r) rest.whole; front = (f, rest.front); each = rest.each })
    ]

pub each_has_cut : EachHasCut
each_has_cut s = let c = has_cut_after 10 s in record { whole = c.whole; front = c.front; each = c.each }

-- preface and blocks are those that are computed from the text that they make together
abbrev IsComputed : ℕ → List ℕ → List (List ℕ) → Type 0
IsComputed before p bs = (front_of before (p ++ concat bs) ≡ p) × (blocks_from_head before (p ++ concat bs) ≡ bs)

-- what holds of the blocks alone holds with any preface before them
with_preface : (bs : List (List ℕ)) → ((before : ℕ) → AreBlocks before bs → IsComputed before [] bs)
    → (before : ℕ) (p : List ℕ) → HasNoHead before p → AreBlocks (last_byte before p) bs → IsComputed before p bs
with_preface bs alone before [] n a = alone before a
with_preface bs alone before (x ∷ xs) n a =
    let rest = with_preface bs alone x xs n.1 a in
    (front_of-plain before x (xs ++ concat bs) n.0 ∙ ap (λ r. x ∷ r) rest.0, blocks_of-plain before x (xs ++ concat bs) n.0 ∙ rest.1)

blocks_alone : (bs : List (List ℕ)) (before : ℕ) → AreBlocks before bs → IsComputed before [] bs
blocks_alone [] before a = (refl, refl)
blocks_alone ([] ∷ bs) before a = absurd a.1
blocks_alone ((x ∷ xs) ∷ bs) before a =
    let t = is_head_from before x a.0 a.1.0 in
    let rest = with_preface bs (blocks_alone bs) x xs a.1.1 a.2 in
    (front_of-head before x (xs ++ concat bs) t, blocks_of-head before x (xs ++ concat bs) t ∙ (rw (rest.0, rest.1) refl))

-- every cut is the computed one
pub cut_is_computed : (s p : List ℕ) (bs : List (List ℕ)) → Cut s p bs → (front_of 10 s ≡ p) × (blocks_from_head 10 s ≡ bs)
cut_is_computed s p bs c =
    let parts = with_preface bs (blocks_alone bs) 10 p c.front c.each in
    (ap (front_of 10) c.whole ∙ parts.0, ap (blocks_from_head 10) c.whole ∙ parts.1)

pub one_cut_law : IsOnlyCut
one_cut_law s p q bs cs c d =
    let first = cut_is_computed s p bs c in
    let second = cut_is_computed s q cs d in
    (sym first.0 ∙ second.0, sym first.1 ∙ second.1)

pub length-blocks_of : (before : ℕ) (s : List ℕ) → length (blocks_from_head before s) ≤ length s
length-blocks_of before [] = omega arith
length-blocks_of before (x ∷ xs) =
    let rest = length-blocks_of x xs in
    elim (cases_Bool (is_head before x)) [
      | inl t ↦ rw (blocks_of-head before x xs t) (omega arith)
      | inr f ↦ rw (blocks_of-plain before x xs f) (omega arith)
    ]

-- a text with one head line, at its first byte, that ends with a newline is one block
pub one_block_from : (text : List ℕ) → HasOneHead text → last_byte 0 text ≡ 10 → OneBlock text
one_block_from text h e = record { cut = record { whole = sym (append-nil text); front = tt; each = (refl, h, tt) }; ends = e }

-- the last byte of a text that is not empty does not depend on what is before it
last_byte-head : (before : ℕ) (text : List ℕ) → HasOneHead text → last_byte before text ≡ last_byte 0 text
last_byte-head before [] h = absurd h
last_byte-head before (x ∷ xs) h = refl

single_blocks : (before : ℕ) (bs : List (List ℕ)) → AreBlocks before bs → last_byte before (concat bs) ≡ 10 → All OneBlock bs
single_blocks before [] a e = All-nil OneBlock
single_blocks before (b ∷ []) a e =
    let ends = sym (last_byte-head before b a.1) ∙ ap (last_byte before) (sym (append-nil b)) ∙ e in
    All-cons OneBlock b [] (one_block_from b a.1 ends) (All-nil OneBlock)
single_blocks before (b ∷ c ∷ bs) a e =
    let ends = sym (last_byte-head before b a.1) ∙ a.2.0 in
    let rest = single_blocks (last_byte before b) (c ∷ bs) a.2 (sym (last_byte-append before b (concat (c ∷ bs))) ∙ e) in
    All-cons OneBlock b (c ∷ bs) (one_block_from b a.1 ends) rest

pub blocks_are_single_law : BlocksAreSingle
blocks_are_single_law s p bs e c =
    single_blocks (last_byte 10 p) bs c.each (sym (last_byte-append 10 p (concat bs)) ∙ ap (last_byte 10) (sym c.whole) ∙ e)

-- a newline at the end of a text adds no head line
HasNoHead-ended : (before : ℕ) (s : List ℕ) → HasNoHead before s → HasNoHead before (s ++ 10 ∷ [])
HasNoHead-ended before [] n = (search rules, tt)
HasNoHead-ended before (x ∷ xs) n = (n.0, HasNoHead-ended x xs n.1)

HasOneHead-ended : (s : List ℕ) → HasOneHead s → HasOneHead (s ++ 10 ∷ [])
HasOneHead-ended [] h = absurd h
HasOneHead-ended (x ∷ xs) h = (h.0, HasNoHead-ended x xs h.1)

-- the text of a block with its last line ended
abbrev ended : List ℕ → List ℕ
ended block = cond (last_byte 0 block == 10) block (block ++ 10 ∷ [])

ended_is_single : (b : List ℕ) → HasOneHead b → OneBlock (ended b)
ended_is_single b h =
    elim (cases_Bool (last_byte 0 b == 10)) [
      | inl t ↦ rw t (one_block_from b h (eqb-true (last_byte 0 b) 10 t))
      | inr f ↦ rw f (one_block_from (b ++ 10 ∷ []) (HasOneHead-ended b h) (last_byte-append 0 b (10 ∷ [])))
    ]

ended_blocks : (before : ℕ) (bs : List (List ℕ)) → AreBlocks before bs → All (λ b. OneBlock (ended b)) bs
ended_blocks before [] a = All-nil (λ b. OneBlock (ended b))
ended_blocks before (b ∷ bs) a =
    All-cons (λ b. OneBlock (ended b)) b bs (ended_is_single b a.1) (ended_blocks (last_byte before b) bs a.2)

pub blocks_are_single_once_ended_law : BlocksAreSingleOnceEnded
blocks_are_single_once_ended_law s p bs c = ended_blocks (last_byte 10 p) bs c.each
