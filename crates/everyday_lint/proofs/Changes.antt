-- Bytes of a text that are exchanged at once, each for a text.
use Rattle.std.proofs.Common.{◌≡◌, ◌⊎◌, ℕ, suc, ◌+◌, ◌-◌, ◌<◌, ◌≤◌, Bool, true, false, List, [], ◌∷◌, ◌++◌, append_assoc, drop, filter, length, map, take, inl}
use Rattle.std.proofs.Common.{inr, refl, sym, ap, ap₂, subst, ◌∙◌, arith}
use Rattle.std.specs.List.{AllByRecursion, concat}
use Rattle.std.proofs.Math.Seq.{drop-append-add, take-add, take-append-add}
use Rattle.std.proofs.lemmas.Bool.{cases_Bool, false≢true}
use Rattle.std.proofs.lemmas.List.{drop-append-le, drop-drop, drop_at, length-append, length-drop, length-take-le, take-append-drop, take-append-le, take-take}
use Rattle.std.proofs.lemmas.List.Elements.{filter-append}
use Rattle.source_edits.specs.Edits.{EditSeen}
use Rattle.source_fixes.specs.Healing.{block_after}
use Rattle.source_fixes.specs.Together.{edited_last}

-- a text in the place of the byte at an offset
pub record Change : Type 0 where
  pub at : ℕ
  pub text : List ℕ

-- what there is of a text from an offset on, with changes made
abbrev pub changed : ℕ → List ℕ → List Change → List ℕ
changed from left [] = left
changed from left (c ∷ cs) = take (c.at - from) left ++ (c.text ++ changed (suc c.at) (drop (suc c.at - from) left) cs)

-- each change is after the one before it, from an offset on and up to another
abbrev pub Rise : ℕ → ℕ → List Change → Type 0
Rise low high [] = low ≤ high
Rise low high (c ∷ cs) = (low ≤ c.at) × Rise (suc c.at) high cs

-- a change is one of these
abbrev pub IsIn : Change → List Change → Type 0
IsIn c [] = ⊥
IsIn c (d ∷ ds) = (d ≡ c) ⊎ IsIn c ds

-- ---- their order

pub rise_lower : (low less high : ℕ) (cs : List Change) → low ≤ less → Rise less high cs → Rise low high cs
rise_lower low less high [] up rise = omega (arith, up, rise)
rise_lower low less high (c ∷ cs) up rise = (let first = rise.0 in omega (arith, up, first), rise.1)

pub rise_higher : (low high top : ℕ) (cs : List Change) → high ≤ top → Rise low high cs → Rise low top cs
rise_higher low high top [] up rise = omega (arith, up, rise)
rise_higher low high top (c ∷ cs) up rise = (rise.0, rise_higher (suc c.at) high top cs up rise.1)

pub rise_both : (low middle high : ℕ) (xs ys : List Change) → Rise low middle xs → Rise middle high ys → Rise low high (xs ++ ys)
rise_both low middle high [] ys one other = rise_lower low middle high ys one other
rise_both low middle high (x ∷ xs) ys one other = (one.0, rise_both (suc x.at) middle high xs ys one.1 other)

pub rise_ends : (low high : ℕ) (cs : List Change) → Rise low high cs → low ≤ high
rise_ends low high [] rise = rise
rise_ends low high (c ∷ cs) rise =
    let first = rise.0 in
    let later = rise_ends (suc c.at) high cs rise.1 in
    omega (arith, first, later)

pub rise_filter : (p : Change → Bool) (low high : ℕ) (cs : List Change) → Rise low high cs → Rise low high (filter p cs)
rise_filter p low high [] rise = rise
rise_filter p low high (c ∷ cs) rise =
    let first = rise.0 in
    let later = rise_filter p (suc c.at) high cs rise.1 in
    elim (cases_Bool (p c)) [
      | inl t ↦ rw t (first, later)
      | inr f ↦ rw f (rise_lower low (suc c.at) high (filter p cs) (omega (arith, first)) later)
    ]

in_above : (low high : ℕ) (cs : List Change) (c : Change) → Rise low high cs → IsIn c cs → low ≤ c.at
in_above low high [] c rise is = absurd is
in_above low high (d ∷ ds) c rise (inl same) = let first = rise.0 in let at = ap (λ (x : Change). x.at) same in omega (arith, first, at)
in_above low high (d ∷ ds) c rise (inr later) =
    let first = rise.0 in
    let more = in_above (suc d.at) high ds c rise.1 later in
    omega (arith, first, more)

-- ---- changes in order that are among others in order

-- changes at these offsets are among others
pub record AreThese (p : ℕ → Bool) (fixes all : List Change) : Type 0 where
  pub into : (c : Change) → IsIn c fixes → IsIn c all × (p c.at ≡ true)
  pub has : (c : Change) → IsIn c all → p c.at ≡ true → (d : Change) × IsIn d fixes × (d.at ≡ c.at)

rest_in : (a : Change) (all : List Change) (c : Change) → a.at < c.at → IsIn c (a ∷ all) → IsIn c all
rest_in a all c less (inl same) = let at = ap (λ (x : Change). x.at) same in absurd (omega (arith, less, at))
rest_in a all c less (inr later) = later

-- the first of both is one
first_same : (p : ℕ → Bool) (low high : ℕ) (a : Change) (all : List Change) (g : Change) (fixes : List Change) → Rise low high (g ∷ fixes)
    → Rise low high (a ∷ all) → p a.at ≡ true → AreThese p (g ∷ fixes) (a ∷ all) → g ≡ a
first_same p low high a all g fixes rise order t are =
    elim (are.into g (inl refl)).0 [
      | inl same ↦ sym same
      | inr later ↦
          let above = in_above (suc a.at) high all g order.1 later in
          let found = are.has a (inl refl) t in
          let at = found.2 in
          let first : g.at ≤ found.0.at = in_above g.at high (g ∷ fixes) found.0 (omega arith, rise.1) found.1 in
          absurd (omega (arith, above, at, first))
    ]

rest_these : (p : ℕ → Bool) (low high : ℕ) (a : Change) (all : List Change) (g : Change) (fixes : List Change) → Rise low high (g ∷ fixes)
    → Rise low high (a ∷ all) → g ≡ a → AreThese p (g ∷ fixes) (a ∷ all) → AreThese p fixes all
rest_these p low high a all g fixes rise order same are =
    let at = ap (λ (x : Change). x.at) same in
    record {
      into = λ c is.
          let all_of = are.into c (inr is) in
          let above = in_above (suc g.at) high fixes c rise.1 is in
          (rest_in a all c (omega (arith, at, above)) all_of.0, all_of.1);
      has = λ c is t.
          let found = are.has c (inr is) t in
          let place = found.2 in
          let above = in_above (suc a.at) high all c order.1 is in
          (found.0, rest_in g fixes found.0 (omega (arith, at, place, above)) found.1, place);
    }

-- one that is not among them
skip_these : (p : ℕ → Bool) (a : Change) (all fixes : List Change) → p a.at ≡ false → AreThese p fixes (a ∷ all) → AreThese p fixes all
skip_these p a all fixes f are = record {
  into = λ c is.
      let all_of = are.into c is in (
        elim all_of.0 [
          | inl same ↦ absurd (false≢true (sym f ∙ ap (λ (x : Change). p x.at) same ∙ all_of.1))
          | inr later ↦ later
        ],
        all_of.1,
      );
  has = λ c is t. are.has c (inr is) t;
}

skip_rise : (p : ℕ → Bool) (low high : ℕ) (a : Change) (all fixes : List Change) → Rise low high (a ∷ all) → AreThese p fixes all → Rise low high fixes
    → Rise (suc a.at) high fixes
skip_rise p low high a all [] order are rise = rise_ends (suc a.at) high all order.1
skip_rise p low high a all (g ∷ fixes) order are rise = (in_above (suc a.at) high all g order.1 (are.into g (inl refl)).0, rise.1)

-- one of the others is first, and it is among these
first_these : (p : ℕ → Bool) (low high : ℕ) (a : Change) (all fs : List Change) → Rise low high (a ∷ all) → p a.at ≡ true
    → ((gs : List Change) → Rise (suc a.at) high gs → AreThese p gs all → gs ≡ filter (λ (c : Change). p c.at) all)
    → Rise low high fs → AreThese p fs (a ∷ all) → fs ≡ a ∷ filter (λ (c : Change). p c.at) all
first_these p low high a all [] order t rest rise are = absurd (are.has a (inl refl) t).1
first_these p low high a all (g ∷ gs) order t rest rise are =
    let same = first_same p low high a all g gs rise order t are in
    let at = ap (λ (x : Change). x.at) same in
    ap₂ (λ (c : Change) (cs : List Change). c ∷ cs) same
    (rest gs (subst (λ (n : ℕ). Rise (suc n) high gs) at rise.1) (rest_these p low high a all g gs rise order same are))

pub these_are : (p : ℕ → Bool) (low high : ℕ) (all fixes : List Change) → Rise low high fixes → Rise low high all → AreThese p fixes all
    → fixes ≡ filter (λ (c : Change). p c.at) all
these_are p low high [] [] rise order are = refl
these_are p low high [] (g ∷ fixes) rise order are = absurd (are.into g (inl refl)).0
these_are p low high (a ∷ all) fixes rise order are =
    elim (cases_Bool (p a.at)) [
      | inl t ↦ rw t (first_these p low high a all fixes order t (λ gs rises these. these_are p (suc a.at) high all gs rises order.1 these) rise are)
      | inr f ↦
          let skipped = skip_these p a all fixes f are in
          rw f (these_are p (suc a.at) high all fixes (skip_rise p low high a all fixes order skipped rise) order.1 skipped)
    ]

-- ---- in a part of a text

-- what is before all changes stays
pub kept_before : (from : ℕ) (front rest : List ℕ) (to high : ℕ) (cs : List Change) → to ≡ from + length front → Rise to high cs
    → changed from (front ++ rest) cs ≡ front ++ changed to rest cs
kept_before from front rest to high [] at rise = refl
kept_before from front rest to high (c ∷ cs) at rise =
    let first = rise.0 in
    let before : c.at - from ≡ length front + (c.at - to) = omega (arith, at, first) in
    let after : suc c.at - from ≡ length front + (suc c.at - to) = omega (arith, at, first) in
    ap₂ (λ (a b : List ℕ). a ++ (c.text ++ changed (suc c.at) b cs))
    (ap (λ (n : ℕ). take n (front ++ rest)) before ∙ take-append-add front rest (c.at - to))
    (ap (λ (n : ℕ). drop n (front ++ rest)) after ∙ drop-append-add front rest (suc c.at - to))
    ∙ append_assoc front (take (c.at - to) rest) (c.text ++ changed (suc c.at) (drop (suc c.at - to) rest) cs)

-- what is after all changes stays
pub kept_after : (from : ℕ) (left more : List ℕ) (cs : List Change) → Rise from (from + length left) cs
    → changed from (left ++ more) cs ≡ changed from left cs ++ more
kept_after from left more [] rise = refl
kept_after from left more (c ∷ cs) rise =
    let first = rise.0 in
    let end = rise_ends (suc c.at) (from + length left) cs rise.1 in
    let rest = drop (suc c.at - from) left in
    let size = length-drop (suc c.at - from) left in
    let here : from + length left ≡ suc c.at + length rest = omega (arith, first, end, size) in
    ap₂ (λ (a b : List ℕ). a ++ (c.text ++ b)) (take-append-le (c.at - from) left more (omega (arith, first, end)))
    (ap (λ (t : List ℕ). changed (suc c.at) t cs) (drop-append-le (suc c.at - from) left more (omega (arith, first, end)))
    ∙ kept_after (suc c.at) rest more cs (subst (λ (n : ℕ). Rise (suc c.at) n cs) here rise.1))
    ∙ regrouped (take (c.at - from) left) c.text (changed (suc c.at) rest cs) more
  where
    regrouped : (one two three four : List ℕ) → one ++ (two ++ (three ++ four)) ≡ (one ++ (two ++ three)) ++ four
    regrouped one two three four = simp append_assoc

-- the same change of a text in which that one comes after so many bytes
abbrev pub moved : ℕ → Change → Change
moved from c = record { at = from + c.at; text = c.text }

regroup : (one two three four : List ℕ) → one ++ (two ++ (three ++ four)) ≡ (one ++ (two ++ three)) ++ four
regroup one two three four = simp append_assoc

-- the changes of a part, and those of what is after it
pub part_changed : (from k m high top : ℕ) (left rest : List ℕ) (es cs : List Change) → m ≡ from + k → length left + k ≡ high → Rise k high es
    → Rise (from + high) top cs
    → changed m (left ++ rest) (map (moved from) es ++ cs) ≡ changed k left es ++ changed (from + high) rest cs
part_changed from k m high top left rest [] cs at size rise later = kept_before m left rest (from + high) top cs (omega (arith, at, size)) later
part_changed from k m high top left rest (e ∷ es) cs at size rise later =
    let first = rise.0 in
    let end = rise_ends (suc e.at) high es rise.1 in
    let n = suc e.at - k in
    let dropped = length-drop n left in
    let before : (from + e.at) - m ≡ e.at - k = omega (arith, at, first) in
    let after : suc (from + e.at) - m ≡ n = omega (arith, at, first) in
    ap₂ (λ (a b : List ℕ). a ++ (e.text ++ changed (suc (from + e.at)) b (map (moved from) es ++ cs)))
    (ap (λ (i : ℕ). take i (left ++ rest)) before ∙ take-append-le (e.at - k) left rest (omega (arith, first, end, size)))
    (ap (λ (i : ℕ). drop i (left ++ rest)) after ∙ drop-append-le n left rest (omega (arith, first, end, size)))
    ∙ ap (λ (t : List ℕ). take (e.at - k) left ++ (e.text ++ t))
    (part_changed from (suc e.at) (suc (from + e.at)) high top (drop n left) rest es cs (omega arith) (omega (arith, dropped, first, end, size)) rise.1 later)
    ∙ regroup (take (e.at - k) left) e.text (changed (suc e.at) (drop n left) es) (changed (from + high) rest cs)

-- ---- edits of a block

-- an edit as a change
abbrev pub change_of : EditSeen → Change
change_of edit = record { at = edit.part.start; text = edit.text }

-- an edit is of one byte
abbrev pub IsOfByte : EditSeen → Type 0
IsOfByte edit = edit.part.end ≡ suc edit.part.start

edited_from : (block : List ℕ) (k high : ℕ) (es : List EditSeen) → high ≤ length block → Rise k high (map change_of es) → AllByRecursion IsOfByte es
    → edited_last block es ≡ take k block ++ changed k (drop k block) (map change_of es)
edited_from block k high [] within rise ones = sym (take-append-drop k block)
edited_from block k high (e ∷ es) within rise ones =
    let start = e.part.start in
    let first = rise.0 in
    let end = rise_ends (suc start) high (map change_of es) rise.1 in
    let rest = changed (suc start) (drop (suc start) block) (map change_of es) in
    let later : edited_last block es ≡ take (suc start) block ++ rest = edited_from block (suc start) high es within rise.1 ones.1 in
    let size : length (take (suc start) block) ≡ suc start = length-take-le (suc start) block (omega (arith, end, within)) in
    let from_k : start ≡ k + (start - k) = omega (arith, first) in
    let past_k : suc start ≡ k + (suc start - k) = omega (arith, first) in
    let before : take start (take (suc start) block ++ rest) ≡ take k block ++ take (start - k) (drop k block) =
    take-append-le start (take (suc start) block) rest (omega (arith, size)) ∙ take-take start (suc start) block (omega arith)
    ∙ ap (λ (n : ℕ). take n block) from_k ∙ take-add k (start - k) block in
    let after : drop e.part.end (take (suc start) block ++ rest) ≡ rest =
    ap (λ (n : ℕ). drop n (take (suc start) block ++ rest)) ones.0 ∙ drop_at (take (suc start) block) rest (suc start) size in
    let left : drop (suc start) block ≡ drop (suc start - k) (drop k block) =
    ap (λ (n : ℕ). drop n block) past_k ∙ sym (drop-drop (suc start - k) k block) in
    ap (λ (t : List ℕ). block_after t e) later
    ∙ ap₂ (λ (a b : List ℕ). a ++ e.text ++ b) before after
    ∙ grouped (take k block) (take (start - k) (drop k block)) e.text rest
    ∙ ap (λ (t : List ℕ). take k block ++ (take (start - k) (drop k block) ++ (e.text ++ changed (suc start) t (map change_of es)))) left
  where
    grouped : (one two three four : List ℕ) → ((one ++ two) ++ three) ++ four ≡ one ++ (two ++ (three ++ four))
    grouped one two three four = simp append_assoc

-- edits of a block that are made at once, the last of them first
pub edited_is : (block : List ℕ) (es : List EditSeen) → Rise 0 (length block) (map change_of es) → AllByRecursion IsOfByte es
    → edited_last block es ≡ changed 0 block (map change_of es)
edited_is block es rise ones = edited_from block 0 (length block) es (omega arith) rise ones

-- ---- the blocks of a text

-- the changes that edits of blocks are, of which the first begins at that offset
abbrev pub all_changes : (List ℕ → List EditSeen) → ℕ → List (List ℕ) → List Change
all_changes edits from [] = []
all_changes edits from (block ∷ blocks) = map (moved from) (map change_of (edits block)) ++ all_changes edits (from + length block) blocks

-- the blocks with those of the edits made that are at these offsets
abbrev pub all_edited : (List ℕ → List EditSeen) → (ℕ → Bool) → ℕ → List (List ℕ) → List (List ℕ)
all_edited edits p from [] = []
all_edited edits p from (block ∷ blocks) =
    edited_last block (filter (λ (edit : EditSeen). p (from + edit.part.start)) (edits block)) ∷ all_edited edits p (from + length block) blocks

-- the edits of a block are of single bytes, in order
pub record AreInOrder (edits : List ℕ → List EditSeen) (block : List ℕ) : Type 0 where
  pub rise : Rise 0 (length block) (map change_of (edits block))
  pub ones : AllByRecursion IsOfByte (edits block)

moved_rise : (from low high : ℕ) (cs : List Change) → Rise low high cs → Rise (from + low) (from + high) (map (moved from) cs)
moved_rise from low high [] rise = omega (arith, rise)
moved_rise from low high (c ∷ cs) rise =
    let first = rise.0 in
    let next : from + suc c.at ≡ suc (from + c.at) = omega arith in
    (omega (arith, first), subst (λ (n : ℕ). Rise n (from + high) (map (moved from) cs)) next (moved_rise from (suc c.at) high cs rise.1))

pub all_rise : (edits : List ℕ → List EditSeen) (from : ℕ) (blocks : List (List ℕ)) → ((block : List ℕ) → AreInOrder edits block)
    → Rise from (from + length (concat blocks)) (all_changes edits from blocks)
all_rise edits from [] order = omega arith
all_rise edits from (block ∷ blocks) order =
    let first = moved_rise from 0 (length block) (map change_of (edits block)) (order block).rise in
    let start : from + 0 ≡ from = omega arith in
    let size = length-append block (concat blocks) in
    let end : (from + length block) + length (concat blocks) ≡ from + length (concat (block ∷ blocks)) = omega (arith, size) in
    rise_both from (from + length block) (from + length (concat (block ∷ blocks))) (map (moved from) (map change_of (edits block)))
    (all_changes edits (from + length block) blocks)
    (subst (λ (n : ℕ). Rise n (from + length block) (map (moved from) (map change_of (edits block)))) start first)
    (subst (λ (n : ℕ). Rise (from + length block) n (all_changes edits (from + length block) blocks)) end (all_rise edits (from + length block) blocks order))

filter_moved : (p : ℕ → Bool) (from : ℕ) (es : List EditSeen) → filter (λ (c : Change). p c.at) (map (moved from) (map change_of es))
    ≡ map (moved from) (map change_of (filter (λ (edit : EditSeen). p (from + edit.part.start)) es))
filter_moved p from [] = refl
filter_moved p from (e ∷ es) =
    elim (cases_Bool (p (from + e.part.start))) [
      | inl t ↦ rw t (ap (λ (cs : List Change). moved from (change_of e) ∷ cs) (filter_moved p from es))
      | inr f ↦ rw f (filter_moved p from es)
    ]

filter_rise : (p : EditSeen → Bool) (low high : ℕ) (es : List EditSeen) → Rise low high (map change_of es) → Rise low high (map change_of (filter p es))
filter_rise p low high [] rise = rise
filter_rise p low high (e ∷ es) rise =
    let first = rise.0 in
    let later = filter_rise p (suc e.part.start) high es rise.1 in
    elim (cases_Bool (p e)) [
      | inl t ↦ rw t (first, later)
      | inr f ↦ rw f (rise_lower low (suc e.part.start) high (map change_of (filter p es)) (omega (arith, first)) later)
    ]

filter_ones : (p : EditSeen → Bool) (es : List EditSeen) → AllByRecursion IsOfByte es → AllByRecursion IsOfByte (filter p es)
filter_ones p [] ones = tt
filter_ones p (e ∷ es) ones =
    elim (cases_Bool (p e)) [
      | inl t ↦ rw t (ones.0, filter_ones p es ones.1)
      | inr f ↦ rw f (filter_ones p es ones.1)
    ]

-- such changes of the joined blocks are the edits of each of them
pub blocks_changed : (edits : List ℕ → List EditSeen) (p : ℕ → Bool) (from : ℕ) (blocks : List (List ℕ)) → ((block : List ℕ) → AreInOrder edits block)
    → changed from (concat blocks) (filter (λ (c : Change). p c.at) (all_changes edits from blocks)) ≡ concat (all_edited edits p from blocks)
blocks_changed edits p from [] order = refl
blocks_changed edits p from (block ∷ blocks) order =
    let size = length block in
    let test : Change → Bool = λ c. p c.at in
    let mine = filter (λ (edit : EditSeen). p (from + edit.part.start)) (edits block) in
    let later = filter test (all_changes edits (from + size) blocks) in
    let top = (from + size) + length (concat blocks) in
    let is = order block in
    let rise = filter_rise (λ (edit : EditSeen). p (from + edit.part.start)) 0 size (edits block) is.rise in
    let ones = filter_ones (λ (edit : EditSeen). p (from + edit.part.start)) (edits block) is.ones in
    let after = rise_filter test (from + size) top (all_changes edits (from + size) blocks) (all_rise edits (from + size) blocks order) in
    ap (changed from (block ++ concat blocks))
    (filter-append test (map (moved from) (map change_of (edits block))) (all_changes edits (from + size) blocks)
    ∙ ap (λ (cs : List Change). cs ++ later) (filter_moved p from (edits block)))
    ∙ part_changed from 0 from size top block (concat blocks) (map change_of mine) later (omega arith) (omega arith) rise after
    ∙ ap₂ (λ (a b : List ℕ). a ++ b) (sym (edited_is block mine rise ones)) (blocks_changed edits p (from + size) blocks order)
