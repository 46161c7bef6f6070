-- The row of a capability; the rows of the texts are in parts.
use Rattle.std.proofs.Common.{◌≡◌, ℕ, zero, suc, ◌+◌, ◌++◌, List, [], ◌∷◌, length, map, slice_get, Option, Some, unwrap_or, subst, arith, sym, ◌∙◌, ap}
use Rattle.ti_caps.specs.declared.capability.Kind.{Kind}
use Rattle.ti_caps.specs.declared.capability.Kind.TheVariants.{Flag, Number, Text}
use Rattle.ti_caps.specs.Tables.{Capability}
use Rattle.source_descriptions.specs.Descriptions.{Described, described, rows, told}
use Rattle.source_descriptions.specs.declared.descriptions.TheConstants.{FLAGS, NUMBERS, PART_1, PART_2, PART_3, PART_4, PART_5, PART_6}

-- the row of a capability is what is said of it
pub said_of : (c : Capability) (kind : Kind) (index : ℕ) (x : Described) → kind ≡ c.kind → index ≡ c.index → slice_get (rows kind) index ≡ Some x
    → x ≡ described c
said_of c kind index x k i h =
    let at : slice_get (rows c.kind) c.index ≡ Some x =
    subst (λ (kind : Kind). slice_get (rows kind) c.index ≡ Some x) k (subst (λ (n : ℕ). slice_get (rows kind) n ≡ Some x) i h) in
    ap (λ (o : Option Described). unwrap_or o (told [] [] [])) (sym at)

-- ---- the rows of the flags and of the numbers

pub in_flags : (index : ℕ) (x : Described) → slice_get (map (λ r. told r.0.now r.1.now r.2.now) FLAGS) index ≡ Some x → slice_get (rows Flag) index ≡ Some x
unfolding rows
in_flags index x h = h

pub in_numbers : (index : ℕ) (x : Described) → slice_get (map (λ r. told r.0.now r.1.now r.2.now) NUMBERS) index ≡ Some x → slice_get (rows Number) index ≡ Some x
unfolding rows
in_numbers index x h = h

-- ---- the rows of the texts

later : {A : Type 0} (front rest : List A) (k i : ℕ) → i ≡ length front + k → slice_get (front ++ rest) i ≡ slice_get rest k
later [] rest k i e = ap (λ (n : ℕ). slice_get rest n) (omega (arith, e))
later (x ∷ front) rest k zero e = absurd (omega (arith, e))
later (x ∷ front) rest k (suc i) e = later front rest k i (omega (arith, e))

earlier : {A : Type 0} (front rest : List A) (i : ℕ) (x : A) → slice_get front i ≡ Some x → slice_get (front ++ rest) i ≡ Some x
earlier [] rest i x e = absurd cc
earlier (y ∷ front) rest zero x e = e
earlier (y ∷ front) rest (suc i) x e = earlier front rest i x e

-- the parts
abbrev first : List Described
first = map (λ r. told r.0.now r.1.now r.2.now) PART_1

abbrev second : List Described
second = map (λ r. told r.0.now r.1.now r.2.now) PART_2

abbrev third : List Described
third = map (λ r. told r.0.now r.1.now r.2.now) PART_3

abbrev fourth : List Described
fourth = map (λ r. told r.0.now r.1.now r.2.now) PART_4

abbrev fifth : List Described
fifth = map (λ r. told r.0.now r.1.now r.2.now) PART_5

abbrev sixth : List Described
sixth = map (λ r. told r.0.now r.1.now r.2.now) PART_6

-- the parts before a part
abbrev first_two : List Described
first_two = first ++ second

abbrev first_three : List Described
first_three = first ++ second ++ third

abbrev first_four : List Described
first_four = first ++ second ++ third ++ fourth

abbrev first_five : List Described
first_five = first ++ second ++ third ++ fourth ++ fifth

in_texts : (index : ℕ) (x : Described) → slice_get (first_five ++ sixth) index ≡ Some x → slice_get (rows Text) index ≡ Some x
unfolding rows
in_texts index x h = h

-- the row at a place of a part, past the parts before it

pub in_part_1 : (index place : ℕ) (x : Described) → index ≡ place → slice_get first place ≡ Some x → slice_get (rows Text) index ≡ Some x
in_part_1 index place x at h =
    in_texts index x (earlier first_five sixth index x
    (earlier first_four fifth index x
    (earlier first_three fourth index x (earlier first_two third index x (earlier first second index x (ap (λ (n : ℕ). slice_get first n) at ∙ h))))))

pub in_part_2 : (index place : ℕ) (x : Described) → index ≡ 69 + place → slice_get second place ≡ Some x → slice_get (rows Text) index ≡ Some x
in_part_2 index place x at h =
    in_texts index x (earlier first_five sixth index x
    (earlier first_four fifth index x (earlier first_three fourth index x (earlier first_two third index x (later first second place index at ∙ h)))))

pub in_part_3 : (index place : ℕ) (x : Described) → index ≡ 138 + place → slice_get third place ≡ Some x → slice_get (rows Text) index ≡ Some x
in_part_3 index place x at h =
    in_texts index x (earlier first_five sixth index x
    (earlier first_four fifth index x (earlier first_three fourth index x (later first_two third place index at ∙ h))))

pub in_part_4 : (index place : ℕ) (x : Described) → index ≡ 207 + place → slice_get fourth place ≡ Some x → slice_get (rows Text) index ≡ Some x
in_part_4 index place x at h =
    in_texts index x (earlier first_five sixth index x (earlier first_four fifth index x (later first_three fourth place index at ∙ h)))

pub in_part_5 : (index place : ℕ) (x : Described) → index ≡ 276 + place → slice_get fifth place ≡ Some x → slice_get (rows Text) index ≡ Some x
in_part_5 index place x at h = in_texts index x (earlier first_five sixth index x (later first_four fifth place index at ∙ h))

pub in_part_6 : (index place : ℕ) (x : Described) → index ≡ 345 + place → slice_get sixth place ≡ Some x → slice_get (rows Text) index ≡ Some x
in_part_6 index place x at h = in_texts index x (later first_five sixth place index at ∙ h)
