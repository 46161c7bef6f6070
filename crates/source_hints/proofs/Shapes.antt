-- Where the first of a shape is, from one byte that may begin it to the next.
use Rattle.std.proofs.Common.{◌≡◌, ◌∙◌, ℕ, suc, zero, ◌+◌, ◌<◌, ◌≤◌, ◌==◌, Bool, List, [], ◌∷◌, Option, None, Some, ap, ap₂, arith, drop, false, length, refl, sym, true}
use Rattle.std.proofs.lemmas.Bool.{false_from_ne_true, false≢true}
use Rattle.std.proofs.lemmas.List.{drop-drop}
use Rattle.std.specs.Option.{option_map}
use Rattle.memchr.specs.Find.{IsFirstByte, is_byte}
use Rattle.source_hints.specs.FileForms.{first_byte, first_shape, is_shape}
use Rattle.source_hints.specs.declared.file_form.Shape.{Shape}
use Rattle.source_hints.specs.declared.file_form.Shape.TheVariants.{Returns, Comment}

-- so much later
abbrev pub moved : ℕ → Option ℕ → Option ℕ
moved from at = option_map (λ n. from + n) at

moved_moved : (m n : ℕ) (o : Option ℕ) → moved m (moved n o) ≡ moved (m + n) o
moved_moved m n None = refl
moved_moved m n (Some k) = let e : m + (n + k) ≡ m + n + k = omega arith in ap (λ (x : ℕ). Some x) e

moved_zero : (o : Option ℕ) → o ≡ moved 0 o
moved_zero None = refl
moved_zero (Some k) = let e : k ≡ 0 + k = omega arith in ap (λ (x : ℕ). Some x) e

moved_suc : (n : ℕ) (o : Option ℕ) → option_map suc (moved n o) ≡ moved (suc n) o
moved_suc n None = refl
moved_suc n (Some k) = let e : suc (n + k) ≡ suc n + k = omega arith in ap (λ (x : ℕ). Some x) e

-- no shape begins with another byte
other_byte : (shape : Shape) (byte : ℕ) (text : List ℕ) → (byte == first_byte shape) ≡ false → is_shape shape (byte ∷ text) ≡ false
other_byte Returns byte text other = rw other refl
other_byte Comment byte text other = rw other refl

past : (shape : Shape) (byte : ℕ) (text : List ℕ) → is_shape shape (byte ∷ text) ≡ false → first_shape shape (byte ∷ text) ≡ option_map suc (first_shape shape text)
past shape byte text other = rw other refl

-- the first is at or after the first byte that may begin it
pub shape_found : (shape : Shape) (text : List ℕ) (at : ℕ) → IsFirstByte (is_byte (first_byte shape)) text (Some at)
    → first_shape shape text ≡ moved at (first_shape shape (drop at text))
shape_found shape [] at first = absurd (omega (arith, first.0.high))
shape_found shape (byte ∷ text) zero first = moved_zero (first_shape shape (byte ∷ text))
shape_found shape (byte ∷ text) (suc at) first =
    let other : (byte == first_byte shape) ≡ false = false_from_ne_true (byte == first_byte shape) (λ t. first.0.before 0 (omega arith) (omega arith) t) in
    let high : at < length text = omega (arith, first.0.high) in
    let rest = shape_found shape text at
    (record { low = omega arith; high = high; before = λ k low less t. first.0.before (suc k) (omega arith) (omega (arith, less)) t }, first.1) in
    past shape byte text (other_byte shape byte text other) ∙ ap (option_map suc) rest ∙ moved_suc at (first_shape shape (drop at text))

-- without such a byte there is none
pub shape_none : (shape : Shape) (text : List ℕ) → IsFirstByte (is_byte (first_byte shape)) text None → first_shape shape text ≡ None
shape_none shape [] none = refl
shape_none shape (byte ∷ text) none =
    let other : (byte == first_byte shape) ≡ false = false_from_ne_true (byte == first_byte shape) (λ t. none 0 (omega arith) (omega arith) t) in
    past shape byte text (other_byte shape byte text other)
    ∙ ap (option_map suc) (shape_none shape text (λ k low less t. none (suc k) (omega arith) (omega (arith, less)) t))

as_moved : (o : Option ℕ) → option_map suc o ≡ moved 1 o
as_moved None = refl
as_moved (Some k) = let e : suc k ≡ 1 + k = omega arith in ap (λ (x : ℕ). Some x) e

-- what begins there is of the shape, or the first is after it
pub here : (shape : Shape) (text : List ℕ) → is_shape shape text ≡ true → first_shape shape text ≡ Some 0
here shape [] is = absurd (false≢true is)
here shape (byte ∷ text) is = rw is refl

pub not_here : (shape : Shape) (text : List ℕ) → is_shape shape text ≡ false → first_shape shape text ≡ moved 1 (first_shape shape (drop 1 text))
not_here shape [] other = refl
not_here shape (byte ∷ text) other = past shape byte text other ∙ as_moved (first_shape shape text)

-- the first of what is left from an offset on, one step later
pub next_shape : (shape : Shape) (text : List ℕ) (from passed : ℕ) → IsFirstByte (is_byte (first_byte shape)) (drop from text) (Some passed)
    → is_shape shape (drop (from + passed) text) ≡ false
    → moved from (first_shape shape (drop from text)) ≡ moved (from + passed + 1) (first_shape shape (drop (from + passed + 1) text))
next_shape shape text from passed first other =
    let step = shape_found shape (drop from text) passed first in
    let there : first_shape shape (drop passed (drop from text)) ≡ moved 1 (first_shape shape (drop 1 (drop (from + passed) text))) =
    ap (first_shape shape) (drop-drop passed from text) ∙ not_here shape (drop (from + passed) text) other in
    ap (moved from) (step ∙ ap (moved passed) there) ∙ ap (moved from) (moved_moved passed 1 (first_shape shape (drop 1 (drop (from + passed) text))))
    ∙ moved_moved from (passed + 1) (first_shape shape (drop 1 (drop (from + passed) text)))
    ∙ ap₂ (λ (k : ℕ) (rest : List ℕ). moved k (first_shape shape rest)) (omega arith) (drop-drop 1 (from + passed) text)
