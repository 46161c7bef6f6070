-- How a walk from newline to newline finds the blocks.
use Rattle.std.proofs.Common.{◌≡◌, ◌≢◌, ℕ, zero, suc, ◌+◌, ◌-◌, ◌<◌, ◌≤◌, Bool, true, false, ◌==◌, List, [], ◌∷◌, ◌++◌, length, take, drop, get_or, Option}
use Rattle.std.proofs.Common.{Some, None, IsTrue, slice_get, nat_eq, Bor, refl, sym, ap, subst, ◌∙◌, inl, inr, arith}
use Rattle.std.proofs.lemmas.Bool.{cases_Bool, eqb-true, eq-eqb, ne_eqb, and_left}
use Rattle.std.proofs.lemmas.List.{length-append, length-take-le, length-drop, drop-drop, take_rest}
use Rattle.std.proofs.lemmas.Option.{slice_get-get_or}
use Rattle.std.specs.Option.{option_eq, option_copied}
use Rattle.std.proofs.Math.Seq.{drop-append_seam, take-append_seam}
use Rattle.std.specs.Iterator.{MakesProgress, item_count}
use Rattle.memchr.specs.Find.{IsFirstByte, is_byte}
use Rattle.ti_source.specs.Cutting.{last_byte, HasNoHead, OneBlock}
use Rattle.ti_source.specs.Cutting.{front_of, blocks_from_head}
use Rattle.ti_source.specs.inside.Cutting.{begins_with_head, to_next_head}
use Rattle.ti_source.specs.Heads.{begins_head, is_head}
use Rattle.ti_source.proofs.CutLemmas.{front_of-head, front_of-plain, blocks_of-head, blocks_of-plain, is_head_from, is_head_parts, one_block_from}

-- a text is its front and what begins with its first head line, which has the same blocks
record Splits (before : ℕ) (s rest : List ℕ) : Type 0 where
  pub whole : front_of before s ++ rest ≡ s
  pub front : front_of 10 rest ≡ []
  pub left : blocks_from_head 10 rest ≡ blocks_from_head before s

splits_at_head : (before : ℕ) (s : List ℕ) → (rest : List ℕ) × Splits before s rest
splits_at_head before [] = ([], record { whole = refl; front = refl; left = refl })
splits_at_head before (x ∷ xs) =
    elim (cases_Bool (is_head before x)) [
      | inl t ↦
          let h = is_head_parts before x t in
          let here = is_head_from 10 x refl h.1 in (
            x ∷ xs,
            record {
              whole = rw (front_of-head before x xs t) refl;
              front = front_of-head 10 x xs here;
              left = blocks_of-head 10 x xs here ∙ sym (blocks_of-head before x xs t);
            },
          )
      | inr f ↦
          let later = splits_at_head x xs in (
            later.0,
            record {
              whole = rw (front_of-plain before x xs f) (ap (λ r. x ∷ r) later.1.whole);
              front = later.1.front;
              left = later.1.left ∙ sym (blocks_of-plain before x xs f);
            },
          )
    ]

-- a first line that ends with its newline at n, and what comes after it up to a head line
front_of-line : (before : ℕ) (s : List ℕ) (n : ℕ) → before ≢ 10 → n < length s → ((k : ℕ) → k < n → get_or s k 0 ≢ 10) → get_or s n 0 ≡ 10
    → front_of before s ≡ take (suc n) s ++ front_of 10 (drop (suc n) s)
front_of-line before [] n b h none here = absurd (omega arith)
front_of-line before (x ∷ xs) zero b h none here =
    front_of-plain before x xs (and_left (before == 10) (begins_head x) (ne_eqb before 10 b)) ∙ ap (λ y. x ∷ front_of y xs) here
front_of-line before (x ∷ xs) (suc n) b h none here =
    front_of-plain before x xs (and_left (before == 10) (begins_head x) (ne_eqb before 10 b))
    ∙ ap (λ r. x ∷ r) (front_of-line x xs n (none 0 (omega arith)) (omega arith) (λ k l. none (suc k) (omega arith)) here)

to_next_head-line : (s : List ℕ) (n : ℕ) → n < length s → ((k : ℕ) → k < n → get_or s k 0 ≢ 10) → get_or s n 0 ≡ 10
    → to_next_head s ≡ take (suc n) s ++ front_of 10 (drop (suc n) s)
to_next_head-line [] n h none here = absurd (omega arith)
to_next_head-line (x ∷ xs) zero h none here = ap (λ y. x ∷ front_of y xs) here
to_next_head-line (x ∷ xs) (suc n) h none here =
    ap (λ r. x ∷ r) (front_of-line x xs n (none 0 (omega arith)) (omega arith) (λ k l. none (suc k) (omega arith)) here)

-- a text without newlines
front_of-no_newline : (before : ℕ) (s : List ℕ) → before ≢ 10 → ((k : ℕ) → k < length s → get_or s k 0 ≢ 10) → front_of before s ≡ s
front_of-no_newline before [] b none = refl
front_of-no_newline before (x ∷ xs) b none =
    front_of-plain before x xs (and_left (before == 10) (begins_head x) (ne_eqb before 10 b))
    ∙ ap (λ r. x ∷ r) (front_of-no_newline x xs (none 0 (omega arith)) (λ k l. none (suc k) (omega arith)))

to_next_head-no_newline : (s : List ℕ) → ((k : ℕ) → k < length s → get_or s k 0 ≢ 10) → to_next_head s ≡ s
to_next_head-no_newline [] none = refl
to_next_head-no_newline (x ∷ xs) none = ap (λ r. x ∷ r) (front_of-no_newline x xs (none 0 (omega arith)) (λ k l. none (suc k) (omega arith)))

-- at the start of a line: a head line begins there, or what is before the next one comes first
pub front_of-begins : (s : List ℕ) → begins_with_head s ≡ true → front_of 10 s ≡ []
front_of-begins [] t = refl
front_of-begins (x ∷ xs) t = front_of-head 10 x xs t

pub front_of-begins_not : (s : List ℕ) → begins_with_head s ≡ false → front_of 10 s ≡ to_next_head s
front_of-begins_not [] f = refl
front_of-begins_not (x ∷ xs) f = front_of-plain 10 x xs f

-- the walk from newline to newline: the rest of the text at `at` has its first newline at n
pub walk_step : (s : List ℕ) (at n : ℕ) → length (to_next_head s) ≡ at + length (to_next_head (drop at s))
    → IsFirstByte (is_byte 10) (take (length s - at) (drop at s)) (Some n) → (at + (n + 1) ≤ length s)
    × (length (to_next_head s) ≡ at + (n + 1) + length (front_of 10 (drop (at + (n + 1)) s)))
walk_step s at n so first =
    let r = drop at s in
    let found = subst (λ t. IsFirstByte (is_byte 10) t (Some n)) (take_rest s at) first in
    let line =
    to_next_head-line r n found.0.high (λ k l e. found.0.before k (omega arith) l (eq-eqb (get_or r k 0) 10 e)) (eqb-true (get_or r n 0) 10 found.1) in
    let lengths = ap length line ∙ length-append (take (suc n) r) (front_of 10 (drop (suc n) r)) in
    let taken = length-take-le (suc n) r (omega (arith, found.0.high)) in
    let rest : drop (suc n) r ≡ drop (at + (n + 1)) s = drop-drop (suc n) at s ∙ ap (λ k. drop k s) (omega arith) in
    let same = ap (λ t. length (front_of 10 t)) rest in
    (omega (arith, found.0.high, length-drop at s), omega arith)

-- the walk from newline to newline: the rest of the text at `at` has no newline
pub walk_end : (s : List ℕ) (at : ℕ) → at ≤ length s → length (to_next_head s) ≡ at + length (to_next_head (drop at s))
    → IsFirstByte (is_byte 10) (take (length s - at) (drop at s)) None → length (to_next_head s) ≡ length s
walk_end s at h so none =
    let r = drop at s in
    let found = subst (λ t. IsFirstByte (is_byte 10) t None) (take_rest s at) none in
    let all = ap length (to_next_head-no_newline r (λ k l e. found k (omega arith) l (eq-eqb (get_or r k 0) 10 e))) in
    omega (arith, length-drop at s)

-- the test of a first byte at the rest of a text
pub begins-rest : (s : List ℕ) (at : ℕ) (b c : Bool) → b ≡ begins_with_head (take (length s - at) (drop at s)) → b ≡ c → begins_with_head (drop at s) ≡ c
begins-rest s at b c e is = ap begins_with_head (sym (take_rest s at)) ∙ sym e ∙ is

pub last_byte_is : (before : ℕ) (s : List ℕ) → 0 < length s → last_byte before s ≡ get_or s (length s - 1) 0
last_byte_is before [] h = absurd (omega arith)
last_byte_is before (x ∷ []) h = refl
last_byte_is before (x ∷ y ∷ ys) h =
    let next : suc (length (y ∷ ys) - 1) ≡ length (x ∷ y ∷ ys) - 1 = omega arith in
    last_byte_is x (y ∷ ys) (omega arith) ∙ ap (λ k. get_or (x ∷ y ∷ ys) k 0) next

-- the test of a last byte
last_is_newline : (s : List ℕ) → option_eq nat_eq (slice_get s (length s - 1)) (Some 10) ≡ (last_byte 0 s == 10)
last_is_newline [] = refl
last_is_newline (x ∷ xs) =
    let s = x ∷ xs in
    ap (λ o. option_eq nat_eq o (Some 10)) (slice_get-get_or s (length s - 1) 0 (omega arith)) ∙ ap (λ b. b == 10) (sym (last_byte_is 0 s (omega arith)))

pub last_tested : (s : List ℕ) (r : Option (Bor ℕ)) → option_copied r ≡ slice_get s (length s - 1) → (t : Bor ℕ) → t.now ≡ 10
    → option_eq (λ x y. x.now == y.now) r (Some t) ≡ (last_byte 0 s == 10)
last_tested s None e t is = ap (λ o. option_eq nat_eq o (Some 10)) e ∙ last_is_newline s
last_tested s (Some x) e t is = ap (λ b. x.now == b) is ∙ ap (λ o. option_eq nat_eq o (Some 10)) e ∙ last_is_newline s

-- a text that begins with a head line: its first block, and what is left
pub record TakesBlock (s : List ℕ) (n : ℕ) : Type 0 where
  pub within : n ≤ length s
  pub left : blocks_from_head 10 s ≡ take n s ∷ blocks_from_head 10 (drop n s)
  pub front : front_of 10 (drop n s) ≡ []

-- a text that begins with no head line: its front, and what is left
pub record TakesFront (s : List ℕ) (n : ℕ) : Type 0 where
  pub within : n ≤ length s
  pub preface : take n s ≡ front_of 10 s
  pub left : blocks_from_head 10 (drop n s) ≡ blocks_from_head 10 s
  pub front : front_of 10 (drop n s) ≡ []

pub takes_front : (s : List ℕ) (n : ℕ) → n ≡ length (front_of 10 s) → TakesFront s n
takes_front s n e =
    let at = splits_at_head 10 s in
    let front = front_of 10 s in
    let left : drop n s ≡ at.0 = ap (λ k. drop k s) e ∙ ap (drop (length front)) (sym at.1.whole) ∙ drop-append_seam front at.0 in
    record {
      within = omega (arith, ap length at.1.whole, length-append front at.0);
      preface = ap (λ k. take k s) e ∙ ap (take (length front)) (sym at.1.whole) ∙ take-append_seam front at.0;
      left = rw left at.1.left;
      front = rw left at.1.front;
    }

pub takes_block : (s : List ℕ) (n : ℕ) → 0 < length s → front_of 10 s ≡ [] → n ≡ length (to_next_head s) → TakesBlock s n
takes_block [] n h f e = absurd (omega arith)
takes_block (x ∷ xs) n h f e =
    elim (cases_Bool (is_head 10 x)) [
      | inl t ↦
          let at = splits_at_head x xs in
          let front = front_of x xs in
          let left : drop n (x ∷ xs) ≡ at.0 = ap (λ k. drop k (x ∷ xs)) e ∙ ap (drop (length front)) (sym at.1.whole) ∙ drop-append_seam front at.0 in
          let block : take n (x ∷ xs) ≡ x ∷ front =
          ap (λ k. take k (x ∷ xs)) e ∙ ap (λ r. x ∷ r) (ap (take (length front)) (sym at.1.whole) ∙ take-append_seam front at.0) in
          record {
            within = omega (arith, e, ap length at.1.whole, length-append front at.0);
            left = blocks_of-head 10 x xs t ∙ rw (left, block, at.1.left) refl;
            front = rw left at.1.front;
          }
      | inr g ↦ let clash = sym (front_of-plain 10 x xs g) ∙ f in cc
    ]

-- one block, known by its first byte, its last byte, and the place of the next head line
front_of-HasNoHead : (before : ℕ) (s : List ℕ) → HasNoHead before s → front_of before s ≡ s
front_of-HasNoHead before [] n = refl
front_of-HasNoHead before (x ∷ xs) n = front_of-plain before x xs n.0 ∙ ap (λ r. x ∷ r) (front_of-HasNoHead x xs n.1)

HasNoHead-front_of : (before : ℕ) (s : List ℕ) → length (front_of before s) ≡ length s → HasNoHead before s
HasNoHead-front_of before [] e = tt
HasNoHead-front_of before (x ∷ xs) e =
    elim (cases_Bool (is_head before x)) [
      | inl t ↦ let none = ap length (front_of-head before x xs t) in absurd (omega arith)
      | inr f ↦ (f, HasNoHead-front_of x xs (let same = ap length (front_of-plain before x xs f) in omega arith))
    ]

pub one_block_when : (s : List ℕ) → begins_with_head s ≡ true → last_byte 0 s ≡ 10 → length (to_next_head s) ≡ length s → OneBlock s
one_block_when [] t e l = absurd (let clash : false ≡ true = t in cc)
one_block_when (x ∷ xs) t e l = one_block_from (x ∷ xs) (t, HasNoHead-front_of x xs (omega arith)) e

pub record BlockParts (s : List ℕ) : Type 0 where
  pub begins : begins_with_head s ≡ true
  pub ends : last_byte 0 s ≡ 10
  pub alone : length (to_next_head s) ≡ length s
  pub some : 0 < length s

pub one_block_parts : (s : List ℕ) → OneBlock s → BlockParts s
one_block_parts [] o = absurd o.cut.each.1
one_block_parts (x ∷ xs) o =
    let h = o.cut.each.1 in
    record { begins = h.0; ends = o.ends; alone = ap (λ r. length (x ∷ r)) (front_of-HasNoHead x xs h.1); some = omega arith }

-- what holds of a text that begins with a head line and ends with a newline
pub one_block_rule : (s : List ℕ) (n : ℕ) → begins_with_head s ≡ true → (last_byte 0 s == 10) ≡ true → n ≡ length (to_next_head s)
    → (IsTrue (n == length s) → OneBlock s) × (OneBlock s → IsTrue (n == length s))
one_block_rule s n b e is = (
  λ t. one_block_when s b (eqb-true (last_byte 0 s) 10 e) (sym is ∙ eqb-true n (length s) t),
  λ o. eq-eqb n (length s) (is ∙ (one_block_parts s o).alone),
)

-- a block ends with a newline
pub ends_of_block : (s : List ℕ) → OneBlock s → (last_byte 0 s == 10) ≡ true
ends_of_block s o = eq-eqb (last_byte 0 s) 10 (one_block_parts s o).ends

-- a call of `next` that gave the first of the blocks that are left
pub takes_run : {S A : Type 0} (can : S → Type 0) (left : S → List (List ℕ)) (s t : S) (x : A) (block : List ℕ) → can t → left s ≡ block ∷ left t
    → MakesProgress can (item_count left) s (Some x) t
takes_run can left s t x block always e =
    record { on = λ _. (always, tt, omega (arith, ap length e)); keeps = always; rests = λ _. tt }
