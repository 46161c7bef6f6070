-- Folding leaves out bytes, and adds none.
use Rattle.std.proofs.Common.{◌≡◌, ℕ, zero, suc, ◌+◌, ◌-◌, ◌<◌, ◌≤◌, Bool, true, false, ◌==◌, ◌||◌, ◌&&◌, List, [], ◌∷◌, ◌++◌, length, take, drop, get_or}
use Rattle.std.proofs.Common.{cond, refl, sym, ap, subst, ◌∙◌, append_assoc, inl, inr, arith, Some, None, add-one}
use Rattle.std.proofs.lemmas.Bool.{cases_Bool, and_parts, and_right, eqb-true}
use Rattle.std.proofs.lemmas.List.{take_rest, drop-drop}
use Rattle.memchr.specs.Find.{IsFirstByte, is_byte}
use Rattle.ti_text.specs.WhiteSpace.{is_white_space}
use Rattle.ti_source.specs.Folding.{PlacedByte}
use Rattle.ti_source.specs.inside.Folding.{bytes_on_lines, in_comment, without_comments, without_breaks, folding_of}
use Rattle.ti_source.specs.declared.items.Escape.{Escape}
use Rattle.ti_source.specs.inside.Folding.{after_line, SkipsWhiteSpace, skips_byte}
use Rattle.ti_source.specs.inside.Items.{after_field, on_line, PassesRun, takes_no_byte, takes_byte, IsWholeItem, TakesWholeItem}
use Rattle.ti_source.proofs.ItemLemmas.{on_line-append}

length-placed : (line : ℕ) (s : List ℕ) → length (bytes_on_lines line s) ≡ length s
length-placed line [] = refl
length-placed line (b ∷ bs) = omega (arith, length-placed (cond (b == 10) (line + 1) line) bs)

length-without_comments : (comment : Bool) (before : ℕ) (s : List PlacedByte) → length (without_comments comment before s) ≤ length s
length-without_comments comment before [] = omega arith
length-without_comments comment before (x ∷ xs) =
    let kept = length-without_comments false x.0 xs in
    let left_out = length-without_comments true x.0 xs in
    elim (in_comment comment before x.0) as (λ b. length (cond b (without_comments true x.0 xs) (x ∷ without_comments false x.0 xs)) ≤ length (x ∷ xs)) [
      | true ↦ omega arith
      | false ↦ omega arith
    ]

length-joined : (joining : Bool) (s : List PlacedByte) → length (without_breaks joining s) ≤ length s
length-joined joining [] = omega arith
length-joined joining (x ∷ xs) =
    let kept = length-joined false xs in
    let left_out = length-joined true xs in
    elim (x.0 == 10 || (joining && is_white_space x.0)) as (λ b. length (cond b (without_breaks true xs) (x ∷ without_breaks false xs)) ≤ length (x ∷ xs)) [
      | true ↦ omega arith
      | false ↦ omega arith
    ]

pub length-folded : (block : List ℕ) → length (folding_of block) ≤ length block
length-folded block =
    omega (
      arith,
      length-joined false (without_comments false 10 (bytes_on_lines 1 block)),
      length-without_comments false 10 (bytes_on_lines 1 block),
      length-placed 1 block,
    )

pub length-after_field : (s : List PlacedByte) → length (after_field s) ≤ length s
length-after_field [] = omega arith
length-after_field (x ∷ xs) =
    let later = length-after_field xs in
    elim (x.0 == 44) as (λ b. length (cond b xs (after_field xs)) ≤ length (x ∷ xs)) [ true ↦ omega arith | false ↦ omega arith ]

-- ---- a run without a newline folds to itself

-- which byte is before a text does not matter if neither of two is a newline
before_any : (one other : ℕ) (s : List PlacedByte) → (one == 10) ≡ false → (other == 10) ≡ false → without_comments false one s ≡ without_comments false other s
before_any one other [] e f = refl
before_any one other (x ∷ xs) e f = rw (e, f) refl

abbrev straight : (line before : ℕ) → List ℕ → List PlacedByte
straight line before s = without_breaks false (without_comments false before (bytes_on_lines line s))

-- one byte that is not a newline
straight-byte : (line before x : ℕ) (rest : List ℕ) → (before == 10) ≡ false → (x == 10) ≡ false
    → straight line before (x ∷ rest) ≡ (x, line) ∷ straight line before rest
straight-byte line before x rest e f =
    rw (e, f) (ap (λ (s : List PlacedByte). (x, line) ∷ without_breaks false s) (before_any x before (bytes_on_lines line rest) f e))

straight-run : {by next : Escape} {before last : ℕ} {run : List ℕ} (line at : ℕ) (rest : List ℕ) → (at == 10) ≡ false → PassesRun by before run next last
    → straight line at (run ++ rest) ≡ on_line line run ++ straight line at rest
straight-run line at rest e takes_no_byte = refl
straight-run line at rest e (takes_byte {run = run} x goes plain inner) =
    rw (append_assoc run (x ∷ []) rest, on_line-append line run (x ∷ []), append_assoc (on_line line run) ((x, line) ∷ []) (straight line at rest))
    (straight-run line at (x ∷ rest) e goes ∙ ap (λ (s : List PlacedByte). on_line line run ++ s) (straight-byte line at x rest e plain))

-- the view of a folded text from which a run is taken
pub run_taken : {by next : Escape} {before last : ℕ} {run : List ℕ} (joining : Bool) (at line : ℕ) (text rest : List ℕ)
    → joining ≡ false → (at == 10) ≡ false → text ≡ run ++ rest → PassesRun by before run next last
    → without_breaks joining (without_comments false at (bytes_on_lines line text)) ≡ on_line line run
    ++ without_breaks joining (without_comments false at (bytes_on_lines line rest))
run_taken joining at line text rest ej e whole goes = rw (ej, whole) (straight-run line at rest e goes)

-- the view of a folded text from which an item is taken, with its comma
item_taken : {by next : Escape} {before last : ℕ} {item : List ℕ} (joining : Bool) (at line : ℕ) (text rest : List ℕ)
    → joining ≡ false → (at == 10) ≡ false → text ≡ item ++ 44 ∷ rest → PassesRun by before item next last
    → without_breaks joining (without_comments false at (bytes_on_lines line text)) ≡ on_line line item ++ (44, line)
    ∷ without_breaks joining (without_comments false at (bytes_on_lines line rest))
item_taken {item = item} joining at line text rest ej e whole goes =
    rw (ej, whole) (straight-run line at (44 ∷ rest) e goes ∙ ap (λ (s : List PlacedByte). on_line line item ++ s) (straight-byte line at 44 rest e refl))

-- ---- one byte at the front of a text that is read

abbrev folded : (joining : Bool) (before line : ℕ) → List ℕ → List PlacedByte
folded joining before line text = without_breaks joining (without_comments false before (bytes_on_lines line text))

not_comment : (before x : ℕ) → (before == 10 && x == 35) ≡ false → in_comment false before x ≡ false
not_comment before x e =
    elim (before == 10) as (λ b. (b && x == 35) ≡ false → cond b (x == 35) false ≡ false) [ true ↦ λ h. h | false ↦ λ h. refl ] e

-- a byte that is in no comment and is not a newline
placed_first : (joining : Bool) (before line x : ℕ) (rest : List ℕ) → (before == 10 && x == 35) ≡ false → (x == 10) ≡ false
    → folded joining before line (x ∷ rest) ≡ without_breaks joining ((x, line) ∷ without_comments false x (bytes_on_lines line rest))
placed_first joining before line x rest c n = rw (not_comment before x c, n) refl

pub folded-newline : (joining : Bool) (before line : ℕ) (rest : List ℕ) → folded joining before line (10 ∷ rest) ≡ folded true 10 (line + 1) rest
folded-newline joining before line rest = rw (not_comment before 10 (and_right (before == 10) false refl)) refl

white_is : (x : ℕ) → is_white_space x ≡ true → ((x == 10) ≡ false) × ((x == 35) ≡ false)
white_is x w =
    elim (cases_Bool (x == 32)) [
      | inl t ↦ rw (eqb-true x 32 t) (refl, refl)
      | inr f ↦ rw (eqb-true x 9 (rw f at w)) (refl, refl)
    ]

joined_white : (x : PlacedByte) (t : List PlacedByte) → (x.0 == 10) ≡ false → is_white_space x.0 ≡ true → without_breaks true (x ∷ t) ≡ without_breaks true t
joined_white x t n w = rw (n, w) refl

kept_byte : (x : PlacedByte) (t : List PlacedByte) → (x.0 == 10) ≡ false → without_breaks false (x ∷ t) ≡ x ∷ without_breaks false t
kept_byte x t n = rw n refl

break_ends : (x : PlacedByte) (t : List PlacedByte) → (x.0 == 10) ≡ false → is_white_space x.0 ≡ false
    → without_breaks true (x ∷ t) ≡ without_breaks false (x ∷ t)
break_ends x t n v = rw (n, v) refl

pub skips-white : {old : List PlacedByte} (joining : Bool) (before line x : ℕ) (rest : List ℕ) → is_white_space x ≡ true
    → SkipsWhiteSpace old (folded joining before line (x ∷ rest)) → SkipsWhiteSpace old (folded joining x line rest)
skips-white {old = old} true before line x rest w s =
    let other = white_is x w in
    let left = placed_first true before line x rest (and_right (before == 10) _ other.1) other.0
    ∙ joined_white (x, line) (without_comments false x (bytes_on_lines line rest)) other.0 w in
    subst (λ (t : List PlacedByte). SkipsWhiteSpace old t) left s
skips-white {old = old} false before line x rest w s =
    let other = white_is x w in
    let left = placed_first false before line x rest (and_right (before == 10) _ other.1) other.0
    ∙ kept_byte (x, line) (without_comments false x (bytes_on_lines line rest)) other.0 in
    skips_byte (x, line) (subst (λ (t : List PlacedByte). SkipsWhiteSpace old t) left s) w

-- a byte that is not white space and begins no comment ends a break
pub folded-visible : (joining : Bool) (before line x : ℕ) (rest : List ℕ) → (before == 10 && x == 35) ≡ false → (x == 10) ≡ false → is_white_space x ≡ false
    → folded joining before line (x ∷ rest) ≡ folded false before line (x ∷ rest)
folded-visible false before line x rest c n v = refl
folded-visible true before line x rest c n v =
    placed_first true before line x rest c n ∙ break_ends (x, line) (without_comments false x (bytes_on_lines line rest)) n v
    ∙ sym (placed_first false before line x rest c n)

-- ---- a comment, up to the end of its line

line_begins : (s : List PlacedByte) → without_comments true 10 s ≡ without_comments false 10 s
line_begins [] = refl
line_begins (x ∷ xs) = refl

comment_left : (before line : ℕ) (s : List ℕ) → (before == 10) ≡ false
    → without_comments true before (bytes_on_lines line s) ≡ without_comments false 10 (bytes_on_lines (line + 1) (after_line s))
comment_left before line [] b = refl
comment_left before line (x ∷ xs) b =
    elim (cases_Bool (x == 10)) [
      | inl t ↦ rw (b, t) (ap (λ y. without_comments true y (bytes_on_lines (line + 1) xs)) (eqb-true x 10 t) ∙ line_begins (bytes_on_lines (line + 1) xs))
      | inr f ↦ rw (b, f) (comment_left x line xs f)
    ]

pub folded-comment : (joining : Bool) (before line x : ℕ) (rest : List ℕ) → (before == 10 && x == 35) ≡ true
    → folded joining before line (x ∷ rest) ≡ folded joining before (line + 1) (after_line rest)
folded-comment joining before line x rest t =
    let both = and_parts (before == 10) (x == 35) t in
    rw (eqb-true before 10 both.0, eqb-true x 35 both.1) (ap (λ (s : List PlacedByte). without_breaks joining s) (comment_left 35 line rest refl))

pub length-after_line : (s : List ℕ) → length (after_line s) ≤ length s
length-after_line [] = omega arith
length-after_line (x ∷ xs) =
    let later = length-after_line xs in
    elim (x == 10) as (λ b. length (cond b xs (after_line xs)) ≤ length (x ∷ xs)) [ true ↦ omega arith | false ↦ omega arith ]

no_true : (b : Bool) → (b ≡ true → ⊥) → b ≡ false
no_true true never = absurd (never refl)
no_true false never = refl

-- a text whose first newline is at n, and a text without one
after_line-at : (s : List ℕ) (n : ℕ) → n < length s → ((k : ℕ) → k < n → (get_or s k 0 == 10) ≡ true → ⊥) → (get_or s n 0 == 10) ≡ true
    → after_line s ≡ drop (suc n) s
after_line-at [] n h none t = absurd (omega arith)
after_line-at (x ∷ xs) zero h none t = rw t refl
after_line-at (x ∷ xs) (suc n) h none t =
    rw (no_true (x == 10) (none 0 (omega arith))) (after_line-at xs n (omega arith) (λ k i. none (suc k) (omega arith)) t)

after_line-none : (s : List ℕ) → ((k : ℕ) → k < length s → (get_or s k 0 == 10) ≡ true → ⊥) → after_line s ≡ []
after_line-none [] none = refl
after_line-none (x ∷ xs) none = rw (no_true (x == 10) (none 0 (omega arith))) (after_line-none xs (λ k h. none (suc k) (omega arith)))

pub after_line-first : (s : List ℕ) (n : ℕ) → IsFirstByte (is_byte 10) s (Some n) → after_line s ≡ drop (n + 1) s
after_line-first s n first = rw add-one (after_line-at s n first.0.high (λ k h. first.0.before k (omega arith) h) first.1)

pub after_line-nowhere : (s : List ℕ) → IsFirstByte (is_byte 10) s None → after_line s ≡ []
after_line-nowhere s none = after_line-none s (λ k h. none k (omega arith) h)

-- ---- a text up to a comma

parts_at_comma : (s : List ℕ) (n : ℕ) → n < length s → get_or s n 0 ≡ 44 → s ≡ take n s ++ 44 ∷ drop (suc n) s
parts_at_comma [] n h e = absurd (omega arith)
parts_at_comma (x ∷ xs) zero h e = ap (λ y. y ∷ xs) e
parts_at_comma (x ∷ xs) (suc n) h e = ap (λ s. x ∷ s) (parts_at_comma xs n (omega arith) e)

-- what is left after the comma
pub behind_comma : (text : List ℕ) (size : ℕ) → take (length (drop size text) - 1) (drop 1 (drop size text)) ≡ drop (suc size) text
behind_comma text size =
    let next : size + 1 ≡ suc size = omega arith in
    let behind : drop 1 (drop size text) ≡ drop (suc size) text = drop-drop 1 size text ∙ ap (λ (k : ℕ). drop k text) next in
    take_rest (drop size text) 1 ∙ behind

-- an item taken with its comma
pub takes_item : (joining : Bool) (at line : ℕ) (text : List ℕ) (size : ℕ) → joining ≡ false → (at == 10) ≡ false → IsWholeItem text size
    → TakesWholeItem (folded joining at line text) (take size text) line (folded joining at line (drop (suc size) text))
takes_item joining at line text size ej e whole = record {
  whole = item_taken joining at line text (drop (suc size) text) ej e (parts_at_comma text size whole.within whole.comma) whole.item.passes_run;
  item = whole.item;
}
