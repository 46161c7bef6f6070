-- A spelling ends no item, and nothing of it takes a byte after it.
use Rattle.std.proofs.Common.{◌≡◌, ℕ, ◌<◌, ◌==◌, ◌||◌, ◌&&◌, not, Bool, true, false, cond, List, [], ◌∷◌, ◌++◌, refl, sym, ap, subst, ◌∙◌, arith}
use Rattle.std.proofs.lemmas.Bool.{agree_below_at, and_from, and_parts, not-true}
use Rattle.std.proofs.lemmas.List.Elements.{All-tail}
use Rattle.ti_text.specs.Texts.{AreBytes, is_empty, last_byte}
use Rattle.ti_text.specs.WhiteSpace.{is_white_space}
use Rattle.ti_spelling.specs.Spelling.{byte_text, is_percent, spelling_of, written_from}
use Rattle.ti_source.specs.Folding.{PlacedByte}
use Rattle.ti_source.specs.Items.{bytes}
use Rattle.source_spans.specs.Replacing.{BeginsVisible, IsOneLine}
use Rattle.source_spans.proofs.Escaping.{Escape, backslash, caret, cuts, escape_after, nothing}
use Rattle.source_spans.proofs.Recutting.{Goes, by_after}

is_nothing : Escape → Bool
is_nothing nothing = true
is_nothing backslash = false
is_nothing caret = false

-- whether no byte ends an item or a line, and the last takes nothing
safe_in : Escape → ℕ → List ℕ → Bool
safe_in by before [] = is_nothing by
safe_in by before (x ∷ xs) = not (cuts by x) && (not (x == 10) && safe_in (escape_after by before x) x xs)

nothing_is : (by : Escape) → is_nothing by ≡ true → by ≡ nothing
unfolding is_nothing
nothing_is nothing e = refl
nothing_is backslash e = absurd cc
nothing_is caret e = absurd cc

pub record IsSafe (by : Escape) (before : ℕ) (text : List PlacedByte) : Type 0 where
  pub goes : Goes by before text
  pub after : by_after by before text ≡ nothing
  pub line : IsOneLine (bytes text)

safe_is : (by : Escape) (before : ℕ) (text : List PlacedByte) → safe_in by before (bytes text) ≡ true → IsSafe by before text
unfolding safe_in Goes by_after
safe_is by before [] e = record { goes = tt; after = nothing_is by e; line = tt }
safe_is by before (x ∷ xs) e =
    let first = and_parts _ _ e in
    let second = and_parts _ _ first.1 in
    let later = safe_is (escape_after by before x.0) x.0 xs second.1 in
    record { goes = (not-true _ first.0, later.goes); after = later.after; line = (not-true _ second.0, later.line) }

safe_both : (by : Escape) (before : ℕ) (one other : List ℕ) → safe_in by before one ≡ true → safe_in nothing (last_byte before one) other ≡ true
    → safe_in by before (one ++ other) ≡ true
unfolding safe_in
safe_both by before [] other e f = subst (λ (b : Escape). safe_in b before other ≡ true) (sym (nothing_is by e)) f
safe_both by before (x ∷ xs) other e f =
    let first = and_parts _ _ e in
    let second = and_parts _ _ first.1 in
    and_from _ _ first.0 (and_from _ _ second.0 (safe_both (escape_after by before x) x xs other second.1 f))

-- the byte before counts only if it is a `%`
safe_from : (before other : ℕ) (text : List ℕ) → (before == 37) ≡ (other == 37) → safe_in nothing before text ≡ safe_in nothing other text
unfolding safe_in
safe_from before other [] e = refl
safe_from before other (x ∷ xs) e =
    ap (λ (b : Bool). not (x == 44) && (not (x == 10) && safe_in (cond (x == 92) backslash (cond (x == 94 && not b) caret nothing)) x xs)) e

-- ---- the text of a byte

begins : Bool → List ℕ → Bool
begins edge [] = false
begins edge (x ∷ xs) = not (edge && is_white_space x)

step_ok : (percent edge : Bool) → ℕ → Bool
step_ok percent edge byte =
    safe_in nothing (cond percent 37 0) (byte_text percent edge byte)
    && (cond (byte == 37) (last_byte 0 (byte_text percent edge byte) == 37) (not (last_byte 0 (byte_text percent edge byte) == 37))
    && begins edge (byte_text percent edge byte))

each_ok : (percent edge : Bool) (byte : ℕ) → byte < 256 → step_ok percent edge byte ≡ true
unfolding step_ok safe_in is_nothing begins byte_text
each_ok true true byte below = agree_below_at (step_ok true true) (λ b. true) 256 byte refl below
each_ok true false byte below = agree_below_at (step_ok true false) (λ b. true) 256 byte refl below
each_ok false true byte below = agree_below_at (step_ok false true) (λ b. true) 256 byte refl below
each_ok false false byte below = agree_below_at (step_ok false false) (λ b. true) 256 byte refl below

same_if : (b c : Bool) → cond b c (not c) ≡ true → c ≡ b
same_if true c e = e
same_if false c e = not-true c e

record IsStep (percent edge : Bool) (byte : ℕ) : Type 0 where
  safe : safe_in nothing (cond percent 37 0) (byte_text percent edge byte) ≡ true
  last : (last_byte 0 (byte_text percent edge byte) == 37) ≡ (byte == 37)
  begin : begins edge (byte_text percent edge byte) ≡ true

step_is : (percent edge : Bool) (byte : ℕ) → byte < 256 → IsStep percent edge byte
unfolding step_ok
step_is percent edge byte below =
    let first = and_parts _ _ (each_ok percent edge byte below) in
    let second = and_parts _ _ first.1 in
    record { safe = first.0; last = same_if _ _ second.0; begin = second.1 }

last_of_some : (edge : Bool) (before : ℕ) (text : List ℕ) → begins edge text ≡ true → last_byte before text ≡ last_byte 0 text
unfolding begins
last_of_some edge before [] e = absurd cc
last_of_some edge before (x ∷ xs) e = refl

before_is : (percent : Bool) → (cond percent 37 0 == 37) ≡ percent
before_is true = refl
before_is false = refl

written_safe : (first : Bool) (before byte : ℕ) (value : List ℕ) → AreBytes value → (byte == 37) ≡ is_percent before
    → safe_in nothing byte (written_from first before value) ≡ true
unfolding safe_in is_nothing
written_safe first before byte [] are e = refl
written_safe first before byte (x ∷ xs) are e =
    let percent = is_percent before in
    let edge = first || is_empty xs in
    let text = byte_text percent edge x in
    let step = step_is percent edge x (are 0 0 (omega arith)) in
    let here : safe_in nothing byte text ≡ true = safe_from byte (cond percent 37 0) text (e ∙ sym (before_is percent)) ∙ step.safe in
    let last : (last_byte byte text == 37) ≡ is_percent x = ap (λ (n : ℕ). n == 37) (last_of_some edge byte text step.begin) ∙ step.last in
    safe_both nothing byte text (written_from false x xs) here (written_safe false x (last_byte byte text) xs (All-tail (λ b. b < 256) x xs are) last)

begins_text : (text more : List ℕ) → begins true text ≡ true → BeginsVisible (text ++ more)
unfolding begins
begins_text [] more e = absurd cc
begins_text (x ∷ xs) more e = not-true _ e

pub spelling_visible : (x : ℕ) (xs : List ℕ) → AreBytes (x ∷ xs) → BeginsVisible (spelling_of (x ∷ xs))
spelling_visible x xs are = begins_text (byte_text false true x) (written_from false x xs) (step_is false true x (are 0 0 (omega arith))).begin

-- a spelling after a byte that is no `%`
pub spelling_safe : (before : ℕ) (value : List ℕ) (text : List PlacedByte) → AreBytes value → (before == 37) ≡ false → bytes text ≡ spelling_of value
    → IsSafe nothing before text
spelling_safe before value text are other is =
    safe_is nothing before text (ap (safe_in nothing before) is ∙ written_safe true 0 before value are other)

-- so is a CR after it
pub spelling_safe_return : (before : ℕ) (value : List ℕ) (text : List PlacedByte) → AreBytes value → (before == 37) ≡ false
    → bytes text ≡ spelling_of value ++ 13 ∷ [] → IsSafe nothing before text
unfolding safe_in is_nothing
spelling_safe_return before value text are other is =
    safe_is nothing before text (ap (safe_in nothing before) is
    ∙ safe_both nothing before (spelling_of value) (13 ∷ []) (written_safe true 0 before value are other) refl)
