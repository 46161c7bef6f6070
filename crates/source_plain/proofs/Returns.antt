-- Lines that end in CR LF.
use Rattle.std.proofs.Common.{◌≡◌, ◌+◌, ◌<◌, ◌≤◌, ◌==◌, ◌&&◌, ◌||◌, ℕ, suc, Bool, true, false, cond, List, [], ◌∷◌, ◌++◌, drop, length, get_or, refl, sym}
use Rattle.std.proofs.Common.{ap, subst, ◌∙◌, arith, append_assoc}
use Rattle.std.proofs.Common.{Option, Some, None, is_some, Contains}
use Rattle.std.specs.Bool.{Decides}
use Rattle.std.specs.List.{list_any}
use Rattle.std.proofs.lemmas.Bool.Decides.{Decides-eqb, Decides-by_or}
use Rattle.std.proofs.lemmas.List.{get_or_default}
use Rattle.std.proofs.lemmas.List.Elements.{Decides-contains}
use Rattle.memchr.specs.Find.{IsFirstByte, is_byte}
use Rattle.std.proofs.lemmas.Bool.{eqb-true, false_from_ne_true, true≢false}
use Rattle.std.proofs.Math.Seq.{drop-cons}
use Rattle.source_plain.specs.Laws.{SourcesOfOtherSystemsAreRead}
use Rattle.source_plain.specs.Reading.{is_return, is_return_at, plain_lines, without_mark}
use Rattle.source_plain.specs.Writing.{has_return, with_returns}

-- a byte that is no CR begins no CR LF
pub starts_none : (byte : ℕ) (text : List ℕ) → is_return byte ≡ false → is_return_at (byte ∷ text) ≡ false
starts_none byte [] e = refl
starts_none byte (next ∷ text) e = ap (λ b. b && next == 10) e

pub or_false : (a b : Bool) → (a || b) ≡ false → (a ≡ false) × (b ≡ false)
or_false true b e = absurd (true≢false e)
or_false false b e = (refl, e)

-- a text without a CR is read as it is
pub without_return : (text : List ℕ) → list_any is_return text ≡ false → plain_lines text ≡ text
without_return [] e = refl
without_return (byte ∷ text) e =
    let both = or_false (is_return byte) (list_any is_return text) e in
    rw (starts_none byte text both.0) (ap (λ rest. byte ∷ rest) (without_return text both.1))

-- so is one none of whose lines ends in CR LF
pub without_returns : (text : List ℕ) → has_return text ≡ false → plain_lines text ≡ text
without_returns [] e = refl
without_returns (byte ∷ text) e =
    let both = or_false (is_return_at (byte ∷ text)) (has_return text) e in
    rw both.0 (ap (λ rest. byte ∷ rest) (without_returns text both.1))

-- a byte before a text whose lines end in CR LF begins CR LF exactly if it is a CR before a newline,
-- which such a text does not begin with
pub no_newline_first : (byte : ℕ) (text : List ℕ) → is_return_at (byte ∷ with_returns text) ≡ false
no_newline_first byte [] = refl
no_newline_first byte (next ∷ text) =
    elim (next == 10) as (λ b. (next == 10) ≡ b → is_return_at (byte ∷ cond b (13 ∷ 10 ∷ with_returns text) (next ∷ with_returns text)) ≡ false) [
      | true ↦ λ e. and_false (byte == 13)
      | false ↦ λ e. rw e (and_false (byte == 13))
    ] refl
  where
    and_false : (b : Bool) → (b && false) ≡ false
    and_false true = refl
    and_false false = refl

-- a text whose lines were ended by CR LF is read as the text
pub returns_read : (text : List ℕ) → plain_lines (with_returns text) ≡ text
returns_read [] = refl
returns_read (byte ∷ text) =
    elim (byte == 10) as (λ b. (byte == 10) ≡ b → plain_lines (cond b (13 ∷ 10 ∷ with_returns text) (byte ∷ with_returns text)) ≡ byte ∷ text) [
      | true ↦ λ e. let newline = eqb-true byte 10 e in rw (newline, no_newline_first 10 text, returns_read text) refl
      | false ↦ λ e. rw (no_newline_first byte text, returns_read text) refl
    ] refl

pub other_systems : SourcesOfOtherSystemsAreRead
other_systems = record { plain = without_returns; marked = λ text e. returns_read text }

-- one byte more was read
pub one_byte_read : (text plain : List ℕ) (at : ℕ) → at < length text → is_return_at (drop at text) ≡ false
    → plain ++ plain_lines (drop at text) ≡ plain_lines text → (plain ++ get_or text at 0 ∷ []) ++ plain_lines (drop (at + 1) text) ≡ plain_lines text
one_byte_read text plain at within here so_far =
    let cut : drop at text ≡ get_or text at 0 ∷ drop (at + 1) text =
    (let more : suc at ≡ at + 1 = omega arith in drop-cons text at 0 within ∙ ap (λ k. get_or text at 0 ∷ drop k text) more) in
    let kept : plain_lines (drop at text) ≡ get_or text at 0 ∷ plain_lines (drop (at + 1) text) = (let there = rw cut at here in rw (cut, there) refl) in
    append_assoc plain (get_or text at 0 ∷ []) (plain_lines (drop (at + 1) text)) ∙ ap (λ rest. plain ++ rest) (sym kept) ∙ so_far

-- one CR was left out
pub one_left_out : (text plain : List ℕ) (at : ℕ) → at < length text → is_return_at (drop at text) ≡ true
    → plain ++ plain_lines (drop at text) ≡ plain_lines text → plain ++ plain_lines (drop (at + 1) text) ≡ plain_lines text
one_left_out text plain at within here so_far =
    let cut : drop at text ≡ get_or text at 0 ∷ drop (at + 1) text =
    (let more : suc at ≡ at + 1 = omega arith in drop-cons text at 0 within ∙ ap (λ k. get_or text at 0 ∷ drop k text) more) in
    let left : plain_lines (drop at text) ≡ plain_lines (drop (at + 1) text) = (let there = rw cut at here in rw (cut, there) refl) in
    ap (λ rest. plain ++ rest) (sym left) ∙ so_far

-- a source that is no longer than without its mark has none
pub same_without_mark : (source : List ℕ) → length source ≤ length (without_mark source) → without_mark source ≡ source
same_without_mark [] h = refl
same_without_mark (a ∷ []) h = refl
same_without_mark (a ∷ b ∷ []) h = refl
same_without_mark (a ∷ b ∷ c ∷ text) h =
    elim (a == 239 && b == 187 && c == 191) as (λ t. length (a ∷ b ∷ c ∷ text) ≤ length (cond t text (a ∷ b ∷ c ∷ text))
    → cond t text (a ∷ b ∷ c ∷ text) ≡ a ∷ b ∷ c ∷ text) [
      | true ↦ λ long. absurd (omega (arith, long))
      | false ↦ λ long. refl
    ] h

-- ---- a CR that is looked for

returns_decide : (text : List ℕ) → Decides (list_any is_return text) (Contains text 13)
returns_decide text =
    Decides-contains text 13 _
    (Decides-by_or is_return (λ b. b ≡ 13) (list_any is_return) (λ b. Decides-eqb b 13) refl (λ _ _. refl) text)

pub return_sought : (text : List ℕ) (r : Option ℕ) → IsFirstByte (is_byte 13) text r → is_some r ≡ list_any is_return text
return_sought text None none =
    sym (false_from_ne_true _ (λ t. let at = (returns_decide text).0 t in
    none at.0 (omega arith) at.1 (subst (λ byte. (byte == 13) ≡ true) (get_or_default text at.0 13 0 at.1) ((Decides-eqb _ 13).1 at.2))))
return_sought text (Some k) first =
    sym ((returns_decide text).1 (k, first.0.high, get_or_default text k 13 0 first.0.high ∙ (Decides-eqb _ 13).0 first.1))

pub push_kept : (text new old : List ℕ) (at : ℕ) → new ≡ old → old ++ plain_lines (drop (at + 1) text) ≡ plain_lines text
    → new ++ plain_lines (drop (at + 1) text) ≡ plain_lines text
push_kept text new old at same kept = ap (λ front. front ++ plain_lines (drop (at + 1) text)) same ∙ kept
