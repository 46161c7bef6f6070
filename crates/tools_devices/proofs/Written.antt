-- Bytes that are written one after another, and bytes that are read so.
use Rattle.std.proofs.Common.{◌≡◌, ◌≢◌, ℕ, zero, suc, ◌+◌, ◌-◌, List, [], ◌∷◌, ◌++◌, length, take, drop, Option, Some, None}
use Rattle.std.proofs.Common.{Result, Ok, Err, refl, sym, ap, ◌∙◌, append_assoc, append-nil, subst, arith}
use Rattle.std.specs.Io.KnownBytes.{Appends, Consumes}
use Rattle.std.proofs.lemmas.List.{take_all, take-append-drop, length-drop}
use Rattle.tools_devices.specs.Counted.{Observed, none_taken}
use Rattle.tools_devices.specs.Reading.{Gives}
use Rattle.tools_devices.specs.Writing.{TakesAll, TakesFront, Wrote}
use Rattle.tools_devices.specs.declared.tool_error.ToolError.{ToolError}

pub Appends-none : (u : Option (List ℕ)) → Appends u u []
Appends-none None = tt
Appends-none (Some xs) = sym (append-nil xs)

pub Appends-then : (u v w : Option (List ℕ)) (a b : List ℕ) → Appends u v a → Appends v w b → Appends u w (a ++ b)
Appends-then None v w a b x y = tt
Appends-then (Some xs) None w a b x y = absurd x
Appends-then (Some xs) (Some ys) None a b x y = y
Appends-then (Some xs) (Some ys) (Some zs) a b x y = y ∙ ap (λ (t : List ℕ). t ++ b) x ∙ append_assoc xs a b

pub Consumes-none : (u : Option (List ℕ)) → Consumes u u []
Consumes-none None = tt
Consumes-none (Some xs) = refl

pub Consumes-then : (u v w : Option (List ℕ)) (a b : List ℕ) → Consumes u v a → Consumes v w b → Consumes u w (a ++ b)
Consumes-then None v w a b x y = tt
Consumes-then (Some xs) None w a b x y = absurd x
Consumes-then (Some xs) (Some ys) None a b x y = y
Consumes-then (Some xs) (Some ys) (Some zs) a b x y = x ∙ ap (λ (t : List ℕ). a ++ t) y ∙ sym (append_assoc a b zs)

pub Gives-none : (u : Observed) → Gives u u []
Gives-none u = record { bytes = Consumes-none u.bytes; failures = refl }

pub Gives-then : (u v w : Observed) (a b : List ℕ) → Gives u v a → Gives v w b → Gives u w (a ++ b)
Gives-then u v w a b x y = record {
  bytes = Consumes-then u.bytes v.bytes w.bytes a b x.bytes y.bytes;
  failures = y.failures ∙ x.failures;
}

pub TakesAll-none : (u : Observed) → TakesAll u u []
TakesAll-none u = record { bytes = Appends-none u.bytes; failures = refl }

pub TakesAll-then : (u v w : Observed) (a b : List ℕ) → TakesAll u v a → TakesAll v w b → TakesAll u w (a ++ b)
TakesAll-then u v w a b x y = record {
  bytes = Appends-then u.bytes v.bytes w.bytes a b x.bytes y.bytes;
  failures = y.failures ∙ x.failures;
}

pub TakesFront-then : (u v w : Observed) (a b : List ℕ) → TakesAll u v a → TakesFront v w b → TakesFront u w (a ++ b)
TakesFront-then u v w a b x y = record {
  front = a ++ y.front;
  back = y.back;
  whole = ap (λ (t : List ℕ). a ++ t) y.whole ∙ sym (append_assoc a y.front y.back);
  bytes = Appends-then u.bytes v.bytes w.bytes a y.front x.bytes y.bytes;
  failures = y.failures ∙ ap (λ (n : ℕ). n + 1) x.failures;
}

pub TakesFront-more : (u v : Observed) (a b : List ℕ) → TakesFront u v a → TakesFront u v (a ++ b)
TakesFront-more u v a b x = record {
  front = x.front;
  back = x.back ++ b;
  whole = ap (λ (t : List ℕ). t ++ b) x.whole ∙ append_assoc x.front x.back b;
  bytes = x.bytes;
  failures = x.failures;
}

pub Wrote-then : (u v w : Observed) (a b : List ℕ) (r : Result Unit ToolError) → TakesAll u v a → Wrote v w b r → Wrote u w (a ++ b) r
Wrote-then u v w a b (Ok x) first second = TakesAll-then u v w a b first second
Wrote-then u v w a b (Err e) first second = (second.0, TakesFront-then u v w a b first second.1)

none_taken-some : (count : ℕ) (bytes : List ℕ) → count ≢ 0 → none_taken count bytes ≡ 0
none_taken-some zero bytes some = absurd (some refl)
none_taken-some (suc n) bytes some = refl

none_taken-zero : (count : ℕ) (bytes : List ℕ) → count ≡ 0 → bytes ≢ [] → none_taken count bytes ≡ 1
none_taken-zero zero [] none some = absurd (some refl)
none_taken-zero zero (byte ∷ bytes) none some = refl
none_taken-zero (suc n) bytes none some = absurd (omega arith)

-- a write that takes some of the rest
pub takes_some : (u v w : Observed) (bytes front rest : List ℕ) (count : ℕ) → bytes ≡ front ++ rest → TakesAll u v front
    → Appends v.bytes w.bytes (take count rest) → w.failures ≡ v.failures + none_taken count rest → count ≢ 0
    → (before : List ℕ) × (bytes ≡ before ++ take (length rest - count) (drop count rest)) × TakesAll u w before
takes_some u v w bytes front rest count whole written appends counted some =
    let all : take (length rest - count) (drop count rest) ≡ drop count rest =
    take_all (length rest - count) (drop count rest) (omega (arith, length-drop count rest)) in
    let parts : rest ≡ take count rest ++ drop count rest = sym (take-append-drop count rest) in
    let same : w.failures ≡ v.failures = omega (arith, none_taken-some count rest some) in (
      front ++ take count rest,
      rw all (whole ∙ ap (λ (x : List ℕ). front ++ x) parts ∙ sym (append_assoc front (take count rest) (drop count rest))),
      TakesAll-then u v w front (take count rest) written (record { bytes = appends; failures = same }),
    )

-- a write that takes nothing, or fails
pub takes_none : (u v w : Observed) (bytes front rest : List ℕ) → bytes ≡ front ++ rest → TakesAll u v front
    → Appends v.bytes w.bytes [] → w.failures ≡ v.failures + 1 → TakesFront u w bytes
takes_none u v w bytes front rest whole written appends failed =
    let two = Appends-then u.bytes v.bytes w.bytes front [] written.bytes appends in record {
      front = front;
      back = rest;
      whole = whole;
      bytes = rw append-nil at two;
      failures = failed ∙ ap (λ (n : ℕ). n + 1) written.failures;
    }

-- if a text after one that was written was written in part, both were, whatever else follows
pub Wrote-over : (u v w : Observed) (a b later whole : List ℕ) (e : ToolError) → TakesAll u v a → Wrote v w b (Err e)
    → whole ≡ (a ++ b) ++ later → Wrote u w whole (Err e)
Wrote-over u v w a b later whole e first second is =
    (second.0, subst (λ (t : List ℕ). TakesFront u w t) (sym is) (TakesFront-more u w (a ++ b) later (TakesFront-then u v w a b first second.1)))

-- if a text was written in part, it was written in part whatever else follows
pub Wrote-short : (u v : Observed) (a later whole : List ℕ) (e : ToolError) → Wrote u v a (Err e) → whole ≡ a ++ later → Wrote u v whole (Err e)
Wrote-short u v a later whole e first is =
    (first.0, subst (λ (t : List ℕ). TakesFront u v t) (sym is) (TakesFront-more u v a later first.1))

pub Wrote-whole : (u v w : Observed) (a b whole : List ℕ) (r : Result Unit ToolError) → TakesAll u v a → Wrote v w b r → whole ≡ a ++ b
    → Wrote u w whole r
Wrote-whole u v w a b whole r first second is =
    subst (λ (t : List ℕ). Wrote u w t r) (sym is) (Wrote-then u v w a b r first second)
