-- The first place of a byte, as memchr gives it and as `before_first` cuts there.
use Rattle.std.proofs.Common.{◌≡◌, ℕ, Bool, true, false, eqb, List, length, take, Some, None, refl, sym, arith}
use Rattle.std.proofs.lemmas.List.{take_all}
use Rattle.std.specs.List.{position_or_len, before_first}
use Rattle.std.proofs.lemmas.List.Sums.{position_or_len_is}
use Rattle.memchr.specs.Find.{is_byte, IsFirstByte}

is_false : (b : Bool) → ¬ (b ≡ true) → b ≡ false
is_false true h = absurd (h refl)
is_false false h = refl

pub first_byte-found : (byte : ℕ) (hay : List ℕ) (place : ℕ) → IsFirstByte (is_byte byte) hay (Some place) → take place hay ≡ before_first (λ b. eqb b byte) hay
first_byte-found byte hay place h =
    let e : position_or_len (λ b. eqb b byte) hay ≡ place =
    position_or_len_is (λ b. eqb b byte) hay place 0 (omega (arith, h.0.high)) (λ k lt. is_false _ (h.0.before k (omega arith) lt)) (λ _. h.1)
    in rw e refl

pub first_byte-none : (byte : ℕ) (hay : List ℕ) → IsFirstByte (is_byte byte) hay None → hay ≡ before_first (λ b. eqb b byte) hay
first_byte-none byte hay h =
    let e : position_or_len (λ b. eqb b byte) hay ≡ length hay =
    position_or_len_is (λ b. eqb b byte) hay (length hay) 0 (omega arith) (λ k lt. is_false _ (h k (omega arith) lt)) (λ lt. absurd (omega (arith, lt)))
    in rw e (sym (take_all (length hay) hay (omega arith)))
