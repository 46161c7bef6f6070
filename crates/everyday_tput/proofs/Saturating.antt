-- A number that stays at a limit, one digit more.
use Rattle.std.proofs.Common.{◌≡◌, ℕ, ◌+◌, ◌*◌, ◌<◌, ◌≤◌, true, false, ltb, refl, arith}
use Rattle.std.specs.Prelude.{min}
use Rattle.std.proofs.Math.Nat.{mul-le-mul_left}
use Rattle.std.proofs.lemmas.Bool.{ltb-true, ltb-false}

le_mul : (x r : ℕ) → 1 ≤ r → x ≤ x * r
le_mul x r h = omega (arith, mul-le-mul_left x h)

below : (m a r d : ℕ) → a ≤ m → min (min (min a m * r) m + d) m ≡ min (a * r + d) m
below m a r d small = let e : min a m ≡ a = omega arith in rw e (omega arith)

above : (m a r d : ℕ) → 1 ≤ r → m < a → min (min (min a m * r) m + d) m ≡ min (a * r + d) m
above m a r d some big = let e : min a m ≡ m = omega arith in rw e (omega (arith, le_mul m r some, le_mul a r some))

pub saturates : (m a r d : ℕ) → 1 ≤ r → min (min (min a m * r) m + d) m ≡ min (a * r + d) m
saturates m a r d some =
    elim (ltb m a) as (λ b. ltb m a ≡ b → min (min (min a m * r) m + d) m ≡ min (a * r + d) m) [
      | true ↦ λ e. above m a r d some (ltb-true _ _ e)
      | false ↦ λ e. below m a r d (ltb-false _ _ e)
    ] refl
