-- The bytes of the values, as far as a table has as many.
use Rattle.std.proofs.Common.{◌≡◌, ℕ, ◌+◌, ◌≤◌, min, sym, ap, ◌∙◌, arith, inl, inr}
use Rattle.std.proofs.Math.Nat.{min-eq_left, min-eq_right}
use Rattle.std.proofs.lemmas.Bool.{cases_lt}

-- what is added to a part that is held to a limit comes to the same as what is added to the part
pub capped : (a x limit : ℕ) → min (min a limit + x) limit ≡ min (a + x) limit
capped a x limit = elim (cases_lt a limit) [
  | inl below ↦ let part : min a limit ≡ a = min-eq_left (omega (arith, below)) in ap (λ (n : ℕ). min (n + x) limit) part
  | inr full ↦
      let part : min a limit ≡ limit = min-eq_right full in
      let left : min (limit + x) limit ≡ limit = min-eq_right (omega arith) in
      let right : min (a + x) limit ≡ limit = min-eq_right (omega (arith, full)) in ap (λ (n : ℕ). min (n + x) limit) part ∙ left ∙ sym right
]
