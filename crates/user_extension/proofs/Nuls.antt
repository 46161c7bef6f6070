-- The first NUL, by the lanes of a vector that are set.
use Rattle.std.proofs.Common.{◌≡◌, ◌≢◌, ℕ, ◌%◌, ◌^◌, ◌<◌, ◌≤◌, true, false, cond, eqb, List, map, length, take, get_or, Some, sym, ap, ◌∙◌, w64, arith}
use Rattle.std.proofs.Common.{inl, inr}
use Rattle.std.specs.Int.{bit_at, trailing_zeros}
use Rattle.std.proofs.lemmas.Bool.{agree_below, agree_below_at, cases_Bool, cases_lt}
use Rattle.std.proofs.lemmas.List.{get_or-map, get_or-take, get_or_past, length-map, length-take-le}
use Rattle.std.proofs.lemmas.Nat.{mod_below}
use Rattle.std.proofs.lemmas.Nat.Bits.{bit_at-trailing_zeros}
use Rattle.std.proofs.lemmas.Simd.{bit_mask_l, map-map, mask_l-mod}
use lib.Lanes.{mask_l, top}
use Rattle.memchr.specs.Find.{is_byte, IsFirstByte}
use Rattle.user_extension.proofs.NameKeys.{AreBytes}

pub first_of_lanes : (bytes z : List ℕ) (f : ℕ → ℕ) (m : ℕ) → 16 ≤ length bytes → AreBytes bytes
    → agree_below (λ x. top 7 (f x)) (λ x. eqb x 0) 256 ≡ true → z ≡ map f (take 16 bytes) → m ≡ mask_l (map (top 7) z) % 2 ^ 64 → m ≢ 0
    → IsFirstByte (is_byte 0) bytes (Some (trailing_zeros w64 m))
first_of_lanes bytes z f m long are agree lanes mask some =
    let v = take 16 bytes in
    let ms = map (λ x. top 7 (f x)) v in
    let lanes_long : length ms ≡ 16 = length-map v (λ x. top 7 (f x)) ∙ length-take-le 16 bytes long in
    let tops : map (top 7) z ≡ ms = ap (map (top 7)) lanes ∙ map-map (top 7) f v in
    let is : m ≡ mask_l ms = mask ∙ ap (λ l. mask_l l % 2 ^ 64) tops ∙ mask_l-mod ms 64 (omega (arith, lanes_long)) in
    let small : m < 2 ^ 64 = omega (arith, mask, mod_below (mask_l (map (top 7) z)) (2 ^ 64) (omega arith)) in
    let h = bit_at-trailing_zeros w64 m (omega (arith, some)) small in
    let t = trailing_zeros w64 m in
    let bit : (k : ℕ) → bit_at m k ≡ cond (get_or ms k false) 1 0 = λ k. ap (λ n. bit_at n k) is ∙ bit_mask_l ms k in
    let lane : (k : ℕ) → k < 16 → get_or ms k false ≡ eqb (get_or bytes k 0) 0 =
    λ k lt. get_or-map (λ x. top 7 (f x)) v k 0 false (omega (arith, lt, length-take-le 16 bytes long))
    ∙ ap (λ x. top 7 (f x)) (get_or-take 16 bytes k 0 lt) ∙ agree_below_at (λ x. top 7 (f x)) (λ x. eqb x 0) 256 (get_or bytes k 0) agree (are k) in
    let unset : (k : ℕ) → bit_at m k ≡ 1 → get_or ms k false ≡ false → ⊥ =
    λ k one off. let zero_bit : bit_at m k ≡ 0 = bit k ∙ ap (λ b. cond b 1 0) off in omega (arith, one, zero_bit) in
    let within : t < 16 = elim (cases_lt t 16) [
      | inl inside ↦ inside
      | inr outside ↦ absurd (unset t h.1 (get_or_past ms t false (omega (arith, lanes_long, outside))))
    ] in
    let set : eqb (get_or bytes t 0) 0 ≡ true = elim (cases_Bool (get_or ms t false)) [
      | inl on ↦ sym (lane t within) ∙ on
      | inr off ↦ absurd (unset t h.1 off)
    ] in (
      record {
        low = omega arith;
        high = omega (arith, within, long);
        before = λ k from lt nul.
            let on : bit_at m k ≡ 1 = bit k ∙ ap (λ b. cond b 1 0) (lane k (omega (arith, lt, within)) ∙ nul) in
            let off = h.2 k lt in omega (arith, on, off);
      },
      set,
    )
