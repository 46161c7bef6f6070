-- Open conditionals as bits.
use Rattle.std.proofs.Common.{◌≡◌, ℕ, zero, suc, ◌+◌, ◌*◌, ◌-◌, ◌/◌, ◌%◌, ◌^◌, ◌<◌, ◌≤◌, Bool, true, false, ◌⊎◌, inl, inr, ◌∷◌, length, refl, ap, sym, ◌∙◌, arith}
use Rattle.std.specs.Prelude.{Some, None, ◌==◌, nat_lt, if◌then◌else◌}
use Rattle.std.proofs.Math.Nat.{pow-le-pow_right, pow-suc}
use Rattle.std.proofs.lemmas.Bool.Decides.{nat_tests, Decides-eqb}
use Rattle.ti_formats.specs.declared.codes.Token.TheVariants.{If, Then, Else, EndIf}
use Rattle.ti_formats.specs.Reading.{in_test, in_taken}
use Rattle.ti_formats.specs.inside.Formats.{phases_after, phases_of}
use Rattle.ti_formats.proofs.Fronts.{fails}

length-phases_of : (depth taken : ℕ) → length (phases_of depth taken) ≡ depth
unfolding phases_of
length-phases_of zero taken = refl
length-phases_of (suc depth) taken = ap suc (length-phases_of depth (taken / 2))

-- the innermost by its bit, and the others by the bits above it
innermost : (depth taken half : ℕ) (b : Bool) → (taken % 2 == 1) ≡ b → taken / 2 ≡ half →
    phases_of (suc depth) taken ≡ (if b then in_taken else in_test) ∷ phases_of depth half
unfolding phases_of
innermost depth taken half b bit halved =
    ap (λ x. (if x then in_taken else in_test) ∷ phases_of depth (taken / 2)) bit ∙ ap (λ h. (if b then in_taken else in_test) ∷ phases_of depth h) halved

odd : (n : ℕ) → n % 2 ≡ 1 → (n % 2 == 1) ≡ true
odd n h = (Decides-eqb (n % 2) 1).1 h

even : (n : ℕ) → n % 2 ≡ 0 → (n % 2 == 1) ≡ false
even n h = fails (n % 2 == 1) (λ e. let one = (Decides-eqb (n % 2) 1).0 e in omega arith)

few_open : (n m : ℕ) → n ≡ m → m < 64 → nat_lt n 64 ≡ true
few_open n m same few = grind (arith, nat_tests)

many_open : (n m : ℕ) → n ≡ m → m ≡ 64 → nat_lt n 64 ≡ false
many_open n m same many = grind (arith, nat_tests)

-- ---- each mark

pub begun : (depth taken after bits : ℕ) → depth < 64 → after ≡ depth + 1 → bits ≡ taken * 2 → phases_after (phases_of depth taken) If ≡ Some (phases_of after bits)
begun depth taken after bits few next twice =
    let more : phases_of after bits ≡ in_test ∷ phases_of depth taken =
    ap (λ n. phases_of n bits) (omega arith) ∙ innermost depth bits taken false (even bits (omega arith)) (omega arith) in
    ap (λ b. if b then Some (in_test ∷ phases_of depth taken) else None) (few_open _ depth (length-phases_of depth taken) few) ∙ ap Some (sym more)

pub not_begun : (depth taken : ℕ) → depth ≡ 64 → phases_after (phases_of depth taken) If ≡ None
not_begun depth taken many =
    ap (λ b. if b then Some (in_test ∷ phases_of depth taken) else None) (many_open _ depth (length-phases_of depth taken) many)

pub taken_part : (depth taken bits : ℕ) → 0 < depth → taken % 2 ≡ 0 → bits ≡ taken + 1 → phases_after (phases_of depth taken) Then ≡ Some (phases_of depth bits)
taken_part zero taken bits some test more = absurd (omega arith)
taken_part (suc depth) taken bits some test more =
    ap (λ ps. phases_after ps Then) (innermost depth taken (taken / 2) false (even taken test) refl)
    ∙ ap Some (sym (innermost depth bits (taken / 2) true (odd bits (omega arith)) (omega arith)))

pub not_taken : (depth taken : ℕ) → (depth ≡ 0) ⊎ (taken % 2 ≡ 1) → phases_after (phases_of depth taken) Then ≡ None
unfolding phases_of
not_taken zero taken h = refl
not_taken (suc depth) taken (inl none) = absurd (omega arith)
not_taken (suc depth) taken (inr part) = ap (λ ps. phases_after ps Then) (innermost depth taken (taken / 2) true (odd taken part) refl)

pub left_part : (depth taken bits : ℕ) → taken < 2 ^ depth → taken % 2 ≡ 1 → bits ≡ taken - 1 → phases_after (phases_of depth taken) Else ≡ Some (phases_of depth bits)
left_part zero taken bits small part less = absurd (omega arith)
left_part (suc depth) taken bits small part less =
    ap (λ ps. phases_after ps Else) (innermost depth taken (taken / 2) true (odd taken part) refl)
    ∙ ap Some (sym (innermost depth bits (taken / 2) false (even bits (omega arith)) (omega arith)))

pub not_left : (depth taken : ℕ) → taken % 2 ≡ 0 → phases_after (phases_of depth taken) Else ≡ None
unfolding phases_of
not_left zero taken test = refl
not_left (suc depth) taken test = ap (λ ps. phases_after ps Else) (innermost depth taken (taken / 2) false (even taken test) refl)

pub ended : (depth taken after bits : ℕ) → 0 < depth → after ≡ depth - 1 → bits ≡ taken / 2 → phases_after (phases_of depth taken) EndIf ≡ Some (phases_of after bits)
unfolding phases_of
ended zero taken after bits some less half = absurd (omega arith)
ended (suc depth) taken after bits some less half =
    let same : depth ≡ after = omega arith in ap Some (ap (λ n. phases_of n (taken / 2)) same ∙ ap (phases_of after) (sym half))

pub not_ended : (depth taken : ℕ) → depth ≡ 0 → phases_after (phases_of depth taken) EndIf ≡ None
unfolding phases_of
not_ended depth taken none = ap (λ n. phases_after (phases_of n taken) EndIf) none

-- ---- as many bits as conditionals

pub twice-fits : (depth taken : ℕ) → taken < 2 ^ depth → depth < 64 → taken * 2 < 2 ^ 64
twice-fits depth taken small few =
    let most : 2 ^ depth ≤ 2 ^ 63 = pow-le-pow_right {n = 2} (omega arith) {i = depth} {j = 63} (omega arith) in omega (arith, most)

pub twice-bound : (depth taken : ℕ) → taken < 2 ^ depth → taken * 2 < 2 ^ (depth + 1)
twice-bound depth taken small =
    let more : 2 ^ (depth + 1) ≡ 2 ^ depth * 2 = ap (λ n. 2 ^ n) (omega arith) ∙ pow-suc 2 depth in omega (arith, more)

pub part-bound : (depth taken : ℕ) → taken < 2 ^ depth → 0 < depth → taken % 2 ≡ 0 → taken + 1 < 2 ^ depth
part-bound zero taken small some test = absurd (omega arith)
part-bound (suc depth) taken small some test = omega (arith, pow-suc 2 depth)

pub half-bound : (depth taken : ℕ) → taken < 2 ^ depth → 0 < depth → taken / 2 < 2 ^ (depth - 1)
half-bound zero taken small some = absurd (omega arith)
half-bound (suc depth) taken small some =
    let less : 2 ^ (suc depth - 1) ≡ 2 ^ depth = ap (λ n. 2 ^ n) (omega arith) in omega (arith, less, pow-suc 2 depth)
