-- Numbers as bytes, and read back.
use Rattle.std.proofs.Common.{◌≡◌, ℕ, zero, suc, ◌+◌, ◌*◌, ◌/◌, ◌%◌, ◌<◌, ◌≤◌, List, [], ◌∷◌, ◌++◌, length, get_or, take, drop, replicate, refl, sym, ap}
use Rattle.std.proofs.Common.{◌∙◌, append_assoc, arith, All}
use Rattle.std.proofs.lemmas.List.{length-append, length-drop, get_or-drop, take_all, same_lists, get_or_default}
use Rattle.ti_layout.specs.declared.layout.Format.{Format}
use Rattle.ti_layout.specs.declared.layout.Format.TheVariants.{Legacy, Extended}
use Rattle.ti_layout.specs.Layout.{width, absent_mark, number_bytes, number_section}
use Rattle.ti_layout.specs.Image.{below}
use Rattle.ti_layout.specs.Reading.{number_at, count_in, numbers_in}
use Rattle.ti_layout.proofs.Below.{below-none, below-more, length-below, get_or-below}

abbrev pub IsBytes : List ℕ → Type 0
IsBytes bytes = (i : ℕ) → get_or bytes i 0 < 256

pub length-number_bytes : (w : Format) (n : ℕ) → length (number_bytes w n) ≡ width w
length-number_bytes Legacy n = refl
length-number_bytes Extended n = refl

-- the place of a number after k others
pub place_more : (w : Format) (k : ℕ) → width w * suc k ≡ width w * k + width w
place_more Legacy k = omega arith
place_more Extended k = omega arith

pub place_none : (w : Format) → width w * 0 ≡ 0
place_none Legacy = refl
place_none Extended = refl

-- a number that is counted is within the limit
pub place_within : (w : Format) (k n : ℕ) → k < n / width w → width w * k + width w ≤ n
place_within Legacy k n lt = omega arith
place_within Extended k n lt = omega arith

pub counted : (w : Format) (k : ℕ) → (width w * k) / width w ≡ k
counted Legacy k = omega arith
counted Extended k = omega arith

pub spelled-none : (w : Format) → number_section w [] ≡ []
unfolding number_section
spelled-none w = refl

pub spelled-append : (w : Format) (xs ys : List ℕ) → number_section w (xs ++ ys) ≡ number_section w xs ++ number_section w ys
unfolding number_section
spelled-append w [] ys = refl
spelled-append w (x ∷ xs) ys =
    ap (λ t. number_bytes w x ++ t) (spelled-append w xs ys) ∙ sym (append_assoc (number_bytes w x) (number_section w xs) (number_section w ys))

pub spelled-one : (w : Format) (n : ℕ) → number_section w (n ∷ []) ≡ number_bytes w n
unfolding number_section
spelled-one Legacy n = refl
spelled-one Extended n = refl

pub length-spelled : (w : Format) (ns : List ℕ) → length (number_section w ns) ≡ width w * length ns
unfolding number_section
length-spelled w [] = sym (place_none w)
length-spelled w (n ∷ ns) =
    let l = length-append (number_bytes w n) (number_section w ns) in
    let a = length-number_bytes w n in
    let b = length-spelled w ns in
    let c = place_more w (length ns) in
    omega arith

-- an absent number is spelled only by bytes 255
pub spelled-absent : (w : Format) (k : ℕ) → number_section w (replicate k (absent_mark w)) ≡ replicate (width w * k) 255
unfolding number_section
spelled-absent w zero = ap (λ n. replicate {A = ℕ} n 255) (sym (place_none w))
spelled-absent Legacy (suc k) =
    let e : 2 * suc k ≡ suc (suc (2 * k)) = omega arith in ap (λ t. 255 ∷ 255 ∷ t) (spelled-absent Legacy k) ∙ ap (λ n. replicate {A = ℕ} n 255) (sym e)
spelled-absent Extended (suc k) = let e : 4 * suc k ≡ suc (suc (suc (suc (4 * k)))) = omega arith in
    ap (λ t. 255 ∷ 255 ∷ 255 ∷ 255 ∷ t) (spelled-absent Extended k) ∙ ap (λ n. replicate {A = ℕ} n 255) (sym e)

-- ---- read, and spelled again

-- the first number of bytes, spelled again
pub front_again : (w : Format) (xs : List ℕ) → width w ≤ length xs → IsBytes xs → take (width w) xs ≡ number_bytes w (number_at w 0 xs)
front_again Legacy [] long fits = absurd (omega (arith, long))
front_again Legacy (x ∷ []) long fits = absurd (omega (arith, long))
front_again Legacy (x ∷ y ∷ xs) long fits =
    let x_fits : x < 256 = fits 0 in
    let y_fits : y < 256 = fits 1 in
    let low : (x + 256 * y) % 256 ≡ x = omega arith in
    let high : (x + 256 * y) / 256 % 256 ≡ y = omega arith in
    rw (low, high) refl
front_again Extended [] long fits = absurd (omega (arith, long))
front_again Extended (x ∷ []) long fits = absurd (omega (arith, long))
front_again Extended (x ∷ y ∷ []) long fits = absurd (omega (arith, long))
front_again Extended (x ∷ y ∷ z ∷ []) long fits = absurd (omega (arith, long))
front_again Extended (x ∷ y ∷ z ∷ u ∷ xs) long fits =
    let x_fits : x < 256 = fits 0 in
    let y_fits : y < 256 = fits 1 in
    let z_fits : z < 256 = fits 2 in
    let u_fits : u < 256 = fits 3 in
    let n0 : (x + 256 * (y + 256 * (z + 256 * u))) % 256 ≡ x = omega arith in
    let n1 : (x + 256 * (y + 256 * (z + 256 * u))) / 256 % 256 ≡ y = omega arith in
    let n2 : (x + 256 * (y + 256 * (z + 256 * u))) / 65536 % 256 ≡ z = omega arith in
    let n3 : (x + 256 * (y + 256 * (z + 256 * u))) / 16777216 % 256 ≡ u = omega arith in
    rw (n0, n1, n2, n3) refl

-- a number that is after a front
pub number_at-drop : (w : Format) (at i : ℕ) (b : List ℕ) → number_at w i (drop at b) ≡ number_at w (at + i) b
number_at-drop Legacy at i b =
    let e : at + (i + 1) ≡ (at + i) + 1 = omega arith in
    rw (get_or-drop at b i 0, get_or-drop at b (i + 1) 0, e) refl
number_at-drop Extended at i b =
    let e1 : at + (i + 1) ≡ (at + i) + 1 = omega arith in
    let e2 : at + (i + 2) ≡ (at + i) + 2 = omega arith in
    let e3 : at + (i + 3) ≡ (at + i) + 3 = omega arith in
    rw (get_or-drop at b i 0, get_or-drop at b (i + 1) 0, get_or-drop at b (i + 2) 0, get_or-drop at b (i + 3) 0, e1, e2, e3) refl

pub number_at-first : (w : Format) (at : ℕ) (b : List ℕ) → number_at w 0 (drop at b) ≡ number_at w at b
number_at-first w at b = number_at-drop w at 0 b ∙ ap (λ i. number_at w i b) (omega arith)

pub part-number : (w : Format) (b : List ℕ) (at : ℕ) → IsBytes b → at + width w ≤ length b → take (width w) (drop at b) ≡ number_bytes w (number_at w at b)
part-number w b at fits within =
    front_again w (drop at b) (omega (arith, length-drop at b)) (λ i. rw get_or-drop (fits (at + i)))
    ∙ ap (number_bytes w) (number_at-first w at b)

take-more : (n m : ℕ) (b : List ℕ) → take (n + m) b ≡ take n b ++ take m (drop n b)
take-more zero m b = ap (λ k. take k b) (omega arith)
take-more (suc n) m [] = let e : suc n + m ≡ suc (n + m) = omega arith in rw e (sym (take_all m [] (omega arith)))
take-more (suc n) m (x ∷ b) = let e : suc n + m ≡ suc (n + m) = omega arith in rw e (ap (λ t. x ∷ t) (take-more n m b))

pub spelled-numbers : (w : Format) (b : List ℕ) (n : ℕ) → IsBytes b → width w * n ≤ length b
    → number_section w (below (λ i. number_at w (width w * i) b) n) ≡ take (width w * n) b
spelled-numbers w b zero fits within =
    ap (number_section w) (below-none (λ i. number_at w (width w * i) b)) ∙ spelled-none w ∙ ap (λ k. take k b) (sym (place_none w))
spelled-numbers w b (suc n) fits within =
    let f : ℕ → ℕ = λ i. number_at w (width w * i) b in
    let more = place_more w n in
    let one : below f (suc n) ≡ below f n ++ f n ∷ [] = ap (below f) {x = suc n} {y = n + 1} (omega arith) ∙ below-more f n in
    ap (number_section w) one ∙ spelled-append w (below f n) (f n ∷ [])
    ∙ ap (λ t. t ++ number_section w (f n ∷ [])) (spelled-numbers w b n fits (omega arith))
    ∙ ap (λ t. take (width w * n) b ++ t) (spelled-one w (f n) ∙ sym (part-number w b (width w * n) fits (omega arith)))
    ∙ sym (take-more (width w * n) (width w) b) ∙ ap (λ k. take k b) (sym more)

-- the numbers of a section, spelled again
pub spelled-again : (w : Format) (b : List ℕ) (n : ℕ) → IsBytes b → length b ≡ width w * n → number_section w (numbers_in w b) ≡ b
spelled-again w b n fits long =
    let c : count_in w b ≡ n = ap (λ k. k / width w) long ∙ counted w n in
    ap (λ k. number_section w (below (λ i. number_at w (width w * i) b) k)) c ∙ spelled-numbers w b n fits (omega arith)
    ∙ take_all (width w * n) b (omega arith)

pub length-numbers_in : (w : Format) (b : List ℕ) (n : ℕ) → length b ≡ width w * n → length (numbers_in w b) ≡ n
length-numbers_in w b n long = length-below _ (count_in w b) ∙ ap (λ k. k / width w) long ∙ counted w n

-- ---- spelled, and read back

pub number_at-here : (w : Format) (n : ℕ) (r : List ℕ) → n ≤ absent_mark w → number_at w 0 (number_bytes w n ++ r) ≡ n
number_at-here Legacy n r fits = omega arith
number_at-here Extended n r fits = omega arith

number_at-behind : (w : Format) (n at : ℕ) (r : List ℕ) → number_at w (at + width w) (number_bytes w n ++ r) ≡ number_at w at r
number_at-behind Legacy n at r = let e0 : at + 2 ≡ suc (suc at) = omega arith in let e1 : at + 2 + 1 ≡ suc (suc (at + 1)) = omega arith in rw (e1, e0) refl
number_at-behind Extended n at r =
    let e0 : at + 4 ≡ suc (suc (suc (suc at))) = omega arith in
    let e1 : at + 4 + 1 ≡ suc (suc (suc (suc (at + 1)))) = omega arith in
    let e2 : at + 4 + 2 ≡ suc (suc (suc (suc (at + 2)))) = omega arith in
    let e3 : at + 4 + 3 ≡ suc (suc (suc (suc (at + 3)))) = omega arith in
    rw (e1, e2, e3, e0) refl

pub number_read : (w : Format) (ns : List ℕ) (i : ℕ) → All (λ n. n ≤ absent_mark w) ns → i < length ns
    → number_at w (width w * i) (number_section w ns) ≡ get_or ns i 0
unfolding number_section
number_read w [] i fit within = absurd (omega arith)
number_read w (n ∷ ns) zero fit within =
    ap (λ k. number_at w k (number_bytes w n ++ number_section w ns)) (place_none w) ∙ number_at-here w n (number_section w ns) (fit 0 0 (omega arith))
number_read w (n ∷ ns) (suc i) fit within =
    ap (λ k. number_at w k (number_bytes w n ++ number_section w ns)) (place_more w i) ∙ number_at-behind w n (width w * i) (number_section w ns)
    ∙ number_read w ns i (λ k d lt. fit (suc k) d (omega arith)) (omega arith)

pub numbers-again : (w : Format) (ns : List ℕ) → All (λ n. n ≤ absent_mark w) ns → numbers_in w (number_section w ns) ≡ ns
numbers-again w ns fit =
    let f : ℕ → ℕ = λ i. number_at w (width w * i) (number_section w ns) in
    let c : count_in w (number_section w ns) ≡ length ns = ap (λ k. k / width w) (length-spelled w ns) ∙ counted w (length ns) in
    let l = length-below f (count_in w (number_section w ns)) in
    same_lists (numbers_in w (number_section w ns)) ns (l ∙ c) (λ k d lt.
    let k_lt : k < length ns = omega arith in
    get_or-below f (count_in w (number_section w ns)) k d (omega arith) ∙ number_read w ns k fit k_lt ∙ get_or_default ns k 0 d k_lt)
