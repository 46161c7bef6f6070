-- Numbers spelled one after the other within other bytes: one read, one written over, some cut off
-- or filled up.
use Rattle.std.proofs.Common.{◌≡◌, ◌≢◌, ℕ, suc, ◌+◌, ◌-◌, ◌*◌, ◌<◌, ◌≤◌, drop-cons, List, [], ◌∷◌, ◌++◌, length, take, drop, set, get_or, replicate, refl}
use Rattle.std.proofs.Common.{sym, ap, ◌∙◌, append_assoc, append-nil, arith, inl, inr}
use Rattle.std.proofs.lemmas.Bool.{cases_lt}
use Rattle.std.proofs.lemmas.List.{length-append, length-take, drop_at, set_split, take-append-drop, take_at, take_all}
use Rattle.ti_layout.specs.declared.layout.Format.{Format}
use Rattle.ti_layout.specs.declared.layout.Format.TheVariants.{Legacy, Extended}
use Rattle.ti_layout.specs.Image.{below}
use Rattle.ti_layout.specs.Layout.{absent_mark, number_bytes, number_section, width}
use Rattle.ti_layout.specs.Reading.{number_at}
use Rattle.ti_layout.proofs.Below.{length-below, get_or-below, below-filled}
use Rattle.ti_layout.proofs.Spelled.{length-number_bytes, length-spelled, number_at-first, number_at-here, spelled-append, spelled-absent}
use Rattle.ti_compiled.specs.inside.Bytes.{Replaces, with_length}
use Rattle.ti_compiled.proofs.Resizing.{take-below, set-below}

spelled-cons : (w : Format) (x : ℕ) (xs : List ℕ) → number_section w (x ∷ xs) ≡ number_bytes w x ++ number_section w xs
unfolding number_section
spelled-cons w x xs = refl

pub place_under : (w : Format) (j n : ℕ) → j < n → width w * j + width w ≤ width w * n
place_under Legacy j n lt = omega arith
place_under Extended j n lt = omega arith

module _ (w : Format) (p r : List ℕ) (place : ℕ) (long : length p ≡ place) where
  split_at : (xs : List ℕ) (j x : ℕ) → number_section w (take j xs ++ x ∷ drop (suc j) xs) ≡ number_section w (take j xs)
      ++ (number_bytes w x ++ number_section w (drop (suc j) xs))
  split_at xs j x = spelled-append w (take j xs) (x ∷ drop (suc j) xs) ∙ ap (λ t. number_section w (take j xs) ++ t) (spelled-cons w x (drop (suc j) xs))

  within : (xs : List ℕ) (j x : ℕ) → p ++ (number_section w (take j xs ++ x ∷ drop (suc j) xs) ++ r) ≡ (p ++ number_section w (take j xs))
      ++ (number_bytes w x ++ (number_section w (drop (suc j) xs) ++ r))
  within xs j x =
      let a = number_section w (take j xs) in
      let m = number_bytes w x in
      let d = number_section w (drop (suc j) xs) in
      ap (λ t. p ++ (t ++ r)) (split_at xs j x) ∙ ap (λ t. p ++ t) (append_assoc a (m ++ d) r ∙ ap (λ t. a ++ t) (append_assoc m d r))
      ∙ sym (append_assoc p a (m ++ (d ++ r)))

  -- a number of the list, with the others around it
  around : (b xs : List ℕ) (j : ℕ) → j < length xs → b ≡ p ++ (number_section w xs ++ r) → b ≡ (p ++ number_section w (take j xs))
      ++ (number_bytes w (get_or xs j 0) ++ (number_section w (drop (suc j) xs) ++ r))
  around b xs j lt whole =
      let cut : xs ≡ take j xs ++ get_or xs j 0 ∷ drop (suc j) xs = sym (take-append-drop j xs) ∙ ap (λ t. take j xs ++ t) (drop-cons xs j 0 lt) in
      whole ∙ ap (λ t. p ++ (number_section w t ++ r)) cut ∙ within xs j (get_or xs j 0)

  before : (xs : List ℕ) (j : ℕ) → j < length xs → length (p ++ number_section w (take j xs)) ≡ place + width w * j
  before xs j lt =
      let l = length-take j xs in
      let t : length (take j xs) ≡ j = omega arith in
      let e : length (number_section w (take j xs)) ≡ width w * j = length-spelled w (take j xs) ∙ ap (λ k. width w * k) t in
      let a = length-append p (number_section w (take j xs)) in
      omega arith

  pub number-get : (b xs : List ℕ) (j : ℕ) → get_or xs j 0 ≤ absent_mark w → j < length xs → b ≡ p ++ (number_section w xs ++ r)
      → number_at w (place + width w * j) b ≡ get_or xs j 0
  number-get b xs j fit lt whole =
      let rest = number_section w (drop (suc j) xs) ++ r in
      sym (number_at-first w (place + width w * j) b)
      ∙ ap (number_at w 0) (ap (drop (place + width w * j)) (around b xs j lt whole)
      ∙ drop_at (p ++ number_section w (take j xs)) (number_bytes w (get_or xs j 0) ++ rest) (place + width w * j) (before xs j lt))
      ∙ number_at-here w (get_or xs j 0) rest fit

  pub number-set : (b b' xs : List ℕ) (j n : ℕ) → j < length xs → b ≡ p ++ (number_section w xs ++ r)
      → Replaces b b' (place + width w * j) (width w) (λ _. number_bytes w n) → b' ≡ p ++ (number_section w (set xs j n) ++ r)
  number-set b b' xs j n lt whole replaces =
      replaces (p ++ number_section w (take j xs)) (number_bytes w (get_or xs j 0)) (number_section w (drop (suc j) xs) ++ r) (around b xs j lt whole)
      (before xs j lt) (length-number_bytes w (get_or xs j 0))
      ∙ sym (within xs j n) ∙ ap (λ t. p ++ (number_section w t ++ r)) (sym (set_split xs j n lt))

  -- numbers spelled one after the other that are given place by place
  pub place-set : (b b' : List ℕ) (f g : ℕ → ℕ) (to j n : ℕ) → j < to → g j ≡ n → ((i : ℕ) → i ≢ j → g i ≡ f i) → b ≡ p ++ (number_section w (below f to) ++ r)
      → Replaces b b' (place + width w * j) (width w) (λ _. number_bytes w n) → b' ≡ p ++ (number_section w (below g to) ++ r)
  place-set b b' f g to j n lt here others whole replaces =
      number-set b b' (below f to) j n (let l = length-below f to in omega arith) whole replaces
      ∙ ap (λ t. p ++ (number_section w t ++ r)) (set-below f g to j n lt here others)

  pub place-get : (b : List ℕ) (f : ℕ → ℕ) (to j : ℕ) → f j ≤ absent_mark w → j < to → b ≡ p ++ (number_section w (below f to) ++ r)
      → number_at w (place + width w * j) b ≡ f j
  place-get b f to j fit lt whole =
      let l = length-below f to in
      let at = get_or-below f to j 0 lt in
      number-get b (below f to) j (omega arith) (omega arith) whole ∙ at

at_most : (w : Format) (m n : ℕ) → m ≤ n → width w * m ≤ width w * n
at_most Legacy m n le = omega arith
at_most Extended m n le = omega arith

distance : (w : Format) (m n : ℕ) → m ≤ n → width w * n - width w * m ≡ width w * (n - m)
distance Legacy m n le = omega arith
distance Extended m n le = omega arith

-- numbers cut off, or filled up with the number that means absent
pub resized-spelled : (w : Format) (f : ℕ → ℕ) (m n : ℕ) → ((j : ℕ) → m ≤ j → f j ≡ absent_mark w)
    → with_length (number_section w (below f m)) (width w * n) 255 ≡ number_section w (below f n)
resized-spelled w f m n past =
    let l = length-spelled w (below f m) in
    let k = length-below f m in
    let lk : length (number_section w (below f m)) ≡ width w * m = l ∙ ap (λ x. width w * x) k in
    elim (cases_lt n m) [
      | inl cut ↦
          let u = place_under w n m cut in
          let none : replicate {A = ℕ} (width w * n - length (number_section w (below f m))) 255 ≡ [] =
          ap (λ x. replicate {A = ℕ} x 255) {x = width w * n - length (number_section w (below f m))} {y = 0} (omega arith) in
          let two : below f m ≡ below f n ++ drop n (below f m) =
          sym (take-append-drop n (below f m)) ∙ ap (λ t. t ++ drop n (below f m)) (take-below f m n (omega arith)) in
          let ln = length-spelled w (below f n) ∙ ap (λ x. width w * x) (length-below f n) in
          ap (λ t. take (width w * n) (number_section w (below f m)) ++ t) none ∙ append-nil (take (width w * n) (number_section w (below f m)))
          ∙ ap (λ t. take (width w * n) (number_section w t)) two ∙ ap (take (width w * n)) (spelled-append w (below f n) (drop n (below f m)))
          ∙ take_at (number_section w (below f n)) (number_section w (drop n (below f m))) (width w * n) ln
      | inr more ↦
          let e : m + (n - m) ≡ n = omega arith in
          let d : width w * n - width w * m ≡ width w * (n - m) = distance w m n (omega arith) in
          ap (λ t. t ++ replicate (width w * n - length (number_section w (below f m))) 255)
          (take_all (width w * n) (number_section w (below f m)) (let u = at_most w m n (omega arith) in omega arith))
          ∙ ap (λ x. number_section w (below f m) ++ replicate {A = ℕ} x 255) (ap (λ x. width w * n - x) lk ∙ d)
          ∙ ap (λ t. number_section w (below f m) ++ t) (sym (spelled-absent w (n - m)))
          ∙ sym (spelled-append w (below f m) (replicate (n - m) (absent_mark w)))
          ∙ ap (number_section w) (sym (below-filled f (absent_mark w) m (n - m) (λ j low high. past j low)) ∙ ap (below f) e)
    ]
