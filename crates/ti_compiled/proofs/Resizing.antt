-- Lists that are made place by place: cut, filled up, and changed in one place.
use Rattle.std.proofs.Common.{◌≡◌, ◌≢◌, ℕ, ◌+◌, ◌-◌, ◌<◌, ◌≤◌, [], ◌++◌, length, take, set, get_or, replicate, sym, ap, ◌∙◌, append-nil, arith, inl, inr}
use Rattle.std.proofs.lemmas.Bool.{cases_lt, cases_eq}
use Rattle.std.proofs.lemmas.List.{take_all, same_lists, length-take, get_or-take, length-set, get_or-set_same, get_or-set_other}
use Rattle.ti_layout.specs.Image.{below}
use Rattle.ti_layout.proofs.Below.{length-below, get_or-below, below-filled}
use Rattle.ti_compiled.specs.inside.Bytes.{with_length}

module _ (f : ℕ → ℕ) where
  pub take-below : (m n : ℕ) → n ≤ m → take n (below f m) ≡ below f n
  take-below m n le =
      let l = length-below f m in
      let k = length-below f n in
      let t = length-take n (below f m) in
      same_lists (take n (below f m)) (below f n) (omega arith) (λ i d lt.
      let under : i < n = omega arith in
      let within : i < m = omega arith in
      get_or-take n (below f m) i d under ∙ get_or-below f m i d within ∙ sym (get_or-below f n i d under))

  -- resized by the value that the places past the end have
  pub resized-below : (void m n : ℕ) → ((j : ℕ) → m ≤ j → f j ≡ void) → with_length (below f m) n void ≡ below f n
  resized-below void m n past =
      let l = length-below f m in
      elim (cases_lt n m) [
        | inl cut ↦
            let none : replicate {A = ℕ} (n - length (below f m)) void ≡ [] =
            ap (λ k. replicate {A = ℕ} k void) {x = n - length (below f m)} {y = 0} (omega arith) in
            ap (λ t. take n (below f m) ++ t) none ∙ append-nil (take n (below f m)) ∙ take-below m n (omega arith)
        | inr more ↦
            let e : m + (n - m) ≡ n = omega arith in
            ap (λ t. t ++ replicate (n - length (below f m)) void) (take_all n (below f m) (omega arith))
            ∙ ap (λ k. below f m ++ replicate {A = ℕ} (n - k) void) l
            ∙ sym (below-filled f void m (n - m) (λ j low high. past j low)) ∙ ap (below f) e
      ]

-- one place changed
pub set-below : (f g : ℕ → ℕ) (n i v : ℕ) → i < n → g i ≡ v → ((j : ℕ) → j ≢ i → g j ≡ f j) → set (below f n) i v ≡ below g n
set-below f g n i v within here others =
    let l = length-below f n in
    let k = length-below g n in
    let s = length-set (below f n) i v in
    same_lists (set (below f n) i v) (below g n) (omega arith) (λ j d lt.
    let under : j < n = omega arith in
    elim (cases_eq j i) [
      | inl same ↦ ap (λ x. get_or (set (below f n) i v) x d) same ∙ get_or-set_same (below f n) i v d (omega arith) ∙ sym here ∙ ap g (sym same)
          ∙ sym (get_or-below g n j d under)
      | inr other ↦ get_or-set_other (below f n) i j v d other ∙ get_or-below f n j d under ∙ sym (others j other) ∙ sym (get_or-below g n j d under)
    ])
