-- Offsets moved one after the other.
use Rattle.std.proofs.Common.{◌≡◌, ◌≢◌, ℕ, ◌+◌, ◌-◌, ◌*◌, ◌<◌, ◌≤◌, cond, if◌then◌else◌, nat_lt, List, ◌++◌, length, sym, ap, ◌∙◌, eq-eqb, arith, inl, inr}
use Rattle.std.proofs.lemmas.Bool.{cases_lt, cases_eq, lt-ltb, le-ltb, ne_eqb}
use Rattle.ti_layout.specs.declared.layout.Format.TheVariants.{Legacy}
use Rattle.ti_layout.specs.Image.{below}
use Rattle.ti_layout.specs.Layout.{number_bytes, number_section}
use Rattle.ti_layout.specs.Reading.{word_at}
use Rattle.ti_layout.proofs.Below.{below-same}
use Rattle.ti_compiled.specs.inside.Bytes.{Replaces, offset_after, moved_later}
use Rattle.ti_compiled.proofs.Numbering.{place-set, place-get}

-- offsets before an index are moved, and those from it on are as they were
abbrev pub mixed : (ℕ → ℕ) → (ℕ → ℕ) → ℕ → ℕ → ℕ
mixed f g at j = if nat_lt j at then g j else f j

pub mixed_low : (f g : ℕ → ℕ) (at j : ℕ) → j < at → mixed f g at j ≡ g j
mixed_low f g at j lt = ap (λ b. cond b (g j) (f j)) (lt-ltb j at lt)

pub mixed_high : (f g : ℕ → ℕ) (at j : ℕ) → at ≤ j → mixed f g at j ≡ f j
mixed_high f g at j le = ap (λ b. cond b (g j) (f j)) (le-ltb j at le)

-- one more offset
pub mixed_more : (f g : ℕ → ℕ) (at j : ℕ) → j ≢ at → mixed f g (at + 1) j ≡ mixed f g at j
mixed_more f g at j other = elim (cases_lt j at) [
  | inl low ↦ mixed_low f g (at + 1) j (omega arith) ∙ sym (mixed_low f g at j low)
  | inr high ↦ mixed_high f g (at + 1) j (omega arith) ∙ sym (mixed_high f g at j high)
]

abbrev pub MovedUpTo : List ℕ → List ℕ → ℕ → ℕ → ℕ → ℕ → ℕ → ℕ → Type 0
MovedUpTo old new place from to removed added at =
    (p r : List ℕ) (f : ℕ → ℕ) → old ≡ p ++ (number_section Legacy (below f to) ++ r) → length p ≡ place → ((j : ℕ) → f j ≤ 65535)
    → new ≡ p ++ (number_section Legacy (below (mixed f (moved_later f from removed added) at) to) ++ r)

pub later_before : (f : ℕ → ℕ) (from removed added j : ℕ) → j < from → moved_later f from removed added j ≡ f j
later_before f from removed added j lt = ap (λ b. cond b (f j) (offset_after removed added (f j))) (lt-ltb j from lt)

pub later_from : (f : ℕ → ℕ) (from removed added j : ℕ) → from ≤ j → moved_later f from removed added j ≡ offset_after removed added (f j)
later_from f from removed added j le = ap (λ b. cond b (f j) (offset_after removed added (f j))) (le-ltb j from le)

pub moved_absent : (removed added n : ℕ) → n ≡ 65535 → offset_after removed added n ≡ 65535
moved_absent removed added n e = ap (λ b. cond b 65535 (n + added - removed)) (eq-eqb n 65535 e)

pub moved_there : (removed added n : ℕ) → n ≢ 65535 → offset_after removed added n ≡ n + added - removed
moved_there removed added n other = ap (λ b. cond b 65535 (n + added - removed)) (ne_eqb n 65535 other)

module _ (old : List ℕ) (place from to removed added : ℕ) where
  pub moved_start : MovedUpTo old old place from to removed added from
  moved_start p r f whole long fit =
      whole ∙ ap (λ t. p ++ (number_section Legacy t ++ r)) (below-same f (mixed f (moved_later f from removed added) from) to
      (λ j lt. sym (elim (cases_lt j from) [
        | inl low ↦ mixed_low f (moved_later f from removed added) from j low ∙ later_before f from removed added j low
        | inr high ↦ mixed_high f (moved_later f from removed added) from j high
      ])))

  pub moved_end : (new : List ℕ) (at : ℕ) → from ≤ at → to ≤ at → MovedUpTo old new place from to removed added at → (p r : List ℕ) (f : ℕ → ℕ)
      → old ≡ p ++ (number_section Legacy (below f to) ++ r) → length p ≡ place
      → ((j : ℕ) → f j ≤ 65535) → new ≡ p ++ (number_section Legacy (below (moved_later f from removed added) to) ++ r)
  moved_end new at _ le so_far p r f whole long fit =
      so_far p r f whole long fit
      ∙ ap (λ t. p ++ (number_section Legacy t ++ r)) (below-same (mixed f (moved_later f from removed added) at) (moved_later f from removed added) to
      (λ j lt. mixed_low f (moved_later f from removed added) at j (omega arith)))

  module _ (v0 : List ℕ) (at offset : ℕ) (low : from ≤ at) (lt : at < to) (so_far : MovedUpTo old v0 place from to removed added at)
      (read : offset ≡ word_at (place + 2 * at) v0) where
    here : (p r : List ℕ) (f : ℕ → ℕ) → old ≡ p ++ (number_section Legacy (below f to) ++ r) → length p ≡ place → ((j : ℕ) → f j ≤ 65535) → f at ≡ offset
    here p r f whole long fit =
        let m = mixed f (moved_later f from removed added) at in
        let same : m at ≡ f at = mixed_high f (moved_later f from removed added) at at (omega arith) in
        let fits = fit at in
        sym (read ∙ place-get Legacy p r place long v0 m to at (omega arith) lt (so_far p r f whole long fit) ∙ same)

    next : (f : ℕ → ℕ) → mixed f (moved_later f from removed added) (at + 1) at ≡ offset_after removed added (f at)
    next f = mixed_low f (moved_later f from removed added) (at + 1) at (omega arith) ∙ later_from f from removed added at low

    pub moved_over : (v1 : List ℕ) (n : ℕ) → offset ≢ 65535 → n ≡ offset + added - removed → Replaces v0 v1 (place + 2 * at) 2 (λ _. number_bytes Legacy n)
        → MovedUpTo old v1 place from to removed added (at + 1)
    moved_over v1 n there e replaces p r f whole long fit =
        let h = here p r f whole long fit in
        let step : mixed f (moved_later f from removed added) (at + 1) at ≡ n =
        next f ∙ ap (offset_after removed added) h ∙ moved_there removed added offset there ∙ sym e in
        place-set Legacy p r place long v0 v1 (mixed f (moved_later f from removed added) at)
        (mixed f (moved_later f from removed added) (at + 1)) to at n lt step
        (λ j other. mixed_more f (moved_later f from removed added) at j other) (so_far p r f whole long fit) replaces

    pub moved_past : offset ≡ 65535 → MovedUpTo old v0 place from to removed added (at + 1)
    moved_past void p r f whole long fit =
        let h = here p r f whole long fit in
        let m = mixed f (moved_later f from removed added) in
        let step : m (at + 1) at ≡ m at at =
        next f ∙ moved_absent removed added (f at) (h ∙ void) ∙ sym void ∙ sym h
        ∙ sym (mixed_high f (moved_later f from removed added) at at (omega arith)) in
        so_far p r f whole long fit ∙ ap (λ t. p ++ (number_section Legacy t ++ r)) (below-same (m at) (m (at + 1)) to (λ j l. elim (cases_eq j at) [
          | inl same ↦ ap (m at) same ∙ sym step ∙ ap (m (at + 1)) (sym same)
          | inr other ↦ sym (mixed_more f (moved_later f from removed added) at j other)
        ]))
