-- The texts of an entry, one after the other.
use Rattle.std.proofs.Common.{◌≡◌, ℕ, zero, suc, ◌+◌, ◌<◌, ◌≤◌, List, [], ◌∷◌, ◌++◌, length, drop, Option, Some, refl, sym, ap, ◌∙◌, subst, append_assoc}
use Rattle.std.proofs.Common.{arith, inl, inr, add-one}
use Rattle.std.proofs.lemmas.Bool.{cases_lt}
use Rattle.std.proofs.lemmas.List.{length-append, drop_at, drop-append-le, append-nil}
use Rattle.ti_caps.specs.Tables.{capability}
use Rattle.ti_caps.specs.declared.capability.Kind.TheVariants.{Text}
use Rattle.ti_layout.specs.Values.{Content, content_text, Contents}
use Rattle.ti_layout.specs.Image.{of_kind, text_piece, texts_below}

module _ (c : Contents) where
  pub texts-none : texts_below c 0 ≡ []
  unfolding texts_below
  texts-none = refl

  pub texts-more : (n : ℕ) → texts_below c (n + 1) ≡ texts_below c n ++ text_piece (of_kind c Text n)
  unfolding texts_below
  texts-more n = rw add-one

  -- places without a text add nothing
  pub texts-skipped : (i k : ℕ) → ((j : ℕ) → i ≤ j → j < i + k → text_piece (of_kind c Text j) ≡ []) → texts_below c (i + k) ≡ texts_below c i
  texts-skipped i zero each = ap (texts_below c) (omega arith)
  texts-skipped i (suc k) each =
      ap (texts_below c) {x = i + suc k} {y = (i + k) + 1} (omega arith) ∙ texts-more (i + k)
      ∙ ap (λ t. t ++ text_piece (of_kind c Text (i + k))) (texts-skipped i k (λ j low high. each j low (omega arith)))
      ∙ ap (λ t. texts_below c i ++ t) (each (i + k) (omega arith) (omega arith)) ∙ append-nil (texts_below c i)

  -- fewer texts are not longer
  pub length-texts-le : (n i : ℕ) → i ≤ n → length (texts_below c i) ≤ length (texts_below c n)
  unfolding texts_below
  length-texts-le zero i le = let e : i ≡ 0 = omega arith in rw e (omega arith)
  length-texts-le (suc n) i le =
      elim (cases_lt i (suc n)) [
        | inl below ↦ omega (arith, length-append (texts_below c n) (text_piece (of_kind c Text n)), length-texts-le n i (omega arith))
        | inr high ↦ let e : i ≡ suc n = omega arith in rw e (omega arith)
      ]

  -- what is from the i-th text on begins with it
  drop-texts : (n i : ℕ) → i < n → (rest : List ℕ) × (drop (length (texts_below c i)) (texts_below c n) ≡ text_piece (of_kind c Text i) ++ rest)
  unfolding texts_below
  drop-texts zero i lt = absurd (omega (arith, lt))
  drop-texts (suc n) i lt =
      elim (cases_lt i n) [
        | inl below ↦
            let inner = drop-texts n i below in
            let within = length-texts-le n i (omega arith) in (
              inner.0 ++ text_piece (of_kind c Text n),
              drop-append-le (length (texts_below c i)) (texts_below c n) (text_piece (of_kind c Text n)) within
                  ∙ ap (λ (x : List ℕ). x ++ text_piece (of_kind c Text n)) inner.1
                  ∙ append_assoc (text_piece (of_kind c Text i)) inner.0 (text_piece (of_kind c Text n)),
            )
        | inr le ↦
            let same : i ≡ n = omega arith in (
              [],
              subst (λ (j : ℕ). drop (length (texts_below c j)) (texts_below c n ++ text_piece (of_kind c Text n)) ≡ text_piece (of_kind c Text j) ++ [])
                  (sym same)
                  (drop_at (texts_below c n) (text_piece (of_kind c Text n)) (length (texts_below c n)) refl
                  ∙ sym (append-nil (text_piece (of_kind c Text n)))),
            )
      ]

  -- a text is in the table from its offset on, and its NUL after it
  pub text_there : (n i : ℕ) (t : List ℕ) → i < n → c (capability Text i) ≡ Some (content_text t)
      → (rest : List ℕ) × (drop (length (texts_below c i)) (texts_below c n) ≡ t ++ 0 ∷ rest)
  text_there n i t lt e =
      let d = drop-texts n i lt in
      (d.0, d.1 ∙ ap (λ (o : Option Content). text_piece o ++ d.0) e ∙ append_assoc t (0 ∷ []) d.0)

-- only the texts of the places count
pub texts-same : (c d : Contents) (n : ℕ) → ((i : ℕ) → i < n → text_piece (of_kind c Text i) ≡ text_piece (of_kind d Text i))
    → texts_below c n ≡ texts_below d n
unfolding texts_below
texts-same c d zero each = refl
texts-same c d (suc n) each =
    ap (λ t. t ++ text_piece (of_kind c Text n)) (texts-same c d n (λ i lt. each i (omega arith))) ∙ ap (λ t. texts_below d n ++ t) (each n (omega arith))
