-- Bytes put in, taken out and written over, in terms of three lists one after the other.
use Rattle.std.proofs.Common.{◌≡◌, ℕ, ◌+◌, ◌-◌, List, [], ◌∷◌, ◌++◌, length, take, drop, replicate, sym, ap, ◌∙◌, append_assoc, append-nil, arith}
use Rattle.std.proofs.lemmas.List.{length-append, length-take, take_at, drop_at, take_all, take-append-drop, length-drop, length-replicate}
use Rattle.ti_compiled.specs.inside.Bytes.{Replaces, with_bytes_in, with_bytes_out, with_length}

module _ (p m r : List ℕ) (b : List ℕ) (whole : b ≡ p ++ (m ++ r)) where
  front : (n : ℕ) → length p + length m ≡ n → take n b ≡ p ++ m
  front n e = ap (take n) (whole ∙ sym (append_assoc p m r)) ∙ take_at (p ++ m) r n (length-append p m ∙ e)

  back : (n : ℕ) → length p + length m ≡ n → drop n b ≡ r
  back n e = ap (drop n) (whole ∙ sym (append_assoc p m r)) ∙ drop_at (p ++ m) r n (length-append p m ∙ e)

  -- filled up
  pub grown : (at size count fill n : ℕ) → length p ≡ at → length m ≡ size → n ≡ size + count
      → with_bytes_in b (at + size) count fill ≡ p ++ (with_length m n fill ++ r)
  grown at size count fill n a s e =
      let here : length p + length m ≡ at + size = omega arith in
      let same : replicate {A = ℕ} (n - length m) fill ≡ replicate count fill = ap (λ k. replicate {A = ℕ} k fill) (omega arith) in
      let uncut : take n m ≡ m = take_all n m (omega arith) in
      ap (λ t. t ++ replicate count fill ++ drop (at + size) b) (front (at + size) here)
      ∙ ap (λ t. (p ++ m) ++ replicate count fill ++ t) (back (at + size) here)
      ∙ append_assoc (p ++ m) (replicate count fill) r ∙ append_assoc p m (replicate count fill ++ r)
      ∙ ap (λ t. p ++ t) (sym (append_assoc m (replicate count fill) r)
      ∙ sym (ap (λ t. (t ++ replicate (n - length m) fill) ++ r) uncut ∙ ap (λ t. (m ++ t) ++ r) same))

  -- cut
  pub cut_short : (at size count n fill : ℕ) → length p ≡ at → length m ≡ size → n + count ≡ size
      → with_bytes_out b (at + n) count ≡ p ++ (with_length m n fill ++ r)
  cut_short at size count n fill a s e =
      let none : replicate {A = ℕ} (n - length m) fill ≡ [] = ap (λ k. replicate {A = ℕ} k fill) {x = n - length m} {y = 0} (omega arith) in
      let end : at + n + count ≡ at + size = omega arith in
      let l : length (take n m) ≡ n = omega (arith, length-take n m) in
      let split : b ≡ (p ++ take n m) ++ (drop n m ++ r) =
      whole ∙ ap (λ t. p ++ (t ++ r)) (sym (take-append-drop n m)) ∙ ap (λ t. p ++ t) (append_assoc (take n m) (drop n m) r)
      ∙ sym (append_assoc p (take n m) (drop n m ++ r)) in
      let head : take (at + n) b ≡ p ++ take n m =
      ap (take (at + n)) split ∙ take_at (p ++ take n m) (drop n m ++ r) (at + n) (length-append p (take n m) ∙ omega arith) in
      let tail : drop (at + n + count) b ≡ r = ap (λ k. drop k b) end ∙ back (at + size) (omega arith) in
      ap (λ t. t ++ drop (at + n + count) b) head ∙ ap (λ t. (p ++ take n m) ++ t) tail ∙ append_assoc p (take n m) r
      ∙ ap (λ t. p ++ (t ++ r)) (sym (append-nil (take n m)) ∙ ap (λ t. take n m ++ t) (sym none))

pub length-resized : (m : List ℕ) (n x : ℕ) → length (with_length m n x) ≡ n
length-resized m n x = omega (arith, length-append (take n m) (replicate (n - length m) x), length-take n m, length-replicate (n - length m) x)

-- a text and its NUL, written over a part of the same size
pub text_put : (b b1 b2 b3 text : List ℕ) (at size : ℕ) → Replaces b b1 at size (λ m. with_length m (length text + 1) 0)
    → Replaces b1 b2 at (length text) (λ _. text)
    → Replaces b2 b3 (at + length text) 1 (λ _. 0 ∷ []) → Replaces b b3 at size (λ _. text ++ 0 ∷ [])
text_put b b1 b2 b3 text at size sized put ended = λ p m r whole a s.
    let x = with_length m (length text + 1) 0 in
    let long : length x ≡ length text + 1 = length-resized m (length text + 1) 0 in
    let n = length text in
    let t = length-take n x in
    let d = length-drop n x in
    let one : b1 ≡ p ++ (take n x ++ (drop n x ++ r)) =
    sized p m r whole a s ∙ ap (λ t. p ++ (t ++ r)) (sym (take-append-drop n x)) ∙ ap (λ t. p ++ t) (append_assoc (take n x) (drop n x) r) in
    let two : b2 ≡ (p ++ text) ++ (drop n x ++ r) = put p (take n x) (drop n x ++ r) one a (omega arith) ∙ sym (append_assoc p text (drop n x ++ r)) in
    ended (p ++ text) (drop n x) r two (let l = length-append p text in omega arith) (omega arith)
    ∙ append_assoc p text (0 ∷ [] ++ r) ∙ ap (λ t. p ++ t) (sym (append_assoc text (0 ∷ []) r))
