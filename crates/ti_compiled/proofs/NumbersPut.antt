-- Numbers written one after the other over other bytes.
use Rattle.std.proofs.Common.{◌≡◌, ℕ, suc, ◌+◌, ◌*◌, ◌<◌, ◌≤◌, drop-cons, List, [], ◌∷◌, ◌++◌, length, take, drop, get_or, sym, ap, ◌∙◌, append_assoc}
use Rattle.std.proofs.Common.{append-nil, arith}
use Rattle.std.proofs.lemmas.List.{length-append, length-take, length-drop, drop-drop, drop_at, take-append-drop, take_at}
use Rattle.ti_layout.specs.declared.layout.Format.{Format}
use Rattle.ti_layout.specs.declared.layout.Format.TheVariants.{Legacy, Extended}
use Rattle.ti_layout.specs.Layout.{number_bytes, number_section, width}
use Rattle.ti_layout.proofs.Spelled.{length-spelled, place_none, spelled-none, spelled-append, spelled-one}
use Rattle.ti_compiled.specs.inside.Bytes.{Replaces}
use Rattle.ti_compiled.proofs.Numbering.{place_under}

-- numbers before an index are written over the front of a part
abbrev pub PutUpTo : List ℕ → List ℕ → ℕ → Format → List ℕ → ℕ → ℕ → Type 0
PutUpTo old new place w values count at =
    (p m r : List ℕ) → old ≡ p ++ (m ++ r) → length p ≡ place → length m ≡ width w * count → new ≡ p
    ++ (number_section w (take at values) ++ (drop (width w * at) m ++ r))

width_next : (w : Format) (at : ℕ) → width w * at + width w ≡ width w * (at + 1)
width_next Legacy at = omega arith
width_next Extended at = omega arith

take_next : (xs : List ℕ) (at : ℕ) → at < length xs → take (at + 1) xs ≡ take at xs ++ get_or xs at 0 ∷ []
take_next xs at lt =
    let l = length-take at xs in
    let t : length (take at xs) ≡ at = omega arith in
    let a = length-append (take at xs) (get_or xs at 0 ∷ []) in
    let n : length (take at xs ++ get_or xs at 0 ∷ []) ≡ at + 1 = omega arith in
    ap (take (at + 1)) (sym (take-append-drop at xs) ∙ ap (λ t. take at xs ++ t) (drop-cons xs at 0 lt)
    ∙ sym (append_assoc (take at xs) (get_or xs at 0 ∷ []) (drop (suc at) xs)))
    ∙ take_at (take at xs ++ get_or xs at 0 ∷ []) (drop (suc at) xs) (at + 1) n

module _ (old : List ℕ) (place : ℕ) (w : Format) (values : List ℕ) (count : ℕ) where
  pub put_start : PutUpTo old old place w values count 0
  put_start p m r whole long size =
      whole ∙ ap (λ t. p ++ (t ++ (m ++ r))) (sym (spelled-none w)) ∙ ap (λ k. p ++ (number_section w [] ++ (drop k m ++ r))) (sym (place_none w))

  pub put_end : (new : List ℕ) (at : ℕ) → at ≤ count → count ≤ at → PutUpTo old new place w values count at
      → Replaces old new place (width w * count) (λ _. number_section w (take count values))
  put_end new at le ge so_far p m r whole long size =
      let e : at ≡ count = omega arith in
      let none : drop (width w * count) m ≡ [] = ap (drop (width w * count)) (sym (append-nil m)) ∙ drop_at m [] (width w * count) size in
      so_far p m r whole long size ∙ ap (λ k. p ++ (number_section w (take k values) ++ (drop (width w * k) m ++ r))) e
      ∙ ap (λ t. p ++ (number_section w (take count values) ++ (t ++ r))) none

  pub put_more : (v0 v1 : List ℕ) (size at x : ℕ) → size ≡ width w → at < count → count ≤ length values → x ≡ get_or values at 0
      → PutUpTo old v0 place w values count at
      → Replaces v0 v1 (place + size * at) (width w) (λ _. number_bytes w x) → PutUpTo old v1 place w values count (at + 1)
  put_more v0 v1 size at x es lt le ex so_far replaces p m r whole long sized =
      let s = number_section w (take at values) in
      let d = drop (width w * at) m in
      let front = take (width w) d in
      let back = drop (width w) d in
      let u = place_under w at count lt in
      let split : v0 ≡ (p ++ s) ++ (front ++ (back ++ r)) =
      so_far p m r whole long sized ∙ ap (λ t. p ++ (s ++ (t ++ r))) (sym (take-append-drop (width w) d))
      ∙ ap (λ t. p ++ (s ++ t)) (append_assoc front back r) ∙ sym (append_assoc p s (front ++ (back ++ r))) in
      let lt2 : at < length values = omega arith in
      let t = length-take at values in
      let lt1 : length (take at values) ≡ at = omega arith in
      let ls : length s ≡ width w * at = length-spelled w (take at values) ∙ ap (λ k. width w * k) lt1 in
      let a = length-append p s in
      let here : length (p ++ s) ≡ place + size * at = a ∙ ap (λ k. k + length s) long ∙ ap (λ k. place + k) ls ∙ ap (λ k. place + k * at) (sym es) in
      let ld = length-drop (width w * at) m in
      let lf = length-take (width w) d in
      let long_front : length front ≡ width w = omega arith in
      let next : number_bytes w x ≡ number_section w (get_or values at 0 ∷ []) = ap (number_bytes w) ex ∙ sym (spelled-one w (get_or values at 0)) in
      let more : s ++ number_bytes w x ≡ number_section w (take (at + 1) values) =
      ap (λ t. s ++ t) next ∙ sym (spelled-append w (take at values) (get_or values at 0 ∷ [])) ∙ ap (number_section w) (sym (take_next values at lt2)) in
      let rest : back ≡ drop (width w * (at + 1)) m = drop-drop (width w) (width w * at) m ∙ ap (λ k. drop k m) (width_next w at) in
      replaces (p ++ s) front (back ++ r) split here long_front
      ∙ append_assoc p s (number_bytes w x ++ (back ++ r)) ∙ ap (λ t. p ++ t) (sym (append_assoc s (number_bytes w x) (back ++ r)))
      ∙ ap (λ t. p ++ (t ++ (back ++ r))) more ∙ ap (λ t. p ++ (number_section w (take (at + 1) values) ++ (t ++ r))) rest
