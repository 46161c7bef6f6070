-- User-defined capabilities in the order of their kinds are booleans, then numbers, then strings.
use Rattle.std.proofs.Common.{◌≡◌, ℕ, suc, ◌+◌, ◌-◌, ◌<◌, ◌≤◌, List, [], ◌∷◌, ◌++◌, length, get_or, replicate, map, refl, ap, ◌∙◌, arith, append-nil}
use Rattle.std.proofs.Common.{length-append}
use Rattle.std.specs.List.{flat_map}
use Rattle.std.specs.Prelude.{All}
use Rattle.std.proofs.lemmas.Grind.{flat_map-append}
use Rattle.std.proofs.lemmas.List.{get_or-map, get_or_append_left, get_or-append_right, length-map}
use Rattle.ti_layout.specs.Values.{Content, content_true, content_number, content_text, content_cancelled}
use Rattle.user_extension.specs.UserDefined.{IsValue, Row, kind_rank}
use Rattle.user_extension.specs.Extension.{flags, flag_part, numbers, number_part, texts, text_part}

abbrev pub as_flag : List ℕ → Row
as_flag n = (n, content_true)

abbrev pub as_number : List ℕ × ℕ → Row
as_number p = (p.0, content_number p.1)

abbrev pub as_text : List ℕ × List ℕ → Row
as_text p = (p.0, content_text p.1)

-- booleans, numbers, strings
abbrev pub join : List (List ℕ) → List (List ℕ × ℕ) → List (List ℕ × List ℕ) → List Row
join fs ns ts = map as_flag fs ++ (map as_number ns ++ map as_text ts)

pub record Split (rows : List Row) : Type 0 where
  pub fs : List (List ℕ)
  pub ns : List (List ℕ × ℕ)
  pub ts : List (List ℕ × List ℕ)
  pub whole : rows ≡ join fs ns ts

abbrev pub KindsRise : List Row → Type 0
KindsRise rows = (i j : ℕ) (d : Row) → i < j → j < length rows → kind_rank (get_or rows i d).1 ≤ kind_rank (get_or rows j d).1

blank : Row
blank = ([], content_true)

-- no boolean comes after what is none
no_flags : (rows : List Row) (fs : List (List ℕ)) (rest : List Row) → rows ≡ map as_flag fs ++ rest
    → ((d : Row) → 0 < length rows → 0 < kind_rank (get_or rows 0 d).1) → fs ≡ []
no_flags rows [] rest e h = refl
no_flags rows (f ∷ fs) rest e h =
    let long : 0 < length rows = omega (arith, ap length e) in
    let one = h blank long in
    let zero_is : kind_rank (get_or rows 0 blank).1 ≡ 0 = ap (λ (xs : List Row). kind_rank (get_or xs 0 blank).1) e in
    absurd (omega (arith, one, zero_is))

no_numbers : (rows : List Row) (ns : List (List ℕ × ℕ)) (rest : List Row) → rows ≡ map as_number ns ++ rest
    → ((d : Row) → 0 < length rows → 1 < kind_rank (get_or rows 0 d).1) → ns ≡ []
no_numbers rows [] rest e h = refl
no_numbers rows (n ∷ ns) rest e h =
    let long : 0 < length rows = omega (arith, ap length e) in
    let one = h blank long in
    let one_is : kind_rank (get_or rows 0 blank).1 ≡ 1 = ap (λ (xs : List Row). kind_rank (get_or xs 0 blank).1) e in
    absurd (omega (arith, one, one_is))

put : (u : Row) (c : Content) (rows : List Row) → u.1 ≡ c → IsValue c → KindsRise (u ∷ rows) → Split rows → Split (u ∷ rows)
put u content_true rows e v rise s =
    record { fs = u.0 ∷ s.fs; ns = s.ns; ts = s.ts; whole = ap (λ c. (u.0, c) ∷ rows) e ∙ ap (λ (xs : List Row). (u.0, content_true) ∷ xs) s.whole }
put u (content_number n) rows e v rise s =
    let none : s.fs ≡ [] = no_flags rows s.fs (map as_number s.ns ++ map as_text s.ts) s.whole
    (λ d lt. let r = rise 0 1 d (omega arith) (omega arith) in let k = ap kind_rank e in omega (arith, r, k)) in
    record {
      fs = [];
      ns = (u.0, n) ∷ s.ns;
      ts = s.ts;
      whole = ap (λ c. (u.0, c) ∷ rows) e
          ∙ ap (λ (xs : List Row). (u.0, content_number n) ∷ xs) (s.whole ∙ ap (λ fs. join fs s.ns s.ts) none);
    }
put u (content_text t) rows e v rise s =
    let k = ap kind_rank e in
    let none : s.fs ≡ [] = no_flags rows s.fs (map as_number s.ns ++ map as_text s.ts) s.whole
    (λ d lt. let r = rise 0 1 d (omega arith) (omega arith) in omega (arith, r, k)) in
    let whole = s.whole ∙ ap (λ fs. join fs s.ns s.ts) none in
    let none2 : s.ns ≡ [] = no_numbers rows s.ns (map as_text s.ts) whole (λ d lt. let r = rise 0 1 d (omega arith) (omega arith) in omega (arith, r, k)) in
    record {
      fs = [];
      ns = [];
      ts = (u.0, t) ∷ s.ts;
      whole = ap (λ c. (u.0, c) ∷ rows) e
          ∙ ap (λ (xs : List Row). (u.0, content_text t) ∷ xs) (whole ∙ ap (λ ns. join [] ns s.ts) none2);
    }
put u content_cancelled rows e v rise s = absurd v

pub split : (rows : List Row) → All (λ u. IsValue u.1) rows → KindsRise rows → Split rows
split [] values rise = record { fs = []; ns = []; ts = []; whole = refl }
split (u ∷ rows) values rise =
    put u u.1 rows refl (values 0 u (omega arith)) rise
    (split rows (λ k d lt. values (suc k) d (omega (arith, lt))) (λ i j d lt within. rise (suc i) (suc j) d (omega (arith, lt)) (omega (arith, within))))

-- ---- what the parts give

flags_of_flags : (fs : List (List ℕ)) → flags (map as_flag fs) ≡ replicate (length fs) 1
flags_of_flags [] = refl
flags_of_flags (f ∷ fs) = ap (λ (xs : List ℕ). 1 ∷ xs) (flags_of_flags fs)

flags_of_numbers : (ns : List (List ℕ × ℕ)) → flags (map as_number ns) ≡ []
flags_of_numbers [] = refl
flags_of_numbers (n ∷ ns) = flags_of_numbers ns

flags_of_texts : (ts : List (List ℕ × List ℕ)) → flags (map as_text ts) ≡ []
flags_of_texts [] = refl
flags_of_texts (t ∷ ts) = flags_of_texts ts

numbers_of_flags : (fs : List (List ℕ)) → numbers (map as_flag fs) ≡ []
numbers_of_flags [] = refl
numbers_of_flags (f ∷ fs) = numbers_of_flags fs

numbers_of_numbers : (ns : List (List ℕ × ℕ)) → numbers (map as_number ns) ≡ map (λ p. p.1) ns
numbers_of_numbers [] = refl
numbers_of_numbers (n ∷ ns) = ap (λ (xs : List ℕ). n.1 ∷ xs) (numbers_of_numbers ns)

numbers_of_texts : (ts : List (List ℕ × List ℕ)) → numbers (map as_text ts) ≡ []
numbers_of_texts [] = refl
numbers_of_texts (t ∷ ts) = numbers_of_texts ts

texts_of_flags : (fs : List (List ℕ)) → texts (map as_flag fs) ≡ []
texts_of_flags [] = refl
texts_of_flags (f ∷ fs) = texts_of_flags fs

texts_of_numbers : (ns : List (List ℕ × ℕ)) → texts (map as_number ns) ≡ []
texts_of_numbers [] = refl
texts_of_numbers (n ∷ ns) = texts_of_numbers ns

texts_of_texts : (ts : List (List ℕ × List ℕ)) → texts (map as_text ts) ≡ map (λ p. p.1) ts
texts_of_texts [] = refl
texts_of_texts (t ∷ ts) = ap (λ (xs : List (List ℕ)). t.1 ∷ xs) (texts_of_texts ts)

three : {A : Type 0} (f : Row → List A) (a b c : List Row) (x y z : List A) → flat_map f a ≡ x → flat_map f b ≡ y → flat_map f c ≡ z
    → flat_map f (a ++ (b ++ c)) ≡ x ++ (y ++ z)
three f a b c x y z p q r = flat_map-append f a (b ++ c) ∙ ap (λ t. flat_map f a ++ t) (flat_map-append f b c) ∙ rw (p, q, r) refl

module _ (fs : List (List ℕ)) (ns : List (List ℕ × ℕ)) (ts : List (List ℕ × List ℕ)) where
  pub flags_joined : flags (join fs ns ts) ≡ replicate (length fs) 1
  flags_joined = three (λ u. flag_part u.1) (map as_flag fs) (map as_number ns) (map as_text ts) _ _ _ (flags_of_flags fs) (flags_of_numbers ns)
      (flags_of_texts ts) ∙ append-nil (replicate (length fs) 1)

  pub numbers_joined : numbers (join fs ns ts) ≡ map (λ p. p.1) ns
  numbers_joined = three (λ u. number_part u.1) (map as_flag fs) (map as_number ns) (map as_text ts) _ _ _ (numbers_of_flags fs) (numbers_of_numbers ns)
      (numbers_of_texts ts) ∙ append-nil (map (λ p. p.1) ns)

  pub texts_joined : texts (join fs ns ts) ≡ map (λ p. p.1) ts
  texts_joined =
      three (λ u. text_part u.1) (map as_flag fs) (map as_number ns) (map as_text ts) _ _ _ (texts_of_flags fs) (texts_of_numbers ns) (texts_of_texts ts)

  pub length-join : length (join fs ns ts) ≡ length fs + length ns + length ts
  length-join =
      omega (
        arith,
        length-append (map as_flag fs) (map as_number ns ++ map as_text ts),
        length-append (map as_number ns) (map as_text ts),
        length-map fs as_flag,
        length-map ns as_number,
        length-map ts as_text,
      )

  -- the row at a place
  pub flag_at : (k : ℕ) (d : Row) → k < length fs → get_or (join fs ns ts) k d ≡ as_flag (get_or fs k [])
  flag_at k d lt = get_or_append_left (map as_flag fs) (map as_number ns ++ map as_text ts) d k (omega (arith, lt, length-map fs as_flag))
      ∙ get_or-map as_flag fs k [] d lt

  pub number_at : (k : ℕ) (d : Row) → length fs ≤ k → k - length fs < length ns → get_or (join fs ns ts) k d ≡ as_number (get_or ns (k - length fs) ([], 0))
  number_at k d le lt =
      get_or-append_right (map as_flag fs) (map as_number ns ++ map as_text ts) (length fs) k d (length-map fs as_flag) le
      ∙ get_or_append_left (map as_number ns) (map as_text ts) d (k - length fs) (omega (arith, lt, length-map ns as_number))
      ∙ get_or-map as_number ns (k - length fs) ([], 0) d lt

  pub text_at : (k : ℕ) (d : Row) → length fs + length ns ≤ k → k - (length fs + length ns) < length ts
      → get_or (join fs ns ts) k d ≡ as_text (get_or ts (k - (length fs + length ns)) ([], []))
  text_at k d le lt =
      let same : k - length fs - length ns ≡ k - (length fs + length ns) = omega arith in
      get_or-append_right (map as_flag fs) (map as_number ns ++ map as_text ts) (length fs) k d (length-map fs as_flag) (omega (arith, le))
      ∙ get_or-append_right (map as_number ns) (map as_text ts) (length ns) (k - length fs) d (length-map ns as_number) (omega (arith, le))
      ∙ ap (λ (i : ℕ). get_or (map as_text ts) i d) same ∙ get_or-map as_text ts (k - (length fs + length ns)) ([], []) d lt
