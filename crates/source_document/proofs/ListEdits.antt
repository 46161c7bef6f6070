-- Lists of blocks as edits change them, one by one.
use Rattle.std.proofs.Common.{◌≡◌, ℕ, suc, zero, ◌+◌, ◌-◌, ◌<◌, ◌≤◌, List, [], ◌∷◌, ◌++◌, drop, get_or, length, take, insert, remove, slice_get, slice_set}
use Rattle.std.proofs.Common.{Some, add-one, add-suc, add-zero, refl, sym, ap, ap₂, subst, ◌∙◌, arith}
use Rattle.std.proofs.lemmas.List.{append_assoc, drop-drop, drop_at, drop_more, get_or-drop, length-append, length-drop, length-take-le, same_lists, set_at}
use Rattle.std.proofs.lemmas.List.{take-append-drop, take_at}
use Rattle.std.proofs.lemmas.Option.{same_Some, slice_get-get_or}
use Rattle.std.proofs.Math.Seq.{take-add}
use Rattle.base_meaning.specs.Edits.{Change, EditStep}
use Rattle.base_meaning.specs.declared.edits.Outcome.TheVariants.{Accepted}
use Rattle.source_document.specs.Exchanges.{AtBack, AtFront, EditsLead}

push_in : (front done : List (List ℕ)) (text : List ℕ) (rest : List (List ℕ)) → (front ++ done) ++ text ∷ rest ≡ front ++ (done ++ text ∷ []) ++ rest
push_in front done text rest = simp append_assoc

pub length_front : (old done : List (List ℕ)) (at k : ℕ) → length done ≡ k → at ≤ length old → length (take at old ++ done) ≡ at + k
length_front old done at k n within = omega (arith, length-append (take at old) done, length-take-le at old within, n)

-- one more block is exchanged
pub replaced : (old done : List (List ℕ)) (at k : ℕ) (text : List ℕ) → length done ≡ k → at + k < length old
    → slice_set (take at old ++ done ++ drop (at + k) old) (at + k) text ≡ take at old ++ (done ++ text ∷ []) ++ drop (at + (k + 1)) old
replaced old done at k text n within =
    let more : at + k + 1 ≡ at + (k + 1) = omega arith in
    ap (λ rest. slice_set (take at old ++ done ++ rest) (at + k) text) (drop_more old (at + k) [] within)
    ∙ set_at (take at old ++ done) (get_or old (at + k) []) (drop (at + k + 1) old) text (at + k) (length_front old done at k n (omega (arith, within)))
    ∙ push_in (take at old) done text (drop (at + k + 1) old)
    ∙ ap (λ i. take at old ++ (done ++ text ∷ []) ++ drop i old) more

-- one more is put in
pub inserted : (old done : List (List ℕ)) (at k : ℕ) (text : List ℕ) → length done ≡ k → at ≤ length old
    → insert (take at old ++ done ++ drop at old) (at + k) text ≡ take at old ++ (done ++ text ∷ []) ++ drop at old
inserted old done at k text n within =
    let front = length_front old done at k n within in
    ap₂ (λ (a b : List (List ℕ)). a ++ text ∷ b) (take_at (take at old ++ done) (drop at old) (at + k) front)
    (drop_at (take at old ++ done) (drop at old) (at + k) front)
    ∙ push_in (take at old) done text (drop at old)

-- one more is taken out
pub removed : (old : List (List ℕ)) (at k : ℕ) → at + k < length old
    → remove (take at old ++ drop (at + k) old) at ≡ take at old ++ drop (at + (k + 1)) old
removed old at k within =
    let front = length-take-le at old (omega (arith, within)) in
    let head = get_or old (at + k) [] in
    let rest = drop (at + k + 1) old in
    let more : at + k + 1 ≡ at + (k + 1) = omega arith in
    let one : length (take at old ++ head ∷ []) ≡ suc at = omega (arith, length-append (take at old) (head ∷ []), front) in
    let back : drop (suc at) (take at old ++ drop (at + k) old) ≡ rest =
    ap (λ r. drop (suc at) (take at old ++ r)) (drop_more old (at + k) [] within)
    ∙ ap (drop (suc at)) (sym (append_assoc (take at old) (head ∷ []) rest))
    ∙ drop_at (take at old ++ head ∷ []) rest (suc at) one in
    ap₂ (λ (a b : List (List ℕ)). a ++ b) (take_at (take at old) (drop (at + k) old) at front) (back ∙ ap (λ i. drop i old) more)

-- one more edit leads on
pub lead_more : (n : ℕ) (old before new : List (List ℕ)) (change : Change) → EditsLead n old before → EditStep before change Accepted new
    → EditsLead (n + 1) old new
lead_more n old before new change lead step = subst (λ (k : ℕ). EditsLead k old new) (sym (add-one n)) (change, before, lead, step)

-- edits after edits
pub edits_then : (m n : ℕ) (old mid new : List (List ℕ)) → EditsLead m old mid → EditsLead n mid new → EditsLead (m + n) old new
edits_then m zero old mid new lead same =
    subst (λ (texts : List (List ℕ)). EditsLead (m + 0) old texts) (sym same) (subst (λ (k : ℕ). EditsLead k old mid) (sym (add-zero m)) lead)
edits_then m (suc n) old mid new lead more =
    subst (λ (k : ℕ). EditsLead k old new) (sym (add-suc m n)) (more.0, more.1, edits_then m n old mid more.1 lead more.2, more.3)

-- ---- what is the same at both ends stays

same_front : (n : ℕ) (old new : List (List ℕ)) → n ≤ length old → n ≤ length new → ((at : ℕ) → at < n → slice_get old at ≡ slice_get new at)
    → take n old ≡ take n new
same_front zero old new held there same = refl
same_front (suc n) [] new held there same = absurd (omega (arith, held))
same_front (suc n) (x ∷ xs) [] held there same = absurd (omega (arith, there))
same_front (suc n) (x ∷ xs) (y ∷ ys) held there same =
    let first : Some x ≡ Some y = same 0 (omega arith) in
    ap₂ (λ (b : List ℕ) (bs : List (List ℕ)). b ∷ bs) (same_Some x y first)
    (same_front n xs ys (omega (arith, held)) (omega (arith, there)) (λ at below. same (suc at) (omega (arith, below))))

same_back : (n : ℕ) (old new : List (List ℕ)) → n ≤ length old → n ≤ length new
    → ((at : ℕ) → at < n → slice_get old (length old - 1 - at) ≡ slice_get new (length new - 1 - at)) → drop (length old - n) old ≡ drop (length new - n) new
same_back n old new held there same =
    let m = length old - n in
    let k = length new - n in
    same_lists (drop m old) (drop k new) (omega (arith, length-drop m old, length-drop k new, held, there)) (λ i d below.
    let within : i < n = omega (arith, below, length-drop m old, held) in
    let one : length old - 1 - (n - 1 - i) ≡ m + i = omega (arith, within, held) in
    let other : length new - 1 - (n - 1 - i) ≡ k + i = omega (arith, within, there) in
    let here : slice_get old (m + i) ≡ slice_get new (k + i) =
    ap (slice_get old) (sym one) ∙ same (n - 1 - i) (omega (arith, within)) ∙ ap (slice_get new) other in
    let both : Some (get_or old (m + i) d) ≡ Some (get_or new (k + i) d) =
    sym (slice_get-get_or old (m + i) d (omega (arith, within, held))) ∙ here ∙ slice_get-get_or new (k + i) d (omega (arith, within, there)) in
    get_or-drop m old i d ∙ same_Some (get_or old (m + i) d) (get_or new (k + i) d) both ∙ sym (get_or-drop k new i d)
    )

-- a list is its front, a part and the rest
whole : (front n : ℕ) (texts : List (List ℕ)) → take front texts ++ take n (drop front texts) ++ drop (front + n) texts ≡ texts
whole front n texts = ap (λ (b : List (List ℕ)). b ++ drop (front + n) texts) (sym (take-add front n texts)) ∙ take-append-drop (front + n) texts

length_front_made : (old new : List (List ℕ)) (front n : ℕ) → front ≤ length old → front + n ≤ length new
    → length (take front old ++ take n (drop front new)) ≡ front + n
length_front_made old new front n held there =
    length_front old (take n (drop front new)) front n (length-take-le n (drop front new) (omega (arith, length-drop front new, there))) held

-- what replacements and then removals make
pub made_shorter : (old new mid last : List (List ℕ)) (front back put out : ℕ) → AtFront old new front → AtBack old new front back
    → put ≡ length new - front - back → out ≡ length old - front - back → put ≤ out
    → mid ≡ take front old ++ take put (drop front new) ++ drop (front + put) old
    → last ≡ take (front + put) mid ++ drop (front + put + (out - put)) mid → last ≡ new
made_shorter old new mid last front back put out at_front at_back is_put is_out less e f =
    let q = take front old ++ take put (drop front new) in
    let r = drop (front + put) old in
    let n : length q ≡ front + put = length_front_made old new front put at_front.held (omega (arith, is_put, at_back.there)) in
    let t : take (front + put) mid ≡ q = ap (take (front + put)) e ∙ take_at q r (front + put) n in
    let end_old : front + put + (out - put) ≡ length old - back = omega (arith, is_out, less, at_back.held) in
    let end_new : length new - back ≡ front + put = omega (arith, is_put, at_back.there) in
    let d : drop (front + put + (out - put)) mid ≡ drop (front + put) new =
    ap (drop (front + put + (out - put))) e ∙ sym (drop-drop (out - put) (front + put) (q ++ r)) ∙ ap (drop (out - put)) (drop_at q r (front + put) n)
    ∙ drop-drop (out - put) (front + put) old ∙ ap (λ i. drop i old) end_old
    ∙ same_back back old new (omega (arith, at_back.held)) (omega (arith, at_back.there)) at_back.same ∙ ap (λ i. drop i new) end_new in
    f ∙ ap₂ (λ (a b : List (List ℕ)). a ++ b) t d
    ∙ ap (λ (a : List (List ℕ)). a ++ take put (drop front new) ++ drop (front + put) new) (same_front front old new at_front.held at_front.there at_front.same)
    ∙ whole front put new

-- what replacements and then insertions make
pub made_longer : (old new mid last : List (List ℕ)) (front back put out : ℕ) → AtFront old new front → AtBack old new front back
    → put ≡ length new - front - back → out ≡ length old - front - back → out ≤ put
    → mid ≡ take front old ++ take out (drop front new) ++ drop (front + out) old
    → last ≡ take (front + out) mid ++ take (put - out) (drop (front + out) new) ++ drop (front + out) mid → last ≡ new
made_longer old new mid last front back put out at_front at_back is_put is_out less e f =
    let q = take front old ++ take out (drop front new) in
    let r = drop (front + out) old in
    let n : length q ≡ front + out = length_front_made old new front out at_front.held (omega (arith, is_put, less, at_back.there)) in
    let t : take (front + out) mid ≡ take (front + out) new =
    ap (take (front + out)) e ∙ take_at q r (front + out) n
    ∙ ap (λ (a : List (List ℕ)). a ++ take out (drop front new)) (same_front front old new at_front.held at_front.there at_front.same)
    ∙ sym (take-add front out new) in
    let end_old : front + out ≡ length old - back = omega (arith, is_out, at_back.held) in
    let end_new : length new - back ≡ front + out + (put - out) = omega (arith, is_put, less, at_back.there) in
    let d : drop (front + out) mid ≡ drop (front + out + (put - out)) new =
    ap (drop (front + out)) e ∙ drop_at q r (front + out) n ∙ ap (λ i. drop i old) end_old
    ∙ same_back back old new (omega (arith, at_back.held)) (omega (arith, at_back.there)) at_back.same ∙ ap (λ i. drop i new) end_new in
    f ∙ ap₂ (λ (a b : List (List ℕ)). a ++ take (put - out) (drop (front + out) new) ++ b) t d ∙ whole (front + out) (put - out) new
