-- The lists of tokens that the acceptor goes through are those that have a tree.
use Rattle.std.proofs.Common.{◌≡◌, ℕ, suc, ◌<◌, true, ◌⊎◌, inl, inr, List, [], ◌∷◌, ◌++◌, length, refl, ap, sym, ◌∙◌, subst, arith}
use Rattle.std.specs.Prelude.{Option, Some, None, nat_lt, if◌then◌else◌}
use Rattle.std.proofs.lemmas.Bool.Decides.{nat_tests}
use Rattle.ti_formats.specs.declared.codes.Token.{Token}
use Rattle.ti_formats.specs.declared.codes.Token.TheVariants.{Literal, Operation, If, Then, Else, EndIf}
use Rattle.ti_formats.specs.declared.codes.Placed.{Placed}
use Rattle.ti_formats.specs.Formats.{FormatTree, nothing, byte, code, group, choice, placed_token, Closes, by_mark, by_end, IsSequence, no_piece, byte_piece}
use Rattle.ti_formats.specs.Formats.{code_piece, conditional_piece, IsConditional, test_alone, test_then, test_then_else, AreTokensOf}
use Rattle.ti_formats.specs.Reading.{Phase, in_test, in_taken}
use Rattle.ti_formats.specs.inside.Formats.{phases_after, refusal}
use Rattle.ti_formats.proofs.Fronts.{chosen}

-- ---- the acceptor over a list of tokens

abbrev pub gone : Option (List Phase) → (List Phase → Option (List Phase)) → Option (List Phase)
gone None f = None
gone (Some phases) f = f phases

unfoldable pub advanced_all : List Phase → List Placed → Option (List Phase)
advanced_all phases [] = Some phases
advanced_all phases (p ∷ tokens) = gone (phases_after phases p.token) (λ opened. advanced_all opened tokens)

abbrev pub Accepts : List Phase → List Placed → Type 0
Accepts phases tokens = (opened : List Phase) × (advanced_all phases tokens ≡ Some opened)

pub gone_on : (o : Option (List Phase)) (f : List Phase → Option (List Phase)) (r : List Phase) → gone o f ≡ Some r →
    (phases : List Phase) × (o ≡ Some phases) × (f phases ≡ Some r)
gone_on None f r h = absurd (cc)
gone_on (Some phases) f r h = (phases, refl, h)

-- the front of what is accepted is accepted
pub accepts_front : (xs ys : List Placed) (phases : List Phase) → Accepts phases (xs ++ ys) →
    (opened : List Phase) × (advanced_all phases xs ≡ Some opened) × Accepts opened ys
unfolding advanced_all
accepts_front [] ys phases all = (phases, refl, all)
accepts_front (p ∷ xs) ys phases (final, all) =
    let (opened, step, rest) = gone_on (phases_after phases p.token) (λ o. advanced_all o (xs ++ ys)) final all in
    let (middle, front, back) = accepts_front xs ys opened (final, rest) in
    (middle, ap (λ a. gone a (λ o. advanced_all o xs)) step ∙ front, back)

-- an accepted token at the end
pub accepts_end : (xs : List Placed) (p : Placed) (phases opened last : List Phase) → advanced_all phases xs ≡ Some opened →
    phases_after opened p.token ≡ Some last → Accepts phases (xs ++ p ∷ [])
unfolding advanced_all
accepts_end [] p phases opened last h step =
    let same : phases ≡ opened = cc h in (last, rw (same, step) refl)
accepts_end (x ∷ xs) p phases opened last h step =
    let (next, first, rest) = gone_on (phases_after phases x.token) (λ o. advanced_all o xs) opened h in
    let (final, all) = accepts_end xs p next opened last rest step in
    (final, ap (λ a. gone a (λ o. advanced_all o (xs ++ p ∷ []))) first ∙ all)

pub refusal_accepted : (tokens : List Placed) (phases opened : List Phase) (rest : List Placed) (stop : Option ℕ) →
    advanced_all phases tokens ≡ Some opened → refusal phases (tokens ++ rest) stop ≡ refusal opened rest stop
unfolding advanced_all refusal
refusal_accepted [] phases opened rest stop h = let same : phases ≡ opened = cc h in ap (λ p. refusal p rest stop) same
refusal_accepted (p ∷ tokens) phases opened rest stop h =
    let (next, first, all) = gone_on (phases_after phases p.token) (λ o. advanced_all o tokens) opened h in
    rw (first, refusal) (refusal_accepted tokens next opened rest stop all)

-- ---- a tree is accepted

few_open : (n : ℕ) → n < 64 → nat_lt n 64 ≡ true
few_open n h = grind (arith, nat_tests)

closing_accepted : (inner after : List Placed) (phase : Phase) (phases : List Phase) → Closes inner after → Accepts phases after
    → Accepts (phase ∷ phases) inner
unfolding advanced_all
closing_accepted inner after phase phases (by_mark place) rest = rest
closing_accepted inner after phase phases by_end rest = (phase ∷ phases, refl)

mutual
  unfolding advanced_all

  pub sequence_accepted : {depth : ℕ} {tokens left : List Placed} {t : FormatTree} → IsSequence depth tokens left t →
      (phases : List Phase) → length phases ≡ depth → Accepts phases left → Accepts phases tokens
  sequence_accepted no_piece phases deep rest = rest
  sequence_accepted (byte_piece place b next) phases deep rest = sequence_accepted next phases deep rest
  sequence_accepted (code_piece place c next) phases deep rest = sequence_accepted next phases deep rest
  sequence_accepted (conditional_piece place {tokens} {after} few inner closes next) phases deep rest =
      let (opened, all) = conditional_accepted inner phases after (ap suc deep) closes (sequence_accepted next phases deep rest) in
      let room : nat_lt (length phases) 64 ≡ true = few_open (length phases) (subst (λ n. n < 64) (sym deep) few) in
      (opened, rw room all)

  pub conditional_accepted : {depth : ℕ} {tokens inner : List Placed} {t : FormatTree} → IsConditional depth tokens inner t →
      (phases : List Phase) (after : List Placed) → suc (length phases) ≡ depth → Closes inner after → Accepts phases after →
      Accepts (in_test ∷ phases) tokens
  conditional_accepted (test_alone {left = inner} test) phases after deep closes rest =
      sequence_accepted test (in_test ∷ phases) deep (closing_accepted inner after in_test phases closes rest)
  conditional_accepted (test_then place {left = inner} tested took) phases after deep closes rest =
      sequence_accepted tested (in_test ∷ phases) deep
      (sequence_accepted took (in_taken ∷ phases) deep (closing_accepted inner after in_taken phases closes rest))
  conditional_accepted (test_then_else place at tested took other) phases after deep closes rest =
      sequence_accepted tested (in_test ∷ phases) deep
      (sequence_accepted took (in_taken ∷ phases) deep (conditional_accepted other phases after deep closes rest))

pub parses_accepted : (tokens : List Placed) (t : FormatTree) → AreTokensOf tokens t → Accepts [] tokens
unfolding advanced_all
parses_accepted tokens t parses = sequence_accepted parses [] refl ([], refl)

-- ---- what is accepted has a tree

-- what is left of a part taken: S, or S `%e` and again what is in a conditional
abbrev IsTaken : ℕ → List Placed → List Placed → Type 0
IsTaken depth tokens left = ((taken : FormatTree) × IsSequence depth tokens left taken)
    ⊎ ((taken rest : FormatTree) × (at : ℕ) × (others : List Placed) × IsSequence depth tokens (placed_token at Else ∷ others) taken
    × IsConditional depth others left rest)

-- what is left of each open conditional, the innermost first, and of the format after them
abbrev IsLeft : List Phase → List Placed → Type 0
IsLeft [] tokens = (t : FormatTree) × IsSequence 0 tokens [] t
IsLeft (in_test ∷ phases) tokens =
    (inner after : List Placed) × (t : FormatTree) × IsConditional (suc (length phases)) tokens inner t × Closes inner after × IsLeft phases after
IsLeft (in_taken ∷ phases) tokens = (inner after : List Placed) × IsTaken (suc (length phases)) tokens inner × Closes inner after × IsLeft phases after

-- pieces in front of a sequence
abbrev Fronts : ℕ → List Placed → List Placed → Type 0
Fronts depth tokens longer = (left : List Placed) (t : FormatTree) → IsSequence depth tokens left t → (u : FormatTree) × IsSequence depth longer left u

fronts_conditional : (depth : ℕ) (tokens longer left : List Placed) (t : FormatTree) → Fronts depth tokens longer → IsConditional depth tokens left t →
    (u : FormatTree) × IsConditional depth longer left u
fronts_conditional depth tokens longer left t front (test_alone {test} tested) =
    let (u, sequence) = front left test tested in (u, test_alone sequence)
fronts_conditional depth tokens longer left t front (test_then place {more} {test} {taken} tested took) =
    let (u, sequence) = front (placed_token place Then ∷ more) test tested in (choice u taken nothing, test_then place sequence took)
fronts_conditional depth tokens longer left t front (test_then_else place at {more} {test} {taken} {rest} tested took other) =
    let (u, sequence) = front (placed_token place Then ∷ more) test tested in (choice u taken rest, test_then_else place at sequence took other)

fronts_left : (phases : List Phase) (tokens longer : List Placed) → Fronts (length phases) tokens longer → IsLeft phases tokens → IsLeft phases longer
fronts_left [] tokens longer front (t, sequence) = front [] t sequence
fronts_left (in_test ∷ phases) tokens longer front (inner, after, t, conditional, closes, rest) =
    let (u, more) = fronts_conditional (suc (length phases)) tokens longer inner t front conditional in (inner, after, u, more, closes, rest)
fronts_left (in_taken ∷ phases) tokens longer front (inner, after, inl (taken, sequence), closes, rest) =
    let (u, more) = front inner taken sequence in (inner, after, inl (u, more), closes, rest)
fronts_left (in_taken ∷ phases) tokens longer front (inner, after, inr (taken, other, at, others, sequence, conditional), closes, rest) =
    let (u, more) = front (placed_token at Else ∷ others) taken sequence in (inner, after, inr (u, other, at, others, more, conditional), closes, rest)

nothing_left : (phases : List Phase) → IsLeft phases []
nothing_left [] = (nothing, no_piece)
nothing_left (in_test ∷ phases) = ([], [], nothing, test_alone no_piece, by_end, nothing_left phases)
nothing_left (in_taken ∷ phases) = ([], [], inl (nothing, no_piece), by_end, nothing_left phases)

-- one token in front
left_before : (place : ℕ) (token : Token) (tokens : List Placed) (phases : List Phase) → Accepts phases (placed_token place token ∷ tokens) →
    ((opened : List Phase) → Accepts opened tokens → IsLeft opened tokens) → IsLeft phases (placed_token place token ∷ tokens)
unfolding advanced_all
left_before place (Literal b) tokens phases accepts before =
    fronts_left phases tokens (placed_token place (Literal b) ∷ tokens) (λ left t s. (byte b t, byte_piece place b s)) (before phases accepts)
left_before place (Operation c) tokens phases accepts before =
    fronts_left phases tokens (placed_token place (Operation c) ∷ tokens) (λ left t s. (code place c t, code_piece place c s)) (before phases accepts)
left_before place If tokens phases (final, accepts) before =
    let (opened, step, rest) = gone_on (if nat_lt (length phases) 64 then Some (in_test ∷ phases) else None) (λ o. advanced_all o tokens) final accepts in
    elim (chosen (nat_lt (length phases) 64) _ _ _ step) [
      | inl (room, is) ↦
          let same : opened ≡ in_test ∷ phases = cc is in
          let few : length phases < 64 = grind (arith, nat_tests) in
          let (inner, after, t, conditional, closes, left) = before (in_test ∷ phases) (final, subst (λ o. advanced_all o tokens ≡ Some final) same rest) in
          fronts_left phases after (placed_token place If ∷ tokens) (λ end u s. (group t u, conditional_piece place few conditional closes s)) left
      | inr (full, is) ↦ absurd (cc is)
    ]
left_before place Then tokens [] (final, accepts) before = absurd (cc)
left_before place Then tokens (in_test ∷ phases) accepts before = then_before (before (in_taken ∷ phases) accepts)
  where
    then_before : IsLeft (in_taken ∷ phases) tokens → IsLeft (in_test ∷ phases) (placed_token place Then ∷ tokens)
    then_before (inner, after, inl (taken, sequence), closes, left) =
        (inner, after, choice nothing taken nothing, test_then place no_piece sequence, closes, left)
    then_before (inner, after, inr (taken, rest, at, others, sequence, conditional), closes, left) =
        (inner, after, choice nothing taken rest, test_then_else place at no_piece sequence conditional, closes, left)
left_before place Then tokens (in_taken ∷ phases) (final, accepts) before = absurd (cc)
left_before place Else tokens [] (final, accepts) before = absurd (cc)
left_before place Else tokens (in_test ∷ phases) (final, accepts) before = absurd (cc)
left_before place Else tokens (in_taken ∷ phases) accepts before =
    let (inner, after, t, conditional, closes, left) = before (in_test ∷ phases) accepts in
    (inner, after, inr (nothing, t, place, tokens, no_piece, conditional), closes, left)
left_before place EndIf tokens [] (final, accepts) before = absurd (cc)
left_before place EndIf tokens (in_test ∷ phases) accepts before =
    (placed_token place EndIf ∷ tokens, tokens, nothing, test_alone no_piece, by_mark place, before phases accepts)
left_before place EndIf tokens (in_taken ∷ phases) accepts before =
    (placed_token place EndIf ∷ tokens, tokens, inl (nothing, no_piece), by_mark place, before phases accepts)

all_left : (tokens : List Placed) (phases : List Phase) → Accepts phases tokens → IsLeft phases tokens
all_left [] phases accepts = nothing_left phases
all_left (p ∷ tokens) phases accepts = left_before p.place p.token tokens phases accepts (λ opened rest. all_left tokens opened rest)

pub accepted_parses : (tokens : List Placed) → Accepts [] tokens → (t : FormatTree) × AreTokensOf tokens t
accepted_parses tokens accepts = all_left tokens [] accepts
